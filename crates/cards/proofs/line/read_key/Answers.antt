use Rattle.std.proofs.Common.{◌≡◌, Some, None, Ok, Err, sym, ap, ◌∙◌, w64, to_z, of_z, arith, rules}
use Rattle.std.proofs.lemmas.Bool.{and_from, and_left, and_right}
use Rattle.std.proofs.lemmas.Option.{cond_some}
use Rattle.refusals.specs.Refusals.{answered, meant}
use Rattle.refusals.specs.declared.Refusal.TheVariants.{BadName}
use Rattle.refusals.proofs.Answered.{answered_err, handed_on, done}
use Rattle.keys.specs.KeyMeans.{name_means, key_means}
use Rattle.cards.specs.Cuts.{before}
use Rattle.cards.specs.Lines.{number}
use Rattle.cards.proofs.Reading.{none_cond, key_plain, key_numbered}
use Rattle.cards.proofs.line.read_key.Goals as goal

pub returns-in_err-name : goal.returns-in_err-name
returns-in_err-name c =
    let bs = c.args.bytes.now in
    let f = c.in_err-name.field-0.0 in
    let p = answered_err _ _ BadName f (sym c.in_err-name.ensures) in
    ap (meant key_means) (handed_on f c.from_residual.result c.from_residual.ensures.1) ∙ ap Err p.1 ∙ sym (key_plain bs c.in_default.ensures ∙ ap (λ b. answered b (bs, None) BadName) p.0)

pub returns-in_default : goal.returns-in_default
returns-in_default c =
    let bs = c.args.bytes.now in
    let p = done _ bs (name_means c.in_ok-name.name) BadName c.in_ok-name.ensures in
    ap (λ n. Ok (n, None)) p.1 ∙ sym (key_plain bs c.in_default.ensures ∙ ap (λ b. answered b (bs, None) BadName) p.0)

pub returns-in_err-name-2 : goal.returns-in_err-name-2
returns-in_err-name-2 c =
    let x = c.in-Some.name.now in
    let y = c.in-Some.rest.now in
    let f = c.in_err-name-2.field-0.0 in
    let p = answered_err _ x BadName f (sym c.in_err-name-2.ensures) in
    ap (meant key_means) (handed_on f c.from_residual-in_err-name-2.result c.from_residual-in_err-name-2.ensures.1) ∙ ap Err p.1
    ∙ sym (key_numbered _ x y c.in-Some.ensures ∙ ap (λ b. answered b (x, Some (number (before 93 y))) BadName) (and_left _ _ p.0))

pub returns-in_err-ok_or : goal.returns-in_err-ok_or
returns-in_err-ok_or c =
    let x = c.in-Some.name.now in
    let y = c.in-Some.rest.now in
    let f = c.in_err-ok_or.field-0.0 in
    let none : c.read_subscript.result ≡ None = grind arith in
    let bad : f ≡ BadName = grind arith in
    let q = none_cond _ (number (before 93 y)) (sym none ∙ c.read_subscript.ensures) in
    ap (meant key_means) (handed_on f c.from_residual-in_err-ok_or.result c.from_residual-in_err-ok_or.ensures.1) ∙ ap Err bad
    ∙ sym (key_numbered _ x y c.in-Some.ensures ∙ ap (λ b. answered b (x, Some (number (before 93 y))) BadName) (and_right _ _ q))

pub returns : goal.returns
returns c =
    let x = c.in-Some.name.now in
    let y = c.in-Some.rest.now in
    let n = c.in_ok-ok_or.field-0 in
    let some : c.read_subscript.result ≡ Some n = grind arith in
    let p = done _ x (name_means c.in_ok-name-2.name) BadName c.in_ok-name-2.ensures in
    let q = cond_some _ (number (before 93 y)) n (sym c.read_subscript.ensures ∙ some) in
    let is : to_z w64 (of_z w64 n) ≡ n = search rules in
    (λ j. Ok (p.1 j, Some ((is ∙ sym q.1) j)))
    ∙ sym (key_numbered _ x y c.in-Some.ensures ∙ ap (λ b. answered b (x, Some (number (before 93 y))) BadName) (and_from _ _ p.0 q.0))
