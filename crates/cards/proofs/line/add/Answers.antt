use Rattle.std.proofs.Common.{Err, sym, ap, ◌∙◌, rules}
use Rattle.std.proofs.lemmas.Bool.{and_left, cond-false}
use Rattle.std.proofs.lemmas.Result.{MatchResult-weaker}
use Rattle.refusals.specs.Refusals.{answered}
use Rattle.refusals.specs.declared.Refusal.TheVariants.{BadValue}
use Rattle.refusals.proofs.Answered.{answered_err, handed_on, done}
use Rattle.values.specs.Means.{element_means}
use Rattle.cards.proofs.Reading.{refused_as}
use Rattle.cards.proofs.line.add.Goals as goal

pub returns-in_err-element : goal.returns-in_err-element
returns-in_err-element c =
    let f = c.in_err-element.field-0.0 in
    let p = answered_err _ _ BadValue f (sym c.in_err-element.ensures) in
    let bad = and_left _ _ p.0 in
    record { answer = handed_on f c.from_residual.result c.from_residual.ensures.1 ∙ ap Err p.1 ∙ sym (ap (λ b. answered b tt BadValue) bad); left = sym (cond-false _ _ _ bad) }

pub returns : goal.returns
returns c =
    let p = done _ _ (element_means c.in_ok-element.element) BadValue c.in_ok-element.ensures in
    rw (p.0, ← p.1) (refused_as _ _ _ _ _ _ _ _ c.push.ensures (search (rules, MatchResult-weaker)))
