use Rattle.std.proofs.Common.{◌≡◌, ◌+◌, ◌<◌, ◌≤◌, true, sym, ap, ◌∙◌, arith}
use Rattle.refusals.specs.declared.Refusal.TheVariants.{UnexpectedByte}
use Rattle.reader.specs.States.{fault, MovedTo}
use Rattle.reader.specs.Scans.{prefixed_at, digit_at}
use Rattle.reader.proofs.Leaves.{as_refused, digit_first, no_digit, a_digit, decimal_first, octal_first, hexadecimal_first, hexadecimal_stop, numeral_read}
use Rattle.reader.proofs.Places.{start_passed, at_place}
use Rattle.reader.proofs.Passing.{moved_more}
use Rattle.reader.proofs.cursor.Cursor.numeral.Goals as goal
use Rattle.reader.proofs.cursor.Cursor.numeral.Goals.{then-first-ne48, else-first-ne48+then-is_prefixed+else-is_none, else-first-ne48+else-is_prefixed}

pub overflow_sub-first : goal.overflow_sub-first
overflow_sub-first c = (digit_first c.args.self.now.text.now c.args.self.now.pos c.requires.1).1

pub returns-then-is_none : goal.returns-then-is_none
returns-then-is_none c =
    let r = c.args.self.now in
    let second : MovedTo r (r.pos + 1 + 1) c.pass-then-is_prefixed.new.self = moved_more c.pass.ensures c.pass-then-is_prefixed.ensures in
    let x : prefixed_at r.text.now (r.pos + 1) ≡ true = sym (c.if-is_prefixed.ensures ∙ at_place prefixed_at c.pass.ensures) in
    let none : 16 ≤ digit_at r.text.now (r.pos + 1 + 1) = omega (arith, no_digit _ _ _ c.digit.ensures c.if-is_none.ensures, at_place digit_at second) in
    λ g. hexadecimal_stop true r.text.now r.pos _ g (r.pos + 1) c.if-first-ne48.false x none ∙ as_refused _ _ _ (c.refuse.ensures ∙ ap (fault UnexpectedByte) second.pos)

pub returns : goal.returns
returns c =
    let r = c.args.self.now in
    elim c.if-first-ne48.branch [
      | then-first-ne48 w ↦
          numeral_read _ _ (r.pos + 1) r _ _ _ _ _ c.pass.ensures (omega arith)
          (λ g. decimal_first true r.text.now r.pos _ g (r.pos + 1) w.if-first-ne48.true)
          w.digits-value.ensures w.self-is w.value-is
      | else-first-ne48+then-is_prefixed+else-is_none w ↦
          let second : MovedTo r (r.pos + 1 + 1) w.pass-then-is_prefixed.new.self = moved_more c.pass.ensures w.pass-then-is_prefixed.ensures in
          let x : prefixed_at r.text.now (r.pos + 1) ≡ true = sym (w.if-is_prefixed.ensures ∙ at_place prefixed_at c.pass.ensures) in
          let some : digit_at r.text.now (r.pos + 1 + 1) < 16 = omega (arith, a_digit _ _ _ w.digit.ensures w.if-is_none.ensures, at_place digit_at second) in
          numeral_read _ _ (r.pos + 1 + 1) r _ _ _ _ _ second (omega arith)
          (λ g. hexadecimal_first true r.text.now r.pos _ g (r.pos + 1) w.if-first-ne48.false x some)
          w.digits.ensures w.self-is w.value-is
      | else-first-ne48+else-is_prefixed w ↦
          numeral_read _ _ (r.pos + 1) r _ _ _ _ _ c.pass.ensures (omega arith)
          (λ g. octal_first true r.text.now r.pos _ g (r.pos + 1) w.if-first-ne48.false (sym (w.if-is_prefixed.ensures ∙ at_place prefixed_at c.pass.ensures)))
          w.digits-else-is_prefixed.ensures w.self-is w.value-is
    ]

pub pass-requires : goal.pass-requires
pass-requires c = start_passed c.args.self.now c.requires.0.inward c.requires.1 (λ q. cc) (λ o. cc)
