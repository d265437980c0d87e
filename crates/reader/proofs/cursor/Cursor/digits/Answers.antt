use Rattle.std.proofs.Common.{◌∙◌, arith}
use Rattle.reader.proofs.Places.{digit_passed}
use Rattle.reader.proofs.Leaves.{digiting_more}
use Rattle.reader.proofs.cursor.Cursor.digits.Goals as goal

pub loop-digit-preserved : goal.loop-digit-preserved
loop-digit-preserved c =
    let h = c.in-Some.ensures in
    digiting_more _ _ c.in-Some.digit _ _ _ _ _ c.loop-digit.invariant c.pass.ensures h.1 (omega (arith, h.0, h.1)) (omega arith) (c.appended-value.ensures _ c.loop-digit.invariant.told)

pub pass-requires : goal.pass-requires
pass-requires c =
    digit_passed c.loop-digit.self (c.loop-digit.invariant.same.state ∙ c.requires.1) (omega (arith, c.in-Some.ensures.0))
