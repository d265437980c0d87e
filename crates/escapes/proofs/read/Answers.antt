use Rattle.escapes.proofs.Reading.{passed, meant, refused}
use Rattle.escapes.proofs.read.Goals as goal
use Rattle.escapes.proofs.read.Goals.{in-Some, in_default}

pub returns-in_err-next-clause-answer : goal.returns-in_err-next-clause-answer
returns-in_err-next-clause-answer c = refused _ _ _ _ _ _ c.loop-i.invariant c.loop-i-test.true c.in_err-next.ensures _ c.from_residual.ensures.0

pub loop-i-preserved : goal.loop-i-preserved
loop-i-preserved c =
    let s = c.loop-i.invariant in
    let t = c.in_ok-next.ensures in
    elim c.match-meant.branch [
      | in-Some w ↦ rw (w.line-is, w.len-is) (meant _ _ _ _ _ _ _ s c.loop-i-test.true (rw w.in-Some.is at t))
      | in_default w ↦ rw (w.line-is, w.len-is) (passed _ _ _ _ _ _ s c.loop-i-test.true (rw w.in_default.is at t))
    ]
