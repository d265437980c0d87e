use Rattle.escapes.proofs.Reading.{SoFar}
use Rattle.escapes.proofs.read.Given as goal

abbrev pub invariant-loop-i : goal.invariant-loop-i
invariant-loop-i l = SoFar l.fn.line l.line l.i l.len l.within
