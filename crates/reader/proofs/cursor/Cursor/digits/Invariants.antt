use Rattle.std.proofs.Common.{◌-◌, length}
use Rattle.reader.proofs.Leaves.{Digiting}
use Rattle.reader.proofs.cursor.Cursor.digits.Given as goal

abbrev pub invariant-loop-digit : goal.invariant-loop-digit
invariant-loop-digit l = Digiting l.base l.first l.initial.self l.value l.self

abbrev pub decreases-loop-digit : goal.decreases-loop-digit
decreases-loop-digit l = length l.initial.self.text.now - l.self.pos
