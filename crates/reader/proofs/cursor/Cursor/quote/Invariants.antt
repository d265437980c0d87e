use Rattle.std.proofs.Common.{◌-◌, length}
use Rattle.reader.proofs.Leaves.{Quoting}
use Rattle.reader.proofs.cursor.Cursor.quote.Given as goal

abbrev pub invariant-loop-bytes : goal.invariant-loop-bytes
invariant-loop-bytes l = Quoting l.from l.initial.self l.self l.bytes

abbrev pub decreases-loop-bytes : goal.decreases-loop-bytes
decreases-loop-bytes l = length l.initial.self.text.now - l.self.pos
