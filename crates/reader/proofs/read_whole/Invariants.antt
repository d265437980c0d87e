use Rattle.std.proofs.Common.{◌-◌, length}
use Rattle.reader.proofs.Outer.{Sofar}
use Rattle.reader.proofs.read_whole.Given as goal

abbrev pub invariant-loop-reader : goal.invariant-loop-reader
invariant-loop-reader l = Sofar l.initial.reader.cursor.text.now l.reader

abbrev pub decreases-loop-reader : goal.decreases-loop-reader
decreases-loop-reader l = length l.reader.cursor.text.now - l.reader.cursor.pos
