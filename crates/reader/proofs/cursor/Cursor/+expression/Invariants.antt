-- The room that is left falls at each bracket; below that, the level rises from operator to operand.
use Rattle.std.proofs.Common.{◌+◌, ◌-◌, ◌*◌, length}
use Rattle.tokens.specs.Operators.{level}
use Rattle.reader.proofs.Joins.{Tailing}
use Rattle.reader.proofs.cursor.Cursor.+expression.Given as goal
use Rattle.reader.proofs.Opens.{Arguing}
use Rattle.reader.proofs.Seqs.{Itemizing, Grouped}

abbrev pub decreases-arguments : goal.decreases-arguments
decreases-arguments l = 64 * l.context.left + 53

abbrev pub decreases-arguments-loop-argument : goal.decreases-arguments-loop-argument
decreases-arguments-loop-argument l = length l.initial.self.text.now - l.self.pos

abbrev pub decreases-call : goal.decreases-call
decreases-call l = 64 * l.context.left + 2

abbrev pub decreases-group : goal.decreases-group
decreases-group l = 64 * l.context.left + 55

abbrev pub decreases-item : goal.decreases-item
decreases-item l = 64 * l.context.left + 53

abbrev pub decreases-items : goal.decreases-items
decreases-items l = 64 * l.context.left + 54

abbrev pub decreases-items-loop-item : goal.decreases-items-loop-item
decreases-items-loop-item l = length l.initial.self.text.now - l.self.pos

abbrev pub decreases-list : goal.decreases-list
decreases-list l = 64 * l.context.left + 3

abbrev pub decreases-list-loop-group : goal.decreases-list-loop-group
decreases-list-loop-group l = length l.initial.self.text.now - l.self.pos

abbrev pub decreases-long : goal.decreases-long
decreases-long l = 64 * l.context.left + (54 - 4 * level l.op)

abbrev pub decreases-name : goal.decreases-name
decreases-name l = 64 * l.context.left + 3

abbrev pub decreases-operand : goal.decreases-operand
decreases-operand l = 64 * l.context.left + 6

abbrev pub decreases-operators : goal.decreases-operators
decreases-operators l = 64 * l.context.left + (56 - 4 * l.level)

abbrev pub decreases-primary : goal.decreases-primary
decreases-primary l = 64 * l.context.left + 4

abbrev pub decreases-round : goal.decreases-round
decreases-round l = 64 * l.context.left + 3

abbrev pub decreases-short : goal.decreases-short
decreases-short l = 64 * l.context.left + (54 - 4 * level l.op)

abbrev pub decreases-signed : goal.decreases-signed
decreases-signed l = 64 * l.context.left + 5

abbrev pub decreases-subscript : goal.decreases-subscript
decreases-subscript l = 64 * l.context.left + 2

abbrev pub decreases-tail : goal.decreases-tail
decreases-tail l = 64 * l.context.left + (55 - 4 * l.level)

abbrev pub decreases-tail-loop-op : goal.decreases-tail-loop-op
decreases-tail-loop-op l = length l.initial.self.text.now - l.self.pos

abbrev pub invariant-arguments-loop-argument : goal.invariant-arguments-loop-argument
invariant-arguments-loop-argument l = Arguing l.context.left l.initial.self l.count l.need l.self

abbrev pub invariant-items-loop-item : goal.invariant-items-loop-item
invariant-items-loop-item l = Itemizing l.context.left l.initial.need l.initial.self l.need l.self

abbrev pub invariant-list-loop-group : goal.invariant-list-loop-group
invariant-list-loop-group l = Grouped l.inner.left l.initial.self l.need l.empty l.self

abbrev pub invariant-tail-loop-op : goal.invariant-tail-loop-op
invariant-tail-loop-op l = Tailing l.level l.context l.initial.operand l.initial.self l.operand l.self
