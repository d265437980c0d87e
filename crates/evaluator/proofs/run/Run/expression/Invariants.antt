use Rattle.std.proofs.Common.{length}
use Rattle.evaluator.proofs.Walking.{Kept}
use Rattle.evaluator.proofs.run.Run.expression.Given as goal

-- what is left of the nodes does what all of them do
abbrev pub invariant-loop-node : goal.invariant-loop-node
invariant-loop-node g l = Kept (g.S.Store.names l.fn.store) l.fn.self l.self l.fn.nodes l.left

abbrev pub decreases-loop-node : goal.decreases-loop-node
decreases-loop-node g l = length l.left
