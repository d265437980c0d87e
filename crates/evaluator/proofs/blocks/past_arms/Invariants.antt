use Rattle.std.proofs.Common.{◌≡◌, ◌++◌, ◌≤◌, length, List}
use Rattle.trees.specs.declared.Node.{Node}
use Rattle.trees.specs.Flat.{flatten_arms}
use Rattle.trees.specs.Tree.{Arms}
use Rattle.evaluator.proofs.Shapes.{ArmsBehind}
use Rattle.evaluator.proofs.blocks.past_arms.Given as goal

abbrev pub invariant-loop-node : goal.invariant-loop-node
invariant-loop-node l =
    (length l.left ≤ length l.fn.nodes)
    × ((r : Arms) (ns : List Node) → l.fn.nodes ≡ flatten_arms r ++ ns → ArmsBehind l.left ns)

abbrev pub decreases-loop-node : goal.decreases-loop-node
decreases-loop-node l = length l.left
