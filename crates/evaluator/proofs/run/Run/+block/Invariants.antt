use Rattle.std.proofs.Common.{◌≡◌, length, ◌*◌, ◌+◌, ◌-◌, ◌^◌, ◌<◌, ◌≤◌, None}
use Rattle.evaluator.specs.Blocks.{Left, rest, left_print, Leaves}
use Rattle.evaluator.specs.Runs.{slots, Still}
use Rattle.evaluator.proofs.Composing.{Reaches}
use Rattle.evaluator.proofs.Shapes.{Opened}
use Rattle.evaluator.proofs.Rounds.{Repeating, Rounding}
use Rattle.keys.specs.KeyMeans.{name_means}
use Rattle.meaning.specs.Meaning.{block}
use Rattle.trees.specs.Tree.{Expr, Block}
use Rattle.evaluator.proofs.run.Run.+block.Given as goal

abbrev pub decreases-block : goal.decreases-block
decreases-block g l = 4 * length l.nodes.now

abbrev pub decreases-choose : goal.decreases-choose
decreases-choose g l = 4 * length l.more.now + 1

abbrev pub decreases-each : goal.decreases-each
decreases-each g l = 4 * length l.more.now + 1

abbrev pub decreases-otherwise : goal.decreases-otherwise
decreases-otherwise g l = 4 * length l.more.now + 1

abbrev pub decreases-repeat : goal.decreases-repeat
decreases-repeat g l = 4 * length l.more.now + 1

abbrev pub decreases-statement : goal.decreases-statement
decreases-statement g l = 4 * length l.more.now + 3

-- what is left of the nodes does what is left of the block
abbrev pub invariant-block-loop-node : goal.invariant-block-loop-node
invariant-block-loop-node g l =
    Still l.fn.self l.self × (length l.left ≤ length l.fn.nodes)
    × ((b : Block) → Leaves l.fn.self l.fn.nodes (rest b) →
    (y : Left) × Leaves l.self l.left y
    × Reaches g.S.Store g.P.Printer (block l.fn.self.text.now b) l.fn.self l.self l.fn.store l.store l.fn.printer l.printer (left_print l.fn.self.text.now y)
    × (slots l.self ≡ slots l.fn.self))

abbrev pub decreases-block-loop-node : goal.decreases-block-loop-node
decreases-block-loop-node g l = length l.left

-- the list waits on top, and the rounds from this one on are left
abbrev pub invariant-each-loop-i : goal.invariant-each-loop-i
invariant-each-loop-i g l =
    Still l.fn.self l.self
    × ((e : Expr) (b next : Block) → Opened l.fn.self l.fn.more l.fn.list l.fn.body 1 e b next →
    Rounding g.S.Store g.P.Printer l.fn.head.place (name_means l.fn.head.name, None) l.fn.head.delimiter.now e b next l.i l.fn.self l.self l.fn.store l.store l.fn.printer l.printer)

-- there are more tests left than the limit on steps allows
abbrev pub invariant-repeat-loop-self : goal.invariant-repeat-loop-self
invariant-repeat-loop-self g l =
    Still l.fn.self l.self
    × (l.fn.self.limit < 2 ^ 32 → (e : Expr) (b next : Block) → Opened l.fn.self l.fn.more l.fn.condition l.fn.body 0 e b next →
    Repeating g.S.Store g.P.Printer l.fn.place e b next l.fn.self l.self l.fn.store l.store l.fn.printer l.printer)

abbrev pub decreases-repeat-loop-self : goal.decreases-repeat-loop-self
decreases-repeat-loop-self g l = l.self.limit - l.self.steps
