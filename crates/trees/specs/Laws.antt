-- The laws of a tree's nodes. Assumes nothing.
use Rattle.std.specs.Prelude.{◌≡◌, ◌*◌, ◌≤◌, [], length}
use Rattle.trees.specs.Tree.{Items, Block, written}
use Rattle.trees.specs.Flat.{flatten_block}
use Rattle.trees.specs.Counts.{nodes_block, need_block}
use Rattle.trees.specs.Laid.{total, laid}

-- with the silent ones a template has at most twice as many nodes as count
abbrev pub TableFits : Type 0
TableFits = (b : Block) → length (flatten_block b) ≤ 2 * nodes_block b

-- the nodes that are not silent are those that count
abbrev pub NodesCounted : Type 0
NodesCounted = (b : Block) → total (flatten_block b) ≡ nodes_block b

-- the items of a block, one after another, lay the block's nodes and leave no block open; the stack need is the block's
abbrev pub LaidInOrder : Type 0
LaidInOrder = (b : Block) → laid (written b Items.none) ≡ record { nodes = flatten_block b; marks = []; need = need_block 0 b }
