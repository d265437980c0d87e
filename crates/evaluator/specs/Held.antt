-- What is known of a template that was read. Assumes nothing.
use Rattle.std.specs.Prelude.{◌≡◌, ℕ, List}
use Rattle.grammar.specs.Laws.{Faultless}
use Rattle.trees.specs.Counts.{need_block}
use Rattle.trees.specs.declared.Node.{Node}
use Rattle.trees.specs.Flat.{flatten_block}
use Rattle.trees.specs.Tree.{Block, Items, written}

-- the text is a template that breaks no rule, and these are the nodes of the tree that it spells, and the stack that it needs
pub record Held (text : List ℕ) (nodes : List Node) (stack : ℕ) : Type 0 where
  pub tree : Block
  pub faultless : Faultless text (written tree Items.none)
  pub nodes_are : nodes ≡ flatten_block tree
  pub stack_is : stack ≡ need_block 0 tree
