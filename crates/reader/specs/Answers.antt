-- What is promised of the reading of a template. Assumes nothing.
use Rattle.std.specs.Prelude.{◌≡◌, ℕ, ◌+◌, ◌*◌, ◌<◌, ◌≤◌, List, [], length, take, Ok, Err, Result, ◌≢◌}
use Rattle.refusals.specs.declared.Refusal.TheVariants.{TemplateTooLong, UnexpectedByte}
use Rattle.trees.specs.Tree.{Items, Block, written}
use Rattle.trees.specs.Flat.{flatten_block}
use Rattle.trees.specs.Counts.{nodes_block, need_block}
use Rattle.grammar.specs.Rules.{Rule, refusal_of, broken_rules}
use Rattle.grammar.specs.Grammar.{Template}
use Rattle.grammar.specs.Laws.{Viable, Dead, NothingDue, Earliest}
use Rattle.reader.specs.declared.Reading.{Reading}
use Rattle.refusals.specs.declared.fault.Fault.{Fault}

-- The text is a template that breaks no rule: the one tree that it spells, the nodes of that tree in the table (all of them, if they are
-- at most 2,048, as they are in a template of 1,024 nodes that count), and the counts that it needs.
pub record ReadAs (text : List ℕ) (o : Reading) : Type 0 where
  pub tree : Block
  pub short : length text ≤ 4096
  pub template : Template text (written tree Items.none)
  pub lawful : broken_rules (written tree Items.none) (length text) ≡ []
  pub only : (b : Block) → Template text (written b Items.none) → b ≡ tree
  pub kept : take (length (flatten_block tree)) o.table.slots ≡ take 2048 (flatten_block tree)
  pub length_is : o.table.len ≡ length (flatten_block tree)
  pub fits : length (flatten_block tree) ≤ 2 * nodes_block tree
  pub nodes_are : o.table.nodes ≡ nodes_block tree
  pub stack_is : o.stack ≡ need_block 0 tree

-- number 3: with this byte no template goes on, before it some does, and no rule fell due before it
pub record Unexpected (text : List ℕ) (p : ℕ) : Type 0 where
  pub inside : p ≤ length text
  pub viable : Viable text p
  pub dead : Dead text p
  pub nothing_due : NothingDue text p

-- numbers 4 to 8: the rule is broken at the place q and falls due at a byte with which the text still begins a template; whatever template
-- goes on from there breaks no rule sooner
pub record Breaks (text : List ℕ) (r : Rule) (q : ℕ) : Type 0 where
  pub due : ℕ
  pub inside : due ≤ length text
  pub viable : Viable text (due + 1)
  pub earliest : (other : List ℕ) (items : Items) → take (due + 1) other ≡ take (due + 1) text → Template other items → Earliest (record { rule = r; place = q; due = due }) (broken_rules items (length other))

-- why a text is refused
pub data RefusedAs (text : List ℕ) (f : Fault) : Type 0 where
  too_long : f.refusal ≡ TemplateTooLong → f.place ≡ 4096 → 4096 < length text → RefusedAs text f
  unexpected : length text ≤ 4096 → f.refusal ≡ UnexpectedByte → Unexpected text f.place → RefusedAs text f
  breaks : length text ≤ 4096 → (r : Rule) → f.refusal ≡ refusal_of r → Breaks text r f.place → RefusedAs text f

-- the promise: a tree exactly for the texts of at most 4,096 bytes that are templates and break no rule, else the refusal that the rules fix
pub record Refuses (text : List ℕ) (f : Fault) : Type 0 where
  pub why : RefusedAs text f
  pub none : length text ≤ 4096 → (ts : Items) → Template text ts → broken_rules ts (length text) ≢ []

abbrev pub Answered : List ℕ → Result Reading Fault → Type 0
Answered text (Ok o) = ReadAs text o
Answered text (Err f) = Refuses text f
