-- What the reader knows of the open blocks, and what its functions say that read instructions. Assumes nothing.
use Rattle.std.specs.Prelude.{◌≡◌, ℕ, suc, ◌+◌, ◌-◌, ◌<◌, ◌≤◌, max, true, cond, List, [], ◌∷◌, map, length, Some, Ok, Err, Result, ◌≢◌, nat_lt, slice_index}
use Rattle.trees.specs.Tree.{Item, Items}
use Rattle.trees.specs.Laid.{laid, loops, head_size, with_body}
use Rattle.grammar.specs.Rules.{open_blocks}
use Rattle.grammar.specs.Machine.{Head, Stack, Out, want, plain, commands, onward, refused, reacts}
use Rattle.keywords.specs.declared.Keyword.{Keyword}
use Rattle.refusals.specs.declared.Refusal.TheVariants.{UnexpectedByte, UnmatchedBlock}
use Rattle.stacks.specs.Stacked.{top}
use Rattle.trees.specs.declared.Node.{Node}
use Rattle.reader.specs.declared.block.Kind.{Kind}
use Rattle.reader.specs.declared.block.Kind.TheVariants as kind
use Rattle.reader.specs.declared.block.Open.{Open}
use Rattle.reader.specs.declared.cursor.Follow.{Follow}
use Rattle.reader.specs.declared.cursor.State.TheVariants.{Plain}
use Rattle.reader.specs.declared.instruction.Reader.{Reader}
use Rattle.reader.specs.declared.heads.Condition.{Condition}
use Rattle.refusals.specs.declared.fault.Fault.{Fault}
use Rattle.reader.specs.Tables.{Table}
use Rattle.reader.specs.Tables.{Holds, patched}
use Rattle.reader.specs.Scans.{Ready, Limited}
use Rattle.reader.specs.Kinds.{is_each_in, opened_of, mark_of}

-- n FOREACH and JOINEACH blocks are among the open ones, and each block knows how many stand around it
abbrev pub Looped : ℕ → List Open → Type 0
Looped n [] = n ≡ 0
Looped n (o ∷ os) = (n ≡ cond (is_each_in o.kind) (suc o.loops) o.loops) × Looped o.loops os

-- the nodes of the open blocks' instructions, with their expressions, stand before the end n of the table
abbrev pub Armed : ℕ → List Open → Type 0
Armed n [] = Unit {0}
Armed n (o ∷ os) = (o.at + 1 + head_size o.head ≤ n) × Armed n os

-- what holds of the reader between two instructions and inside them
pub record Standing (r : Reader) (bs : List Open) : Type 0 where
  pub looped : Looped r.loops bs
  pub armed : Armed r.cursor.table.len bs
  pub few : length bs ≤ 12

-- the reader has read the items ts
pub record Kept (r : Reader) (bs : List Open) (ts : Items) : Type 0 where
  pub holds : Holds r.cursor.table (laid ts).nodes
  pub marks : map mark_of bs ≡ (laid ts).marks
  pub opened : map opened_of bs ≡ open_blocks ts
  pub stack : r.stack ≡ (laid ts).need
  pub around : r.loops ≡ loops (laid ts).marks

-- where an instruction's functions begin: its `$` is behind, and has no node yet
pub record Entered (r : Reader) (bs : List Open) : Type 0 where
  pub ready : Ready r.cursor
  pub few : r.cursor.table.len + 1 ≤ r.cursor.pos
  pub placed : r.«from» < r.cursor.pos
  pub standing : Standing r bs

-- the outcome of the reading at p, the byte after the instruction's word w: its `$` is at q, and ts stand before it
abbrev pub command_out : List ℕ → Keyword → ℕ → ℕ → Items → Out
command_out text w p q ts = cond (nat_lt p (length text)) (reacts true text p (commands w q ts p (slice_index text p))) (refused UnexpectedByte p)

-- the same where an expression or a word may begin
abbrev pub opening_out : List ℕ → ℕ → ℕ → Items → Out
opening_out text p q ts = onward true text (want (Stack.top q Head.show ts)) p

-- an instruction is read: `out` is the outcome of the reading before it, for its `$` and the items before it
pub record Instruction (out : ℕ → Items → Out) (r : Reader) (bs : List Open) (r' : Reader) (bs' : List Open) : Type 0 where
  pub text : r'.cursor.text ≡ r.cursor.text
  pub outward : r'.cursor.state ≡ Plain
  pub onwards : r.cursor.pos < r'.cursor.pos
  pub few : r'.cursor.table.len ≤ r'.cursor.pos
  pub fewer : r'.cursor.table.nodes ≤ r'.cursor.table.len
  pub standing : Standing r' bs'
  pub reads : (ts : Items) → Kept r bs ts → (t : Item) × Kept r' bs' (Items.then ts t) × (out r.«from» ts ≡ onward true r.cursor.text.now (plain r'.cursor.pos (Items.then ts t)) r'.cursor.pos)

abbrev pub Instructed : (ℕ → Items → Out) → Reader → List Open → Result (Unit {0}) Fault → Reader → List Open → Type 0
Instructed out r bs (Ok u) r' bs' = Instruction out r bs r' bs'
Instructed out r bs (Err f) r' bs' = (ts : Items) → Kept r bs ts → out r.«from» ts ≡ refused f.refusal f.place

-- the reader at the same place, with the table t, the piece or the `$` at i, the need n, m loops and the open blocks os
pub record Became (r : Reader) (t : Table) (i n m : ℕ) (os : List Open) (r' : Reader) : Type 0 where
  pub text : r'.cursor.text ≡ r.cursor.text
  pub state : r'.cursor.state ≡ r.cursor.state
  pub pos : r'.cursor.pos ≡ r.cursor.pos
  pub table : r'.cursor.table ≡ t
  pub «from» : r'.«from» ≡ i
  pub stack : r'.stack ≡ n
  pub loops : r'.loops ≡ m
  pub blocks : r'.blocks.items ≡ os

-- the same but for its table, its need or its open blocks
abbrev pub WithTable : Reader → Table → Reader → Type 0
WithTable r t r' = Became r t r.«from» r.stack r.loops r.blocks.items r'

abbrev pub needed : Reader → ℕ → ℕ
needed r n = max r.stack (n + r.loops)

abbrev pub Needs : Reader → ℕ → Reader → Type 0
Needs r n r' = Became r r.cursor.table r.«from» (needed r n) r.loops r.blocks.items r'

abbrev pub Stood : Reader → Open → Reader → Type 0
Stood r o r' = Became r r.cursor.table r.«from» r.stack r.loops (o ∷ r.blocks.items) r'

-- a block of the kind k opens, whose instruction's node h stands before the condition c
abbrev pub Opens : Reader → Kind → Node → Condition → Reader → Type 0
Opens r k h c r' = Became r (patched r.cursor.table c.at h) r.«from» (needed r c.need) (cond (is_each_in k) (suc r.loops) r.loops) (record { kind = k; place = r.«from»; at = c.at; head = h; loops = r.loops } ∷ r.blocks.items) r'

-- whether another block may open: else the rule about blocks falls due
abbrev pub Roomed : Follow → Reader → Result (Unit {0}) Fault → Type 0
Roomed f r (Ok u) = length r.blocks.items < 12
Roomed f r (Err e) = (12 ≤ length r.blocks.items) × Limited f r.cursor UnmatchedBlock r.«from» e

-- the innermost open block is an IF without an ELSE: else the rule falls due
abbrev pub Chosen : Follow → Reader → Result Open Fault → Type 0
Chosen f r (Ok o) = (top r.blocks.items ≡ Some o) × (o.kind ≡ kind.Choice)
Chosen f r (Err e) = ((o : Open) → top r.blocks.items ≡ Some o → o.kind ≢ kind.Choice) × Limited f r.cursor UnmatchedBlock r.«from» e

-- the size of its block goes into the node of an open block
abbrev pub arm_closed : Table → Open → Table
arm_closed t o = patched t o.at (with_body o.head (t.len - o.at - 1 - head_size o.head))
