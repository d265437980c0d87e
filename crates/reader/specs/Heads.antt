-- What the functions say that read the instructions of blocks. Assumes nothing.
use Rattle.std.specs.Prelude.{◌≡◌, ℕ, ◌+◌, ◌<◌, ◌≤◌, Bool, true, false, ◌⊎◌, List, ◌∷◌, length, Ok, Err, Result, slice_index}
use Rattle.tokens.specs.Bytes.{word}
use Rattle.trees.specs.declared.Quote.{Quote}
use Rattle.trees.specs.declared.Span.{Span}
use Rattle.trees.specs.declared.Node.TheVariants as node
use Rattle.trees.specs.Tree.{Expr, Opening, Item, Items}
use Rattle.trees.specs.Flat.{flatten}
use Rattle.trees.specs.Counts.{need}
use Rattle.grammar.specs.Machine.{Head, Stack, want, aft, naming, plain, loop_head, onward, refused}
use Rattle.reader.specs.declared.cursor.Cursor.{Cursor}
use Rattle.reader.specs.declared.cursor.Inside.{Inside}
use Rattle.reader.specs.declared.cursor.Inside.TheVariants as inside
use Rattle.reader.specs.declared.cursor.State.TheVariants.{Instruction, Plain}
use Rattle.reader.specs.declared.heads.Condition.{Condition}
use Rattle.refusals.specs.declared.fault.Fault.{Fault}
use Rattle.reader.specs.Tables.{Grew}
use Rattle.reader.specs.States.{MovedTo}
use Rattle.reader.specs.Reads.{Wanting, Stops}
use Rattle.reader.specs.Statements.{Finished}

-- the expression of a block's instruction is read; a node holds the place of the instruction's own
pub record Conditions (text : List ℕ) (i : Inside) (r : Cursor) (c : Condition) (r' : Cursor) : Type 0 where
  pub tree : Expr
  pub here : c.at ≡ r.table.len
  pub told : c.need ≡ need tree
  pub small : c.need ≤ r'.pos
  pub sized : c.size + r.table.len + 1 ≡ r'.table.len
  pub same_text : r'.text ≡ r.text
  pub inward : r'.state ≡ Instruction
  pub onwards : r.pos < r'.pos
  pub few : r'.table.len ≤ r'.pos
  pub fewer : r'.table.nodes ≤ r'.table.len
  pub grew : Grew r.table (node.End ∷ flatten tree) r'.table
  pub stops : Stops 1 text r'.pos
  pub runs : (k : Stack) → Wanting text r.pos 1 (record { inside = i; left = 12 }) k → onward true text (want k) r.pos ≡ onward true text (aft tree k) r'.pos

abbrev pub Conditioned : List ℕ → Inside → Cursor → Result Condition Fault → Cursor → Type 0
Conditioned text i r (Ok c) r' = Conditions text i r c r'
Conditioned text i r (Err f) r' = (k : Stack) → Wanting text r.pos 1 (record { inside = i; left = 12 }) k → onward true text (want k) r.pos ≡ refused f.refusal f.place

-- no byte of a word stands at p
abbrev pub AtWord : List ℕ → ℕ → Type 0
AtWord text p = p < length text → word (slice_index text p) ≡ false

-- the name of a loop is read
pub record LoopNames (text : List ℕ) (r : Cursor) (n : Span ℕ) (r' : Cursor) : Type 0 where
  pub same : MovedTo r r'.pos r'
  pub onwards : r.pos < n.«from»
  pub some : n.«from» < n.to
  pub ends : n.to ≡ r'.pos
  pub runs : (q j : ℕ) (e : Bool) (ts : Items) → onward true text (naming q j e ts) r.pos ≡ onward true text (want (Stack.top q (loop_head e j n.«from» n.to) ts)) r'.pos

abbrev pub Named : List ℕ → Cursor → Result (Span ℕ) Fault → Cursor → Type 0
Named text r (Ok n) r' = LoopNames text r n r'
Named text r (Err f) r' = (q j : ℕ) (e : Bool) (ts : Items) → onward true text (naming q j e ts) r.pos ≡ refused f.refusal f.place

-- the delimiter of a JOINEACH is read, with the `$` behind it
pub record Delimits (text : List ℕ) (r : Cursor) (d : Quote) (r' : Cursor) : Type 0 where
  pub same_text : r'.text ≡ r.text
  pub outward : r'.state ≡ Plain
  pub table : r'.table ≡ r.table
  pub onwards : r.pos < r'.pos
  pub «from» : d.span.«from» ≤ r'.pos
  pub to : d.span.to ≤ r'.pos
  pub runs : (q j x y : ℕ) (e : Expr) (ts : Items) → onward true text (aft e (Stack.top q (Head.joineach j x y) ts)) r.pos ≡ onward true text (plain r'.pos (Items.then ts (Item.opens q j (Opening.joineach x y e d)))) r'.pos

abbrev pub Delimited : List ℕ → Cursor → Result Quote Fault → Cursor → Type 0
Delimited text r (Ok d) r' = Delimits text r d r'
Delimited text r (Err f) r' = Stops 1 text r.pos → (q j x y : ℕ) (e : Expr) (ts : Items) → onward true text (aft e (Stack.top q (Head.joineach j x y) ts)) r.pos ≡ refused f.refusal f.place

-- the test of an instruction is read, with the `$` behind it; or the test or what stands behind it is refused
abbrev pub Tested : List ℕ → Cursor → Result Condition Fault → Cursor → Type 0
Tested text r (Ok c) r' = (m : Cursor) × Conditions text inside.Top r c m × Finished text m (Ok tt) r'
Tested text r (Err f) r' = Conditioned text inside.Top r (Err f) r' ⊎ ((c : Condition) × (m : Cursor) × Conditions text inside.Top r c m × Finished text m (Err f) r')

-- the name of a loop is read, and its expression behind that; or one of them is refused
abbrev pub Headed : List ℕ → Inside → Cursor → Result (Span ℕ × Condition) Fault → Cursor → Type 0
Headed text i r (Ok p) r' = (m : Cursor) × LoopNames text r p.0 m × Conditions text i m p.1 r'
Headed text i r (Err f) r' = Named text r (Err f) r' ⊎ ((n : Span ℕ) × (m : Cursor) × LoopNames text r n m × Conditioned text i m (Err f) r')
