-- What the reader does outside of instructions, and with a whole template. Assumes nothing.
use Rattle.std.specs.Prelude.{◌≡◌, ℕ, ◌+◌, ◌<◌, ◌≤◌, Bool, true, false, cond, List, [], ◌∷◌, Ok, Err, Result, nat_lt}
use Rattle.refusals.specs.declared.Refusal.TheVariants.{UnexpectedByte, UnmatchedBlock}
use Rattle.tokens.specs.declared.byte.Class.{Class}
use Rattle.trees.specs.declared.Node.TheVariants as node
use Rattle.trees.specs.Tree.{Items, from_to}
use Rattle.trees.specs.Laid.{laid}
use Rattle.grammar.specs.Machine.{Config, Stack, Head, want, line, plain, comment, dollar_at_line, dollar, row, onward, reading, accepted, refused}
use Rattle.reader.specs.declared.block.Open.{Open}
use Rattle.reader.specs.declared.cursor.State.{State}
use Rattle.reader.specs.declared.cursor.State.TheVariants.{Line, Plain, Comment, Instruction, Text, DollarAtLine, Dollar, Escape}
use Rattle.reader.specs.declared.Reading.{Reading}
use Rattle.reader.specs.declared.instruction.Reader.{Reader}
use Rattle.refusals.specs.declared.fault.Fault.{Fault}
use Rattle.reader.specs.Tables.{Table}
use Rattle.reader.specs.Tables.{blank, pushed, Holds}
use Rattle.reader.specs.States.{fault}
use Rattle.reader.specs.Blocks.{Became, WithTable, Standing, Kept}

-- at the beginning of a template
pub record Fresh (template : List ℕ) (r : Reader) : Type 0 where
  pub text : r.cursor.text.now ≡ template
  pub state : r.cursor.state ≡ Line
  pub pos : r.cursor.pos ≡ 0
  pub table : r.cursor.table ≡ blank
  pub blocks : r.blocks.items ≡ []
  pub «from» : r.«from» ≡ 0
  pub stack : r.stack ≡ 0
  pub loops : r.loops ≡ 0

-- the table with the open piece from i to p, if it has a byte
abbrev pub pieced : Table → ℕ → ℕ → Table
pieced t i p = cond (nat_lt i p) (pushed t (node.Piece (from_to i p))) t

-- the table, and the beginning of the open piece or the place of the `$`, after a byte of a class at p outside of instructions
abbrev pub table_after : State → Class → ℕ → ℕ → Table → Table
table_after Line cl i p t = t
table_after Plain cl i p t = row (pieced t i p) (pieced t i p) t (pieced t i p) t t t t cl
table_after Comment cl i p t = t
table_after Instruction cl i p t = t
table_after Text cl i p t = t
table_after DollarAtLine cl i p t = row t t t (pushed t (node.Dollar i)) t t t t cl
table_after Dollar cl i p t = row t t t (pushed t (node.Dollar i)) t t t t cl
table_after Escape cl i p t = t

abbrev pub from_after : State → Class → ℕ → ℕ → ℕ
from_after Line cl i p = row p (p + 1) p p p p p p cl
from_after Plain cl i p = row (p + 1) (p + 1) i p i i i i cl
from_after Comment cl i p = i
from_after Instruction cl i p = i
from_after Text cl i p = i
from_after DollarAtLine cl i p = row i i i (p + 1) i i i i cl
from_after Dollar cl i p = row i i i (p + 1) i i i i cl
from_after Escape cl i p = i

abbrev pub Emitted : Reader → Class → Reader → Type 0
Emitted r cl r' = Became r (table_after r.cursor.state cl r.«from» r.cursor.pos r.cursor.table) (from_after r.cursor.state cl r.«from» r.cursor.pos) r.stack r.loops r.blocks.items r'

-- the configuration of the reading outside of instructions
abbrev pub outside : State → ℕ → Items → Config
outside Line i ts = line ts
outside Plain i ts = plain i ts
outside Comment i ts = comment ts
outside Instruction i ts = want (Stack.top i Head.show ts)
outside Text i ts = want (Stack.top i Head.show ts)
outside DollarAtLine i ts = dollar_at_line i ts
outside Dollar i ts = dollar i ts
outside Escape i ts = want (Stack.top i Head.show ts)

-- no more nodes than bytes, an open piece and an open `$` left out; and these begin no later than the cursor stands
abbrev pub Sparse : State → ℕ → ℕ → ℕ → Type 0
Sparse Line i p n = (i ≤ p) × (n ≤ p)
Sparse Plain i p n = (i ≤ p) × (n ≤ i)
Sparse Comment i p n = (i ≤ p) × (n ≤ p)
Sparse Instruction i p n = ⊥
Sparse Text i p n = ⊥
Sparse DollarAtLine i p n = (i + 1 ≡ p) × (n ≤ i)
Sparse Dollar i p n = (i + 1 ≡ p) × (n ≤ i)
Sparse Escape i p n = ⊥

pub record Outer (r : Reader) (bs : List Open) : Type 0 where
  pub sparse : Sparse r.cursor.state r.«from» r.cursor.pos r.cursor.table.len
  pub fewer : r.cursor.table.nodes ≤ r.cursor.table.len
  pub standing : Standing r bs

-- on from the items ts
pub record Advances (r : Reader) (bs : List Open) (r' : Reader) (bs' : List Open) : Type 0 where
  pub text : r'.cursor.text ≡ r.cursor.text
  pub outer : Outer r' bs'
  pub onwards : r.cursor.pos < r'.cursor.pos
  pub reads : (ts : Items) → Kept r bs ts → (ts' : Items) × Kept r' bs' ts' × (onward true r.cursor.text.now (outside r.cursor.state r.«from» ts) r.cursor.pos ≡ onward true r.cursor.text.now (outside r'.cursor.state r'.«from» ts') r'.cursor.pos)

abbrev pub Advanced : Reader → List Open → Result (Unit {0}) Fault → Reader → List Open → Type 0
Advanced r bs (Ok u) r' bs' = Advances r bs r' bs'
Advanced r bs (Err f) r' bs' = (ts : Items) → Kept r bs ts → onward true r.cursor.text.now (outside r.cursor.state r.«from» ts) r.cursor.pos ≡ refused f.refusal f.place

-- whether a template may end in this state, and its table then
abbrev pub may_end : State → Bool
may_end Line = true
may_end Plain = true
may_end Comment = true
may_end Instruction = false
may_end Text = false
may_end DollarAtLine = false
may_end Dollar = false
may_end Escape = false

abbrev pub table_end : State → ℕ → ℕ → Table → Table
table_end Line i p t = t
table_end Plain i p t = pieced t i p
table_end Comment i p t = t
table_end Instruction i p t = t
table_end Text i p t = t
table_end DollarAtLine i p t = t
table_end Dollar i p t = t
table_end Escape i p t = t

abbrev pub unclosed_in : List Open → Result (Unit {0}) Fault
unclosed_in [] = Ok tt
unclosed_in (o ∷ os) = Err (fault UnmatchedBlock o.place)

pub record Ended (bs : List Open) (r : Reader) (o : Result (Unit {0}) Fault) (r' : Reader) : Type 0 where
  pub answer : o ≡ cond (may_end r.cursor.state) (unclosed_in bs) (Err (fault UnexpectedByte r.cursor.pos))
  pub after : WithTable r (table_end r.cursor.state r.«from» r.cursor.pos r.cursor.table) r'

-- a whole template: the items that are read, with their nodes and their need, or the refusal
pub record Reads (text : List ℕ) (o : Reading) : Type 0 where
  pub items : Items
  pub accepts : reading true text ≡ accepted items
  pub holds : Holds o.table (laid items).nodes
  pub needs : o.stack ≡ (laid items).need

abbrev pub Read : List ℕ → Result Reading Fault → Type 0
Read text (Ok o) = Reads text o
Read text (Err f) = reading true text ≡ refused f.refusal f.place
