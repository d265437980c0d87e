-- The machine of eight states. Assumes nothing.
use Rattle.std.specs.Prelude.{◌≡◌, ℕ, ◌+◌, ◌<◌, length, Some, None, Ok, Err, Option, Result, slice_index}
use Rattle.refusals.specs.declared.Refusal.{Refusal}
use Rattle.refusals.specs.declared.Refusal.TheVariants.{UnexpectedByte}
use Rattle.tokens.specs.declared.byte.Class.{Class}
use Rattle.tokens.specs.Bytes.{class}
use Rattle.grammar.specs.Machine.{row}
use Rattle.reader.specs.declared.cursor.State.{State}
use Rattle.reader.specs.declared.cursor.State.TheVariants.{Line, Plain, Comment, Instruction, Text, DollarAtLine, Dollar, Escape}
use Rattle.reader.specs.declared.cursor.Cursor.{Cursor}
use Rattle.refusals.specs.declared.fault.Fault.{Fault}
use Rattle.reader.specs.Tables.{Table}

-- the state after a byte; its columns are Newline, Return, Blank, Dollar, Quote, Backslash, Escaped, Other. None: the byte cannot stand there.
-- From `Dollar` and `DollarAtLine` to `Instruction` the byte is left to the instruction that it begins.
abbrev pub moved : State → Class → Option State
moved Line = row (Some Line) (Some Plain) (Some Line) (Some DollarAtLine) (Some Plain) (Some Plain) (Some Plain) (Some Plain)
moved Plain = row (Some Line) (Some Plain) (Some Plain) (Some Dollar) (Some Plain) (Some Plain) (Some Plain) (Some Plain)
moved Comment = row (Some Line) (Some Comment) (Some Comment) (Some Comment) (Some Comment) (Some Comment) (Some Comment) (Some Comment)
moved Instruction = row None None (Some Instruction) (Some Plain) (Some Text) None (Some Instruction) (Some Instruction)
moved Text = row None (Some Text) (Some Text) (Some Text) (Some Instruction) (Some Escape) (Some Text) (Some Text)
moved DollarAtLine = row None None (Some Comment) (Some Plain) (Some Instruction) None (Some Instruction) (Some Instruction)
moved Dollar = row None None (Some Instruction) (Some Plain) (Some Instruction) None (Some Instruction) (Some Instruction)
moved Escape = row None None None None (Some Text) (Some Text) (Some Text) None

-- a byte over which an instruction goes on
abbrev pub Inner : ℕ → Type 0
Inner b = moved Instruction (class b) ≡ Some Instruction

abbrev pub fault : Refusal → ℕ → Fault
fault n p = record { refusal = n; place = p }

-- the same cursor at the place p
pub record MovedTo (r : Cursor) (p : ℕ) (r' : Cursor) : Type 0 where
  pub text : r'.text ≡ r.text
  pub state : r'.state ≡ r.state
  pub pos : r'.pos ≡ p
  pub table : r'.table ≡ r.table

-- the cursor where it was, in whatever state
pub record InPlace (r r' : Cursor) : Type 0 where
  pub text : r'.text ≡ r.text
  pub pos : r'.pos ≡ r.pos
  pub table : r'.table ≡ r.table

-- the same cursor with the table t
pub record Tabled (r : Cursor) (t : Table) (r' : Cursor) : Type 0 where
  pub text : r'.text ≡ r.text
  pub state : r'.state ≡ r.state
  pub pos : r'.pos ≡ r.pos
  pub table : r'.table ≡ t

-- a step of the machine, or a byte that it refuses
abbrev pub Stepped : Cursor → Class → Result (Unit {0}) Fault → Cursor → Type 0
Stepped r c (Ok u) r' = (moved r.state c ≡ Some r'.state) × InPlace r r'
Stepped r c (Err f) r' = (moved r.state c ≡ None) × (f ≡ fault UnexpectedByte r.pos)

-- the cursor a byte further on, in whatever state
pub record Onwards (r r' : Cursor) : Type 0 where
  pub text : r'.text ≡ r.text
  pub pos : r'.pos ≡ r.pos + 1
  pub table : r'.table ≡ r.table

-- a byte is passed by way of the machine, or refused
abbrev pub Taken : Cursor → Result (Unit {0}) Fault → Cursor → Type 0
Taken r (Ok u) r' = (r.pos < length r.text.now) × (moved r.state (class (slice_index r.text.now r.pos)) ≡ Some r'.state) × Onwards r r'
Taken r (Err f) r' = (f ≡ fault UnexpectedByte r.pos) × (r.pos < length r.text.now → moved r.state (class (slice_index r.text.now r.pos)) ≡ None)
