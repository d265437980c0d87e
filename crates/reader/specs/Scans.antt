-- What the cursor's functions say of the bytes they pass. Assumes nothing.
use Rattle.std.specs.Prelude.{◌≡◌, ℕ, ◌+◌, ◌<◌, ◌≤◌, Bool, true, false, cond, ◌&&◌, ◌||◌, List, length, Some, None, Ok, Err, Option, Result, ◌==◌, nat_le, nat_lt, slice_get, slice_index}
use Rattle.refusals.specs.declared.Refusal.{Refusal}
use Rattle.refusals.specs.declared.Refusal.TheVariants.{UnexpectedByte}
use Rattle.tokens.specs.declared.operator.Op.{Op}
use Rattle.tokens.specs.declared.operator.Half.{Half}
use Rattle.tokens.specs.declared.operator.Half.TheVariants as halved
use Rattle.tokens.specs.declared.byte.Start.{Start}
use Rattle.tokens.specs.declared.byte.Start.TheVariants as at
use Rattle.tokens.specs.declared.byte.After.{After}
use Rattle.tokens.specs.declared.byte.After.TheVariants as past
use Rattle.tokens.specs.declared.byte.Separator.{Separator}
use Rattle.tokens.specs.declared.byte.Separator.TheVariants.{Comma, Semicolon}
use Rattle.tokens.specs.declared.byte.Shape.{Shape}
use Rattle.tokens.specs.declared.byte.Shape.TheVariants.{Round, Square, Curly}
use Rattle.tokens.specs.Bytes.{start, after, blank, word, digit_value}
use Rattle.tokens.specs.Operators.{level, is_wide, doubled, alone}
use Rattle.trees.specs.declared.Quote.{Quote}
use Rattle.trees.specs.Tree.{from_to}
use Rattle.grammar.specs.Machine.{Digits, nought, prefix, digits, in_number, in_text, quoted, Numbered, Quoted as Goal, onward, refused, first_digit}
use Rattle.grammar.specs.Grammar.{Every}
use Rattle.reader.specs.declared.cursor.Cursor.{Cursor}
use Rattle.reader.specs.declared.cursor.Inside.{Inside}
use Rattle.reader.specs.declared.cursor.Inside.TheVariants as inside
use Rattle.reader.specs.declared.cursor.Follow.{Follow}
use Rattle.reader.specs.declared.cursor.Follow.TheVariants as follow
use Rattle.reader.specs.declared.cursor.Numeral.{Numeral}
use Rattle.reader.specs.declared.cursor.State.TheVariants.{Instruction}
use Rattle.refusals.specs.declared.fault.Fault.{Fault}
use Rattle.reader.specs.States.{fault, MovedTo}

-- which closing signs, separators and ends belong to what stands open
abbrev pub ends : Shape → Inside → Bool
ends Round inside.Top = false
ends Round inside.Join = false
ends Round inside.Round = true
ends Round inside.Square = false
ends Round inside.Call = true
ends Round inside.Curly = false
ends Square inside.Top = false
ends Square inside.Join = false
ends Square inside.Round = false
ends Square inside.Square = true
ends Square inside.Call = false
ends Square inside.Curly = false
ends Curly inside.Top = false
ends Curly inside.Join = false
ends Curly inside.Round = false
ends Curly inside.Square = false
ends Curly inside.Call = false
ends Curly inside.Curly = true

abbrev pub separates : Separator → Inside → Bool
separates s inside.Top = false
separates s inside.Join = false
separates s inside.Round = false
separates s inside.Square = false
separates Comma inside.Call = true
separates Semicolon inside.Call = false
separates s inside.Curly = true

abbrev pub is_top : Inside → Bool
is_top inside.Top = true
is_top inside.Join = false
is_top inside.Round = false
is_top inside.Square = false
is_top inside.Call = false
is_top inside.Curly = false

abbrev pub is_join : Inside → Bool
is_join inside.Top = false
is_join inside.Join = true
is_join inside.Round = false
is_join inside.Square = false
is_join inside.Call = false
is_join inside.Curly = false

-- what may stand after an operand
abbrev pub operand_end : Inside → After → Bool
operand_end i past.Blank = true
operand_end i (past.Single o) = true
operand_end i (past.Double h) = true
operand_end i (past.Separator s) = separates s i
operand_end i past.Round = false
operand_end i past.Square = false
operand_end i (past.End q) = ends q i
operand_end i past.Dollar = is_top i
operand_end i past.Quote = is_join i
operand_end i past.Other = false

-- a name may have a subscript or arguments
abbrev pub name_end : Inside → After → Bool
name_end i past.Blank = true
name_end i (past.Single o) = true
name_end i (past.Double h) = true
name_end i (past.Separator s) = separates s i
name_end i past.Round = true
name_end i past.Square = true
name_end i (past.End q) = ends q i
name_end i past.Dollar = is_top i
name_end i past.Quote = is_join i
name_end i past.Other = false

-- after the last constant of a sequence only `;` and `}`
abbrev pub last_end : After → Bool
last_end past.Blank = true
last_end (past.Single o) = false
last_end (past.Double h) = false
last_end (past.Separator Comma) = false
last_end (past.Separator Semicolon) = true
last_end past.Round = false
last_end past.Square = false
last_end (past.End Round) = false
last_end (past.End Square) = false
last_end (past.End Curly) = true
last_end past.Dollar = false
last_end past.Quote = false
last_end past.Other = false

-- what an expression begins with, or a blank before it
abbrev pub begins : Start → Bool
begins at.Blank = true
begins at.Digit = true
begins at.Letter = true
begins at.Quote = true
begins (at.Sign s) = true
begins at.Round = true
begins at.Curly = true
begins at.EndRound = false
begins at.EndCurly = false
begins at.Dot = false
begins at.Other = false

-- whether the byte b may come next
abbrev pub follows : Follow → ℕ → Bool
follows (follow.Operand i) b = operand_end i (after b)
follows (follow.Name i) b = name_end i (after b)
follows follow.Last b = last_end (after b)
follows follow.Begin b = begins (start b)
follows follow.Complete b = blank b || b == 36
follows follow.Loop b = blank b

-- Bytes are passed, as many as there are, for which a test answers true; `answers` is what it may answer to a byte.
pub record Skipped (answers : ℕ → Bool → Type 0) (r r' : Cursor) : Type 0 where
  pub same : MovedTo r r'.pos r'
  pub onwards : r.pos ≤ r'.pos
  pub all : (q : ℕ) → r.pos ≤ q → q < r'.pos → answers (slice_index r.text.now q) true
  pub last : r'.pos < length r.text.now → answers (slice_index r.text.now r'.pos) false

-- bytes that pass a test are passed, as many as there are
pub record Ran (test : ℕ → Bool) (r r' : Cursor) : Type 0 where
  pub same : MovedTo r r'.pos r'
  pub all : Every test r.text.now r.pos r'.pos
  pub last : r'.pos < length r.text.now → test (slice_index r.text.now r'.pos) ≡ false

-- blanks, or the bytes of a word
abbrev pub Spaced : Cursor → Cursor → Type 0
Spaced = Ran blank

abbrev pub Worded : Cursor → Cursor → Type 0
Worded = Ran word

-- what a byte is, if there is one
abbrev pub start_of : Option ℕ → Start
start_of (Some b) = start b
start_of None = at.Other

abbrev pub after_of : Option ℕ → After
after_of (Some b) = after b
after_of None = past.Other

abbrev pub digit_of : Option ℕ → ℕ
digit_of (Some b) = digit_value b
digit_of None = 16

-- what stands at p, if anything
abbrev pub start_at : List ℕ → ℕ → Start
start_at text p = start_of (slice_get text p)

abbrev pub after_at : List ℕ → ℕ → After
after_at text p = after_of (slice_get text p)

abbrev pub digit_at : List ℕ → ℕ → ℕ
digit_at text p = digit_of (slice_get text p)

-- the operator of a byte after an operand and of the next one, if there is one
abbrev pub doubled_of : Half → Option ℕ → Option Op
doubled_of h (Some b) = doubled h b
doubled_of h None = None

abbrev pub or_else : Option Op → Option Op → Option Op
or_else (Some o) x = Some o
or_else None x = x

abbrev pub token_of : After → Option ℕ → Option Op
token_of past.Blank b = None
token_of (past.Single o) b = Some o
token_of (past.Double h) b = or_else (doubled_of h b) (alone h)
token_of (past.Separator s) b = None
token_of past.Round b = None
token_of past.Square b = None
token_of (past.End s) b = None
token_of past.Dollar b = None
token_of past.Quote b = None
token_of past.Other b = None

abbrev pub token_at : List ℕ → ℕ → Option Op
token_at text p = token_of (after_at text p) (slice_get text (p + 1))

-- an operator of level n or tighter
abbrev pub tight : ℕ → Option Op → Option Op
tight n (Some o) = cond (nat_le n (level o)) (Some o) None
tight n None = None

abbrev pub tight_at : List ℕ → ℕ → ℕ → Option Op
tight_at text n p = tight n (token_at text p)

-- the bytes of an operator
abbrev pub width_of : Op → ℕ
width_of o = cond (is_wide o) 2 1

-- the fault n at the place q where the next byte may stand, else 3
pub record Limited (f : Follow) (r : Cursor) (n : Refusal) (q : ℕ) (o : Fault) : Type 0 where
  pub here : r.pos < length r.text.now → o ≡ cond (follows f (slice_index r.text.now r.pos)) (fault n q) (fault UnexpectedByte r.pos)
  pub past : length r.text.now ≤ r.pos → o ≡ fault UnexpectedByte r.pos

-- `=` and `!` after an operand may be the first byte of an operator, so the byte after them cannot stand
abbrev pub halfway : After → Bool
halfway past.Blank = false
halfway (past.Single o) = false
halfway (past.Double halved.Bar) = false
halfway (past.Double halved.Ampersand) = false
halfway (past.Double halved.Equals) = true
halfway (past.Double halved.Bang) = true
halfway (past.Double halved.Less) = false
halfway (past.Double halved.Greater) = false
halfway (past.Separator s) = false
halfway past.Round = false
halfway past.Square = false
halfway (past.End s) = false
halfway past.Dollar = false
halfway past.Quote = false
halfway past.Other = false

abbrev pub unexpected_at : List ℕ → ℕ → ℕ
unexpected_at text p = cond (halfway (after_at text p)) (p + 1) p

-- the `x` of a hexadecimal constant
abbrev pub prefixed_at : List ℕ → ℕ → Bool
prefixed_at text p = nat_lt p (length text) && (slice_index text p == 120 || slice_index text p == 88)

-- a number, as far as it is within the limit
abbrev pub capped : ℕ → Option ℕ
capped v = cond (nat_le v 9223372036854775807) (Some v) None

-- digits in the base n after the value first: as many as there are, and the value with them
pub record Digited (n first : ℕ) (r : Cursor) (o : Option ℕ) (r' : Cursor) : Type 0 where
  pub value : ℕ
  pub told : o ≡ capped value
  pub same : MovedTo r r'.pos r'
  pub onwards : r.pos ≤ r'.pos
  pub runs : (i : ℕ) (g : Numbered) → onward true r.text.now (in_number i (digits n first) g) r.pos ≡ onward true r.text.now (in_number i (digits n value) g) r'.pos
  pub last : nat_lt (digit_at r.text.now r'.pos) n ≡ false

-- the digits so far are complete at p: no further byte belongs to them
abbrev pub value_of : Digits → ℕ
value_of nought = 0
value_of prefix = 0
value_of (digits n v) = v

abbrev pub Complete : List ℕ → Digits → ℕ → Type 0
Complete text nought p = ⊥
Complete text prefix p = ⊥
Complete text (digits n v) p = nat_lt (digit_at text p) n ≡ false

-- a number constant is read
pub record Numbers (r : Cursor) (n : Numeral) (r' : Cursor) : Type 0 where
  pub read : Digits
  pub complete : Complete r.text.now read r'.pos
  pub told : n ≡ record { span = from_to r.pos r'.pos; value = capped (value_of read) }
  pub same : MovedTo r r'.pos r'
  pub onwards : r.pos < r'.pos
  pub runs : (g : Numbered) → onward true r.text.now (in_number r.pos (first_digit (slice_index r.text.now r.pos)) g) (r.pos + 1) ≡ onward true r.text.now (in_number r.pos read g) r'.pos

abbrev pub Numeraled : Cursor → Result Numeral Fault → Cursor → Type 0
Numeraled r (Ok n) r' = Numbers r n r'
Numeraled r (Err f) r' = (g : Numbered) → onward true r.text.now (in_number r.pos (first_digit (slice_index r.text.now r.pos)) g) (r.pos + 1) ≡ refused f.refusal f.place

-- a text constant is read
pub record Quotes (r : Cursor) (t : Quote) (r' : Cursor) : Type 0 where
  pub opens : t.span.«from» ≡ r.pos
  pub closes : t.span.to ≡ r'.pos
  pub inward : r'.state ≡ Instruction
  pub text : r'.text ≡ r.text
  pub table : r'.table ≡ r.table
  pub onwards : r.pos + 1 < r'.pos
  pub few : t.bytes + r.pos ≤ r'.pos
  pub runs : (g : Goal) → onward true r.text.now (in_text r.pos 0 g) (r.pos + 1) ≡ onward true r.text.now (quoted t g) r'.pos

abbrev pub Quoted : Cursor → Result Quote Fault → Cursor → Type 0
Quoted r (Ok t) r' = Quotes r t r'
Quoted r (Err f) r' = (g : Goal) → onward true r.text.now (in_text r.pos 0 g) (r.pos + 1) ≡ refused f.refusal f.place

-- an instruction goes on at the cursor, and has no more nodes than bytes behind it
pub record Ready (r : Cursor) : Type 0 where
  pub inward : r.state ≡ Instruction
  pub few : r.table.len ≤ r.pos
  pub fewer : r.table.nodes ≤ r.table.len
