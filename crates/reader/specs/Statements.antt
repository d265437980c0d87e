-- What the functions say that read instructions without a block. Assumes nothing.
use Rattle.std.specs.Prelude.{◌≡◌, ℕ, ◌+◌, ◌<◌, ◌≤◌, Bool, true, false, not, ◌&&◌, ◌⊎◌, List, [], ◌∷◌, ◌++◌, length, Some, None, Option, Ok, Err, Result, ◌==◌, ◌≢◌, slice_get, slice_index}
use Rattle.refusals.specs.declared.Refusal.TheVariants.{UnexpectedByte}
use Rattle.tokens.specs.declared.byte.After.{After}
use Rattle.tokens.specs.declared.byte.After.TheVariants as past
use Rattle.tokens.specs.declared.operator.Half.TheVariants as halved
use Rattle.trees.specs.declared.Node.{Node}
use Rattle.trees.specs.declared.Node.TheVariants as node
use Rattle.trees.specs.Tree.{Key, Expr, Item, Items, from_to}
use Rattle.trees.specs.Flat.{flatten, flatten_target, assign_node}
use Rattle.trees.specs.Counts.{need, need_assign}
use Rattle.tokens.specs.Bytes.{word}
use Rattle.grammar.specs.Machine.{Head, Stack, Config, want, in_name, named, aft, plain, onward, refused}
use Rattle.grammar.specs.Words.{keyword_of}
use Rattle.grammar.specs.Grammar.{part}
use Rattle.reader.specs.declared.cursor.Cursor.{Cursor}
use Rattle.reader.specs.declared.cursor.State.TheVariants.{Plain}
use Rattle.reader.specs.declared.expression.Operand.{Operand}
use Rattle.reader.specs.declared.statement.Statement.{Statement}
use Rattle.refusals.specs.declared.fault.Fault.{Fault}
use Rattle.reader.specs.Tables.{Table}
use Rattle.reader.specs.Tables.{Grew}
use Rattle.reader.specs.States.{fault, Onwards}
use Rattle.reader.specs.Scans.{after_at, unexpected_at, Spaced, Ready}
use Rattle.reader.specs.Reads.{operand_of, Solid, Stops, Keyless}

-- the `=` of an assignment: no `=` stands behind it
abbrev pub is_equals : After → Bool
is_equals past.Blank = false
is_equals (past.Single o) = false
is_equals (past.Double halved.Bar) = false
is_equals (past.Double halved.Ampersand) = false
is_equals (past.Double halved.Equals) = true
is_equals (past.Double halved.Bang) = false
is_equals (past.Double halved.Less) = false
is_equals (past.Double halved.Greater) = false
is_equals (past.Separator s) = false
is_equals past.Round = false
is_equals past.Square = false
is_equals (past.End s) = false
is_equals past.Dollar = false
is_equals past.Quote = false
is_equals past.Other = false

abbrev pub is_second : Option ℕ → Bool
is_second (Some b) = b == 61
is_second None = false

abbrev pub assigns_at : List ℕ → ℕ → Bool
assigns_at text p = is_equals (after_at text p) && not (is_second (slice_get text (p + 1)))

-- the `$` that closes an instruction is passed, or what stands there instead is refused
abbrev pub Finished : List ℕ → Cursor → Result (Unit {0}) Fault → Cursor → Type 0
Finished text r (Ok u) r' = (after_at text r.pos ≡ past.Dollar) × (r'.state ≡ Plain) × Onwards r r'
Finished text r (Err f) r' = (after_at text r.pos ≢ past.Dollar) × (f ≡ fault UnexpectedByte (unexpected_at text r.pos))

-- the same behind blanks, where no operator may stand
pub record Completes (text : List ℕ) (r r' : Cursor) : Type 0 where
  pub middle : Cursor
  pub spaced : Spaced r middle
  pub dollar : after_at text middle.pos ≡ past.Dollar
  pub outward : r'.state ≡ Plain
  pub next : Onwards middle r'

pub record Incomplete (text : List ℕ) (r : Cursor) (f : Fault) : Type 0 where
  pub middle : Cursor
  pub spaced : Spaced r middle
  pub no_dollar : after_at text middle.pos ≡ past.Dollar → ⊥
  pub told : f ≡ fault UnexpectedByte middle.pos

abbrev pub Completed : List ℕ → Cursor → Result (Unit {0}) Fault → Cursor → Type 0
Completed text r (Ok u) r' = Completes text r r'
Completed text r (Err f) r' = Incomplete text r f

-- an instruction that shows or assigns, whose `$` is at q
pub data Simple (q : ℕ) : Item → Type 0 where
  show : (e : Expr) → Simple q (Item.show q e)
  assign : (k : Key) (e : Expr) → Simple q (Item.assign q k e)

-- its nodes and the stack that it needs
abbrev pub simple_nodes : Item → List Node
simple_nodes (Item.piece i j) = []
simple_nodes (Item.dollar p) = []
simple_nodes (Item.show q e) = node.Show q (length (flatten e)) ∷ flatten e
simple_nodes (Item.assign q k e) = assign_node q k (length (flatten_target k)) (length (flatten e)) ∷ flatten_target k ++ flatten e
simple_nodes (Item.opens q j h) = []
simple_nodes (Item.elif q j c) = []
simple_nodes (Item.else q j) = []
simple_nodes (Item.end q j) = []

abbrev pub simple_need : Item → ℕ
simple_need (Item.piece i j) = 0
simple_need (Item.dollar p) = 0
simple_need (Item.show q e) = need e
simple_need (Item.assign q k e) = need_assign k e
simple_need (Item.opens q j h) = 0
simple_need (Item.elif q j c) = 0
simple_need (Item.else q j) = 0
simple_need (Item.end q j) = 0

-- the cursor has passed the `$` that closes the instruction, and has no more nodes than bytes behind it
pub record Passed (r r' : Cursor) : Type 0 where
  pub text : r'.text ≡ r.text
  pub outward : r'.state ≡ Plain
  pub onwards : r.pos < r'.pos
  pub few : r'.table.len ≤ r'.pos
  pub fewer : r'.table.nodes ≤ r'.table.len
  pub more : r.table.len ≤ r'.table.len

-- such an instruction is read, from the configuration c on
pub record Simples (text : List ℕ) (q : ℕ) (c : Items → Config) (r : Cursor) (n : ℕ) (r' : Cursor) : Type 0 where
  pub item : Item
  pub simple : Simple q item
  pub told : n ≡ simple_need item
  pub small : n ≤ r'.pos
  pub passed : Passed r r'
  pub grew : Grew r.table (simple_nodes item) r'.table
  pub runs : (ts : Items) → onward true text (c ts) r.pos ≡ onward true text (plain r'.pos (Items.then ts item)) r'.pos

abbrev pub Simply : List ℕ → ℕ → (Items → Config) → Cursor → Result ℕ Fault → Cursor → Type 0
Simply text q c r (Ok n) r' = Simples text q c r n r'
Simply text q c r (Err f) r' = (ts : Items) → onward true text (c ts) r.pos ≡ refused f.refusal f.place

-- where the instruction begins; behind its first name and the blanks after that; and right behind that name
abbrev pub shown_at : ℕ → Items → Config
shown_at q ts = want (Stack.top q Head.show ts)

abbrev pub named_at : List ℕ → ℕ → ℕ → ℕ → Items → Config
named_at text q x y ts = named x y (part text x y) (Stack.top q Head.show ts)

abbrev pub keyed_at : List ℕ → ℕ → ℕ → ℕ → Items → Config
keyed_at text q x y ts = in_name x (part text x y) (Stack.top q Head.show ts)

-- the word from x to y is no word of an instruction, and no byte goes it on
pub record Nameable (text : List ℕ) (x y : ℕ) : Type 0 where
  pub free : keyword_of (part text x y) ≡ None
  pub longest : y < length text → word (slice_index text y) ≡ false

-- behind the name from x to y that begins the instruction, whose `$` is at q
pub record AtName (q x y : ℕ) (r : Cursor) : Type 0 where
  pub ready : Ready r
  pub few : r.table.len + 2 ≤ r.pos
  pub first : q < x
  pub ordered : x ≤ y
  pub behind : y ≤ r.pos

-- the node of the instruction i is to stand in the table
pub record AtNode (i : Statement) (r : Cursor) : Type 0 where
  pub ready : Ready r
  pub held : i.at < r.table.len
  pub placed : i.place < r.pos

-- at the `=` of an assignment to the name from x to y, with s nodes of its subscript
pub record AtEquals (i : Statement) (x y s : ℕ) (r : Cursor) : Type 0 where
  pub ready : Ready r
  pub held : i.at + 1 + s ≤ r.table.len
  pub placed : i.place < r.pos
  pub «from» : x ≤ r.pos
  pub to : y ≤ r.pos
  pub assigns : assigns_at r.text.now r.pos ≡ true

-- Behind the operand e. The instruction's node is to stand at `at`, where a node holds its place; t₀ is the table before that.
pub record Begun (at : ℕ) (t₀ : Table) (ns : List Node) (t : Table) : Type 0 where
  pub here : at ≡ t₀.len
  pub grew : Grew t₀ (node.End ∷ ns) t

-- the expression is complete: behind e, it is shown
pub record Shown (text : List ℕ) (i : Statement) (n : ℕ) (r : Cursor) (m : ℕ) (r' : Cursor) : Type 0 where
  pub told : m ≡ n
  pub passed : Passed r r'
  pub grew : (t₀ : Table) (e : Expr) → Begun i.at t₀ (flatten e) r.table → Grew t₀ (node.Show i.place (length (flatten e)) ∷ flatten e) r'.table
  pub runs : (ts : Items) (e : Expr) → onward true text (aft e (Stack.top i.place Head.show ts)) r.pos ≡ onward true text (plain r'.pos (Items.then ts (Item.show i.place e))) r'.pos

abbrev pub Shows : List ℕ → Statement → ℕ → Cursor → Result ℕ Fault → Cursor → Type 0
Shows text i n r (Ok m) r' = Shown text i n r m r'
Shows text i n r (Err f) r' = (ts : Items) (e : Expr) → Stops 1 text r.pos → (assigns_at text r.pos ≡ true → Keyless e) → onward true text (aft e (Stack.top i.place Head.show ts)) r.pos ≡ refused f.refusal f.place

-- the expression goes on behind its first operand
pub record Continued (text : List ℕ) (i : Statement) (first : Operand) (r : Cursor) (m : ℕ) (r' : Cursor) : Type 0 where
  pub grow : Expr → Expr
  pub told : (e : Expr) → first ≡ operand_of e → m ≡ need (grow e)
  pub small : first.need ≤ r.pos → m ≤ r'.pos
  pub passed : Passed r r'
  pub grew : (t₀ : Table) (e : Expr) → Begun i.at t₀ (flatten e) r.table → Grew t₀ (node.Show i.place (length (flatten (grow e))) ∷ flatten (grow e)) r'.table
  pub runs : (ts : Items) (e : Expr) → onward true text (aft e (Stack.top i.place Head.show ts)) r.pos ≡ onward true text (plain r'.pos (Items.then ts (Item.show i.place (grow e)))) r'.pos

abbrev pub Continues : List ℕ → Statement → Operand → Cursor → Result ℕ Fault → Cursor → Type 0
Continues text i x r (Ok m) r' = Continued text i x r m r'
Continues text i x r (Err f) r' = (ts : Items) (e : Expr) → (Solid text r.pos × (assigns_at text r.pos ≡ false)) ⊎ Keyless e → onward true text (aft e (Stack.top i.place Head.show ts)) r.pos ≡ refused f.refusal f.place

-- the right side of an assignment to the key k, whose subscript has s nodes
pub record Assigned (text : List ℕ) (i : Statement) (s x y : ℕ) (r : Cursor) (m : ℕ) (r' : Cursor) : Type 0 where
  pub right : Expr
  pub told : m ≡ need right
  pub small : m ≤ r'.pos
  pub passed : Passed r r'
  pub grew : (t₀ : Table) (ns : List Node) → s ≡ length ns → Begun i.at t₀ ns r.table → Grew t₀ (node.Assign i.place (from_to x y) (length ns) (length (flatten right)) ∷ ns ++ flatten right) r'.table
  pub runs : (ts : Items) (k : Key) → onward true text (aft (Expr.key k) (Stack.top i.place Head.show ts)) r.pos ≡ onward true text (plain r'.pos (Items.then ts (Item.assign i.place k right))) r'.pos

abbrev pub Assigns : List ℕ → Statement → ℕ → ℕ → ℕ → Cursor → Result ℕ Fault → Cursor → Type 0
Assigns text i x y s r (Ok m) r' = Assigned text i s x y r m r'
Assigns text i x y s r (Err f) r' = (ts : Items) (k : Key) → onward true text (aft (Expr.key k) (Stack.top i.place Head.show ts)) r.pos ≡ refused f.refusal f.place
