-- The reading of a template as a machine that takes one byte at a time. Assumes nothing.
-- `step` knows the grammar alone: it stops at the byte with which no template goes on (number 3). Beside the next configuration it
-- says which of the rules 4 to 8 fall due at this byte as broken. So the order of the refusals is `run`: 3 comes first, then what is due.
use Rattle.std.specs.Prelude.{ℕ, zero, suc, ◌+◌, ◌-◌, ◌*◌, ◌<◌, Bool, true, false, cond, ◌||◌, List, [], ◌∷◌, ◌++◌, drop, Some, None, Option, ◌==◌, nat_le, nat_lt}
use Rattle.functions.specs.declared.Signature.{Signature}
use Rattle.keywords.specs.declared.Keyword.{Keyword}
use Rattle.keywords.specs.declared.Keyword.TheVariants as keyword
use Rattle.refusals.specs.declared.Refusal.{Refusal}
use Rattle.refusals.specs.declared.Refusal.TheVariants.{UnexpectedByte}
use Rattle.tokens.specs.declared.operator.Op.{Op}
use Rattle.tokens.specs.declared.operator.Sign.{Sign}
use Rattle.tokens.specs.declared.operator.Half.{Half}
use Rattle.tokens.specs.declared.operator.Half.TheVariants as halved
use Rattle.tokens.specs.declared.byte.Separator.{Separator}
use Rattle.tokens.specs.declared.byte.Separator.TheVariants.{Comma, Semicolon}
use Rattle.tokens.specs.declared.byte.Shape.{Shape}
use Rattle.tokens.specs.declared.byte.Shape.TheVariants.{Round, Square, Curly}
use Rattle.tokens.specs.declared.byte.Start.{Start}
use Rattle.tokens.specs.declared.byte.Start.TheVariants as at
use Rattle.tokens.specs.declared.byte.After.{After}
use Rattle.tokens.specs.declared.byte.After.TheVariants as past
use Rattle.tokens.specs.declared.byte.Class.{Class}
use Rattle.tokens.specs.declared.byte.Class.TheVariants as is
use Rattle.tokens.specs.Bytes.{start, after, class, blank, digit, letter, word, digit_value}
use Rattle.tokens.specs.Operators.{level, doubled, alone}
use Rattle.trees.specs.declared.Constant.{Constant}
use Rattle.trees.specs.declared.Quote.{Quote}
use Rattle.trees.specs.Tree.{Key, Expr, Args, Seq, Opening, Item, Items, from_to, count_args}
use Rattle.grammar.specs.Words.{function, keyword_of}
use Rattle.grammar.specs.Rules.{refusal_of, Broken, large, lengthy, wide, long, deep, known, counted, arrival, broken_number, open_blocks, room, in_choice, in_block, unclosed}

-- a bracket that stands open, with its place and what it holds so far
pub data Bracket : Type 0 where
  round : ℕ → Bracket
  -- a subscript of the name from i to j
  square : ℕ → ℕ → ℕ → Bracket
  -- a call of the function whose name stands from i to j
  call : ℕ → ℕ → ℕ → Option Signature → Args → Bracket
  -- a list, and how many items its present group has
  curly : ℕ → Seq → ℕ → Bracket

-- what the expression is for; j is the byte after the instruction's word, and a loop's name stands from x to y
pub data Head : Type 0 where
  show : Head
  assign : Key → Head
  if elif while : ℕ → Head
  foreach joineach : ℕ → ℕ → ℕ → Head

-- what waits for an operand, the innermost first; at the bottom the instruction with its `$` and the items before it
pub data Stack : Type 0 where
  top : ℕ → Head → Items → Stack
  binary : ℕ → Op → Expr → Stack → Stack
  signed : ℕ → Sign → Stack → Stack
  open' : Bracket → Stack → Stack

-- a sequence a,b,...,c that waits for its last constant: the list's place, the items before, a and b, and what waits for the list
pub record Run : Type 0 where
  pub place : ℕ
  pub items : Seq
  pub first : Constant
  pub second : Constant
  pub stack : Stack

-- what a number constant is for
pub data Numbered : Type 0 where
  operand : Stack → Numbered
  last : Run → Numbered

-- a JOINEACH that waits for its delimiter: its `$`, the byte after its word, its name, its expression and the items before it
pub record Join : Type 0 where
  pub place : ℕ
  pub word : ℕ
  pub «from» : ℕ
  pub to : ℕ
  pub list : Expr
  pub items : Items

-- what a text constant is for
pub data Quoted : Type 0 where
  operand : Stack → Quoted
  delimiter : Join → Quoted

-- the digits of a number constant so far: `0` alone, `0x` alone, or digits in a base with their value
pub data Digits : Type 0 where
  nought prefix : Digits
  digits : ℕ → ℕ → Digits

pub data Config : Type 0 where
  -- outside of instructions; the open piece of plain text begins at i; the `$` stands at q
  line : Items → Config
  plain : ℕ → Items → Config
  comment : Items → Config
  dollar_at_line : ℕ → Items → Config
  dollar : ℕ → Items → Config
  -- an operand is expected; in `first` the bracket may also close
  want : Stack → Config
  first : Stack → Config
  -- inside a constant or a name, from i on, and right after a text constant
  in_number : ℕ → Digits → Numbered → Config
  in_name : ℕ → List ℕ → Stack → Config
  in_text : ℕ → ℕ → Quoted → Config
  escape : ℕ → ℕ → Quoted → Config
  quoted : Quote → Quoted → Config
  -- after the name from i to j; after another operand; after the first byte, at q, of an operator
  named : ℕ → ℕ → List ℕ → Stack → Config
  aft : Expr → Stack → Config
  half : ℕ → Half → Expr → Stack → Config
  -- in a sequence: n dots are to come, and then a comma; its last constant is expected; after that constant
  dots : ℕ → Run → Config
  last_wanted : Run → Config
  last_done : Constant → Run → Config
  -- after END, ELSE or a delimiter: the instruction is complete
  bare : Item → Items → Config
  -- after FOREACH (`false`) or JOINEACH (`true`), whose `$` is at q and whose word ends before j: a name is expected; inside it, from i on
  naming : ℕ → ℕ → Bool → Items → Config
  loop_name : ℕ → ℕ → Bool → ℕ → List ℕ → Items → Config

-- `go` has the rules that fall due as broken at this byte
pub data Move : Type 0 where
  stop : Move
  go : List Broken → Config → Move

-- some rules fall due before the others of this byte
abbrev pub late : List Broken → Move → Move
late d stop = stop
late d (go e c) = go (d ++ e) c

-- how many brackets stand open
abbrev pub depth : Stack → ℕ
depth (top q h ts) = 0
depth (binary q o l k) = depth k
depth (signed q s k) = depth k
depth (open' b k) = suc (depth k)

-- what an operator of level n, or with level 0 a closing sign, brings together: operators on the stack that are no looser, and signs
abbrev pub reduce : ℕ → Expr → Stack → Expr × Stack
reduce n t (top q h ts) = (t, top q h ts)
reduce n t (binary q o l k) = cond (nat_le n (level o)) (reduce n (Expr.binary q o l t) k) (t, binary q o l k)
reduce n t (signed q s k) = reduce n (Expr.signed q s t) k
reduce n t (open' b k) = (t, open' b k)

-- what waits on top is looser than the level n; a sign has level 11
abbrev pub Below : ℕ → Stack → Type 0
Below n (Stack.top q h ts) = Unit {0}
Below n (Stack.binary q o l k) = level o < n
Below n (Stack.signed q s k) = 11 < n
Below n (Stack.open' b k) = Unit {0}

-- the operator o at q after an operand
abbrev pub pushed : ℕ → Op → Expr × Stack → Stack
pushed q o (t, k) = binary q o t k

abbrev pub operator : ℕ → Op → Expr → Stack → Move
operator q o t k = go [] (want (pushed q o (reduce (level o) t k)))

-- `)`, `]` or `}` at p after the operand t
abbrev pub shut : Shape → Bracket → Expr → Stack → ℕ → Move
shut Round (round q) t k p = go [] (aft (Expr.round q t) k)
shut Round (square i j q) t k p = stop
shut Round (call i j q f s) t k p = go (counted i f (suc (count_args s)) p) (aft (Expr.call i j q f (Args.argument s t) p) k)
shut Round (curly q s n) t k p = stop
shut Square (round q) t k p = stop
shut Square (square i j q) t k p = go [] (aft (Expr.key (Key.index i j q t)) k)
shut Square (call i j q f s) t k p = stop
shut Square (curly q s n) t k p = stop
shut Curly (round q) t k p = stop
shut Curly (square i j q) t k p = stop
shut Curly (call i j q f s) t k p = stop
shut Curly (curly q s n) t k p = go [] (aft (Expr.list q (Seq.item s t)) k)

-- `,` or `;` after the operand t
abbrev pub next : Separator → Bracket → Expr → Stack → Move
next c (round q) t k = stop
next c (square i j q) t k = stop
next Comma (call i j q f s) t k = go [] (want (open' (call i j q f (Args.argument s t)) k))
next Semicolon (call i j q f s) t k = stop
next Comma (curly q s n) t k = go [] (want (open' (curly q (Seq.item s t) (suc n)) k))
next Semicolon (curly q s n) t k = go [] (want (open' (curly q (Seq.item s t) 0) k))

-- the closing `$` at p after the expression t
abbrev pub complete : ℕ → ℕ → Head → Expr → Items → Move
complete p q show t ts = go [] (plain (p + 1) (Items.then ts (Item.show q t)))
complete p q (assign k) t ts = go [] (plain (p + 1) (Items.then ts (Item.assign q k t)))
complete p q (if j) t ts = go [] (plain (p + 1) (Items.then ts (Item.opens q j (Opening.if t))))
complete p q (elif j) t ts = go [] (plain (p + 1) (Items.then ts (Item.elif q j t)))
complete p q (while j) t ts = go [] (plain (p + 1) (Items.then ts (Item.opens q j (Opening.while t))))
complete p q (foreach j x y) t ts = go [] (plain (p + 1) (Items.then ts (Item.opens q j (Opening.foreach x y t))))
complete p q (joineach j x y) t ts = stop

-- the quote of a delimiter at p after the expression t
abbrev pub delimits : ℕ → ℕ → Head → Expr → Items → Move
delimits p q show t ts = stop
delimits p q (assign k) t ts = stop
delimits p q (if j) t ts = stop
delimits p q (elif j) t ts = stop
delimits p q (while j) t ts = stop
delimits p q (foreach j x y) t ts = stop
delimits p q (joineach j x y) t ts = go [] (in_text p 0 (Quoted.delimiter (record { place = q; word = j; «from» = x; to = y; list = t; items = ts })))

abbrev pub closes : Shape → ℕ → Expr × Stack → Move
closes s p (t, top q h ts) = stop
closes s p (t, binary q o l k) = stop
closes s p (t, signed q g k) = stop
closes s p (t, open' b k) = shut s b t k p

abbrev pub parts : Separator → Expr × Stack → Move
parts c (t, top q h ts) = stop
parts c (t, binary q o l k) = stop
parts c (t, signed q g k) = stop
parts c (t, open' b k) = next c b t k

abbrev pub completes : ℕ → Expr × Stack → Move
completes p (t, top q h ts) = complete p q h t ts
completes p (t, binary q o l k) = stop
completes p (t, signed q g k) = stop
completes p (t, open' b k) = stop

abbrev pub quotes : ℕ → Expr × Stack → Move
quotes p (t, top q h ts) = delimits p q h t ts
quotes p (t, binary q o l k) = stop
quotes p (t, signed q g k) = stop
quotes p (t, open' b k) = stop

-- a byte at p after the operand t
abbrev pub afters : After → Expr → Stack → ℕ → Move
afters past.Blank t k p = go [] (aft t k)
afters (past.Single o) t k p = operator p o t k
afters (past.Double h) t k p = go [] (half p h t k)
afters (past.Separator c) t k p = parts c (reduce 0 t k)
afters past.Round t k p = stop
afters past.Square t k p = stop
afters (past.End s) t k p = closes s p (reduce 0 t k)
afters past.Dollar t k p = completes p (reduce 0 t k)
afters past.Quote t k p = quotes p (reduce 0 t k)
afters past.Other t k p = stop

-- a byte at p after the name w, which stands from i to j
abbrev pub nameds : After → ℕ → ℕ → List ℕ → Stack → ℕ → Move
nameds past.Blank i j w k p = go [] (named i j w k)
nameds (past.Single o) i j w k p = afters (past.Single o) (Expr.key (Key.name i j)) k p
nameds (past.Double h) i j w k p = afters (past.Double h) (Expr.key (Key.name i j)) k p
nameds (past.Separator c) i j w k p = afters (past.Separator c) (Expr.key (Key.name i j)) k p
nameds past.Round i j w k p = go (deep (depth k) p ++ known i (function w) p) (first (open' (call i j p (function w) Args.nullary) k))
nameds past.Square i j w k p = go (deep (depth k) p) (want (open' (square i j p) k))
nameds (past.End s) i j w k p = afters (past.End s) (Expr.key (Key.name i j)) k p
nameds past.Dollar i j w k p = afters past.Dollar (Expr.key (Key.name i j)) k p
nameds past.Quote i j w k p = afters past.Quote (Expr.key (Key.name i j)) k p
nameds past.Other i j w k p = stop

-- only one sign may stand before an operand
abbrev pub sign : ℕ → Sign → Stack → Move
sign p s (top q h ts) = go [] (want (signed p s (top q h ts)))
sign p s (binary q o l k) = go [] (want (signed p s (binary q o l k)))
sign p s (signed q g k) = stop
sign p s (open' b k) = go [] (want (signed p s (open' b k)))

-- the two constants of a group, if it has two items and they are constants, and the items before
abbrev pub constant : Expr → Option Constant
constant (Expr.number c) = Some c
constant (Expr.text t) = None
constant (Expr.key k) = None
constant (Expr.call i j q f s z) = None
constant (Expr.list q s) = None
constant (Expr.round q e) = None
constant (Expr.signed q s e) = None
constant (Expr.binary q o l r) = None

abbrev pub running : ℕ → Seq → Option Constant → Option Constant → Stack → Move
running q s (Some a) (Some b) k = go [] (dots 2 (record { place = q; items = s; first = a; second = b; stack = k }))
running q s (Some a) None k = stop
running q s None b k = stop

abbrev pub pair : ℕ → Seq → Stack → Move
pair q Seq.empty k = stop
pair q (Seq.item Seq.empty b) k = stop
pair q (Seq.item (Seq.item s a) b) k = running q s (constant a) (constant b) k
pair q (Seq.item (Seq.steps s a b' c) b) k = stop
pair q (Seq.steps s a b c) k = stop

-- the first dot of a sequence, where an operand is expected: after two constants that begin their group
abbrev pub dotted : Stack → Move
dotted (top q h ts) = stop
dotted (binary q o l k) = stop
dotted (signed q s k) = stop
dotted (open' (round q) k) = stop
dotted (open' (square i j q) k) = stop
dotted (open' (call i j q f s) k) = stop
dotted (open' (curly q s n) k) = cond (n == 2) (pair q s k) stop

-- the first digit of a number constant
abbrev pub first_digit : ℕ → Digits
first_digit b = cond (b == 48) Digits.nought (Digits.digits 10 (b - 48))

-- the byte b at p where an operand is expected
abbrev pub wants : Start → ℕ → Stack → ℕ → Move
wants at.Blank b k p = go [] (want k)
wants at.Digit b k p = go [] (in_number p (first_digit b) (Numbered.operand k))
wants at.Letter b k p = go [] (in_name p (b ∷ []) k)
wants at.Quote b k p = go [] (in_text p 0 (Quoted.operand k))
wants (at.Sign s) b k p = sign p s k
wants at.Round b k p = go (deep (depth k) p) (want (open' (round p) k))
wants at.Curly b k p = go (deep (depth k) p) (first (open' (curly p Seq.empty 0) k))
wants at.EndRound b k p = stop
wants at.EndCurly b k p = stop
wants at.Dot b k p = dotted k
wants at.Other b k p = stop

-- a bracket that closes at p with nothing in it
abbrev pub hollow : Shape → Stack → ℕ → Move
hollow s (top q h ts) p = stop
hollow s (binary q o l k) p = stop
hollow s (signed q g k) p = stop
hollow s (open' (round q) k) p = stop
hollow s (open' (square i j q) k) p = stop
hollow Round (open' (call i j q f s) k) p = go (counted i f (count_args s) p) (aft (Expr.call i j q f s p) k)
hollow Square (open' (call i j q f s) k) p = stop
hollow Curly (open' (call i j q f s) k) p = stop
hollow Round (open' (curly q s n) k) p = stop
hollow Square (open' (curly q s n) k) p = stop
hollow Curly (open' (curly q s n) k) p = go [] (aft (Expr.list q s) k)

abbrev pub firsts : Start → ℕ → Stack → ℕ → Move
firsts at.Blank b k p = go [] (first k)
firsts at.Digit b k p = wants at.Digit b k p
firsts at.Letter b k p = wants at.Letter b k p
firsts at.Quote b k p = wants at.Quote b k p
firsts (at.Sign s) b k p = wants (at.Sign s) b k p
firsts at.Round b k p = wants at.Round b k p
firsts at.Curly b k p = wants at.Curly b k p
firsts at.EndRound b k p = hollow Round k p
firsts at.EndCurly b k p = hollow Curly k p
firsts at.Dot b k p = wants at.Dot b k p
firsts at.Other b k p = stop

-- a complete instruction: `$` closes it at p
abbrev pub bares : ℕ → Item → Items → ℕ → Move
bares b t ts p = cond (blank b) (go [] (bare t ts)) (cond (b == 36) (go [] (plain (p + 1) (Items.then ts t))) stop)

-- the byte b at j, after the instruction's word, whose `$` is at q
abbrev pub commands : Keyword → ℕ → Items → ℕ → ℕ → Move
commands keyword.If q ts j b = late (room (open_blocks ts) q j) (wants (start b) b (top q (if j) ts) j)
commands keyword.While q ts j b = late (room (open_blocks ts) q j) (wants (start b) b (top q (while j) ts) j)
commands keyword.Foreach q ts j b = cond (blank b) (go (room (open_blocks ts) q j) (naming q j false ts)) stop
commands keyword.Joineach q ts j b = cond (blank b) (go (room (open_blocks ts) q j) (naming q j true ts)) stop
commands keyword.Elif q ts j b = late (in_choice (open_blocks ts) q j) (wants (start b) b (top q (elif j) ts) j)
commands keyword.Else q ts j b = late (in_choice (open_blocks ts) q j) (bares b (Item.else q j) ts j)
commands keyword.End q ts j b = late (in_block (open_blocks ts) q j) (bares b (Item.end q j) ts j)

-- a word that is an instruction's: only where the instruction begins
abbrev pub commanded : Keyword → Stack → ℕ → ℕ → Move
commanded w (top q show ts) j b = commands w q ts j b
commanded w (top q (assign k) ts) j b = stop
commanded w (top q (if x) ts) j b = stop
commanded w (top q (elif x) ts) j b = stop
commanded w (top q (while x) ts) j b = stop
commanded w (top q (foreach x y z) ts) j b = stop
commanded w (top q (joineach x y z) ts) j b = stop
commanded w (binary q o l k) j b = stop
commanded w (signed q s k) j b = stop
commanded w (open' c k) j b = stop

-- the byte b at p after the word w, which begins at i
abbrev pub worded : Option Keyword → ℕ → List ℕ → Stack → ℕ → ℕ → Move
worded (Some c) i w k p b = commanded c k p b
worded None i w k p b = late (long i p) (nameds (after b) i p w k p)

-- `=` after a key that begins the instruction, and then the byte b at p
abbrev pub assigned : Key → Stack → ℕ → ℕ → Move
assigned c (top q show ts) b p = wants (start b) b (top q (assign c) ts) p
assigned c (top q (assign k) ts) b p = stop
assigned c (top q (if x) ts) b p = stop
assigned c (top q (elif x) ts) b p = stop
assigned c (top q (while x) ts) b p = stop
assigned c (top q (foreach x y z) ts) b p = stop
assigned c (top q (joineach x y z) ts) b p = stop
assigned c (binary q o l k) b p = stop
assigned c (signed q s k) b p = stop
assigned c (open' x k) b p = stop

abbrev pub assigns : Expr → Stack → ℕ → ℕ → Move
assigns (Expr.number c) k b p = stop
assigns (Expr.text t) k b p = stop
assigns (Expr.key c) k b p = assigned c k b p
assigns (Expr.call i j q f s z) k b p = stop
assigns (Expr.list q s) k b p = stop
assigns (Expr.round q e) k b p = stop
assigns (Expr.signed q s e) k b p = stop
assigns (Expr.binary q o l r) k b p = stop

-- the byte b at p after the first byte, at q, of an operator: no operator has the two
abbrev pub single : Half → Option Op → ℕ → Expr → Stack → ℕ → ℕ → Move
single h (Some o) q t k b p = wants (start b) b (pushed q o (reduce (level o) t k)) p
single halved.Bar None q t k b p = stop
single halved.Ampersand None q t k b p = stop
single halved.Equals None q t k b p = assigns t k b p
single halved.Bang None q t k b p = stop
single halved.Less None q t k b p = stop
single halved.Greater None q t k b p = stop

abbrev pub halves : Option Op → Half → ℕ → Expr → Stack → ℕ → ℕ → Move
halves (Some o) h q t k b p = operator q o t k
halves None h q t k b p = single h (alone h) q t k b p

-- a byte at p after the last constant c of a sequence
abbrev pub lasts : After → Constant → Run → Move
lasts past.Blank c r = go [] (last_done c r)
lasts (past.Single o) c r = stop
lasts (past.Double h) c r = stop
lasts (past.Separator Comma) c r = stop
lasts (past.Separator Semicolon) c r = go [] (want (open' (curly r.place (Seq.steps r.items r.first r.second c) 0) r.stack))
lasts past.Round c r = stop
lasts past.Square c r = stop
lasts (past.End Round) c r = stop
lasts (past.End Square) c r = stop
lasts (past.End Curly) c r = go [] (aft (Expr.list r.place (Seq.steps r.items r.first r.second c)) r.stack)
lasts past.Dollar c r = stop
lasts past.Quote c r = stop
lasts past.Other c r = stop

-- the byte b at p after the number constant c
abbrev pub numbereds : Numbered → Constant → ℕ → ℕ → Move
numbereds (Numbered.operand k) c b p = late (broken_number c) (afters (after b) (Expr.number c) k p)
numbereds (Numbered.last r) c b p = late (large c ++ arrival r.first r.second c ++ lengthy c) (lasts (after b) c r)

-- the constant from i to p with the value v
abbrev pub constant_at : ℕ → ℕ → ℕ → Constant
constant_at i p v = record { span = from_to i p; value = v }

-- the byte b at p inside a number constant
abbrev pub numbers : Digits → ℕ → Numbered → ℕ → ℕ → Move
numbers Digits.nought i g b p =
    cond (b == 120 || b == 88) (go [] (in_number i Digits.prefix g))
    (cond (nat_lt (digit_value b) 8) (go [] (in_number i (Digits.digits 8 (digit_value b)) g))
    (numbereds g (constant_at i p 0) b p))
numbers Digits.prefix i g b p = cond (nat_lt (digit_value b) 16) (go [] (in_number i (Digits.digits 16 (digit_value b)) g)) stop
numbers (Digits.digits n v) i g b p = cond (nat_lt (digit_value b) n) (go [] (in_number i (Digits.digits n (n * v + digit_value b)) g)) (numbereds g (constant_at i p v) b p)

-- a table's row: one entry for each class
abbrev pub row : {A : Type 0} → A → A → A → A → A → A → A → A → Class → A
row n r b d q e x o is.Newline = n
row n r b d q e x o is.Return = r
row n r b d q e x o is.Blank = b
row n r b d q e x o is.Dollar = d
row n r b d q e x o is.Quote = q
row n r b d q e x o is.Backslash = e
row n r b d q e x o is.Escaped = x
row n r b d q e x o is.Other = o

-- a byte at p inside a text constant, and one after `\`
abbrev pub texts : Class → ℕ → ℕ → Quoted → ℕ → Move
texts cl i n g p =
    let on = go [] (in_text i (n + 1) g) in
    row stop on on on (go [] (quoted (record { span = from_to i (p + 1); bytes = n }) g)) (go [] (escape i n g)) on on cl

abbrev pub escapes : Class → ℕ → ℕ → Quoted → Move
escapes cl i n g =
    let on = go [] (in_text i (n + 1) g) in
    row stop stop stop stop on on on stop cl

-- the instruction that a delimiter completes
abbrev pub joined : Join → Quote → Item
joined j d = Item.opens j.place j.word (Opening.joineach j.«from» j.to j.list d)

-- the byte b at p after the text constant t
abbrev pub quoteds : Quoted → Quote → ℕ → ℕ → Move
quoteds (Quoted.operand k) t b p = late (wide t) (afters (after b) (Expr.text t) k p)
quoteds (Quoted.delimiter j) t b p = late (wide t) (bares b (joined j t) j.items p)

-- the head of a loop, by whether it is a JOINEACH
abbrev pub loop_head : Bool → ℕ → ℕ → ℕ → Head
loop_head true j x y = joineach j x y
loop_head false j x y = foreach j x y

abbrev pub looped : Option Keyword → ℕ → ℕ → Bool → ℕ → Items → ℕ → ℕ → Move
looped (Some c) q j e i ts b p = stop
looped None q j e i ts b p = late (long i p) (wants (start b) b (top q (loop_head e j i p) ts) p)

-- the items with the open piece from i to p, if it has a byte
abbrev pub piece : ℕ → ℕ → Items → Items
piece i p ts = cond (nat_lt i p) (Items.then ts (Item.piece i p)) ts

-- the byte b at p
abbrev pub step : Config → ℕ → ℕ → Move
step (line ts) p b =
    let other = go [] (plain p ts) in
    row (go [] (line ts)) (go [] (plain (p + 1) ts)) (go [] (line ts)) (go [] (dollar_at_line p ts)) other other other other (class b)
step (plain i ts) p b =
    let on = go [] (plain i ts) in
    row (go [] (line (piece i p ts))) (go [] (plain (p + 1) (piece i p ts))) on (go [] (dollar p (piece i p ts))) on on on on (class b)
step (comment ts) p b =
    let on = go [] (comment ts) in
    row (go [] (line ts)) on on on on on on on (class b)
step (dollar_at_line q ts) p b =
    let opens = wants (start b) b (top q show ts) p in
    row opens opens (go [] (comment ts)) (go [] (plain (p + 1) (Items.then ts (Item.dollar q)))) opens opens opens opens (class b)
step (dollar q ts) p b =
    let opens = wants (start b) b (top q show ts) p in
    row opens opens opens (go [] (plain (p + 1) (Items.then ts (Item.dollar q)))) opens opens opens opens (class b)
step (want k) p b = wants (start b) b k p
step (first k) p b = firsts (start b) b k p
step (in_number i n g) p b = numbers n i g b p
step (in_name i w k) p b = cond (word b) (go [] (in_name i (w ++ b ∷ []) k)) (worded (keyword_of w) i w k p b)
step (in_text i n g) p b = texts (class b) i n g p
step (escape i n g) p b = escapes (class b) i n g
step (quoted t g) p b = quoteds g t b p
step (named i j w k) p b = nameds (after b) i j w k p
step (aft t k) p b = afters (after b) t k p
step (half q h t k) p b = halves (doubled h b) h q t k b p
step (dots (suc n) r) p b = cond (b == 46) (go [] (dots n r)) stop
step (dots zero r) p b = cond (blank b) (go [] (dots 0 r)) (cond (b == 44) (go [] (last_wanted r)) stop)
step (last_wanted r) p b = cond (blank b) (go [] (last_wanted r)) (cond (digit b) (go [] (in_number p (first_digit b) (Numbered.last r))) stop)
step (last_done c r) p b = lasts (after b) c r
step (bare t ts) p b = bares b t ts p
step (naming q j e ts) p b = cond (blank b) (go [] (naming q j e ts)) (cond (letter b) (go [] (loop_name q j e p (b ∷ []) ts)) stop)
step (loop_name q j e i w ts) p b = cond (word b) (go [] (loop_name q j e i (w ++ b ∷ []) ts)) (looped (keyword_of w) q j e i ts b p)

-- the items of a template that ends at p in this configuration, if it may
abbrev pub finish : Config → ℕ → Option Items
finish (line ts) p = Some ts
finish (plain i ts) p = Some (piece i p ts)
finish (comment ts) p = Some ts
finish (dollar_at_line q ts) p = None
finish (dollar q ts) p = None
finish (want k) p = None
finish (first k) p = None
finish (in_number i n g) p = None
finish (in_name i w k) p = None
finish (in_text i n g) p = None
finish (escape i n g) p = None
finish (quoted t g) p = None
finish (named i j w k) p = None
finish (aft t k) p = None
finish (half q h t k) p = None
finish (dots n r) p = None
finish (last_wanted r) p = None
finish (last_done c r) p = None
finish (bare t ts) p = None
finish (naming q j e ts) p = None
finish (loop_name q j e i w ts) p = None

pub data Out : Type 0 where
  accepted : Items → Out
  refused : Refusal → ℕ → Out

-- what goes on where the rules d fall due as broken: with the rules held (`true`) the first of them is the refusal
abbrev pub judged : Bool → List Broken → Out → Out
judged m [] o = o
judged true (f ∷ d) o = refused (refusal_of f.rule) f.place
judged false (f ∷ d) o = o

abbrev pub finished : Bool → Option Items → ℕ → Out
finished m (Some ts) p = judged m (unclosed (open_blocks ts) p) (accepted ts)
finished m None p = refused UnexpectedByte p

-- the bytes bs, which stand from p on, with the rules held (`true`) or without
unfoldable pub run : List ℕ → Bool → Config → ℕ → Out
run [] m c p = finished m (finish c p) p
run (b ∷ bs) m c p = elim (step c p b) [ stop ↦ refused UnexpectedByte p | go d c' ↦ judged m d (run bs m c' (p + 1)) ]

-- the reading of a template with the rules held (`true`) or without
abbrev pub reading : Bool → List ℕ → Out
reading m text = run text m (line Items.none) 0

-- the reading goes on at p in the configuration c
abbrev pub onward : Bool → List ℕ → Config → ℕ → Out
onward m text c p = run (drop p text) m c p

-- the answer to a move at p, with the bytes bs behind it
abbrev pub reacts_on : Bool → List ℕ → ℕ → Move → Out
reacts_on m bs p v = elim v [ stop ↦ refused UnexpectedByte p | go d c ↦ judged m d (run bs m c (p + 1)) ]

abbrev pub reacts : Bool → List ℕ → ℕ → Move → Out
reacts m text p v = reacts_on m (drop (p + 1) text) p v
