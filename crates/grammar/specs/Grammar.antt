-- The grammar of templates: which tree stands in a text, from place i to place j. The rules 4 to 8 are not part of it: a name or
-- constant has any length, brackets nest to any depth, any name is a function with any number of arguments, and blocks need not match
-- (Rules.antt has those rules). Assumes nothing.
use Rattle.std.specs.Prelude.{◌≡◌, ℕ, ◌+◌, ◌*◌, ◌<◌, ◌≤◌, Bool, true, false, ◌⊎◌, List, [], ◌∷◌, length, Some, None, ◌≢◌, nat_lt, slice_index, slice_range}
use Rattle.keywords.specs.declared.Keyword.{Keyword}
use Rattle.keywords.specs.declared.Keyword.TheVariants as keyword
use Rattle.tokens.specs.declared.operator.Op.{Op}
use Rattle.tokens.specs.declared.operator.Op.TheVariants as op
use Rattle.tokens.specs.declared.operator.Sign.{Sign}
use Rattle.tokens.specs.Bytes.{blank, digit, letter, word, digit_value}
use Rattle.tokens.specs.Operators.{level, sign_byte}
use Rattle.trees.specs.declared.Constant.{Constant}
use Rattle.trees.specs.declared.Quote.{Quote}
use Rattle.trees.specs.Tree.{Key, Expr, Args, Seq, Opening, Item, Items}
use Rattle.grammar.specs.Words.{function, keyword_of}

-- byte b stands at place i
abbrev pub At : List ℕ → ℕ → ℕ → Type 0
At text i b = (i < length text) × (slice_index text i ≡ b)

-- each byte from i to j passes the test
pub record Every (test : ℕ → Bool) (text : List ℕ) (i j : ℕ) : Type 0 where
  pub onwards : i ≤ j
  pub inside : j ≤ length text
  pub all : (q : ℕ) → i ≤ q → q < j → test (slice_index text q) ≡ true

-- spaces and tabs, or nothing
abbrev pub Blanks : List ℕ → ℕ → ℕ → Type 0
Blanks text i j = Every blank text i j

abbrev pub part : List ℕ → ℕ → ℕ → List ℕ
part text i j = slice_range text i j

-- a byte that is a digit in the base n, and the value of digits after the value v
abbrev pub digit_in : ℕ → ℕ → Bool
digit_in n b = nat_lt (digit_value b) n

abbrev pub valued : ℕ → ℕ → List ℕ → ℕ
valued n v [] = v
valued n v (b ∷ bs) = valued n (n * v + digit_value b) bs

-- a number constant from i to j: decimal without a 0 before, `0` with octal digits or none, or `0x` with hexadecimal digits
pub data Number (text : List ℕ) (i j : ℕ) : ℕ → Type 0 where
  decimal : i < j → (slice_index text i ≢ 48) → Every digit text i j → Number text i j (valued 10 0 (part text i j))
  octal : At text i 48 → i < j → Every (digit_in 8) text (i + 1) j → Number text i j (valued 8 0 (part text (i + 1) j))
  hexadecimal : At text i 48 → (At text (i + 1) 120) ⊎ (At text (i + 1) 88) → i + 2 < j → Every (digit_in 16) text (i + 2) j → Number text i j (valued 16 0 (part text (i + 2) j))

abbrev pub Numeral : List ℕ → Constant → Type 0
Numeral text c = Number text c.span.«from» c.span.to c.value

-- letters, digits, `_` or `.` from i to j, as long as it goes, a letter or `_` first
pub record Word (text : List ℕ) (i j : ℕ) : Type 0 where
  pub some : i < j
  pub first : letter (slice_index text i) ≡ true
  pub words : Every word text i j
  pub longest : word (slice_index text j) ≡ false

-- a name is no word of an instruction
pub record Name (text : List ℕ) (i j : ℕ) : Type 0 where
  pub spelled : Word text i j
  pub free : keyword_of (part text i j) ≡ None

-- the word of an instruction
pub record Command (text : List ℕ) (w : Keyword) (i j : ℕ) : Type 0 where
  pub spelled : Word text i j
  pub is : keyword_of (part text i j) ≡ Some w

-- what stands between the quotes of a text constant, n bytes after the escapes `\n \t \\ \"`
pub data Chars (text : List ℕ) : ℕ → ℕ → ℕ → Type 0 where
  none : {i : ℕ} → Chars text 0 i i
  plain : {n i j : ℕ} → Chars text n i j → j < length text → (slice_index text j ≢ 34) → (slice_index text j ≢ 92) → (slice_index text j ≢ 10) → Chars text (n + 1) i (j + 1)
  escaped : {n i j : ℕ} (b : ℕ) → Chars text n i j → At text j 92 → At text (j + 1) b → ((b ≡ 34) ⊎ (b ≡ 92)) ⊎ ((b ≡ 110) ⊎ (b ≡ 116)) → Chars text (n + 1) i (j + 2)

-- a text constant
pub record Text (text : List ℕ) (t : Quote) : Type 0 where
  pub last : ℕ
  pub opens : At text t.span.«from» 34
  pub chars : Chars text t.bytes (t.span.«from» + 1) last
  pub closes : At text last 34
  pub ends : t.span.to ≡ last + 1

-- the bytes of an operator of one byte and of two
abbrev pub One : List ℕ → ℕ → ℕ → ℕ → Type 0
One text b i j = At text i b × (j ≡ i + 1)

abbrev pub Two : List ℕ → ℕ → ℕ → ℕ → ℕ → Type 0
Two text b c i j = At text i b × At text (i + 1) c × (j ≡ i + 2)

abbrev pub Written : List ℕ → Op → ℕ → ℕ → Type 0
Written text op.Or i j = Two text 124 124 i j
Written text op.And i j = Two text 38 38 i j
Written text op.BitOr i j = One text 124 i j
Written text op.BitXor i j = One text 94 i j
Written text op.BitAnd i j = One text 38 i j
Written text op.Equal i j = Two text 61 61 i j
Written text op.Unequal i j = Two text 33 61 i j
Written text op.Less i j = One text 60 i j
Written text op.Greater i j = One text 62 i j
Written text op.LessEqual i j = Two text 60 61 i j
Written text op.GreaterEqual i j = Two text 62 61 i j
Written text op.ShiftLeft i j = Two text 60 60 i j
Written text op.ShiftRight i j = Two text 62 62 i j
Written text op.Add i j = One text 43 i j
Written text op.Subtract i j = One text 45 i j
Written text op.Multiply i j = One text 42 i j
Written text op.Divide i j = One text 47 i j
Written text op.Remainder i j = One text 37 i j

-- Spells text n t i j: from i to j stands the expression t of level n. Levels 1 to 10 are the operators', 11 has a sign, 12 has none.
-- Blanks may stand before each token.
mutual
  pub data Spells (text : List ℕ) : ℕ → Expr → ℕ → ℕ → Type 0 where
    tighter : {n : ℕ} {t : Expr} {i j : ℕ} → Spells text (n + 1) t i j → Spells text n t i j
    -- operators group to the left: the right side is tighter
    binary : {n : ℕ} {l r : Expr} {i a b c j : ℕ} (o : Op) → level o ≡ n → Spells text n l i a → Blanks text a b → Written text o b c → Spells text (n + 1) r c j → Spells text n (Expr.binary b o l r) i j
    signed : {t : Expr} {i a j : ℕ} (s : Sign) → Blanks text i a → At text a (sign_byte s) → Spells text 12 t (a + 1) j → Spells text 11 (Expr.signed a s t) i j
    number : {i : ℕ} (c : Constant) → Blanks text i c.span.«from» → Numeral text c → Spells text 12 (Expr.number c) i c.span.to
    quote : {i : ℕ} (t : Quote) → Blanks text i t.span.«from» → Text text t → Spells text 12 (Expr.text t) i t.span.to
    key : {k : Key} {i j : ℕ} → Keyed text k i j → Spells text 12 (Expr.key k) i j
    call : {i a b c e : ℕ} {s : Args} → Blanks text i a → Name text a b → Blanks text b c → At text c 40 → Listed text s (c + 1) e → At text e 41 → Spells text 12 (Expr.call a b c (function (part text a b)) s e) i (e + 1)
    list : {i a e : ℕ} {s : Seq} → Blanks text i a → At text a 123 → ItemsOf text s (a + 1) e → At text e 125 → Spells text 12 (Expr.list a s) i (e + 1)
    round : {i a b c : ℕ} {t : Expr} → Blanks text i a → At text a 40 → Spells text 1 t (a + 1) b → Blanks text b c → At text c 41 → Spells text 12 (Expr.round a t) i (c + 1)

  -- a key: a name, or a name with a subscript
  pub data Keyed (text : List ℕ) : Key → ℕ → ℕ → Type 0 where
    plain : {i a j : ℕ} → Blanks text i a → Name text a j → Keyed text (Key.name a j) i j
    numbered : {i a b c e f : ℕ} {t : Expr} → Blanks text i a → Name text a b → Blanks text b c → At text c 91 → Spells text 1 t (c + 1) e → Blanks text e f → At text f 93 → Keyed text (Key.index a b c t) i (f + 1)

  -- arguments: nothing, or expressions with a comma between each two; and the blanks after them
  pub data Listed (text : List ℕ) : Args → ℕ → ℕ → Type 0 where
    no_arguments : {i j : ℕ} → Blanks text i j → Listed text Args.nullary i j
    arguments : {i a j : ℕ} {s : Args} → Arguments text s i a → Blanks text a j → Listed text s i j

  pub data Arguments (text : List ℕ) : Args → ℕ → ℕ → Type 0 where
    argument : {i j : ℕ} {t : Expr} → Spells text 1 t i j → Arguments text (Args.argument Args.nullary t) i j
    and_argument : {i a b j : ℕ} {s : Args} {t : Expr} → Arguments text s i a → Blanks text a b → At text b 44 → Spells text 1 t (b + 1) j → Arguments text (Args.argument s t) i j

  -- the items of a list: nothing, or groups with a semicolon between each two; and the blanks after them
  pub data ItemsOf (text : List ℕ) : Seq → ℕ → ℕ → Type 0 where
    no_items : {i j : ℕ} → Blanks text i j → ItemsOf text Seq.empty i j
    items : {i a j : ℕ} {s : Seq} → Groups text s i a → Blanks text a j → ItemsOf text s i j

  pub data Groups (text : List ℕ) : Seq → ℕ → ℕ → Type 0 where
    group : {i j : ℕ} {s : Seq} → Group text Seq.empty s i j → Groups text s i j
    and_group : {i a b j : ℕ} {s s' : Seq} → Groups text s i a → Blanks text a b → At text b 59 → Group text s s' (b + 1) j → Groups text s' i j

  -- a group behind the items s₀: expressions with a comma between each two, or a sequence
  pub data Group (text : List ℕ) : Seq → Seq → ℕ → ℕ → Type 0 where
    expressions : {i j : ℕ} {s₀ s : Seq} → Commas text s₀ s i j → Group text s₀ s i j
    sequence : {s : Seq} {i d e f : ℕ} (a b c : Constant) → Blanks text i a.span.«from» → Numeral text a → Blanks text a.span.to d → At text d 44 → Blanks text (d + 1) b.span.«from» → Numeral text b → Blanks text b.span.to e → At text e 44 → Dots text (e + 1) f → At text f 44 → Blanks text (f + 1) c.span.«from» → Numeral text c → Group text s (Seq.steps s a b c) i c.span.to

  pub data Commas (text : List ℕ) : Seq → Seq → ℕ → ℕ → Type 0 where
    item : {i j : ℕ} {s : Seq} {t : Expr} → Spells text 1 t i j → Commas text s (Seq.item s t) i j
    and_item : {i a b j : ℕ} {s₀ s : Seq} {t : Expr} → Commas text s₀ s i a → Blanks text a b → At text b 44 → Spells text 1 t (b + 1) j → Commas text s₀ (Seq.item s t) i j

  -- `...`, and blanks before and after it
  pub data Dots (text : List ℕ) : ℕ → ℕ → Type 0 where
    dots : {i a j : ℕ} → Blanks text i a → At text a 46 → At text (a + 1) 46 → At text (a + 2) 46 → Blanks text (a + 3) j → Dots text i j

-- an instruction: its `$` stands at i, and the `$` that closes it at k
pub data Says (text : List ℕ) : Item → ℕ → ℕ → Type 0 where
  show : {t : Expr} {i j k : ℕ} → Spells text 1 t (i + 1) j → Blanks text j k → Says text (Item.show i t) i k
  assign : {c : Key} {t : Expr} {i a b j k : ℕ} → Keyed text c (i + 1) a → Blanks text a b → At text b 61 → Spells text 1 t (b + 1) j → Blanks text j k → Says text (Item.assign i c t) i k
  if : {t : Expr} {i a b j k : ℕ} → Blanks text (i + 1) a → Command text keyword.If a b → Spells text 1 t b j → Blanks text j k → Says text (Item.opens i b (Opening.if t)) i k
  elif : {t : Expr} {i a b j k : ℕ} → Blanks text (i + 1) a → Command text keyword.Elif a b → Spells text 1 t b j → Blanks text j k → Says text (Item.elif i b t) i k
  else : {i a b k : ℕ} → Blanks text (i + 1) a → Command text keyword.Else a b → Blanks text b k → Says text (Item.else i b) i k
  end : {i a b k : ℕ} → Blanks text (i + 1) a → Command text keyword.End a b → Blanks text b k → Says text (Item.end i b) i k
  while : {t : Expr} {i a b j k : ℕ} → Blanks text (i + 1) a → Command text keyword.While a b → Spells text 1 t b j → Blanks text j k → Says text (Item.opens i b (Opening.while t)) i k
  foreach : {t : Expr} {i a b x y j k : ℕ} → Blanks text (i + 1) a → Command text keyword.Foreach a b → Blanks text b x → Name text x y → Spells text 1 t y j → Blanks text j k → Says text (Item.opens i b (Opening.foreach x y t)) i k
  joineach : {t : Expr} {i a b x y j k : ℕ} (d : Quote) → Blanks text (i + 1) a → Command text keyword.Joineach a b → Blanks text b x → Name text x y → Spells text 1 t y j → Blanks text j d.span.«from» → Text text d → Blanks text d.span.to k → Says text (Item.opens i b (Opening.joineach x y t d)) i k

-- a byte of a plain piece
abbrev pub Plainly : List ℕ → ℕ → Type 0
Plainly text i = (slice_index text i ≢ 10) × (slice_index text i ≢ 13) × (slice_index text i ≢ 36)

mutual
  -- the bytes before i are whole lines, and say the items
  pub data Lines (text : List ℕ) : Items → ℕ → Type 0 where
    begin : Lines text Items.none 0
    next : {ts : Items} {i : ℕ} → Line text ts i → At text i 10 → Lines text ts (i + 1)

  -- the last line may end at i
  pub data Line (text : List ℕ) : Items → ℕ → Type 0 where
    -- blanks at a line's start are dropped
    empty : {ts : Items} {i j : ℕ} → Lines text ts i → Blanks text i j → Line text ts j
    -- a comment: `$` and a blank
    comment : {ts : Items} {i j e : ℕ} → Lines text ts i → Blanks text i j → At text j 36 → j + 1 < e → blank (slice_index text (j + 1)) ≡ true → e ≤ length text → ((q : ℕ) → j < q → q < e → slice_index text q ≢ 10) → Line text ts e
    body : {ts : Items} {i : ℕ} → Body text ts i → Line text ts i

  -- up to i the last line has begun, and no piece of plain text stands open
  pub data Body (text : List ℕ) : Items → ℕ → Type 0 where
    return : {ts : Items} {i : ℕ} → Begun text ts i → At text i 13 → Body text ts (i + 1)
    -- the longest stretch without 10, 13 and `$`
    piece : {ts : Items} {i j : ℕ} → Begun text ts i → i < j → j ≤ length text → ((q : ℕ) → i ≤ q → q < j → Plainly text q) → (j < length text → Plainly text j → ⊥) → Body text (Items.then ts (Item.piece i j)) j
    dollar : {ts : Items} {i : ℕ} → Begun text ts i → At text i 36 → At text (i + 1) 36 → Body text (Items.then ts (Item.dollar i)) (i + 2)
    instruction : {ts : Items} {t : Item} {i k : ℕ} → Begun text ts i → At text i 36 → Says text t i k → At text k 36 → Body text (Items.then ts t) (k + 1)

  -- a piece or `$` may begin at i: within a line, or at its first byte that is no blank and begins no comment
  pub data Begun (text : List ℕ) : Items → ℕ → Type 0 where
    inside : {ts : Items} {i : ℕ} → Body text ts i → Begun text ts i
    first : {ts : Items} {i j : ℕ} → Lines text ts i → Blanks text i j → (blank (slice_index text j) ≢ true) → (slice_index text j ≡ 36 → blank (slice_index text (j + 1)) ≢ true) → Begun text ts j

-- the text is a template that says the items
abbrev pub Template : List ℕ → Items → Type 0
Template text ts = Line text ts (length text)
