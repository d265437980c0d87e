-- What a configuration of the reading says of the bytes before it. Assumes nothing.
use Rattle.std.proofs.Common.{◌≡◌, ℕ, zero, suc, ◌+◌, ◌<◌, ◌≤◌, Bool, true, false, ◌⊎◌, List, length, get_or, Some, refl, subst, arith}
use Rattle.keywords.specs.declared.Keyword.{Keyword}
use Rattle.keywords.specs.declared.Keyword.TheVariants as keyword
use Rattle.tokens.specs.declared.operator.Half.{Half}
use Rattle.tokens.specs.declared.byte.Class.{Class}
use Rattle.tokens.specs.declared.byte.Class.TheVariants as is
use Rattle.tokens.specs.Bytes.{blank, digit, letter, word}
use Rattle.tokens.specs.Operators.{half_byte}
use Rattle.trees.specs.declared.Constant.{Constant}
use Rattle.trees.specs.declared.Quote.{Quote}
use Rattle.trees.specs.Tree.{Key, Expr, Args, Seq, Item, Items}
use Rattle.grammar.specs.Rules.{Broken}
use Rattle.grammar.specs.Machine.{Stack, Bracket, Run, Numbered, Join, Quoted, Digits, Config, Move, stop, go, late, constant}
use Rattle.grammar.specs.Grammar
use Rattle.grammar.specs.Grammar.{At, Every, Blanks, part, digit_in, valued, Numeral, Name, Command, Chars, Text, Spells, Keyed, Arguments, Groups, Group, Commas, Dots, Says, Plainly, Lines, Body, Begun}
use Rattle.grammar.proofs.Upto.{Counted, one, more, Upto, every_none}

-- a bracket with nothing in it yet
abbrev pub HollowIn : Bracket → Type 0
HollowIn (Bracket.round q) = ⊥
HollowIn (Bracket.square x y q) = ⊥
HollowIn (Bracket.call x y q f Args.nullary) = Unit {0}
HollowIn (Bracket.call x y q f (Args.argument s t)) = ⊥
HollowIn (Bracket.curly q Seq.empty zero) = Unit {0}
HollowIn (Bracket.curly q Seq.empty (suc n)) = ⊥
HollowIn (Bracket.curly q (Seq.item s t) n) = ⊥
HollowIn (Bracket.curly q (Seq.steps s a b c) n) = ⊥

abbrev pub Hollow : Stack → Type 0
Hollow (Stack.top q h ts) = ⊥
Hollow (Stack.binary q o l k) = ⊥
Hollow (Stack.signed q s k) = ⊥
Hollow (Stack.open' b k) = HollowIn b

-- the word of a loop
abbrev pub loop_word : Bool → Keyword
loop_word true = keyword.Joineach
loop_word false = keyword.Foreach

-- a class of bytes that go on a plain piece
abbrev pub PlainClass : Class → Type 0
PlainClass is.Newline = ⊥
PlainClass is.Return = ⊥
PlainClass is.Blank = Unit {0}
PlainClass is.Dollar = ⊥
PlainClass is.Quote = Unit {0}
PlainClass is.Backslash = Unit {0}
PlainClass is.Escaped = Unit {0}
PlainClass is.Other = Unit {0}

-- a class of bytes that stand for themselves in a text constant
abbrev pub TextClass : Class → Type 0
TextClass is.Newline = ⊥
TextClass is.Return = Unit {0}
TextClass is.Blank = Unit {0}
TextClass is.Dollar = Unit {0}
TextClass is.Quote = ⊥
TextClass is.Backslash = ⊥
TextClass is.Escaped = Unit {0}
TextClass is.Other = Unit {0}

-- a class of bytes that end no line
abbrev pub SameLine : Class → Type 0
SameLine is.Newline = ⊥
SameLine is.Return = Unit {0}
SameLine is.Blank = Unit {0}
SameLine is.Dollar = Unit {0}
SameLine is.Quote = Unit {0}
SameLine is.Backslash = Unit {0}
SameLine is.Escaped = Unit {0}
SameLine is.Other = Unit {0}

-- a class of bytes that are no blanks
abbrev pub Solid : Class → Type 0
Solid is.Newline = Unit {0}
Solid is.Return = Unit {0}
Solid is.Blank = ⊥
Solid is.Dollar = Unit {0}
Solid is.Quote = Unit {0}
Solid is.Backslash = Unit {0}
Solid is.Escaped = Unit {0}
Solid is.Other = Unit {0}

-- a class without `$`
abbrev pub NoDollar : Class → Type 0
NoDollar is.Newline = Unit {0}
NoDollar is.Return = Unit {0}
NoDollar is.Blank = Unit {0}
NoDollar is.Dollar = ⊥
NoDollar is.Quote = Unit {0}
NoDollar is.Backslash = Unit {0}
NoDollar is.Escaped = Unit {0}
NoDollar is.Other = Unit {0}

-- what a primary's tree says of its spelling
pub key_of : {text : List ℕ} {n i j : ℕ} {t : Expr} (c : Key) → t ≡ Expr.key c → Spells text n t i j → Keyed text c i j
key_of c e (Grammar.tighter s) = key_of c e s
key_of c e (Grammar.binary o l sl bl wr sr) = absurd (let z : ◌≡◌ {A = ℕ} 0 1 = cc in omega arith)
key_of c e (Grammar.signed s bl a t) = absurd (let z : ◌≡◌ {A = ℕ} 0 1 = cc in omega arith)
key_of c e (Grammar.number a bl nu) = absurd (let z : ◌≡◌ {A = ℕ} 0 1 = cc in omega arith)
key_of c e (Grammar.quote t bl q) = absurd (let z : ◌≡◌ {A = ℕ} 0 1 = cc in omega arith)
key_of {text} {n} {i} {j} c e (Grammar.key {k = k} h) = let same : k ≡ c = cc in subst (λ k. Keyed text k i j) same h
key_of c e (Grammar.call bl nm gap a s z) = absurd (let z : ◌≡◌ {A = ℕ} 0 1 = cc in omega arith)
key_of c e (Grammar.list bl a s z) = absurd (let z : ◌≡◌ {A = ℕ} 0 1 = cc in omega arith)
key_of c e (Grammar.round bl a s gap z) = absurd (let z : ◌≡◌ {A = ℕ} 0 1 = cc in omega arith)

pub record IsNumber (text : List ℕ) (c : Constant) (i j : ℕ) : Type 0 where
  pub blanks : Blanks text i c.span.«from»
  pub numeral : Numeral text c
  pub ends : j ≡ c.span.to

pub number_of : {text : List ℕ} {n i j : ℕ} {t : Expr} (c : Constant) → t ≡ Expr.number c → Spells text n t i j → IsNumber text c i j
number_of c e (Grammar.tighter s) = number_of c e s
number_of c e (Grammar.binary o l sl bl wr sr) = absurd (let z : ◌≡◌ {A = ℕ} 0 1 = cc in omega arith)
number_of c e (Grammar.signed s bl a t) = absurd (let z : ◌≡◌ {A = ℕ} 0 1 = cc in omega arith)
number_of {text} {n} {i} {j} c e (Grammar.number a bl nu) = let same : a ≡ c = cc in subst (λ c. IsNumber text c i a.span.to) same (record { blanks = bl; numeral = nu; ends = refl })
number_of c e (Grammar.quote t bl q) = absurd (let z : ◌≡◌ {A = ℕ} 0 1 = cc in omega arith)
number_of c e (Grammar.key h) = absurd (let z : ◌≡◌ {A = ℕ} 0 1 = cc in omega arith)
number_of c e (Grammar.call bl nm gap a s z) = absurd (let z : ◌≡◌ {A = ℕ} 0 1 = cc in omega arith)
number_of c e (Grammar.list bl a s z) = absurd (let z : ◌≡◌ {A = ℕ} 0 1 = cc in omega arith)
number_of c e (Grammar.round bl a s gap z) = absurd (let z : ◌≡◌ {A = ℕ} 0 1 = cc in omega arith)

pub constant_is : (e : Expr) (c : Constant) → constant e ≡ Some c → e ≡ Expr.number c
constant_is (Expr.number a) c e = cc
constant_is (Expr.text t) c e = absurd (let z : ◌≡◌ {A = ℕ} 0 1 = cc in omega arith)
constant_is (Expr.key k) c e = absurd (let z : ◌≡◌ {A = ℕ} 0 1 = cc in omega arith)
constant_is (Expr.call i j q f s z) c e = absurd (let z : ◌≡◌ {A = ℕ} 0 1 = cc in omega arith)
constant_is (Expr.list q s) c e = absurd (let z : ◌≡◌ {A = ℕ} 0 1 = cc in omega arith)
constant_is (Expr.round q t) c e = absurd (let z : ◌≡◌ {A = ℕ} 0 1 = cc in omega arith)
constant_is (Expr.signed q s t) c e = absurd (let z : ◌≡◌ {A = ℕ} 0 1 = cc in omega arith)
constant_is (Expr.binary q o l r) c e = absurd (let z : ◌≡◌ {A = ℕ} 0 1 = cc in omega arith)

-- a group of two items
pub counted_none : {text : List ℕ} {n i j : ℕ} {s₀ s : Seq} → Counted text n s₀ s i j → n ≡ 0 → ⊥
counted_none (one t) e = omega arith
counted_none (more c bl a t) e = omega arith

pub record OneItem (text : List ℕ) (s₀ s : Seq) (a : Expr) (i j : ℕ) : Type 0 where
  pub same : s₀ ≡ s
  pub spells : Spells text 1 a i j

pub counted_one : {text : List ℕ} {n i j : ℕ} {s₀ s' : Seq} (s : Seq) (a : Expr) → Counted text n s₀ s' i j → n ≡ 1 → s' ≡ Seq.item s a → OneItem text s₀ s a i j
counted_one {text} {n} {i} {j} {s₀} s a (one {t = t} x) e f = let same : t ≡ a = cc in record { same = cc; spells = subst (λ t. Spells text 1 t i j) same x }
counted_one s a (more c bl z t) e f = absurd (counted_none c (omega arith))

pub record TwoItems (text : List ℕ) (s₀ s : Seq) (a b : Expr) (i j : ℕ) : Type 0 where
  pub same : s₀ ≡ s
  pub mid : ℕ
  pub left : Spells text 1 a i mid
  pub place : ℕ
  pub gap : Blanks text mid place
  pub comma : At text place 44
  pub right : Spells text 1 b (place + 1) j

pub counted_two : {text : List ℕ} {n i j : ℕ} {s₀ s' : Seq} (s : Seq) (a b : Expr) → Counted text n s₀ s' i j → n ≡ 2 → s' ≡ Seq.item (Seq.item s a) b → TwoItems text s₀ s a b i j
counted_two s a b (one t) e f = absurd (omega arith)
counted_two {text} {n} {i} {j} s a b (more {b = q} {t = t} c bl z x) e f =
    let o = counted_one s a c (omega arith) cc in
    let same : t ≡ b = cc in
    record { same = o.same; mid = _; left = o.spells; place = q; gap = bl; comma = z; right = subst (λ t. Spells text 1 t (q + 1) j) same x }

-- what has an item is not empty
pub no_arguments : {text : List ℕ} {s : Args} {i j : ℕ} → Arguments text s i j → s ≡ Args.nullary → ⊥
no_arguments (Grammar.argument t) e = let z : ◌≡◌ {A = ℕ} 0 1 = cc in omega arith
no_arguments (Grammar.and_argument r bl a t) e = let z : ◌≡◌ {A = ℕ} 0 1 = cc in omega arith

mutual
  pub no_group : {text : List ℕ} {s₀ s : Seq} {i j : ℕ} → Group text s₀ s i j → s ≡ Seq.empty → ⊥
  no_group (Grammar.expressions c) e = no_commas c e
  no_group (Grammar.sequence a b c x1 x2 x3 x4 x5 x6 x7 x8 x9 y1 y2 y3) e = let z : ◌≡◌ {A = ℕ} 0 1 = cc in omega arith

  pub no_commas : {text : List ℕ} {s₀ s : Seq} {i j : ℕ} → Commas text s₀ s i j → s ≡ Seq.empty → ⊥
  no_commas (Grammar.item t) e = let z : ◌≡◌ {A = ℕ} 0 1 = cc in omega arith
  no_commas (Grammar.and_item c bl a t) e = let z : ◌≡◌ {A = ℕ} 0 1 = cc in omega arith

pub no_groups : {text : List ℕ} {s : Seq} {i j : ℕ} → Groups text s i j → s ≡ Seq.empty → ⊥
no_groups (Grammar.group g) e = no_group g e
no_groups (Grammar.and_group gs bl a g) e = no_group g e

module _ (text : List ℕ) where
  pub record Wanted (k : Stack) (p : ℕ) : Type 0 where
    pub from : ℕ
    pub upto : Upto text k from
    pub blanks : Blanks text from p

  -- the first two constants of a sequence, and the comma at e behind them
  pub record Paired (r : Run) (e : ℕ) : Type 0 where
    pub begin : ℕ
    pub upto : Upto text (Stack.open' (Bracket.curly r.place r.items 0) r.stack) begin
    pub blanks : Blanks text begin r.first.span.«from»
    pub numeral : Numeral text r.first
    pub place : ℕ
    pub gap : Blanks text r.first.span.to place
    pub comma : At text place 44
    pub blanks_next : Blanks text (place + 1) r.second.span.«from»
    pub numeral_next : Numeral text r.second
    pub gap_next : Blanks text r.second.span.to e
    pub comma_next : At text e 44

  pub record DotOne (r : Run) (p : ℕ) : Type 0 where
    pub comma : ℕ
    pub paired : Paired r comma
    pub place : ℕ
    pub gap : Blanks text (comma + 1) place
    pub dot : At text place 46
    pub is : p ≡ place + 1

  pub record DotTwo (r : Run) (p : ℕ) : Type 0 where
    pub comma : ℕ
    pub paired : Paired r comma
    pub place : ℕ
    pub gap : Blanks text (comma + 1) place
    pub dot : At text place 46
    pub dot_next : At text (place + 1) 46
    pub is : p ≡ place + 2

  pub record DotAll (r : Run) (p : ℕ) : Type 0 where
    pub comma : ℕ
    pub paired : Paired r comma
    pub dots : Dots text (comma + 1) p

  abbrev pub Dotting : ℕ → Run → ℕ → Type 0
  Dotting zero r p = DotAll r p
  Dotting (suc zero) r p = DotTwo r p
  Dotting (suc (suc zero)) r p = DotOne r p
  Dotting (suc (suc (suc n))) r p = ⊥

  pub record LastWanted (r : Run) (p : ℕ) : Type 0 where
    pub comma : ℕ
    pub paired : Paired r comma
    pub place : ℕ
    pub dots : Dots text (comma + 1) place
    pub comma_last : At text place 44
    pub blanks : Blanks text (place + 1) p

  pub record LastDone (c : Constant) (r : Run) (p : ℕ) : Type 0 where
    pub begin : ℕ
    pub upto : Upto text (Stack.open' (Bracket.curly r.place r.items 0) r.stack) begin
    pub group : Group text r.items (Seq.steps r.items r.first r.second c) begin c.span.to
    pub gap : Blanks text c.span.to p

  -- a number constant may begin at i
  abbrev pub Placed : Numbered → ℕ → Type 0
  Placed (Numbered.operand k) i = Wanted k i
  Placed (Numbered.last r) i = LastWanted r i

  pub data Based (i : ℕ) : ℕ → ℕ → ℕ → Type 0 where
    ten : {v p : ℕ} → i < p → (get_or text i 0 ≡ 48 → ⊥) → Every digit text i p → v ≡ valued 10 0 (part text i p) → Based i 10 v p
    eight : {v p : ℕ} → At text i 48 → i < p → Every (digit_in 8) text (i + 1) p → v ≡ valued 8 0 (part text (i + 1) p) → Based i 8 v p
    sixteen : {v p : ℕ} → At text i 48 → (At text (i + 1) 120) ⊎ (At text (i + 1) 88) → i + 2 < p → Every (digit_in 16) text (i + 2) p → v ≡ valued 16 0 (part text (i + 2) p) → Based i 16 v p

  pub record Prefixed (i p : ℕ) : Type 0 where
    pub zero_first : At text i 48
    pub mark : (At text (i + 1) 120) ⊎ (At text (i + 1) 88)
    pub is : p ≡ i + 2

  abbrev pub Digiting : ℕ → Digits → ℕ → Type 0
  Digiting i Digits.nought p = At text i 48 × (p ≡ i + 1)
  Digiting i Digits.prefix p = Prefixed i p
  Digiting i (Digits.digits n v) p = Based i n v p

  -- the bytes of a word so far
  pub record Spelling (i : ℕ) (w : List ℕ) (p : ℕ) : Type 0 where
    pub some : i < p
    pub first : letter (get_or text i 0) ≡ true
    pub words : Every word text i p
    pub is : w ≡ part text i p

  pub record Called (i j : ℕ) (w : List ℕ) (k : Stack) (p : ℕ) : Type 0 where
    pub wanted : Wanted k i
    pub name : Name text i j
    pub is : w ≡ part text i j
    pub gap : Blanks text j p

  pub record Operand (t : Expr) (k : Stack) (p : ℕ) : Type 0 where
    pub from : ℕ
    pub upto : Upto text k from
    pub to : ℕ
    pub spells : Spells text 12 t from to
    pub gap : Blanks text to p

  pub record Halfway (q : ℕ) (h : Half) (t : Expr) (k : Stack) (p : ℕ) : Type 0 where
    pub operand : Operand t k q
    pub sign : At text q (half_byte h)
    pub is : p ≡ q + 1

  -- an instruction whose word ends before j
  pub record Worded (c : Keyword) (q j : ℕ) (ts : Items) : Type 0 where
    pub begun : Begun text ts q
    pub dollar : At text q 36
    pub from : ℕ
    pub blanks : Blanks text (q + 1) from
    pub command : Command text c from j

  -- a JOINEACH up to its delimiter at i
  pub record Joining (j : Join) (i : ℕ) : Type 0 where
    pub worded : Worded keyword.Joineach j.place j.word j.items
    pub blanks : Blanks text j.word j.«from»
    pub name : Name text j.«from» j.to
    pub end : ℕ
    pub spells : Spells text 1 j.list j.to end
    pub gap : Blanks text end i

  -- a text constant may begin at i
  abbrev pub Told : Quoted → ℕ → Type 0
  Told (Quoted.operand k) i = Wanted k i
  Told (Quoted.delimiter j) i = Joining j i

  pub record Quoting (i n : ℕ) (g : Quoted) (p : ℕ) : Type 0 where
    pub told : Told g i
    pub quote : At text i 34
    pub chars : Chars text n (i + 1) p

  pub record Escaping (i n : ℕ) (g : Quoted) (p : ℕ) : Type 0 where
    pub told : Told g i
    pub quote : At text i 34
    pub place : ℕ
    pub chars : Chars text n (i + 1) place
    pub slash : At text place 92
    pub is : p ≡ place + 1

  pub record QuoteDone (t : Quote) (g : Quoted) (p : ℕ) : Type 0 where
    pub told : Told g t.span.«from»
    pub quote : Text text t
    pub is : t.span.to ≡ p

  -- a complete instruction, and blanks up to p
  pub record Bare (t : Item) (ts : Items) (p : ℕ) : Type 0 where
    pub place : ℕ
    pub begun : Begun text ts place
    pub dollar : At text place 36
    pub to : ℕ
    pub says : (k : ℕ) → Blanks text to k → Says text t place k
    pub gap : Blanks text to p

  pub record Naming (q j : ℕ) (e : Bool) (ts : Items) (p : ℕ) : Type 0 where
    pub worded : Worded (loop_word e) q j ts
    pub gap : Blanks text j p

  pub record AtLine (ts : Items) (p : ℕ) : Type 0 where
    pub from : ℕ
    pub lines : Lines text ts from
    pub blanks : Blanks text from p

  pub record InPlain (i : ℕ) (ts : Items) (p : ℕ) : Type 0 where
    pub begun : Begun text ts i
    pub onwards : i ≤ p
    pub inside : p ≤ length text
    pub all : (q : ℕ) → i ≤ q → q < p → Plainly text q
    pub shut : i ≡ p → Body text ts i

  pub record InComment (ts : Items) (p : ℕ) : Type 0 where
    pub from : ℕ
    pub lines : Lines text ts from
    pub place : ℕ
    pub blanks : Blanks text from place
    pub dollar : At text place 36
    pub blank_next : blank (get_or text (place + 1) 0) ≡ true
    pub far : place + 1 < p
    pub inside : p ≤ length text
    pub all : (q : ℕ) → place < q → q < p → get_or text q 0 ≡ 10 → ⊥

  pub record DollarAtLine (q : ℕ) (ts : Items) (p : ℕ) : Type 0 where
    pub from : ℕ
    pub lines : Lines text ts from
    pub blanks : Blanks text from q
    pub dollar : At text q 36
    pub is : p ≡ q + 1

  pub record DollarElse (q : ℕ) (ts : Items) (p : ℕ) : Type 0 where
    pub body : Body text ts q
    pub dollar : At text q 36
    pub is : p ≡ q + 1

  -- what a configuration says of the bytes before p
  abbrev pub Rep : Config → ℕ → Type 0
  Rep (Config.line ts) p = AtLine ts p
  Rep (Config.plain i ts) p = InPlain i ts p
  Rep (Config.comment ts) p = InComment ts p
  Rep (Config.dollar_at_line q ts) p = DollarAtLine q ts p
  Rep (Config.dollar q ts) p = DollarElse q ts p
  Rep (Config.want k) p = Wanted k p
  Rep (Config.first k) p = Wanted k p × Hollow k
  Rep (Config.in_number i n g) p = Placed g i × Digiting i n p
  Rep (Config.in_name i w k) p = Wanted k i × Spelling i w p
  Rep (Config.in_text i n g) p = Quoting i n g p
  Rep (Config.escape i n g) p = Escaping i n g p
  Rep (Config.quoted t g) p = QuoteDone t g p
  Rep (Config.named i j w k) p = Called i j w k p
  Rep (Config.aft t k) p = Operand t k p
  Rep (Config.half q h t k) p = Halfway q h t k p
  Rep (Config.dots n r) p = Dotting n r p
  Rep (Config.last_wanted r) p = LastWanted r p
  Rep (Config.last_done c r) p = LastDone c r p
  Rep (Config.bare t ts) p = Bare t ts p
  Rep (Config.naming q j e ts) p = Naming q j e ts p
  Rep (Config.loop_name q j e i w ts) p = Naming q j e ts i × Spelling i w p

  abbrev pub Next : ℕ → Move → Type 0
  Next p stop = Unit {0}
  Next p (go d c) = Rep c (p + 1)

  -- what falls due changes nothing here
  pub late_next : (p : ℕ) (d : List Broken) (v : Move) → Next p v → Next p (late d v)
  late_next p d stop h = tt
  late_next p d (go e c) h = h

  pub none_yet : (p : ℕ) → p < length text → Blanks text (p + 1) (p + 1)
  none_yet p lt = every_none blank text (p + 1) (omega arith)

  pub none_here : (p : ℕ) → p < length text → Blanks text p p
  none_here p lt = every_none blank text p (omega arith)
