-- The rules of reading beyond the grammar (numbers 4 to 8): which of them a tree breaks, what each names, and the byte at which it
-- falls due. They are listed in the order in which they fall due, at one byte the smaller number first. Assumes nothing.
use Rattle.std.specs.Prelude.{ℕ, suc, ◌-◌, ◌%◌, Bool, true, false, cond, ◌&&◌, List, [], ◌∷◌, ◌++◌, length, Some, None, Option, ◌==◌, nat_le, nat_lt}
use Rattle.functions.specs.declared.Signature.{Signature}
use Rattle.refusals.specs.declared.Refusal.{Refusal}
use Rattle.refusals.specs.declared.Refusal.TheVariants.{UnmatchedBlock, BadNumber, TooLong, NestedTooDeep, BadCall}
use Rattle.trees.specs.declared.Constant.{Constant}
use Rattle.trees.specs.declared.Quote.{Quote}
use Rattle.trees.specs.Tree.{Key, Expr, Args, Seq, Opening, Item, Items, count_args}

-- the rules, by their numbers
pub data Rule : Type 0 where
  four five six seven eight : Rule

abbrev pub refusal_of : Rule → Refusal
refusal_of four = UnmatchedBlock
refusal_of five = BadNumber
refusal_of six = TooLong
refusal_of seven = NestedTooDeep
refusal_of eight = BadCall

-- a rule that is broken: the place that it names, and the byte at which it falls due
pub record Broken : Type 0 where
  pub rule : Rule
  pub place : ℕ
  pub due : ℕ

-- where the test fails, the rule is broken
abbrev pub breaks : Bool → Rule → ℕ → ℕ → List Broken
breaks true r q p = []
breaks false r q p = record { rule = r; place = q; due = p } ∷ []

-- a number constant is at most 9223372036854775807, and has at most 32 bytes as written; due at the byte after it
abbrev pub large : Constant → List Broken
large c = breaks (nat_le c.value 9223372036854775807) five c.span.«from» c.span.to

abbrev pub lengthy : Constant → List Broken
lengthy c = breaks (nat_le (c.span.to - c.span.«from») 32) six c.span.«from» c.span.to

-- a text constant has at most 32 bytes after escapes; due at the byte after it
abbrev pub wide : Quote → List Broken
wide t = breaks (nat_le t.bytes 32) six t.span.«from» t.span.to

-- a name has at most 24 bytes; due at the byte after it
abbrev pub long : ℕ → ℕ → List Broken
long i j = breaks (nat_le (j - i) 24) six i j

-- at most 12 brackets stand open inside one another: d stand open around the one at q; due there
abbrev pub deep : ℕ → ℕ → List Broken
deep d q = breaks (nat_lt d 12) seven q q

-- a function is known; due at the call's `(`
abbrev pub known : ℕ → Option Signature → ℕ → List Broken
known i (Some f) q = []
known i None q = record { rule = eight; place = i; due = q } ∷ []

-- it has as many arguments as it takes; due at the call's `)`
abbrev pub counted : ℕ → Option Signature → ℕ → ℕ → List Broken
counted i (Some f) n z = breaks (nat_le f.least n && nat_le n f.most) eight i z
counted i None n z = []

-- with the difference d of a and b, not 0, c is b and some whole times d
abbrev pub arrives : ℕ → ℕ → ℕ → Bool
arrives a b c = cond (nat_lt a b) (nat_le b c && (c - b) % (b - a) == 0) (cond (nat_lt b a) (nat_le c b && (b - c) % (a - b) == 0) false)

-- a sequence arrives; it is named by its first constant, and due at the byte after its last
abbrev pub arrival : Constant → Constant → Constant → List Broken
arrival a b c = breaks (arrives a.value b.value c.value) five a.span.«from» c.span.to

abbrev pub broken_number : Constant → List Broken
broken_number c = large c ++ lengthy c

-- the rules that an expression in d open brackets breaks
unfoldable mutual
  pub broken : ℕ → Expr → List Broken
  broken d (Expr.number c) = broken_number c
  broken d (Expr.text t) = wide t
  broken d (Expr.key k) = broken_key d k
  broken d (Expr.call i j q f s z) = long i j ++ deep d q ++ known i f q ++ broken_args (suc d) s ++ counted i f (count_args s) z
  broken d (Expr.list q s) = deep d q ++ broken_seq (suc d) s
  broken d (Expr.round q e) = deep d q ++ broken (suc d) e
  broken d (Expr.signed q s e) = broken d e
  broken d (Expr.binary q o l r) = broken d l ++ broken d r

  pub broken_key : ℕ → Key → List Broken
  broken_key d (Key.name i j) = long i j
  broken_key d (Key.index i j q e) = long i j ++ deep d q ++ broken (suc d) e

  pub broken_args : ℕ → Args → List Broken
  broken_args d Args.nullary = []
  broken_args d (Args.argument s e) = broken_args d s ++ broken d e

  pub broken_seq : ℕ → Seq → List Broken
  broken_seq d Seq.empty = []
  broken_seq d (Seq.item s e) = broken_seq d s ++ broken d e
  broken_seq d (Seq.steps s a b c) = broken_seq d s ++ broken_number a ++ broken_number b ++ large c ++ arrival a b c ++ lengthy c

-- the kind of an open block: an IF before its ELSE and after it, a WHILE, a FOREACH or JOINEACH
pub data Kind : Type 0 where
  choice chosen repeat each : Kind

-- an open block, with the `$` of the instruction that opened it
pub record Opened : Type 0 where
  pub kind : Kind
  pub place : ℕ

abbrev pub kind_of : Opening → Kind
kind_of (Opening.if c) = choice
kind_of (Opening.while c) = repeat
kind_of (Opening.foreach x y e) = each
kind_of (Opening.joineach x y e d) = each

-- the open blocks after ELSE and after END
abbrev pub elsed : List Opened → List Opened
elsed [] = []
elsed (o ∷ os) = record { kind = chosen; place = o.place } ∷ os

abbrev pub ended : List Opened → List Opened
ended [] = []
ended (o ∷ os) = os

abbrev pub opened_by : List Opened → Item → List Opened
opened_by os (Item.piece i j) = os
opened_by os (Item.dollar p) = os
opened_by os (Item.show q e) = os
opened_by os (Item.assign q k e) = os
opened_by os (Item.opens q j h) = record { kind = kind_of h; place = q } ∷ os
opened_by os (Item.elif q j c) = os
opened_by os (Item.else q j) = elsed os
opened_by os (Item.end q j) = ended os

-- the blocks that stand open behind some items, the innermost first
unfoldable pub open_blocks : Items → List Opened
open_blocks Items.none = []
open_blocks (Items.then ts t) = opened_by (open_blocks ts) t

abbrev pub is_choice : Kind → Bool
is_choice choice = true
is_choice chosen = false
is_choice repeat = false
is_choice each = false

-- whether the innermost open block is an IF without an ELSE; whether a block is open
abbrev pub choosing : List Opened → Bool
choosing [] = false
choosing (o ∷ os) = is_choice o.kind

abbrev pub within : List Opened → Bool
within [] = false
within (o ∷ os) = true

-- ELIF and ELSE stand in an IF without an ELSE, END in a block, and at most 12 blocks stand open; due at the byte after the word
abbrev pub room : List Opened → ℕ → ℕ → List Broken
room os q j = breaks (nat_lt (length os) 12) four q j

abbrev pub in_choice : List Opened → ℕ → ℕ → List Broken
in_choice os q j = breaks (choosing os) four q j

abbrev pub in_block : List Opened → ℕ → ℕ → List Broken
in_block os q j = breaks (within os) four q j

abbrev pub broken_opening : Opening → List Broken
broken_opening (Opening.if c) = broken 0 c
broken_opening (Opening.while c) = broken 0 c
broken_opening (Opening.foreach x y e) = long x y ++ broken 0 e
broken_opening (Opening.joineach x y e d) = long x y ++ broken 0 e ++ wide d

abbrev pub broken_item : List Opened → Item → List Broken
broken_item os (Item.piece i j) = []
broken_item os (Item.dollar p) = []
broken_item os (Item.show q e) = broken 0 e
broken_item os (Item.assign q k e) = broken_key 0 k ++ broken 0 e
broken_item os (Item.opens q j h) = room os q j ++ broken_opening h
broken_item os (Item.elif q j c) = in_choice os q j ++ broken 0 c
broken_item os (Item.else q j) = in_choice os q j
broken_item os (Item.end q j) = in_block os q j

unfoldable pub broken_items : Items → List Broken
broken_items Items.none = []
broken_items (Items.then ts t) = broken_items ts ++ broken_item (open_blocks ts) t

-- every block is closed: else the innermost open one is named; due at the template's length n
abbrev pub unclosed : List Opened → ℕ → List Broken
unclosed [] n = []
unclosed (o ∷ os) n = record { rule = four; place = o.place; due = n } ∷ []

-- all the rules that a template of n bytes breaks
abbrev pub broken_rules : Items → ℕ → List Broken
broken_rules ts n = broken_items ts ++ unclosed (open_blocks ts) n
