-- What a template means: the program of its print. Its effects are in the order of the visits; a node is visited before it acts. Assumes nothing.
use Rattle.std.specs.Prelude.{ℕ, zero, suc, ◌^◌, Bool, true, false, cond, not, List, [], ◌∷◌, ◌++◌, ℤ, Some, None, Option, Ok, Result}
use Rattle.effects.specs.Effects.{Program, return, visit, byte, put, ask, Print, ◌>>=◌, or_fail}
use Rattle.functions.specs.declared.Function.{Function}
use Rattle.functions.specs.declared.Function.TheVariants as function
use Rattle.functions.specs.declared.Signature.{Signature}
use Rattle.grammar.specs.Grammar.{part}
use Rattle.keys.specs.KeyOrder.{KeyName}
use Rattle.meaning.specs.Constants.{quoted, number_constant, text_constant}
use Rattle.operations.specs.Functions.{and_then, at_most_16, call, sequence}
use Rattle.operations.specs.Operators.{is_zero, truth, binary, signed, decides, operand, value_of}
use Rattle.refusals.specs.Errors.{Error}
use Rattle.tokens.specs.declared.operator.Op.{Op}
use Rattle.tokens.specs.declared.operator.Sign.{Sign}
use Rattle.tokens.specs.Operators.{is_short}
use Rattle.trees.specs.Tree.{Key, Expr, Args, Seq, Block, Statement, Arms}
use Rattle.values.specs.Forms.{Elem, value_form}

abbrev pub Value : Type 0
Value = List Elem

-- ---- expressions

-- 1 where a number is not 0, else 0
abbrev pub holds : ℤ → Value
holds n = value_of (truth (not (is_zero n)))

-- a sign takes an operand, an operator two, judged left first
abbrev pub signed_value : Sign → Value → Result Value Error
signed_value s v = and_then (operand v) (λ a. and_then (signed s a) (λ n. Ok (value_of n)))

abbrev pub binary_value : Op → Value → Value → Result Value Error
binary_value o v w = and_then (operand v) (λ a. and_then (operand w) (λ b. and_then (binary o a b) (λ n. Ok (value_of n))))

-- an operator at q is visited after its left side and its right side
abbrev pub both_sides : ℕ → Op → Program Value → Program Value → Program Value
both_sides q o l r = l >>= λ v. r >>= λ w. visit q (or_fail q (binary_value o v w))

-- `&&` and `||` are visited after the left side; the right side is worked out only where the left one does not decide, and then judged
abbrev pub one_side : ℕ → Op → Program Value → Program Value → Program Value
one_side q o l r =
    l >>= λ v. visit q (or_fail q (operand v)) >>= λ a.
    cond (decides o a) (return (holds a)) (r >>= λ w. or_fail q (operand w) >>= λ b. return (holds b))

-- any function stands for one that is not known, since such a template is refused
abbrev pub known : Option Signature → Function
known (Some f) = f.function
known None = function.Length

unfoldable mutual
  pub expression : List ℕ → Expr → Program Value
  expression text (Expr.number c) = visit c.span.«from» (return (number_constant text c.span c.value))
  expression text (Expr.text t) = visit t.span.«from» (return (text_constant text t.span))
  expression text (Expr.key k) = key_value text k
  expression text (Expr.call i j q f s z) = arguments text s >>= λ vs. visit i (or_fail i (call (known f) vs))
  expression text (Expr.list q s) = items text s >>= λ v. visit q (or_fail q (at_most_16 v))
  expression text (Expr.round q e) = expression text e
  expression text (Expr.signed q s e) = expression text e >>= λ v. visit q (or_fail q (signed_value s v))
  expression text (Expr.binary q o l r) = cond (is_short o) (one_side q o (expression text l) (expression text r)) (both_sides q o (expression text l) (expression text r))

  -- a subscript is worked out before the key is visited
  pub key_value : List ℕ → Key → Program Value
  key_value text (Key.name i j) = visit i (ask (part text i j, None) (λ v. return v))
  key_value text (Key.index i j q e) = expression text e >>= λ v. visit i (or_fail i (operand v)) >>= λ n. ask (part text i j, Some n) (λ w. return w)

  pub arguments : List ℕ → Args → Program (List Value)
  arguments text Args.nullary = return []
  arguments text (Args.argument s e) = arguments text s >>= λ vs. expression text e >>= λ v. return (vs ++ v ∷ [])

  -- the elements of all items in order; more than 16 are an error of the list, at its own visit behind all items
  pub items : List ℕ → Seq → Program Value
  items text Seq.empty = return []
  items text (Seq.item s e) = items text s >>= λ u. expression text e >>= λ v. return (u ++ v)
  items text (Seq.steps s a b c) = items text s >>= λ u. visit a.span.«from» (or_fail a.span.«from» (sequence a.value b.value c.value)) >>= λ v. return (u ++ v)

-- ---- instructions

-- bytes, by the node at p
abbrev pub print : ℕ → List ℕ → Print
print p [] = return tt
print p (b ∷ bs) = byte b p (print p bs)

-- a value for a key, by the instruction at q
abbrev pub assign : ℕ → KeyName → Value → Print
assign q k v = put k v q (return tt)

-- the condition of the instruction at q: whether it is not 0
abbrev pub test : List ℕ → ℕ → Expr → Program Bool
test text q e = visit q (expression text e) >>= λ v. or_fail q (operand v) >>= λ n. return (not (is_zero n))

-- the key to which the instruction at q assigns; its subscript is worked out and judged
abbrev pub target : List ℕ → ℕ → Key → Program KeyName
target text q (Key.name i j) = return (part text i j, None)
target text q (Key.index i j p e) = expression text e >>= λ v. or_fail q (operand v) >>= λ n. return (part text i j, Some n)

-- A WHILE has at most so many tests, since every program ends. No print comes that far: each test is a step, and a limit on steps has
-- 32 bits (`BoundUnseen` in Laws.antt).
unfoldable pub most_tests : ℕ
most_tests = 2 ^ 32

-- up to n tests of a WHILE, and its block after each that holds; where all of them do, one more visit, which no print reaches
abbrev pub repeat : ℕ → ℕ → Program Bool → Print → Print
repeat zero q c m = visit q (return tt)
repeat (suc n) q c m = c >>= λ yes. cond yes (m >>= λ u. repeat n q c m) (return tt)

-- the start of a round of the FOREACH or JOINEACH at q: a visit, in which d is printed, except in the first round, and the element assigned
abbrev pub round_start : Bool → ℕ → KeyName → List ℕ → Elem → Print
round_start first q k d e = visit q (print q (cond first [] d) >>= λ u. assign q k (e ∷ []))

-- the rounds over some elements: each has its start, then comes the block
abbrev pub rounds : Bool → ℕ → KeyName → List ℕ → Print → List Elem → Print
rounds first q k d m [] = return tt
rounds first q k d m (e ∷ es) = round_start first q k d e >>= λ u. m >>= λ u. rounds false q k d m es

unfoldable mutual
  pub block : List ℕ → Block → Print
  block text Block.nothing = return tt
  block text (Block.then s b) = statement text s >>= λ u. block text b

  pub statement : List ℕ → Statement → Print
  statement text (Statement.piece i j) = visit i (print i (part text i j))
  statement text (Statement.dollar p) = visit p (print p (36 ∷ []))
  statement text (Statement.show q e) = visit q (expression text e) >>= λ v. print q (value_form v)
  statement text (Statement.assign q k e) = visit q (expression text e) >>= λ v. target text q k >>= λ k'. assign q k' v
  statement text (Statement.choice q j c b r) = test text q c >>= λ yes. cond yes (block text b) (arms text r)
  statement text (Statement.while q j c b q' j') = repeat most_tests q (test text q c) (block text b)
  statement text (Statement.foreach q j x y e b q' j') = visit q (expression text e) >>= λ v. rounds true q (part text x y, None) [] (block text b) v
  statement text (Statement.joineach q j x y e d b q' j') = visit q (expression text e) >>= λ v. rounds true q (part text x y, None) (quoted text d.span) (block text b) v

  -- what follows the block of an IF whose condition is 0
  pub arms : List ℕ → Arms → Print
  arms text (Arms.close q j) = return tt
  arms text (Arms.otherwise q j b q' j') = block text b
  arms text (Arms.elif q j c b r) = test text q c >>= λ yes. cond yes (block text b) (arms text r)
