-- What a stack of the reading says of the bytes before it, and what reducing it keeps. Assumes nothing.
use Rattle.std.proofs.Common.{◌≡◌, ℕ, zero, suc, ◌+◌, ◌-◌, ◌*◌, ◌<◌, ◌≤◌, Bool, true, false, ◌||◌, eqb, ltb, leb, ◌⊎◌, List, [], ◌∷◌, ◌++◌, length, get_or, take, drop, Option, sym, refl, ap, ◌∙◌, subst, inl, inr, ⊎_elim, arith}
use Rattle.std.proofs.lemmas.List.{take_more, length-drop, get_or-drop}
use Rattle.std.proofs.lemmas.Bool.{cond-true, cond_both, leb-true, leb-false, eqb-true, cases_lt, cases_Bool}
use Rattle.std.proofs.lemmas.Bool.Decides.{nat_tests}
use Rattle.functions.specs.declared.Signature.{Signature}
use Rattle.keywords.specs.declared.Keyword.TheVariants as keyword
use Rattle.tokens.specs.declared.operator.Op.{Op}
use Rattle.tokens.specs.declared.operator.Op.TheVariants as op
use Rattle.tokens.specs.declared.operator.Sign.{Sign}
use Rattle.tokens.specs.declared.operator.Sign.TheVariants as mark
use Rattle.tokens.specs.declared.operator.Half.{Half}
use Rattle.tokens.specs.declared.operator.Half.TheVariants as halved
use Rattle.tokens.specs.declared.byte.Separator.{Separator}
use Rattle.tokens.specs.declared.byte.Separator.TheVariants.{Comma, Semicolon}
use Rattle.tokens.specs.declared.byte.Shape.{Shape}
use Rattle.tokens.specs.declared.byte.Shape.TheVariants.{Round, Square, Curly}
use Rattle.tokens.specs.declared.byte.Start.TheVariants as at
use Rattle.tokens.specs.declared.byte.After.TheVariants as past
use Rattle.tokens.specs.declared.byte.Class.TheVariants as is
use Rattle.tokens.specs.Bytes.{start, after, class, blank, digit, letter, word, digit_value}
use Rattle.tokens.specs.Operators.{level, sign_byte, half_byte}
use Rattle.trees.specs.Tree.{Key, Expr, Args, Seq, Items}
use Rattle.grammar.specs.Machine.{Stack, Bracket, Head, reduce, Below}
use Rattle.grammar.specs.Words.{function}
use Rattle.grammar.specs.Grammar
use Rattle.grammar.specs.Grammar.{At, Every, Blanks, part, valued, Name, Command, Written, Spells, Keyed, Arguments, Groups, Commas, Begun}
use Rattle.grammar.proofs.Moves.{level_least, level_most}

-- a weaker level
pub weaken : {text : List ℕ} {t : Expr} {i j : ℕ} (k n n' : ℕ) → n' ≡ n + k → Spells text n' t i j → Spells text n t i j
weaken {text} {t} {i} {j} zero n n' e s = let e' : n' ≡ n = omega arith in subst (λ n. Spells text n t i j) e' s
weaken (suc k) n n' e s = Grammar.tighter (weaken k (n + 1) n' (omega arith) s)

-- n expressions with a comma between each two, behind the items s₀
pub data Counted (text : List ℕ) : ℕ → Seq → Seq → ℕ → ℕ → Type 0 where
  one : {i j : ℕ} {s : Seq} {t : Expr} → Spells text 1 t i j → Counted text 1 s (Seq.item s t) i j
  more : {n i a b j : ℕ} {s₀ s : Seq} {t : Expr} → Counted text n s₀ s i a → Blanks text a b → At text b 44 → Spells text 1 t (b + 1) j → Counted text (suc n) s₀ (Seq.item s t) i j

pub commas_of : {text : List ℕ} {n i j : ℕ} {s₀ s : Seq} → Counted text n s₀ s i j → Commas text s₀ s i j
commas_of (one t) = Grammar.item t
commas_of (more c bl a t) = Grammar.and_item (commas_of c) bl a t

-- what a stack says of the bytes before p: all but the operand that is to come
pub data Upto (text : List ℕ) : Stack → ℕ → Type 0 where
  up_show : {q : ℕ} {ts : Items} → Begun text ts q → At text q 36 → Upto text (Stack.top q Head.show ts) (q + 1)
  up_assign : {q a b : ℕ} {c : Key} {ts : Items} → Begun text ts q → At text q 36 → Keyed text c (q + 1) a → Blanks text a b → At text b 61 → Upto text (Stack.top q (Head.assign c) ts) (b + 1)
  up_if : {q a j : ℕ} {ts : Items} → Begun text ts q → At text q 36 → Blanks text (q + 1) a → Command text keyword.If a j → Upto text (Stack.top q (Head.if j) ts) j
  up_elif : {q a j : ℕ} {ts : Items} → Begun text ts q → At text q 36 → Blanks text (q + 1) a → Command text keyword.Elif a j → Upto text (Stack.top q (Head.elif j) ts) j
  up_while : {q a j : ℕ} {ts : Items} → Begun text ts q → At text q 36 → Blanks text (q + 1) a → Command text keyword.While a j → Upto text (Stack.top q (Head.while j) ts) j
  up_foreach : {q a j x y : ℕ} {ts : Items} → Begun text ts q → At text q 36 → Blanks text (q + 1) a → Command text keyword.Foreach a j → Blanks text j x → Name text x y → Upto text (Stack.top q (Head.foreach j x y) ts) y
  up_joineach : {q a j x y : ℕ} {ts : Items} → Begun text ts q → At text q 36 → Blanks text (q + 1) a → Command text keyword.Joineach a j → Blanks text j x → Name text x y → Upto text (Stack.top q (Head.joineach j x y) ts) y
  up_binary : {k : Stack} {o : Op} {l : Expr} {i a b c : ℕ} → Upto text k i → Below (level o) k → Spells text (level o) l i a → Blanks text a b → Written text o b c → Upto text (Stack.binary b o l k) c
  up_signed : {k : Stack} {s : Sign} {i a : ℕ} → Upto text k i → Below 11 k → Blanks text i a → At text a (sign_byte s) → Upto text (Stack.signed a s k) (a + 1)
  up_round : {k : Stack} {i a : ℕ} → Upto text k i → Blanks text i a → At text a 40 → Upto text (Stack.open' (Bracket.round a) k) (a + 1)
  up_square : {k : Stack} {i x y c : ℕ} → Upto text k i → Blanks text i x → Name text x y → Blanks text y c → At text c 91 → Upto text (Stack.open' (Bracket.square x y c) k) (c + 1)
  up_call : {k : Stack} {f : Option Signature} {i x y c : ℕ} → Upto text k i → Blanks text i x → Name text x y → Blanks text y c → At text c 40 → f ≡ function (part text x y) → Upto text (Stack.open' (Bracket.call x y c f Args.nullary) k) (c + 1)
  up_argument : {k : Stack} {f : Option Signature} {s : Args} {i x y c a b : ℕ} → Upto text k i → Blanks text i x → Name text x y → Blanks text y c → At text c 40 → f ≡ function (part text x y) → Arguments text s (c + 1) a → Blanks text a b → At text b 44 → Upto text (Stack.open' (Bracket.call x y c f s) k) (b + 1)
  up_curly : {k : Stack} {i q : ℕ} → Upto text k i → Blanks text i q → At text q 123 → Upto text (Stack.open' (Bracket.curly q Seq.empty 0) k) (q + 1)
  up_group : {k : Stack} {s : Seq} {i q a b : ℕ} → Upto text k i → Blanks text i q → At text q 123 → Groups text s (q + 1) a → Blanks text a b → At text b 59 → Upto text (Stack.open' (Bracket.curly q s 0) k) (b + 1)
  up_item : {k : Stack} {s₀ s : Seq} {n i q a b : ℕ} → Upto text (Stack.open' (Bracket.curly q s₀ 0) k) i → Counted text n s₀ s i a → Blanks text a b → At text b 44 → Upto text (Stack.open' (Bracket.curly q s n) k) (b + 1)

-- what reduce leaves: an operand of level w, and looser things on the stack
pub record Reduced (text : List ℕ) (w : ℕ) (r : Expr × Stack) (j : ℕ) : Type 0 where
  pub from : ℕ
  pub upto : Upto text r.1 from
  pub spells : Spells text w r.0 from j
  pub below : Below w r.1

module _ (text : List ℕ) (n w : ℕ) (w≤11 : w ≤ 11) (up : (o : Op) → n ≤ level o → w ≤ level o) (down : (o : Op) → level o < n → level o < w) where
  pub reduced : (k : Stack) (ℓ : ℕ) (t : Expr) (i j : ℕ) → w ≤ ℓ → ℓ ≤ 12 → Below ℓ k → Upto text k i → Spells text ℓ t i j → Reduced text w (reduce n t k) j
  reduced (Stack.top q h ts) ℓ t i j le most b u s = record { from = i; upto = u; spells = weaken (ℓ - w) w ℓ (omega arith) s; below = tt }
  reduced (Stack.binary q o l k) ℓ t i j le most b (up_binary u bk sl bl wr) s =
      cond_both (leb n (level o)) _ _ (λ r. Reduced text w r j)
      (λ e. reduced k (level o) (Expr.binary q o l t) _ j (up o (leb-true _ _ e)) (omega (arith, level_most o)) bk u (Grammar.binary o refl sl bl wr (weaken (ℓ - (level o + 1)) (level o + 1) ℓ (omega arith) s)))
      (λ e. record { from = i; upto = up_binary u bk sl bl wr; spells = weaken (ℓ - w) w ℓ (omega arith) s; below = down o (leb-false _ _ e) })
  reduced (Stack.signed q g k) ℓ t i j le most b (up_signed u bk bl a) s =
      let e : ℓ ≡ 12 = omega arith in
      reduced k 11 (Expr.signed q g t) _ j w≤11 (omega arith) bk u (Grammar.signed g bl a (subst (λ n. Spells text n t (q + 1) j) e s))
  reduced (Stack.open' q k) ℓ t i j le most b u s = record { from = i; upto = u; spells = weaken (ℓ - w) w ℓ (omega arith) s; below = tt }

pub below_primary : (k : Stack) → Below 12 k
below_primary (Stack.top q h ts) = tt
below_primary (Stack.binary q o l k) = omega (arith, level_most o)
below_primary (Stack.signed q s k) = omega arith
below_primary (Stack.open' b k) = tt

-- a closing sign brings all together
pub reduced_all : (text : List ℕ) (t : Expr) (k : Stack) (i j : ℕ) → Upto text k i → Spells text 12 t i j → Reduced text 1 (reduce 0 t k) j
reduced_all text t k i j u s = reduced text 0 1 (omega arith) (λ o h. level_least o) (λ o h. absurd (omega arith)) k 12 t i j (omega arith) (omega arith) (below_primary k) u s

-- an operator brings together what is no looser
pub reduced_by : (text : List ℕ) (o : Op) (t : Expr) (k : Stack) (i j : ℕ) → Upto text k i → Spells text 12 t i j → Reduced text (level o) (reduce (level o) t k) j
reduced_by text o t k i j u s = reduced text (level o) (level o) (omega (arith, level_most o)) (λ o h. h) (λ o h. h) k 12 t i j (omega (arith, level_most o)) (omega arith) (below_primary k) u s

-- places
pub every_none : (test : ℕ → Bool) (text : List ℕ) (i : ℕ) → i ≤ length text → Every test text i i
every_none test text i h = record { onwards = omega arith; inside = h; all = λ q a b. absurd (omega arith) }

pub every_more : (test : ℕ → Bool) (text : List ℕ) (i p : ℕ) → Every test text i p → p < length text → test (get_or text p 0) ≡ true → Every test text i (p + 1)
every_more test text i p e lt h =
    record { onwards = omega (arith, e.onwards); inside = omega arith; all = λ q a b. ⊎_elim (λ l. e.all q a l) (λ g. let same : p ≡ q = omega arith in subst (λ q. test (get_or text q 0) ≡ true) same h) (cases_lt q p) }

pub every_one : (test : ℕ → Bool) (text : List ℕ) (p : ℕ) → p < length text → test (get_or text p 0) ≡ true → Every test text p (p + 1)
every_one test text p lt h = every_more test text p p (every_none test text p (omega arith)) lt h

pub part_none : (text : List ℕ) (i : ℕ) → part text i i ≡ []
part_none text i = let e : i - i ≡ 0 = omega arith in ap (λ n. take n (drop i text)) e

pub part_more : (text : List ℕ) (i p : ℕ) → i ≤ p → p < length text → part text i (p + 1) ≡ part text i p ++ get_or text p 0 ∷ []
part_more text i p le lt =
    let e : p + 1 - i ≡ p - i + 1 = omega arith in
    let f : i + (p - i) ≡ p = omega arith in
    let short : p - i < length (drop i text) = omega (arith, length-drop i text) in
    ap (λ n. take n (drop i text)) e ∙ take_more (drop i text) (p - i) 0 short ∙ ap (λ x. part text i p ++ x ∷ []) (get_or-drop i text (p - i) 0 ∙ ap (λ n. get_or text n 0) f)

pub part_one : (text : List ℕ) (p : ℕ) → p < length text → get_or text p 0 ∷ [] ≡ part text p (p + 1)
part_one text p lt = sym (part_more text p p (omega arith) lt ∙ ap (λ w. w ++ get_or text p 0 ∷ []) (part_none text p))

pub valued_more : (n v : ℕ) (bs : List ℕ) (b : ℕ) → valued n v (bs ++ b ∷ []) ≡ n * valued n v bs + digit_value b
valued_more n v [] b = refl
valued_more n v (x ∷ bs) b = valued_more n (n * v + digit_value x) bs b

-- what a byte of a kind is
pub sign_is : (b : ℕ) (s : Sign) → start b ≡ at.Sign s → b ≡ sign_byte s
sign_is b mark.Plus e = grind (arith, nat_tests)
sign_is b mark.Minus e = grind (arith, nat_tests)
sign_is b mark.Tilde e = grind (arith, nat_tests)
sign_is b mark.Bang e = grind (arith, nat_tests)

pub round_is : (b : ℕ) → start b ≡ at.Round → b ≡ 40
round_is b e = grind (arith, nat_tests)

pub curly_is : (b : ℕ) → start b ≡ at.Curly → b ≡ 123
curly_is b e = grind (arith, nat_tests)

pub quote_is : (b : ℕ) → start b ≡ at.Quote → b ≡ 34
quote_is b e = grind (arith, nat_tests)

pub blank_is : (b : ℕ) → start b ≡ at.Blank → blank b ≡ true
blank_is b e = grind (arith, nat_tests)

pub digit_is : (b : ℕ) → start b ≡ at.Digit → digit b ≡ true
digit_is b e = grind (arith, nat_tests)

pub letter_is : (b : ℕ) → start b ≡ at.Letter → letter b ≡ true
letter_is b e = grind (arith, nat_tests)

pub letter_is_word : (b : ℕ) → letter b ≡ true → word b ≡ true
letter_is_word b e = grind (arith, nat_tests)

pub dot_is : (b : ℕ) → start b ≡ at.Dot → b ≡ 46
dot_is b e = grind (arith, nat_tests)

pub end_round_is : (b : ℕ) → start b ≡ at.EndRound → b ≡ 41
end_round_is b e = grind (arith, nat_tests)

pub end_curly_is : (b : ℕ) → start b ≡ at.EndCurly → b ≡ 125
end_curly_is b e = grind (arith, nat_tests)

pub after_blank : (b : ℕ) → after b ≡ past.Blank → blank b ≡ true
after_blank b e = grind (arith, nat_tests)

pub half_is : (b : ℕ) (h : Half) → after b ≡ past.Double h → b ≡ half_byte h
half_is b halved.Bar e = grind (arith, nat_tests)
half_is b halved.Ampersand e = grind (arith, nat_tests)
half_is b halved.Equals e = grind (arith, nat_tests)
half_is b halved.Bang e = grind (arith, nat_tests)
half_is b halved.Less e = grind (arith, nat_tests)
half_is b halved.Greater e = grind (arith, nat_tests)

abbrev pub part_byte : Separator → ℕ
part_byte Comma = 44
part_byte Semicolon = 59

pub separator_is : (b : ℕ) (c : Separator) → after b ≡ past.Separator c → b ≡ part_byte c
separator_is b Comma e = grind (arith, nat_tests)
separator_is b Semicolon e = grind (arith, nat_tests)

abbrev pub end_byte : Shape → ℕ
end_byte Round = 41
end_byte Square = 93
end_byte Curly = 125

pub end_is : (b : ℕ) (q : Shape) → after b ≡ past.End q → b ≡ end_byte q
end_is b Round e = grind (arith, nat_tests)
end_is b Square e = grind (arith, nat_tests)
end_is b Curly e = grind (arith, nat_tests)

pub dollar_is : (b : ℕ) → after b ≡ past.Dollar → b ≡ 36
dollar_is b e = grind (arith, nat_tests)

pub after_quote_is : (b : ℕ) → after b ≡ past.Quote → b ≡ 34
after_quote_is b e = grind (arith, nat_tests)

pub open_round_is : (b : ℕ) → after b ≡ past.Round → b ≡ 40
open_round_is b e = grind (arith, nat_tests)

pub open_square_is : (b : ℕ) → after b ≡ past.Square → b ≡ 91
open_square_is b e = grind (arith, nat_tests)

pub class_newline : (b : ℕ) → class b ≡ is.Newline → b ≡ 10
class_newline b e = grind (arith, nat_tests)

pub class_return : (b : ℕ) → class b ≡ is.Return → b ≡ 13
class_return b e = grind (arith, nat_tests)

pub class_dollar : (b : ℕ) → class b ≡ is.Dollar → b ≡ 36
class_dollar b e = grind (arith, nat_tests)

pub class_quote : (b : ℕ) → class b ≡ is.Quote → b ≡ 34
class_quote b e = grind (arith, nat_tests)

pub class_backslash : (b : ℕ) → class b ≡ is.Backslash → b ≡ 92
class_backslash b e = grind (arith, nat_tests)

pub class_solid : (b : ℕ) → class b ≡ is.Blank → blank b ≡ true
class_solid b e = grind (arith, nat_tests)

pub class_blank : (b : ℕ) → blank b ≡ true → class b ≡ is.Blank
class_blank b e = grind (arith, nat_tests)

pub decimal_is : (b : ℕ) → ltb (digit_value b) 10 ≡ true → digit b ≡ true
decimal_is b e = grind (arith, nat_tests)

pub digit_value_lem : (b : ℕ) → digit b ≡ true → digit_value b ≡ b - 48
digit_value_lem b e = cond-true _ _ _ e

pub hex_mark : (b : ℕ) → (eqb b 120 || eqb b 88) ≡ true → (b ≡ 120) ⊎ (b ≡ 88)
hex_mark b e = by (cases_Bool (eqb b 120)) (cases_Bool (eqb b 88))
  where
    by : (eqb b 120 ≡ true) ⊎ (eqb b 120 ≡ false) → (eqb b 88 ≡ true) ⊎ (eqb b 88 ≡ false) → (b ≡ 120) ⊎ (b ≡ 88)
    by (inl x) y = inl (eqb-true b 120 x)
    by (inr x) (inl y) = inr (eqb-true b 88 y)
    by (inr x) (inr y) = absurd (let z : ◌≡◌ {A = ℕ} 0 1 = grind (arith, nat_tests) in omega arith)

pub escaped_is : (b : ℕ) → class b ≡ is.Escaped → (b ≡ 110) ⊎ (b ≡ 116)
escaped_is b e = by (cases_Bool (eqb b 110)) (cases_Bool (eqb b 116))
  where
    by : (eqb b 110 ≡ true) ⊎ (eqb b 110 ≡ false) → (eqb b 116 ≡ true) ⊎ (eqb b 116 ≡ false) → (b ≡ 110) ⊎ (b ≡ 116)
    by (inl x) y = inl (eqb-true b 110 x)
    by (inr x) (inl y) = inr (eqb-true b 116 y)
    by (inr x) (inr y) = absurd (let z : ◌≡◌ {A = ℕ} 0 1 = grind (arith, nat_tests) in omega arith)

-- an operator of one byte
not_or : (b : ℕ) → after b ≡ past.Single op.Or → ⊥
not_or b e = let z : ◌≡◌ {A = ℕ} 0 1 = grind (arith, nat_tests) in omega arith

not_and : (b : ℕ) → after b ≡ past.Single op.And → ⊥
not_and b e = let z : ◌≡◌ {A = ℕ} 0 1 = grind (arith, nat_tests) in omega arith

not_bitor : (b : ℕ) → after b ≡ past.Single op.BitOr → ⊥
not_bitor b e = let z : ◌≡◌ {A = ℕ} 0 1 = grind (arith, nat_tests) in omega arith

single_bitxor : (b : ℕ) → after b ≡ past.Single op.BitXor → b ≡ 94
single_bitxor b e = grind (arith, nat_tests)

not_bitand : (b : ℕ) → after b ≡ past.Single op.BitAnd → ⊥
not_bitand b e = let z : ◌≡◌ {A = ℕ} 0 1 = grind (arith, nat_tests) in omega arith

not_equal : (b : ℕ) → after b ≡ past.Single op.Equal → ⊥
not_equal b e = let z : ◌≡◌ {A = ℕ} 0 1 = grind (arith, nat_tests) in omega arith

not_unequal : (b : ℕ) → after b ≡ past.Single op.Unequal → ⊥
not_unequal b e = let z : ◌≡◌ {A = ℕ} 0 1 = grind (arith, nat_tests) in omega arith

not_less : (b : ℕ) → after b ≡ past.Single op.Less → ⊥
not_less b e = let z : ◌≡◌ {A = ℕ} 0 1 = grind (arith, nat_tests) in omega arith

not_greater : (b : ℕ) → after b ≡ past.Single op.Greater → ⊥
not_greater b e = let z : ◌≡◌ {A = ℕ} 0 1 = grind (arith, nat_tests) in omega arith

not_lessequal : (b : ℕ) → after b ≡ past.Single op.LessEqual → ⊥
not_lessequal b e = let z : ◌≡◌ {A = ℕ} 0 1 = grind (arith, nat_tests) in omega arith

not_greaterequal : (b : ℕ) → after b ≡ past.Single op.GreaterEqual → ⊥
not_greaterequal b e = let z : ◌≡◌ {A = ℕ} 0 1 = grind (arith, nat_tests) in omega arith

not_shiftleft : (b : ℕ) → after b ≡ past.Single op.ShiftLeft → ⊥
not_shiftleft b e = let z : ◌≡◌ {A = ℕ} 0 1 = grind (arith, nat_tests) in omega arith

not_shiftright : (b : ℕ) → after b ≡ past.Single op.ShiftRight → ⊥
not_shiftright b e = let z : ◌≡◌ {A = ℕ} 0 1 = grind (arith, nat_tests) in omega arith

single_add : (b : ℕ) → after b ≡ past.Single op.Add → b ≡ 43
single_add b e = grind (arith, nat_tests)

single_subtract : (b : ℕ) → after b ≡ past.Single op.Subtract → b ≡ 45
single_subtract b e = grind (arith, nat_tests)

single_multiply : (b : ℕ) → after b ≡ past.Single op.Multiply → b ≡ 42
single_multiply b e = grind (arith, nat_tests)

single_divide : (b : ℕ) → after b ≡ past.Single op.Divide → b ≡ 47
single_divide b e = grind (arith, nat_tests)

single_remainder : (b : ℕ) → after b ≡ past.Single op.Remainder → b ≡ 37
single_remainder b e = grind (arith, nat_tests)

pub written_one : (text : List ℕ) (p : ℕ) (o : Op) → p < length text → after (get_or text p 0) ≡ past.Single o → Written text o p (p + 1)
written_one text p op.Or lt e = absurd (not_or (get_or text p 0) e)
written_one text p op.And lt e = absurd (not_and (get_or text p 0) e)
written_one text p op.BitOr lt e = absurd (not_bitor (get_or text p 0) e)
written_one text p op.BitXor lt e = ((lt, single_bitxor (get_or text p 0) e), refl)
written_one text p op.BitAnd lt e = absurd (not_bitand (get_or text p 0) e)
written_one text p op.Equal lt e = absurd (not_equal (get_or text p 0) e)
written_one text p op.Unequal lt e = absurd (not_unequal (get_or text p 0) e)
written_one text p op.Less lt e = absurd (not_less (get_or text p 0) e)
written_one text p op.Greater lt e = absurd (not_greater (get_or text p 0) e)
written_one text p op.LessEqual lt e = absurd (not_lessequal (get_or text p 0) e)
written_one text p op.GreaterEqual lt e = absurd (not_greaterequal (get_or text p 0) e)
written_one text p op.ShiftLeft lt e = absurd (not_shiftleft (get_or text p 0) e)
written_one text p op.ShiftRight lt e = absurd (not_shiftright (get_or text p 0) e)
written_one text p op.Add lt e = ((lt, single_add (get_or text p 0) e), refl)
written_one text p op.Subtract lt e = ((lt, single_subtract (get_or text p 0) e), refl)
written_one text p op.Multiply lt e = ((lt, single_multiply (get_or text p 0) e), refl)
written_one text p op.Divide lt e = ((lt, single_divide (get_or text p 0) e), refl)
written_one text p op.Remainder lt e = ((lt, single_remainder (get_or text p 0) e), refl)
