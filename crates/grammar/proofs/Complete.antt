-- What the grammar spells, the reading reads: expressions and instructions, the rules 4 to 8 apart. Assumes nothing.
use Rattle.std.proofs.Common.{◌≡◌, ℕ, zero, suc, ◌+◌, ◌-◌, ◌*◌, ◌<◌, ◌≤◌, Bool, true, false, cond, ◌||◌, eqb, ltb, ◌⊎◌, List, [], ◌∷◌, ◌++◌, length, get_or, take, drop, Some, None, Option, sym, refl, ap, ◌∙◌, subst, inl, inr, ⊎_elim, arith}
use Rattle.std.proofs.lemmas.Bool.{cond-true, cond-false, le-ltb, ne_eqb, cases_lt}
use Rattle.std.proofs.lemmas.List.{drop_more, get_or-drop, take_more, length-drop}
use Rattle.std.proofs.lemmas.Bool.Decides.{nat_tests}
use Rattle.functions.specs.declared.Signature.{Signature}
use Rattle.keywords.specs.declared.Keyword.{Keyword}
use Rattle.keywords.specs.declared.Keyword.TheVariants as keyword
use Rattle.tokens.specs.declared.operator.Op.{Op}
use Rattle.tokens.specs.declared.operator.Op.TheVariants as op
use Rattle.tokens.specs.declared.operator.Sign.{Sign}
use Rattle.tokens.specs.declared.operator.Sign.TheVariants as sign
use Rattle.tokens.specs.declared.operator.Half.{Half}
use Rattle.tokens.specs.declared.operator.Half.TheVariants as halved
use Rattle.tokens.specs.declared.byte.Start.{Start}
use Rattle.tokens.specs.declared.byte.Start.TheVariants as at
use Rattle.tokens.specs.declared.byte.After.{After}
use Rattle.tokens.specs.declared.byte.After.TheVariants as past
use Rattle.tokens.specs.declared.byte.Class.{Class}
use Rattle.tokens.specs.declared.byte.Class.TheVariants as is
use Rattle.tokens.specs.Bytes.{start, after, class, blank, digit, letter, word, digit_value}
use Rattle.tokens.specs.Operators.{level, sign_byte, doubled, alone}
use Rattle.trees.specs.declared.Constant.{Constant}
use Rattle.trees.specs.declared.Quote.{Quote}
use Rattle.trees.specs.Tree.{Key, Expr, Args, Seq, Item, Items, from_to}
use Rattle.grammar.specs.Rules.{Broken, broken_number, large, arrival, lengthy, long, wide, room, in_choice, in_block, open_blocks}
use Rattle.grammar.specs.Machine
use Rattle.grammar.specs.Machine.{Bracket, Head, Stack, Run, Numbered, Join, Quoted, Digits, Config, Move, stop, go, Out, onward, step, late, pushed, afters, nameds, wants, firsts, texts, escapes, parts, closes, completes, quotes, assigns, halves, single, numbers, numbereds, constant_at, first_digit, bares, commands, worded, looped, loop_head, lasts, joined, reacts, Below}
use Rattle.grammar.specs.Words.{function}
use Rattle.grammar.specs.Grammar
use Rattle.grammar.specs.Grammar.{At, Every, Blanks, part, digit_in, valued, Number, Numeral, Word, Name, Command, Chars, Text, Written, Spells, Keyed, Listed, Arguments, ItemsOf, Groups, Group, Commas, Dots, Says}
use Rattle.grammar.proofs.Moves.{on, moves, alike, stays, want_stays, first_stays, aft_stays, named_stays, dots_stays, last_wanted_stays, last_done_stays, bare_stays, naming_stays, below_more, reduce_all, reduce_none}

-- the reading goes on, whatever rules are broken
abbrev pub reads : List ℕ → Config → ℕ → Out
reads text c p = onward false text c p

pub free : (text : List ℕ) (p : ℕ) (d : List Broken) (c : Config) → reacts false text p (go d c) ≡ reads text c (p + 1)
free text p [] c = refl
free text p (f ∷ d) c = refl

pub free_late : (text : List ℕ) (p : ℕ) (d : List Broken) (v : Move) → reacts false text p (late d v) ≡ reacts false text p v
free_late text p d stop = refl
free_late text p d (go e c) = free text p (d ++ e) c ∙ sym (free text p e c)

-- two configurations that move alike here, but for broken rules
pub late_alike : (text : List ℕ) (c c' : Config) (p : ℕ) (d : List Broken) → p < length text → step c p (get_or text p 0) ≡ late d (step c' p (get_or text p 0)) → reads text c p ≡ reads text c' p
late_alike text c c' p d lt e = moves false text c p _ lt e ∙ free_late text p d (step c' p (get_or text p 0)) ∙ sym (on false text c' p lt)

-- the operator that stands at a place has a level of at most n: as its second byte and its first byte alone tell; none is fine
abbrev pub Loose : ℕ → Option Op → Option Op → Type 0
Loose n (Some o) a = level o ≤ n
Loose n None (Some o) = level o ≤ n
Loose n None None = Unit {0}

-- what stands after an operand of level n: a byte of this class, and the byte b behind it
abbrev pub Nexts : ℕ → After → ℕ → Type 0
Nexts n past.Blank b = ⊥
Nexts n (past.Single o) b = level o ≤ n
Nexts n (past.Double h) b = Loose n (doubled h b) (alone h)
Nexts n (past.Separator c) b = Unit {0}
Nexts n past.Round b = ⊥
Nexts n past.Square b = ⊥
Nexts n (past.End s) b = Unit {0}
Nexts n past.Dollar b = Unit {0}
Nexts n past.Quote b = Unit {0}
Nexts n past.Other b = ⊥

pub record Follow (text : List ℕ) (n j : ℕ) : Type 0 where
  pub place : ℕ
  pub blanks : Blanks text j place
  pub inner : place < length text
  pub next : Nexts n (after (get_or text place 0)) (get_or text (place + 1) 0)

loose_more : (n n' : ℕ) (o a : Option Op) → n ≤ n' → Loose n o a → Loose n' o a
loose_more n n' (Some o) a le h = omega arith
loose_more n n' None (Some o) le h = omega arith
loose_more n n' None None le h = tt

nexts_more : (n n' : ℕ) (x : After) (b : ℕ) → n ≤ n' → Nexts n x b → Nexts n' x b
nexts_more n n' past.Blank b le h = absurd h
nexts_more n n' (past.Single o) b le h = omega arith
nexts_more n n' (past.Double d) b le h = loose_more n n' (doubled d b) (alone d) le h
nexts_more n n' (past.Separator c) b le h = tt
nexts_more n n' past.Round b le h = absurd h
nexts_more n n' past.Square b le h = absurd h
nexts_more n n' (past.End s) b le h = tt
nexts_more n n' past.Dollar b le h = tt
nexts_more n n' past.Quote b le h = tt
nexts_more n n' past.Other b le h = absurd h

follow_more : (text : List ℕ) (n n' : ℕ) {j : ℕ} → n ≤ n' → Follow text n j → Follow text n' j
follow_more text n n' le f = record { place = f.place; blanks = f.blanks; inner = f.inner; next = nexts_more n n' (after (get_or text f.place 0)) (get_or text (f.place + 1) 0) le f.next }

-- a class that follows every operand
abbrev pub Plain : After → Type 0
Plain past.Blank = ⊥
Plain (past.Single o) = ⊥
Plain (past.Double h) = ⊥
Plain (past.Separator c) = Unit {0}
Plain past.Round = ⊥
Plain past.Square = ⊥
Plain (past.End s) = Unit {0}
Plain past.Dollar = Unit {0}
Plain past.Quote = Unit {0}
Plain past.Other = ⊥

plain_next : (n : ℕ) (x : After) (b : ℕ) → Plain x → Nexts n x b
plain_next n past.Blank b h = h
plain_next n (past.Single o) b h = absurd h
plain_next n (past.Double d) b h = absurd h
plain_next n (past.Separator c) b h = tt
plain_next n past.Round b h = h
plain_next n past.Square b h = h
plain_next n (past.End s) b h = tt
plain_next n past.Dollar b h = tt
plain_next n past.Quote b h = tt
plain_next n past.Other b h = h

pub follow_by : (text : List ℕ) (n j p b : ℕ) → Blanks text j p → At text p b → Plain (after b) → Follow text n j
follow_by text n j p b bl h x = record { place = p; blanks = bl; inner = h.0; next = plain_next n (after (get_or text p 0)) (get_or text (p + 1) 0) (subst Plain (sym (ap after h.1)) x) }

blank_no_word : (b : ℕ) → blank b ≡ true → word b ≡ false
blank_no_word b e = grind (arith, nat_tests)

word_other : (b : ℕ) → word b ≡ true → after b ≡ past.Other
word_other b e = grind (arith, nat_tests)

no_word : (n b b' : ℕ) → Nexts n (after b) b' → word b ≡ false
no_word n b b' h = go (word b) refl
  where
    go : (t : Bool) → word b ≡ t → word b ≡ false
    go true e = absurd (subst (λ x. Nexts n x b') (word_other b e) h)
    go false e = e

pub follow_word : (text : List ℕ) (n j : ℕ) → Follow text n j → word (get_or text j 0) ≡ false
follow_word text n j f =
    ⊎_elim
    (λ lt. blank_no_word (get_or text j 0) (f.blanks.all j (omega arith) lt))
    (λ ge. let e : j ≡ f.place = omega (arith, f.blanks.onwards) in ap (λ p. word (get_or text p 0)) e ∙ no_word n (get_or text f.place 0) (get_or text (f.place + 1) 0) f.next)
    (cases_lt j f.place)

-- how an expression begins
abbrev pub Begins : Start → Type 0
Begins at.Blank = ⊥
Begins at.Digit = Unit {0}
Begins at.Letter = Unit {0}
Begins at.Quote = Unit {0}
Begins (at.Sign s) = Unit {0}
Begins at.Round = Unit {0}
Begins at.Curly = Unit {0}
Begins at.EndRound = ⊥
Begins at.EndCurly = ⊥
Begins at.Dot = ⊥
Begins at.Other = ⊥

pub record Begin (text : List ℕ) (i : ℕ) : Type 0 where
  pub place : ℕ
  pub blanks : Blanks text i place
  pub inner : place < length text
  pub is : Begins (start (get_or text place 0))

pub digit_start : (b : ℕ) → digit b ≡ true → start b ≡ at.Digit
digit_start b e = grind (arith, nat_tests)

pub letter_start : (b : ℕ) → letter b ≡ true → start b ≡ at.Letter
letter_start b e = grind (arith, nat_tests)

sign_start : (s : Sign) → start (sign_byte s) ≡ at.Sign s
sign_start sign.Plus = refl
sign_start sign.Minus = refl
sign_start sign.Tilde = refl
sign_start sign.Bang = refl

begin_at : (text : List ℕ) (i a b : ℕ) → Blanks text i a → At text a b → Begins (start b) → Begin text i
begin_at text i a b bl h g = record { place = a; blanks = bl; inner = h.0; is = subst Begins (sym (ap start h.1)) g }

begin_word : (text : List ℕ) (i a j : ℕ) → Blanks text i a → Word text a j → Begin text i
begin_word text i a j bl n = record { place = a; blanks = bl; inner = omega (arith, n.some, n.words.inside); is = subst Begins (sym (letter_start (get_or text a 0) n.first)) tt }

number_digit : {text : List ℕ} {i j v : ℕ} → Number text i j v → (i < length text) × (digit (get_or text i 0) ≡ true)
number_digit {i = i} (Grammar.decimal lt ne e) = (omega (arith, e.inside), e.all i (omega arith) lt)
number_digit (Grammar.octal a lt e) = (a.0, ap digit a.1)
number_digit (Grammar.hexadecimal a b lt e) = (a.0, ap digit a.1)

begin_number : (text : List ℕ) (i a j v : ℕ) → Blanks text i a → Number text a j v → Begin text i
begin_number text i a j v bl n = let d = number_digit n in record { place = a; blanks = bl; inner = d.0; is = subst Begins (sym (digit_start (get_or text a 0) d.1)) tt }

begin_key : {text : List ℕ} {k : Key} {i j : ℕ} → Keyed text k i j → Begin text i
begin_key (Grammar.plain bl n) = begin_word _ _ _ _ bl n.spelled
begin_key (Grammar.numbered bl n bl' a s bl'' z) = begin_word _ _ _ _ bl n.spelled

pub begins : {text : List ℕ} {n : ℕ} {t : Expr} {i j : ℕ} → Spells text n t i j → Begin text i
begins (Grammar.tighter s) = begins s
begins (Grammar.binary o e l bl w r) = begins l
begins (Grammar.signed s bl a t) = begin_at _ _ _ _ bl a (subst Begins (sym (sign_start s)) tt)
begins (Grammar.number c bl n) = begin_number _ _ _ _ _ bl n
begins (Grammar.quote t bl x) = begin_at _ _ _ _ bl x.opens tt
begins (Grammar.key k) = begin_key k
begins (Grammar.call bl n bl' a s z) = begin_word _ _ _ _ bl n.spelled
begins (Grammar.list bl a s z) = begin_at _ _ _ _ bl a tt
begins (Grammar.round bl a t bl' z) = begin_at _ _ _ _ bl a tt

-- numbers
part_cons : (text : List ℕ) (p p' : ℕ) → p < p' → p < length text → part text p p' ≡ get_or text p 0 ∷ part text (p + 1) p'
part_cons text p p' lt in-text =
    let e : p' - p ≡ suc (p' - (p + 1)) = omega arith in
    ap (λ xs. take (p' - p) xs) (drop_more text p 0 in-text) ∙ ap (λ n. take n (get_or text p 0 ∷ drop (p + 1) text)) e

part_none : (text : List ℕ) (p p' : ℕ) → p ≡ p' → part text p p' ≡ []
part_none text p p' e = let none : p' - p ≡ 0 = omega arith in ap (λ n. take n (drop p text)) none

digit_ten : (b : ℕ) → digit b ≡ true → digit_in 10 b ≡ true
digit_ten b e = grind (arith, nat_tests)

digit_value_lem : (b : ℕ) → digit b ≡ true → b - 48 ≡ digit_value b
digit_value_lem b e = sym (cond-true _ _ _ e)

octal_plain : (b : ℕ) → digit_in 8 b ≡ true → (eqb b 120 || eqb b 88) ≡ false
octal_plain b e = grind (arith, nat_tests)

word_value : (b : ℕ) → word b ≡ false → digit_value b ≡ 16
word_value b e = grind (arith, nat_tests)

word_plain : (b : ℕ) → word b ≡ false → (eqb b 120 || eqb b 88) ≡ false
word_plain b e = grind (arith, nat_tests)

word_digits : (n b : ℕ) → n ≤ 16 → word b ≡ false → digit_in n b ≡ false
word_digits n b le e = ap (λ v. ltb v n) (word_value b e) ∙ le-ltb 16 n le

module _ (text : List ℕ) where
  digits_run : (n base i v p p' : ℕ) (g : Numbered) → p' ≡ p + n → p' ≤ length text → ((q : ℕ) → p ≤ q → q < p' → digit_in base (get_or text q 0) ≡ true) → reads text (Config.in_number i (Digits.digits base v) g) p ≡ reads text (Config.in_number i (Digits.digits base (valued base v (part text p p'))) g) p'
  digits_run zero base i v p p' g e within all =
      let e' : p ≡ p' = omega arith in
      ap (reads text (Config.in_number i (Digits.digits base v) g)) e' ∙ ap (λ bs. reads text (Config.in_number i (Digits.digits base (valued base v bs)) g) p') (sym (part_none text p p' e'))
  digits_run (suc n) base i v p p' g e within all =
      let lt : p < length text = omega arith in
      moves false text (Config.in_number i (Digits.digits base v) g) p _ lt (cond-true _ _ _ (all p (omega arith) (omega arith)))
      ∙ digits_run n base i (base * v + digit_value (get_or text p 0)) (p + 1) p' g (omega arith) within (λ q a b. all q (omega arith) b)
      ∙ ap (λ bs. reads text (Config.in_number i (Digits.digits base (valued base v bs)) g) p') (sym (part_cons text p p' (omega arith) lt))

  -- the first digit in a base, and the others
  digits_from : (base i p p' : ℕ) (g : Numbered) → p < p' → Every (digit_in base) text p p' → reads text (Config.in_number i (Digits.digits base (digit_value (get_or text p 0))) g) (p + 1) ≡ reads text (Config.in_number i (Digits.digits base (valued base 0 (part text p p'))) g) p'
  digits_from base i p p' g lt e =
      let in-text : p < length text = omega (arith, e.inside) in
      digits_run (p' - (p + 1)) base i (digit_value (get_or text p 0)) (p + 1) p' g (omega arith) e.inside (λ q a b. e.all q (omega arith) b)
      ∙ ap (λ v. reads text (Config.in_number i (Digits.digits base (valued base v (part text (p + 1) p'))) g) p') first
      ∙ ap (λ bs. reads text (Config.in_number i (Digits.digits base (valued base 0 bs)) g) p') (sym (part_cons text p p' lt in-text))
    where
      first : digit_value (get_or text p 0) ≡ base * 0 + digit_value (get_or text p 0)
      first = omega arith

  digits_end : (base i v p : ℕ) (g : Numbered) → base ≤ 16 → p < length text → word (get_or text p 0) ≡ false → reads text (Config.in_number i (Digits.digits base v) g) p ≡ reacts false text p (numbereds g (constant_at i p v) (get_or text p 0) p)
  digits_end base i v p g le lt e = moves false text (Config.in_number i (Digits.digits base v) g) p _ lt (cond-false _ _ _ (word_digits base (get_or text p 0) le e))

  nought_end : (i p : ℕ) (g : Numbered) → p < length text → word (get_or text p 0) ≡ false → reads text (Config.in_number i Digits.nought g) p ≡ reacts false text p (numbereds g (constant_at i p 0) (get_or text p 0) p)
  nought_end i p g lt e = moves false text (Config.in_number i Digits.nought g) p _ lt (cond-false _ _ _ (word_plain (get_or text p 0) e) ∙ cond-false _ _ _ (word_digits 8 (get_or text p 0) (omega arith) e))

  nought_first : (i : ℕ) (g : Numbered) → At text i 48 → reads text (Config.in_number i (first_digit (get_or text i 0)) g) (i + 1) ≡ reads text (Config.in_number i Digits.nought g) (i + 1)
  nought_first i g a = ap (λ b. reads text (Config.in_number i (first_digit b) g) (i + 1)) a.1

  octal_run : (i j : ℕ) (g : Numbered) → i < j → Every (digit_in 8) text (i + 1) j → j < length text → word (get_or text j 0) ≡ false → reads text (Config.in_number i Digits.nought g) (i + 1) ≡ reacts false text j (numbereds g (constant_at i j (valued 8 0 (part text (i + 1) j))) (get_or text j 0) j)
  octal_run i j g lt e in-text w =
      ⊎_elim
      (λ more.
      let d : digit_in 8 (get_or text (i + 1) 0) ≡ true = e.all (i + 1) (omega arith) more in
      moves false text (Config.in_number i Digits.nought g) (i + 1) _ (omega arith) (cond-false _ _ _ (octal_plain (get_or text (i + 1) 0) d) ∙ cond-true _ _ _ d)
      ∙ digits_from 8 i (i + 1) j g more e
      ∙ digits_end 8 i _ j g (omega arith) in-text w)
      (λ less.
      let same : i + 1 ≡ j = omega arith in
      ap (reads text (Config.in_number i Digits.nought g)) same
      ∙ nought_end i j g in-text w
      ∙ ap (λ bs. reacts false text j (numbereds g (constant_at i j (valued 8 0 bs)) (get_or text j 0) j)) (sym (part_none text (i + 1) j same)))
      (cases_lt (i + 1) j)

  prefix_on : (i : ℕ) (g : Numbered) → (At text (i + 1) 120) ⊎ (At text (i + 1) 88) → reads text (Config.in_number i Digits.nought g) (i + 1) ≡ reads text (Config.in_number i Digits.prefix g) (i + 2)
  prefix_on i g (inl a) = let two : i + 1 + 1 ≡ i + 2 = omega arith in moves false text (Config.in_number i Digits.nought g) (i + 1) _ a.0 (ap (λ b. numbers Digits.nought i g b (i + 1)) a.1) ∙ ap (reads text (Config.in_number i Digits.prefix g)) two
  prefix_on i g (inr a) = let two : i + 1 + 1 ≡ i + 2 = omega arith in moves false text (Config.in_number i Digits.nought g) (i + 1) _ a.0 (ap (λ b. numbers Digits.nought i g b (i + 1)) a.1) ∙ ap (reads text (Config.in_number i Digits.prefix g)) two

  -- a number constant after its first digit, and the byte after it
  number_run : {i j v : ℕ} → Number text i j v → (g : Numbered) → j < length text → word (get_or text j 0) ≡ false → reads text (Config.in_number i (first_digit (get_or text i 0)) g) (i + 1) ≡ reacts false text j (numbereds g (constant_at i j v) (get_or text j 0) j)
  number_run {i = i} {j = j} (Grammar.decimal lt ne e) g in-text w =
      let d : digit (get_or text i 0) ≡ true = e.all i (omega arith) lt in
      ap (λ n. reads text (Config.in_number i n g) (i + 1)) (cond-false (eqb (get_or text i 0) 48) Digits.nought (Digits.digits 10 (get_or text i 0 - 48)) (ne_eqb (get_or text i 0) 48 ne) ∙ ap (Digits.digits 10) (digit_value_lem (get_or text i 0) d))
      ∙ digits_from 10 i i j g lt (record { onwards = e.onwards; inside = e.inside; all = λ q a b. digit_ten (get_or text q 0) (e.all q a b) })
      ∙ digits_end 10 i _ j g (omega arith) in-text w
  number_run {i = i} {j = j} (Grammar.octal a lt e) g in-text w = nought_first i g a ∙ octal_run i j g lt e in-text w
  number_run {i = i} {j = j} (Grammar.hexadecimal a x lt e) g in-text w =
      nought_first i g a
      ∙ prefix_on i g x
      ∙ moves false text (Config.in_number i Digits.prefix g) (i + 2) _ (omega arith) (cond-true _ _ _ (e.all (i + 2) (omega arith) lt))
      ∙ digits_from 16 i (i + 2) j g lt e
      ∙ digits_end 16 i _ j g (omega arith) in-text w

  number_first : (k : Stack) (p : ℕ) → p < length text → digit (get_or text p 0) ≡ true → reads text (Config.want k) p ≡ reads text (Config.in_number p (first_digit (get_or text p 0)) (Numbered.operand k)) (p + 1)
  number_first k p lt e = moves false text (Config.want k) p _ lt (ap (λ s. wants s (get_or text p 0) k p) (digit_start (get_or text p 0) e))

  -- a number constant as an operand
  pub numeral : (c : Constant) → Numeral text c → (k : Stack) → c.span.to < length text → word (get_or text c.span.to 0) ≡ false → reads text (Config.want k) c.span.«from» ≡ reads text (Config.aft (Expr.number c) k) c.span.to
  numeral c n k in-text w =
      let d = number_digit n in
      number_first k c.span.«from» d.0 d.1
      ∙ number_run n (Numbered.operand k) in-text w
      ∙ free_late text c.span.to (broken_number c) (step (Config.aft (Expr.number c) k) c.span.to (get_or text c.span.to 0))
      ∙ sym (on false text (Config.aft (Expr.number c) k) c.span.to in-text)

  -- and as the last of a sequence
  pub numeral_last : (c : Constant) → Numeral text c → (r : Run) → c.span.to < length text → word (get_or text c.span.to 0) ≡ false → reads text (Config.last_wanted r) c.span.«from» ≡ reads text (Config.last_done c r) c.span.to
  numeral_last c n r in-text w =
      let d = number_digit n in
      moves false text (Config.last_wanted r) c.span.«from» _ d.0 (cond-false _ _ _ (digit_solid (get_or text c.span.«from» 0) d.1) ∙ cond-true _ _ _ d.1)
      ∙ number_run n (Numbered.last r) in-text w
      ∙ free_late text c.span.to (large c ++ arrival r.first r.second c ++ lengthy c) (step (Config.last_done c r) c.span.to (get_or text c.span.to 0))
      ∙ sym (on false text (Config.last_done c r) c.span.to in-text)
    where
      digit_solid : (b : ℕ) → digit b ≡ true → blank b ≡ false
      digit_solid b e = grind (arith, nat_tests)

-- words
letter_word : (b : ℕ) → letter b ≡ true → word b ≡ true
letter_word b e = grind (arith, nat_tests)

part_more : (text : List ℕ) (i p : ℕ) → i ≤ p → p < length text → part text i p ++ get_or text p 0 ∷ [] ≡ part text i (p + 1)
part_more text i p le lt =
    let e : p + 1 - i ≡ p - i + 1 = omega arith in
    let e' : i + (p - i) ≡ p = omega arith in
    let in_rest : p - i < length (drop i text) = omega (arith, length-drop i text) in
    sym (ap (λ n. take n (drop i text)) e ∙ take_more (drop i text) (p - i) 0 in_rest ∙ ap (λ x. part text i p ++ x ∷ []) (get_or-drop i text (p - i) 0 ∙ ap (λ q. get_or text q 0) e'))

module _ (text : List ℕ) where
  word_by : (n i p p' : ℕ) (k : Stack) → p' ≡ p + n → i ≤ p → p' ≤ length text → ((q : ℕ) → p ≤ q → q < p' → word (get_or text q 0) ≡ true) → reads text (Config.in_name i (part text i p) k) p ≡ reads text (Config.in_name i (part text i p') k) p'
  word_by zero i p p' k e le within all = let e' : p ≡ p' = omega arith in ap (λ p. reads text (Config.in_name i (part text i p) k) p) e'
  word_by (suc n) i p p' k e le within all =
      let lt : p < length text = omega arith in
      moves false text (Config.in_name i (part text i p) k) p _ lt (cond-true _ _ _ (all p (omega arith) (omega arith)))
      ∙ ap (λ w. reads text (Config.in_name i w k) (p + 1)) (part_more text i p le lt)
      ∙ word_by n i (p + 1) p' k (omega arith) (omega arith) within (λ q a b. all q (omega arith) b)

  part_one : (p : ℕ) → p < length text → get_or text p 0 ∷ [] ≡ part text p (p + 1)
  part_one p lt = ap (λ w. w ++ get_or text p 0 ∷ []) (sym (part_none text p p refl)) ∙ part_more text p p (omega arith) lt

  -- a word, where an operand is expected
  word_run : (a j : ℕ) (k : Stack) → Word text a j → reads text (Config.want k) a ≡ reads text (Config.in_name a (part text a j) k) j
  word_run a j k n =
      let lt : a < length text = omega (arith, n.some, n.words.inside) in
      moves false text (Config.want k) a _ lt (ap (λ s. wants s (get_or text a 0) k a) (letter_start (get_or text a 0) n.first))
      ∙ ap (λ w. reads text (Config.in_name a w k) (a + 1)) (part_one a lt)
      ∙ word_by (j - (a + 1)) a (a + 1) j k (omega (arith, n.some)) (omega arith) n.words.inside (λ q x y. n.words.all q (omega arith) y)

  loop_by : (n q₀ j₀ : ℕ) (e₀ : Bool) (i p p' : ℕ) (ts : Items) → p' ≡ p + n → i ≤ p → p' ≤ length text → ((q : ℕ) → p ≤ q → q < p' → word (get_or text q 0) ≡ true) → reads text (Config.loop_name q₀ j₀ e₀ i (part text i p) ts) p ≡ reads text (Config.loop_name q₀ j₀ e₀ i (part text i p') ts) p'
  loop_by zero q₀ j₀ e₀ i p p' ts e le within all = let e' : p ≡ p' = omega arith in ap (λ p. reads text (Config.loop_name q₀ j₀ e₀ i (part text i p) ts) p) e'
  loop_by (suc n) q₀ j₀ e₀ i p p' ts e le within all =
      let lt : p < length text = omega arith in
      moves false text (Config.loop_name q₀ j₀ e₀ i (part text i p) ts) p _ lt (cond-true _ _ _ (all p (omega arith) (omega arith)))
      ∙ ap (λ w. reads text (Config.loop_name q₀ j₀ e₀ i w ts) (p + 1)) (part_more text i p le lt)
      ∙ loop_by n q₀ j₀ e₀ i (p + 1) p' ts (omega arith) (omega arith) within (λ q a b. all q (omega arith) b)

  -- the name of a loop
  loop_run : (q₀ j₀ : ℕ) (e₀ : Bool) (a j : ℕ) (ts : Items) → Name text a j → j < length text → reads text (Config.naming q₀ j₀ e₀ ts) a ≡ reads text (Config.want (Stack.top q₀ (loop_head e₀ j₀ a j) ts)) j
  loop_run q₀ j₀ e₀ a j ts n in-text =
      let w = n.spelled in
      let lt : a < length text = omega (arith, w.some, w.words.inside) in
      moves false text (Config.naming q₀ j₀ e₀ ts) a _ lt (cond-false _ _ _ (letter_solid (get_or text a 0) w.first) ∙ cond-true _ _ _ w.first)
      ∙ ap (λ w. reads text (Config.loop_name q₀ j₀ e₀ a w ts) (a + 1)) (part_one a lt)
      ∙ loop_by (j - (a + 1)) q₀ j₀ e₀ a (a + 1) j ts (omega (arith, w.some)) (omega arith) w.words.inside (λ q x y. w.words.all q (omega arith) y)
      ∙ late_alike text (Config.loop_name q₀ j₀ e₀ a (part text a j) ts) (Config.want (Stack.top q₀ (loop_head e₀ j₀ a j) ts)) j (long a j) in-text (cond-false _ _ _ w.longest ∙ ap (λ o. looped o q₀ j₀ e₀ a ts (get_or text j 0) j) n.free)
    where
      letter_solid : (b : ℕ) → letter b ≡ true → blank b ≡ false
      letter_solid b e = grind (arith, nat_tests)

  -- a name, and the blanks after it
  named_run : (i a j c : ℕ) (k : Stack) → Blanks text i a → Name text a j → j < length text → Blanks text j c → reads text (Config.want k) i ≡ reads text (Config.named a j (part text a j) k) c
  named_run i a j c k bl n in-text bl' =
      stays false text (Config.want k) (want_stays k) i a bl
      ∙ word_run a j k n.spelled
      ∙ late_alike text (Config.in_name a (part text a j) k) (Config.named a j (part text a j) k) j (long a j) in-text (cond-false _ _ _ n.spelled.longest ∙ ap (λ o. worded o a (part text a j) k j (get_or text j 0)) n.free)
      ∙ stays false text (Config.named a j (part text a j) k) (named_stays a j (part text a j) k) j c bl'

  -- an instruction's word
  command_run : (w : Keyword) (i a j : ℕ) (q : ℕ) (ts : Items) → Blanks text i a → Command text w a j → j < length text → reads text (Config.want (Stack.top q Head.show ts)) i ≡ reacts false text j (commands w q ts j (get_or text j 0))
  command_run w i a j q ts bl n in-text =
      stays false text (Config.want (Stack.top q Head.show ts)) (want_stays (Stack.top q Head.show ts)) i a bl
      ∙ word_run a j (Stack.top q Head.show ts) n.spelled
      ∙ moves false text (Config.in_name a (part text a j) (Stack.top q Head.show ts)) j _ in-text (cond-false _ _ _ n.spelled.longest ∙ ap (λ o. worded o a (part text a j) (Stack.top q Head.show ts) j (get_or text j 0)) n.is)

-- a name that neither `(` nor `[` follows
alone_by : (n : ℕ) (x : After) (b : ℕ) (i j : ℕ) (w : List ℕ) (k : Stack) (p : ℕ) → Nexts n x b → nameds x i j w k p ≡ afters x (Expr.key (Key.name i j)) k p
alone_by n past.Blank b i j w k p h = absurd h
alone_by n (past.Single o) b i j w k p h = refl
alone_by n (past.Double d) b i j w k p h = refl
alone_by n (past.Separator c) b i j w k p h = refl
alone_by n past.Round b i j w k p h = absurd h
alone_by n past.Square b i j w k p h = absurd h
alone_by n (past.End s) b i j w k p h = refl
alone_by n past.Dollar b i j w k p h = refl
alone_by n past.Quote b i j w k p h = refl
alone_by n past.Other b i j w k p h = absurd h

-- text constants
text_goes : (cl : Class) (i n : ℕ) (g : Quoted) (p : ℕ) → (cl ≡ is.Quote → ⊥) → (cl ≡ is.Backslash → ⊥) → (cl ≡ is.Newline → ⊥) → texts cl i n g p ≡ go [] (Config.in_text i (n + 1) g)
text_goes is.Newline i n g p q b e = absurd (e refl)
text_goes is.Return i n g p q b e = refl
text_goes is.Blank i n g p q b e = refl
text_goes is.Dollar i n g p q b e = refl
text_goes is.Quote i n g p q b e = absurd (q refl)
text_goes is.Backslash i n g p q b e = absurd (b refl)
text_goes is.Escaped i n g p q b e = refl
text_goes is.Other i n g p q b e = refl

pub class_quote : (b : ℕ) → class b ≡ is.Quote → b ≡ 34
class_quote b e = grind (arith, nat_tests)

pub class_backslash : (b : ℕ) → class b ≡ is.Backslash → b ≡ 92
class_backslash b e = grind (arith, nat_tests)

pub class_newline : (b : ℕ) → class b ≡ is.Newline → b ≡ 10
class_newline b e = grind (arith, nat_tests)

escape_goes : (b i n : ℕ) (g : Quoted) → ((b ≡ 34) ⊎ (b ≡ 92)) ⊎ ((b ≡ 110) ⊎ (b ≡ 116)) → escapes (class b) i n g ≡ go [] (Config.in_text i (n + 1) g)
escape_goes b i n g (inl (inl e)) = ap (λ b. escapes (class b) i n g) e
escape_goes b i n g (inl (inr e)) = ap (λ b. escapes (class b) i n g) e
escape_goes b i n g (inr (inl e)) = ap (λ b. escapes (class b) i n g) e
escape_goes b i n g (inr (inr e)) = ap (λ b. escapes (class b) i n g) e

chars_run : {text : List ℕ} {n i j : ℕ} → Chars text n i j → (q : ℕ) (g : Quoted) → reads text (Config.in_text q 0 g) i ≡ reads text (Config.in_text q n g) j
chars_run Grammar.none q g = refl
chars_run {text} (Grammar.plain {n = n} {j = j} c lt a b e) q g =
    chars_run c q g ∙ moves false text (Config.in_text q n g) j _ lt (text_goes (class (get_or text j 0)) q n g j (λ x. a (class_quote (get_or text j 0) x)) (λ x. b (class_backslash (get_or text j 0) x)) (λ x. e (class_newline (get_or text j 0) x)))
chars_run {text} (Grammar.escaped {n = n} {j = j} b c a h e) q g =
    let two : j + 1 + 1 ≡ j + 2 = omega arith in
    chars_run c q g
    ∙ moves false text (Config.in_text q n g) j _ a.0 (ap (λ b. texts (class b) q n g j) a.1)
    ∙ moves false text (Config.escape q n g) (j + 1) _ h.0 (ap (λ b. escapes (class b) q n g) h.1 ∙ escape_goes b q n g e)
    ∙ ap (reads text (Config.in_text q (n + 1) g)) two

-- a text constant after its first quote
text_run : (text : List ℕ) (t : Quote) → Text text t → (g : Quoted) → reads text (Config.in_text t.span.«from» 0 g) (t.span.«from» + 1) ≡ reads text (Config.quoted t g) t.span.to
text_run text t x g =
    chars_run x.chars t.span.«from» g
    ∙ moves false text (Config.in_text t.span.«from» t.bytes g) x.last _ x.closes.0 (ap (λ b. texts (class b) t.span.«from» t.bytes g x.last) x.closes.1)
    ∙ ap (λ z. reads text (Config.quoted (record { span = from_to t.span.«from» z; bytes = t.bytes }) g) z) (sym x.ends)

-- signs and operators on the stack come together at a byte that follows
assigns_binary : (q : ℕ) (o : Op) (l t : Expr) (k : Stack) (b p : ℕ) → assigns t (Stack.binary q o l k) b p ≡ stop
assigns_binary q o l (Expr.number c) k b p = refl
assigns_binary q o l (Expr.text t) k b p = refl
assigns_binary q o l (Expr.key c) k b p = refl
assigns_binary q o l (Expr.call i j q' f s z) k b p = refl
assigns_binary q o l (Expr.list q' s) k b p = refl
assigns_binary q o l (Expr.round q' e) k b p = refl
assigns_binary q o l (Expr.signed q' s e) k b p = refl
assigns_binary q o l (Expr.binary q' o' l' r) k b p = refl

assigns_signed : (q : ℕ) (s : Sign) (t : Expr) (k : Stack) (b p : ℕ) → assigns t (Stack.signed q s k) b p ≡ stop
assigns_signed q s (Expr.number c) k b p = refl
assigns_signed q s (Expr.text t) k b p = refl
assigns_signed q s (Expr.key c) k b p = refl
assigns_signed q s (Expr.call i j q' f s' z) k b p = refl
assigns_signed q s (Expr.list q' s') k b p = refl
assigns_signed q s (Expr.round q' e) k b p = refl
assigns_signed q s (Expr.signed q' s' e) k b p = refl
assigns_signed q s (Expr.binary q' o' l' r) k b p = refl

single_binary : (h : Half) (a : Option Op) (q₀ q : ℕ) (o : Op) (l r : Expr) (k : Stack) (b p : ℕ) → Loose (level o) None a → single h a q₀ r (Stack.binary q o l k) b p ≡ single h a q₀ (Expr.binary q o l r) k b p
single_binary h (Some o') q₀ q o l r k b p le = ap (λ (v : Expr × Stack). wants (start b) b (pushed q₀ o' v) p) (reduce_all (level o') q o l r k le)
single_binary halved.Bar None q₀ q o l r k b p le = refl
single_binary halved.Ampersand None q₀ q o l r k b p le = refl
single_binary halved.Equals None q₀ q o l r k b p le = assigns_binary q o l r k b p
single_binary halved.Bang None q₀ q o l r k b p le = refl
single_binary halved.Less None q₀ q o l r k b p le = refl
single_binary halved.Greater None q₀ q o l r k b p le = refl

halves_binary : (h : Half) (d : Option Op) (q₀ q : ℕ) (o : Op) (l r : Expr) (k : Stack) (b p : ℕ) → Loose (level o) d (alone h) → halves d h q₀ r (Stack.binary q o l k) b p ≡ halves d h q₀ (Expr.binary q o l r) k b p
halves_binary h (Some o') q₀ q o l r k b p le = ap (λ (v : Expr × Stack). go [] (Config.want (pushed q₀ o' v))) (reduce_all (level o') q o l r k le)
halves_binary h None q₀ q o l r k b p le = single_binary h (alone h) q₀ q o l r k b p le

single_signed : (h : Half) (a : Option Op) (q₀ q : ℕ) (s : Sign) (t : Expr) (k : Stack) (b p : ℕ) → single h a q₀ t (Stack.signed q s k) b p ≡ single h a q₀ (Expr.signed q s t) k b p
single_signed h (Some o') q₀ q s t k b p = refl
single_signed halved.Bar None q₀ q s t k b p = refl
single_signed halved.Ampersand None q₀ q s t k b p = refl
single_signed halved.Equals None q₀ q s t k b p = assigns_signed q s t k b p
single_signed halved.Bang None q₀ q s t k b p = refl
single_signed halved.Less None q₀ q s t k b p = refl
single_signed halved.Greater None q₀ q s t k b p = refl

halves_signed : (h : Half) (d : Option Op) (q₀ q : ℕ) (s : Sign) (t : Expr) (k : Stack) (b p : ℕ) → halves d h q₀ t (Stack.signed q s k) b p ≡ halves d h q₀ (Expr.signed q s t) k b p
halves_signed h (Some o') q₀ q s t k b p = refl
halves_signed h None q₀ q s t k b p = single_signed h (alone h) q₀ q s t k b p

module _ (text : List ℕ) where
  binary_at : (n : ℕ) (x : After) (q : ℕ) (o : Op) (l r : Expr) (k : Stack) (p : ℕ) → n ≡ level o → Nexts n x (get_or text (p + 1) 0) → reacts false text p (afters x r (Stack.binary q o l k) p) ≡ reacts false text p (afters x (Expr.binary q o l r) k p)
  binary_at n past.Blank q o l r k p e h = absurd h
  binary_at n (past.Single o') q o l r k p e h = ap (λ (v : Expr × Stack). reacts false text p (go [] (Config.want (pushed p o' v)))) (reduce_all (level o') q o l r k (omega arith))
  binary_at n (past.Double d) q o l r k p e h =
      alike false text (Config.half p d r (Stack.binary q o l k)) (Config.half p d (Expr.binary q o l r) k) (p + 1)
      (λ lt. halves_binary d (doubled d (get_or text (p + 1) 0)) p q o l r k (get_or text (p + 1) 0) (p + 1) (subst (λ n. Loose n (doubled d (get_or text (p + 1) 0)) (alone d)) e h)) refl
  binary_at n (past.Separator c) q o l r k p e h = ap (λ v. reacts false text p (parts c v)) (reduce_all 0 q o l r k (omega arith))
  binary_at n past.Round q o l r k p e h = refl
  binary_at n past.Square q o l r k p e h = refl
  binary_at n (past.End s) q o l r k p e h = ap (λ v. reacts false text p (closes s p v)) (reduce_all 0 q o l r k (omega arith))
  binary_at n past.Dollar q o l r k p e h = ap (λ v. reacts false text p (completes p v)) (reduce_all 0 q o l r k (omega arith))
  binary_at n past.Quote q o l r k p e h = ap (λ v. reacts false text p (quotes p v)) (reduce_all 0 q o l r k (omega arith))
  binary_at n past.Other q o l r k p e h = refl

  signed_at : (n : ℕ) (x : After) (q : ℕ) (s : Sign) (t : Expr) (k : Stack) (p : ℕ) → Nexts n x (get_or text (p + 1) 0) → reacts false text p (afters x t (Stack.signed q s k) p) ≡ reacts false text p (afters x (Expr.signed q s t) k p)
  signed_at n past.Blank q s t k p h = absurd h
  signed_at n (past.Single o') q s t k p h = refl
  signed_at n (past.Double d) q s t k p h =
      alike false text (Config.half p d t (Stack.signed q s k)) (Config.half p d (Expr.signed q s t) k) (p + 1)
      (λ lt. halves_signed d (doubled d (get_or text (p + 1) 0)) p q s t k (get_or text (p + 1) 0) (p + 1)) refl
  signed_at n (past.Separator c) q s t k p h = refl
  signed_at n past.Round q s t k p h = refl
  signed_at n past.Square q s t k p h = refl
  signed_at n (past.End c) q s t k p h = refl
  signed_at n past.Dollar q s t k p h = refl
  signed_at n past.Quote q s t k p h = refl
  signed_at n past.Other q s t k p h = refl

  blank_want : (k : Stack) (i a : ℕ) → Blanks text i a → reads text (Config.want k) i ≡ reads text (Config.want k) a
  blank_want k i a bl = stays false text (Config.want k) (want_stays k) i a bl

  pub blank_aft : (t : Expr) (k : Stack) (i a : ℕ) → Blanks text i a → reads text (Config.aft t k) i ≡ reads text (Config.aft t k) a
  blank_aft t k i a bl = stays false text (Config.aft t k) (aft_stays t k) i a bl

  -- an operator on the stack and its sides come together where no tighter operator follows
  collapse : (n q : ℕ) (o : Op) (l r : Expr) (k : Stack) (j : ℕ) → n ≡ level o → Follow text n j → reads text (Config.aft r (Stack.binary q o l k)) j ≡ reads text (Config.aft (Expr.binary q o l r) k) j
  collapse n q o l r k j e f =
      blank_aft r (Stack.binary q o l k) j f.place f.blanks
      ∙ on false text (Config.aft r (Stack.binary q o l k)) f.place f.inner
      ∙ binary_at n (after (get_or text f.place 0)) q o l r k f.place e f.next
      ∙ sym (on false text (Config.aft (Expr.binary q o l r) k) f.place f.inner)
      ∙ sym (blank_aft (Expr.binary q o l r) k j f.place f.blanks)

  -- a sign takes its operand
  collapse_sign : (n q : ℕ) (s : Sign) (t : Expr) (k : Stack) (j : ℕ) → Follow text n j → reads text (Config.aft t (Stack.signed q s k)) j ≡ reads text (Config.aft (Expr.signed q s t) k) j
  collapse_sign n q s t k j f =
      blank_aft t (Stack.signed q s k) j f.place f.blanks
      ∙ on false text (Config.aft t (Stack.signed q s k)) f.place f.inner
      ∙ signed_at n (after (get_or text f.place 0)) q s t k f.place f.next
      ∙ sym (on false text (Config.aft (Expr.signed q s t) k) f.place f.inner)
      ∙ sym (blank_aft (Expr.signed q s t) k j f.place f.blanks)

-- operators as written
start_blank : (b : ℕ) → blank b ≡ true → start b ≡ at.Blank
start_blank b e = cond-true _ _ _ e

-- no operand, and no blank, begins with the second byte of an operator
abbrev Opens : Start → Type 0
Opens at.Blank = Unit {0}
Opens at.Digit = Unit {0}
Opens at.Letter = Unit {0}
Opens at.Quote = Unit {0}
Opens (at.Sign s) = Unit {0}
Opens at.Round = Unit {0}
Opens at.Curly = Unit {0}
Opens at.EndRound = Unit {0}
Opens at.EndCurly = Unit {0}
Opens at.Dot = Unit {0}
Opens at.Other = ⊥

begins_opens : (s : Start) → Begins s → Opens s
begins_opens at.Blank h = tt
begins_opens at.Digit h = tt
begins_opens at.Letter h = tt
begins_opens at.Quote h = tt
begins_opens (at.Sign s) h = tt
begins_opens at.Round h = tt
begins_opens at.Curly h = tt
begins_opens at.EndRound h = tt
begins_opens at.EndCurly h = tt
begins_opens at.Dot h = tt
begins_opens at.Other h = h

begin_opens : (text : List ℕ) (i : ℕ) → Begin text i → Opens (start (get_or text i 0))
begin_opens text i g =
    ⊎_elim
    (λ lt. subst Opens (sym (start_blank (get_or text i 0) (g.blanks.all i (omega arith) lt))) tt)
    (λ ge. let e : g.place ≡ i = omega (arith, g.blanks.onwards) in subst (λ p. Opens (start (get_or text p 0))) e (begins_opens (start (get_or text g.place 0)) g.is))
    (cases_lt i g.place)

not_at : (b c : ℕ) → Opens (start b) → start c ≡ at.Other → eqb b c ≡ false
not_at b c h e = ne_eqb b c (λ same. subst Opens (ap start same ∙ e) h)

no_double : (h : Half) (b : ℕ) → Opens (start b) → doubled h b ≡ None
no_double halved.Bar b g = cond-false _ _ _ (not_at b 124 g refl)
no_double halved.Ampersand b g = cond-false _ _ _ (not_at b 38 g refl)
no_double halved.Equals b g = cond-false _ _ _ (not_at b 61 g refl)
no_double halved.Bang b g = cond-false _ _ _ (not_at b 61 g refl)
no_double halved.Less b g = cond-false _ _ _ (not_at b 61 g refl) ∙ cond-false _ _ _ (not_at b 60 g refl)
no_double halved.Greater b g = cond-false _ _ _ (not_at b 61 g refl) ∙ cond-false _ _ _ (not_at b 62 g refl)

module _ (text : List ℕ) where
  -- what an operator's bytes are
  one_next : (o : Op) (n b x : ℕ) → after x ≡ past.Single o → At text b x → level o ≤ n → Nexts n (after (get_or text b 0)) (get_or text (b + 1) 0)
  one_next o n b x e h le = subst (λ c. Nexts n c (get_or text (b + 1) 0)) (sym (ap after h.1 ∙ e)) le

  two_next : (h : Half) (o : Op) (n b x y : ℕ) → after x ≡ past.Double h → doubled h y ≡ Some o → At text b x → At text (b + 1) y → level o ≤ n → Nexts n (after (get_or text b 0)) (get_or text (b + 1) 0)
  two_next h o n b x y e d a a' le = subst (λ c. Nexts n c (get_or text (b + 1) 0)) (sym (ap after a.1 ∙ e)) (subst (λ d. Loose n d (alone h)) (sym (ap (doubled h) a'.1 ∙ d)) le)

  half_next : (h : Half) (o : Op) (n b c x : ℕ) → after x ≡ past.Double h → alone h ≡ Some o → At text b x → c ≡ b + 1 → Begin text c → level o ≤ n → Nexts n (after (get_or text b 0)) (get_or text (b + 1) 0)
  half_next h o n b c x e d a s g le =
      subst (λ c. Nexts n c (get_or text (b + 1) 0)) (sym (ap after a.1 ∙ e))
      (subst (λ d. Loose n d (alone h)) (sym (no_double h (get_or text (b + 1) 0) (subst (λ p. Opens (start (get_or text p 0))) s (begin_opens text c g)))) (subst (Loose n None) (sym d) le))

  op_next : (o : Op) (n b c : ℕ) → Written text o b c → Begin text c → level o ≤ n → (b < length text) × Nexts n (after (get_or text b 0)) (get_or text (b + 1) 0)
  op_next op.Or n b c w g le = (w.0.0, two_next halved.Bar op.Or n b 124 124 refl refl w.0 w.1 le)
  op_next op.And n b c w g le = (w.0.0, two_next halved.Ampersand op.And n b 38 38 refl refl w.0 w.1 le)
  op_next op.BitOr n b c w g le = (w.0.0, half_next halved.Bar op.BitOr n b c 124 refl refl w.0 w.1 g le)
  op_next op.BitXor n b c w g le = (w.0.0, one_next op.BitXor n b 94 refl w.0 le)
  op_next op.BitAnd n b c w g le = (w.0.0, half_next halved.Ampersand op.BitAnd n b c 38 refl refl w.0 w.1 g le)
  op_next op.Equal n b c w g le = (w.0.0, two_next halved.Equals op.Equal n b 61 61 refl refl w.0 w.1 le)
  op_next op.Unequal n b c w g le = (w.0.0, two_next halved.Bang op.Unequal n b 33 61 refl refl w.0 w.1 le)
  op_next op.Less n b c w g le = (w.0.0, half_next halved.Less op.Less n b c 60 refl refl w.0 w.1 g le)
  op_next op.Greater n b c w g le = (w.0.0, half_next halved.Greater op.Greater n b c 62 refl refl w.0 w.1 g le)
  op_next op.LessEqual n b c w g le = (w.0.0, two_next halved.Less op.LessEqual n b 60 61 refl refl w.0 w.1 le)
  op_next op.GreaterEqual n b c w g le = (w.0.0, two_next halved.Greater op.GreaterEqual n b 62 61 refl refl w.0 w.1 le)
  op_next op.ShiftLeft n b c w g le = (w.0.0, two_next halved.Less op.ShiftLeft n b 60 60 refl refl w.0 w.1 le)
  op_next op.ShiftRight n b c w g le = (w.0.0, two_next halved.Greater op.ShiftRight n b 62 62 refl refl w.0 w.1 le)
  op_next op.Add n b c w g le = (w.0.0, one_next op.Add n b 43 refl w.0 le)
  op_next op.Subtract n b c w g le = (w.0.0, one_next op.Subtract n b 45 refl w.0 le)
  op_next op.Multiply n b c w g le = (w.0.0, one_next op.Multiply n b 42 refl w.0 le)
  op_next op.Divide n b c w g le = (w.0.0, one_next op.Divide n b 47 refl w.0 le)
  op_next op.Remainder n b c w g le = (w.0.0, one_next op.Remainder n b 37 refl w.0 le)

  -- and how the reading passes them
  one_on : (o : Op) (l : Expr) (k : Stack) (b c x : ℕ) → after x ≡ past.Single o → At text b x → c ≡ b + 1 → Below (level o) k → reads text (Config.aft l k) b ≡ reads text (Config.want (Stack.binary b o l k)) c
  one_on o l k b c x e h s below =
      moves false text (Config.aft l k) b _ h.0 (ap (λ x. afters x l k b) (ap after h.1 ∙ e) ∙ ap (λ (v : Expr × Stack). go [] (Config.want (pushed b o v))) (reduce_none o l k below))
      ∙ ap (reads text (Config.want (Stack.binary b o l k))) (sym s)

  half_at : (h : Half) (l : Expr) (k : Stack) (b x : ℕ) → after x ≡ past.Double h → At text b x → reads text (Config.aft l k) b ≡ reads text (Config.half b h l k) (b + 1)
  half_at h l k b x e a = moves false text (Config.aft l k) b _ a.0 (ap (λ x. afters x l k b) (ap after a.1 ∙ e))

  two_on : (h : Half) (o : Op) (l : Expr) (k : Stack) (b c x y : ℕ) → after x ≡ past.Double h → doubled h y ≡ Some o → At text b x → At text (b + 1) y → c ≡ b + 2 → Below (level o) k → reads text (Config.aft l k) b ≡ reads text (Config.want (Stack.binary b o l k)) c
  two_on h o l k b c x y e d a a' s below =
      let two : b + 1 + 1 ≡ c = omega arith in
      half_at h l k b x e a
      ∙ moves false text (Config.half b h l k) (b + 1) _ a'.0 (ap (λ d. halves d h b l k (get_or text (b + 1) 0) (b + 1)) (ap (doubled h) a'.1 ∙ d) ∙ ap (λ (v : Expr × Stack). go [] (Config.want (pushed b o v))) (reduce_none o l k below))
      ∙ ap (reads text (Config.want (Stack.binary b o l k))) two

  alone_on : (h : Half) (o : Op) (l : Expr) (k : Stack) (b c x : ℕ) → after x ≡ past.Double h → alone h ≡ Some o → At text b x → c ≡ b + 1 → Begin text c → Below (level o) k → reads text (Config.aft l k) b ≡ reads text (Config.want (Stack.binary b o l k)) c
  alone_on h o l k b c x e d a s g below =
      half_at h l k b x e a
      ∙ alike false text (Config.half b h l k) (Config.want (Stack.binary b o l k)) (b + 1)
      (λ lt.
      ap (λ d. halves d h b l k (get_or text (b + 1) 0) (b + 1)) (no_double h (get_or text (b + 1) 0) (subst (λ p. Opens (start (get_or text p 0))) s (begin_opens text c g)))
      ∙ ap (λ a. single h a b l k (get_or text (b + 1) 0) (b + 1)) d
      ∙ ap (λ (v : Expr × Stack). wants (start (get_or text (b + 1) 0)) (get_or text (b + 1) 0) (pushed b o v) (b + 1)) (reduce_none o l k below))
      refl
      ∙ ap (reads text (Config.want (Stack.binary b o l k))) (sym s)

  written_on : (o : Op) (l : Expr) (k : Stack) (b c : ℕ) → Written text o b c → Begin text c → Below (level o) k → reads text (Config.aft l k) b ≡ reads text (Config.want (Stack.binary b o l k)) c
  written_on op.Or l k b c w g below = two_on halved.Bar op.Or l k b c 124 124 refl refl w.0 w.1 w.2 below
  written_on op.And l k b c w g below = two_on halved.Ampersand op.And l k b c 38 38 refl refl w.0 w.1 w.2 below
  written_on op.BitOr l k b c w g below = alone_on halved.Bar op.BitOr l k b c 124 refl refl w.0 w.1 g below
  written_on op.BitXor l k b c w g below = one_on op.BitXor l k b c 94 refl w.0 w.1 below
  written_on op.BitAnd l k b c w g below = alone_on halved.Ampersand op.BitAnd l k b c 38 refl refl w.0 w.1 g below
  written_on op.Equal l k b c w g below = two_on halved.Equals op.Equal l k b c 61 61 refl refl w.0 w.1 w.2 below
  written_on op.Unequal l k b c w g below = two_on halved.Bang op.Unequal l k b c 33 61 refl refl w.0 w.1 w.2 below
  written_on op.Less l k b c w g below = alone_on halved.Less op.Less l k b c 60 refl refl w.0 w.1 g below
  written_on op.Greater l k b c w g below = alone_on halved.Greater op.Greater l k b c 62 refl refl w.0 w.1 g below
  written_on op.LessEqual l k b c w g below = two_on halved.Less op.LessEqual l k b c 60 61 refl refl w.0 w.1 w.2 below
  written_on op.GreaterEqual l k b c w g below = two_on halved.Greater op.GreaterEqual l k b c 62 61 refl refl w.0 w.1 w.2 below
  written_on op.ShiftLeft l k b c w g below = two_on halved.Less op.ShiftLeft l k b c 60 60 refl refl w.0 w.1 w.2 below
  written_on op.ShiftRight l k b c w g below = two_on halved.Greater op.ShiftRight l k b c 62 62 refl refl w.0 w.1 w.2 below
  written_on op.Add l k b c w g below = one_on op.Add l k b c 43 refl w.0 w.1 below
  written_on op.Subtract l k b c w g below = one_on op.Subtract l k b c 45 refl w.0 w.1 below
  written_on op.Multiply l k b c w g below = one_on op.Multiply l k b c 42 refl w.0 w.1 below
  written_on op.Divide l k b c w g below = one_on op.Divide l k b c 47 refl w.0 w.1 below
  written_on op.Remainder l k b c w g below = one_on op.Remainder l k b c 37 refl w.0 w.1 below

-- where an operand may be expected, and what closes
sign_by : (p : ℕ) (s : Sign) (k : Stack) → Below 11 k → Machine.sign p s k ≡ go [] (Config.want (Stack.signed p s k))
sign_by p s (Stack.top q h ts) b = refl
sign_by p s (Stack.binary q o l k) b = refl
sign_by p s (Stack.signed q g k) b = absurd (omega arith)
sign_by p s (Stack.open' c k) b = refl

firsts_wants : (s : Start) (b : ℕ) (k : Stack) (p : ℕ) → Begins s → firsts s b k p ≡ wants s b k p
firsts_wants at.Blank b k p h = absurd h
firsts_wants at.Digit b k p h = refl
firsts_wants at.Letter b k p h = refl
firsts_wants at.Quote b k p h = refl
firsts_wants (at.Sign s) b k p h = refl
firsts_wants at.Round b k p h = refl
firsts_wants at.Curly b k p h = refl
firsts_wants at.EndRound b k p h = absurd h
firsts_wants at.EndCurly b k p h = absurd h
firsts_wants at.Dot b k p h = absurd h
firsts_wants at.Other b k p h = absurd h

-- where the arguments and the items of a list end: after the last one, in the bracket with those before it
abbrev ended_call : ℕ → ℕ → ℕ → Option Signature → Args → Stack → Config
ended_call i j q f Args.nullary k = Config.want (Stack.open' (Bracket.call i j q f Args.nullary) k)
ended_call i j q f (Args.argument s t) k = Config.aft t (Stack.open' (Bracket.call i j q f s) k)

abbrev ended_list : ℕ → Seq → ℕ → Stack → Config
ended_list q Seq.empty n k = Config.want (Stack.open' (Bracket.curly q Seq.empty n) k)
ended_list q (Seq.item s t) n k = Config.aft t (Stack.open' (Bracket.curly q s n) k)
ended_list q (Seq.steps s a b c) n k = Config.last_done c (record { place = q; items = s; first = a; second = b; stack = k })

abbrev Full : Seq → Type 0
Full Seq.empty = ⊥
Full (Seq.item s t) = Unit {0}
Full (Seq.steps s a b c) = Unit {0}

abbrev Given : Args → Type 0
Given Args.nullary = ⊥
Given (Args.argument s t) = Unit {0}

given : {text : List ℕ} {s : Args} {i j : ℕ} → Arguments text s i j → Given s
given (Grammar.argument t) = tt
given (Grammar.and_argument r bl a t) = tt

full_commas : {text : List ℕ} {s₀ s : Seq} {i j : ℕ} → Commas text s₀ s i j → Full s
full_commas (Grammar.item t) = tt
full_commas (Grammar.and_item r bl a t) = tt

full_group : {text : List ℕ} {s₀ s : Seq} {i j : ℕ} → Group text s₀ s i j → Full s
full_group (Grammar.expressions c) = full_commas c
full_group (Grammar.sequence a b c bl na bl' d bl'' nb bl''' e ds f blc nc) = tt

full_groups : {text : List ℕ} {s : Seq} {i j : ℕ} → Groups text s i j → Full s
full_groups (Grammar.group g) = full_group g
full_groups (Grammar.and_group r bl a g) = full_group g

begin_arguments : {text : List ℕ} {s : Args} {i j : ℕ} → Arguments text s i j → Begin text i
begin_arguments (Grammar.argument t) = begins t
begin_arguments (Grammar.and_argument r bl a t) = begin_arguments r

begin_commas : {text : List ℕ} {s₀ s : Seq} {i j : ℕ} → Commas text s₀ s i j → Begin text i
begin_commas (Grammar.item t) = begins t
begin_commas (Grammar.and_item r bl a t) = begin_commas r

begin_group : {text : List ℕ} {s₀ s : Seq} {i j : ℕ} → Group text s₀ s i j → Begin text i
begin_group (Grammar.expressions c) = begin_commas c
begin_group (Grammar.sequence a b c bl na bl' d bl'' nb bl''' e ds f blc nc) = begin_number _ _ _ _ _ bl na

begin_groups : {text : List ℕ} {s : Seq} {i j : ℕ} → Groups text s i j → Begin text i
begin_groups (Grammar.group g) = begin_group g
begin_groups (Grammar.and_group r bl a g) = begin_groups r

module _ (text : List ℕ) where
  follow_inner : (n j : ℕ) → Follow text n j → j < length text
  follow_inner n j f = omega (arith, f.blanks.onwards, f.inner)

  wants_on : (k : Stack) (p b : ℕ) (v : Move) → At text p b → wants (start b) b k p ≡ v → reads text (Config.want k) p ≡ reacts false text p v
  wants_on k p b v h e = moves false text (Config.want k) p v h.0 (ap (λ b. wants (start b) b k p) h.1 ∙ e)

  pub afters_on : (t : Expr) (k : Stack) (p b : ℕ) → At text p b → reads text (Config.aft t k) p ≡ reacts false text p (afters (after b) t k p)
  afters_on t k p b h = moves false text (Config.aft t k) p _ h.0 (ap (λ b. afters (after b) t k p) h.1)

  nameds_on : (i j : ℕ) (w : List ℕ) (k : Stack) (p b : ℕ) → At text p b → reads text (Config.named i j w k) p ≡ reacts false text p (nameds (after b) i j w k p)
  nameds_on i j w k p b h = moves false text (Config.named i j w k) p _ h.0 (ap (λ b. nameds (after b) i j w k p) h.1)

  firsts_on : (k : Stack) (p b : ℕ) → At text p b → reads text (Config.first k) p ≡ reacts false text p (firsts (start b) b k p)
  firsts_on k p b h = moves false text (Config.first k) p _ h.0 (ap (λ b. firsts (start b) b k p) h.1)

  first_want : (k : Stack) (i : ℕ) → Begin text i → reads text (Config.first k) i ≡ reads text (Config.want k) i
  first_want k i g =
      stays false text (Config.first k) (first_stays k) i g.place g.blanks
      ∙ alike false text (Config.first k) (Config.want k) g.place (λ lt. firsts_wants (start (get_or text g.place 0)) (get_or text g.place 0) k g.place g.is) refl
      ∙ sym (blank_want text k i g.place g.blanks)

  -- after the last argument: `,` and `)`
  next_argument : (i j q : ℕ) (f : Option Signature) (s : Args) → Given s → (k : Stack) (a b : ℕ) → Blanks text a b → At text b 44 → reads text (ended_call i j q f s k) a ≡ reads text (Config.want (Stack.open' (Bracket.call i j q f s) k)) (b + 1)
  next_argument i j q f Args.nullary h k a b bl z = absurd h
  next_argument i j q f (Args.argument s t) h k a b bl z = blank_aft text t (Stack.open' (Bracket.call i j q f s) k) a b bl ∙ afters_on t (Stack.open' (Bracket.call i j q f s) k) b 44 z

  end_call : (i j q : ℕ) (f : Option Signature) (s : Args) → Given s → (k : Stack) (a e : ℕ) → Blanks text a e → At text e 41 → reads text (ended_call i j q f s k) a ≡ reads text (Config.aft (Expr.call i j q f s e) k) (e + 1)
  end_call i j q f Args.nullary h k a e bl z = absurd h
  end_call i j q f (Args.argument s t) h k a e bl z =
      blank_aft text t (Stack.open' (Bracket.call i j q f s) k) a e bl
      ∙ afters_on t (Stack.open' (Bracket.call i j q f s) k) e 41 z
      ∙ free text e _ (Config.aft (Expr.call i j q f (Args.argument s t) e) k)

  -- after the last item of a list: `;` and `}`
  lasts_on : (c : Constant) (r : Run) (p b : ℕ) → At text p b → reads text (Config.last_done c r) p ≡ reacts false text p (lasts (after b) c r)
  lasts_on c r p b h = moves false text (Config.last_done c r) p _ h.0 (ap (λ b. lasts (after b) c r) h.1)

  next_group : (q : ℕ) (s : Seq) (n : ℕ) → Full s → (k : Stack) (a b : ℕ) → Blanks text a b → At text b 59 → reads text (ended_list q s n k) a ≡ reads text (Config.want (Stack.open' (Bracket.curly q s 0) k)) (b + 1)
  next_group q Seq.empty n h k a b bl z = absurd h
  next_group q (Seq.item s t) n h k a b bl z = blank_aft text t (Stack.open' (Bracket.curly q s n) k) a b bl ∙ afters_on t (Stack.open' (Bracket.curly q s n) k) b 59 z
  next_group q (Seq.steps s x y c) n h k a b bl z =
      let r : Run = record { place = q; items = s; first = x; second = y; stack = k } in
      stays false text (Config.last_done c r) (last_done_stays c r) a b bl ∙ lasts_on c r b 59 z

  end_list : (q : ℕ) (s : Seq) (n : ℕ) → Full s → (k : Stack) (a e : ℕ) → Blanks text a e → At text e 125 → reads text (ended_list q s n k) a ≡ reads text (Config.aft (Expr.list q s) k) (e + 1)
  end_list q Seq.empty n h k a e bl z = absurd h
  end_list q (Seq.item s t) n h k a e bl z = blank_aft text t (Stack.open' (Bracket.curly q s n) k) a e bl ∙ afters_on t (Stack.open' (Bracket.curly q s n) k) e 125 z
  end_list q (Seq.steps s x y c) n h k a e bl z =
      let r : Run = record { place = q; items = s; first = x; second = y; stack = k } in
      stays false text (Config.last_done c r) (last_done_stays c r) a e bl ∙ lasts_on c r e 125 z

  -- `,` after an item
  next_item : (q : ℕ) (s : Seq) (n : ℕ) (t : Expr) (k : Stack) (a b : ℕ) → Blanks text a b → At text b 44 → reads text (Config.aft t (Stack.open' (Bracket.curly q s n) k)) a ≡ reads text (Config.want (Stack.open' (Bracket.curly q (Seq.item s t) (suc n)) k)) (b + 1)
  next_item q s n t k a b bl z = blank_aft text t (Stack.open' (Bracket.curly q s n) k) a b bl ∙ afters_on t (Stack.open' (Bracket.curly q s n) k) b 44 z

  -- the dots of a sequence
  dot_on : (n : ℕ) (r : Run) (p : ℕ) → At text p 46 → reads text (Config.dots (suc n) r) p ≡ reads text (Config.dots n r) (p + 1)
  dot_on n r p h = moves false text (Config.dots (suc n) r) p _ h.0 (ap (step (Config.dots (suc n) r) p) h.1)

  dots_run : (q : ℕ) (s : Seq) (a b : Constant) (k : Stack) {i f : ℕ} → Dots text i f → At text f 44 → reads text (Config.want (Stack.open' (Bracket.curly q (Seq.item (Seq.item s (Expr.number a)) (Expr.number b)) 2) k)) i ≡ reads text (Config.last_wanted (record { place = q; items = s; first = a; second = b; stack = k })) (f + 1)
  dots_run q s a b k (Grammar.dots {i = i} {a = x} {j = f} bl d₁ d₂ d₃ bl') z =
      let r : Run = record { place = q; items = s; first = a; second = b; stack = k } in
      let here : Stack = Stack.open' (Bracket.curly q (Seq.item (Seq.item s (Expr.number a)) (Expr.number b)) 2) k in
      let two : x + 1 + 1 ≡ x + 2 = omega arith in
      let three : x + 2 + 1 ≡ x + 3 = omega arith in
      blank_want text here i x bl
      ∙ wants_on here x 46 _ d₁ refl
      ∙ dot_on 1 r (x + 1) d₂
      ∙ ap (reads text (Config.dots 1 r)) two
      ∙ dot_on 0 r (x + 2) d₃
      ∙ ap (reads text (Config.dots 0 r)) three
      ∙ stays false text (Config.dots 0 r) (dots_stays r) (x + 3) f bl'
      ∙ moves false text (Config.dots 0 r) f _ z.0 (ap (step (Config.dots 0 r) f) z.1)

  sequence_run : (q : ℕ) (s : Seq) (k : Stack) (i d e f : ℕ) (a b c : Constant) → Blanks text i a.span.«from» → Numeral text a → Blanks text a.span.to d → At text d 44 → Blanks text (d + 1) b.span.«from» → Numeral text b → Blanks text b.span.to e → At text e 44 → Dots text (e + 1) f → At text f 44 → Blanks text (f + 1) c.span.«from» → Numeral text c → Follow text 1 c.span.to → reads text (Config.want (Stack.open' (Bracket.curly q s 0) k)) i ≡ reads text (ended_list q (Seq.steps s a b c) 0 k) c.span.to
  sequence_run q s k i d e f a b c bl na bl₁ z₁ bl₂ nb bl₃ z₂ ds z₃ bl₄ nc fol =
      let r : Run = record { place = q; items = s; first = a; second = b; stack = k } in
      let k₀ : Stack = Stack.open' (Bracket.curly q s 0) k in
      let k₁ : Stack = Stack.open' (Bracket.curly q (Seq.item s (Expr.number a)) 1) k in
      let fa : Follow text 1 a.span.to = follow_by text 1 a.span.to d 44 bl₁ z₁ tt in
      let fb : Follow text 1 b.span.to = follow_by text 1 b.span.to e 44 bl₃ z₂ tt in
      blank_want text k₀ i a.span.«from» bl
      ∙ numeral text a na k₀ (follow_inner 1 a.span.to fa) (follow_word text 1 a.span.to fa)
      ∙ next_item q s 0 (Expr.number a) k a.span.to d bl₁ z₁
      ∙ blank_want text k₁ (d + 1) b.span.«from» bl₂
      ∙ numeral text b nb k₁ (follow_inner 1 b.span.to fb) (follow_word text 1 b.span.to fb)
      ∙ next_item q (Seq.item s (Expr.number a)) 1 (Expr.number b) k b.span.to e bl₃ z₂
      ∙ dots_run q s a b k ds z₃
      ∙ stays false text (Config.last_wanted r) (last_wanted_stays r) (f + 1) c.span.«from» bl₄
      ∙ numeral_last text c nc r (follow_inner 1 c.span.to fol) (follow_word text 1 c.span.to fol)

  -- `,` after some items
  next_comma : (q : ℕ) (s : Seq) (n : ℕ) {s₀ : Seq} {i j : ℕ} → Commas text s₀ s i j → (k : Stack) (a b : ℕ) → Blanks text a b → At text b 44 → reads text (ended_list q s n k) a ≡ reads text (Config.want (Stack.open' (Bracket.curly q s (suc n)) k)) (b + 1)
  next_comma q _ n (Grammar.item {s = s} {t = t} c) k a b bl z = next_item q s n t k a b bl z
  next_comma q _ n (Grammar.and_item {s = s} {t = t} c bl' z' c') k a b bl z = next_item q s n t k a b bl z

  mutual
    -- an expression, behind what waits for it
    pub spells : {n : ℕ} {t : Expr} {i j : ℕ} → Spells text n t i j → (k : Stack) → Below n k → Follow text n j → reads text (Config.want k) i ≡ reads text (Config.aft t k) j
    spells (Grammar.tighter {n = n} s) k below fol = spells s k (below_more n (n + 1) k (omega arith) below) (follow_more text n (n + 1) (omega arith) fol)
    spells (Grammar.binary {n = n} {l = l} {r = r} {i = i} {a = a} {b = b} {c = c} {j = j} o lev s bl w s') k below fol =
        let next = op_next text o n b c w (begins s') (omega arith) in
        let here : Follow text n a = record { place = b; blanks = bl; inner = next.0; next = next.1 } in
        spells s k below here
        ∙ blank_aft text l k a b bl
        ∙ written_on text o l k b c w (begins s') (subst (λ n. Below n k) (sym lev) below)
        ∙ spells s' (Stack.binary b o l k) (omega arith) (follow_more text n (n + 1) (omega arith) fol)
        ∙ collapse text n b o l r k j (sym lev) fol
    spells (Grammar.signed {t = t} {i = i} {a = a} {j = j} g bl h s) k below fol =
        blank_want text k i a bl
        ∙ wants_on k a (sign_byte g) _ h (ap (λ x. wants x (sign_byte g) k a) (sign_start g) ∙ sign_by a g k below)
        ∙ spells s (Stack.signed a g k) (omega arith) (follow_more text 11 12 (omega arith) fol)
        ∙ collapse_sign text 11 a g t k j fol
    spells (Grammar.number {i = i} c bl n) k below fol =
        blank_want text k i c.span.«from» bl
        ∙ numeral text c n k (follow_inner 12 c.span.to fol) (follow_word text 12 c.span.to fol)
    spells (Grammar.quote {i = i} t bl x) k below fol =
        blank_want text k i t.span.«from» bl
        ∙ wants_on k t.span.«from» 34 _ x.opens refl
        ∙ text_run text t x (Quoted.operand k)
        ∙ late_alike text (Config.quoted t (Quoted.operand k)) (Config.aft (Expr.text t) k) t.span.to (wide t) (follow_inner 12 t.span.to fol) refl
    spells (Grammar.key s) k below fol = keyed s k fol
    spells (Grammar.call {i = i} {a = a} {b = b} {c = c} {e = e} {s = s} bl n bl' h r z) k below fol =
        named_run text i a b c k bl n (omega (arith, bl'.onwards, h.0)) bl'
        ∙ nameds_on a b (part text a b) k c 40 h
        ∙ free text c _ (Config.first (Stack.open' (Bracket.call a b c (function (part text a b)) Args.nullary) k))
        ∙ listed r a b c (function (part text a b)) k z
    spells (Grammar.list {i = i} {a = a} {e = e} {s = s} bl h r z) k below fol =
        blank_want text k i a bl
        ∙ wants_on k a 123 _ h refl
        ∙ free text a _ (Config.first (Stack.open' (Bracket.curly a Seq.empty 0) k))
        ∙ items_of r a k z
    spells (Grammar.round {i = i} {a = a} {b = b} {c = c} {t = t} bl h s bl' z) k below fol =
        blank_want text k i a bl
        ∙ wants_on k a 40 _ h refl
        ∙ free text a _ (Config.want (Stack.open' (Bracket.round a) k))
        ∙ spells s (Stack.open' (Bracket.round a) k) tt (follow_by text 1 b c 41 bl' z tt)
        ∙ blank_aft text t (Stack.open' (Bracket.round a) k) b c bl'
        ∙ afters_on t (Stack.open' (Bracket.round a) k) c 41 z

    pub keyed : {c : Key} {i j : ℕ} → Keyed text c i j → (k : Stack) → Follow text 12 j → reads text (Config.want k) i ≡ reads text (Config.aft (Expr.key c) k) j
    keyed (Grammar.plain {i = i} {a = a} {j = j} bl n) k fol =
        named_run text i a j fol.place k bl n (follow_inner 12 j fol) fol.blanks
        ∙ alike false text (Config.named a j (part text a j) k) (Config.aft (Expr.key (Key.name a j)) k) fol.place (λ lt. alone_by 12 (after (get_or text fol.place 0)) (get_or text (fol.place + 1) 0) a j (part text a j) k fol.place fol.next) refl
        ∙ sym (blank_aft text (Expr.key (Key.name a j)) k j fol.place fol.blanks)
    keyed (Grammar.numbered {i = i} {a = a} {b = b} {c = c} {e = e} {f = f} {t = t} bl n bl' h s bl'' z) k fol =
        named_run text i a b c k bl n (omega (arith, bl'.onwards, h.0)) bl'
        ∙ nameds_on a b (part text a b) k c 91 h
        ∙ free text c _ (Config.want (Stack.open' (Bracket.square a b c) k))
        ∙ spells s (Stack.open' (Bracket.square a b c) k) tt (follow_by text 1 e f 93 bl'' z tt)
        ∙ blank_aft text t (Stack.open' (Bracket.square a b c) k) e f bl''
        ∙ afters_on t (Stack.open' (Bracket.square a b c) k) f 93 z

    listed : {s : Args} {i e : ℕ} → Listed text s i e → (x y q : ℕ) (f : Option Signature) (k : Stack) → At text e 41 → reads text (Config.first (Stack.open' (Bracket.call x y q f Args.nullary) k)) i ≡ reads text (Config.aft (Expr.call x y q f s e) k) (e + 1)
    listed (Grammar.no_arguments {i = i} {j = j} bl) x y q f k z =
        stays false text (Config.first (Stack.open' (Bracket.call x y q f Args.nullary) k)) (first_stays (Stack.open' (Bracket.call x y q f Args.nullary) k)) i j bl
        ∙ firsts_on (Stack.open' (Bracket.call x y q f Args.nullary) k) j 41 z
        ∙ free text j _ (Config.aft (Expr.call x y q f Args.nullary j) k)
    listed (Grammar.arguments {i = i} {a = a} {j = j} {s = s} r bl) x y q f k z =
        first_want (Stack.open' (Bracket.call x y q f Args.nullary) k) i (begin_arguments r)
        ∙ arguments r x y q f k (follow_by text 1 a j 41 bl z tt)
        ∙ end_call x y q f s (given r) k a j bl z

    arguments : {s : Args} {i j : ℕ} → Arguments text s i j → (x y q : ℕ) (f : Option Signature) (k : Stack) → Follow text 1 j → reads text (Config.want (Stack.open' (Bracket.call x y q f Args.nullary) k)) i ≡ reads text (ended_call x y q f s k) j
    arguments (Grammar.argument t) x y q f k fol = spells t (Stack.open' (Bracket.call x y q f Args.nullary) k) tt fol
    arguments (Grammar.and_argument {i = i} {a = a} {b = b} {j = j} {s = s} r bl z t) x y q f k fol =
        arguments r x y q f k (follow_by text 1 a b 44 bl z tt)
        ∙ next_argument x y q f s (given r) k a b bl z
        ∙ spells t (Stack.open' (Bracket.call x y q f s) k) tt fol

    items_of : {s : Seq} {i e : ℕ} → ItemsOf text s i e → (q : ℕ) (k : Stack) → At text e 125 → reads text (Config.first (Stack.open' (Bracket.curly q Seq.empty 0) k)) i ≡ reads text (Config.aft (Expr.list q s) k) (e + 1)
    items_of (Grammar.no_items {i = i} {j = j} bl) q k z =
        stays false text (Config.first (Stack.open' (Bracket.curly q Seq.empty 0) k)) (first_stays (Stack.open' (Bracket.curly q Seq.empty 0) k)) i j bl
        ∙ firsts_on (Stack.open' (Bracket.curly q Seq.empty 0) k) j 125 z
    items_of (Grammar.items {i = i} {a = a} {j = j} {s = s} r bl) q k z =
        let g = groups r q k (follow_by text 1 a j 125 bl z tt) in
        first_want (Stack.open' (Bracket.curly q Seq.empty 0) k) i (begin_groups r)
        ∙ g.1
        ∙ end_list q s g.0 (full_groups r) k a j bl z

    groups : {s : Seq} {i j : ℕ} → Groups text s i j → (q : ℕ) (k : Stack) → Follow text 1 j → (n : ℕ) × (reads text (Config.want (Stack.open' (Bracket.curly q Seq.empty 0) k)) i ≡ reads text (ended_list q s n k) j)
    groups (Grammar.group g) q k fol = group g q k fol
    groups (Grammar.and_group {a = a} {b = b} {s = s} r bl z g) q k fol =
        let before = groups r q k (follow_by text 1 a b 59 bl z tt) in
        let this = group g q k fol in
        (this.0, before.1 ∙ next_group q s before.0 (full_groups r) k a b bl z ∙ this.1)

    group : {s₀ s : Seq} {i j : ℕ} → Group text s₀ s i j → (q : ℕ) (k : Stack) → Follow text 1 j → (n : ℕ) × (reads text (Config.want (Stack.open' (Bracket.curly q s₀ 0) k)) i ≡ reads text (ended_list q s n k) j)
    group (Grammar.expressions c) q k fol = commas c q k fol
    group (Grammar.sequence {s = s} {i = i} {d = d} {e = e} {f = f} a b c bl na bl₁ z₁ bl₂ nb bl₃ z₂ ds z₃ bl₄ nc) q k fol = (0, sequence_run q s k i d e f a b c bl na bl₁ z₁ bl₂ nb bl₃ z₂ ds z₃ bl₄ nc fol)

    commas : {s₀ s : Seq} {i j : ℕ} → Commas text s₀ s i j → (q : ℕ) (k : Stack) → Follow text 1 j → (n : ℕ) × (reads text (Config.want (Stack.open' (Bracket.curly q s₀ 0) k)) i ≡ reads text (ended_list q s n k) j)
    commas (Grammar.item {s = s} t) q k fol = (0, spells t (Stack.open' (Bracket.curly q s 0) k) tt fol)
    commas (Grammar.and_item {a = a} {b = b} {s = s} r bl z t) q k fol =
        let before = commas r q k (follow_by text 1 a b 44 bl z tt) in
        (suc before.0, before.1 ∙ next_comma q s before.0 r k a b bl z ∙ spells t (Stack.open' (Bracket.curly q s (suc before.0)) k) tt fol)

-- an instruction begins like an expression
pub says_begins : {text : List ℕ} {t : Item} {i k : ℕ} → Says text t i k → Begin text (i + 1)
says_begins (Grammar.show s bl) = begins s
says_begins (Grammar.assign c bl z s bl') = begin_key c
says_begins (Grammar.if bl w s bl') = begin_word _ _ _ _ bl w.spelled
says_begins (Grammar.elif bl w s bl') = begin_word _ _ _ _ bl w.spelled
says_begins (Grammar.else bl w bl') = begin_word _ _ _ _ bl w.spelled
says_begins (Grammar.end bl w bl') = begin_word _ _ _ _ bl w.spelled
says_begins (Grammar.while bl w s bl') = begin_word _ _ _ _ bl w.spelled
says_begins (Grammar.foreach bl w bl' n s bl'') = begin_word _ _ _ _ bl w.spelled
says_begins (Grammar.joineach d bl w bl' n s bl'' x bl''') = begin_word _ _ _ _ bl w.spelled

module _ (text : List ℕ) where
  begin_inner : (i : ℕ) → Begin text i → i < length text
  begin_inner i g = omega (arith, g.blanks.onwards, g.inner)

  -- an expression up to the `$` that closes the instruction
  until_dollar : {t : Expr} {i j k : ℕ} → Spells text 1 t i j → Blanks text j k → At text k 36 → (q : ℕ) (h : Head) (ts : Items) → reads text (Config.want (Stack.top q h ts)) i ≡ reacts false text k (Machine.complete k q h t ts)
  until_dollar {t} {i} {j} {k} s bl z q h ts =
      spells text s (Stack.top q h ts) tt (follow_by text 1 j k 36 bl z tt)
      ∙ blank_aft text t (Stack.top q h ts) j k bl
      ∙ afters_on text t (Stack.top q h ts) k 36 z

  -- the byte after an instruction's word is that of the expression
  word_wants : (w : Keyword) (d : List Broken) (h : Head) (i a b q : ℕ) (ts : Items) → Blanks text i a → Command text w a b → b < length text → commands w q ts b (get_or text b 0) ≡ late d (wants (start (get_or text b 0)) (get_or text b 0) (Stack.top q h ts) b) → reads text (Config.want (Stack.top q Head.show ts)) i ≡ reads text (Config.want (Stack.top q h ts)) b
  word_wants w d h i a b q ts bl c lt e =
      command_run text w i a b q ts bl c lt
      ∙ ap (reacts false text b) e
      ∙ free_late text b d (wants (start (get_or text b 0)) (get_or text b 0) (Stack.top q h ts) b)
      ∙ sym (on false text (Config.want (Stack.top q h ts)) b lt)

  -- an instruction that is complete
  until_bare : (t : Item) (ts : Items) (i k : ℕ) → Blanks text i k → At text k 36 → reads text (Config.bare t ts) i ≡ reads text (Config.plain (k + 1) (Items.then ts t)) (k + 1)
  until_bare t ts i k bl z =
      stays false text (Config.bare t ts) (bare_stays t ts) i k bl
      ∙ moves false text (Config.bare t ts) k _ z.0 (ap (λ b. bares b t ts k) z.1)

  word_bare : (w : Keyword) (d : List Broken) (t : Item) (i a b q k : ℕ) (ts : Items) → Blanks text i a → Command text w a b → Blanks text b k → At text k 36 → commands w q ts b (get_or text b 0) ≡ late d (bares (get_or text b 0) t ts b) → reads text (Config.want (Stack.top q Head.show ts)) i ≡ reads text (Config.plain (k + 1) (Items.then ts t)) (k + 1)
  word_bare w d t i a b q k ts bl c bl' z e =
      let lt : b < length text = omega (arith, bl'.onwards, z.0) in
      command_run text w i a b q ts bl c lt
      ∙ ap (reacts false text b) e
      ∙ free_late text b d (bares (get_or text b 0) t ts b)
      ∙ sym (on false text (Config.bare t ts) b lt)
      ∙ until_bare t ts b k bl' z

  -- a blank stands between two words
  word_blank : (a b x y : ℕ) → Word text a b → Blanks text b x → Word text x y → b < x
  word_blank a b x y w bl w' =
      ⊎_elim (λ lt. lt) (λ ge. let e : x ≡ b = omega (arith, bl.onwards) in absurd (both w.longest (ap (λ p. word (get_or text p 0)) (sym e) ∙ letter_word (get_or text x 0) w'.first))) (cases_lt b x)
    where
      both : {t : Bool} → t ≡ false → t ≡ true → ⊥
      both a b = let z : ◌≡◌ {A = ℕ} 0 1 = cc in omega arith

  -- FOREACH or JOINEACH and its name
  word_loop : (w : Keyword) (d : List Broken) (e₀ : Bool) (i a b x y q : ℕ) (ts : Items) → Blanks text i a → Command text w a b → Blanks text b x → Name text x y → y < length text → commands w q ts b (get_or text b 0) ≡ cond (blank (get_or text b 0)) (go d (Config.naming q b e₀ ts)) stop → reads text (Config.want (Stack.top q Head.show ts)) i ≡ reads text (Config.want (Stack.top q (loop_head e₀ b x y) ts)) y
  word_loop w d e₀ i a b x y q ts bl c bl' n lt e =
      let more : b < x = word_blank a b x y c.spelled bl' n.spelled in
      let within : x ≤ length text = bl'.inside in
      command_run text w i a b q ts bl c (omega arith)
      ∙ ap (reacts false text b) (e ∙ cond-true _ _ _ (bl'.all b (omega arith) more))
      ∙ free text b d (Config.naming q b e₀ ts)
      ∙ stays false text (Config.naming q b e₀ ts) (naming_stays q b e₀ ts) (b + 1) x (record { onwards = omega arith; inside = bl'.inside; all = λ p u v. bl'.all p (omega arith) v })
      ∙ loop_run text q b e₀ x y ts n lt

  -- the `=` of an assignment
  equals_follow : (a b : ℕ) → Blanks text a b → At text b 61 → Begin text (b + 1) → Follow text 12 a
  equals_follow a b bl z g =
      record {
        place = b;
        blanks = bl;
        inner = z.0;
        next = subst (λ c. Nexts 12 c (get_or text (b + 1) 0)) (sym (ap after z.1)) (subst (λ d. Loose 12 d None) (sym (no_double halved.Equals (get_or text (b + 1) 0) (begin_opens text (b + 1) g))) tt);
      }

  equals_on : (c : Key) (a b q : ℕ) (ts : Items) → Blanks text a b → At text b 61 → Begin text (b + 1) → reads text (Config.aft (Expr.key c) (Stack.top q Head.show ts)) a ≡ reads text (Config.want (Stack.top q (Head.assign c) ts)) (b + 1)
  equals_on c a b q ts bl z g =
      blank_aft text (Expr.key c) (Stack.top q Head.show ts) a b bl
      ∙ half_at text halved.Equals (Expr.key c) (Stack.top q Head.show ts) b 61 refl z
      ∙ alike false text (Config.half b halved.Equals (Expr.key c) (Stack.top q Head.show ts)) (Config.want (Stack.top q (Head.assign c) ts)) (b + 1)
      (λ lt. ap (λ d. halves d halved.Equals b (Expr.key c) (Stack.top q Head.show ts) (get_or text (b + 1) 0) (b + 1)) (no_double halved.Equals (get_or text (b + 1) 0) (begin_opens text (b + 1) g)))
      refl

  -- an instruction, from the byte after its `$` to the byte after the `$` that closes it
  pub says : {t : Item} {i k : ℕ} → Says text t i k → (ts : Items) → At text k 36 → reads text (Config.want (Stack.top i Head.show ts)) (i + 1) ≡ reads text (Config.plain (k + 1) (Items.then ts t)) (k + 1)
  says (Grammar.show {i = i} s bl) ts z = until_dollar s bl z i Head.show ts
  says (Grammar.assign {c = c} {i = i} {a = a} {b = b} key bl h s bl') ts z =
      keyed text key (Stack.top i Head.show ts) (equals_follow a b bl h (begins s))
      ∙ equals_on c a b i ts bl h (begins s)
      ∙ until_dollar s bl' z i (Head.assign c) ts
  says (Grammar.if {i = i} {a = a} {b = b} bl w s bl') ts z =
      word_wants keyword.If (room (open_blocks ts) i b) (Head.if b) (i + 1) a b i ts bl w (begin_inner b (begins s)) refl ∙ until_dollar s bl' z i (Head.if b) ts
  says (Grammar.elif {i = i} {a = a} {b = b} bl w s bl') ts z =
      word_wants keyword.Elif (in_choice (open_blocks ts) i b) (Head.elif b) (i + 1) a b i ts bl w (begin_inner b (begins s)) refl ∙ until_dollar s bl' z i (Head.elif b) ts
  says (Grammar.else {i = i} {a = a} {b = b} {k = k} bl w bl') ts z = word_bare keyword.Else (in_choice (open_blocks ts) i b) (Item.else i b) (i + 1) a b i k ts bl w bl' z refl
  says (Grammar.end {i = i} {a = a} {b = b} {k = k} bl w bl') ts z = word_bare keyword.End (in_block (open_blocks ts) i b) (Item.end i b) (i + 1) a b i k ts bl w bl' z refl
  says (Grammar.while {i = i} {a = a} {b = b} bl w s bl') ts z =
      word_wants keyword.While (room (open_blocks ts) i b) (Head.while b) (i + 1) a b i ts bl w (begin_inner b (begins s)) refl ∙ until_dollar s bl' z i (Head.while b) ts
  says (Grammar.foreach {i = i} {a = a} {b = b} {x = x} {y = y} bl w bl' n s bl'') ts z =
      word_loop keyword.Foreach (room (open_blocks ts) i b) false (i + 1) a b x y i ts bl w bl' n (begin_inner y (begins s)) refl ∙ until_dollar s bl'' z i (Head.foreach b x y) ts
  says (Grammar.joineach {t = t} {i = i} {a = a} {b = b} {x = x} {y = y} {j = j} {k = k} d bl w bl' n s bl'' d' bl''') ts z =
      let waits : Join = record { place = i; word = b; «from» = x; to = y; list = t; items = ts } in
      let here : Stack = Stack.top i (Head.joineach b x y) ts in
      word_loop keyword.Joineach (room (open_blocks ts) i b) true (i + 1) a b x y i ts bl w bl' n (begin_inner y (begins s)) refl
      ∙ spells text s here tt (follow_by text 1 j d.span.«from» 34 bl'' d'.opens tt)
      ∙ blank_aft text t here j d.span.«from» bl''
      ∙ afters_on text t here d.span.«from» 34 d'.opens
      ∙ text_run text d d' (Quoted.delimiter waits)
      ∙ late_alike text (Config.quoted d (Quoted.delimiter waits)) (Config.bare (joined waits d) ts) d.span.to (wide d) (omega (arith, bl'''.onwards, z.0)) refl
      ∙ until_bare (joined waits d) ts d.span.to k bl''' z
