-- The numbers of a range, one by one. Assumes nothing.
use Rattle.std.proofs.Common.{◌≡◌, ℕ, zero, suc, ◌≤◌, ◌⊎◌, inl, inr, true, false, ltb, List, [], ◌∷◌, ◌++◌, length, ℤ, pos, negsuc, ◌+ℤ◌, ◌≤ℤ◌, Ok, Err, sym, refl, ap, ◌∙◌, arith}
use Rattle.std.specs.Int.{int_gap}
use Rattle.std.specs.Int.Signed.{le_z, lt_z}
use Rattle.std.proofs.lemmas.Int.{ints}
use Rattle.std.proofs.lemmas.Bool.{cond-true, cond-false, ltb-false, le-ltb}
use Rattle.refusals.specs.Errors.{refused_by}
use Rattle.refusals.specs.declared.Refusal.TheVariants.{TooManyElements}
use Rattle.values.specs.Forms.{Elem, number}
use Rattle.operations.specs.Functions.{numbers_from, range}

gap_same : (a : ℤ) → int_gap a a ≡ 0
gap_same (pos a) = omega arith
gap_same (negsuc a) = omega arith

gap_next : (a n : ℤ) → a ≤ℤ n → int_gap a (n +ℤ pos 1) ≡ suc (int_gap a n)
gap_next (pos a) (pos n) h = omega (arith, ints)
gap_next (pos a) (negsuc n) h = absurd (omega (arith, ints))
gap_next (negsuc a) (pos n) h = omega arith
gap_next (negsuc a) (negsuc zero) h = omega arith
gap_next (negsuc a) (negsuc (suc n)) h =
    let e : negsuc (suc n) +ℤ pos 1 ≡ negsuc n = omega (arith, ints) in
    ap (int_gap (negsuc a)) e ∙ omega (arith, ints)

gap_to : (a n : ℤ) → a ≤ℤ n → a +ℤ pos (int_gap a n) ≡ n
gap_to (pos a) (pos n) h = omega (arith, ints)
gap_to (pos a) (negsuc n) h = absurd (omega (arith, ints))
gap_to (negsuc a) (pos n) h = omega (arith, ints)
gap_to (negsuc a) (negsuc n) h = omega (arith, ints)

gap_within : (a n b : ℤ) → a ≤ℤ n → n ≤ℤ b → int_gap a n ≤ int_gap a b
gap_within a n b h k =
    let x = gap_to a n h in
    let l : a ≤ℤ b = omega (arith, ints) in
    let y = gap_to a b l in
    omega (arith, ints)

length-numbers_from : (a : ℤ) (n : ℕ) → length (numbers_from a n) ≡ n
length-numbers_from a zero = refl
length-numbers_from a (suc n) = ap suc (length-numbers_from (a +ℤ pos 1) n)

numbers_from-suc : (a : ℤ) (n : ℕ) → numbers_from a (suc n) ≡ numbers_from a n ++ number (a +ℤ pos n) ∷ []
numbers_from-suc a zero = let e : a ≡ a +ℤ pos 0 = omega (arith, ints) in ap (λ z. number z ∷ []) e
numbers_from-suc a (suc n) =
    let e : a +ℤ pos 1 +ℤ pos n ≡ a +ℤ pos (suc n) = omega (arith, ints) in
    ap (λ t. number a ∷ t) (numbers_from-suc (a +ℤ pos 1) n ∙ ap (λ z. numbers_from (a +ℤ pos 1) n ++ number z ∷ []) e)

-- nothing was pushed before the first number
none : (a : ℤ) → numbers_from a (int_gap a a) ≡ []
none a = ap (numbers_from a) (gap_same a)

-- where the last number lies below the first, the range is empty
pub empty : (a b n : ℤ) (elements : List Elem) → (n ≡ a) ⊎ (n ≤ℤ b) → le_z n b ≡ false → elements ≡ numbers_from a (int_gap a n) → Ok elements ≡ refused_by (range a b)
empty a b n elements (inl e) past so_far =
    let below : lt_z b a ≡ true = ap (lt_z b) (sym e) ∙ grind (arith, ints) in
    ap Ok (so_far ∙ ap (λ m. numbers_from a (int_gap a m)) e ∙ none a) ∙ sym (ap refused_by (cond-true _ _ _ below))
empty a b n elements (inr l) past so_far = absurd (grind (arith, ints))

module _ (a n b : ℤ) (from : a ≤ℤ n) (to : le_z n b ≡ true) (before : List Elem) (so_far : before ≡ numbers_from a (int_gap a n)) where
  long : length before ≡ int_gap a n
  long = ap length so_far ∙ length-numbers_from a (int_gap a n)

  within : n ≤ℤ b
  within = grind (arith, ints)

  upwards : lt_z b a ≡ false
  upwards = let h = within in grind (arith, ints)

  pushed : (after : List Elem) → after ≡ before ++ number n ∷ [] → after ≡ numbers_from a (suc (int_gap a n))
  pushed after made =
      made ∙ ap (λ t. t ++ number n ∷ []) so_far ∙ ap (λ z. numbers_from a (int_gap a n) ++ number z ∷ []) (sym (gap_to a n from))
      ∙ sym (numbers_from-suc a (int_gap a n))

  pub more : (after : List Elem) → after ≡ before ++ number n ∷ [] → after ≡ numbers_from a (int_gap a (n +ℤ pos 1))
  more after made = pushed after made ∙ ap (numbers_from a) (sym (gap_next a n from))

  -- the last number was pushed
  pub all : (after : List Elem) → n ≡ b → ltb (length before) 16 ≡ true → after ≡ before ++ number n ∷ [] → Ok after ≡ refused_by (range a b)
  all after last room made =
      let few : ltb (int_gap a b) 16 ≡ true = ap (λ m. ltb (int_gap a m) 16) (sym last) ∙ ap (λ k. ltb k 16) (sym long) ∙ room in
      ap Ok (pushed after made ∙ ap (λ m. numbers_from a (suc (int_gap a m))) last) ∙ sym (ap refused_by (cond-false _ _ _ upwards ∙ cond-true _ _ _ few))

  -- a seventeenth number is refused
  pub too_many : ltb (length before) 16 ≡ false → Err TooManyElements ≡ refused_by (range a b)
  too_many full =
      let l = ltb-false _ _ full in
      let k = long in
      let g = gap_within a n b from within in
      let many : ltb (int_gap a b) 16 ≡ false = le-ltb _ _ (omega arith) in
      sym (ap refused_by (cond-false _ _ _ upwards ∙ cond-false _ _ _ many))
