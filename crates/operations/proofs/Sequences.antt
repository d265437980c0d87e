-- The elements of a sequence, one by one. Assumes nothing.
use Rattle.std.proofs.Common.{◌≡◌, ◌≢◌, ℕ, zero, suc, cond, nat_lt, ◌+◌, ◌-◌, ◌*◌, ◌/◌, ◌^◌, ◌<◌, ◌≤◌, min, inl, inr, true, false, ltb, leb, List, [], ◌∷◌, ◌++◌, length, take, drop, ℤ, pos, Ok, Err, sym, refl, ap, ◌∙◌, arith}
use Rattle.std.specs.Int.{abs_diff}
use Rattle.std.proofs.Math.Nat.{mul-div_cancel, mul-le-mul_right, div-mul-le_self, div-le_self}
use Rattle.std.proofs.lemmas.Bool.{cases_lt, cond-true, cond-false, lt-ltb, le-ltb, ltb-false, le-leb, lt-leb}
use Rattle.refusals.specs.Errors.{refused_by}
use Rattle.refusals.specs.declared.Refusal.TheVariants.{TooManyElements}
use Rattle.values.specs.Forms.{Elem, number}
use Rattle.operations.specs.Functions.{at_most_16, element_at, Onwards, progression, sequence_elements, sequence}
use Rattle.operations.specs.Laws.{Reached, FromTo, SequenceArrives}
use Rattle.operations.specs.Operators.{value_of}

-- the number of a sequence at an index, from 0
abbrev pub number_at : ℕ → ℕ → ℕ → ℕ
number_at a b i = cond (nat_lt a b) (a + i * (b - a)) (a - i * (a - b))

-- n of them from index i on
abbrev pub numbers_at : ℕ → ℕ → ℕ → ℕ → List Elem
numbers_at a b i zero = []
numbers_at a b i (suc n) = number (pos (number_at a b i)) ∷ numbers_at a b (suc i) n

-- how many there are
abbrev pub count_of : ℕ → ℕ → ℕ → ℕ
count_of a b c = 2 + abs_diff b c / abs_diff a b

number_at-up : (a b i : ℕ) → a < b → number_at a b i ≡ a + i * (b - a)
number_at-up a b i h = cond-true _ _ _ (lt-ltb a b h)

number_at-down : (a b i : ℕ) → b ≤ a → number_at a b i ≡ a - i * (a - b)
number_at-down a b i h = cond-false _ _ _ (le-ltb a b h)

number_at-suc : (a b i : ℕ) → cond (nat_lt a b) (number_at a b i + abs_diff a b) (number_at a b i - abs_diff a b) ≡ number_at a b (suc i)
number_at-suc a b i = elim (cases_lt a b) [
  | inl h ↦
      let d : abs_diff a b ≡ b - a = omega arith in
      let m : suc i * (b - a) ≡ i * (b - a) + (b - a) = grind arith in
      cond-true _ _ _ (lt-ltb a b h) ∙ rw (number_at-up a b i h, number_at-up a b (suc i) h, d, m) (omega arith)
  | inr h ↦
      let d : abs_diff a b ≡ a - b = omega arith in
      let m : suc i * (a - b) ≡ i * (a - b) + (a - b) = grind arith in
      cond-false _ _ _ (le-ltb a b h) ∙ rw (number_at-down a b i h, number_at-down a b (suc i) h, d, m) (omega arith)
]

progression_at : (a b i k : ℕ) → progression (number_at a b i) (abs_diff a b) (nat_lt a b) k ≡ numbers_at a b i k
progression_at a b i zero = refl
progression_at a b i (suc k) = ap (λ t. number (pos (number_at a b i)) ∷ t) (ap (λ n. progression n (abs_diff a b) (nat_lt a b) k) (number_at-suc a b i) ∙ progression_at a b (suc i) k)

zeroth : (a b : ℕ) → number_at a b 0 ≡ a
zeroth a b = elim (cases_lt a b) [ inl h ↦ number_at-up a b 0 h ∙ omega arith | inr h ↦ number_at-down a b 0 h ∙ omega arith ]

next : (a b : ℕ) → number_at a b 1 ≡ b
next a b = elim (cases_lt a b) [ inl h ↦ number_at-up a b 1 h ∙ omega arith | inr h ↦ number_at-down a b 1 h ∙ omega arith ]

elements_are : (a b c : ℕ) → sequence_elements a b c ≡ numbers_at a b 0 (count_of a b c)
elements_are a b c =
    let k = abs_diff b c / abs_diff a b in
    let e : suc (suc k) ≡ 2 + k = omega arith in
    ap (λ n. number (pos n) ∷ progression b (abs_diff a b) (nat_lt a b) (suc k)) (sym (zeroth a b))
    ∙ ap (λ n. number (pos (number_at a b 0)) ∷ progression n (abs_diff a b) (nat_lt a b) (suc k)) (sym (next a b))
    ∙ ap (λ t. number (pos (number_at a b 0)) ∷ t) (progression_at a b 1 (suc k))
    ∙ ap (numbers_at a b 0) e

length-numbers_at : (a b i n : ℕ) → length (numbers_at a b i n) ≡ n
length-numbers_at a b i zero = refl
length-numbers_at a b i (suc n) = ap suc (length-numbers_at a b (suc i) n)

numbers_at-suc : (a b i n : ℕ) → numbers_at a b i (suc n) ≡ numbers_at a b i n ++ number (pos (number_at a b (i + n))) ∷ []
numbers_at-suc a b i zero = let e : i ≡ i + 0 = omega arith in ap (λ k. number (pos (number_at a b k)) ∷ []) e
numbers_at-suc a b i (suc n) =
    let e : suc i + n ≡ i + suc n = omega arith in
    ap (λ t. number (pos (number_at a b i)) ∷ t) (numbers_at-suc a b (suc i) n ∙ ap (λ k. numbers_at a b (suc i) n ++ number (pos (number_at a b k)) ∷ []) e)

-- i times d, of which all but one are in a way of w
times_within : (i d w : ℕ) → i < 2 + w / d → i * d ≤ d + w
times_within i d w h =
    let most : i * d ≤ suc (w / d) * d = mul-le-mul_right d (omega arith) in
    let rest = div-mul-le_self w d in
    grind arith

module _ (a b c : ℕ) (on : Onwards a b c) (fa : a < 2 ^ 63) (fc : c < 2 ^ 63) where
  long : length (sequence_elements a b c) ≡ count_of a b c
  long = ap length (elements_are a b c) ∙ length-numbers_at a b 0 (count_of a b c)

  apart : a ≢ b
  apart e = elim on [ inl h ↦ omega arith | inr h ↦ omega arith ]

  count_is : (n : ℕ) → (a ≢ b → n ≡ min (count_of a b c) (2 ^ 64 - 1)) → n ≡ count_of a b c
  count_is n is =
      let all = is apart in
      let few = div-le_self (abs_diff b c) (abs_diff a b) in
      let way : abs_diff b c ≤ 2 ^ 63 = elim on [ inl h ↦ omega arith | inr h ↦ omega arith ] in
      omega arith

  number_fits : (i : ℕ) → i < count_of a b c → number_at a b i < 2 ^ 63
  number_fits i h = elim on [
    | inl up ↦
        let d : abs_diff a b ≡ b - a = omega arith in
        let far : i * (b - a) ≤ b - a + abs_diff b c = rw d at (times_within i (abs_diff a b) (abs_diff b c) h) in
        rw (cond-true _ _ _ (lt-ltb a b up.0)) (omega arith)
    | inr down ↦ rw (cond-false _ _ _ (le-ltb a b (omega arith))) (omega arith)
  ]

  module _ (n : ℕ) (is : a ≢ b → n ≡ min (count_of a b c) (2 ^ 64 - 1)) (i : ℕ) (elements : List Elem) (so_far : elements ≡ numbers_at a b 0 i) where
    pub more : (z : ℤ) (after : List Elem) → i < n → (a < b → z ≡ pos (min (a + i * (b - a)) (2 ^ 63 - 1))) → (b ≤ a → z ≡ pos (min (a - i * (a - b)) (2 ^ 63 - 1))) → after ≡ elements ++ number z ∷ [] → after ≡ numbers_at a b 0 (i + 1)
    more z after h up down made =
        let e : z ≡ pos (min (number_at a b i) (2 ^ 63 - 1)) = elim (cases_lt a b) [ inl l ↦ rw (number_at-up a b i l) (up l) | inr l ↦ rw (number_at-down a b i l) (down l) ] in
        let all = count_is n is in
        let fits = number_fits i (omega arith) in
        let exact : min (number_at a b i) (2 ^ 63 - 1) ≡ number_at a b (0 + i) = let e : i ≡ 0 + i = omega arith in omega arith ∙ ap (number_at a b) e in
        let next : suc i ≡ i + 1 = omega arith in
        made ∙ ap (λ t. t ++ number z ∷ []) so_far ∙ ap (λ y. numbers_at a b 0 i ++ number y ∷ []) (e ∙ ap pos exact)
        ∙ sym (numbers_at-suc a b 0 i) ∙ ap (numbers_at a b 0) next

    -- a seventeenth element is refused
    pub too_many : i < n → ltb (length elements) 16 ≡ false → Err TooManyElements ≡ refused_by (sequence a b c)
    too_many h full =
        let all = count_is n is in
        let l = ltb-false _ _ full in
        let k = ap length so_far ∙ length-numbers_at a b 0 i in
        let many : leb (length (sequence_elements a b c)) 16 ≡ false = lt-leb _ _ (let n = long in omega arith) in
        sym (ap refused_by (cond-false _ _ _ many))

    pub arrived : i ≤ n → n ≤ i → length elements ≤ 16 → Ok elements ≡ refused_by (sequence a b c)
    arrived h g few =
        let all = count_is n is in
        let k = ap length so_far ∙ length-numbers_at a b 0 i in
        let same : i ≡ count_of a b c = omega arith in
        let room : leb (length (sequence_elements a b c)) 16 ≡ true = le-leb _ _ (let n = long in omega arith) in
        ap Ok (so_far ∙ ap (numbers_at a b 0) same ∙ sym (elements_are a b c)) ∙ sym (ap refused_by (cond-true _ _ _ room))

found : (a b i n j : ℕ) → j < n → take 1 (drop j (numbers_at a b i n)) ≡ number (pos (number_at a b (i + j))) ∷ []
found a b i zero j h = absurd (omega arith)
found a b i (suc n) zero h = let e : i ≡ i + 0 = omega arith in ap (λ k. number (pos (number_at a b k)) ∷ []) e
found a b i (suc n) (suc j) h = let e : suc i + j ≡ i + suc j = omega arith in found a b (suc i) n j (omega arith) ∙ ap (λ k. number (pos (number_at a b k)) ∷ []) e

at : (a b n j m : ℕ) → j < n → number_at a b j ≡ m → element_at (numbers_at a b 0 n) (pos j) ≡ value_of (pos m)
at a b n j m h e = let z : j ≡ 0 + j = omega arith in cond-false _ _ _ (le-ltb j 0 (omega arith)) ∙ found a b 0 n j h ∙ ap (λ k. number (pos (number_at a b k)) ∷ []) (sym z) ∙ ap (λ k. number (pos k) ∷ []) e

module _ (a b c k : ℕ) (way : Reached a b c k) where
  reached_count : count_of a b c ≡ k + 2
  reached_count = elim way [
    | inl h ↦
        let d : abs_diff a b ≡ b - a = omega arith in
        let w : abs_diff b c ≡ k * (b - a) = let e = h.1 in omega arith in
        let q : k * (b - a) / (b - a) ≡ k = mul-div_cancel k (omega arith) in
        rw (d, w, q) (omega arith)
    | inr h ↦
        let d : abs_diff a b ≡ a - b = omega arith in
        let w : abs_diff b c ≡ k * (a - b) = let e = h.1 in omega arith in
        let q : k * (a - b) / (a - b) ≡ k = mul-div_cancel k (omega arith) in
        rw (d, w, q) (omega arith)
  ]

  rises : a < b → (i : ℕ) → number_at a b (i + 1) ≡ b + i * (b - a)
  rises h i = let m : (i + 1) * (b - a) ≡ i * (b - a) + (b - a) = grind arith in number_at-up a b (i + 1) h ∙ omega arith

  falls : b < a → (i : ℕ) → number_at a b (i + 1) ≡ b - i * (a - b)
  falls h i = let m : (i + 1) * (a - b) ≡ i * (a - b) + (a - b) = grind arith in let l : b ≤ a = omega arith in number_at-down a b (i + 1) l ∙ omega arith

  ends : number_at a b (k + 1) ≡ c
  ends = elim way [
    | inl h ↦ let e = h.1 in rises h.0 k ∙ omega arith
    | inr h ↦ let e = h.1 in falls h.0 k ∙ omega arith
  ]

  reached : FromTo a b c k (numbers_at a b 0 (count_of a b c))
  reached =
      let n = reached_count in
      record {
        count = length-numbers_at a b 0 (count_of a b c) ∙ n;
        first = at a b (count_of a b c) 0 a (omega arith) (zeroth a b);
        up = λ h i l. at a b (count_of a b c) (i + 1) _ (omega arith) (rises h i);
        down = λ h i l. at a b (count_of a b c) (i + 1) _ (omega arith) (falls h i);
        last = at a b (count_of a b c) (k + 1) c (omega arith) ends;
      }

pub sequence_arrives : SequenceArrives
unfolding SequenceArrives
sequence_arrives a b c k way = (numbers_at a b 0 (count_of a b c), ap at_most_16 (elements_are a b c), reached a b c k way)
