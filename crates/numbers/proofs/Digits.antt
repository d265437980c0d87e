-- Digits, read one by one. Assumes nothing.
use Rattle.std.proofs.Common.{◌≡◌, ℕ, suc, ◌+◌, ◌-◌, ◌*◌, ◌^◌, ◌<◌, ◌≤◌, Bool, true, false, eqb, ltb, leb, List, [], ◌∷◌, length, get_or, drop, ℤ, pos, negsuc, Ok, Err, Result, decimal, nat_abs, true≢false, sym, refl, ap, ◌∙◌, le_refl, arith, rules, w64}
use lib.Signed.{mag, lt_z}
use Rattle.std.specs.Char.{is_ascii_digit}
use Rattle.std.specs.Fmt.{signed_decimal}
use Rattle.std.specs.Result.{OkIff, MatchResult}
use Rattle.std.specs.Str.{IsAscii, IsUtf8}
use Rattle.std.specs.Str.Parse.{ParsesSigned}
use Rattle.std.proofs.lemmas.Fmt.{decimal_nonempty, digits_decimal, digits_value-decimal}
use Rattle.std.proofs.lemmas.List.{at_drop_more}
use Rattle.std.proofs.lemmas.Str.{IsUtf8-from_ascii}
use Rattle.std.proofs.lemmas.Str.Ascii.{IsAscii-nil, IsAscii-cons}
use Rattle.std.proofs.lemmas.Str.Parse.{IsNumeralModel, numerals_by_fold, parse_signed_minus, parse_signed_plus, parse_signed_digits}
use Rattle.refusals.specs.Refusals.{answered}
use Rattle.refusals.specs.declared.Refusal.{Refusal}
use Rattle.refusals.specs.declared.Refusal.TheVariants.{Overflow}
use Rattle.std.proofs.lemmas.Bool.{false_from_ne_true, ltb-true, and_parts, and_from, or_from, leb-true, le-leb, lt-ltb, eqb-true, ne_eqb, cond-true, cond-false}
use Rattle.numbers.specs.Numbers.{digits, read_on, begins_with, minus, unsigned, numeral, magnitude, with_sign, in64, read_number}

-- `digits` holds of just the texts of digits, and `read_on 0` is the number that such a text writes
own : IsNumeralModel (λ ds. digits ds ≡ true) (read_on 0)
own = numerals_by_fold _ (search rules) read_on (search rules)

digit_range : (b : ℕ) → is_ascii_digit b ≡ true → (48 ≤ b) × (b ≤ 57)
digit_range b h = let p = and_parts (leb 48 b) (leb b 57) h in (leb-true 48 b p.0, leb-true b 57 p.1)

pub digits_parts : (bs : List ℕ) (i : ℕ) → i < length bs → digits (drop i bs) ≡ true → (48 ≤ get_or bs i 0) × (get_or bs i 0 ≤ 57) × (digits (drop (i + 1) bs) ≡ true)
digits_parts bs i h d =
    let p = and_parts (is_ascii_digit (get_or bs i 0)) (digits (drop (i + 1) bs)) (sym (at_drop_more digits bs i 0 h) ∙ d) in
    let q = digit_range (get_or bs i 0) p.0 in
    (q.0, q.1, p.1)

pub read_step : (n : ℕ) (bs : List ℕ) (i : ℕ) → i < length bs → read_on n (drop i bs) ≡ read_on (10 * n + (get_or bs i 0 - 48)) (drop (i + 1) bs)
read_step n bs i h = at_drop_more (read_on n) bs i 0 h

-- reading on makes no number smaller
pub read_grows : (n : ℕ) (bs : List ℕ) → n ≤ read_on n bs
read_grows n [] = le_refl n
read_grows n (b ∷ bs) = omega (arith, read_grows (10 * n + (b - 48)) bs)

-- the number so far, with one more digit, is at most the whole
pub next_grows : (n : ℕ) (bs : List ℕ) (i : ℕ) → i < length bs → 10 * n + (get_or bs i 0 - 48) ≤ read_on n (drop i bs)
next_grows n bs i h = omega (arith, read_step n bs i h, read_grows (10 * n + (get_or bs i 0 - 48)) (drop (i + 1) bs))

digit_first : (bs : List ℕ) (x : ℕ) → x < 48 → digits bs ≡ true → begins_with x bs ≡ false
digit_first [] x l d = refl
digit_first (b ∷ bs) x l d = ne_eqb b x (λ e. omega (arith, digit_range b (and_parts (is_ascii_digit b) (digits bs) d).0))

read_decimal : (negative : Bool) (n : ℕ) (bs : List ℕ) → n < 2 ^ 64 → in64 negative n ≡ true → minus bs ≡ negative → unsigned bs ≡ decimal n → read_number bs ≡ Ok (with_sign negative n)
read_decimal negative n bs small fits m u =
    let some : ltb 0 (length (unsigned bs)) ≡ true = lt-ltb 0 _ (rw u (decimal_nonempty n small)) in
    let all : digits (unsigned bs) ≡ true = ap digits u ∙ digits_decimal own n small in
    let is : magnitude bs ≡ n = ap (read_on 0) u ∙ digits_value-decimal own n small in
    cond-true _ _ _ (and_from _ _ some all) ∙ (λ i. answered (in64 (m i) (is i)) (with_sign (m i) (is i)) Overflow) ∙ ap (λ b. answered b (with_sign negative n) Overflow) fits

pub reads_back : (z : ℤ) → mag z < 2 ^ 63 → read_number (signed_decimal z) ≡ Ok z
reads_back (pos n) h =
    let small : n < 2 ^ 64 = omega arith in
    let d = digits_decimal own n small in
    let m : minus (decimal n) ≡ false = digit_first (decimal n) 45 (omega arith) d in
    let p : begins_with 43 (decimal n) ≡ false = digit_first (decimal n) 43 (omega arith) d in
    read_decimal false n (decimal n) small (le-leb n (2 ^ 63 - 1) (omega arith)) m (cond-false _ _ _ (or_from _ _ m p))
reads_back (negsuc n) h =
    read_decimal true (suc n) (45 ∷ decimal (suc n)) (omega arith) (le-leb (suc n) (2 ^ 63) (omega arith)) refl refl

-- ---- a sign before digits

pub signed_below : (n : ℤ) → lt_z n (pos 0) ≡ true → signed_decimal n ≡ 45 ∷ decimal (nat_abs n)
signed_below (pos a) h = absurd (omega (arith, ltb-true a 0 h))
signed_below (negsuc a) h = refl

pub signed_above : (n : ℤ) → lt_z n (pos 0) ≡ false → signed_decimal n ≡ decimal (nat_abs n)
signed_above (pos a) h = refl
signed_above (negsuc a) h = absurd (true≢false h)

-- ---- numerals, by what stands first

data First (bs : List ℕ) : Type 0 where
  at_minus : get_or bs 0 0 ≡ 45 → minus bs ≡ true → unsigned bs ≡ drop 1 bs → First bs
  at_plus : get_or bs 0 0 ≡ 43 → minus bs ≡ false → unsigned bs ≡ drop 1 bs → First bs
  at_digit : digits bs ≡ true → minus bs ≡ false → unsigned bs ≡ bs → First bs

first : (bs : List ℕ) → numeral bs ≡ true → First bs
first [] n = absurd (true≢false (sym n))
first (b ∷ bs) n = by (eqb b 45) (eqb b 43) refl refl
  where
    by : (m p : Bool) → eqb b 45 ≡ m → eqb b 43 ≡ p → First (b ∷ bs)
    by true p e f = at_minus (eqb-true b 45 e) e (simp e)
    by false true e f = at_plus (eqb-true b 43 f) e (simp (e, f))
    by false false e f =
        let u : unsigned (b ∷ bs) ≡ b ∷ bs = simp (e, f) in
        at_digit (rw u at ((and_parts (ltb 0 (length (unsigned (b ∷ bs)))) (digits (unsigned (b ∷ bs))) n).1)) e u

digits_ascii : (bs : List ℕ) → digits bs ≡ true → IsAscii bs
digits_ascii [] d = IsAscii-nil
digits_ascii (b ∷ bs) d =
    let p = and_parts (is_ascii_digit b) (digits bs) d in
    IsAscii-cons b bs (omega (arith, digit_range b p.0)) (digits_ascii bs p.1)

signed_ascii : (bs : List ℕ) (x : ℕ) → get_or bs 0 0 ≡ x → x < 128 → IsAscii (drop 1 bs) → IsAscii bs
signed_ascii [] x e l d = IsAscii-nil
signed_ascii (b ∷ bs) x e l d = IsAscii-cons b bs (omega arith) d

-- a numeral is text
pub numeral_utf8 : (bs : List ℕ) → numeral bs ≡ true → IsUtf8 bs
numeral_utf8 bs n =
    let d : digits (unsigned bs) ≡ true = (and_parts (ltb 0 (length (unsigned bs))) (digits (unsigned bs)) n).1 in
    IsUtf8-from_ascii bs (elim (first bs n) [
      | at_minus e m u ↦ signed_ascii bs 45 e (omega arith) (digits_ascii (drop 1 bs) (rw u at d))
      | at_plus e m u ↦ signed_ascii bs 43 e (omega arith) (digits_ascii (drop 1 bs) (rw u at d))
      | at_digit e m u ↦ digits_ascii bs e
    ])

switch : {E P Q : Type 0} (v : ℤ) (r : Result ℤ E) → OkIff r P v → (P → Q) → (Q → P) → OkIff r Q v
switch v (Ok x) h to back = (to h.0, h.1)
switch v (Err e) h to back = λ q. h (back q)

-- what `parse` gives of a numeral
parsed : {E : Type 0} (bs : List ℕ) (r : Result ℤ E) → ParsesSigned w64 10 bs r → numeral bs ≡ true → OkIff r (in64 (minus bs) (magnitude bs) ≡ true) (with_sign (minus bs) (magnitude bs))
parsed bs r h n =
    let p = and_parts (ltb 0 (length (unsigned bs))) (digits (unsigned bs)) n in
    let some : 0 < length (unsigned bs) = ltb-true 0 _ p.0 in
    let d : digits (unsigned bs) ≡ true = p.1 in
    elim (first bs n) [
      | at_minus e m u ↦ rw (u, m) (switch _ r (parse_signed_minus own w64 bs r h e) (λ t. le-leb _ _ t.2) (λ l. (rw u at d, rw u at some, leb-true _ _ l)))
      | at_plus e m u ↦ rw (u, m) (switch _ r (parse_signed_plus own w64 bs r h e) (λ t. le-leb _ _ (omega (arith, t.2))) (λ l. (rw u at d, rw u at some, omega (arith, leb-true _ _ l))))
      | at_digit e m u ↦ rw (u, m) (switch _ r (parse_signed_digits own w64 bs r h e) (λ t. le-leb _ _ (omega (arith, t.1))) (λ l. (rw u at some, omega (arith, leb-true _ _ l))))
    ]

handed_on : {E : Type 0} (b : Bool) (v : ℤ) (r : Result ℤ E) (out : Result ℤ Refusal) → OkIff r (b ≡ true) v → MatchResult r (λ x. out ≡ Ok x) (λ e. out ≡ Err Overflow) → out ≡ answered b v Overflow
handed_on b v (Ok x) out p e = e ∙ ap Ok p.1 ∙ sym (ap (λ t. answered t v Overflow) p.0)
handed_on b v (Err d) out p e = e ∙ sym (ap (λ t. answered t v Overflow) (false_from_ne_true b p))

-- what is answered where `parse` fails only at an overflow
pub answers : {E : Type 0} (bs : List ℕ) (r : Result ℤ E) (out : Result ℤ Refusal) → ParsesSigned w64 10 bs r → numeral bs ≡ true → MatchResult r (λ x. out ≡ Ok x) (λ e. out ≡ Err Overflow) → out ≡ read_number bs
answers bs r out h n m = handed_on _ _ r out (parsed bs r h n) m ∙ sym (cond-true _ _ _ n)
