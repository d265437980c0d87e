-- Division drops the fraction towards zero. Assumes nothing.
use Rattle.std.proofs.Common.{◌≡◌, ℕ, zero, suc, ◌-◌, ◌/◌, ◌^◌, ◌<◌, ◌≢◌, Bool, true, false, cond, Ok, Err, ap, ◌∙◌, ℤ, pos, negsuc, neg_ℤ, ◌≤ℤ◌, int_div, int_rem, unsigned_abs, sym, refl, arith}
use Rattle.std.proofs.lemmas.Int.{ints, quot-rem, rem_below}
use Rattle.std.proofs.Math.Nat.{div-le_self, div-lt_self}
use Rattle.std.proofs.lemmas.Bool.{cond-true, cond-false}
use Rattle.refusals.specs.Errors.{Error}
use Rattle.operations.specs.Operators.{is_zero, in_range}
use Rattle.operations.specs.Laws.{Divides, DividesTowardsZero, DividesAll}

unsigned_abs-neg : (n : ℕ) → unsigned_abs (neg_ℤ (pos n)) ≡ n
unsigned_abs-neg zero = refl
unsigned_abs-neg (suc n) = refl

positive : (b : ℤ) → b ≢ pos 0 → 0 < unsigned_abs b
positive (pos zero) h = absurd (h refl)
positive (pos (suc n)) h = omega arith
positive (negsuc n) h = omega arith

quotients : (a b : ℤ) → unsigned_abs (int_div a b) ≡ unsigned_abs a / unsigned_abs b
quotients (pos a) (pos b) = refl
quotients (pos a) (negsuc b) = unsigned_abs-neg (a / suc b)
quotients (negsuc a) (pos b) = unsigned_abs-neg (suc a / b)
quotients (negsuc a) (negsuc b) = refl

rem_above : (a b : ℤ) → pos 0 ≤ℤ a → pos 0 ≤ℤ int_rem a b
rem_above (pos a) b h = omega (arith, ints)
rem_above (negsuc a) b h = absurd (omega (arith, ints))

rem_under : (a b : ℤ) → 0 < unsigned_abs b → a ≤ℤ pos 0 → int_rem a b ≤ℤ pos 0
rem_under (pos a) b p h = omega (arith, ints)
rem_under (negsuc a) b p h = omega (arith, ints)

divides : (a b : ℤ) → b ≢ pos 0 → Divides a b (int_div a b) (int_rem a b)
divides a b h =
    let p = positive b h in
    record {
      whole = sym (quot-rem a b);
      towards_zero = quotients a b;
      smaller = rem_below a b p;
      above = rem_above a b;
      below = rem_under a b p;
    }

-- a quotient and a remainder are given only where the divisor is not 0
given : (z f : Bool) (q r s t : ℤ) → cond z (Err Error.division_by_zero) (cond f (Ok q) (Err Error.overflow)) ≡ Ok s → cond z (Err Error.division_by_zero) (cond f (Ok r) (Err Error.overflow)) ≡ Ok t → (z ≡ false) × (q ≡ s) × (r ≡ t)
given true f q r s t h k = absurd cc
given false true q r s t h k = (refl, cc, cc)
given false false q r s t h k = absurd cc

apart : (b : ℤ) → is_zero b ≡ false → b ≢ pos 0
apart b h e = let z : is_zero b ≡ true = ap is_zero e in absurd cc

pub divides_towards_zero : DividesTowardsZero
unfolding DividesTowardsZero
divides_towards_zero a b q r h k =
    let g = given (is_zero b) (in_range (int_div a b)) (int_div a b) (int_rem a b) q r h k in
    rw (← g.1, ← g.2) (divides a b (apart b g.0))

not_zero : (b : ℤ) → b ≢ pos 0 → is_zero b ≡ false
not_zero (pos zero) h = absurd (h refl)
not_zero (pos (suc n)) h = grind (arith, ints)
not_zero (negsuc n) h = refl

-- only the lowest number by -1 has a quotient out of range
fits : (a b : ℤ) → in_range a ≡ true → b ≢ pos 0 → (a ≡ neg_ℤ (pos (2 ^ 63)) → b ≡ neg_ℤ (pos 1) → ⊥) → in_range (int_div a b) ≡ true
fits (pos a) (pos b) h p s = let l = div-le_self a b in grind (arith, ints)
fits (pos a) (negsuc b) h p s = let l = div-le_self a (suc b) in grind (arith, ints)
fits (negsuc a) (pos b) h p s = let l = div-le_self (suc a) b in grind (arith, ints)
fits (negsuc a) (negsuc zero) h p s =
    let ne : a ≢ 2 ^ 63 - 1 = λ e. s (ap negsuc e) refl in
    let l = div-le_self (suc a) 1 in
    grind (arith, ints)
fits (negsuc a) (negsuc (suc b)) h p s =
    let l : suc a / suc (suc b) < suc a = div-lt_self (omega arith) (omega arith) in
    grind (arith, ints)

pub divides_all : DividesAll
unfolding DividesAll
divides_all a b h p s =
    let f = fits a b h p s in
    let z = not_zero b p in
    (int_div a b, int_rem a b, cond-false _ _ _ z ∙ cond-true _ _ _ f, cond-false _ _ _ z ∙ cond-true _ _ _ f)
