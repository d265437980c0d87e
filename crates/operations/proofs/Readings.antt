-- Numbers that are read, or not. Assumes nothing.
use Rattle.std.proofs.Common.{◌≡◌, ℕ, zero, suc, Bool, true, false, cond, List, ℤ, Ok, Err, Result, sym, refl, ap, ◌∙◌, arith}
use Rattle.std.proofs.lemmas.Bool.{cond-true, cond-false}
use Rattle.std.proofs.lemmas.Int.{ints}
use Rattle.numbers.specs.Numbers.{numeral, minus, magnitude, in64, with_sign, read_number}
use Rattle.refusals.specs.Errors.{Error, refused_by}
use Rattle.refusals.specs.Refusals.{answered}
use Rattle.refusals.specs.declared.Refusal.{Refusal}
use Rattle.refusals.specs.declared.Refusal.TheVariants.{Overflow, NotDigits}
use Rattle.operations.specs.Functions.{and_then, read_digits}
use Rattle.operations.specs.Operators.{in_range, in_64_bits}

-- the two tests of 64 bits agree
in_range-with_sign : (negative : Bool) (n : ℕ) → in_range (with_sign negative n) ≡ in64 negative n
in_range-with_sign true zero = grind (arith, ints)
in_range-with_sign true (suc n) = grind (arith, ints)
in_range-with_sign false n = grind (arith, ints)

read : (written fits : Bool) (z : ℤ) → in_range z ≡ fits → refused_by (cond written (in_64_bits z) (Err Error.not_digits)) ≡ cond written (answered fits z Overflow) (Err NotDigits)
read true true z h = ap refused_by (cond-true _ _ _ h)
read true false z h = ap refused_by (cond-false _ _ _ h)
read false fits z h = refl

pub reads : (bs : List ℕ) → refused_by (read_digits bs) ≡ read_number bs
reads bs = read (numeral bs) (in64 (minus bs) (magnitude bs)) (with_sign (minus bs) (magnitude bs)) (in_range-with_sign (minus bs) (magnitude bs))

unread : {A B : Type 0} (r : Result A Error) (next : A → Result B Error) (f : Refusal) → refused_by r ≡ Err f → refused_by (and_then r next) ≡ Err f
unread (Ok a) next f h = absurd cc
unread (Err e) next f h = let same : Err f ≡ refused_by (Err e) = sym h in cc

-- what cannot be read ends the call
pub not_read : {B : Type 0} (bs : List ℕ) (next : ℤ → Result B Error) (r : Result ℤ Refusal) (f : Refusal) → r ≡ read_number bs → r ≡ Err f → refused_by (and_then (read_digits bs) next) ≡ Err f
not_read bs next r f is h = unread (read_digits bs) next f (reads bs ∙ sym is ∙ h)
