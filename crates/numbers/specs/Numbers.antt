-- Numbers that are read from bytes. Assumes nothing.
use Rattle.std.specs.Prelude.{◌≡◌, ℕ, ◌+◌, ◌-◌, ◌*◌, ◌^◌, ◌<◌, Bool, true, false, cond, ◌&&◌, ◌||◌, List, [], ◌∷◌, length, drop, ℤ, pos, neg_ℤ, Ok, Err, Result, ◌==◌, nat_le, nat_lt}
use Rattle.std.specs.Char.{is_ascii_digit}
use Rattle.std.specs.Int.Signed.{mag}
use Rattle.std.specs.List.{list_all}
use Rattle.std.specs.Fmt.{signed_decimal}
use Rattle.refusals.specs.Refusals.{answered}
use Rattle.refusals.specs.declared.Refusal.{Refusal}
use Rattle.refusals.specs.declared.Refusal.TheVariants.{Overflow, NotDigits}

abbrev pub digits : List ℕ → Bool
digits bs = list_all is_ascii_digit bs

-- the number that decimal digits write behind n
abbrev pub read_on : ℕ → List ℕ → ℕ
read_on n [] = n
read_on n (b ∷ bs) = read_on (10 * n + (b - 48)) bs

abbrev pub begins_with : ℕ → List ℕ → Bool
begins_with x [] = false
begins_with x (b ∷ bs) = b == x

-- `-` stands first
abbrev pub minus : List ℕ → Bool
minus bs = begins_with 45 bs

-- what stands behind a sign, if there is one
abbrev pub unsigned : List ℕ → List ℕ
unsigned bs = cond (minus bs || begins_with 43 bs) (drop 1 bs) bs

-- an optional sign and at least one digit
abbrev pub numeral : List ℕ → Bool
numeral bs = nat_lt 0 (length (unsigned bs)) && digits (unsigned bs)

abbrev pub magnitude : List ℕ → ℕ
magnitude bs = read_on 0 (unsigned bs)

abbrev pub with_sign : Bool → ℕ → ℤ
with_sign true n = neg_ℤ (pos n)
with_sign false n = pos n

-- from the lowest number of 64 bits to the highest
abbrev pub in64 : Bool → ℕ → Bool
in64 negative n = nat_le n (cond negative (2 ^ 63) (2 ^ 63 - 1))

-- a number is read from a sign and digits, 16 else; one outside 64 bits is 11
abbrev pub read_number : List ℕ → Result ℤ Refusal
read_number bs = cond (numeral bs) (answered (in64 (minus bs) (magnitude bs)) (with_sign (minus bs) (magnitude bs)) Overflow) (Err NotDigits)

-- a number of 64 bits is read back from what is written of it
abbrev pub ReadsWhatIsWritten : Type 0
ReadsWhatIsWritten = (z : ℤ) → mag z < 2 ^ 63 → read_number (signed_decimal z) ≡ Ok z
