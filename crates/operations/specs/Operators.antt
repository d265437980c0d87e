-- What operators and signs give. Assumes nothing.
use Rattle.std.specs.Prelude.{◌^◌, Bool, false, cond, not, ◌&&◌, ◌||◌, List, [], ◌∷◌, ℤ, pos, ◌+ℤ◌, ◌-ℤ◌, ◌*ℤ◌, neg_ℤ, int_lt, int_le, int_div, int_rem, unsigned_abs, Some, None, Option, Ok, Err, Result}
use Rattle.std.specs.Ordering.{int_eq}
use Rattle.std.specs.Int.{w64, int_bit_and, int_bit_or, int_bit_xor, int_bit_not, int_shr}
use Rattle.refusals.specs.Errors.{Error}
use Rattle.tokens.specs.declared.operator.Op.{Op}
use Rattle.tokens.specs.declared.operator.Op.TheVariants as op
use Rattle.tokens.specs.declared.operator.Sign.{Sign}
use Rattle.tokens.specs.declared.operator.Sign.TheVariants as sign
use Rattle.values.specs.Forms.{Elem, number, number_in}

abbrev pub is_zero : ℤ → Bool
is_zero n = int_eq n (pos 0)

-- 1 or 0
abbrev pub truth : Bool → ℤ
truth b = cond b (pos 1) (pos 0)

-- from -9223372036854775808 to 9223372036854775807
abbrev pub in_range : ℤ → Bool
in_range n = int_le (neg_ℤ (pos (2 ^ 63))) n && int_lt n (pos (2 ^ 63))

abbrev pub in_64_bits : ℤ → Result ℤ Error
in_64_bits n = cond (in_range n) (Ok n) (Err Error.overflow)

-- the fraction is dropped towards zero
abbrev pub quotient : ℤ → ℤ → Result ℤ Error
quotient a b = cond (is_zero b) (Err Error.division_by_zero) (in_64_bits (int_div a b))

-- where the quotient is out of 64 bits, there is no remainder either
abbrev pub remainder : ℤ → ℤ → Result ℤ Error
remainder a b = cond (is_zero b) (Err Error.division_by_zero) (cond (in_range (int_div a b)) (Ok (int_rem a b)) (Err Error.overflow))

-- by how many places a shift may go
abbrev pub is_shift : ℤ → Bool
is_shift n = int_le (pos 0) n && int_le n (pos 63)

abbrev pub shifted_left : ℤ → ℤ → Result ℤ Error
shifted_left a b = cond (is_shift b && int_le (pos 0) a) (in_64_bits (a *ℤ pos (2 ^ unsigned_abs b))) (Err Error.bad_shift)

abbrev pub shifted_right : ℤ → ℤ → Result ℤ Error
shifted_right a b = cond (is_shift b) (Ok (int_shr a (unsigned_abs b))) (Err Error.bad_shift)

abbrev pub binary : Op → ℤ → ℤ → Result ℤ Error
binary op.Or a b = Ok (truth (not (is_zero a) || not (is_zero b)))
binary op.And a b = Ok (truth (not (is_zero a) && not (is_zero b)))
binary op.BitOr a b = Ok (int_bit_or w64 a b)
binary op.BitXor a b = Ok (int_bit_xor w64 a b)
binary op.BitAnd a b = Ok (int_bit_and w64 a b)
binary op.Equal a b = Ok (truth (int_eq a b))
binary op.Unequal a b = Ok (truth (not (int_eq a b)))
binary op.Less a b = Ok (truth (int_lt a b))
binary op.Greater a b = Ok (truth (int_lt b a))
binary op.LessEqual a b = Ok (truth (int_le a b))
binary op.GreaterEqual a b = Ok (truth (int_le b a))
binary op.ShiftLeft a b = shifted_left a b
binary op.ShiftRight a b = shifted_right a b
binary op.Add a b = in_64_bits (a +ℤ b)
binary op.Subtract a b = in_64_bits (a -ℤ b)
binary op.Multiply a b = in_64_bits (a *ℤ b)
binary op.Divide a b = quotient a b
binary op.Remainder a b = remainder a b

abbrev pub signed : Sign → ℤ → Result ℤ Error
signed sign.Plus a = Ok a
signed sign.Minus a = in_64_bits (neg_ℤ a)
signed sign.Tilde a = Ok (int_bit_not w64 a)
signed sign.Bang a = Ok (truth (is_zero a))

-- whether the left side of `||` or `&&` decides; the operator is then 1 or 0
abbrev pub decides : Op → ℤ → Bool
decides op.Or a = not (is_zero a)
decides op.And a = is_zero a
decides o a = false

abbrev pub numbered : Option ℤ → Result ℤ Error
numbered (Some n) = Ok n
numbered None = Err Error.not_a_number

-- an operand is one element that has a number
abbrev pub operand : List Elem → Result ℤ Error
operand [] = Err Error.not_a_number
operand (e ∷ []) = numbered (number_in e)
operand (e ∷ f ∷ es) = Err Error.not_a_number

-- one element with a number alone
abbrev pub value_of : ℤ → List Elem
value_of n = number n ∷ []
