-- How tight operators bind, and how they are written. Assumes nothing.
use Rattle.std.specs.Prelude.{ℕ, Bool, true, false, cond, Some, None, Option, ◌==◌}
use Rattle.tokens.specs.declared.operator.Op.{Op}
use Rattle.tokens.specs.declared.operator.Op.TheVariants as op
use Rattle.tokens.specs.declared.operator.Sign.{Sign}
use Rattle.tokens.specs.declared.operator.Sign.TheVariants as sign
use Rattle.tokens.specs.declared.operator.Half.{Half}
use Rattle.tokens.specs.declared.operator.Half.TheVariants as half

-- from loosest to tightest
abbrev pub level : Op → ℕ
level op.Or = 1
level op.And = 2
level op.BitOr = 3
level op.BitXor = 4
level op.BitAnd = 5
level op.Equal = 6
level op.Unequal = 6
level op.Less = 7
level op.Greater = 7
level op.LessEqual = 7
level op.GreaterEqual = 7
level op.ShiftLeft = 8
level op.ShiftRight = 8
level op.Add = 9
level op.Subtract = 9
level op.Multiply = 10
level op.Divide = 10
level op.Remainder = 10

-- the left side of `||` and `&&` may decide
abbrev pub is_short : Op → Bool
is_short op.Or = true
is_short op.And = true
is_short op.BitOr = false
is_short op.BitXor = false
is_short op.BitAnd = false
is_short op.Equal = false
is_short op.Unequal = false
is_short op.Less = false
is_short op.Greater = false
is_short op.LessEqual = false
is_short op.GreaterEqual = false
is_short op.ShiftLeft = false
is_short op.ShiftRight = false
is_short op.Add = false
is_short op.Subtract = false
is_short op.Multiply = false
is_short op.Divide = false
is_short op.Remainder = false

-- an operator of two bytes
abbrev pub is_wide : Op → Bool
is_wide op.Or = true
is_wide op.And = true
is_wide op.BitOr = false
is_wide op.BitXor = false
is_wide op.BitAnd = false
is_wide op.Equal = true
is_wide op.Unequal = true
is_wide op.Less = false
is_wide op.Greater = false
is_wide op.LessEqual = true
is_wide op.GreaterEqual = true
is_wide op.ShiftLeft = true
is_wide op.ShiftRight = true
is_wide op.Add = false
is_wide op.Subtract = false
is_wide op.Multiply = false
is_wide op.Divide = false
is_wide op.Remainder = false

-- the byte of a sign before an operand
abbrev pub sign_byte : Sign → ℕ
sign_byte sign.Plus = 43
sign_byte sign.Minus = 45
sign_byte sign.Tilde = 126
sign_byte sign.Bang = 33

-- the byte of the first half of an operator
abbrev pub half_byte : Half → ℕ
half_byte half.Bar = 124
half_byte half.Ampersand = 38
half_byte half.Equals = 61
half_byte half.Bang = 33
half_byte half.Less = 60
half_byte half.Greater = 62

-- the operator of two bytes, if b is the second
abbrev pub doubled : Half → ℕ → Option Op
doubled half.Bar b = cond (b == 124) (Some op.Or) None
doubled half.Ampersand b = cond (b == 38) (Some op.And) None
doubled half.Equals b = cond (b == 61) (Some op.Equal) None
doubled half.Bang b = cond (b == 61) (Some op.Unequal) None
doubled half.Less b = cond (b == 61) (Some op.LessEqual) (cond (b == 60) (Some op.ShiftLeft) None)
doubled half.Greater b = cond (b == 61) (Some op.GreaterEqual) (cond (b == 62) (Some op.ShiftRight) None)

-- the operator of the first byte alone
abbrev pub alone : Half → Option Op
alone half.Bar = Some op.BitOr
alone half.Ampersand = Some op.BitAnd
alone half.Equals = None
alone half.Bang = None
alone half.Less = Some op.Less
alone half.Greater = Some op.Greater
