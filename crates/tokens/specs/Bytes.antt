-- What a byte is. Assumes nothing.
use Rattle.std.specs.Prelude.{ℕ, ◌-◌, Bool, cond, ◌&&◌, ◌||◌, ◌==◌, nat_le}
use Rattle.tokens.specs.declared.operator.Op.TheVariants as op
use Rattle.tokens.specs.declared.operator.Sign.TheVariants as sign
use Rattle.tokens.specs.declared.operator.Half.TheVariants as half
use Rattle.tokens.specs.declared.byte.Start.{Start}
use Rattle.tokens.specs.declared.byte.After.{After}
use Rattle.tokens.specs.declared.byte.Class.{Class}
use Rattle.tokens.specs.declared.byte.Shape.TheVariants as shape
use Rattle.tokens.specs.declared.byte.Separator.TheVariants as separator
use Rattle.tokens.specs.declared.byte.Start.TheVariants as at
use Rattle.tokens.specs.declared.byte.After.TheVariants as past
use Rattle.tokens.specs.declared.byte.Class.TheVariants as is

-- a space or a tab
abbrev pub blank : ℕ → Bool
blank b = b == 32 || b == 9

abbrev pub digit : ℕ → Bool
digit b = nat_le 48 b && nat_le b 57

-- a letter or `_`
abbrev pub letter : ℕ → Bool
letter b = (nat_le 65 b && nat_le b 90) || (nat_le 97 b && nat_le b 122) || b == 95

-- a byte that goes on a name
abbrev pub word : ℕ → Bool
word b = letter b || digit b || b == 46

-- the value of a digit in bases up to sixteen, 16 of any other byte
abbrev pub digit_value : ℕ → ℕ
digit_value b = cond (digit b) (b - 48) (cond (nat_le 65 b && nat_le b 70) (b - 55) (cond (nat_le 97 b && nat_le b 102) (b - 87) 16))

-- a byte where an operand is expected
abbrev pub start : ℕ → Start
start b =
    cond (blank b) at.Blank
    (cond (digit b) at.Digit
    (cond (letter b) at.Letter
    (cond (b == 34) at.Quote
    (cond (b == 43) (at.Sign sign.Plus)
    (cond (b == 45) (at.Sign sign.Minus)
    (cond (b == 126) (at.Sign sign.Tilde)
    (cond (b == 33) (at.Sign sign.Bang)
    (cond (b == 40) at.Round
    (cond (b == 123) at.Curly
    (cond (b == 41) at.EndRound
    (cond (b == 125) at.EndCurly
    (cond (b == 46) at.Dot at.Other))))))))))))

-- a byte after an operand
abbrev pub after : ℕ → After
after b =
    cond (blank b) past.Blank
    (cond (b == 94) (past.Single op.BitXor)
    (cond (b == 43) (past.Single op.Add)
    (cond (b == 45) (past.Single op.Subtract)
    (cond (b == 42) (past.Single op.Multiply)
    (cond (b == 47) (past.Single op.Divide)
    (cond (b == 37) (past.Single op.Remainder)
    (cond (b == 124) (past.Double half.Bar)
    (cond (b == 38) (past.Double half.Ampersand)
    (cond (b == 61) (past.Double half.Equals)
    (cond (b == 33) (past.Double half.Bang)
    (cond (b == 60) (past.Double half.Less)
    (cond (b == 62) (past.Double half.Greater)
    (cond (b == 44) (past.Separator separator.Comma)
    (cond (b == 59) (past.Separator separator.Semicolon)
    (cond (b == 40) past.Round
    (cond (b == 91) past.Square
    (cond (b == 41) (past.End shape.Round)
    (cond (b == 93) (past.End shape.Square)
    (cond (b == 125) (past.End shape.Curly)
    (cond (b == 36) past.Dollar
    (cond (b == 34) past.Quote past.Other)))))))))))))))))))))

-- what the machine of eight states sees
abbrev pub class : ℕ → Class
class b =
    cond (b == 10) is.Newline
    (cond (b == 13) is.Return
    (cond (blank b) is.Blank
    (cond (b == 36) is.Dollar
    (cond (b == 34) is.Quote
    (cond (b == 92) is.Backslash
    (cond (b == 110 || b == 116) is.Escaped is.Other))))))
