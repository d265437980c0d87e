-- How bytes are written in a line of text, and read back. Assumes nothing.
use Rattle.std.specs.Prelude.{◌≡◌, ℕ, ◌+◌, ◌*◌, ◌/◌, ◌%◌, ◌<◌, ◌≤◌, true, cond, ◌||◌, List, [], ◌∷◌, ◌++◌, length, take, Some, None, Option, Ok, Err, Result, ◌==◌, nat_lt}
use Rattle.std.specs.Option.{option_map}
use Rattle.std.specs.List.{list_all}
use Rattle.escapes.specs.declared.BadEscape.{BadEscape}
use Rattle.escapes.specs.declared.Within.{Within}
use Rattle.escapes.specs.declared.Within.TheVariants.{Outside, Backslash, Hex, Second}
use Rattle.tokens.specs.Bytes.{digit_value}

-- a digit in base sixteen, in lower case
abbrev pub hex_digit : ℕ → ℕ
hex_digit n = cond (nat_lt n 10) (48 + n) (87 + n)

-- byte 10, tab and `\` have an escape of their own; another byte below 32 or above 126 is written by two digits, the rest as it is
abbrev pub written : ℕ → List ℕ
written b =
    cond (b == 10) (92 ∷ 110 ∷ [])
    (cond (b == 9) (92 ∷ 116 ∷ [])
    (cond (b == 92) (92 ∷ 92 ∷ [])
    (cond (nat_lt b 32 || nat_lt 126 b) (92 ∷ 120 ∷ hex_digit (b / 16) ∷ hex_digit (b % 16) ∷ []) (b ∷ []))))

abbrev pub all_written : List ℕ → List ℕ
all_written [] = []
all_written (b ∷ bs) = written b ++ all_written bs

-- the bytes that are meant, or None where an escape is none of `\n`, `\t`, `\\` and `\x` with two digits, in either case
abbrev pub read_from : Within → List ℕ → Option (List ℕ)
read_from Outside [] = Some []
read_from Backslash [] = None
read_from Hex [] = None
read_from (Second d) [] = None
read_from Outside (b ∷ bs) = cond (b == 92) (read_from Backslash bs) (option_map (λ xs. b ∷ xs) (read_from Outside bs))
read_from Backslash (b ∷ bs) =
    cond (b == 110) (option_map (λ xs. 10 ∷ xs) (read_from Outside bs))
    (cond (b == 116) (option_map (λ xs. 9 ∷ xs) (read_from Outside bs))
    (cond (b == 92) (option_map (λ xs. 92 ∷ xs) (read_from Outside bs))
    (cond (b == 120) (read_from Hex bs) None)))
read_from Hex (b ∷ bs) = cond (nat_lt (digit_value b) 16) (read_from (Second (digit_value b)) bs) None
read_from (Second d) (b ∷ bs) = cond (nat_lt (digit_value b) 16) (option_map (λ xs. (16 * d + digit_value b) ∷ xs) (read_from Outside bs)) None

abbrev pub read_line : List ℕ → Option (List ℕ)
read_line bs = read_from Outside bs

-- the first digit of an escape by two is below sixteen
abbrev pub DigitFits : Within → Type 0
DigitFits (Second high) = high < 16
DigitFits w = Unit {0}

-- the bytes that are meant by a line, where one byte of it means this one or none and the rest is read in this state
abbrev pub then_read : Option ℕ → Within → List ℕ → Option (List ℕ)
then_read None w bs = read_from w bs
then_read (Some b) w bs = option_map (λ xs. b ∷ xs) (read_from w bs)

-- one byte is read, whatever follows it
abbrev pub Steps : Within → ℕ → Result (Within × Option ℕ) BadEscape → Type 0
Steps w b (Ok t) = DigitFits t.0 × ((bs : List ℕ) → read_from w (b ∷ bs) ≡ then_read t.1 t.0 bs)
Steps w b (Err e) = (bs : List ℕ) → read_from w (b ∷ bs) ≡ None

-- the line before is read, and then begins with the bytes that are meant
abbrev pub ReadInPlace : List ℕ → Result ℕ BadEscape → List ℕ → Type 0
ReadInPlace line (Ok n) line' = (n ≤ length line') × (read_line line ≡ Some (take n line')) × (length line' ≡ length line)
ReadInPlace line (Err e) line' = (read_line line ≡ None) × (length line' ≡ length line)

-- what is written reads back
abbrev pub ReadsBack : Type 0
ReadsBack = (bs : List ℕ) → list_all (λ b. nat_lt b 256) bs ≡ true → read_line (all_written bs) ≡ Some bs
