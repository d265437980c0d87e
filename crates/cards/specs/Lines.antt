-- What a line of a card says. Assumes nothing.
use Rattle.std.specs.Prelude.{ℕ, Bool, cond, not, ◌&&◌, ◌||◌, List, [], ◌∷◌, ◌++◌, length, ℤ, Some, None, Ok, Err, Result, ◌==◌, nat_le, nat_lt}
use Rattle.std.specs.List.{slice_split}
use Rattle.refusals.specs.Refusals.{answered}
use Rattle.refusals.specs.declared.Refusal.{Refusal}
use Rattle.refusals.specs.declared.Refusal.TheVariants.{BadName, BadValue}
use Rattle.numbers.specs.Numbers.{begins_with, minus, numeral, magnitude, with_sign, in64}
use Rattle.keys.specs.NameBytes.{lawful_name}
use Rattle.keys.specs.KeyOrder.{KeyName}
use Rattle.values.specs.Forms.{Elem, text, both}
use Rattle.cards.specs.Cuts.{has, before, behind}

abbrev pub is_empty : List ℕ → Bool
is_empty bs = length bs == 0

-- digits with an optional `-`
abbrev pub written : List ℕ → Bool
written bs = not (begins_with 43 bs) && numeral bs

-- the number that they write, if it has 64 bits
abbrev pub fits : List ℕ → Bool
fits bs = in64 (minus bs) (magnitude bs)

abbrev pub number : List ℕ → ℤ
number bs = with_sign (minus bs) (magnitude bs)

-- `NUMBER]`, and nothing behind it
abbrev pub subscripts : List ℕ → Bool
subscripts bs = (has 93 bs && is_empty (behind 93 bs)) && (written (before 93 bs) && fits (before 93 bs))

-- a key is `NAME` or `NAME[NUMBER]`; any other is 17
abbrev pub key_in : List ℕ → Result KeyName Refusal
key_in bs =
    cond (has 91 bs)
    (answered (lawful_name (before 91 bs) && subscripts (behind 91 bs)) (before 91 bs, Some (number (before 93 (behind 91 bs)))) BadName)
    (answered (lawful_name bs) (bs, None) BadName)

-- at most 32 bytes; digits write a number of 64 bits
abbrev pub lawful_piece : List ℕ → Bool
lawful_piece p = nat_le (length p) 32 && (not (written p) || fits p)

-- digits are a number with that text, anything else is a text
abbrev pub element : List ℕ → Elem
element p = cond (written p) (both (number p) p) (text p)

-- the pieces between commas
abbrev pub pieces : List ℕ → List (List ℕ)
pieces bs = slice_split (λ b. b == 44) bs

-- the elements of pieces, behind those so far; an unlawful piece or a seventeenth element is 18
abbrev pub elements_in : List Elem → List (List ℕ) → Result (List Elem) Refusal
elements_in es [] = Ok es
elements_in es (p ∷ ps) = cond (lawful_piece p && nat_lt (length es) 16) (elements_in (es ++ element p ∷ []) ps) (Err BadValue)

-- elements parted by commas; no bytes are the value of no elements
abbrev pub value_in : List ℕ → Result (List Elem) Refusal
value_in bs = cond (is_empty bs) (Ok []) (elements_in [] (pieces bs))

abbrev pub paired : KeyName → Result (List Elem) Refusal → Result (KeyName × List Elem) Refusal
paired k (Ok v) = Ok (k, v)
paired k (Err f) = Err f

abbrev pub with_value : Result KeyName Refusal → Result (List Elem) Refusal → Result (KeyName × List Elem) Refusal
with_value (Ok k) v = paired k v
with_value (Err f) v = Err f

-- a line is a key, a space and a value; the key is judged first, and a line with no space has no value
abbrev pub line_in : List ℕ → Result (KeyName × List Elem) Refusal
line_in bs = with_value (key_in (before 32 bs)) (cond (has 32 bs) (value_in (behind 32 bs)) (Err BadValue))
