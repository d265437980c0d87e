-- Which bytes are a name. Assumes nothing.
use Rattle.std.specs.Prelude.{ℕ, Bool, false, not, ◌&&◌, ◌||◌, List, [], ◌∷◌, length, codes, ◌==◌, nat_le}
use Rattle.std.specs.List.{list_all, list_any}
use Rattle.std.specs.Str.{bytes_eq}

abbrev pub between : ℕ → ℕ → ℕ → Bool
between low high b = nat_le low b && nat_le b high

-- A to Z and a to z
abbrev pub letter : ℕ → Bool
letter b = between 65 90 b || between 97 122 b

abbrev pub digit : ℕ → Bool
digit b = between 48 57 b

-- a letter or `_`
abbrev pub name_start : ℕ → Bool
name_start b = letter b || b == 95

-- a letter, a digit, `_` or `.`
abbrev pub name_byte : ℕ → Bool
name_byte b = letter b || (digit b || (b == 95 || b == 46))

abbrev pub all_name_bytes : List ℕ → Bool
all_name_bytes = list_all name_byte

-- the words of instructions
abbrev pub reserved_words : List (List ℕ)
reserved_words = codes "ELIF" ∷ codes "ELSE" ∷ codes "END" ∷ codes "FOREACH" ∷ codes "IF" ∷ codes "JOINEACH" ∷ codes "WHILE" ∷ []

abbrev pub one_of : List ℕ → List (List ℕ) → Bool
one_of bs = list_any (bytes_eq bs)

-- a letter or `_`, then letters, digits, `_` or `.`
abbrev pub shaped : List ℕ → Bool
shaped [] = false
shaped (b ∷ bs) = name_start b && all_name_bytes bs

-- at most 24 bytes in the shape of a name, and no word of an instruction
abbrev pub lawful_name : List ℕ → Bool
lawful_name bs = shaped bs && (nat_le (length bs) 24 && not (one_of bs reserved_words))
