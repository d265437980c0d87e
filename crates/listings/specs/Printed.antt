-- What is printed of a card. Assumes nothing.
use Rattle.std.specs.Prelude.{ℕ, List, [], ◌∷◌, ◌++◌, map, ℤ, Some, None, Option}
use Rattle.std.specs.List.{flat_map}
use Rattle.std.specs.Fmt.{signed_decimal}
use Rattle.keys.specs.KeyOrder.{KeyName}
use Rattle.values.specs.Forms.{Elem, value_form}
use Rattle.store.specs.declared.entry.Entry.{Entry}
use Rattle.keys.specs.KeyMeans.{key_means}
use Rattle.store.specs.Names.{Names, read_at}

-- `[NUMBER]` where there is one
abbrev pub subscript_form : Option ℤ → List ℕ
subscript_form None = []
subscript_form (Some n) = 91 ∷ signed_decimal n ++ 93 ∷ []

-- `NAME` or `NAME[NUMBER]`
abbrev pub key_form : KeyName → List ℕ
key_form k = k.0 ++ subscript_form k.1

-- `KEY=PRINTFORM` and the end of the line
abbrev pub entry_form : KeyName → List Elem → List ℕ
entry_form k v = key_form k ++ (61 ∷ value_form v ++ 10 ∷ [])

-- a line for each key, with the value that it has
abbrev pub card_form : Names → List KeyName → List ℕ
card_form ns ks = flat_map (λ (k : KeyName). entry_form k (read_at k ns)) ks

-- the keys of rows
abbrev pub keys_of : List Entry → List KeyName
keys_of rows = map (λ (e : Entry). key_means e.key) rows
