-- What a store means: keys with their values. Assumes nothing.
use Rattle.std.specs.Prelude.{ℕ, Bool, ◌||◌, List, [], length, is_some, Some, None, Option, nat_lt}
use Rattle.order.specs.Names.{lookup, put, remove}
use Rattle.keys.specs.KeyOrder.{KeyName, key_order}
use Rattle.values.specs.Forms.{Elem}

-- the keys that are set, in the order of keys, each with its value
abbrev pub Names : Type 0
Names = List (KeyName × List Elem)

-- the value of a key, or that it is unset
abbrev pub value_at : KeyName → Names → Option (List Elem)
value_at k ns = lookup key_order k ns

abbrev pub or_empty : Option (List Elem) → List Elem
or_empty None = []
or_empty (Some v) = v

-- the value of a key as it is read: an unset key reads as the value of no elements
abbrev pub read_at : KeyName → Names → List Elem
read_at k ns = or_empty (value_at k ns)

abbrev pub is_set : KeyName → Names → Bool
is_set k ns = is_some (value_at k ns)

-- the names with k set to v, and nothing else changed
abbrev pub with : KeyName → List Elem → Names → Names
with k v ns = put key_order k v ns

-- the names with k unset, and nothing else changed
abbrev pub without : KeyName → Names → Names
without k ns = remove key_order k ns

-- a key can be put where it is set, or where fewer keys than the capacity stand
abbrev pub has_room : ℕ → KeyName → Names → Bool
has_room capacity k ns = is_set k ns || nat_lt (length ns) capacity
