-- Rows in any order. Assumes nothing.
use Rattle.std.specs.Prelude.{◌≡◌, ℕ, ◌<◌, true, List, map, length, take, Some, None, Option, slice_index_or}
use Rattle.order.specs.Names.{lookup, canon, distinct}
use Rattle.keys.specs.KeyMeans.{key_means}
use Rattle.keys.specs.KeyOrder.{KeyName, key_order}
use Rattle.store.specs.Names.{Names}
use Rattle.store.specs.EntryMeans.{entry_means}
use Rattle.store.specs.declared.entry.Entry.{Entry}

-- The order of a sheet's rows is free: no key comes twice among them, and sorted by key they are the names.
pub record AnyOrder (names : Names) (rows : List Entry) : Type 0 where
  pub once : distinct key_order (map entry_means rows) ≡ true
  pub by_key : canon key_order (map entry_means rows) ≡ names

-- the place of the first row at key k, or that there is none
abbrev pub FirstAt : List Entry → KeyName → Option ℕ → Type 0
FirstAt rows k (Some i) = (i < length rows) × ((d : Entry) → key_means (slice_index_or rows i d).key ≡ k) × (lookup key_order k (map entry_means (take i rows)) ≡ None)
FirstAt rows k None = lookup key_order k (map entry_means rows) ≡ None
