-- What a sheet means. Assumes nothing.
use Rattle.std.specs.Prelude.{◌≡◌, ℕ, ◌≤◌, true, map, length}
use Rattle.std.proofs.lemmas.List.{length-map}
use Rattle.order.specs.Names.{key_of, canon}
use Rattle.order.specs.Orders.{sorted}
use Rattle.order.proofs.Entries.{sorted-canon, length-canon}
use Rattle.arrays.specs.Items.{items, few}
use Rattle.keys.specs.KeyOrder.{key_order}
use Rattle.store.specs.Names.{Names}
use Rattle.store.specs.EntryMeans.{entry_means}
use Rattle.sheet.specs.declared.Sheet.{Sheet}

-- what the rows mean, sorted by key
abbrev pub sheet_names : {n : ℕ} → Sheet n → Names
sheet_names s = canon key_order (map entry_means (items s.rows))

pub names_ordered : {n : ℕ} (s : Sheet n) → sorted key_order key_of (sheet_names s) ≡ true
names_ordered s = sorted-canon key_order (map entry_means (items s.rows))

pub names_within : {n : ℕ} (s : Sheet n) → length (sheet_names s) ≤ n
names_within s = rw (length-canon key_order (map entry_means (items s.rows)) s.apart) (rw length-map (few s.rows))
