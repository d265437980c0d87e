-- What an index means. Assumes nothing.
use Rattle.std.specs.Prelude.{◌≡◌, ℕ, ◌≤◌, true, List, map, length, Result}
use Rattle.std.proofs.Common.{◌∙◌}
use Rattle.std.proofs.lemmas.List.{length-map}
use Rattle.order.specs.Names.{key_of}
use Rattle.order.specs.Orders.{sorted, Located}
use Rattle.order.proofs.Entries.{sorted-map}
use Rattle.arrays.specs.Items.{items, few}
use Rattle.keys.specs.KeyOrder.{KeyName, key_order}
use Rattle.store.specs.Names.{Names}
use Rattle.store.specs.EntryMeans.{entry_means}
use Rattle.store.specs.declared.entry.Entry.{Entry}
use Rattle.index.specs.declared.Index.{Index}

-- what the rows mean, one after the other
abbrev pub index_names : {n : ℕ} → Index n → Names
index_names s = map entry_means (items s.rows)

pub names_ordered : {n : ℕ} (s : Index n) → sorted key_order key_of (index_names s) ≡ true
names_ordered s = sorted-map key_order entry_means key_of (items s.rows) ∙ s.sorted

pub names_within : {n : ℕ} (s : Index n) → length (index_names s) ≤ n
names_within s = rw length-map (few s.rows)

-- where a key stands among rows, or where it would go
abbrev pub Placed : List Entry → KeyName → Result ℕ ℕ → Type 0
Placed rows k r = Located key_order (λ e. key_of (entry_means e)) rows k r
