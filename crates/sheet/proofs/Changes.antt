-- Rows in any order: what the place of a key says, and each change at that place. Assumes nothing.
use Rattle.std.proofs.Common.{◌≡◌, ℕ, ◌-◌, true, List, [], ◌∷◌, ◌++◌, map, length, get_or, take, set, is_some, unwrap_or, Some, None, Option, sym, ap, ◌∙◌, arith}
use lib.ListN.{length-map}
use Rattle.std.specs.List.{swap_remove}
use Rattle.std.proofs.lemmas.List.{take-map, map-set, map_push, get_or-map}
use Rattle.std.proofs.lemmas.Grind.{common_steps}
use Rattle.order.specs.Names.{lookup, canon, distinct}
use Rattle.order.proofs.Entries.{lookup-canon, length-canon}
use Rattle.order.proofs.Loose.{First, changed, lookup_first, lookup_set, distinct_set, lookup_push, distinct_push, swapped, canon-put, canon-remove}
use Rattle.keys.specs.KeyMeans.{key_means}
use Rattle.keys.specs.KeyOrder.{KeyName, key_order}
use Rattle.values.specs.Means.{value_means}
use Rattle.store.specs.Names.{Names, value_at, is_set, with, without}
use Rattle.store.specs.EntryMeans.{entry_means}
use Rattle.store.specs.declared.entry.Entry.{Entry}
use Rattle.store.proofs.Places.{some_row}
use Rattle.sheet.specs.FreeRows.{FirstAt}

abbrev Apart : List Entry → Type 0
Apart rows = distinct key_order (map entry_means rows) ≡ true

-- the names that the rows stand for
abbrev names_of : List Entry → Names
names_of rows = canon key_order (map entry_means rows)

pub count : (rows : List Entry) → Apart rows → length (names_of rows) ≡ length rows
count rows apart = length-canon key_order (map entry_means rows) apart ∙ length-map rows entry_means

module _ (rows : List Entry) (k : KeyName) where
  first : (i : ℕ) (d : Entry) → FirstAt rows k (Some i) → First key_order k (entry_means d) (map entry_means rows) i
  first i d h = (
    rw length-map h.0,
    ap (λ e. key_order.rank e.0 k) (get_or-map entry_means rows i d (entry_means d) h.0) ∙ ap (λ q. key_order.rank q k) (h.1 d) ∙ key_order.self k,
    ap (lookup key_order k) (take-map entry_means i rows) ∙ h.2,
  )

  value_first : (i : ℕ) (d : Entry) → FirstAt rows k (Some i) → value_at k (names_of rows) ≡ Some (value_means (get_or rows i d).value)
  value_first i d h =
      lookup-canon key_order k (map entry_means rows)
      ∙ lookup_first key_order k (entry_means d) (map entry_means rows) i (first i d h)
      ∙ ap (λ e. Some e.1) (get_or-map entry_means rows i d (entry_means d) h.0)

  -- a key is set exactly where it has a place
  pub is_set_placed : (r : Option ℕ) → FirstAt rows k r → is_set k (names_of rows) ≡ is_some r
  is_set_placed (Some i) at = ap is_some (value_first i (some_row rows i at.0) at)
  is_set_placed None at = ap is_some (lookup-canon key_order k (map entry_means rows) ∙ at)

  pub value_placed : (i : ℕ) (d : Entry) (r : Option ℕ) → FirstAt rows k r → Some i ≡ r → value_at k (names_of rows) ≡ Some (value_means (get_or rows i d).value)
  value_placed i d (Some j) at e = let h : i ≡ j = cc in rw h (value_first j d at)
  value_placed i d None at e = cc

-- a row at the place of its key
module _ (rows : List Entry) (i : ℕ) (row : Entry) (at : FirstAt rows (key_means row.key) (Some i)) where
  here : First key_order (key_means row.key) (entry_means row) (map entry_means rows) i
  here = first rows (key_means row.key) i row at

  pub set_names : names_of (set rows i row) ≡ with (key_means row.key) (value_means row.value) (names_of rows)
  set_names =
      canon-put key_order _ _ (map entry_means rows) _
      (λ q. ap (lookup key_order q) (map-set entry_means rows i row) ∙ lookup_set key_order _ (entry_means row) (value_means row.value) (map entry_means rows) i here q)

  pub set_apart : Apart rows → Apart (set rows i row)
  set_apart apart = ap (distinct key_order) (map-set entry_means rows i row) ∙ distinct_set key_order _ (entry_means row) (value_means row.value) (map entry_means rows) i here apart

-- a row more, last, whose key has none
module _ (rows : List Entry) (row : Entry) (none : FirstAt rows (key_means row.key) None) where
  pub push_names : names_of (rows ++ row ∷ []) ≡ with (key_means row.key) (value_means row.value) (names_of rows)
  push_names =
      canon-put key_order _ _ (map entry_means rows) _
      (λ q. ap (lookup key_order q) (map_push entry_means rows row) ∙ lookup_push key_order (key_means row.key) (value_means row.value) (map entry_means rows) none q)

  pub push_apart : Apart rows → Apart (rows ++ row ∷ [])
  push_apart apart = ap (distinct key_order) (map_push entry_means rows row) ∙ distinct_push key_order (key_means row.key) (value_means row.value) (map entry_means rows) none apart

-- the last row takes the place i
module _ (rows : List Entry) (k : KeyName) (i : ℕ) (d : Entry) (at : FirstAt rows k (Some i)) (apart : Apart rows) where
  taken_is : map entry_means (swap_remove rows i d) ≡ take (length rows - 1) (set (map entry_means rows) i (get_or (map entry_means rows) (length rows - 1) (entry_means d)))
  taken_is =
      let x = get_or rows (length rows - 1) d in
      sym (take-map entry_means (length rows - 1) (set rows i x))
      ∙ ap (take (length rows - 1)) (map-set entry_means rows i x ∙ ap (set (map entry_means rows) i) (sym (get_or-map entry_means rows (length rows - 1) d (entry_means d) (omega (arith, at.0)))))

  taken : ((q : KeyName) → lookup key_order q (map entry_means (swap_remove rows i d)) ≡ changed key_order k None q (lookup key_order q (map entry_means rows))) × Apart (swap_remove rows i d)
  taken = let both = swapped key_order k (entry_means d) (map entry_means rows) (length rows - 1) i (rw length-map (omega (arith, at.0))) (first rows k i d at) apart in rw taken_is both

-- where a key has a place there is a row, and the last row can take the place
pub removed_apart : (rows : List Entry) (k : KeyName) (r : Option ℕ) → FirstAt rows k r → is_some r ≡ true → Apart rows → (d : Entry) × (distinct key_order (map entry_means rows) ≡ distinct key_order (map entry_means (swap_remove rows (unwrap_or r 0) d)))
removed_apart rows k (Some i) at s apart = let d = some_row rows i at.0 in (d, apart ∙ sym (taken rows k i d at apart).1)
removed_apart rows k None none s apart = cc

pub removed_names : (rows : List Entry) (k : KeyName) (r : Option ℕ) → FirstAt rows k r → is_some r ≡ true → Apart rows → (d : Entry) × (without k (names_of rows) ≡ names_of (swap_remove rows (unwrap_or r 0) d))
removed_names rows k (Some i) at s apart = let d = some_row rows i at.0 in (d, sym (canon-remove key_order k (map entry_means rows) _ (taken rows k i d at apart).0))
removed_names rows k None none s apart = cc

-- what a put needs
pub ruleset puts = (common_steps, count, is_set_placed, set_names, set_apart, push_names, push_apart)
