-- Sorted rows: what the place of a key says, and each change at that place. Assumes nothing.
use Rattle.std.proofs.Common.{◌≡◌, ℕ, Bool, true, false, cond, ltb, List, map, length, get_or, set, is_some, Some, Ok, Err, Result, sym, refl, ap, ◌∙◌}
use Rattle.std.specs.List.{insert, remove}
use Rattle.std.specs.Result.{result_ok, is_ok}
use Rattle.std.proofs.lemmas.Bool.{lt-ltb, ltb-true, cond-true}
use Rattle.std.proofs.lemmas.Grind.{common_steps}
use Rattle.std.proofs.lemmas.List.{get_or_default}
use Rattle.order.specs.Orders.{sorted}
use Rattle.order.specs.Names.{key_of}
use Rattle.order.proofs.Entries.{sorted-map, put-sorted, remove-sorted}
use Rattle.order.proofs.Rowed.{lookup_at, lookup_none, put_at, put_new, remove_at}
use Rattle.keys.specs.KeyMeans.{key_means}
use Rattle.keys.specs.KeyOrder.{KeyName, key_order}
use Rattle.values.specs.Forms.{Elem}
use Rattle.values.specs.Means.{value_means}
use Rattle.store.specs.Names.{Names, value_at, is_set, with, without}
use Rattle.store.specs.EntryMeans.{entry_means}
use Rattle.store.specs.declared.entry.Entry.{Entry}
use Rattle.store.proofs.Places.{some_row}
use Rattle.index.specs.IndexMeans.{Placed}

abbrev Sorted : List Entry → Type 0
Sorted rows = sorted key_order (λ e. key_of (entry_means e)) rows ≡ true

rising : (rows : List Entry) → Sorted rows → sorted key_order key_of (map entry_means rows) ≡ true
rising rows s = sorted-map key_order entry_means key_of rows ∙ s

-- rows that stand for sorted names are sorted
sorted_as : (rows : List Entry) (names : Names) → map entry_means rows ≡ names → sorted key_order key_of names ≡ true → Sorted rows
sorted_as rows names e s = sym (sorted-map key_order entry_means key_of rows) ∙ ap (sorted key_order key_of) e ∙ s

-- so are rows that stand for such names after a put
put_sorted : (rows after : List Entry) (k : KeyName) (v : List Elem) → map entry_means after ≡ with k v (map entry_means rows) → Sorted rows → Sorted after
put_sorted rows after k v e s = sorted_as after _ e (put-sorted key_order k v (map entry_means rows) (rising rows s))

module _ (rows : List Entry) (k : KeyName) where
  -- a key is set exactly where it has a place
  pub is_set_placed : (r : Result ℕ ℕ) → Placed rows k r → Sorted rows → is_set k (map entry_means rows) ≡ is_ok r
  is_set_placed (Ok i) at s = ap is_some (lookup_at key_order entry_means rows k s i (some_row rows i at.0) at)
  is_set_placed (Err i) at s = ap is_some (lookup_none key_order entry_means rows k s i at)

  pub value_placed : (i : ℕ) (d : Entry) (r : Result ℕ ℕ) → Placed rows k r → Some i ≡ result_ok r → Sorted rows → value_at k (map entry_means rows) ≡ Some (value_means (get_or rows i d).value)
  value_placed i d (Ok j) at e s = let h : i ≡ j = cc in rw h (lookup_at key_order entry_means rows k s j d at)
  value_placed i d (Err j) at e s = cc

module _ (rows : List Entry) (i : ℕ) (row : Entry) where
  pub set_names : Placed rows (key_means row.key) (Ok i) → Sorted rows → map entry_means (set rows i row) ≡ with (key_means row.key) (value_means row.value) (map entry_means rows)
  set_names at s = sym (put_at key_order entry_means rows (key_means row.key) s i row at (value_means row.value) row refl)

  pub set_sorted : Placed rows (key_means row.key) (Ok i) → Sorted rows → Sorted (set rows i row)
  set_sorted at s = put_sorted rows _ _ _ (set_names at s) s

  pub insert_names : Placed rows (key_means row.key) (Err i) → Sorted rows → map entry_means (insert rows i row) ≡ with (key_means row.key) (value_means row.value) (map entry_means rows)
  insert_names at s = sym (put_new key_order entry_means rows (key_means row.key) s i at (value_means row.value) row refl)

  pub insert_sorted : Placed rows (key_means row.key) (Err i) → Sorted rows → Sorted (insert rows i row)
  insert_sorted at s = put_sorted rows _ _ _ (insert_names at s) s

-- the rows after the one at a place is taken out, if there is such a place
abbrev taken : List Entry → ℕ → List Entry
taken rows i = cond (ltb i (length rows)) (remove rows i) rows

pub taken_names : (rows : List Entry) (i : ℕ) (k : KeyName) → Placed rows k (Ok i) → Sorted rows → map entry_means (taken rows i) ≡ without k (map entry_means rows)
taken_names rows i k at s = rw (cond-true _ _ _ (lt-ltb _ _ at.0)) (sym (remove_at key_order entry_means rows k s i (some_row rows i at.0) at))

-- whichever row goes
pub taken_sorted : (rows : List Entry) (i : ℕ) → Sorted rows → Sorted (taken rows i)
taken_sorted rows i s = by_cases (ltb i (length rows)) refl
  where
    by_cases : (b : Bool) → ltb i (length rows) ≡ b → Sorted (cond b (remove rows i) rows)
    by_cases true l =
        let h = ltb-true i (length rows) l in
        let d = some_row rows i h in
        let k = key_means (get_or rows i d).key in
        let at : Placed rows k (Ok i) = (h, λ x. ap (λ y. key_means y.key) (get_or_default rows i x d h)) in
        sorted_as (remove rows i) _ (sym (remove_at key_order entry_means rows k s i d at)) (remove-sorted key_order k (map entry_means rows) (rising rows s))
    by_cases false l = s

-- what a put and a removal need
pub ruleset puts = (common_steps, is_set_placed, set_names, set_sorted, insert_names, insert_sorted)

pub ruleset removes = (is_set_placed, taken_names, taken_sorted)
