-- The first row at a key. Assumes nothing.
use Rattle.std.proofs.Common.{◌≡◌, ℕ, suc, ◌<◌, Bool, true, false, List, [], ◌∷◌, map, length, take, Option, Some, None, sym, refl, ◌∙◌, arith, get_or-take, length-take}
use Rattle.std.specs.Cmp.{Equal-is}
use Rattle.std.specs.List.{AllWithin, HoldsAt}
use Rattle.std.specs.Option.{MatchOption}
use Rattle.std.specs.Ordering.{is_eq}
use Rattle.order.specs.Names.{lookup}
use Rattle.order.proofs.Entries.{skip}
use Rattle.keys.specs.KeyMeans.{key_means}
use Rattle.keys.specs.KeyOrder.{KeyName, key_order}
use Rattle.store.specs.EntryMeans.{entry_means}
use Rattle.store.specs.declared.entry.Entry.{Entry}
use Rattle.sheet.specs.FreeRows.{FirstAt}

-- what a test of a row's key and k gives
abbrev pub at_key : KeyName → Entry → Bool
at_key k row = is_eq (key_order.rank (key_means row.key) k)

none_below : (k : KeyName) (rows : List Entry) → AllWithin (λ row. false ≡ at_key k row) rows 0 (length rows) → lookup key_order k (map entry_means rows) ≡ None
none_below k [] h = refl
none_below k (row ∷ rows) h =
    let m = key_means row.key in
    let no : false ≡ at_key k row = h 0 row (omega arith) (omega arith) in
    skip key_order k m _ _ (λ e. let yes = (Equal-is (key_order.rank m k)).1 (rw e (key_order.self m)) in cc) ∙ none_below k rows (λ j d low l. h (suc j) d (omega arith) (omega arith))

pub first_at : (k : KeyName) (rows : List Entry) (r : Option ℕ) → MatchOption r (AllWithin (λ row. false ≡ at_key k row) rows 0 (length rows)) (λ i. (i < length rows) × HoldsAt (λ row. true ≡ at_key k row) rows i × AllWithin (λ row. false ≡ at_key k row) rows 0 i) → FirstAt rows k r
first_at k rows None h = none_below k rows h
first_at k rows (Some i) h = (
  h.0,
  λ d. key_order.same _ _ ((Equal-is _).0 (sym (h.1 d))),
  none_below k (take i rows) (λ j d low l. let m : j < i = omega (arith, simp length-take at l) in rw (get_or-take i rows j d m) (h.2 j d low m)),
)
