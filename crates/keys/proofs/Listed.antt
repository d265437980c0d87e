-- Which words a table of names has. Assumes nothing.
use Rattle.std.proofs.Common.{◌≡◌, ℕ, ◌||◌, List, [], ◌∷◌, map, is_some, Some, inl, inr, sym, refl, ap, ◌∙◌, true≢false}
use Rattle.std.specs.List.{list_any}
use Rattle.std.proofs.lemmas.Bool.{cases_Bool}
use Rattle.std.specs.Str.{bytes_eq}
use Rattle.std.proofs.lemmas.Slice.Eq.{bytes_eq-Decides}
use Rattle.order.specs.Orders.{choose}
use Rattle.order.specs.Made.{bytes_order}
use Rattle.order.specs.Names.{key_of, lookup}
use Rattle.order.proofs.Entries.{skip}

-- a name is found exactly if it is one of the names
pub found_if_listed : {V : Type 0} (k : List ℕ) (es : List (List ℕ × V)) → is_some (lookup bytes_order k es) ≡ list_any (bytes_eq k) (map key_of es)
found_if_listed k [] = refl
found_if_listed k (e ∷ es) =
    let more = lookup bytes_order k es in
    elim (cases_Bool (bytes_eq k e.0)) [
      | inl t ↦
          let s : k ≡ e.0 = (bytes_eq-Decides k e.0).0 t in
          ap (λ r. is_some (choose r more (Some e.1) more)) (ap (bytes_order.rank k) (sym s) ∙ bytes_order.self k) ∙ sym (ap (λ b. b || list_any (bytes_eq k) (map key_of es)) t)
      | inr f ↦
          let n : k ≡ e.0 → ⊥ = λ s. true≢false (sym ((bytes_eq-Decides k e.0).1 s) ∙ f) in
          ap is_some (skip bytes_order k e.0 more (Some e.1) n) ∙ found_if_listed k es ∙ sym (ap (λ b. b || list_any (bytes_eq k) (map key_of es)) f)
    ]
