-- Print forms, element by element. Assumes nothing.
use Rattle.std.proofs.Common.{◌≡◌, ℕ, ◌+◌, ◌<◌, ◌≤◌, List, [], ◌∷◌, ◌++◌, map, length, get_or, take, sym, ap, ◌∙◌, append_assoc, append-nil, arith, length-take}
use lib.ListN.{length-map}
use Rattle.std.proofs.lemmas.List.{take_more, get_or-map}
use Rattle.values.specs.Forms.{Elem, form, more, value_form}

more_push : (es : List Elem) (e : Elem) → more (es ++ e ∷ []) ≡ more es ++ 44 ∷ form e
more_push [] e = ap (λ t. 44 ∷ t) (append-nil (form e))
more_push (x ∷ es) e = ap (λ t. 44 ∷ (form x ++ t)) (more_push es e) ∙ ap (λ t. 44 ∷ t) (sym (append_assoc (form x) (more es) (44 ∷ form e)))

value_push : (es : List Elem) (e : Elem) → 0 < length es → value_form (es ++ e ∷ []) ≡ value_form es ++ 44 ∷ form e
value_push [] e h = absurd (omega arith)
value_push (x ∷ es) e h = ap (λ t. form x ++ t) (more_push es e) ∙ sym (append_assoc (form x) (more es) (44 ∷ form e))

value_one : (es : List Elem) (e : Elem) → length es ≡ 0 → value_form (es ++ e ∷ []) ≡ value_form es ++ form e
value_one [] e h = append-nil (form e)
value_one (x ∷ es) e h = absurd (omega arith)

-- the element that was read, in the list that the elements mean
pub read_map : {X Y : Type 0} (f : X → Y) (xs : List X) (ys : List Y) (i : ℕ) (x : X) → map f xs ≡ ys → i < length xs → x ≡ get_or xs i x → (i < length ys) × (get_or ys i (f x) ≡ f x)
read_map f xs ys i x e h r = (rw (← e) (rw length-map h), ap (λ t. get_or t i (f x)) (sym e) ∙ get_or-map f xs i x (f x) h ∙ ap f (sym r))

module _ (es : List Elem) (i : ℕ) (e : Elem) (at : (i < length es) × (get_or es i e ≡ e)) (before piece after : List ℕ) (written : before ≡ value_form (take i es)) (formed : piece ≡ form e) where
  so_far : length (take i es) ≡ i
  so_far = let l = at.0 in simp length-take (omega arith)

  grown : value_form (take (i + 1) es) ≡ value_form (take i es ++ e ∷ [])
  grown = ap value_form (take_more es i e at.0 ∙ ap (λ x. take i es ++ x ∷ []) at.1)

  -- the first element
  pub first_item : i ≤ 0 → after ≡ before ++ piece → after ≡ value_form (take (i + 1) es)
  first_item z a = let n = so_far in a ∙ (λ j. written j ++ formed j) ∙ sym (grown ∙ value_one (take i es) e (omega arith))

  -- a later one, after a comma
  pub later_item : (comma : List ℕ) → 1 ≤ i → comma ≡ before ++ 44 ∷ [] → after ≡ comma ++ piece → after ≡ value_form (take (i + 1) es)
  later_item comma some c a =
      let n = so_far in
      a ∙ (λ j. c j ++ formed j) ∙ append_assoc before (44 ∷ []) (form e) ∙ ap (λ t. t ++ 44 ∷ form e) written ∙ sym (grown ∙ value_push (take i es) e (omega arith))
