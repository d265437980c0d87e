-- Elements of values that are found, and appended. Assumes nothing.
use Rattle.std.proofs.Common.{◌≡◌, ℕ, zero, suc, ◌+◌, ◌<◌, ◌≤◌, false, leb, List, [], ◌∷◌, ◌++◌, length, map, get_or, take, drop, ℤ, pos, negsuc, unsigned_abs, Err, sym, refl, ap, ◌∙◌, append_assoc, append-nil, arith, length-append}
use Rattle.std.specs.Int.{FitsUnsignedBits}
use Rattle.std.proofs.lemmas.Bool.{cond-false, le-ltb, lt-leb, leb-false}
use Rattle.std.proofs.lemmas.List.{take-map, map_more}
use Rattle.refusals.specs.Errors.{refused_by}
use Rattle.refusals.specs.declared.Refusal.TheVariants.{TooManyElements}
use Rattle.values.specs.Forms.{Elem}
use Rattle.values.specs.Means.{element_means, value_means}
use Rattle.values.specs.declared.element.Element.{Element}
use Rattle.values.specs.declared.value.Value.{Value}
use Rattle.forms.proofs.Commas.{read_map}
use Rattle.operations.specs.Functions.{element_at, all_elements, at_most_16}

one : (v : List Elem) (i : ℕ) (d : Elem) → i < length v → take 1 (drop i v) ≡ get_or v i d ∷ []
one [] i d h = absurd (omega arith)
one (x ∷ xs) zero d h = refl
one (x ∷ xs) (suc i) d h = one xs i d (omega arith)

-- the element x was read at an index that is not negative
pub element_found : (elements : List Element) (v : List Elem) (z : ℤ) (i : ℕ) (x : Element) → map element_means elements ≡ v → FitsUnsignedBits 64 z → i ≡ unsigned_abs z → i < length elements → x ≡ get_or elements i x → element_at v z ≡ element_means x ∷ []
element_found elements v (pos n) i x e f is h r =
    let at = read_map element_means elements v i x e h r in
    cond-false _ _ _ (le-ltb n 0 (omega arith)) ∙ ap (λ k. take 1 (drop k v)) (sym is) ∙ one v i (element_means x) at.0 ∙ ap (λ y. y ∷ []) at.1
element_found elements v (negsuc n) i x e f is h r = absurd f

all_elements-push : (vs : List (List Elem)) (v : List Elem) → all_elements (vs ++ v ∷ []) ≡ all_elements vs ++ v
all_elements-push [] v = append-nil v
all_elements-push (w ∷ vs) v = ap (λ t. w ++ t) (all_elements-push vs v) ∙ sym (append_assoc w (all_elements vs) v)

length-take-le : (vs : List (List Elem)) (i : ℕ) → length (all_elements (take i vs)) ≤ length (all_elements vs)
length-take-le [] zero = omega arith
length-take-le [] (suc i) = omega arith
length-take-le (v ∷ vs) zero = omega arith
length-take-le (v ∷ vs) (suc i) =
    let h = length-take-le vs i in
    simp length-append (omega arith)

-- the first i values stand, and x is the next of them
module _ (vs : List Value) (i : ℕ) (x : Value) (h : i < length vs) (is : x ≡ get_or vs i x) (before : List Elem) (so_far : before ≡ all_elements (take i (map value_means vs))) where
  grown : all_elements (take (i + 1) (map value_means vs)) ≡ before ++ value_means x
  grown =
      ap all_elements (take-map value_means (i + 1) vs ∙ map_more value_means vs i x h)
      ∙ all_elements-push (map value_means (take i vs)) (value_means (get_or vs i x))
      ∙ ap (λ y. all_elements (map value_means (take i vs)) ++ value_means y) (sym is)
      ∙ ap (λ t. all_elements t ++ value_means x) (sym (take-map value_means i vs))
      ∙ ap (λ t. t ++ value_means x) (sym so_far)

  pub appended : (after : List Elem) → after ≡ before ++ value_means x → after ≡ all_elements (take (i + 1) (map value_means vs))
  appended after made = made ∙ sym grown

  -- where its elements make more than 16, all do
  pub over : leb (length (before ++ value_means x)) 16 ≡ false → Err TooManyElements ≡ refused_by (at_most_16 (all_elements (map value_means vs)))
  over full =
      let all = all_elements (map value_means vs) in
      let l = leb-false _ _ full in
      let k = length-take-le (map value_means vs) (i + 1) in
      let g = ap length grown in
      let many : leb (length all) 16 ≡ false = lt-leb _ _ (omega arith) in
      sym (ap refused_by (cond-false _ _ _ many))
