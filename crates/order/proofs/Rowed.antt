-- Sorted rows that stand for entries, by the place that a search answers. Assumes nothing.
use Rattle.std.proofs.Common.{◌≡◌, ℕ, suc, ◌<◌, true, List, ◌∷◌, ◌++◌, map, length, get_or, take, drop, set, Some, None, Ok, Err, Result, Equal, sym, ap, ◌∙◌}
use lib.ListN.{length-map}
use Rattle.std.specs.Result.{result_ok}
use Rattle.std.proofs.lemmas.List.{map-append, get_or-map, take-map, drop-map, map-set}
use Rattle.order.specs.Orders.{Order, below, above, sorted, Located}
use Rattle.order.specs.Names.{key_of, lookup, put, remove}
use Rattle.order.proofs.Entries.{sorted-map, above_map, below-map, lookup_found, put_found, remove_found, lookup_missing, put_missing}

some_path : {X : Type 0} {x y : X} → Some x ≡ Some y → x ≡ y
some_path e = cc

module _ {K V X : Type 0} (o : Order K) (f : X → K × V) (xs : List X) (k : K) where
  module _ (s : sorted o (λ x. key_of (f x)) xs ≡ true) (i : ℕ) (d : X) (at : Located o (λ x. key_of (f x)) xs k (Ok i)) where
    rising : sorted o key_of (map f xs) ≡ true
    rising = sorted-map o f key_of xs ∙ s

    within : i < length (map f xs)
    within = rw length-map at.0

    here : get_or (map f xs) i (f d) ≡ f (get_or xs i d)
    here = get_or-map f xs i d (f d) at.0

    same : o.rank (get_or (map f xs) i (f d)).0 k ≡ Equal
    same = ap (λ e. o.rank e.0 k) here ∙ ap (λ q. o.rank q k) (at.1 d) ∙ o.self k

    pub lookup_at : lookup o k (map f xs) ≡ Some (f (get_or xs i d)).1
    lookup_at = lookup_found o k (map f xs) i (f d) within rising same ∙ ap (λ e. Some e.1) here

    pub put_at : (v : V) (x : X) → f x ≡ (k, v) → put o k v (map f xs) ≡ map f (set xs i x)
    put_at v x e = put_found o k v (map f xs) i (f d) within rising same ∙ ap (set (map f xs) i) (sym e) ∙ sym (map-set f xs i x)

    pub remove_at : remove o k (map f xs) ≡ map f (take i xs ++ drop (suc i) xs)
    remove_at = remove_found o k (map f xs) i (f d) within rising same ∙ (λ j. take-map f i xs j ++ drop-map f (suc i) xs j) ∙ sym (map-append f (take i xs) (drop (suc i) xs))

  module _ (s : sorted o (λ x. key_of (f x)) xs ≡ true) (i : ℕ) (at : Located o (λ x. key_of (f x)) xs k (Err i)) where
    front : above o key_of k (take i (map f xs)) ≡ true
    front = ap (above o key_of k) (take-map f i xs) ∙ above_map o f key_of k (take i xs) ∙ (at.1 s).0

    back : below o key_of k (drop i (map f xs)) ≡ true
    back = ap (below o key_of k) (drop-map f i xs) ∙ below-map o f key_of k (drop i xs) ∙ (at.1 s).1

    pub lookup_none : lookup o k (map f xs) ≡ None
    lookup_none = lookup_missing o k (map f xs) i front back

    pub put_new : (v : V) (x : X) → f x ≡ (k, v) → put o k v (map f xs) ≡ map f (take i xs ++ x ∷ drop i xs)
    put_new v x e =
        put_missing o k v (map f xs) i front back ∙ (λ j. take-map f i xs j ++ (sym e j ∷ drop-map f i xs j)) ∙ sym (map-append f (take i xs) (x ∷ drop i xs))

  -- the value that a search found, or that it found none
  pub lookup_ok : (d : X) (r : Result ℕ ℕ) (i : ℕ) → sorted o (λ x. key_of (f x)) xs ≡ true → Located o (λ x. key_of (f x)) xs k r → Some i ≡ result_ok r → lookup o k (map f xs) ≡ Some (f (get_or xs i d)).1
  lookup_ok d (Ok j) i s l e = lookup_at s j d l ∙ ap (λ n. Some (f (get_or xs n d)).1) (sym (some_path e))
  lookup_ok d (Err j) i s l e = absurd cc

  pub lookup_not_ok : (r : Result ℕ ℕ) → sorted o (λ x. key_of (f x)) xs ≡ true → Located o (λ x. key_of (f x)) xs k r → None ≡ result_ok r → lookup o k (map f xs) ≡ None
  lookup_not_ok (Ok j) s l e = absurd cc
  lookup_not_ok (Err j) s l e = lookup_none s j l
