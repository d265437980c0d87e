-- What an order gives of sorted rows. Assumes nothing.
use Rattle.std.proofs.Common.{◌≡◌, ℕ, zero, suc, ◌<◌, true, false, List, [], ◌∷◌, length, get_or, take, drop, Ordering, Less, Equal, Greater, sym, refl, ap, ◌∙◌, inl, inr, arith}
use Rattle.std.specs.Ordering.{ordering_reverse, is_eq, is_lt}
use Rattle.std.proofs.lemmas.Bool.{and_parts, and_from}
use Rattle.order.specs.Orders.{Order, Total, below, above, sorted}

pub lt_is : (r : Ordering) → is_lt r ≡ true → r ≡ Less
lt_is Less h = refl
lt_is Equal h = cc
lt_is Greater h = cc

pub eq_is : (r : Ordering) → is_eq r ≡ true → r ≡ Equal
eq_is Less h = cc
eq_is Equal h = refl
eq_is Greater h = cc

pub gt_is : (r : Ordering) → is_eq r ≡ false → is_lt r ≡ false → r ≡ Greater
gt_is Less e l = cc
gt_is Equal e l = cc
gt_is Greater e l = refl

-- cases on an answer, with the equation kept
pub by_answer : {G : Type 0} (r : Ordering) → (r ≡ Less → G) → (r ≡ Equal → G) → (r ≡ Greater → G) → G
by_answer Less a b c = a refl
by_answer Equal a b c = b refl
by_answer Greater a b c = c refl

module _ {K : Type 0} (o : Order K) where
  pub flip_less : (x y : K) → o.rank x y ≡ Less → o.rank y x ≡ Greater
  flip_less x y h = o.flip y x ∙ ap ordering_reverse h

  pub flip_greater : (x y : K) → o.rank x y ≡ Greater → o.rank y x ≡ Less
  flip_greater x y h = o.flip y x ∙ ap ordering_reverse h

  pub flip_equal : (x y : K) → o.rank x y ≡ Equal → o.rank y x ≡ Equal
  flip_equal x y h = o.flip y x ∙ ap ordering_reverse h

  -- the order is total
  pub total : Total o
  total = record {
    some = λ x y. by_answer (o.rank x y) (λ h. inl h) (λ h. inr (inl (o.same x y h))) (λ h. inr (inr (flip_greater x y h)));
    not_before_and_same = λ x y h e. let s = sym h ∙ ap (λ z. o.rank z y) e ∙ o.self y in let z : ◌≡◌ {A = ℕ} 0 1 = cc in omega arith;
    not_before_and_after = λ x y h b. let s = sym b ∙ flip_less x y h in let z : ◌≡◌ {A = ℕ} 0 1 = cc in omega arith;
    transitive = λ x y z a b. o.trans x y z a b;
  }

  apart : (q k : K) (r : Ordering) → o.rank q k ≡ r → (r ≡ Equal → ◌≡◌ {A = ℕ} 0 1) → q ≡ k → ⊥
  apart q k r h n s = let z = n (sym h ∙ ap (λ x. o.rank x k) s ∙ o.self k) in omega arith

  -- equal or not
  pub by_same : {G : Type 0} (q k : K) → (q ≡ k → G) → ((q ≡ k → ⊥) → G) → G
  by_same q k same other =
      by_answer (o.rank q k) (λ h. other (apart q k Less h (λ x. cc))) (λ h. same (o.same q k h)) (λ h. other (apart q k Greater h (λ x. cc)))

  module _ {X : Type 0} (key : X → K) where
    pub below_trans : (j k : K) (xs : List X) → o.rank j k ≡ Less → below o key k xs ≡ true → below o key j xs ≡ true
    below_trans j k [] l h = refl
    below_trans j k (x ∷ xs) l h =
        let p = and_parts (is_lt (o.rank k (key x))) (below o key k xs) h in
        and_from _ _ (ap is_lt (o.trans j k (key x) l (lt_is _ p.0))) (below_trans j k xs l p.1)

    pub below_at : (k : K) (xs : List X) (m : ℕ) (d : X) → m < length xs → below o key k xs ≡ true → o.rank k (key (get_or xs m d)) ≡ Less
    below_at k [] m d l h = absurd (omega arith)
    below_at k (x ∷ xs) zero d l h = lt_is _ (and_parts (is_lt (o.rank k (key x))) (below o key k xs) h).0
    below_at k (x ∷ xs) (suc m) d l h = below_at k xs m d (omega arith) (and_parts (is_lt (o.rank k (key x))) (below o key k xs) h).1

    pub front : (k : K) (xs : List X) (m : ℕ) (d : X) → m < length xs → sorted o key xs ≡ true → o.rank (key (get_or xs m d)) k ≡ Less → above o key k (take (suc m) xs) ≡ true
    front k [] m d l s h = absurd (omega arith)
    front k (x ∷ xs) zero d l s h = and_from _ _ (ap is_lt h) refl
    front k (x ∷ xs) (suc m) d l s h =
        let p = and_parts (below o key (key x) xs) (sorted o key xs) s in
        let n : m < length xs = omega arith in
        and_from _ _ (ap is_lt (o.trans (key x) (key (get_or xs m d)) k (below_at (key x) xs m d n p.0) h)) (front k xs m d n p.1 h)

    pub back : (k : K) (xs : List X) (m : ℕ) (d : X) → m < length xs → sorted o key xs ≡ true → o.rank (key (get_or xs m d)) k ≡ Greater → below o key k (drop m xs) ≡ true
    back k [] m d l s h = absurd (omega arith)
    back k (x ∷ xs) zero d l s h =
        let p = and_parts (below o key (key x) xs) (sorted o key xs) s in
        let b = flip_greater (key x) k h in
        and_from _ _ (ap is_lt b) (below_trans k (key x) xs b p.0)
    back k (x ∷ xs) (suc m) d l s h = back k xs m d (omega arith) (and_parts (below o key (key x) xs) (sorted o key xs) s).1 h
