-- Bytes before and behind the first of a kind, by its place. Assumes nothing.
use Rattle.std.proofs.Common.{◌≡◌, ℕ, suc, ◌+◌, Bool, true, false, eqb, ltb, List, [], ◌∷◌, length, Option, Some, None, cond, sym, refl, ◌∙◌, subst, arith}
use Rattle.std.specs.List.{list_any, position, position_or_len}
use Rattle.std.specs.Option.{MatchOption}
use Rattle.std.proofs.lemmas.Bool.{lt-ltb, ltb-true, ltb-false}
use Rattle.std.proofs.lemmas.Bool.Decides.{nat_tests}
use Rattle.std.proofs.lemmas.List.{take_all}
use Rattle.cards.specs.Cuts.{NotThere, Cut}

ltb_both : (m n : ℕ) → ltb m n ≡ ltb (1 + m) (suc n)
ltb_both m n = grind (arith, nat_tests)

-- a list has an element that passes where its first is within
pub has_position : (p : ℕ → Bool) (xs : List ℕ) → list_any p xs ≡ ltb (position_or_len p xs) (length xs)
has_position p [] = refl
has_position p (x ∷ xs) = by (p x) refl (has_position p xs)
  where
    by : (t : Bool) → p x ≡ t → list_any p xs ≡ ltb (position_or_len p xs) (length xs) → list_any p (x ∷ xs) ≡ ltb (position_or_len p (x ∷ xs)) (length (x ∷ xs))
    by true e h = simp e (sym (lt-ltb 0 _ (omega arith)))
    by false e h = simp (e, h) (ltb_both _ _)

pub found : (b : ℕ) (bs : List ℕ) (r : Option ℕ) → r ≡ position (λ x. eqb x b) bs → MatchOption r (NotThere b bs) (λ i. Cut b bs i)
found b bs r e = let P : Option ℕ → Type 0 = λ o. MatchOption o (NotThere b bs) (λ i. Cut b bs i) in subst P (sym e) (by (ltb (position_or_len (λ x. eqb x b) bs) (length bs)) refl)
  where
    by : (t : Bool) → ltb (position_or_len (λ x. eqb x b) bs) (length bs) ≡ t → MatchOption (cond t (Some (position_or_len (λ x. eqb x b) bs)) None) (NotThere b bs) (λ i. Cut b bs i)
    by true h = record { some = has_position _ bs ∙ h; within = ltb-true _ _ h; front = refl; back = refl }
    by false h = record { none = has_position _ bs ∙ h; all = take_all _ bs (ltb-false _ _ h) }
