-- Answers of calls that may be refused, and tests. Assumes nothing.
use Rattle.std.proofs.Common.{◌≡◌, ℕ, ◌+◌, ◌-◌, ◌≤◌, Bool, true, false, leb, is_err, IsErrAnd, Ok, Err, Result, sym, refl, ap, ◌∙◌, ⊎_elim, arith}
use Rattle.std.proofs.lemmas.Bool.{leb-true, leb-false, le-leb, lt-leb, cases_Bool}
use Rattle.refusals.specs.Refusals.{answered}
use Rattle.refusals.specs.declared.Refusal.{Refusal}

-- the answers of a test
pub answered_ok : {A : Type 0} (b : Bool) (a x : A) (f : Refusal) → answered b a f ≡ Ok x → b ≡ true
answered_ok true a x f e = refl
answered_ok false a x f e = cc

pub answered_err : {A : Type 0} (b : Bool) (a : A) (f g : Refusal) → answered b a f ≡ Err g → (b ≡ false) × (g ≡ f)
answered_err true a f g e = let z : ◌≡◌ {A = ℕ} 0 1 = cc in absurd (omega arith)
answered_err false a f g e = (refl, cc)

-- a call that was done, or was not
pub done : {A : Type 0} (b : Bool) (a x : A) (f : Refusal) → Ok x ≡ answered b a f → (b ≡ true) × (x ≡ a)
done true a x f e = (refl, cc)
done false a x f e = let z : ◌≡◌ {A = ℕ} 0 1 = cc in absurd (omega arith)

-- the answer that a `?` hands on
pub handed_on : {A : Type 0} (f : Refusal) (r : Result A Refusal) → IsErrAnd r (λ y. y ≡ f) → r ≡ Err f
handed_on f (Ok x) h = absurd h
handed_on f (Err y) h = ap Err h
