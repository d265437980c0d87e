-- What comes out of a `?`, and of an error that is mapped to the fault of a node. Assumes nothing.
use Rattle.std.proofs.Common.{◌≡◌, ℕ, IsErrAnd, Ok, Err, Result, sym, ap, ◌∙◌, subst}
use Rattle.std.specs.Result.{MatchResult}
use Rattle.std.proofs.lemmas.Result.{err_from_is_err_and}
use Rattle.refusals.specs.declared.fault.Fault.{Fault}
use Rattle.refusals.specs.declared.Refusal.{Refusal}
use Rattle.refusals.specs.Faults.{fault}

-- what comes out of a `?`, for any promise P of the answer
pub broke : {A : Type 0} (P : Result A Fault → Type 0) (o : Result A Fault) (f : Fault) → IsErrAnd o (λ y. y ≡ f) → P (Err f) → P o
broke P o f e h =
    let p = err_from_is_err_and o e in
    subst P (sym p.1) (subst (λ (f : Fault). P (Err f)) (sym p.2) h)

-- a refusal as the fault of the node at a place
abbrev pub faulted : {A : Type 0} → ℕ → Result A Refusal → Result A Fault
faulted p (Ok a) = Ok a
faulted p (Err r) = Err (fault r p)

-- `map_err` makes it that, with a closure of whose answers Q holds
pub made_fault : {A : Type 0} {Q : Refusal → Fault → Type 0} (p : ℕ) (r : Result A Refusal) (o : Result A Fault) → MatchResult r (λ x. o ≡ Ok x) (λ e. IsErrAnd o (Q e)) → ((e : Refusal) (y : Fault) → Q e y → y ≡ fault e p) → o ≡ faulted p r
made_fault p (Ok x) o h q = h
made_fault p (Err e) o h q = let y = err_from_is_err_and o h in y.1 ∙ ap Err (q e y.0 y.2)
