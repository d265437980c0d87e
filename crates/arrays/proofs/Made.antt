-- A change that was answered by `Ok` was made. Assumes nothing.
use Rattle.std.proofs.Common.{◌≡◌, Bool, true, false, Ok, Result, sym, ◌∙◌}
use Rattle.arrays.specs.Items.{Allowed}
use Rattle.arrays.specs.declared.error.CapacityError.{CapacityError}

pub made : {X : Type 0} (room : Bool) (before next after : X) (r : Result (Unit {0}) CapacityError) (u : Unit {0}) → Allowed room before next after r → r ≡ Ok u → after ≡ next
made true before next after r u h e = h.left
made false before next after r u h e = let wrong = sym e ∙ h.answer in absurd cc
