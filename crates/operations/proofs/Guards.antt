-- Changes that were answered by `Ok` and that were refused. Assumes nothing.
use Rattle.std.proofs.Common.{◌≡◌, Bool, true, false, Ok, Err, Result, sym, ◌∙◌}
use Rattle.std.proofs.lemmas.Bool.{cond-true}
use Rattle.refusals.specs.Refusals.{Guarded}
use Rattle.refusals.specs.declared.Refusal.{Refusal}
use Rattle.refusals.proofs.Answered.{answered_ok, answered_err}

pub made : {X : Type 0} (allowed : Bool) (before next after : X) (f : Refusal) (r : Result (Unit {0}) Refusal) (u : Unit {0}) → Guarded allowed before next after f r → r ≡ Ok u → (allowed ≡ true) × (after ≡ next)
made allowed before next after f r u g e = let room = answered_ok allowed tt u f (sym g.answer ∙ e) in (room, g.left ∙ cond-true _ _ _ room)

pub refused : {X : Type 0} (allowed : Bool) (before next after : X) (f h : Refusal) (r : Result (Unit {0}) Refusal) → Guarded allowed before next after f r → r ≡ Err h → (allowed ≡ false) × (h ≡ f)
refused allowed before next after f h r g e = answered_err allowed tt f h (sym g.answer ∙ e)
