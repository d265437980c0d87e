-- What stays from one state of a run to a later one. Assumes nothing.
use Rattle.std.proofs.Common.{◌≡◌, ◌^◌, ◌<◌, ◌≤◌, List, ◌∷◌, length, Ok, Err, Result, sym, refl, ap, ◌∙◌, subst, arith}
use Rattle.evaluator.specs.declared.run.Run.{Run}
use Rattle.evaluator.specs.Blocks.{Left, left_need, Leaves}
use Rattle.evaluator.specs.Runs.{slots, Fits, OnlyValues, Still, Level}
use Rattle.evaluator.specs.Turns.{Slot}
use Rattle.meaning.specs.Lawful.{AllLawful}
use Rattle.refusals.specs.declared.fault.Fault.{Fault}
use Rattle.stacks.specs.Stacked
use Rattle.trees.specs.declared.Node.{Node}
use Rattle.trees.specs.Tree.{Expr}

pub still_same : (r : Run) → Still r r
still_same r = record { text = refl; limit = refl; capacity = refl; steps = omega arith }

pub still_then : {r r₁ r₂ : Run} → Still r r₁ → Still r₁ r₂ → Still r r₂
still_then h k = record { text = k.text ∙ h.text; limit = k.limit ∙ h.limit; capacity = k.capacity ∙ h.capacity; steps = let a = h.steps in let b = k.steps in omega arith }

pub still_popped : {r r₁ : Run} → OnlyValues r r₁ → Still r r₁
still_popped h = record { text = h.text; limit = h.limit; capacity = h.capacity; steps = let k = h.steps in omega arith }

-- where the limit on steps has 32 bits it had them before
pub narrow : {r r₁ : Run} → Still r r₁ → r₁.limit < 2 ^ 32 → r.limit < 2 ^ 32
narrow still h = subst (λ n. n < 2 ^ 32) still.limit h

pub level : {A : Type 0} (r r₁ : Run) (o : Result A Fault) → slots r₁ ≡ slots r → Level r r₁ o
level r r₁ (Ok x) e = e
level r r₁ (Err f) e = tt

-- what waited below comes up
pub level_popped : (x : Slot) (us vs ws : List Slot) → us ≡ Stacked.rest vs → vs ≡ x ∷ ws → us ≡ ws
level_popped x us vs ws e h = e ∙ ap Stacked.rest h

-- lawful nodes stay so
pub lawful_kept : {r r₁ : Run} {ms ns : List Node} → Still r r₁ → ms ≡ ns → AllLawful r.text.now ns → AllLawful r₁.text.now ms
lawful_kept {r} {r₁} {ms} {ns} still e h = subst (λ text. AllLawful text ms) (sym still.text) (subst (AllLawful r.text.now) (sym e) h)

-- nodes fit where as many values wait
pub fits_kept : {r r₁ : Run} {ms ns : List Node} {e : Expr} → Still r r₁ → slots r₁ ≡ slots r → ms ≡ ns → Fits r ns e → Fits r₁ ms e
fits_kept still same is fits = record {
  nodes = is ∙ fits.nodes;
  lawful = lawful_kept still is fits.lawful;
  room = let h = fits.room in let k = still.capacity in let l = ap length same in omega arith;
}

-- what is left stays so
pub leaves_kept : {r r₁ : Run} {ms ns : List Node} {x : Left} → Still r r₁ → slots r₁ ≡ slots r → ms ≡ ns → Leaves r ns x → Leaves r₁ ms x
leaves_kept {r} {r₁} {ms} {ns} {x} still same is h = record {
  nodes = is ∙ h.nodes;
  lawful = lawful_kept still is h.lawful;
  room = subst (λ k. left_need k x ≤ r₁.values.capacity) (sym (ap length same)) (subst (λ c. left_need (length (slots r)) x ≤ c) (sym still.capacity) h.room);
}
