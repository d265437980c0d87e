-- An element that is taken out or written over. Assumes nothing.
use Rattle.std.proofs.Common.{◌≡◌, ℕ, ◌<◌, true, ltb, List, length, get_or, take, Some, sym, refl, ap, ◌∙◌, arith, length-take}
use Rattle.std.proofs.lemmas.Bool.{ltb-true, cond-true}
use Rattle.std.proofs.lemmas.Option.{slice_get_read}
use Rattle.arrays.specs.Items.{Exchanged}

-- the element at a place of the slice that shows the first n slots was read
pub took : {T : Type 0} (slice slots next after : List T) (n at : ℕ) (x : T) → slice ≡ take n slots → true ≡ ltb at (length slice) → x ≡ get_or slice at x → (at < n → after ≡ next) → Exchanged at (take n slots) next after (Some x)
took slice slots next after n at x e l r made =
    let xs = take n slots in
    let there : ltb at (length xs) ≡ true = ap (λ ys. ltb at (length ys)) (sym e) ∙ sym l in
    let within : at < length xs = ltb-true at (length xs) there in
    record {
      answer = sym (slice_get_read xs (length xs) at x refl within (r ∙ ap (λ ys. get_or ys at x) e));
      left = made (omega (arith, simp length-take at within)) ∙ sym (cond-true _ _ _ there);
    }
