-- Prints, one after the other. Assumes nothing.
use Rattle.std.proofs.Common.{◌≡◌, ℕ, ◌+◌, ◌-◌, ◌≤◌, List, ◌++◌, length, take, Ok, Err, Result, sym, ap, ◌∙◌, arith}
use Rattle.std.proofs.Math.Seq.{take-append-add}
use Rattle.std.proofs.lemmas.Grind.{common_steps}
use Rattle.refusals.specs.declared.Refusal.{Refusal}
use Rattle.printer.specs.declared.Printer as printer
use Rattle.printer.specs.Printing.{Prints}

-- what finds room of two pieces, where the first does whole
pub take_both : (n : ℕ) (xs ys : List ℕ) → length xs ≤ n → take n (xs ++ ys) ≡ xs ++ take (n - length xs) ys
take_both n xs ys h = let whole : length xs + (n - length xs) ≡ n = omega arith in ap (λ k. take k (xs ++ ys)) (sym whole) ∙ take-append-add xs ys (n - length xs)

module _ {P : Type 0} (p : printer.Ghosts P) where
  -- bytes that all found room, then more
  pub prints_then : {before mid after : P} {xs ys : List ℕ} {r : Result (Unit {0}) Refusal} → Prints p before mid xs (Ok tt) → Prints p mid after ys r → Prints p before after (xs ++ ys) r
  prints_then {before} {mid} {after} {xs} {ys} {r} a b = grind (arith, common_steps, take_both)

  -- bytes that did not all find room: more would change nothing
  pub prints_stop : {before after : P} {xs : List ℕ} {f : Refusal} (ys : List ℕ) → Prints p before after xs (Err f) → Prints p before after (xs ++ ys) (Err f)
  prints_stop {before} {after} {xs} {f} ys a = grind (arith, common_steps)
