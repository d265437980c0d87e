-- What printing some bytes does to any printer. Assumes nothing.
use Rattle.std.specs.Prelude.{◌≡◌, ℕ, ◌-◌, List, ◌++◌, length, take, Result, nat_le}
use Rattle.refusals.specs.Refusals.{answered}
use Rattle.refusals.specs.declared.Refusal.{Refusal}
use Rattle.refusals.specs.declared.Refusal.TheVariants.{PaperFull}
use Rattle.printer.specs.declared.Printer as printer

-- the bytes that still find room
abbrev pub room : ℕ → List ℕ → ℕ
room capacity taken = capacity - length taken

-- as many of the bytes as there is room for are added last, in order; it is refused with 24 exactly where not all of them find room
pub record Prints {P : Type 0} (p : printer.Ghosts P) (before after : P) (bytes : List ℕ) (r : Result (Unit {0}) Refusal) : Type 0 where
  pub taken : p.taken after ≡ p.taken before ++ take (room (p.capacity before) (p.taken before)) bytes
  pub answer : r ≡ answered (nat_le (length bytes) (room (p.capacity before) (p.taken before))) tt PaperFull
  pub capacity : p.capacity after ≡ p.capacity before
