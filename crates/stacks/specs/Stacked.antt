-- What a stack holds. Assumes nothing.
use Rattle.std.specs.Prelude.{ℕ, List, [], ◌∷◌, Some, None, Option}

-- the elements, the top first, and how many find room
pub record Stacked (T : Type 0) : Type 0 where
  pub items : List T
  pub capacity : ℕ

abbrev pub top : {T : Type 0} → List T → Option T
top [] = None
top (x ∷ xs) = Some x

abbrev pub rest : {T : Type 0} → List T → List T
rest [] = []
rest (x ∷ xs) = xs
