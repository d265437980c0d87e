-- The functions by name, with the least and the greatest number of arguments. Assumes nothing.
use Rattle.std.specs.Prelude.{List, [], ◌∷◌, ℕ, codes}
use Rattle.functions.specs.declared.Function.{Function}
use Rattle.functions.specs.declared.Function.TheVariants as function
use Rattle.functions.specs.declared.Signature.{Signature}

abbrev pub takes : Function → ℕ → ℕ → Signature
takes f least' most' = record { function = f; least = least'; most = most' }

abbrev pub functions : List (List ℕ × Signature)
functions =
    (codes "APPEND", takes function.Append 2 4)
    ∷ (codes "AT", takes function.At 2 2)
    ∷ (codes "ATOI", takes function.Atoi 1 1)
    ∷ (codes "CONCAT", takes function.Concat 2 2)
    ∷ (codes "EQ", takes function.Eq 2 2)
    ∷ (codes "LENGTH", takes function.Length 1 1)
    ∷ (codes "RANGE", takes function.Range 2 2)
    ∷ (codes "VALUE", takes function.Value 2 2)
    ∷ []
