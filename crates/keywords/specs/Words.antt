-- The words of instructions: they are no names. Assumes nothing.
use Rattle.std.specs.Prelude.{List, [], ◌∷◌, ℕ, codes}
use Rattle.keywords.specs.declared.Keyword.{Keyword}
use Rattle.keywords.specs.declared.Keyword.TheVariants as keyword

abbrev pub keywords : List (List ℕ × Keyword)
keywords =
    (codes "ELIF", keyword.Elif)
    ∷ (codes "ELSE", keyword.Else)
    ∷ (codes "END", keyword.End)
    ∷ (codes "FOREACH", keyword.Foreach)
    ∷ (codes "IF", keyword.If)
    ∷ (codes "JOINEACH", keyword.Joineach)
    ∷ (codes "WHILE", keyword.While)
    ∷ []
