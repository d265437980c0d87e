-- What number constants and text constants of a template stand for. Assumes nothing.
use Rattle.std.specs.Prelude.{ℕ, ◌+◌, ◌-◌, Bool, true, false, cond, List, [], ◌∷◌, pos, ◌==◌}
use Rattle.grammar.specs.Grammar.{part}
use Rattle.trees.specs.declared.Span.{Span}
use Rattle.values.specs.Forms.{Elem, both, text as text_alone}

-- the part of the text that a span is
abbrev pub part_of : List ℕ → Span ℕ → List ℕ
part_of text s = part text s.«from» s.to

-- `n` after a `\` stands for byte 10 and `t` for 9, `\` and `"` for themselves
abbrev pub escaped : ℕ → ℕ
escaped b = cond (b == 110) 10 (cond (b == 116) 9 b)

-- what the bytes between quotes stand for; the flag says that a `\` stands before them
abbrev pub unescaped : Bool → List ℕ → List ℕ
unescaped escape [] = []
unescaped true (b ∷ bs) = escaped b ∷ unescaped false bs
unescaped false (b ∷ bs) = cond (b == 92) (unescaped true bs) (b ∷ unescaped false bs)

-- the text of a text constant, which stands in quotes
abbrev pub quoted : List ℕ → Span ℕ → List ℕ
quoted text s = unescaped false (part text (s.«from» + 1) (s.to - 1))

-- a number constant is one element with its number and its text as written
abbrev pub number_constant : List ℕ → Span ℕ → ℕ → List Elem
number_constant text s n = both (pos n) (part_of text s) ∷ []

-- a text constant is one element with its text alone
abbrev pub text_constant : List ℕ → Span ℕ → List Elem
text_constant text s = text_alone (quoted text s) ∷ []
