-- What reading has judged of the nodes of a template. Assumes nothing.
use Rattle.std.specs.Prelude.{◌≡◌, ℕ, ◌+◌, ◌-◌, ◌^◌, ◌<◌, ◌≤◌, true, List, [], ◌∷◌, length, ⊤}
use Rattle.keys.specs.NameBytes.{lawful_name}
use Rattle.meaning.specs.Constants.{part_of, quoted}
use Rattle.operations.specs.Functions.{Onwards}
use Rattle.trees.specs.declared.Node.{Node}
use Rattle.trees.specs.declared.Node.TheVariants as node
use Rattle.trees.specs.declared.Span.{Span}

-- a part of the text
abbrev pub Inside : List ℕ → Span ℕ → Type 0
Inside text s = (s.«from» ≤ s.to) × (s.to ≤ length text)

-- a name
abbrev pub Named : List ℕ → Span ℕ → Type 0
Named text s = Inside text s × (lawful_name (part_of text s) ≡ true)

-- a text constant in its quotes, of at most 32 bytes
abbrev pub Quoted : List ℕ → Span ℕ → Type 0
Quoted text s = (s.«from» + 1 < s.to) × (s.to ≤ length text) × (length (quoted text s) ≤ 32)

abbrev pub Lawful : List ℕ → Node → Type 0
Lawful text (node.Piece s) = Inside text s
Lawful text (node.Dollar p) = ⊤
Lawful text (node.Show p n) = ⊤
Lawful text (node.Assign p s n m) = Named text s
Lawful text (node.If p n m) = ⊤
Lawful text (node.Elif p n m) = ⊤
Lawful text (node.Else m) = ⊤
Lawful text node.End = ⊤
Lawful text (node.While p n m) = ⊤
Lawful text (node.Foreach p s n m) = Named text s
Lawful text (node.Joineach p s n d m) = Named text s × Quoted text d
Lawful text (node.Number s v) = Inside text s × (s.to - s.«from» ≤ 32) × (v < 2 ^ 63)
Lawful text (node.Text s) = Quoted text s
Lawful text (node.Name s) = Named text s
Lawful text (node.Index s) = Named text s
Lawful text (node.Call p f n) = (1 ≤ n) × (n ≤ 4)
Lawful text (node.Empty p) = ⊤
Lawful text (node.List p) = ⊤
Lawful text (node.Sequence p a b c) = Onwards a b c × (a < 2 ^ 63) × (c < 2 ^ 63)
Lawful text node.Joined = ⊤
Lawful text (node.Signed p s) = ⊤
Lawful text (node.Binary p o) = ⊤
Lawful text (node.Short p o n) = ⊤
Lawful text (node.Judged p) = ⊤

abbrev pub AllLawful : List ℕ → List Node → Type 0
AllLawful text [] = ⊤
AllLawful text (n ∷ ns) = Lawful text n × AllLawful text ns
