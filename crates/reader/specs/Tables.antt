-- What the table of nodes holds. Assumes nothing.
use Rattle.std.specs.Prelude.{◌≡◌, ℕ, ◌+◌, cond, List, ◌++◌, length, take, replicate, nat_lt, slice_set}
use Rattle.trees.specs.declared.Node.{Node}
use Rattle.trees.specs.declared.Node.TheVariants.{End}
use Rattle.trees.specs.Laid.{weight, total}

-- the nodes that are kept, how many there are, and how many of these count
pub record Table : Type 0 where
  pub slots : List Node
  pub len : ℕ
  pub nodes : ℕ

abbrev pub blank : Table
blank = record { slots = replicate 2048 End; len = 0; nodes = 0 }

-- a node past the room is not kept
abbrev pub put : List Node → ℕ → Node → List Node
put ns i n = cond (nat_lt i 2048) (slice_set ns i n) ns

abbrev pub pushed : Table → Node → Table
pushed t n = record { slots = put t.slots t.len n; len = t.len + 1; nodes = t.nodes + weight n }

abbrev pub patched : Table → ℕ → Node → Table
patched t i n = record { slots = put t.slots i n; len = t.len; nodes = t.nodes }

abbrev pub restored : Table → ℕ → ℕ → Table
restored t n m = record { slots = t.slots; len = n; nodes = m }

-- the table holds these nodes, as far as there is room
pub record Holds (t : Table) (ns : List Node) : Type 0 where
  pub room : length t.slots ≡ 2048
  pub many : t.len ≡ length ns
  pub counted : t.nodes ≡ total ns
  pub kept : take (length ns) t.slots ≡ take 2048 ns

-- from t to t' the nodes ns have come to what the table holds
pub record Grew (t : Table) (ns : List Node) (t' : Table) : Type 0 where
  pub longer : t'.len ≡ t.len + length ns
  pub holds : (old : List Node) → Holds t old → Holds t' (old ++ ns)
