-- The nodes of items as they come, one after another: what has to be known of the open blocks, so that the size of a block can be put
-- into its node when the block ends. Assumes nothing.
use Rattle.std.specs.Prelude.{ℕ, suc, ◌+◌, ◌-◌, max, Bool, true, false, cond, List, [], ◌∷◌, ◌++◌, length, slice_set}
use Rattle.trees.specs.declared.Node.{Node}
use Rattle.trees.specs.declared.Node.TheVariants as node
use Rattle.trees.specs.Tree.{Expr, Opening, Item, Items, from_to}
use Rattle.trees.specs.Flat.{flatten, flatten_target, assign_node, opening_expr, opening_node}
use Rattle.trees.specs.Counts.{need, need_assign}

-- silent nodes count none
abbrev pub weight : Node → ℕ
weight (node.Piece s) = 1
weight (node.Dollar p) = 1
weight (node.Show p n) = 1
weight (node.Assign p s n m) = 1
weight (node.If p n m) = 1
weight (node.Elif p n m) = 1
weight (node.Else m) = 1
weight node.End = 1
weight (node.While p n m) = 1
weight (node.Foreach p s n m) = 1
weight (node.Joineach p s n d m) = 1
weight (node.Number s v) = 1
weight (node.Text s) = 1
weight (node.Name s) = 1
weight (node.Index s) = 1
weight (node.Call p f n) = 1
weight (node.Empty p) = 1
weight (node.List p) = 1
weight (node.Sequence p a b c) = 1
weight node.Joined = 0
weight (node.Signed p s) = 1
weight (node.Binary p o) = 1
weight (node.Short p o n) = 1
weight (node.Judged p) = 0

-- the place that names it in a refusal; 0 of a node that is never named
abbrev pub place_of : Node → ℕ
place_of (node.Piece s) = s.«from»
place_of (node.Dollar p) = p
place_of (node.Show p n) = p
place_of (node.Assign p s n m) = p
place_of (node.If p n m) = p
place_of (node.Elif p n m) = p
place_of (node.Else m) = 0
place_of node.End = 0
place_of (node.While p n m) = p
place_of (node.Foreach p s n m) = p
place_of (node.Joineach p s n d m) = p
place_of (node.Number s v) = s.«from»
place_of (node.Text s) = s.«from»
place_of (node.Name s) = s.«from»
place_of (node.Index s) = s.«from»
place_of (node.Call p f n) = p
place_of (node.Empty p) = p
place_of (node.List p) = p
place_of (node.Sequence p a b c) = p
place_of node.Joined = 0
place_of (node.Signed p s) = p
place_of (node.Binary p o) = p
place_of (node.Short p o n) = p
place_of (node.Judged p) = p

abbrev pub total : List Node → ℕ
total [] = 0
total (n ∷ ns) = weight n + total ns

-- the nodes of the expression that an instruction of a block works out; 0 of any other node
abbrev pub head_size : Node → ℕ
head_size (node.Piece s) = 0
head_size (node.Dollar p) = 0
head_size (node.Show p n) = 0
head_size (node.Assign p s n m) = 0
head_size (node.If p n m) = n
head_size (node.Elif p n m) = n
head_size (node.Else m) = 0
head_size node.End = 0
head_size (node.While p n m) = n
head_size (node.Foreach p s n m) = n
head_size (node.Joineach p s n d m) = n
head_size (node.Number s v) = 0
head_size (node.Text s) = 0
head_size (node.Name s) = 0
head_size (node.Index s) = 0
head_size (node.Call p f n) = 0
head_size (node.Empty p) = 0
head_size (node.List p) = 0
head_size (node.Sequence p a b c) = 0
head_size node.Joined = 0
head_size (node.Signed p s) = 0
head_size (node.Binary p o) = 0
head_size (node.Short p o n) = 0
head_size (node.Judged p) = 0

-- the node with a block of m nodes; any other node stays
abbrev pub with_body : Node → ℕ → Node
with_body (node.Piece s) m = node.Piece s
with_body (node.Dollar p) m = node.Dollar p
with_body (node.Show p n) m = node.Show p n
with_body (node.Assign p s n k) m = node.Assign p s n k
with_body (node.If p n k) m = node.If p n m
with_body (node.Elif p n k) m = node.Elif p n m
with_body (node.Else k) m = node.Else m
with_body node.End m = node.End
with_body (node.While p n k) m = node.While p n m
with_body (node.Foreach p s n k) m = node.Foreach p s n m
with_body (node.Joineach p s n d k) m = node.Joineach p s n d m
with_body (node.Number s v) m = node.Number s v
with_body (node.Text s) m = node.Text s
with_body (node.Name s) m = node.Name s
with_body (node.Index s) m = node.Index s
with_body (node.Call p f n) m = node.Call p f n
with_body (node.Empty p) m = node.Empty p
with_body (node.List p) m = node.List p
with_body (node.Sequence p a b c) m = node.Sequence p a b c
with_body node.Joined m = node.Joined
with_body (node.Signed p s) m = node.Signed p s
with_body (node.Binary p o) m = node.Binary p o
with_body (node.Short p o n) m = node.Short p o n
with_body (node.Judged p) m = node.Judged p

-- the instruction of an open block (of an IF the last of IF, ELIF and ELSE): where its node stands, the node, and whether it is a FOREACH or JOINEACH
pub record Mark : Type 0 where
  pub at : ℕ
  pub head : Node
  pub each : Bool

-- the nodes so far, the open blocks (the innermost first), and the greatest stack need
pub record Laid : Type 0 where
  pub nodes : List Node
  pub marks : List Mark
  pub need : ℕ

abbrev pub loops : List Mark → ℕ
loops [] = 0
loops (m ∷ ms) = cond m.each (suc (loops ms)) (loops ms)

-- the size of its block goes into the instruction of the innermost open block
abbrev pub closed : List Node → List Mark → List Node
closed ns [] = ns
closed ns (m ∷ ms) = slice_set ns m.at (with_body m.head (length ns - m.at - 1 - head_size m.head))

-- another instruction takes its place
abbrev pub remarked : ℕ → Node → List Mark → List Mark
remarked at' n [] = []
remarked at' n (m ∷ ms) = record { at = at'; head = n; each = m.each } ∷ ms

abbrev pub unmarked : List Mark → List Mark
unmarked [] = []
unmarked (m ∷ ms) = ms

abbrev pub is_each : Opening → Bool
is_each (Opening.if c) = false
is_each (Opening.while c) = false
is_each (Opening.foreach x y e) = true
is_each (Opening.joineach x y e d) = true

abbrev pub elif_node : ℕ → Expr → ℕ → Node
elif_node q c m = node.Elif q (length (flatten c)) m

abbrev pub laid_item : Laid → Item → Laid
laid_item l (Item.piece i j) = record { nodes = l.nodes ++ node.Piece (from_to i j) ∷ []; marks = l.marks; need = l.need }
laid_item l (Item.dollar p) = record { nodes = l.nodes ++ node.Dollar p ∷ []; marks = l.marks; need = l.need }
laid_item l (Item.show q e) = record { nodes = l.nodes ++ node.Show q (length (flatten e)) ∷ flatten e; marks = l.marks; need = max l.need (need e + loops l.marks) }
laid_item l (Item.assign q k e) = record { nodes = l.nodes ++ assign_node q k (length (flatten_target k)) (length (flatten e)) ∷ flatten_target k ++ flatten e; marks = l.marks; need = max l.need (need_assign k e + loops l.marks) }
laid_item l (Item.opens q j h) = record { nodes = l.nodes ++ opening_node q h 0 ∷ flatten (opening_expr h); marks = record { at = length l.nodes; head = opening_node q h 0; each = is_each h } ∷ l.marks; need = max l.need (need (opening_expr h) + loops l.marks) }
laid_item l (Item.elif q j c) = record { nodes = closed l.nodes l.marks ++ elif_node q c 0 ∷ flatten c; marks = remarked (length l.nodes) (elif_node q c 0) l.marks; need = max l.need (need c + loops l.marks) }
laid_item l (Item.else q j) = record { nodes = closed l.nodes l.marks ++ node.Else 0 ∷ []; marks = remarked (length l.nodes) (node.Else 0) l.marks; need = l.need }
laid_item l (Item.end q j) = record { nodes = closed l.nodes l.marks ++ node.End ∷ []; marks = unmarked l.marks; need = l.need }

unfoldable pub laid : Items → Laid
laid Items.none = record { nodes = []; marks = []; need = 0 }
laid (Items.then ts t) = laid_item (laid ts) t
