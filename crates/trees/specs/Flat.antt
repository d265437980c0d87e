-- The nodes that a tree is kept as. Assumes nothing.
use Rattle.std.specs.Prelude.{ℕ, ◌+◌, cond, List, [], ◌∷◌, ◌++◌, length, Some, None, Option}
use Rattle.functions.specs.declared.Signature.{Signature}
use Rattle.functions.specs.declared.Function.TheVariants as function
use Rattle.tokens.specs.declared.operator.Op.{Op}
use Rattle.tokens.specs.Operators.{is_short}
use Rattle.trees.specs.declared.Node.{Node}
use Rattle.trees.specs.declared.Node.TheVariants as node
use Rattle.trees.specs.Tree.{Key, Expr, Args, Seq, Opening, Block, Statement, Arms, from_to, count_args}

-- what stands after the left side of an operator: `&&` and `||` stand before their right side and can skip it, the others after it
abbrev pub rest : ℕ → Op → List Node → List Node
rest q o r = cond (is_short o) (node.Short q o (length r + 1) ∷ r ++ node.Judged q ∷ []) (r ++ node.Binary q o ∷ [])

-- an item of a list that has one before it is joined to that
abbrev pub joint : Seq → List Node
joint Seq.empty = []
joint (Seq.item s e) = node.Joined ∷ []
joint (Seq.steps s a b c) = node.Joined ∷ []

-- the node of a list behind its items
abbrev pub closing : ℕ → Seq → Node
closing q Seq.empty = node.Empty q
closing q (Seq.item s e) = node.List q
closing q (Seq.steps s a b c) = node.List q

-- the node of a call; of an unknown function it stands for any, since such a template is refused
abbrev pub called : ℕ → Option Signature → ℕ → Node
called i (Some f) n = node.Call i f.function n
called i None n = node.Call i function.Length n

unfoldable mutual
  pub flatten : Expr → List Node
  flatten (Expr.number c) = node.Number c.span c.value ∷ []
  flatten (Expr.text t) = node.Text t.span ∷ []
  flatten (Expr.key k) = flatten_key k
  flatten (Expr.call i j q f s z) = flatten_args s ++ called i f (count_args s) ∷ []
  flatten (Expr.list q s) = flatten_seq s ++ closing q s ∷ []
  flatten (Expr.round q e) = flatten e
  flatten (Expr.signed q s e) = flatten e ++ node.Signed q s ∷ []
  flatten (Expr.binary q o l r) = flatten l ++ rest q o (flatten r)

  pub flatten_key : Key → List Node
  flatten_key (Key.name i j) = node.Name (from_to i j) ∷ []
  flatten_key (Key.index i j q e) = flatten e ++ node.Index (from_to i j) ∷ []

  pub flatten_args : Args → List Node
  flatten_args Args.nullary = []
  flatten_args (Args.argument s e) = flatten_args s ++ flatten e

  pub flatten_seq : Seq → List Node
  flatten_seq Seq.empty = []
  flatten_seq (Seq.item s e) = flatten_seq s ++ flatten e ++ joint s
  flatten_seq (Seq.steps s a b c) = flatten_seq s ++ node.Sequence a.span.«from» a.value b.value c.value ∷ joint s

-- the nodes of a target's subscript
abbrev pub flatten_target : Key → List Node
flatten_target (Key.name i j) = []
flatten_target (Key.index i j q e) = flatten e

abbrev pub assign_node : ℕ → Key → ℕ → ℕ → Node
assign_node q (Key.name i j) n m = node.Assign q (from_to i j) n m
assign_node q (Key.index i j p e) n m = node.Assign q (from_to i j) n m

-- the expression that an opening instruction works out, and its node, for a block of m nodes
abbrev pub opening_expr : Opening → Expr
opening_expr (Opening.if c) = c
opening_expr (Opening.while c) = c
opening_expr (Opening.foreach x y e) = e
opening_expr (Opening.joineach x y e d) = e

abbrev pub opening_node : ℕ → Opening → ℕ → Node
opening_node q (Opening.if c) m = node.If q (length (flatten c)) m
opening_node q (Opening.while c) m = node.While q (length (flatten c)) m
opening_node q (Opening.foreach x y e) m = node.Foreach q (from_to x y) (length (flatten e)) m
opening_node q (Opening.joineach x y e d) m = node.Joineach q (from_to x y) (length (flatten e)) d.span m

-- a block's instruction, its expression and the block
abbrev pub framed : ℕ → Opening → List Node → List Node
framed q h ns = opening_node q h (length ns) ∷ flatten (opening_expr h) ++ ns

unfoldable mutual
  pub flatten_block : Block → List Node
  flatten_block Block.nothing = []
  flatten_block (Block.then s b) = flatten_statement s ++ flatten_block b

  pub flatten_statement : Statement → List Node
  flatten_statement (Statement.piece i j) = node.Piece (from_to i j) ∷ []
  flatten_statement (Statement.dollar p) = node.Dollar p ∷ []
  flatten_statement (Statement.show q e) = node.Show q (length (flatten e)) ∷ flatten e
  flatten_statement (Statement.assign q k e) = assign_node q k (length (flatten_target k)) (length (flatten e)) ∷ flatten_target k ++ flatten e
  flatten_statement (Statement.choice q j c b r) = framed q (Opening.if c) (flatten_block b) ++ flatten_arms r
  flatten_statement (Statement.while q j c b q' j') = framed q (Opening.while c) (flatten_block b) ++ node.End ∷ []
  flatten_statement (Statement.foreach q j x y e b q' j') = framed q (Opening.foreach x y e) (flatten_block b) ++ node.End ∷ []
  flatten_statement (Statement.joineach q j x y e d b q' j') = framed q (Opening.joineach x y e d) (flatten_block b) ++ node.End ∷ []

  pub flatten_arms : Arms → List Node
  flatten_arms (Arms.close q j) = node.End ∷ []
  flatten_arms (Arms.otherwise q j b q' j') = node.Else (length (flatten_block b)) ∷ flatten_block b ++ node.End ∷ []
  flatten_arms (Arms.elif q j c b r) = (node.Elif q (length (flatten c)) (length (flatten_block b)) ∷ flatten c ++ flatten_block b) ++ flatten_arms r
