-- What a template needs of a till: nodes and stack. Assumes nothing.
use Rattle.std.specs.Prelude.{ℕ, ◌+◌, max, cond}
use Rattle.tokens.specs.Operators.{is_short}
use Rattle.trees.specs.Tree.{Key, Expr, Args, Seq, Block, Statement, Arms, count_args}

-- one node each for a constant, key, operator, sign, call, list and sequence; none for parentheses and a sequence's constants
unfoldable mutual
  pub nodes : Expr → ℕ
  nodes (Expr.number c) = 1
  nodes (Expr.text t) = 1
  nodes (Expr.key k) = nodes_key k
  nodes (Expr.call i j q f s z) = nodes_args s + 1
  nodes (Expr.list q s) = nodes_seq s + 1
  nodes (Expr.round q e) = nodes e
  nodes (Expr.signed q s e) = nodes e + 1
  nodes (Expr.binary q o l r) = nodes l + nodes r + 1

  pub nodes_key : Key → ℕ
  nodes_key (Key.name i j) = 1
  nodes_key (Key.index i j q e) = nodes e + 1

  pub nodes_args : Args → ℕ
  nodes_args Args.nullary = 0
  nodes_args (Args.argument s e) = nodes_args s + nodes e

  pub nodes_seq : Seq → ℕ
  nodes_seq Seq.empty = 0
  nodes_seq (Seq.item s e) = nodes_seq s + nodes e
  nodes_seq (Seq.steps s a b c) = nodes_seq s + 1

-- a target is inside its instruction, but what stands in its subscript counts
abbrev pub nodes_target : Key → ℕ
nodes_target (Key.name i j) = 0
nodes_target (Key.index i j q e) = nodes e

-- one node each for a plain piece, `$$` and instruction, ELSE and END too
unfoldable mutual
  pub nodes_block : Block → ℕ
  nodes_block Block.nothing = 0
  nodes_block (Block.then s b) = nodes_statement s + nodes_block b

  pub nodes_statement : Statement → ℕ
  nodes_statement (Statement.piece i j) = 1
  nodes_statement (Statement.dollar p) = 1
  nodes_statement (Statement.show q e) = 1 + nodes e
  nodes_statement (Statement.assign q k e) = 1 + nodes_target k + nodes e
  nodes_statement (Statement.choice q j c b r) = 1 + nodes c + nodes_block b + nodes_arms r
  nodes_statement (Statement.while q j c b q' j') = 1 + nodes c + nodes_block b + 1
  nodes_statement (Statement.foreach q j x y e b q' j') = 1 + nodes e + nodes_block b + 1
  nodes_statement (Statement.joineach q j x y e d b q' j') = 1 + nodes e + nodes_block b + 1

  pub nodes_arms : Arms → ℕ
  nodes_arms (Arms.close q j) = 1
  nodes_arms (Arms.otherwise q j b q' j') = 1 + nodes_block b + 1
  nodes_arms (Arms.elif q j c b r) = 1 + nodes c + nodes_block b + nodes_arms r

-- The stack that an expression needs. Argument number i needs i − 1 more than itself, so the next one as many more as stand before it.
unfoldable mutual
  pub need : Expr → ℕ
  need (Expr.number c) = 1
  need (Expr.text t) = 1
  need (Expr.key k) = need_key k
  need (Expr.call i j q f s z) = need_args s
  need (Expr.list q s) = need_list s
  need (Expr.round q e) = need e
  need (Expr.signed q s e) = need e
  need (Expr.binary q o l r) = cond (is_short o) (max (need l) (need r)) (max (need l) (1 + need r))

  pub need_key : Key → ℕ
  need_key (Key.name i j) = 1
  need_key (Key.index i j q e) = need e

  pub need_args : Args → ℕ
  need_args Args.nullary = 0
  need_args (Args.argument s e) = max (need_args s) (count_args s + need e)

  -- an empty list needs 1, another 1 more than its greediest item
  pub need_list : Seq → ℕ
  need_list Seq.empty = 1
  need_list (Seq.item s e) = max (need_list s) (1 + need e)
  need_list (Seq.steps s a b c) = max (need_list s) 2

-- an assignment needs the greater of right side and 1 more than its target's subscript
abbrev pub need_assign : Key → Expr → ℕ
need_assign (Key.name i j) e = need e
need_assign (Key.index i j q s) e = max (need e) (1 + need s)

-- The greatest need, with the l FOREACH and JOINEACH blocks around added to each; 0 if nothing needs any.
unfoldable mutual
  pub need_block : ℕ → Block → ℕ
  need_block l Block.nothing = 0
  need_block l (Block.then s b) = max (need_statement l s) (need_block l b)

  pub need_statement : ℕ → Statement → ℕ
  need_statement l (Statement.piece i j) = 0
  need_statement l (Statement.dollar p) = 0
  need_statement l (Statement.show q e) = need e + l
  need_statement l (Statement.assign q k e) = need_assign k e + l
  need_statement l (Statement.choice q j c b r) = max (need c + l) (max (need_block l b) (need_arms l r))
  need_statement l (Statement.while q j c b q' j') = max (need c + l) (need_block l b)
  need_statement l (Statement.foreach q j x y e b q' j') = max (need e + l) (need_block (l + 1) b)
  need_statement l (Statement.joineach q j x y e d b q' j') = max (need e + l) (need_block (l + 1) b)

  pub need_arms : ℕ → Arms → ℕ
  need_arms l (Arms.close q j) = 0
  need_arms l (Arms.otherwise q j b q' j') = need_block l b
  need_arms l (Arms.elif q j c b r) = max (need c + l) (max (need_block l b) (need_arms l r))
