-- The nodes of a block's items as they come are the block's nodes; how many nodes count, and how many there are at most. Assumes nothing.
use Rattle.std.proofs.Common.{◌≡◌, ℕ, suc, ◌+◌, ◌-◌, ◌*◌, ◌≤◌, max, Bool, false, List, [], ◌∷◌, ◌++◌, length, set, Some, None, Option, sym, refl, ap, ◌∙◌, append_assoc, append-nil, arith, length-append}
use Rattle.std.proofs.lemmas.List.{set_at}
use Rattle.std.proofs.lemmas.Bool.{cond_both}
use Rattle.functions.specs.declared.Signature.{Signature}
use Rattle.tokens.specs.declared.operator.Op.{Op}
use Rattle.tokens.specs.Operators.{is_short}
use Rattle.trees.specs.declared.Node.{Node}
use Rattle.trees.specs.declared.Node.TheVariants as node
use Rattle.trees.specs.Tree.{Key, Expr, Args, Seq, Opening, Item, Items, Block, Statement, Arms, written, written_statement, written_arms, from_to, count_args}
use Rattle.trees.specs.Flat.{rest, joint, closing, called, flatten, flatten_key, flatten_args, flatten_seq, flatten_target, assign_node, opening_expr, opening_node, framed, flatten_block, flatten_statement, flatten_arms}
use Rattle.trees.specs.Counts.{nodes, nodes_key, nodes_args, nodes_seq, nodes_target, nodes_block, nodes_statement, nodes_arms, need, need_block, need_statement, need_arms}
use Rattle.trees.specs.Laid.{weight, total, head_size, with_body, Mark, Laid, loops, closed, is_each, elif_node, laid_item, laid}
use Rattle.trees.specs.Laws.{TableFits, NodesCounted, LaidInOrder}

same_laid : {ns ns' : List Node} {ms : List Mark} {n n' : ℕ} → ns ≡ ns' → n ≡ n' → ◌≡◌ {A = Laid} (record { nodes = ns; marks = ms; need = n }) (record { nodes = ns'; marks = ms; need = n' })
same_laid {ms = ms} p q = λ i. record { nodes = p i; marks = ms; need = q i }

-- what is laid behind l, with the nodes ns and the need n
abbrev behind : Laid → List Node → ℕ → Laid
behind l ns n = record { nodes = l.nodes ++ ns; marks = l.marks; need = max l.need n }

-- a head x with its expression es, and the block bs behind it: the size of bs goes into x
closes_at : (ns : List Node) (x : Node) (es bs : List Node) (each : Bool) (ms : List Mark) → head_size x ≡ length es → closed ((ns ++ x ∷ es) ++ bs) (record { at = length ns; head = x; each = each } ∷ ms) ≡ ns ++ with_body x (length bs) ∷ (es ++ bs)
closes_at ns x es bs each ms h =
    let whole : length ((ns ++ x ∷ es) ++ bs) ≡ length ns + (1 + length es) + length bs = omega (arith, length-append (ns ++ x ∷ es) bs, length-append ns (x ∷ es)) in
    let size : length ((ns ++ x ∷ es) ++ bs) - length ns - 1 - head_size x ≡ length bs = omega arith in
    ap (λ xs. set xs (length ns) (with_body x (length ((ns ++ x ∷ es) ++ bs) - length ns - 1 - head_size x))) (append_assoc ns (x ∷ es) bs)
    ∙ set_at ns x (es ++ bs) (with_body x (length ((ns ++ x ∷ es) ++ bs) - length ns - 1 - head_size x)) (length ns) refl
    ∙ ap (λ k. ns ++ with_body x k ∷ (es ++ bs)) size

opening_with : (q : ℕ) (h : Opening) (m : ℕ) → with_body (opening_node q h 0) m ≡ opening_node q h m
opening_with q (Opening.if c) m = refl
opening_with q (Opening.while c) m = refl
opening_with q (Opening.foreach x y e) m = refl
opening_with q (Opening.joineach x y e d) m = refl

opening_head : (q : ℕ) (h : Opening) → head_size (opening_node q h 0) ≡ length (flatten (opening_expr h))
opening_head q (Opening.if c) = refl
opening_head q (Opening.while c) = refl
opening_head q (Opening.foreach x y e) = refl
opening_head q (Opening.joineach x y e d) = refl

-- a block that END closes
ends_at : (l : Laid) (q j q' j' : ℕ) (h : Opening) (bs : List Node) (n : ℕ) → laid_item (behind (laid_item l (Item.opens q j h)) bs n) (Item.end q' j') ≡ behind l (framed q h bs ++ node.End ∷ []) (max (need (opening_expr h) + loops l.marks) n)
ends_at l q j q' j' h bs n = same_laid
    (ap (λ xs. xs ++ node.End ∷ []) (closes_at l.nodes (opening_node q h 0) (flatten (opening_expr h)) bs (is_each h) l.marks (opening_head q h) ∙ ap (λ x. l.nodes ++ x ∷ (flatten (opening_expr h) ++ bs)) (opening_with q h (length bs)))
    ∙ append_assoc l.nodes (framed q h bs) (node.End ∷ []))
    (omega arith)

-- what is laid at an arm's end: the head x of the open arm with its expression es stands behind ns, and its block bs behind that
abbrev armed : List Node → Node → List Node → List Node → List Mark → ℕ → Laid
armed ns x es bs ms n = record { nodes = (ns ++ x ∷ es) ++ bs; marks = record { at = length ns; head = x; each = false } ∷ ms; need = n }

-- the next arm's place
next_at : (ns : List Node) (x : Node) (es bs : List Node) (y : Node) → length ((ns ++ x ∷ es) ++ bs) ≡ length (ns ++ y ∷ (es ++ bs))
next_at ns x es bs y = omega (arith, length-append (ns ++ x ∷ es) bs, length-append ns (x ∷ es), length-append ns (y ∷ (es ++ bs)), length-append es bs)

-- the nodes up to the end of an arm, with its size
abbrev whole_arm : List Node → Node → List Node → List Node → List Node
whole_arm ns x es bs = ns ++ with_body x (length bs) ∷ (es ++ bs)

-- what is laid behind an arm's head and expression
abbrev headed : List Node → Node → List Node → List Mark → ℕ → Laid
headed ns x es ms n = record { nodes = ns ++ x ∷ es; marks = record { at = length ns; head = x; each = false } ∷ ms; need = n }

next_arm : (ns : List Node) (x : Node) (es bs : List Node) (ms : List Mark) (n : ℕ) (y : Node) (fs : List Node) → head_size x ≡ length es → ◌≡◌ {A = Laid} (record { nodes = closed ((ns ++ x ∷ es) ++ bs) (record { at = length ns; head = x; each = false } ∷ ms) ++ y ∷ fs; marks = record { at = length ((ns ++ x ∷ es) ++ bs); head = y; each = false } ∷ ms; need = n }) (headed (whole_arm ns x es bs) y fs ms n)
next_arm ns x es bs ms n y fs h = λ i. record { nodes = closes_at ns x es bs false ms h i ++ y ∷ fs; marks = record { at = next_at ns x es bs (with_body x (length bs)) i; head = y; each = false } ∷ ms; need = n }

mutual
  unfolding laid flatten_block flatten_statement flatten_arms need_block need_statement need_arms

  laid_block : (b : Block) (ts : Items) → laid (written b ts) ≡ behind (laid ts) (flatten_block b) (need_block (loops (laid ts).marks) b)
  laid_block Block.nothing ts = same_laid (sym (append-nil (laid ts).nodes)) (omega arith)
  laid_block (Block.then s b) ts =
      laid_block b (written_statement s ts)
      ∙ ap (λ l. behind l (flatten_block b) (need_block (loops l.marks) b)) (laid_statement s ts)
      ∙ same_laid (append_assoc (laid ts).nodes (flatten_statement s) (flatten_block b)) (omega arith)

  laid_statement : (s : Statement) (ts : Items) → laid (written_statement s ts) ≡ behind (laid ts) (flatten_statement s) (need_statement (loops (laid ts).marks) s)
  laid_statement (Statement.piece i j) ts = same_laid refl (omega arith)
  laid_statement (Statement.dollar p) ts = same_laid refl (omega arith)
  laid_statement (Statement.show q e) ts = refl
  laid_statement (Statement.assign q k e) ts = same_laid (append_assoc (laid ts).nodes (assign_node q k (length (flatten_target k)) (length (flatten e)) ∷ flatten_target k) (flatten e)) refl
  laid_statement (Statement.choice q j c b r) ts =
      laid_arms r (written b (Items.then ts (Item.opens q j (Opening.if c)))) (laid ts).nodes (node.If q (length (flatten c)) 0) (flatten c) (flatten_block b) (laid ts).marks (max (max (laid ts).need (need c + loops (laid ts).marks)) (need_block (loops (laid ts).marks) b)) refl
      (laid_block b (Items.then ts (Item.opens q j (Opening.if c))))
      ∙ same_laid (append_assoc (laid ts).nodes (framed q (Opening.if c) (flatten_block b)) (flatten_arms r)) (omega arith)
  laid_statement (Statement.while q j c b q' j') ts =
      ap (λ l. laid_item l (Item.end q' j')) (laid_block b (Items.then ts (Item.opens q j (Opening.while c))))
      ∙ ends_at (laid ts) q j q' j' (Opening.while c) (flatten_block b) (need_block (loops (laid ts).marks) b)
  laid_statement (Statement.foreach q j x y e b q' j') ts =
      ap (λ l. laid_item l (Item.end q' j')) (laid_block b (Items.then ts (Item.opens q j (Opening.foreach x y e))))
      ∙ ends_at (laid ts) q j q' j' (Opening.foreach x y e) (flatten_block b) (need_block (suc (loops (laid ts).marks)) b)
      ∙ same_laid refl (ap (λ k. max (laid ts).need (max (need e + loops (laid ts).marks) (need_block k b))) (omega arith))
  laid_statement (Statement.joineach q j x y e d b q' j') ts =
      ap (λ l. laid_item l (Item.end q' j')) (laid_block b (Items.then ts (Item.opens q j (Opening.joineach x y e d))))
      ∙ ends_at (laid ts) q j q' j' (Opening.joineach x y e d) (flatten_block b) (need_block (suc (loops (laid ts).marks)) b)
      ∙ same_laid refl (ap (λ k. max (laid ts).need (max (need e + loops (laid ts).marks) (need_block k b))) (omega arith))

  laid_arms : (r : Arms) (ts : Items) (ns : List Node) (x : Node) (es bs : List Node) (ms : List Mark) (n : ℕ) → head_size x ≡ length es → laid ts ≡ armed ns x es bs ms n → laid (written_arms r ts) ≡ record { nodes = whole_arm ns x es bs ++ flatten_arms r; marks = ms; need = max n (need_arms (loops ms) r) }
  laid_arms (Arms.close q j) ts ns x es bs ms n h e =
      ap (λ l. laid_item l (Item.end q j)) e
      ∙ same_laid (ap (λ xs. xs ++ node.End ∷ []) (closes_at ns x es bs false ms h)) (omega arith)
  laid_arms (Arms.otherwise q j b q' j') ts ns x es bs ms n h e =
      ap (λ l. laid_item l (Item.end q' j'))
      (laid_block b (Items.then ts (Item.else q j)) ∙ ap (λ l. behind l (flatten_block b) (need_block (loops l.marks) b)) (ap (λ l. laid_item l (Item.else q j)) e ∙ next_arm ns x es bs ms n (node.Else 0) [] h))
      ∙ same_laid
      (ap (λ xs. xs ++ node.End ∷ []) (closes_at (whole_arm ns x es bs) (node.Else 0) [] (flatten_block b) false ms refl)
      ∙ append_assoc (whole_arm ns x es bs) (node.Else (length (flatten_block b)) ∷ flatten_block b) (node.End ∷ []))
      refl
  laid_arms (Arms.elif q j c b r) ts ns x es bs ms n h e =
      laid_arms r (written b (Items.then ts (Item.elif q j c))) (whole_arm ns x es bs) (elif_node q c 0) (flatten c) (flatten_block b) ms (max (max n (need c + loops ms)) (need_block (loops ms) b)) refl
      (laid_block b (Items.then ts (Item.elif q j c)) ∙ ap (λ l. behind l (flatten_block b) (need_block (loops l.marks) b)) (ap (λ l. laid_item l (Item.elif q j c)) e ∙ next_arm ns x es bs ms (max n (need c + loops ms)) (elif_node q c 0) (flatten c) h))
      ∙ same_laid (append_assoc (whole_arm ns x es bs) (node.Elif q (length (flatten c)) (length (flatten_block b)) ∷ (flatten c ++ flatten_block b)) (flatten_arms r)) (omega arith)

-- behind the items ts the items of a block lay the block's nodes
pub laid_written : (b : Block) (ts : Items) → laid (written b ts) ≡ record { nodes = (laid ts).nodes ++ flatten_block b; marks = (laid ts).marks; need = max (laid ts).need (need_block (loops (laid ts).marks) b) }
laid_written b ts = laid_block b ts

pub laid_whole : (b : Block) → laid (written b Items.none) ≡ record { nodes = flatten_block b; marks = []; need = need_block 0 b }
unfolding laid
laid_whole b = laid_block b Items.none ∙ same_laid refl (omega arith)

-- nodes that count
pub total-append : (ns ms : List Node) → total (ns ++ ms) ≡ total ns + total ms
total-append [] ms = omega arith
total-append (n ∷ ns) ms = omega (arith, total-append ns ms)

total_joint : (s : Seq) → total (joint s) ≡ 0
total_joint Seq.empty = refl
total_joint (Seq.item s e) = refl
total_joint (Seq.steps s a b c) = refl

weight_closing : (q : ℕ) (s : Seq) → weight (closing q s) ≡ 1
weight_closing q Seq.empty = refl
weight_closing q (Seq.item s e) = refl
weight_closing q (Seq.steps s a b c) = refl

weight_called : (i : ℕ) (f : Option Signature) (n : ℕ) → weight (called i f n) ≡ 1
weight_called i (Some f) n = refl
weight_called i None n = refl

weight_assign : (q : ℕ) (k : Key) (n m : ℕ) → weight (assign_node q k n m) ≡ 1
weight_assign q (Key.name i j) n m = refl
weight_assign q (Key.index i j p e) n m = refl

weight_opening : (q : ℕ) (h : Opening) (m : ℕ) → weight (opening_node q h m) ≡ 1
weight_opening q (Opening.if c) m = refl
weight_opening q (Opening.while c) m = refl
weight_opening q (Opening.foreach x y e) m = refl
weight_opening q (Opening.joineach x y e d) m = refl

total_rest : (q : ℕ) (o : Op) (r : List Node) → total (rest q o r) ≡ total r + 1
total_rest q o r = cond_both (is_short o) _ _ (λ (xs : List Node). total xs ≡ total r + 1) (λ e. omega (arith, total-append r (node.Judged q ∷ []))) (λ e. omega (arith, total-append r (node.Binary q o ∷ [])))

mutual
  unfolding flatten flatten_key flatten_args flatten_seq nodes nodes_key nodes_args nodes_seq

  pub total_expr : (e : Expr) → total (flatten e) ≡ nodes e
  total_expr (Expr.number c) = refl
  total_expr (Expr.text t) = refl
  total_expr (Expr.key k) = total_key k
  total_expr (Expr.call i j q f s z) = omega (arith, total-append (flatten_args s) (called i f (count_args s) ∷ []), total_args s, weight_called i f (count_args s))
  total_expr (Expr.list q s) = omega (arith, total-append (flatten_seq s) (closing q s ∷ []), total_seq s, weight_closing q s)
  total_expr (Expr.round q e) = total_expr e
  total_expr (Expr.signed q s e) = omega (arith, total-append (flatten e) (node.Signed q s ∷ []), total_expr e)
  total_expr (Expr.binary q o l r) = omega (arith, total-append (flatten l) (rest q o (flatten r)), total_rest q o (flatten r), total_expr l, total_expr r)

  total_key : (k : Key) → total (flatten_key k) ≡ nodes_key k
  total_key (Key.name i j) = refl
  total_key (Key.index i j q e) = omega (arith, total-append (flatten e) (node.Index (from_to i j) ∷ []), total_expr e)

  total_args : (s : Args) → total (flatten_args s) ≡ nodes_args s
  total_args Args.nullary = refl
  total_args (Args.argument s e) = omega (arith, total-append (flatten_args s) (flatten e), total_args s, total_expr e)

  total_seq : (s : Seq) → total (flatten_seq s) ≡ nodes_seq s
  total_seq Seq.empty = refl
  total_seq (Seq.item s e) = omega (arith, total-append (flatten_seq s ++ flatten e) (joint s), total-append (flatten_seq s) (flatten e), total_joint s, total_seq s, total_expr e)
  total_seq (Seq.steps s a b c) = omega (arith, total-append (flatten_seq s) (node.Sequence a.span.«from» a.value b.value c.value ∷ joint s), total_joint s, total_seq s)

total_target : (k : Key) → total (flatten_target k) ≡ nodes_target k
total_target (Key.name i j) = refl
total_target (Key.index i j q e) = total_expr e

total_framed : (q : ℕ) (h : Opening) (ns : List Node) → total (framed q h ns) ≡ 1 + nodes (opening_expr h) + total ns
total_framed q h ns = omega (arith, total-append (flatten (opening_expr h)) ns, total_expr (opening_expr h), weight_opening q h (length ns))

mutual
  unfolding flatten_block flatten_statement flatten_arms nodes_block nodes_statement nodes_arms

  pub total_nodes : (b : Block) → total (flatten_block b) ≡ nodes_block b
  total_nodes Block.nothing = refl
  total_nodes (Block.then s b) = omega (arith, total-append (flatten_statement s) (flatten_block b), total_statement s, total_nodes b)

  total_statement : (s : Statement) → total (flatten_statement s) ≡ nodes_statement s
  total_statement (Statement.piece i j) = refl
  total_statement (Statement.dollar p) = refl
  total_statement (Statement.show q e) = omega (arith, total_expr e)
  total_statement (Statement.assign q k e) = omega (arith, total-append (flatten_target k) (flatten e), total_target k, total_expr e, weight_assign q k (length (flatten_target k)) (length (flatten e)))
  total_statement (Statement.choice q j c b r) = omega (arith, total-append (framed q (Opening.if c) (flatten_block b)) (flatten_arms r), total_framed q (Opening.if c) (flatten_block b), total_nodes b, total_arms r)
  total_statement (Statement.while q j c b q' j') = omega (arith, total-append (framed q (Opening.while c) (flatten_block b)) (node.End ∷ []), total_framed q (Opening.while c) (flatten_block b), total_nodes b)
  total_statement (Statement.foreach q j x y e b q' j') = omega (arith, total-append (framed q (Opening.foreach x y e) (flatten_block b)) (node.End ∷ []), total_framed q (Opening.foreach x y e) (flatten_block b), total_nodes b)
  total_statement (Statement.joineach q j x y e d b q' j') = omega (arith, total-append (framed q (Opening.joineach x y e d) (flatten_block b)) (node.End ∷ []), total_framed q (Opening.joineach x y e d) (flatten_block b), total_nodes b)

  total_arms : (r : Arms) → total (flatten_arms r) ≡ nodes_arms r
  total_arms (Arms.close q j) = refl
  total_arms (Arms.otherwise q j b q' j') = omega (arith, total-append (flatten_block b) (node.End ∷ []), total_nodes b)
  total_arms (Arms.elif q j c b r) = omega (arith, total-append (flatten c ++ flatten_block b) (flatten_arms r), total-append (flatten c) (flatten_block b), total_expr c, total_nodes b, total_arms r)

-- how many nodes there are, the silent ones too
length_joint : (s : Seq) → length (joint s) ≤ 1
length_joint Seq.empty = omega arith
length_joint (Seq.item s e) = omega arith
length_joint (Seq.steps s a b c) = omega arith

length_rest : (q : ℕ) (o : Op) (r : List Node) → length (rest q o r) ≤ length r + 2
length_rest q o r = cond_both (is_short o) _ _ (λ (xs : List Node). length xs ≤ length r + 2) (λ e. omega (arith, length-append r (node.Judged q ∷ []))) (λ e. omega (arith, length-append r (node.Binary q o ∷ [])))

mutual
  unfolding flatten flatten_key flatten_args flatten_seq nodes nodes_key nodes_args nodes_seq

  pub fits_expr : (e : Expr) → length (flatten e) + 1 ≤ 2 * nodes e
  fits_expr (Expr.number c) = omega arith
  fits_expr (Expr.text t) = omega arith
  fits_expr (Expr.key k) = fits_key k
  fits_expr (Expr.call i j q f s z) = omega (arith, length-append (flatten_args s) (called i f (count_args s) ∷ []), fits_args s)
  fits_expr (Expr.list q s) = omega (arith, length-append (flatten_seq s) (closing q s ∷ []), fits_seq s)
  fits_expr (Expr.round q e) = fits_expr e
  fits_expr (Expr.signed q s e) = omega (arith, length-append (flatten e) (node.Signed q s ∷ []), fits_expr e)
  fits_expr (Expr.binary q o l r) = omega (arith, length-append (flatten l) (rest q o (flatten r)), length_rest q o (flatten r), fits_expr l, fits_expr r)

  fits_key : (k : Key) → length (flatten_key k) + 1 ≤ 2 * nodes_key k
  fits_key (Key.name i j) = omega arith
  fits_key (Key.index i j q e) = omega (arith, length-append (flatten e) (node.Index (from_to i j) ∷ []), fits_expr e)

  fits_args : (s : Args) → length (flatten_args s) ≤ 2 * nodes_args s
  fits_args Args.nullary = omega arith
  fits_args (Args.argument s e) = omega (arith, length-append (flatten_args s) (flatten e), fits_args s, fits_expr e)

  fits_seq : (s : Seq) → length (flatten_seq s) ≤ 2 * nodes_seq s
  fits_seq Seq.empty = omega arith
  fits_seq (Seq.item s e) = omega (arith, length-append (flatten_seq s ++ flatten e) (joint s), length-append (flatten_seq s) (flatten e), length_joint s, fits_seq s, fits_expr e)
  fits_seq (Seq.steps s a b c) = omega (arith, length-append (flatten_seq s) (node.Sequence a.span.«from» a.value b.value c.value ∷ joint s), length_joint s, fits_seq s)

fits_target : (k : Key) → length (flatten_target k) ≤ 2 * nodes_target k
fits_target (Key.name i j) = omega arith
fits_target (Key.index i j q e) = omega (arith, fits_expr e)

fits_framed : (q : ℕ) (h : Opening) (ns : List Node) → length (framed q h ns) ≤ 2 * nodes (opening_expr h) + length ns
fits_framed q h ns = omega (arith, length-append (flatten (opening_expr h)) ns, fits_expr (opening_expr h))

mutual
  unfolding flatten_block flatten_statement flatten_arms nodes_block nodes_statement nodes_arms

  pub fits : (b : Block) → length (flatten_block b) ≤ 2 * nodes_block b
  fits Block.nothing = omega arith
  fits (Block.then s b) = omega (arith, length-append (flatten_statement s) (flatten_block b), fits_statement s, fits b)

  fits_statement : (s : Statement) → length (flatten_statement s) ≤ 2 * nodes_statement s
  fits_statement (Statement.piece i j) = omega arith
  fits_statement (Statement.dollar p) = omega arith
  fits_statement (Statement.show q e) = omega (arith, fits_expr e)
  fits_statement (Statement.assign q k e) = omega (arith, length-append (flatten_target k) (flatten e), fits_target k, fits_expr e)
  fits_statement (Statement.choice q j c b r) = omega (arith, length-append (framed q (Opening.if c) (flatten_block b)) (flatten_arms r), fits_framed q (Opening.if c) (flatten_block b), fits b, fits_arms r)
  fits_statement (Statement.while q j c b q' j') = omega (arith, length-append (framed q (Opening.while c) (flatten_block b)) (node.End ∷ []), fits_framed q (Opening.while c) (flatten_block b), fits b)
  fits_statement (Statement.foreach q j x y e b q' j') = omega (arith, length-append (framed q (Opening.foreach x y e) (flatten_block b)) (node.End ∷ []), fits_framed q (Opening.foreach x y e) (flatten_block b), fits b)
  fits_statement (Statement.joineach q j x y e d b q' j') = omega (arith, length-append (framed q (Opening.joineach x y e d) (flatten_block b)) (node.End ∷ []), fits_framed q (Opening.joineach x y e d) (flatten_block b), fits b)

  fits_arms : (r : Arms) → length (flatten_arms r) ≤ 2 * nodes_arms r
  fits_arms (Arms.close q j) = omega arith
  fits_arms (Arms.otherwise q j b q' j') = omega (arith, length-append (flatten_block b) (node.End ∷ []), fits b)
  fits_arms (Arms.elif q j c b r) = omega (arith, length-append (flatten c ++ flatten_block b) (flatten_arms r), length-append (flatten c) (flatten_block b), fits_expr c, fits b, fits_arms r)

pub table_fits : TableFits
table_fits = fits

pub nodes_counted : NodesCounted
nodes_counted = total_nodes

pub laid_in_order : LaidInOrder
laid_in_order = laid_whole
