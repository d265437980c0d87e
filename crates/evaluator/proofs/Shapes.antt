-- What is left of a block, by its first node: which instruction that begins, the parts of its nodes, and what it means. Assumes nothing.
use Rattle.std.proofs.Common.{◌≡◌, ℕ, List, ◌++◌, length, take, drop, sym, ap, ◌∙◌, subst, ◌+◌, ◌≤◌, max, Bool, true, false, cond, [], ◌∷◌, refl, append_assoc, arith, ⊎_elim, inl, inr, None}
use Rattle.std.proofs.lemmas.List.{take_at, drop_at, length-append}
use Rattle.std.proofs.lemmas.Bool.{true≢false}
use Rattle.effects.proofs.Programs.{bind_assoc}
use Rattle.effects.specs.Effects.{return, ◌>>=◌, Print, visit}
use Rattle.evaluator.specs.Blocks.{Left, rest, arms_then, left_nodes, left_print, Leaves, Tests, Loops, name_of, Assigns, has_block}
use Rattle.evaluator.specs.Runs.{slots, Still, Fits}
use Rattle.evaluator.specs.declared.run.Run.{Run}
use Rattle.evaluator.proofs.Kept.{leaves_kept, lawful_kept, fits_kept}
use Rattle.keys.specs.KeyOrder.{KeyName}
use Rattle.meaning.proofs.Lawfulness.{parted}
use Rattle.meaning.specs.Constants.{part_of, quoted}
use Rattle.meaning.specs.Lawful.{AllLawful, Named, Quoted, Lawful}
use Rattle.meaning.specs.Meaning.{test, block, statement, arms, Value, expression, repeat, most_tests, rounds}
use Rattle.trees.specs.Counts.{need, need_block, need_statement, need_arms}
use Rattle.trees.specs.Flat.{flatten, flatten_block, flatten_statement, flatten_arms, assign_node, flatten_target}
use Rattle.trees.specs.Laid.{place_of}
use Rattle.trees.specs.Tree.{Key, Expr, Block, Statement, Arms, from_to}
use Rattle.trees.specs.declared.Node.TheVariants as node
use Rattle.trees.specs.declared.Node.{Node}
use Rattle.trees.specs.declared.Span.{Span}

-- ---- nodes in two parts, the first of a given length

record Split (text : List ℕ) (n : ℕ) (ns xs ys : List Node) : Type 0 where
  pub front : take n ns ≡ xs
  pub behind : drop n ns ≡ ys
  pub lawful : AllLawful text (take n ns)
  pub others : AllLawful text (drop n ns)

split : (text : List ℕ) (n : ℕ) (ns xs ys : List Node) → n ≡ length xs → ns ≡ xs ++ ys → AllLawful text ns → Split text n ns xs ys
split text n ns xs ys size e h =
    let front = ap (take n) e ∙ take_at xs ys n (sym size) in
    let behind = ap (drop n) e ∙ drop_at xs ys n (sym size) in
    let both = parted text xs ys (subst (AllLawful text) e h) in
    record { front = front; behind = behind; lawful = subst (AllLawful text) (sym front) both.0; others = subst (AllLawful text) (sym behind) both.1 }

-- ---- which node comes first

-- the node of an assignment
assign_is : (q : ℕ) (k : Key) (h l : ℕ) → assign_node q k h l ≡ node.Assign q (name_of k) h l
assign_is q (Key.name i j) h l = refl
assign_is q (Key.index i j p e) h l = refl

-- an IF or a loop
opens : Node → Bool
opens (node.If q c m) = true
opens (node.While q c m) = true
opens (node.Foreach q s l m) = true
opens (node.Joineach q s l d m) = true
opens n = false

-- what is left of an IF begins with none of these
arms_begin : (n : Node) (more ns : List Node) (a : Arms) → n ∷ more ≡ flatten_arms a ++ ns → opens n ≡ false
unfolding flatten_arms opens
arms_begin n more ns (Arms.close q j) h = let e : n ≡ node.End = cc in ap opens e
arms_begin n more ns (Arms.otherwise q j b q' j') h = let e : n ≡ node.Else (length (flatten_block b)) = cc in ap opens e
arms_begin n more ns (Arms.elif q j c b a) h = let e : n ≡ node.Elif q (length (flatten c)) (length (flatten_block b)) = cc in ap opens e

-- where no node is left, nothing is
pub nothing_left : (text : List ℕ) (x : Left) (ns : List Node) → length ns ≡ 0 → ns ≡ left_nodes x → left_print text x ≡ return tt
unfolding flatten_block flatten_statement flatten_arms block
nothing_left text (rest Block.nothing) ns none e = refl
nothing_left text (rest (Block.then (Statement.assign q k t) next)) ns none e = absurd (omega (arith, ap length e, ap length (ap (λ n. n ∷ []) (assign_is q k 0 0))))
nothing_left text (rest (Block.then s next)) ns none e = absurd (omega (arith, ap length e))
nothing_left text (arms_then (Arms.close q j) next) ns none e = absurd (omega (arith, ap length e))
nothing_left text (arms_then (Arms.otherwise q j b q' j') next) ns none e = absurd (omega (arith, ap length e))
nothing_left text (arms_then (Arms.elif q j c b r) next) ns none e = absurd (omega (arith, ap length e))

-- ---- an instruction without a block

-- the nodes n and ns, of what is left, x: the instruction that n begins, its other nodes, and what is left after them
abbrev pub Simple : Run → Node → List Node → Left → Type 0
Simple r (node.Piece s) ns x = (i j : ℕ) × (b : Block) × (x ≡ rest (Block.then (Statement.piece i j) b)) × (s ≡ from_to i j) × Leaves r ns (rest b)
Simple r (node.Dollar q) ns x = (b : Block) × (x ≡ rest (Block.then (Statement.dollar q) b)) × Leaves r ns (rest b)
Simple r (node.Show q k) ns x = (e : Expr) × (b : Block) × (x ≡ rest (Block.then (Statement.show q e) b)) × Fits r (take k ns) e × Leaves r (drop k ns) (rest b)
Simple r (node.Assign q s h l) ns x = (k : Key) × (e : Expr) × (b : Block) × (x ≡ rest (Block.then (Statement.assign q k e) b)) × Assigns r s (take h ns) (take l (drop h ns)) k e × Leaves r (drop l (drop h ns)) (rest b)
Simple r n ns x = (q j : ℕ) × (b : Block) × (x ≡ arms_then (Arms.close q j) b) × Leaves r ns (rest b)

-- a node that has a block is none of these
has_none : {A : Type 0} (n m : Node) → n ≡ m → has_block n ≡ false → has_block m ≡ true → A
has_none n m e f t = absurd (true≢false (sym t ∙ sym (ap has_block e) ∙ f))

pub simple : (r : Run) (n : Node) (ns : List Node) (x : Left) → has_block n ≡ false → Leaves r (n ∷ ns) x → Simple r n ns x
unfolding flatten_block flatten_statement flatten_arms need_block need_statement need_arms
simple r n ns (rest Block.nothing) f h = let e = h.nodes in absurd (cc)
simple r n ns (rest (Block.then (Statement.piece i j) b)) f h =
    let e = h.nodes in
    let room = h.room in
    let head : n ≡ node.Piece (from_to i j) = cc in
    subst (λ n. Simple r n ns (rest (Block.then (Statement.piece i j) b))) (sym head) (i, j, b, refl, refl, record { nodes = cc; lawful = h.lawful.1; room = omega arith })
simple r n ns (rest (Block.then (Statement.dollar q) b)) f h =
    let e = h.nodes in
    let room = h.room in
    let head : n ≡ node.Dollar q = cc in
    subst (λ n. Simple r n ns (rest (Block.then (Statement.dollar q) b))) (sym head) (b, refl, record { nodes = cc; lawful = h.lawful.1; room = omega arith })
simple r n ns (rest (Block.then (Statement.show q e) b)) f h =
    let e' = h.nodes in
    let room = h.room in
    let parts = split r.text.now (length (flatten e)) ns (flatten e) (flatten_block b) refl (cc) h.lawful.1 in
    let head : n ≡ node.Show q (length (flatten e)) = cc in
    subst (λ n. Simple r n ns (rest (Block.then (Statement.show q e) b))) (sym head) (e, b, refl, record { nodes = parts.front; lawful = parts.lawful; room = omega arith }, record { nodes = parts.behind; lawful = parts.others; room = omega arith })
simple r n ns (rest (Block.then (Statement.assign q k e) b)) f h =
    let e' = h.nodes in
    let room = h.room in
    let t = flatten_target k in
    let all : ns ≡ (t ++ flatten e) ++ flatten_block b = cc in
    let head : n ≡ node.Assign q (name_of k) (length t) (length (flatten e)) = (let z : n ≡ assign_node q k (length t) (length (flatten e)) = cc in z ∙ assign_is q k (length t) (length (flatten e))) in
    let one = split r.text.now (length t) ns t (flatten e ++ flatten_block b) refl (all ∙ append_assoc t (flatten e) (flatten_block b)) h.lawful.1 in
    let two = split r.text.now (length (flatten e)) (drop (length t) ns) (flatten e) (flatten_block b) refl one.behind one.others in
    let fits : Assigns r (name_of k) (take (length t) ns) (take (length (flatten e)) (drop (length t) ns)) k e =
    record { named = subst (Lawful r.text.now) head h.lawful.0; name = refl; subscript = one.front; right = two.front; lawful = (one.lawful, two.lawful); room = omega arith } in
    subst (λ n. Simple r n ns (rest (Block.then (Statement.assign q k e) b))) (sym head) (k, e, b, refl, fits, record { nodes = two.behind; lawful = two.others; room = omega arith })
simple r n ns (rest (Block.then (Statement.choice q j c b₁ a) b)) f h = let e = h.nodes in has_none n (node.If q (length (flatten c)) (length (flatten_block b₁))) (cc) f refl
simple r n ns (rest (Block.then (Statement.while q j c b₁ q' j') b)) f h = let e = h.nodes in has_none n (node.While q (length (flatten c)) (length (flatten_block b₁))) (cc) f refl
simple r n ns (rest (Block.then (Statement.foreach q j x y c b₁ q' j') b)) f h = let e = h.nodes in has_none n (node.Foreach q (from_to x y) (length (flatten c)) (length (flatten_block b₁))) (cc) f refl
simple r n ns (rest (Block.then (Statement.joineach q j x y c d b₁ q' j') b)) f h = let e = h.nodes in has_none n (node.Joineach q (from_to x y) (length (flatten c)) d.span (length (flatten_block b₁))) (cc) f refl
simple r n ns (arms_then (Arms.close q j) b) f h =
    let e = h.nodes in
    let room = h.room in
    let head : n ≡ node.End = cc in
    subst (λ n. Simple r n ns (arms_then (Arms.close q j) b)) (sym head) (q, j, b, refl, record { nodes = cc; lawful = h.lawful.1; room = omega arith })
simple r n ns (arms_then (Arms.otherwise q j b₁ q' j') b) f h = let e = h.nodes in has_none n (node.Else (length (flatten_block b₁))) (cc) f refl
simple r n ns (arms_then (Arms.elif q j c b₁ a) b) f h = let e = h.nodes in has_none n (node.Elif q (length (flatten c)) (length (flatten_block b₁))) (cc) f refl

-- ---- an IF or ELIF

-- behind its node stand cs, the nodes of its condition c, bs, those of its block b, and left, the arms that follow and the block that is
-- left
pub record Chosen (r : Run) (cs bs left : List Node) (p : ℕ) (x : Left) : Type 0 where
  pub c : Expr
  pub b : Block
  pub others : Arms
  pub next : Block
  pub condition : Fits r cs c
  pub body : Leaves r bs (rest b)
  pub behind : Leaves r left (arms_then others next)
  pub means : (text : List ℕ) → left_print text x ≡ (test text p c >>= λ yes. cond yes (block text b) (arms text others) >>= λ u. block text next)

chosen_so : (r : Run) (more : List Node) (p h k : ℕ) (x : Left) (c : Expr) (b : Block) (others : Arms) (next : Block)
    → h ≡ length (flatten c) → k ≡ length (flatten_block b) → more ≡ ((flatten c ++ flatten_block b) ++ flatten_arms others) ++ flatten_block next
    → AllLawful r.text.now more
    → max (max (need c + length (slots r)) (max (need_block (length (slots r)) b) (need_arms (length (slots r)) others))) (need_block (length (slots r)) next) ≤ r.values.capacity
    → ((text : List ℕ) → left_print text x ≡ (test text p c >>= λ yes. cond yes (block text b) (arms text others) >>= λ u. block text next))
    → Chosen r (take h more) (take k (drop h more)) (drop k (drop h more)) p x
chosen_so r more p h k x c b others next e f is lawful room m =
    let cs = flatten c in
    let bs = flatten_block b in
    let os = flatten_arms others in
    let ns = flatten_block next in
    let one = split r.text.now h more cs (bs ++ (os ++ ns)) e (is ∙ append_assoc (cs ++ bs) os ns ∙ append_assoc cs bs (os ++ ns)) lawful in
    let two = split r.text.now k (drop h more) bs (os ++ ns) f one.behind one.others in
    record {
      c = c;
      b = b;
      others = others;
      next = next;
      condition = record { nodes = one.front; lawful = one.lawful; room = omega arith };
      body = record { nodes = two.front; lawful = two.lawful; room = omega arith };
      behind = record { nodes = two.behind; lawful = two.others; room = omega arith };
      means = m;
    }

-- what an IF or ELIF and the block behind it mean
choice_means : (text : List ℕ) (p : ℕ) (c : Expr) (b : Block) (others : Arms) (next : Block)
    → (test text p c >>= λ yes. cond yes (block text b) (arms text others)) >>= (λ u. block text next) ≡ (test text p c >>= λ yes. cond yes (block text b) (arms text others) >>= λ u. block text next)
choice_means text p c b others next = bind_assoc (test text p c) (λ yes. cond yes (block text b) (arms text others)) (λ u. block text next)

chosen_if : (r : Run) (more : List Node) (p h k : ℕ) (x : Left) → Leaves r (node.If p h k ∷ more) x → Chosen r (take h more) (take k (drop h more)) (drop k (drop h more)) p x
unfolding flatten_block flatten_statement flatten_arms need_block need_statement block statement opens
chosen_if r more p h k (rest (Block.then (Statement.choice q j c b others) next)) l =
    let e = l.nodes in
    let place : p ≡ q = cc in
    chosen_so r more p h k _ c b others next (cc) (cc) (cc) l.lawful.1 l.room (λ text. ap (λ n. (test text n c >>= λ yes. cond yes (block text b) (arms text others)) >>= (λ u. block text next)) (sym place) ∙ choice_means text p c b others next)
chosen_if r more p h k (rest (Block.then (Statement.assign q k' e) next)) l = let w = l.nodes in let a = assign_is q k' (length (flatten_target k')) (length (flatten e)) in absurd (cc)
chosen_if r more p h k (arms_then a next) l = let w : true ≡ false = arms_begin (node.If p h k) more _ a l.nodes in absurd (cc)
chosen_if r more p h k x l = let e = l.nodes in absurd (cc)

chosen_elif : (r : Run) (more : List Node) (p h k : ℕ) (x : Left) → Leaves r (node.Elif p h k ∷ more) x → Chosen r (take h more) (take k (drop h more)) (drop k (drop h more)) p x
unfolding flatten_block flatten_statement flatten_arms need_block need_arms block arms
chosen_elif r more p h k (arms_then (Arms.elif q j c b others) next) l =
    let e = l.nodes in
    let place : p ≡ q = cc in
    chosen_so r more p h k _ c b others next (cc) (cc) (cc) l.lawful.1 l.room (λ text. ap (λ n. (test text n c >>= λ yes. cond yes (block text b) (arms text others)) >>= (λ u. block text next)) (sym place) ∙ choice_means text p c b others next)
chosen_elif r more p h k (rest (Block.then (Statement.assign q k' e) next)) l = let w = l.nodes in let a = assign_is q k' (length (flatten_target k')) (length (flatten e)) in absurd (cc)
chosen_elif r more p h k x l = let e = l.nodes in absurd (cc)

pub chosen : (r : Run) (n : Node) (more : List Node) (p h k : ℕ) (x : Left) {cs block bs left : List Node} → Tests n p h k → Leaves r (n ∷ more) x → cs ≡ take h more → block ≡ drop h more → bs ≡ take k block → left ≡ drop k block
    → Chosen r cs bs left p x
chosen r n more p h k x {cs} {block} {bs} {left} t l head behind body end =
    let w : Chosen r (take h more) (take k (drop h more)) (drop k (drop h more)) p x =
    ⊎_elim (λ e. chosen_if r more p h k x (subst (λ m. Leaves r (m ∷ more) x) e l)) (λ e. chosen_elif r more p h k x (subst (λ m. Leaves r (m ∷ more) x) e l)) t in
    record {
      c = w.c;
      b = w.b;
      others = w.others;
      next = w.next;
      condition = subst (λ ns. Fits r ns w.c) (sym head) w.condition;
      body = subst (λ ns. Leaves r ns (rest w.b)) (sym (body ∙ ap (take k) behind)) w.body;
      behind = subst (λ ns. Leaves r ns (arms_then w.others w.next)) (sym (end ∙ ap (drop k) behind)) w.behind;
      means = w.means;
    }

-- where no arm is left, the block is
pub after_arms : (r : Run) (ns left : List Node) (others : Arms) (next : Block) → Leaves r ns (arms_then others next) → left ≡ flatten_block next → Leaves r left (rest next)
after_arms r ns left others next l is = record {
  nodes = is;
  lawful = subst (AllLawful r.text.now) (sym is) (parted r.text.now (flatten_arms others) (flatten_block next) (subst (AllLawful r.text.now) l.nodes l.lawful)).1;
  room = let room = l.room in omega arith;
}

-- ---- the arms behind that of an IF

-- behind a node that opens no arm stands what follows the IF
pub past_end : (r : Arms) (ns more : List Node) (n : Node) → n ∷ more ≡ flatten_arms r ++ ns → ((p h k : ℕ) → n ≡ node.Elif p h k → ⊥) → ((k : ℕ) → n ≡ node.Else k → ⊥) → more ≡ ns
unfolding flatten_arms
past_end (Arms.close q j) ns more n e not_elif not_else = cc
past_end (Arms.otherwise q j b q' j') ns more n e not_elif not_else = absurd (not_else (length (flatten_block b)) cc)
past_end (Arms.elif q j c b r) ns more n e not_elif not_else = absurd (not_elif q (length (flatten c)) (length (flatten_block b)) cc)

-- behind an arm stand the arms that follow it
abbrev pub ArmsBehind : List Node → List Node → Type 0
ArmsBehind left ns = (r : Arms) × (left ≡ flatten_arms r ++ ns)

pub past_elif : (r : Arms) (ns more left : List Node) (n : Node) (p h k size : ℕ) → n ∷ more ≡ flatten_arms r ++ ns → n ≡ node.Elif p h k → size ≡ h + k → left ≡ drop size more → ArmsBehind left ns
unfolding flatten_arms
past_elif (Arms.close q j) ns more left n p h k size e is sum behind = absurd (cc)
past_elif (Arms.otherwise q j b q' j') ns more left n p h k size e is sum behind = absurd (cc)
past_elif (Arms.elif q j c b r) ns more left n p h k size e is sum behind =
    let same : n ≡ node.Elif q (length (flatten c)) (length (flatten_block b)) = cc in
    let first : h ≡ length (flatten c) = cc in
    let second : k ≡ length (flatten_block b) = cc in
    let all : more ≡ ((flatten c ++ flatten_block b) ++ flatten_arms r) ++ ns = cc in
    (r, behind ∙ ap (drop size) (all ∙ append_assoc (flatten c ++ flatten_block b) (flatten_arms r) ns) ∙ drop_at (flatten c ++ flatten_block b) (flatten_arms r ++ ns) size (omega (arith, length-append (flatten c) (flatten_block b))))

pub past_else : (r : Arms) (ns more left : List Node) (n : Node) (k size : ℕ) → n ∷ more ≡ flatten_arms r ++ ns → n ≡ node.Else k → size ≡ k → left ≡ drop size more → ArmsBehind left ns
unfolding flatten_arms
past_else (Arms.close q j) ns more left n k size e is same behind = absurd (cc)
past_else (Arms.otherwise q j b q' j') ns more left n k size e is same behind =
    let kind : n ≡ node.Else (length (flatten_block b)) = cc in
    let sizes : k ≡ length (flatten_block b) = cc in
    let all : more ≡ (flatten_block b ++ node.End ∷ []) ++ ns = cc in
    (Arms.close q' j', behind ∙ ap (drop size) (all ∙ append_assoc (flatten_block b) (node.End ∷ []) ns) ∙ drop_at (flatten_block b) (node.End ∷ ns) size (omega arith))
past_else (Arms.elif q j c b r) ns more left n k size e is same behind = absurd (cc)

-- ---- an ELSE

-- behind its node stand bs, the nodes of its block b, and left, END and the block that is left
pub record Reached (r : Run) (bs left : List Node) (x : Left) : Type 0 where
  pub b : Block
  pub end : Arms
  pub next : Block
  pub body : Leaves r bs (rest b)
  pub behind : Leaves r left (arms_then end next)
  pub means : (text : List ℕ) → left_print text x ≡ (block text b >>= λ u. left_print text (arms_then end next))

reached_so : (r : Run) (more : List Node) (k : ℕ) (x : Left) → Leaves r (node.Else k ∷ more) x → Reached r (take k more) (drop k more) x
unfolding flatten_block flatten_statement flatten_arms need_block need_arms block arms
reached_so r more k (arms_then (Arms.otherwise q j b q' j') next) l =
    let e = l.nodes in
    let room = l.room in
    let bs = flatten_block b in
    let ns = flatten_block next in
    let is : more ≡ (bs ++ node.End ∷ []) ++ ns = cc in
    let parts = split r.text.now k more bs (node.End ∷ ns) (cc) (is ∙ append_assoc bs (node.End ∷ []) ns) l.lawful.1 in
    record {
      b = b;
      end = Arms.close q' j';
      next = next;
      body = record { nodes = parts.front; lawful = parts.lawful; room = omega arith };
      behind = record { nodes = parts.behind; lawful = parts.others; room = omega arith };
      means = λ text. refl;
    }
reached_so r more k (rest (Block.then (Statement.assign q k' e) next)) l = let w = l.nodes in let a = assign_is q k' (length (flatten_target k')) (length (flatten e)) in absurd (cc)
reached_so r more k x l = let e = l.nodes in absurd (cc)

pub reached : (r : Run) (more : List Node) (k : ℕ) (x : Left) {bs left : List Node} → Leaves r (node.Else k ∷ more) x → bs ≡ take k more → left ≡ drop k more → Reached r bs left x
reached r more k x {bs} {left} l body behind =
    let w = reached_so r more k x l in
    subst (λ ns. Reached r bs ns x) (sym behind) (subst (λ ns. Reached r ns (drop k more) x) (sym body) w)

-- ---- what is left of a loop

-- up to n tests of a WHILE, and then the block that is left
abbrev pub testing : ℕ → List ℕ → ℕ → Expr → Block → Block → Print
testing n text q e b next = repeat n q (test text q e) (block text b) >>= λ u. block text next

-- the rounds over some elements, and then the block that is left
abbrev pub rounding : Bool → List ℕ → ℕ → KeyName → List ℕ → Block → Block → Value → Print
rounding first text q k d b next v = rounds first q k d (block text b) v >>= λ u. block text next

-- a FOREACH or JOINEACH, and then the block that is left
abbrev pub listing : List ℕ → ℕ → KeyName → List ℕ → Expr → Block → Block → Print
listing text q k d e b next = visit q (expression text e) >>= λ v. rounding true text q k d b next v

-- ---- the nodes behind a loop's own

-- behind a loop's node stand h nodes of its expression e, k of its block b, END, and then the block that is left; n values more wait
-- while the loop's block runs
pub record Opened (r : Run) (more : List Node) (h k n : ℕ) (e : Expr) (b next : Block) : Type 0 where
  pub head : Fits r (take h more) e
  pub body : take k (drop h more) ≡ flatten_block b
  pub body_lawful : AllLawful r.text.now (take k (drop h more))
  pub body_room : need_block (length (slots r) + n) b ≤ r.values.capacity
  pub behind : Leaves r (drop k (drop h more)) (arms_then (Arms.close 0 0) next)

opened : (r : Run) (more : List Node) (h k n : ℕ) (e : Expr) (b next : Block) → more ≡ ((flatten e ++ flatten_block b) ++ node.End ∷ []) ++ flatten_block next → h ≡ length (flatten e) → k ≡ length (flatten_block b) → AllLawful r.text.now more
    → length (slots r) + need e ≤ r.values.capacity → (w : ℕ) → w ≡ length (slots r) + n → need_block w b ≤ r.values.capacity → need_block (length (slots r)) next ≤ r.values.capacity → Opened r more h k n e b next
unfolding flatten_arms need_arms
opened r more h k n e b next is hs ks lawful room w within body_room next_room =
    let bs = flatten_block b in
    let ns = node.End ∷ flatten_block next in
    let one = split r.text.now h more (flatten e) (bs ++ ns) hs (is ∙ append_assoc (flatten e ++ bs) _ _ ∙ append_assoc (flatten e) bs _) lawful in
    let two = split r.text.now k (drop h more) bs ns ks one.behind one.others in
    record {
      head = record { nodes = one.front; lawful = one.lawful; room = room };
      body = two.front;
      body_lawful = two.lawful;
      body_room = subst (λ w. need_block w b ≤ r.values.capacity) within body_room;
      behind = record { nodes = two.behind; lawful = two.others; room = omega arith };
    }

-- ---- which loop it is

-- What is left, x, begins with a loop, which with the block that is left means m; behind its node stand h nodes of its expression, k of its block.
pub record Opens (r : Run) (more : List Node) (h k n : ℕ) (x : Left) (m : Expr → Block → Block → Print) : Type 0 where
  pub e : Expr
  pub b : Block
  pub next : Block
  pub opened : Opened r more h k n e b next
  pub means : left_print r.text.now x ≡ m e b next

pub while_shape : (r : Run) (q c m : ℕ) (more : List Node) (x : Left) → Leaves r (node.While q c m ∷ more) x → Opens r more c m 0 x (testing most_tests r.text.now q)
unfolding flatten_block flatten_statement flatten_arms block statement need_block need_statement opens
while_shape r q c m more (rest (Block.then (Statement.while q' j e b i j') next)) h =
    let w = h.nodes in
    let room = h.room in
    let place : q ≡ q' = cc in
    record {
      e = e;
      b = b;
      next = next;
      opened = opened r more c m 0 e b next (cc) (cc) (cc) h.lawful.1 (omega arith) (length (slots r)) (omega arith) (omega arith) (omega arith);
      means = ap (λ q. testing most_tests r.text.now q e b next) (sym place);
    }
while_shape r q c m more (rest (Block.then (Statement.assign q' k e) next)) h = let w = h.nodes in let a = assign_is q' k (length (flatten_target k)) (length (flatten e)) in absurd (cc)
while_shape r q c m more (arms_then a next) h = let w : true ≡ false = arms_begin (node.While q c m) more _ a h.nodes in absurd (cc)
while_shape r q c m more x h = let w = h.nodes in absurd (cc)

-- a loop at q over the elements of a list
listed : {r : Run} {more : List Node} {l m : ℕ} {x : Left} (q : ℕ) (k : KeyName) (d : List ℕ) (e : Expr) (b next : Block) → Opened r more l m 1 e b next
    → left_print r.text.now x ≡ visit q (expression r.text.now e) >>= (λ v. rounds true q k d (block r.text.now b) v) >>= (λ u. block r.text.now next) → Opens r more l m 1 x (listing r.text.now q k d)
listed {r} q k d e b next o is = record { e = e; b = b; next = next; opened = o; means = is ∙ bind_assoc (visit q (expression r.text.now e)) (λ v. rounds true q k d (block r.text.now b) v) (λ u. block r.text.now next) }

foreach_shape : (r : Run) (q l m : ℕ) (s : Span ℕ) (more : List Node) (x : Left) → Leaves r (node.Foreach q s l m ∷ more) x → Opens r more l m 1 x (listing r.text.now q (part_of r.text.now s, None) [])
unfolding flatten_block flatten_statement flatten_arms block statement need_block need_statement opens
foreach_shape r q l m s more (rest (Block.then (Statement.foreach q' j i k e b i' j') next)) h =
    let w = h.nodes in
    let room = h.room in
    let text = r.text.now in
    let place : q' ≡ q = cc in
    let name : from_to i k ≡ s = cc in
    let o = listed q' (part_of text (from_to i k), None) [] e b next (opened r more l m 1 e b next (cc) (cc) (cc) h.lawful.1 (omega arith) (length (slots r) + 1) refl (omega arith) (omega arith)) refl in
    subst (λ (y : ℕ × Span ℕ). Opens r more l m 1 (rest (Block.then (Statement.foreach q' j i k e b i' j') next)) (listing text y.0 (part_of text y.1, None) [])) (λ t. (place t, name t)) o
foreach_shape r q l m s more (rest (Block.then (Statement.assign q' k e) next)) h = let w = h.nodes in let a = assign_is q' k (length (flatten_target k)) (length (flatten e)) in absurd (cc)
foreach_shape r q l m s more (arms_then a next) h = let w : true ≡ false = arms_begin (node.Foreach q s l m) more _ a h.nodes in absurd (cc)
foreach_shape r q l m s more x h = let w = h.nodes in absurd (cc)

joineach_shape : (r : Run) (q l m : ℕ) (s d : Span ℕ) (more : List Node) (x : Left) → Leaves r (node.Joineach q s l d m ∷ more) x → Opens r more l m 1 x (listing r.text.now q (part_of r.text.now s, None) (quoted r.text.now d))
unfolding flatten_block flatten_statement flatten_arms block statement need_block need_statement opens
joineach_shape r q l m s d more (rest (Block.then (Statement.joineach q' j i k e d' b i' j') next)) h =
    let w = h.nodes in
    let room = h.room in
    let text = r.text.now in
    let place : q' ≡ q = cc in
    let name : from_to i k ≡ s = cc in
    let delimiter : d'.span ≡ d = cc in
    let o = listed q' (part_of text (from_to i k), None) (quoted text d'.span) e b next (opened r more l m 1 e b next (cc) (cc) (cc) h.lawful.1 (omega arith) (length (slots r) + 1) refl (omega arith) (omega arith)) refl in
    subst (λ (y : ℕ × Span ℕ × Span ℕ). Opens r more l m 1 (rest (Block.then (Statement.joineach q' j i k e d' b i' j') next)) (listing text y.0 (part_of text y.1, None) (quoted text y.2))) (λ t. (place t, name t, delimiter t)) o
joineach_shape r q l m s d more (rest (Block.then (Statement.assign q' k e) next)) h = let w = h.nodes in let a = assign_is q' k (length (flatten_target k)) (length (flatten e)) in absurd (cc)
joineach_shape r q l m s d more (arms_then a next) h = let w : true ≡ false = arms_begin (node.Joineach q s l d m) more _ a h.nodes in absurd (cc)
joineach_shape r q l m s d more x h = let w = h.nodes in absurd (cc)

pub each_shape : (r : Run) (n : Node) (q : ℕ) (name d : List ℕ) (l m : ℕ) (more : List Node) (x : Left) → Loops r.text.now n q name d l m → Leaves r (n ∷ more) x → Opens r more l m 1 x (listing r.text.now q (name, None) d)
each_shape r n q name d l m more x loops h =
    let text = r.text.now in
    ⊎_elim
    (λ f. let o = foreach_shape r q l m f.0 more x (subst (λ n. Leaves r (n ∷ more) x) f.1 h) in subst (λ (u : List ℕ × List ℕ). Opens r more l m 1 x (listing text q (u.0, None) u.1)) (λ i. (sym f.2 i, sym f.3 i)) o)
    (λ f. let o = joineach_shape r q l m f.0 f.1 more x (subst (λ n. Leaves r (n ∷ more) x) f.2 h) in subst (λ (u : List ℕ × List ℕ). Opens r more l m 1 x (listing text q (u.0, None) u.1)) (λ i. (sym f.3 i, sym f.4 i)) o)
    loops

-- ---- the parts of a loop, as it runs

module _ {r₀ r : Run} {more : List Node} {h k n : ℕ} {e : Expr} {b next : Block} (o : Opened r₀ more h k n e b next) (still : Still r₀ r) where
  -- its expression
  pub expression_fits : (ns : List Node) → ns ≡ take h more → slots r ≡ slots r₀ → Fits r ns e
  expression_fits ns is level = fits_kept still level is o.head

  -- its block, while n values more wait
  pub block_leaves : (ns bs : List Node) → ns ≡ drop h more → bs ≡ take k ns → length (slots r) ≡ length (slots r₀) + n → Leaves r bs (rest b)
  block_leaves ns bs is front size =
      let all : bs ≡ take k (drop h more) = front ∙ ap (take k) is in
      record {
        nodes = all ∙ o.body;
        lawful = lawful_kept still all o.body_lawful;
        room = let room = subst (λ w. need_block w b ≤ r₀.values.capacity) (sym size) o.body_room in let c = still.capacity in omega arith;
      }

  -- what follows it
  pub next_leaves : (ns bs : List Node) → ns ≡ drop h more → bs ≡ drop k ns → slots r ≡ slots r₀ → Leaves r bs (arms_then (Arms.close 0 0) next)
  next_leaves ns bs is behind level = leaves_kept still level (behind ∙ ap (drop k) is) o.behind

-- behind the END of a block what follows is left
pub ended : (text : List ℕ) (q j : ℕ) (next : Block) → left_print text (arms_then (Arms.close q j) next) ≡ block text next
unfolding arms
ended text q j next = refl

-- ---- a FOREACH or JOINEACH

pub loops_foreach : (text : List ℕ) (n : Node) (q l₀ m₀ p l m : ℕ) (s : Span ℕ) (name : List ℕ) → n ≡ node.Foreach q s l₀ m₀ → p ≡ place_of n → l ≡ l₀ → m ≡ m₀ → Lawful text n → (Named text s → name ≡ part_of text s) → Loops text n p name [] l m
loops_foreach text n q l₀ m₀ p l m s name is place list body lawful named =
    let at : p ≡ q = place ∙ ap place_of is in
    inl (s, cc, named (subst (Lawful text) is lawful), refl)

pub loops_joineach : (text : List ℕ) (n : Node) (q l₀ m₀ p l m : ℕ) (s d : Span ℕ) (name delimiter : List ℕ) → n ≡ node.Joineach q s l₀ d m₀ → p ≡ place_of n → l ≡ l₀ → m ≡ m₀ → Lawful text n → (Named text s → name ≡ part_of text s) → (Quoted text d → delimiter ≡ quoted text d)
    → Loops text n p name delimiter l m
loops_joineach text n q l₀ m₀ p l m s d name delimiter is place list body lawful named written =
    let at : p ≡ q = place ∙ ap place_of is in
    let both = subst (Lawful text) is lawful in
    inr (s, d, cc, named both.0, written both.1)
