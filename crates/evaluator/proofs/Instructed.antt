-- What instructions without a block do, part by part. Assumes nothing.
use Rattle.std.proofs.Common.{◌≡◌, ℕ, suc, ◌+◌, ◌≤◌, ◌<◌, Bool, true, false, cond, List, [], ◌∷◌, ◌++◌, length, ℤ, Some, None, Ok, Err, Result, sym, refl, ap, ◌∙◌, subst, length-append, arith}
use Rattle.effects.specs.Effects.{return, visit, ◌>>=◌, or_fail, done}
use Rattle.evaluator.specs.declared.run.Run.{Run}
use Rattle.evaluator.specs.Blocks.{Inks, Puts, Sets, Ran, need_target, Targets, Assigns}
use Rattle.evaluator.specs.Runs.{slots, state, result_as, Does, Valued, Fits, OnlyValues, Still, Visited, Level}
use Rattle.evaluator.specs.Turns.{top_value}
use Rattle.evaluator.proofs.Exits.{faulted}
use Rattle.evaluator.proofs.Kept.{lawful_kept, level}
use Rattle.evaluator.proofs.Composing.{does_then, does_stops, does_unvisited, does_up_to, operand_does, puts_sets, does_sets, sets_then, does_ran, inks_ran, puts_ran, ran_then, ran_stops, ran_visited, ran_unvisited, ran_up_to}
use Rattle.evaluator.proofs.Walks.{needs, lawful_calls}
use Rattle.keys.specs.KeyOrder.{KeyName}
use Rattle.meaning.specs.Constants.{part_of}
use Rattle.meaning.specs.Lawful.{Named, AllLawful}
use Rattle.meaning.specs.Meaning.{Value, expression, print, assign, target, statement, round_start}
use Rattle.operations.specs.Operators.{operand}
use Rattle.printer.specs.declared.Printer as printer
use Rattle.refusals.specs.declared.fault.Fault.{Fault}
use Rattle.refusals.specs.Errors.{refused_by}
use Rattle.stacks.specs.Stacked.{rest}
use Rattle.store.specs.declared.Store as store
use Rattle.store.specs.Names.{Names}
use Rattle.trees.specs.declared.Node.{Node}
use Rattle.trees.specs.declared.Span.{Span}
use Rattle.trees.specs.Counts.{need, need_assign}
use Rattle.trees.specs.Flat as flat
use Rattle.trees.specs.Flat.{flatten, flatten_key, flatten_args, flatten_seq}
use Rattle.trees.specs.Tree.{Key, Expr, Statement, from_to}
use Rattle.values.specs.Forms.{Elem, value_form}

-- ---- expressions

-- every expression has a node
last_node : (xs ys : List Node) (n : Node) → 1 ≤ length (xs ++ n ∷ ys)
last_node xs ys n = omega (arith, length-append xs (n ∷ ys))

mutual
  unfolding flatten flatten_key

  has_node : (e : Expr) → 1 ≤ length (flatten e)
  has_node (Expr.number c) = omega arith
  has_node (Expr.text t) = omega arith
  has_node (Expr.key k) = key_has_node k
  has_node (Expr.call i j q f s z) = last_node (flatten_args s) [] _
  has_node (Expr.list q s) = last_node (flatten_seq s) [] _
  has_node (Expr.round q e) = has_node e
  has_node (Expr.signed q s e) = last_node (flatten e) [] _
  has_node (Expr.binary q o l r) = let h = has_node l in omega (arith, length-append (flatten l) (flat.rest q o (flatten r)))

  key_has_node : (k : Key) → 1 ≤ length (flatten_key k)
  key_has_node (Key.name i j) = omega arith
  key_has_node (Key.index i j q e) = last_node (flatten e) [] _

-- ---- `$expression$`

module _ {S P : Type 0} (s : store.Ghosts S) (p : printer.Ghosts P) where
  pub show_unvisited : {q : ℕ} {r r₁ : Run} {f : Fault} (e : Expr) (store₀ : S) (printer₀ : P) → Visited q r r₁ (Err f) → Ran s p (statement r.text.now (Statement.show q e)) r r₁ store₀ store₀ printer₀ printer₀ (Err f)
  unfolding statement
  show_unvisited {q} {r} e store₀ printer₀ v = ran_unvisited s p (expression r.text.now e >>= λ v. print q (value_form v)) store₀ printer₀ v

  pub show_refused : (q : ℕ) (e : Expr) (r r₂ : Run) (store₀ : S) (printer₀ : P) (f : Fault) → Does (s.names store₀) (visit q (expression r.text.now e)) r r₂ (Err f)
      → Ran s p (statement r.text.now (Statement.show q e)) r r₂ store₀ store₀ printer₀ printer₀ (Err f)
  unfolding statement
  show_refused q e r r₂ store₀ printer₀ f h = ran_stops s p (λ v. print q (value_form v)) (does_ran s p (visit q (expression r.text.now e)) r r₂ store₀ printer₀ (Err f) h)

  -- the value v that is printed is the one on top of the stack
  pub shown : {q : ℕ} {bs : List ℕ} {printer₀ printer₁ : P} {o : Result (Unit {0}) Fault} {r₂ r₃ : Run} (e : Expr) (r : Run) (store₀ : S) (v : Value) → r₃.limit ≡ r.limit
      → Valued (s.names store₀) (visit q (expression r.text.now e)) r r₂ (Ok tt) → OnlyValues r₂ r₃ → v ≡ top_value (slots r₂) → slots r₃ ≡ rest (slots r₂) → bs ≡ value_form v → Inks p q bs printer₀ printer₁ o
      → Ran s p (statement r.text.now (Statement.show q e)) r r₃ store₀ store₀ printer₀ printer₁ o × Level r r₃ o
  unfolding statement
  shown {q} {bs} {printer₀} {printer₁} {o} {r₂} {r₃} e r store₀ v limit w only top below form inks = (
    ran_then s p (λ v. print q (value_form v)) limit (ran_up_to s p (visit q (expression r.text.now e)) only (does_ran s p (visit q (expression r.text.now e)) r r₂ store₀ printer₀ (Ok w.0) w.2))
        (inks_ran s p r₃ store₀ (subst (λ bs. Inks p q bs printer₀ printer₁ o) (form ∙ ap value_form (top ∙ ap top_value w.1)) inks)),
    level r r₃ o (below ∙ ap rest w.1),
  )

-- ---- targets

module _ (names : Names) (place : ℕ) where
  pub target_alone : {r : Run} {name : Span ℕ} {ms : List Node} (n : List ℕ) (k : Key) → Targets r name ms k → length ms ≡ 0 → (Named r.text.now name → n ≡ part_of r.text.now name) → Does names (target r.text.now place k) r r (Ok (n, None))
  target_alone {r} n (Key.name i j) t z h = λ L paper' l. ap (λ w. done (w, None) (state r names paper')) (h t.named ∙ ap (part_of r.text.now) t.name)
  target_alone {r} n (Key.index i j q e) t z h = absurd (let some = has_node e in let size = ap length t.nodes in omega arith)

  pub target_refused : {r : Run} {name : Span ℕ} {ms : List Node} (r₁ : Run) (f : Fault) (k : Key) → Targets r name ms k → 0 < length ms → ((e : Expr) → Fits r ms e → Valued names (expression r.text.now e) r r₁ (Err f)) → Does names (target r.text.now place k) r r₁ (Err f)
  target_refused {r} r₁ f (Key.name i j) t some h = absurd (let size = ap length t.nodes in omega arith)
  target_refused {r} {name} {ms} r₁ f (Key.index i j q e) t some h =
      does_stops names (expression r.text.now e) (λ v. or_fail place (operand v) >>= λ n. return (part_of r.text.now (from_to i j), Some n)) r r₁ f (h e (record { nodes = t.nodes; lawful = t.lawful; room = t.room }))

  -- the subscript's value v is the one on top of the stack, and o what comes of it
  pub target_worked : {r r₁ r₂ : Run} {name : Span ℕ} {ms : List Node} (n : List ℕ) (v : Value) (o : Result ℤ Fault) (k : Key) → Targets r name ms k → 0 < length ms → (Named r.text.now name → n ≡ part_of r.text.now name)
      → ((e : Expr) → Fits r ms e → Valued names (expression r.text.now e) r r₁ (Ok tt)) → r₁.limit ≡ r.limit → OnlyValues r₁ r₂ → v ≡ top_value (slots r₁) → slots r₂ ≡ rest (slots r₁) → o ≡ faulted place (refused_by (operand v))
      → Does names (target r.text.now place k) r r₂ (result_as (λ i. (n, Some i)) o) × (slots r₂ ≡ slots r)
  target_worked n v o (Key.name i j) t some named h limit only top below out = absurd (let size = ap length t.nodes in omega arith)
  target_worked {r} {r₁} {r₂} n v o (Key.index i j q e) t some named h limit only top below out =
      let same : n ≡ part_of r.text.now (from_to i j) = named t.named ∙ ap (part_of r.text.now) t.name in
      subst (λ (x : List ℕ). Does names (target r.text.now place (Key.index i j q e)) r r₂ (result_as (λ a. (x, Some a)) o) × (slots r₂ ≡ slots r)) (sym same)
      (operand_does names (expression r.text.now e) place (λ a. (part_of r.text.now (from_to i j), Some a)) r r₁ r₂ tt v o (h e (record { nodes = t.nodes; lawful = t.lawful; room = t.room })) limit only top below out)

-- ---- `$key = expression$`

pub assigns_fit : {r : Run} {name : Span ℕ} {ms ns : List Node} {e : Expr} (k : Key) → Assigns r name ms ns k e → Fits r ns e
assigns_fit (Key.name i j) h = record { nodes = h.right; lawful = h.lawful.1; room = h.room }
assigns_fit (Key.index i j q c) h = record { nodes = h.right; lawful = h.lawful.1; room = let room = h.room in omega arith }

-- the target fits while the value of the right side waits
waits : (n c : ℕ) (k : Key) (e : Expr) → 1 ≤ need e → n + need_assign k e ≤ c → suc n + need_target k ≤ c
waits n c (Key.name i j) e some room = omega arith
waits n c (Key.index i j q x) e some room = omega arith

assigns_target : {r r₂ : Run} {name : Span ℕ} {ms ns : List Node} {k : Key} {e : Expr} (v : Value) → Still r r₂ → slots r₂ ≡ Some v ∷ slots r → Assigns r name ms ns k e → Targets r₂ name ms k
assigns_target {r} {r₂} {name} {ms} {ns} {k} {e} v still on h = record {
  named = subst (λ text. Named text name) (sym still.text) h.named;
  name = h.name;
  nodes = h.subscript;
  lawful = lawful_kept still refl h.lawful.0;
  room =
      let some = needs e (lawful_calls r.text.now (flatten e) (subst (AllLawful r.text.now) h.right h.lawful.1)) in
      let room = waits (length (slots r)) r.values.capacity k e some h.room in
      let size = ap length on in
      let same = still.capacity in
      omega arith;
}

module _ {S : Type 0} (s : store.Ghosts S) where
  pub assign_unvisited : {q : ℕ} {r r₁ : Run} {f : Fault} (k : Key) (e : Expr) (store₀ : S) → Visited q r r₁ (Err f) → Sets s (statement r.text.now (Statement.assign q k e)) r r₁ store₀ store₀ (Err f)
  unfolding statement
  assign_unvisited {q} {r} {r₁} {f} k e store₀ v =
      does_sets s (statement r.text.now (Statement.assign q k e)) r r₁ store₀ (Err f) (does_unvisited (s.names store₀) (expression r.text.now e >>= λ v. target r.text.now q k >>= λ k'. assign q k' v) f v)

  pub assign_refused : (q : ℕ) (k : Key) (e : Expr) (r r₂ : Run) (store₀ : S) (f : Fault) → Does (s.names store₀) (visit q (expression r.text.now e)) r r₂ (Err f) → Sets s (statement r.text.now (Statement.assign q k e)) r r₂ store₀ store₀ (Err f)
  unfolding statement
  assign_refused q k e r r₂ store₀ f h =
      does_sets s (statement r.text.now (Statement.assign q k e)) r r₂ store₀ (Err f) (does_stops (s.names store₀) (visit q (expression r.text.now e)) (λ v. target r.text.now q k >>= λ k'. assign q k' v) r r₂ f h)

  pub assign_untargeted : {name : Span ℕ} {ms ns : List Node} (q : ℕ) (k : Key) (e : Expr) (r r₂ r₃ : Run) (store₀ : S) (f : Fault) → Assigns r name ms ns k e → Valued (s.names store₀) (visit q (expression r.text.now e)) r r₂ (Ok tt) → Still r r₂
      → ((k : Key) → Targets r₂ name ms k → Does (s.names store₀) (target r₂.text.now q k) r₂ r₃ (Err f) × Unit {0})
      → Sets s (statement r.text.now (Statement.assign q k e)) r r₃ store₀ store₀ (Err f)
  unfolding statement
  assign_untargeted q k e r r₂ r₃ store₀ f fits w still h =
      let names = s.names store₀ in
      let m = visit q (expression r.text.now e) in
      let t = subst (λ text. Does names (target text q k) r₂ r₃ (Err f)) still.text (h k (assigns_target w.0 still w.1 fits)).0 in
      does_sets s (statement r.text.now (Statement.assign q k e)) r r₃ store₀ (Err f)
      (does_then names m (λ v. target r.text.now q k >>= λ k'. assign q k' v) r r₂ r₃ w.0 (Err f) still.limit w.2 (does_stops names (target r.text.now q k) (λ k'. assign q k' w.0) r₂ r₃ f t))

  -- the value that is assigned waits while the target is worked out
  pub assigned : {name : Span ℕ} {ms ns : List Node} {q : ℕ} {x : KeyName} {v : Value} {store₀ store₁ : S} {o : Result (Unit {0}) Fault} {r₃ r₄ : Run} (k : Key) (e : Expr) (r r₂ : Run)
      → Assigns r name ms ns k e → Valued (s.names store₀) (visit q (expression r.text.now e)) r r₂ (Ok tt) → Still r r₂ → Still r₂ r₃
      → ((k : Key) → Targets r₂ name ms k → Does (s.names store₀) (target r₂.text.now q k) r₂ r₃ (Ok x) × (slots r₃ ≡ slots r₂))
      → OnlyValues r₃ r₄ → v ≡ top_value (slots r₃) → slots r₄ ≡ rest (slots r₃) → Puts s q x v store₀ store₁ o
      → Sets s (statement r.text.now (Statement.assign q k e)) r r₄ store₀ store₁ o × Level r r₄ o
  unfolding statement
  assigned {q = q} {x = x} {v = v} {store₀ = store₀} {store₁ = store₁} {o = o} {r₃ = r₃} {r₄ = r₄} k e r r₂ fits w still still' h only top below puts =
      let names = s.names store₀ in
      let m = visit q (expression r.text.now e) in
      let t = h k (assigns_target w.0 still w.1 fits) in
      let n = target r.text.now q k in
      let does = does_up_to names n r₂ (Ok x) only (subst (λ text. Does names (target text q k) r₂ r₃ (Ok x)) still.text t.0) in
      let slots_are = t.1 ∙ w.1 in
      let put = subst (λ v. Puts s q x v store₀ store₁ o) (top ∙ ap top_value slots_are) puts in (
        sets_then s m (λ v. n >>= λ k'. assign q k' v) r r₂ r₄ store₀ store₁ w.0 o still.limit w.2
            (sets_then s n (λ k'. assign q k' w.0) r₂ r₄ r₄ store₀ store₁ x o (only.limit ∙ still'.limit) does (puts_sets s r₄ put)),
        level r r₄ o (below ∙ ap rest slots_are),
      )

-- ---- the start of a round

-- nothing is printed in the first round, and the delimiter in the others
pub inks_first : {P : Type 0} (p : printer.Ghosts P) (q : ℕ) (d : List ℕ) (printer₀ printer₁ : P) (first : Bool) → first ≡ true → printer₁ ≡ printer₀ → Inks p q (cond first [] d) printer₀ printer₁ (Ok tt)
inks_first p q d printer₀ printer₁ first e same = subst (λ b. Inks p q (cond b [] d) printer₀ printer₁ (Ok tt)) (sym e) (subst (λ x. Inks p q [] printer₀ x (Ok tt)) (sym same) (record { outcome = λ steps' ns L l. refl; capacity = refl }))

pub inks_next : {P : Type 0} (p : printer.Ghosts P) {q : ℕ} {d : List ℕ} {printer₀ printer₁ : P} (printer₂ : P) (o : Result (Unit {0}) Fault) (first : Bool) → first ≡ false → printer₂ ≡ printer₁ → Inks p q d printer₀ printer₁ o → Inks p q (cond first [] d) printer₀ printer₂ o
inks_next p {q} {d} {printer₀} {printer₁} printer₂ o first e same h = subst (λ b. Inks p q (cond b [] d) printer₀ printer₂ o) (sym e) (subst (λ x. Inks p q d printer₀ x o) (sym same) h)

module _ {S P : Type 0} (s : store.Ghosts S) (p : printer.Ghosts P) (first : Bool) where
  pub round_unvisited : {q : ℕ} {r r₁ : Run} {f : Fault} (k : KeyName) (d : List ℕ) (e : Elem) (store₀ : S) (printer₀ : P) → Visited q r r₁ (Err f) → Ran s p (round_start first q k d e) r r₁ store₀ store₀ printer₀ printer₀ (Err f)
  round_unvisited {q} k d e store₀ printer₀ v = ran_unvisited s p (print q (cond first [] d) >>= λ u. assign q k (e ∷ [])) store₀ printer₀ v

  pub round_unprinted : {q : ℕ} {r r₁ : Run} {printer₀ printer₁ : P} {u : Unit {0}} {f : Fault} (k : KeyName) (d : List ℕ) (e : Elem) (store₀ : S) → Visited q r r₁ (Ok u) → Inks p q (cond first [] d) printer₀ printer₁ (Err f)
      → Ran s p (round_start first q k d e) r r₁ store₀ store₀ printer₀ printer₁ (Err f)
  round_unprinted {q} {r} {r₁} k d e store₀ v h =
      ran_visited s p (print q (cond first [] d) >>= λ u. assign q k (e ∷ [])) v (ran_stops s p (λ u. assign q k (e ∷ [])) (inks_ran s p r₁ store₀ h))

  pub round_started : {q : ℕ} {r r₁ : Run} {store₀ store₁ : S} {printer₀ printer₁ : P} {k : KeyName} {v : Value} {u : Unit {0}} {o : Result (Unit {0}) Fault} (d : List ℕ) (e : Elem) → Visited q r r₁ (Ok u)
      → Inks p q (cond first [] d) printer₀ printer₁ (Ok tt) → v ≡ e ∷ [] → Puts s q k v store₀ store₁ o → Ran s p (round_start first q k d e) r r₁ store₀ store₁ printer₀ printer₁ o
  round_started {q} {r} {r₁} {store₀} {store₁} {printer₀} {printer₁} {k} {v} {u} {o} d e w h one puts =
      ran_visited s p (print q (cond first [] d) >>= λ u. assign q k (e ∷ [])) w
      (ran_then s p (λ u. assign q k (e ∷ [])) refl (inks_ran s p r₁ store₀ h) (puts_ran s p r₁ printer₁ (subst (λ v. Puts s q k v store₀ store₁ o) one puts)))
