-- Loops, from turn to turn: what is left of a WHILE, and of the rounds of a FOREACH or JOINEACH. Assumes nothing.
use Rattle.std.proofs.Common.{◌≡◌, ℕ, zero, suc, ◌+◌, ◌^◌, ◌<◌, ◌≤◌, ◌==◌, Bool, true, false, cond, List, [], ◌∷◌, length, drop, Some, None, Ok, Err, Result, sym, subst, refl, ap, ◌∙◌, arith}
use Rattle.std.specs.Borrow.{Bor}
use Rattle.std.specs.List.{slice_get}
use Rattle.std.proofs.lemmas.Bool.{ne_eqb}
use Rattle.std.proofs.lemmas.List.{drop_more, drop_all, length-map}
use Rattle.std.proofs.lemmas.Option.{slice_get_within, get_or_from_slice_get}
use Rattle.arrays.specs.Items.{items, few}
use Rattle.effects.specs.Effects.{Program, return, visit, ◌>>=◌, Print}
use Rattle.effects.proofs.Programs.{bind_assoc}
use Rattle.evaluator.specs.declared.run.Run.{Run}
use Rattle.evaluator.specs.Blocks.{Left, arms_then, left_print, Leaves, Ran, Advanced}
use Rattle.evaluator.specs.Runs.{slots, Still, Does, Valued, Visited}
use Rattle.evaluator.specs.Turns.{top_value}
use Rattle.evaluator.proofs.Composing.{does_ran, ran_unvisited, ran_stops, ran_on, Reaches, reaches_start, reaches_means, means_reaches, reaches_on, reaches_stop, ran_still, advances}
use Rattle.evaluator.proofs.Kept.{still_then}
use Rattle.evaluator.proofs.Shapes.{testing, rounding, listing, ended}
use Rattle.keys.specs.KeyOrder.{KeyName}
use Rattle.meaning.specs.Meaning.{Value, expression, test, block, repeat, most_tests, round_start, rounds}
use Rattle.printer.specs.declared.Printer as printer
use Rattle.refusals.specs.declared.fault.Fault.{Fault}
use Rattle.store.specs.declared.Store as store
use Rattle.trees.specs.declared.Node.{Node}
use Rattle.trees.specs.Tree.{Expr, Block, Arms}
use Rattle.values.specs.Forms.{Elem}
use Rattle.values.specs.Means.{element_means, value_means}
use Rattle.values.specs.declared.value.Value as values

-- behind the END of its block a loop is done, and the block that is left is next
pub loop_ends : {S P : Type 0} {s : store.Ghosts S} {p : printer.Ghosts P} {m : Print} (x : Left) {r r' : Run} {store₀ store₁ : S} {printer₀ printer₁ : P} (next : Block) (ns : Bor (List Node)) → left_print r.text.now x ≡ m → Reaches s p m r r' store₀ store₁ printer₀ printer₁ (block r.text.now next)
    → Leaves r' ns.now (arms_then (Arms.close 0 0) next) → slots r' ≡ slots r → Advanced s p x r r' store₀ store₁ printer₀ printer₁ (Ok ns)
loop_ends {s = s} {p = p} x {r = r} next ns means h = advances s p x (arms_then (Arms.close 0 0) next) ns (means_reaches s p means (reaches_means s p (sym (ended r.text.now 0 0 next)) h))

-- ---- WHILE

-- Of the WHILE at q, which began at r₀, there are tests left at r, more than the limit on steps allows.
pub record Repeating {S P : Type 0} (s : store.Ghosts S) (p : printer.Ghosts P) (q : ℕ) (e : Expr) (b next : Block) (r₀ r : Run) (store₀ store₁ : S) (printer₀ printer₁ : P) : Type 0 where
  pub tests : ℕ
  pub enough : r₀.limit < tests + r.steps
  pub level : slots r ≡ slots r₀
  pub reaches : Reaches s p (testing most_tests r₀.text.now q e b next) r₀ r store₀ store₁ printer₀ printer₁ (testing tests r₀.text.now q e b next)

-- a limit on steps has 32 bits
most_are_enough : (limit steps : ℕ) → limit < 2 ^ 32 → limit < most_tests + steps
unfolding most_tests
most_are_enough limit steps h = omega arith

-- what follows a test
abbrev behind_test : ℕ → ℕ → Program Bool → Print → Print → Bool → Print
behind_test n q c m k holds = cond holds (m >>= λ u. repeat n q c m >>= λ u. k) k

by_test : (n q : ℕ) (c : Program Bool) (m k : Print) (holds : Bool) → cond holds (m >>= λ u. repeat n q c m) (return tt) >>= (λ u. k) ≡ behind_test n q c m k holds
by_test n q c m k true = bind_assoc m (λ u. repeat n q c m) (λ u. k)
by_test n q c m k false = refl

repeat_more : (n q : ℕ) (c : Program Bool) (m k : Print) → repeat (suc n) q c m >>= (λ u. k) ≡ c >>= behind_test n q c m k
repeat_more n q c m k = bind_assoc c (λ holds. cond holds (m >>= λ u. repeat n q c m) (return tt)) (λ u. k) ∙ (λ i. c >>= (λ holds. by_test n q c m k holds i))

module _ {S P : Type 0} {s : store.Ghosts S} {p : printer.Ghosts P} {q : ℕ} {e : Expr} {b next : Block} {r₀ : Run} {store₀ : S} {printer₀ : P} where
  pub repeats_from : r₀.limit < 2 ^ 32 → Repeating s p q e b next r₀ r₀ store₀ store₀ printer₀ printer₀
  repeats_from h = record { tests = most_tests; enough = most_are_enough r₀.limit r₀.steps h; level = refl; reaches = reaches_start s p (testing most_tests r₀.text.now q e b next) r₀ store₀ printer₀ }

  module _ {r : Run} {store₁ : S} {printer₁ : P} (turn : Repeating s p q e b next r₀ r store₀ store₁ printer₀ printer₁) (still : Still r₀ r) where
    -- one test more, and how many are left behind it
    record OneTest : Type 0 where
      pub left : ℕ
      pub enough : r₀.limit < suc left + r.steps
      pub reaches : Reaches s p (testing most_tests r₀.text.now q e b next) r₀ r store₀ store₁ printer₀ printer₁ (test r₀.text.now q e >>= behind_test left q (test r₀.text.now q e) (block r₀.text.now b) (block r₀.text.now next))

    one_test : (n : ℕ) → r.steps ≤ r.limit → r₀.limit < n + r.steps → Reaches s p (testing most_tests r₀.text.now q e b next) r₀ r store₀ store₁ printer₀ printer₁ (testing n r₀.text.now q e b next) → OneTest
    one_test zero counted enough g = absurd (let l = still.limit in omega arith)
    one_test (suc n) counted enough g = record { left = n; enough = enough; reaches = reaches_means s p (repeat_more n q (test r₀.text.now q e) (block r₀.text.now b) (block r₀.text.now next)) g }

    test_ran : (r' : Run) (o : Result Bool Fault) → Does (s.names store₁) (test r.text.now q e) r r' o → Ran s p (test r₀.text.now q e) r r' store₁ store₁ printer₁ printer₁ o
    test_ran r' o d = ran_still s p (λ text. test text q e) still (does_ran s p (test r.text.now q e) r r' store₁ printer₁ o d)

    pub test_refused : (r' : Run) (f : Fault) → r.steps ≤ r.limit → Does (s.names store₁) (test r.text.now q e) r r' (Err f) → Ran s p (testing most_tests r₀.text.now q e b next) r₀ r' store₀ store₁ printer₀ printer₁ (Err f)
    test_refused r' f counted d =
        let t = one_test turn.tests counted turn.enough turn.reaches in
        reaches_stop s p (test r₀.text.now q e) (behind_test t.left q (test r₀.text.now q e) (block r₀.text.now b) (block r₀.text.now next)) t.reaches (test_ran r' (Err f) d)

    -- behind a test
    record Answered (holds : Bool) (r' : Run) : Type 0 where
      pub left : ℕ
      pub enough : r₀.limit < left + r'.steps
      pub reaches : Reaches s p (testing most_tests r₀.text.now q e b next) r₀ r' store₀ store₁ printer₀ printer₁ (behind_test left q (test r₀.text.now q e) (block r₀.text.now b) (block r₀.text.now next) holds)

    answered : (r' : Run) {v : Bool} (holds : Bool) → r.steps ≤ r.limit → Does (s.names store₁) (test r.text.now q e) r r' (Ok v) → v ≡ holds → Still r r' → r.steps < r'.steps → Answered holds r'
    answered r' holds counted d is still' more =
        let t = one_test turn.tests counted turn.enough turn.reaches in
        record {
          left = t.left;
          enough = let k = t.enough in omega arith;
          reaches = reaches_on s p (test r₀.text.now q e) (behind_test t.left q (test r₀.text.now q e) (block r₀.text.now b) (block r₀.text.now next)) t.reaches (test_ran r' (Ok holds) (subst (λ v. Does (s.names store₁) (test r.text.now q e) r r' (Ok v)) is d)) still'.limit;
        }

    -- the condition holds no longer
    pub repeats_no_more : (r' : Run) {v : Bool} → r.steps ≤ r.limit → Does (s.names store₁) (test r.text.now q e) r r' (Ok v) → v ≡ false → Still r r' → r.steps < r'.steps → Reaches s p (testing most_tests r₀.text.now q e b next) r₀ r' store₀ store₁ printer₀ printer₁ (block r₀.text.now next)
    repeats_no_more r' counted d is still' more = (answered r' false counted d is still' more).reaches

    module _ (r' : Run) {v : Bool} (counted : r.steps ≤ r.limit) (d : Does (s.names store₁) (test r.text.now q e) r r' (Ok v)) (is : v ≡ true) (still' : Still r r') (more : r.steps < r'.steps) where
      pub block_refused : (r'' : Run) (store₂ : S) (printer₂ : P) (f : Fault) → Ran s p (block r'.text.now b) r' r'' store₁ store₂ printer₁ printer₂ (Err f) → Ran s p (testing most_tests r₀.text.now q e b next) r₀ r'' store₀ store₂ printer₀ printer₂ (Err f)
      block_refused r'' store₂ printer₂ f h =
          let a = answered r' true counted d is still' more in
          reaches_stop s p (block r₀.text.now b) (λ u. testing a.left r₀.text.now q e b next) a.reaches (ran_still s p (λ text. block text b) (still_then still still') h)

      pub repeats_on : (r'' : Run) (store₂ : S) (printer₂ : P) → slots r' ≡ slots r → Ran s p (block r'.text.now b) r' r'' store₁ store₂ printer₁ printer₂ (Ok tt) → slots r'' ≡ slots r' → Still r' r'' → Repeating s p q e b next r₀ r'' store₀ store₂ printer₀ printer₂
      repeats_on r'' store₂ printer₂ level h level' still'' =
          let a = answered r' true counted d is still' more in
          record {
            tests = a.left;
            enough = let k = a.enough in let l = still''.steps in omega arith;
            level = level' ∙ level ∙ turn.level;
            reaches = reaches_on s p (block r₀.text.now b) (λ u. testing a.left r₀.text.now q e b next) a.reaches (ran_still s p (λ text. block text b) (still_then still still') h) still''.limit;
          }

-- ---- FOREACH and JOINEACH

-- The list of the loop at q, which began at r₀, waits on top, and the rounds from i on are left at r.
pub record Rounding {S P : Type 0} (s : store.Ghosts S) (p : printer.Ghosts P) (q : ℕ) (k : KeyName) (d : List ℕ) (e : Expr) (b next : Block) (i : ℕ) (r₀ r : Run) (store₀ store₁ : S) (printer₀ printer₁ : P) : Type 0 where
  pub list : Value
  pub waits : slots r ≡ Some list ∷ slots r₀
  pub reaches : Reaches s p (listing r₀.text.now q k d e b next) r₀ r store₀ store₁ printer₀ printer₁ (rounding (i == 0) r₀.text.now q k d b next (drop i list))

-- the element at a place, and those behind it
element_first : {T : Type 0} (xs : List T) (i : ℕ) (x : T) → slice_get xs i ≡ Some x → drop i xs ≡ x ∷ drop (i + 1) xs
element_first xs i x h = drop_more xs i x (slice_get_within xs i x h) ∙ ap (λ y. y ∷ drop (i + 1) xs) (get_or_from_slice_get xs i x x h)

-- no element at a place
none_left : {T : Type 0} (xs : List T) (i : ℕ) → slice_get xs i ≡ None → drop i xs ≡ []
none_left [] zero h = refl
none_left [] (suc i) h = refl
none_left (x ∷ xs) zero h = cc
none_left (x ∷ xs) (suc i) h = none_left xs i h

-- a value has at most 16 elements
few_elements : (v : values.Value) → length (value_means v) ≤ 16
few_elements v = let h = few v.elements in omega (arith, length-map (items v.elements) element_means)

not_first : (i : ℕ) → false ≡ (i + 1 == 0)
not_first i = sym (ne_eqb (i + 1) 0 (λ h. omega arith))

-- a round, its block, and the rounds behind it
one_round : (first : Bool) (q : ℕ) (k : KeyName) (d : List ℕ) (m c : Print) (x : Elem) (xs : List Elem) → rounds first q k d m (x ∷ xs) >>= (λ u. c) ≡ round_start first q k d x >>= λ u. m >>= λ u. rounds false q k d m xs >>= λ u. c
one_round first q k d m c x xs = bind_assoc (round_start first q k d x) (λ u. m >>= λ u. rounds false q k d m xs) (λ u. c) ∙ (λ i. round_start first q k d x >>= λ u. bind_assoc m (λ u. rounds false q k d m xs) (λ u. c) i)

module _ {S P : Type 0} {s : store.Ghosts S} {p : printer.Ghosts P} {q : ℕ} (k : KeyName) (d : List ℕ) (e : Expr) (b next : Block) {r₀ : Run} (store₀ : S) (printer₀ : P) where
  pub visit_refused : (r : Run) (f : Fault) → Visited q r₀ r (Err f) → Ran s p (listing r₀.text.now q k d e b next) r₀ r store₀ store₀ printer₀ printer₀ (Err f)
  visit_refused r f v = ran_unvisited s p (expression r₀.text.now e >>= λ v. rounding true r₀.text.now q k d b next v) store₀ printer₀ v

  pub list_refused : (r : Run) (f : Fault) → Valued (s.names store₀) (visit q (expression r₀.text.now e)) r₀ r (Err f) → Ran s p (listing r₀.text.now q k d e b next) r₀ r store₀ store₀ printer₀ printer₀ (Err f)
  list_refused r f w = ran_stops s p (λ v. rounding true r₀.text.now q k d b next v) (does_ran s p (visit q (expression r₀.text.now e)) r₀ r store₀ printer₀ (Err f) w)

  pub rounds_from : (r : Run) → Valued (s.names store₀) (visit q (expression r₀.text.now e)) r₀ r (Ok tt) → Still r₀ r → Rounding s p q k d e b next 0 r₀ r store₀ store₀ printer₀ printer₀
  rounds_from r w still = record {
    list = w.0;
    waits = w.1;
    reaches = ran_on s p (λ v. rounding true r₀.text.now q k d b next v) still.limit (does_ran s p (visit q (expression r₀.text.now e)) r₀ r store₀ printer₀ (Ok w.0) w.2);
  }

module _ {S P : Type 0} {s : store.Ghosts S} {p : printer.Ghosts P} {q : ℕ} {k : KeyName} {d : List ℕ} {e : Expr} {b next : Block} {r₀ : Run} {store₀ : S} {printer₀ : P} where
  module _ {i : ℕ} {r : Run} {store₁ : S} {printer₁ : P} (turn : Rounding s p q k d e b next i r₀ r store₀ store₁ printer₀ printer₁) (still : Still r₀ r) where
    module _ (x : Elem) (at : slice_get (top_value (slots r)) i ≡ Some x) where
      -- a round is left, and others behind it
      round_left : Reaches s p (listing r₀.text.now q k d e b next) r₀ r store₀ store₁ printer₀ printer₁ (round_start (i == 0) q k d x >>= λ u. block r₀.text.now b >>= λ u. rounding false r₀.text.now q k d b next (drop (i + 1) turn.list))
      round_left =
          let h : slice_get turn.list i ≡ Some x = ap (λ vs. slice_get (top_value vs) i) (sym turn.waits) ∙ at in
          reaches_means s p (ap (rounding (i == 0) r₀.text.now q k d b next) (element_first turn.list i x h) ∙ one_round (i == 0) q k d (block r₀.text.now b) (block r₀.text.now next) x (drop (i + 1) turn.list)) turn.reaches

      pub round_refused : (r' : Run) (store₂ : S) (printer₂ : P) (f : Fault) → Ran s p (round_start (i == 0) q k d x) r r' store₁ store₂ printer₁ printer₂ (Err f) → Ran s p (listing r₀.text.now q k d e b next) r₀ r' store₀ store₂ printer₀ printer₂ (Err f)
      round_refused r' store₂ printer₂ f h = reaches_stop s p (round_start (i == 0) q k d x) (λ u. block r₀.text.now b >>= λ u. rounding false r₀.text.now q k d b next (drop (i + 1) turn.list)) round_left h

      module _ (r' : Run) (store₂ : S) (printer₂ : P) (start : Ran s p (round_start (i == 0) q k d x) r r' store₁ store₂ printer₁ printer₂ (Ok tt)) (still' : Still r r') where
        block_left : Reaches s p (listing r₀.text.now q k d e b next) r₀ r' store₀ store₂ printer₀ printer₂ (block r₀.text.now b >>= λ u. rounding false r₀.text.now q k d b next (drop (i + 1) turn.list))
        block_left = reaches_on s p (round_start (i == 0) q k d x) (λ u. block r₀.text.now b >>= λ u. rounding false r₀.text.now q k d b next (drop (i + 1) turn.list)) round_left start still'.limit

        pub body_refused : (r'' : Run) (store₃ : S) (printer₃ : P) (f : Fault) → Ran s p (block r'.text.now b) r' r'' store₂ store₃ printer₂ printer₃ (Err f) → Ran s p (listing r₀.text.now q k d e b next) r₀ r'' store₀ store₃ printer₀ printer₃ (Err f)
        body_refused r'' store₃ printer₃ f h = reaches_stop s p (block r₀.text.now b) (λ u. rounding false r₀.text.now q k d b next (drop (i + 1) turn.list)) block_left (ran_still s p (λ text. block text b) (still_then still still') h)

        pub rounds_on : (r'' : Run) (store₃ : S) (printer₃ : P) → slots r' ≡ slots r → Ran s p (block r'.text.now b) r' r'' store₂ store₃ printer₂ printer₃ (Ok tt) → slots r'' ≡ slots r' → Still r' r''
            → Rounding s p q k d e b next (i + 1) r₀ r'' store₀ store₃ printer₀ printer₃
        rounds_on r'' store₃ printer₃ level h level' still'' = record {
          list = turn.list;
          waits = level' ∙ level ∙ turn.waits;
          reaches = reaches_means s p (ap (λ first. rounding first r₀.text.now q k d b next (drop (i + 1) turn.list)) (not_first i)) (reaches_on s p (block r₀.text.now b) (λ u. rounding false r₀.text.now q k d b next (drop (i + 1) turn.list)) block_left (ran_still s p (λ text. block text b) (still_then still still') h) still''.limit);
        }

    pub none_behind : (v : values.Value) → value_means v ≡ top_value (slots r) → 16 ≤ i → drop i turn.list ≡ []
    none_behind v is h =
        let all : value_means v ≡ turn.list = is ∙ ap top_value turn.waits in
        drop_all i turn.list (omega (arith, few_elements v, ap length all))

    pub no_round : slice_get (top_value (slots r)) i ≡ None → drop i turn.list ≡ []
    no_round h = none_left turn.list i (ap (λ vs. slice_get (top_value vs) i) (sym turn.waits) ∙ h)

    pub rounds_end : drop i turn.list ≡ [] → Reaches s p (listing r₀.text.now q k d e b next) r₀ r store₀ store₁ printer₀ printer₁ (block r₀.text.now next)
    rounds_end none = reaches_means s p (ap (rounding (i == 0) r₀.text.now q k d b next) none) turn.reaches
