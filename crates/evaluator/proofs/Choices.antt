-- How an IF, ELIF or ELSE runs. Assumes nothing.
use Rattle.std.proofs.Common.{◌≡◌, ℕ, Bool, true, false, cond, Ok, Err, Result, List, ◌++◌, refl, ap, ◌∙◌}
use Rattle.std.specs.Borrow.{Bor}
use Rattle.std.specs.Result.{IsErrAnd}
use Rattle.effects.specs.Effects.{◌>>=◌, Print}
use Rattle.evaluator.specs.Blocks.{Left, rest, arms_then, left_print, Leaves, Ran, Advanced}
use Rattle.evaluator.specs.Runs.{Still, Does, Fits, Level}
use Rattle.evaluator.specs.declared.run.Run.{Run}
use Rattle.evaluator.proofs.Composing.{does_ran, Reaches, reaches_means, means_reaches, reaches_on, reaches_stop, ran_on, ran_stops, ran_still, stops, advances}
use Rattle.evaluator.proofs.Kept.{still_then, leaves_kept}
use Rattle.evaluator.proofs.Shapes.{Chosen, after_arms, Reached}
use Rattle.meaning.specs.Meaning.{test, block, arms}
use Rattle.printer.specs.declared.Printer as printer
use Rattle.refusals.specs.declared.fault.Fault.{Fault}
use Rattle.store.specs.declared.Store as store
use Rattle.trees.specs.Flat.{flatten_block, flatten_arms}
use Rattle.trees.specs.Tree.{Expr, Block, Arms}
use Rattle.trees.specs.declared.Node.{Node}

-- ---- an IF or ELIF

module _ {S P : Type 0} (s : store.Ghosts S) (p : printer.Ghosts P) where
  -- what the functions promise that work out a condition and run a block
  abbrev Tested : Run → Run → S → ℕ → List Node → Result Bool Fault → Type 0
  Tested r r₁ store₀ q cs o = (e : Expr) → Fits r cs e → Does (s.names store₀) (test r.text.now q e) r r₁ o × Level r r₁ o

  abbrev Blocked : Run → Run → S → S → P → P → List Node → Result (Unit {0}) Fault → Type 0
  Blocked r r₁ store₀ store₁ printer₀ printer₁ bs o = (b : Block) → Leaves r bs (rest b) → Ran s p (block r.text.now b) r r₁ store₀ store₁ printer₀ printer₁ o × Level r r₁ o

  module _ {r : Run} {cs bs left : List Node} {q : ℕ} {x : Left} (w : Chosen r cs bs left q x) (store₀ : S) (printer₀ : P) where
    -- the print is that of the condition, and then that of the block or the arms
    branch : Bool → Print
    branch y = cond y (block r.text.now w.b) (arms r.text.now w.others) >>= λ u. block r.text.now w.next

    choice_goes : (r₁ : Run) {yes : Bool} → Tested r r₁ store₀ q cs (Ok yes) → Still r r₁ → Reaches s p (left_print r.text.now x) r r₁ store₀ store₀ printer₀ printer₀ (branch yes)
    unfolding branch
    choice_goes r₁ {yes} tested still = means_reaches s p (w.means r.text.now) (ran_on s p branch still.limit (does_ran s p (test r.text.now q w.c) r r₁ store₀ printer₀ (Ok yes) (tested w.c w.condition).0))

    -- the condition is refused
    pub choice_refused : (r₁ : Run) {e : Fault} (o : Result (Bor (List Node)) Fault) → IsErrAnd o (λ y. y ≡ e) → Tested r r₁ store₀ q cs (Err e) → Advanced s p x r r₁ store₀ store₀ printer₀ printer₀ o
    unfolding branch
    choice_refused r₁ {e} o by tested = stops s p x o by (w.means r.text.now) (ran_stops s p branch (does_ran s p (test r.text.now q w.c) r r₁ store₀ printer₀ (Err e) (tested w.c w.condition).0))

    -- it is 0: what follows the block is left
    pub choice_fails : (r₁ : Run) (ns : Bor (List Node)) {yes : Bool} → Tested r r₁ store₀ q cs (Ok yes) → Still r r₁ → yes ≡ false → ns.now ≡ left → Advanced s p x r r₁ store₀ store₀ printer₀ printer₀ (Ok ns)
    unfolding branch
    choice_fails r₁ ns tested still fails is =
        let level = (tested w.c w.condition).1 in
        advances s p x (arms_then w.others w.next) ns (reaches_means s p (ap branch fails) (choice_goes r₁ tested still)) (leaves_kept still level is w.behind) level

    -- it is not 0, and the block is refused, or is done and no later arm is looked at
    module _ (r₁ r₂ : Run) (store₁ : S) (printer₁ : P) {yes : Bool} (tested : Tested r r₁ store₀ q cs (Ok yes)) (still : Still r r₁) (holds : yes ≡ true) where
      block_starts : Reaches s p (left_print r.text.now x) r r₁ store₀ store₀ printer₀ printer₀ (block r.text.now w.b >>= λ u. block r.text.now w.next)
      unfolding branch
      block_starts = reaches_means s p (ap branch holds) (choice_goes r₁ tested still)

      block_does : {o : Result (Unit {0}) Fault} → Blocked r₁ r₂ store₀ store₁ printer₀ printer₁ bs o → Ran s p (block r.text.now w.b) r₁ r₂ store₀ store₁ printer₀ printer₁ o × Level r₁ r₂ o
      block_does ran =
          let d = ran w.b (leaves_kept still (tested w.c w.condition).1 refl w.body) in
          (ran_still s p (λ text. block text w.b) still d.0, d.1)

      pub choice_stops : {e : Fault} (o : Result (Bor (List Node)) Fault) → IsErrAnd o (λ y. y ≡ e) → Blocked r₁ r₂ store₀ store₁ printer₀ printer₁ bs (Err e) → Advanced s p x r r₂ store₀ store₁ printer₀ printer₁ o
      choice_stops o by ran = stops s p x o by refl (reaches_stop s p (block r.text.now w.b) (λ u. block r.text.now w.next) block_starts (block_does ran).0)

      pub choice_holds : (ns : Bor (List Node)) → Blocked r₁ r₂ store₀ store₁ printer₀ printer₁ bs (Ok tt) → Still r₁ r₂ → ((others : Arms) (ms : List Node) → left ≡ flatten_arms others ++ ms → ns.now ≡ ms)
          → Advanced s p x r r₂ store₀ store₁ printer₀ printer₁ (Ok ns)
      choice_holds ns ran still' past =
          let d = block_does ran in
          let level = d.1 ∙ (tested w.c w.condition).1 in
          let behind = leaves_kept (still_then still still') level refl w.behind in
          advances s p x (rest w.next) ns (reaches_on s p (block r.text.now w.b) (λ u. block r.text.now w.next) block_starts d.0 still'.limit)
          (after_arms r₂ left ns.now w.others w.next behind (past w.others (flatten_block w.next) w.behind.nodes)) level

-- ---- an ELSE

module _ {S P : Type 0} (s : store.Ghosts S) (p : printer.Ghosts P) {r : Run} {bs left : List Node} {x : Left} (w : Reached r bs left x) (r₁ : Run) (store₀ store₁ : S) (printer₀ printer₁ : P) where
  -- the print is that of the block, and then that of what stands behind
  then_behind : Unit {0} → Print
  then_behind u = left_print r.text.now (arms_then w.end w.next)

  pub else_stops : {e : Fault} (o : Result (Bor (List Node)) Fault) → IsErrAnd o (λ y. y ≡ e) → Blocked s p r r₁ store₀ store₁ printer₀ printer₁ bs (Err e) → Advanced s p x r r₁ store₀ store₁ printer₀ printer₁ o
  unfolding then_behind
  else_stops o by ran = stops s p x o by (w.means r.text.now) (ran_stops s p then_behind (ran w.b w.body).0)

  pub else_ends : (ns : Bor (List Node)) → Blocked s p r r₁ store₀ store₁ printer₀ printer₁ bs (Ok tt) → Still r r₁ → ns.now ≡ left → Advanced s p x r r₁ store₀ store₁ printer₀ printer₁ (Ok ns)
  unfolding then_behind
  else_ends ns ran still is =
      let d = ran w.b w.body in
      advances s p x (arms_then w.end w.next) ns (means_reaches s p (w.means r.text.now) (ran_on s p then_behind still.limit d.0)) (leaves_kept still d.1 is w.behind) d.1
