-- How what is promised of two programs makes what is promised of one after the other. Assumes nothing.
use Rattle.std.proofs.Common.{◌≡◌, ℕ, List, ◌∷◌, Bor, IsErrAnd, ℤ, Some, Ok, Err, Result, sym, refl, ap, ◌∙◌, subst}
use Rattle.effects.specs.Effects.{Program, return, visit, ◌>>=◌, or_fail, Limits, State, Outcome, exec, told}
use Rattle.effects.proofs.Programs.{exec_bind, on}
use Rattle.evaluator.specs.declared.run.Run.{Run}
use Rattle.evaluator.specs.Blocks.{Inks, Puts, Left, left_print, Leaves, Shows, Sets, Ran, Advanced, stands, limits}
use Rattle.evaluator.specs.Runs.{slots, state, result_as, Does, Valued, Fits, OnlyValues, Still, Visited}
use Rattle.evaluator.specs.Turns.{top_value}
use Rattle.evaluator.proofs.Exits.{broke, faulted}
use Rattle.evaluator.proofs.Kept.{fits_kept}
use Rattle.keys.specs.KeyOrder.{KeyName}
use Rattle.meaning.specs.Meaning.{Value, expression, print, assign}
use Rattle.operations.specs.Operators.{operand}
use Rattle.printer.specs.declared.Printer as printer
use Rattle.refusals.specs.declared.fault.Fault.{Fault}
use Rattle.refusals.specs.Errors.{Error, refused_by}
use Rattle.stacks.specs.Stacked.{rest}
use Rattle.store.specs.declared.Store as store
use Rattle.store.specs.Names.{Names}
use Rattle.trees.specs.declared.Node.{Node}
use Rattle.trees.specs.Tree.{Expr}

-- ---- from and to any states

module _ {A B : Type 0} (L : Limits) (m : Program A) (k : A → Program B) (t t₁ : State) where
  -- where the first is done, the second goes on
  pub told_on : (x : A) → told (Ok x) t₁ ≡ exec L m t → exec L (m >>= k) t ≡ exec L (k x) t₁
  told_on x h = exec_bind L m k t ∙ ap (λ (w : Outcome A). on L w k) (sym h)

  told_then : (x : A) (o : Result B Fault) (t₂ : State) → told (Ok x) t₁ ≡ exec L m t → told o t₂ ≡ exec L (k x) t₁ → told o t₂ ≡ exec L (m >>= k) t
  told_then x o t₂ h q = q ∙ sym (told_on x h)

  -- where the first is refused, so are both
  told_stops : (f : Fault) → told {A = A} (Err f) t₁ ≡ exec L m t → told {A = B} (Err f) t₁ ≡ exec L (m >>= k) t
  told_stops f h = ap (λ (w : Outcome A). on L w k) h ∙ sym (exec_bind L m k t)

-- ---- what has no part in the paper or the names, one after another

module _ (ns : Names) where
  module _ {A B : Type 0} (m : Program A) (k : A → Program B) where
    pub does_then : (r r₁ r₂ : Run) (x : A) (o : Result B Fault) → r₁.limit ≡ r.limit → Does ns m r r₁ (Ok x) → Does ns (k x) r₁ r₂ o → Does ns (m >>= k) r r₂ o
    does_then r r₁ r₂ x o e h q = λ L paper' l. told_then L m k (state r ns paper') (state r₁ ns paper') x o (state r₂ ns paper') (h L paper' l) (q L paper' (l ∙ sym e))

    pub does_stops : (r r₁ : Run) (f : Fault) → Does ns m r r₁ (Err f) → Does ns (m >>= k) r r₁ (Err f)
    does_stops r r₁ f h = λ L paper' l. told_stops L m k (state r ns paper') (state r₁ ns paper') f (h L paper' l)

  module _ {A : Type 0} (m : Program A) where
    -- a visit first
    pub does_visited : {p : ℕ} {r r₁ : Run} (r₂ : Run) (u : Unit {0}) (o : Result A Fault) → Visited p r r₁ (Ok u) → Does ns m r₁ r₂ o → Does ns (visit p m) r r₂ o
    does_visited {p} {r} {r₁} r₂ u o v q = does_then (visit p (return tt)) (λ u. m) r r₁ r₂ u o v.still.limit (v.does ns) q

    pub does_unvisited : {p : ℕ} {r r₁ : Run} (f : Fault) → Visited p r r₁ (Err f) → Does ns (visit p m) r r₁ (Err f)
    does_unvisited {p} {r} {r₁} f v = does_stops (visit p (return tt)) (λ u. m) r r₁ f (v.does ns)

    -- values that are put on the stack, or taken from it, change nothing of it
    pub does_up_to : {r₁ r₂ : Run} (r : Run) (o : Result A Fault) → OnlyValues r₁ r₂ → Does ns m r r₁ o → Does ns m r r₂ o
    does_up_to r o v h = λ L paper' l. ap (λ n. told o (record { steps = n; names = ns; paper = paper' })) v.steps ∙ h L paper' l

  -- what is made of a result, or the error of what stands at a place
  does_judge : {A B : Type 0} (p : ℕ) (r : Run) (g : A → B) (a : Result A Error) → Does ns (or_fail p a >>= λ n. return (g n)) r r (result_as g (faulted p (refused_by a)))
  does_judge p r g (Ok n) = λ L paper' l. refl
  does_judge p r g (Err e) = λ L paper' l. refl

  -- an expression behind the visit of its instruction
  pub visited_valued : {q : ℕ} {r r₁ : Run} {nodes : List Node} {e : Expr} (r₂ : Run) (o : Result (Unit {0}) Fault) (u : Unit {0}) → Visited q r r₁ (Ok u) → Fits r nodes e → ((e : Expr) → Fits r₁ nodes e → Valued ns (expression r₁.text.now e) r₁ r₂ o)
      → Valued ns (visit q (expression r.text.now e)) r r₂ o
  visited_valued {q} {r} {r₁} {nodes} {e} r₂ (Ok t) u v fits h =
      let w = subst (λ text. Valued ns (expression text e) r₁ r₂ (Ok t)) v.still.text (h e (fits_kept v.still v.values refl fits)) in
      (w.0, w.1 ∙ ap (λ vs. Some w.0 ∷ vs) v.values, does_visited (expression r.text.now e) r₂ u (Ok w.0) v w.2)
  visited_valued {q} {r} {r₁} {nodes} {e} r₂ (Err f) u v fits h =
      let w = subst (λ text. Valued ns (expression text e) r₁ r₂ (Err f)) v.still.text (h e (fits_kept v.still v.values refl fits)) in
      does_visited (expression r.text.now e) r₂ u (Err f) v w

  -- the operand of the value that m leaves on top, and what g makes of it
  pub operand_does : {A : Type 0} (m : Program Value) (p : ℕ) (g : ℤ → A) (r r₁ r₂ : Run) (u : Unit {0}) (v : Value) (o : Result ℤ Fault)
      → Valued ns m r r₁ (Ok u) → r₁.limit ≡ r.limit → OnlyValues r₁ r₂ → v ≡ top_value (slots r₁) → slots r₂ ≡ rest (slots r₁) → o ≡ faulted p (refused_by (operand v))
      → Does ns (m >>= λ v. or_fail p (operand v) >>= λ a. return (g a)) r r₂ (result_as g o) × (slots r₂ ≡ slots r)
  operand_does m p g r r₁ r₂ u v o w limit only top below is =
      let same : o ≡ faulted p (refused_by (operand w.0)) = is ∙ ap (λ v. faulted p (refused_by (operand v))) (top ∙ ap top_value w.1) in (
        subst (λ o. Does ns (m >>= λ v. or_fail p (operand v) >>= λ a. return (g a)) r r₂ (result_as g o)) (sym same)
            (does_then m (λ v. or_fail p (operand v) >>= λ a. return (g a)) r r₂ r₂ w.0 (result_as g (faulted p (refused_by (operand w.0)))) (only.limit ∙ limit) (does_up_to m r (Ok w.0) only w.2) (does_judge p r₂ g (operand w.0))),
        below ∙ ap rest w.1,
      )

-- ---- what has no part in the names, one after another

module _ {P : Type 0} (p : printer.Ghosts P) where
  pub inks_shows : {place : ℕ} {bs : List ℕ} {printer₀ printer₁ : P} {o : Result (Unit {0}) Fault} (r : Run) → Inks p place bs printer₀ printer₁ o → Shows p (print place bs) r r printer₀ printer₁ o
  inks_shows r h = λ ns L l c. h.outcome r.steps ns L c

  module _ {A : Type 0} (m : Program A) where
    pub shows_visited : {q : ℕ} {r r₁ : Run} (r₂ : Run) (printer₀ printer₁ : P) (u : Unit {0}) (o : Result A Fault) → Visited q r r₁ (Ok u) → Shows p m r₁ r₂ printer₀ printer₁ o → Shows p (visit q m) r r₂ printer₀ printer₁ o
    shows_visited {q} {r} {r₁} r₂ printer₀ printer₁ u o v h = λ ns L l c.
        told_then L (visit q (return tt)) (λ u. m) (state r ns (p.taken printer₀)) (state r₁ ns (p.taken printer₀)) u o (state r₂ ns (p.taken printer₁)) (v.does ns L (p.taken printer₀) l)
        (h ns L (l ∙ sym v.still.limit) c)

    pub shows_unvisited : {q : ℕ} {r r₁ : Run} {f : Fault} (printer₀ : P) → Visited q r r₁ (Err f) → Shows p (visit q m) r r₁ printer₀ printer₀ (Err f)
    shows_unvisited {q} {r} {r₁} {f} printer₀ v = λ ns L l c. does_unvisited ns m f v L (p.taken printer₀) l

-- ---- what has no part in the paper, one after another

module _ {S : Type 0} (s : store.Ghosts S) where
  pub puts_sets : {place : ℕ} {k : KeyName} {v : Value} {store₀ store₁ : S} {o : Result (Unit {0}) Fault} (r : Run) → Puts s place k v store₀ store₁ o → Sets s (assign place k v) r r store₀ store₁ o
  puts_sets r h = λ paper' L l c. h.outcome r.steps paper' L c

  module _ {A : Type 0} (m : Program A) where
    pub does_sets : (r r₁ : Run) (store₀ : S) (o : Result A Fault) → Does (s.names store₀) m r r₁ o → Sets s m r r₁ store₀ store₀ o
    does_sets r r₁ store₀ o h = λ paper' L l c. h L paper' l

    -- what has no part in either first
    pub sets_then : {B : Type 0} (k : A → Program B) (r r₁ r₂ : Run) (store₀ store₁ : S) (x : A) (o : Result B Fault) → r₁.limit ≡ r.limit → Does (s.names store₀) m r r₁ (Ok x) → Sets s (k x) r₁ r₂ store₀ store₁ o → Sets s (m >>= k) r r₂ store₀ store₁ o
    sets_then k r r₁ r₂ store₀ store₁ x o e h q = λ paper' L l c.
        told_then L m k (state r (s.names store₀) paper') (state r₁ (s.names store₀) paper') x o (state r₂ (s.names store₁) paper') (h L paper' l) (q paper' L (l ∙ sym e) c)

-- ---- how far a print has come

-- the program m from where the print stands now does what m₀ does from where it stood
pub record Reaches {S P A : Type 0} (s : store.Ghosts S) (p : printer.Ghosts P) (m₀ : Program A) (r₀ r : Run) (store₀ store₁ : S) (printer₀ printer₁ : P) (m : Program A) : Type 0 where
  pub left : exec (limits s p r store₁ printer₁) m (stands s p r store₁ printer₁) ≡ exec (limits s p r₀ store₀ printer₀) m₀ (stands s p r₀ store₀ printer₀)
  pub names : s.capacity store₁ ≡ s.capacity store₀
  pub paper : p.capacity printer₁ ≡ p.capacity printer₀

-- ---- what has a part in all, one after another

module _ {S P : Type 0} (s : store.Ghosts S) (p : printer.Ghosts P) where
  pub does_ran : {A : Type 0} (m : Program A) (r r₁ : Run) (store₀ : S) (printer₀ : P) (o : Result A Fault) → Does (s.names store₀) m r r₁ o → Ran s p m r r₁ store₀ store₀ printer₀ printer₀ o
  does_ran m r r₁ store₀ printer₀ o h = record { outcome = h (limits s p r store₀ printer₀) (p.taken printer₀) refl; names = refl; paper = refl }

  pub shows_ran : {A : Type 0} (m : Program A) (r r₁ : Run) (store₀ : S) (printer₀ printer₁ : P) (o : Result A Fault) → p.capacity printer₁ ≡ p.capacity printer₀ → Shows p m r r₁ printer₀ printer₁ o → Ran s p m r r₁ store₀ store₀ printer₀ printer₁ o
  shows_ran m r r₁ store₀ printer₀ printer₁ o c h = record { outcome = h (s.names store₀) (limits s p r store₀ printer₀) refl refl; names = refl; paper = c }

  pub sets_ran : {A : Type 0} (m : Program A) (r r₁ : Run) (store₀ store₁ : S) (printer₀ : P) (o : Result A Fault) → s.capacity store₁ ≡ s.capacity store₀ → Sets s m r r₁ store₀ store₁ o → Ran s p m r r₁ store₀ store₁ printer₀ printer₀ o
  sets_ran m r r₁ store₀ store₁ printer₀ o c h = record { outcome = h (p.taken printer₀) (limits s p r store₀ printer₀) refl refl; names = c; paper = refl }

  pub inks_ran : {place : ℕ} {bs : List ℕ} {printer₀ printer₁ : P} {o : Result (Unit {0}) Fault} (r : Run) (store₀ : S) → Inks p place bs printer₀ printer₁ o → Ran s p (print place bs) r r store₀ store₀ printer₀ printer₁ o
  inks_ran r store₀ h = shows_ran _ r r store₀ _ _ _ h.capacity (inks_shows p r h)

  pub puts_ran : {place : ℕ} {k : KeyName} {v : Value} {store₀ store₁ : S} {o : Result (Unit {0}) Fault} (r : Run) (printer₀ : P) → Puts s place k v store₀ store₁ o → Ran s p (assign place k v) r r store₀ store₁ printer₀ printer₀ o
  puts_ran r printer₀ h = sets_ran _ r r _ _ printer₀ _ h.capacity (puts_sets s r h)

  -- the same limits, where none of them changed
  same_limits : (r r₁ : Run) (store₀ store₁ : S) (printer₀ printer₁ : P) → r₁.limit ≡ r.limit → s.capacity store₁ ≡ s.capacity store₀ → p.capacity printer₁ ≡ p.capacity printer₀ → limits s p r₁ store₁ printer₁ ≡ limits s p r store₀ printer₀
  same_limits r r₁ store₀ store₁ printer₀ printer₁ e n c i = record { steps = e i; names = n i; paper = c i }

  module _ {A : Type 0} {m₀ m : Program A} {r₀ r r₁ : Run} {store₀ store₁ store₂ : S} {printer₀ printer₁ printer₂ : P} (h : Reaches s p m₀ r₀ r store₀ store₁ printer₀ printer₁ m) where
    reaches_then : {m' : Program A} → Reaches s p m r r₁ store₁ store₂ printer₁ printer₂ m' → Reaches s p m₀ r₀ r₁ store₀ store₂ printer₀ printer₂ m'
    reaches_then q = record { left = q.left ∙ h.left; names = q.names ∙ h.names; paper = q.paper ∙ h.paper }

    reaches_ran : {o : Result A Fault} → Ran s p m r r₁ store₁ store₂ printer₁ printer₂ o → Ran s p m₀ r₀ r₁ store₀ store₂ printer₀ printer₂ o
    reaches_ran q = record { outcome = q.outcome ∙ h.left; names = q.names ∙ h.names; paper = q.paper ∙ h.paper }

  -- where a print begins
  pub reaches_start : {A : Type 0} (m : Program A) (r : Run) (store₀ : S) (printer₀ : P) → Reaches s p m r r store₀ store₀ printer₀ printer₀ m
  reaches_start m r store₀ printer₀ = record { left = refl; names = refl; paper = refl }

  module _ {A : Type 0} {m₀ m : Program A} {r₀ r : Run} {store₀ store₁ : S} {printer₀ printer₁ : P} where
    -- the same programs, written in another way
    pub reaches_means : {m' : Program A} → m ≡ m' → Reaches s p m₀ r₀ r store₀ store₁ printer₀ printer₁ m → Reaches s p m₀ r₀ r store₀ store₁ printer₀ printer₁ m'
    reaches_means e h = subst (λ m. Reaches s p m₀ r₀ r store₀ store₁ printer₀ printer₁ m) e h

    pub means_reaches : {m' : Program A} → m' ≡ m₀ → Reaches s p m₀ r₀ r store₀ store₁ printer₀ printer₁ m → Reaches s p m' r₀ r store₀ store₁ printer₀ printer₁ m
    means_reaches e h = subst (λ m₀. Reaches s p m₀ r₀ r store₀ store₁ printer₀ printer₁ m) (sym e) h

    -- values that are taken from the stack are no part of what a program does
    pub reaches_popped : {r₁ : Run} → Reaches s p m₀ r₀ r store₀ store₁ printer₀ printer₁ m → OnlyValues r r₁ → Reaches s p m₀ r₀ r₁ store₀ store₁ printer₀ printer₁ m
    reaches_popped h v = record {
      left = (λ i. exec (record { steps = v.limit i; names = s.capacity store₁; paper = p.capacity printer₁ }) m (record { steps = v.steps i; names = s.names store₁; paper = p.taken printer₁ })) ∙ h.left;
      names = h.names;
      paper = h.paper;
    }

    -- all is done
    pub reaches_end : {a : A} → Reaches s p m₀ r₀ r store₀ store₁ printer₀ printer₁ m → m ≡ return a → Ran s p m₀ r₀ r store₀ store₁ printer₀ printer₁ (Ok a)
    reaches_end h e = reaches_ran (reaches_means e h) (record { outcome = refl; names = refl; paper = refl })

  -- the text stays
  pub ran_still : {A : Type 0} (m : List ℕ → Program A) {r r₁ r₂ : Run} {store₀ store₁ : S} {printer₀ printer₁ : P} {o : Result A Fault} → Still r r₁ → Ran s p (m r₁.text.now) r₁ r₂ store₀ store₁ printer₀ printer₁ o → Ran s p (m r.text.now) r₁ r₂ store₀ store₁ printer₀ printer₁ o
  ran_still m {r} {r₁} {r₂} {store₀} {store₁} {printer₀} {printer₁} {o} still h = subst (λ text. Ran s p (m text) r₁ r₂ store₀ store₁ printer₀ printer₁ o) still.text h

  module _ {A B : Type 0} {m : Program A} (k : A → Program B) where
    -- what is left once the first is done
    pub ran_on : {r r₁ : Run} {store₀ store₁ : S} {printer₀ printer₁ : P} {x : A} → r₁.limit ≡ r.limit → Ran s p m r r₁ store₀ store₁ printer₀ printer₁ (Ok x) → Reaches s p (m >>= k) r r₁ store₀ store₁ printer₀ printer₁ (k x)
    ran_on {r} {r₁} {store₀} {store₁} {printer₀} {printer₁} {x} e h = record {
      left = ap (λ L. exec L (k x) (stands s p r₁ store₁ printer₁)) (same_limits r r₁ store₀ store₁ printer₀ printer₁ e h.names h.paper)
          ∙ sym (told_on (limits s p r store₀ printer₀) m k (stands s p r store₀ printer₀) (stands s p r₁ store₁ printer₁) x h.outcome);
      names = h.names;
      paper = h.paper;
    }

    -- where the first is refused, so are both
    pub ran_stops : {r r₁ : Run} {store₀ store₁ : S} {printer₀ printer₁ : P} {f : Fault} → Ran s p m r r₁ store₀ store₁ printer₀ printer₁ (Err f) → Ran s p (m >>= k) r r₁ store₀ store₁ printer₀ printer₁ (Err f)
    ran_stops {r} {r₁} {store₀} {store₁} {printer₀} {printer₁} {f} h = record {
      outcome = told_stops (limits s p r store₀ printer₀) m k (stands s p r store₀ printer₀) (stands s p r₁ store₁ printer₁) f h.outcome;
      names = h.names;
      paper = h.paper;
    }

    pub ran_then : {r r₁ r₂ : Run} {store₀ store₁ store₂ : S} {printer₀ printer₁ printer₂ : P} {x : A} {o : Result B Fault} → r₁.limit ≡ r.limit → Ran s p m r r₁ store₀ store₁ printer₀ printer₁ (Ok x) → Ran s p (k x) r₁ r₂ store₁ store₂ printer₁ printer₂ o → Ran s p (m >>= k) r r₂ store₀ store₂ printer₀ printer₂ o
    ran_then e h q = reaches_ran (ran_on e h) q

  module _ {A B : Type 0} {m₀ : Program B} (m : Program A) (k : A → Program B) {r₀ r r₁ : Run} {store₀ store₁ store₂ : S} {printer₀ printer₁ printer₂ : P} (h : Reaches s p m₀ r₀ r store₀ store₁ printer₀ printer₁ (m >>= k)) where
    -- one part more is done
    pub reaches_on : {x : A} → Ran s p m r r₁ store₁ store₂ printer₁ printer₂ (Ok x) → r₁.limit ≡ r.limit → Reaches s p m₀ r₀ r₁ store₀ store₂ printer₀ printer₂ (k x)
    reaches_on q e = reaches_then h (ran_on k e q)

    -- a part is refused
    pub reaches_stop : {f : Fault} → Ran s p m r r₁ store₁ store₂ printer₁ printer₂ (Err f) → Ran s p m₀ r₀ r₁ store₀ store₂ printer₀ printer₂ (Err f)
    reaches_stop q = reaches_ran h (ran_stops k q)

  module _ {A : Type 0} (m : Program A) where
    -- a visit first
    pub ran_visited : {q : ℕ} {r r₁ r₂ : Run} {store₀ store₁ : S} {printer₀ printer₁ : P} {u : Unit {0}} {o : Result A Fault} → Visited q r r₁ (Ok u) → Ran s p m r₁ r₂ store₀ store₁ printer₀ printer₁ o → Ran s p (visit q m) r r₂ store₀ store₁ printer₀ printer₁ o
    ran_visited {q} {r} {r₁} {r₂} {store₀} {store₁} {printer₀} {printer₁} {u} v h = ran_then (λ u. m) v.still.limit (does_ran (visit q (return tt)) r r₁ store₀ printer₀ (Ok u) (v.does (s.names store₀))) h

    pub ran_unvisited : {q : ℕ} {r r₁ : Run} {f : Fault} (store₀ : S) (printer₀ : P) → Visited q r r₁ (Err f) → Ran s p (visit q m) r r₁ store₀ store₀ printer₀ printer₀ (Err f)
    ran_unvisited {q} {r} {r₁} {f} store₀ printer₀ v = does_ran (visit q m) r r₁ store₀ printer₀ (Err f) (does_unvisited (s.names store₀) m f v)

    -- values that are put on the stack, or taken from it, change nothing of it
    pub ran_up_to : {r r₁ r₂ : Run} {store₀ store₁ : S} {printer₀ printer₁ : P} {o : Result A Fault} → OnlyValues r₁ r₂ → Ran s p m r r₁ store₀ store₁ printer₀ printer₁ o → Ran s p m r r₂ store₀ store₁ printer₀ printer₁ o
    ran_up_to {r} {r₁} {r₂} {store₀} {store₁} {printer₀} {printer₁} {o} v h = record {
      outcome = ap (λ n. told o (record { steps = n; names = s.names store₁; paper = p.taken printer₁ })) v.steps ∙ h.outcome;
      names = h.names;
      paper = h.paper;
    }

  -- ---- instructions

  -- the exit of a `?` in an instruction, which with what is left behind it means m
  pub stops : {m : Program (Unit {0})} (x : Left) {r r₁ : Run} {store₀ store₁ : S} {printer₀ printer₁ : P} {f : Fault} (o : Result (Bor (List Node)) Fault) → IsErrAnd o (λ y. y ≡ f) → left_print r.text.now x ≡ m
      → Ran s p m r r₁ store₀ store₁ printer₀ printer₁ (Err f) → Advanced s p x r r₁ store₀ store₁ printer₀ printer₁ o
  stops x {r} {r₁} {store₀} {store₁} {printer₀} {printer₁} {f} o by means h = broke (Advanced s p x r r₁ store₀ store₁ printer₀ printer₁) o f by (subst (λ m. Ran s p m r r₁ store₀ store₁ printer₀ printer₁ (Err f)) (sym means) h)

  -- the end of an instruction, before which y is left
  pub advances : (x y : Left) (ns : Bor (List Node)) {r r₁ : Run} {store₀ store₁ : S} {printer₀ printer₁ : P} → Reaches s p (left_print r.text.now x) r r₁ store₀ store₁ printer₀ printer₁ (left_print r.text.now y)
      → Leaves r₁ ns.now y → slots r₁ ≡ slots r → Advanced s p x r r₁ store₀ store₁ printer₀ printer₁ (Ok ns)
  advances x y ns h l level = (y, l, sym h.left, level, h.names, h.paper)
