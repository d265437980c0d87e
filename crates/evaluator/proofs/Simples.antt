-- How an instruction without a block runs, and what is left after it. Assumes nothing.
use Rattle.std.proofs.Common.{◌≡◌, ℕ, false, List, [], ◌∷◌, take, drop, Bor, Ok, Err, Result, sym, refl, ap, ◌∙◌, subst}
use Rattle.effects.specs.Effects.{visit}
use Rattle.evaluator.specs.Blocks.{Left, rest, arms_then, left_print, Leaves, Assigns, has_block, Shows, Sets, Ran, Advanced}
use Rattle.evaluator.specs.Runs.{slots, Fits, Still, Level}
use Rattle.evaluator.specs.declared.run.Run.{Run}
use Rattle.evaluator.proofs.Composing.{shows_ran, sets_ran, ran_on, ran_stops, reaches_start, reaches_means, advances}
use Rattle.evaluator.proofs.Kept.{still_same, level, leaves_kept}
use Rattle.evaluator.proofs.Shapes.{Simple, simple, ended}
use Rattle.meaning.specs.Constants.{part_of}
use Rattle.meaning.specs.Lawful.{Inside, Lawful}
use Rattle.meaning.specs.Meaning.{print, block, statement}
use Rattle.printer.specs.declared.Printer as printer
use Rattle.refusals.specs.declared.fault.Fault.{Fault}
use Rattle.store.specs.declared.Store as store
use Rattle.trees.specs.Tree.{Key, Expr, Block, Statement, Arms, from_to}
use Rattle.trees.specs.declared.Node.TheVariants as node
use Rattle.trees.specs.declared.Node.{Node}
use Rattle.trees.specs.declared.Span.{Span}

-- what comes after an instruction that ended with o, where the nodes ns are left
abbrev Goes : List Node → Result (Unit {0}) Fault → Result (Bor (List Node)) Fault → Type 0
Goes ns (Ok u) (Ok m) = m.now ≡ ns
Goes ns (Ok u) (Err g) = ⊥
Goes ns (Err f) (Ok m) = ⊥
Goes ns (Err f) (Err g) = f ≡ g

-- what plain text means
piece_is : (text : List ℕ) (i j : ℕ) → statement text (Statement.piece i j) ≡ visit i (print i (part_of text (from_to i j)))
unfolding statement
piece_is text i j = refl

dollar_is : (text : List ℕ) (q : ℕ) → statement text (Statement.dollar q) ≡ visit q (print q (36 ∷ []))
unfolding statement
dollar_is text q = refl

module _ {S P : Type 0} (s : store.Ghosts S) (p : printer.Ghosts P) where
  statement_advances : {r r₁ : Run} {ns : List Node} {store₀ store₁ : S} {printer₀ printer₁ : P} (t : Statement) (b : Block) (o : Result (Unit {0}) Fault) (w : Result (Bor (List Node)) Fault)
      → Leaves r ns (rest b) → Still r r₁ → Ran s p (statement r.text.now t) r r₁ store₀ store₁ printer₀ printer₁ o → Level r r₁ o → Goes ns o w → Advanced s p (rest (Block.then t b)) r r₁ store₀ store₁ printer₀ printer₁ w
  unfolding block
  statement_advances {r} t b (Ok u) (Ok m) left still ran same goes = advances s p (rest (Block.then t b)) (rest b) m (ran_on s p (λ u. block r.text.now b) still.limit ran) (leaves_kept still same goes left) same
  statement_advances t b (Ok u) (Err g) left still ran same goes = absurd goes
  statement_advances t b (Err f) (Ok m) left still ran same goes = absurd goes
  statement_advances {r} {r₁} {ns} {store₀} {store₁} {printer₀} {printer₁} t b (Err f) (Err g) left still ran same goes =
      ran_stops s p (λ u. block r.text.now b) (subst (λ f. Ran s p (statement r.text.now t) r r₁ store₀ store₁ printer₀ printer₁ (Err f)) goes ran)

  -- what `simple` answers, by its node
  pub piece_advances : {r r₁ : Run} {n : Node} {ns : List Node} {x : Left} (store₀ : S) (printer₀ printer₁ : P) (span : Span ℕ) (q : ℕ) (bs : List ℕ) (o : Result (Unit {0}) Fault) (w : Result (Bor (List Node)) Fault)
      → has_block n ≡ false → Leaves r (n ∷ ns) x → n ≡ node.Piece span → q ≡ span.«from» → (Inside r.text.now span → bs ≡ part_of r.text.now span)
      → Shows p (visit q (print q bs)) r r₁ printer₀ printer₁ o → p.capacity printer₁ ≡ p.capacity printer₀ → slots r₁ ≡ slots r → Still r r₁ → Goes ns o w → Advanced s p x r r₁ store₀ store₀ printer₀ printer₁ w
  piece_advances {r} {r₁} {n} {ns} {x} store₀ printer₀ printer₁ span q bs o w f h e at read shows c same still goes =
      let text = r.text.now in
      let t = subst (λ n. Simple r n ns x) e (simple r n ns x f h) in
      let m : visit q (print q bs) ≡ statement text (Statement.piece t.0 t.1) =
      ap (λ q. visit q (print q bs)) at ∙ ap (λ (bs : List ℕ). visit span.«from» (print span.«from» bs)) (read (subst (Lawful text) e h.lawful.0))
      ∙ ap (λ (t : Span ℕ). visit t.«from» (print t.«from» (part_of text t))) t.4 ∙ sym (piece_is text t.0 t.1) in
      let ran = shows_ran s p (statement text (Statement.piece t.0 t.1)) r r₁ store₀ printer₀ printer₁ o c (subst (λ m. Shows p m r r₁ printer₀ printer₁ o) m shows) in
      subst (λ x. Advanced s p x r r₁ store₀ store₀ printer₀ printer₁ w) (sym t.3) (statement_advances (Statement.piece t.0 t.1) t.2 o w t.5 still ran (level r r₁ o same) goes)

  pub dollar_advances : {r r₁ : Run} {n : Node} {ns : List Node} {x : Left} (store₀ : S) (printer₀ printer₁ : P) (q₀ q : ℕ) (o : Result (Unit {0}) Fault) (w : Result (Bor (List Node)) Fault)
      → has_block n ≡ false → Leaves r (n ∷ ns) x → n ≡ node.Dollar q₀ → q ≡ q₀
      → Shows p (visit q (print q (36 ∷ []))) r r₁ printer₀ printer₁ o → p.capacity printer₁ ≡ p.capacity printer₀ → slots r₁ ≡ slots r → Still r r₁ → Goes ns o w → Advanced s p x r r₁ store₀ store₀ printer₀ printer₁ w
  dollar_advances {r} {r₁} {n} {ns} {x} store₀ printer₀ printer₁ q₀ q o w f h e at shows c same still goes =
      let text = r.text.now in
      let t = subst (λ n. Simple r n ns x) e (simple r n ns x f h) in
      let m : visit q (print q (36 ∷ [])) ≡ statement text (Statement.dollar q₀) = ap (λ q. visit q (print q (36 ∷ []))) at ∙ sym (dollar_is text q₀) in
      let ran = shows_ran s p (statement text (Statement.dollar q₀)) r r₁ store₀ printer₀ printer₁ o c (subst (λ m. Shows p m r r₁ printer₀ printer₁ o) m shows) in
      subst (λ x. Advanced s p x r r₁ store₀ store₀ printer₀ printer₁ w) (sym t.1) (statement_advances (Statement.dollar q₀) t.0 o w t.2 still ran (level r r₁ o same) goes)

  pub show_advances : {r r₁ : Run} {n : Node} {ns : List Node} {x : Left} (store₀ : S) (printer₀ printer₁ : P) (q₀ q k₀ k : ℕ) (front : List Node) (o : Result (Unit {0}) Fault) (w : Result (Bor (List Node)) Fault)
      → has_block n ≡ false → Leaves r (n ∷ ns) x → n ≡ node.Show q₀ k₀ → q ≡ q₀ → k ≡ k₀ → front ≡ take k ns
      → ((e : Expr) → Fits r front e → Ran s p (statement r.text.now (Statement.show q e)) r r₁ store₀ store₀ printer₀ printer₁ o × Level r r₁ o) → Still r r₁ → Goes (drop k ns) o w
      → Advanced s p x r r₁ store₀ store₀ printer₀ printer₁ w
  show_advances {r} {r₁} {n} {ns} {x} store₀ printer₀ printer₁ q₀ q k₀ k front o w f h e at size front_is ran still goes =
      let t = subst (λ n. Simple r n ns x) e (simple r n ns x f h) in
      let out = ran t.0 (subst (λ ms. Fits r ms t.0) (ap (λ k. take k ns) (sym size) ∙ sym front_is) t.3) in
      let one = subst (λ q. Ran s p (statement r.text.now (Statement.show q t.0)) r r₁ store₀ store₀ printer₀ printer₁ o) at out.0 in
      subst (λ x. Advanced s p x r r₁ store₀ store₀ printer₀ printer₁ w) (sym t.2)
      (statement_advances (Statement.show q₀ t.0) t.1 o w (subst (λ k. Leaves r (drop k ns) (rest t.1)) (sym size) t.4) still one out.1 goes)

  pub assign_advances : {r r₁ : Run} {n : Node} {ns : List Node} {x : Left} (store₀ store₁ : S) (printer₀ : P) (q₀ q h₀ h l₀ l : ℕ) (span : Span ℕ) (sides ms rs : List Node) (o : Result (Unit {0}) Fault) (w : Result (Bor (List Node)) Fault)
      → has_block n ≡ false → Leaves r (n ∷ ns) x → n ≡ node.Assign q₀ span h₀ l₀ → q ≡ q₀ → h ≡ h₀ → l ≡ l₀ → sides ≡ drop h ns → ms ≡ take h ns → rs ≡ take l sides
      → ((k : Key) (e : Expr) → Assigns r span ms rs k e → Sets s (statement r.text.now (Statement.assign q k e)) r r₁ store₀ store₁ o × Level r r₁ o) → s.capacity store₁ ≡ s.capacity store₀ → Still r r₁ → Goes (drop l sides) o w
      → Advanced s p x r r₁ store₀ store₁ printer₀ printer₀ w
  assign_advances {r} {r₁} {n} {ns} {x} store₀ store₁ printer₀ q₀ q h₀ h l₀ l span sides ms rs o w f leaves e at subscript right sides_are ms_are rs_are sets c still goes =
      let t = subst (λ n. Simple r n ns x) e (simple r n ns x f leaves) in
      let behind : drop h₀ ns ≡ sides = ap (λ h. drop h ns) (sym subscript) ∙ sym sides_are in
      let first : take h₀ ns ≡ ms = ap (λ h. take h ns) (sym subscript) ∙ sym ms_are in
      let second : take l₀ (drop h₀ ns) ≡ rs = ap (λ xs. take l₀ xs) behind ∙ ap (λ l. take l sides) (sym right) ∙ sym rs_are in
      let others : drop l₀ (drop h₀ ns) ≡ drop l sides = ap (λ xs. drop l₀ xs) behind ∙ ap (λ l. drop l sides) (sym right) in
      let given = subst (λ xs. Assigns r span xs rs t.0 t.1) first (subst (λ xs. Assigns r span (take h₀ ns) xs t.0 t.1) second t.4) in
      let out = sets t.0 t.1 given in
      let one = subst (λ q. Sets s (statement r.text.now (Statement.assign q t.0 t.1)) r r₁ store₀ store₁ o) at out.0 in
      let ran = sets_ran s p (statement r.text.now (Statement.assign q₀ t.0 t.1)) r r₁ store₀ store₁ printer₀ o c one in
      subst (λ x. Advanced s p x r r₁ store₀ store₁ printer₀ printer₀ w) (sym t.3)
      (statement_advances (Statement.assign q₀ t.0 t.1) t.2 o w (subst (λ ns. Leaves r ns (rest t.2)) others t.5) still ran out.1 goes)

  -- the end of a block does nothing
  pub end_advances : {r : Run} {n : Node} {ns : List Node} {x : Left} (store₀ : S) (printer₀ : P) (ms : Bor (List Node)) → has_block n ≡ false → Leaves r (n ∷ ns) x → ms.now ≡ ns
      → ((t : Span ℕ) → n ≡ node.Piece t → ⊥) → ((q : ℕ) → n ≡ node.Dollar q → ⊥) → ((q k : ℕ) → n ≡ node.Show q k → ⊥) → ((q : ℕ) (t : Span ℕ) (h l : ℕ) → n ≡ node.Assign q t h l → ⊥)
      → Advanced s p x r r store₀ store₀ printer₀ printer₀ (Ok ms)
  end_advances {n = node.Piece t} store₀ printer₀ ms f h same not_piece not_dollar not_show not_assign = absurd (not_piece t refl)
  end_advances {n = node.Dollar q} store₀ printer₀ ms f h same not_piece not_dollar not_show not_assign = absurd (not_dollar q refl)
  end_advances {n = node.Show q k} store₀ printer₀ ms f h same not_piece not_dollar not_show not_assign = absurd (not_show q k refl)
  end_advances {n = node.Assign q t h l} store₀ printer₀ ms f leaves same not_piece not_dollar not_show not_assign = absurd (not_assign q t h l refl)
  end_advances {r} {n} {ns} {x} store₀ printer₀ ms f h same not_piece not_dollar not_show not_assign =
      let t = simple r n ns x f h in
      subst (λ x. Advanced s p x r r store₀ store₀ printer₀ printer₀ (Ok ms)) (sym t.3)
      (advances s p (arms_then (Arms.close t.0 t.1) t.2) (rest t.2) ms (reaches_means s p (ended r.text.now t.0 t.1 t.2) (reaches_start s p (left_print r.text.now (arms_then (Arms.close t.0 t.1) t.2)) r store₀ printer₀)) (leaves_kept (still_same r) refl same t.4) refl)
