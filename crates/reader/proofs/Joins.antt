-- Operators, signs and constants: how an operand comes of them. Assumes nothing.
use Rattle.std.proofs.Common.{◌≡◌, ℕ, ◌+◌, ◌-◌, ◌<◌, ◌≤◌, max, min, Bool, true, false, cond, leb, ltb, ◌⊎◌, List, [], ◌∷◌, ◌++◌, length, get_or, drop, slice_get, Some, None, Ok, Err, Option, Result, sym, refl, ap, ◌∙◌, subst, inl, inr, ⊎_elim, append_assoc, arith}
use Rattle.std.proofs.lemmas.List.{append-nil}
use Rattle.std.proofs.lemmas.Option.{slice_get-get_or, slice_get_past}
use Rattle.std.proofs.lemmas.Bool.{cond-true, cond-false, le-leb, lt-leb, cases_lt}
use Rattle.std.proofs.lemmas.Bool.Decides.{nat_tests}
use Rattle.refusals.specs.declared.Refusal.TheVariants.{UnexpectedByte, BadNumber, TooLong}
use Rattle.tokens.specs.declared.operator.Op.{Op}
use Rattle.tokens.specs.declared.operator.Sign.{Sign}
use Rattle.tokens.specs.declared.operator.Half.{Half}
use Rattle.tokens.specs.declared.byte.Start.{Start}
use Rattle.tokens.specs.declared.byte.Start.TheVariants as at
use Rattle.tokens.specs.declared.byte.After.{After}
use Rattle.tokens.specs.declared.byte.After.TheVariants as past
use Rattle.tokens.specs.Bytes.{start, after}
use Rattle.tokens.specs.Operators.{level, is_short, is_wide, doubled, alone}
use Rattle.trees.specs.declared.Constant.{Constant}
use Rattle.trees.specs.declared.Node.{Node}
use Rattle.trees.specs.declared.Node.TheVariants as node
use Rattle.trees.specs.declared.Quote.{Quote}
use Rattle.trees.specs.declared.Span.{Span}
use Rattle.trees.specs.Tree.{Expr, from_to}
use Rattle.trees.specs.Flat.{flatten, rest}
use Rattle.trees.specs.Counts.{need}
use Rattle.grammar.specs.Rules.{Broken, refusal_of, breaks, five, six, broken_number}
use Rattle.grammar.specs.Machine.{Digits, nought, prefix, digits, Numbered, Quoted, in_number, in_text, quoted, first_digit, numbereds, constant_at, late, Stack, stop, go, want, aft, half, step, onward, refused, run, reduce, pushed, afters, wants, sign, single, halves, reacts_on, Below}
use Rattle.grammar.proofs.Moves.{moves, at_end, alike, stays, want_stays, aft_stays, below_more, reduce_all, reduce_none, late_none}
use Rattle.reader.specs.declared.cursor.Cursor.{Cursor}
use Rattle.reader.specs.declared.cursor.State.TheVariants.{Instruction}
use Rattle.reader.specs.declared.cursor.Follow.TheVariants as follow
use Rattle.reader.specs.declared.cursor.Numeral.{Numeral}
use Rattle.reader.specs.declared.expression.Context.{Context}
use Rattle.reader.specs.declared.expression.Operand.{Operand}
use Rattle.refusals.specs.declared.fault.Fault.{Fault}
use Rattle.reader.specs.Tables.{Table, Holds, Grew}
use Rattle.reader.specs.Tables as tables
use Rattle.reader.specs.States.{fault, Inner, MovedTo, Tabled}
use Rattle.reader.specs.Scans.{Spaced, start_at, after_at, doubled_of, or_else, token_of, token_at, tight, tight_at, width_of, operand_end, Limited, capped, value_of, Complete, Numbers, Quotes}
use Rattle.reader.specs.Reads.{Keyless, Fitting, Clear, Wanting, Fails, Went, operand_of, Took, Did, Solid, Stops, Chain, Tailed, beside, Joins, Primal}
use Rattle.reader.proofs.Leaves.{as_refused, refuses}
use Rattle.reader.proofs.Limits.{Told, told_after, limited, clear_by}
use Rattle.reader.proofs.Places.{Passes, start_is, start_here, after_here, digit_here, token_inside, wide_inside, blank_start, blank_after}
use Rattle.reader.proofs.Passing.{there, blanks_here, blanks_on, blanks_in, went_append, went_none, went_from, went_moved, went_push, placed_on, placed_none, narrowed, falls_on}
use Rattle.reader.proofs.Tabling.{grew_one, grew_append, grew_push, grew_patch}

-- a looser level is asked of fewer stacks
pub fit_more : {n n' : ℕ} {x : Context} {k : Stack} → n ≤ n' → Fitting n x k → Fitting n' x k
fit_more {n} {n'} {k = k} le f = record { here = f.here; room = f.room; below = below_more n n' k le f.below }

pub want_more : {text : List ℕ} {p n n' : ℕ} {x : Context} {k : Stack} → n ≤ n' → Wanting text p n x k → Wanting text p n' x k
want_more le w = record { fit = fit_more le w.fit; clear = w.clear }

pub want_binary : (text : List ℕ) (p n : ℕ) {x : Context} (q : ℕ) (o : Op) (l : Expr) (k : Stack) → n ≡ level o + 1 → Fitting (level o) x k → Wanting text p n x (Stack.binary q o l k)
want_binary text p n q o l k e f = record { fit = record { here = f.here; room = f.room; below = omega arith }; clear = λ y b. clear_by (start_at text y) (Stack.binary q o l k) (λ d. refl) (λ w j c. refl) }

pub want_signed : (text : List ℕ) (p : ℕ) {x : Context} (q : ℕ) (g : Sign) (k : Stack) → Fitting 11 x k → Wanting text p 12 x (Stack.signed q g k)
want_signed text p q g k f = record { fit = record { here = f.here; room = f.room; below = omega arith }; clear = λ y b. clear_by (start_at text y) (Stack.signed q g k) (λ d. refl) (λ w j c. refl) }

-- how wide the operators of one byte and of two are
single_narrow : (b : ℕ) (o : Op) → after b ≡ past.Single o → is_wide o ≡ false
single_narrow b o e = grind (arith, nat_tests)

doubled_wide : (h : Half) (b : ℕ) (o : Op) → doubled h b ≡ Some o → is_wide o ≡ true
doubled_wide h b o e = grind (arith, nat_tests)

alone_narrow : (h : Half) (o : Op) → alone h ≡ Some o → is_wide o ≡ false
alone_narrow h o e = grind arith

pub width_wide : (o : Op) → is_wide o ≡ true → width_of o ≡ 2
width_wide o e = cond-true _ _ _ e

pub width_narrow : (o : Op) → is_wide o ≡ false → width_of o ≡ 1
width_narrow o e = cond-false _ _ _ e

single_some : (h : Half) (o : Op) (q : ℕ) (t : Expr) (k : Stack) (b p : ℕ) → single h (Some o) q t k b p ≡ wants (start b) b (pushed q o (reduce (level o) t k)) p
single_some h o q t k b p = grind arith

module _ (m : Bool) (text : List ℕ) where
  -- what is behind the first byte of an operator of two bytes, which may be one of one byte alone
  half_on : (h : Half) (o : Op) (l : Expr) (k : Stack) (p : ℕ) → Below (level o) k → (x : Option Op) → doubled_of h (slice_get text (p + 1)) ≡ x → or_else x (alone h) ≡ Some o → onward m text (half p h l k) (p + 1) ≡ onward m text (want (Stack.binary p o l k)) (p + width_of o)
  half_on h o l k p b (Some o') second e =
      let same : o' ≡ o = cc e in
      let lt : p + 1 < length text = ⊎_elim (λ lt. lt) (λ ge. absurd (none (sym (ap (doubled_of h) (slice_get_past text (p + 1) ge)) ∙ second))) (cases_lt (p + 1) (length text)) in
      let is : doubled h (get_or text (p + 1) 0) ≡ Some o = sym (ap (doubled_of h) (slice_get-get_or text (p + 1) 0 lt)) ∙ second ∙ ap (λ o. Some o) same in
      let two : p + 1 + 1 ≡ p + width_of o = omega (arith, width_wide o (doubled_wide h _ o is)) in
      moves m text (half p h l k) (p + 1) _ lt (ap (λ x. halves x h p l k (get_or text (p + 1) 0) (p + 1)) is ∙ ap (λ v. go [] (want (pushed p o v))) (reduce_none o l k b))
      ∙ ap (onward m text (want (Stack.binary p o l k))) two
    where
      none : None ≡ Some o' → ⊥
      none e = cc
  half_on h o l k p b None second e =
      let one : p + 1 ≡ p + width_of o = omega (arith, width_narrow o (alone_narrow h o e)) in
      alike m text (half p h l k) (want (Stack.binary p o l k)) (p + 1)
      (λ lt.
      let is : doubled h (get_or text (p + 1) 0) ≡ None = sym (ap (doubled_of h) (slice_get-get_or text (p + 1) 0 lt)) ∙ second in
      ap (λ x. halves x h p l k (get_or text (p + 1) 0) (p + 1)) is
      ∙ ap (λ x. single h x p l k (get_or text (p + 1) 0) (p + 1)) e
      ∙ single_some h o p l k (get_or text (p + 1) 0) (p + 1)
      ∙ ap (λ v. wants (start (get_or text (p + 1) 0)) (get_or text (p + 1) 0) (pushed p o v) (p + 1)) (reduce_none o l k b))
      refl
      ∙ ap (onward m text (want (Stack.binary p o l k))) one

  -- an operator that is tighter than what waits on top is passed
  pub operator_on : (o : Op) (l : Expr) (k : Stack) (p : ℕ) → Below (level o) k → token_at text p ≡ Some o → onward m text (aft l k) p ≡ onward m text (want (Stack.binary p o l k)) (p + width_of o)
  operator_on o l k p b e = by_after (after (get_or text p 0)) refl (sym (ap (λ a. token_of a (slice_get text (p + 1))) here) ∙ e)
    where
      lt : p < length text
      lt = token_inside text p o e

      here : after_at text p ≡ after (get_or text p 0)
      here = after_here text p lt

      by_after : (a : After) → after (get_or text p 0) ≡ a → token_of a (slice_get text (p + 1)) ≡ Some o → onward m text (aft l k) p ≡ onward m text (want (Stack.binary p o l k)) (p + width_of o)
      by_after (past.Single o') is t =
          let is' : after (get_or text p 0) ≡ past.Single o = cc (is, t) in
          let one : p + 1 ≡ p + width_of o = omega (arith, width_narrow o (single_narrow (get_or text p 0) o is')) in
          moves m text (aft l k) p _ lt (ap (λ a. afters a l k p) is' ∙ ap (λ v. go [] (want (pushed p o v))) (reduce_none o l k b))
          ∙ ap (onward m text (want (Stack.binary p o l k))) one
      by_after (past.Double h) is t = moves m text (aft l k) p (go [] (half p h l k)) lt (ap (λ a. afters a l k p) is) ∙ half_on h o l k p b (doubled_of h (slice_get text (p + 1))) refl t
      by_after a is t = absurd (cc)

module _ (q : ℕ) (o : Op) (l r : Expr) (k : Stack) where
  -- a byte behind the right side of an operator, which is no tighter operator
  afters_binary : (a : After) (p : ℕ) → (a ≡ past.Blank → ⊥) → ((h : Half) → a ≡ past.Double h → ⊥) → ((o' : Op) → a ≡ past.Single o' → level o' ≤ level o) → afters a r (Stack.binary q o l k) p ≡ afters a (Expr.binary q o l r) k p
  afters_binary a p x y z = grind (arith, reduce_all)

  single_binary : (h : Half) (y : Option Op) (x b p : ℕ) → ((o' : Op) → y ≡ Some o' → level o' ≤ level o) → single h y x r (Stack.binary q o l k) b p ≡ single h y x (Expr.binary q o l r) k b p
  single_binary h y x b p z = grind (arith, reduce_all)

  halves_binary : (y : Option Op) (h : Half) (x b p : ℕ) → ((o' : Op) → or_else y (alone h) ≡ Some o' → level o' ≤ level o) → halves y h x r (Stack.binary q o l k) b p ≡ halves y h x (Expr.binary q o l r) k b p
  halves_binary (Some o') h x b p z = grind (arith, reduce_all)
  halves_binary None h x b p z = single_binary h (alone h) x b p z

  -- an operator takes its right side where no tighter operator stands
  pub collapse : (m : Bool) (text : List ℕ) (p n : ℕ) → n ≤ level o + 1 → Stops n text p → onward m text (aft r (Stack.binary q o l k)) p ≡ onward m text (aft (Expr.binary q o l r) k) p
  collapse m text p n le st = ⊎_elim inside (λ ge. at_end m text (aft r (Stack.binary q o l k)) p ge ∙ sym (at_end m text (aft (Expr.binary q o l r) k) p ge)) (cases_lt p (length text))
    where
      inside : p < length text → onward m text (aft r (Stack.binary q o l k)) p ≡ onward m text (aft (Expr.binary q o l r) k) p
      inside lt = by_after (after (get_or text p 0)) refl
        where
          here : after_at text p ≡ after (get_or text p 0)
          here = after_here text p lt

          loose : (a : After) → after (get_or text p 0) ≡ a → (o' : Op) → token_of a (slice_get text (p + 1)) ≡ Some o' → level o' ≤ level o
          loose a is o' t = omega (arith, st.loose o' (ap (λ a. token_of a (slice_get text (p + 1))) (here ∙ is) ∙ t))

          plain : (a : After) → after (get_or text p 0) ≡ a → ((h : Half) → a ≡ past.Double h → ⊥) → onward m text (aft r (Stack.binary q o l k)) p ≡ onward m text (aft (Expr.binary q o l r) k) p
          plain a is y =
              alike m text (aft r (Stack.binary q o l k)) (aft (Expr.binary q o l r) k) p
              (λ lt. ap (λ a. afters a r (Stack.binary q o l k) p) is ∙ afters_binary a p (λ e. cc (st.solid lt, blank_after (get_or text p 0) (is ∙ e))) y (λ o' e. loose a is o' (ap (λ a. token_of a (slice_get text (p + 1))) e)) ∙ sym (ap (λ a. afters a (Expr.binary q o l r) k p) is))
              refl

          by_after : (a : After) → after (get_or text p 0) ≡ a → onward m text (aft r (Stack.binary q o l k)) p ≡ onward m text (aft (Expr.binary q o l r) k) p
          by_after (past.Double h) is =
              moves m text (aft r (Stack.binary q o l k)) p (go [] (half p h r (Stack.binary q o l k))) lt (ap (λ a. afters a r (Stack.binary q o l k) p) is)
              ∙ alike m text (half p h r (Stack.binary q o l k)) (half p h (Expr.binary q o l r) k) (p + 1)
              (λ lt'. halves_binary (doubled h (get_or text (p + 1) 0)) h p (get_or text (p + 1) 0) (p + 1) (λ o' t. loose (past.Double h) is o' (ap (λ x. or_else (doubled_of h x) (alone h)) (slice_get-get_or text (p + 1) 0 lt') ∙ t)))
              refl
              ∙ sym (moves m text (aft (Expr.binary q o l r) k) p (go [] (half p h (Expr.binary q o l r) k)) lt (ap (λ a. afters a (Expr.binary q o l r) k p) is))
          by_after a is = plain a is (λ h e. cc)

module _ (q : ℕ) (s : Sign) (t : Expr) (k : Stack) where
  halves_signed : (y : Option Op) (h : Half) (x b p : ℕ) → halves y h x t (Stack.signed q s k) b p ≡ halves y h x (Expr.signed q s t) k b p
  halves_signed y h x b p = grind arith

  half_signed : (m : Bool) (bs : List ℕ) (h : Half) (x p : ℕ) → run bs m (half x h t (Stack.signed q s k)) p ≡ run bs m (half x h (Expr.signed q s t) k) p
  unfolding run
  half_signed m [] h x p = refl
  half_signed m (b ∷ bs) h x p = ap (reacts_on m bs p) (halves_signed (doubled h b) h x b p)

  sign_by : (m : Bool) (a : After) (bs : List ℕ) (p : ℕ) → run bs m (aft t (Stack.signed q s k)) (p + 1) ≡ run bs m (aft (Expr.signed q s t) k) (p + 1) → reacts_on m bs p (afters a t (Stack.signed q s k) p) ≡ reacts_on m bs p (afters a (Expr.signed q s t) k p)
  sign_by m past.Blank bs p e = e
  sign_by m (past.Double h) bs p e = half_signed m bs h p (p + 1)
  sign_by m a bs p e = refl

  sign_runs : (m : Bool) (bs : List ℕ) (p : ℕ) → run bs m (aft t (Stack.signed q s k)) p ≡ run bs m (aft (Expr.signed q s t) k) p
  unfolding run
  sign_runs m [] p = refl
  sign_runs m (b ∷ bs) p = sign_by m (after b) bs p (sign_runs m bs (p + 1))

  -- a sign takes its operand at once
  pub collapse_sign : (m : Bool) (text : List ℕ) (p : ℕ) → onward m text (aft t (Stack.signed q s k)) p ≡ onward m text (aft (Expr.signed q s t) k) p
  collapse_sign m text p = sign_runs m (drop p text) p

-- what the right side of an operator adds to the need of the left one
beside_need : (b : Bool) (l r : ℕ) → max l (cond b r (1 + r)) ≡ cond b (max l r) (max l (1 + r))
beside_need b l r = grind arith

binary_operand : (q : ℕ) (o : Op) (l r : Expr) → record { need = max (need l) (beside o (need r)); constant = None } ≡ operand_of (Expr.binary q o l r)
unfolding need
binary_operand q o l r = ap (λ n. record { need = n; constant = None }) (beside_need (is_short o) (need l) (need r))

either_max : (a b n p q : ℕ) → (a ≤ n) ⊎ (a + p ≤ q) → b + p ≤ q → (max a b ≤ n) ⊎ (max a b + p ≤ q)
either_max a b n p q h i = grind arith

-- the operators behind an operand: none, and one more
pub chain_none : (n : ℕ) (x : Context) (first : Operand) (r : Cursor) → r.state ≡ Instruction → Chain r.text.now n x first r first r
chain_none n x first r inward =
    record {
      grow = λ t. t;
      nodes = [];
      told = λ t e. e;
      placed = λ h. h;
      small = inl (omega arith);
      flat = λ t. sym (append-nil _);
      still = inl (refl, λ t. refl);
      went = went_none r inward;
      runs = λ t k fit. refl;
    }

pub chain_more : (n m : ℕ) (x : Context) (first o : Operand) (p : Op) (r r₁ r₂ : Cursor) → n ≤ level p → Chain r.text.now n x first r o r₁ → Joins r₁.text.now p x r₁ m r₂ → Chain r.text.now n x first r (record { need = max o.need m; constant = None }) r₂
unfolding flatten
chain_more n m x first o p r r₁ r₂ le a joins =
    let b = there (λ t. Joins t p x r₁ m r₂) a.went.text joins in
    let ms : List Node = rest r₁.pos p (flatten b.right) in
    record {
      grow = λ t. Expr.binary r₁.pos p (a.grow t) b.right;
      nodes = a.nodes ++ ms;
      told = λ t e. ap (λ n. record { need = n; constant = None }) (ap (λ (v : Operand). max v.need m) (a.told t e) ∙ ap (max (need (a.grow t))) b.told) ∙ binary_operand r₁.pos p (a.grow t) b.right;
      placed = λ h. tt;
      small = either_max o.need m first.need r.pos r₂.pos (⊎_elim (λ h. inl h) (λ h. inr (omega (arith, b.far))) a.small) (omega (arith, b.small, a.went.onwards));
      flat = λ t. ap (λ ns. ns ++ ms) (a.flat t) ∙ append_assoc (flatten t) a.nodes ms;
      still = inr (λ t k b q. refl);
      went = went_append a.nodes ms a.went b.went;
      runs = λ t k fit. a.runs t k fit ∙ b.runs (a.grow t) k (fit_more le fit);
    }

-- inside the operators behind the operand `first`
pub record Tailing (n : ℕ) (x : Context) (first : Operand) (r : Cursor) (o : Operand) (r' : Cursor) : Type 0 where
  pub chain : Chain r.text.now n x first r o r'
  pub solid : Solid r.text.now r'.pos

pub tailing_none : (n : ℕ) (x : Context) (first : Operand) (r : Cursor) → r.state ≡ Instruction → Solid r.text.now r.pos → Tailing n x first r first r
tailing_none n x first r inward solid = record { chain = chain_none n x first r inward; solid = solid }

pub tailing_more : (n m m' s : ℕ) (x : Context) (first o o' : Operand) (p : Op) (r r₁ r₂ r₂' : Cursor) → Tailing n x first r o r₁ → n ≤ level p → Joins r₁.text.now p x r₁ m r₂ → Stops s r₁.text.now r₂.pos → r₂' ≡ r₂ → m' ≡ m → o' ≡ record { need = max o.need m'; constant = None } → Tailing n x first r o' r₂'
tailing_more n m m' s x first o o' p r r₁ r₂ r₂' a le b st cursor right is =
    let told : record { need = max o.need m; constant = None } ≡ o' = sym (is ∙ ap (λ m. record { need = max o.need m; constant = None }) right) in
    subst (λ (z : Cursor). Tailing n x first r o' z) (sym cursor)
    (record {
      chain = subst (λ (v : Operand). Chain r.text.now n x first r v r₂) told (chain_more n m x first o p r r₁ r₂ le a.chain b);
      solid = there (λ t. Solid t r₂.pos) a.chain.went.text st.solid;
    })

-- the right side is refused
pub tailing_fails : (n : ℕ) (x : Context) (first o : Operand) (p : Op) (r r₁ : Cursor) (f : Fault) → Tailing n x first r o r₁ → n ≤ level p → ((l : Expr) → Fails r₁.text.now (Fitting (level p) x) (λ k. aft l k) r₁.pos f) → (t : Expr) → Fails r.text.now (Fitting n x) (λ k. aft t k) r.pos f
tailing_fails n x first o p r r₁ f a le fails t k fit =
    a.chain.runs t k fit ∙ there (λ b. onward true b (aft (a.chain.grow t) k) r₁.pos ≡ refused f.refusal f.place) a.chain.went.text (fails (a.chain.grow t) k (fit_more le fit))

-- an operator of level n or tighter stands here, or none
pub tight_some : (n : ℕ) (t : Option Op) (o : Op) → Some o ≡ tight n t → (t ≡ Some o) × (n ≤ level o)
tight_some n t o e = grind (arith, nat_tests)

tight_none : (n : ℕ) (t : Option Op) → None ≡ tight n t → (o : Op) → t ≡ Some o → level o < n
tight_none n t e o is = grind (arith, nat_tests)

-- none stands here
pub tailing_stops : (n : ℕ) (x : Context) (first o : Operand) (r r₁ : Cursor) → Tailing n x first r o r₁ → None ≡ tight_at r₁.text.now n r₁.pos → Stops n r.text.now r₁.pos
tailing_stops n x first o r r₁ a none =
    record { solid = a.solid; loose = tight_none n (token_at r.text.now r₁.pos) (there (λ t. None ≡ tight_at t n r₁.pos) a.chain.went.text none) }

short_wide : (o : Op) → is_short o ≡ true → is_wide o ≡ true
short_wide o e = grind arith

-- an operator and its right side
pub long_joins : (o : Op) (x : Context) (n : ℕ) (a : Operand) (r r₁ r₂ r₃ : Cursor) → is_short o ≡ false → n ≡ level o + 1 → r.state ≡ Instruction → token_at r.text.now r.pos ≡ Some o → MovedTo r (r.pos + width_of o) r₁ → Took r₁.text.now (Wanting r₁.text.now r₁.pos n x) want r₁ a r₂ → Stops n r₁.text.now r₂.pos → Tabled r₂ (tables.pushed r₂.table (node.Binary r.pos o)) r₃ → Joins r.text.now o x r (a.need + 1) r₃
long_joins o x n a r r₁ r₂ r₃ long is inward here passed took stops tabled =
    let b = there (λ t. Took t (Wanting t r₁.pos n x) want r₁ a r₂) passed.text took in
    let st = there (λ t. Stops n t r₂.pos) passed.text stops in
    let some : 1 ≤ width_of o = width_some (is_wide o) in
    let w : Went r (flatten b.tree) r₂ = went_from (flatten b.tree) (omega arith) passed b.went in
    let len : r₁.table.len ≡ r.table.len = ap (λ (t : Table). t.len) passed.table in
    let alone : r₂.table.len + r.pos + 1 ≤ r.table.len + r₂.pos = omega (arith, b.went.few, passed.pos) in
    record {
      right = b.tree;
      told = ap (λ (v : Operand). v.need + 1) b.told ∙ long_need (is_short o) (need b.tree) long;
      small = omega (arith, b.small, passed.pos, tabled.pos);
      far = omega (arith, b.far, passed.pos, tabled.pos);
      went = subst (λ ns. Went r ns r₃) (sym (cond-false _ _ _ long)) (went_push (flatten b.tree) (node.Binary r.pos o) (omega arith) alone w tabled);
      runs = λ l k fit.
          operator_on true r.text.now o l k r.pos fit.below here
          ∙ ap (onward true r.text.now (want (Stack.binary r.pos o l k))) (sym passed.pos)
          ∙ b.runs (Stack.binary r.pos o l k) (want_binary r.text.now r₁.pos n r.pos o l k is fit)
          ∙ collapse r.pos o l b.tree k true r.text.now r₂.pos n (omega arith) st
          ∙ ap (onward true r.text.now (aft (Expr.binary r.pos o l b.tree) k)) (sym tabled.pos);
    }
  where
    width_some : (b : Bool) → 1 ≤ cond b 2 1
    width_some b = grind arith

    long_need : (b : Bool) (n : ℕ) → b ≡ false → n + 1 ≡ cond b n (1 + n)
    long_need b n e = grind arith

-- the right side is refused
pub long_fails : (o : Op) (x : Context) (n : ℕ) (r r₁ : Cursor) (f : Fault) → n ≡ level o + 1 → token_at r.text.now r.pos ≡ Some o → MovedTo r (r.pos + width_of o) r₁ → Fails r₁.text.now (Wanting r₁.text.now r₁.pos n x) want r₁.pos f → (l : Expr) → Fails r.text.now (Fitting (level o) x) (λ k. aft l k) r.pos f
long_fails o x n r r₁ f is here passed fails l k fit =
    operator_on true r.text.now o l k r.pos fit.below here
    ∙ ap (onward true r.text.now (want (Stack.binary r.pos o l k))) (sym passed.pos)
    ∙ there (λ t. Fails t (Wanting t r₁.pos n x) want r₁.pos f) passed.text fails (Stack.binary r.pos o l k) (want_binary r.text.now r₁.pos n r.pos o l k is fit)

-- `&&` or `||` and its right side; its node is patched when the size of that is known
pub short_joins : (o : Op) (x : Context) (n skip : ℕ) (a : Operand) (r r₁ r₁' r₂ r₃ : Cursor) → is_short o ≡ true → n ≡ level o + 1 → r.state ≡ Instruction → token_at r.text.now r.pos ≡ Some o → MovedTo r (r.pos + width_of o) r₁ → Tabled r₁ (tables.pushed r₁.table (node.Short r.pos o 0)) r₁' → Took r₁'.text.now (Wanting r₁'.text.now r₁'.pos n x) want r₁' a r₂ → Stops n r₁'.text.now r₂.pos → skip ≡ r₂.table.len + 1 - r.table.len - 1 → Tabled r₂ (tables.patched (tables.pushed r₂.table (node.Judged r.pos)) r.table.len (node.Short r.pos o skip)) r₃ → Joins r.text.now o x r a.need r₃
short_joins o x n skip a r r₁ r₁' r₂ r₃ short is inward here passed opened took stops size tabled =
    let text : r₁'.text ≡ r.text = opened.text ∙ passed.text in
    let b = there (λ t. Took t (Wanting t r₁'.pos n x) want r₁' a r₂) text took in
    let st = there (λ t. Stops n t r₂.pos) text stops in
    let ns : List Node = flatten b.tree in
    let two : width_of o ≡ 2 = width_wide o (short_wide o short) in
    let place : r₁'.pos ≡ r.pos + width_of o = opened.pos ∙ passed.pos in
    let table : r₁'.table ≡ tables.pushed r.table (node.Short r.pos o 0) = opened.table ∙ ap (λ t. tables.pushed t (node.Short r.pos o 0)) passed.table in
    let len₁ : r₁'.table.len ≡ r.table.len + 1 = ap (λ (t : Table). t.len) table in
    let nodes₁ : r₁'.table.nodes ≡ r.table.nodes + 1 = ap (λ (t : Table). t.nodes) table in
    let len₃ : r₃.table.len ≡ r₂.table.len + 1 = ap (λ (t : Table). t.len) tabled.table in
    let nodes₃ : r₃.table.nodes ≡ r₂.table.nodes + 0 = ap (λ (t : Table). t.nodes) tabled.table in
    let first : Grew r.table (node.Short r.pos o 0 ∷ []) r₁'.table = subst (Grew r.table (node.Short r.pos o 0 ∷ [])) (sym table) (grew_one r.table (node.Short r.pos o 0)) in
    let second : Grew r.table (node.Short r.pos o 0 ∷ ns) r₂.table = grew_append (node.Short r.pos o 0 ∷ []) ns first b.went.grew in
    let third : Grew r.table (node.Short r.pos o skip ∷ ns ++ node.Judged r.pos ∷ []) r₃.table =
    subst (Grew r.table (node.Short r.pos o skip ∷ ns ++ node.Judged r.pos ∷ [])) (sym tabled.table)
    (grew_patch {t = r.table} (node.Short r.pos o 0) (node.Short r.pos o skip) (ns ++ node.Judged r.pos ∷ []) refl (grew_push (node.Short r.pos o 0 ∷ ns) (node.Judged r.pos) second))
    in
    let counted : skip ≡ length ns + 1 = omega (arith, second.longer) in
    let grew : Grew r.table (node.Short r.pos o (length ns + 1) ∷ ns ++ node.Judged r.pos ∷ []) r₃.table = subst (λ m. Grew r.table (node.Short r.pos o m ∷ ns ++ node.Judged r.pos ∷ []) r₃.table) counted third in
    let w : Went r (node.Short r.pos o (length ns + 1) ∷ ns ++ node.Judged r.pos ∷ []) r₃ = record {
      text = tabled.text ∙ b.went.text ∙ text;
      inward = tabled.state ∙ b.went.inward;
      onwards = omega (arith, b.went.onwards, tabled.pos);
      few = omega (arith, b.went.few, tabled.pos);
      fewer = omega (arith, b.went.fewer, tabled.pos);
      grew = grew;
    } in
    record {
      right = b.tree;
      told = ap (λ (v : Operand). v.need) b.told ∙ sym (cond-true _ _ _ short);
      small = omega (arith, b.small, tabled.pos);
      far = omega (arith, b.far, tabled.pos);
      went = subst (λ ns. Went r ns r₃) (sym (cond-true _ _ _ short)) w;
      runs = λ l k fit.
          operator_on true r.text.now o l k r.pos fit.below here
          ∙ ap (onward true r.text.now (want (Stack.binary r.pos o l k))) (sym place)
          ∙ b.runs (Stack.binary r.pos o l k) (want_binary r.text.now r₁'.pos n r.pos o l k is fit)
          ∙ collapse r.pos o l b.tree k true r.text.now r₂.pos n (omega arith) st
          ∙ ap (onward true r.text.now (aft (Expr.binary r.pos o l b.tree) k)) (sym tabled.pos);
    }

-- the same with the place of the operator and of its node as the code keeps them, and the table before the node is patched
pub short_joins_at : (o : Op) (x : Context) (n skip q i : ℕ) (a : Operand) (b : Table) (r r₁ r₁' r₂ r₃ : Cursor) → q ≡ r.pos → i ≡ r.table.len → is_short o ≡ true → n ≡ level o + 1 → r.state ≡ Instruction → token_at r.text.now r.pos ≡ Some o → MovedTo r (r.pos + width_of o) r₁ → Tabled r₁ (tables.pushed r₁.table (node.Short q o 0)) r₁' → Took r₁'.text.now (Wanting r₁'.text.now r₁'.pos n x) want r₁' a r₂ → Stops n r₁'.text.now r₂.pos → b ≡ tables.pushed r₂.table (node.Judged q) → skip ≡ b.len - i - 1 → Tabled r₂ (tables.patched b i (node.Short q o skip)) r₃ → Joins r.text.now o x r a.need r₃
short_joins_at o x n skip q i a b r r₁ r₁' r₂ r₃ place at short is inward here passed opened took stops closed size tabled =
    let judged : b ≡ tables.pushed r₂.table (node.Judged r.pos) = closed ∙ ap (λ q. tables.pushed r₂.table (node.Judged q)) place in
    let table : tables.patched b i (node.Short q o skip) ≡ tables.patched (tables.pushed r₂.table (node.Judged r.pos)) r.table.len (node.Short r.pos o skip) =
    ap (λ b. tables.patched b i (node.Short q o skip)) judged ∙ ap (λ i. tables.patched (tables.pushed r₂.table (node.Judged r.pos)) i (node.Short q o skip)) at ∙ ap (λ q. tables.patched (tables.pushed r₂.table (node.Judged r.pos)) r.table.len (node.Short q o skip)) place
    in
    short_joins o x n skip a r r₁ r₁' r₂ r₃ short is inward here passed (subst (λ q. Tabled r₁ (tables.pushed r₁.table (node.Short q o 0)) r₁') place opened) took stops
    (size ∙ ap (λ (b : Table). b.len - i - 1) closed ∙ ap (λ i. r₂.table.len + 1 - i - 1) at)
    (subst (λ b. Tabled r₂ b r₃) table tabled)

-- an operand with the operators behind it
module _ (n : ℕ) (x : Context) (first : Operand) (r r₁ r₂ r₃ : Cursor) (le : n ≤ 11) (a : Took r.text.now (Wanting r.text.now r.pos 11 x) want r first r₁) (s : Spaced r₁ r₂) where
  same : r₂.text ≡ r.text
  same = s.same.text ∙ a.went.text

  begun : (k : Stack) → Wanting r.text.now r.pos n x k → onward true r.text.now (want k) r.pos ≡ onward true r.text.now (aft a.tree k) r₂.pos
  begun k w = a.runs k (want_more le w) ∙ stays true r.text.now (aft a.tree k) (aft_stays a.tree k) r₁.pos r₂.pos (blanks_in a.went.text s)

  pub chained : (v : Result Operand Fault) → Tailed r₂.text.now n x first r₂ v r₃ → Did r.text.now (Wanting r.text.now r.pos n x) want r v r₃
  chained (Ok o) tailed =
      let b = there (λ t. Chain t n x first r₂ o r₃) same tailed in
      record {
        tree = b.grow a.tree;
        told = b.told a.tree a.told;
        placed = b.placed (placed_on first.constant r₁.pos r₂.pos s.all.onwards a.placed);
        small = ⊎_elim (λ h. omega (arith, a.small, s.all.onwards, b.went.onwards)) (λ h. omega (arith, a.far, s.all.onwards)) b.small;
        far = omega (arith, a.far, s.all.onwards, b.went.onwards);
        keyless = λ u. ⊎_elim (λ h. subst Keyless (sym (h.1 a.tree)) (a.keyless u)) (λ h. h a.tree) b.still;
        went = subst (λ ns. Went r ns r₃) (sym (b.flat a.tree)) (went_append (flatten a.tree) b.nodes a.went (went_from b.nodes s.all.onwards s.same b.went));
        runs = λ k w. begun k w ∙ b.runs a.tree k w.fit;
      }
  chained (Err f) tailed = λ k w. begun k w ∙ there (λ t. (e : Expr) → Fails t (Fitting n x) (λ k. aft e k) r₂.pos f) same tailed a.tree k w.fit

-- a sign is passed
sign_on : (text : List ℕ) (p : ℕ) (s : Sign) (k : Stack) → Below 11 k → start_at text p ≡ at.Sign s → onward true text (want k) p ≡ onward true text (want (Stack.signed p s k)) (p + 1)
sign_on text p s k b is =
    let h = start_is text p (at.Sign s) (λ o. cc) is in
    moves true text (want k) p _ h.0 (ap (λ z. wants z (get_or text p 0) k p) h.1 ∙ by_stack k b)
  where
    by_stack : (k : Stack) → Below 11 k → sign p s k ≡ go [] (want (Stack.signed p s k))
    by_stack k b = grind arith

-- an operand with a sign: r₁ is behind the sign, r₂ behind the blanks after it
module _ (x : Context) (s : Sign) (r r₁ r₂ : Cursor) (inward : r.state ≡ Instruction) (here : start_at r.text.now r.pos ≡ at.Sign s) (passed : MovedTo r (r.pos + 1) r₁) (spaced : Spaced r₁ r₂) where
  behind : r₂.text ≡ r.text
  behind = spaced.same.text ∙ passed.text

  signed_on : (k : Stack) → Fitting 11 x k → onward true r.text.now (want k) r.pos ≡ onward true r.text.now (want (Stack.signed r.pos s k)) r₂.pos
  signed_on k f =
      sign_on r.text.now r.pos s k f.below here
      ∙ ap (onward true r.text.now (want (Stack.signed r.pos s k))) (sym passed.pos)
      ∙ stays true r.text.now (want (Stack.signed r.pos s k)) (want_stays (Stack.signed r.pos s k)) r₁.pos r₂.pos (blanks_in passed.text spaced)

  pub signed_fails : (f : Fault) → Fails r₂.text.now (Wanting r₂.text.now r₂.pos 12 x) want r₂.pos f → Fails r.text.now (Fitting 11 x) want r.pos f
  signed_fails f fails k fit = signed_on k fit ∙ there (λ t. Fails t (Wanting t r₂.pos 12 x) want r₂.pos f) behind fails (Stack.signed r.pos s k) (want_signed r.text.now r₂.pos r.pos s k fit)

  -- another sign is refused
  pub signed_twice : (g : Sign) (f : Fault) → start_at r₂.text.now r₂.pos ≡ at.Sign g → f ≡ fault UnexpectedByte r₂.pos → Fails r.text.now (Fitting 11 x) want r.pos f
  signed_twice g f is told k fit =
      let again : start_at r.text.now r₂.pos ≡ at.Sign g = there (λ t. start_at t r₂.pos ≡ at.Sign g) behind is in
      let h = start_is r.text.now r₂.pos (at.Sign g) (λ o. cc) again in
      signed_on k fit
      ∙ moves true r.text.now (want (Stack.signed r.pos s k)) r₂.pos stop h.0 (ap (λ z. wants z (get_or r.text.now r₂.pos 0) (Stack.signed r.pos s k) r₂.pos) h.1)
      ∙ as_refused f UnexpectedByte r₂.pos told

  pub signed_took : (a o : Operand) (r₃ r₄ : Cursor) → Took r₂.text.now (Wanting r₂.text.now r₂.pos 12 x) want r₂ a r₃ → o ≡ record { need = a.need; constant = None } → Tabled r₃ (tables.pushed r₃.table (node.Signed r.pos s)) r₄ → Took r.text.now (Fitting 11 x) want r o r₄
  unfolding flatten need
  signed_took a o r₃ r₄ took is tabled =
      let b = there (λ t. Took t (Wanting t r₂.pos 12 x) want r₂ a r₃) behind took in
      let on : r.pos + 1 ≤ r₂.pos = omega (arith, passed.pos, spaced.all.onwards) in
      let len : r₂.table.len ≡ r.table.len = ap (λ (t : Table). t.len) (spaced.same.table ∙ passed.table) in
      let w : Went r (flatten b.tree) r₃ = went_from (flatten b.tree) (omega arith) passed (went_from (flatten b.tree) spaced.all.onwards spaced.same b.went) in
      record {
        tree = Expr.signed r.pos s b.tree;
        keyless = λ u k b q. refl;
        told = is ∙ ap (λ (v : Operand). record { need = v.need; constant = None }) b.told;
        placed = placed_none o r₄.pos is;
        small = omega (arith, ap (λ (v : Operand). v.need) is, b.small, tabled.pos);
        far = omega (arith, b.far, tabled.pos);
        went = went_push (flatten b.tree) (node.Signed r.pos s) (omega arith) (omega (arith, b.went.few)) w tabled;
        runs = λ k fit. signed_on k fit ∙ b.runs (Stack.signed r.pos s k) (want_signed r.text.now r₂.pos r.pos s k fit) ∙ collapse_sign r.pos s b.tree k true r.text.now r₃.pos ∙ ap (onward true r.text.now (aft (Expr.signed r.pos s b.tree) k)) (sym tabled.pos);
      }

-- behind blanks
module _ (x : Context) (r r₁ r' : Cursor) (inward : r.state ≡ Instruction) (spaced : Spaced r r₁) where
  spaced_on : (k : Stack) → onward true r.text.now (want k) r.pos ≡ onward true r.text.now (want k) r₁.pos
  spaced_on k = stays true r.text.now (want k) (want_stays k) r.pos r₁.pos spaced.all

  -- what an operand is read as behind the blanks before it, it is read as before them
  pub spaced_did : (fits fits' : Stack → Type 0) (v : Result Operand Fault) → ((k : Stack) → fits' k → fits k) → Did r₁.text.now fits want r₁ v r' → Did r.text.now fits' want r v r'
  spaced_did fits fits' (Ok o) more did =
      let b = there (λ t. Took t fits want r₁ o r') spaced.same.text did in
      record {
        tree = b.tree;
        told = b.told;
        placed = b.placed;
        keyless = λ u. b.keyless (λ q bl. u q (blanks_on spaced.all bl));
        small = omega (arith, b.small, spaced.all.onwards);
        far = omega (arith, b.far, spaced.all.onwards);
        went = went_from (flatten b.tree) spaced.all.onwards spaced.same b.went;
        runs = λ k w. spaced_on k ∙ b.runs k (more k w);
      }
  spaced_did fits fits' (Err f) more did = λ k w. spaced_on k ∙ there (λ t. Fails t fits want r₁.pos f) spaced.same.text did k (more k w)

  pub wanting_on : (n : ℕ) (k : Stack) → n ≤ 12 → Wanting r.text.now r.pos n x k → Wanting r₁.text.now r₁.pos 12 x k
  wanting_on n k le w =
      there (λ t. Wanting t r₁.pos 12 x k) (sym spaced.same.text)
      (record {
        fit = fit_more le w.fit;
        clear = λ q b. w.clear q (blanks_on spaced.all b);
      })

-- what may begin a primary, behind blanks and no sign
pub primal : (text : List ℕ) (p : ℕ) → Solid text p → ((s : Sign) → start_at text p ≡ at.Sign s → ⊥) → Primal (start_at text p)
primal text p solid unsigned = by_start (start_at text p) refl
  where
    by_start : (s : Start) → start_at text p ≡ s → Primal s
    by_start at.Blank e =
        let h = start_is text p at.Blank (λ other. cc) e in
        cc (solid h.0, blank_start (get_or text p 0) h.1)
    by_start (at.Sign s) e = unsigned s e
    by_start s e = tt

-- anything else is refused
pub primary_fails : (text : List ℕ) (p : ℕ) (x : Context) (f : Fault) → Primal (start_at text p) → (start_at text p ≡ at.Digit → ⊥) → (start_at text p ≡ at.Letter → ⊥) → (start_at text p ≡ at.Quote → ⊥) → (start_at text p ≡ at.Round → ⊥) → (start_at text p ≡ at.Curly → ⊥) → f ≡ fault UnexpectedByte p → Fails text (Wanting text p 12 x) want p f
primary_fails text p x f primal digit letter quote round curly told k w =
    refuses true text (want k) p (λ lt. ap (λ s. wants s (get_or text p 0) k p) (sym (start_here text p lt)) ∙ by_start (start_at text p) (get_or text p 0) refl primal (w.clear p (blanks_here text p (omega arith)))) refl
    ∙ as_refused f UnexpectedByte p told
  where
    by_start : (s : Start) (b : ℕ) → start_at text p ≡ s → Primal s → Clear s k → wants s b k p ≡ stop
    by_start s b e h c = grind arith

-- with each operator fewer bytes are left
pub tail_smaller : (n : ℕ) (x : Context) (first o : Operand) (p : Op) (m : ℕ) (r r₁ r₂ r₂' : Cursor) → Tailing n x first r o r₁ → Joins r₁.text.now p x r₁ m r₂ → r₂' ≡ r₂ → length r.text.now - r₂'.pos < length r.text.now - r₁.pos
tail_smaller n x first o p m r r₁ r₂ r₂' a b e =
    subst (λ (z : Cursor). length r.text.now - z.pos < length r.text.now - r₁.pos) (sym e) (falls_on r r₂ r₁.pos (b.went.text ∙ a.chain.went.text) b.far)

-- the bytes of an operator stand in an instruction
first_inner : (x : ℕ) (y : Option ℕ) (o : Op) → token_of (after x) y ≡ Some o → Inner x
first_inner x y o e = grind (arith, nat_tests)

second_inner : (x y : ℕ) (o : Op) → token_of (after x) (Some y) ≡ Some o → is_wide o ≡ true → Inner y
second_inner x y o e wide = grind (arith, nat_tests)

token_by : (text : List ℕ) (p : ℕ) (o : Op) → token_at text p ≡ Some o → token_of (after (get_or text p 0)) (slice_get text (p + 1)) ≡ Some o
token_by text p o e = sym (ap (λ a. token_of a (slice_get text (p + 1))) (after_here text p (token_inside text p o e))) ∙ e

pub operator_passed : (r : Cursor) (o : Op) → r.state ≡ Instruction → token_at r.text.now r.pos ≡ Some o → Passes r
operator_passed r o inward e = (token_inside r.text.now r.pos o e, (inward, first_inner (get_or r.text.now r.pos 0) (slice_get r.text.now (r.pos + 1)) o (token_by r.text.now r.pos o e)))

-- the second one at the cursor behind the first
pub second_passed : (r r' : Cursor) (o : Op) → r.state ≡ Instruction → token_at r.text.now r.pos ≡ Some o → is_wide o ≡ true → MovedTo r (r.pos + 1) r' → Passes r'
second_passed r r' o inward e wide m =
    let text : List ℕ = r.text.now in
    let lt = wide_inside text r.pos o e wide in
    let inner = second_inner (get_or text r.pos 0) (get_or text (r.pos + 1) 0) o (sym (ap (token_of (after (get_or text r.pos 0))) (slice_get-get_or text (r.pos + 1) 0 lt)) ∙ token_by text r.pos o e) wide in
    let here : (r'.pos < length text) × Inner (get_or text r'.pos 0) = subst (λ p. (p < length text) × Inner (get_or text p 0)) (sym m.pos) (lt, inner) in
    there (λ t. (r'.pos < length t) × ((r'.state ≡ Instruction) × Inner (get_or t r'.pos 0))) (sym m.text) (here.0, (m.state ∙ inward, here.1))

-- a constant at its first byte
digit_on : (text : List ℕ) (p : ℕ) (k : Stack) → start_at text p ≡ at.Digit → onward true text (want k) p ≡ onward true text (in_number p (first_digit (get_or text p 0)) (Numbered.operand k)) (p + 1)
digit_on text p k is =
    let h = start_is text p at.Digit (λ o. cc) is in
    moves true text (want k) p _ h.0 (ap (λ z. wants z (get_or text p 0) k p) h.1)

quote_on : (text : List ℕ) (p : ℕ) (k : Stack) → start_at text p ≡ at.Quote → onward true text (want k) p ≡ onward true text (in_text p 0 (Quoted.operand k)) (p + 1)
quote_on text p k is =
    let h = start_is text p at.Quote (λ o. cc) is in
    moves true text (want k) p _ h.0 (ap (λ z. wants z (get_or text p 0) k p) h.1)

-- a constant that is refused
pub number_fails : (x : Context) (r : Cursor) (f : Fault) → start_at r.text.now r.pos ≡ at.Digit → ((g : Numbered) → onward true r.text.now (in_number r.pos (first_digit (get_or r.text.now r.pos 0)) g) (r.pos + 1) ≡ refused f.refusal f.place) → Fails r.text.now (Fitting 12 x) want r.pos f
number_fails x r f here fails k fit = digit_on r.text.now r.pos k here ∙ fails (Numbered.operand k)

pub quoted_fails : (x : Context) (r : Cursor) (f : Fault) → start_at r.text.now r.pos ≡ at.Quote → ((g : Quoted) → onward true r.text.now (in_text r.pos 0 g) (r.pos + 1) ≡ refused f.refusal f.place) → Fails r.text.now (Fitting 12 x) want r.pos f
quoted_fails x r f here fails k fit = quote_on r.text.now r.pos k here ∙ fails (Quoted.operand k)

-- a byte behind a number constant whose digits are complete
pub complete_step : (text : List ℕ) (read : Digits) (i p : ℕ) (g : Numbered) → Complete text read p → p < length text → step (in_number i read g) p (get_or text p 0) ≡ numbereds g (constant_at i p (value_of read)) (get_or text p 0) p
complete_step text nought i p g h lt = absurd h
complete_step text prefix i p g h lt = absurd h
complete_step text (digits n v) i p g h lt = cond-false _ _ _ (ap (λ d. ltb d n) (sym (digit_here text p lt)) ∙ h)

-- what follows an operand where that stands
told_here : (x : Context) (n : ℕ) (k : Stack) (a : After) (t : Expr) (p : ℕ) → Fitting n x k → Told (operand_end x.inside a) (afters a t k p)
told_here x n k a t p fit = subst (λ i. Told (operand_end i a) (afters a t k p)) fit.here (told_after a t k p)

capped_none : (v : ℕ) → capped v ≡ None → leb v 9223372036854775807 ≡ false
capped_none v e = grind arith

capped_some : (v w : ℕ) → capped v ≡ Some w → (leb v 9223372036854775807 ≡ true) × (v ≡ w)
capped_some v w e = grind arith

-- a number constant
module _ (x : Context) (r r' : Cursor) (n : Numeral) (here : start_at r.text.now r.pos ≡ at.Digit) (b : Numbers r n r') where
  span_is : n.span ≡ from_to r.pos r'.pos
  span_is = ap (λ (n : Numeral). n.span) b.told

  value_is : n.value ≡ capped (value_of b.read)
  value_is = ap (λ (n : Numeral). n.value) b.told

  number_on : (k : Stack) → onward true r.text.now (want k) r.pos ≡ onward true r.text.now (in_number r.pos b.read (Numbered.operand k)) r'.pos
  number_on k = digit_on r.text.now r.pos k here ∙ b.runs (Numbered.operand k)

  number_late : (y : Broken) (ys : List Broken) (f : Fault) → broken_number (constant_at r.pos r'.pos (value_of b.read)) ≡ y ∷ ys → Limited (follow.Operand x.inside) r' (refusal_of y.rule) y.place f → Fails r.text.now (Fitting 12 x) want r.pos f
  number_late y ys f due l k fit =
      let t : Expr = Expr.number (constant_at r.pos r'.pos (value_of b.read)) in
      let a : After = after (get_or r'.text.now r'.pos 0) in
      let complete = there (λ t. Complete t b.read r'.pos) (sym b.same.text) b.complete in
      number_on k
      ∙ there (λ t. onward true t (in_number r.pos b.read (Numbered.operand k)) r'.pos ≡ refused f.refusal f.place) b.same.text
      (limited (follow.Operand x.inside) r' y ys f (in_number r.pos b.read (Numbered.operand k)) (afters a t k r'.pos) l
      (λ lt. complete_step r'.text.now b.read r.pos r'.pos (Numbered.operand k) complete lt ∙ ap (λ d. late d (afters a t k r'.pos)) due)
      (λ lt. told_here x 12 k a t r'.pos fit)
      refl)

  -- it is too large, or too long
  pub number_large : (f : Fault) → n.value ≡ None → Limited (follow.Operand x.inside) r' BadNumber n.span.«from» f → Fails r.text.now (Fitting 12 x) want r.pos f
  number_large f none l =
      number_late (record { rule = five; place = r.pos; due = r'.pos }) (breaks (leb (r'.pos - r.pos) 32) six r.pos r'.pos) f
      (ap (λ b. breaks b five r.pos r'.pos ++ breaks (leb (r'.pos - r.pos) 32) six r.pos r'.pos) (capped_none (value_of b.read) (sym value_is ∙ none)))
      (subst (λ (s : Span ℕ). Limited (follow.Operand x.inside) r' BadNumber s.«from» f) span_is l)

  pub number_long : (f : Fault) (v : ℕ) → n.value ≡ Some v → 32 < n.span.to - n.span.«from» → Limited (follow.Operand x.inside) r' TooLong n.span.«from» f → Fails r.text.now (Fitting 12 x) want r.pos f
  number_long f v some long l =
      let much : 32 < r'.pos - r.pos = subst (λ (s : Span ℕ). 32 < s.to - s.«from») span_is long in
      number_late (record { rule = six; place = r.pos; due = r'.pos }) [] f
      (ap (λ b. breaks b five r.pos r'.pos ++ breaks (leb (r'.pos - r.pos) 32) six r.pos r'.pos) (capped_some (value_of b.read) v (sym value_is ∙ some)).0
      ∙ ap (λ b. breaks b six r.pos r'.pos) (lt-leb (r'.pos - r.pos) 32 much))
      (subst (λ (s : Span ℕ). Limited (follow.Operand x.inside) r' TooLong s.«from» f) span_is l)

  pub number_took : (r'' : Cursor) (v : ℕ) (s : Span ℕ) → r.state ≡ Instruction → n.value ≡ Some v → n.span.to - n.span.«from» ≤ 32 → s ≡ from_to (min n.span.«from» 65535) (min n.span.to 65535) → Tabled r' (tables.pushed r'.table (node.Number s v)) r'' → Took r.text.now (Fitting 12 x) want r (record { need = 1; constant = Some (record { span = n.span; value = v }) }) r''
  unfolding flatten need
  number_took r'' v s inward some few narrow tabled =
      let i : ℕ = r.pos in
      let p : ℕ = r'.pos in
      let w : ℕ = value_of b.read in
      let c : Constant = constant_at i p w in
      let h : (leb w 9223372036854775807 ≡ true) × (w ≡ v) = capped_some w v (sym value_is ∙ some) in
      let few' : p - i ≤ 32 = subst (λ (s : Span ℕ). s.to - s.«from» ≤ 32) span_is few in
      let none : broken_number c ≡ [] = ap (λ b. breaks b five i p ++ breaks (leb (p - i) 32) six i p) h.0 ∙ ap (λ b. breaks b six i p) (le-leb (p - i) 32 few') in
      let within : p ≤ 4096 = omega (arith, r'.within, r'.short) in
      let span : s ≡ from_to i p = narrowed i p s (narrow ∙ ap (λ (s : Span ℕ). from_to (min s.«from» 65535) (min s.to 65535)) span_is) (omega (arith, b.onwards)) (omega arith) in
      let same : node.Number s v ≡ node.Number (from_to i p) w = ap (λ s. node.Number s v) span ∙ ap (node.Number (from_to i p)) (sym h.1) in
      let len : r'.table.len ≡ r.table.len = ap (λ (t : Table). t.len) b.same.table in
      record {
        tree = Expr.number c;
        keyless = λ u k b q. refl;
        told = λ j. record { need = 1; constant = Some (record { span = span_is j; value = sym h.1 j }) };
        placed = omega (arith, ap (λ (s : Span ℕ). s.«from») span_is, b.onwards, tabled.pos);
        small = omega (arith, b.onwards, tabled.pos);
        far = omega (arith, b.onwards, tabled.pos);
        went = went_push [] (node.Number (from_to i p) w) (omega arith) (omega (arith, b.onwards)) (went_moved inward (omega (arith, b.onwards)) b.same) (subst (λ n. Tabled r' (tables.pushed r'.table n) r'') same tabled);
        runs = λ k fit.
            number_on k
            ∙ alike true r.text.now (in_number i b.read (Numbered.operand k)) (aft (Expr.number c) k) p
            (λ lt. complete_step r.text.now b.read i p (Numbered.operand k) b.complete lt ∙ ap (λ d. late d (afters (after (get_or r.text.now p 0)) (Expr.number c) k p)) none ∙ late_none _)
            refl
            ∙ ap (onward true r.text.now (aft (Expr.number c) k)) (sym tabled.pos);
      }

-- a text constant
module _ (x : Context) (r r' : Cursor) (t : Quote) (here : start_at r.text.now r.pos ≡ at.Quote) (b : Quotes r t r') where
  text_on : (k : Stack) → onward true r.text.now (want k) r.pos ≡ onward true r.text.now (quoted t (Quoted.operand k)) r'.pos
  text_on k = quote_on r.text.now r.pos k here ∙ b.runs (Quoted.operand k)

  -- it is too long
  pub quoted_long : (f : Fault) → 32 < t.bytes → Limited (follow.Operand x.inside) r' TooLong t.span.«from» f → Fails r.text.now (Fitting 12 x) want r.pos f
  quoted_long f long l k fit =
      let a : After = after (get_or r'.text.now r'.pos 0) in
      text_on k
      ∙ there (λ z. onward true z (quoted t (Quoted.operand k)) r'.pos ≡ refused f.refusal f.place) b.text
      (limited (follow.Operand x.inside) r' (record { rule = six; place = t.span.«from»; due = t.span.to }) [] f (quoted t (Quoted.operand k)) (afters a (Expr.text t) k r'.pos) l
      (λ lt. ap (λ b. late (breaks b six t.span.«from» t.span.to) (afters a (Expr.text t) k r'.pos)) (lt-leb t.bytes 32 long))
      (λ lt. told_here x 12 k a (Expr.text t) r'.pos fit)
      refl)

  pub quoted_took : (r'' : Cursor) (s : Span ℕ) (o : Operand) → r.state ≡ Instruction → t.bytes ≤ 32 → s ≡ from_to (min t.span.«from» 65535) (min t.span.to 65535) → o ≡ record { need = 1; constant = None } → Tabled r' (tables.pushed r'.table (node.Text s)) r'' → Took r.text.now (Fitting 12 x) want r o r''
  unfolding flatten need
  quoted_took r'' s o inward few narrow is tabled =
      let within : r'.pos ≤ 4096 = omega (arith, r'.within, r'.short) in
      let span : s ≡ t.span = narrowed t.span.«from» t.span.to s narrow (omega (arith, b.opens, b.onwards)) (omega (arith, b.closes)) in
      let len : r'.table.len ≡ r.table.len = ap (λ (t : Table). t.len) b.table in
      let moved : MovedTo r r'.pos r' = record { text = b.text; state = b.inward ∙ sym inward; pos = refl; table = b.table } in
      record {
        tree = Expr.text t;
        keyless = λ u k b q. refl;
        told = is;
        placed = placed_none o r''.pos is;
        small = omega (arith, ap (λ (v : Operand). v.need) is, b.onwards, tabled.pos);
        far = omega (arith, b.onwards, tabled.pos);
        went = went_push [] (node.Text t.span) (omega arith) (omega (arith, b.onwards)) (went_moved inward (omega (arith, b.onwards)) moved) (subst (λ s. Tabled r' (tables.pushed r'.table (node.Text s)) r'') span tabled);
        runs = λ k fit.
            text_on k
            ∙ alike true r.text.now (quoted t (Quoted.operand k)) (aft (Expr.text t) k) r'.pos
            (λ lt. ap (λ b. late (breaks b six t.span.«from» t.span.to) (afters (after (get_or r.text.now r'.pos 0)) (Expr.text t) k r'.pos)) (le-leb t.bytes 32 few) ∙ late_none _)
            refl
            ∙ ap (onward true r.text.now (aft (Expr.text t) k)) (sym tabled.pos);
      }
