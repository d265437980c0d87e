-- Lists and sequences. Assumes nothing.
use Rattle.std.proofs.Common.{◌≡◌, ℕ, suc, ◌+◌, ◌<◌, ◌≤◌, max, Bool, true, false, eqb, ◌⊎◌, List, [], ◌∷◌, ◌++◌, length, get_or, not, Bor, Some, None, Ok, Err, Option, Result, sym, refl, ap, ◌∙◌, subst, inl, inr, ⊎_elim, append_assoc, arith}
use Rattle.std.proofs.lemmas.Bool.{cond-true, cond-false, ne_eqb, cases_lt}
use Rattle.std.proofs.lemmas.List.{append-nil}
use Rattle.std.proofs.lemmas.Bool.Decides.{nat_tests}
use Rattle.refusals.specs.declared.Refusal.TheVariants.{UnexpectedByte, NestedTooDeep}
use Rattle.tokens.specs.declared.byte.Start.{Start}
use Rattle.tokens.specs.declared.byte.Start.TheVariants as at
use Rattle.tokens.specs.declared.byte.After.{After}
use Rattle.tokens.specs.declared.byte.After.TheVariants as past
use Rattle.tokens.specs.declared.byte.Separator.TheVariants.{Comma}
use Rattle.tokens.specs.Bytes.{start, after, blank, digit}
use Rattle.trees.specs.declared.Constant.{Constant}
use Rattle.trees.specs.declared.Node.{Node}
use Rattle.trees.specs.declared.Node.TheVariants as node
use Rattle.trees.specs.Tree.{Expr, Seq}
use Rattle.trees.specs.Flat.{flatten, flatten_seq, joint, closing}
use Rattle.trees.specs.Counts.{need, need_list}
use Rattle.trees.specs.Laid.{weight}
use Rattle.grammar.specs.Rules.{Broken}
use Rattle.grammar.specs.Machine.{Stack, Bracket, Run, Config, stop, go, Numbered, late, step, want, in_number, aft, dots, last_wanted, last_done, constant, constant_at, first_digit, lasts, wants, running, depth, dotted, first, firsts, afters, finish, onward, refused}
use Rattle.grammar.specs.Grammar.{Blanks}
use Rattle.grammar.proofs.Moves.{moves, alike, stays, want_stays, first_stays, dots_stays, last_wanted_stays, last_done_stays, late_none}
use Rattle.reader.specs.declared.cursor.Cursor.{Cursor}
use Rattle.reader.specs.declared.cursor.Numeral.{Numeral}
use Rattle.reader.specs.declared.cursor.Follow.TheVariants as follow
use Rattle.reader.specs.declared.cursor.Inside.TheVariants as inside
use Rattle.reader.specs.declared.expression.Context.{Context}
use Rattle.reader.specs.declared.expression.Operand.{Operand}
use Rattle.reader.specs.declared.expression.Group.{Group}
use Rattle.refusals.specs.declared.fault.Fault.{Fault}
use Rattle.reader.specs.declared.cursor.State.TheVariants.{Instruction}
use Rattle.reader.specs.Tables.{Table, pushed, restored, Grew}
use Rattle.reader.specs.States.{fault, MovedTo, Tabled}
use Rattle.reader.specs.Scans.{start_at, after_at, unexpected_at, Spaced, Numbers, Numeraled, Complete, value_of}
use Rattle.reader.specs.Reads.{Fitting, Wanting, Fails, Solid, Stops, Went, Placed, Took, Item, Ended, Grows, Continued, is_empty, is_comma, group_end, is_group_end, behind, grouping, joint_of, Ellipsis, Ellipsed, Dotted, last_rules, Judged, Arrived, EndedSequence, Sequenced}
use Rattle.reader.proofs.Leaves.{as_refused, refuses}
use Rattle.reader.proofs.Places.{start_is, after_is, Passes, after_passed, start_here, after_here, at_place, blank_start, blank_after}
use Rattle.reader.proofs.Passing.{there, blanks_none, moved_here, moved_on, blanks_in, solid_in, went_append, went_none, went_moved, went_over, went_from, went_push, placed_none}
use Rattle.reader.proofs.Limits.{limited, told_last, ends_here, unexpected, unassigned, clear_by}
use Rattle.reader.proofs.Joins.{complete_step}
use Rattle.reader.proofs.Opens.{Opened, opens_on, opens_over}
use Rattle.reader.proofs.Tabling.{grew_none, grew_one, grew_push, grew_append, grew_restore}

-- the bytes of a sequence
a_dot : (b : ℕ) → start b ≡ at.Dot → eqb b 46 ≡ true
a_dot b e = grind (arith, nat_tests)

no_dot : (b : ℕ) → (start b ≡ at.Dot → ⊥) → eqb b 46 ≡ false
no_dot b e = grind (arith, nat_tests)

a_comma : (b : ℕ) → after b ≡ past.Separator Comma → (blank b ≡ false) × (eqb b 44 ≡ true)
a_comma b e = grind (arith, nat_tests)

no_comma : (b : ℕ) → is_comma (after b) ≡ false → eqb b 44 ≡ false
no_comma b e = grind (arith, nat_tests)

a_digit : (b : ℕ) → start b ≡ at.Digit → (blank b ≡ false) × (digit b ≡ true)
a_digit b e = grind (arith, nat_tests)

no_digit : (b : ℕ) → blank b ≡ false → (start b ≡ at.Digit → ⊥) → digit b ≡ false
no_digit b s e = grind (arith, nat_tests)

pub comma_is : (a : After) → is_comma a ≡ true → a ≡ past.Separator Comma
comma_is a e = grind arith

-- the dots, the comma behind them and the first digit behind that
module _ (text : List ℕ) (u : Run) where
  dot_on : (n p : ℕ) → start_at text p ≡ at.Dot → onward true text (dots (suc n) u) p ≡ onward true text (dots n u) (p + 1)
  dot_on n p e =
      let h = start_is text p at.Dot (λ o. cc) e in
      moves true text (dots (suc n) u) p _ h.0 (cond-true _ _ _ (a_dot (get_or text p 0) h.1))

  dot_stop : (n p : ℕ) → (start_at text p ≡ at.Dot → ⊥) → onward true text (dots (suc n) u) p ≡ refused UnexpectedByte p
  dot_stop n p ne =
      refuses true text (dots (suc n) u) p (λ lt. cond-false _ _ _ (no_dot (get_or text p 0) (λ e. ne (start_here text p lt ∙ e)))) refl

  comma_on : (p : ℕ) → after_at text p ≡ past.Separator Comma → onward true text (dots 0 u) p ≡ onward true text (last_wanted u) (p + 1)
  comma_on p e =
      let h = after_is text p (past.Separator Comma) (λ o. cc) e in
      let b = a_comma (get_or text p 0) h.1 in
      moves true text (dots 0 u) p _ h.0 (cond-false _ _ _ b.0 ∙ cond-true _ _ _ b.1)

  comma_stop : (p : ℕ) → Solid text p → is_comma (after_at text p) ≡ false → onward true text (dots 0 u) p ≡ refused UnexpectedByte p
  comma_stop p solid ne =
      refuses true text (dots 0 u) p (λ lt. cond-false _ _ _ (solid lt) ∙ cond-false _ _ _ (no_comma (get_or text p 0) (ap is_comma (sym (after_here text p lt)) ∙ ne))) refl

  last_on : (p : ℕ) → start_at text p ≡ at.Digit → onward true text (last_wanted u) p ≡ onward true text (in_number p (first_digit (get_or text p 0)) (Numbered.last u)) (p + 1)
  last_on p e =
      let h = start_is text p at.Digit (λ o. cc) e in
      let b = a_digit (get_or text p 0) h.1 in
      moves true text (last_wanted u) p _ h.0 (cond-false _ _ _ b.0 ∙ cond-true _ _ _ b.1)

  last_stop : (p : ℕ) → Solid text p → (start_at text p ≡ at.Digit → ⊥) → onward true text (last_wanted u) p ≡ refused UnexpectedByte p
  last_stop p solid ne =
      refuses true text (last_wanted u) p (λ lt. cond-false _ _ _ (solid lt) ∙ cond-false _ _ _ (no_digit (get_or text p 0) (solid lt) (λ e. ne (start_here text p lt ∙ e)))) refl

-- behind some dots of a sequence, or behind blanks after them: n dots are to come
pub record Dotting (n : ℕ) (r r' : Cursor) : Type 0 where
  pub same : MovedTo r r'.pos r'
  pub far : r.pos + 3 ≤ r'.pos + n
  pub runs : (u : Run) → onward true r.text.now (dots 2 u) (r.pos + 1) ≡ onward true r.text.now (dots n u) r'.pos

pub dotting_first : (r r₁ : Cursor) → MovedTo r (r.pos + 1) r₁ → Dotting 2 r r₁
dotting_first r r₁ m =
    record {
      same = moved_here m;
      far = omega (arith, m.pos);
      runs = λ u. ap (onward true r.text.now (dots 2 u)) (sym m.pos);
    }

pub dotting_more : (n : ℕ) (r r₁ r₂ : Cursor) → Dotting (suc n) r r₁ → Dotted r₁.text.now r₁ (Ok tt) r₂ → Dotting n r r₂
dotting_more n r r₁ r₂ d o =
    record {
      same = moved_on d.same o.1;
      far = omega (arith, d.far, o.1.pos);
      runs = λ u. d.runs u ∙ dot_on r.text.now u n r₁.pos (sym (at_place start_at d.same) ∙ o.0) ∙ ap (onward true r.text.now (dots n u)) (sym o.1.pos);
    }

pub dotting_stop : (n : ℕ) (r r₁ r₂ : Cursor) (f : Fault) → Dotting (suc n) r r₁ → Dotted r₁.text.now r₁ (Err f) r₂ → Ellipsed r.text.now r (Err f) r₂
dotting_stop n r r₁ r₂ f d o u = d.runs u ∙ dot_stop r.text.now u n r₁.pos (λ e. o.0 (at_place start_at d.same ∙ e)) ∙ as_refused f UnexpectedByte r₁.pos o.1

pub dotting_over : (r r₁ r₂ : Cursor) → Dotting 0 r r₁ → Spaced r₁ r₂ → Dotting 0 r r₂
dotting_over r r₁ r₂ d s =
    record {
      same = moved_on d.same s.same;
      far = omega (arith, d.far, s.all.onwards);
      runs = λ u. d.runs u ∙ stays true r.text.now (dots 0 u) (dots_stays u) r₁.pos r₂.pos (blanks_in d.same.text s);
    }

pub dotting_end : (r r₁ r₂ : Cursor) (f : Fault) → Dotting 0 r r₁ → Spaced r₁ r₂ → is_comma (after_at r₂.text.now r₂.pos) ≡ false → f ≡ fault UnexpectedByte r₂.pos → Ellipsed r.text.now r (Err f) r₂
dotting_end r r₁ r₂ f d s ne e u =
    let over : Dotting 0 r r₂ = dotting_over r r₁ r₂ d s in
    over.runs u
    ∙ comma_stop r.text.now u r₂.pos (solid_in d.same.text s) (ap is_comma (sym (at_place after_at over.same)) ∙ ne)
    ∙ as_refused f UnexpectedByte r₂.pos e

-- behind the comma: r₂ is at it, r₃ behind it, and r₄ behind the blanks after it
module _ (r r₂ r₃ r₄ : Cursor) (d : Dotting 0 r r₂) (comma : is_comma (after_at r₂.text.now r₂.pos) ≡ true) (m : MovedTo r₂ (r₂.pos + 1) r₃) (s : Spaced r₃ r₄) where
  ellipsis_same : MovedTo r r₃.pos r₃
  ellipsis_same = moved_on d.same m

  ellipsis_runs : (u : Run) → onward true r.text.now (dots 2 u) (r.pos + 1) ≡ onward true r.text.now (last_wanted u) r₄.pos
  ellipsis_runs u =
      d.runs u
      ∙ comma_on r.text.now u r₂.pos (sym (at_place after_at d.same) ∙ comma_is (after_at r₂.text.now r₂.pos) comma)
      ∙ ap (onward true r.text.now (last_wanted u)) (sym m.pos)
      ∙ stays true r.text.now (last_wanted u) (last_wanted_stays u) r₃.pos r₄.pos (blanks_in ellipsis_same.text s)

  pub ellipsis_stop : (f : Fault) → (start_at r₄.text.now r₄.pos ≡ at.Digit → ⊥) → f ≡ fault UnexpectedByte r₄.pos → Ellipsed r.text.now r (Err f) r₄
  ellipsis_stop f ne e u =
      ellipsis_runs u
      ∙ last_stop r.text.now u r₄.pos (solid_in ellipsis_same.text s) (λ x. ne (at_place start_at (moved_on ellipsis_same s.same) ∙ x))
      ∙ as_refused f UnexpectedByte r₄.pos e

  pub ellipsis_done : start_at r₄.text.now r₄.pos ≡ at.Digit → Ellipsis r.text.now r r₄
  ellipsis_done e =
      record {
        same = moved_on ellipsis_same s.same;
        far = omega (arith, d.far, m.pos, s.all.onwards);
        digit = sym (at_place start_at (moved_on ellipsis_same s.same)) ∙ e;
        runs = ellipsis_runs;
      }

pub comma_passed : (r : Cursor) → r.state ≡ Instruction → is_comma (after_at r.text.now r.pos) ≡ true → Passes r
comma_passed r inward e = after_passed r inward (comma_is (after_at r.text.now r.pos) e) (λ d. cc) (λ q. cc) (λ o. cc)

-- a sequence that waits for its dots, behind two constants
abbrev pub run_of : ℕ → Seq → Stack → Constant → Constant → Run
run_of q s k a b = record { place = q; items = s; first = a; second = b; stack = k }

-- a list whose present group has two items
abbrev paired : ℕ → Seq → Expr → Expr → Stack → Stack
paired q s x y k = Stack.open' (Bracket.curly q (Seq.item (Seq.item s x) y) 2) k

module _ (text : List ℕ) (q : ℕ) (s : Seq) (k : Stack) (x y : Expr) where
  two_on : (p : ℕ) (a b : Constant) → start_at text p ≡ at.Dot → constant x ≡ Some a → constant y ≡ Some b → onward true text (grouping 2 q (Seq.item (Seq.item s x) y) k) p ≡ onward true text (dots 2 (run_of q s k a b)) (p + 1)
  two_on p a b e ea eb =
      let h = start_is text p at.Dot (λ o. cc) e in
      moves true text (want (paired q s x y k)) p _ h.0
      (ap (λ c. wants c (get_or text p 0) (paired q s x y k) p) h.1
      ∙ ap (λ a. running q s a (constant y) k) ea
      ∙ ap (λ b. running q s (Some a) b k) eb)

  two_stop : (p : ℕ) (a b : Option Constant) → start_at text p ≡ at.Dot → constant x ≡ a → constant y ≡ b → running q s a b k ≡ stop → onward true text (grouping 2 q (Seq.item (Seq.item s x) y) k) p ≡ refused UnexpectedByte p
  two_stop p a b e ea eb none =
      let h = start_is text p at.Dot (λ o. cc) e in
      moves true text (want (paired q s x y k)) p stop h.0
      (ap (λ c. wants c (get_or text p 0) (paired q s x y k) p) h.1
      ∙ ap (λ a. running q s a (constant y) k) ea
      ∙ ap (λ b. running q s a b k) eb
      ∙ none)

-- no sequence goes on here
pub sequence_unpaired : (r : Cursor) (a b : Option Constant) (f : Fault) → start_at r.text.now r.pos ≡ at.Dot → ((q : ℕ) (s : Seq) (k : Stack) → running q s a b k ≡ stop) → f ≡ fault UnexpectedByte r.pos → (q : ℕ) (s : Seq) (k : Stack) (x y : Expr) → constant x ≡ a → constant y ≡ b → onward true r.text.now (grouping 2 q (Seq.item (Seq.item s x) y) k) r.pos ≡ refused f.refusal f.place
sequence_unpaired r a b f dot none e q s k x y ex ey = two_stop r.text.now q s k x y r.pos a b dot ex ey (none q s k) ∙ as_refused f UnexpectedByte r.pos e

pub sequence_undotted : (r r₁ : Cursor) (a b : Constant) (f : Fault) → start_at r.text.now r.pos ≡ at.Dot → Ellipsed r.text.now r (Err f) r₁ → (q : ℕ) (s : Seq) (k : Stack) (x y : Expr) → constant x ≡ Some a → constant y ≡ Some b → onward true r.text.now (grouping 2 q (Seq.item (Seq.item s x) y) k) r.pos ≡ refused f.refusal f.place
sequence_undotted r r₁ a b f dot e q s k x y ex ey = two_on r.text.now q s k x y r.pos a b dot ex ey ∙ e (run_of q s k a b)

-- some rules are judged at the cursor, behind the last constant k
judged_at : (r : Cursor) (ds : List Broken) (f : Fault) (c : Config) (k : Constant) (u : Run) → Judged follow.Last r ds f → (r.pos < length r.text.now → step c r.pos (get_or r.text.now r.pos 0) ≡ late ds (lasts (after (get_or r.text.now r.pos 0)) k u)) → finish c r.pos ≡ None → onward true r.text.now c r.pos ≡ refused f.refusal f.place
judged_at r [] f c k u j moved none = absurd j
judged_at r (x ∷ xs) f c k u j moved none = limited follow.Last r x xs f c (lasts (after (get_or r.text.now r.pos 0)) k u) j moved (λ lt. told_last (after (get_or r.text.now r.pos 0)) k u) none

-- the last constant of a sequence: r₁ is at its first digit, r₂ behind it
module _ (r₁ r₂ : Cursor) (n : Numeral) (h : Numbers r₁ n r₂) (a b : Constant) where
  last_refused : (f : Fault) → Arrived a b n r₂ (Err f) → (q : ℕ) (s : Seq) (k : Stack) → onward true r₁.text.now (in_number r₁.pos h.read (Numbered.last (run_of q s k a b))) r₂.pos ≡ refused f.refusal f.place
  last_refused f arrived q s k =
      let judged : Judged follow.Last r₂ (last_rules a b (constant_at r₁.pos r₂.pos (value_of h.read))) f = subst (λ (n : Numeral). Arrived a b n r₂ (Err f)) h.told arrived (value_of h.read) refl in
      let complete : Complete r₂.text.now h.read r₂.pos = there (λ t. Complete t h.read r₂.pos) (sym h.same.text) h.complete in
      there (λ t. onward true t (in_number r₁.pos h.read (Numbered.last (run_of q s k a b))) r₂.pos ≡ refused f.refusal f.place) h.same.text
      (judged_at r₂ _ f (in_number r₁.pos h.read (Numbered.last (run_of q s k a b))) (constant_at r₁.pos r₂.pos (value_of h.read)) (run_of q s k a b) judged (complete_step r₂.text.now h.read r₁.pos r₂.pos (Numbered.last (run_of q s k a b)) complete) refl)

  last_arrives : (c : Constant) → Arrived a b n r₂ (Ok c) → (q : ℕ) (s : Seq) (k : Stack) → onward true r₁.text.now (in_number r₁.pos h.read (Numbered.last (run_of q s k a b))) r₂.pos ≡ onward true r₁.text.now (last_done c (run_of q s k a b)) r₂.pos
  last_arrives c arrived q s k =
      let u = run_of q s k a b in
      let w : Constant = constant_at r₁.pos r₂.pos (value_of h.read) in
      let told : (c ≡ constant_at r₁.pos r₂.pos (value_of h.read)) × (last_rules a b c ≡ []) = subst (λ (n : Numeral). Arrived a b n r₂ (Ok c)) h.told arrived (value_of h.read) refl in
      alike true r₁.text.now (in_number r₁.pos h.read (Numbered.last u)) (last_done w u) r₂.pos
      (λ lt. complete_step r₁.text.now h.read r₁.pos r₂.pos (Numbered.last u) h.complete lt ∙ ap (λ d. late d (lasts (after (get_or r₁.text.now r₂.pos 0)) w u)) (ap (last_rules a b) (sym told.0) ∙ told.1) ∙ late_none _)
      refl
      ∙ ap (λ c. onward true r₁.text.now (last_done c u) r₂.pos) (sym told.0)

-- a sequence up to its last constant c: r is at the first dot, r₂ behind the constant
pub record Lasting (r r₂ : Cursor) (a b c : Constant) : Type 0 where
  pub same : MovedTo r r₂.pos r₂
  pub far : r.pos + 5 ≤ r₂.pos
  pub runs : (q : ℕ) (s : Seq) (k : Stack) (x y : Expr) → constant x ≡ Some a → constant y ≡ Some b → onward true r.text.now (grouping 2 q (Seq.item (Seq.item s x) y) k) r.pos ≡ onward true r.text.now (last_done c (run_of q s k a b)) r₂.pos

module _ (r r₁ : Cursor) (dot : start_at r.text.now r.pos ≡ at.Dot) (e : Ellipsis r.text.now r r₁) where
  last_begins : (a b : Constant) (q : ℕ) (s : Seq) (k : Stack) (x y : Expr) → constant x ≡ Some a → constant y ≡ Some b → onward true r.text.now (grouping 2 q (Seq.item (Seq.item s x) y) k) r.pos ≡ onward true r.text.now (in_number r₁.pos (first_digit (get_or r.text.now r₁.pos 0)) (Numbered.last (run_of q s k a b))) (r₁.pos + 1)
  last_begins a b q s k x y ex ey = two_on r.text.now q s k x y r.pos a b dot ex ey ∙ e.runs (run_of q s k a b) ∙ last_on r.text.now (run_of q s k a b) r₁.pos e.digit

  module _ (r₂ : Cursor) where
    pub sequence_misread : (a b : Constant) (f : Fault) → Numeraled r₁ (Err f) r₂ → (q : ℕ) (s : Seq) (k : Stack) (x y : Expr) → constant x ≡ Some a → constant y ≡ Some b → onward true r.text.now (grouping 2 q (Seq.item (Seq.item s x) y) k) r.pos ≡ refused f.refusal f.place
    sequence_misread a b f h q s k x y ex ey =
        last_begins a b q s k x y ex ey
        ∙ there (λ t. onward true t (in_number r₁.pos (first_digit (get_or t r₁.pos 0)) (Numbered.last (run_of q s k a b))) (r₁.pos + 1) ≡ refused f.refusal f.place) e.same.text (h (Numbered.last (run_of q s k a b)))

    module _ (n : Numeral) (h : Numbers r₁ n r₂) (a b : Constant) where
      last_reads : (q : ℕ) (s : Seq) (k : Stack) (x y : Expr) → constant x ≡ Some a → constant y ≡ Some b → onward true r.text.now (grouping 2 q (Seq.item (Seq.item s x) y) k) r.pos ≡ onward true r.text.now (in_number r₁.pos h.read (Numbered.last (run_of q s k a b))) r₂.pos
      last_reads q s k x y ex ey =
          let g = Numbered.last (run_of q s k a b) in
          last_begins a b q s k x y ex ey
          ∙ there (λ t. onward true t (in_number r₁.pos (first_digit (get_or t r₁.pos 0)) g) (r₁.pos + 1) ≡ onward true t (in_number r₁.pos h.read g) r₂.pos) e.same.text (h.runs g)

      pub sequence_fails : (f : Fault) → Arrived a b n r₂ (Err f) → (q : ℕ) (s : Seq) (k : Stack) (x y : Expr) → constant x ≡ Some a → constant y ≡ Some b → onward true r.text.now (grouping 2 q (Seq.item (Seq.item s x) y) k) r.pos ≡ refused f.refusal f.place
      sequence_fails f arrived q s k x y ex ey =
          last_reads q s k x y ex ey
          ∙ there (λ t. onward true t (in_number r₁.pos h.read (Numbered.last (run_of q s k a b))) r₂.pos ≡ refused f.refusal f.place) e.same.text (last_refused r₁ r₂ n h a b f arrived q s k)

      pub lasting : (c : Constant) → Arrived a b n r₂ (Ok c) → Lasting r r₂ a b c
      lasting c arrived =
          record {
            same = moved_on e.same h.same;
            far = omega (arith, e.far, h.onwards);
            runs = λ q s k x y ex ey.
                last_reads q s k x y ex ey
                ∙ there (λ t. onward true t (in_number r₁.pos h.read (Numbered.last (run_of q s k a b))) r₂.pos ≡ onward true t (last_done c (run_of q s k a b)) r₂.pos) e.same.text (last_arrives r₁ r₂ n h a b c arrived q s k);
          }

-- what ends a sequence
lasts_end : (more : Bool) (c : Constant) (u : Run) → lasts (group_end more) c u ≡ go [] (behind more u.place (Seq.steps u.items u.first u.second c) u.stack)
lasts_end more c u = grind arith

lasts_stop : (x : After) (c : Constant) (u : Run) → is_group_end x ≡ false → (x ≡ past.Blank → ⊥) → lasts x c u ≡ stop
lasts_stop x c u e s = grind arith

group_end_some : (more : Bool) → group_end more ≡ past.Other → ⊥
group_end_some more e = grind arith

module _ (text : List ℕ) (c : Constant) (u : Run) (p : ℕ) where
  done_on : (more : Bool) → after_at text p ≡ group_end more → onward true text (last_done c u) p ≡ onward true text (behind more u.place (Seq.steps u.items u.first u.second c) u.stack) (p + 1)
  done_on more e =
      let h = after_is text p (group_end more) (group_end_some more) e in
      moves true text (last_done c u) p _ h.0 (ap (λ x. lasts x c u) h.1 ∙ lasts_end more c u)

  done_stop : Solid text p → is_group_end (after_at text p) ≡ false → onward true text (last_done c u) p ≡ refused UnexpectedByte p
  done_stop solid e =
      refuses true text (last_done c u) p (λ lt. lasts_stop (after (get_or text p 0)) c u (ap is_group_end (sym (after_here text p lt)) ∙ e) (λ b. cc (solid lt, blank_after (get_or text p 0) b))) refl

-- some nodes are put behind the others, where the cursor stands
pub record Puts (ns : List Node) (most : ℕ) (r r' : Cursor) : Type 0 where
  pub text : r'.text ≡ r.text
  pub state : r'.state ≡ r.state
  pub pos : r'.pos ≡ r.pos
  pub few : r'.table.len ≤ r.table.len + most
  pub fewer : r'.table.nodes + r.table.len ≤ r.table.nodes + r'.table.len
  pub grew : Grew r.table ns r'.table

puts : {r r' x : Cursor} {t : Table} (ns ms : List Node) (most : ℕ) → r' ≡ x → ms ≡ ns → Tabled r t x → t.len ≤ r.table.len + most → t.nodes + r.table.len ≤ r.table.nodes + t.len → Grew r.table ms t → Puts ns most r r'
puts {r} {r'} {x} ns ms most same is tb few fewer grew =
    subst (λ z. Puts ns most r z) (sym same)
    (subst (λ ns. Puts ns most r x) is
    (record {
      text = tb.text;
      state = tb.state;
      pos = tb.pos;
      few = omega (arith, few, ap (λ (t : Table). t.len) tb.table);
      fewer = omega (arith, fewer, ap (λ (t : Table). t.len) tb.table, ap (λ (t : Table). t.nodes) tb.table);
      grew = subst (Grew r.table ms) (sym tb.table) grew;
    }))

-- a node, and that of a joint behind it unless no item stands before
pub puts_alone : (r : Cursor) {r' x : Cursor} (n : Node) (empty : Bool) → weight n ≤ 1 → empty ≡ true → r' ≡ x → Tabled r (pushed r.table n) x → Puts (n ∷ joint_of empty) 2 r r'
puts_alone r n empty light is same tb = puts (n ∷ joint_of empty) (n ∷ []) 2 same (ap (λ e. n ∷ joint_of e) (sym is)) tb (omega arith) (omega (arith, light)) (grew_one r.table n)

pub puts_joined : (r : Cursor) {r' x : Cursor} (t : Table) (n : Node) (empty : Bool) → weight n ≤ 1 → empty ≡ false → r' ≡ x → t ≡ pushed r.table n → Tabled r (pushed t node.Joined) x → Puts (n ∷ joint_of empty) 2 r r'
puts_joined r {x = x} t n empty light is same put tb = puts (n ∷ joint_of empty) (n ∷ node.Joined ∷ []) 2 same (ap (λ e. n ∷ joint_of e) (sym is)) (subst (λ t. Tabled r (pushed t node.Joined) x) put tb) (omega arith) (omega (arith, light)) (grew_push (n ∷ []) node.Joined (grew_one r.table n))

-- the joint alone
pub puts_nothing : (r : Cursor) {r' x : Cursor} (empty : Bool) → empty ≡ true → r' ≡ x → Tabled r r.table x → Puts (joint_of empty) 1 r r'
puts_nothing r empty is same tb = puts (joint_of empty) [] 1 same (ap joint_of (sym is)) tb (omega arith) (omega arith) (grew_none r.table)

pub puts_joint : (r : Cursor) {r' x : Cursor} (empty : Bool) → empty ≡ false → r' ≡ x → Tabled r (pushed r.table node.Joined) x → Puts (joint_of empty) 1 r r'
puts_joint r empty is same tb = puts (joint_of empty) (node.Joined ∷ []) 1 same (ap joint_of (sym is)) tb (omega arith) (omega arith) (grew_one r.table node.Joined)

went_puts : {r r₁ r₂ : Cursor} (ns ms : List Node) (most : ℕ) → Went r ns r₁ → Puts ms most r₁ r₂ → r₁.table.len + most + r.pos ≤ r.table.len + r₁.pos → Went r (ns ++ ms) r₂
went_puts ns ms most w put more =
    record {
      text = put.text ∙ w.text;
      inward = put.state ∙ w.inward;
      onwards = omega (arith, w.onwards, put.pos);
      few = omega (arith, put.few, put.pos);
      fewer = omega (arith, w.fewer, put.fewer);
      grew = grew_append ns ms w.grew put.grew;
    }

-- the rest of a sequence: r is at the first dot, r₂ behind the last constant c, r₃ has the nodes, r₄ is behind blanks
module _ (r r₂ r₃ r₄ r₅ : Cursor) (a? b? : Option Constant) (a b c : Constant) (empty : Bool) (l : Lasting r r₂ a b c) (put : Puts (node.Sequence a.span.«from» a.value b.value c.value ∷ joint_of empty) 2 r₂ r₃) (s : Spaced r₃ r₄) where
  sequence_runs : (q : ℕ) (z : Seq) (k : Stack) (x y : Expr) → constant x ≡ Some a → constant y ≡ Some b → onward true r.text.now (grouping 2 q (Seq.item (Seq.item z x) y) k) r.pos ≡ onward true r.text.now (last_done c (run_of q z k a b)) r₄.pos
  sequence_runs q z k x y ex ey =
      let u = run_of q z k a b in
      l.runs q z k x y ex ey
      ∙ ap (onward true r.text.now (last_done c u)) (sym put.pos)
      ∙ stays true r.text.now (last_done c u) (last_done_stays c u) r₃.pos r₄.pos (blanks_in (put.text ∙ l.same.text) s)

  pub sequenced : (o : Result Group Fault) → r.state ≡ Instruction → a? ≡ Some a → b? ≡ Some b → EndedSequence r₄.text.now r₄ o r₅ → Sequenced r.text.now a? b? empty r o r₅
  sequenced (Ok g) inward ea eb ended =
      let ns : List Node = node.Sequence a.span.«from» a.value b.value c.value ∷ joint_of empty in
      record {
        first = a;
        second = b;
        last = c;
        is_first = ea;
        is_second = eb;
        told = ended.0;
        far = omega (arith, l.far, put.pos, s.all.onwards, ended.2.pos);
        went = went_over ns (went_over ns (went_puts [] ns 2 (went_moved inward (omega (arith, l.far)) l.same) put (omega (arith, l.far, ap (λ (t : Table). t.len) l.same.table))) s.all.onwards s.same) (omega arith) ended.2;
        runs = λ q z k x y ex ey. sequence_runs q z k x y (ex ∙ ea) (ey ∙ eb) ∙ done_on r.text.now c (run_of q z k a b) r₄.pos g.more (there (λ t. after_at t r₄.pos ≡ group_end g.more) (s.same.text ∙ put.text ∙ l.same.text) ended.1) ∙ ap (onward true r.text.now (behind g.more q (Seq.steps z a b c) k)) (sym ended.2.pos);
      }
  sequenced (Err f) inward ea eb ended =
      λ q z k x y ex ey.
      let same : r₄.text ≡ r.text = s.same.text ∙ put.text ∙ l.same.text in
      sequence_runs q z k x y (ex ∙ ea) (ey ∙ eb)
      ∙ done_stop r.text.now c (run_of q z k a b) r₄.pos (solid_in (put.text ∙ l.same.text) s) (there (λ t. is_group_end (after_at t r₄.pos) ≡ false) same ended.0)
      ∙ as_refused f UnexpectedByte r₄.pos ended.1

unended_item : (a : After) → is_comma a ≡ false → is_group_end a ≡ false → ends_here inside.Curly a ≡ false
unended_item a e h = grind arith

item_end : (more : Bool) (t : Expr) (q : ℕ) (s : Seq) (n : ℕ) (k : Stack) (p : ℕ) → afters (group_end more) t (Stack.open' (Bracket.curly q s n) k) p ≡ go [] (behind more q (Seq.item s t) k)
item_end more t q s n k p = grind arith

module _ (text : List ℕ) (t : Expr) (q : ℕ) (s : Seq) (n : ℕ) (k : Stack) (p : ℕ) where
  next_on : after_at text p ≡ past.Separator Comma → onward true text (aft t (Stack.open' (Bracket.curly q s n) k)) p ≡ onward true text (grouping (suc n) q (Seq.item s t) k) (p + 1)
  next_on e =
      let h = after_is text p (past.Separator Comma) (λ o. cc) e in
      moves true text (aft t (Stack.open' (Bracket.curly q s n) k)) p _ h.0 (ap (λ x. afters x t (Stack.open' (Bracket.curly q s n) k) p) h.1)

  end_on : (more : Bool) → after_at text p ≡ group_end more → onward true text (aft t (Stack.open' (Bracket.curly q s n) k)) p ≡ onward true text (behind more q (Seq.item s t) k) (p + 1)
  end_on more e =
      let h = after_is text p (group_end more) (group_end_some more) e in
      moves true text (aft t (Stack.open' (Bracket.curly q s n) k)) p _ h.0 (ap (λ x. afters x t (Stack.open' (Bracket.curly q s n) k) p) h.1 ∙ item_end more t q s n k p)

  end_stop : Stops 1 text p → is_comma (after_at text p) ≡ false → is_group_end (after_at text p) ≡ false → onward true text (aft t (Stack.open' (Bracket.curly q s n) k)) p ≡ refused UnexpectedByte (unexpected_at text p)
  end_stop st e h = unexpected text t (Stack.open' (Bracket.curly q s n) k) p (λ b q'. unassigned t (Stack.open' (Bracket.curly q s n) k) b q' (λ c. refl)) st (unended_item (after_at text p) e h)

-- no dots stand at p, behind blanks
abbrev pub Undotted : List ℕ → ℕ → Type 0
Undotted text p = (q : ℕ) → Blanks text p q → start_at text q ≡ at.Dot → ⊥

undotted_by : (n q : ℕ) (s : Seq) (k : Stack) → (n ≡ 2 → ⊥) → dotted (Stack.open' (Bracket.curly q s n) k) ≡ stop
undotted_by n q s k ne = cond-false _ _ _ (ne_eqb n 2 ne)

undotted_curly : (text : List ℕ) (p n q p' : ℕ) (s : Seq) (k : Stack) → (n ≡ 2 → Undotted text p) → Blanks text p p' → start_at text p' ≡ at.Dot → dotted (Stack.open' (Bracket.curly q s n) k) ≡ stop
undotted_curly text p n q p' s k u b d = undotted_by n q s k (λ e. u e p' b d)

wanting_item : (text : List ℕ) (p n q : ℕ) (s : Seq) (k : Stack) (x : Context) → x.inside ≡ inside.Curly → depth k + 1 + x.left ≡ 12 → (n ≡ 2 → Undotted text p) → Wanting text p 1 x (Stack.open' (Bracket.curly q s n) k)
wanting_item text p n q s k x i room u =
    record {
      fit = record { here = sym i; room = omega arith; below = tt };
      clear = λ p' b. clear_by (start_at text p') (Stack.open' (Bracket.curly q s n) k) (undotted_curly text p n q p' s k u b) (λ w j b. refl);
    }

pub undotted_here : (text : List ℕ) (p : ℕ) → Solid text p → (start_at text p ≡ at.Dot → ⊥) → Undotted text p
undotted_here text p solid ne q b d = ne (sym (ap (start_at text) (blanks_none text p q solid b)) ∙ d)

-- an item is read: its nodes and the joint behind it
pub item_read : (text : List ℕ) (x : Context) (empty : Bool) (r : Cursor) (o : Operand) (r₁ r' : Cursor) → Took text (Wanting text r.pos 1 x) want r o r₁ → Puts (joint_of empty) 1 r₁ r' → Item text x empty r (record { need = o.need + 1; constant = o.constant }) r'
item_read text x empty r o r₁ r' a put =
    record {
      tree = a.tree;
      told = ap (λ (o : Operand). record { need = o.need + 1; constant = o.constant }) a.told;
      placed = subst (λ p. Placed o.constant p) (sym put.pos) a.placed;
      small = omega (arith, a.small, put.pos);
      far = omega (arith, a.far, put.pos);
      few = omega (arith, a.went.few, put.few, put.pos);
      fewer = omega (arith, a.went.fewer, put.fewer);
      same_text = put.text ∙ a.went.text;
      inward = put.state ∙ a.went.inward;
      grew = grew_append (flatten a.tree) (joint_of empty) a.went.grew put.grew;
      runs = λ k fit. a.runs k fit ∙ ap (onward true text (aft a.tree k)) (sym put.pos);
    }

joint_is : (s : Seq) (empty : Bool) → is_empty s ≡ empty → joint s ≡ joint_of empty
joint_is s empty e = grind arith

-- The items of a group so far make `grow s` of the items s before them: r₀ is where they begin, n₀ items of the group stand before them,
-- n with them, and they need `need`, with `base` before them. `e` tells whether there is still no item.
pub record Growing (left n₀ : ℕ) (empty : Bool) (base : ℕ) (r₀ : Cursor) (n need : ℕ) (e : Bool) (r : Cursor) : Type 0 where
  pub grow : Seq → Seq
  pub nodes : List Node
  pub flat : (s : Seq) → is_empty s ≡ empty → flatten_seq (grow s) ≡ flatten_seq s ++ nodes
  pub still : (s : Seq) → is_empty s ≡ empty → is_empty (grow s) ≡ e
  pub told : (s : Seq) → base ≤ need_list s → need_list (grow s) ≡ max (need_list s) need
  pub least : base ≤ need
  pub small : (need ≤ base) ⊎ (need + r₀.pos ≤ r.pos)
  pub went : Went r₀ nodes r
  pub runs : (q : ℕ) (s : Seq) (k : Stack) → is_empty s ≡ empty → depth k + 1 + left ≡ 12 → onward true r₀.text.now (grouping n₀ q s k) r₀.pos ≡ onward true r₀.text.now (grouping n q (grow s) k) r.pos

pub growing_none : (left n : ℕ) (empty : Bool) (base : ℕ) (r : Cursor) → r.state ≡ Instruction → Growing left n empty base r n base empty r
growing_none left n empty base r inward =
    record {
      grow = λ s. s;
      nodes = [];
      flat = λ s e. sym (append-nil (flatten_seq s));
      still = λ s e. e;
      told = λ s h. omega arith;
      least = omega arith;
      small = inl (omega arith);
      went = went_none r inward;
      runs = λ q s k e room. refl;
    }

-- behind blanks
pub growing_over : (left n₀ : ℕ) (empty : Bool) (base : ℕ) (r₀ : Cursor) (n need : ℕ) (e : Bool) (r r' : Cursor) → Growing left n₀ empty base r₀ n need e r → Spaced r r' → Growing left n₀ empty base r₀ n need e r'
growing_over left n₀ empty base r₀ n need e r r' g s =
    record {
      grow = g.grow;
      nodes = g.nodes;
      flat = g.flat;
      still = g.still;
      told = g.told;
      least = g.least;
      small = ⊎_elim (λ h. inl h) (λ h. inr (omega (arith, s.all.onwards))) g.small;
      went = went_over g.nodes g.went s.all.onwards s.same;
      runs = λ q z k e room. g.runs q z k e room ∙ stays true r₀.text.now (grouping n q (g.grow z) k) (want_stays (Stack.open' (Bracket.curly q (g.grow z) n) k)) r.pos r'.pos (blanks_in g.went.text s);
    }

module _ (x : Context) (inside_is : x.inside ≡ inside.Curly) (n₀ : ℕ) (empty : Bool) (base : ℕ) (r₀ : Cursor) (n need : ℕ) (e : Bool) (r : Cursor) (g : Growing x.left n₀ empty base r₀ n need e r) (u : n ≡ 2 → Undotted r.text.now r.pos) where
  fits_item : (q : ℕ) (s : Seq) (k : Stack) → depth k + 1 + x.left ≡ 12 → Wanting r.text.now r.pos 1 x (Stack.open' (Bracket.curly q s n) k)
  fits_item q s k room = wanting_item r.text.now r.pos n q s k x inside_is room u

  -- an item that is refused
  pub growing_fails : (f : Fault) → Fails r.text.now (Wanting r.text.now r.pos 1 x) want r.pos f → (q : ℕ) (s : Seq) (k : Stack) → is_empty s ≡ empty → depth k + 1 + x.left ≡ 12 → onward true r₀.text.now (grouping n₀ q s k) r₀.pos ≡ refused f.refusal f.place
  growing_fails f fails q s k none room =
      g.runs q s k none room
      ∙ there (λ t. onward true t (grouping n q (g.grow s) k) r.pos ≡ refused f.refusal f.place) g.went.text (fails (Stack.open' (Bracket.curly q (g.grow s) n) k) (fits_item q (g.grow s) k room))

  -- an item that is read, up to r₁
  module _ (o : Operand) (r₁ : Cursor) (i : Item r.text.now x e r o r₁) where
    item_runs : (q : ℕ) (s : Seq) (k : Stack) → is_empty s ≡ empty → depth k + 1 + x.left ≡ 12 → onward true r₀.text.now (grouping n₀ q s k) r₀.pos ≡ onward true r₀.text.now (aft i.tree (Stack.open' (Bracket.curly q (g.grow s) n) k)) r₁.pos
    item_runs q s k none room =
        g.runs q s k none room
        ∙ there (λ t. onward true t (grouping n q (g.grow s) k) r.pos ≡ onward true t (aft i.tree (Stack.open' (Bracket.curly q (g.grow s) n) k)) r₁.pos) g.went.text (i.runs (Stack.open' (Bracket.curly q (g.grow s) n) k) (fits_item q (g.grow s) k room))

    item_flat : (s : Seq) → is_empty s ≡ empty → flatten_seq (Seq.item (g.grow s) i.tree) ≡ flatten_seq s ++ (g.nodes ++ (flatten i.tree ++ joint_of e))
    unfolding flatten_seq
    item_flat s none =
        append_assoc (flatten_seq (g.grow s)) (flatten i.tree) (joint (g.grow s))
        ∙ ap (λ ns. flatten_seq (g.grow s) ++ (flatten i.tree ++ ns)) (joint_is (g.grow s) e (g.still s none))
        ∙ ap (λ ns. ns ++ (flatten i.tree ++ joint_of e)) (g.flat s none)
        ∙ append_assoc (flatten_seq s) g.nodes (flatten i.tree ++ joint_of e)

    item_told : (need' : ℕ) → need' ≡ max need o.need → (s : Seq) → base ≤ need_list s → need_list (Seq.item (g.grow s) i.tree) ≡ max (need_list s) need'
    unfolding need_list
    item_told need' e s h = let a = g.told s h in let b = ap (λ (o : Operand). o.need) i.told in omega arith

    item_small : (need' : ℕ) (r₂ : Cursor) → need' ≡ max need o.need → MovedTo r₁ (r₁.pos + 1) r₂ → (need' ≤ base) ⊎ (need' + r₀.pos ≤ r₂.pos)
    item_small need' r₂ e m =
        ⊎_elim
        (λ lt. inr (omega (arith, i.small, i.far, g.went.onwards, m.pos)))
        (λ ge. ⊎_elim (λ h. inl (omega arith)) (λ h. inr (omega (arith, i.far, m.pos))) g.small)
        (cases_lt need o.need)

    item_went : (r₂ : Cursor) → MovedTo r₁ (r₁.pos + 1) r₂ → Went r₀ (g.nodes ++ (flatten i.tree ++ joint_of e)) r₂
    item_went r₂ m =
        record {
          text = m.text ∙ i.same_text ∙ g.went.text;
          inward = m.state ∙ i.inward;
          onwards = omega (arith, g.went.onwards, i.far, m.pos);
          few = omega (arith, g.went.few, i.few, m.pos, ap (λ (t : Table). t.len) m.table);
          fewer = omega (arith, g.went.fewer, i.fewer, ap (λ (t : Table). t.len) m.table, ap (λ (t : Table). t.nodes) m.table);
          grew = subst (λ (t : Table). Grew r₀.table (g.nodes ++ (flatten i.tree ++ joint_of e)) t) (sym m.table) (grew_append g.nodes (flatten i.tree ++ joint_of e) g.went.grew i.grew);
        }

    -- a comma behind it
    pub growing_comma : (need' : ℕ) (r₂ : Cursor) → need' ≡ max need o.need → is_comma (after_at r₁.text.now r₁.pos) ≡ true → MovedTo r₁ (r₁.pos + 1) r₂ → Growing x.left n₀ empty base r₀ (suc n) need' false r₂
    growing_comma need' r₂ is comma m =
        record {
          grow = λ s. Seq.item (g.grow s) i.tree;
          nodes = g.nodes ++ (flatten i.tree ++ joint_of e);
          flat = item_flat;
          still = λ s none. refl;
          told = item_told need' is;
          least = omega (arith, g.least);
          small = item_small need' r₂ is m;
          went = item_went r₂ m;
          runs = λ q s k none room.
              item_runs q s k none room
              ∙ next_on r₀.text.now i.tree q (g.grow s) n k r₁.pos (there (λ t. after_at t r₁.pos ≡ past.Separator Comma) (i.same_text ∙ g.went.text) (comma_is (after_at r₁.text.now r₁.pos) comma))
              ∙ ap (onward true r₀.text.now (grouping (suc n) q (Seq.item (g.grow s) i.tree) k)) (sym m.pos);
        }

    -- what ends the group behind it, or is refused
    pub growing_end : (need' : ℕ) (r₂ : Cursor) → need' ≡ max need o.need → Stops 1 r.text.now r₁.pos → is_comma (after_at r₁.text.now r₁.pos) ≡ false → (a : Result Group Fault) → Ended r₁.text.now need' r₁ a r₂ → Continued r₀.text.now x.left empty base n₀ r₀ a r₂
    growing_end need' r₂ is st comma (Ok y) ended =
        let same : y.need ≡ need' = ended.0 in
        record {
          grow = λ s. Seq.item (g.grow s) i.tree;
          nodes = g.nodes ++ (flatten i.tree ++ joint_of e);
          flat = item_flat;
          some = λ s. refl;
          told = item_told y.need (same ∙ is);
          least = omega (arith, g.least);
          small = item_small y.need r₂ (same ∙ is) ended.2;
          far = omega (arith, g.went.onwards, i.far, ended.2.pos);
          went = item_went r₂ ended.2;
          runs = λ q s k none room.
              item_runs q s k none room
              ∙ end_on r₀.text.now i.tree q (g.grow s) n k r₁.pos y.more (there (λ t. after_at t r₁.pos ≡ group_end y.more) (i.same_text ∙ g.went.text) ended.1)
              ∙ ap (onward true r₀.text.now (behind y.more q (Seq.item (g.grow s) i.tree) k)) (sym ended.2.pos);
        }
    growing_end need' r₂ is st comma (Err f) ended =
        λ q s k none room.
        let same : r₁.text ≡ r₀.text = i.same_text ∙ g.went.text in
        item_runs q s k none room
        ∙ end_stop r₀.text.now i.tree q (g.grow s) n k r₁.pos (there (λ t. Stops 1 t r₁.pos) g.went.text st) (there (λ t. is_comma (after_at t r₁.pos) ≡ false) same comma) (there (λ t. is_group_end (after_at t r₁.pos) ≡ false) same ended.0)
        ∙ as_refused f UnexpectedByte (unexpected_at r₀.text.now r₁.pos) (ended.1 ∙ ap (λ (t : Bor (List ℕ)). fault UnexpectedByte (unexpected_at t.now r₁.pos)) same)

-- further items behind two make a group of the items before
pub growing_continues : (left : ℕ) (empty : Bool) (base : ℕ) (r₀ : Cursor) (need : ℕ) (r r' : Cursor) (o : Result Group Fault) → Growing left 0 empty base r₀ 2 need false r → Continued r.text.now left false need 2 r o r' → Continued r₀.text.now left empty base 0 r₀ o r'
growing_continues left empty base r₀ need r r' (Ok y) g c =
    record {
      grow = λ s. c.grow (g.grow s);
      nodes = g.nodes ++ c.nodes;
      flat = λ s none. c.flat (g.grow s) (g.still s none) ∙ ap (λ ns. ns ++ c.nodes) (g.flat s none) ∙ append_assoc (flatten_seq s) g.nodes c.nodes;
      some = λ s. c.some (g.grow s);
      told = λ s h. let a = g.told s h in let b = c.told (g.grow s) (omega arith) in let d = c.least in omega arith;
      least = omega (arith, g.least, c.least);
      small = ⊎_elim (λ h. ⊎_elim (λ h'. inl (omega (arith, c.least))) (λ h'. inr (omega (arith, c.least, c.far))) g.small) (λ h. inr (omega (arith, g.went.onwards))) c.small;
      far = omega (arith, g.went.onwards, c.far);
      went = went_append g.nodes c.nodes g.went c.went;
      runs = λ q s k none room. g.runs q s k none room ∙ there (λ t. onward true t (grouping 2 q (g.grow s) k) r.pos ≡ onward true t (behind y.more q (c.grow (g.grow s)) k) r'.pos) g.went.text (c.runs q (g.grow s) k (g.still s none) room);
    }
growing_continues left empty base r₀ need r r' (Err f) g c =
    λ q s k none room.
    g.runs q s k none room ∙ there (λ t. onward true t (grouping 2 q (g.grow s) k) r.pos ≡ refused f.refusal f.place) g.went.text (c q (g.grow s) k (g.still s none) room)

-- two items of a group and the commas behind them, with blanks
pub record Pair (left : ℕ) (empty : Bool) (a b : Option Constant) (r₀ r : Cursor) : Type 0 where
  pub one : Expr
  pub other : Expr
  pub is_one : constant one ≡ a
  pub is_other : constant other ≡ b
  pub nodes : List Node
  pub went : Went r₀ nodes r
  pub runs : (q : ℕ) (s : Seq) (k : Stack) → is_empty s ≡ empty → depth k + 1 + left ≡ 12 → onward true r₀.text.now (grouping 0 q s k) r₀.pos ≡ onward true r₀.text.now (grouping 2 q (Seq.item (Seq.item s one) other) k) r.pos

pub undotted_few : (n : ℕ) (text : List ℕ) (p : ℕ) → n < 2 → n ≡ 2 → Undotted text p
undotted_few n text p lt e = absurd (omega arith)

module _ (x : Context) (inside_is : x.inside ≡ inside.Curly) (empty : Bool) (r₀ : Cursor) (inward : r₀.state ≡ Instruction) where
  pub group_none : Growing x.left 0 empty 0 r₀ 0 0 empty r₀
  group_none = growing_none x.left 0 empty 0 r₀ inward

  module _ (o₁ : Operand) (r₁ r₂ : Cursor) (i₁ : Item r₀.text.now x empty r₀ o₁ r₁) (comma₁ : is_comma (after_at r₁.text.now r₁.pos) ≡ true) (m₁ : MovedTo r₁ (r₁.pos + 1) r₂) where
    pub group_one : Growing x.left 0 empty 0 r₀ 1 o₁.need false r₂
    group_one = growing_comma x inside_is 0 empty 0 r₀ 0 0 empty r₀ group_none (undotted_few 0 r₀.text.now r₀.pos (omega arith)) o₁ r₁ i₁ o₁.need r₂ (omega arith) comma₁ m₁

    module _ (o₂ : Operand) (r₃ r₄ : Cursor) (i₂ : Item r₂.text.now x false r₂ o₂ r₃) (comma₂ : is_comma (after_at r₃.text.now r₃.pos) ≡ true) (m₂ : MovedTo r₃ (r₃.pos + 1) r₄) (most : ℕ) (most_is : most ≡ max o₁.need o₂.need) where
      pub group_two : Growing x.left 0 empty 0 r₀ 2 most false r₄
      group_two = growing_comma x inside_is 0 empty 0 r₀ 1 o₁.need false r₂ group_one (undotted_few 1 r₂.text.now r₂.pos (omega arith)) o₂ r₃ i₂ most r₄ most_is comma₂ m₂

      pub group_pair : (r₅ : Cursor) → Spaced r₄ r₅ → Pair x.left empty o₁.constant o₂.constant r₀ r₅
      unfolding group_two group_one group_none growing_comma growing_none growing_over
      group_pair r₅ s =
          let g = growing_over x.left 0 empty 0 r₀ 2 most false r₄ r₅ group_two s in
          record {
            one = i₁.tree;
            other = i₂.tree;
            is_one = sym (ap (λ (o : Operand). o.constant) i₁.told);
            is_other = sym (ap (λ (o : Operand). o.constant) i₂.told);
            nodes = g.nodes;
            went = g.went;
            runs = g.runs;
          }

-- a sequence behind two items, whose nodes are forgotten: r₅ is at the first dot, r₆ is the same with the table of r₀
pub group_sequence : (left : ℕ) (empty : Bool) (a b : Option Constant) (r₀ r₅ r₆ r' : Cursor) (o : Result Group Fault) → Pair left empty a b r₀ r₅ → r₆.text ≡ r₅.text → r₆.pos ≡ r₅.pos → r₆.table ≡ restored r₅.table r₀.table.len r₀.table.nodes → Sequenced r₆.text.now a b empty r₆ o r' → Continued r₀.text.now left empty 0 0 r₀ o r'
unfolding flatten_seq need_list
group_sequence left empty a b r₀ r₅ r₆ r' (Ok y) two text pos table c =
    record {
      grow = λ s. Seq.steps s c.first c.second c.last;
      nodes = node.Sequence c.first.span.«from» c.first.value c.second.value c.last.value ∷ joint_of empty;
      flat = λ s none. ap (λ ns. flatten_seq s ++ (node.Sequence c.first.span.«from» c.first.value c.second.value c.last.value ∷ ns)) (joint_is s empty none);
      some = λ s. refl;
      told = λ s h. ap (max (need_list s)) (sym c.told);
      least = omega arith;
      small = inr (omega (arith, c.told, c.far, pos, two.went.onwards));
      far = omega (arith, c.far, pos, two.went.onwards);
      went = record {
        text = c.went.text ∙ text ∙ two.went.text;
        inward = c.went.inward;
        onwards = omega (arith, c.went.onwards, pos, two.went.onwards);
        few = omega (arith, c.went.few, pos, two.went.onwards, ap (λ (t : Table). t.len) table);
        fewer = omega (arith, c.went.fewer, ap (λ (t : Table). t.len) table, ap (λ (t : Table). t.nodes) table);
        grew = grew_append [] _ (subst (λ (t : Table). Grew r₀.table [] t) (sym table) (grew_restore two.nodes two.went.grew)) c.went.grew;
      };
      runs = λ q s k none room.
          two.runs q s k none room
          ∙ ap (onward true r₀.text.now (grouping 2 q (Seq.item (Seq.item s two.one) two.other) k)) (sym pos)
          ∙ there (λ t. onward true t (grouping 2 q (Seq.item (Seq.item s two.one) two.other) k) r₆.pos ≡ onward true t (behind y.more q (Seq.steps s c.first c.second c.last) k) r'.pos) (text ∙ two.went.text) (c.runs q s k two.one two.other two.is_one two.is_other);
    }
group_sequence left empty a b r₀ r₅ r₆ r' (Err f) two text pos table c =
    λ q s k none room.
    two.runs q s k none room
    ∙ ap (onward true r₀.text.now (grouping 2 q (Seq.item (Seq.item s two.one) two.other) k)) (sym pos)
    ∙ there (λ t. onward true t (grouping 2 q (Seq.item (Seq.item s two.one) two.other) k) r₆.pos ≡ refused f.refusal f.place) (text ∙ two.went.text) (c q s k two.one two.other two.is_one two.is_other)

-- the items of a group in the code's loop, behind the first two: n belong to the group
pub record Itemizing (left base : ℕ) (r₀ : Cursor) (need : ℕ) (r : Cursor) : Type 0 where
  pub count : ℕ
  pub some : 2 ≤ count
  pub growing : Growing left 2 false base r₀ count need false r
  pub clear : count ≡ 2 → Undotted r.text.now r.pos

pub itemizing_first : (left base : ℕ) (r : Cursor) → r.state ≡ Instruction → Solid r.text.now r.pos → (start_at r.text.now r.pos ≡ at.Dot → ⊥) → Itemizing left base r base r
itemizing_first left base r inward solid ne =
    record {
      count = 2;
      some = omega arith;
      growing = growing_none left 2 false base r inward;
      clear = λ e. undotted_here r.text.now r.pos solid ne;
    }

module _ (x : Context) (inside_is : x.inside ≡ inside.Curly) (base : ℕ) (r₀ : Cursor) (need : ℕ) (r : Cursor) (h : Itemizing x.left base r₀ need r) where
  pub itemizing_fails : (f : Fault) → Fails r.text.now (Wanting r.text.now r.pos 1 x) want r.pos f → (q : ℕ) (s : Seq) (k : Stack) → is_empty s ≡ false → depth k + 1 + x.left ≡ 12 → onward true r₀.text.now (grouping 2 q s k) r₀.pos ≡ refused f.refusal f.place
  itemizing_fails f = growing_fails x inside_is 2 false base r₀ h.count need false r h.growing h.clear f

  pub itemizing_more : (o : Operand) (r₁ : Cursor) → Item r.text.now x false r o r₁ → (need' : ℕ) (r₂ : Cursor) → need' ≡ max need o.need → is_comma (after_at r₁.text.now r₁.pos) ≡ true → MovedTo r₁ (r₁.pos + 1) r₂ → Itemizing x.left base r₀ need' r₂
  itemizing_more o r₁ i need' r₂ e comma m =
      record {
        count = suc h.count;
        some = omega (arith, h.some);
        growing = growing_comma x inside_is 2 false base r₀ h.count need false r h.growing h.clear o r₁ i need' r₂ e comma m;
        clear = λ two. absurd (omega (arith, h.some));
      }

  pub itemizing_end : (o : Operand) (r₁ : Cursor) → Item r.text.now x false r o r₁ → (need' : ℕ) (r₂ : Cursor) → need' ≡ max need o.need → Stops 1 r.text.now r₁.pos → is_comma (after_at r₁.text.now r₁.pos) ≡ false → (a : Result Group Fault) → Ended r₁.text.now need' r₁ a r₂ → Continued r₀.text.now x.left false base 2 r₀ a r₂
  itemizing_end o r₁ i = growing_end x inside_is 2 false base r₀ h.count need false r h.growing h.clear o r₁ i

-- a list begins at p
module _ (text : List ℕ) (p : ℕ) (k : Stack) (here : start_at text p ≡ at.Curly) where
  curly_here : (p < length text) × (start (get_or text p 0) ≡ at.Curly)
  curly_here = start_is text p at.Curly (λ o. cc) here

  curly_on : depth k < 12 → onward true text (want k) p ≡ onward true text (first (Stack.open' (Bracket.curly p Seq.empty 0) k)) (p + 1)
  curly_on = opens_on text p (want k) (first (Stack.open' (Bracket.curly p Seq.empty 0) k)) (depth k) curly_here.0 (ap (λ c. wants c (get_or text p 0) k p) curly_here.1)

  curly_over : 12 ≤ depth k → onward true text (want k) p ≡ refused NestedTooDeep p
  curly_over = opens_over text p (want k) (first (Stack.open' (Bracket.curly p Seq.empty 0) k)) (depth k) curly_here.0 (ap (λ c. wants c (get_or text p 0) k p) curly_here.1)

pub list_deep : (x : Context) (r : Cursor) (f : Fault) → start_at r.text.now r.pos ≡ at.Curly → x.left ≡ 0 → f ≡ fault NestedTooDeep r.pos → Fails r.text.now (Fitting 12 x) want r.pos f
list_deep x r f here none e k fit = curly_over r.text.now r.pos k here (omega (arith, fit.room)) ∙ as_refused f NestedTooDeep r.pos e

-- behind its opening sign a list may end at once; else it is as elsewhere
firsts_curly : (x : Start) (b q : ℕ) (s : Seq) (n : ℕ) (k : Stack) (p : ℕ) → (x ≡ at.Blank → ⊥) → (x ≡ at.EndCurly → ⊥) → firsts x b (Stack.open' (Bracket.curly q s n) k) p ≡ wants x b (Stack.open' (Bracket.curly q s n) k) p
firsts_curly x b q s n k p h e = grind arith

first_want : (text : List ℕ) (q p : ℕ) (k : Stack) → Solid text p → (start_at text p ≡ at.EndCurly → ⊥) → onward true text (first (Stack.open' (Bracket.curly q Seq.empty 0) k)) p ≡ onward true text (grouping 0 q Seq.empty k) p
first_want text q p k solid ne =
    alike true text (first (Stack.open' (Bracket.curly q Seq.empty 0) k)) (grouping 0 q Seq.empty k) p
    (λ lt. firsts_curly (start (get_or text p 0)) (get_or text p 0) q Seq.empty 0 k p (λ e. cc (solid lt, blank_start (get_or text p 0) e)) (λ e. ne (start_here text p lt ∙ e)))
    refl

-- The groups of a list so far: r₀ is where they begin, and the items need `need`. `empty` tells whether there is none.
pub record Grouped (left : ℕ) (r₀ : Cursor) (most : ℕ) (empty : Bool) (r : Cursor) : Type 0 where
  pub seq : Seq
  pub is : is_empty seq ≡ empty
  pub told : need_list seq ≡ most
  pub small : most + r₀.pos ≤ r.pos + 1
  pub went : Went r₀ (flatten_seq seq) r
  pub runs : (q : ℕ) (k : Stack) → depth k + 1 + left ≡ 12 → onward true r₀.text.now (grouping 0 q Seq.empty k) r₀.pos ≡ onward true r₀.text.now (grouping 0 q seq k) r.pos

pub grouped_none : (left : ℕ) (r : Cursor) → r.state ≡ Instruction → Grouped left r 1 true r
unfolding flatten_seq need_list
grouped_none left r inward =
    record {
      seq = Seq.empty;
      is = refl;
      told = refl;
      small = omega arith;
      went = went_none r inward;
      runs = λ q k room. refl;
    }

module _ (left : ℕ) (r₀ : Cursor) (most : ℕ) (empty : Bool) (r : Cursor) (h : Grouped left r₀ most empty r) where
  pub grouped_fails : (f : Fault) (r' : Cursor) → Continued r.text.now left empty 0 0 r (Err f) r' → (q : ℕ) (k : Stack) → depth k + 1 + left ≡ 12 → onward true r₀.text.now (grouping 0 q Seq.empty k) r₀.pos ≡ refused f.refusal f.place
  grouped_fails f r' c q k room = h.runs q k room ∙ there (λ t. onward true t (grouping 0 q h.seq k) r.pos ≡ refused f.refusal f.place) h.went.text (c q h.seq k h.is room)

  module _ (y : Group) (r' : Cursor) (c : Grows r.text.now empty 0 (grouping 0) left r y r') (most' : ℕ) (most_is : most' ≡ max most y.need) where
    grouped_runs : (q : ℕ) (k : Stack) → depth k + 1 + left ≡ 12 → onward true r₀.text.now (grouping 0 q Seq.empty k) r₀.pos ≡ onward true r₀.text.now (behind y.more q (c.grow h.seq) k) r'.pos
    grouped_runs q k room = h.runs q k room ∙ there (λ t. onward true t (grouping 0 q h.seq k) r.pos ≡ onward true t (behind y.more q (c.grow h.seq) k) r'.pos) h.went.text (c.runs q h.seq k h.is room)

    grouped_went : Went r₀ (flatten_seq (c.grow h.seq)) r'
    grouped_went = subst (λ ns. Went r₀ ns r') (sym (c.flat h.seq h.is)) (went_append (flatten_seq h.seq) c.nodes h.went c.went)

    grouped_told : need_list (c.grow h.seq) ≡ most'
    grouped_told = let a = c.told h.seq (omega arith) in let b = h.told in omega arith

    grouped_small : most' + r₀.pos ≤ r'.pos + 1
    grouped_small = ⊎_elim (λ z. omega (arith, h.small, c.far)) (λ z. omega (arith, h.small, c.far, h.went.onwards)) c.small

    pub grouped_more : y.more ≡ true → Grouped left r₀ most' false r'
    grouped_more more =
        record {
          seq = c.grow h.seq;
          is = c.some h.seq;
          told = grouped_told;
          small = grouped_small;
          went = grouped_went;
          runs = λ q k room. grouped_runs q k room ∙ ap (λ b. onward true r₀.text.now (behind b q (c.grow h.seq) k) r'.pos) more;
        }

closing_some : (q : ℕ) (s : Seq) → is_empty s ≡ false → closing q s ≡ node.List q
closing_some q s e = grind arith

-- a list: r is at its opening sign, r₁ behind it, r₂ behind blanks
module _ (x x' : Context) (r r₁ r₂ : Cursor) (here : start_at r.text.now r.pos ≡ at.Curly) (room : Opened inside.Curly x x') (m : MovedTo r (r.pos + 1) r₁) (s : Spaced r₁ r₂) where
  list_opens : (k : Stack) → Fitting 12 x k → onward true r.text.now (want k) r.pos ≡ onward true r.text.now (first (Stack.open' (Bracket.curly r.pos Seq.empty 0) k)) r₂.pos
  list_opens k fit =
      curly_on r.text.now r.pos k here (omega (arith, fit.room, room.left))
      ∙ ap (onward true r.text.now (first (Stack.open' (Bracket.curly r.pos Seq.empty 0) k))) (sym m.pos)
      ∙ stays true r.text.now (first (Stack.open' (Bracket.curly r.pos Seq.empty 0) k)) (first_stays (Stack.open' (Bracket.curly r.pos Seq.empty 0) k)) r₁.pos r₂.pos (blanks_in m.text s)

  -- an empty one: r₃ is behind its closing sign, r' has its node
  pub list_hollow : (r₃ r' : Cursor) (o : Operand) → r.state ≡ Instruction → start_at r₂.text.now r₂.pos ≡ at.EndCurly → MovedTo r₂ (r₂.pos + 1) r₃ → Tabled r₃ (pushed r₃.table (node.Empty r.pos)) r' → o ≡ record { need = 1; constant = None } → Took r.text.now (Fitting 12 x) want r o r'
  unfolding flatten flatten_seq need need_list
  list_hollow r₃ r' o inward end m₃ tb told =
      let h = start_is r.text.now r₂.pos at.EndCurly (λ other. cc) (there (λ t. start_at t r₂.pos ≡ at.EndCurly) (s.same.text ∙ m.text) end) in
      let w : Went r [] r₃ = went_over [] (went_over [] (went_moved inward (omega arith) m) s.all.onwards s.same) (omega arith) m₃ in
      let len : r₃.table.len ≡ r.table.len = ap (λ (t : Table). t.len) (m₃.table ∙ s.same.table ∙ m.table) in
      record {
        tree = Expr.list r.pos Seq.empty;
        keyless = λ u k b q. refl;
        told = told;
        placed = placed_none o r'.pos told;
        small = omega (arith, ap (λ (o : Operand). o.need) told, m.pos, s.all.onwards, m₃.pos, tb.pos);
        far = omega (arith, m.pos, s.all.onwards, m₃.pos, tb.pos);
        went = went_push [] (node.Empty r.pos) (omega arith) (omega (arith, m.pos, s.all.onwards, m₃.pos)) w tb;
        runs = λ k fit.
            list_opens k fit
            ∙ moves true r.text.now (first (Stack.open' (Bracket.curly r.pos Seq.empty 0) k)) r₂.pos _ h.0 (ap (λ c. firsts c (get_or r.text.now r₂.pos 0) (Stack.open' (Bracket.curly r.pos Seq.empty 0) k) r₂.pos) h.1)
            ∙ ap (onward true r.text.now (aft (Expr.list r.pos Seq.empty) k)) (sym (tb.pos ∙ m₃.pos));
      }

  module _ (ne : start_at r₂.text.now r₂.pos ≡ at.EndCurly → ⊥) (most : ℕ) (empty : Bool) (r₃ : Cursor) (h : Grouped x'.left r₂ most empty r₃) where
    list_begins : (k : Stack) → Fitting 12 x k → onward true r.text.now (want k) r.pos ≡ onward true r.text.now (grouping 0 r.pos Seq.empty k) r₂.pos
    list_begins k fit =
        list_opens k fit
        ∙ first_want r.text.now r.pos r₂.pos k (solid_in m.text s) (λ e. ne (at_place start_at (moved_on m s.same) ∙ e))

    pub list_fails : (f : Fault) (r₄ : Cursor) → Continued r₃.text.now x'.left empty 0 0 r₃ (Err f) r₄ → Fails r.text.now (Fitting 12 x) want r.pos f
    list_fails f r₄ c k fit =
        list_begins k fit
        ∙ there (λ t. onward true t (grouping 0 r.pos Seq.empty k) r₂.pos ≡ refused f.refusal f.place) (s.same.text ∙ m.text) (grouped_fails x'.left r₂ most empty r₃ h f r₄ c r.pos k (omega (arith, fit.room, room.left)))

    pub list_took : (y : Group) (r₄ r' : Cursor) (o : Operand) → Grows r₃.text.now empty 0 (grouping 0) x'.left r₃ y r₄ → (most' : ℕ) → most' ≡ max most y.need → y.more ≡ false → Tabled r₄ (pushed r₄.table (node.List r.pos)) r' → o ≡ record { need = most'; constant = None } → Took r.text.now (Fitting 12 x) want r o r'
    unfolding flatten need
    list_took y r₄ r' o c most' most_is last tb told =
        let z = c.grow h.seq in
        let w : Went r₂ (flatten_seq z) r₄ = grouped_went x'.left r₂ most empty r₃ h y r₄ c most' most_is in
        let w' : Went r (flatten_seq z) r₄ = went_from (flatten_seq z) (omega arith) m (went_from (flatten_seq z) s.all.onwards s.same w) in
        let len : r₂.table.len ≡ r.table.len = ap (λ (t : Table). t.len) (s.same.table ∙ m.table) in
        let few : most' + r₂.pos ≤ r₄.pos + 1 = grouped_small x'.left r₂ most empty r₃ h y r₄ c most' most_is in
        record {
          tree = Expr.list r.pos z;
          keyless = λ u k b q. refl;
          told = told ∙ ap (λ n. record { need = n; constant = None }) (sym (grouped_told x'.left r₂ most empty r₃ h y r₄ c most' most_is));
          placed = placed_none o r'.pos told;
          small = omega (arith, ap (λ (o : Operand). o.need) told, m.pos, s.all.onwards, few, tb.pos);
          far = omega (arith, m.pos, s.all.onwards, w.onwards, tb.pos);
          went = subst (λ n. Went r (flatten_seq z ++ n ∷ []) r') (sym (closing_some r.pos z (c.some h.seq))) (went_push (flatten_seq z) (node.List r.pos) (omega arith) (omega (arith, w.few, m.pos, s.all.onwards)) w' tb);
          runs = λ k fit.
              list_begins k fit
              ∙ there (λ t. onward true t (grouping 0 r.pos Seq.empty k) r₂.pos ≡ onward true t (aft (Expr.list r.pos z) k) r₄.pos) (s.same.text ∙ m.text)
              (grouped_runs x'.left r₂ most empty r₃ h y r₄ c most' most_is r.pos k (omega (arith, fit.room, room.left)) ∙ ap (λ b. onward true r₂.text.now (behind b r.pos z k) r₄.pos) last)
              ∙ ap (onward true r.text.now (aft (Expr.list r.pos z) k)) (sym tb.pos);
        }

pub not_false : (b : Bool) → not b ≡ false → b ≡ true
not_false b e = grind arith

pub not_true : (b : Bool) → not b ≡ true → b ≡ false
not_true b e = grind arith
