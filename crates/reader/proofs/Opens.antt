-- Names, brackets and calls. Assumes nothing.
use Rattle.std.proofs.Common.{◌≡◌, ℕ, suc, ◌+◌, ◌<◌, ◌≤◌, min, max, Bool, true, false, ◌⊎◌, List, [], ◌∷◌, ◌++◌, length, get_or, ok_or, Bor, Some, None, Ok, Err, Option, Result, sym, refl, ap, ◌∙◌, subst, ⊎_elim, arith}
use Rattle.std.proofs.lemmas.Bool.{cond-true, cond-false, cases_lt}
use Rattle.std.proofs.lemmas.Bool.Decides.{nat_tests}
use Rattle.functions.specs.declared.Signature.{Signature}
use Rattle.keywords.specs.declared.Keyword.{Keyword}
use Rattle.refusals.specs.declared.Refusal.TheVariants.{UnexpectedByte, TooLong, NestedTooDeep, BadCall}
use Rattle.tokens.specs.declared.byte.Start.{Start}
use Rattle.tokens.specs.declared.byte.Start.TheVariants as at
use Rattle.tokens.specs.declared.byte.After.{After}
use Rattle.tokens.specs.declared.byte.After.TheVariants as past
use Rattle.tokens.specs.declared.byte.Separator.TheVariants.{Comma}
use Rattle.tokens.specs.declared.byte.Shape.{Shape}
use Rattle.tokens.specs.declared.byte.Shape.TheVariants.{Round, Square}
use Rattle.tokens.specs.Bytes.{start, after, blank, word, letter}
use Rattle.trees.specs.declared.Node.TheVariants as node
use Rattle.trees.specs.declared.Span.{Span}
use Rattle.trees.specs.Tree.{Key, Expr, Args, Items, count_args, from_to}
use Rattle.trees.specs.Flat.{flatten, flatten_key, flatten_args}
use Rattle.trees.specs.Counts.{need, need_key, need_args}
use Rattle.grammar.specs.Rules.{Broken, six, seven, eight, deep, known, counted}
use Rattle.grammar.specs.Grammar.{part}
use Rattle.grammar.specs.Machine.{Stack, Bracket, Config, Move, stop, go, late, depth, step, onward, refused, want, first, in_name, named, aft, naming, loop_name, loop_head, looped, worded, commanded, nameds, afters, wants, firsts, hollow, shut, dotted, reacts}
use Rattle.grammar.specs.Words.{function, keyword_of}
use Rattle.grammar.proofs.Moves.{moves, alike, stays, first_stays, named_stays, naming_stays, late_none}
use Rattle.reader.specs.declared.cursor.Cursor.{Cursor}
use Rattle.reader.specs.declared.cursor.Follow.{Follow}
use Rattle.reader.specs.declared.cursor.Follow.TheVariants as follow
use Rattle.reader.specs.declared.cursor.Inside.{Inside}
use Rattle.reader.specs.declared.cursor.Inside.TheVariants as inside
use Rattle.reader.specs.declared.cursor.State.TheVariants.{Instruction}
use Rattle.reader.specs.declared.expression.Context.{Context}
use Rattle.reader.specs.declared.expression.Operand.{Operand}
use Rattle.reader.specs.declared.expression.Arguments.{Arguments}
use Rattle.refusals.specs.declared.fault.Fault.{Fault}
use Rattle.reader.specs.States.{fault, MovedTo, Tabled}
use Rattle.reader.specs.Tables.{Table, pushed}
use Rattle.reader.specs.Scans.{Spaced, Worded, start_at, after_at, unexpected_at, Limited, Ready}
use Rattle.reader.specs.Reads.{bracket_inside, innermost, inner_of, Fitting, Clear, Wanting, Fails, Went, Took, Did, Solid, Stops, Closed, Subscript, Subscribed, name_at, Roomy, Called, Argument, Argued, FreeName}
use Rattle.reader.specs.Heads.{AtWord, Named}
use Rattle.reader.proofs.Leaves.{as_refused, refuses}
use Rattle.reader.proofs.Places.{start_is, start_passed, after_is, after_passed, Passes, start_here, blank_start}
use Rattle.reader.proofs.Passing.{there, now_text, blanks_in, solid_in, blanks_here, went_append, went_none, went_moved, went_over, went_from, went_push, placed_none, narrowed}
use Rattle.reader.proofs.Words.{letter_word, word_some, word_from, word_run, long_none, long_due, name_ends, name_alone}
use Rattle.reader.proofs.Limits.{limited, told_name, told_begin, ends_here, unexpected, unassigned, clear_by}

-- a bracket may open in the context x, and holds the context y
pub record Opened (i : Inside) (x y : Context) : Type 0 where
  pub inside : y.inside ≡ i
  pub left : y.left + 1 ≡ x.left

pub opened : {i : Inside} {x y : Context} {o : Option Context} → o ≡ inner_of i x → o ≡ Some y → Opened i x y
opened e s = record { inside = grind (arith, nat_tests); left = grind (arith, nat_tests) }

-- or it is one too many
pub full : (i : Inside) (x : Context) {o : Option Context} → o ≡ inner_of i x → o ≡ None → x.left ≡ 0
full i x e s = grind (arith, nat_tests)

-- the fault of an answer that is missing
pub missing : {A : Type 0} {o : Option A} (e : Fault) {f : Fault} → Err f ≡ ok_or o e → o ≡ None → f ≡ e
missing {o = o} e {f} h n = grind arith

pub wanting_open : (text : List ℕ) (p : ℕ) (b : Bracket) (y : Context) (k : Stack) → dotted (Stack.open' b k) ≡ stop → y.inside ≡ bracket_inside b → depth k + 1 + y.left ≡ 12 → Wanting text p 1 y (Stack.open' b k)
wanting_open text p b y k d e room = record { fit = record { here = sym e; room = omega arith; below = tt }; clear = λ q bl. clear_by (start_at text q) (Stack.open' b k) (λ e. d) (λ w j c. refl) }

-- what else than the closing sign stands behind an operand in a bracket cannot stand there
unround : (a : After) → (a ≡ past.End Round → ⊥) → ends_here inside.Round a ≡ false
unround a ne = grind arith

unsquare : (a : After) → (a ≡ past.End Square → ⊥) → ends_here inside.Square a ≡ false
unsquare a ne = grind arith

-- brackets open, or are one too many
deep_none : (d p : ℕ) → d < 12 → deep d p ≡ []
deep_none d p h = grind (arith, nat_tests)

deep_due : (d p : ℕ) → 12 ≤ d → deep d p ≡ record { rule = seven; place = p; due = p } ∷ []
deep_due d p h = grind (arith, nat_tests)

module _ (text : List ℕ) (p : ℕ) where
  module _ (c c' : Config) (n : ℕ) (lt : p < length text) (e : step c p (get_or text p 0) ≡ go (deep n p) c') where
    pub opens_on : n < 12 → onward true text c p ≡ onward true text c' (p + 1)
    opens_on room = moves true text c p (go [] c') lt (e ∙ ap (λ d. go d c') (deep_none n p room))

    pub opens_over : 12 ≤ n → onward true text c p ≡ refused NestedTooDeep p
    opens_over over = moves true text c p (go (record { rule = seven; place = p; due = p } ∷ []) c') lt (e ∙ ap (λ d. go d c') (deep_due n p over))

  module _ (e : start_at text p ≡ at.Round) (k : Stack) where
    round_here : (p < length text) × (start (get_or text p 0) ≡ at.Round)
    round_here = start_is text p at.Round (λ o. cc) e

    pub round_on : depth k < 12 → onward true text (want k) p ≡ onward true text (want (Stack.open' (Bracket.round p) k)) (p + 1)
    round_on = opens_on (want k) (want (Stack.open' (Bracket.round p) k)) (depth k) round_here.0 (ap (λ s. wants s (get_or text p 0) k p) round_here.1)

    pub round_over : 12 ≤ depth k → onward true text (want k) p ≡ refused NestedTooDeep p
    round_over = opens_over (want k) (want (Stack.open' (Bracket.round p) k)) (depth k) round_here.0 (ap (λ s. wants s (get_or text p 0) k p) round_here.1)

  module _ (e : after_at text p ≡ past.Square) (i j : ℕ) (w : List ℕ) (k : Stack) where
    square_here : (p < length text) × (after (get_or text p 0) ≡ past.Square)
    square_here = after_is text p past.Square (λ o. cc) e

    pub square_on : depth k < 12 → onward true text (named i j w k) p ≡ onward true text (want (Stack.open' (Bracket.square i j p) k)) (p + 1)
    square_on = opens_on (named i j w k) (want (Stack.open' (Bracket.square i j p) k)) (depth k) square_here.0 (ap (λ x. nameds x i j w k p) square_here.1)

    pub square_over : 12 ≤ depth k → onward true text (named i j w k) p ≡ refused NestedTooDeep p
    square_over = opens_over (named i j w k) (want (Stack.open' (Bracket.square i j p) k)) (depth k) square_here.0 (ap (λ x. nameds x i j w k p) square_here.1)

  -- and close
  pub shut_on : (q : Shape) → after_at text p ≡ past.End q → (b : Bracket) (t : Expr) (k : Stack) → onward true text (aft t (Stack.open' b k)) p ≡ reacts true text p (shut q b t k p)
  shut_on q e b t k =
      let h = after_is text p (past.End q) (λ o. cc) e in
      moves true text (aft t (Stack.open' b k)) p (shut q b t k p) h.0 (ap (λ x. afters x t (Stack.open' b k) p) h.1)

-- What stands in a bracket: r is the cursor at the bracket b, which opens from the configuration c, and r₁ the one behind it.
module _ (b : Bracket) (q : Shape) (x y : Context) (c : Stack → Config) (r r₁ : Cursor)
    (opens : (k : Stack) → depth k < 12 → onward true r.text.now (c k) r.pos ≡ onward true r.text.now (want (Stack.open' b k)) (r.pos + 1))
    (no_dots : (k : Stack) → dotted (Stack.open' b k) ≡ stop)
    (room : Opened (bracket_inside b) x y)
    (passed : MovedTo r (r.pos + 1) r₁) where
  opens_at : (k : Stack) → Roomy x.left k → onward true r.text.now (c k) r.pos ≡ onward true r.text.now (want (Stack.open' b k)) r₁.pos
  opens_at k fit = opens k (omega (arith, room.left)) ∙ ap (onward true r.text.now (want (Stack.open' b k))) (sym passed.pos)

  wanted : (k : Stack) → Roomy x.left k → Wanting r₁.text.now r₁.pos 1 y (Stack.open' b k)
  wanted k fit = wanting_open r₁.text.now r₁.pos b y k (no_dots k) room.inside (omega (arith, room.left))

  enclosed_runs : (o : Operand) (r₂ : Cursor) (a : Took r₁.text.now (Wanting r₁.text.now r₁.pos 1 y) want r₁ o r₂) (k : Stack) → Roomy x.left k → onward true r.text.now (c k) r.pos ≡ onward true r.text.now (aft a.tree (Stack.open' b k)) r₂.pos
  enclosed_runs o r₂ a k fit =
      opens_at k fit
      ∙ there (λ text. onward true text (want (Stack.open' b k)) r₁.pos ≡ onward true text (aft a.tree (Stack.open' b k)) r₂.pos) passed.text (a.runs (Stack.open' b k) (wanted k fit))

  enclosed_fails : (f : Fault) → Fails r₁.text.now (Wanting r₁.text.now r₁.pos 1 y) want r₁.pos f → Fails r.text.now (Roomy x.left) c r.pos f
  enclosed_fails f h k fit =
      opens_at k fit
      ∙ there (λ text. onward true text (want (Stack.open' b k)) r₁.pos ≡ refused f.refusal f.place) passed.text (h (Stack.open' b k) (wanted k fit))

  -- up to the closing sign
  enclosed : (o : Operand) (r₂ r₃ : Cursor) (a : Took r₁.text.now (Wanting r₁.text.now r₁.pos 1 y) want r₁ o r₂) → Closed r₂.text.now q r₂ (Ok tt) r₃ → (k : Stack) → Roomy x.left k → onward true r.text.now (c k) r.pos ≡ reacts true r.text.now r₂.pos (shut q b a.tree k r₂.pos)
  enclosed o r₂ r₃ a close k fit =
      enclosed_runs o r₂ a k fit
      ∙ shut_on r.text.now r₂.pos q (sym (ap (λ (t : Bor (List ℕ)). after_at t.now r₂.pos) (a.went.text ∙ passed.text)) ∙ close.0) b a.tree k

  -- which is missing
  unclosed : (o : Operand) (r₂ r₃ : Cursor) (f : Fault) (a : Took r₁.text.now (Wanting r₁.text.now r₁.pos 1 y) want r₁ o r₂) → Stops 1 r₁.text.now r₂.pos → ((a : After) → (a ≡ past.End q → ⊥) → ends_here (bracket_inside b) a ≡ false) → Closed r₂.text.now q r₂ (Err f) r₃ → Fails r.text.now (Roomy x.left) c r.pos f
  unclosed o r₂ r₃ f a st un close k fit =
      let close' : Closed r.text.now q r₂ (Err f) r₃ = there (λ text. Closed text q r₂ (Err f) r₃) (a.went.text ∙ passed.text) close in
      enclosed_runs o r₂ a k fit
      ∙ unexpected r.text.now a.tree (Stack.open' b k) r₂.pos (λ d p. unassigned a.tree (Stack.open' b k) d p (λ c. refl)) (there (λ text. Stops 1 text r₂.pos) passed.text st) (un _ close'.0)
      ∙ as_refused f UnexpectedByte (unexpected_at r.text.now r₂.pos) close'.1

-- `(` operand `)`
module _ (x y : Context) (r r₁ : Cursor) (here : start_at r.text.now r.pos ≡ at.Round) (room : Opened inside.Round x y) (passed : MovedTo r (r.pos + 1) r₁) where
  pub round_took : (o o' : Operand) (r₂ r₃ : Cursor) → Took r₁.text.now (Wanting r₁.text.now r₁.pos 1 y) want r₁ o r₂ → Closed r₂.text.now Round r₂ (Ok tt) r₃ → o' ≡ record { need = o.need; constant = None } → Took r.text.now (Fitting 12 x) want r o' r₃
  unfolding need flatten
  round_took o o' r₂ r₃ a close e =
      let is = ap (λ (o : Operand). o.need) e in
      let needs : o.need ≡ need a.tree = ap (λ (o : Operand). o.need) a.told in
      record {
        tree = Expr.round r.pos a.tree;
        keyless = λ u k b q. refl;
        told = e ∙ ap (λ n. record { need = n; constant = None }) needs;
        placed = placed_none o' r₃.pos e;
        small = omega (arith, is, a.small, passed.pos, close.1.pos);
        far = omega (arith, a.far, passed.pos, close.1.pos);
        went = went_over (flatten a.tree) (went_from (flatten a.tree) (omega arith) passed a.went) (omega arith) close.1;
        runs = λ k fit.
            enclosed (Bracket.round r.pos) Round x y want r r₁ (round_on r.text.now r.pos here) (λ k. refl) room passed o r₂ r₃ a close k fit.room
            ∙ ap (onward true r.text.now (aft (Expr.round r.pos a.tree) k)) (sym close.1.pos);
      }

  pub round_fails : (f : Fault) → Fails r₁.text.now (Wanting r₁.text.now r₁.pos 1 y) want r₁.pos f → Fails r.text.now (Fitting 12 x) want r.pos f
  round_fails f h k fit = enclosed_fails (Bracket.round r.pos) Round x y want r r₁ (round_on r.text.now r.pos here) (λ k. refl) room passed f h k fit.room

  pub round_unclosed : (o : Operand) (r₂ r₃ : Cursor) (f : Fault) → Took r₁.text.now (Wanting r₁.text.now r₁.pos 1 y) want r₁ o r₂ → Stops 1 r₁.text.now r₂.pos → Closed r₂.text.now Round r₂ (Err f) r₃ → Fails r.text.now (Fitting 12 x) want r.pos f
  round_unclosed o r₂ r₃ f a st close k fit = unclosed (Bracket.round r.pos) Round x y want r r₁ (round_on r.text.now r.pos here) (λ k. refl) room passed o r₂ r₃ f a st unround close k fit.room

pub round_deep : (x : Context) (r : Cursor) (f : Fault) → start_at r.text.now r.pos ≡ at.Round → x.left ≡ 0 → f ≡ fault NestedTooDeep r.pos → Fails r.text.now (Fitting 12 x) want r.pos f
round_deep x r f here none e k fit = round_over r.text.now r.pos here k (omega (arith, fit.room)) ∙ as_refused f NestedTooDeep r.pos e

-- name `[` operand `]`
module _ (x y : Context) (r r₁ : Cursor) (here : after_at r.text.now r.pos ≡ past.Square) (room : Opened inside.Square x y) (passed : MovedTo r (r.pos + 1) r₁) where
  pub square_took : (o : Operand) (n : ℕ) (r₂ r₃ : Cursor) → Took r₁.text.now (Wanting r₁.text.now r₁.pos 1 y) want r₁ o r₂ → Closed r₂.text.now Square r₂ (Ok tt) r₃ → n ≡ o.need → Subscript r.text.now x.left r n r₃
  square_took o n r₂ r₃ a close e =
      let needs : o.need ≡ need a.tree = ap (λ (o : Operand). o.need) a.told in
      let len : r₁.table.len ≡ r.table.len = ap (λ (t : Table). t.len) passed.table in
      let len' : r₃.table.len ≡ r₂.table.len = ap (λ (t : Table). t.len) close.1.table in
      record {
        tree = a.tree;
        told = e ∙ needs;
        small = omega (arith, a.small, passed.pos, close.1.pos);
        few = omega (arith, a.went.few, passed.pos, close.1.pos);
        went = went_over (flatten a.tree) (went_from (flatten a.tree) (omega arith) passed a.went) (omega arith) close.1;
        runs = λ i j w k fit.
            enclosed (Bracket.square i j r.pos) Square x y (named i j w) r r₁ (square_on r.text.now r.pos here i j w) (λ k. refl) room passed o r₂ r₃ a close k fit
            ∙ ap (onward true r.text.now (aft (Expr.key (Key.index i j r.pos a.tree)) k)) (sym close.1.pos);
      }

  pub square_fails : (f : Fault) → Fails r₁.text.now (Wanting r₁.text.now r₁.pos 1 y) want r₁.pos f → (i j : ℕ) (w : List ℕ) (k : Stack) → depth k + x.left ≡ 12 → onward true r.text.now (named i j w k) r.pos ≡ refused f.refusal f.place
  square_fails f h i j w k fit = enclosed_fails (Bracket.square i j r.pos) Square x y (named i j w) r r₁ (square_on r.text.now r.pos here i j w) (λ k. refl) room passed f h k fit

  pub square_unclosed : (o : Operand) (r₂ r₃ : Cursor) (f : Fault) → Took r₁.text.now (Wanting r₁.text.now r₁.pos 1 y) want r₁ o r₂ → Stops 1 r₁.text.now r₂.pos → Closed r₂.text.now Square r₂ (Err f) r₃ → (i j : ℕ) (w : List ℕ) (k : Stack) → depth k + x.left ≡ 12 → onward true r.text.now (named i j w k) r.pos ≡ refused f.refusal f.place
  square_unclosed o r₂ r₃ f a st close i j w k fit = unclosed (Bracket.square i j r.pos) Square x y (named i j w) r r₁ (square_on r.text.now r.pos here i j w) (λ k. refl) room passed o r₂ r₃ f a st unsquare close k fit

pub square_deep : (x : Context) (r : Cursor) (f : Fault) → after_at r.text.now r.pos ≡ past.Square → x.left ≡ 0 → f ≡ fault NestedTooDeep r.pos → (i j : ℕ) (w : List ℕ) (k : Stack) → depth k + x.left ≡ 12 → onward true r.text.now (named i j w k) r.pos ≡ refused f.refusal f.place
square_deep x r f here none e i j w k fit = square_over r.text.now r.pos here i j w k (omega arith) ∙ as_refused f NestedTooDeep r.pos e

letter_is : (b : ℕ) → start b ≡ at.Letter → letter b ≡ true
letter_is b e = grind (arith, nat_tests)

letter_solid : (b : ℕ) → start b ≡ at.Letter → blank b ≡ false
letter_solid b e = grind (arith, nat_tests)

no_letter : (b : ℕ) → (start b ≡ at.Letter → ⊥) → blank b ≡ false → letter b ≡ false
no_letter b ne s = grind (arith, nat_tests)

module _ (text : List ℕ) where
  -- the word of an instruction is no name
  name_keyword : (i p : ℕ) (w : List ℕ) (k : Stack) → (p < length text → word (get_or text p 0) ≡ false) → (keyword_of w ≡ None → ⊥) → ((c : Keyword) (j b : ℕ) → commanded c k j b ≡ stop) → onward true text (in_name i w k) p ≡ refused UnexpectedByte p
  name_keyword i p w k last free clear =
      refuses true text (in_name i w k) p (λ lt. cond-false _ _ _ (last lt) ∙ by_word (keyword_of w) free (get_or text p 0)) refl
    where
      by_word : (o : Option Keyword) → (o ≡ None → ⊥) → (b : ℕ) → worded o i w k p b ≡ stop
      by_word o ne b = grind arith

  loop_end : (q₀ j₀ : ℕ) (e₀ : Bool) (i p : ℕ) (w : List ℕ) (ts : Items) → (p < length text → word (get_or text p 0) ≡ false) → keyword_of w ≡ None → p ≤ i + 24 → onward true text (loop_name q₀ j₀ e₀ i w ts) p ≡ onward true text (want (Stack.top q₀ (loop_head e₀ j₀ i p) ts)) p
  loop_end q₀ j₀ e₀ i p w ts last free small =
      alike true text (loop_name q₀ j₀ e₀ i w ts) (want (Stack.top q₀ (loop_head e₀ j₀ i p) ts)) p
      (λ lt.
      let v : Move = wants (start (get_or text p 0)) (get_or text p 0) (Stack.top q₀ (loop_head e₀ j₀ i p) ts) p in
      cond-false _ _ _ (last lt) ∙ ap (λ o. looped o q₀ j₀ e₀ i ts (get_or text p 0) p) free ∙ ap (λ d. late d v) (long_none i p small) ∙ late_none v)
      refl

  loop_keyword : (q₀ j₀ : ℕ) (e₀ : Bool) (i p : ℕ) (w : List ℕ) (ts : Items) → (p < length text → word (get_or text p 0) ≡ false) → (keyword_of w ≡ None → ⊥) → onward true text (loop_name q₀ j₀ e₀ i w ts) p ≡ refused UnexpectedByte p
  loop_keyword q₀ j₀ e₀ i p w ts last free =
      refuses true text (loop_name q₀ j₀ e₀ i w ts) p (λ lt. cond-false _ _ _ (last lt) ∙ by_word (keyword_of w) free (get_or text p 0)) refl
    where
      by_word : (o : Option Keyword) → (o ≡ None → ⊥) → (b : ℕ) → looped o q₀ j₀ e₀ i ts b p ≡ stop
      by_word o ne b = grind arith

loop_read : (r r₁ : Cursor) (q₀ j₀ : ℕ) (e₀ : Bool) (ts : Items) → start_at r.text.now r.pos ≡ at.Letter → Worded r r₁ → onward true r.text.now (naming q₀ j₀ e₀ ts) r.pos ≡ onward true r.text.now (loop_name q₀ j₀ e₀ r.pos (part r.text.now r.pos r₁.pos) ts) r₁.pos
loop_read r r₁ q₀ j₀ e₀ ts here w =
    let text : List ℕ = r.text.now in
    let h = start_is text r.pos at.Letter (λ o. cc) here in
    moves true text (naming q₀ j₀ e₀ ts) r.pos (go [] (loop_name q₀ j₀ e₀ r.pos (get_or text r.pos 0 ∷ []) ts)) h.0 (cond-false _ _ _ (letter_solid (get_or text r.pos 0) h.1) ∙ cond-true _ _ _ (letter_is (get_or text r.pos 0) h.1))
    ∙ word_from true text (λ w. loop_name q₀ j₀ e₀ r.pos w ts) (λ w p b h. cond-true _ _ _ h) r.pos r₁.pos (word_some r r₁ here w) w.all

-- a free name in its own text
record Free (text : List ℕ) (i j : ℕ) : Type 0 where
  free : keyword_of (part text i j) ≡ None
  short : j ≤ i + 24

free_in : (f : Follow) (r r₁ : Cursor) (n : Span ℕ) → Worded r r₁ → FreeName f r.pos r₁ (Ok n) → Free r.text.now r.pos r₁.pos
free_in f r r₁ n w h = record { free = ap (λ (t : Bor (List ℕ)). keyword_of (part t.now r.pos r₁.pos)) (sym w.same.text) ∙ h.1; short = h.2 }

-- and the blanks behind it
name_named : (r r₁ r₂ : Cursor) (k : Stack) → start_at r.text.now r.pos ≡ at.Letter → Worded r r₁ → Free r.text.now r.pos r₁.pos → Spaced r₁ r₂ → onward true r.text.now (want k) r.pos ≡ onward true r.text.now (name_at r.text.now r.pos r₁.pos k) r₂.pos
name_named r r₁ r₂ k here w h sp =
    let text : List ℕ = r.text.now in
    word_run true r.text.now r.pos r₁.pos k (word_some r r₁ here w) here w.all
    ∙ name_ends text r.pos r₁.pos (part text r.pos r₁.pos) k w.last h.free h.short
    ∙ stays true text (name_at text r.pos r₁.pos k) (named_stays r.pos r₁.pos (part text r.pos r₁.pos) k) r₁.pos r₂.pos (blanks_in w.same.text sp)

-- what is wrong with a name falls due behind it
pub name_fails : (x : Context) (r r₁ : Cursor) (f : Fault) → start_at r.text.now r.pos ≡ at.Letter → Worded r r₁ → FreeName (follow.Name x.inside) r.pos r₁ (Err f) → Fails r.text.now (Wanting r.text.now r.pos 12 x) want r.pos f
name_fails x r r₁ f here w h k fit =
    let text : List ℕ = r₁.text.now in
    let ws : List ℕ = part text r.pos r₁.pos in
    let last : r₁.pos < length text → word (get_or text r₁.pos 0) ≡ false = there (λ t. r₁.pos < length t → word (get_or t r₁.pos 0) ≡ false) (sym w.same.text) w.last in
    word_run true r.text.now r.pos r₁.pos k (word_some r r₁ here w) here w.all
    ∙ there (λ t. onward true t (in_name r.pos (part t r.pos r₁.pos) k) r₁.pos ≡ refused f.refusal f.place) w.same.text
    (⊎_elim
    (λ command. name_keyword text r.pos r₁.pos ws k last command.0 (clear_letter (start_at r.text.now r.pos) here (fit.clear r.pos (blanks_here r.text.now r.pos r.within))) ∙ as_refused f UnexpectedByte r₁.pos command.1)
    (λ over.
    let v : ℕ → Move = λ b. nameds (after b) r.pos r₁.pos ws k r₁.pos in
    limited (follow.Name (innermost k)) r₁ (record { rule = six; place = r.pos; due = r₁.pos }) [] f (in_name r.pos ws k) (v (get_or text r₁.pos 0))
    (subst (λ i. Limited (follow.Name i) r₁ TooLong r.pos f) (sym fit.fit.here) over.2)
    (λ lt. cond-false _ _ _ (last lt) ∙ ap (λ o. worded o r.pos ws k r₁.pos (get_or text r₁.pos 0)) over.0 ∙ ap (λ d. late d (v (get_or text r₁.pos 0))) (long_due r.pos r₁.pos over.1))
    (λ lt. told_name (after (get_or text r₁.pos 0)) r.pos r₁.pos ws k r₁.pos)
    refl)
    h)
  where
    clear_letter : (s : Start) → s ≡ at.Letter → Clear s k → (c : Keyword) (j b : ℕ) → commanded c k j b ≡ stop
    clear_letter s e = subst (λ s. Clear s k → (c : Keyword) (j b : ℕ) → commanded c k j b ≡ stop) (sym e) (λ clear. clear)

-- the name of a loop, behind blanks
pub loop_begins : (r r₁ : Cursor) → Spaced r r₁ → (start_at r₁.text.now r₁.pos ≡ at.Letter → ⊥) → (f : Fault) → f ≡ fault UnexpectedByte r₁.pos → Named r.text.now r (Err f) r₁
loop_begins r r₁ sp ne f e q j l ts =
    let text : List ℕ = r.text.now in
    stays true text (naming q j l ts) (naming_stays q j l ts) r.pos r₁.pos sp.all
    ∙ refuses true text (naming q j l ts) r₁.pos (λ lt. cond-false _ _ _ (sp.last lt) ∙ cond-false _ _ _ (no_letter (get_or text r₁.pos 0) (λ s. ne (ap (λ (t : Bor (List ℕ)). start_at t.now r₁.pos) sp.same.text ∙ start_here text r₁.pos lt ∙ s)) (sp.last lt))) refl
    ∙ as_refused f UnexpectedByte r₁.pos e

loop_runs : (r r₁ r₂ : Cursor) (q j : ℕ) (l : Bool) (ts : Items) → Spaced r r₁ → start_at r₁.text.now r₁.pos ≡ at.Letter → Worded r₁ r₂ → onward true r.text.now (naming q j l ts) r.pos ≡ onward true r.text.now (loop_name q j l r₁.pos (part r.text.now r₁.pos r₂.pos) ts) r₂.pos
loop_runs r r₁ r₂ q j l ts sp here w =
    stays true r.text.now (naming q j l ts) (naming_stays q j l ts) r.pos r₁.pos sp.all
    ∙ there (λ t. onward true t (naming q j l ts) r₁.pos ≡ onward true t (loop_name q j l r₁.pos (part t r₁.pos r₂.pos) ts) r₂.pos) sp.same.text (loop_read r₁ r₂ q j l ts here w)

pub loop_named : (r r₁ r₂ : Cursor) (o : Result (Span ℕ) Fault) → AtWord r.text.now r.pos → Spaced r r₁ → start_at r₁.text.now r₁.pos ≡ at.Letter → Worded r₁ r₂ → FreeName follow.Begin r₁.pos r₂ o → Named r.text.now r o r₂
loop_named r r₁ r₂ (Ok n) away sp here w h =
    let text : List ℕ = r.text.now in
    let free = free_in follow.Begin r₁ r₂ n w h in
    let far = word_some r₁ r₂ here w in
    let from' : n.«from» ≡ r₁.pos = ap (λ (n : Span ℕ). n.«from») h.0 in
    let to' : n.to ≡ r₂.pos = ap (λ (n : Span ℕ). n.to) h.0 in
    record {
      same = record { text = w.same.text ∙ sp.same.text; state = w.same.state ∙ sp.same.state; pos = refl; table = w.same.table ∙ sp.same.table };
      onwards = omega (arith, apart);
      some = omega arith;
      ends = to';
      runs = λ q j l ts.
          loop_runs r r₁ r₂ q j l ts sp here w
          ∙ loop_end text q j l r₁.pos r₂.pos (part text r₁.pos r₂.pos) ts (there (λ t. r₂.pos < length t → word (get_or t r₂.pos 0) ≡ false) sp.same.text w.last) (ap (λ (t : Bor (List ℕ)). keyword_of (part t.now r₁.pos r₂.pos)) (sym sp.same.text) ∙ free.free) free.short
          ∙ ap (λ (n : Span ℕ). onward true text (want (Stack.top q (loop_head l j n.«from» n.to) ts)) r₂.pos) (sym h.0);
    }
  where
    -- no byte of a word stands right behind the loop's own
    apart : r.pos < r₁.pos
    apart =
        let at_letter = start_is r₁.text.now r₁.pos at.Letter (λ o. cc) here in
        ⊎_elim
        (λ lt. lt)
        (λ ge.
        let e : r₁.pos ≡ r.pos = omega (arith, sp.all.onwards) in
        let len : length r₁.text.now ≡ length r.text.now = ap (λ (t : Bor (List ℕ)). length t.now) sp.same.text in
        absurd (cc (away (omega (arith, at_letter.0)), ap (λ p. word (get_or r.text.now p 0)) (sym e) ∙ ap (λ (t : Bor (List ℕ)). word (get_or t.now r₁.pos 0)) (sym sp.same.text) ∙ letter_word (get_or r₁.text.now r₁.pos 0) at_letter.1)))
        (cases_lt r.pos r₁.pos)
loop_named r r₁ r₂ (Err f) away sp here w h = λ q j l ts.
    let text : List ℕ = r₂.text.now in
    let ws : List ℕ = part text r₁.pos r₂.pos in
    let same : r₂.text.now ≡ r.text.now = now_text (w.same.text ∙ sp.same.text) in
    let last : r₂.pos < length text → word (get_or text r₂.pos 0) ≡ false = there (λ t. r₂.pos < length t → word (get_or t r₂.pos 0) ≡ false) (sym w.same.text) w.last in
    loop_runs r r₁ r₂ q j l ts sp here w
    ∙ subst (λ t. onward true t (loop_name q j l r₁.pos (part t r₁.pos r₂.pos) ts) r₂.pos ≡ refused f.refusal f.place) same
    (⊎_elim
    (λ command. loop_keyword text q j l r₁.pos r₂.pos ws ts last command.0 ∙ as_refused f UnexpectedByte r₂.pos command.1)
    (λ over.
    let k : Stack = Stack.top q (loop_head l j r₁.pos r₂.pos) ts in
    let v : ℕ → Move = λ b. wants (start b) b k r₂.pos in
    limited follow.Begin r₂ (record { rule = six; place = r₁.pos; due = r₂.pos }) [] f (loop_name q j l r₁.pos ws ts) (v (get_or text r₂.pos 0))
    over.2
    (λ lt. cond-false _ _ _ (last lt) ∙ ap (λ o. looped o q j l r₁.pos ts (get_or text r₂.pos 0) r₂.pos) over.0 ∙ ap (λ d. late d (v (get_or text r₂.pos 0))) (long_due r₁.pos r₂.pos over.1))
    (λ lt. told_begin (start (get_or text r₂.pos 0)) (get_or text r₂.pos 0) q (loop_head l j r₁.pos r₂.pos) ts r₂.pos)
    refl)
    h)

-- what has been read of a name, with the blanks behind it
module _ (x : Context) (r r₁ r₂ : Cursor) (n : Span ℕ) (here : start_at r.text.now r.pos ≡ at.Letter) (w : Worded r r₁) (h : FreeName (follow.Name x.inside) r.pos r₁ (Ok n)) (sp : Spaced r₁ r₂) where
  name_on : (k : Stack) → onward true r.text.now (want k) r.pos ≡ onward true r.text.now (name_at r.text.now r.pos r₁.pos k) r₂.pos
  name_on k = name_named r r₁ r₂ k here w (free_in (follow.Name x.inside) r r₁ n w h) sp

  -- alone
  pub name_took : Ready r → (after_at r₂.text.now r₂.pos ≡ past.Round → ⊥) → (after_at r₂.text.now r₂.pos ≡ past.Square → ⊥) → (m : Span ℕ) → m ≡ from_to (min n.«from» 65535) (min n.to 65535) → (r₃ : Cursor) → Tabled r₂ (pushed r₂.table (node.Name m)) r₃ → (o : Operand) → o ≡ record { need = 1; constant = None } → Took r.text.now (Wanting r.text.now r.pos 12 x) want r o r₃
  unfolding need need_key flatten flatten_key
  name_took ready nr ns m narrow r₃ t o e =
      let same : r₂.text ≡ r.text = sp.same.text ∙ w.same.text in
      let table : r₂.table ≡ r.table = sp.same.table ∙ w.same.table in
      let len : r₂.table.len ≡ r.table.len = ap (λ (t : Table). t.len) table in
      let far = word_some r r₁ here w in
      let is = ap (λ (o : Operand). o.need) e in
      let span : m ≡ from_to r.pos r₁.pos = narrowed r.pos r₁.pos m (narrow ∙ ap (λ (n : Span ℕ). from_to (min n.«from» 65535) (min n.to 65535)) h.0) (omega (arith, r.within, r.short)) (omega (arith, r₁.within, r₁.short)) in
      let t' : Tabled r₂ (pushed r₂.table (node.Name (from_to r.pos r₁.pos))) r₃ = subst (λ m. Tabled r₂ (pushed r₂.table (node.Name m)) r₃) span t in
      let before : Went r [] r₂ = went_over [] (went_moved ready.inward w.all.onwards w.same) sp.all.onwards sp.same in
      record {
        tree = Expr.key (Key.name r.pos r₁.pos);
        keyless = λ u. absurd (u r.pos (blanks_here r.text.now r.pos r.within) here);
        told = e;
        placed = placed_none o r₃.pos e;
        small = omega (arith, is, sp.all.onwards, t.pos);
        far = omega (arith, sp.all.onwards, t.pos);
        went = went_push [] (node.Name (from_to r.pos r₁.pos)) (omega arith) (omega (arith, sp.all.onwards)) before t';
        runs = λ k fit.
            name_on k
            ∙ name_alone r.text.now r.pos r₁.pos (part r.text.now r.pos r₁.pos) k r₂.pos
            (solid_in w.same.text sp)
            (λ e. nr (ap (λ (t : Bor (List ℕ)). after_at t.now r₂.pos) same ∙ e))
            (λ e. ns (ap (λ (t : Bor (List ℕ)). after_at t.now r₂.pos) same ∙ e))
            ∙ ap (onward true r.text.now (aft (Expr.key (Key.name r.pos r₁.pos)) k)) (sym t.pos);
      }

  -- with what stands behind it
  named_did : (o : Result Operand Fault) (r₃ : Cursor) → Called r.text.now r.pos r₁.pos x.left r₂ o r₃ → Did r.text.now (Wanting r.text.now r.pos 12 x) want r o r₃
  named_did (Ok o) r₃ a =
      let far = word_some r r₁ here w in
      record {
        tree = a.tree;
        told = a.told;
        placed = a.placed;
        keyless = λ u. absurd (u r.pos (blanks_here r.text.now r.pos r.within) here);
        small = omega (arith, a.small, sp.all.onwards);
        far = omega (arith, a.far, sp.all.onwards);
        went = went_from (flatten a.tree) w.all.onwards w.same (went_from (flatten a.tree) sp.all.onwards sp.same a.went);
        runs = λ k fit. name_on k ∙ a.runs k fit.fit.room;
      }
  named_did (Err f) r₃ a = λ k fit. name_on k ∙ a k fit.fit.room

  pub name_call : (o : Result Operand Fault) (r₃ : Cursor) → Called r₂.text.now n.«from» n.to x.left r₂ o r₃ → Did r.text.now (Wanting r.text.now r.pos 12 x) want r o r₃
  name_call o r₃ a =
      named_did o r₃ (subst (λ (n : Span ℕ). Called r.text.now n.«from» n.to x.left r₂ o r₃) h.0 (there (λ t. Called t n.«from» n.to x.left r₂ o r₃) (sp.same.text ∙ w.same.text) a))

  pub name_index_fails : (f : Fault) (r₃ : Cursor) → Subscribed r₂.text.now x.left r₂ (Err f) r₃ → Fails r.text.now (Wanting r.text.now r.pos 12 x) want r.pos f
  name_index_fails f r₃ a =
      named_did (Err f) r₃ (λ k fit. there (λ t. onward true t (name_at t r.pos r₁.pos k) r₂.pos ≡ refused f.refusal f.place) (sp.same.text ∙ w.same.text) (a r.pos r₁.pos (part r₂.text.now r.pos r₁.pos) k fit))

  pub name_index : (c : ℕ) (r₃ : Cursor) → Subscribed r₂.text.now x.left r₂ (Ok c) r₃ → (m : Span ℕ) → m ≡ from_to (min n.«from» 65535) (min n.to 65535) → (r₄ : Cursor) → Tabled r₃ (pushed r₃.table (node.Index m)) r₄ → (o : Operand) → o ≡ record { need = c; constant = None } → Took r.text.now (Wanting r.text.now r.pos 12 x) want r o r₄
  unfolding need need_key flatten flatten_key
  name_index c r₃ h' m narrow r₄ t o e =
      let a : Subscript r.text.now x.left r₂ c r₃ = there (λ t. Subscript t x.left r₂ c r₃) (sp.same.text ∙ w.same.text) h' in
      let table : r₂.table ≡ r.table = sp.same.table ∙ w.same.table in
      let len : r₂.table.len ≡ r.table.len = ap (λ (t : Table). t.len) table in
      let far = word_some r r₁ here w in
      let is = ap (λ (o : Operand). o.need) e in
      let span : m ≡ from_to r.pos r₁.pos = narrowed r.pos r₁.pos m (narrow ∙ ap (λ (n : Span ℕ). from_to (min n.«from» 65535) (min n.to 65535)) h.0) (omega (arith, r.within, r.short)) (omega (arith, r₁.within, r₁.short)) in
      let t' : Tabled r₃ (pushed r₃.table (node.Index (from_to r.pos r₁.pos))) r₄ = subst (λ m. Tabled r₃ (pushed r₃.table (node.Index m)) r₄) span t in
      let before : Went r (flatten a.tree) r₃ = went_from (flatten a.tree) w.all.onwards w.same (went_from (flatten a.tree) sp.all.onwards sp.same a.went) in
      record {
        tree = Expr.key (Key.index r.pos r₁.pos r₂.pos a.tree);
        keyless = λ u. absurd (u r.pos (blanks_here r.text.now r.pos r.within) here);
        told = e ∙ ap (λ n. record { need = n; constant = None }) a.told;
        placed = placed_none o r₄.pos e;
        small = omega (arith, is, a.small, sp.all.onwards, t.pos);
        far = omega (arith, a.small, sp.all.onwards, t.pos);
        went = went_push (flatten a.tree) (node.Index (from_to r.pos r₁.pos)) (omega arith) (omega (arith, a.few, sp.all.onwards)) before t';
        runs = λ k fit.
            name_on k
            ∙ a.runs r.pos r₁.pos (part r.text.now r.pos r₁.pos) k fit.fit.room
            ∙ ap (onward true r.text.now (aft (Expr.key (Key.index r.pos r₁.pos r₂.pos a.tree)) k)) (sym t.pos);
      }

-- arguments
abbrev pub arguments_of : ℕ → ℕ → Arguments
arguments_of c n = record { count = c; need = n }

-- Arguments are read, with the comma behind each: r is the cursor behind the call's `(`, r' the one at the next argument.
pub record Arguing (left : ℕ) (r : Cursor) (count needs : ℕ) (r' : Cursor) : Type 0 where
  pub args : Args
  pub many : count ≡ count_args args
  pub needed : needs ≡ need_args args
  pub some : count + r.pos ≤ r'.pos
  pub small : needs + r.pos ≤ r'.pos
  pub went : Went r (flatten_args args) r'
  pub runs : (i j q : ℕ) (f : Option Signature) (k : Stack) → depth k + 1 + left ≡ 12 → onward true r.text.now (want (Stack.open' (Bracket.call i j q f Args.nullary) k)) r.pos ≡ onward true r.text.now (want (Stack.open' (Bracket.call i j q f args) k)) r'.pos

pub arguing_first : (left : ℕ) (r : Cursor) → r.state ≡ Instruction → Arguing left r 0 0 r
unfolding need_args flatten_args
arguing_first left r inward = record { args = Args.nullary; many = refl; needed = refl; some = omega arith; small = omega arith; went = went_none r inward; runs = λ i j q f k fit. refl }

-- the next argument
module _ (x : Context) (r r₁ : Cursor) (n m : ℕ) (g : Arguing x.left r n m r₁) (is_call : x.inside ≡ inside.Call) where
  argument_wanted : (i j q : ℕ) (f : Option Signature) (k : Stack) → depth k + 1 + x.left ≡ 12 → Wanting r₁.text.now r₁.pos 1 x (Stack.open' (Bracket.call i j q f g.args) k)
  argument_wanted i j q f k fit = wanting_open r₁.text.now r₁.pos (Bracket.call i j q f g.args) x k refl is_call fit

  argument_runs : (o : Operand) (r₂ : Cursor) (a : Took r₁.text.now (Wanting r₁.text.now r₁.pos 1 x) want r₁ o r₂) (i j q : ℕ) (f : Option Signature) (k : Stack) → depth k + 1 + x.left ≡ 12 → onward true r.text.now (want (Stack.open' (Bracket.call i j q f Args.nullary) k)) r.pos ≡ onward true r.text.now (aft a.tree (Stack.open' (Bracket.call i j q f g.args) k)) r₂.pos
  argument_runs o r₂ a i j q f k fit =
      let s : Stack = Stack.open' (Bracket.call i j q f g.args) k in
      g.runs i j q f k fit
      ∙ there (λ text. onward true text (want s) r₁.pos ≡ onward true text (aft a.tree s) r₂.pos) g.went.text (a.runs s (argument_wanted i j q f k fit))

  pub argument_fails : (e : Fault) (r₂ : Cursor) → Fails r₁.text.now (Wanting r₁.text.now r₁.pos 1 x) want r₁.pos e → Argued r.text.now x.left r (Err e) r₂
  argument_fails e r₂ h i j q f k fit =
      let s : Stack = Stack.open' (Bracket.call i j q f g.args) k in
      g.runs i j q f k fit
      ∙ there (λ text. onward true text (want s) r₁.pos ≡ refused e.refusal e.place) g.went.text (h s (argument_wanted i j q f k fit))

  -- the last one
  pub argument_last : (o : Operand) (r₂ : Cursor) → Took r₁.text.now (Wanting r₁.text.now r₁.pos 1 x) want r₁ o r₂ → after_at r₂.text.now r₂.pos ≡ past.End Round → (m' : ℕ) → m' ≡ max m (n + o.need) → Argument r.text.now x.left r (arguments_of (n + 1) m') r₂
  unfolding need_args flatten_args
  argument_last o r₂ a last m' e =
      let needs : o.need ≡ need a.tree = ap (λ (o : Operand). o.need) a.told in
      let count : n + 1 ≡ suc (count_args g.args) = omega (arith, g.many) in
      let most : m' ≡ max (need_args g.args) (count_args g.args + need a.tree) = e ∙ ap (λ m. max m (n + o.need)) g.needed ∙ ap (λ n. max (need_args g.args) (n + o.need)) g.many ∙ ap (λ c. max (need_args g.args) (count_args g.args + c)) needs in
      record {
        before = g.args;
        tree = a.tree;
        told = ap (λ c. arguments_of c m') count ∙ ap (arguments_of (suc (count_args g.args))) most;
        small = omega (arith, g.small, g.some, a.small, a.far);
        some = omega (arith, g.some, a.far);
        went = went_append (flatten_args g.args) (flatten a.tree) g.went a.went;
        at_end = sym (ap (λ (t : Bor (List ℕ)). after_at t.now r₂.pos) (a.went.text ∙ g.went.text)) ∙ last;
        runs = λ i j q f k fit. argument_runs o r₂ a i j q f k fit;
      }

  -- one before a comma
  pub argument_next : (o : Operand) (r₂ r₃ : Cursor) → Took r₁.text.now (Wanting r₁.text.now r₁.pos 1 x) want r₁ o r₂ → after_at r₂.text.now r₂.pos ≡ past.Separator Comma → MovedTo r₂ (r₂.pos + 1) r₃ → (m' : ℕ) → m' ≡ max m (n + o.need) → Arguing x.left r (n + 1) m' r₃
  unfolding need_args flatten_args
  argument_next o r₂ r₃ a comma passed m' e =
      let text : List ℕ = r.text.now in
      let needs : o.need ≡ need a.tree = ap (λ (o : Operand). o.need) a.told in
      let most : m' ≡ max (need_args g.args) (count_args g.args + need a.tree) = e ∙ ap (λ m. max m (n + o.need)) g.needed ∙ ap (λ n. max (need_args g.args) (n + o.need)) g.many ∙ ap (λ c. max (need_args g.args) (count_args g.args + c)) needs in
      let h = after_is text r₂.pos (past.Separator Comma) (λ o. cc) (sym (ap (λ (t : Bor (List ℕ)). after_at t.now r₂.pos) (a.went.text ∙ g.went.text)) ∙ comma) in
      record {
        args = Args.argument g.args a.tree;
        many = omega (arith, g.many);
        needed = most;
        some = omega (arith, g.some, a.far, passed.pos);
        small = omega (arith, g.small, g.some, a.small, a.far, passed.pos);
        went = went_over (flatten_args g.args ++ flatten a.tree) (went_append (flatten_args g.args) (flatten a.tree) g.went a.went) (omega arith) passed;
        runs = λ i j q f k fit.
            let s : Stack = Stack.open' (Bracket.call i j q f g.args) k in
            let s' : Stack = Stack.open' (Bracket.call i j q f (Args.argument g.args a.tree)) k in
            argument_runs o r₂ a i j q f k fit
            ∙ moves true text (aft a.tree s) r₂.pos (go [] (want s')) h.0 (ap (λ x. afters x a.tree s r₂.pos) h.1)
            ∙ ap (onward true text (want s')) (sym passed.pos);
      }

  -- or one with neither `,` nor `)` behind it
  pub argument_stop : (o : Operand) (r₂ : Cursor) (e : Fault) → Took r₁.text.now (Wanting r₁.text.now r₁.pos 1 x) want r₁ o r₂ → Stops 1 r₁.text.now r₂.pos → ends_here inside.Call (after_at r₂.text.now r₂.pos) ≡ false → e ≡ fault UnexpectedByte (unexpected_at r₂.text.now r₂.pos) → Argued r.text.now x.left r (Err e) r₂
  argument_stop o r₂ e a st none told i j q f k fit =
      let s : Stack = Stack.open' (Bracket.call i j q f g.args) k in
      let same : r₂.text.now ≡ r.text.now = now_text (a.went.text ∙ g.went.text) in
      argument_runs o r₂ a i j q f k fit
      ∙ subst (λ text. onward true text (aft a.tree s) r₂.pos ≡ refused e.refusal e.place) same
      (unexpected r₂.text.now a.tree s r₂.pos (λ d p. unassigned a.tree s d p (λ c. refl)) (there (λ text. Stops 1 text r₂.pos) (sym a.went.text) st) none
      ∙ as_refused e UnexpectedByte (unexpected_at r₂.text.now r₂.pos) told)

module _ (text : List ℕ) (i j p : ℕ) (here : after_at text p ≡ past.Round) where
  -- the rules that fall due there
  call_by : (k : Stack) (d d' : List Broken) (o : Option Signature) → deep (depth k) p ≡ d → function (part text i j) ≡ o → known i o p ≡ d' → onward true text (name_at text i j k) p ≡ reacts true text p (go (d ++ d') (first (Stack.open' (Bracket.call i j p o Args.nullary) k)))
  call_by k d d' o room is told =
      let h = after_is text p past.Round (λ o. cc) here in
      moves true text (name_at text i j k) p (go (d ++ d') (first (Stack.open' (Bracket.call i j p o Args.nullary) k))) h.0
      (ap (λ x. nameds x i j (part text i j) k p) h.1
      ∙ ap (λ d. go (d ++ known i (function (part text i j)) p) (first (Stack.open' (Bracket.call i j p (function (part text i j)) Args.nullary) k))) room
      ∙ ap (λ o. go (d ++ known i o p) (first (Stack.open' (Bracket.call i j p o Args.nullary) k))) is
      ∙ ap (λ d'. go (d ++ d') (first (Stack.open' (Bracket.call i j p o Args.nullary) k))) told)

  call_on : (s : Signature) → function (part text i j) ≡ Some s → (k : Stack) → depth k < 12 → onward true text (name_at text i j k) p ≡ onward true text (first (Stack.open' (Bracket.call i j p (Some s) Args.nullary) k)) (p + 1)
  call_on s is k room = call_by k [] [] (Some s) (deep_none (depth k) p room) is refl

  call_over : (k : Stack) → 12 ≤ depth k → onward true text (name_at text i j k) p ≡ refused NestedTooDeep p
  call_over k over = call_by k (record { rule = seven; place = p; due = p } ∷ []) (known i (function (part text i j)) p) (function (part text i j)) (deep_due (depth k) p over) refl refl

  call_nameless : function (part text i j) ≡ None → (k : Stack) → depth k < 12 → onward true text (name_at text i j k) p ≡ refused BadCall i
  call_nameless is k room = call_by k [] (record { rule = eight; place = i; due = p } ∷ []) None (deep_none (depth k) p room) is refl

pub call_deep : (x : Context) (r : Cursor) (i j : ℕ) (f : Fault) → after_at r.text.now r.pos ≡ past.Round → x.left ≡ 0 → f ≡ fault NestedTooDeep r.pos → Fails r.text.now (Roomy x.left) (name_at r.text.now i j) r.pos f
call_deep x r i j f here none e k fit = call_over r.text.now i j r.pos here k (omega arith) ∙ as_refused f NestedTooDeep r.pos e

pub call_unknown : (x y : Context) (r : Cursor) (i j : ℕ) (f : Fault) → after_at r.text.now r.pos ≡ past.Round → Opened inside.Call x y → function (part r.text.now i j) ≡ None → f ≡ fault BadCall i → Fails r.text.now (Roomy x.left) (name_at r.text.now i j) r.pos f
call_unknown x y r i j f here room is e k fit = call_nameless r.text.now i j r.pos here is k (omega (arith, room.left)) ∙ as_refused f BadCall i e

-- where no `)` stands behind it, an argument is expected
firsts_wants : (s : Start) (b i j q : ℕ) (f : Option Signature) (a : Args) (k : Stack) (p : ℕ) → (s ≡ at.Blank → ⊥) → (s ≡ at.EndRound → ⊥) → firsts s b (Stack.open' (Bracket.call i j q f a) k) p ≡ wants s b (Stack.open' (Bracket.call i j q f a) k) p
firsts_wants s b i j q f a k p nb ne = grind arith

-- The arguments of a call are read, from its `(` at r up to its `)` at r'; its name stands from i to j.
pub record Listed (i j : ℕ) (s : Signature) (left : ℕ) (r : Cursor) (a : Arguments) (r' : Cursor) : Type 0 where
  pub args : Args
  pub many : a.count ≡ count_args args
  pub needed : a.need ≡ need_args args
  pub small : a.need + r.pos + 1 ≤ r'.pos
  pub some : a.count + r.pos + 1 ≤ r'.pos
  pub few : r'.table.len + r.pos + 1 ≤ r.table.len + r'.pos
  pub went : Went r (flatten_args args) r'
  pub ends : Passes r'
  pub runs : (k : Stack) → Roomy left k → onward true r.text.now (name_at r.text.now i j k) r.pos ≡ reacts true r.text.now r'.pos (go (counted i (Some s) (count_args args) r'.pos) (aft (Expr.call i j r.pos (Some s) args r'.pos) k))

module _ (i j : ℕ) (s : Signature) (x y : Context) (r r₁ r₂ : Cursor) (ready : Ready r) (here : after_at r.text.now r.pos ≡ past.Round) (room : Opened inside.Call x y) (is : function (part r.text.now i j) ≡ Some s) (passed : MovedTo r (r.pos + 1) r₁) (sp : Spaced r₁ r₂) where
  -- behind the `(` and blanks
  call_first : (k : Stack) → Roomy x.left k → onward true r.text.now (name_at r.text.now i j k) r.pos ≡ onward true r.text.now (first (Stack.open' (Bracket.call i j r.pos (Some s) Args.nullary) k)) r₂.pos
  call_first k fit =
      let k' : Stack = Stack.open' (Bracket.call i j r.pos (Some s) Args.nullary) k in
      call_on r.text.now i j r.pos here s is k (omega (arith, room.left))
      ∙ ap (onward true r.text.now (first k')) (sym passed.pos)
      ∙ stays true r.text.now (first k') (first_stays k') r₁.pos r₂.pos (blanks_in passed.text sp)

  same_text : r₂.text.now ≡ r.text.now
  same_text = now_text (sp.same.text ∙ passed.text)

  solid : Solid r.text.now r₂.pos
  solid = solid_in passed.text sp

  -- no argument
  pub listed_none : start_at r₂.text.now r₂.pos ≡ at.EndRound → Listed i j s x.left r (arguments_of 0 0) r₂
  unfolding need_args flatten_args
  listed_none e =
      let h = start_is r.text.now r₂.pos at.EndRound (λ o. cc) (ap (λ t. start_at t r₂.pos) (sym same_text) ∙ e) in
      let len : r₂.table.len ≡ r.table.len = ap (λ (t : Table). t.len) (sp.same.table ∙ passed.table) in
      record {
        args = Args.nullary;
        many = refl;
        needed = refl;
        small = omega (arith, passed.pos, sp.all.onwards);
        some = omega (arith, passed.pos, sp.all.onwards);
        few = omega (arith, passed.pos, sp.all.onwards);
        went = went_over [] (went_moved ready.inward (omega arith) passed) sp.all.onwards sp.same;
        ends = start_passed r₂ (sp.same.state ∙ passed.state ∙ ready.inward) e (λ q. cc) (λ o. cc);
        runs = λ k fit.
            let k' : Stack = Stack.open' (Bracket.call i j r.pos (Some s) Args.nullary) k in
            call_first k fit ∙ moves true r.text.now (first k') r₂.pos (hollow Round k' r₂.pos) h.0 (ap (λ s. firsts s (get_or r.text.now r₂.pos 0) k' r₂.pos) h.1);
      }

  -- where an argument stands
  argument_on : (start_at r₂.text.now r₂.pos ≡ at.EndRound → ⊥) → (k : Stack) → Roomy x.left k → onward true r.text.now (name_at r.text.now i j k) r.pos ≡ onward true r.text.now (want (Stack.open' (Bracket.call i j r.pos (Some s) Args.nullary) k)) r₂.pos
  argument_on ne k fit =
      let text : List ℕ = r.text.now in
      let k' : Stack = Stack.open' (Bracket.call i j r.pos (Some s) Args.nullary) k in
      call_first k fit
      ∙ alike true text (first k') (want k') r₂.pos
      (λ lt. firsts_wants (start (get_or text r₂.pos 0)) (get_or text r₂.pos 0) i j r.pos (Some s) Args.nullary k r₂.pos (λ e. cc (solid lt, blank_start (get_or text r₂.pos 0) e)) (λ e. ne (ap (λ t. start_at t r₂.pos) same_text ∙ start_here text r₂.pos lt ∙ e)))
      refl

  pub listed_some : (start_at r₂.text.now r₂.pos ≡ at.EndRound → ⊥) → (a : Arguments) (r₃ : Cursor) → Argued r₂.text.now y.left r₂ (Ok a) r₃ → Listed i j s x.left r a r₃
  listed_some ne a r₃ h =
      let g : Argument r.text.now y.left r₂ a r₃ = subst (λ t. Argument t y.left r₂ a r₃) same_text h in
      let len : r₂.table.len ≡ r.table.len = ap (λ (t : Table). t.len) (sp.same.table ∙ passed.table) in
      let at_end : after_at r₃.text.now r₃.pos ≡ past.End Round = there (λ t. after_at t r₃.pos ≡ past.End Round) (sym (g.went.text ∙ sp.same.text ∙ passed.text)) g.at_end in
      record {
        args = Args.argument g.before g.tree;
        many = ap (λ (a : Arguments). a.count) g.told;
        needed = ap (λ (a : Arguments). a.need) g.told;
        small = omega (arith, passed.pos, sp.all.onwards, g.small);
        some = omega (arith, passed.pos, sp.all.onwards, g.some);
        few = omega (arith, passed.pos, sp.all.onwards, g.went.few);
        went = went_from (flatten_args (Args.argument g.before g.tree)) (omega arith) passed (went_from (flatten_args (Args.argument g.before g.tree)) sp.all.onwards sp.same g.went);
        ends = after_passed r₃ g.went.inward at_end (λ d. cc) (λ q. cc) (λ o. cc);
        runs = λ k fit.
            argument_on ne k fit
            ∙ g.runs i j r.pos (Some s) k (omega (arith, room.left))
            ∙ shut_on r.text.now r₃.pos Round g.at_end (Bracket.call i j r.pos (Some s) g.before) g.tree k;
      }

  pub listed_fails : (start_at r₂.text.now r₂.pos ≡ at.EndRound → ⊥) → (f : Fault) (r₃ : Cursor) → Argued r₂.text.now y.left r₂ (Err f) r₃ → Fails r.text.now (Roomy x.left) (name_at r.text.now i j) r.pos f
  listed_fails ne f r₃ h k fit =
      argument_on ne k fit
      ∙ subst (λ t. onward true t (want (Stack.open' (Bracket.call i j r.pos (Some s) Args.nullary) k)) r₂.pos ≡ refused f.refusal f.place) same_text (h i j r.pos (Some s) k (omega (arith, room.left)))

miscounted : (s : Signature) (n i z : ℕ) → (n < s.least) ⊎ (s.most < n) → counted i (Some s) n z ≡ record { rule = eight; place = i; due = z } ∷ []
miscounted s n i z h = grind (arith, nat_tests)

well_counted : (s : Signature) (n i z : ℕ) → s.least ≤ n → n ≤ s.most → counted i (Some s) n z ≡ []
well_counted s n i z least most = grind (arith, nat_tests)

module _ (i j : ℕ) (s : Signature) (left : ℕ) (r : Cursor) (a : Arguments) (r' : Cursor) (l : Listed i j s left r a r') where
  counted_by : (d : List Broken) → counted i (Some s) a.count r'.pos ≡ d → (k : Stack) → Roomy left k → onward true r.text.now (name_at r.text.now i j k) r.pos ≡ reacts true r.text.now r'.pos (go d (aft (Expr.call i j r.pos (Some s) l.args r'.pos) k))
  counted_by d e k fit = l.runs k fit ∙ ap (λ d. reacts true r.text.now r'.pos (go d (aft (Expr.call i j r.pos (Some s) l.args r'.pos) k))) (ap (λ n. counted i (Some s) n r'.pos) (sym l.many) ∙ e)

  -- not so many
  pub call_miscounted : (a.count < s.least) ⊎ (s.most < a.count) → (k : Stack) → Roomy left k → onward true r.text.now (name_at r.text.now i j k) r.pos ≡ refused BadCall i
  call_miscounted h k fit = counted_by (record { rule = eight; place = i; due = r'.pos } ∷ []) (miscounted s a.count i r'.pos h) k fit

  -- as many
  pub call_took : s.least ≤ a.count → a.count ≤ s.most → (r₁ r₂ : Cursor) → MovedTo r' (r'.pos + 1) r₁ → Tabled r₁ (pushed r₁.table (node.Call i s.function a.count)) r₂ → (o : Operand) → o ≡ record { need = a.need; constant = None } → Took r.text.now (Roomy left) (name_at r.text.now i j) r o r₂
  unfolding need flatten
  call_took least most r₁ r₂ passed t o e =
      let is = ap (λ (o : Operand). o.need) e in
      let len : r₁.table.len ≡ r'.table.len = ap (λ (t : Table). t.len) passed.table in
      let t' : Tabled r₁ (pushed r₁.table (node.Call i s.function (count_args l.args))) r₂ = subst (λ n. Tabled r₁ (pushed r₁.table (node.Call i s.function n)) r₂) l.many t in
      let before : Went r (flatten_args l.args) r₁ = went_over (flatten_args l.args) l.went (omega arith) passed in
      record {
        tree = Expr.call i j r.pos (Some s) l.args r'.pos;
        keyless = λ u k b q. refl;
        told = e ∙ ap (λ n. record { need = n; constant = None }) l.needed;
        placed = placed_none o r₂.pos e;
        small = omega (arith, is, l.small, t.pos, passed.pos);
        far = omega (arith, l.some, t.pos, passed.pos);
        went = went_push (flatten_args l.args) (node.Call i s.function (count_args l.args)) (omega arith) (omega (arith, l.few, passed.pos)) before t';
        runs = λ k fit.
            counted_by [] (well_counted s a.count i r'.pos least most) k fit
            ∙ ap (onward true r.text.now (aft (Expr.call i j r.pos (Some s) l.args r'.pos) k)) (sym (t.pos ∙ passed.pos));
      }

pub listed_is : {i j : ℕ} {s : Signature} {left : ℕ} {r : Cursor} {a b : Arguments} {r' r'' : Cursor} → Listed i j s left r a r' → b ≡ a → r'' ≡ r' → Listed i j s left r b r''
listed_is {i} {j} {s} {left} {r} {a} {b} {r'} {r''} l e e' = subst (λ a. Listed i j s left r a r'') (sym e) (subst (λ q. Listed i j s left r a q) (sym e') l)
