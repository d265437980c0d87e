-- What may come next in the machine, and when the rules 4 to 8 fall due. Assumes nothing.
use Rattle.std.proofs.Common.{◌≡◌, ℕ, ◌+◌, ◌<◌, Bool, true, false, cond, not, ◌||◌, ◌&&◌, eqb, List, [], ◌∷◌, length, get_or, slice_get, Some, None, Option, sym, refl, ap, ◌∙◌, subst, ⊎_elim, arith}
use Rattle.std.proofs.lemmas.Option.{slice_get-get_or, slice_get_past}
use Rattle.std.proofs.lemmas.Bool.{cases_lt}
use Rattle.std.proofs.lemmas.Bool.Decides.{nat_tests}
use Rattle.refusals.specs.declared.Refusal.TheVariants.{UnexpectedByte}
use Rattle.tokens.specs.declared.operator.Op.{Op}
use Rattle.tokens.specs.declared.operator.Half.{Half}
use Rattle.tokens.specs.declared.operator.Half.TheVariants as halved
use Rattle.tokens.specs.declared.byte.Start.{Start}
use Rattle.tokens.specs.declared.byte.Start.TheVariants as at
use Rattle.tokens.specs.declared.byte.After.{After}
use Rattle.tokens.specs.declared.byte.After.TheVariants as past
use Rattle.tokens.specs.declared.byte.Separator.{Separator}
use Rattle.tokens.specs.declared.byte.Shape.{Shape}
use Rattle.tokens.specs.Bytes.{after, blank}
use Rattle.tokens.specs.Operators.{level, doubled}
use Rattle.trees.specs.declared.Constant.{Constant}
use Rattle.keywords.specs.declared.Keyword.{Keyword}
use Rattle.trees.specs.Tree.{Key, Expr, Item, Items}
use Rattle.grammar.specs.Rules.{Broken, refusal_of}
use Rattle.grammar.specs.Machine
use Rattle.grammar.specs.Machine.{Head, Bracket, Stack, Config, Move, stop, go, Run, late, step, finish, finished, onward, refused, reduce, shut, next, closes, parts, completes, quotes, afters, nameds, lasts, wants, bares, assigns, assigned, dotted, commanded, aft, half, reacts}
use Rattle.grammar.proofs.Moves.{moves, at_end, reduce_all, level_least}
use Rattle.reader.specs.declared.cursor.Cursor.{Cursor}
use Rattle.reader.specs.declared.cursor.Follow.{Follow}
use Rattle.reader.specs.declared.cursor.Inside.{Inside}
use Rattle.refusals.specs.declared.fault.Fault.{Fault}
use Rattle.reader.specs.States.{fault}
use Rattle.reader.specs.Scans.{ends, separates, is_top, is_join, operand_end, name_end, last_end, begins, follows, Limited, after_of, after_at, token_of, token_at, or_else, doubled_of, halfway, unexpected_at}
use Rattle.reader.specs.Reads.{head_inside, bracket_inside, innermost, Clear, Stops}
use Rattle.reader.specs.Statements.{is_equals, is_second, assigns_at}
use Rattle.reader.proofs.Places.{after_here, blank_after}
use Rattle.reader.proofs.Leaves.{as_refused, refuses}

-- whether a move goes on
abbrev pub Told : Bool → Move → Type 0
Told true stop = ⊥
Told true (go d c) = Unit {0}
Told false stop = Unit {0}
Told false (go d c) = ⊥

-- nothing is assigned but to a key
pub unassigned : (t : Expr) (k : Stack) (b p : ℕ) → ((c : Key) → assigned c k b p ≡ stop) → assigns t k b p ≡ stop
unassigned t k b p none = grind arith

-- what begins here means no more than an operand, if its dots and its words do not
pub clear_by : (s : Start) (k : Stack) → (s ≡ at.Dot → dotted k ≡ stop) → ((w : Keyword) (j b : ℕ) → commanded w k j b ≡ stop) → Clear s k
clear_by s k d w = grind arith

-- a closing sign brings the operators and signs of its bracket together: what is left is the bracket, or the instruction
settled : (P : Inside → Expr × Stack → Type 0) → ((t : Expr) (q : ℕ) (h : Head) (ts : Items) → P (head_inside h) (t, Stack.top q h ts)) → ((t : Expr) (b : Bracket) (k : Stack) → P (bracket_inside b) (t, Stack.open' b k)) → (t : Expr) (k : Stack) → P (innermost k) (reduce 0 t k)
settled P tops opens t (Stack.top q h ts) = tops t q h ts
settled P tops opens t (Stack.binary q o l k) = subst (P (innermost k)) (sym (reduce_all 0 q o l t k (omega arith))) (settled P tops opens (Expr.binary q o l t) k)
settled P tops opens t (Stack.signed q s k) = settled P tops opens (Expr.signed q s t) k
settled P tops opens t (Stack.open' b k) = opens t b k

told_end : (s : Shape) (t : Expr) (k : Stack) (p : ℕ) → Told (ends s (innermost k)) (closes s p (reduce 0 t k))
told_end s t k p = settled (λ i v. Told (ends s i) (closes s p v)) (λ t q h ts. grind arith) (λ t b k. grind arith) t k

told_part : (c : Separator) (t : Expr) (k : Stack) → Told (separates c (innermost k)) (parts c (reduce 0 t k))
told_part c t k = settled (λ i v. Told (separates c i) (parts c v)) (λ t q h ts. grind arith) (λ t b k. grind arith) t k

told_dollar : (t : Expr) (k : Stack) (p : ℕ) → Told (is_top (innermost k)) (completes p (reduce 0 t k))
told_dollar t k p = settled (λ i v. Told (is_top i) (completes p v)) (λ t q h ts. grind arith) (λ t b k. grind arith) t k

told_quote : (t : Expr) (k : Stack) (p : ℕ) → Told (is_join (innermost k)) (quotes p (reduce 0 t k))
told_quote t k p = settled (λ i v. Told (is_join i) (quotes p v)) (λ t q h ts. grind arith) (λ t b k. grind arith) t k

-- what may stand after an operand, after a name, and after the last constant of a sequence
pub told_after : (a : After) (t : Expr) (k : Stack) (p : ℕ) → Told (operand_end (innermost k) a) (afters a t k p)
told_after (past.Separator c) t k p = told_part c t k
told_after (past.End s) t k p = told_end s t k p
told_after past.Dollar t k p = told_dollar t k p
told_after past.Quote t k p = told_quote t k p
told_after a t k p = tt

pub told_name : (a : After) (i j : ℕ) (w : List ℕ) (k : Stack) (p : ℕ) → Told (name_end (innermost k) a) (nameds a i j w k p)
told_name (past.Separator c) i j w k p = told_part c _ k
told_name (past.End s) i j w k p = told_end s _ k p
told_name past.Dollar i j w k p = told_dollar _ k p
told_name past.Quote i j w k p = told_quote _ k p
told_name a i j w k p = tt

pub told_last : (a : After) (c : Constant) (u : Run) → Told (last_end a) (lasts a c u)
told_last a c u = grind arith

-- what an instruction's expression may begin with
pub told_begin : (s : Start) (b q : ℕ) (h : Head) (ts : Items) (p : ℕ) → Told (begins s) (wants s b (Stack.top q h ts) p)
told_begin s b q h ts p = grind arith

-- what may stand in a complete instruction
pub told_complete : (b : ℕ) (t : Item) (ts : Items) (p : ℕ) → Told (blank b || eqb b 36) (bares b t ts p)
told_complete b t ts p = grind arith

-- Rules fall due at the byte that is next: the first of them is the refusal if the machine goes on with it, else 3.
pub limited : (f : Follow) (r : Cursor) (x : Broken) (xs : List Broken) (o : Fault) (c : Config) (v : Move) → Limited f r (refusal_of x.rule) x.place o → (r.pos < length r.text.now → step c r.pos (get_or r.text.now r.pos 0) ≡ late (x ∷ xs) v) → (r.pos < length r.text.now → Told (follows f (get_or r.text.now r.pos 0)) v) → finish c r.pos ≡ None → onward true r.text.now c r.pos ≡ refused o.refusal o.place
limited f r x xs o c v l moved told none =
    ⊎_elim
    (λ lt. moves true r.text.now c r.pos _ lt (moved lt) ∙ due (follows f (get_or r.text.now r.pos 0)) v (told lt) (l.here lt))
    (λ ge. at_end true r.text.now c r.pos ge ∙ ap (λ y. finished true y r.pos) none ∙ as_refused o UnexpectedByte r.pos (l.past ge))
    (cases_lt r.pos (length r.text.now))
  where
    due : (b : Bool) (v : Move) → Told b v → o ≡ cond b (fault (refusal_of x.rule) x.place) (fault UnexpectedByte r.pos) → reacts true r.text.now r.pos (late (x ∷ xs) v) ≡ refused o.refusal o.place
    due true stop h e = absurd h
    due true (go d c) h e = as_refused o (refusal_of x.rule) x.place e
    due false stop h e = as_refused o UnexpectedByte r.pos e
    due false (go d c) h e = absurd h

-- what ends an operand, blanks and operators apart
abbrev pub ends_here : Inside → After → Bool
ends_here i (past.Separator s) = separates s i
ends_here i (past.End q) = ends q i
ends_here i past.Dollar = is_top i
ends_here i past.Quote = is_join i
ends_here i a = false

unended : (i : Inside) (a : After) (v : Move) → ends_here i a ≡ false → Told (operand_end i a) v → (blank_or : a ≡ past.Blank → ⊥) → ((o : Op) → a ≡ past.Single o → ⊥) → ((h : Half) → a ≡ past.Double h → ⊥) → v ≡ stop
unended i a v e t x y z = grind arith

no_operator : (o : Option Op) → ((x : Op) → o ≡ Some x → level x < 1) → o ≡ None
no_operator (Some x) h = absurd (omega (arith, h x refl, level_least x))
no_operator None h = refl

or_some : (x : Option Op) (o : Op) → or_else x (Some o) ≡ None → ⊥
or_some x o e = grind arith

or_none : (x : Option Op) → or_else x None ≡ None → x ≡ None
or_none x e = grind arith

second_not : (b : ℕ) → doubled halved.Equals b ≡ None → is_second (Some b) ≡ false
second_not b n = grind (arith, nat_tests)

-- What stands behind an operand and ends nothing is refused, or after `=` or `!` the byte behind that; `=` may not assign where it stands.
pub unexpected_by : (text : List ℕ) (t : Expr) (k : Stack) (p : ℕ) → (assigns_at text p ≡ true → (b q : ℕ) → assigns t k b q ≡ stop) → Stops 1 text p → ends_here (innermost k) (after_at text p) ≡ false → onward true text (aft t k) p ≡ refused UnexpectedByte (unexpected_at text p)
unexpected_by text t k p unassigned st e = ⊎_elim inside (λ ge. at_end true text (aft t k) p ge ∙ ap (λ a. refused UnexpectedByte (cond (halfway a) (p + 1) p)) (sym (ap after_of (slice_get_past text p ge)))) (cases_lt p (length text))
  where
    none : token_at text p ≡ None
    none = no_operator (token_at text p) st.loose

    half_stop : (h : Half) → or_else (doubled_of h (slice_get text (p + 1))) None ≡ None → ((b : ℕ) → slice_get text (p + 1) ≡ Some b → doubled h b ≡ None → step (half p h t k) (p + 1) b ≡ stop) → onward true text (half p h t k) (p + 1) ≡ refused UnexpectedByte (p + 1)
    half_stop h e stops =
        refuses true text (half p h t k) (p + 1) (λ lt. stops (get_or text (p + 1) 0) (slice_get-get_or text (p + 1) 0 lt) (sym (ap (doubled_of h) (slice_get-get_or text (p + 1) 0 lt)) ∙ or_none _ e)) refl

    inside : p < length text → onward true text (aft t k) p ≡ refused UnexpectedByte (unexpected_at text p)
    inside lt = by_after (after (get_or text p 0)) refl ∙ ap (λ a. refused UnexpectedByte (cond (halfway a) (p + 1) p)) (sym here)
      where
        here : after_at text p ≡ after (get_or text p 0)
        here = after_here text p lt

        token_is : (a : After) → after (get_or text p 0) ≡ a → token_of a (slice_get text (p + 1)) ≡ None
        token_is a is = ap (λ a. token_of a (slice_get text (p + 1))) (sym is ∙ sym here) ∙ none

        assigning : after (get_or text p 0) ≡ past.Double halved.Equals → (b : ℕ) → slice_get text (p + 1) ≡ Some b → doubled halved.Equals b ≡ None → assigns_at text p ≡ true
        assigning is b some n = ap (λ a. is_equals a && not (is_second (slice_get text (p + 1)))) (here ∙ is) ∙ ap (λ o. not (is_second o)) some ∙ ap not (second_not b n)

        halfway_on : (h : Half) → after (get_or text p 0) ≡ past.Double h → onward true text (aft t k) p ≡ onward true text (half p h t k) (p + 1)
        halfway_on h is = moves true text (aft t k) p (go [] (half p h t k)) lt (ap (λ a. afters a t k p) is)

        stopped : (a : After) → after (get_or text p 0) ≡ a → (a ≡ past.Blank → ⊥) → ((o : Op) → a ≡ past.Single o → ⊥) → ((h : Half) → a ≡ past.Double h → ⊥) → onward true text (aft t k) p ≡ refused UnexpectedByte p
        stopped a is x y z = moves true text (aft t k) p stop lt (ap (λ a. afters a t k p) is ∙ unended (innermost k) a (afters a t k p) (ap (ends_here (innermost k)) (sym (here ∙ is)) ∙ e) (told_after a t k p) x y z)

        by_half : (h : Half) → after (get_or text p 0) ≡ past.Double h → onward true text (aft t k) p ≡ refused UnexpectedByte (cond (halfway (past.Double h)) (p + 1) p)
        by_half halved.Equals is = halfway_on halved.Equals is ∙ half_stop halved.Equals (token_is (past.Double halved.Equals) is) (λ b some n. ap (λ o. Machine.halves o halved.Equals p t k b (p + 1)) n ∙ unassigned (assigning is b some n) b (p + 1))
        by_half halved.Bang is = halfway_on halved.Bang is ∙ half_stop halved.Bang (token_is (past.Double halved.Bang) is) (λ b some n. ap (λ o. Machine.halves o halved.Bang p t k b (p + 1)) n)
        by_half h is = absurd (or_some _ _ (token_is (past.Double h) is))

        by_after : (a : After) → after (get_or text p 0) ≡ a → onward true text (aft t k) p ≡ refused UnexpectedByte (cond (halfway a) (p + 1) p)
        by_after past.Blank is = absurd (cc (st.solid lt, blank_after (get_or text p 0) is))
        by_after (past.Single o) is = absurd (cc (token_is (past.Single o) is))
        by_after (past.Double h) is = by_half h is
        by_after a is = stopped a is (λ x. cc) (λ o x. cc) (λ h x. cc)

-- the same where no `=` assigns
pub unexpected : (text : List ℕ) (t : Expr) (k : Stack) (p : ℕ) → ((b q : ℕ) → assigns t k b q ≡ stop) → Stops 1 text p → ends_here (innermost k) (after_at text p) ≡ false → onward true text (aft t k) p ≡ refused UnexpectedByte (unexpected_at text p)
unexpected text t k p unassigned st e = unexpected_by text t k p (λ a. unassigned) st e
