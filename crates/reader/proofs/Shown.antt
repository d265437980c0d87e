-- Instructions without a block: expressions that are shown, and assignments. Assumes nothing.
use Rattle.std.proofs.Common.{◌≡◌, ℕ, ◌+◌, ◌-◌, ◌<◌, ◌≤◌, max, Bool, true, false, not, ◌&&◌, ◌⊎◌, List, [], ◌∷◌, ◌++◌, length, get_or, slice_get, Bor, Some, None, Ok, Err, Result, sym, refl, ap, ◌∙◌, subst, inl, inr, ⊎_elim, length-append, arith}
use Rattle.std.proofs.lemmas.Option.{slice_get-get_or}
use Rattle.std.proofs.lemmas.Bool.{cond-false, cases_lt, lt-leb}
use Rattle.std.proofs.lemmas.Bool.Decides.{nat_tests}
use Rattle.keywords.specs.declared.Keyword.{Keyword}
use Rattle.refusals.specs.declared.Refusal.TheVariants.{UnexpectedByte, TooLong}
use Rattle.tokens.specs.declared.operator.Half.TheVariants as halved
use Rattle.tokens.specs.declared.byte.Start.{Start}
use Rattle.tokens.specs.declared.byte.Start.TheVariants as at
use Rattle.tokens.specs.declared.byte.After.{After}
use Rattle.tokens.specs.declared.byte.After.TheVariants as past
use Rattle.tokens.specs.Bytes.{start, after, blank}
use Rattle.tokens.specs.Operators.{doubled}
use Rattle.trees.specs.declared.Node.{Node}
use Rattle.trees.specs.declared.Span.{Span}
use Rattle.trees.specs.declared.Node.TheVariants as node
use Rattle.trees.specs.Tree.{Key, Expr, Item, Items, from_to}
use Rattle.trees.specs.Flat.{flatten, flatten_key, flatten_target, assign_node}
use Rattle.trees.specs.Laid.{weight}
use Rattle.trees.specs.Counts.{need, need_key, need_assign}
use Rattle.grammar.specs.Rules.{breaks, six}
use Rattle.grammar.specs.Grammar.{Blanks, part}
use Rattle.grammar.specs.Machine
use Rattle.grammar.specs.Machine.{Head, Stack, Config, Move, stop, go, late, step, finish, onward, refused, reduce, completes, commanded, afters, nameds, wants, assigns, worded, depth, want, aft, half, named, in_name, plain}
use Rattle.grammar.proofs.Moves.{moves, alike, stays, aft_stays, named_stays}
use Rattle.reader.specs.declared.cursor.Cursor.{Cursor}
use Rattle.reader.specs.declared.cursor.Inside.{Inside}
use Rattle.reader.specs.declared.cursor.Inside.TheVariants as inside
use Rattle.reader.specs.declared.cursor.Follow.TheVariants as follow
use Rattle.reader.specs.declared.expression.Context.{Context}
use Rattle.reader.specs.declared.expression.Operand.{Operand}
use Rattle.reader.specs.declared.statement.Statement.{Statement}
use Rattle.refusals.specs.declared.fault.Fault.{Fault}
use Rattle.reader.specs.Tables.{Table}
use Rattle.reader.specs.Tables.{pushed, patched, Grew}
use Rattle.reader.specs.States.{fault, Inner, MovedTo, Tabled}
use Rattle.reader.specs.Scans.{start_of, start_at, after_at, unexpected_at, Spaced, Ready, Limited}
use Rattle.reader.specs.Reads.{head_inside, innermost, Fitting, Wanting, Clear, Went, Took, Did, Chain, Tailed, Stops, Solid, Unlettered, Keyless, Subscript, Called, name_at, Roomy, operand_of}
use Rattle.reader.specs.Statements.{is_equals, is_second, assigns_at, Finished, Simple, simple_nodes, Passed, Simples, Simply, shown_at, named_at, keyed_at, Nameable, AtNode, AtEquals, Begun, Shown, Shows, Continues, Assigned, Assigns}
use Rattle.reader.proofs.Leaves.{as_refused}
use Rattle.reader.proofs.Places.{after_is, after_passes}
use Rattle.reader.proofs.Passing.{there, blanks_in, solid_in, went_over, went_from, ready_went}
use Rattle.reader.proofs.Words.{name_ends, name_alone}
use Rattle.reader.proofs.Limits.{limited, told_name, unexpected_by, ends_here}
use Rattle.reader.proofs.Tabling.{grew_append, grew_one, grew_patch, grew_more}

-- where an instruction's expression begins: no bracket is open
abbrev pub outermost : Context
outermost = record { inside = inside.Top; left = 12 }

-- the `$` that closes an instruction behind its expression
pub dollar_on : (text : List ℕ) (p p' : ℕ) (ts : Items) (t : Item) (e : Expr) (k : Stack) → after_at text p ≡ past.Dollar → completes p (reduce 0 e k) ≡ go [] (plain (p + 1) (Items.then ts t)) → p' ≡ p + 1 → onward true text (aft e k) p ≡ onward true text (plain p' (Items.then ts t)) p'
dollar_on text p p' ts t e k dollar m next =
    let here = after_is text p past.Dollar (λ o. cc) dollar in
    moves true text (aft e k) p (go [] (plain (p + 1) (Items.then ts t))) here.0 (ap (λ a. afters a e k p) here.1 ∙ m)
    ∙ ap (λ p. onward true text (plain p (Items.then ts t)) p) (sym next)

ends_top : (a : After) → (a ≡ past.Dollar → ⊥) → ends_here inside.Top a ≡ false
ends_top a n = grind arith

-- what stands in its place is refused
pub no_dollar : (text : List ℕ) (p : ℕ) (f : Fault) (e : Expr) (k : Stack) → innermost k ≡ inside.Top → (after_at text p ≡ past.Dollar → ⊥) → f ≡ fault UnexpectedByte (unexpected_at text p) → Stops 1 text p → (assigns_at text p ≡ true → (b q : ℕ) → assigns e k b q ≡ stop) → onward true text (aft e k) p ≡ refused f.refusal f.place
no_dollar text p f e k top none told st u = unexpected_by text e k p u st (ap (λ i. ends_here i (after_at text p)) top ∙ ends_top (after_at text p) none) ∙ as_refused f UnexpectedByte (unexpected_at text p) told

-- the `=` of an assignment
equals_is : (a : After) → is_equals a ≡ true → a ≡ past.Double halved.Equals
equals_is a e = grind arith

both_true : (a b : Bool) → (a && b) ≡ true → (a ≡ true) × (b ≡ true)
both_true a b e = (grind arith, grind arith)

not_second : (b : ℕ) → not (is_second (Some b)) ≡ true → doubled halved.Equals b ≡ None
not_second b e = grind (arith, nat_tests)

equals_moves : (text : List ℕ) (p q : ℕ) (k : Key) (ts : Items) → assigns_at text p ≡ true → onward true text (aft (Expr.key k) (Stack.top q Head.show ts)) p ≡ onward true text (want (Stack.top q (Head.assign k) ts)) (p + 1)
equals_moves text p q k ts e =
    let both = both_true (is_equals (after_at text p)) (not (is_second (slice_get text (p + 1)))) e in
    let here = after_is text p (past.Double halved.Equals) (λ o. cc) (equals_is (after_at text p) both.0) in
    moves true text (aft (Expr.key k) (Stack.top q Head.show ts)) p (go [] (half p halved.Equals (Expr.key k) (Stack.top q Head.show ts))) here.0 (ap (λ a. afters a (Expr.key k) (Stack.top q Head.show ts) p) here.1)
    ∙ alike true text (half p halved.Equals (Expr.key k) (Stack.top q Head.show ts)) (want (Stack.top q (Head.assign k) ts)) (p + 1)
    (λ h. ap (λ o. Machine.halves o halved.Equals p (Expr.key k) (Stack.top q Head.show ts) (get_or text (p + 1) 0) (p + 1)) (not_second (get_or text (p + 1) 0) (sym (ap (λ o. not (is_second o)) (slice_get-get_or text (p + 1) 0 h)) ∙ both.1)))
    refl

-- right behind a name that is too long
name_long : (r : Cursor) (x q : ℕ) (ts : Items) (f : Fault) → Nameable r.text.now x r.pos → 24 < r.pos - x → Limited (follow.Name inside.Top) r TooLong x f → onward true r.text.now (in_name x (part r.text.now x r.pos) (Stack.top q Head.show ts)) r.pos ≡ refused f.refusal f.place
name_long r x q ts f n far l =
    limited (follow.Name inside.Top) r (record { rule = six; place = x; due = r.pos }) [] f
    (in_name x (part r.text.now x r.pos) (Stack.top q Head.show ts))
    (nameds (after (get_or r.text.now r.pos 0)) x r.pos (part r.text.now x r.pos) (Stack.top q Head.show ts) r.pos)
    l
    (λ lt.
    cond-false _ _ _ (n.longest lt)
    ∙ ap (λ o. worded o x (part r.text.now x r.pos) (Stack.top q Head.show ts) r.pos (get_or r.text.now r.pos 0)) n.free
    ∙ ap (λ b. late (breaks b six x r.pos) (nameds (after (get_or r.text.now r.pos 0)) x r.pos (part r.text.now x r.pos) (Stack.top q Head.show ts) r.pos)) (lt-leb _ _ far))
    (λ lt. told_name (after (get_or r.text.now r.pos 0)) x r.pos (part r.text.now x r.pos) (Stack.top q Head.show ts) r.pos)
    refl

differ : {x : Bool} → x ≡ false → x ≡ true → ⊥
differ f t = cc

-- no blank stands here: nothing but this place is behind the blanks here
blanks_none : (text : List ℕ) (p q : ℕ) → Solid text p → Blanks text p q → q ≡ p
blanks_none text p q solid b =
    ⊎_elim
    (λ lt. absurd (differ (solid (omega (arith, b.inside))) (b.all p (omega arith) lt)))
    (λ ge. omega (arith, b.onwards))
    (cases_lt p q)

pub unlettered_here : (text : List ℕ) (p : ℕ) → Solid text p → (start_at text p ≡ at.Letter → ⊥) → Unlettered text p
unlettered_here text p solid none q b e = none (sym (ap (start_at text) (blanks_none text p q solid b)) ∙ e)

-- a parenthesis is neither a blank nor a letter
round_solid : (b : ℕ) → after b ≡ past.Round → blank b ≡ false
round_solid b e = grind (arith, nat_tests)

round_start : (b : ℕ) → after b ≡ past.Round → start b ≡ at.Letter → ⊥
round_start b e l = grind (arith, nat_tests)

unlettered_round : (text : List ℕ) (p : ℕ) → after_at text p ≡ past.Round → Unlettered text p
unlettered_round text p round =
    let here = after_is text p past.Round (λ o. cc) round in
    unlettered_here text p (λ h. round_solid (get_or text p 0) here.1) (λ e. round_start (get_or text p 0) here.1 (sym (ap start_of (slice_get-get_or text p 0 here.0)) ∙ e))

-- an instruction whose expression begins with no instruction's word, and is not assigned
abbrev pub Heading : Head → Type 0
Heading Head.show = ⊥
Heading h = Unit {0}

unworded : (h : Head) (q : ℕ) (ts : Items) → Heading h → (w : Keyword) (j b : ℕ) → commanded w (Stack.top q h ts) j b ≡ stop
unworded h q ts n w j b = grind arith

pub unassigned : (h : Head) (q : ℕ) (ts : Items) → Heading h → (t : Expr) (b p : ℕ) → assigns t (Stack.top q h ts) b p ≡ stop
unassigned h q ts n t b p = grind arith

-- an expression may stand where an instruction's begins
fitting_top : (n q : ℕ) (ts : Items) → Fitting n outermost (Stack.top q Head.show ts)
fitting_top n q ts = record { here = refl; room = refl; below = tt }

clear : (q : ℕ) (h : Head) (ts : Items) (s : Start) → (s ≡ at.Letter → (w : Keyword) (j b : ℕ) → commanded w (Stack.top q h ts) j b ≡ stop) → Clear s (Stack.top q h ts)
clear q h ts at.Letter f = f refl
clear q h ts at.Dot f = refl
clear q h ts s f = tt

pub wanting : (text : List ℕ) (p : ℕ) (i : Inside) (q : ℕ) (h : Head) (ts : Items) → Heading h → head_inside h ≡ i → Wanting text p 1 (record { inside = i; left = 12 }) (Stack.top q h ts)
wanting text p i q h ts n here = record { fit = record { here = here; room = refl; below = tt }; clear = λ z b. clear q h ts (start_at text z) (λ e. unworded h q ts n) }

wanting_top : (text : List ℕ) (p q : ℕ) (ts : Items) → Unlettered text p → Wanting text p 1 outermost (Stack.top q Head.show ts)
wanting_top text p q ts u = record { fit = fitting_top 1 q ts; clear = λ z b. clear q Head.show ts (start_at text z) (λ e w j c. absurd (u z b e)) }

-- behind the expression of such an instruction no `$` stands
pub unfinished : (text : List ℕ) (h : Head) (q : ℕ) (ts : Items) (m r' : Cursor) (f : Fault) (e : Expr) → Heading h → head_inside h ≡ inside.Top → Stops 1 text m.pos → Finished text m (Err f) r' → onward true text (aft e (Stack.top q h ts)) m.pos ≡ refused f.refusal f.place
unfinished text h q ts m r' f e n top st fin = no_dollar text m.pos f e (Stack.top q h ts) top fin.0 fin.1 st (λ a. unassigned h q ts n e)

-- what is read in the context z, in the words of another reference to the same text
pub did_in : {z x : Context} {t : Bor (List ℕ)} (o : Result Operand Fault) (r r' : Cursor) → z ≡ x → r.text ≡ t → Did r.text.now (Wanting r.text.now r.pos 1 z) want r o r' → Did t.now (Wanting t.now r.pos 1 x) want r o r'
did_in {x = x} o r r' w e h = there (λ u. Did u (Wanting u r.pos 1 x) want r o r') e (subst (λ z. Did r.text.now (Wanting r.text.now r.pos 1 z) want r o r') w h)

-- the node of an instruction holds its place at a in the table t
begun_more : {a : ℕ} {t₀ t t' : Table} (ns ms : List Node) → Begun a t₀ ns t → Grew t ms t' → Begun a t₀ (ns ++ ms) t'
begun_more ns ms b g = record { here = b.here; grew = grew_append (node.End ∷ ns) ms b.grew g }

begun_put : {a : ℕ} {t₀ t : Table} (x : Node) (ns : List Node) → weight x ≡ 1 → Begun a t₀ ns t → Grew t₀ (x ∷ ns) (patched t a x)
begun_put {t₀ = t₀} {t = t} x ns w b = subst (λ i. Grew t₀ (x ∷ ns) (patched t i x)) (sym b.here) (grew_patch node.End x ns (sym w) b.grew)

begun_many : {a : ℕ} {t₀ t : Table} (ns : List Node) → Begun a t₀ ns t → t.len ≡ a + 1 + length ns
begun_many ns b = omega (arith, b.here, b.grew.longer)

-- the `$` is passed, and then the instruction's node is put in
passed : (text : List ℕ) (i : ℕ) (n : Node) {r r' r'' : Cursor} → Ready r → Finished text r (Ok tt) r' → Tabled r' (patched r'.table i n) r'' → Passed r r''
passed text i n {r} {r'' = r''} ready fin tb =
    let on = fin.2 in
    let len : r''.table.len ≡ r.table.len = ap (λ (t : Table). t.len) tb.table ∙ ap (λ (t : Table). t.len) on.table in
    record {
      text = tb.text ∙ on.text;
      outward = tb.state ∙ fin.1;
      onwards = omega (arith, tb.pos, on.pos);
      few = omega (arith, ready.few, len, tb.pos, on.pos);
      fewer = omega (arith, ready.fewer, len, ap (λ (t : Table). t.nodes) tb.table, ap (λ (t : Table). t.nodes) on.table);
      more = omega (arith, len);
    }

pub passed_from : {r r₁ r' : Cursor} → r₁.text ≡ r.text → r.pos ≤ r₁.pos → r.table.len ≤ r₁.table.len → Passed r₁ r' → Passed r r'
passed_from text on more p = record { text = p.text ∙ text; outward = p.outward; onwards = omega (arith, p.onwards); few = p.few; fewer = p.fewer; more = omega (arith, p.more) }

passed_went : {r r₁ r' : Cursor} (ns : List Node) → Went r ns r₁ → Passed r₁ r' → Passed r r'
passed_went ns w = passed_from w.text w.onwards (grew_more ns w.grew)

-- the end of an expression that is shown
pub shows : (i : Statement) (n size : ℕ) (r r' r'' : Cursor) → AtNode i r → Finished r.text.now r (Ok tt) r' → size ≡ r'.table.len - i.at - 1 → Tabled r' (patched r'.table i.at (node.Show i.place size)) r'' → Shown r.text.now i n r n r''
shows i n size r r' r'' here fin e tb =
    let on = fin.2 in
    record {
      told = refl;
      passed = passed r.text.now i.at (node.Show i.place size) here.ready fin tb;
      grew = λ t₀ e' b.
          let sized : size ≡ length (flatten e') = omega (arith, begun_many (flatten e') b, ap (λ (t : Table). t.len) on.table, e) in
          subst (Grew t₀ (node.Show i.place (length (flatten e')) ∷ flatten e')) (sym (tb.table ∙ λ j. patched (on.table j) i.at (node.Show i.place (sized j)))) (begun_put (node.Show i.place (length (flatten e'))) (flatten e') refl b);
      runs = λ ts e'. dollar_on r.text.now r.pos r''.pos ts (Item.show i.place e') e' (Stack.top i.place Head.show ts) fin.0 refl (tb.pos ∙ on.pos);
    }

pub shows_not : (i : Statement) (n : ℕ) (r r' : Cursor) (f : Fault) → Finished r.text.now r (Err f) r' → Shows r.text.now i n r (Err f) r'
shows_not i n r r' f fin ts e st keyless = no_dollar r.text.now r.pos f e (Stack.top i.place Head.show ts) refl fin.0 fin.1 st (λ a. keyless a (Stack.top i.place Head.show ts))

-- blanks behind an operand
aft_on : {r r₁ : Cursor} (e : Expr) (k : Stack) → Spaced r r₁ → onward true r.text.now (aft e k) r.pos ≡ onward true r.text.now (aft e k) r₁.pos
aft_on {r} {r₁} e k s = stays true r.text.now (aft e k) (aft_stays e k) r.pos r₁.pos s.all

-- an expression behind its first operand: r₁ is behind blanks, r₂ behind the operators
pub continues : (i : Statement) (x : Context) (first o : Operand) (r r₁ r₂ r' : Cursor) (res : Result ℕ Fault) → x ≡ outermost → Spaced r r₁ → Chain r₁.text.now 1 x first r₁ o r₂ → Stops 1 r₁.text.now r₂.pos → Shows r₂.text.now i o.need r₂ res r' → Continues r.text.now i first r res r'
continues i x first o r r₁ r₂ r' res w s c st sh = by res (there (λ t. Chain t 1 outermost first r₁ o r₂) s.same.text (subst (λ x. Chain r₁.text.now 1 x first r₁ o r₂) w c)) (there (λ t. Stops 1 t r₂.pos) s.same.text st) (there (λ t. Shows t i o.need r₂ res r') (c.went.text ∙ s.same.text) sh)
  where
    runs : (c : Chain r.text.now 1 outermost first r₁ o r₂) (ts : Items) (e : Expr) → onward true r.text.now (aft e (Stack.top i.place Head.show ts)) r.pos ≡ onward true r.text.now (aft (c.grow e) (Stack.top i.place Head.show ts)) r₂.pos
    runs c ts e = aft_on e (Stack.top i.place Head.show ts) s ∙ c.runs e (Stack.top i.place Head.show ts) (fitting_top 1 i.place ts)

    keyless : (c : Chain r.text.now 1 outermost first r₁ o r₂) (e : Expr) → assigns_at r.text.now r₂.pos ≡ true → (Solid r.text.now r.pos × (assigns_at r.text.now r.pos ≡ false)) ⊎ Keyless e → ((r₂.pos ≡ r₁.pos) × ((t : Expr) → c.grow t ≡ t)) ⊎ ((t : Expr) → Keyless (c.grow t)) → Keyless (c.grow e)
    keyless c e a k (inr h) = h e
    keyless c e a (inr k) (inl h) = subst Keyless (sym (h.1 e)) k
    keyless c e a (inl n) (inl h) = absurd (differ n.1 (sym (ap (assigns_at r.text.now) (h.0 ∙ blanks_none r.text.now r.pos r₁.pos n.0 s.all)) ∙ a))

    by : (res : Result ℕ Fault) → Chain r.text.now 1 outermost first r₁ o r₂ → Stops 1 r.text.now r₂.pos → Shows r.text.now i o.need r₂ res r' → Continues r.text.now i first r res r'
    by (Ok m) c st sh = record {
      grow = c.grow;
      told = λ e h. sh.told ∙ ap (λ (o : Operand). o.need) (c.told e h);
      small = λ le. ⊎_elim (λ h. omega (arith, h, sh.told, s.all.onwards, c.went.onwards, sh.passed.onwards)) (λ h. omega (arith, h, sh.told, sh.passed.onwards)) c.small;
      passed = passed_went c.nodes (went_from c.nodes s.all.onwards s.same c.went) sh.passed;
      grew = λ t₀ e b. sh.grew t₀ (c.grow e) (subst (λ ns. Begun i.at t₀ ns r₂.table) (sym (c.flat e)) (begun_more (flatten e) c.nodes (subst (Begun i.at t₀ (flatten e)) (sym s.same.table) b) c.went.grew));
      runs = λ ts e. runs c ts e ∙ sh.runs ts (c.grow e);
    }
    by (Err f) c st sh = λ ts e known. runs c ts e ∙ sh ts (c.grow e) st (λ a. keyless c e a known c.still)

pub continues_not : (i : Statement) (x : Context) (first : Operand) (r r₁ r₂ : Cursor) (f : Fault) → x ≡ outermost → Spaced r r₁ → Tailed r₁.text.now 1 x first r₁ (Err f) r₂ → Continues r.text.now i first r (Err f) r₂
continues_not i x first r r₁ r₂ f w s t ts e known = aft_on e (Stack.top i.place Head.show ts) s ∙ there (λ t. Tailed t 1 outermost first r₁ (Err f) r₂) s.same.text (subst (λ x. Tailed r₁.text.now 1 x first r₁ (Err f) r₂) w t) e (Stack.top i.place Head.show ts) (fitting_top 1 i.place ts)

-- an assignment: r₁ is behind its `=`, r₂ behind its right side
right_begins : (i : Statement) (r r₁ : Cursor) (k : Key) (ts : Items) → assigns_at r.text.now r.pos ≡ true → MovedTo r (r.pos + 1) r₁ → onward true r.text.now (aft (Expr.key k) (Stack.top i.place Head.show ts)) r.pos ≡ onward true r.text.now (want (Stack.top i.place (Head.assign k) ts)) r₁.pos
right_begins i r r₁ k ts a m = equals_moves r.text.now r.pos i.place k ts a ∙ ap (onward true r.text.now (want (Stack.top i.place (Head.assign k) ts))) (sym m.pos)

-- the right side is read
right_runs : (i : Statement) (o : Operand) (r r₁ r₂ : Cursor) (k : Key) (ts : Items) → assigns_at r.text.now r.pos ≡ true → MovedTo r (r.pos + 1) r₁ → (t : Took r.text.now (Wanting r.text.now r₁.pos 1 outermost) want r₁ o r₂) → onward true r.text.now (aft (Expr.key k) (Stack.top i.place Head.show ts)) r.pos ≡ onward true r.text.now (aft t.tree (Stack.top i.place (Head.assign k) ts)) r₂.pos
right_runs i o r r₁ r₂ k ts a m t = right_begins i r r₁ k ts a m ∙ t.runs (Stack.top i.place (Head.assign k) ts) (wanting r.text.now r₁.pos inside.Top i.place (Head.assign k) ts tt refl)

pub assigns_all : (i : Statement) (s size x y : ℕ) (o : Operand) (z : Context) (r r₁ r₂ r₃ r₄ : Cursor) → z ≡ outermost → AtEquals i x y s r → MovedTo r (r.pos + 1) r₁ → Took r₁.text.now (Wanting r₁.text.now r₁.pos 1 z) want r₁ o r₂ → Finished r₂.text.now r₂ (Ok tt) r₃ → size ≡ r₃.table.len - i.at - 1 - s → Tabled r₃ (patched r₃.table i.at (node.Assign i.place (from_to x y) s size)) r₄ → Assigned r.text.now i s x y r o.need r₄
assigns_all i s size x y o z r r₁ r₂ r₃ r₄ w here m took finished e tb =
    let t : Took r.text.now (Wanting r.text.now r₁.pos 1 outermost) want r₁ o r₂ = did_in (Ok o) r₁ r₂ w m.text took in
    let fin : Finished r.text.now r₂ (Ok tt) r₃ = there (λ u. Finished u r₂ (Ok tt) r₃) (t.went.text ∙ m.text) finished in
    let went : Went r (flatten t.tree) r₂ = went_from (flatten t.tree) (omega arith) m t.went in
    let p : Passed r₂ r₄ = passed r.text.now i.at (node.Assign i.place (from_to x y) s size) (ready_went (flatten t.tree) here.ready went) fin tb in
    record {
      right = t.tree;
      told = ap (λ (o : Operand). o.need) t.told;
      small = omega (arith, t.small, p.onwards);
      passed = passed_went (flatten t.tree) went p;
      grew = λ t₀ ns sized b.
          let b₂ : Begun i.at t₀ (ns ++ flatten t.tree) r₂.table = begun_more ns (flatten t.tree) b went.grew in
          let size : size ≡ length (flatten t.tree) = omega (arith, begun_many (ns ++ flatten t.tree) b₂, ap (λ (t : Table). t.len) fin.2.table, length-append ns (flatten t.tree)) in
          subst (Grew t₀ (node.Assign i.place (from_to x y) (length ns) (length (flatten t.tree)) ∷ ns ++ flatten t.tree)) (sym (tb.table ∙ λ j. patched (fin.2.table j) i.at (node.Assign i.place (from_to x y) (sized j) (size j)))) (begun_put (node.Assign i.place (from_to x y) (length ns) (length (flatten t.tree))) (ns ++ flatten t.tree) refl b₂);
      runs = λ ts k.
          right_runs i o r r₁ r₂ k ts here.assigns m t
          ∙ dollar_on r.text.now r₂.pos r₄.pos ts (Item.assign i.place k t.tree) t.tree (Stack.top i.place (Head.assign k) ts) fin.0 refl (tb.pos ∙ fin.2.pos);
    }

pub assigns_not : (i : Statement) (s x y : ℕ) (z : Context) (r r₁ r₂ : Cursor) (f : Fault) → z ≡ outermost → AtEquals i x y s r → MovedTo r (r.pos + 1) r₁ → Did r₁.text.now (Wanting r₁.text.now r₁.pos 1 z) want r₁ (Err f) r₂ → Assigns r.text.now i x y s r (Err f) r₂
assigns_not i s x y z r r₁ r₂ f w here m t ts k = right_begins i r r₁ k ts here.assigns m ∙ did_in (Err f) r₁ r₂ w m.text t (Stack.top i.place (Head.assign k) ts) (wanting r.text.now r₁.pos inside.Top i.place (Head.assign k) ts tt refl)

pub assigns_unclosed : (i : Statement) (s x y : ℕ) (o : Operand) (z : Context) (r r₁ r₂ r₃ : Cursor) (f : Fault) → z ≡ outermost → AtEquals i x y s r → MovedTo r (r.pos + 1) r₁ → Took r₁.text.now (Wanting r₁.text.now r₁.pos 1 z) want r₁ o r₂ → Stops 1 r₁.text.now r₂.pos → Finished r₂.text.now r₂ (Err f) r₃ → Assigns r.text.now i x y s r (Err f) r₃
assigns_unclosed i s x y o z r r₁ r₂ r₃ f w here m took st fin ts k =
    let t : Took r.text.now (Wanting r.text.now r₁.pos 1 outermost) want r₁ o r₂ = did_in (Ok o) r₁ r₂ w m.text took in
    right_runs i o r r₁ r₂ k ts here.assigns m t
    ∙ unfinished r.text.now (Head.assign k) i.place ts r₂ r₃ f t.tree tt refl (there (λ u. Stops 1 u r₂.pos) m.text st) (there (λ u. Finished u r₂ (Err f) r₃) (t.went.text ∙ m.text) fin)

-- the `=` of an assignment stands inside an instruction
pub equals_passes : (text : List ℕ) (p : ℕ) → assigns_at text p ≡ true → (p < length text) × Inner (get_or text p 0)
equals_passes text p a =
    let here : after_at text p ≡ past.Double halved.Equals = equals_is (after_at text p) (both_true (is_equals (after_at text p)) (not (is_second (slice_get text (p + 1)))) a).0 in
    after_passes text p (λ o. cc) (λ o. cc) (λ o. cc)

-- an instruction begins at r: its `$` is at q
abbrev pub started : ℕ → Cursor → Statement
started q r = record { place = q; at = r.table.len }

-- the cursor behind the node that holds the instruction's place
begun_in : {r r₁ : Cursor} → Tabled r (pushed r.table node.End) r₁ → Begun r.table.len r.table [] r₁.table
begun_in {r} tb = subst (Begun r.table.len r.table []) (sym tb.table) (record { here = refl; grew = grew_one r.table node.End })

here_on : {r r₁ : Cursor} {t : Table} (c : Config) → Tabled r t r₁ → onward true r.text.now c r.pos ≡ onward true r.text.now c r₁.pos
here_on {r} c tb = ap (onward true r.text.now c) (sym tb.pos)

-- behind the first operand e, at r₂
continued_simply : (q : ℕ) (c : Items → Config) (e : Expr) (i : Statement) (first : Operand) (r r₂ r' : Cursor) (o : Result ℕ Fault) → i ≡ started q r → r₂.text ≡ r.text → r.pos ≤ r₂.pos → first ≡ operand_of e → first.need ≤ r₂.pos → Begun r.table.len r.table (flatten e) r₂.table → (Solid r.text.now r₂.pos × (assigns_at r.text.now r₂.pos ≡ false)) ⊎ Keyless e → ((ts : Items) → onward true r.text.now (c ts) r.pos ≡ onward true r.text.now (aft e (Stack.top q Head.show ts)) r₂.pos) → Continues r₂.text.now i first r₂ o r' → Simply r.text.now q c r o r'
continued_simply q c e i first r r₂ r' o begun text on is small b known runs co = by o (there (λ t. Continues t (started q r) first r₂ o r') text (subst (λ i. Continues r₂.text.now i first r₂ o r') begun co))
  where
    by : (o : Result ℕ Fault) → Continues r.text.now (started q r) first r₂ o r' → Simply r.text.now q c r o r'
    by (Ok m) co = record {
      item = Item.show q (co.grow e);
      simple = Simple.show (co.grow e);
      told = co.told e is;
      small = co.small small;
      passed = passed_from text on (omega (arith, b.grew.longer)) co.passed;
      grew = co.grew r.table e b;
      runs = λ ts. runs ts ∙ co.runs ts e;
    }
    by (Err f) co = λ ts. runs ts ∙ co ts e known

-- an operand is read, and nothing begins it that a `=` could assign to
took_simply : (q : ℕ) (i : Statement) (fits : Stack → Type 0) (d : Stack → Config) (o : Operand) (r r₁ r₂ r' : Cursor) (res : Result ℕ Fault) → i ≡ started q r → Tabled r (pushed r.table node.End) r₁ → Took r.text.now fits d r₁ o r₂ → Unlettered r.text.now r.pos → ((ts : Items) → fits (Stack.top q Head.show ts)) → Continues r₂.text.now i o r₂ res r' → Simply r.text.now q (λ ts. d (Stack.top q Head.show ts)) r res r'
took_simply q i fits d o r r₁ r₂ r' res begun tb t u fit co =
    continued_simply q (λ ts. d (Stack.top q Head.show ts)) t.tree i o r r₂ r' res begun (t.went.text ∙ tb.text) (omega (arith, tb.pos, t.far)) t.told (omega (arith, t.small))
    (begun_more [] (flatten t.tree) (begun_in tb) t.went.grew)
    (inr (t.keyless (subst (Unlettered r.text.now) (sym tb.pos) u)))
    (λ ts. here_on (d (Stack.top q Head.show ts)) tb ∙ t.runs (Stack.top q Head.show ts) (fit ts))
    co

-- an expression that begins with no word, or with a call
shows_continue : (text : List ℕ) (i : Statement) (o : Operand) (r r' : Cursor) (res : Result ℕ Fault) → Stops 1 text r.pos → Shows text i o.need r res r' → Continues text i o r res r'
shows_continue text i o r r' (Ok m) st sh = record { grow = λ e. e; told = λ e is. sh.told ∙ ap (λ (o : Operand). o.need) is; small = λ le. omega (arith, sh.told, sh.passed.onwards); passed = sh.passed; grew = sh.grew; runs = sh.runs }
shows_continue text i o r r' (Err f) st sh = λ ts e known. sh ts e st (λ a. ⊎_elim (λ n. absurd (differ n.1 a)) (λ h. h) known)

pub shown_simply : (q : ℕ) (z : Context) (o : Operand) (i : Statement) (r r₁ r₂ r' : Cursor) (res : Result ℕ Fault) → i ≡ started q r → z ≡ outermost → Solid r.text.now r.pos → (start_at r.text.now r.pos ≡ at.Letter → ⊥) → Tabled r (pushed r.table node.End) r₁ → Took r₁.text.now (Wanting r₁.text.now r₁.pos 1 z) want r₁ o r₂ → Stops 1 r₁.text.now r₂.pos → Shows r₂.text.now i o.need r₂ res r' → Simply r.text.now q (shown_at q) r res r'
shown_simply q z o i r r₁ r₂ r' res begun w solid letter tb t st sh =
    let u : Unlettered r.text.now r.pos = unlettered_here r.text.now r.pos solid letter in
    took_simply q i (Wanting r.text.now r₁.pos 1 outermost) want o r r₁ r₂ r' res begun tb (did_in (Ok o) r₁ r₂ w tb.text t) u (λ ts. wanting_top r.text.now r₁.pos q ts (subst (Unlettered r.text.now) (sym tb.pos) u)) (shows_continue r₂.text.now i o r₂ r' res (there (λ u. Stops 1 u r₂.pos) (sym t.went.text) st) sh)

pub shown_not : (q : ℕ) (z : Context) (r r₁ r₂ : Cursor) (f : Fault) → z ≡ outermost → Solid r.text.now r.pos → (start_at r.text.now r.pos ≡ at.Letter → ⊥) → Tabled r (pushed r.table node.End) r₁ → Did r₁.text.now (Wanting r₁.text.now r₁.pos 1 z) want r₁ (Err f) r₂ → Simply r.text.now q (shown_at q) r (Err f) r₂
shown_not q z r r₁ r₂ f w solid letter tb t ts = here_on (shown_at q ts) tb ∙ did_in (Err f) r₁ r₂ w tb.text t (Stack.top q Head.show ts) (wanting_top r.text.now r₁.pos q ts (subst (Unlettered r.text.now) (sym tb.pos) (unlettered_here r.text.now r.pos solid letter)))

pub called_simply : (q x y : ℕ) (i : Statement) (z : Context) (o : Operand) (r r₁ r₂ r' : Cursor) (res : Result ℕ Fault) → i ≡ started q r → z ≡ outermost → after_at r.text.now r.pos ≡ past.Round → Tabled r (pushed r.table node.End) r₁ → Called r₁.text.now x y z.left r₁ (Ok o) r₂ → Continues r₂.text.now i o r₂ res r' → Simply r.text.now q (named_at r.text.now q x y) r res r'
called_simply q x y i z o r r₁ r₂ r' res begun w here tb t co =
    took_simply q i (Roomy 12) (name_at r.text.now x y) o r r₁ r₂ r' res begun tb (there (λ u. Took u (Roomy 12) (name_at u x y) r₁ o r₂) tb.text (subst (λ z. Called r₁.text.now x y z.left r₁ (Ok o) r₂) w t)) (unlettered_round r.text.now r.pos here) (λ ts. refl) co

-- Behind the key k that begins an instruction, and blanks, at r₃: the key may be shown, or assigned to.
pub record Target (q : ℕ) (i : Statement) (x y : ℕ) (k : Key) (r r₃ : Cursor) : Type 0 where
  pub begun : i ≡ started q r
  pub text : r₃.text ≡ r.text
  pub onwards : r.pos ≤ r₃.pos
  pub grew : Begun r.table.len r.table (flatten_target k) r₃.table
  pub solid : Solid r.text.now r₃.pos
  pub runs : (ts : Items) → onward true r.text.now (named_at r.text.now q x y ts) r.pos ≡ onward true r.text.now (aft (Expr.key k) (Stack.top q Head.show ts)) r₃.pos
  pub named : (a b : ℕ) → node.Assign q (from_to x y) a b ≡ assign_node q k a b

target_shown : (q : ℕ) (i : Statement) (x y : ℕ) (k : Key) (n : Node) (first : Operand) (r r₃ r₄ r' : Cursor) (o : Result ℕ Fault) → Target q i x y k r r₃ → flatten_target k ++ n ∷ [] ≡ flatten (Expr.key k) → first ≡ operand_of (Expr.key k) → first.need ≤ r₃.pos → assigns_at r₃.text.now r₃.pos ≡ false → Tabled r₃ (pushed r₃.table n) r₄ → Continues r₄.text.now i first r₄ o r' → Simply r.text.now q (named_at r.text.now q x y) r o r'
target_shown q i x y k n first r r₃ r₄ r' o h flat is small no_equals tb =
    continued_simply q (named_at r.text.now q x y) (Expr.key k) i first r r₄ r' o h.begun (tb.text ∙ h.text) (omega (arith, h.onwards, tb.pos)) is (omega (arith, small, tb.pos))
    (subst (λ (b : List Node × Table). Begun r.table.len r.table b.0 b.1) (λ j. (flat j, sym tb.table j)) (begun_more (flatten_target k) (n ∷ []) h.grew (grew_one r₃.table n)))
    (inl (subst (Solid r.text.now) (sym tb.pos) h.solid, ap (assigns_at r.text.now) tb.pos ∙ there (λ u. assigns_at u r₃.pos ≡ false) h.text no_equals))
    (λ ts. h.runs ts ∙ ap (onward true r.text.now (aft (Expr.key k) (Stack.top q Head.show ts))) (sym tb.pos))

target_in : (q : ℕ) (i : Statement) (x y s : ℕ) (k : Key) (r r₃ r' : Cursor) (o : Result ℕ Fault) → Target q i x y k r r₃ → Assigns r₃.text.now i x y s r₃ o r' → Assigns r.text.now (started q r) x y s r₃ o r'
target_in q i x y s k r r₃ r' o h = subst (λ (b : Bor (List ℕ) × Statement). Assigns b.0.now b.1 x y s r₃ o r') (λ j. (h.text j, h.begun j))

target_assigned : (q : ℕ) (i : Statement) (x y : ℕ) (k : Key) (s m n : ℕ) (r r₃ r' : Cursor) → Target q i x y k r r₃ → s ≡ length (flatten_target k) → ((e : Expr) → m ≡ need e → n ≡ need_assign k e) → (m ≤ r'.pos → r₃.pos < r'.pos → n ≤ r'.pos) → Assigned r₃.text.now i s x y r₃ m r' → Simples r.text.now q (named_at r.text.now q x y) r n r'
target_assigned q i x y k s m n r r₃ r' h sized told small assigned =
    let a : Assigned r.text.now (started q r) s x y r₃ m r' = target_in q i x y s k r r₃ r' (Ok m) h assigned in
    record {
      item = Item.assign q k a.right;
      simple = Simple.assign k a.right;
      told = told a.right a.told;
      small = small a.small a.passed.onwards;
      passed = passed_from h.text h.onwards (omega (arith, h.grew.grew.longer)) a.passed;
      grew = subst (λ n. Grew r.table (n ∷ flatten_target k ++ flatten a.right) r'.table) (h.named (length (flatten_target k)) (length (flatten a.right))) (a.grew r.table (flatten_target k) sized h.grew);
      runs = λ ts. h.runs ts ∙ a.runs ts k;
    }

target_not : (q : ℕ) (i : Statement) (x y : ℕ) (k : Key) (s : ℕ) (r r₃ r' : Cursor) (f : Fault) → Target q i x y k r r₃ → Assigns r₃.text.now i x y s r₃ (Err f) r' → Simply r.text.now q (named_at r.text.now q x y) r (Err f) r'
target_not q i x y k s r r₃ r' f h a ts = h.runs ts ∙ target_in q i x y s k r r₃ r' (Err f) h a ts k

-- a key without a subscript, and such a target
name_target : (q x y : ℕ) (i : Statement) (r r₁ : Cursor) → i ≡ started q r → Solid r.text.now r.pos → (after_at r.text.now r.pos ≡ past.Round → ⊥) → (after_at r.text.now r.pos ≡ past.Square → ⊥) → Tabled r (pushed r.table node.End) r₁ → Target q i x y (Key.name x y) r r₁
name_target q x y i r r₁ begun solid round square tb =
    record {
      begun = begun;
      text = tb.text;
      onwards = omega (arith, tb.pos);
      grew = begun_in tb;
      solid = subst (Solid r.text.now) (sym tb.pos) solid;
      runs = λ ts. name_alone r.text.now x y (part r.text.now x y) (Stack.top q Head.show ts) r.pos solid round square ∙ here_on (aft (Expr.key (Key.name x y)) (Stack.top q Head.show ts)) tb;
      named = λ a b. refl;
    }

pub named_shown : (q x y : ℕ) (i : Statement) (n : Span ℕ) (first : Operand) (r r₁ r₂ r' : Cursor) (o : Result ℕ Fault) → i ≡ started q r → first ≡ record { need = 1; constant = None } → 0 < r.pos → Solid r.text.now r.pos → (after_at r.text.now r.pos ≡ past.Round → ⊥) → (after_at r.text.now r.pos ≡ past.Square → ⊥) → assigns_at r₁.text.now r₁.pos ≡ false → n ≡ from_to x y → Tabled r (pushed r.table node.End) r₁ → Tabled r₁ (pushed r₁.table (node.Name n)) r₂ → Continues r₂.text.now i first r₂ o r' → Simply r.text.now q (named_at r.text.now q x y) r o r'
unfolding flatten flatten_key need need_key
named_shown q x y i n first r r₁ r₂ r' o begun is some solid round square no_equals narrow tb =
    target_shown q i x y (Key.name x y) (node.Name n) first r r₁ r₂ r' o (name_target q x y i r r₁ begun solid round square tb) (λ j. node.Name (narrow j) ∷ []) is (omega (arith, ap (λ (o : Operand). o.need) is, tb.pos)) no_equals

pub named_assigned : (q x y : ℕ) (i : Statement) (r r₁ r' : Cursor) (o : Result ℕ Fault) → i ≡ started q r → Solid r.text.now r.pos → (after_at r.text.now r.pos ≡ past.Round → ⊥) → (after_at r.text.now r.pos ≡ past.Square → ⊥) → Tabled r (pushed r.table node.End) r₁ → Assigns r₁.text.now i x y 0 r₁ o r' → Simply r.text.now q (named_at r.text.now q x y) r o r'
named_assigned q x y i r r₁ r' (Ok m) begun solid round square tb = target_assigned q i x y (Key.name x y) 0 m m r r₁ r' (name_target q x y i r r₁ begun solid round square tb) refl (λ e told. told) (λ small on. small)
named_assigned q x y i r r₁ r' (Err f) begun solid round square tb = target_not q i x y (Key.name x y) 0 r r₁ r' f (name_target q x y i r r₁ begun solid round square tb)

-- what is known behind a subscript and blanks
pub record Indexed (q x y : ℕ) (i : Statement) (n : ℕ) (r r₃ : Cursor) : Type 0 where
  pub tree : Expr
  pub opens : ℕ
  pub target : Target q i x y (Key.index x y opens tree) r r₃
  pub told : n ≡ need tree
  pub small : n + r.pos + 2 ≤ r₃.pos

pub indexed : (q x y : ℕ) (i : Statement) (z : Context) (n : ℕ) (r r₁ r₂ r₃ : Cursor) → i ≡ started q r → z ≡ outermost → Tabled r (pushed r.table node.End) r₁ → Subscript r₁.text.now z.left r₁ n r₂ → Spaced r₂ r₃ → Indexed q x y i n r r₃
indexed q x y i z n r r₁ r₂ r₃ begun w tb subscript s =
    let sub : Subscript r.text.now 12 r₁ n r₂ = there (λ u. Subscript u 12 r₁ n r₂) tb.text (subst (λ z. Subscript r₁.text.now z.left r₁ n r₂) w subscript) in
    let text : r₂.text ≡ r.text = sub.went.text ∙ tb.text in
    let went : Went r₁ (flatten sub.tree) r₃ = went_over (flatten sub.tree) sub.went s.all.onwards s.same in
    record {
      tree = sub.tree;
      opens = r₁.pos;
      target = record {
        begun = begun;
        text = s.same.text ∙ text;
        onwards = omega (arith, tb.pos, went.onwards);
        grew = begun_more [] (flatten sub.tree) (begun_in tb) went.grew;
        solid = solid_in text s;
        runs = λ ts.
            here_on (named_at r.text.now q x y ts) tb
            ∙ sub.runs x y (part r.text.now x y) (Stack.top q Head.show ts) refl
            ∙ stays true r.text.now (aft (Expr.key (Key.index x y r₁.pos sub.tree)) (Stack.top q Head.show ts)) (aft_stays (Expr.key (Key.index x y r₁.pos sub.tree)) (Stack.top q Head.show ts)) r₂.pos r₃.pos (blanks_in text s);
        named = λ a b. refl;
      };
      told = sub.told;
      small = omega (arith, sub.small, tb.pos, s.all.onwards);
    }

pub indexed_shown : (q x y : ℕ) (i : Statement) (n : ℕ) (m : Span ℕ) (first : Operand) (r r₃ r₄ r' : Cursor) (o : Result ℕ Fault) → Indexed q x y i n r r₃ → first ≡ record { need = n; constant = None } → assigns_at r₃.text.now r₃.pos ≡ false → m ≡ from_to x y → Tabled r₃ (pushed r₃.table (node.Index m)) r₄ → Continues r₄.text.now i first r₄ o r' → Simply r.text.now q (named_at r.text.now q x y) r o r'
unfolding flatten flatten_key need need_key
indexed_shown q x y i n m first r r₃ r₄ r' o h is no_equals narrow =
    target_shown q i x y (Key.index x y h.opens h.tree) (node.Index m) first r r₃ r₄ r' o h.target (λ j. flatten h.tree ++ node.Index (narrow j) ∷ []) (is ∙ ap (λ n. record { need = n; constant = None }) h.told) (omega (arith, h.small, ap (λ (o : Operand). o.need) is)) no_equals

pub indexed_assigned : (q x y : ℕ) (i : Statement) (n s m k : ℕ) (r r₃ r' : Cursor) → Indexed q x y i n r r₃ → s ≡ r₃.table.len - i.at - 1 → k ≡ max m (n + 1) → Assigned r₃.text.now i s x y r₃ m r' → Simples r.text.now q (named_at r.text.now q x y) r k r'
indexed_assigned q x y i n s m k r r₃ r' h sized is =
    target_assigned q i x y (Key.index x y h.opens h.tree) s m k r r₃ r' h.target (omega (arith, sized, ap (λ (i : Statement). i.at) h.target.begun, h.target.grew.grew.longer))
    (λ e told. omega (arith, is, told, h.told))
    (λ small on. omega (arith, is, h.small))

pub indexed_not : (q x y : ℕ) (i : Statement) (n s : ℕ) (r r₃ r' : Cursor) (f : Fault) → Indexed q x y i n r r₃ → Assigns r₃.text.now i x y s r₃ (Err f) r' → Simply r.text.now q (named_at r.text.now q x y) r (Err f) r'
indexed_not q x y i n s r r₃ r' f h = target_not q i x y (Key.index x y h.opens h.tree) s r r₃ r' f h.target

-- behind an instruction's first name
pub keyed_on : (q x y : ℕ) (r r₁ r' : Cursor) (o : Result ℕ Fault) → y ≡ r.pos → Nameable r.text.now x y → y - x ≤ 24 → Spaced r r₁ → Simply r₁.text.now q (named_at r₁.text.now q x y) r₁ o r' → Simply r.text.now q (keyed_at r.text.now q x y) r o r'
keyed_on q x y r r₁ r' o here n short s h = by o (there (λ u. Simply u q (named_at u q x y) r₁ o r') s.same.text h)
  where
    runs : (ts : Items) → onward true r.text.now (keyed_at r.text.now q x y ts) r.pos ≡ onward true r.text.now (named_at r.text.now q x y ts) r₁.pos
    runs ts =
        subst (λ p. onward true r.text.now (keyed_at r.text.now q x y ts) p ≡ onward true r.text.now (named_at r.text.now q x y ts) p) here (name_ends r.text.now x y (part r.text.now x y) (Stack.top q Head.show ts) n.longest n.free (omega (arith, short)))
        ∙ stays true r.text.now (named_at r.text.now q x y ts) (named_stays x y (part r.text.now x y) (Stack.top q Head.show ts)) r.pos r₁.pos s.all

    by : (o : Result ℕ Fault) → Simply r.text.now q (named_at r.text.now q x y) r₁ o r' → Simply r.text.now q (keyed_at r.text.now q x y) r o r'
    by (Ok m) h = record {
      item = h.item;
      simple = h.simple;
      told = h.told;
      small = h.small;
      passed = passed_from s.same.text s.all.onwards (omega (arith, ap (λ (t : Table). t.len) s.same.table)) h.passed;
      grew = subst (λ t. Grew t (simple_nodes h.item) r'.table) s.same.table h.grew;
      runs = λ ts. runs ts ∙ h.runs ts;
    }
    by (Err f) h = λ ts. runs ts ∙ h ts

pub keyed_long : (q x y : ℕ) (r r' : Cursor) (f : Fault) → y ≡ r.pos → Nameable r.text.now x y → 24 < y - x → Limited (follow.Name inside.Top) r TooLong x f → Simply r.text.now q (keyed_at r.text.now q x y) r (Err f) r'
keyed_long q x y r r' f here n far l ts =
    subst (λ y. onward true r.text.now (keyed_at r.text.now q x y ts) r.pos ≡ refused f.refusal f.place) (sym here)
    (name_long r x q ts f (subst (Nameable r.text.now x) here n) (omega (arith, here, far)) l)
