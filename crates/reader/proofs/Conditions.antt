-- The instructions of blocks: their conditions, names and delimiters. Assumes nothing.
use Rattle.std.proofs.Common.{◌≡◌, ℕ, ◌+◌, ◌-◌, ◌<◌, ◌≤◌, Bool, true, false, eqb, leb, List, [], ◌∷◌, length, get_or, Ok, Err, sym, refl, ap, ◌∙◌, subst, inr, ⊎_elim, arith}
use Rattle.std.proofs.lemmas.Option.{slice_get-get_or}
use Rattle.std.proofs.lemmas.Bool.{cond-true, cond-false, le-leb, lt-leb, cases_lt}
use Rattle.std.proofs.lemmas.Bool.Decides.{nat_tests}
use Rattle.refusals.specs.declared.Refusal.TheVariants.{UnexpectedByte, TooLong}
use Rattle.tokens.specs.declared.byte.After.{After}
use Rattle.tokens.specs.declared.byte.After.TheVariants as past
use Rattle.tokens.specs.Bytes.{after, blank}
use Rattle.trees.specs.declared.Node.TheVariants as node
use Rattle.trees.specs.declared.Quote.{Quote}
use Rattle.trees.specs.declared.Span.{Span}
use Rattle.trees.specs.Tree.{Expr, Opening, Item, Items}
use Rattle.trees.specs.Flat.{flatten}
use Rattle.grammar.specs.Rules.{breaks, six}
use Rattle.grammar.specs.Machine.{Head, Stack, stop, go, late, step, onward, refused, afters, bares, want, aft, in_text, quoted, bare, plain, Quoted as Goal}
use Rattle.grammar.proofs.Moves.{moves, at_end, alike, stays, bare_stays, late_none}
use Rattle.reader.specs.declared.cursor.Cursor.{Cursor}
use Rattle.reader.specs.declared.cursor.Inside.{Inside}
use Rattle.reader.specs.declared.cursor.Inside.TheVariants as inside
use Rattle.reader.specs.declared.cursor.Follow.TheVariants as follow
use Rattle.reader.specs.declared.expression.Context.{Context}
use Rattle.reader.specs.declared.expression.Operand.{Operand}
use Rattle.reader.specs.declared.heads.Condition.{Condition}
use Rattle.refusals.specs.declared.fault.Fault.{Fault}
use Rattle.reader.specs.Tables.{Table}
use Rattle.reader.specs.Tables.{pushed, Grew}
use Rattle.reader.specs.States.{fault, Tabled}
use Rattle.reader.specs.Scans.{after_of, after_at, unexpected_at, Ready, Limited, Quotes}
use Rattle.reader.specs.Reads.{Wanting, Took, Stops, Solid}
use Rattle.reader.specs.Statements.{Finished, Completes, Incomplete}
use Rattle.reader.specs.Heads.{Conditions, Conditioned, LoopNames, Delimits, Delimited, Tested, Headed}
use Rattle.reader.proofs.Leaves.{as_refused}
use Rattle.reader.proofs.Limits.{limited, told_complete, unexpected, ends_here}
use Rattle.reader.proofs.Tabling.{grew_append, grew_one, grew_more}
use Rattle.reader.proofs.Shown.{unassigned, did_in}
use Rattle.reader.proofs.Places.{after_is}
use Rattle.reader.proofs.Passing.{there, ready_went, ready_pushed}

-- the context of an instruction's expression
abbrev pub outer : Inside → Context
outer i = record { inside = i; left = 12 }

-- an expression with the node before it that holds the instruction's place
pub conditions : (i : Inside) (z : Context) (o : Operand) (a size : ℕ) (r r₁ r₂ : Cursor) → Ready r → r.table.len + 1 ≤ r.pos → z ≡ outer i → Tabled r (pushed r.table node.End) r₁ → Took r₁.text.now (Wanting r₁.text.now r₁.pos 1 z) want r₁ o r₂ → Stops 1 r₁.text.now r₂.pos → a ≡ r.table.len → size ≡ r₂.table.len - a - 1 → Conditions r.text.now i r (record { at = a; size = size; need = o.need }) r₂
conditions i z o a size r r₁ r₂ ready few w tb t st here sized =
    let t' : Took r.text.now (Wanting r.text.now r₁.pos 1 (outer i)) want r₁ o r₂ = did_in (Ok o) r₁ r₂ w tb.text t in
    let len : r₁.table.len ≡ r.table.len + 1 = ap (λ (t : Table). t.len) tb.table in
    let ready₂ : Ready r₂ = ready_went (flatten t'.tree) (ready_pushed node.End refl ready few tb) t'.went in
    record {
      tree = t'.tree;
      here = here;
      told = ap (λ (o : Operand). o.need) t'.told;
      small = omega (arith, t'.small);
      sized = omega (arith, sized, here, len, grew_more (flatten t'.tree) t'.went.grew);
      same_text = t'.went.text ∙ tb.text;
      inward = ready₂.inward;
      onwards = omega (arith, tb.pos, t'.far);
      few = ready₂.few;
      fewer = ready₂.fewer;
      grew = grew_append (node.End ∷ []) (flatten t'.tree) (subst (Grew r.table (node.End ∷ [])) (sym tb.table) (grew_one r.table node.End)) t'.went.grew;
      stops = there (λ u. Stops 1 u r₂.pos) tb.text st;
      runs = λ k f. ap (onward true r.text.now (want k)) (sym tb.pos) ∙ t'.runs k (subst (λ p. Wanting r.text.now p 1 (outer i) k) (sym tb.pos) f);
    }

-- the delimiter of a JOINEACH behind its expression
abbrev delimiter_of : ℕ → ℕ → ℕ → ℕ → Expr → Items → Goal
delimiter_of q j x y e ts = Goal.delimiter (record { place = q; word = j; «from» = x; to = y; list = e; items = ts })

quote_moves : (text : List ℕ) (p : ℕ) (q j x y : ℕ) (e : Expr) (ts : Items) → after_at text p ≡ past.Quote → onward true text (aft e (Stack.top q (Head.joineach j x y) ts)) p ≡ onward true text (in_text p 0 (delimiter_of q j x y e ts)) (p + 1)
quote_moves text p q j x y e ts quote =
    let here = after_is text p past.Quote (λ o. cc) quote in
    moves true text (aft e (Stack.top q (Head.joineach j x y) ts)) p _ here.0 (ap (λ a. afters a e (Stack.top q (Head.joineach j x y) ts) p) here.1)

ends_join : (a : After) → (a ≡ past.Quote → ⊥) → ends_here inside.Join a ≡ false
ends_join a n = grind arith

-- no delimiter stands behind the expression
pub no_delimiter : (r r' : Cursor) (f : Fault) → (after_at r.text.now r.pos ≡ past.Quote → ⊥) → f ≡ fault UnexpectedByte (unexpected_at r.text.now r.pos) → Delimited r.text.now r (Err f) r'
no_delimiter r r' f none told st q j x y e ts =
    unexpected r.text.now e (Stack.top q (Head.joineach j x y) ts) r.pos (unassigned (Head.joineach j x y) q ts tt e) st (ends_join (after_at r.text.now r.pos) none) ∙ as_refused f UnexpectedByte (unexpected_at r.text.now r.pos) told

pub delimits_not : (r r' : Cursor) (f : Fault) → after_at r.text.now r.pos ≡ past.Quote → ((g : Goal) → onward true r.text.now (in_text r.pos 0 g) (r.pos + 1) ≡ refused f.refusal f.place) → Delimited r.text.now r (Err f) r'
delimits_not r r' f here fails st q j x y e ts = quote_moves r.text.now r.pos q j x y e ts here ∙ fails (delimiter_of q j x y e ts)

-- a complete instruction: its `$`, or what stands there instead
dollar_byte : (b : ℕ) → after b ≡ past.Dollar → (blank b ≡ false) × (eqb b 36 ≡ true)
dollar_byte b e = (grind (arith, nat_tests), grind (arith, nat_tests))

no_dollar_byte : (b : ℕ) → (after b ≡ past.Dollar → ⊥) → eqb b 36 ≡ false
no_dollar_byte b n = grind (arith, nat_tests)

bare_moves : (text : List ℕ) (p : ℕ) (t : Item) (ts : Items) → after_at text p ≡ past.Dollar → onward true text (bare t ts) p ≡ onward true text (plain (p + 1) (Items.then ts t)) (p + 1)
bare_moves text p t ts dollar =
    let here = after_is text p past.Dollar (λ o. cc) dollar in
    let b = dollar_byte (get_or text p 0) here.1 in
    moves true text (bare t ts) p (go [] (plain (p + 1) (Items.then ts t))) here.0 (cond-false _ _ _ b.0 ∙ cond-true _ _ _ b.1)

bare_stop : (text : List ℕ) (p : ℕ) (t : Item) (ts : Items) → Solid text p → (after_at text p ≡ past.Dollar → ⊥) → onward true text (bare t ts) p ≡ refused UnexpectedByte p
bare_stop text p t ts solid none =
    ⊎_elim
    (λ lt. moves true text (bare t ts) p stop lt (cond-false _ _ _ (solid lt) ∙ cond-false _ _ _ (no_dollar_byte (get_or text p 0) (λ e. none (ap after_of (slice_get-get_or text p 0 lt) ∙ e)))))
    (λ ge. at_end true text (bare t ts) p ge)
    (cases_lt p (length text))

pub bare_completes : (r r' : Cursor) (t : Item) (ts : Items) → Completes r.text.now r r' → onward true r.text.now (bare t ts) r.pos ≡ onward true r.text.now (plain r'.pos (Items.then ts t)) r'.pos
bare_completes r r' t ts c =
    stays true r.text.now (bare t ts) (bare_stays t ts) r.pos c.middle.pos c.spaced.all
    ∙ bare_moves r.text.now c.middle.pos t ts c.dollar
    ∙ ap (λ p. onward true r.text.now (plain p (Items.then ts t)) p) (sym c.next.pos)

pub bare_incomplete : (r : Cursor) (f : Fault) (t : Item) (ts : Items) → Incomplete r.text.now r f → onward true r.text.now (bare t ts) r.pos ≡ refused f.refusal f.place
bare_incomplete r f t ts c =
    stays true r.text.now (bare t ts) (bare_stays t ts) r.pos c.middle.pos c.spaced.all
    ∙ bare_stop r.text.now c.middle.pos t ts c.spaced.last c.no_dollar
    ∙ as_refused f UnexpectedByte c.middle.pos c.told

-- the delimiter is read: r₁ is right behind it
quote_runs : (r r₁ : Cursor) (d : Quote) → after_at r.text.now r.pos ≡ past.Quote → Quotes r d r₁ → (q j x y : ℕ) (e : Expr) (ts : Items) → onward true r.text.now (aft e (Stack.top q (Head.joineach j x y) ts)) r.pos ≡ onward true r.text.now (quoted d (delimiter_of q j x y e ts)) r₁.pos
quote_runs r r₁ d here h q j x y e ts = quote_moves r.text.now r.pos q j x y e ts here ∙ h.runs (delimiter_of q j x y e ts)

delimiter_step : (d : Quote) (q j x y : ℕ) (e : Expr) (ts : Items) (b p : ℕ) {c : Bool} → leb d.bytes 32 ≡ c → step (quoted d (delimiter_of q j x y e ts)) p b ≡ late (breaks c six d.span.«from» d.span.to) (bares b (Item.opens q j (Opening.joineach x y e d)) ts p)
delimiter_step d q j x y e ts b p is = ap (λ c. late (breaks c six d.span.«from» d.span.to) (bares b (Item.opens q j (Opening.joineach x y e d)) ts p)) is

pub delimits_long : (r r₁ r' : Cursor) (d : Quote) (f : Fault) → after_at r.text.now r.pos ≡ past.Quote → Quotes r d r₁ → 32 < d.bytes → Limited follow.Complete r₁ TooLong d.span.«from» f → Delimited r.text.now r (Err f) r'
delimits_long r r₁ r' d f here h far l st q j x y e ts =
    let b : ℕ = get_or r₁.text.now r₁.pos 0 in
    let t : Item = Item.opens q j (Opening.joineach x y e d) in
    quote_runs r r₁ d here h q j x y e ts
    ∙ there (λ u. onward true u (quoted d (delimiter_of q j x y e ts)) r₁.pos ≡ refused f.refusal f.place) h.text
    (limited follow.Complete r₁ (record { rule = six; place = d.span.«from»; due = d.span.to }) [] f (quoted d (delimiter_of q j x y e ts)) (bares b t ts r₁.pos) l (λ lt. delimiter_step d q j x y e ts b r₁.pos (lt-leb _ _ far)) (λ lt. told_complete b t ts r₁.pos) refl)

delimiter_on : (r r₁ : Cursor) (d : Quote) → after_at r.text.now r.pos ≡ past.Quote → Quotes r d r₁ → d.bytes ≤ 32 → (q j x y : ℕ) (e : Expr) (ts : Items) → onward true r.text.now (aft e (Stack.top q (Head.joineach j x y) ts)) r.pos ≡ onward true r.text.now (bare (Item.opens q j (Opening.joineach x y e d)) ts) r₁.pos
delimiter_on r r₁ d here h short q j x y e ts =
    quote_runs r r₁ d here h q j x y e ts
    ∙ alike true r.text.now (quoted d (delimiter_of q j x y e ts)) (bare (Item.opens q j (Opening.joineach x y e d)) ts) r₁.pos
    (λ lt. delimiter_step d q j x y e ts (get_or r.text.now r₁.pos 0) r₁.pos (le-leb _ _ short) ∙ late_none _)
    refl

pub delimits_open : (r r₁ r' : Cursor) (d : Quote) (f : Fault) → after_at r.text.now r.pos ≡ past.Quote → Quotes r d r₁ → d.bytes ≤ 32 → Incomplete r₁.text.now r₁ f → Delimited r.text.now r (Err f) r'
delimits_open r r₁ r' d f here h short c st q j x y e ts =
    delimiter_on r r₁ d here h short q j x y e ts
    ∙ there (λ u. onward true u (bare (Item.opens q j (Opening.joineach x y e d)) ts) r₁.pos ≡ refused f.refusal f.place) h.text (bare_incomplete r₁ f (Item.opens q j (Opening.joineach x y e d)) ts c)

pub delimits_all : (r r₁ r' : Cursor) (d : Quote) → after_at r.text.now r.pos ≡ past.Quote → Quotes r d r₁ → d.bytes ≤ 32 → Completes r₁.text.now r₁ r' → Delimits r.text.now r d r'
delimits_all r r₁ r' d here h short c =
    record {
      same_text = c.next.text ∙ c.spaced.same.text ∙ h.text;
      outward = c.outward;
      table = c.next.table ∙ c.spaced.same.table ∙ h.table;
      onwards = omega (arith, h.onwards, c.spaced.all.onwards, c.next.pos);
      «from» = omega (arith, h.opens, h.onwards, c.spaced.all.onwards, c.next.pos);
      to = omega (arith, h.closes, c.spaced.all.onwards, c.next.pos);
      runs = λ q j x y e ts.
          delimiter_on r r₁ d here h short q j x y e ts
          ∙ there (λ u. onward true u (bare (Item.opens q j (Opening.joineach x y e d)) ts) r₁.pos ≡ onward true u (plain r'.pos (Items.then ts (Item.opens q j (Opening.joineach x y e d)))) r'.pos) h.text (bare_completes r₁ r' (Item.opens q j (Opening.joineach x y e d)) ts c);
    }

-- a test and what stands behind it
pub test_closed : (r m r' : Cursor) (c : Condition) → Conditions r.text.now inside.Top r c m → Finished m.text.now m (Ok tt) r' → Tested r.text.now r (Ok c) r'
test_closed r m r' c h fin = (m, h, there (λ u. Finished u m (Ok tt) r') h.same_text fin)

pub test_unclosed : (r m r' : Cursor) (c : Condition) (f : Fault) → Conditions r.text.now inside.Top r c m → Finished m.text.now m (Err f) r' → Tested r.text.now r (Err f) r'
test_unclosed r m r' c f h fin = inr (c, m, h, there (λ u. Finished u m (Err f) r') h.same_text fin)

-- the name of a loop and its expression
pub head_all : (i : Inside) (r m r' : Cursor) (n : Span ℕ) (c : Condition) → LoopNames r.text.now r n m → Conditions m.text.now i m c r' → Headed r.text.now i r (Ok (n, c)) r'
head_all i r m r' n c h l = (m, h, there (λ u. Conditions u i m c r') h.same.text l)

pub head_not : (i : Inside) (r m r' : Cursor) (n : Span ℕ) (f : Fault) → LoopNames r.text.now r n m → Conditioned m.text.now i m (Err f) r' → Headed r.text.now i r (Err f) r'
head_not i r m r' n f h l = inr (n, m, h, there (λ u. Conditioned u i m (Err f) r') h.same.text l)
