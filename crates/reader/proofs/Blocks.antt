-- The instructions of blocks: the nodes of the open ones in the table, when the rules about blocks fall due, and what the machine reads.
-- Assumes nothing.
use Rattle.std.proofs.Common.{◌≡◌, ℕ, zero, suc, ◌+◌, ◌-◌, ◌<◌, ◌≤◌, max, min, Bool, true, false, cond, ltb, List, [], ◌∷◌, ◌++◌, map, length, get_or, set, take, IsErrAnd, Bor, Some, None, Ok, Err, Result, sym, refl, ap, ◌∙◌, subst, ⊎_elim, append_assoc, length-append, arith}
use Rattle.std.proofs.Math.Seq.{get_or-append_seam}
use Rattle.std.proofs.lemmas.List.{length-set, length-map, get_or_append_left, get_or-set_same, get_or-set_other}
use Rattle.std.proofs.lemmas.Bool.{cond-true, cond-false, lt-ltb, le-ltb, cases_lt, cases_eq}
use Rattle.std.proofs.lemmas.Bool.Decides.{nat_tests}
use Rattle.keywords.specs.declared.Keyword.{Keyword}
use Rattle.keywords.specs.declared.Keyword.TheVariants as keyword
use Rattle.refusals.specs.declared.Refusal.TheVariants.{UnexpectedByte, UnmatchedBlock}
use Rattle.stacks.specs.Stacked.{top, rest}
use Rattle.tokens.specs.declared.byte.Start.TheVariants as at
use Rattle.tokens.specs.Bytes.{start, blank, letter, word}
use Rattle.trees.specs.declared.Node.{Node}
use Rattle.trees.specs.declared.Quote.{Quote}
use Rattle.trees.specs.declared.Span.{Span}
use Rattle.trees.specs.declared.Node.TheVariants as node
use Rattle.trees.specs.Tree.{Expr, Opening, Item, Items, from_to}
use Rattle.trees.specs.Flat.{flatten, flatten_target, assign_node, opening_expr, opening_node}
use Rattle.trees.specs.Counts.{need}
use Rattle.trees.specs.Laid.{weight, total, head_size, with_body, Mark, Laid, loops, closed, remarked, unmarked, is_each, elif_node, laid_item, laid}
use Rattle.grammar.specs.Rules.{Broken, Rule, Opened, breaks, refusal_of, kind_of, elsed, ended, open_blocks, is_choice, choosing, room, in_choice, in_block}
use Rattle.grammar.specs.Machine
use Rattle.grammar.specs.Machine.{Head, Stack, Config, Move, stop, go, Out, refused, onward, step, finish, finished, late, wants, commands, loop_head, reacts}
use Rattle.grammar.specs.Words.{keyword_of}
use Rattle.grammar.specs.Grammar.{part}
use Rattle.grammar.proofs.Moves.{moves, at_end, stays, want_stays, late_none}
use Rattle.reader.specs.declared.block.Kind.{Kind}
use Rattle.reader.specs.declared.block.Kind.TheVariants as kind
use Rattle.reader.specs.declared.block.Open.{Open}
use Rattle.reader.specs.declared.cursor.Cursor.{Cursor}
use Rattle.reader.specs.declared.cursor.Follow.{Follow}
use Rattle.reader.specs.declared.cursor.Follow.TheVariants as follow
use Rattle.reader.specs.declared.cursor.Inside.{Inside}
use Rattle.reader.specs.declared.cursor.Inside.TheVariants as inside
use Rattle.reader.specs.declared.cursor.State.TheVariants.{Plain}
use Rattle.refusals.specs.declared.fault.Fault.{Fault}
use Rattle.reader.specs.declared.heads.Condition.{Condition}
use Rattle.reader.specs.declared.instruction.Reader.{Reader}
use Rattle.reader.specs.Tables.{Table, put, pushed, patched, Holds, Grew}
use Rattle.reader.specs.States.{fault, MovedTo}
use Rattle.reader.specs.Scans.{follows, Spaced, Worded, Limited, start_at}
use Rattle.reader.specs.Reads.{head_inside, Wanting}
use Rattle.reader.specs.Kinds.{kind_means, is_each_in, opened_of, mark_of}
use Rattle.reader.specs.Statements.{Finished, Completes, Incomplete, Simple, simple_nodes, simple_need, Passed, Simples, keyed_at, AtName, Nameable}
use Rattle.reader.specs.Heads.{Conditions, Tested, AtWord, LoopNames, Headed, Delimits, Delimited}
use Rattle.reader.specs.Blocks.{Looped, Armed, Standing, Kept, Entered, command_out, opening_out, Instruction, Instructed, WithTable, Needs, Opens, Roomed, Chosen, arm_closed}
use Rattle.reader.proofs.Leaves.{as_refused, by_break}
use Rattle.reader.proofs.Limits.{Told, told_begin, told_complete}
use Rattle.reader.proofs.Tabling.{grew_one, put_length, put_kept, grew_patch}
use Rattle.reader.proofs.Shown.{Heading, wanting, dollar_on, unfinished, passed_from}
use Rattle.reader.proofs.Passing.{there, narrowed}
use Rattle.reader.proofs.Words.{word_run, word_some}
use Rattle.reader.proofs.Conditions.{bare_completes, bare_incomplete}

-- the size of a block counts for nothing
with_weight : (n : Node) (m : ℕ) → weight (with_body n m) ≡ weight n
with_weight n m = grind arith

opening_weight : (q : ℕ) (h : Opening) (m : ℕ) → weight (opening_node q h m) ≡ 1
opening_weight q h m = grind arith

-- a node that counts stands at an open block's place, and the block's instruction counts
record Seat (ns : List Node) (m : Mark) : Type 0 where
  pub inside : m.at < length ns
  pub counts : weight (get_or ns m.at node.End) ≡ 1
  pub head : weight m.head ≡ 1

abbrev Seated : List Node → List Mark → Type 0
Seated ns [] = Unit {0}
Seated ns (m ∷ ms) = (Seat ns m) × Seated ns ms

seated_by : (ns ns' : List Node) → ((m : Mark) → Seat ns m → Seat ns' m) → (ms : List Mark) → Seated ns ms → Seated ns' ms
seated_by ns ns' f [] s = tt
seated_by ns ns' f (m ∷ ms) s = (f m s.0, seated_by ns ns' f ms s.1)

-- more nodes behind, or another node that counts in the place of one
seated_append : (ns xs : List Node) (ms : List Mark) → Seated ns ms → Seated (ns ++ xs) ms
seated_append ns xs =
    seated_by ns (ns ++ xs) (λ m s. record {
      inside = omega (arith, s.inside, length-append ns xs);
      counts = ap weight (get_or_append_left ns xs node.End m.at s.inside) ∙ s.counts;
      head = s.head;
    })

seated_set : (ns : List Node) (i : ℕ) (y : Node) → weight y ≡ 1 → (ms : List Mark) → Seated ns ms → Seated (set ns i y) ms
seated_set ns i y w =
    seated_by ns (set ns i y) (λ m s. record {
      inside = omega (arith, s.inside, length-set ns i y);
      counts = ⊎_elim (λ e. let lt : i < length ns = omega (arith, s.inside) in ap (λ j. weight (get_or (set ns i y) j node.End)) e ∙ ap weight (get_or-set_same ns i y node.End lt) ∙ w) (λ ne. ap weight (get_or-set_other ns i m.at y node.End ne) ∙ s.counts) (cases_eq m.at i);
      head = s.head;
    })

seated_closed : (ns : List Node) (ms : List Mark) → Seated ns ms → Seated (closed ns ms) ms
seated_closed ns [] s = tt
seated_closed ns (m ∷ ms) s = seated_set ns m.at _ (with_weight m.head (length ns - m.at - 1 - head_size m.head) ∙ s.0.head) (m ∷ ms) s

closed_length : (ns : List Node) (ms : List Mark) → length (closed ns ms) ≡ length ns
closed_length ns [] = refl
closed_length ns (m ∷ ms) = length-set ns m.at (with_body m.head (length ns - m.at - 1 - head_size m.head))

-- a node that has come behind the nodes ns, at i
seat_new : (ns xs : List Node) (x : Node) (i : ℕ) (e : Bool) → i ≡ length ns → weight x ≡ 1 → Seat (ns ++ x ∷ xs) (record { at = i; head = x; each = e })
seat_new ns xs x i e same w =
    record {
      inside = omega (arith, length-append ns (x ∷ xs));
      counts = ap (λ j. weight (get_or (ns ++ x ∷ xs) j node.End)) same ∙ ap weight (get_or-append_seam ns x xs node.End) ∙ w;
      head = w;
    }

seated_remarked : (ns xs : List Node) (x : Node) (i : ℕ) (ms : List Mark) → i ≡ length ns → weight x ≡ 1 → Seated ns ms → Seated (ns ++ x ∷ xs) (remarked i x ms)
seated_remarked ns xs x i [] same w s = tt
seated_remarked ns xs x i (m ∷ ms) same w s = (seat_new ns xs x i m.each same w, seated_append ns (x ∷ xs) ms s.1)

seated_unmarked : (ns : List Node) (ms : List Mark) → Seated ns ms → Seated ns (unmarked ms)
seated_unmarked ns [] s = tt
seated_unmarked ns (m ∷ ms) s = s.1

seated_item : (l : Laid) (t : Item) → Seated l.nodes l.marks → Seated (laid_item l t).nodes (laid_item l t).marks
seated_item l (Item.assign q k e) s = seated_append (l.nodes ++ assign_node q k (length (flatten_target k)) (length (flatten e)) ∷ flatten_target k) (flatten e) l.marks (seated_append l.nodes _ l.marks s)
seated_item l (Item.opens q j h) s = (seat_new l.nodes (flatten (opening_expr h)) (opening_node q h 0) (length l.nodes) (is_each h) refl (opening_weight q h 0), seated_append l.nodes _ l.marks s)
seated_item l (Item.elif q j c) s = seated_remarked (closed l.nodes l.marks) (flatten c) (elif_node q c 0) (length l.nodes) l.marks (sym (closed_length l.nodes l.marks)) refl (seated_closed l.nodes l.marks s)
seated_item l (Item.else q j) s = seated_remarked (closed l.nodes l.marks) [] (node.Else 0) (length l.nodes) l.marks (sym (closed_length l.nodes l.marks)) refl (seated_closed l.nodes l.marks s)
seated_item l (Item.end q j) s = seated_unmarked (closed l.nodes l.marks ++ node.End ∷ []) l.marks (seated_append (closed l.nodes l.marks) (node.End ∷ []) l.marks (seated_closed l.nodes l.marks s))
seated_item l t s = seated_append l.nodes _ l.marks s

laid_seated : (ts : Items) → Seated (laid ts).nodes (laid ts).marks
unfolding laid
laid_seated Items.none = tt
laid_seated (Items.then ts t) = seated_item (laid ts) t (laid_seated ts)

-- a table in which a node gives way to another of the same weight
total_set : (ns : List Node) (i : ℕ) (y : Node) → i < length ns → weight (get_or ns i node.End) ≡ weight y → total (set ns i y) ≡ total ns
total_set [] i y lt e = absurd (omega arith)
total_set (n ∷ ns) zero y lt e = omega arith
total_set (n ∷ ns) (suc i) y lt e = omega (arith, total_set ns i y (omega arith) e)

holds_set : (t : Table) (ns : List Node) (i : ℕ) (y : Node) → i < length ns → weight (get_or ns i node.End) ≡ weight y → Holds t ns → Holds (patched t i y) (set ns i y)
holds_set t ns i y lt e h =
    record {
      room = put_length t.slots i y ∙ h.room;
      many = h.many ∙ sym (length-set ns i y);
      counted = h.counted ∙ sym (total_set ns i y lt e);
      kept = ap (λ n. take n (put t.slots i y)) (length-set ns i y) ∙ put_kept t.slots ns i y lt h.kept;
    }

-- the size of the innermost open block goes into its instruction's node
holds_closed : (r : Reader) (o : Open) (os : List Open) (ts : Items) → Kept r (o ∷ os) ts → Holds (arm_closed r.cursor.table o) (closed (laid ts).nodes (laid ts).marks)
holds_closed r o os ts k =
    let ns : List Node = (laid ts).nodes in
    let s : Seated ns (mark_of o ∷ map mark_of os) = subst (Seated ns) (sym k.marks) (laid_seated ts) in
    let y : Node = with_body o.head (length ns - o.at - 1 - head_size o.head) in
    let h : Holds (patched r.cursor.table o.at y) (set ns o.at y) = holds_set r.cursor.table ns o.at y s.0.inside (s.0.counts ∙ sym (with_weight o.head (length ns - o.at - 1 - head_size o.head) ∙ s.0.head)) k.holds in
    subst (λ ms. Holds (arm_closed r.cursor.table o) (closed ns ms)) k.marks
    (subst (λ n. Holds (patched r.cursor.table o.at (with_body o.head (n - o.at - 1 - head_size o.head))) (set ns o.at y)) (sym k.holds.many) h)

-- a word's rule, what may follow it, and the configuration in which the reading goes on behind it
abbrev pub rule_of : Keyword → List Opened → ℕ → ℕ → List Broken
rule_of keyword.Elif = in_choice
rule_of keyword.Else = in_choice
rule_of keyword.End = in_block
rule_of w = room

abbrev pub follow_of : Keyword → Follow
follow_of keyword.Else = follow.Complete
follow_of keyword.End = follow.Complete
follow_of keyword.Foreach = follow.Loop
follow_of keyword.Joineach = follow.Loop
follow_of w = follow.Begin

abbrev pub begin_of : Keyword → ℕ → ℕ → Items → Config
begin_of keyword.If q p ts = Config.want (Stack.top q (Head.if p) ts)
begin_of keyword.While q p ts = Config.want (Stack.top q (Head.while p) ts)
begin_of keyword.Elif q p ts = Config.want (Stack.top q (Head.elif p) ts)
begin_of keyword.Foreach q p ts = Config.naming q p false ts
begin_of keyword.Joineach q p ts = Config.naming q p true ts
begin_of keyword.Else q p ts = Config.bare (Item.else q p) ts
begin_of keyword.End q p ts = Config.bare (Item.end q p) ts

-- the instruction of the word w breaks no rule, or is refused
abbrev pub Lawful : Keyword → Reader → Type 0
Lawful w r = (ts : Items) → Kept r r.blocks.items ts → rule_of w (open_blocks ts) r.«from» r.cursor.pos ≡ []

abbrev pub Refused : Keyword → Reader → Fault → Type 0
Refused w r e = (ts : Items) → Kept r r.blocks.items ts → command_out r.cursor.text.now w r.cursor.pos r.«from» ts ≡ refused e.refusal e.place

pub fails_by : (w : Keyword) (r : Reader) (o : Result (Unit {0}) Fault) (f : Fault) (r' : Reader) → IsErrAnd o (λ y. y ≡ f) → Refused w r f → Instructed (command_out r.cursor.text.now w r.cursor.pos) r r.blocks.items o r' r'.blocks.items
fails_by w r o f r' e h = by_break (λ o. Instructed (command_out r.cursor.text.now w r.cursor.pos) r r.blocks.items o r' r'.blocks.items) o f e h

pub opening_fails : (r : Reader) (o : Result (Unit {0}) Fault) (f : Fault) (r' : Reader) → IsErrAnd o (λ y. y ≡ f) → ((ts : Items) → opening_out r.cursor.text.now r.cursor.pos r.«from» ts ≡ refused f.refusal f.place) → Instructed (opening_out r.cursor.text.now r.cursor.pos) r r.blocks.items o r' r'.blocks.items
opening_fails r o f r' e h = by_break (λ o. Instructed (opening_out r.cursor.text.now r.cursor.pos) r r.blocks.items o r' r'.blocks.items) o f e (λ ts k. h ts)

-- how the reading goes on behind an instruction's word, at p with the move v
abbrev out_of : List ℕ → ℕ → Move → Out
out_of text p v = cond (ltb p (length text)) (reacts true text p v) (refused UnexpectedByte p)

out_on : (text : List ℕ) (p : ℕ) (c : Config) (v : Move) → (p < length text → step c p (get_or text p 0) ≡ v) → finish c p ≡ None → out_of text p v ≡ onward true text c p
out_on text p c v e none =
    ⊎_elim
    (λ lt. cond-true _ _ _ (lt-ltb p (length text) lt) ∙ sym (moves true text c p v lt (e lt)))
    (λ ge. cond-false _ _ _ (le-ltb p (length text) ge) ∙ sym (at_end true text c p ge ∙ ap (λ o. finished true o p) none))
    (cases_lt p (length text))

no_letter : (b : ℕ) → word b ≡ false → letter b ≡ false
no_letter b e = grind (arith, nat_tests)

-- if the instruction breaks no rule
out_begins : (w : Keyword) (text : List ℕ) (p q : ℕ) (ts : Items) → AtWord text p → rule_of w (open_blocks ts) q p ≡ [] → command_out text w p q ts ≡ onward true text (begin_of w q p ts) p
out_begins w text p q ts at e = out_on text p (begin_of w q p ts) (commands w q ts p (get_or text p 0)) (λ lt. by w (get_or text p 0) (at lt) e) (none w)
  where
    loops_by : (x : Bool) (b : ℕ) → word b ≡ false → room (open_blocks ts) q p ≡ [] → step (Config.naming q p x ts) p b ≡ cond (blank b) (go (room (open_blocks ts) q p) (Config.naming q p x ts)) stop
    loops_by x b n e = (λ i. cond (blank b) (go (sym e i) (Config.naming q p x ts)) (cond (no_letter b n i) (go [] (Config.loop_name q p x p (b ∷ []) ts)) stop))

    by : (w : Keyword) (b : ℕ) → word b ≡ false → rule_of w (open_blocks ts) q p ≡ [] → step (begin_of w q p ts) p b ≡ commands w q ts p b
    by keyword.Foreach b n e = loops_by false b n e
    by keyword.Joineach b n e = loops_by true b n e
    by w b n e = sym (ap (λ d. late d (step (begin_of w q p ts) p b)) e ∙ late_none (step (begin_of w q p ts) p b))

    none : (w : Keyword) → finish (begin_of w q p ts) p ≡ None
    none w = grind arith

-- a rule about blocks falls due there
out_late : (f : Follow) (r : Cursor) (x : Broken) (xs : List Broken) (o : Fault) (v : Move) → Limited f r (refusal_of x.rule) x.place o → Told (follows f (get_or r.text.now r.pos 0)) v → out_of r.text.now r.pos (late (x ∷ xs) v) ≡ refused o.refusal o.place
out_late f r x xs o v l told =
    ⊎_elim
    (λ lt. cond-true _ _ _ (lt-ltb r.pos (length r.text.now) lt) ∙ due (follows f (get_or r.text.now r.pos 0)) v told (l.here lt))
    (λ ge. cond-false _ _ _ (le-ltb r.pos (length r.text.now) ge) ∙ as_refused o UnexpectedByte r.pos (l.past ge))
    (cases_lt r.pos (length r.text.now))
  where
    due : (b : Bool) (v : Move) → Told b v → o ≡ cond b (fault (refusal_of x.rule) x.place) (fault UnexpectedByte r.pos) → reacts true r.text.now r.pos (late (x ∷ xs) v) ≡ refused o.refusal o.place
    due true stop h e = absurd h
    due true (go d c) h e = as_refused o (refusal_of x.rule) x.place e
    due false stop h e = as_refused o UnexpectedByte r.pos e
    due false (go d c) h e = absurd h

-- no loop's word
abbrev pub Unlooped : Keyword → Type 0
Unlooped keyword.Foreach = ⊥
Unlooped keyword.Joineach = ⊥
Unlooped w = Unit {0}

late_begins : (w : Keyword) (q : ℕ) (ts : Items) (p b : ℕ) → Unlooped w → commands w q ts p b ≡ late (rule_of w (open_blocks ts) q p) (step (begin_of w q p ts) p b)
late_begins w q ts p b n = grind arith

told_begins : (w : Keyword) (q : ℕ) (ts : Items) (p b : ℕ) → Unlooped w → Told (follows (follow_of w) b) (step (begin_of w q p ts) p b)
told_begins keyword.Foreach q ts p b n = absurd n
told_begins keyword.Joineach q ts p b n = absurd n
told_begins keyword.Else q ts p b n = told_complete b (Item.else q p) ts p
told_begins keyword.End q ts p b n = told_complete b (Item.end q p) ts p
told_begins keyword.If q ts p b n = told_begin (start b) b q (Head.if p) ts p
told_begins keyword.While q ts p b n = told_begin (start b) b q (Head.while p) ts p
told_begins keyword.Elif q ts p b n = told_begin (start b) b q (Head.elif p) ts p

command_due : (w : Keyword) (r : Reader) (e : Fault) (ts : Items) → Unlooped w → rule_of w (open_blocks ts) r.«from» r.cursor.pos ≡ record { rule = Rule.four; place = r.«from»; due = r.cursor.pos } ∷ [] → Limited (follow_of w) r.cursor UnmatchedBlock r.«from» e → command_out r.cursor.text.now w r.cursor.pos r.«from» ts ≡ refused e.refusal e.place
command_due w r e ts n is l =
    let b : ℕ = get_or r.cursor.text.now r.cursor.pos 0 in
    let v : Move = step (begin_of w r.«from» r.cursor.pos ts) r.cursor.pos b in
    ap (out_of r.cursor.text.now r.cursor.pos) (late_begins w r.«from» ts r.cursor.pos b n ∙ ap (λ d. late d v) is)
    ∙ out_late (follow_of w) r.cursor (record { rule = Rule.four; place = r.«from»; due = r.cursor.pos }) [] e v l (told_begins w r.«from» ts r.cursor.pos b n)

-- whether another block may open
opened_length : (r : Reader) (bs : List Open) (ts : Items) → Kept r bs ts → length (open_blocks ts) ≡ length bs
opened_length r bs ts k = ap length (sym k.opened) ∙ length-map bs opened_of

pub room_left : (r : Reader) → length r.blocks.items < 12 → (ts : Items) → Kept r r.blocks.items ts → room (open_blocks ts) r.«from» r.cursor.pos ≡ []
room_left r lt ts k = ap (λ b. breaks b Rule.four r.«from» r.cursor.pos) (lt-ltb _ _ (omega (arith, opened_length r r.blocks.items ts k)))

pub room_fails : (w : Keyword) (r : Reader) (e : Fault) → Unlooped w → rule_of w ≡ room → Roomed (follow_of w) r (Err e) → Refused w r e
room_fails w r e one rule n ts k =
    command_due w r e ts one (ap (λ f. f (open_blocks ts) r.«from» r.cursor.pos) rule ∙ ap (λ b. breaks b Rule.four r.«from» r.cursor.pos) (le-ltb _ _ (omega (arith, n.0, opened_length r r.blocks.items ts k)))) n.1

-- whether the innermost open block is an IF without an ELSE
abbrev is_choice_open : List Open → Bool
is_choice_open bs = choosing (map opened_of bs)

choosing_is : (bs : List Open) (o : Open) → top bs ≡ Some o → o.kind ≡ kind.Choice → is_choice_open bs ≡ true
choosing_is [] o t c = absurd (cc)
choosing_is (b ∷ bs) o t c = by b.kind (let e : b ≡ o = cc in ap (λ (o : Open). o.kind) e ∙ c)
  where
    by : (k : Kind) → k ≡ kind.Choice → is_choice (kind_means k) ≡ true
    by k e = grind arith

choosing_not : (bs : List Open) → ((o : Open) → top bs ≡ Some o → o.kind ≡ kind.Choice → ⊥) → is_choice_open bs ≡ false
choosing_not [] never = refl
choosing_not (b ∷ bs) never = by b.kind (never b refl)
  where
    by : (k : Kind) → (k ≡ kind.Choice → ⊥) → is_choice (kind_means k) ≡ false
    by k never = grind arith

pub choice_there : (f : Follow) (r : Reader) (o : Open) → Chosen f r (Ok o) → (ts : Items) → Kept r r.blocks.items ts → in_choice (open_blocks ts) r.«from» r.cursor.pos ≡ []
choice_there f r o ch ts k = ap (λ os. in_choice os r.«from» r.cursor.pos) (sym k.opened) ∙ ap (λ b. breaks b Rule.four r.«from» r.cursor.pos) (choosing_is r.blocks.items o ch.0 ch.1)

pub choice_fails : (w : Keyword) (r : Reader) (e : Fault) → Unlooped w → rule_of w ≡ in_choice → Chosen (follow_of w) r (Err e) → Refused w r e
choice_fails w r e one rule n ts k =
    command_due w r e ts one (ap (λ f. f (open_blocks ts) r.«from» r.cursor.pos) rule ∙ ap (λ os. in_choice os r.«from» r.cursor.pos) (sym k.opened) ∙ ap (λ b. breaks b Rule.four r.«from» r.cursor.pos) (choosing_not r.blocks.items n.0)) n.1

-- the innermost of the open blocks
top_is : (bs : List Open) (o : Open) → top bs ≡ Some o → bs ≡ o ∷ rest bs
top_is [] o e = absurd (cc)
top_is (b ∷ bs) o e = let same : b ≡ o = cc in ap (λ o. o ∷ bs) same

pub block_there : (r : Reader) (o : Open) → top r.blocks.items ≡ Some o → (ts : Items) → Kept r r.blocks.items ts → in_block (open_blocks ts) r.«from» r.cursor.pos ≡ []
block_there r o is ts k = ap (λ os. in_block os r.«from» r.cursor.pos) (sym k.opened) ∙ ap (λ bs. in_block (map opened_of bs) r.«from» r.cursor.pos) (top_is r.blocks.items o is)

-- the words of instructions that have a test
pub record Tests (w : Keyword) : Type 0 where
  pub head : ℕ → Head
  pub item : ℕ → ℕ → Expr → Item
  pub begins : (q p : ℕ) (ts : Items) → begin_of w q p ts ≡ Config.want (Stack.top q (head p) ts)
  pub heading : (p : ℕ) → Heading (head p)
  pub top : (p : ℕ) → head_inside (head p) ≡ inside.Top
  pub completes : (p q j : ℕ) (ts : Items) (e : Expr) → Machine.complete p q (head j) e ts ≡ go [] (Config.plain (p + 1) (Items.then ts (item q j e)))

abbrev pub if_tests : Tests keyword.If
if_tests = record { head = Head.if; item = λ q j e. Item.opens q j (Opening.if e); begins = λ q p ts. refl; heading = λ p. tt; top = λ p. refl; completes = λ p q j ts e. refl }

abbrev pub while_tests : Tests keyword.While
while_tests = record { head = Head.while; item = λ q j e. Item.opens q j (Opening.while e); begins = λ q p ts. refl; heading = λ p. tt; top = λ p. refl; completes = λ p q j ts e. refl }

abbrev pub elif_tests : Tests keyword.Elif
elif_tests = record { head = Head.elif; item = Item.elif; begins = λ q p ts. refl; heading = λ p. tt; top = λ p. refl; completes = λ p q j ts e. refl }

-- a test is read up to its `$`, or refused; r₁ stands where the word ends
test_begins : (w : Keyword) (a : Tests w) (r : Reader) (r₁ : Cursor) (ts : Items) → AtWord r.cursor.text.now r.cursor.pos → Lawful w r → Kept r r.blocks.items ts → r₁.pos ≡ r.cursor.pos → command_out r.cursor.text.now w r.cursor.pos r.«from» ts ≡ onward true r.cursor.text.now (Config.want (Stack.top r.«from» (a.head r.cursor.pos) ts)) r₁.pos
test_begins w a r r₁ ts at law kp pos = out_begins w r.cursor.text.now r.cursor.pos r.«from» ts at (law ts kp) ∙ λ i. onward true r.cursor.text.now (a.begins r.«from» r.cursor.pos ts i) (sym pos i)

tested_on : (w : Keyword) (a : Tests w) (r : Reader) (r₁ m r₂ : Cursor) (c : Condition) (ts : Items) → AtWord r.cursor.text.now r.cursor.pos → Lawful w r → Kept r r.blocks.items ts → r₁.pos ≡ r.cursor.pos → (x : Conditions r.cursor.text.now inside.Top r₁ c m) → Finished r.cursor.text.now m (Ok tt) r₂ → command_out r.cursor.text.now w r.cursor.pos r.«from» ts ≡ onward true r.cursor.text.now (Config.plain r₂.pos (Items.then ts (a.item r.«from» r.cursor.pos x.tree))) r₂.pos
tested_on w a r r₁ m r₂ c ts at law kp pos x f =
    let h : Head = a.head r.cursor.pos in
    test_begins w a r r₁ ts at law kp pos
    ∙ x.runs (Stack.top r.«from» h ts) (wanting r.cursor.text.now r₁.pos inside.Top r.«from» h ts (a.heading r.cursor.pos) (a.top r.cursor.pos))
    ∙ dollar_on r.cursor.text.now m.pos r₂.pos ts (a.item r.«from» r.cursor.pos x.tree) x.tree (Stack.top r.«from» h ts) f.0 (a.completes m.pos r.«from» r.cursor.pos ts x.tree) f.2.pos

pub test_fails : (w : Keyword) (a : Tests w) (r : Reader) (r₁ r₂ : Cursor) (e : Fault) → AtWord r.cursor.text.now r.cursor.pos → Lawful w r → r₁.text ≡ r.cursor.text → r₁.pos ≡ r.cursor.pos → Tested r₁.text.now r₁ (Err e) r₂ → Refused w r e
test_fails w a r r₁ r₂ e at law same pos t ts kp =
    let text : List ℕ = r.cursor.text.now in
    let h : Head = a.head r.cursor.pos in
    let fits : Wanting text r₁.pos 1 (record { inside = inside.Top; left = 12 }) (Stack.top r.«from» h ts) = wanting text r₁.pos inside.Top r.«from» h ts (a.heading r.cursor.pos) (a.top r.cursor.pos) in
    test_begins w a r r₁ ts at law kp pos
    ∙ ⊎_elim
    (λ n. n (Stack.top r.«from» h ts) fits)
    (λ n. let x : Conditions text inside.Top r₁ n.0 n.1 = n.2 in x.runs (Stack.top r.«from» h ts) fits ∙ unfinished text h r.«from» ts n.1 r₂ e x.tree (a.heading r.cursor.pos) (a.top r.cursor.pos) x.stops n.3)
    (there (λ u. Tested u r₁ (Err e) r₂) same t)

-- what a test needs is little
pub test_small : (text : List ℕ) (r : Cursor) (c : Condition) (r' : Cursor) → Tested text r (Ok c) r' → c.need ≤ 4096
test_small text r c r' t = omega (arith, t.1.small, t.0.within, t.0.short)

-- the words of loops, and where their lists end
abbrev pub loop_word : Bool → Keyword
loop_word true = keyword.Joineach
loop_word false = keyword.Foreach

abbrev pub list_inside : Bool → Inside
list_inside true = inside.Join
list_inside false = inside.Top

-- a loop's name and its list are read, or one of them is refused
loop_begins : (e : Bool) (r : Reader) (ts : Items) → AtWord r.cursor.text.now r.cursor.pos → length r.blocks.items < 12 → Kept r r.blocks.items ts → command_out r.cursor.text.now (loop_word e) r.cursor.pos r.«from» ts ≡ onward true r.cursor.text.now (Config.naming r.«from» r.cursor.pos e ts) r.cursor.pos
loop_begins true r ts at lt kp = out_begins keyword.Joineach r.cursor.text.now r.cursor.pos r.«from» ts at (room_left r lt ts kp)
loop_begins false r ts at lt kp = out_begins keyword.Foreach r.cursor.text.now r.cursor.pos r.«from» ts at (room_left r lt ts kp)

list_wanting : (text : List ℕ) (p q : ℕ) (e : Bool) (j x y : ℕ) (ts : Items) → Wanting text p 1 (record { inside = list_inside e; left = 12 }) (Stack.top q (loop_head e j x y) ts)
list_wanting text p q true j x y ts = wanting text p inside.Join q (Head.joineach j x y) ts tt refl
list_wanting text p q false j x y ts = wanting text p inside.Top q (Head.foreach j x y) ts tt refl

headed_on : (e : Bool) (r : Reader) (n : Span ℕ) (c : Condition) (r₁ : Cursor) (ts : Items) → AtWord r.cursor.text.now r.cursor.pos → length r.blocks.items < 12 → Kept r r.blocks.items ts → (t : Headed r.cursor.text.now (list_inside e) r.cursor (Ok (n, c)) r₁) → command_out r.cursor.text.now (loop_word e) r.cursor.pos r.«from» ts ≡ onward true r.cursor.text.now (Config.aft t.2.tree (Stack.top r.«from» (loop_head e r.cursor.pos n.«from» n.to) ts)) r₁.pos
headed_on e r n c r₁ ts at lt kp t =
    loop_begins e r ts at lt kp
    ∙ t.1.runs r.«from» r.cursor.pos e ts
    ∙ t.2.runs (Stack.top r.«from» (loop_head e r.cursor.pos n.«from» n.to) ts) (list_wanting r.cursor.text.now t.0.pos r.«from» e r.cursor.pos n.«from» n.to ts)

pub head_fails : (e : Bool) (r : Reader) (f : Fault) (r' : Cursor) → AtWord r.cursor.text.now r.cursor.pos → length r.blocks.items < 12 → Headed r.cursor.text.now (list_inside e) r.cursor (Err f) r' → Refused (loop_word e) r f
head_fails e r f r' at lt h ts kp =
    loop_begins e r ts at lt kp
    ∙ ⊎_elim
    (λ w. w r.«from» r.cursor.pos e ts)
    (λ w.
    let names : LoopNames r.cursor.text.now r.cursor w.0 w.1 = w.2 in
    names.runs r.«from» r.cursor.pos e ts ∙ w.3 (Stack.top r.«from» (loop_head e r.cursor.pos w.0.«from» w.0.to) ts) (list_wanting r.cursor.text.now w.1.pos r.«from» e r.cursor.pos w.0.«from» w.0.to ts))
    h

-- behind the list no `$` stands, or the delimiter is refused
headed_text : (i : Inside) (r : Cursor) (n : Span ℕ) (c : Condition) (r₁ : Cursor) → Headed r.text.now i r (Ok (n, c)) r₁ → r₁.text ≡ r.text
headed_text i r n c r₁ t = t.2.same_text ∙ t.1.same.text

pub foreach_finish : (r : Reader) (n : Span ℕ) (c : Condition) (e : Fault) (r₁ r₂ : Cursor) → AtWord r.cursor.text.now r.cursor.pos → length r.blocks.items < 12 → Headed r.cursor.text.now inside.Top r.cursor (Ok (n, c)) r₁ → Finished r₁.text.now r₁ (Err e) r₂ → Refused keyword.Foreach r e
foreach_finish r n c e r₁ r₂ at lt t f ts kp =
    headed_on false r n c r₁ ts at lt kp t
    ∙ unfinished r.cursor.text.now (Head.foreach r.cursor.pos n.«from» n.to) r.«from» ts r₁ r₂ e t.2.tree tt refl t.2.stops (there (λ u. Finished u r₁ (Err e) r₂) (headed_text inside.Top r.cursor n c r₁ t) f)

pub joineach_finish : (r : Reader) (n : Span ℕ) (c : Condition) (e : Fault) (r₁ r₂ : Cursor) → AtWord r.cursor.text.now r.cursor.pos → length r.blocks.items < 12 → Headed r.cursor.text.now inside.Join r.cursor (Ok (n, c)) r₁ → Delimited r₁.text.now r₁ (Err e) r₂ → Refused keyword.Joineach r e
joineach_finish r n c e r₁ r₂ at lt t f ts kp =
    headed_on true r n c r₁ ts at lt kp t
    ∙ there (λ u. Delimited u r₁ (Err e) r₂) (headed_text inside.Join r.cursor n c r₁ t) f t.2.stops r.«from» r.cursor.pos n.«from» n.to t.2.tree ts

-- what a loop's list needs is little
pub head_small : (text : List ℕ) (i : Inside) (r : Cursor) (p : Span ℕ × Condition) (r' : Cursor) → Headed text i r (Ok p) r' → p.1.need ≤ 4096
head_small text i r p r' t = omega (arith, t.2.small, r'.within, r'.short)

-- how many loops stand open
loops_marked : (n : ℕ) (bs : List Open) → Looped n bs → n ≡ loops (map mark_of bs)
loops_marked n [] l = l
loops_marked n (o ∷ os) l = l.0 ∙ ap (λ m. cond (is_each_in o.kind) (suc m) m) (loops_marked o.loops os l.1)

loops_within : (n : ℕ) (bs : List Open) → Looped n bs → n ≤ length bs
loops_within n [] l = omega (arith, l)
loops_within n (o ∷ os) l = grind (arith, l.0, loops_within o.loops os l.1)

pub loops_few : (r : Reader) (bs : List Open) → Standing r bs → r.loops ≤ 12
loops_few r bs s = omega (arith, s.few, loops_within r.loops bs s.looped)

pub armed_more : (n m : ℕ) (bs : List Open) → n ≤ m → Armed n bs → Armed m bs
armed_more n m [] le a = tt
armed_more n m (o ∷ os) le a = (omega (arith, a.0), armed_more n m os le a.1)

-- the same blocks stand open, with as many loops and no fewer nodes
pub standing_on : (r r' : Reader) (bs : List Open) → r'.loops ≡ r.loops → r.cursor.table.len ≤ r'.cursor.table.len → Standing r bs → Standing r' bs
standing_on r r' bs lp le s = record { looped = subst (λ n. Looped n bs) (sym lp) s.looped; armed = armed_more r.cursor.table.len r'.cursor.table.len bs le s.armed; few = s.few }

-- what the reader has read, it has read with the same table, need and loops
pub kept_on : (r r' : Reader) (bs : List Open) (ts : Items) → r'.cursor.table ≡ r.cursor.table → r'.stack ≡ r.stack → r'.loops ≡ r.loops → Kept r bs ts → Kept r' bs ts
kept_on r r' bs ts table stack lp k = record { holds = subst (λ t. Holds t (laid ts).nodes) (sym table) k.holds; marks = k.marks; opened = k.opened; stack = stack ∙ k.stack; around = lp ∙ k.around }

-- the same cursor for what is said of it
passed_on : {r m r' : Cursor} → Passed r m → r'.text ≡ m.text → r'.state ≡ m.state → r'.pos ≡ m.pos → r'.table.len ≡ m.table.len → r'.table.nodes ≡ m.table.nodes → Passed r r'
passed_on p text state pos len nodes = record { text = text ∙ p.text; outward = state ∙ p.outward; onwards = omega (arith, pos, p.onwards); few = omega (arith, len, pos, p.few); fewer = omega (arith, len, nodes, p.fewer); more = omega (arith, len, p.more) }

-- an instruction is read
instruction : (out : ℕ → Items → Out) (r r' : Reader) (bs' : List Open) → r'.blocks.items ≡ bs' → Passed r.cursor r'.cursor → Standing r' bs' → ((ts : Items) → Kept r r.blocks.items ts → (t : Item) × Kept r' bs' (Items.then ts t) × (out r.«from» ts ≡ onward true r.cursor.text.now (Config.plain r'.cursor.pos (Items.then ts t)) r'.cursor.pos)) → Instruction out r r.blocks.items r' r'.blocks.items
instruction out r r' bs' e p s reads = subst (Instruction out r r.blocks.items r') (sym e) (record { text = p.text; outward = p.outward; onwards = p.onwards; few = p.few; fewer = p.fewer; standing = s; reads = reads })

-- The expression e of a block's instruction is read, with what ends it; a node holds the place of the instruction's own.
pub record Framed (r : Cursor) (e : Expr) (c : Condition) (r' : Cursor) : Type 0 where
  pub here : c.at ≡ r.table.len
  pub told : c.need ≡ need e
  pub size : c.size ≡ length (flatten e)
  pub passed : Passed r r'
  pub grew : Grew r.table (node.End ∷ flatten e) r'.table

framed : (text : List ℕ) (i : Inside) (c : Condition) (r m r₁ r₂ : Cursor) → MovedTo r m.pos m → r.pos ≤ m.pos → (x : Conditions text i m c r₁) → r₂.text ≡ r₁.text → r₂.state ≡ Plain → r₂.table ≡ r₁.table → r₁.pos < r₂.pos → Framed r x.tree c r₂
framed text i c r m r₁ r₂ on le x same out table lt =
    let grew : Grew r.table (node.End ∷ flatten x.tree) r₂.table = subst (λ (t : Table × Table). Grew t.0 (node.End ∷ flatten x.tree) t.1) (λ i. (on.table i, sym table i)) x.grew in
    let len : r₂.table.len ≡ r₁.table.len = ap (λ (t : Table). t.len) table in
    record {
      here = x.here ∙ ap (λ (t : Table). t.len) on.table;
      told = x.told;
      size = omega (arith, x.sized, x.grew.longer);
      passed = record {
        text = same ∙ x.same_text ∙ on.text;
        outward = out;
        onwards = omega (arith, x.onwards);
        few = omega (arith, len, x.few);
        fewer = omega (arith, len, ap (λ (t : Table). t.nodes) table, x.fewer);
        more = omega (arith, grew.longer);
      };
      grew = grew;
    }

pub test_framed : (text : List ℕ) (c : Condition) (r r₂ : Cursor) → (t : Tested text r (Ok c) r₂) → Framed r t.1.tree c r₂
test_framed text c r r₂ t =
    let f : Finished text t.0 (Ok tt) r₂ = t.2 in
    framed text inside.Top c r r t.0 r₂ (record { text = refl; state = refl; pos = refl; table = refl }) (omega arith) t.1 f.2.text f.1 f.2.table (omega (arith, f.2.pos))

-- a block that opens
abbrev pub sort_of : Opening → Kind
sort_of (Opening.if c) = kind.Choice
sort_of (Opening.while c) = kind.Repeat
sort_of h = kind.Each

sort_each : (h : Opening) → is_each_in (sort_of h) ≡ is_each h
sort_each h = grind arith

sort_means : (h : Opening) → kind_means (sort_of h) ≡ kind_of h
sort_means h = grind arith

opening_size : (q : ℕ) (h : Opening) → head_size (opening_node q h 0) ≡ length (flatten (opening_expr h))
opening_size q h = grind arith

-- the reader r at the cursor m
abbrev pub reader_at : (r : Reader) → Cursor → r.blocks.capacity ≡ 12 → Reader
reader_at r m room = record { cursor = m; blocks = r.blocks; «from» = r.«from»; stack = r.stack; loops = r.loops; room = room }

opens_kept : (r r' : Reader) (m : Cursor) (full : r.blocks.capacity ≡ 12) (h : Opening) (head : Node) (c : Condition) (ts : Items) → head ≡ opening_node r.«from» h 0 → Framed r.cursor (opening_expr h) c m → Opens (reader_at r m full) (sort_of h) head c r' → Kept r r.blocks.items ts → Kept r' (record { kind = sort_of h; place = r.«from»; at = c.at; head = head; loops = r.loops } ∷ r.blocks.items) (Items.then ts (Item.opens r.«from» r.cursor.pos h))
unfolding laid open_blocks
opens_kept r r' m full h head c ts hd f o kp =
    let here : c.at ≡ length (laid ts).nodes = f.here ∙ kp.holds.many in
    let table : r'.cursor.table ≡ patched m.table r.cursor.table.len (opening_node r.«from» h 0) = o.table ∙ λ i. patched m.table (f.here i) (hd i) in
    record {
      holds = subst (λ t. Holds t ((laid ts).nodes ++ opening_node r.«from» h 0 ∷ flatten (opening_expr h))) (sym table) ((grew_patch node.End (opening_node r.«from» h 0) (flatten (opening_expr h)) (sym (opening_weight r.«from» h 0)) f.grew).holds (laid ts).nodes kp.holds);
      marks = λ i. record { at = here i; head = hd i; each = sort_each h i } ∷ kp.marks i;
      opened = λ i. record { kind = sort_means h i; place = r.«from» } ∷ kp.opened i;
      stack = omega (arith, o.stack, kp.stack, kp.around, f.told);
      around = o.loops ∙ λ i. cond (sort_each h i) (suc (kp.around i)) (kp.around i);
    }

-- a block more stands open
pub opened : (w : Keyword) (r r' : Reader) (m : Cursor) (full : r.blocks.capacity ≡ 12) (h : Opening) (head : Node) (c : Condition) → Entered r r.blocks.items → length r.blocks.items < 12 → head ≡ opening_node r.«from» h 0 → Framed r.cursor (opening_expr h) c m → ((ts : Items) → Kept r r.blocks.items ts → command_out r.cursor.text.now w r.cursor.pos r.«from» ts ≡ onward true r.cursor.text.now (Config.plain m.pos (Items.then ts (Item.opens r.«from» r.cursor.pos h))) m.pos) → Opens (reader_at r m full) (sort_of h) head c r' → Instructed (command_out r.cursor.text.now w r.cursor.pos) r r.blocks.items (Ok tt) r' r'.blocks.items
opened w r r' m full h head c en lt hd f runs new =
    let len : r'.cursor.table.len ≡ m.table.len = ap (λ (t : Table). t.len) new.table in
    let nodes : r'.cursor.table.nodes ≡ m.table.nodes = ap (λ (t : Table). t.nodes) new.table in
    let sized : head_size head ≡ length (flatten (opening_expr h)) = ap head_size hd ∙ opening_size r.«from» h in
    instruction (command_out r.cursor.text.now w r.cursor.pos) r r' (record { kind = sort_of h; place = r.«from»; at = c.at; head = head; loops = r.loops } ∷ r.blocks.items) new.blocks
    (passed_on f.passed new.text new.state new.pos len nodes)
    (record {
      looped = (new.loops, en.standing.looped);
      armed = (omega (arith, len, f.here, sized, f.grew.longer), armed_more r.cursor.table.len r'.cursor.table.len r.blocks.items (omega (arith, len, f.passed.more)) en.standing.armed);
      few = omega arith;
    })
    (λ ts kp. (Item.opens r.«from» r.cursor.pos h, opens_kept r r' m full h head c ts hd f new kp, runs ts kp ∙ ap (λ p. onward true r.cursor.text.now (Config.plain p (Items.then ts (Item.opens r.«from» r.cursor.pos h))) p) (sym new.pos)))

-- IF and WHILE
pub test_opened : (w : Keyword) (a : Tests w) (r r' : Reader) (r₁ : Cursor) (full : r.blocks.capacity ≡ 12) (o : Expr → Opening) (head : Node) (c : Condition) → Entered r r.blocks.items → AtWord r.cursor.text.now r.cursor.pos → rule_of w ≡ room → length r.blocks.items < 12 → (t : Tested r.cursor.text.now r.cursor (Ok c) r₁) → ((q j : ℕ) (e : Expr) → a.item q j e ≡ Item.opens q j (o e)) → opening_expr (o t.1.tree) ≡ t.1.tree → (c.size ≡ length (flatten t.1.tree) → head ≡ opening_node r.«from» (o t.1.tree) 0) → Opens (reader_at r r₁ full) (sort_of (o t.1.tree)) head c r' → Instructed (command_out r.cursor.text.now w r.cursor.pos) r r.blocks.items (Ok tt) r' r'.blocks.items
test_opened w a r r' r₁ full o head c en at rule lt t item expr hd new =
    let f : Framed r.cursor t.1.tree c r₁ = test_framed r.cursor.text.now c r.cursor r₁ t in
    opened w r r' r₁ full (o t.1.tree) head c en lt (hd f.size) (subst (λ e. Framed r.cursor e c r₁) (sym expr) f)
    (λ ts kp.
    tested_on w a r r.cursor t.0 r₁ c ts at (λ ts kp. ap (λ f. f (open_blocks ts) r.«from» r.cursor.pos) rule ∙ room_left r lt ts kp) kp refl t.1 t.2
    ∙ ap (λ t. onward true r.cursor.text.now (Config.plain r₁.pos (Items.then ts t)) r₁.pos) (item r.«from» r.cursor.pos t.1.tree))
    new

-- FOREACH and JOINEACH
list_framed : (i : Inside) (n : Span ℕ) (c : Condition) (r r₁ r₂ : Cursor) → (t : Headed r.text.now i r (Ok (n, c)) r₁) → r₂.text ≡ r₁.text → r₂.state ≡ Plain → r₂.table ≡ r₁.table → r₁.pos < r₂.pos → Framed r t.2.tree c r₂
list_framed i n c r r₁ r₂ t = framed r.text.now i c r t.0 r₁ r₂ t.1.same (omega (arith, t.1.onwards, t.1.some, t.1.ends)) t.2

loop_span : (i : Inside) (n s : Span ℕ) (c : Condition) (r r₁ : Cursor) → Headed r.text.now i r (Ok (n, c)) r₁ → s ≡ from_to (min n.«from» 65535) (min n.to 65535) → s ≡ from_to n.«from» n.to
loop_span i n s c r r₁ t e = narrowed n.«from» n.to s e (omega (arith, t.1.some, t.1.ends, t.0.within, t.0.short)) (omega (arith, t.1.ends, t.0.within, t.0.short))

pub foreach_opened : (r r' : Reader) (full : r.blocks.capacity ≡ 12) (n s : Span ℕ) (c : Condition) (r₁ r₂ : Cursor) → Entered r r.blocks.items → AtWord r.cursor.text.now r.cursor.pos → length r.blocks.items < 12 → s ≡ from_to (min n.«from» 65535) (min n.to 65535) → Headed r.cursor.text.now inside.Top r.cursor (Ok (n, c)) r₁ → Finished r₁.text.now r₁ (Ok tt) r₂ → Opens (reader_at r r₂ full) kind.Each (node.Foreach r.«from» s c.size 0) c r' → Instructed (command_out r.cursor.text.now keyword.Foreach r.cursor.pos) r r.blocks.items (Ok tt) r' r'.blocks.items
foreach_opened r r' full n s c r₁ r₂ en at lt narrow t f new =
    let f' : Finished r.cursor.text.now r₁ (Ok tt) r₂ = there (λ u. Finished u r₁ (Ok tt) r₂) (headed_text inside.Top r.cursor n c r₁ t) f in
    let framed : Framed r.cursor t.2.tree c r₂ = list_framed inside.Top n c r.cursor r₁ r₂ t f.2.text f.1 f.2.table (omega (arith, f.2.pos)) in
    opened keyword.Foreach r r' r₂ full (Opening.foreach n.«from» n.to t.2.tree) (node.Foreach r.«from» s c.size 0) c en lt (λ i. node.Foreach r.«from» (loop_span inside.Top n s c r.cursor r₁ t narrow i) (framed.size i) 0) framed
    (λ ts kp.
    headed_on false r n c r₁ ts at lt kp t
    ∙ dollar_on r.cursor.text.now r₁.pos r₂.pos ts (Item.opens r.«from» r.cursor.pos (Opening.foreach n.«from» n.to t.2.tree)) t.2.tree (Stack.top r.«from» (Head.foreach r.cursor.pos n.«from» n.to) ts) f'.0 refl f'.2.pos)
    new

pub joineach_opened : (r r' : Reader) (full : r.blocks.capacity ≡ 12) (n s d' : Span ℕ) (c : Condition) (d : Quote) (r₁ r₂ : Cursor) → Entered r r.blocks.items → AtWord r.cursor.text.now r.cursor.pos → length r.blocks.items < 12 → s ≡ from_to (min n.«from» 65535) (min n.to 65535) → d' ≡ from_to (min d.span.«from» 65535) (min d.span.to 65535) → Headed r.cursor.text.now inside.Join r.cursor (Ok (n, c)) r₁ → Delimits r₁.text.now r₁ d r₂ → Opens (reader_at r r₂ full) kind.Each (node.Joineach r.«from» s c.size d' 0) c r' → Instructed (command_out r.cursor.text.now keyword.Joineach r.cursor.pos) r r.blocks.items (Ok tt) r' r'.blocks.items
joineach_opened r r' full n s d' c d r₁ r₂ en at lt narrow narrow' t f new =
    let f' : Delimits r.cursor.text.now r₁ d r₂ = there (λ u. Delimits u r₁ d r₂) (headed_text inside.Join r.cursor n c r₁ t) f in
    let framed : Framed r.cursor t.2.tree c r₂ = list_framed inside.Join n c r.cursor r₁ r₂ t f.same_text f.outward f.table f.onwards in
    let span : d' ≡ d.span = narrowed d.span.«from» d.span.to d' narrow' (omega (arith, f.«from», r₂.within, r₂.short)) (omega (arith, f.to, r₂.within, r₂.short)) in
    opened keyword.Joineach r r' r₂ full (Opening.joineach n.«from» n.to t.2.tree d) (node.Joineach r.«from» s c.size d' 0) c en lt (λ i. node.Joineach r.«from» (loop_span inside.Join n s c r.cursor r₁ t narrow i) (framed.size i) (span i) 0) framed
    (λ ts kp. headed_on true r n c r₁ ts at lt kp t ∙ f'.runs r.«from» r.cursor.pos n.«from» n.to t.2.tree ts)
    new

-- the reader r' at the cursor r₁ with the table t, the need n, m loops and the open blocks os
pub record Came (r₁ : Cursor) (t : Table) (n m : ℕ) (os : List Open) (r' : Reader) : Type 0 where
  pub text : r'.cursor.text ≡ r₁.text
  pub state : r'.cursor.state ≡ r₁.state
  pub pos : r'.cursor.pos ≡ r₁.pos
  pub table : r'.cursor.table ≡ t
  pub stack : r'.stack ≡ n
  pub loops : r'.loops ≡ m
  pub blocks : r'.blocks.items ≡ os

-- the open block o goes on with another instruction's node, at n
abbrev pub rearmed : Open → Kind → ℕ → Node → Open
rearmed o k n head = record { kind = k; place = o.place; at = n; head = head; loops = o.loops }

arm_standing : (r r' : Reader) (o : Open) (os : List Open) (k : Kind) (n : ℕ) (head : Node) → Standing r (o ∷ os) → is_each_in k ≡ is_each_in o.kind → r'.loops ≡ r.loops → n + 1 + head_size head ≤ r'.cursor.table.len → r.cursor.table.len ≤ r'.cursor.table.len → Standing r' (rearmed o k n head ∷ os)
arm_standing r r' o os k n head s e lp le more =
    record {
      looped = (lp ∙ s.looped.0 ∙ ap (λ b. cond b (suc o.loops) o.loops) (sym e), s.looped.1);
      armed = (le, armed_more r.cursor.table.len r'.cursor.table.len os more s.armed.1);
      few = s.few;
    }

arm_marks : (r : Reader) (o : Open) (os : List Open) (ts : Items) (k : Kind) (n : ℕ) (x y : Node) → Kept r (o ∷ os) ts → n ≡ length (laid ts).nodes → x ≡ y → is_each_in k ≡ is_each_in o.kind → map mark_of (rearmed o k n x ∷ os) ≡ remarked (length (laid ts).nodes) y (laid ts).marks
arm_marks r o os ts k n x y kp here same e = (λ i. record { at = here i; head = same i; each = e i } ∷ map mark_of os) ∙ ap (remarked (length (laid ts).nodes) y) kp.marks

arm_loops : (r : Reader) (o : Open) (os : List Open) (ts : Items) (n : ℕ) (head : Node) → Kept r (o ∷ os) ts → r.loops ≡ loops (remarked n head (laid ts).marks)
arm_loops r o os ts n head kp = kp.around ∙ ap loops (sym kp.marks) ∙ ap (λ ms. loops (remarked n head ms)) kp.marks

-- ELIF: an arm of a choice is complete, and the next one stands open
abbrev pub elif_open : Reader → Open → Condition → Open
elif_open r o c = rearmed o o.kind c.at (node.Elif r.«from» c.size 0)

elif_kept : (r r' : Reader) (o : Open) (os : List Open) (r₁ r₂ : Cursor) (e : Expr) (c : Condition) (ts : Items) → r₁.table ≡ arm_closed r.cursor.table o → Framed r₁ e c r₂ → Came r₂ (patched r₂.table c.at (node.Elif r.«from» c.size 0)) (max r.stack (c.need + r.loops)) r.loops (elif_open r o c ∷ os) r' → Kept r (o ∷ os) ts → Kept r' (elif_open r o c ∷ os) (Items.then ts (Item.elif r.«from» r.cursor.pos e))
unfolding laid open_blocks
elif_kept r r' o os r₁ r₂ e c ts arm f g kp =
    let cs : List Node = closed (laid ts).nodes (laid ts).marks in
    let hd : node.Elif r.«from» c.size 0 ≡ elif_node r.«from» e 0 = ap (λ n. node.Elif r.«from» n 0) f.size in
    let here : c.at ≡ length (laid ts).nodes = f.here ∙ ap (λ (t : Table). t.len) arm ∙ kp.holds.many in
    let table : r'.cursor.table ≡ patched r₂.table r₁.table.len (elif_node r.«from» e 0) = g.table ∙ λ i. patched r₂.table (f.here i) (hd i) in
    record {
      holds = subst (λ t. Holds t (cs ++ elif_node r.«from» e 0 ∷ flatten e)) (sym table) ((grew_patch node.End (elif_node r.«from» e 0) (flatten e) refl f.grew).holds cs (subst (λ t. Holds t cs) (sym arm) (holds_closed r o os ts kp)));
      marks = arm_marks r o os ts o.kind c.at (node.Elif r.«from» c.size 0) (elif_node r.«from» e 0) kp here hd refl;
      opened = kp.opened;
      stack = omega (arith, g.stack, kp.stack, kp.around, f.told);
      around = g.loops ∙ arm_loops r o os ts (length (laid ts).nodes) (elif_node r.«from» e 0) kp;
    }

pub elif_done : (r r₁ r' : Reader) (o : Open) (r₂ : Cursor) (c : Condition) → Entered r r.blocks.items → AtWord r.cursor.text.now r.cursor.pos → Chosen follow.Begin r (Ok o) → WithTable r (arm_closed r.cursor.table o) r₁ → Tested r₁.cursor.text.now r₁.cursor (Ok c) r₂ → Came r₂ (patched r₂.table c.at (node.Elif r.«from» c.size 0)) (max r.stack (c.need + r.loops)) r.loops (elif_open r o c ∷ rest r.blocks.items) r' → Instructed (command_out r.cursor.text.now keyword.Elif r.cursor.pos) r r.blocks.items (Ok tt) r' r'.blocks.items
elif_done r r₁ r' o r₂ c en at ch arm t g =
    let text : List ℕ = r.cursor.text.now in
    let os : List Open = rest r.blocks.items in
    let e : r.blocks.items ≡ o ∷ os = top_is r.blocks.items o ch.0 in
    let t' : Tested text r₁.cursor (Ok c) r₂ = there (λ u. Tested u r₁.cursor (Ok c) r₂) arm.text t in
    let f : Framed r₁.cursor t'.1.tree c r₂ = test_framed text c r₁.cursor r₂ t' in
    let len₁ : r₁.cursor.table.len ≡ r.cursor.table.len = ap (λ (t : Table). t.len) arm.table in
    let len : r'.cursor.table.len ≡ r₂.table.len = ap (λ (t : Table). t.len) g.table in
    let item : Items → Items = λ ts. Items.then ts (Item.elif r.«from» r.cursor.pos t'.1.tree) in
    instruction (command_out text keyword.Elif r.cursor.pos) r r' (elif_open r o c ∷ os) g.blocks
    (passed_from arm.text (omega (arith, arm.pos)) (omega (arith, len₁)) (passed_on f.passed g.text g.state g.pos len (ap (λ (t : Table). t.nodes) g.table)))
    (arm_standing r r' o os o.kind c.at (node.Elif r.«from» c.size 0) (subst (Standing r) e en.standing) refl g.loops (omega (arith, len, f.here, f.size, f.grew.longer)) (omega (arith, len, len₁, f.passed.more)))
    (λ ts kp. (
      Item.elif r.«from» r.cursor.pos t'.1.tree,
      elif_kept r r' o os r₁.cursor r₂ t'.1.tree c ts arm.table f g (subst (λ bs. Kept r bs ts) e kp),
      tested_on keyword.Elif elif_tests r r₁.cursor t'.0 r₂ c ts at (choice_there follow.Begin r o ch) kp arm.pos t'.1 t'.2 ∙ ap (λ z. onward true text (Config.plain z (item ts)) z) (sym g.pos),
    ))

-- ELSE and END, behind which the instruction is complete
bare_on : (w : Keyword) (t : Item) (r : Reader) (r₁ : Cursor) (ts : Items) → begin_of w r.«from» r.cursor.pos ts ≡ Config.bare t ts → AtWord r.cursor.text.now r.cursor.pos → Lawful w r → Kept r r.blocks.items ts → Completes r.cursor.text.now r.cursor r₁ → command_out r.cursor.text.now w r.cursor.pos r.«from» ts ≡ onward true r.cursor.text.now (Config.plain r₁.pos (Items.then ts t)) r₁.pos
bare_on w t r r₁ ts bare at law kp c = out_begins w r.cursor.text.now r.cursor.pos r.«from» ts at (law ts kp) ∙ ap (λ c. onward true r.cursor.text.now c r.cursor.pos) bare ∙ bare_completes r.cursor r₁ t ts c

pub bare_fails : (w : Keyword) (t : Item) (r : Reader) (e : Fault) → ((ts : Items) → begin_of w r.«from» r.cursor.pos ts ≡ Config.bare t ts) → AtWord r.cursor.text.now r.cursor.pos → Lawful w r → Incomplete r.cursor.text.now r.cursor e → Refused w r e
bare_fails w t r e bare at law n ts kp = out_begins w r.cursor.text.now r.cursor.pos r.«from» ts at (law ts kp) ∙ ap (λ c. onward true r.cursor.text.now c r.cursor.pos) (bare ts) ∙ bare_incomplete r.cursor e t ts n

bare_passed : (r r' : Reader) (o : Open) (n : Node) (s l : ℕ) (os : List Open) (r₁ : Cursor) → Entered r r.blocks.items → weight n ≡ 1 → Completes r.cursor.text.now r.cursor r₁ → Came r₁ (pushed (arm_closed r.cursor.table o) n) s l os r' → Passed r.cursor r'.cursor
bare_passed r r' o n s l os r₁ en one f g =
    let len : r'.cursor.table.len ≡ r.cursor.table.len + 1 = ap (λ (t : Table). t.len) g.table in
    record {
      text = g.text ∙ f.next.text ∙ f.spaced.same.text;
      outward = g.state ∙ f.outward;
      onwards = omega (arith, g.pos, f.next.pos, f.spaced.all.onwards);
      few = omega (arith, len, g.pos, f.next.pos, f.spaced.all.onwards, en.few);
      fewer = omega (arith, len, one, ap (λ (t : Table). t.nodes) g.table, en.ready.fewer);
      more = omega (arith, len);
    }

else_kept : (r r' : Reader) (o : Open) (os : List Open) (n : ℕ) (r₁ : Cursor) (ts : Items) → n ≡ r.cursor.table.len → o.kind ≡ kind.Choice → Came r₁ (pushed (arm_closed r.cursor.table o) (node.Else 0)) r.stack r.loops (rearmed o kind.Chosen n (node.Else 0) ∷ os) r' → Kept r (o ∷ os) ts → Kept r' (rearmed o kind.Chosen n (node.Else 0) ∷ os) (Items.then ts (Item.else r.«from» r.cursor.pos))
unfolding laid open_blocks
else_kept r r' o os n r₁ ts here choice g kp =
    let cs : List Node = closed (laid ts).nodes (laid ts).marks in
    record {
      holds = subst (λ t. Holds t (cs ++ node.Else 0 ∷ [])) (sym g.table) ((grew_one (arm_closed r.cursor.table o) (node.Else 0)).holds cs (holds_closed r o os ts kp));
      marks = arm_marks r o os ts kind.Chosen n (node.Else 0) (node.Else 0) kp (here ∙ kp.holds.many) refl (sym (ap is_each_in choice));
      opened = ap elsed kp.opened;
      stack = g.stack ∙ kp.stack;
      around = g.loops ∙ arm_loops r o os ts (length (laid ts).nodes) (node.Else 0) kp;
    }

pub else_done : (r r' : Reader) (o : Open) (n : ℕ) (r₁ : Cursor) → Entered r r.blocks.items → AtWord r.cursor.text.now r.cursor.pos → Chosen follow.Complete r (Ok o) → Completes r.cursor.text.now r.cursor r₁ → n ≡ r.cursor.table.len → Came r₁ (pushed (arm_closed r.cursor.table o) (node.Else 0)) r.stack r.loops (rearmed o kind.Chosen n (node.Else 0) ∷ rest r.blocks.items) r' → Instructed (command_out r.cursor.text.now keyword.Else r.cursor.pos) r r.blocks.items (Ok tt) r' r'.blocks.items
else_done r r' o n r₁ en at ch f here g =
    let text : List ℕ = r.cursor.text.now in
    let os : List Open = rest r.blocks.items in
    let e : r.blocks.items ≡ o ∷ os = top_is r.blocks.items o ch.0 in
    let len : r'.cursor.table.len ≡ r.cursor.table.len + 1 = ap (λ (t : Table). t.len) g.table in
    instruction (command_out text keyword.Else r.cursor.pos) r r' (rearmed o kind.Chosen n (node.Else 0) ∷ os) g.blocks
    (bare_passed r r' o (node.Else 0) r.stack r.loops (rearmed o kind.Chosen n (node.Else 0) ∷ os) r₁ en refl f g)
    (arm_standing r r' o os kind.Chosen n (node.Else 0) (subst (Standing r) e en.standing) (sym (ap is_each_in ch.1)) g.loops (omega (arith, len, here)) (omega (arith, len)))
    (λ ts kp. (
      Item.else r.«from» r.cursor.pos,
      else_kept r r' o os n r₁ ts here ch.1 g (subst (λ bs. Kept r bs ts) e kp),
      bare_on keyword.Else (Item.else r.«from» r.cursor.pos) r r₁ ts refl at (choice_there follow.Complete r o ch) kp f ∙ ap (λ z. onward true text (Config.plain z (Items.then ts (Item.else r.«from» r.cursor.pos))) z) (sym g.pos),
    ))

end_kept : (r r' : Reader) (o : Open) (os : List Open) (r₁ : Cursor) (ts : Items) → Looped o.loops os → Came r₁ (pushed (arm_closed r.cursor.table o) node.End) r.stack o.loops os r' → Kept r (o ∷ os) ts → Kept r' os (Items.then ts (Item.end r.«from» r.cursor.pos))
unfolding laid open_blocks
end_kept r r' o os r₁ ts looped g kp =
    let cs : List Node = closed (laid ts).nodes (laid ts).marks in
    record {
      holds = subst (λ t. Holds t (cs ++ node.End ∷ [])) (sym g.table) ((grew_one (arm_closed r.cursor.table o) node.End).holds cs (holds_closed r o os ts kp));
      marks = ap unmarked kp.marks;
      opened = ap ended kp.opened;
      stack = g.stack ∙ kp.stack;
      around = g.loops ∙ loops_marked o.loops os looped ∙ ap (λ ms. loops (unmarked ms)) kp.marks;
    }

pub end_done : (r r' : Reader) (o : Open) (r₁ : Cursor) → Entered r r.blocks.items → AtWord r.cursor.text.now r.cursor.pos → top r.blocks.items ≡ Some o → Completes r.cursor.text.now r.cursor r₁ → Came r₁ (pushed (arm_closed r.cursor.table o) node.End) r.stack o.loops (rest r.blocks.items) r' → Instruction (command_out r.cursor.text.now keyword.End r.cursor.pos) r r.blocks.items r' r'.blocks.items
end_done r r' o r₁ en at is f g =
    let text : List ℕ = r.cursor.text.now in
    let os : List Open = rest r.blocks.items in
    let e : r.blocks.items ≡ o ∷ os = top_is r.blocks.items o is in
    let s : Standing r (o ∷ os) = subst (Standing r) e en.standing in
    let p : Passed r.cursor r'.cursor = bare_passed r r' o node.End r.stack o.loops os r₁ en refl f g in
    instruction (command_out text keyword.End r.cursor.pos) r r' os g.blocks p
    (record {
      looped = subst (λ n. Looped n os) (sym g.loops) s.looped.1;
      armed = armed_more r.cursor.table.len r'.cursor.table.len os p.more s.armed.1;
      few = omega (arith, s.few);
    })
    (λ ts kp. (
      Item.end r.«from» r.cursor.pos,
      end_kept r r' o os r₁ ts s.looped.1 g (subst (λ bs. Kept r bs ts) e kp),
      bare_on keyword.End (Item.end r.«from» r.cursor.pos) r r₁ ts refl at (block_there r o is) kp f ∙ ap (λ z. onward true text (Config.plain z (Items.then ts (Item.end r.«from» r.cursor.pos))) z) (sym g.pos),
    ))

-- nothing comes to the table between the word and the `$`
pub completes_table : (text : List ℕ) (r r' : Cursor) → Completes text r r' → r'.table ≡ r.table
completes_table text r r' c = c.next.table ∙ c.spaced.same.table

-- the innermost block's arm ends, and the node n comes: r₁ stands behind the `$`, r₂ has the arm's size, r₃ the node
pub arm_table : (t : Table) (o : Open) (n : Node) (r₁ r₂ r₃ : Cursor) → r₁.table ≡ t → r₂.table ≡ arm_closed r₁.table o → r₃.table ≡ pushed r₂.table n → r₃.table ≡ pushed (arm_closed t o) n
arm_table t o n r₁ r₂ r₃ a b c = c ∙ ap (λ t. pushed t n) (b ∙ ap (λ t. arm_closed t o) a)

-- what an instruction is read to be from there on
pub instructed_from : (out out' : ℕ → Items → Out) (r : Reader) (m : Cursor) (full : r.blocks.capacity ≡ 12) (bs : List Open) (o : Result (Unit {0}) Fault) (r' : Reader) (bs' : List Open) → MovedTo r.cursor m.pos m → r.cursor.pos ≤ m.pos → ((ts : Items) → out r.«from» ts ≡ out' r.«from» ts) → Instructed out' (reader_at r m full) bs o r' bs' → Instructed out r bs o r' bs'
instructed_from out out' r m full bs (Ok u) r' bs' on le e i =
    record {
      text = i.text ∙ on.text;
      outward = i.outward;
      onwards = omega (arith, i.onwards);
      few = i.few;
      fewer = i.fewer;
      standing = i.standing;
      reads = λ ts kp.
          let a = i.reads ts (kept_on r (reader_at r m full) bs ts on.table refl refl kp) in
          (a.0, a.1, e ts ∙ a.2 ∙ ap (λ (t : Bor (List ℕ)). onward true t.now (Config.plain r'.cursor.pos (Items.then ts a.0)) r'.cursor.pos) on.text);
    }
instructed_from out out' r m full bs (Err f) r' bs' on le e i = λ ts kp. e ts ∙ i ts (kept_on r (reader_at r m full) bs ts on.table refl refl kp)

-- behind blanks an instruction begins as before them
pub blanks_begin : (r r₁ : Cursor) (q : ℕ) (ts : Items) → Spaced r r₁ → opening_out r.text.now r.pos q ts ≡ opening_out r₁.text.now r₁.pos q ts
blanks_begin r r₁ q ts s =
    stays true r.text.now (Config.want (Stack.top q Head.show ts)) (want_stays (Stack.top q Head.show ts)) r.pos r₁.pos s.all
    ∙ ap (λ (t : Bor (List ℕ)). opening_out t.now r₁.pos q ts) (sym s.same.text)

-- behind its first word
pub word_begins : (r r₁ : Cursor) (s : Span ℕ) (q : ℕ) (ts : Items) → start_at r.text.now r.pos ≡ at.Letter → Worded r r₁ → s ≡ from_to r.pos r₁.pos → opening_out r.text.now r.pos q ts ≡ onward true r₁.text.now (keyed_at r₁.text.now q s.«from» s.to ts) r₁.pos
word_begins r r₁ s q ts e w span =
    word_run true r.text.now r.pos r₁.pos (Stack.top q Head.show ts) (word_some r r₁ e w) e w.all
    ∙ ap (λ (t : Bor (List ℕ)). onward true t.now (keyed_at t.now q r.pos r₁.pos ts) r₁.pos) (sym w.same.text)
    ∙ ap (λ (s : Span ℕ). onward true r₁.text.now (keyed_at r₁.text.now q s.«from» s.to ts) r₁.pos) (sym span)

pub at_word : (r r₁ : Cursor) → Worded r r₁ → AtWord r₁.text.now r₁.pos
at_word r r₁ w = subst (λ (t : Bor (List ℕ)). AtWord t.now r₁.pos) (sym w.same.text) w.last

-- the word is an instruction's
pub command_begins : (r r₁ : Cursor) (s : Span ℕ) (w : Keyword) (q : ℕ) (ts : Items) → start_at r.text.now r.pos ≡ at.Letter → Worded r r₁ → s ≡ from_to r.pos r₁.pos → keyword_of (part r₁.text.now s.«from» s.to) ≡ Some w → opening_out r.text.now r.pos q ts ≡ command_out r₁.text.now w r₁.pos q ts
command_begins r r₁ s w q ts e passed span found =
    let text : List ℕ = r₁.text.now in
    let b : ℕ = get_or text r₁.pos 0 in
    word_begins r r₁ s q ts e passed span
    ∙ sym (out_on text r₁.pos (keyed_at text q s.«from» s.to ts) (commands w q ts r₁.pos b) (λ lt. cond-false _ _ _ (at_word r r₁ passed lt) ∙ ap (λ o. Machine.worded o s.«from» (part text s.«from» s.to) (Stack.top q Head.show ts) r₁.pos b) found) refl)

-- or a name
pub word_names : (r : Reader) (r₁ : Cursor) (s : Span ℕ) → Entered r r.blocks.items → start_at r.cursor.text.now r.cursor.pos ≡ at.Letter → Worded r.cursor r₁ → s ≡ from_to r.cursor.pos r₁.pos → keyword_of (part r₁.text.now s.«from» s.to) ≡ None → AtName r.«from» s.«from» s.to r₁ × ((s.to ≡ r₁.pos) × Nameable r₁.text.now s.«from» s.to)
word_names r r₁ s en e w span free =
    let begins : s.«from» ≡ r.cursor.pos = ap (λ (s : Span ℕ). s.«from») span in
    let ends : s.to ≡ r₁.pos = ap (λ (s : Span ℕ). s.to) span in
    let some : r.cursor.pos < r₁.pos = word_some r.cursor r₁ e w in
    let len : r₁.table.len ≡ r.cursor.table.len = ap (λ (t : Table). t.len) w.same.table in
    let nodes : r₁.table.nodes ≡ r.cursor.table.nodes = ap (λ (t : Table). t.nodes) w.same.table in (
      record {
        ready = record { inward = w.same.state ∙ en.ready.inward; few = omega (arith, len, en.few); fewer = omega (arith, len, nodes, en.ready.fewer) };
        few = omega (arith, len, en.few);
        first = omega (arith, begins, en.placed);
        ordered = omega (arith, begins, ends);
        behind = omega (arith, ends);
      },
      (ends, record { free = free; longest = subst (AtWord r₁.text.now) (sym ends) (at_word r.cursor r₁ w) }),
    )

-- an instruction without a block is read: its nodes, and the stack that it needs
simple_kept : (r r' : Reader) (bs : List Open) (ts : Items) {t : Item} (n : ℕ) → Simple r.«from» t → n ≡ simple_need t → Grew r.cursor.table (simple_nodes t) r'.cursor.table → r'.stack ≡ max r.stack (n + r.loops) → r'.loops ≡ r.loops → Kept r bs ts → Kept r' bs (Items.then ts t)
unfolding laid open_blocks
simple_kept r r' bs ts n (Simple.show e) told grew stack lp kp =
    record {
      holds = grew.holds (laid ts).nodes kp.holds;
      marks = kp.marks;
      opened = kp.opened;
      stack = omega (arith, stack, told, kp.stack, kp.around);
      around = lp ∙ kp.around;
    }
simple_kept r r' bs ts n (Simple.assign k e) told grew stack lp kp =
    record {
      holds = subst (Holds r'.cursor.table) (sym (append_assoc (laid ts).nodes (assign_node r.«from» k (length (flatten_target k)) (length (flatten e)) ∷ flatten_target k) (flatten e))) (grew.holds (laid ts).nodes kp.holds);
      marks = kp.marks;
      opened = kp.opened;
      stack = omega (arith, stack, told, kp.stack, kp.around);
      around = lp ∙ kp.around;
    }

pub simple_done : (out : ℕ → Items → Out) (r r' : Reader) (full : r.blocks.capacity ≡ 12) (r₁ m : Cursor) (n : ℕ) (c : Items → Config) → Entered r r.blocks.items → MovedTo r.cursor r₁.pos r₁ → r.cursor.pos ≤ r₁.pos → ((ts : Items) → out r.«from» ts ≡ onward true r₁.text.now (c ts) r₁.pos) → Simples r₁.text.now r.«from» c r₁ n m → Needs (reader_at r m full) n r' → Instruction out r r.blocks.items r' r'.blocks.items
simple_done out r r' full r₁ m n c en on le begins s o =
    let len : r'.cursor.table.len ≡ m.table.len = ap (λ (t : Table). t.len) o.table in
    let len₁ : r₁.table.len ≡ r.cursor.table.len = ap (λ (t : Table). t.len) on.table in
    let grew : Grew r.cursor.table (simple_nodes s.item) r'.cursor.table = subst (λ (t : Table × Table). Grew t.0 (simple_nodes s.item) t.1) (λ i. (on.table i, sym o.table i)) s.grew in
    instruction out r r' r.blocks.items o.blocks
    (passed_from on.text le (omega (arith, len₁)) (passed_on s.passed o.text o.state o.pos len (ap (λ (t : Table). t.nodes) o.table)))
    (standing_on r r' r.blocks.items o.loops (omega (arith, len, len₁, s.passed.more)) en.standing)
    (λ ts kp. (
      s.item,
      simple_kept r r' r.blocks.items ts n s.simple s.told grew o.stack o.loops kp,
      begins ts
          ∙ s.runs ts
          ∙ λ i. onward true (on.text i).now (Config.plain (sym o.pos i) (Items.then ts s.item)) (sym o.pos i),
    ))

-- what it needs is little
pub simple_small : (text : List ℕ) (q : ℕ) (c : Items → Config) (r : Cursor) (n : ℕ) (r' : Cursor) → Simples text q c r n r' → n ≤ 4096
simple_small text q c r n r' s = omega (arith, s.small, r'.within, r'.short)
