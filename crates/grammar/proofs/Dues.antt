-- The rules that fall due along a reading are just the broken rules of the tree that is read. Assumes nothing.
use Rattle.std.proofs.Common.{◌≡◌, ℕ, zero, suc, ◌+◌, ◌≤◌, Bool, true, false, ◌||◌, eqb, ltb, leb, List, [], ◌∷◌, ◌++◌, length, Some, None, Option, sym, refl, ap, ◌∙◌, subst, append_assoc, append-nil, arith}
use Rattle.std.proofs.lemmas.Bool.{cond_both}
use Rattle.functions.specs.declared.Signature.{Signature}
use Rattle.keywords.specs.declared.Keyword.{Keyword}
use Rattle.keywords.specs.declared.Keyword.TheVariants as keyword
use Rattle.tokens.specs.declared.operator.Op.{Op}
use Rattle.tokens.specs.declared.operator.Sign.{Sign}
use Rattle.tokens.specs.declared.operator.Half.{Half}
use Rattle.tokens.specs.declared.operator.Half.TheVariants as halved
use Rattle.tokens.specs.declared.byte.Separator.{Separator}
use Rattle.tokens.specs.declared.byte.Separator.TheVariants.{Comma, Semicolon}
use Rattle.tokens.specs.declared.byte.Shape.{Shape}
use Rattle.tokens.specs.declared.byte.Shape.TheVariants.{Round, Square, Curly}
use Rattle.tokens.specs.declared.byte.Start.{Start}
use Rattle.tokens.specs.declared.byte.Start.TheVariants as at
use Rattle.tokens.specs.declared.byte.After.{After}
use Rattle.tokens.specs.declared.byte.After.TheVariants as past
use Rattle.tokens.specs.declared.byte.Class.{Class}
use Rattle.tokens.specs.declared.byte.Class.TheVariants as is
use Rattle.tokens.specs.Bytes.{start, after, class, blank, digit, letter, word, digit_value}
use Rattle.tokens.specs.Operators.{level, doubled, alone}
use Rattle.trees.specs.declared.Constant.{Constant}
use Rattle.trees.specs.declared.Quote.{Quote}
use Rattle.trees.specs.Tree.{Key, Expr, Seq, Item, Items}
use Rattle.grammar.specs.Rules.{Rule, Broken, breaks, large, lengthy, wide, long, deep, known, counted, arrival, broken_number, broken, broken_key, broken_args, broken_seq, Opened, open_blocks, room, in_choice, in_block, broken_item, broken_items, unclosed, broken_rules}
use Rattle.grammar.specs.Machine.{Bracket, Head, Stack, Run, Numbered, Quoted, Digits, Config, Move, stop, go, late, depth, reduce, pushed, operator, shut, next, complete, delimits, closes, parts, completes, quotes, afters, nameds, sign, constant, running, pair, dotted, first_digit, wants, hollow, firsts, bares, commands, commanded, worded, assigned, assigns, single, halves, lasts, numbereds, constant_at, numbers, row, joined, quoteds, loop_head, looped, piece, step, finish, Out, accepted, judged, finished, run, reacts_on}
use Rattle.grammar.specs.Words.{function, keyword_of}

-- ---- what is broken by all that is complete in a configuration

abbrev head_broken : List Opened → ℕ → Head → List Broken
head_broken os q Head.show = []
head_broken os q (Head.assign k) = broken_key 0 k
head_broken os q (Head.if j) = room os q j
head_broken os q (Head.elif j) = in_choice os q j
head_broken os q (Head.while j) = room os q j
head_broken os q (Head.foreach j x y) = room os q j ++ long x y
head_broken os q (Head.joineach j x y) = room os q j ++ long x y

-- an open bracket in d others
abbrev bracket_broken : ℕ → Bracket → List Broken
bracket_broken d (Bracket.round q) = deep d q
bracket_broken d (Bracket.square i j q) = long i j ++ deep d q
bracket_broken d (Bracket.call i j q f s) = long i j ++ deep d q ++ known i f q ++ broken_args (suc d) s
bracket_broken d (Bracket.curly q s n) = deep d q ++ broken_seq (suc d) s

abbrev pub seen_stack : Stack → List Broken
seen_stack (Stack.top q h ts) = broken_items ts ++ head_broken (open_blocks ts) q h
seen_stack (Stack.binary q o l k) = seen_stack k ++ broken (depth k) l
seen_stack (Stack.signed q s k) = seen_stack k
seen_stack (Stack.open' b k) = seen_stack k ++ bracket_broken (depth k) b

-- the operand t, for which k waits
abbrev seen_operand : Expr × Stack → List Broken
seen_operand (t, k) = seen_stack k ++ broken (depth k) t

abbrev seen_run : Run → List Broken
seen_run r = seen_stack r.stack ++ deep (depth r.stack) r.place ++ broken_seq (suc (depth r.stack)) r.items ++ broken_number r.first ++ broken_number r.second

abbrev last_broken : Run → Constant → List Broken
last_broken r c = large c ++ arrival r.first r.second c ++ lengthy c

abbrev seen_numbered : Numbered → List Broken
seen_numbered (Numbered.operand k) = seen_stack k
seen_numbered (Numbered.last r) = seen_run r

abbrev seen_quoted : Quoted → List Broken
seen_quoted (Quoted.operand k) = seen_stack k
seen_quoted (Quoted.delimiter j) = broken_items j.items ++ room (open_blocks j.items) j.place j.word ++ long j.«from» j.to ++ broken 0 j.list

abbrev pub seen : Config → List Broken
seen (Config.line ts) = broken_items ts
seen (Config.plain i ts) = broken_items ts
seen (Config.comment ts) = broken_items ts
seen (Config.dollar_at_line q ts) = broken_items ts
seen (Config.dollar q ts) = broken_items ts
seen (Config.want k) = seen_stack k
seen (Config.first k) = seen_stack k
seen (Config.in_number i n g) = seen_numbered g
seen (Config.in_name i w k) = seen_stack k
seen (Config.in_text i n g) = seen_quoted g
seen (Config.escape i n g) = seen_quoted g
seen (Config.quoted t g) = seen_quoted g
seen (Config.named i j w k) = seen_stack k ++ long i j
seen (Config.aft t k) = seen_stack k ++ broken (depth k) t
seen (Config.half q h t k) = seen_stack k ++ broken (depth k) t
seen (Config.dots n r) = seen_run r
seen (Config.last_wanted r) = seen_run r
seen (Config.last_done c r) = seen_run r ++ last_broken r c
seen (Config.bare t ts) = broken_items ts ++ broken_item (open_blocks ts) t
seen (Config.naming q j e ts) = broken_items ts ++ room (open_blocks ts) q j
seen (Config.loop_name q j e i w ts) = broken_items ts ++ room (open_blocks ts) q j

-- a move adds what falls due
abbrev Adds : List Broken → Move → Type 0
Adds s stop = Unit {0}
Adds s (go d c) = seen c ≡ s ++ d

abbrev pub Sees : Config → Move → Type 0
Sees c v = Adds (seen c) v

none_added : (s s' : List Broken) → s ≡ s' → s ≡ s' ++ []
none_added s s' e = e ∙ sym (append-nil s')

late_adds : (s d : List Broken) (v : Move) → Adds (s ++ d) v → Adds s (late d v)
late_adds s d stop h = tt
late_adds s d (go e c) h = h ∙ append_assoc s d e

-- ---- expressions

reduced : (n : ℕ) (t : Expr) (k : Stack) → seen_operand (reduce n t k) ≡ seen_stack k ++ broken (depth k) t
unfolding broken
reduced n t (Stack.top q h ts) = refl
reduced n t (Stack.binary q o l k) =
    cond_both (leb n (level o)) (reduce n (Expr.binary q o l t) k) (t, Stack.binary q o l k) (λ x. seen_operand x ≡ seen_stack (Stack.binary q o l k) ++ broken (depth k) t)
    (λ yes. reduced n (Expr.binary q o l t) k ∙ sym (append_assoc (seen_stack k) (broken (depth k) l) (broken (depth k) t)))
    (λ no. refl)
reduced n t (Stack.signed q s k) = reduced n (Expr.signed q s t) k
reduced n t (Stack.open' b k) = refl

push_seen : (q : ℕ) (o : Op) (x : Expr × Stack) → seen_stack (pushed q o x) ≡ seen_operand x
push_seen q o x = refl

operator_adds : (q : ℕ) (o : Op) (t : Expr) (k : Stack) → Adds (seen_stack k ++ broken (depth k) t) (operator q o t k)
operator_adds q o t k = none_added _ _ (push_seen q o (reduce (level o) t k) ∙ reduced (level o) t k)

shut_adds : (s : Shape) (b : Bracket) (t : Expr) (k : Stack) (p : ℕ) → Adds (seen_operand (t, Stack.open' b k)) (shut s b t k p)
unfolding broken broken_key broken_args broken_seq
shut_adds Round (Bracket.round q) t k p = simp (append-nil, append_assoc)
shut_adds Round (Bracket.square i j q) t k p = tt
shut_adds Round (Bracket.call i j q f s) t k p = simp append_assoc
shut_adds Round (Bracket.curly q s n) t k p = tt
shut_adds Square (Bracket.round q) t k p = tt
shut_adds Square (Bracket.square i j q) t k p = simp (append-nil, append_assoc)
shut_adds Square (Bracket.call i j q f s) t k p = tt
shut_adds Square (Bracket.curly q s n) t k p = tt
shut_adds Curly (Bracket.round q) t k p = tt
shut_adds Curly (Bracket.square i j q) t k p = tt
shut_adds Curly (Bracket.call i j q f s) t k p = tt
shut_adds Curly (Bracket.curly q s n) t k p = simp (append-nil, append_assoc)

next_adds : (c : Separator) (b : Bracket) (t : Expr) (k : Stack) → Adds (seen_operand (t, Stack.open' b k)) (next c b t k)
unfolding broken broken_key broken_args broken_seq
next_adds Comma (Bracket.round q) t k = tt
next_adds Semicolon (Bracket.round q) t k = tt
next_adds Comma (Bracket.square i j q) t k = tt
next_adds Semicolon (Bracket.square i j q) t k = tt
next_adds Comma (Bracket.call i j q f s) t k = simp (append-nil, append_assoc)
next_adds Semicolon (Bracket.call i j q f s) t k = tt
next_adds Comma (Bracket.curly q s n) t k = simp (append-nil, append_assoc)
next_adds Semicolon (Bracket.curly q s n) t k = simp (append-nil, append_assoc)

complete_adds : (p q : ℕ) (h : Head) (t : Expr) (ts : Items) → Adds (seen_operand (t, Stack.top q h ts)) (complete p q h t ts)
unfolding broken_items
complete_adds p q Head.show t ts = simp append-nil
complete_adds p q (Head.assign k) t ts = simp (append-nil, append_assoc)
complete_adds p q (Head.if j) t ts = simp (append-nil, append_assoc)
complete_adds p q (Head.elif j) t ts = simp (append-nil, append_assoc)
complete_adds p q (Head.while j) t ts = simp (append-nil, append_assoc)
complete_adds p q (Head.foreach j x y) t ts = simp (append-nil, append_assoc)
complete_adds p q (Head.joineach j x y) t ts = tt

delimits_adds : (p q : ℕ) (h : Head) (t : Expr) (ts : Items) → Adds (seen_operand (t, Stack.top q h ts)) (delimits p q h t ts)
delimits_adds p q Head.show t ts = tt
delimits_adds p q (Head.assign k) t ts = tt
delimits_adds p q (Head.if j) t ts = tt
delimits_adds p q (Head.elif j) t ts = tt
delimits_adds p q (Head.while j) t ts = tt
delimits_adds p q (Head.foreach j x y) t ts = tt
delimits_adds p q (Head.joineach j x y) t ts = simp (append-nil, append_assoc)

closes_adds : (s : Shape) (p : ℕ) (x : Expr × Stack) → Adds (seen_operand x) (closes s p x)
closes_adds s p (t, Stack.top q h ts) = tt
closes_adds s p (t, Stack.binary q o l k) = tt
closes_adds s p (t, Stack.signed q g k) = tt
closes_adds s p (t, Stack.open' b k) = shut_adds s b t k p

parts_adds : (c : Separator) (x : Expr × Stack) → Adds (seen_operand x) (parts c x)
parts_adds c (t, Stack.top q h ts) = tt
parts_adds c (t, Stack.binary q o l k) = tt
parts_adds c (t, Stack.signed q g k) = tt
parts_adds c (t, Stack.open' b k) = next_adds c b t k

completes_adds : (p : ℕ) (x : Expr × Stack) → Adds (seen_operand x) (completes p x)
completes_adds p (t, Stack.top q h ts) = complete_adds p q h t ts
completes_adds p (t, Stack.binary q o l k) = tt
completes_adds p (t, Stack.signed q g k) = tt
completes_adds p (t, Stack.open' b k) = tt

quotes_adds : (p : ℕ) (x : Expr × Stack) → Adds (seen_operand x) (quotes p x)
quotes_adds p (t, Stack.top q h ts) = delimits_adds p q h t ts
quotes_adds p (t, Stack.binary q o l k) = tt
quotes_adds p (t, Stack.signed q g k) = tt
quotes_adds p (t, Stack.open' b k) = tt

afters_adds : (x : After) (t : Expr) (k : Stack) (p : ℕ) → Adds (seen_stack k ++ broken (depth k) t) (afters x t k p)
afters_adds past.Blank t k p = none_added _ _ refl
afters_adds (past.Single o) t k p = operator_adds p o t k
afters_adds (past.Double h) t k p = none_added _ _ refl
afters_adds (past.Separator c) t k p = subst (λ s. Adds s (parts c (reduce 0 t k))) (reduced 0 t k) (parts_adds c (reduce 0 t k))
afters_adds past.Round t k p = tt
afters_adds past.Square t k p = tt
afters_adds (past.End s) t k p = subst (λ x. Adds x (closes s p (reduce 0 t k))) (reduced 0 t k) (closes_adds s p (reduce 0 t k))
afters_adds past.Dollar t k p = subst (λ x. Adds x (completes p (reduce 0 t k))) (reduced 0 t k) (completes_adds p (reduce 0 t k))
afters_adds past.Quote t k p = subst (λ x. Adds x (quotes p (reduce 0 t k))) (reduced 0 t k) (quotes_adds p (reduce 0 t k))
afters_adds past.Other t k p = tt

nameds_adds : (x : After) (i j : ℕ) (w : List ℕ) (k : Stack) (p : ℕ) → Adds (seen_stack k ++ long i j) (nameds x i j w k p)
unfolding broken broken_key broken_args
nameds_adds past.Blank i j w k p = none_added _ _ refl
nameds_adds (past.Single o) i j w k p = afters_adds (past.Single o) (Expr.key (Key.name i j)) k p
nameds_adds (past.Double h) i j w k p = afters_adds (past.Double h) (Expr.key (Key.name i j)) k p
nameds_adds (past.Separator c) i j w k p = afters_adds (past.Separator c) (Expr.key (Key.name i j)) k p
nameds_adds past.Round i j w k p = simp (append-nil, append_assoc)
nameds_adds past.Square i j w k p = simp append_assoc
nameds_adds (past.End s) i j w k p = afters_adds (past.End s) (Expr.key (Key.name i j)) k p
nameds_adds past.Dollar i j w k p = afters_adds past.Dollar (Expr.key (Key.name i j)) k p
nameds_adds past.Quote i j w k p = afters_adds past.Quote (Expr.key (Key.name i j)) k p
nameds_adds past.Other i j w k p = tt

sign_adds : (p : ℕ) (s : Sign) (k : Stack) → Adds (seen_stack k) (sign p s k)
sign_adds p s (Stack.top q h ts) = none_added _ _ refl
sign_adds p s (Stack.binary q o l k) = none_added _ _ refl
sign_adds p s (Stack.signed q g k) = tt
sign_adds p s (Stack.open' b k) = none_added _ _ refl

abbrev seen_pair : ℕ → Seq → Expr → Expr → Stack → List Broken
seen_pair q s a b k = seen_stack k ++ (deep (depth k) q ++ (broken_seq (suc (depth k)) s ++ broken (suc (depth k)) a ++ broken (suc (depth k)) b))

running_adds : (q : ℕ) (s : Seq) (a b : Expr) (k : Stack) → Adds (seen_pair q s a b k) (running q s (constant a) (constant b) k)
unfolding broken
running_adds q s (Expr.number c) (Expr.number c') k = simp (append-nil, append_assoc)
running_adds q s (Expr.number c) (Expr.text t) k = tt
running_adds q s (Expr.number c) (Expr.key x) k = tt
running_adds q s (Expr.number c) (Expr.call i j x f y z) k = tt
running_adds q s (Expr.number c) (Expr.list x y) k = tt
running_adds q s (Expr.number c) (Expr.round x e) k = tt
running_adds q s (Expr.number c) (Expr.signed x g e) k = tt
running_adds q s (Expr.number c) (Expr.binary x o l r) k = tt
running_adds q s (Expr.text t) b k = tt
running_adds q s (Expr.key x) b k = tt
running_adds q s (Expr.call i j x f y z) b k = tt
running_adds q s (Expr.list x y) b k = tt
running_adds q s (Expr.round x e) b k = tt
running_adds q s (Expr.signed x g e) b k = tt
running_adds q s (Expr.binary x o l r) b k = tt

pair_adds : (q : ℕ) (s : Seq) (n : ℕ) (k : Stack) → Adds (seen_stack (Stack.open' (Bracket.curly q s n) k)) (pair q s k)
unfolding broken_seq
pair_adds q Seq.empty n k = tt
pair_adds q (Seq.item Seq.empty b) n k = tt
pair_adds q (Seq.item (Seq.item s a) b) n k = running_adds q s a b k
pair_adds q (Seq.item (Seq.steps s a b' c) b) n k = tt
pair_adds q (Seq.steps s a b c) n k = tt

dotted_adds : (k : Stack) → Adds (seen_stack k) (dotted k)
dotted_adds (Stack.top q h ts) = tt
dotted_adds (Stack.binary q o l k) = tt
dotted_adds (Stack.signed q s k) = tt
dotted_adds (Stack.open' (Bracket.round q) k) = tt
dotted_adds (Stack.open' (Bracket.square i j q) k) = tt
dotted_adds (Stack.open' (Bracket.call i j q f s) k) = tt
dotted_adds (Stack.open' (Bracket.curly q s n) k) = cond_both (eqb n 2) _ _ (Adds (seen_stack (Stack.open' (Bracket.curly q s n) k))) (λ yes. pair_adds q s n k) (λ no. tt)

wants_adds : (x : Start) (b : ℕ) (k : Stack) (p : ℕ) → Adds (seen_stack k) (wants x b k p)
unfolding broken_seq
wants_adds at.Blank b k p = none_added _ _ refl
wants_adds at.Digit b k p = none_added _ _ refl
wants_adds at.Letter b k p = none_added _ _ refl
wants_adds at.Quote b k p = none_added _ _ refl
wants_adds (at.Sign s) b k p = sign_adds p s k
wants_adds at.Round b k p = refl
wants_adds at.Curly b k p = simp append-nil
wants_adds at.EndRound b k p = tt
wants_adds at.EndCurly b k p = tt
wants_adds at.Dot b k p = dotted_adds k
wants_adds at.Other b k p = tt

hollow_adds : (s : Shape) (k : Stack) (p : ℕ) → Adds (seen_stack k) (hollow s k p)
unfolding broken
hollow_adds Round (Stack.top q h ts) p = tt
hollow_adds Square (Stack.top q h ts) p = tt
hollow_adds Curly (Stack.top q h ts) p = tt
hollow_adds Round (Stack.binary q o l k) p = tt
hollow_adds Square (Stack.binary q o l k) p = tt
hollow_adds Curly (Stack.binary q o l k) p = tt
hollow_adds Round (Stack.signed q g k) p = tt
hollow_adds Square (Stack.signed q g k) p = tt
hollow_adds Curly (Stack.signed q g k) p = tt
hollow_adds Round (Stack.open' (Bracket.round q) k) p = tt
hollow_adds Square (Stack.open' (Bracket.round q) k) p = tt
hollow_adds Curly (Stack.open' (Bracket.round q) k) p = tt
hollow_adds Round (Stack.open' (Bracket.square i j q) k) p = tt
hollow_adds Square (Stack.open' (Bracket.square i j q) k) p = tt
hollow_adds Curly (Stack.open' (Bracket.square i j q) k) p = tt
hollow_adds Round (Stack.open' (Bracket.call i j q f s) k) p = simp append_assoc
hollow_adds Square (Stack.open' (Bracket.call i j q f s) k) p = tt
hollow_adds Curly (Stack.open' (Bracket.call i j q f s) k) p = tt
hollow_adds Round (Stack.open' (Bracket.curly q s n) k) p = tt
hollow_adds Square (Stack.open' (Bracket.curly q s n) k) p = tt
hollow_adds Curly (Stack.open' (Bracket.curly q s n) k) p = simp append-nil

firsts_adds : (x : Start) (b : ℕ) (k : Stack) (p : ℕ) → Adds (seen_stack k) (firsts x b k p)
firsts_adds at.Blank b k p = none_added _ _ refl
firsts_adds at.Digit b k p = wants_adds at.Digit b k p
firsts_adds at.Letter b k p = wants_adds at.Letter b k p
firsts_adds at.Quote b k p = wants_adds at.Quote b k p
firsts_adds (at.Sign s) b k p = wants_adds (at.Sign s) b k p
firsts_adds at.Round b k p = wants_adds at.Round b k p
firsts_adds at.Curly b k p = wants_adds at.Curly b k p
firsts_adds at.EndRound b k p = hollow_adds Round k p
firsts_adds at.EndCurly b k p = hollow_adds Curly k p
firsts_adds at.Dot b k p = wants_adds at.Dot b k p
firsts_adds at.Other b k p = tt

-- ---- instructions

bares_adds : (b : ℕ) (t : Item) (ts : Items) (p : ℕ) → Adds (broken_items ts ++ broken_item (open_blocks ts) t) (bares b t ts p)
unfolding broken_items
bares_adds b t ts p =
    let A = Adds (broken_items ts ++ broken_item (open_blocks ts) t) in
    cond_both (blank b) _ _ A (λ yes. none_added _ _ refl) (λ no. cond_both (eqb b 36) _ _ A (λ yes. none_added _ _ refl) (λ no. tt))

commands_adds : (w : Keyword) (q : ℕ) (ts : Items) (j b : ℕ) → Adds (broken_items ts ++ []) (commands w q ts j b)
commands_adds w q ts j b = subst (λ s. Adds s (commands w q ts j b)) (sym (append-nil (broken_items ts))) (by_word w)
  where
    by_word : (w : Keyword) → Adds (broken_items ts) (commands w q ts j b)
    by_word keyword.If = late_adds (broken_items ts) (room (open_blocks ts) q j) _ (wants_adds (start b) b (Stack.top q (Head.if j) ts) j)
    by_word keyword.While = late_adds (broken_items ts) (room (open_blocks ts) q j) _ (wants_adds (start b) b (Stack.top q (Head.while j) ts) j)
    by_word keyword.Foreach = cond_both (blank b) _ _ (Adds (broken_items ts)) (λ yes. refl) (λ no. tt)
    by_word keyword.Joineach = cond_both (blank b) _ _ (Adds (broken_items ts)) (λ yes. refl) (λ no. tt)
    by_word keyword.Elif = late_adds (broken_items ts) (in_choice (open_blocks ts) q j) _ (wants_adds (start b) b (Stack.top q (Head.elif j) ts) j)
    by_word keyword.Else = late_adds (broken_items ts) (in_choice (open_blocks ts) q j) _ (bares_adds b (Item.else q j) ts j)
    by_word keyword.End = late_adds (broken_items ts) (in_block (open_blocks ts) q j) _ (bares_adds b (Item.end q j) ts j)

commanded_adds : (w : Keyword) (k : Stack) (j b : ℕ) → Adds (seen_stack k) (commanded w k j b)
commanded_adds w (Stack.top q Head.show ts) j b = commands_adds w q ts j b
commanded_adds w (Stack.top q (Head.assign k) ts) j b = tt
commanded_adds w (Stack.top q (Head.if x) ts) j b = tt
commanded_adds w (Stack.top q (Head.elif x) ts) j b = tt
commanded_adds w (Stack.top q (Head.while x) ts) j b = tt
commanded_adds w (Stack.top q (Head.foreach x y z) ts) j b = tt
commanded_adds w (Stack.top q (Head.joineach x y z) ts) j b = tt
commanded_adds w (Stack.binary q o l k) j b = tt
commanded_adds w (Stack.signed q s k) j b = tt
commanded_adds w (Stack.open' c k) j b = tt

worded_adds : (o : Option Keyword) (i : ℕ) (w : List ℕ) (k : Stack) (p b : ℕ) → Adds (seen_stack k) (worded o i w k p b)
worded_adds (Some c) i w k p b = commanded_adds c k p b
worded_adds None i w k p b = late_adds (seen_stack k) (long i p) _ (nameds_adds (after b) i p w k p)

assigned_adds : (c : Key) (k : Stack) (b p : ℕ) → Adds (seen_stack k ++ broken (depth k) (Expr.key c)) (assigned c k b p)
unfolding broken
assigned_adds c (Stack.top q Head.show ts) b p = subst (λ s. Adds s (assigned c (Stack.top q Head.show ts) b p)) (simp append-nil) (wants_adds (start b) b (Stack.top q (Head.assign c) ts) p)
assigned_adds c (Stack.top q (Head.assign k) ts) b p = tt
assigned_adds c (Stack.top q (Head.if x) ts) b p = tt
assigned_adds c (Stack.top q (Head.elif x) ts) b p = tt
assigned_adds c (Stack.top q (Head.while x) ts) b p = tt
assigned_adds c (Stack.top q (Head.foreach x y z) ts) b p = tt
assigned_adds c (Stack.top q (Head.joineach x y z) ts) b p = tt
assigned_adds c (Stack.binary q o l k) b p = tt
assigned_adds c (Stack.signed q s k) b p = tt
assigned_adds c (Stack.open' x k) b p = tt

assigns_adds : (t : Expr) (k : Stack) (b p : ℕ) → Adds (seen_stack k ++ broken (depth k) t) (assigns t k b p)
assigns_adds (Expr.number c) k b p = tt
assigns_adds (Expr.text t) k b p = tt
assigns_adds (Expr.key c) k b p = assigned_adds c k b p
assigns_adds (Expr.call i j q f s z) k b p = tt
assigns_adds (Expr.list q s) k b p = tt
assigns_adds (Expr.round q e) k b p = tt
assigns_adds (Expr.signed q s e) k b p = tt
assigns_adds (Expr.binary q o l r) k b p = tt

single_adds : (h : Half) (o : Option Op) (q : ℕ) (t : Expr) (k : Stack) (b p : ℕ) → Adds (seen_stack k ++ broken (depth k) t) (single h o q t k b p)
single_adds h (Some o) q t k b p =
    let x = pushed q o (reduce (level o) t k) in
    subst (λ s. Adds s (wants (start b) b x p)) (push_seen q o (reduce (level o) t k) ∙ reduced (level o) t k) (wants_adds (start b) b x p)
single_adds halved.Bar None q t k b p = tt
single_adds halved.Ampersand None q t k b p = tt
single_adds halved.Equals None q t k b p = assigns_adds t k b p
single_adds halved.Bang None q t k b p = tt
single_adds halved.Less None q t k b p = tt
single_adds halved.Greater None q t k b p = tt

halves_adds : (o : Option Op) (h : Half) (q : ℕ) (t : Expr) (k : Stack) (b p : ℕ) → Adds (seen_stack k ++ broken (depth k) t) (halves o h q t k b p)
halves_adds (Some o) h q t k b p = operator_adds q o t k
halves_adds None h q t k b p = single_adds h (alone h) q t k b p

lasts_adds : (x : After) (c : Constant) (r : Run) → Adds (seen_run r ++ last_broken r c) (lasts x c r)
unfolding broken broken_seq
lasts_adds past.Blank c r = none_added _ _ refl
lasts_adds (past.Single o) c r = tt
lasts_adds (past.Double h) c r = tt
lasts_adds (past.Separator Comma) c r = tt
lasts_adds (past.Separator Semicolon) c r = simp (append-nil, append_assoc)
lasts_adds past.Round c r = tt
lasts_adds past.Square c r = tt
lasts_adds (past.End Round) c r = tt
lasts_adds (past.End Square) c r = tt
lasts_adds (past.End Curly) c r = simp (append-nil, append_assoc)
lasts_adds past.Dollar c r = tt
lasts_adds past.Quote c r = tt
lasts_adds past.Other c r = tt

numbereds_adds : (g : Numbered) (c : Constant) (b p : ℕ) → Adds (seen_numbered g) (numbereds g c b p)
unfolding broken
numbereds_adds (Numbered.operand k) c b p = late_adds (seen_stack k) (broken_number c) _ (afters_adds (after b) (Expr.number c) k p)
numbereds_adds (Numbered.last r) c b p = late_adds (seen_run r) (last_broken r c) _ (lasts_adds (after b) c r)

numbers_adds : (n : Digits) (i : ℕ) (g : Numbered) (b p : ℕ) → Adds (seen_numbered g) (numbers n i g b p)
numbers_adds Digits.nought i g b p =
    let A = Adds (seen_numbered g) in
    cond_both (eqb b 120 || eqb b 88) _ _ A (λ yes. none_added _ _ refl)
    (λ no. cond_both (ltb (digit_value b) 8) _ _ A (λ yes. none_added _ _ refl) (λ no. numbereds_adds g (constant_at i p 0) b p))
numbers_adds Digits.prefix i g b p = cond_both (ltb (digit_value b) 16) _ _ (Adds (seen_numbered g)) (λ yes. none_added _ _ refl) (λ no. tt)
numbers_adds (Digits.digits n v) i g b p =
    cond_both (ltb (digit_value b) n) _ _ (Adds (seen_numbered g)) (λ yes. none_added _ _ refl) (λ no. numbereds_adds g (constant_at i p v) b p)

quoteds_adds : (g : Quoted) (t : Quote) (b p : ℕ) → Adds (seen_quoted g) (quoteds g t b p)
unfolding broken
quoteds_adds (Quoted.operand k) t b p = late_adds (seen_stack k) (wide t) _ (afters_adds (after b) (Expr.text t) k p)
quoteds_adds (Quoted.delimiter j) t b p =
    late_adds (seen_quoted (Quoted.delimiter j)) (wide t) _ (subst (λ s. Adds s (bares b (joined j t) j.items p)) (simp append_assoc) (bares_adds b (joined j t) j.items p))

looped_adds : (o : Option Keyword) (q j : ℕ) (e : Bool) (i : ℕ) (ts : Items) (b p : ℕ) → Adds (broken_items ts ++ room (open_blocks ts) q j) (looped o q j e i ts b p)
looped_adds (Some c) q j e i ts b p = tt
looped_adds None q j e i ts b p =
    late_adds (broken_items ts ++ room (open_blocks ts) q j) (long i p) _
    (subst (λ s. Adds s (wants (start b) b (Stack.top q (loop_head e j i p) ts) p)) (by_loop e) (wants_adds (start b) b (Stack.top q (loop_head e j i p) ts) p))
  where
    by_loop : (e : Bool) → seen_stack (Stack.top q (loop_head e j i p) ts) ≡ broken_items ts ++ room (open_blocks ts) q j ++ long i p
    by_loop true = simp append_assoc
    by_loop false = simp append_assoc

-- ---- all configurations

pub row_all : (P : Move → Type 0) (n r b d q e x o : Move) → P n → P r → P b → P d → P q → P e → P x → P o → (cl : Class) → P (row n r b d q e x o cl)
row_all P n r b d q e x o n' r' b' d' q' e' x' o' is.Newline = n'
row_all P n r b d q e x o n' r' b' d' q' e' x' o' is.Return = r'
row_all P n r b d q e x o n' r' b' d' q' e' x' o' is.Blank = b'
row_all P n r b d q e x o n' r' b' d' q' e' x' o' is.Dollar = d'
row_all P n r b d q e x o n' r' b' d' q' e' x' o' is.Quote = q'
row_all P n r b d q e x o n' r' b' d' q' e' x' o' is.Backslash = e'
row_all P n r b d q e x o n' r' b' d' q' e' x' o' is.Escaped = x'
row_all P n r b d q e x o n' r' b' d' q' e' x' o' is.Other = o'

pub piece_broken : (i p : ℕ) (ts : Items) → broken_items (piece i p ts) ≡ broken_items ts
unfolding broken_items
piece_broken i p ts = cond_both (ltb i p) _ _ (λ x. broken_items x ≡ broken_items ts) (λ yes. append-nil (broken_items ts)) (λ no. refl)

opens_adds : (q : ℕ) (ts : Items) (b p : ℕ) → Adds (broken_items ts) (wants (start b) b (Stack.top q Head.show ts) p)
opens_adds q ts b p = subst (λ s. Adds s (wants (start b) b (Stack.top q Head.show ts) p)) (append-nil (broken_items ts)) (wants_adds (start b) b (Stack.top q Head.show ts) p)

pub seen_step : (c : Config) (p b : ℕ) → Sees c (step c p b)
unfolding broken_items
seen_step (Config.line ts) p b =
    let same = none_added (broken_items ts) _ refl in
    row_all (Adds (broken_items ts)) _ _ _ _ _ _ _ _ same same same same same same same same (class b)
seen_step (Config.plain i ts) p b =
    let same = none_added (broken_items ts) _ refl in
    let more = none_added (broken_items (piece i p ts)) _ (piece_broken i p ts) in
    row_all (Adds (broken_items ts)) _ _ _ _ _ _ _ _ more more same more same same same same (class b)
seen_step (Config.comment ts) p b =
    let same = none_added (broken_items ts) _ refl in
    row_all (Adds (broken_items ts)) _ _ _ _ _ _ _ _ same same same same same same same same (class b)
seen_step (Config.dollar_at_line q ts) p b =
    let opens = opens_adds q ts b p in
    row_all (Adds (broken_items ts)) _ _ _ _ _ _ _ _ opens opens (none_added _ _ refl) refl opens opens opens opens (class b)
seen_step (Config.dollar q ts) p b =
    let opens = opens_adds q ts b p in
    row_all (Adds (broken_items ts)) _ _ _ _ _ _ _ _ opens opens opens refl opens opens opens opens (class b)
seen_step (Config.want k) p b = wants_adds (start b) b k p
seen_step (Config.first k) p b = firsts_adds (start b) b k p
seen_step (Config.in_number i n g) p b = numbers_adds n i g b p
seen_step (Config.in_name i w k) p b = cond_both (word b) _ _ (Adds (seen_stack k)) (λ yes. none_added _ _ refl) (λ no. worded_adds (keyword_of w) i w k p b)
seen_step (Config.in_text i n g) p b =
    let same = none_added (seen_quoted g) _ refl in
    row_all (Adds (seen_quoted g)) _ _ _ _ _ _ _ _ tt same same same same same same same (class b)
seen_step (Config.escape i n g) p b =
    let same = none_added (seen_quoted g) _ refl in
    row_all (Adds (seen_quoted g)) _ _ _ _ _ _ _ _ tt tt tt tt same same same tt (class b)
seen_step (Config.quoted t g) p b = quoteds_adds g t b p
seen_step (Config.named i j w k) p b = nameds_adds (after b) i j w k p
seen_step (Config.aft t k) p b = afters_adds (after b) t k p
seen_step (Config.half q h t k) p b = halves_adds (doubled h b) h q t k b p
seen_step (Config.dots (suc n) r) p b = cond_both (eqb b 46) _ _ (Adds (seen_run r)) (λ yes. none_added _ _ refl) (λ no. tt)
seen_step (Config.dots zero r) p b =
    cond_both (blank b) _ _ (Adds (seen_run r)) (λ yes. none_added _ _ refl) (λ no. cond_both (eqb b 44) _ _ (Adds (seen_run r)) (λ yes. none_added _ _ refl) (λ no. tt))
seen_step (Config.last_wanted r) p b =
    cond_both (blank b) _ _ (Adds (seen_run r)) (λ yes. none_added _ _ refl) (λ no. cond_both (digit b) _ _ (Adds (seen_run r)) (λ yes. none_added _ _ refl) (λ no. tt))
seen_step (Config.last_done c r) p b = lasts_adds (after b) c r
seen_step (Config.bare t ts) p b = bares_adds b t ts p
seen_step (Config.naming q j e ts) p b =
    let A = Adds (broken_items ts ++ room (open_blocks ts) q j) in
    cond_both (blank b) _ _ A (λ yes. none_added _ _ refl) (λ no. cond_both (letter b) _ _ A (λ yes. none_added _ _ refl) (λ no. tt))
seen_step (Config.loop_name q j e i w ts) p b =
    cond_both (word b) _ _ (Adds (broken_items ts ++ room (open_blocks ts) q j)) (λ yes. none_added _ _ refl) (λ no. looped_adds (keyword_of w) q j e i ts b p)

-- at the end all items are complete
pub seen_finish : (c : Config) (p : ℕ) (ts : Items) → finish c p ≡ Some ts → broken_items ts ≡ seen c
seen_finish (Config.line xs) p ts e = let h : xs ≡ ts = cc in ap broken_items (sym h)
seen_finish (Config.plain i xs) p ts e = let h : piece i p xs ≡ ts = cc in ap broken_items (sym h) ∙ piece_broken i p xs
seen_finish (Config.comment xs) p ts e = let h : xs ≡ ts = cc in ap broken_items (sym h)
seen_finish (Config.dollar_at_line q xs) p ts e = cc
seen_finish (Config.dollar q xs) p ts e = cc
seen_finish (Config.want k) p ts e = cc
seen_finish (Config.first k) p ts e = cc
seen_finish (Config.in_number i n g) p ts e = cc
seen_finish (Config.in_name i w k) p ts e = cc
seen_finish (Config.in_text i n g) p ts e = cc
seen_finish (Config.escape i n g) p ts e = cc
seen_finish (Config.quoted t g) p ts e = cc
seen_finish (Config.named i j w k) p ts e = cc
seen_finish (Config.aft t k) p ts e = cc
seen_finish (Config.half q h t k) p ts e = cc
seen_finish (Config.dots n r) p ts e = cc
seen_finish (Config.last_wanted r) p ts e = cc
seen_finish (Config.last_done c r) p ts e = cc
seen_finish (Config.bare t xs) p ts e = cc
seen_finish (Config.naming q j x xs) p ts e = cc
seen_finish (Config.loop_name q j x i w xs) p ts e = cc

-- ---- the reading with the rules held, from the one without

-- without the rules nothing is judged
pub free : (d : List Broken) (o : Out) → judged false d o ≡ o
free [] o = refl
free (f ∷ d) o = refl

judged_more : (d e : List Broken) (o : Out) → judged true d (judged true e o) ≡ judged true (d ++ e) o
judged_more [] e o = refl
judged_more (f ∷ d) e o = refl

-- what a reading that gives the items ts has still to come: with it, the broken rules of the template are all there
pub record Later (bs : List ℕ) (c : Config) (p : ℕ) (ts : Items) : Type 0 where
  pub later : List Broken
  pub all : broken_rules ts (p + length bs) ≡ seen c ++ later
  pub reads : run bs true c p ≡ judged true later (accepted ts)

strict_end : (c : Config) (p : ℕ) (ts : Items) (o : Option Items) → finish c p ≡ o → finished false o p ≡ accepted ts → Later [] c p ts
unfolding run
strict_end c p ts None is e = absurd (let z : ◌≡◌ {A = ℕ} 0 1 = cc in omega arith)
strict_end c p ts (Some xs) is e =
    let same : xs ≡ ts = let h = sym (free (unclosed (open_blocks xs) p) (accepted xs)) ∙ e in cc in
    let ends : finish c p ≡ Some ts = is ∙ ap Some same in
    let whole : p + length {A = ℕ} [] ≡ p = omega arith in
    record {
      later = unclosed (open_blocks ts) p;
      all = ap (broken_rules ts) whole ∙ ap (λ s. s ++ unclosed (open_blocks ts) p) (seen_finish c p ts ends);
      reads = ap (λ x. finished true x p) ends;
    }

strict_by : (b : ℕ) (bs : List ℕ) (c : Config) (p : ℕ) (ts : Items) (v : Move) → step c p b ≡ v → Sees c v → ((c' : Config) → run bs false c' (p + 1) ≡ accepted ts → Later bs c' (p + 1) ts) → reacts_on false bs p v ≡ accepted ts → Later (b ∷ bs) c p ts
unfolding run
strict_by b bs c p ts stop is s ih e = absurd (let z : ◌≡◌ {A = ℕ} 0 1 = cc in omega arith)
strict_by b bs c p ts (go d c') is s ih e =
    let h = ih c' (sym (free d (run bs false c' (p + 1))) ∙ e) in
    let long : p + length (b ∷ bs) ≡ p + 1 + length bs = omega arith in
    record {
      later = d ++ h.later;
      all = ap (broken_rules ts) long ∙ h.all ∙ ap (λ x. x ++ h.later) s ∙ append_assoc (seen c) d h.later;
      reads = ap (reacts_on true bs p) is ∙ ap (judged true d) h.reads ∙ judged_more d h.later (accepted ts);
    }

pub strict : (bs : List ℕ) (c : Config) (p : ℕ) (ts : Items) → run bs false c p ≡ accepted ts → Later bs c p ts
unfolding run
strict [] c p ts e = strict_end c p ts (finish c p) refl e
strict (b ∷ bs) c p ts e = strict_by b bs c p ts (step c p b) refl (seen_step c p b) (λ c'. strict bs c' (p + 1) ts) e

-- what is read with the rules held is read without them
judged_accepts : (d : List Broken) (o : Out) (ts : Items) → judged true d o ≡ accepted ts → (d ≡ []) × (o ≡ accepted ts)
judged_accepts [] o ts e = (refl, e)
judged_accepts (f ∷ d) o ts e = absurd (let z : ◌≡◌ {A = ℕ} 0 1 = cc in omega arith)

accepts_end : (o : Option Items) (p : ℕ) (ts : Items) → finished true o p ≡ accepted ts → finished false o p ≡ accepted ts
accepts_end None p ts e = e
accepts_end (Some xs) p ts e = free (unclosed (open_blocks xs) p) (accepted xs) ∙ (judged_accepts (unclosed (open_blocks xs) p) (accepted xs) ts e).1

accepts_by : (bs : List ℕ) (p : ℕ) (ts : Items) (v : Move) → ((c : Config) → run bs true c (p + 1) ≡ accepted ts → run bs false c (p + 1) ≡ accepted ts) → reacts_on true bs p v ≡ accepted ts → reacts_on false bs p v ≡ accepted ts
accepts_by bs p ts stop ih e = e
accepts_by bs p ts (go d c) ih e = free d (run bs false c (p + 1)) ∙ ih c (judged_accepts d (run bs true c (p + 1)) ts e).1

pub accepts : (bs : List ℕ) (c : Config) (p : ℕ) (ts : Items) → run bs true c p ≡ accepted ts → run bs false c p ≡ accepted ts
unfolding run
accepts [] c p ts e = accepts_end (finish c p) p ts e
accepts (b ∷ bs) c p ts e = accepts_by bs p ts (step c p b) (λ c'. accepts bs c' (p + 1) ts) e

-- and then nothing is broken any more
pub accepts_all : (bs : List ℕ) (c : Config) (p : ℕ) (ts : Items) → run bs true c p ≡ accepted ts → broken_rules ts (p + length bs) ≡ seen c
accepts_all bs c p ts e =
    let h = strict bs c p ts (accepts bs c p ts e) in
    let none = (judged_accepts h.later (accepted ts) ts (sym h.reads ∙ e)).0 in
    h.all ∙ ap (λ d. seen c ++ d) none ∙ append-nil (seen c)

-- ---- what falls due at a byte is due at that byte

abbrev pub Due : ℕ → List Broken → Type 0
Due p [] = Unit {0}
Due p (f ∷ d) = (f.due ≡ p) × Due p d

-- a base is at most sixteen
abbrev pub Base : Digits → Type 0
Base Digits.nought = Unit {0}
Base Digits.prefix = Unit {0}
Base (Digits.digits n v) = n ≤ 16

-- what holds in a configuration that a reading reaches at p: a text constant ends there, and the base of a number is one
abbrev pub Here : Config → ℕ → Type 0
Here (Config.line ts) p = Unit {0}
Here (Config.plain i ts) p = Unit {0}
Here (Config.comment ts) p = Unit {0}
Here (Config.dollar_at_line q ts) p = Unit {0}
Here (Config.dollar q ts) p = Unit {0}
Here (Config.want k) p = Unit {0}
Here (Config.first k) p = Unit {0}
Here (Config.in_number i n g) p = Base n
Here (Config.in_name i w k) p = Unit {0}
Here (Config.in_text i n g) p = Unit {0}
Here (Config.escape i n g) p = Unit {0}
Here (Config.quoted t g) p = t.span.to ≡ p
Here (Config.named i j w k) p = Unit {0}
Here (Config.aft t k) p = Unit {0}
Here (Config.half q h t k) p = Unit {0}
Here (Config.dots n r) p = Unit {0}
Here (Config.last_wanted r) p = Unit {0}
Here (Config.last_done c r) p = Unit {0}
Here (Config.bare t ts) p = Unit {0}
Here (Config.naming q j e ts) p = Unit {0}
Here (Config.loop_name q j e i w ts) p = Unit {0}

abbrev pub Falls : ℕ → Move → Type 0
Falls p stop = Unit {0}
Falls p (go d c) = Due p d × Here c (p + 1)

breaks_due : (t : Bool) (r : Rule) (q p : ℕ) → Due p (breaks t r q p)
breaks_due true r q p = tt
breaks_due false r q p = (refl, tt)

both_due : (p : ℕ) (d e : List Broken) → Due p d → Due p e → Due p (d ++ e)
both_due p [] e h h' = h'
both_due p (f ∷ d) e h h' = (h.0, both_due p d e h.1 h')

late_falls : (p : ℕ) (d : List Broken) (v : Move) → Due p d → Falls p v → Falls p (late d v)
late_falls p d stop h f = tt
late_falls p d (go e c) h f = (both_due p d e h f.0, f.1)

known_due : (i : ℕ) (f : Option Signature) (p : ℕ) → Due p (known i f p)
known_due i (Some f) p = tt
known_due i None p = (refl, tt)

counted_due : (i : ℕ) (f : Option Signature) (n p : ℕ) → Due p (counted i f n p)
counted_due i (Some f) n p = breaks_due _ _ _ p
counted_due i None n p = tt

operator_falls : (p q : ℕ) (o : Op) (t : Expr) (k : Stack) → Falls p (operator q o t k)
operator_falls p q o t k = (tt, tt)

shut_falls : (s : Shape) (b : Bracket) (t : Expr) (k : Stack) (p : ℕ) → Falls p (shut s b t k p)
shut_falls Round (Bracket.round q) t k p = (tt, tt)
shut_falls Round (Bracket.square i j q) t k p = tt
shut_falls Round (Bracket.call i j q f s) t k p = (counted_due i f _ p, tt)
shut_falls Round (Bracket.curly q s n) t k p = tt
shut_falls Square (Bracket.round q) t k p = tt
shut_falls Square (Bracket.square i j q) t k p = (tt, tt)
shut_falls Square (Bracket.call i j q f s) t k p = tt
shut_falls Square (Bracket.curly q s n) t k p = tt
shut_falls Curly (Bracket.round q) t k p = tt
shut_falls Curly (Bracket.square i j q) t k p = tt
shut_falls Curly (Bracket.call i j q f s) t k p = tt
shut_falls Curly (Bracket.curly q s n) t k p = (tt, tt)

next_falls : (c : Separator) (b : Bracket) (t : Expr) (k : Stack) (p : ℕ) → Falls p (next c b t k)
next_falls Comma (Bracket.round q) t k p = tt
next_falls Semicolon (Bracket.round q) t k p = tt
next_falls Comma (Bracket.square i j q) t k p = tt
next_falls Semicolon (Bracket.square i j q) t k p = tt
next_falls Comma (Bracket.call i j q f s) t k p = (tt, tt)
next_falls Semicolon (Bracket.call i j q f s) t k p = tt
next_falls Comma (Bracket.curly q s n) t k p = (tt, tt)
next_falls Semicolon (Bracket.curly q s n) t k p = (tt, tt)

complete_falls : (p q : ℕ) (h : Head) (t : Expr) (ts : Items) → Falls p (complete p q h t ts)
complete_falls p q Head.show t ts = (tt, tt)
complete_falls p q (Head.assign k) t ts = (tt, tt)
complete_falls p q (Head.if j) t ts = (tt, tt)
complete_falls p q (Head.elif j) t ts = (tt, tt)
complete_falls p q (Head.while j) t ts = (tt, tt)
complete_falls p q (Head.foreach j x y) t ts = (tt, tt)
complete_falls p q (Head.joineach j x y) t ts = tt

delimits_falls : (p q : ℕ) (h : Head) (t : Expr) (ts : Items) → Falls p (delimits p q h t ts)
delimits_falls p q Head.show t ts = tt
delimits_falls p q (Head.assign k) t ts = tt
delimits_falls p q (Head.if j) t ts = tt
delimits_falls p q (Head.elif j) t ts = tt
delimits_falls p q (Head.while j) t ts = tt
delimits_falls p q (Head.foreach j x y) t ts = tt
delimits_falls p q (Head.joineach j x y) t ts = (tt, tt)

closes_falls : (s : Shape) (p : ℕ) (x : Expr × Stack) → Falls p (closes s p x)
closes_falls s p (t, Stack.top q h ts) = tt
closes_falls s p (t, Stack.binary q o l k) = tt
closes_falls s p (t, Stack.signed q g k) = tt
closes_falls s p (t, Stack.open' b k) = shut_falls s b t k p

parts_falls : (c : Separator) (x : Expr × Stack) (p : ℕ) → Falls p (parts c x)
parts_falls c (t, Stack.top q h ts) p = tt
parts_falls c (t, Stack.binary q o l k) p = tt
parts_falls c (t, Stack.signed q g k) p = tt
parts_falls c (t, Stack.open' b k) p = next_falls c b t k p

completes_falls : (p : ℕ) (x : Expr × Stack) → Falls p (completes p x)
completes_falls p (t, Stack.top q h ts) = complete_falls p q h t ts
completes_falls p (t, Stack.binary q o l k) = tt
completes_falls p (t, Stack.signed q g k) = tt
completes_falls p (t, Stack.open' b k) = tt

quotes_falls : (p : ℕ) (x : Expr × Stack) → Falls p (quotes p x)
quotes_falls p (t, Stack.top q h ts) = delimits_falls p q h t ts
quotes_falls p (t, Stack.binary q o l k) = tt
quotes_falls p (t, Stack.signed q g k) = tt
quotes_falls p (t, Stack.open' b k) = tt

afters_falls : (x : After) (t : Expr) (k : Stack) (p : ℕ) → Falls p (afters x t k p)
afters_falls past.Blank t k p = (tt, tt)
afters_falls (past.Single o) t k p = operator_falls p p o t k
afters_falls (past.Double h) t k p = (tt, tt)
afters_falls (past.Separator c) t k p = parts_falls c (reduce 0 t k) p
afters_falls past.Round t k p = tt
afters_falls past.Square t k p = tt
afters_falls (past.End s) t k p = closes_falls s p (reduce 0 t k)
afters_falls past.Dollar t k p = completes_falls p (reduce 0 t k)
afters_falls past.Quote t k p = quotes_falls p (reduce 0 t k)
afters_falls past.Other t k p = tt

nameds_falls : (x : After) (i j : ℕ) (w : List ℕ) (k : Stack) (p : ℕ) → Falls p (nameds x i j w k p)
nameds_falls past.Blank i j w k p = (tt, tt)
nameds_falls (past.Single o) i j w k p = operator_falls p p o (Expr.key (Key.name i j)) k
nameds_falls (past.Double h) i j w k p = (tt, tt)
nameds_falls (past.Separator c) i j w k p = parts_falls c (reduce 0 (Expr.key (Key.name i j)) k) p
nameds_falls past.Round i j w k p = (both_due p _ _ (breaks_due _ _ _ p) (known_due i (function w) p), tt)
nameds_falls past.Square i j w k p = (breaks_due _ _ _ p, tt)
nameds_falls (past.End s) i j w k p = closes_falls s p (reduce 0 (Expr.key (Key.name i j)) k)
nameds_falls past.Dollar i j w k p = completes_falls p (reduce 0 (Expr.key (Key.name i j)) k)
nameds_falls past.Quote i j w k p = quotes_falls p (reduce 0 (Expr.key (Key.name i j)) k)
nameds_falls past.Other i j w k p = tt

sign_falls : (p : ℕ) (s : Sign) (k : Stack) → Falls p (sign p s k)
sign_falls p s (Stack.top q h ts) = (tt, tt)
sign_falls p s (Stack.binary q o l k) = (tt, tt)
sign_falls p s (Stack.signed q g k) = tt
sign_falls p s (Stack.open' b k) = (tt, tt)

running_falls : (q : ℕ) (s : Seq) (a b : Option Constant) (k : Stack) (p : ℕ) → Falls p (running q s a b k)
running_falls q s (Some a) (Some b) k p = (tt, tt)
running_falls q s (Some a) None k p = tt
running_falls q s None b k p = tt

pair_falls : (q : ℕ) (s : Seq) (k : Stack) (p : ℕ) → Falls p (pair q s k)
pair_falls q Seq.empty k p = tt
pair_falls q (Seq.item Seq.empty b) k p = tt
pair_falls q (Seq.item (Seq.item s a) b) k p = running_falls q s (constant a) (constant b) k p
pair_falls q (Seq.item (Seq.steps s a b' c) b) k p = tt
pair_falls q (Seq.steps s a b c) k p = tt

dotted_falls : (k : Stack) (p : ℕ) → Falls p (dotted k)
dotted_falls (Stack.top q h ts) p = tt
dotted_falls (Stack.binary q o l k) p = tt
dotted_falls (Stack.signed q s k) p = tt
dotted_falls (Stack.open' (Bracket.round q) k) p = tt
dotted_falls (Stack.open' (Bracket.square i j q) k) p = tt
dotted_falls (Stack.open' (Bracket.call i j q f s) k) p = tt
dotted_falls (Stack.open' (Bracket.curly q s n) k) p = cond_both (eqb n 2) _ _ (Falls p) (λ yes. pair_falls q s k p) (λ no. tt)

first_base : (b : ℕ) → Base (first_digit b)
first_base b = cond_both (eqb b 48) _ _ Base (λ yes. tt) (λ no. omega arith)

wants_falls : (x : Start) (b : ℕ) (k : Stack) (p : ℕ) → Falls p (wants x b k p)
wants_falls at.Blank b k p = (tt, tt)
wants_falls at.Digit b k p = (tt, first_base b)
wants_falls at.Letter b k p = (tt, tt)
wants_falls at.Quote b k p = (tt, tt)
wants_falls (at.Sign s) b k p = sign_falls p s k
wants_falls at.Round b k p = (breaks_due _ _ _ p, tt)
wants_falls at.Curly b k p = (breaks_due _ _ _ p, tt)
wants_falls at.EndRound b k p = tt
wants_falls at.EndCurly b k p = tt
wants_falls at.Dot b k p = dotted_falls k p
wants_falls at.Other b k p = tt

hollow_falls : (s : Shape) (k : Stack) (p : ℕ) → Falls p (hollow s k p)
hollow_falls Round (Stack.top q h ts) p = tt
hollow_falls Square (Stack.top q h ts) p = tt
hollow_falls Curly (Stack.top q h ts) p = tt
hollow_falls Round (Stack.binary q o l k) p = tt
hollow_falls Square (Stack.binary q o l k) p = tt
hollow_falls Curly (Stack.binary q o l k) p = tt
hollow_falls Round (Stack.signed q g k) p = tt
hollow_falls Square (Stack.signed q g k) p = tt
hollow_falls Curly (Stack.signed q g k) p = tt
hollow_falls Round (Stack.open' (Bracket.round q) k) p = tt
hollow_falls Square (Stack.open' (Bracket.round q) k) p = tt
hollow_falls Curly (Stack.open' (Bracket.round q) k) p = tt
hollow_falls Round (Stack.open' (Bracket.square i j q) k) p = tt
hollow_falls Square (Stack.open' (Bracket.square i j q) k) p = tt
hollow_falls Curly (Stack.open' (Bracket.square i j q) k) p = tt
hollow_falls Round (Stack.open' (Bracket.call i j q f s) k) p = (counted_due i f _ p, tt)
hollow_falls Square (Stack.open' (Bracket.call i j q f s) k) p = tt
hollow_falls Curly (Stack.open' (Bracket.call i j q f s) k) p = tt
hollow_falls Round (Stack.open' (Bracket.curly q s n) k) p = tt
hollow_falls Square (Stack.open' (Bracket.curly q s n) k) p = tt
hollow_falls Curly (Stack.open' (Bracket.curly q s n) k) p = (tt, tt)

firsts_falls : (x : Start) (b : ℕ) (k : Stack) (p : ℕ) → Falls p (firsts x b k p)
firsts_falls at.Blank b k p = (tt, tt)
firsts_falls at.Digit b k p = (tt, first_base b)
firsts_falls at.Letter b k p = (tt, tt)
firsts_falls at.Quote b k p = (tt, tt)
firsts_falls (at.Sign s) b k p = sign_falls p s k
firsts_falls at.Round b k p = (breaks_due _ _ _ p, tt)
firsts_falls at.Curly b k p = (breaks_due _ _ _ p, tt)
firsts_falls at.EndRound b k p = hollow_falls Round k p
firsts_falls at.EndCurly b k p = hollow_falls Curly k p
firsts_falls at.Dot b k p = dotted_falls k p
firsts_falls at.Other b k p = tt

bares_falls : (b : ℕ) (t : Item) (ts : Items) (p : ℕ) → Falls p (bares b t ts p)
bares_falls b t ts p = cond_both (blank b) _ _ (Falls p) (λ yes. (tt, tt)) (λ no. cond_both (eqb b 36) _ _ (Falls p) (λ yes. (tt, tt)) (λ no. tt))

commands_falls : (w : Keyword) (q : ℕ) (ts : Items) (j b : ℕ) → Falls j (commands w q ts j b)
commands_falls keyword.If q ts j b = late_falls j _ _ (breaks_due _ _ _ j) (wants_falls (start b) b (Stack.top q (Head.if j) ts) j)
commands_falls keyword.While q ts j b = late_falls j _ _ (breaks_due _ _ _ j) (wants_falls (start b) b (Stack.top q (Head.while j) ts) j)
commands_falls keyword.Foreach q ts j b = cond_both (blank b) _ _ (Falls j) (λ yes. (breaks_due _ _ _ j, tt)) (λ no. tt)
commands_falls keyword.Joineach q ts j b = cond_both (blank b) _ _ (Falls j) (λ yes. (breaks_due _ _ _ j, tt)) (λ no. tt)
commands_falls keyword.Elif q ts j b = late_falls j _ _ (breaks_due _ _ _ j) (wants_falls (start b) b (Stack.top q (Head.elif j) ts) j)
commands_falls keyword.Else q ts j b = late_falls j _ _ (breaks_due _ _ _ j) (bares_falls b (Item.else q j) ts j)
commands_falls keyword.End q ts j b = late_falls j _ _ (breaks_due _ _ _ j) (bares_falls b (Item.end q j) ts j)

commanded_falls : (w : Keyword) (k : Stack) (j b : ℕ) → Falls j (commanded w k j b)
commanded_falls w (Stack.top q Head.show ts) j b = commands_falls w q ts j b
commanded_falls w (Stack.top q (Head.assign k) ts) j b = tt
commanded_falls w (Stack.top q (Head.if x) ts) j b = tt
commanded_falls w (Stack.top q (Head.elif x) ts) j b = tt
commanded_falls w (Stack.top q (Head.while x) ts) j b = tt
commanded_falls w (Stack.top q (Head.foreach x y z) ts) j b = tt
commanded_falls w (Stack.top q (Head.joineach x y z) ts) j b = tt
commanded_falls w (Stack.binary q o l k) j b = tt
commanded_falls w (Stack.signed q s k) j b = tt
commanded_falls w (Stack.open' c k) j b = tt

worded_falls : (o : Option Keyword) (i : ℕ) (w : List ℕ) (k : Stack) (p b : ℕ) → Falls p (worded o i w k p b)
worded_falls (Some c) i w k p b = commanded_falls c k p b
worded_falls None i w k p b = late_falls p _ _ (breaks_due _ _ _ p) (nameds_falls (after b) i p w k p)

assigned_falls : (c : Key) (k : Stack) (b p : ℕ) → Falls p (assigned c k b p)
assigned_falls c (Stack.top q Head.show ts) b p = wants_falls (start b) b (Stack.top q (Head.assign c) ts) p
assigned_falls c (Stack.top q (Head.assign k) ts) b p = tt
assigned_falls c (Stack.top q (Head.if x) ts) b p = tt
assigned_falls c (Stack.top q (Head.elif x) ts) b p = tt
assigned_falls c (Stack.top q (Head.while x) ts) b p = tt
assigned_falls c (Stack.top q (Head.foreach x y z) ts) b p = tt
assigned_falls c (Stack.top q (Head.joineach x y z) ts) b p = tt
assigned_falls c (Stack.binary q o l k) b p = tt
assigned_falls c (Stack.signed q s k) b p = tt
assigned_falls c (Stack.open' x k) b p = tt

assigns_falls : (t : Expr) (k : Stack) (b p : ℕ) → Falls p (assigns t k b p)
assigns_falls (Expr.number c) k b p = tt
assigns_falls (Expr.text t) k b p = tt
assigns_falls (Expr.key c) k b p = assigned_falls c k b p
assigns_falls (Expr.call i j q f s z) k b p = tt
assigns_falls (Expr.list q s) k b p = tt
assigns_falls (Expr.round q e) k b p = tt
assigns_falls (Expr.signed q s e) k b p = tt
assigns_falls (Expr.binary q o l r) k b p = tt

single_falls : (h : Half) (o : Option Op) (q : ℕ) (t : Expr) (k : Stack) (b p : ℕ) → Falls p (single h o q t k b p)
single_falls h (Some o) q t k b p = wants_falls (start b) b (pushed q o (reduce (level o) t k)) p
single_falls halved.Bar None q t k b p = tt
single_falls halved.Ampersand None q t k b p = tt
single_falls halved.Equals None q t k b p = assigns_falls t k b p
single_falls halved.Bang None q t k b p = tt
single_falls halved.Less None q t k b p = tt
single_falls halved.Greater None q t k b p = tt

halves_falls : (o : Option Op) (h : Half) (q : ℕ) (t : Expr) (k : Stack) (b p : ℕ) → Falls p (halves o h q t k b p)
halves_falls (Some o) h q t k b p = operator_falls p q o t k
halves_falls None h q t k b p = single_falls h (alone h) q t k b p

lasts_falls : (x : After) (c : Constant) (r : Run) (p : ℕ) → Falls p (lasts x c r)
lasts_falls past.Blank c r p = (tt, tt)
lasts_falls (past.Single o) c r p = tt
lasts_falls (past.Double h) c r p = tt
lasts_falls (past.Separator Comma) c r p = tt
lasts_falls (past.Separator Semicolon) c r p = (tt, tt)
lasts_falls past.Round c r p = tt
lasts_falls past.Square c r p = tt
lasts_falls (past.End Round) c r p = tt
lasts_falls (past.End Square) c r p = tt
lasts_falls (past.End Curly) c r p = (tt, tt)
lasts_falls past.Dollar c r p = tt
lasts_falls past.Quote c r p = tt
lasts_falls past.Other c r p = tt

large_due : (c : Constant) → Due c.span.to (large c)
large_due c = breaks_due _ _ _ c.span.to

lengthy_due : (c : Constant) → Due c.span.to (lengthy c)
lengthy_due c = breaks_due _ _ _ c.span.to

arrival_due : (a b c : Constant) → Due c.span.to (arrival a b c)
arrival_due a b c = breaks_due _ _ _ c.span.to

numbereds_falls : (g : Numbered) (i v b p : ℕ) → Falls p (numbereds g (constant_at i p v) b p)
numbereds_falls (Numbered.operand k) i v b p =
    let c = constant_at i p v in
    late_falls p (broken_number c) _ (both_due p (large c) (lengthy c) (large_due c) (lengthy_due c)) (afters_falls (after b) (Expr.number c) k p)
numbereds_falls (Numbered.last r) i v b p =
    let c = constant_at i p v in
    let arrives = arrival r.first r.second c in
    late_falls p (last_broken r c) _
    (both_due p (large c ++ arrives) (lengthy c) (both_due p (large c) arrives (large_due c) (arrival_due r.first r.second c)) (lengthy_due c))
    (lasts_falls (after b) c r p)

numbers_falls : (n : Digits) (i : ℕ) (g : Numbered) (b p : ℕ) → Base n → Falls p (numbers n i g b p)
numbers_falls Digits.nought i g b p h =
    cond_both (eqb b 120 || eqb b 88) _ _ (Falls p) (λ yes. (tt, tt)) (λ no. cond_both (ltb (digit_value b) 8) _ _ (Falls p) (λ yes. (tt, omega arith)) (λ no. numbereds_falls g i 0 b p))
numbers_falls Digits.prefix i g b p h = cond_both (ltb (digit_value b) 16) _ _ (Falls p) (λ yes. (tt, omega arith)) (λ no. tt)
numbers_falls (Digits.digits n v) i g b p h = cond_both (ltb (digit_value b) n) _ _ (Falls p) (λ yes. (tt, h)) (λ no. numbereds_falls g i v b p)

quoteds_falls : (g : Quoted) (t : Quote) (b p : ℕ) → t.span.to ≡ p → Falls p (quoteds g t b p)
quoteds_falls g t b p e = by_use g
  where
    wide_due : Due p (wide t)
    wide_due = subst (λ x. Due x (wide t)) e (breaks_due _ _ _ t.span.to)

    by_use : (g : Quoted) → Falls p (quoteds g t b p)
    by_use (Quoted.operand k) = late_falls p (wide t) _ wide_due (afters_falls (after b) (Expr.text t) k p)
    by_use (Quoted.delimiter j) = late_falls p (wide t) _ wide_due (bares_falls b (joined j t) j.items p)

looped_falls : (o : Option Keyword) (q j : ℕ) (e : Bool) (i : ℕ) (ts : Items) (b p : ℕ) → Falls p (looped o q j e i ts b p)
looped_falls (Some c) q j e i ts b p = tt
looped_falls None q j e i ts b p = late_falls p _ _ (breaks_due _ _ _ p) (wants_falls (start b) b (Stack.top q (loop_head e j i p) ts) p)

pub due_step : (c : Config) (p b : ℕ) → Here c p → Falls p (step c p b)
due_step (Config.line ts) p b h = row_all (Falls p) _ _ _ _ _ _ _ _ (tt, tt) (tt, tt) (tt, tt) (tt, tt) (tt, tt) (tt, tt) (tt, tt) (tt, tt) (class b)
due_step (Config.plain i ts) p b h = row_all (Falls p) _ _ _ _ _ _ _ _ (tt, tt) (tt, tt) (tt, tt) (tt, tt) (tt, tt) (tt, tt) (tt, tt) (tt, tt) (class b)
due_step (Config.comment ts) p b h = row_all (Falls p) _ _ _ _ _ _ _ _ (tt, tt) (tt, tt) (tt, tt) (tt, tt) (tt, tt) (tt, tt) (tt, tt) (tt, tt) (class b)
due_step (Config.dollar_at_line q ts) p b h =
    let opens = wants_falls (start b) b (Stack.top q Head.show ts) p in
    row_all (Falls p) _ _ _ _ _ _ _ _ opens opens (tt, tt) (tt, tt) opens opens opens opens (class b)
due_step (Config.dollar q ts) p b h =
    let opens = wants_falls (start b) b (Stack.top q Head.show ts) p in
    row_all (Falls p) _ _ _ _ _ _ _ _ opens opens opens (tt, tt) opens opens opens opens (class b)
due_step (Config.want k) p b h = wants_falls (start b) b k p
due_step (Config.first k) p b h = firsts_falls (start b) b k p
due_step (Config.in_number i n g) p b h = numbers_falls n i g b p h
due_step (Config.in_name i w k) p b h = cond_both (word b) _ _ (Falls p) (λ yes. (tt, tt)) (λ no. worded_falls (keyword_of w) i w k p b)
due_step (Config.in_text i n g) p b h = row_all (Falls p) _ _ _ _ _ _ _ _ tt (tt, tt) (tt, tt) (tt, tt) (tt, refl) (tt, tt) (tt, tt) (tt, tt) (class b)
due_step (Config.escape i n g) p b h = row_all (Falls p) _ _ _ _ _ _ _ _ tt tt tt tt (tt, tt) (tt, tt) (tt, tt) tt (class b)
due_step (Config.quoted t g) p b h = quoteds_falls g t b p h
due_step (Config.named i j w k) p b h = nameds_falls (after b) i j w k p
due_step (Config.aft t k) p b h = afters_falls (after b) t k p
due_step (Config.half q x t k) p b h = halves_falls (doubled x b) x q t k b p
due_step (Config.dots (suc n) r) p b h = cond_both (eqb b 46) _ _ (Falls p) (λ yes. (tt, tt)) (λ no. tt)
due_step (Config.dots zero r) p b h = cond_both (blank b) _ _ (Falls p) (λ yes. (tt, tt)) (λ no. cond_both (eqb b 44) _ _ (Falls p) (λ yes. (tt, tt)) (λ no. tt))
due_step (Config.last_wanted r) p b h = cond_both (blank b) _ _ (Falls p) (λ yes. (tt, tt)) (λ no. cond_both (digit b) _ _ (Falls p) (λ yes. (tt, first_base b)) (λ no. tt))
due_step (Config.last_done c r) p b h = lasts_falls (after b) c r p
due_step (Config.bare t ts) p b h = bares_falls b t ts p
due_step (Config.naming q j e ts) p b h = cond_both (blank b) _ _ (Falls p) (λ yes. (tt, tt)) (λ no. cond_both (letter b) _ _ (Falls p) (λ yes. (tt, tt)) (λ no. tt))
due_step (Config.loop_name q j e i w ts) p b h = cond_both (word b) _ _ (Falls p) (λ yes. (tt, tt)) (λ no. looped_falls (keyword_of w) q j e i ts b p)
