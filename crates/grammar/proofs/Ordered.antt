-- The broken rules of a template are listed in the order in which they fall due, at one byte by number. Assumes nothing.
use Rattle.std.proofs.Common.{◌≡◌, ℕ, suc, ◌+◌, ◌-◌, ◌*◌, ◌<◌, ◌≤◌, Bool, true, false, ◌&&◌, ltb, leb, List, [], ◌∷◌, ◌++◌, length, Some, None, Option, sym, refl, subst, inl, inr, ⊎_elim, arith}
use Rattle.std.proofs.lemmas.Bool.{cases_lt}
use Rattle.functions.specs.declared.Signature.{Signature}
use Rattle.refusals.specs.Refusals.{number_of}
use Rattle.tokens.specs.declared.operator.Op.{Op}
use Rattle.tokens.specs.declared.operator.Op.TheVariants as op
use Rattle.trees.specs.declared.Constant.{Constant}
use Rattle.trees.specs.declared.Quote.{Quote}
use Rattle.trees.specs.Tree.{Key, Expr, Args, Seq, Item, Items, count_args}
use Rattle.grammar.specs.Rules.{Rule, four, five, six, seven, eight, refusal_of, Broken, breaks, large, lengthy, wide, long, deep, known, counted, arrival, broken_number, broken, broken_key, broken_args, broken_seq, Opened, open_blocks, broken_item, broken_items, unclosed, broken_rules}
use Rattle.grammar.specs.Grammar
use Rattle.grammar.specs.Grammar.{Number, Chars, Text, Written, Spells, Keyed, Listed, Arguments, ItemsOf, Groups, Group, Commas, Dots, Says, Lines, Line, Body, Begun, Template}
use Rattle.grammar.specs.Laws.{Sooner, Among}

-- one number for the byte at which a rule falls due and the rule's own number, which is below 16
abbrev rank : Broken → ℕ
rank f = 16 * f.due + number_of (refusal_of f.rule)

-- the ranks do not fall, and lie from a to b
data Between : ℕ → ℕ → List Broken → Type 0 where
  done : {a b : ℕ} → a ≤ b → Between a b []
  next : {a b : ℕ} {f : Broken} {fs : List Broken} → a ≤ rank f → Between (rank f) b fs → Between a b (f ∷ fs)

lower : {a b : ℕ} {fs : List Broken} (a' : ℕ) → a' ≤ a → Between a b fs → Between a' b fs
lower a' h (done k) = done (omega arith)
lower a' h (next k p) = next (omega arith) p

raise : {a b : ℕ} {fs : List Broken} (b' : ℕ) → b ≤ b' → Between a b fs → Between a b' fs
raise b' h (done k) = done (omega arith)
raise b' h (next k p) = next k (raise b' h p)

within : {a b a' b' : ℕ} {fs : List Broken} → a' ≤ a → b ≤ b' → Between a b fs → Between a' b' fs
within {a' = a'} {b' = b'} h k p = lower a' h (raise b' k p)

join : {a b b' c : ℕ} {fs gs : List Broken} → Between a b fs → b ≤ b' → Between b' c gs → Between a c (fs ++ gs)
join {a = a} (done k) h q = lower a (omega arith) q
join (next k p) h q = next k (join p h q)

-- each rule alone
one : (t : Bool) (r : Rule) (q p : ℕ) → Between (16 * p + number_of (refusal_of r)) (16 * p + number_of (refusal_of r)) (breaks t r q p)
one true r q p = done (omega arith)
one false r q p = next (omega arith) (done (omega arith))

one_known : (i : ℕ) (f : Option Signature) (q : ℕ) → Between (16 * q + 8) (16 * q + 8) (known i f q)
one_known i (Some f) q = done (omega arith)
one_known i None q = next (omega arith) (done (omega arith))

one_counted : (i : ℕ) (f : Option Signature) (n z : ℕ) → Between (16 * z + 8) (16 * z + 8) (counted i f n z)
one_counted i (Some f) n z = one (leb f.least n && leb n f.most) eight i z
one_counted i None n z = done (omega arith)

one_long : (i j : ℕ) → Between (16 * j + 6) (16 * j + 6) (long i j)
one_long i j = one (leb (j - i) 24) six i j

one_deep : (d q : ℕ) → Between (16 * q + 7) (16 * q + 7) (deep d q)
one_deep d q = one (ltb d 12) seven q q

one_wide : (t : Quote) → Between (16 * t.span.to + 6) (16 * t.span.to + 6) (wide t)
one_wide t = one (leb t.bytes 32) six t.span.«from» t.span.to

one_large : (c : Constant) → Between (16 * c.span.to + 5) (16 * c.span.to + 5) (large c)
one_large c = one (leb c.value 9223372036854775807) five c.span.«from» c.span.to

one_lengthy : (c : Constant) → Between (16 * c.span.to + 6) (16 * c.span.to + 6) (lengthy c)
one_lengthy c = one (leb (c.span.to - c.span.«from») 32) six c.span.«from» c.span.to

one_arrival : (a b c : Constant) → Between (16 * c.span.to + 5) (16 * c.span.to + 5) (arrival a b c)
one_arrival a b c = one _ five a.span.«from» c.span.to

one_number : (c : Constant) → Between (16 * c.span.to + 5) (16 * c.span.to + 6) (broken_number c)
one_number c = join (one_large c) (omega arith) (one_lengthy c)

module _ (text : List ℕ) where
  number_on : {i j v : ℕ} → Number text i j v → i < j
  number_on (Grammar.decimal h n e) = h
  number_on (Grammar.octal z h e) = h
  number_on (Grammar.hexadecimal z x h e) = omega arith

  chars_on : {n i j : ℕ} → Chars text n i j → i ≤ j
  chars_on Grammar.none = omega arith
  chars_on (Grammar.plain c h q e l) = omega (arith, chars_on c)
  chars_on (Grammar.escaped b c e a h) = omega (arith, chars_on c)

  text_on : (t : Quote) → Text text t → t.span.«from» < t.span.to
  text_on t x = omega (arith, chars_on x.chars)

  dots_on : {i j : ℕ} → Dots text i j → i < j
  dots_on (Grammar.dots b x y z e) = omega arith

  written_on : (o : Op) (i j : ℕ) → Written text o i j → i < j
  written_on op.Or i j w = omega arith
  written_on op.And i j w = omega arith
  written_on op.BitOr i j w = omega arith
  written_on op.BitXor i j w = omega arith
  written_on op.BitAnd i j w = omega arith
  written_on op.Equal i j w = omega arith
  written_on op.Unequal i j w = omega arith
  written_on op.Less i j w = omega arith
  written_on op.Greater i j w = omega arith
  written_on op.LessEqual i j w = omega arith
  written_on op.GreaterEqual i j w = omega arith
  written_on op.ShiftLeft i j w = omega arith
  written_on op.ShiftRight i j w = omega arith
  written_on op.Add i j w = omega arith
  written_on op.Subtract i j w = omega arith
  written_on op.Multiply i j w = omega arith
  written_on op.Divide i j w = omega arith
  written_on op.Remainder i j w = omega arith

  -- an expression from i to j: 7 at the first byte at the soonest, 6 at the byte after it at the latest
  mutual
    unfolding broken broken_key broken_args broken_seq

    spells_order : {n : ℕ} {t : Expr} {i j : ℕ} → Spells text n t i j → (d : ℕ) → Between (16 * i + 7) (16 * j + 6) (broken d t)
    spells_order (Grammar.tighter s) d = spells_order s d
    spells_order (Grammar.binary {a = a} {b = b} {c = c} o e l s w r) d = join (spells_order l d) (omega (arith, written_on o b c w)) (spells_order r d)
    spells_order (Grammar.signed s b a e) d = within (omega arith) (omega arith) (spells_order e d)
    spells_order (Grammar.number c b n) d = within (omega (arith, number_on n)) (omega arith) (one_number c)
    spells_order (Grammar.quote t b x) d = within (omega (arith, text_on t x)) (omega arith) (one_wide t)
    spells_order (Grammar.key k) d = keyed_order k d
    spells_order (Grammar.call {a = a} {b = b} {c = c} {e = e} {s = s} x n y l ss r) d =
        within (omega arith) (omega arith) (join (join (join (join (one_long a b) (omega arith) (one_deep d c)) (omega arith) (one_known a _ c)) (omega arith) (listed_order ss (suc d))) (omega arith) (one_counted a _ (count_args s) e))
    spells_order (Grammar.list {a = a} x l ss r) d = within (omega arith) (omega arith) (join (one_deep d a) (omega arith) (items_order ss (suc d)))
    spells_order (Grammar.round {a = a} x l e y r) d = within (omega arith) (omega arith) (join (one_deep d a) (omega arith) (spells_order e (suc d)))

    keyed_order : {k : Key} {i j : ℕ} → Keyed text k i j → (d : ℕ) → Between (16 * i + 7) (16 * j + 6) (broken_key d k)
    keyed_order (Grammar.plain {a = a} {j = j} b n) d = within (omega arith) (omega arith) (one_long a j)
    keyed_order (Grammar.numbered {a = a} {b = b} {c = c} x n y l e z r) d = within (omega arith) (omega arith) (join (join (one_long a b) (omega arith) (one_deep d c)) (omega arith) (spells_order e (suc d)))

    listed_order : {s : Args} {i j : ℕ} → Listed text s i j → (d : ℕ) → Between (16 * i) (16 * j + 6) (broken_args d s)
    listed_order (Grammar.no_arguments b) d = done (omega arith)
    listed_order (Grammar.arguments ss b) d = within (omega arith) (omega arith) (arguments_order ss d)

    arguments_order : {s : Args} {i j : ℕ} → Arguments text s i j → (d : ℕ) → Between (16 * i + 7) (16 * j + 6) (broken_args d s)
    arguments_order (Grammar.argument e) d = spells_order e d
    arguments_order (Grammar.and_argument ss b c e) d = join (arguments_order ss d) (omega arith) (spells_order e d)

    items_order : {s : Seq} {i j : ℕ} → ItemsOf text s i j → (d : ℕ) → Between (16 * i) (16 * j + 6) (broken_seq d s)
    items_order (Grammar.no_items b) d = done (omega arith)
    items_order (Grammar.items gs b) d = within (omega arith) (omega arith) (groups_order gs d)

    groups_order : {s : Seq} {i j : ℕ} → Groups text s i j → (d : ℕ) → Between (16 * i + 7) (16 * j + 6) (broken_seq d s)
    groups_order (Grammar.group g) d = group_order g d _ (done (omega arith))
    groups_order (Grammar.and_group gs b c g) d = group_order g d _ (within (omega arith) (omega arith) (groups_order gs d))

    -- a group behind items whose ranks lie from a on
    group_order : {s s' : Seq} {i j : ℕ} → Group text s s' i j → (d a : ℕ) → Between a (16 * i + 7) (broken_seq d s) → Between a (16 * j + 6) (broken_seq d s')
    group_order (Grammar.expressions cs) d a p = commas_order cs d a p
    group_order (Grammar.sequence x y z b₁ n₁ b₂ c₁ b₃ n₂ b₄ c₂ ds c₃ b₅ n₃) d a p =
        join (join (join (join (join p (omega (arith, number_on n₁)) (one_number x)) (omega (arith, number_on n₂)) (one_number y)) (omega (arith, number_on n₃, dots_on ds)) (one_large z)) (omega arith) (one_arrival x y z)) (omega arith) (one_lengthy z)

    commas_order : {s s' : Seq} {i j : ℕ} → Commas text s s' i j → (d a : ℕ) → Between a (16 * i + 7) (broken_seq d s) → Between a (16 * j + 6) (broken_seq d s')
    commas_order (Grammar.item e) d a p = join p (omega arith) (spells_order e d)
    commas_order (Grammar.and_item cs b c e) d a p = join (commas_order cs d a p) (omega arith) (spells_order e d)

  -- an instruction from its `$` at i to its `$` at k
  says_order : {t : Item} {i k : ℕ} → Says text t i k → (os : List Opened) → Between (16 * i) (16 * k + 6) (broken_item os t)
  says_order (Grammar.show e b) os = within (omega arith) (omega arith) (spells_order e 0)
  says_order (Grammar.assign k x q e y) os = within (omega arith) (omega arith) (join (keyed_order k 0) (omega arith) (spells_order e 0))
  says_order (Grammar.if {i = i} {b = b} x w e y) os = within (omega arith) (omega arith) (join (one (ltb (length os) 12) four i b) (omega arith) (spells_order e 0))
  says_order (Grammar.elif {i = i} {b = b} x w e y) os = within (omega arith) (omega arith) (join (one _ four i b) (omega arith) (spells_order e 0))
  says_order (Grammar.else {i = i} {b = b} x w y) os = within (omega arith) (omega arith) (one _ four i b)
  says_order (Grammar.end {i = i} {b = b} x w y) os = within (omega arith) (omega arith) (one _ four i b)
  says_order (Grammar.while {i = i} {b = b} x w e y) os = within (omega arith) (omega arith) (join (one (ltb (length os) 12) four i b) (omega arith) (spells_order e 0))
  says_order (Grammar.foreach {i = i} {b = b} {x = x} {y = y} s w u n e v) os = within (omega arith) (omega arith) (join (one (ltb (length os) 12) four i b) (omega arith) (join (one_long x y) (omega arith) (spells_order e 0)))
  says_order (Grammar.joineach {i = i} {b = b} {x = x} {y = y} d s w u n e v t z) os = within (omega arith) (omega arith) (join (one (ltb (length os) 12) four i b) (omega arith) (join (join (one_long x y) (omega arith) (spells_order e 0)) (omega (arith, text_on d t)) (one_wide d)))

  mutual
    unfolding broken_items

    lines_order : {ts : Items} {i : ℕ} → Lines text ts i → Between 0 (16 * i) (broken_items ts)
    lines_order Grammar.begin = done (omega arith)
    lines_order (Grammar.next l n) = raise _ (omega arith) (line_order l)

    line_order : {ts : Items} {i : ℕ} → Line text ts i → Between 0 (16 * i) (broken_items ts)
    line_order (Grammar.empty l b) = raise _ (omega arith) (lines_order l)
    line_order (Grammar.comment l b d h s e n) = raise _ (omega arith) (lines_order l)
    line_order (Grammar.body l) = body_order l

    body_order : {ts : Items} {i : ℕ} → Body text ts i → Between 0 (16 * i) (broken_items ts)
    body_order (Grammar.return l r) = raise _ (omega arith) (begun_order l)
    body_order (Grammar.piece {i = i} l h e p n) = join (begun_order l) (omega arith) (done {a = 16 * i} (omega arith))
    body_order (Grammar.dollar {i = i} l d e) = join (begun_order l) (omega arith) (done {a = 16 * i} (omega arith))
    body_order (Grammar.instruction {ts = ts} l d s e) = join (begun_order l) (omega arith) (raise _ (omega arith) (says_order s (open_blocks ts)))

    begun_order : {ts : Items} {i : ℕ} → Begun text ts i → Between 0 (16 * i) (broken_items ts)
    begun_order (Grammar.inside l) = body_order l
    begun_order (Grammar.first l b n c) = raise _ (omega arith) (lines_order l)

one_unclosed : (os : List Opened) (n : ℕ) → Between (16 * n + 4) (16 * n + 4) (unclosed os n)
one_unclosed [] n = done (omega arith)
one_unclosed (o ∷ os) n = next (omega arith) (done (omega arith))

rules_order : (text : List ℕ) (ts : Items) → Template text ts → Between 0 (16 * length text + 4) (broken_rules ts (length text))
rules_order text ts t = join (line_order text t) (omega arith) (one_unclosed (open_blocks ts) (length text))

-- each one of the list is sooner than those behind it
abbrev pub Ordered : List Broken → Type 0
Ordered [] = Unit {0}
Ordered (f ∷ fs) = ((g : Broken) → Among g fs → Sooner f g) × Ordered fs

number_least : (r : Rule) → 4 ≤ number_of (refusal_of r)
number_least four = omega arith
number_least five = omega arith
number_least six = omega arith
number_least seven = omega arith
number_least eight = omega arith

number_most : (r : Rule) → number_of (refusal_of r) ≤ 8
number_most four = omega arith
number_most five = omega arith
number_most six = omega arith
number_most seven = omega arith
number_most eight = omega arith

sooner_by_rank : (f g : Broken) → rank f ≤ rank g → Sooner f g
sooner_by_rank f g h = ⊎_elim
    (λ l. inl l)
    (λ l. inr (omega (arith, number_least f.rule, number_most g.rule), omega (arith, number_least f.rule, number_most g.rule)))
    (cases_lt f.due g.due)

among_rank : {a b : ℕ} {fs : List Broken} → Between a b fs → (g : Broken) → Among g fs → a ≤ rank g
among_rank (done h) g m = absurd m
among_rank {a = a} (next {f = f} h p) g m = ⊎_elim (λ e. subst (λ x. a ≤ rank x) (sym e) h) (λ k. omega (arith, among_rank p g k)) m

by_ranks : {a b : ℕ} {fs : List Broken} → Between a b fs → Ordered fs
by_ranks (done h) = tt
by_ranks (next {f = f} h p) = (λ g m. sooner_by_rank f g (among_rank p g m), by_ranks p)

-- the broken rules of a template are in order
pub ordered : (text : List ℕ) (ts : Items) → Template text ts → Ordered (broken_rules ts (length text))
ordered text ts t = by_ranks (rules_order text ts t)

sooner_itself : (f : Broken) → Sooner f f
sooner_itself f = inr (refl, omega arith)

pub least_of : (f : Broken) (fs : List Broken) → Ordered (f ∷ fs) → (g : Broken) → Among g (f ∷ fs) → Sooner f g
least_of f fs o g m = ⊎_elim (λ e. subst (λ x. Sooner f x) (sym e) (sooner_itself f)) (λ k. o.0 g k) m

-- the first one falls due first
pub first_least : (text : List ℕ) (ts : Items) (f : Broken) (fs : List Broken) → Template text ts → broken_rules ts (length text) ≡ f ∷ fs → (g : Broken) → Among g (f ∷ fs) → Sooner f g
first_least text ts f fs t e = least_of f fs (subst Ordered e (ordered text ts t))
