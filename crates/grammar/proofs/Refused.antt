-- A refusal by number 3 names the byte with which no template goes on, and one by 4 to 8 the rule that falls due first. Assumes nothing.
use Rattle.std.proofs.Common.{◌≡◌, ℕ, zero, suc, ◌+◌, ◌-◌, ◌≤◌, Bool, true, false, cond, not, ◌&&◌, eqb, List, [], ◌∷◌, ◌++◌, length, take, Some, None, Option, sym, refl, ap, ◌∙◌, subst, ⊎_elim, true≢false, append_assoc, append-nil, arith}
use Rattle.std.proofs.lemmas.Bool.{cond-false, le-ltb, eq-eqb, and_parts}
use Rattle.std.proofs.lemmas.List.{take_at, length-take-le}
use Rattle.order.specs.Made.{bytes_order}
use Rattle.order.specs.Names.{lookup}
use Rattle.order.proofs.Entries.{skip}
use Rattle.keywords.specs.declared.Keyword.{Keyword}
use Rattle.keywords.specs.Words.{keywords}
use Rattle.refusals.specs.declared.Refusal.{Refusal}
use Rattle.refusals.specs.declared.Refusal.TheVariants.{UnexpectedByte}
use Rattle.refusals.specs.Refusals.{number_of}
use Rattle.tokens.specs.declared.operator.Op.{Op}
use Rattle.tokens.specs.declared.operator.Op.TheVariants as op
use Rattle.tokens.specs.declared.operator.Sign.{Sign}
use Rattle.tokens.specs.declared.operator.Half.{Half}
use Rattle.tokens.specs.declared.operator.Half.TheVariants as halved
use Rattle.tokens.specs.declared.byte.Shape.TheVariants.{Round, Square, Curly}
use Rattle.tokens.specs.Bytes.{after}
use Rattle.tokens.specs.Operators.{level, doubled}
use Rattle.trees.specs.declared.Constant.{Constant}
use Rattle.trees.specs.declared.Quote.{Quote}
use Rattle.trees.specs.Tree.{Key, Expr, Args, Seq, Opening, Item, Items, from_to}
use Rattle.grammar.specs.Rules
use Rattle.grammar.specs.Rules.{Rule, refusal_of, Broken, Opened, open_blocks, broken_items, unclosed, broken_rules}
use Rattle.grammar.specs.Machine
use Rattle.grammar.specs.Machine.{Bracket, Head, Stack, Run, Numbered, Join, Quoted, Digits, Config, Move, stop, go, late, reduce, pushed, afters, nameds, closes, completes, quotes, worded, halves, looped, loop_head, numbereds, constant_at, joined, step, finish, accepted, refused, judged, finished, run, reading, reacts_on}
use Rattle.grammar.specs.Words.{keyword_of}
use Rattle.grammar.specs.Grammar.{Template}
use Rattle.grammar.specs.Laws.{Among, NothingDue, NamesTheByte, Sooner, Earliest, NamesTheRule}
use Rattle.grammar.proofs.Moves.{reduce_all}
use Rattle.grammar.proofs.Dues.{seen, Sees, seen_step, seen_finish, strict, free, Due, Base, Here, Falls, due_step}

place_is : {f f' : Refusal} {p q : ℕ} → refused f p ≡ refused f' q → p ≡ q
place_is e = cc

refusal_is : {f f' : Refusal} {p q : ℕ} → refused f p ≡ refused f' q → f ≡ f'
refusal_is e = cc

never : {ts : Items} {f : Refusal} {p : ℕ} → accepted ts ≡ refused f p → ⊥
never e = let z : ◌≡◌ {A = ℕ} 0 1 = cc in omega arith

-- no rule has number 3, and no two share a number
not_three : (r : Rule) → UnexpectedByte ≡ refusal_of r → ⊥
not_three Rule.four e = let z : ◌≡◌ {A = ℕ} 3 4 = ap number_of e in omega arith
not_three Rule.five e = let z : ◌≡◌ {A = ℕ} 3 5 = ap number_of e in omega arith
not_three Rule.six e = let z : ◌≡◌ {A = ℕ} 3 6 = ap number_of e in omega arith
not_three Rule.seven e = let z : ◌≡◌ {A = ℕ} 3 7 = ap number_of e in omega arith
not_three Rule.eight e = let z : ◌≡◌ {A = ℕ} 3 8 = ap number_of e in omega arith

abbrev rule_of : ℕ → Rule
rule_of n = cond (eqb n 4) Rule.four (cond (eqb n 5) Rule.five (cond (eqb n 6) Rule.six (cond (eqb n 7) Rule.seven Rule.eight)))

rule_of_lem : (r : Rule) → rule_of (number_of (refusal_of r)) ≡ r
rule_of_lem Rule.four = refl
rule_of_lem Rule.five = refl
rule_of_lem Rule.six = refl
rule_of_lem Rule.seven = refl
rule_of_lem Rule.eight = refl

rule_is : (r r' : Rule) → refusal_of r ≡ refusal_of r' → r ≡ r'
rule_is r r' e = sym (rule_of_lem r) ∙ ap (λ f. rule_of (number_of f)) e ∙ rule_of_lem r'

-- ---- 3 is refused at the same byte where the rules are not held

lenient_end : (o : Option Items) (q p : ℕ) → finished true o q ≡ refused UnexpectedByte p → finished false o q ≡ refused UnexpectedByte p
lenient_end None q p e = e
lenient_end (Some ts) q p e = absurd (by_open (open_blocks ts) e)
  where
    by_open : (os : List Opened) → judged true (unclosed os q) (accepted ts) ≡ refused UnexpectedByte p → ⊥
    by_open [] e = never e
    by_open (o ∷ os) e = not_three Rule.four (sym (refusal_is e))

lenient_by : (bs : List ℕ) (q p : ℕ) (v : Move) → ((c : Config) → run bs true c (q + 1) ≡ refused UnexpectedByte p → run bs false c (q + 1) ≡ refused UnexpectedByte p) → reacts_on true bs q v ≡ refused UnexpectedByte p → reacts_on false bs q v ≡ refused UnexpectedByte p
lenient_by bs q p stop ih e = e
lenient_by bs q p (go [] c) ih e = ih c e
lenient_by bs q p (go (f ∷ d) c) ih e = absurd (not_three f.rule (sym (refusal_is e)))

lenient : (bs : List ℕ) (c : Config) (q p : ℕ) → run bs true c q ≡ refused UnexpectedByte p → run bs false c q ≡ refused UnexpectedByte p
unfolding run
lenient [] c q p e = lenient_end (finish c q) q p e
lenient (b ∷ bs) c q p e = lenient_by bs q p (step c q b) (λ c'. lenient bs c' (q + 1) p) e

-- without the rules a byte just leads on
goes_on : (b : ℕ) (bs : List ℕ) (c : Config) (q : ℕ) (d : List Broken) (c' : Config) → step c q b ≡ go d c' → run (b ∷ bs) false c q ≡ run bs false c' (q + 1)
unfolding run
goes_on b bs c q d c' is = ap (reacts_on false bs q) is ∙ free d (run bs false c' (q + 1))

leads : (b : ℕ) (rest other : List ℕ) (c : Config) (q : ℕ) (d : List Broken) (c' : Config) → step c q b ≡ go d c' → other ≡ b ∷ rest → run other false c q ≡ run rest false c' (q + 1)
leads b rest other c q d c' is e = ap (λ o. run o false c q) e ∙ goes_on b rest c q d c' is

ends_here : (b : ℕ) (rest other : List ℕ) (c : Config) (q : ℕ) → step c q b ≡ stop → other ≡ b ∷ rest → run other false c q ≡ refused UnexpectedByte q
unfolding run
ends_here b rest other c q is e = ap (λ o. run o false c q) e ∙ ap (reacts_on false rest q) is

longer : (b s : ℕ) (rest other : List ℕ) → other ≡ b ∷ rest → s + length other ≡ s + 1 + length rest
longer b s rest other e = ap (λ o. s + length o) e ∙ omega arith

-- ---- where a run without the rules is refused at p: in which configuration, and that the place is on the way

record Stop (bs : List ℕ) (c : Config) (q p : ℕ) : Type 0 where
  onwards : q ≤ p
  within : p ≤ q + length bs
  last : Config
  here : Here last p
  reaches : (s : List ℕ) → run (take (p - q) bs ++ s) false c q ≡ run s false last p
  local : (other : List ℕ) → take (p + 1 - q) other ≡ take (p + 1 - q) bs → run other false c q ≡ refused UnexpectedByte p

no_bytes : (other : List ℕ) → take 1 other ≡ [] → other ≡ []
no_bytes [] e = refl
no_bytes (x ∷ xs) e = cc

-- a text that begins as b ∷ bs does
first_byte : {G : Type 0} (n b : ℕ) (bs other : List ℕ) → take (suc n) other ≡ b ∷ take n bs → ((rest : List ℕ) → other ≡ b ∷ rest → take n rest ≡ take n bs → G) → G
first_byte n b bs [] e go_on = absurd (let z : ◌≡◌ {A = ℕ} 0 1 = cc in omega arith)
first_byte n b bs (x ∷ xs) e go_on = go_on xs (ap (λ b. b ∷ xs) (heads e)) (tails e)
  where
    heads : {x y : ℕ} {xs ys : List ℕ} → x ∷ xs ≡ y ∷ ys → x ≡ y
    heads e = cc

    tails : {x y : ℕ} {xs ys : List ℕ} → x ∷ xs ≡ y ∷ ys → xs ≡ ys
    tails e = cc

finished_place : (o : Option Items) (q p : ℕ) → finished false o q ≡ refused UnexpectedByte p → q ≡ p
finished_place None q p e = place_is e
finished_place (Some ts) q p e = absurd (never (sym (free (unclosed (open_blocks ts) q) (accepted ts)) ∙ e))

here_stops : (bs : List ℕ) (c : Config) (q p : ℕ) → q ≡ p → Here c q → ((other : List ℕ) → take 1 other ≡ take 1 bs → run other false c q ≡ refused UnexpectedByte q) → Stop bs c q p
here_stops bs c q p e here h =
    let none : p - q ≡ 0 = omega arith in
    let one : p + 1 - q ≡ 1 = omega arith in
    record {
      onwards = omega arith;
      within = omega arith;
      last = c;
      here = subst (Here c) e here;
      reaches = λ s. ap (λ n. run (take n bs ++ s) false c q) none ∙ ap (run s false c) e;
      local = λ other same. h other (sym (ap (λ n. take n other) one) ∙ same ∙ ap (λ n. take n bs) one) ∙ ap (refused UnexpectedByte) e;
    }

stops_by : (b : ℕ) (bs : List ℕ) (c : Config) (q p : ℕ) (v : Move) → step c q b ≡ v → Here c q → Falls q v → ((c : Config) → Here c (q + 1) → run bs false c (q + 1) ≡ refused UnexpectedByte p → Stop bs c (q + 1) p) → reacts_on false bs q v ≡ refused UnexpectedByte p → Stop (b ∷ bs) c q p
unfolding run
stops_by b bs c q p stop is here falls ih e =
    here_stops (b ∷ bs) c q p (place_is e) here (λ other same. first_byte 0 b bs other same (λ rest at_b after. ends_here b rest other c q is at_b))
stops_by b bs c q p (go d c') is here falls ih e =
    let h = ih c' falls.1 (sym (free d (run bs false c' (q + 1))) ∙ e) in
    let more : p - q ≡ suc (p - (q + 1)) = omega (arith, h.onwards) in
    let more' : p + 1 - q ≡ suc (p + 1 - (q + 1)) = omega (arith, h.onwards) in
    record {
      onwards = omega (arith, h.onwards);
      within = omega (arith, h.within);
      last = h.last;
      here = h.here;
      reaches = λ s. ap (λ n. run (take n (b ∷ bs) ++ s) false c q) more ∙ goes_on b (take (p - (q + 1)) bs ++ s) c q d c' is ∙ h.reaches s;
      local = λ other same.
          first_byte (p + 1 - (q + 1)) b bs other (sym (ap (λ n. take n other) more') ∙ same ∙ ap (λ n. take n (b ∷ bs)) more')
          (λ rest at_b after. leads b rest other c q d c' is at_b ∙ h.local rest after);
    }

stops : (bs : List ℕ) (c : Config) (q p : ℕ) → Here c q → run bs false c q ≡ refused UnexpectedByte p → Stop bs c q p
unfolding run
stops [] c q p here e =
    let same = finished_place (finish c q) q p e in
    here_stops [] c q p same here (λ other none. ap (λ o. run o false c q) (no_bytes other none) ∙ e ∙ ap (refused UnexpectedByte) (sym same))
stops (b ∷ bs) c q p here e = stops_by b bs c q p (step c q b) refl here (due_step c q b here) (λ c' h. stops bs c' (q + 1) p h) e

-- ---- where number 3 is refused at p, nothing falls due before p

-- all of them fall due at p or later
abbrev From : ℕ → List Broken → Type 0
From p [] = Unit {0}
From p (f ∷ d) = (p ≤ f.due) × From p d

from_lower : (p q : ℕ) → p ≤ q → (d : List Broken) → From q d → From p d
from_lower p q h [] k = tt
from_lower p q h (f ∷ d) k = (omega (arith, k.0), from_lower p q h d k.1)

from_both : (p : ℕ) (d e : List Broken) → From p d → From p e → From p (d ++ e)
from_both p [] e h k = k
from_both p (f ∷ d) e h k = (h.0, from_both p d e h.1 k)

from_due : (p : ℕ) (d : List Broken) → Due p d → From p d
from_due p [] h = tt
from_due p (f ∷ d) h = (omega (arith, h.0), from_due p d h.1)

from_unclosed : (os : List Opened) (p : ℕ) → From p (unclosed os p)
from_unclosed [] p = tt
from_unclosed (o ∷ os) p = (omega arith, tt)

from_among : (p : ℕ) (d : List Broken) → From p d → (f : Broken) → Among f d → p ≤ f.due
from_among p [] h f m = absurd m
from_among p (g ∷ d) h f m = ⊎_elim (λ e. subst (λ x. p ≤ x.due) (sym e) h.0) (λ k. from_among p d h.1 f k) m

-- a template that is read from c at s on breaks, beside what is seen in c, only rules that fall due at p or later
record After (bs : List ℕ) (c : Config) (s p : ℕ) (ts : Items) : Type 0 where
  later : List Broken
  all : broken_rules ts (s + length bs) ≡ seen c ++ later
  from_there : From p later

after_end : (c : Config) (s : ℕ) (ts : Items) (o : Option Items) → finish c s ≡ o → finished false o s ≡ accepted ts → After [] c s s ts
after_end c s ts None is e = absurd (never (sym e))
after_end c s ts (Some xs) is e =
    let same : xs ≡ ts = let h = sym (free (unclosed (open_blocks xs) s) (accepted xs)) ∙ e in cc in
    let whole : s + length {A = ℕ} [] ≡ s = omega arith in
    record {
      later = unclosed (open_blocks ts) s;
      all = ap (broken_rules ts) whole ∙ ap (λ x. x ++ unclosed (open_blocks ts) s) (seen_finish c s ts (is ∙ ap Some same));
      from_there = from_unclosed (open_blocks ts) s;
    }

after_by : (b : ℕ) (bs : List ℕ) (c : Config) (s : ℕ) (ts : Items) (v : Move) → Sees c v → Falls s v → ((c' : Config) → Here c' (s + 1) → run bs false c' (s + 1) ≡ accepted ts → After bs c' (s + 1) (s + 1) ts) → reacts_on false bs s v ≡ accepted ts → After (b ∷ bs) c s s ts
after_by b bs c s ts stop sees falls ih e = absurd (never (sym e))
after_by b bs c s ts (go d c') sees falls ih e =
    let h = ih c' falls.1 (sym (free d (run bs false c' (s + 1))) ∙ e) in
    record {
      later = d ++ h.later;
      all = ap (broken_rules ts) (longer b s bs (b ∷ bs) refl) ∙ h.all ∙ ap (λ x. x ++ h.later) sees ∙ append_assoc (seen c) d h.later;
      from_there = from_both s d h.later (from_due s d falls.0) (from_lower s (s + 1) (omega arith) h.later h.from_there);
    }

after_here : (bs : List ℕ) (c : Config) (s : ℕ) (ts : Items) → Here c s → run bs false c s ≡ accepted ts → After bs c s s ts
unfolding run
after_here [] c s ts here e = after_end c s ts (finish c s) refl e
after_here (b ∷ bs) c s ts here e = after_by b bs c s ts (step c s b) (seen_step c s b) (due_step c s b here) (λ c' h. after_here bs c' (s + 1) ts h) e

abbrev Quiet : List ℕ → Config → ℕ → ℕ → Type 0
Quiet bs c s p = (s ≤ p) × ((other : List ℕ) (ts : Items) → take (p - s) other ≡ take (p - s) bs → run other false c s ≡ accepted ts → After other c s p ts)

quiet_here : (bs : List ℕ) (c : Config) (s p : ℕ) → s ≡ p → Here c s → Quiet bs c s p
quiet_here bs c s p e here = (omega arith, λ other ts same a. subst (λ x. After other c s x ts) e (after_here other c s ts here a))

quiet_by : (b : ℕ) (bs : List ℕ) (c : Config) (s p : ℕ) (v : Move) → step c s b ≡ v → Here c s → Sees c v → Falls s v → ((c' : Config) → Here c' (s + 1) → run bs true c' (s + 1) ≡ refused UnexpectedByte p → Quiet bs c' (s + 1) p) → reacts_on true bs s v ≡ refused UnexpectedByte p → Quiet (b ∷ bs) c s p
quiet_by b bs c s p stop is here sees falls ih e = quiet_here (b ∷ bs) c s p (place_is e) here
quiet_by b bs c s p (go [] c') is here sees falls ih e =
    let h = ih c' falls.1 e in
    let more : p - s ≡ suc (p - (s + 1)) = omega (arith, h.0) in (
      omega (arith, h.0),
      λ other ts same a.
          first_byte (p - (s + 1)) b bs other (sym (ap (λ n. take n other) more) ∙ same ∙ ap (λ n. take n (b ∷ bs)) more)
          (λ rest at_b after.
          let n = h.1 rest ts after (sym (leads b rest other c s [] c' is at_b) ∙ a) in
          record {
            later = n.later;
            all = ap (broken_rules ts) (longer b s rest other at_b) ∙ n.all ∙ ap (λ x. x ++ n.later) (sees ∙ append-nil (seen c));
            from_there = n.from_there;
          }),
    )
quiet_by b bs c s p (go (f ∷ d) c') is here sees falls ih e = absurd (not_three f.rule (sym (refusal_is e)))

quiet : (bs : List ℕ) (c : Config) (s p : ℕ) → Here c s → run bs true c s ≡ refused UnexpectedByte p → Quiet bs c s p
unfolding run
quiet [] c s p here e = quiet_here [] c s p (finished_place (finish c s) s p (lenient_end (finish c s) s p e)) here
quiet (b ∷ bs) c s p here e = quiet_by b bs c s p (step c s b) refl here (seen_step c s b) (due_step c s b here) (λ c' h. quiet bs c' (s + 1) p h) e

-- ---- the bytes that close all brackets and the instruction

abbrev close_head : Head → List ℕ
close_head Head.show = 36 ∷ []
close_head (Head.assign k) = 36 ∷ []
close_head (Head.if j) = 36 ∷ []
close_head (Head.elif j) = 36 ∷ []
close_head (Head.while j) = 36 ∷ []
close_head (Head.foreach j x y) = 36 ∷ []
close_head (Head.joineach j x y) = 34 ∷ 34 ∷ 36 ∷ []

abbrev close : Stack → List ℕ
close (Stack.top q h ts) = close_head h
close (Stack.binary q o l k) = close k
close (Stack.signed q s k) = close k
close (Stack.open' (Bracket.round q) k) = 41 ∷ close k
close (Stack.open' (Bracket.square i j q) k) = 93 ∷ close k
close (Stack.open' (Bracket.call i j q f s) k) = 41 ∷ close k
close (Stack.open' (Bracket.curly q s n) k) = 125 ∷ close k

abbrev Completes : List ℕ → Config → ℕ → Type 0
Completes s c p = (ts : Items) × (run s false c p ≡ accepted ts)

data Ending : Type 0 where
  dollar quote round square curly : Ending

abbrev byte : Ending → ℕ
byte Ending.dollar = 36
byte Ending.quote = 34
byte Ending.round = 41
byte Ending.square = 93
byte Ending.curly = 125

heads : (k : Stack) → (e : Ending) × (rest : List ℕ) × (close k ≡ byte e ∷ rest)
heads (Stack.top q Head.show ts) = (Ending.dollar, [], refl)
heads (Stack.top q (Head.assign k) ts) = (Ending.dollar, [], refl)
heads (Stack.top q (Head.if j) ts) = (Ending.dollar, [], refl)
heads (Stack.top q (Head.elif j) ts) = (Ending.dollar, [], refl)
heads (Stack.top q (Head.while j) ts) = (Ending.dollar, [], refl)
heads (Stack.top q (Head.foreach j x y) ts) = (Ending.dollar, [], refl)
heads (Stack.top q (Head.joineach j x y) ts) = (Ending.quote, 34 ∷ 36 ∷ [], refl)
heads (Stack.binary q o l k) = heads k
heads (Stack.signed q s k) = heads k
heads (Stack.open' (Bracket.round q) k) = (Ending.round, close k, refl)
heads (Stack.open' (Bracket.square i j q) k) = (Ending.square, close k, refl)
heads (Stack.open' (Bracket.call i j q f s) k) = (Ending.round, close k, refl)
heads (Stack.open' (Bracket.curly q s n) k) = (Ending.curly, close k, refl)

-- a closing byte sees the same through an operator or a sign on the stack
through_binary : (e : Ending) (q : ℕ) (o : Op) (l t : Expr) (k : Stack) (p : ℕ) → afters (after (byte e)) t (Stack.binary q o l k) p ≡ afters (after (byte e)) (Expr.binary q o l t) k p
through_binary Ending.dollar q o l t k p = ap (completes p) (reduce_all 0 q o l t k (omega arith))
through_binary Ending.quote q o l t k p = ap (quotes p) (reduce_all 0 q o l t k (omega arith))
through_binary Ending.round q o l t k p = ap (closes Round p) (reduce_all 0 q o l t k (omega arith))
through_binary Ending.square q o l t k p = ap (closes Square p) (reduce_all 0 q o l t k (omega arith))
through_binary Ending.curly q o l t k p = ap (closes Curly p) (reduce_all 0 q o l t k (omega arith))

through_sign : (e : Ending) (q : ℕ) (g : Sign) (t : Expr) (k : Stack) (p : ℕ) → afters (after (byte e)) t (Stack.signed q g k) p ≡ afters (after (byte e)) (Expr.signed q g t) k p
through_sign Ending.dollar q g t k p = refl
through_sign Ending.quote q g t k p = refl
through_sign Ending.round q g t k p = refl
through_sign Ending.square q g t k p = refl
through_sign Ending.curly q g t k p = refl

through_name : (e : Ending) (i j : ℕ) (w : List ℕ) (k : Stack) (p : ℕ) → nameds (after (byte e)) i j w k p ≡ afters (after (byte e)) (Expr.key (Key.name i j)) k p
through_name Ending.dollar i j w k p = refl
through_name Ending.quote i j w k p = refl
through_name Ending.round i j w k p = refl
through_name Ending.square i j w k p = refl
through_name Ending.curly i j w k p = refl

-- a configuration that moves as another at a closing byte, but for what falls due, completes as it does
late_free : (d : List Broken) (v : Move) (bs : List ℕ) (p : ℕ) → reacts_on false bs p (late d v) ≡ reacts_on false bs p v
late_free d stop bs p = refl
late_free d (go e c) bs p = free (d ++ e) (run bs false c (p + 1)) ∙ sym (free e (run bs false c (p + 1)))

as_other : (k : Stack) (d : List Broken) (c c' : Config) (p : ℕ) → ((e : Ending) → step c p (byte e) ≡ late d (step c' p (byte e))) → run (close k) false c p ≡ run (close k) false c' p
unfolding run
as_other k d c c' p h =
    let x = heads k in
    ap (λ s. run s false c p) x.2 ∙ ap (reacts_on false x.1 p) (h x.0) ∙ late_free d (step c' p (byte x.0)) x.1 p ∙ sym (ap (λ s. run s false c' p) x.2)

late_none : (v : Move) → v ≡ late [] v
late_none stop = refl
late_none (go d c) = refl

-- plain text may end
plain_completes : (i : ℕ) (ts : Items) (p : ℕ) → Completes [] (Config.plain i ts) p
unfolding run
plain_completes i ts p = let xs = Machine.piece i p ts in (xs, free (unclosed (open_blocks xs) p) (accepted xs))

line_completes : (ts : Items) (p : ℕ) → Completes [] (Config.line ts) p
unfolding run
line_completes ts p = (ts, free (unclosed (open_blocks ts) p) (accepted ts))

comment_completes : (ts : Items) (p : ℕ) → Completes [] (Config.comment ts) p
unfolding run
comment_completes ts p = (ts, free (unclosed (open_blocks ts) p) (accepted ts))

-- a text constant that is a delimiter
delimiter_completes : (t : Quote) (j : Join) (p : ℕ) → Completes (36 ∷ []) (Config.quoted t (Quoted.delimiter j)) p
unfolding run
delimiter_completes t j p = let h = plain_completes (p + 1) (Items.then j.items (joined j t)) (p + 1) in (h.0, free (Rules.wide t ++ []) _ ∙ h.1)

-- after an operand
closing : (k : Stack) (t : Expr) (p : ℕ) → Completes (close k) (Config.aft t k) p
unfolding run
closing (Stack.top q Head.show ts) t p = plain_completes (p + 1) (Items.then ts (Item.show q t)) (p + 1)
closing (Stack.top q (Head.assign k) ts) t p = plain_completes (p + 1) (Items.then ts (Item.assign q k t)) (p + 1)
closing (Stack.top q (Head.if j) ts) t p = plain_completes (p + 1) (Items.then ts (Item.opens q j (Opening.if t))) (p + 1)
closing (Stack.top q (Head.elif j) ts) t p = plain_completes (p + 1) (Items.then ts (Item.elif q j t)) (p + 1)
closing (Stack.top q (Head.while j) ts) t p = plain_completes (p + 1) (Items.then ts (Item.opens q j (Opening.while t))) (p + 1)
closing (Stack.top q (Head.foreach j x y) ts) t p = plain_completes (p + 1) (Items.then ts (Item.opens q j (Opening.foreach x y t))) (p + 1)
closing (Stack.top q (Head.joineach j x y) ts) t p =
    delimiter_completes (record { span = from_to p (p + 1 + 1); bytes = 0 }) (record { place = q; word = j; «from» = x; to = y; list = t; items = ts }) (p + 1 + 1)
closing (Stack.binary q o l k) t p = let h = closing k (Expr.binary q o l t) p in (h.0, as_other k [] _ _ p (λ e. through_binary e q o l t k p ∙ late_none _) ∙ h.1)
closing (Stack.signed q g k) t p = let h = closing k (Expr.signed q g t) p in (h.0, as_other k [] _ _ p (λ e. through_sign e q g t k p ∙ late_none _) ∙ h.1)
closing (Stack.open' (Bracket.round q) k) t p = closing k (Expr.round q t) (p + 1)
closing (Stack.open' (Bracket.square i j q) k) t p = closing k (Expr.key (Key.index i j q t)) (p + 1)
closing (Stack.open' (Bracket.call i j q f s) k) t p = let h = closing k (Expr.call i j q f (Args.argument s t) p) (p + 1) in (h.0, free _ _ ∙ h.1)
closing (Stack.open' (Bracket.curly q s n) k) t p = closing k (Expr.list q (Seq.item s t)) (p + 1)

-- in a sequence, after its last constant
last_completes : (c : Constant) (r : Run) (p : ℕ) → Completes (125 ∷ close r.stack) (Config.last_done c r) p
unfolding run
last_completes c r p = closing r.stack (Expr.list r.place (Seq.steps r.items r.first r.second c)) (p + 1)

-- after a number constant and a blank
abbrev close_numbered : Numbered → List ℕ
close_numbered (Numbered.operand k) = close k
close_numbered (Numbered.last r) = 125 ∷ close r.stack

numbered_completes : (g : Numbered) (c : Constant) (p : ℕ) → (ts : Items) × (reacts_on false (close_numbered g) p (numbereds g c 32 p) ≡ accepted ts)
numbered_completes (Numbered.operand k) c p = let h = closing k (Expr.number c) (p + 1) in (h.0, free _ _ ∙ h.1)
numbered_completes (Numbered.last r) c p = let h = last_completes c r (p + 1) in (h.0, free _ _ ∙ h.1)

nought_completes : (i : ℕ) (g : Numbered) (p : ℕ) → Completes (32 ∷ close_numbered g) (Config.in_number i Digits.nought g) p
unfolding run
nought_completes i g p = numbered_completes g (constant_at i p 0) p

digits_completes : (i n v : ℕ) (g : Numbered) (p : ℕ) → n ≤ 16 → Completes (32 ∷ close_numbered g) (Config.in_number i (Digits.digits n v) g) p
unfolding run
digits_completes i n v g p le =
    let h = numbered_completes g (constant_at i p v) p in
    (h.0, ap (reacts_on false (close_numbered g) p) (cond-false _ _ _ (le-ltb 16 n le)) ∙ h.1)

number_completes : (i : ℕ) (n : Digits) (g : Numbered) (p : ℕ) → Base n → (s : List ℕ) × Completes s (Config.in_number i n g) p
unfolding run
number_completes i Digits.nought g p h = (32 ∷ close_numbered g, nought_completes i g p)
number_completes i Digits.prefix g p h = (48 ∷ 32 ∷ close_numbered g, digits_completes i 16 0 g (p + 1) (omega arith))
number_completes i (Digits.digits n v) g p h = (32 ∷ close_numbered g, digits_completes i n v g p h)

-- where an operand is expected
want_completes : (k : Stack) (p : ℕ) → Completes (48 ∷ 32 ∷ close k) (Config.want k) p
unfolding run
want_completes k p = nought_completes p (Numbered.operand k) (p + 1)

-- names: after one byte more a word is none of the instructions'
abbrev last_of : ℕ → List ℕ → ℕ
last_of d [] = d
last_of d (x ∷ xs) = last_of x xs

last_is : (d : ℕ) (w : List ℕ) (b : ℕ) → last_of d (w ++ b ∷ []) ≡ b
last_is d [] b = refl
last_is d (x ∷ w) b = last_is x w b

differs : (w v : List ℕ) → (last_of 0 v ≡ 95 → ⊥) → w ++ 95 ∷ [] ≡ v → ⊥
differs w v h e = h (sym (ap (last_of 0) e) ∙ last_is 0 w 95)

-- no key ends with that byte
abbrev unlike : List (List ℕ × Keyword) → Bool
unlike [] = true
unlike (e ∷ es) = not (eqb (last_of 0 e.0) 95) && unlike es

no_entry : (w : List ℕ) (es : List (List ℕ × Keyword)) → unlike es ≡ true → lookup bytes_order (w ++ 95 ∷ []) es ≡ None
no_entry w [] h = refl
no_entry w (e ∷ es) h =
    let parts = and_parts (not (eqb (last_of 0 e.0) 95)) (unlike es) h in
    skip bytes_order (w ++ 95 ∷ []) e.0 (lookup bytes_order (w ++ 95 ∷ []) es) (Some e.1) (differs w e.0 (λ is. true≢false (sym parts.0 ∙ ap not (eq-eqb (last_of 0 e.0) 95 is))))
    ∙ no_entry w es parts.1

no_keyword : (w : List ℕ) → keyword_of (w ++ 95 ∷ []) ≡ None
no_keyword w = no_entry w keywords refl

named_completes : (i j : ℕ) (w : List ℕ) (k : Stack) (p : ℕ) → Completes (close k) (Config.named i j w k) p
named_completes i j w k p = let h = closing k (Expr.key (Key.name i j)) p in (h.0, as_other k [] _ _ p (λ e. through_name e i j w k p ∙ late_none _) ∙ h.1)

name_completes : (i : ℕ) (w : List ℕ) (k : Stack) (p : ℕ) → Completes (95 ∷ 32 ∷ close k) (Config.in_name i w k) p
unfolding run
name_completes i w k p =
    let h = named_completes i (p + 1) (w ++ 95 ∷ []) k (p + 1 + 1) in
    (h.0, ap (λ o. reacts_on false (close k) (p + 1) (worded o i (w ++ 95 ∷ []) k (p + 1) 32)) (no_keyword w) ∙ free _ _ ∙ h.1)

loop_completes : (q j : ℕ) (e : Bool) (i : ℕ) (w : List ℕ) (ts : Items) (p : ℕ) → Completes (95 ∷ 32 ∷ 48 ∷ 32 ∷ close_head (loop_head e j i (p + 1))) (Config.loop_name q j e i w ts) p
unfolding run
loop_completes q j e i w ts p =
    let k = Stack.top q (loop_head e j i (p + 1)) ts in
    let h = want_completes k (p + 1 + 1) in
    (h.0, ap (λ o. reacts_on false (48 ∷ 32 ∷ close k) (p + 1) (looped o q j e i ts 32 (p + 1))) (no_keyword w) ∙ free _ _ ∙ h.1)

-- text constants
abbrev close_quoted : Quoted → List ℕ
close_quoted (Quoted.operand k) = close k
close_quoted (Quoted.delimiter j) = 36 ∷ []

quoted_completes : (t : Quote) (g : Quoted) (p : ℕ) → Completes (close_quoted g) (Config.quoted t g) p
quoted_completes t (Quoted.operand k) p = let h = closing k (Expr.text t) p in (h.0, as_other k (Rules.wide t) (Config.quoted t (Quoted.operand k)) (Config.aft (Expr.text t) k) p (λ e. refl) ∙ h.1)
quoted_completes t (Quoted.delimiter j) p = delimiter_completes t j p

text_completes : (i n : ℕ) (g : Quoted) (p : ℕ) → Completes (34 ∷ close_quoted g) (Config.in_text i n g) p
unfolding run
text_completes i n g p = quoted_completes (record { span = from_to i (p + 1); bytes = n }) g (p + 1)

-- operators of two bytes
operator_completes : (b : ℕ) (o : Op) (q : ℕ) (h : Half) (t : Expr) (k : Stack) (p : ℕ) → doubled h b ≡ Some o → (s : List ℕ) × Completes s (Config.half q h t k) p
unfolding run
operator_completes b o q h t k p is =
    let k' = pushed q o (reduce (level o) t k) in
    let w = want_completes k' (p + 1) in
    (b ∷ 48 ∷ 32 ∷ close k', (w.0, ap (λ x. reacts_on false (48 ∷ 32 ∷ close k') p (halves x h q t k b p)) is ∙ w.1))

half_completes : (q : ℕ) (h : Half) (t : Expr) (k : Stack) (p : ℕ) → (s : List ℕ) × Completes s (Config.half q h t k) p
half_completes q halved.Bar t k p = operator_completes 124 op.Or q halved.Bar t k p refl
half_completes q halved.Ampersand t k p = operator_completes 38 op.And q halved.Ampersand t k p refl
half_completes q halved.Equals t k p = operator_completes 61 op.Equal q halved.Equals t k p refl
half_completes q halved.Bang t k p = operator_completes 61 op.Unequal q halved.Bang t k p refl
half_completes q halved.Less t k p = operator_completes 61 op.LessEqual q halved.Less t k p refl
half_completes q halved.Greater t k p = operator_completes 61 op.GreaterEqual q halved.Greater t k p refl

-- sequences
last_wanted_completes : (r : Run) (p : ℕ) → Completes (48 ∷ 32 ∷ 125 ∷ close r.stack) (Config.last_wanted r) p
unfolding run
last_wanted_completes r p = nought_completes p (Numbered.last r) (p + 1)

dots_complete : (n : ℕ) (r : Run) (p : ℕ) → (s : List ℕ) × Completes s (Config.dots n r) p
unfolding run
dots_complete zero r p = (44 ∷ 48 ∷ 32 ∷ 125 ∷ close r.stack, last_wanted_completes r (p + 1))
dots_complete (suc n) r p = let h = dots_complete n r (p + 1) in (46 ∷ h.0, h.1)

-- every configuration has bytes that make it a template
all_complete : (c : Config) (p : ℕ) → Here c p → (s : List ℕ) × Completes s c p
unfolding run
all_complete (Config.line ts) p h = ([], line_completes ts p)
all_complete (Config.plain i ts) p h = ([], plain_completes i ts p)
all_complete (Config.comment ts) p h = ([], comment_completes ts p)
all_complete (Config.dollar_at_line q ts) p h = (36 ∷ [], plain_completes (p + 1) (Items.then ts (Item.dollar q)) (p + 1))
all_complete (Config.dollar q ts) p h = (36 ∷ [], plain_completes (p + 1) (Items.then ts (Item.dollar q)) (p + 1))
all_complete (Config.want k) p h = (48 ∷ 32 ∷ close k, want_completes k p)
all_complete (Config.first k) p h = (48 ∷ 32 ∷ close k, nought_completes p (Numbered.operand k) (p + 1))
all_complete (Config.in_number i n g) p h = number_completes i n g p h
all_complete (Config.in_name i w k) p h = (95 ∷ 32 ∷ close k, name_completes i w k p)
all_complete (Config.in_text i n g) p h = (34 ∷ close_quoted g, text_completes i n g p)
all_complete (Config.escape i n g) p h = (34 ∷ 34 ∷ close_quoted g, text_completes i (n + 1) g (p + 1))
all_complete (Config.quoted t g) p h = (close_quoted g, quoted_completes t g p)
all_complete (Config.named i j w k) p h = (close k, named_completes i j w k p)
all_complete (Config.aft t k) p h = (close k, closing k t p)
all_complete (Config.half q x t k) p h = half_completes q x t k p
all_complete (Config.dots n r) p h = dots_complete n r p
all_complete (Config.last_wanted r) p h = (48 ∷ 32 ∷ 125 ∷ close r.stack, last_wanted_completes r p)
all_complete (Config.last_done c r) p h = (125 ∷ close r.stack, last_completes c r p)
all_complete (Config.bare t ts) p h = (36 ∷ [], plain_completes (p + 1) (Items.then ts t) (p + 1))
all_complete (Config.naming q j e ts) p h = (95 ∷ 95 ∷ 32 ∷ 48 ∷ 32 ∷ close_head (loop_head e j p (p + 1 + 1)), loop_completes q j e p (95 ∷ []) ts (p + 1))
all_complete (Config.loop_name q j e i w ts) p h = (95 ∷ 32 ∷ 48 ∷ 32 ∷ close_head (loop_head e j i (p + 1)), loop_completes q j e i w ts p)

-- ---- where a run is refused by a rule that falls due

record Fault (bs : List ℕ) (c : Config) (s : ℕ) (r : Rule) (q : ℕ) : Type 0 where
  byte : ℕ
  onwards : s ≤ byte
  within : byte ≤ s + length bs
  -- some template goes on with that byte
  sample : List ℕ
  items : Items
  accepts : run sample false c s ≡ accepted items
  same : take (byte + 1 - s) sample ≡ take (byte + 1 - s) bs
  -- and each has this rule as the next that is broken
  next : (other : List ℕ) (ts : Items) → take (byte + 1 - s) other ≡ take (byte + 1 - s) bs → run other false c s ≡ accepted ts →
      (fs : List Broken) × (broken_rules ts (s + length other) ≡ seen c ++ record { rule = r; place = q; due = byte } ∷ fs)

broken_is : (f : Broken) (r : Rule) (q p : ℕ) → f.rule ≡ r → f.place ≡ q → f.due ≡ p → f ≡ record { rule = r; place = q; due = p }
broken_is f r q p e e' e'' = λ i. record { rule = e i; place = e' i; due = e'' i }

one_more : (s : ℕ) → s + 1 - s ≡ 1
one_more s = omega arith

fault_end : (c : Config) (s : ℕ) (r : Rule) (q : ℕ) (o : Option Items) → finish c s ≡ o → finished true o s ≡ refused (refusal_of r) q → Fault [] c s r q
unfolding run
fault_end c s r q None is e = absurd (not_three r (refusal_is e))
fault_end c s r q (Some ts) is e = by_open (open_blocks ts) refl e
  where
    by_open : (os : List Opened) → open_blocks ts ≡ os → judged true (unclosed os s) (accepted ts) ≡ refused (refusal_of r) q → Fault [] c s r q
    by_open [] eq e = absurd (never e)
    by_open (o ∷ os) eq e =
        record {
          byte = s;
          onwards = omega arith;
          within = omega arith;
          sample = [];
          items = ts;
          accepts = ap (λ x. finished false x s) is ∙ free (unclosed (open_blocks ts) s) (accepted ts);
          same = refl;
          next = λ other xs same a.
              let none = no_bytes other (sym (ap (λ n. take n other) (one_more s)) ∙ same ∙ ap (λ n. take n []) (one_more s)) in
              let ends : finished false (finish c s) s ≡ accepted xs = sym (ap (λ bs. run bs false c s) none) ∙ a in
              let ts-is : ts ≡ xs = let h = sym (free (unclosed (open_blocks ts) s) (accepted ts)) ∙ sym (ap (λ x. finished false x s) is) ∙ ends in cc in
              let whole : s + length other ≡ s = ap (λ bs. s + length bs) none ∙ omega arith in
              let f-is = broken_is (record { rule = Rule.four; place = o.place; due = s }) r q s (rule_is Rule.four r (refusal_is e)) (place_is e) refl in (
                [],
                ap (broken_rules xs) whole
                    ∙ ap (λ x. broken_rules x s) (sym ts-is)
                    ∙ ap (λ x. broken_items ts ++ unclosed x s) eq
                    ∙ ap (λ x. x ++ record { rule = Rule.four; place = o.place; due = s } ∷ []) (seen_finish c s ts is)
                    ∙ ap (λ f. seen c ++ f ∷ []) f-is,
              );
        }

fault_by : (b : ℕ) (bs : List ℕ) (c : Config) (s : ℕ) (r : Rule) (q : ℕ) (v : Move) → step c s b ≡ v → Sees c v → Falls s v →
    ((c' : Config) → Here c' (s + 1) → run bs true c' (s + 1) ≡ refused (refusal_of r) q → Fault bs c' (s + 1) r q) → reacts_on true bs s v ≡ refused (refusal_of r) q → Fault (b ∷ bs) c s r q
unfolding run
fault_by b bs c s r q stop is sees falls ih e = absurd (not_three r (refusal_is e))
fault_by b bs c s r q (go [] c') is sees falls ih e =
    let h = ih c' falls.1 e in
    let more : h.byte + 1 - s ≡ suc (h.byte + 1 - (s + 1)) = omega (arith, h.onwards) in
    let seen-is : seen c' ≡ seen c = sees ∙ append-nil (seen c) in
    record {
      byte = h.byte;
      onwards = omega (arith, h.onwards);
      within = omega (arith, h.within);
      sample = b ∷ h.sample;
      items = h.items;
      accepts = goes_on b h.sample c s [] c' is ∙ h.accepts;
      same = ap (λ n. take n (b ∷ h.sample)) more ∙ ap (λ x. b ∷ x) h.same ∙ sym (ap (λ n. take n (b ∷ bs)) more);
      next = λ other ts same a.
          first_byte (h.byte + 1 - (s + 1)) b bs other (sym (ap (λ n. take n other) more) ∙ same ∙ ap (λ n. take n (b ∷ bs)) more)
          (λ rest at_b after.
          let n = h.next rest ts after (sym (leads b rest other c s [] c' is at_b) ∙ a) in
          (n.0, ap (broken_rules ts) (longer b s rest other at_b) ∙ n.1 ∙ ap (λ x. x ++ record { rule = r; place = q; due = h.byte } ∷ n.0) seen-is));
    }
fault_by b bs c s r q (go (g ∷ d) c') is sees falls ih e =
    let full = all_complete c' (s + 1) falls.1 in
    let g-is = broken_is g r q s (rule_is g.rule r (refusal_is e)) (place_is e) falls.0.0 in
    record {
      byte = s;
      onwards = omega arith;
      within = omega arith;
      sample = b ∷ full.0;
      items = full.1.0;
      accepts = goes_on b full.0 c s (g ∷ d) c' is ∙ full.1.1;
      same = ap (λ n. take n (b ∷ full.0)) (one_more s) ∙ sym (ap (λ n. take n (b ∷ bs)) (one_more s));
      next = λ other ts same a.
          first_byte 0 b bs other (sym (ap (λ n. take n other) (one_more s)) ∙ same ∙ ap (λ n. take n (b ∷ bs)) (one_more s))
          (λ rest at_b after.
          let l = strict rest c' (s + 1) ts (sym (leads b rest other c s (g ∷ d) c' is at_b) ∙ a) in (
            d ++ l.later,
            ap (broken_rules ts) (longer b s rest other at_b) ∙ l.all ∙ ap (λ x. x ++ l.later) sees ∙ append_assoc (seen c) (g ∷ d) l.later ∙ ap (λ x. seen c ++ x ∷ (d ++ l.later)) g-is,
          ));
    }

fault : (bs : List ℕ) (c : Config) (s : ℕ) (r : Rule) (q : ℕ) → Here c s → run bs true c s ≡ refused (refusal_of r) q → Fault bs c s r q
unfolding run
fault [] c s r q here e = fault_end c s r q (finish c s) refl e
fault (b ∷ bs) c s r q here e = fault_by b bs c s r q (step c s b) refl (seen_step c s b) (due_step c s b here) (λ c' h. fault bs c' (s + 1) r q h) e

-- ---- the laws

earliest : (f : Broken) (fs gs : List Broken) → gs ≡ f ∷ fs → (gs ≡ f ∷ fs → (g : Broken) → Among g (f ∷ fs) → Sooner f g) → Earliest f gs
earliest f fs gs e h = record { rest = fs; first = e; least = λ g a. h e g (subst (Among g) e a) }

module _ (complete : (text : List ℕ) (ts : Items) → Template text ts → reading false text ≡ accepted ts)
    (sound : (text : List ℕ) (ts : Items) → reading false text ≡ accepted ts → Template text ts) where
  nothing_due : (text : List ℕ) (p : ℕ) → reading true text ≡ refused UnexpectedByte p → NothingDue text p
  unfolding broken_items
  nothing_due text p e other items same t f m =
      let none : p - 0 ≡ p = omega arith in
      let h = (quiet text (Config.line Items.none) 0 p tt e).1 other items (ap (λ n. take n other) none ∙ same ∙ sym (ap (λ n. take n text) none)) (complete other items t) in
      let whole : length other ≡ 0 + length other = omega arith in
      from_among p h.later h.from_there f (subst (Among f) (ap (broken_rules items) whole ∙ h.all) m)

  pub names_the_byte : NamesTheByte
  names_the_byte text p e =
      let st = stops text (Config.line Items.none) 0 p tt (lenient text (Config.line Items.none) 0 p e) in
      let within : p ≤ length text = omega (arith, st.within) in
      let none : p - 0 ≡ p = omega arith in
      let one : p + 1 - 0 ≡ p + 1 = omega arith in
      let more = all_complete st.last p st.here in
      let other = take p text ++ more.0 in
      let accepts : reading false other ≡ accepted more.1.0 = sym (ap (λ n. run (take n text ++ more.0) false (Config.line Items.none) 0) none) ∙ st.reaches more.0 ∙ more.1.1 in (
        within,
        record { other = other; items = more.1.0; template = sound other more.1.0 accepts; same = take_at (take p text) more.0 p (length-take-le p text within) },
        λ other items same t. never (sym (complete other items t) ∙ st.local other (ap (λ n. take n other) one ∙ same ∙ sym (ap (λ n. take n text) one))),
        nothing_due text p e,
      )

  module _ (first_least : (text : List ℕ) (ts : Items) (f : Broken) (fs : List Broken) → Template text ts → broken_rules ts (length text) ≡ f ∷ fs → (g : Broken) → Among g (f ∷ fs) → Sooner f g) where
    by_fault : (text : List ℕ) (r : Rule) (q : ℕ) (h : Fault text (Config.line Items.none) 0 r q) (other : List ℕ) (items : Items) → take (h.byte + 1) other ≡ take (h.byte + 1) text → Template other items → Earliest (record { rule = r; place = q; due = h.byte }) (broken_rules items (length other))
    unfolding broken_items
    by_fault text r q h other items same t =
        let f : Broken = record { rule = r; place = q; due = h.byte } in
        let more : h.byte + 1 - 0 ≡ h.byte + 1 = omega arith in
        let n = h.next other items (ap (λ n. take n other) more ∙ same ∙ sym (ap (λ n. take n text) more)) (complete other items t) in
        let whole : length other ≡ 0 + length other = omega arith in
        earliest f n.0 (broken_rules items (length other)) (ap (broken_rules items) whole ∙ n.1) (first_least other items f n.0 t)

    pub names_the_rule : NamesTheRule
    names_the_rule text r q e =
        let h = fault text (Config.line Items.none) 0 r q tt e in
        let more : h.byte + 1 - 0 ≡ h.byte + 1 = omega arith in (
          h.byte,
          omega (arith, h.within),
          record {
            other = h.sample;
            items = h.items;
            template = sound h.sample h.items h.accepts;
            same = sym (ap (λ n. take n h.sample) more) ∙ h.same ∙ ap (λ n. take n text) more;
          },
          by_fault text r q h,
        )
