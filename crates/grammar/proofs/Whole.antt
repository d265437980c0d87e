-- What the grammar says of a whole template, the reading reads, the rules 4 to 8 apart. Assumes nothing.
use Rattle.std.proofs.Common.{◌≡◌, ℕ, zero, suc, ◌+◌, ◌-◌, ◌<◌, ◌≤◌, Bool, true, false, ◌⊎◌, List, [], ◌∷◌, length, get_or, Some, sym, refl, ap, ◌∙◌, subst, inl, inr, ⊎_elim, arith}
use Rattle.std.proofs.lemmas.Bool.{cond-true, cond-false, lt-ltb, le-ltb, cases_lt}
use Rattle.std.proofs.lemmas.Bool.Decides.{nat_tests}
use Rattle.tokens.specs.declared.byte.Class.{Class}
use Rattle.tokens.specs.declared.byte.Class.TheVariants as is
use Rattle.tokens.specs.Bytes.{start, class, blank}
use Rattle.trees.specs.Tree.{Item, Items}
use Rattle.grammar.specs.Rules.{Broken, open_blocks, unclosed}
use Rattle.grammar.specs.Machine.{Head, Stack, Config, Move, go, Out, accepted, reading, judged, finish, finished, step, row, piece, reacts}
use Rattle.grammar.specs.Grammar
use Rattle.grammar.specs.Grammar.{At, Blanks, Plainly, Lines, Line, Body, Begun, Template}
use Rattle.grammar.proofs.Moves.{at_end, moves, alike, stays}
use Rattle.grammar.proofs.Complete.{reads, Begin, Begins, class_newline, says, says_begins}

pub class_blank : (b : ℕ) → blank b ≡ true → class b ≡ is.Blank
class_blank b e = grind (arith, nat_tests)

pub class_solid : (b : ℕ) → class b ≡ is.Blank → blank b ≡ true
class_solid b e = grind (arith, nat_tests)

pub class_return : (b : ℕ) → class b ≡ is.Return → b ≡ 13
class_return b e = grind (arith, nat_tests)

pub class_dollar : (b : ℕ) → class b ≡ is.Dollar → b ≡ 36
class_dollar b e = grind (arith, nat_tests)

-- a byte of a plain piece, by its class
abbrev pub PlainClass : Class → Type 0
PlainClass is.Newline = ⊥
PlainClass is.Return = ⊥
PlainClass is.Blank = Unit {0}
PlainClass is.Dollar = ⊥
PlainClass is.Quote = Unit {0}
PlainClass is.Backslash = Unit {0}
PlainClass is.Escaped = Unit {0}
PlainClass is.Other = Unit {0}

pub plain_class : (b : ℕ) → (b ≡ 10 → ⊥) → (b ≡ 13 → ⊥) → (b ≡ 36 → ⊥) → PlainClass (class b)
plain_class b x y z = by (class b) refl
  where
    by : (c : Class) → class b ≡ c → PlainClass c
    by is.Newline e = absurd (x (class_newline b e))
    by is.Return e = absurd (y (class_return b e))
    by is.Blank e = tt
    by is.Dollar e = absurd (z (class_dollar b e))
    by is.Quote e = tt
    by is.Backslash e = tt
    by is.Escaped e = tt
    by is.Other e = tt

-- rows with one entry for the plain classes
plain_goes : (c : Class) → PlainClass c → (n r d v : Move) → row n r v d v v v v c ≡ v
plain_goes is.Newline h n r d v = absurd h
plain_goes is.Return h n r d v = absurd h
plain_goes is.Blank h n r d v = refl
plain_goes is.Dollar h n r d v = absurd h
plain_goes is.Quote h n r d v = refl
plain_goes is.Backslash h n r d v = refl
plain_goes is.Escaped h n r d v = refl
plain_goes is.Other h n r d v = refl

line_goes : (c : Class) → PlainClass c → (c ≡ is.Blank → ⊥) → (n r b d v : Move) → row n r b d v v v v c ≡ v
line_goes is.Newline h s n r b d v = absurd h
line_goes is.Return h s n r b d v = absurd h
line_goes is.Blank h s n r b d v = absurd (s refl)
line_goes is.Dollar h s n r b d v = absurd h
line_goes is.Quote h s n r b d v = refl
line_goes is.Backslash h s n r b d v = refl
line_goes is.Escaped h s n r b d v = refl
line_goes is.Other h s n r b d v = refl

comment_goes : (c : Class) → (c ≡ is.Newline → ⊥) → (n v : Move) → row n v v v v v v v c ≡ v
comment_goes is.Newline h n v = absurd (h refl)
comment_goes is.Return h n v = refl
comment_goes is.Blank h n v = refl
comment_goes is.Dollar h n v = refl
comment_goes is.Quote h n v = refl
comment_goes is.Backslash h n v = refl
comment_goes is.Escaped h n v = refl
comment_goes is.Other h n v = refl

blank_goes : (c : Class) → c ≡ is.Blank → (n r v d q e x o : Move) → row n r v d q e x o c ≡ v
blank_goes c h n r v d q e x o = ap (row n r v d q e x o) h

-- an instruction opens after the `$`, where no other `$` follows, and at a line's start no blank
opens_else : (c : Class) (v d : Move) → (c ≡ is.Dollar → ⊥) → row v v v d v v v v c ≡ v
opens_else is.Newline v d h = refl
opens_else is.Return v d h = refl
opens_else is.Blank v d h = refl
opens_else is.Dollar v d h = absurd (h refl)
opens_else is.Quote v d h = refl
opens_else is.Backslash v d h = refl
opens_else is.Escaped v d h = refl
opens_else is.Other v d h = refl

opens_line : (c : Class) (v b d : Move) → (c ≡ is.Dollar → ⊥) → (c ≡ is.Blank → ⊥) → row v v b d v v v v c ≡ v
opens_line is.Newline v b d h s = refl
opens_line is.Return v b d h s = refl
opens_line is.Blank v b d h s = absurd (s refl)
opens_line is.Dollar v b d h s = absurd (h refl)
opens_line is.Quote v b d h s = refl
opens_line is.Backslash v b d h s = refl
opens_line is.Escaped v b d h s = refl
opens_line is.Other v b d h s = refl

line_stays : (ts : Items) (p b : ℕ) → blank b ≡ true → step (Config.line ts) p b ≡ go [] (Config.line ts)
line_stays ts p b e = blank_goes (class b) (class_blank b e) _ _ _ _ _ _ _ _

pub piece_none : (i : ℕ) (ts : Items) → piece i i ts ≡ ts
piece_none i ts = cond-false _ _ _ (le-ltb i i (omega arith))

pub piece_some : (i j : ℕ) (ts : Items) → i < j → piece i j ts ≡ Items.then ts (Item.piece i j)
piece_some i j ts lt = cond-true _ _ _ (lt-ltb i j lt)

-- no expression begins with `$`
no_dollar : (text : List ℕ) (i : ℕ) → Begin text i → get_or text i 0 ≡ 36 → ⊥
no_dollar text i g e =
    ⊎_elim
    (λ lt. let none : blank 36 ≡ false = refl in both none (ap blank (sym e) ∙ g.blanks.all i (omega arith) lt))
    (λ ge. let same : g.place ≡ i = omega (arith, g.blanks.onwards) in subst Begins (ap (λ p. start (get_or text p 0)) same ∙ ap start e) g.is)
    (cases_lt i g.place)
  where
    both : {x : Bool} → x ≡ false → x ≡ true → ⊥
    both a b = let z : ◌≡◌ {A = ℕ} 0 1 = cc in omega arith

-- blocks that stand open at the end are a broken rule, and no more
free_end : (d : List Broken) (o : Out) → judged false d o ≡ o
free_end [] o = refl
free_end (f ∷ d) o = refl

module _ (text : List ℕ) where
  plain_run : (n i p p' : ℕ) (ts : Items) → p' ≡ p + n → p' ≤ length text → ((q : ℕ) → p ≤ q → q < p' → Plainly text q) → reads text (Config.plain i ts) p ≡ reads text (Config.plain i ts) p'
  plain_run zero i p p' ts e within all = let e' : p ≡ p' = omega arith in ap (reads text (Config.plain i ts)) e'
  plain_run (suc n) i p p' ts e within all =
      let h : Plainly text p = all p (omega arith) (omega arith) in
      moves false text (Config.plain i ts) p _ (omega arith) (plain_goes (class (get_or text p 0)) (plain_class (get_or text p 0) h.0 h.1 h.2) _ _ _ _)
      ∙ plain_run n i (p + 1) p' ts (omega arith) within (λ q a b. all q (omega arith) b)

  comment_run : (n p p' : ℕ) (ts : Items) → p' ≡ p + n → p' ≤ length text → ((q : ℕ) → p ≤ q → q < p' → get_or text q 0 ≡ 10 → ⊥) → reads text (Config.comment ts) p ≡ reads text (Config.comment ts) p'
  comment_run zero p p' ts e within all = let e' : p ≡ p' = omega arith in ap (reads text (Config.comment ts)) e'
  comment_run (suc n) p p' ts e within all =
      moves false text (Config.comment ts) p _ (omega arith) (comment_goes (class (get_or text p 0)) (λ x. all p (omega arith) (omega arith) (class_newline (get_or text p 0) x)) _ _)
      ∙ comment_run n (p + 1) p' ts (omega arith) within (λ q a b. all q (omega arith) b)

  step_at : (c : Config) (p b : ℕ) (v : Move) → At text p b → step c p b ≡ v → reads text c p ≡ reacts false text p v
  step_at c p b v h e = moves false text c p v h.0 (ap (step c p) h.1 ∙ e)

  -- inside a line: the open piece begins at `start`
  pub record Open (ts : Items) (i : ℕ) : Type 0 where
    pub start : ℕ
    pub before : Items
    pub is : piece start i before ≡ ts
    pub runs : reading false text ≡ reads text (Config.plain start before) i
    pub fresh : i < length text → Plainly text i → start ≡ i

  open_new : (ts : Items) (i : ℕ) → reading false text ≡ reads text (Config.plain i ts) i → Open ts i
  open_new ts i r = record { start = i; before = ts; is = piece_none i ts; runs = r; fresh = λ lt h. refl }

  -- at the start of a line, past its blanks
  pub record Fresh (ts : Items) (i : ℕ) : Type 0 where
    pub runs : reading false text ≡ reads text (Config.line ts) i
    pub solid : blank (get_or text i 0) ≡ true → ⊥
    pub comment : get_or text i 0 ≡ 36 → blank (get_or text (i + 1) 0) ≡ true → ⊥

  by_return : (ts : Items) (i : ℕ) → Open ts i ⊎ Fresh ts i → At text i 13 → reading false text ≡ reads text (Config.plain (i + 1) ts) (i + 1)
  by_return ts i (inl o) h = o.runs ∙ step_at (Config.plain o.start o.before) i 13 _ h refl ∙ ap (λ ts. reads text (Config.plain (i + 1) ts) (i + 1)) o.is
  by_return ts i (inr f) h = f.runs ∙ step_at (Config.line ts) i 13 _ h refl

  by_plain : (ts : Items) (i : ℕ) → Open ts i ⊎ Fresh ts i → i < length text → Plainly text i → reading false text ≡ reads text (Config.plain i ts) i
  by_plain ts i (inl o) lt h =
      let e = o.fresh lt h in
      o.runs ∙ λ j. reads text (Config.plain (e j) (same e j)) i
    where
      same : o.start ≡ i → o.before ≡ ts
      same e = sym (piece_none o.start o.before) ∙ ap (λ p. piece o.start p o.before) e ∙ o.is
  by_plain ts i (inr f) lt h =
      let cl = plain_class (get_or text i 0) h.0 h.1 h.2 in
      f.runs
      ∙ moves false text (Config.line ts) i _ lt (line_goes (class (get_or text i 0)) cl (λ e. f.solid (class_solid (get_or text i 0) e)) _ _ _ _ _)
      ∙ sym (moves false text (Config.plain i ts) i _ lt (plain_goes (class (get_or text i 0)) cl _ _ _ _))

  by_dollar : (ts : Items) (i : ℕ) → Open ts i ⊎ Fresh ts i → At text i 36 → At text (i + 1) 36 → reading false text ≡ reads text (Config.plain (i + 2) (Items.then ts (Item.dollar i))) (i + 2)
  by_dollar ts i (inl o) h h' =
      let two : i + 1 + 1 ≡ i + 2 = omega arith in
      o.runs ∙ step_at (Config.plain o.start o.before) i 36 _ h refl ∙ ap (λ ts. reads text (Config.dollar i ts) (i + 1)) o.is ∙ step_at (Config.dollar i ts) (i + 1) 36 _ h' refl ∙ ap (λ p. reads text (Config.plain p (Items.then ts (Item.dollar i))) p) two
  by_dollar ts i (inr f) h h' =
      let two : i + 1 + 1 ≡ i + 2 = omega arith in
      f.runs ∙ step_at (Config.line ts) i 36 _ h refl ∙ step_at (Config.dollar_at_line i ts) (i + 1) 36 _ h' refl ∙ ap (λ p. reads text (Config.plain p (Items.then ts (Item.dollar i))) p) two

  by_open : (ts : Items) (i : ℕ) → Open ts i ⊎ Fresh ts i → At text i 36 → Begin text (i + 1) → reading false text ≡ reads text (Config.want (Stack.top i Head.show ts)) (i + 1)
  by_open ts i (inl o) h g =
      o.runs ∙ step_at (Config.plain o.start o.before) i 36 _ h refl ∙ ap (λ ts. reads text (Config.dollar i ts) (i + 1)) o.is
      ∙ alike false text (Config.dollar i ts) (Config.want (Stack.top i Head.show ts)) (i + 1) (λ lt. opens_else (class (get_or text (i + 1) 0)) _ _ (λ e. no_dollar text (i + 1) g (class_dollar (get_or text (i + 1) 0) e))) refl
  by_open ts i (inr f) h g =
      f.runs ∙ step_at (Config.line ts) i 36 _ h refl
      ∙ alike false text (Config.dollar_at_line i ts) (Config.want (Stack.top i Head.show ts)) (i + 1) (λ lt. opens_line (class (get_or text (i + 1) 0)) _ _ _ (λ e. no_dollar text (i + 1) g (class_dollar (get_or text (i + 1) 0) e)) (λ e. f.comment h.1 (class_solid (get_or text (i + 1) 0) e))) refl

  comment_runs : (ts : Items) (i j e : ℕ) → Blanks text i j → At text j 36 → j + 1 < e → blank (get_or text (j + 1) 0) ≡ true → e ≤ length text → ((q : ℕ) → j < q → q < e → get_or text q 0 ≡ 10 → ⊥) → reads text (Config.line ts) i ≡ reads text (Config.comment ts) e
  comment_runs ts i j e bl d lt b within all =
      stays false text (Config.line ts) (line_stays ts) i j bl
      ∙ step_at (Config.line ts) j 36 _ d refl
      ∙ moves false text (Config.dollar_at_line j ts) (j + 1) _ (omega arith) (blank_goes (class (get_or text (j + 1) 0)) (class_blank (get_or text (j + 1) 0) b) _ _ _ _ _ _ _ _)
      ∙ comment_run (e - (j + 1 + 1)) (j + 1 + 1) e ts (omega arith) within (λ q x y. all q (omega arith) y)

  mutual
    lines : {ts : Items} {i : ℕ} → Lines text ts i → reading false text ≡ reads text (Config.line ts) i
    lines Grammar.begin = refl
    lines (Grammar.next l h) = line_next l h

    line_next : {ts : Items} {i : ℕ} → Line text ts i → At text i 10 → reading false text ≡ reads text (Config.line ts) (i + 1)
    line_next (Grammar.empty {ts = ts} {i = i} {j = j} l bl) h = lines l ∙ stays false text (Config.line ts) (line_stays ts) i j bl ∙ step_at (Config.line ts) j 10 _ h refl
    line_next (Grammar.comment {ts = ts} {i = i} {j = j} {e = e} l bl d lt b within all) h = lines l ∙ comment_runs ts i j e bl d lt b within all ∙ step_at (Config.comment ts) e 10 _ h refl
    line_next (Grammar.body {ts = ts} {i = i} b) h = let o = body b in o.runs ∙ step_at (Config.plain o.start o.before) i 10 _ h refl ∙ ap (λ ts. reads text (Config.line ts) (i + 1)) o.is

    body : {ts : Items} {i : ℕ} → Body text ts i → Open ts i
    body (Grammar.return {ts = ts} {i = i} g h) = open_new ts (i + 1) (by_return ts i (begun g) h)
    body (Grammar.piece {ts = ts} {i = i} {j = j} g lt within all longest) =
        record { start = i; before = ts; is = piece_some i j ts lt; runs = by_plain ts i (begun g) (omega arith) (all i (omega arith) lt) ∙ plain_run (j - i) i i j ts (omega arith) within all; fresh = λ lt h. absurd (longest lt h) }
    body (Grammar.dollar {ts = ts} {i = i} g h h') = open_new (Items.then ts (Item.dollar i)) (i + 2) (by_dollar ts i (begun g) h h')
    body (Grammar.instruction {ts = ts} {t = t} {i = i} {k = k} g h s z) = open_new (Items.then ts t) (k + 1) (by_open ts i (begun g) h (says_begins s) ∙ says text s ts z)

    begun : {ts : Items} {i : ℕ} → Begun text ts i → Open ts i ⊎ Fresh ts i
    begun (Grammar.inside b) = inl (body b)
    begun (Grammar.first {ts = ts} {i = i} {j = j} l bl solid no-comment) = inr (record { runs = lines l ∙ stays false text (Config.line ts) (line_stays ts) i j bl; solid = solid; comment = no-comment })

  ends : (c : Config) (ts : Items) (p : ℕ) → length text ≤ p → finish c p ≡ Some ts → reads text c p ≡ accepted ts
  ends c ts p h e = at_end false text c p h ∙ ap (λ o. finished false o p) e ∙ free_end (unclosed (open_blocks ts) p) (accepted ts)

  line_end : {ts : Items} {i : ℕ} → Line text ts i → length text ≤ i → reading false text ≡ accepted ts
  line_end (Grammar.empty {ts = ts} {i = i} {j = j} l bl) h = lines l ∙ stays false text (Config.line ts) (line_stays ts) i j bl ∙ ends (Config.line ts) ts j h refl
  line_end (Grammar.comment {ts = ts} {i = i} {j = j} {e = e} l bl d lt b within all) h = lines l ∙ comment_runs ts i j e bl d lt b within all ∙ ends (Config.comment ts) ts e h refl
  line_end (Grammar.body {ts = ts} {i = i} b) h = let o = body b in o.runs ∙ ends (Config.plain o.start o.before) ts i h (ap Some o.is)

-- each template is read as what the grammar says
pub complete : (text : List ℕ) (ts : Items) → Template text ts → reading false text ≡ accepted ts
complete text ts h = line_end text h (omega arith)
