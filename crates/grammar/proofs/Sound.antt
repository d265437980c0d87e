-- What the reading accepts without the rules 4 to 8, the grammar spells. Assumes nothing.
use Rattle.std.proofs.Common.{◌≡◌, ℕ, zero, suc, ◌+◌, ◌<◌, ◌≤◌, Bool, true, false, ltb, List, [], ◌∷◌, length, get_or, sym, refl, ap, ◌∙◌, subst, ⊎_elim, arith}
use Rattle.std.proofs.lemmas.Bool.{cond_both, ltb-true, ltb-false, cases_lt}
use Rattle.refusals.specs.declared.Refusal.{Refusal}
use Rattle.tokens.specs.declared.byte.Class.{Class}
use Rattle.tokens.specs.declared.byte.Class.TheVariants as is
use Rattle.tokens.specs.Bytes.{start, after, class, blank}
use Rattle.trees.specs.Tree.{Item, Items}
use Rattle.grammar.specs.Rules.{Broken}
use Rattle.grammar.specs.Machine.{Stack, Head, Config, Move, stop, go, Out, accepted, refused, onward, reading, judged, finish, finished, step, row, piece, reacts}
use Rattle.grammar.specs.Grammar
use Rattle.grammar.specs.Grammar.{At, Blanks, Plainly, Line, Body, Begun, Template}
use Rattle.grammar.proofs.Moves.{on, at_end}
use Rattle.grammar.proofs.Upto.{up_show, every_none, every_more, class_newline, class_return, class_dollar, class_solid, class_blank}
use Rattle.grammar.proofs.Said.{PlainClass, SameLine, Solid, NoDollar, Wanted, AtLine, InPlain, InComment, DollarAtLine, DollarElse, Rep, Next, none_yet}
use Rattle.grammar.proofs.Inside.{wants_next, firsts_next, numbers_next, name_next, texts_next, escapes_next, quoteds_next, nameds_next, afters_next, halves_next, dots_next, last_wanted_next, lasts_next, bares_next, naming_next, loop_name_next, new_plain}

-- without the rules nothing is refused for what falls due
pub judged_false : (d : List Broken) (o : Out) → judged false d o ≡ o
judged_false [] o = refl
judged_false (f ∷ d) o = refl

module _ (text : List ℕ) where
  -- outside of instructions
  plainly : (p : ℕ) (cl : Class) → class (get_or text p 0) ≡ cl → PlainClass cl → Plainly text p
  plainly p cl e h = (λ x. subst PlainClass (sym e ∙ ap class x) h, λ x. subst PlainClass (sym e ∙ ap class x) h, λ x. subst PlainClass (sym e ∙ ap class x) h)

  same_line : (p : ℕ) (cl : Class) → class (get_or text p 0) ≡ cl → SameLine cl → get_or text p 0 ≡ 10 → ⊥
  same_line p cl e h x = subst SameLine (sym e ∙ ap class x) h

  not_blank : (b : ℕ) (cl : Class) → class b ≡ cl → Solid cl → blank b ≡ true → ⊥
  not_blank b cl e h x = subst Solid (sym e ∙ class_blank b x) h

  line_begins : (ts : Items) (p : ℕ) (cl : Class) → class (get_or text p 0) ≡ cl → Solid cl → NoDollar cl → AtLine text ts p → Begun text ts p
  line_begins ts p cl e nb nd l = Grammar.first l.lines l.blanks (not_blank (get_or text p 0) cl e nb) (λ d b. subst NoDollar (sym e ∙ ap class d) nd)

  plain_first : (ts : Items) (p : ℕ) → p < length text → Begun text ts p → Plainly text p → InPlain text p ts (p + 1)
  plain_first ts p lt b h =
      record { begun = b; onwards = omega arith; inside = omega arith; all = λ q x y. let same : p ≡ q = omega arith in subst (Plainly text) same h; shut = λ e. absurd (omega arith) }

  lines_next : (cl : Class) (ts : Items) (p : ℕ) → p < length text → class (get_or text p 0) ≡ cl → AtLine text ts p → Next text p (row (go [] (Config.line ts)) (go [] (Config.plain (p + 1) ts)) (go [] (Config.line ts)) (go [] (Config.dollar_at_line p ts)) (go [] (Config.plain p ts)) (go [] (Config.plain p ts)) (go [] (Config.plain p ts)) (go [] (Config.plain p ts)) cl)
  lines_next is.Newline ts p lt e l = record { from = p + 1; lines = Grammar.next (Grammar.empty l.lines l.blanks) (lt, class_newline (get_or text p 0) e); blanks = none_yet text p lt }
  lines_next is.Return ts p lt e l = new_plain text ts (p + 1) (omega arith) (Grammar.return (line_begins ts p is.Return e tt tt l) (lt, class_return (get_or text p 0) e))
  lines_next is.Blank ts p lt e l = record { from = l.from; lines = l.lines; blanks = every_more blank text l.from p l.blanks lt (class_solid (get_or text p 0) e) }
  lines_next is.Dollar ts p lt e l = record { from = l.from; lines = l.lines; blanks = l.blanks; dollar = (lt, class_dollar (get_or text p 0) e); is = refl }
  lines_next is.Quote ts p lt e l = plain_first ts p lt (line_begins ts p is.Quote e tt tt l) (plainly p is.Quote e tt)
  lines_next is.Backslash ts p lt e l = plain_first ts p lt (line_begins ts p is.Backslash e tt tt l) (plainly p is.Backslash e tt)
  lines_next is.Escaped ts p lt e l = plain_first ts p lt (line_begins ts p is.Escaped e tt tt l) (plainly p is.Escaped e tt)
  lines_next is.Other ts p lt e l = plain_first ts p lt (line_begins ts p is.Other e tt tt l) (plainly p is.Other e tt)

  -- the open piece ends before p, if it has a byte
  plain_body : (i : ℕ) (ts : Items) (p : ℕ) → InPlain text i ts p → (p < length text → Plainly text p → ⊥) → Body text (piece i p ts) p
  plain_body i ts p h stops =
      cond_both (ltb i p) _ _ (λ ts. Body text ts p)
      (λ e. Grammar.piece h.begun (ltb-true i p e) h.inside h.all stops)
      (λ e. let same : i ≡ p = omega (arith, h.onwards, ltb-false i p e) in subst (Body text ts) same (h.shut same))

  plain_more : (i : ℕ) (ts : Items) (p : ℕ) → p < length text → InPlain text i ts p → Plainly text p → InPlain text i ts (p + 1)
  plain_more i ts p lt h pl =
      record { begun = h.begun; onwards = omega (arith, h.onwards); inside = omega arith; all = λ q a b. ⊎_elim (λ l. h.all q a l) (λ g. let same : p ≡ q = omega arith in subst (Plainly text) same pl) (cases_lt q p); shut = λ e. absurd (omega (arith, h.onwards)) }

  plains_next : (cl : Class) (i : ℕ) (ts : Items) (p : ℕ) → p < length text → class (get_or text p 0) ≡ cl → InPlain text i ts p → Next text p (row (go [] (Config.line (piece i p ts))) (go [] (Config.plain (p + 1) (piece i p ts))) (go [] (Config.plain i ts)) (go [] (Config.dollar p (piece i p ts))) (go [] (Config.plain i ts)) (go [] (Config.plain i ts)) (go [] (Config.plain i ts)) (go [] (Config.plain i ts)) cl)
  plains_next is.Newline i ts p lt e h = let b = class_newline (get_or text p 0) e in record { from = p + 1; lines = Grammar.next (Grammar.body (plain_body i ts p h (λ l pl. pl.0 b))) (lt, b); blanks = none_yet text p lt }
  plains_next is.Return i ts p lt e h = let b = class_return (get_or text p 0) e in new_plain text (piece i p ts) (p + 1) (omega arith) (Grammar.return (Grammar.inside (plain_body i ts p h (λ l pl. pl.1 b))) (lt, b))
  plains_next is.Dollar i ts p lt e h = let b = class_dollar (get_or text p 0) e in record { body = plain_body i ts p h (λ l pl. pl.2 b); dollar = (lt, b); is = refl }
  plains_next is.Blank i ts p lt e h = plain_more i ts p lt h (plainly p is.Blank e tt)
  plains_next is.Quote i ts p lt e h = plain_more i ts p lt h (plainly p is.Quote e tt)
  plains_next is.Backslash i ts p lt e h = plain_more i ts p lt h (plainly p is.Backslash e tt)
  plains_next is.Escaped i ts p lt e h = plain_more i ts p lt h (plainly p is.Escaped e tt)
  plains_next is.Other i ts p lt e h = plain_more i ts p lt h (plainly p is.Other e tt)

  comment_more : (ts : Items) (p : ℕ) → p < length text → InComment text ts p → (get_or text p 0 ≡ 10 → ⊥) → InComment text ts (p + 1)
  comment_more ts p lt h ne =
      record { from = h.from; lines = h.lines; place = h.place; blanks = h.blanks; dollar = h.dollar; blank_next = h.blank_next; far = omega (arith, h.far); inside = omega arith; all = λ q a b. ⊎_elim (λ l. h.all q a l) (λ g. let same : p ≡ q = omega arith in subst (λ q. get_or text q 0 ≡ 10 → ⊥) same ne) (cases_lt q p) }

  comments_next : (cl : Class) (ts : Items) (p : ℕ) → p < length text → class (get_or text p 0) ≡ cl → InComment text ts p → Next text p (row (go [] (Config.line ts)) (go [] (Config.comment ts)) (go [] (Config.comment ts)) (go [] (Config.comment ts)) (go [] (Config.comment ts)) (go [] (Config.comment ts)) (go [] (Config.comment ts)) (go [] (Config.comment ts)) cl)
  comments_next is.Newline ts p lt e h = record { from = p + 1; lines = Grammar.next (Grammar.comment h.lines h.blanks h.dollar h.far h.blank_next h.inside h.all) (lt, class_newline (get_or text p 0) e); blanks = none_yet text p lt }
  comments_next is.Return ts p lt e h = comment_more ts p lt h (same_line p is.Return e tt)
  comments_next is.Blank ts p lt e h = comment_more ts p lt h (same_line p is.Blank e tt)
  comments_next is.Dollar ts p lt e h = comment_more ts p lt h (same_line p is.Dollar e tt)
  comments_next is.Quote ts p lt e h = comment_more ts p lt h (same_line p is.Quote e tt)
  comments_next is.Backslash ts p lt e h = comment_more ts p lt h (same_line p is.Backslash e tt)
  comments_next is.Escaped ts p lt e h = comment_more ts p lt h (same_line p is.Escaped e tt)
  comments_next is.Other ts p lt e h = comment_more ts p lt h (same_line p is.Other e tt)

  -- after the `$` at q
  top_wanted : (q : ℕ) (ts : Items) (p : ℕ) → p < length text → p ≡ q + 1 → Begun text ts q → At text q 36 → Wanted text (Stack.top q Head.show ts) p
  top_wanted q ts p lt e b d = record { from = q + 1; upto = up_show b d; blanks = subst (λ x. Blanks text (q + 1) x) (sym e) (every_none blank text (q + 1) (omega arith)) }

  dollar_begins : (q : ℕ) (ts : Items) (p : ℕ) (h : DollarAtLine text q ts p) → (blank (get_or text p 0) ≡ true → ⊥) → Begun text ts q
  dollar_begins q ts p h nb =
      Grammar.first h.lines h.blanks (λ b. let none : blank 36 ≡ false = refl in both none (ap blank (sym h.dollar.1) ∙ b)) (λ d b. nb (ap (λ q. blank (get_or text q 0)) h.is ∙ b))
    where
      both : {x : Bool} → x ≡ false → x ≡ true → ⊥
      both a b = let z : ◌≡◌ {A = ℕ} 0 1 = cc in omega arith

  dollared : (q : ℕ) (ts : Items) (p : ℕ) → p < length text → p ≡ q + 1 → Begun text ts q → At text q 36 → get_or text p 0 ≡ 36 → InPlain text (p + 1) (Items.then ts (Item.dollar q)) (p + 1)
  dollared q ts p lt e b d h =
      let far : q + 2 ≡ p + 1 = omega arith in
      new_plain text (Items.then ts (Item.dollar q)) (p + 1) (omega arith) (subst (Body text (Items.then ts (Item.dollar q))) far (Grammar.dollar b d (subst (λ q. At text q 36) e (lt, h))))

  dollars_at_line_next : (cl : Class) (q : ℕ) (ts : Items) (p : ℕ) → p < length text → class (get_or text p 0) ≡ cl → DollarAtLine text q ts p → (v : Move) → (Wanted text (Stack.top q Head.show ts) p → Next text p v) → Next text p (row v v (go [] (Config.comment ts)) (go [] (Config.plain (p + 1) (Items.then ts (Item.dollar q)))) v v v v cl)
  dollars_at_line_next is.Blank q ts p lt e h v opens =
      record { from = h.from; lines = h.lines; place = q; blanks = h.blanks; dollar = h.dollar; blank_next = ap (λ q. blank (get_or text q 0)) (sym h.is) ∙ class_solid (get_or text p 0) e; far = omega (arith, h.is); inside = omega arith; all = λ x a b. let same : p ≡ x = omega (arith, h.is) in subst (λ q. get_or text q 0 ≡ 10 → ⊥) same (same_line p is.Blank e tt) }
  dollars_at_line_next is.Dollar q ts p lt e h v opens = dollared q ts p lt h.is (dollar_begins q ts p h (not_blank (get_or text p 0) is.Dollar e tt)) h.dollar (class_dollar (get_or text p 0) e)
  dollars_at_line_next is.Newline q ts p lt e h v opens = opens (top_wanted q ts p lt h.is (dollar_begins q ts p h (not_blank (get_or text p 0) is.Newline e tt)) h.dollar)
  dollars_at_line_next is.Return q ts p lt e h v opens = opens (top_wanted q ts p lt h.is (dollar_begins q ts p h (not_blank (get_or text p 0) is.Return e tt)) h.dollar)
  dollars_at_line_next is.Quote q ts p lt e h v opens = opens (top_wanted q ts p lt h.is (dollar_begins q ts p h (not_blank (get_or text p 0) is.Quote e tt)) h.dollar)
  dollars_at_line_next is.Backslash q ts p lt e h v opens = opens (top_wanted q ts p lt h.is (dollar_begins q ts p h (not_blank (get_or text p 0) is.Backslash e tt)) h.dollar)
  dollars_at_line_next is.Escaped q ts p lt e h v opens = opens (top_wanted q ts p lt h.is (dollar_begins q ts p h (not_blank (get_or text p 0) is.Escaped e tt)) h.dollar)
  dollars_at_line_next is.Other q ts p lt e h v opens = opens (top_wanted q ts p lt h.is (dollar_begins q ts p h (not_blank (get_or text p 0) is.Other e tt)) h.dollar)

  dollars_next : (cl : Class) (q : ℕ) (ts : Items) (p : ℕ) → p < length text → class (get_or text p 0) ≡ cl → DollarElse text q ts p → (v : Move) → Next text p v → Next text p (row v v v (go [] (Config.plain (p + 1) (Items.then ts (Item.dollar q)))) v v v v cl)
  dollars_next is.Dollar q ts p lt e h v opens = dollared q ts p lt h.is (Grammar.inside h.body) h.dollar (class_dollar (get_or text p 0) e)
  dollars_next is.Newline q ts p lt e h v opens = opens
  dollars_next is.Return q ts p lt e h v opens = opens
  dollars_next is.Blank q ts p lt e h v opens = opens
  dollars_next is.Quote q ts p lt e h v opens = opens
  dollars_next is.Backslash q ts p lt e h v opens = opens
  dollars_next is.Escaped q ts p lt e h v opens = opens
  dollars_next is.Other q ts p lt e h v opens = opens

  -- each step keeps what the configuration says
  steps : (c : Config) (p : ℕ) → p < length text → Rep text c p → Next text p (step c p (get_or text p 0))
  steps (Config.line ts) p lt h = lines_next (class (get_or text p 0)) ts p lt refl h
  steps (Config.plain i ts) p lt h = plains_next (class (get_or text p 0)) i ts p lt refl h
  steps (Config.comment ts) p lt h = comments_next (class (get_or text p 0)) ts p lt refl h
  steps (Config.dollar_at_line q ts) p lt h = dollars_at_line_next (class (get_or text p 0)) q ts p lt refl h _ (wants_next text (start (get_or text p 0)) (Stack.top q Head.show ts) p lt refl)
  steps (Config.dollar q ts) p lt h = dollars_next (class (get_or text p 0)) q ts p lt refl h _ (wants_next text (start (get_or text p 0)) (Stack.top q Head.show ts) p lt refl (top_wanted q ts p lt h.is (Grammar.inside h.body) h.dollar))
  steps (Config.want k) p lt h = wants_next text (start (get_or text p 0)) k p lt refl h
  steps (Config.first k) p lt h = firsts_next text (start (get_or text p 0)) k p lt refl h.0 h.1
  steps (Config.in_number i n g) p lt h = numbers_next text n i g p lt h.0 h.1
  steps (Config.in_name i w k) p lt h = name_next text i w k p lt h.0 h.1
  steps (Config.in_text i n g) p lt h = texts_next text (class (get_or text p 0)) i n g p lt refl h
  steps (Config.escape i n g) p lt h = escapes_next text (class (get_or text p 0)) i n g p lt refl h
  steps (Config.quoted t g) p lt h = quoteds_next text g t p lt h
  steps (Config.named i j w k) p lt h = nameds_next text (after (get_or text p 0)) i j w k p lt refl h
  steps (Config.aft t k) p lt h = afters_next text (after (get_or text p 0)) t k p lt refl h
  steps (Config.half q g t k) p lt h = halves_next text g q t k p lt h
  steps (Config.dots n r) p lt h = dots_next text n r p lt h
  steps (Config.last_wanted r) p lt h = last_wanted_next text r p lt h
  steps (Config.last_done c r) p lt h = lasts_next text (after (get_or text p 0)) c r p lt refl h
  steps (Config.bare t ts) p lt h = bares_next text t ts p lt h
  steps (Config.naming q j e ts) p lt h = naming_next text q j e ts p lt h
  steps (Config.loop_name q j e i w ts) p lt h = loop_name_next text q j e i w ts p lt h.0 h.1

  never : (r : Refusal) (q : ℕ) (ts : Items) → refused r q ≡ accepted ts → ⊥
  never r q ts e = let z : ◌≡◌ {A = ℕ} 0 1 = cc in omega arith

  accepted_is : (ts ts' : Items) (d : List Broken) → judged false d (accepted ts) ≡ accepted ts' → ts ≡ ts'
  accepted_is ts ts' d e = by (sym (judged_false d (accepted ts)) ∙ e)
    where
      by : accepted ts ≡ accepted ts' → ts ≡ ts'
      by e = cc

  -- what the end of the text says
  ends : (c : Config) (p : ℕ) (ts : Items) → length text ≤ p → Rep text c p → finished false (finish c p) p ≡ accepted ts → Line text ts p
  ends (Config.line us) p ts ge h e = subst (λ ts. Line text ts p) (accepted_is us ts _ e) (Grammar.empty h.lines h.blanks)
  ends (Config.plain i us) p ts ge h e = subst (λ ts. Line text ts p) (accepted_is (piece i p us) ts _ e) (Grammar.body (plain_body i us p h (λ lt. absurd (omega arith))))
  ends (Config.comment us) p ts ge h e = subst (λ ts. Line text ts p) (accepted_is us ts _ e) (Grammar.comment h.lines h.blanks h.dollar h.far h.blank_next h.inside h.all)
  ends (Config.dollar_at_line q us) p ts ge h e = absurd (never _ _ ts e)
  ends (Config.dollar q us) p ts ge h e = absurd (never _ _ ts e)
  ends (Config.want k) p ts ge h e = absurd (never _ _ ts e)
  ends (Config.first k) p ts ge h e = absurd (never _ _ ts e)
  ends (Config.in_number i n g) p ts ge h e = absurd (never _ _ ts e)
  ends (Config.in_name i w k) p ts ge h e = absurd (never _ _ ts e)
  ends (Config.in_text i n g) p ts ge h e = absurd (never _ _ ts e)
  ends (Config.escape i n g) p ts ge h e = absurd (never _ _ ts e)
  ends (Config.quoted t g) p ts ge h e = absurd (never _ _ ts e)
  ends (Config.named i j w k) p ts ge h e = absurd (never _ _ ts e)
  ends (Config.aft t k) p ts ge h e = absurd (never _ _ ts e)
  ends (Config.half q g t k) p ts ge h e = absurd (never _ _ ts e)
  ends (Config.dots n r) p ts ge h e = absurd (never _ _ ts e)
  ends (Config.last_wanted r) p ts ge h e = absurd (never _ _ ts e)
  ends (Config.last_done c r) p ts ge h e = absurd (never _ _ ts e)
  ends (Config.bare t us) p ts ge h e = absurd (never _ _ ts e)
  ends (Config.naming q j x us) p ts ge h e = absurd (never _ _ ts e)
  ends (Config.loop_name q j x i w us) p ts ge h e = absurd (never _ _ ts e)

  record Goes (p : ℕ) (ts : Items) : Type 0 where
    to : Config
    rep : Rep text to p
    runs : onward false text to p ≡ accepted ts

  -- the step before was not refused
  goes : (v : Move) (p : ℕ) (ts : Items) → Next text p v → reacts false text p v ≡ accepted ts → Goes (p + 1) ts
  goes stop p ts h e = absurd (never _ _ ts e)
  goes (go d c) p ts h e = record { to = c; rep = h; runs = sym (judged_false d (onward false text c (p + 1))) ∙ e }

  runs_out : (n : ℕ) (c : Config) (p : ℕ) (ts : Items) → length text ≡ p + n → Rep text c p → onward false text c p ≡ accepted ts → Line text ts (length text)
  runs_out zero c p ts e h r = let same : p ≡ length text = omega arith in subst (Line text ts) same (ends c p ts (omega arith) h (sym (at_end false text c p (omega arith)) ∙ r))
  runs_out (suc n) c p ts e h r =
      let lt : p < length text = omega arith in
      let g = goes (step c p (get_or text p 0)) p ts (steps c p lt h) (sym (on false text c p lt) ∙ r) in
      runs_out n g.to (p + 1) ts (omega arith) g.rep g.runs

-- what is read without the rules 4 to 8 is a template, and says what was read
pub sound : (text : List ℕ) (ts : Items) → reading false text ≡ accepted ts → Template text ts
sound text ts e = runs_out text (length text) (Config.line Items.none) 0 ts (omega arith) (record { from = 0; lines = Grammar.begin; blanks = every_none blank text 0 (omega arith) }) e
