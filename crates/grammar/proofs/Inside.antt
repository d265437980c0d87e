-- Each step inside an instruction keeps what the configuration says. Assumes nothing.
use Rattle.std.proofs.Common.{◌≡◌, ℕ, zero, suc, ◌+◌, ◌-◌, ◌*◌, ◌<◌, ◌≤◌, Bool, true, false, ◌||◌, eqb, ltb, ◌⊎◌, List, [], ◌∷◌, ◌++◌, length, get_or, Some, None, Option, sym, refl, ap, ◌∙◌, subst, inl, inr, ⊎_elim, arith}
use Rattle.std.proofs.lemmas.Bool.{cond_both, eqb-true, eqb-false}
use Rattle.functions.specs.declared.Signature.{Signature}
use Rattle.keywords.specs.declared.Keyword.{Keyword}
use Rattle.keywords.specs.declared.Keyword.TheVariants as keyword
use Rattle.tokens.specs.declared.operator.Op.{Op}
use Rattle.tokens.specs.declared.operator.Op.TheVariants as op
use Rattle.tokens.specs.declared.operator.Sign.{Sign}
use Rattle.tokens.specs.declared.operator.Half.{Half}
use Rattle.tokens.specs.declared.operator.Half.TheVariants as halved
use Rattle.tokens.specs.declared.byte.Separator.{Separator}
use Rattle.tokens.specs.declared.byte.Separator.TheVariants.{Comma, Semicolon}
use Rattle.tokens.specs.declared.byte.Shape.{Shape}
use Rattle.tokens.specs.declared.byte.Shape.TheVariants.{Round, Square, Curly}
use Rattle.tokens.specs.declared.byte.Start.{Start}
use Rattle.tokens.specs.declared.byte.Start.TheVariants as at
use Rattle.tokens.specs.declared.byte.After.{After}
use Rattle.tokens.specs.declared.byte.After.TheVariants as past
use Rattle.tokens.specs.declared.byte.Class.{Class}
use Rattle.tokens.specs.declared.byte.Class.TheVariants as is
use Rattle.tokens.specs.Bytes.{start, after, class, blank, digit, letter, word, digit_value}
use Rattle.tokens.specs.Operators.{level, sign_byte, doubled}
use Rattle.trees.specs.declared.Constant.{Constant}
use Rattle.trees.specs.declared.Quote.{Quote}
use Rattle.trees.specs.Tree.{Key, Expr, Args, Seq, Opening, Item, Items}
use Rattle.grammar.specs.Rules.{long, room, open_blocks, in_choice, in_block, broken_number, large, arrival, lengthy, wide}
use Rattle.grammar.specs.Machine.{Stack, Bracket, Head, Run, Numbered, Quoted, Digits, Config, step, reduce, pushed, operator, complete, delimits, closes, parts, completes, quotes, afters, nameds, sign, constant, running, pair, dotted, first_digit, wants, hollow, firsts, bares, commands, commanded, worded, assigned, assigns, halves, lasts, numbereds, constant_at, numbers, texts, escapes, joined, quoteds, loop_head, looped}
use Rattle.grammar.specs.Words.{function, keyword_of}
use Rattle.grammar.specs.Grammar
use Rattle.grammar.specs.Grammar.{At, Every, Blanks, part, digit_in, valued, Number, Word, Name, Command, Chars, Written, Spells, Keyed, Listed, Groups, Group, Dots, Says, Body, Begun}
use Rattle.grammar.proofs.Moves.{level_most}
use Rattle.grammar.proofs.Upto.{Counted, one, more, commas_of, Upto, up_show, up_assign, up_if, up_elif, up_while, up_foreach, up_joineach, up_binary, up_signed, up_round, up_square, up_call, up_argument, up_curly, up_group, up_item, Reduced, reduced_all, reduced_by, every_none, every_more, every_one, part_none, part_more, part_one, valued_more, sign_is, round_is, curly_is, quote_is, blank_is, digit_is, letter_is, letter_is_word, dot_is, end_round_is, end_curly_is, after_blank, half_is, part_byte, separator_is, end_byte, end_is, dollar_is, after_quote_is, open_round_is, open_square_is, class_quote, class_backslash, decimal_is, digit_value_lem, hex_mark, escaped_is, written_one}
use Rattle.grammar.proofs.Said.{Hollow, TextClass, key_of, number_of, constant_is, counted_none, TwoItems, counted_two, no_arguments, no_groups, Wanted, Dotting, LastWanted, LastDone, Placed, Based, Digiting, Spelling, Called, Operand, Halfway, Worded, Quoting, Escaping, QuoteDone, Bare, Naming, InPlain, Next, ten, eight, sixteen, late_next, none_yet, none_here}

module _ (text : List ℕ) where
  sign_next : (g : Sign) (k : Stack) (p : ℕ) → At text p (sign_byte g) → Wanted text k p → Next text p (sign p g k)
  sign_next g (Stack.top q h ts) p z w = record { from = p + 1; upto = up_signed w.upto tt w.blanks z; blanks = none_yet text p z.0 }
  sign_next g (Stack.binary q o l k) p z w = record { from = p + 1; upto = up_signed w.upto (omega (arith, level_most o)) w.blanks z; blanks = none_yet text p z.0 }
  sign_next g (Stack.signed q g' k) p z w = tt
  sign_next g (Stack.open' b k) p z w = record { from = p + 1; upto = up_signed w.upto tt w.blanks z; blanks = none_yet text p z.0 }

  -- the first digit
  first_digit_lem : (p : ℕ) → p < length text → digit (get_or text p 0) ≡ true → Digiting text p (first_digit (get_or text p 0)) (p + 1)
  first_digit_lem p lt d =
      cond_both (eqb (get_or text p 0) 48) _ _ (λ g. Digiting text p g (p + 1))
      (λ e. ((lt, eqb-true _ _ e), refl))
      (λ e. let v : get_or text p 0 - 48 ≡ 10 * 0 + digit_value (get_or text p 0) = omega (arith, digit_value_lem (get_or text p 0) d) in ten (omega arith) (eqb-false _ _ e) (every_one digit text p lt d) (v ∙ ap (valued 10 0) (part_one text p lt)))

  -- the first dot after two constants that begin their group
  running_next : (q : ℕ) (s₀ s : Seq) (a b : Expr) (k : Stack) (i j from p : ℕ) (x y : Option Constant) → constant a ≡ x → constant b ≡ y → Upto text (Stack.open' (Bracket.curly q s₀ 0) k) i → TwoItems text s₀ s a b i j → Blanks text j from → At text from 44 → Blanks text (from + 1) p → At text p 46 → Next text p (running q s x y k)
  running_next q s₀ s a b k i j from p (Some x) (Some y) e f u t gap comma bl dot =
      let n = number_of x (constant_is a x e) t.left in
      let m = number_of y (constant_is b y f) t.right in
      record {
        comma = from;
        paired = record {
          begin = i;
          upto = subst (λ s. Upto text (Stack.open' (Bracket.curly q s 0) k) i) t.same u;
          blanks = n.blanks;
          numeral = n.numeral;
          place = t.place;
          gap = subst (λ j. Blanks text j t.place) n.ends t.gap;
          comma = t.comma;
          blanks_next = m.blanks;
          numeral_next = m.numeral;
          gap_next = subst (λ j. Blanks text j from) m.ends gap;
          comma_next = comma;
        };
        place = p;
        gap = bl;
        dot = dot;
        is = refl;
      }
  running_next q s₀ s a b k i j from p (Some x) None e f u t gap comma bl dot = tt
  running_next q s₀ s a b k i j from p None y e f u t gap comma bl dot = tt

  pair_next : (q : ℕ) (s₀ s : Seq) (n : ℕ) (k : Stack) (i j from p : ℕ) → n ≡ 2 → Upto text (Stack.open' (Bracket.curly q s₀ 0) k) i → Counted text n s₀ s i j → Blanks text j from → At text from 44 → Blanks text (from + 1) p → At text p 46 → Next text p (pair q s k)
  pair_next q s₀ Seq.empty n k i j from p e u c gap comma bl dot = tt
  pair_next q s₀ (Seq.item Seq.empty b) n k i j from p e u c gap comma bl dot = tt
  pair_next q s₀ (Seq.item (Seq.item s a) b) n k i j from p e u c gap comma bl dot = running_next q s₀ s a b k i j from p (constant a) (constant b) refl refl u (counted_two s a b c e refl) gap comma bl dot
  pair_next q s₀ (Seq.item (Seq.steps s a b' d) b) n k i j from p e u c gap comma bl dot = tt
  pair_next q s₀ (Seq.steps s a b d) n k i j from p e u c gap comma bl dot = tt

  dotted_next : (k : Stack) (p : ℕ) → Wanted text k p → At text p 46 → Next text p (dotted k)
  dotted_next (Stack.top q h ts) p w z = tt
  dotted_next (Stack.binary q o l k) p w z = tt
  dotted_next (Stack.signed q s k) p w z = tt
  dotted_next (Stack.open' (Bracket.round q) k) p w z = tt
  dotted_next (Stack.open' (Bracket.square i j q) k) p w z = tt
  dotted_next (Stack.open' (Bracket.call i j q f s) k) p w z = tt
  dotted_next (Stack.open' (Bracket.curly q s n) k) p w z = cond_both (eqb n 2) _ _ (Next text p) (λ e. by q s n k w.from w.upto w.blanks (eqb-true _ _ e)) (λ e. tt)
    where
      by : (q : ℕ) (s : Seq) (n : ℕ) (k : Stack) (i : ℕ) → Upto text (Stack.open' (Bracket.curly q s n) k) i → Blanks text i p → n ≡ 2 → Next text p (pair q s k)
      by q s n k i (up_curly u bl a) gap e = absurd (omega arith)
      by q s n k i (up_group u bl a gs bl' a') gap e = absurd (omega arith)
      by q s n k i (up_item {s₀ = s₀} u c bl a) gap e = pair_next q s₀ s n k _ _ _ p e u c bl a gap z

  pub wants_next : (x : Start) (k : Stack) (p : ℕ) → p < length text → start (get_or text p 0) ≡ x → Wanted text k p → Next text p (wants x (get_or text p 0) k p)
  wants_next at.Blank k p lt e w = record { from = w.from; upto = w.upto; blanks = every_more blank text w.from p w.blanks lt (blank_is (get_or text p 0) e) }
  wants_next at.Digit k p lt e w = (w, first_digit_lem p lt (digit_is (get_or text p 0) e))
  wants_next at.Letter k p lt e w = (w, record { some = omega arith; first = letter_is (get_or text p 0) e; words = every_one word text p lt (letter_is_word (get_or text p 0) (letter_is (get_or text p 0) e)); is = part_one text p lt })
  wants_next at.Quote k p lt e w = record { told = w; quote = (lt, quote_is (get_or text p 0) e); chars = Grammar.none }
  wants_next (at.Sign g) k p lt e w = sign_next g k p (lt, sign_is (get_or text p 0) g e) w
  wants_next at.Round k p lt e w = record { from = p + 1; upto = up_round w.upto w.blanks (lt, round_is (get_or text p 0) e); blanks = none_yet text p lt }
  wants_next at.Curly k p lt e w = (record { from = p + 1; upto = up_curly w.upto w.blanks (lt, curly_is (get_or text p 0) e); blanks = none_yet text p lt }, tt)
  wants_next at.EndRound k p lt e w = tt
  wants_next at.EndCurly k p lt e w = tt
  wants_next at.Dot k p lt e w = dotted_next k p w (lt, dot_is (get_or text p 0) e)
  wants_next at.Other k p lt e w = tt

  -- what a call has read up to j
  record CallRow (x y c : ℕ) (f : Option Signature) (k : Stack) (s : Args) (j : ℕ) : Type 0 where
    from : ℕ
    upto : Upto text k from
    blanks : Blanks text from x
    name : Name text x y
    gap : Blanks text y c
    sign : At text c 40
    is : f ≡ function (part text x y)
    row : Listed text s (c + 1) j

  call_row : (x y c : ℕ) (f : Option Signature) (k : Stack) (s : Args) (i j p : ℕ) (t : Expr) → Upto text (Stack.open' (Bracket.call x y c f s) k) i → Spells text 1 t i j → Blanks text j p → CallRow x y c f k (Args.argument s t) p
  call_row x y c f k s i j p t (up_call u bl n gap a is) sp end = record { from = _; upto = u; blanks = bl; name = n; gap = gap; sign = a; is = is; row = Grammar.arguments (Grammar.argument sp) end }
  call_row x y c f k s i j p t (up_argument u bl n gap a is r bl' a') sp end = record { from = _; upto = u; blanks = bl; name = n; gap = gap; sign = a; is = is; row = Grammar.arguments (Grammar.and_argument r bl' a' sp) end }

  call_more : (x y c : ℕ) (f : Option Signature) (k : Stack) (s : Args) (i j p : ℕ) (t : Expr) → Upto text (Stack.open' (Bracket.call x y c f s) k) i → Spells text 1 t i j → Blanks text j p → At text p 44 → Upto text (Stack.open' (Bracket.call x y c f (Args.argument s t)) k) (p + 1)
  call_more x y c f k s i j p t (up_call u bl n gap a is) sp end z = up_argument u bl n gap a is (Grammar.argument sp) end z
  call_more x y c f k s i j p t (up_argument u bl n gap a is r bl' a') sp end z = up_argument u bl n gap a is (Grammar.and_argument r bl' a' sp) end z

  call_none : (x y c : ℕ) (f : Option Signature) (k : Stack) (i p : ℕ) → Upto text (Stack.open' (Bracket.call x y c f Args.nullary) k) i → Blanks text i p → CallRow x y c f k Args.nullary p
  call_none x y c f k i p (up_call u bl n gap a is) end = record { from = _; upto = u; blanks = bl; name = n; gap = gap; sign = a; is = is; row = Grammar.no_arguments end }
  call_none x y c f k i p (up_argument u bl n gap a is r bl' a') end = absurd (no_arguments r refl)

  call_spells : (x y c : ℕ) (f : Option Signature) (k : Stack) (s : Args) (p : ℕ) → CallRow x y c f k s p → At text p 41 → Operand text (Expr.call x y c f s p) k (p + 1)
  call_spells x y c f k s p r z =
      record {
        from = r.from;
        upto = r.upto;
        to = p + 1;
        spells = subst (λ f. Spells text 12 (Expr.call x y c f s p) r.from (p + 1)) (sym r.is) (Grammar.call r.blanks r.name r.gap r.sign r.row z);
        gap = none_yet text p z.0;
      }

  -- what a list has read up to j
  record ListRow (q : ℕ) (k : Stack) (s : Seq) (j : ℕ) : Type 0 where
    from : ℕ
    upto : Upto text k from
    blanks : Blanks text from q
    sign : At text q 123
    groups : Groups text s (q + 1) j

  list_row : (q : ℕ) (k : Stack) (s₀ s : Seq) (n i j : ℕ) → n ≡ 0 → Upto text (Stack.open' (Bracket.curly q s₀ n) k) i → Group text s₀ s i j → ListRow q k s j
  list_row q k s₀ s n i j e (up_curly u bl a) g = record { from = _; upto = u; blanks = bl; sign = a; groups = Grammar.group g }
  list_row q k s₀ s n i j e (up_group u bl a gs bl' a') g = record { from = _; upto = u; blanks = bl; sign = a; groups = Grammar.and_group gs bl' a' g }
  list_row q k s₀ s n i j e (up_item u c bl a) g = absurd (counted_none c e)

  record ListGroup (q : ℕ) (k : Stack) (n : ℕ) (s : Seq) (j : ℕ) : Type 0 where
    before : Seq
    begin : ℕ
    upto : Upto text (Stack.open' (Bracket.curly q before 0) k) begin
    counted : Counted text n before s begin j

  list_group : (q : ℕ) (k : Stack) (s : Seq) (n i j : ℕ) (t : Expr) → Upto text (Stack.open' (Bracket.curly q s n) k) i → Spells text 1 t i j → ListGroup q k (suc n) (Seq.item s t) j
  list_group q k s n i j t (up_curly u bl a) sp = record { before = Seq.empty; begin = _; upto = up_curly u bl a; counted = one sp }
  list_group q k s n i j t (up_group u bl a gs bl' a') sp = record { before = s; begin = _; upto = up_group u bl a gs bl' a'; counted = one sp }
  list_group q k s n i j t (up_item u c bl a) sp = record { before = _; begin = _; upto = u; counted = more c bl a sp }

  group_row : (q : ℕ) (k : Stack) (n : ℕ) (s : Seq) (j : ℕ) → ListGroup q k n s j → ListRow q k s j
  group_row q k n s j g = list_row q k g.before s 0 g.begin j refl g.upto (Grammar.expressions (commas_of g.counted))

  list_ends : (q : ℕ) (k : Stack) (s : Seq) (j p : ℕ) → ListRow q k s j → Blanks text j p → At text p 125 → Operand text (Expr.list q s) k (p + 1)
  list_ends q k s j p r bl z = record { from = r.from; upto = r.upto; to = p + 1; spells = Grammar.list r.blanks r.sign (Grammar.items r.groups bl) z; gap = none_yet text p z.0 }

  list_parts : (q : ℕ) (k : Stack) (s : Seq) (j p : ℕ) → ListRow q k s j → Blanks text j p → At text p 59 → Wanted text (Stack.open' (Bracket.curly q s 0) k) (p + 1)
  list_parts q k s j p r bl z = record { from = p + 1; upto = up_group r.upto r.blanks r.sign r.groups bl z; blanks = none_yet text p z.0 }

  list_none : (q : ℕ) (k : Stack) (n i p : ℕ) → n ≡ 0 → Upto text (Stack.open' (Bracket.curly q Seq.empty n) k) i → Blanks text i p → At text p 125 → Operand text (Expr.list q Seq.empty) k (p + 1)
  list_none q k n i p e (up_curly u bl a) end z = record { from = _; upto = u; to = p + 1; spells = Grammar.list bl a (Grammar.no_items end) z; gap = none_yet text p z.0 }
  list_none q k n i p e (up_group u bl a gs bl' a') end z = absurd (no_groups gs refl)
  list_none q k n i p e (up_item u c bl a) end z = absurd (counted_none c e)

  -- a bracket that closes at p
  round_ends : (q : ℕ) (k : Stack) (t : Expr) (i j p : ℕ) → Upto text (Stack.open' (Bracket.round q) k) i → Spells text 1 t i j → Blanks text j p → At text p 41 → Operand text (Expr.round q t) k (p + 1)
  round_ends q k t i j p (up_round u bl a) s end z = record { from = _; upto = u; to = p + 1; spells = Grammar.round bl a s end z; gap = none_yet text p z.0 }

  square_ends : (x y q : ℕ) (k : Stack) (t : Expr) (i j p : ℕ) → Upto text (Stack.open' (Bracket.square x y q) k) i → Spells text 1 t i j → Blanks text j p → At text p 93 → Operand text (Expr.key (Key.index x y q t)) k (p + 1)
  square_ends x y q k t i j p (up_square u bl n gap a) s end z = record { from = _; upto = u; to = p + 1; spells = Grammar.key (Grammar.numbered bl n gap a s end z); gap = none_yet text p z.0 }

  closes_next : (g : Shape) (r : Expr × Stack) (j p : ℕ) → Reduced text 1 r j → Blanks text j p → At text p (end_byte g) → Next text p (closes g p r)
  closes_next g (t, Stack.top q h ts) j p r bl z = tt
  closes_next g (t, Stack.binary q o l k) j p r bl z = tt
  closes_next g (t, Stack.signed q s k) j p r bl z = tt
  closes_next Round (t, Stack.open' (Bracket.round q) k) j p r bl z = round_ends q k t r.from j p r.upto r.spells bl z
  closes_next Round (t, Stack.open' (Bracket.square x y q) k) j p r bl z = tt
  closes_next Round (t, Stack.open' (Bracket.call x y q f s) k) j p r bl z = call_spells x y q f k (Args.argument s t) p (call_row x y q f k s r.from j p t r.upto r.spells bl) z
  closes_next Round (t, Stack.open' (Bracket.curly q s n) k) j p r bl z = tt
  closes_next Square (t, Stack.open' (Bracket.round q) k) j p r bl z = tt
  closes_next Square (t, Stack.open' (Bracket.square x y q) k) j p r bl z = square_ends x y q k t r.from j p r.upto r.spells bl z
  closes_next Square (t, Stack.open' (Bracket.call x y q f s) k) j p r bl z = tt
  closes_next Square (t, Stack.open' (Bracket.curly q s n) k) j p r bl z = tt
  closes_next Curly (t, Stack.open' (Bracket.round q) k) j p r bl z = tt
  closes_next Curly (t, Stack.open' (Bracket.square x y q) k) j p r bl z = tt
  closes_next Curly (t, Stack.open' (Bracket.call x y q f s) k) j p r bl z = tt
  closes_next Curly (t, Stack.open' (Bracket.curly q s n) k) j p r bl z = list_ends q k (Seq.item s t) j p (group_row q k (suc n) (Seq.item s t) j (list_group q k s n r.from j t r.upto r.spells)) bl z

  parts_next : (c : Separator) (r : Expr × Stack) (j p : ℕ) → Reduced text 1 r j → Blanks text j p → At text p (part_byte c) → Next text p (parts c r)
  parts_next c (t, Stack.top q h ts) j p r bl z = tt
  parts_next c (t, Stack.binary q o l k) j p r bl z = tt
  parts_next c (t, Stack.signed q s k) j p r bl z = tt
  parts_next c (t, Stack.open' (Bracket.round q) k) j p r bl z = tt
  parts_next c (t, Stack.open' (Bracket.square x y q) k) j p r bl z = tt
  parts_next Comma (t, Stack.open' (Bracket.call x y q f s) k) j p r bl z = record { from = p + 1; upto = call_more x y q f k s r.from j p t r.upto r.spells bl z; blanks = none_yet text p z.0 }
  parts_next Semicolon (t, Stack.open' (Bracket.call x y q f s) k) j p r bl z = tt
  parts_next Comma (t, Stack.open' (Bracket.curly q s n) k) j p r bl z =
      let g = list_group q k s n r.from j t r.upto r.spells in
      record { from = p + 1; upto = up_item g.upto g.counted bl z; blanks = none_yet text p z.0 }
  parts_next Semicolon (t, Stack.open' (Bracket.curly q s n) k) j p r bl z = list_parts q k (Seq.item s t) j p (group_row q k (suc n) (Seq.item s t) j (list_group q k s n r.from j t r.upto r.spells)) bl z

  pub new_plain : (ts : Items) (p : ℕ) → p ≤ length text → Body text ts p → InPlain text p ts p
  new_plain ts p inside b = record { begun = Grammar.inside b; onwards = omega arith; inside = inside; all = λ q a b. absurd (omega arith); shut = λ e. b }

  -- an instruction from q whose closing `$` stands at p
  instructed : (ts : Items) (t : Item) (q p : ℕ) → Begun text ts q → At text q 36 → Says text t q p → At text p 36 → InPlain text (p + 1) (Items.then ts t) (p + 1)
  instructed ts t q p b d s z = new_plain (Items.then ts t) (p + 1) (omega (arith, z.0)) (Grammar.instruction b d s z)

  complete_next : (h : Head) (q : ℕ) (ts : Items) (t : Expr) (i j p : ℕ) → Upto text (Stack.top q h ts) i → Spells text 1 t i j → Blanks text j p → At text p 36 → Next text p (complete p q h t ts)
  complete_next Head.show q ts t i j p (up_show b d) s bl z = instructed ts (Item.show q t) q p b d (Grammar.show s bl) z
  complete_next (Head.assign c) q ts t i j p (up_assign b d k gap a) s bl z = instructed ts (Item.assign q c t) q p b d (Grammar.assign k gap a s bl) z
  complete_next (Head.if x) q ts t i j p (up_if b d gap c) s bl z = instructed ts (Item.opens q x (Opening.if t)) q p b d (Grammar.if gap c s bl) z
  complete_next (Head.elif x) q ts t i j p (up_elif b d gap c) s bl z = instructed ts (Item.elif q x t) q p b d (Grammar.elif gap c s bl) z
  complete_next (Head.while x) q ts t i j p (up_while b d gap c) s bl z = instructed ts (Item.opens q x (Opening.while t)) q p b d (Grammar.while gap c s bl) z
  complete_next (Head.foreach x y e) q ts t i j p (up_foreach b d gap c gap' n) s bl z = instructed ts (Item.opens q x (Opening.foreach y e t)) q p b d (Grammar.foreach gap c gap' n s bl) z
  complete_next (Head.joineach x y e) q ts t i j p u s bl z = tt

  delimits_next : (h : Head) (q : ℕ) (ts : Items) (t : Expr) (i j p : ℕ) → Upto text (Stack.top q h ts) i → Spells text 1 t i j → Blanks text j p → At text p 34 → Next text p (delimits p q h t ts)
  delimits_next Head.show q ts t i j p u s bl z = tt
  delimits_next (Head.assign c) q ts t i j p u s bl z = tt
  delimits_next (Head.if x) q ts t i j p u s bl z = tt
  delimits_next (Head.elif x) q ts t i j p u s bl z = tt
  delimits_next (Head.while x) q ts t i j p u s bl z = tt
  delimits_next (Head.foreach x y e) q ts t i j p u s bl z = tt
  delimits_next (Head.joineach x y e) q ts t i j p (up_joineach b d gap c gap' n) s bl z =
      record { told = record { worded = record { begun = b; dollar = d; from = _; blanks = gap; command = c }; blanks = gap'; name = n; end = j; spells = s; gap = bl }; quote = z; chars = Grammar.none }

  completes_next : (r : Expr × Stack) (j p : ℕ) → Reduced text 1 r j → Blanks text j p → At text p 36 → Next text p (completes p r)
  completes_next (t, Stack.top q h ts) j p r bl z = complete_next h q ts t r.from j p r.upto r.spells bl z
  completes_next (t, Stack.binary q o l k) j p r bl z = tt
  completes_next (t, Stack.signed q s k) j p r bl z = tt
  completes_next (t, Stack.open' b k) j p r bl z = tt

  quotes_next : (r : Expr × Stack) (j p : ℕ) → Reduced text 1 r j → Blanks text j p → At text p 34 → Next text p (quotes p r)
  quotes_next (t, Stack.top q h ts) j p r bl z = delimits_next h q ts t r.from j p r.upto r.spells bl z
  quotes_next (t, Stack.binary q o l k) j p r bl z = tt
  quotes_next (t, Stack.signed q s k) j p r bl z = tt
  quotes_next (t, Stack.open' b k) j p r bl z = tt

  -- an operator at q after an operand
  pushed_upto : (q : ℕ) (o : Op) (r : Expr × Stack) (j c : ℕ) → Reduced text (level o) r j → Blanks text j q → Written text o q c → Upto text (pushed q o r) c
  pushed_upto q o (t, k) j c h bl w = up_binary h.upto h.below h.spells bl w

  operated : (q : ℕ) (o : Op) (t : Expr) (k : Stack) (c : ℕ) → Operand text t k q → Written text o q c → Upto text (pushed q o (reduce (level o) t k)) c
  operated q o t k c h w = pushed_upto q o (reduce (level o) t k) h.to c (reduced_by text o t k h.from h.to h.upto h.spells) h.gap w

  pub afters_next : (x : After) (t : Expr) (k : Stack) (p : ℕ) → p < length text → after (get_or text p 0) ≡ x → Operand text t k p → Next text p (afters x t k p)
  afters_next past.Blank t k p lt e h = record { from = h.from; upto = h.upto; to = h.to; spells = h.spells; gap = every_more blank text h.to p h.gap lt (after_blank (get_or text p 0) e) }
  afters_next (past.Single o) t k p lt e h = record { from = p + 1; upto = operated p o t k (p + 1) h (written_one text p o lt e); blanks = none_yet text p lt }
  afters_next (past.Double g) t k p lt e h = record { operand = h; sign = (lt, half_is (get_or text p 0) g e); is = refl }
  afters_next (past.Separator c) t k p lt e h = parts_next c (reduce 0 t k) h.to p (reduced_all text t k h.from h.to h.upto h.spells) h.gap (lt, separator_is (get_or text p 0) c e)
  afters_next past.Round t k p lt e h = tt
  afters_next past.Square t k p lt e h = tt
  afters_next (past.End g) t k p lt e h = closes_next g (reduce 0 t k) h.to p (reduced_all text t k h.from h.to h.upto h.spells) h.gap (lt, end_is (get_or text p 0) g e)
  afters_next past.Dollar t k p lt e h = completes_next (reduce 0 t k) h.to p (reduced_all text t k h.from h.to h.upto h.spells) h.gap (lt, dollar_is (get_or text p 0) e)
  afters_next past.Quote t k p lt e h = quotes_next (reduce 0 t k) h.to p (reduced_all text t k h.from h.to h.upto h.spells) h.gap (lt, after_quote_is (get_or text p 0) e)
  afters_next past.Other t k p lt e h = tt

  -- a name alone is an operand
  named_operand : (i j : ℕ) (w : List ℕ) (k : Stack) (p : ℕ) → Called text i j w k p → Operand text (Expr.key (Key.name i j)) k p
  named_operand i j w k p n = record { from = n.wanted.from; upto = n.wanted.upto; to = j; spells = Grammar.key (Keyed.plain n.wanted.blanks n.name); gap = n.gap }

  pub nameds_next : (x : After) (i j : ℕ) (w : List ℕ) (k : Stack) (p : ℕ) → p < length text → after (get_or text p 0) ≡ x → Called text i j w k p → Next text p (nameds x i j w k p)
  nameds_next past.Blank i j w k p lt e n = record { wanted = n.wanted; name = n.name; is = n.is; gap = every_more blank text j p n.gap lt (after_blank (get_or text p 0) e) }
  nameds_next (past.Single o) i j w k p lt e n = afters_next (past.Single o) (Expr.key (Key.name i j)) k p lt e (named_operand i j w k p n)
  nameds_next (past.Double h) i j w k p lt e n = afters_next (past.Double h) (Expr.key (Key.name i j)) k p lt e (named_operand i j w k p n)
  nameds_next (past.Separator c) i j w k p lt e n = afters_next (past.Separator c) (Expr.key (Key.name i j)) k p lt e (named_operand i j w k p n)
  nameds_next past.Round i j w k p lt e n = (record { from = p + 1; upto = up_call n.wanted.upto n.wanted.blanks n.name n.gap (lt, open_round_is (get_or text p 0) e) (ap function n.is); blanks = none_yet text p lt }, tt)
  nameds_next past.Square i j w k p lt e n = record { from = p + 1; upto = up_square n.wanted.upto n.wanted.blanks n.name n.gap (lt, open_square_is (get_or text p 0) e); blanks = none_yet text p lt }
  nameds_next (past.End s) i j w k p lt e n = afters_next (past.End s) (Expr.key (Key.name i j)) k p lt e (named_operand i j w k p n)
  nameds_next past.Dollar i j w k p lt e n = afters_next past.Dollar (Expr.key (Key.name i j)) k p lt e (named_operand i j w k p n)
  nameds_next past.Quote i j w k p lt e n = afters_next past.Quote (Expr.key (Key.name i j)) k p lt e (named_operand i j w k p n)
  nameds_next past.Other i j w k p lt e n = tt

  hollow_next : (g : Shape) (k : Stack) (p : ℕ) → At text p (end_byte g) → Wanted text k p → Hollow k → Next text p (hollow g k p)
  hollow_next g (Stack.top q h ts) p z w e = tt
  hollow_next g (Stack.binary q o l k) p z w e = tt
  hollow_next g (Stack.signed q s k) p z w e = tt
  hollow_next g (Stack.open' (Bracket.round q) k) p z w e = tt
  hollow_next g (Stack.open' (Bracket.square i j q) k) p z w e = tt
  hollow_next Round (Stack.open' (Bracket.call x y q f Args.nullary) k) p z w e = call_spells x y q f k Args.nullary p (call_none x y q f k w.from p w.upto w.blanks) z
  hollow_next Round (Stack.open' (Bracket.call x y q f (Args.argument s t)) k) p z w e = absurd e
  hollow_next Square (Stack.open' (Bracket.call x y q f s) k) p z w e = tt
  hollow_next Curly (Stack.open' (Bracket.call x y q f s) k) p z w e = tt
  hollow_next Round (Stack.open' (Bracket.curly q s n) k) p z w e = tt
  hollow_next Square (Stack.open' (Bracket.curly q s n) k) p z w e = tt
  hollow_next Curly (Stack.open' (Bracket.curly q Seq.empty zero) k) p z w e = list_none q k 0 w.from p refl w.upto w.blanks z
  hollow_next Curly (Stack.open' (Bracket.curly q Seq.empty (suc n)) k) p z w e = absurd e
  hollow_next Curly (Stack.open' (Bracket.curly q (Seq.item s t) n) k) p z w e = absurd e
  hollow_next Curly (Stack.open' (Bracket.curly q (Seq.steps s a b c) n) k) p z w e = absurd e

  pub firsts_next : (x : Start) (k : Stack) (p : ℕ) → p < length text → start (get_or text p 0) ≡ x → Wanted text k p → Hollow k → Next text p (firsts x (get_or text p 0) k p)
  firsts_next at.Blank k p lt e w h = (record { from = w.from; upto = w.upto; blanks = every_more blank text w.from p w.blanks lt (blank_is (get_or text p 0) e) }, h)
  firsts_next at.Digit k p lt e w h = wants_next at.Digit k p lt e w
  firsts_next at.Letter k p lt e w h = wants_next at.Letter k p lt e w
  firsts_next at.Quote k p lt e w h = wants_next at.Quote k p lt e w
  firsts_next (at.Sign g) k p lt e w h = wants_next (at.Sign g) k p lt e w
  firsts_next at.Round k p lt e w h = wants_next at.Round k p lt e w
  firsts_next at.Curly k p lt e w h = wants_next at.Curly k p lt e w
  firsts_next at.EndRound k p lt e w h = hollow_next Round k p (lt, end_round_is (get_or text p 0) e) w h
  firsts_next at.EndCurly k p lt e w h = hollow_next Curly k p (lt, end_curly_is (get_or text p 0) e) w h
  firsts_next at.Dot k p lt e w h = wants_next at.Dot k p lt e w
  firsts_next at.Other k p lt e w h = tt

  -- an operator of one byte at q, and then the byte at p
  alone_next : (q : ℕ) (o : Op) (t : Expr) (k : Stack) (p : ℕ) → p < length text → Operand text t k q → Written text o q p → Next text p (wants (start (get_or text p 0)) (get_or text p 0) (pushed q o (reduce (level o) t k)) p)
  alone_next q o t k p lt h w = wants_next (start (get_or text p 0)) (pushed q o (reduce (level o) t k)) p lt refl (record { from = p; upto = operated q o t k p h w; blanks = none_here text p lt })

  -- an operator of two bytes, the second at p
  double_next : (q : ℕ) (o : Op) (t : Expr) (k : Stack) (p : ℕ) → p < length text → Operand text t k q → Written text o q (p + 1) → Next text p (operator q o t k)
  double_next q o t k p lt h w = record { from = p + 1; upto = operated q o t k (p + 1) h w; blanks = none_yet text p lt }

  two : (b c q p : ℕ) → p < length text → At text q b → p ≡ q + 1 → eqb (get_or text p 0) c ≡ true → At text q b × At text (q + 1) c × (p + 1 ≡ q + 2)
  two b c q p lt a is e = (a, subst (λ x. At text x c) is (lt, eqb-true _ _ e), omega arith)

  -- `=` at q after a key that begins the instruction
  assigned_next : (c : Key) (k : Stack) (q p : ℕ) → p < length text → Operand text (Expr.key c) k q → At text q 61 → p ≡ q + 1 → Next text p (assigned c k (get_or text p 0) p)
  assigned_next c (Stack.top x Head.show ts) q p lt h z is = by h.from h.upto h.spells
    where
      by : (i : ℕ) → Upto text (Stack.top x Head.show ts) i → Spells text 12 (Expr.key c) i h.to → Next text p (wants (start (get_or text p 0)) (get_or text p 0) (Stack.top x (Head.assign c) ts) p)
      by i (up_show b d) s =
          wants_next (start (get_or text p 0)) (Stack.top x (Head.assign c) ts) p lt refl
          (record { from = p; upto = subst (Upto text (Stack.top x (Head.assign c) ts)) (sym is) (up_assign b d (key_of c refl s) h.gap z); blanks = none_here text p lt })
  assigned_next c (Stack.top x (Head.assign k) ts) q p lt h z is = tt
  assigned_next c (Stack.top x (Head.if j) ts) q p lt h z is = tt
  assigned_next c (Stack.top x (Head.elif j) ts) q p lt h z is = tt
  assigned_next c (Stack.top x (Head.while j) ts) q p lt h z is = tt
  assigned_next c (Stack.top x (Head.foreach j a b) ts) q p lt h z is = tt
  assigned_next c (Stack.top x (Head.joineach j a b) ts) q p lt h z is = tt
  assigned_next c (Stack.binary x o l k) q p lt h z is = tt
  assigned_next c (Stack.signed x s k) q p lt h z is = tt
  assigned_next c (Stack.open' b k) q p lt h z is = tt

  assigns_next : (t : Expr) (k : Stack) (q p : ℕ) → p < length text → Operand text t k q → At text q 61 → p ≡ q + 1 → Next text p (assigns t k (get_or text p 0) p)
  assigns_next (Expr.number c) k q p lt h z is = tt
  assigns_next (Expr.text t) k q p lt h z is = tt
  assigns_next (Expr.key c) k q p lt h z is = assigned_next c k q p lt h z is
  assigns_next (Expr.call i j x f s e) k q p lt h z is = tt
  assigns_next (Expr.list x s) k q p lt h z is = tt
  assigns_next (Expr.round x e) k q p lt h z is = tt
  assigns_next (Expr.signed x s e) k q p lt h z is = tt
  assigns_next (Expr.binary x o l r) k q p lt h z is = tt

  pub halves_next : (h : Half) (q : ℕ) (t : Expr) (k : Stack) (p : ℕ) → p < length text → Halfway text q h t k p → Next text p (halves (doubled h (get_or text p 0)) h q t k (get_or text p 0) p)
  halves_next halved.Bar q t k p lt w =
      cond_both (eqb (get_or text p 0) 124) _ _ (λ x. Next text p (halves x halved.Bar q t k (get_or text p 0) p))
      (λ e. double_next q op.Or t k p lt w.operand (two 124 124 q p lt w.sign w.is e))
      (λ e. alone_next q op.BitOr t k p lt w.operand (w.sign, w.is))
  halves_next halved.Ampersand q t k p lt w =
      cond_both (eqb (get_or text p 0) 38) _ _ (λ x. Next text p (halves x halved.Ampersand q t k (get_or text p 0) p))
      (λ e. double_next q op.And t k p lt w.operand (two 38 38 q p lt w.sign w.is e))
      (λ e. alone_next q op.BitAnd t k p lt w.operand (w.sign, w.is))
  halves_next halved.Equals q t k p lt w =
      cond_both (eqb (get_or text p 0) 61) _ _ (λ x. Next text p (halves x halved.Equals q t k (get_or text p 0) p))
      (λ e. double_next q op.Equal t k p lt w.operand (two 61 61 q p lt w.sign w.is e))
      (λ e. assigns_next t k q p lt w.operand w.sign w.is)
  halves_next halved.Bang q t k p lt w =
      cond_both (eqb (get_or text p 0) 61) _ _ (λ x. Next text p (halves x halved.Bang q t k (get_or text p 0) p))
      (λ e. double_next q op.Unequal t k p lt w.operand (two 33 61 q p lt w.sign w.is e))
      (λ e. tt)
  halves_next halved.Less q t k p lt w =
      cond_both (eqb (get_or text p 0) 61) _ _ (λ x. Next text p (halves x halved.Less q t k (get_or text p 0) p))
      (λ e. double_next q op.LessEqual t k p lt w.operand (two 60 61 q p lt w.sign w.is e))
      (λ e. cond_both (eqb (get_or text p 0) 60) _ _ (λ x. Next text p (halves x halved.Less q t k (get_or text p 0) p))
      (λ e. double_next q op.ShiftLeft t k p lt w.operand (two 60 60 q p lt w.sign w.is e))
      (λ e. alone_next q op.Less t k p lt w.operand (w.sign, w.is)))
  halves_next halved.Greater q t k p lt w =
      cond_both (eqb (get_or text p 0) 61) _ _ (λ x. Next text p (halves x halved.Greater q t k (get_or text p 0) p))
      (λ e. double_next q op.GreaterEqual t k p lt w.operand (two 62 61 q p lt w.sign w.is e))
      (λ e. cond_both (eqb (get_or text p 0) 62) _ _ (λ x. Next text p (halves x halved.Greater q t k (get_or text p 0) p))
      (λ e. double_next q op.ShiftRight t k p lt w.operand (two 62 62 q p lt w.sign w.is e))
      (λ e. alone_next q op.Greater t k p lt w.operand (w.sign, w.is)))

  -- a sequence
  pub lasts_next : (x : After) (c : Constant) (r : Run) (p : ℕ) → p < length text → after (get_or text p 0) ≡ x → LastDone text c r p → Next text p (lasts x c r)
  lasts_next past.Blank c r p lt e h = record { begin = h.begin; upto = h.upto; group = h.group; gap = every_more blank text c.span.to p h.gap lt (after_blank (get_or text p 0) e) }
  lasts_next (past.Single o) c r p lt e h = tt
  lasts_next (past.Double g) c r p lt e h = tt
  lasts_next (past.Separator Comma) c r p lt e h = tt
  lasts_next (past.Separator Semicolon) c r p lt e h =
      list_parts r.place r.stack (Seq.steps r.items r.first r.second c) c.span.to p
      (list_row r.place r.stack r.items (Seq.steps r.items r.first r.second c) 0 h.begin c.span.to refl h.upto h.group) h.gap (lt, separator_is (get_or text p 0) Semicolon e)
  lasts_next past.Round c r p lt e h = tt
  lasts_next past.Square c r p lt e h = tt
  lasts_next (past.End Round) c r p lt e h = tt
  lasts_next (past.End Square) c r p lt e h = tt
  lasts_next (past.End Curly) c r p lt e h =
      list_ends r.place r.stack (Seq.steps r.items r.first r.second c) c.span.to p
      (list_row r.place r.stack r.items (Seq.steps r.items r.first r.second c) 0 h.begin c.span.to refl h.upto h.group) h.gap (lt, end_is (get_or text p 0) Curly e)
  lasts_next past.Dollar c r p lt e h = tt
  lasts_next past.Quote c r p lt e h = tt
  lasts_next past.Other c r p lt e h = tt

  last_done : (i p v : ℕ) (r : Run) → p < length text → LastWanted text r i → Number text i p v → LastDone text (constant_at i p v) r p
  last_done i p v r lt h n =
      let a = h.paired in
      record {
        begin = a.begin;
        upto = a.upto;
        group = Grammar.sequence r.first r.second (constant_at i p v) a.blanks a.numeral a.gap a.comma a.blanks_next a.numeral_next a.gap_next a.comma_next h.dots h.comma_last h.blanks n;
        gap = none_here text p lt;
      }

  -- a number constant that ends before p
  numbereds_next : (g : Numbered) (i p v : ℕ) → p < length text → Placed text g i → Number text i p v → Next text p (numbereds g (constant_at i p v) (get_or text p 0) p)
  numbereds_next (Numbered.operand k) i p v lt w n =
      late_next text p (broken_number (constant_at i p v)) (afters (after (get_or text p 0)) (Expr.number (constant_at i p v)) k p)
      (afters_next (after (get_or text p 0)) (Expr.number (constant_at i p v)) k p lt refl
      (record { from = w.from; upto = w.upto; to = p; spells = Grammar.number (constant_at i p v) w.blanks n; gap = none_here text p lt }))
  numbereds_next (Numbered.last r) i p v lt w n =
      late_next text p (large (constant_at i p v) ++ arrival r.first r.second (constant_at i p v) ++ lengthy (constant_at i p v)) (lasts (after (get_or text p 0)) (constant_at i p v) r)
      (lasts_next (after (get_or text p 0)) (constant_at i p v) r p lt refl (last_done i p v r lt w n))

  based_number : (i n v p : ℕ) → Based text i n v p → Number text i p v
  based_number i n v p (ten some nz all e) = subst (Number text i p) (sym e) (Grammar.decimal some nz all)
  based_number i n v p (eight z some all e) = subst (Number text i p) (sym e) (Grammar.octal z some all)
  based_number i n v p (sixteen z m some all e) = subst (Number text i p) (sym e) (Grammar.hexadecimal z m some all)

  value_more : (n v i p : ℕ) → p < length text → i ≤ p → v ≡ valued n 0 (part text i p) → n * v + digit_value (get_or text p 0) ≡ valued n 0 (part text i (p + 1))
  value_more n v i p lt le e = ap (λ v. n * v + digit_value (get_or text p 0)) e ∙ sym (valued_more n 0 (part text i p) (get_or text p 0)) ∙ ap (valued n 0) (sym (part_more text i p le lt))

  based_more : (i n v p : ℕ) → p < length text → digit_in n (get_or text p 0) ≡ true → Based text i n v p → Based text i n (n * v + digit_value (get_or text p 0)) (p + 1)
  based_more i n v p lt d (ten some nz all e) = ten (omega arith) nz (every_more digit text i p all lt (decimal_is (get_or text p 0) d)) (value_more 10 v i p lt all.onwards e)
  based_more i n v p lt d (eight z some all e) = eight z (omega arith) (every_more (digit_in 8) text (i + 1) p all lt d) (value_more 8 v (i + 1) p lt all.onwards e)
  based_more i n v p lt d (sixteen z m some all e) = sixteen z m (omega arith) (every_more (digit_in 16) text (i + 2) p all lt d) (value_more 16 v (i + 2) p lt all.onwards e)

  value_first : (n p : ℕ) → p < length text → digit_value (get_or text p 0) ≡ valued n 0 (part text p (p + 1))
  value_first n p lt = let v : digit_value (get_or text p 0) ≡ n * 0 + digit_value (get_or text p 0) = omega arith in v ∙ ap (valued n 0) (part_one text p lt)

  pub numbers_next : (n : Digits) (i : ℕ) (g : Numbered) (p : ℕ) → p < length text → Placed text g i → Digiting text i n p → Next text p (numbers n i g (get_or text p 0) p)
  numbers_next Digits.nought i g p lt w h =
      cond_both (eqb (get_or text p 0) 120 || eqb (get_or text p 0) 88) _ _ (Next text p)
      (λ e. (w, record { zero_first = h.0; mark = ⊎_elim (λ x. inl (subst (λ q. At text q 120) h.1 (lt, x))) (λ x. inr (subst (λ q. At text q 88) h.1 (lt, x))) (hex_mark (get_or text p 0) e); is = omega (arith, h.1) }))
      (λ e. cond_both (ltb (digit_value (get_or text p 0)) 8) _ _ (Next text p)
      (λ d. (w, eight h.0 (omega (arith, h.1)) (subst (λ q. Every (digit_in 8) text q (p + 1)) h.1 (every_one (digit_in 8) text p lt d)) (value_first 8 p lt ∙ ap (λ q. valued 8 0 (part text q (p + 1))) h.1)))
      (λ d. numbereds_next g i p 0 lt w
      (subst (Number text i p) (ap (λ q. valued 8 0 (part text q p)) (sym h.1) ∙ ap (valued 8 0) (part_none text p))
      (Grammar.octal h.0 (omega (arith, h.1)) (subst (λ q. Every (digit_in 8) text q p) h.1 (every_none (digit_in 8) text p (omega arith)))))))
  numbers_next Digits.prefix i g p lt w h =
      cond_both (ltb (digit_value (get_or text p 0)) 16) _ _ (Next text p)
      (λ d. (w, sixteen h.zero_first h.mark (omega (arith, h.is)) (subst (λ q. Every (digit_in 16) text q (p + 1)) h.is (every_one (digit_in 16) text p lt d)) (value_first 16 p lt ∙ ap (λ q. valued 16 0 (part text q (p + 1))) h.is)))
      (λ d. tt)
  numbers_next (Digits.digits n v) i g p lt w h =
      cond_both (ltb (digit_value (get_or text p 0)) n) _ _ (Next text p)
      (λ d. (w, based_more i n v p lt d h))
      (λ d. numbereds_next g i p v lt w (based_number i n v p h))

  pub dots_next : (n : ℕ) (r : Run) (p : ℕ) → p < length text → Dotting text n r p → Next text p (step (Config.dots n r) p (get_or text p 0))
  dots_next zero r p lt h =
      cond_both (blank (get_or text p 0)) _ _ (Next text p)
      (λ b. record { comma = h.comma; paired = h.paired; dots = more_dots (h.comma + 1) h.dots b })
      (λ b. cond_both (eqb (get_or text p 0) 44) _ _ (Next text p)
      (λ c. record { comma = h.comma; paired = h.paired; place = p; dots = h.dots; comma_last = (lt, eqb-true _ _ c); blanks = none_yet text p lt })
      (λ c. tt))
    where
      more_dots : (i : ℕ) → Dots text i p → blank (get_or text p 0) ≡ true → Dots text i (p + 1)
      more_dots i (Grammar.dots {a = a} bl x y z gap) b = Grammar.dots bl x y z (every_more blank text (a + 3) p gap lt b)
  dots_next (suc zero) r p lt h =
      cond_both (eqb (get_or text p 0) 46) _ _ (Next text p)
      (λ d. let e : p + 1 ≡ h.place + 3 = omega (arith, h.is) in
      record { comma = h.comma; paired = h.paired; dots = Grammar.dots h.gap h.dot h.dot_next (subst (λ q. At text q 46) h.is (lt, eqb-true _ _ d)) (subst (λ q. Blanks text q (p + 1)) e (none_yet text p lt)) })
      (λ d. tt)
  dots_next (suc (suc zero)) r p lt h =
      cond_both (eqb (get_or text p 0) 46) _ _ (Next text p)
      (λ d. record { comma = h.comma; paired = h.paired; place = h.place; gap = h.gap; dot = h.dot; dot_next = subst (λ q. At text q 46) h.is (lt, eqb-true _ _ d); is = omega (arith, h.is) })
      (λ d. tt)
  dots_next (suc (suc (suc n))) r p lt h = absurd h

  pub last_wanted_next : (r : Run) (p : ℕ) → p < length text → LastWanted text r p → Next text p (step (Config.last_wanted r) p (get_or text p 0))
  last_wanted_next r p lt h =
      cond_both (blank (get_or text p 0)) _ _ (Next text p)
      (λ b. record { comma = h.comma; paired = h.paired; place = h.place; dots = h.dots; comma_last = h.comma_last; blanks = every_more blank text (h.place + 1) p h.blanks lt b })
      (λ b. cond_both (digit (get_or text p 0)) _ _ (Next text p)
      (λ d. (h, first_digit_lem p lt d))
      (λ d. tt))

  -- words
  word_more : (i : ℕ) (w : List ℕ) (p : ℕ) → p < length text → Spelling text i w p → word (get_or text p 0) ≡ true → Spelling text i (w ++ get_or text p 0 ∷ []) (p + 1)
  word_more i w p lt h d =
      record { some = omega (arith, h.some); first = h.first; words = every_more word text i p h.words lt d; is = ap (λ w. w ++ get_or text p 0 ∷ []) h.is ∙ sym (part_more text i p h.words.onwards lt) }

  word_ends : (i : ℕ) (w : List ℕ) (p : ℕ) → Spelling text i w p → word (get_or text p 0) ≡ false → Word text i p
  word_ends i w p h d = record { some = h.some; first = h.first; words = h.words; longest = d }

  -- an instruction that is complete but for blanks
  pub bares_next : (t : Item) (ts : Items) (p : ℕ) → p < length text → Bare text t ts p → Next text p (bares (get_or text p 0) t ts p)
  bares_next t ts p lt h =
      cond_both (blank (get_or text p 0)) _ _ (Next text p)
      (λ b. record { place = h.place; begun = h.begun; dollar = h.dollar; to = h.to; says = h.says; gap = every_more blank text h.to p h.gap lt b })
      (λ b. cond_both (eqb (get_or text p 0) 36) _ _ (Next text p)
      (λ d. instructed ts t h.place p h.begun h.dollar (h.says p h.gap) (lt, eqb-true _ _ d))
      (λ d. tt))

  -- the byte at p after an instruction's word
  commands_next : (c : Keyword) (q : ℕ) (ts : Items) (p : ℕ) → p < length text → Worded text c q p ts → Next text p (commands c q ts p (get_or text p 0))
  commands_next keyword.If q ts p lt h =
      late_next text p (room (open_blocks ts) q p) (wants (start (get_or text p 0)) (get_or text p 0) (Stack.top q (Head.if p) ts) p)
      (wants_next (start (get_or text p 0)) (Stack.top q (Head.if p) ts) p lt refl (record { from = p; upto = up_if h.begun h.dollar h.blanks h.command; blanks = none_here text p lt }))
  commands_next keyword.While q ts p lt h =
      late_next text p (room (open_blocks ts) q p) (wants (start (get_or text p 0)) (get_or text p 0) (Stack.top q (Head.while p) ts) p)
      (wants_next (start (get_or text p 0)) (Stack.top q (Head.while p) ts) p lt refl (record { from = p; upto = up_while h.begun h.dollar h.blanks h.command; blanks = none_here text p lt }))
  commands_next keyword.Foreach q ts p lt h =
      cond_both (blank (get_or text p 0)) _ _ (Next text p) (λ b. record { worded = h; gap = every_one blank text p lt b }) (λ b. tt)
  commands_next keyword.Joineach q ts p lt h =
      cond_both (blank (get_or text p 0)) _ _ (Next text p) (λ b. record { worded = h; gap = every_one blank text p lt b }) (λ b. tt)
  commands_next keyword.Elif q ts p lt h =
      late_next text p (in_choice (open_blocks ts) q p) (wants (start (get_or text p 0)) (get_or text p 0) (Stack.top q (Head.elif p) ts) p)
      (wants_next (start (get_or text p 0)) (Stack.top q (Head.elif p) ts) p lt refl (record { from = p; upto = up_elif h.begun h.dollar h.blanks h.command; blanks = none_here text p lt }))
  commands_next keyword.Else q ts p lt h =
      late_next text p (in_choice (open_blocks ts) q p) (bares (get_or text p 0) (Item.else q p) ts p)
      (bares_next (Item.else q p) ts p lt (record { place = q; begun = h.begun; dollar = h.dollar; to = p; says = λ k bl. Grammar.else h.blanks h.command bl; gap = none_here text p lt }))
  commands_next keyword.End q ts p lt h =
      late_next text p (in_block (open_blocks ts) q p) (bares (get_or text p 0) (Item.end q p) ts p)
      (bares_next (Item.end q p) ts p lt (record { place = q; begun = h.begun; dollar = h.dollar; to = p; says = λ k bl. Grammar.end h.blanks h.command bl; gap = none_here text p lt }))

  commanded_next : (c : Keyword) (k : Stack) (i p : ℕ) → p < length text → Wanted text k i → Command text c i p → Next text p (commanded c k p (get_or text p 0))
  commanded_next c (Stack.top q Head.show ts) i p lt w h = by w.from w.upto w.blanks
    where
      by : (x : ℕ) → Upto text (Stack.top q Head.show ts) x → Blanks text x i → Next text p (commands c q ts p (get_or text p 0))
      by x (up_show b d) bl = commands_next c q ts p lt (record { begun = b; dollar = d; from = i; blanks = bl; command = h })
  commanded_next c (Stack.top q (Head.assign k) ts) i p lt w h = tt
  commanded_next c (Stack.top q (Head.if x) ts) i p lt w h = tt
  commanded_next c (Stack.top q (Head.elif x) ts) i p lt w h = tt
  commanded_next c (Stack.top q (Head.while x) ts) i p lt w h = tt
  commanded_next c (Stack.top q (Head.foreach x y z) ts) i p lt w h = tt
  commanded_next c (Stack.top q (Head.joineach x y z) ts) i p lt w h = tt
  commanded_next c (Stack.binary q o l k) i p lt w h = tt
  commanded_next c (Stack.signed q s k) i p lt w h = tt
  commanded_next c (Stack.open' b k) i p lt w h = tt

  worded_next : (x : Option Keyword) (i : ℕ) (w : List ℕ) (k : Stack) (p : ℕ) → p < length text → keyword_of w ≡ x → Wanted text k i → Spelling text i w p → word (get_or text p 0) ≡ false → Next text p (worded x i w k p (get_or text p 0))
  worded_next (Some c) i w k p lt e h s d = commanded_next c k i p lt h (record { spelled = word_ends i w p s d; is = sym (ap keyword_of s.is) ∙ e })
  worded_next None i w k p lt e h s d =
      late_next text p (long i p) (nameds (after (get_or text p 0)) i p w k p)
      (nameds_next (after (get_or text p 0)) i p w k p lt refl (record { wanted = h; name = record { spelled = word_ends i w p s d; free = sym (ap keyword_of s.is) ∙ e }; is = s.is; gap = none_here text p lt }))

  pub name_next : (i : ℕ) (w : List ℕ) (k : Stack) (p : ℕ) → p < length text → Wanted text k i → Spelling text i w p → Next text p (step (Config.in_name i w k) p (get_or text p 0))
  name_next i w k p lt h s =
      cond_both (word (get_or text p 0)) _ _ (Next text p)
      (λ d. (h, word_more i w p lt s d))
      (λ d. worded_next (keyword_of w) i w k p lt refl h s d)

  -- the name of a loop
  loop_upto : (e : Bool) (q j : ℕ) (ts : Items) (x y : ℕ) → Naming text q j e ts x → Name text x y → Upto text (Stack.top q (loop_head e j x y) ts) y
  loop_upto true q j ts x y h n = up_joineach h.worded.begun h.worded.dollar h.worded.blanks h.worded.command h.gap n
  loop_upto false q j ts x y h n = up_foreach h.worded.begun h.worded.dollar h.worded.blanks h.worded.command h.gap n

  looped_next : (o : Option Keyword) (q j : ℕ) (e : Bool) (i : ℕ) (w : List ℕ) (ts : Items) (p : ℕ) → p < length text → keyword_of w ≡ o → Naming text q j e ts i → Spelling text i w p → word (get_or text p 0) ≡ false → Next text p (looped o q j e i ts (get_or text p 0) p)
  looped_next (Some c) q j e i w ts p lt f h s d = tt
  looped_next None q j e i w ts p lt f h s d =
      late_next text p (long i p) (wants (start (get_or text p 0)) (get_or text p 0) (Stack.top q (loop_head e j i p) ts) p)
      (wants_next (start (get_or text p 0)) (Stack.top q (loop_head e j i p) ts) p lt refl
      (record { from = p; upto = loop_upto e q j ts i p h (record { spelled = word_ends i w p s d; free = sym (ap keyword_of s.is) ∙ f }); blanks = none_here text p lt }))

  pub loop_name_next : (q j : ℕ) (e : Bool) (i : ℕ) (w : List ℕ) (ts : Items) (p : ℕ) → p < length text → Naming text q j e ts i → Spelling text i w p → Next text p (step (Config.loop_name q j e i w ts) p (get_or text p 0))
  loop_name_next q j e i w ts p lt h s =
      cond_both (word (get_or text p 0)) _ _ (Next text p)
      (λ d. (h, word_more i w p lt s d))
      (λ d. looped_next (keyword_of w) q j e i w ts p lt refl h s d)

  pub naming_next : (q j : ℕ) (e : Bool) (ts : Items) (p : ℕ) → p < length text → Naming text q j e ts p → Next text p (step (Config.naming q j e ts) p (get_or text p 0))
  naming_next q j e ts p lt h =
      cond_both (blank (get_or text p 0)) _ _ (Next text p)
      (λ b. record { worded = h.worded; gap = every_more blank text j p h.gap lt b })
      (λ b. cond_both (letter (get_or text p 0)) _ _ (Next text p)
      (λ d. (h, record { some = omega arith; first = d; words = every_one word text p lt (letter_is_word (get_or text p 0) d); is = part_one text p lt }))
      (λ d. tt))

  -- text constants
  text_more : (i n : ℕ) (g : Quoted) (p : ℕ) (cl : Class) → p < length text → class (get_or text p 0) ≡ cl → TextClass cl → Quoting text i n g p → Quoting text i (n + 1) g (p + 1)
  text_more i n g p cl lt e h q =
      record { told = q.told; quote = q.quote; chars = Chars.plain q.chars lt (λ x. subst TextClass (sym e ∙ ap class x) h) (λ x. subst TextClass (sym e ∙ ap class x) h) (λ x. subst TextClass (sym e ∙ ap class x) h) }

  pub texts_next : (cl : Class) (i n : ℕ) (g : Quoted) (p : ℕ) → p < length text → class (get_or text p 0) ≡ cl → Quoting text i n g p → Next text p (texts cl i n g p)
  texts_next is.Newline i n g p lt e q = tt
  texts_next is.Return i n g p lt e q = text_more i n g p is.Return lt e tt q
  texts_next is.Blank i n g p lt e q = text_more i n g p is.Blank lt e tt q
  texts_next is.Dollar i n g p lt e q = text_more i n g p is.Dollar lt e tt q
  texts_next is.Quote i n g p lt e q = record { told = q.told; quote = record { last = p; opens = q.quote; chars = q.chars; closes = (lt, class_quote (get_or text p 0) e); ends = refl }; is = refl }
  texts_next is.Backslash i n g p lt e q = record { told = q.told; quote = q.quote; place = p; chars = q.chars; slash = (lt, class_backslash (get_or text p 0) e); is = refl }
  texts_next is.Escaped i n g p lt e q = text_more i n g p is.Escaped lt e tt q
  texts_next is.Other i n g p lt e q = text_more i n g p is.Other lt e tt q

  escaped_more : (i n : ℕ) (g : Quoted) (p : ℕ) → p < length text → Escaping text i n g p → ((get_or text p 0 ≡ 34) ⊎ (get_or text p 0 ≡ 92)) ⊎ ((get_or text p 0 ≡ 110) ⊎ (get_or text p 0 ≡ 116)) → Quoting text i (n + 1) g (p + 1)
  escaped_more i n g p lt q h =
      let far : q.place + 2 ≡ p + 1 = omega (arith, q.is) in
      let at_next : At text (q.place + 1) (get_or text p 0) = subst (λ x. At text x (get_or text p 0)) q.is (lt, refl) in
      record { told = q.told; quote = q.quote; chars = subst (λ x. Chars text (n + 1) (i + 1) x) far (Grammar.escaped (get_or text p 0) q.chars q.slash at_next h) }

  pub escapes_next : (cl : Class) (i n : ℕ) (g : Quoted) (p : ℕ) → p < length text → class (get_or text p 0) ≡ cl → Escaping text i n g p → Next text p (escapes cl i n g)
  escapes_next is.Newline i n g p lt e q = tt
  escapes_next is.Return i n g p lt e q = tt
  escapes_next is.Blank i n g p lt e q = tt
  escapes_next is.Dollar i n g p lt e q = tt
  escapes_next is.Quote i n g p lt e q = escaped_more i n g p lt q (inl (inl (class_quote (get_or text p 0) e)))
  escapes_next is.Backslash i n g p lt e q = escaped_more i n g p lt q (inl (inr (class_backslash (get_or text p 0) e)))
  escapes_next is.Escaped i n g p lt e q = escaped_more i n g p lt q (inr (escaped_is (get_or text p 0) e))
  escapes_next is.Other i n g p lt e q = tt

  pub quoteds_next : (g : Quoted) (t : Quote) (p : ℕ) → p < length text → QuoteDone text t g p → Next text p (quoteds g t (get_or text p 0) p)
  quoteds_next (Quoted.operand k) t p lt h =
      late_next text p (wide t) (afters (after (get_or text p 0)) (Expr.text t) k p)
      (afters_next (after (get_or text p 0)) (Expr.text t) k p lt refl
      (record { from = h.told.from; upto = h.told.upto; to = t.span.to; spells = Grammar.quote t h.told.blanks h.quote; gap = subst (λ q. Blanks text q p) (sym h.is) (none_here text p lt) }))
  quoteds_next (Quoted.delimiter j) t p lt h =
      let o = h.told in
      late_next text p (wide t) (bares (get_or text p 0) (joined j t) j.items p)
      (bares_next (joined j t) j.items p lt
      (record {
        place = j.place;
        begun = o.worded.begun;
        dollar = o.worded.dollar;
        to = t.span.to;
        says = λ k bl. Grammar.joineach t o.worded.blanks o.worded.command o.blanks o.name o.spells o.gap h.quote bl;
        gap = subst (λ q. Blanks text q p) (sym h.is) (none_here text p lt);
      }))
