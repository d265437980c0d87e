-- What is refused, number constants and text constants. Assumes nothing.
use Rattle.std.proofs.Common.{◌≡◌, ℕ, ◌+◌, ◌-◌, ◌*◌, ◌<◌, ◌≤◌, Bool, true, false, ◌||◌, eqb, ltb, ◌⊎◌, List, [], length, get_or, Bor, IsErrAnd, SomeIff, is_some, Some, None, Ok, Err, Option, Result, sym, refl, ap, ◌∙◌, subst, inl, ⊎_elim, arith}
use Rattle.std.proofs.lemmas.Result.{err_from_is_err_and}
use Rattle.std.proofs.lemmas.Bool.{cond-true, cond-false, lt-ltb, le-ltb, eq-eqb, ne_eqb, cases_lt}
use Rattle.std.proofs.lemmas.Bool.Decides.{nat_tests}
use Rattle.refusals.specs.declared.Refusal.{Refusal}
use Rattle.refusals.specs.declared.Refusal.TheVariants.{UnexpectedByte}
use Rattle.tokens.specs.declared.byte.Start.TheVariants as at
use Rattle.tokens.specs.declared.byte.Class.{Class}
use Rattle.tokens.specs.declared.byte.Class.TheVariants as is
use Rattle.tokens.specs.Bytes.{start, class, digit_value}
use Rattle.trees.specs.Tree.{from_to}
use Rattle.grammar.specs.Machine.{nought, prefix, digits, Config, in_number, in_text, escape, quoted, Numbered, Quoted as Goal, Move, stop, go, step, finish, finished, onward, refused, first_digit}
use Rattle.grammar.proofs.Moves.{at_end, moves, alike}
use Rattle.reader.specs.declared.cursor.Cursor.{Cursor}
use Rattle.reader.specs.declared.cursor.State.{State}
use Rattle.reader.specs.declared.cursor.State.TheVariants.{Instruction, Text, Escape}
use Rattle.refusals.specs.declared.fault.Fault.{Fault}
use Rattle.reader.specs.States.{moved, fault, MovedTo, Taken}
use Rattle.reader.specs.Scans.{start_at, digit_at, prefixed_at, capped, Skipped, Ran, Digited, Numbers, Quotes}
use Rattle.reader.proofs.Places.{start_is, digit_here, digit_inside}
use Rattle.reader.proofs.Passing.{there, moved_on}

-- a fault is the refusal that it tells
pub as_refused : (f : Fault) (n : Refusal) (p : ℕ) → f ≡ fault n p → refused n p ≡ refused f.refusal f.place
as_refused f n p e = ap (λ (x : Fault). refused x.refusal x.place) (sym e)

-- no byte may stand here, nor may the text end
pub refuses : (m : Bool) (text : List ℕ) (c : Config) (p : ℕ) → (p < length text → step c p (get_or text p 0) ≡ stop) → finish c p ≡ None → onward m text c p ≡ refused UnexpectedByte p
refuses m text c p byte end = ⊎_elim (λ lt. moves m text c p stop lt (byte lt)) (λ ge. at_end m text c p ge ∙ ap (λ o. finished m o p) end) (cases_lt p (length text))

-- the `x` of a hexadecimal constant
prefixed_here : (text : List ℕ) (p : ℕ) → prefixed_at text p ≡ true → (p < length text) × ((eqb (get_or text p 0) 120 || eqb (get_or text p 0) 88) ≡ true)
prefixed_here text p e = grind (arith, nat_tests)

prefixed_not : (text : List ℕ) (p : ℕ) → p < length text → prefixed_at text p ≡ false → (eqb (get_or text p 0) 120 || eqb (get_or text p 0) 88) ≡ false
prefixed_not text p lt e = grind (arith, nat_tests)

-- a number constant, digit by digit
module _ (m : Bool) (text : List ℕ) where
  digits_more : (i n v : ℕ) (g : Numbered) (p : ℕ) → p < length text → digit_value (get_or text p 0) < n → onward m text (in_number i (digits n v) g) p ≡ onward m text (in_number i (digits n (n * v + digit_value (get_or text p 0))) g) (p + 1)
  digits_more i n v g p lt h = moves m text (in_number i (digits n v) g) p _ lt (cond-true _ _ _ (lt-ltb _ n h))

  pub decimal_first : (i b : ℕ) (g : Numbered) (p : ℕ) → (b ≡ 48 → ⊥) → onward m text (in_number i (first_digit b) g) p ≡ onward m text (in_number i (digits 10 (b - 48)) g) p
  decimal_first i b g p ne = ap (λ d. onward m text (in_number i d g) p) (cond-false _ _ _ (ne_eqb b 48 ne))

  nought_first : (i b : ℕ) (g : Numbered) (p : ℕ) → b ≡ 48 → onward m text (in_number i (first_digit b) g) p ≡ onward m text (in_number i nought g) p
  nought_first i b g p e = ap (λ d. onward m text (in_number i d g) p) (cond-true _ _ _ (eq-eqb b 48 e))

  -- where no `x` stands, `0` is a constant with digits in the base eight
  pub octal_first : (i b : ℕ) (g : Numbered) (p : ℕ) → b ≡ 48 → prefixed_at text p ≡ false → onward m text (in_number i (first_digit b) g) p ≡ onward m text (in_number i (digits 8 0) g) p
  octal_first i b g p e none =
      nought_first i b g p e
      ∙ alike m text (in_number i nought g) (in_number i (digits 8 0) g) p
      (λ lt. grind (arith, nat_tests, prefixed_not text p lt none))
      refl

  prefix_first : (i b : ℕ) (g : Numbered) (p : ℕ) → b ≡ 48 → prefixed_at text p ≡ true → onward m text (in_number i (first_digit b) g) p ≡ onward m text (in_number i prefix g) (p + 1)
  prefix_first i b g p e x =
      let h = prefixed_here text p x in
      nought_first i b g p e ∙ moves m text (in_number i nought g) p _ h.0 (cond-true _ _ _ h.1)

  -- `0x` with a digit
  pub hexadecimal_first : (i b : ℕ) (g : Numbered) (p : ℕ) → b ≡ 48 → prefixed_at text p ≡ true → digit_at text (p + 1) < 16 → onward m text (in_number i (first_digit b) g) p ≡ onward m text (in_number i (digits 16 0) g) (p + 1)
  hexadecimal_first i b g p e x h =
      let lt = digit_inside text (p + 1) h in
      let digit : ltb (digit_value (get_or text (p + 1) 0)) 16 ≡ true = lt-ltb (digit_value (get_or text (p + 1) 0)) 16 (omega (arith, digit_here text (p + 1) lt)) in
      prefix_first i b g p e x
      ∙ alike m text (in_number i prefix g) (in_number i (digits 16 0) g) (p + 1)
      (λ lt. grind (arith, digit))
      refl

  -- `0x` without a digit
  pub hexadecimal_stop : (i b : ℕ) (g : Numbered) (p : ℕ) → b ≡ 48 → prefixed_at text p ≡ true → 16 ≤ digit_at text (p + 1) → onward m text (in_number i (first_digit b) g) p ≡ refused UnexpectedByte (p + 1)
  hexadecimal_stop i b g p e x h =
      prefix_first i b g p e x
      ∙ refuses m text (in_number i prefix g) (p + 1) (λ lt. cond-false _ _ _ (le-ltb (digit_value (get_or text (p + 1) 0)) 16 (omega (arith, digit_here text (p + 1) lt)))) refl

-- a test that answers as a function does
pub ran : (test : ℕ → Bool) (answers : ℕ → Bool → Type 0) (r r' : Cursor) → ((b : ℕ) (o : Bool) → answers b o → o ≡ test b) → Skipped answers r r' → Ran test r r'
ran test answers r r' told s =
    record {
      same = s.same;
      all = record { onwards = s.onwards; inside = omega (arith, r'.within, ap (λ (t : Bor (List ℕ)). length t.now) s.same.text); all = λ q a b. sym (told _ _ (s.all q a b)) };
      last = λ lt. sym (told _ _ (s.last lt));
    }

-- inside the digits of a number constant
pub record Digiting (n first : ℕ) (r : Cursor) (o : Option ℕ) (r' : Cursor) : Type 0 where
  pub value : ℕ
  pub told : o ≡ capped value
  pub same : MovedTo r r'.pos r'
  pub onwards : r.pos ≤ r'.pos
  pub runs : (i : ℕ) (g : Numbered) → onward true r.text.now (in_number i (digits n first) g) r.pos ≡ onward true r.text.now (in_number i (digits n value) g) r'.pos

-- whether a digit of the base n stands here, by its value d
pub no_digit : (o : Option ℕ) (d n : ℕ) → SomeIff o (d < n) d → is_some o ≡ false → n ≤ d
no_digit o d n h e = grind arith

pub a_digit : (o : Option ℕ) (d n : ℕ) → SomeIff o (d < n) d → is_some o ≡ true → d < n
a_digit o d n h e = grind arith

-- one digit more
pub digiting_more : (n first d : ℕ) (r r₁ r₂ : Cursor) (o o' : Option ℕ) → (h : Digiting n first r o r₁) → MovedTo r₁ (r₁.pos + 1) r₂ → d ≡ digit_at r₁.text.now r₁.pos → d < n → n ≤ 16 → o' ≡ capped (n * h.value + d) → Digiting n first r o' r₂
digiting_more n first d r r₁ r₂ o o' h passed here small base told =
    let text : List ℕ = r.text.now in
    let is : d ≡ digit_at text r₁.pos = here ∙ ap (λ (t : Bor (List ℕ)). digit_at t.now r₁.pos) h.same.text in
    let lt : r₁.pos < length text = digit_inside text r₁.pos (omega arith) in
    let digit : digit_value (get_or text r₁.pos 0) ≡ d = sym (is ∙ digit_here text r₁.pos lt) in
    record {
      value = n * h.value + d;
      told = told;
      same = moved_on h.same passed;
      onwards = omega (arith, h.onwards, passed.pos);
      runs = λ i g. h.runs i g ∙ digits_more true text i n h.value g r₁.pos lt (omega arith) ∙ λ j. onward true text (in_number i (digits n (n * h.value + digit j)) g) (sym passed.pos j);
    }

-- the digits from p on, behind the first one or behind `0x`, make a number constant
pub numeral_read : (n first p : ℕ) (r r₁ r' r'' : Cursor) (o o'' : Option ℕ) → MovedTo r p r₁ → r.pos < p → ((g : Numbered) → onward true r.text.now (in_number r.pos (first_digit (get_or r.text.now r.pos 0)) g) (r.pos + 1) ≡ onward true r.text.now (in_number r.pos (digits n first) g) p) → Digited n first r₁ o r' → r'' ≡ r' → o'' ≡ o → Numbers r (record { span = from_to r.pos r''.pos; value = o'' }) r''
numeral_read n first p r r₁ r' r'' o o'' same far begins d e e' =
    let text : List ℕ = r.text.now in
    let there : r₁.text.now ≡ text = ap (λ (t : Bor (List ℕ)). t.now) same.text in
    let read : Numbers r (record { span = from_to r.pos r'.pos; value = o }) r' = record {
      read = digits n d.value;
      complete = ap (λ t. ltb (digit_at t r'.pos) n) (sym there) ∙ d.last;
      told = ap (λ (v : Option ℕ). record { span = from_to r.pos r'.pos; value = v }) d.told;
      same = moved_on same d.same;
      onwards = omega (arith, d.onwards, same.pos);
      runs = λ g. begins g ∙ ap (onward true text (in_number r.pos (digits n first) g)) (sym same.pos) ∙ subst (λ t. onward true t (in_number r.pos (digits n first) g) r₁.pos ≡ onward true t (in_number r.pos (digits n d.value) g) r'.pos) there (d.runs r.pos g);
    } in
    subst (λ (q : Cursor). Numbers r (record { span = from_to r.pos q.pos; value = o'' }) q) (sym e) (subst (λ (v : Option ℕ). Numbers r (record { span = from_to r.pos r'.pos; value = v }) r') (sym e') read)

-- the configuration in which the machine of eight states has the state s, inside a text constant from i on and right after it
abbrev pub quoting : State → ℕ → ℕ → ℕ → Goal → Config
quoting Escape i n p g = escape i n g
quoting Instruction i n p g = quoted (record { span = from_to i p; bytes = n }) g
quoting s i n p g = in_text i n g

abbrev pub bump : State → ℕ → ℕ
bump Text n = n + 1
bump s n = n

abbrev pub Within : State → Type 0
Within s = (s ≡ Text) ⊎ (s ≡ Escape)

abbrev Next : Option State → Move → ℕ → ℕ → ℕ → Goal → Type 0
Next (Some s) v i n p g = v ≡ go [] (quoting s i (bump s n) (p + 1) g)
Next None v i n p g = v ≡ stop

within_next : (s : State) → Within s → (i n p b : ℕ) (g : Goal) → Next (moved s (class b)) (step (quoting s i n p g) p b) i n p g
within_next s q i n p b g = grind arith

within_end : (s : State) → Within s → (i n p : ℕ) (g : Goal) → finish (quoting s i n p g) p ≡ None
within_end s q i n p g = grind arith

module _ (m : Bool) (text : List ℕ) (s : State) (q : Within s) (i n p : ℕ) (g : Goal) where
  quote_on : (s' : State) → p < length text → moved s (class (get_or text p 0)) ≡ Some s' → onward m text (quoting s i n p g) p ≡ onward m text (quoting s' i (bump s' n) (p + 1) g) (p + 1)
  quote_on s' lt e = moves m text (quoting s i n p g) p _ lt (subst (λ o. Next o (step (quoting s i n p g) p (get_or text p 0)) i n p g) e (within_next s q i n p (get_or text p 0) g))

  quote_stop : (p < length text → moved s (class (get_or text p 0)) ≡ None) → onward m text (quoting s i n p g) p ≡ refused UnexpectedByte p
  quote_stop e = refuses m text (quoting s i n p g) p (λ lt. subst (λ o. Next o (step (quoting s i n p g) p (get_or text p 0)) i n p g) (e lt) (within_next s q i n p (get_or text p 0) g)) (within_end s q i n p g)

-- inside a text constant that began at i, with n bytes; r₀ is the cursor behind its first quote
pub record Quoting (i : ℕ) (r₀ r : Cursor) (n : ℕ) : Type 0 where
  pub within : Within r.state
  pub runs : (g : Goal) → onward true r₀.text.now (in_text i 0 g) (i + 1) ≡ onward true r₀.text.now (quoting r.state i n r.pos g) r.pos
  pub far : i + n < r.pos
  pub text : r.text ≡ r₀.text
  pub table : r.table ≡ r₀.table

start_digit : (b : ℕ) → start b ≡ at.Digit → 48 ≤ b
start_digit b e = grind (arith, nat_tests)

-- a number constant's first digit
pub digit_first : (text : List ℕ) (p : ℕ) → start_at text p ≡ at.Digit → (p < length text) × (48 ≤ get_or text p 0)
digit_first text p e =
    let h = start_is text p at.Digit (λ other. cc) e in
    (h.0, start_digit (get_or text p 0) h.1)

start_quote : (b : ℕ) → start b ≡ at.Quote → class b ≡ is.Quote
start_quote b e = grind (arith, nat_tests)

-- a text constant's first quote
quote_here : (text : List ℕ) (p : ℕ) → start_at text p ≡ at.Quote → (p < length text) × (class (get_or text p 0) ≡ is.Quote)
quote_here text p e =
    let h = start_is text p at.Quote (λ other. cc) e in
    (h.0, start_quote (get_or text p 0) h.1)

some_path : (s s' : State) → Some s ≡ Some s' → s ≡ s'
some_path s s' e = cc

-- how a text constant begins, goes on and ends
pub quoting_first : (r₀ r : Cursor) → r₀.state ≡ Instruction → start_at r₀.text.now r₀.pos ≡ at.Quote → Taken r₀ (Ok tt) r → Quoting r₀.pos r r 0
quoting_first r₀ r inward begins took =
    let is : class (get_or r₀.text.now r₀.pos 0) ≡ is.Quote = (quote_here r₀.text.now r₀.pos begins).1 in
    let state : Text ≡ r.state = some_path _ _ (sym (ap (λ s. moved s (class (get_or r₀.text.now r₀.pos 0))) inward ∙ ap (moved Instruction) is) ∙ took.1) in
    record {
      within = inl (sym state);
      runs = λ g j. onward true r.text.now (quoting (state j) r₀.pos 0 r.pos g) (sym took.2.pos j);
      far = omega (arith, took.2.pos);
      text = refl;
      table = refl;
    }

-- the first quote is always taken
pub quoting_begins : (r₀ : Cursor) (f : Fault) (r : Cursor) → r₀.state ≡ Instruction → start_at r₀.text.now r₀.pos ≡ at.Quote → Taken r₀ (Err f) r → ⊥
quoting_begins r₀ f r inward begins took =
    let h = quote_here r₀.text.now r₀.pos begins in
    none (ap (λ s. moved s is.Quote) inward) (ap (moved r₀.state) h.1) (took.1 h.0)
  where
    none : {o o' : Option State} → o ≡ Some Text → o' ≡ o → o' ≡ None → ⊥
    none a b c = cc

-- what the machine takes or refuses, read in another reference to the same text
taken_in : (r r' : Cursor) (t : Bor (List ℕ)) → r.text ≡ t → Taken r (Ok tt) r' → (r.pos < length t.now) × (moved r.state (class (get_or t.now r.pos 0)) ≡ Some r'.state)
taken_in r r' t e took = there (λ t. (r.pos < length t) × (moved r.state (class (get_or t r.pos 0)) ≡ Some r'.state)) e (took.0, took.1)

refused_in : (r r' : Cursor) (f : Fault) (t : Bor (List ℕ)) → r.text ≡ t → Taken r (Err f) r' → r.pos < length t.now → moved r.state (class (get_or t.now r.pos 0)) ≡ None
refused_in r r' f t e took = there (λ t. r.pos < length t → moved r.state (class (get_or t r.pos 0)) ≡ None) e took.1

-- one byte more: the runs, in the state after it
quoting_on : (i n : ℕ) (r₀ r r' : Cursor) → Quoting i r₀ r n → Taken r (Ok tt) r' → (g : Goal) → onward true r₀.text.now (in_text i 0 g) (i + 1) ≡ onward true r₀.text.now (quoting r'.state i (bump r'.state n) r'.pos g) r'.pos
quoting_on i n r₀ r r' q took g =
    let h = taken_in r r' r₀.text q.text took in
    q.runs g ∙ quote_on true r₀.text.now r.state q.within i n r.pos g r'.state h.0 h.1 ∙ ap (λ p. onward true r₀.text.now (quoting r'.state i (bump r'.state n) p g) p) (sym took.2.pos)

pub quoting_more : (i n : ℕ) (r₀ r r' : Cursor) → Quoting i r₀ r n → Taken r (Ok tt) r' → Within r'.state → (n' : ℕ) → n' ≡ bump r'.state n → n' ≤ n + 1 → Quoting i r₀ r' n'
quoting_more i n r₀ r r' q took s n' e le =
    record {
      within = s;
      runs = λ g. quoting_on i n r₀ r r' q took g ∙ ap (λ n. onward true r₀.text.now (quoting r'.state i n r'.pos g) r'.pos) (sym e);
      far = omega (arith, q.far, took.2.pos);
      text = took.2.text ∙ q.text;
      table = took.2.table ∙ q.table;
    }

-- r₁ is where the constant begins, r₀ behind its first quote
pub quoting_stop : (n : ℕ) (r₁ r₀ r : Cursor) (f : Fault) (r' : Cursor) → r₀.text ≡ r₁.text → Quoting r₁.pos r₀ r n → Taken r (Err f) r' → (g : Goal) → onward true r₁.text.now (in_text r₁.pos 0 g) (r₁.pos + 1) ≡ refused f.refusal f.place
quoting_stop n r₁ r₀ r f r' same q took g =
    there (λ t. onward true t (in_text r₁.pos 0 g) (r₁.pos + 1) ≡ refused f.refusal f.place) same
    (q.runs g
    ∙ quote_stop true r₀.text.now r.state q.within r₁.pos n r.pos g (refused_in r r' f r₀.text q.text took)
    ∙ as_refused f UnexpectedByte r.pos took.0)

-- after the last quote; r₁ is where the constant begins, r₀ behind its first quote
pub quoting_last : (n : ℕ) (r₁ r₀ r r' : Cursor) → r₀.text ≡ r₁.text → r₀.table ≡ r₁.table → Quoting r₁.pos r₀ r n → Taken r (Ok tt) r' → (r'.state ≡ Text → ⊥) → (r'.state ≡ Escape → ⊥) → Quotes r₁ (record { span = from_to r₁.pos r'.pos; bytes = n }) r'
quoting_last n r₁ r₀ r r' same table q took no_text no_escape =
    let s : r'.state ≡ Instruction = last r.state r'.state (class (get_or r.text.now r.pos 0)) q.within took.1 no_text no_escape in
    record {
      opens = refl;
      closes = refl;
      inward = s;
      text = took.2.text ∙ q.text ∙ same;
      table = took.2.table ∙ q.table ∙ table;
      onwards = omega (arith, q.far, took.2.pos);
      few = omega (arith, q.far, took.2.pos);
      runs = λ g. there (λ t. onward true t (in_text r₁.pos 0 g) (r₁.pos + 1) ≡ onward true t (quoted (record { span = from_to r₁.pos r'.pos; bytes = n }) g) r'.pos) same (quoting_on r₁.pos n r₀ r r' q took g ∙ ap (λ s. onward true r₀.text.now (quoting s r₁.pos (bump s n) r'.pos g) r'.pos) s);
    }
  where
    last : (s s' : State) (cl : Class) → Within s → moved s cl ≡ Some s' → (s' ≡ Text → ⊥) → (s' ≡ Escape → ⊥) → s' ≡ Instruction
    last s s' cl q e a b = grind arith

-- what comes out of a `?`, for any promise P of the answer
pub by_break : {A : Type 0} (P : Result A Fault → Type 0) (o : Result A Fault) (f : Fault) → IsErrAnd o (λ y. y ≡ f) → P (Err f) → P o
by_break P o f e h =
    let p = err_from_is_err_and o e in
    subst P (sym p.1) (subst (λ (f : Fault). P (Err f)) (sym p.2) h)
