-- How the reading goes on, byte by byte. Assumes nothing.
use Rattle.std.proofs.Common.{◌≡◌, ℕ, zero, suc, ◌+◌, ◌-◌, ◌<◌, ◌≤◌, Bool, true, List, [], length, get_or, sym, refl, ap, ◌∙◌, ⊎_elim, arith}
use Rattle.std.proofs.lemmas.List.{drop_more, drop_all}
use Rattle.std.proofs.lemmas.Bool.{cond-true, cond-false, le-leb, lt-leb, cases_lt}
use Rattle.tokens.specs.declared.operator.Op.{Op}
use Rattle.tokens.specs.declared.operator.Op.TheVariants as op
use Rattle.tokens.specs.Bytes.{blank}
use Rattle.tokens.specs.Operators.{level}
use Rattle.trees.specs.Tree.{Expr, Item, Items}
use Rattle.grammar.specs.Machine.{Below, reacts, Stack, Config, Move, stop, go, Run, run, onward, finished, finish, step, late, reduce, afters, nameds, wants, firsts, lasts}
use Rattle.grammar.specs.Grammar.{Blanks}

module _ (m : Bool) (text : List ℕ) where
  pub on : (c : Config) (p : ℕ) → p < length text → onward m text c p ≡ reacts m text p (step c p (get_or text p 0))
  unfolding run
  on c p h = ap (λ bs. run bs m c p) (drop_more text p 0 h)

  pub at_end : (c : Config) (p : ℕ) → length text ≤ p → onward m text c p ≡ finished m (finish c p) p
  unfolding run
  at_end c p h = ap (λ bs. run bs m c p) (drop_all p text h)

  pub moves : (c : Config) (p : ℕ) (v : Move) → p < length text → step c p (get_or text p 0) ≡ v → onward m text c p ≡ reacts m text p v
  moves c p v h e = on c p h ∙ ap (reacts m text p) e

  -- two configurations that move alike here
  pub alike : (c c' : Config) (p : ℕ) → (p < length text → step c p (get_or text p 0) ≡ step c' p (get_or text p 0)) → finish c p ≡ finish c' p → onward m text c p ≡ onward m text c' p
  alike c c' p e f = ⊎_elim (λ h. on c p h ∙ ap (reacts m text p) (e h) ∙ sym (on c' p h)) (λ h. at_end c p h ∙ ap (λ o. finished m o p) f ∙ sym (at_end c' p h)) (cases_lt p (length text))

  stays_by : (c : Config) → ((p b : ℕ) → blank b ≡ true → step c p b ≡ go [] c) → (n p p' : ℕ) → p' ≡ p + n → Blanks text p p' → onward m text c p ≡ onward m text c p'
  stays_by c same zero p p' e s = let e' : p ≡ p' = omega arith in ap (onward m text c) e'
  stays_by c same (suc n) p p' e s =
      let in-text : p < length text = omega arith in
      moves c p (go [] c) in-text (same p (get_or text p 0) (s.all p (omega arith) (omega arith)))
      ∙ stays_by c same n (p + 1) p' (omega arith) (record { onwards = omega arith; inside = s.inside; all = λ q a b. s.all q (omega arith) b })

  -- blanks change nothing
  pub stays : (c : Config) → ((p b : ℕ) → blank b ≡ true → step c p b ≡ go [] c) → (p p' : ℕ) → Blanks text p p' → onward m text c p ≡ onward m text c p'
  stays c same p p' s = stays_by c same (p' - p) p p' (omega arith) s

pub want_stays : (k : Stack) (p b : ℕ) → blank b ≡ true → step (Config.want k) p b ≡ go [] (Config.want k)
want_stays k p b h = ap (λ s. wants s b k p) (cond-true _ _ _ h)

pub first_stays : (k : Stack) (p b : ℕ) → blank b ≡ true → step (Config.first k) p b ≡ go [] (Config.first k)
first_stays k p b h = ap (λ s. firsts s b k p) (cond-true _ _ _ h)

pub aft_stays : (t : Expr) (k : Stack) (p b : ℕ) → blank b ≡ true → step (Config.aft t k) p b ≡ go [] (Config.aft t k)
aft_stays t k p b h = ap (λ x. afters x t k p) (cond-true _ _ _ h)

pub named_stays : (i j : ℕ) (w : List ℕ) (k : Stack) (p b : ℕ) → blank b ≡ true → step (Config.named i j w k) p b ≡ go [] (Config.named i j w k)
named_stays i j w k p b h = ap (λ x. nameds x i j w k p) (cond-true _ _ _ h)

pub dots_stays : (r : Run) (p b : ℕ) → blank b ≡ true → step (Config.dots 0 r) p b ≡ go [] (Config.dots 0 r)
dots_stays r p b h = cond-true _ _ _ h

pub last_wanted_stays : (r : Run) (p b : ℕ) → blank b ≡ true → step (Config.last_wanted r) p b ≡ go [] (Config.last_wanted r)
last_wanted_stays r p b h = cond-true _ _ _ h

pub last_done_stays : (c : _) (r : Run) (p b : ℕ) → blank b ≡ true → step (Config.last_done c r) p b ≡ go [] (Config.last_done c r)
last_done_stays c r p b h = ap (λ x. lasts x c r) (cond-true _ _ _ h)

pub bare_stays : (t : Item) (ts : Items) (p b : ℕ) → blank b ≡ true → step (Config.bare t ts) p b ≡ go [] (Config.bare t ts)
bare_stays t ts p b h = cond-true _ _ _ h

pub naming_stays : (q j : ℕ) (e : Bool) (ts : Items) (p b : ℕ) → blank b ≡ true → step (Config.naming q j e ts) p b ≡ go [] (Config.naming q j e ts)
naming_stays q j e ts p b h = cond-true _ _ _ h

-- the levels of operators
pub level_least : (o : Op) → 1 ≤ level o
level_least op.Or = omega arith
level_least op.And = omega arith
level_least op.BitOr = omega arith
level_least op.BitXor = omega arith
level_least op.BitAnd = omega arith
level_least op.Equal = omega arith
level_least op.Unequal = omega arith
level_least op.Less = omega arith
level_least op.Greater = omega arith
level_least op.LessEqual = omega arith
level_least op.GreaterEqual = omega arith
level_least op.ShiftLeft = omega arith
level_least op.ShiftRight = omega arith
level_least op.Add = omega arith
level_least op.Subtract = omega arith
level_least op.Multiply = omega arith
level_least op.Divide = omega arith
level_least op.Remainder = omega arith

pub level_most : (o : Op) → level o ≤ 10
level_most op.Or = omega arith
level_most op.And = omega arith
level_most op.BitOr = omega arith
level_most op.BitXor = omega arith
level_most op.BitAnd = omega arith
level_most op.Equal = omega arith
level_most op.Unequal = omega arith
level_most op.Less = omega arith
level_most op.Greater = omega arith
level_most op.LessEqual = omega arith
level_most op.GreaterEqual = omega arith
level_most op.ShiftLeft = omega arith
level_most op.ShiftRight = omega arith
level_most op.Add = omega arith
level_most op.Subtract = omega arith
level_most op.Multiply = omega arith
level_most op.Divide = omega arith
level_most op.Remainder = omega arith

pub below_more : (n n' : ℕ) (k : Stack) → n ≤ n' → Below n k → Below n' k
below_more n n' (Stack.top q h ts) le b = tt
below_more n n' (Stack.binary q o l k) le b = omega arith
below_more n n' (Stack.signed q s k) le b = omega arith
below_more n n' (Stack.open' c k) le b = tt

-- a closing sign, and an operator that is no tighter, bring the operator on the stack and its sides together
pub reduce_all : (n q : ℕ) (o : Op) (l r : Expr) (k : Stack) → n ≤ level o → reduce n r (Stack.binary q o l k) ≡ reduce n (Expr.binary q o l r) k
reduce_all n q o l r k h = cond-true _ _ _ (le-leb n (level o) h)

-- a tighter operator leaves the stack
pub reduce_none : (o : Op) (t : Expr) (k : Stack) → Below (level o) k → reduce (level o) t k ≡ (t, k)
reduce_none o t (Stack.top q h ts) b = refl
reduce_none o t (Stack.binary q o' l k) b = cond-false _ _ _ (lt-leb (level o) (level o') b)
reduce_none o t (Stack.signed q s k) b = absurd (omega (arith, level_most o))
reduce_none o t (Stack.open' c k) b = refl

pub late_none : (v : Move) → late [] v ≡ v
late_none stop = refl
late_none (go d c) = refl
