-- What the nodes of an expression do, put together from what they call. Assumes nothing.
use Rattle.std.proofs.Common.{◌≡◌, ℕ, zero, suc, ◌+◌, ◌-◌, ◌<◌, ◌≤◌, List, [], ◌∷◌, ◌++◌, map, reverse, length, take, drop, set, min, true, false, ◌==◌, ℤ, Some, None, Option, Ok, Err, Result, sym, refl, ap, subst, ◌∙◌, add-one, arith, length-take}
use Rattle.std.proofs.Math.Seq.{take-set-lt}
use Rattle.std.proofs.lemmas.List.{reverse-append, length-set, drop-set, take_min, drop_min}
use Rattle.std.specs.Option.{MatchOption, option_map}
use Rattle.std.proofs.lemmas.Bool.{cond-true, cond-false}
use Rattle.std.proofs.lemmas.Bool.Decides.{nat_tests}
use Rattle.effects.specs.Effects.{Program, return, visit, Limits, State, done, refused, exec, told}
use Rattle.effects.proofs.Programs.{bind_return}
use Rattle.evaluator.proofs.Exits.{faulted}
use Rattle.evaluator.proofs.Composing.{does_visited, does_unvisited}
use Rattle.evaluator.proofs.Walks.{outcome_of, acts}
use Rattle.evaluator.specs.declared.run.Run.{Run}
use Rattle.evaluator.specs.Turns.{Slot, or_empty, top_value, joined, arguments_of, Turn, gives, gives_if, worked, acted, turned}
use Rattle.evaluator.specs.Runs.{slots, state, result_as, Does, Works, Visited}
use Rattle.meaning.specs.Meaning.{Value, binary_value}
use Rattle.operations.specs.Functions.{and_then}
use Rattle.operations.specs.Operators.{operand, binary, value_of}
use Rattle.refusals.specs.declared.Refusal.{Refusal}
use Rattle.refusals.specs.declared.fault.Fault.{Fault}
use Rattle.refusals.specs.Errors.{Error, refusal_of, refused_by}
use Rattle.stacks.specs.Stacked.{rest}
use Rattle.store.specs.Names.{Names}
use Rattle.tokens.specs.declared.operator.Op.{Op}
use Rattle.trees.specs.declared.Node.{Node}
use Rattle.trees.specs.Laid.{weight, place_of}
use Rattle.values.specs.declared.value.Value as value
use Rattle.values.specs.Means.{value_means}

-- an answer that was `Ok` or `Err`, by the one that the specs give
was_ok : {A : Type 0} (r : Result A Error) (a : A) → Ok a ≡ refused_by r → r ≡ Ok a
was_ok (Ok b) a h = cc
was_ok (Err e) a h = absurd cc

was_err : {A : Type 0} (r : Result A Error) (f : Refusal) → Err f ≡ refused_by r → (e : Error) × (r ≡ Err e) × (refusal_of e ≡ f)
was_err (Ok b) f h = absurd cc
was_err (Err e) f h = (e, refl, cc)

-- what gives a value or an error
pub gave : (cap : ℕ) (r : Result Value Error) (vs : List Slot) (v : Value) (o : Result ℕ Refusal) (us : List Slot) → Ok v ≡ refused_by r → Works (gives cap (Some v) vs) o us → Works (gives_if cap r vs) o us
gave cap r vs v o us h works = rw (was_ok r v h) works

pub gave_none : (cap : ℕ) (r : Result Value Error) (vs : List Slot) (f : Refusal) (o : Result ℕ Refusal) (us : List Slot) → Err f ≡ refused_by r → o ≡ Err f → Works (gives_if cap r vs) o us
gave_none cap r vs f o us h is = let e = was_err r f h in rw e.1 (is ∙ ap Err (sym e.2))

-- a right operand that is refused
pub right_refused : (o : Op) (v w : Value) (a : ℤ) (f : Refusal) → Ok a ≡ refused_by (operand v) → Err f ≡ refused_by (operand w) → Err f ≡ refused_by (binary_value o v w)
right_refused o v w a f left right = let e = was_err (operand w) f right in rw (was_ok (operand v) a left, e.1) (ap Err (sym e.2))

-- an operator on two operands
module _ (o : Op) (v w : Value) (a b : ℤ) (left : Ok a ≡ refused_by (operand v)) (right : Ok b ≡ refused_by (operand w)) where
  operands : binary_value o v w ≡ and_then (binary o a b) (λ n. Ok (value_of n))
  operands = rw (was_ok (operand v) a left, was_ok (operand w) b right)

  pub operated : (n : ℤ) → Ok n ≡ refused_by (binary o a b) → Ok (value_of n) ≡ refused_by (binary_value o v w)
  operated n h = rw (operands, was_ok (binary o a b) n h)

  pub not_operated : (f : Refusal) → Err f ≡ refused_by (binary o a b) → Err f ≡ refused_by (binary_value o v w)
  not_operated f h = let e = was_err (binary o a b) f h in rw (operands, e.1) (ap Err (sym e.2))

-- a list with one more item; one that has too many elements already stays so
pub joined_by : (list r : Option value.Value) (item : Value) (P : value.Value → Type 0) → MatchOption list (r ≡ None) P → ((x : value.Value) → P x → option_map value_means r ≡ joined (Some (value_means x)) item)
    → option_map value_means r ≡ joined (option_map value_means list) item
joined_by None r item P h next = ap (option_map value_means) h
joined_by (Some x) r item P h next = next x h

-- ---- the arguments of a call

rest_drops : {A : Type 0} (i : ℕ) (vs : List A) → rest (drop i vs) ≡ drop (suc i) vs
rest_drops zero [] = refl
rest_drops (suc i) [] = refl
rest_drops zero (v ∷ vs) = refl
rest_drops (suc i) (v ∷ vs) = rest_drops i vs

pub rest_drop : {A : Type 0} (i : ℕ) (vs : List A) → rest (drop i vs) ≡ drop (i + 1) vs
rest_drop i vs = rw add-one (rest_drops i vs)

taken_more : (i : ℕ) (vs : List Slot) → i < length vs → map or_empty (take (suc i) vs) ≡ map or_empty (take i vs) ++ top_value (drop i vs) ∷ []
taken_more i [] h = absurd (omega arith)
taken_more zero (v ∷ vs) h = refl
taken_more (suc i) (v ∷ vs) h = ap (λ ws. or_empty v ∷ ws) (taken_more i vs (omega arith))

-- the last i of n arguments xs are what stood on top of the slots vs, the topmost last
pub record Filled (vs : List Slot) (n i : ℕ) (xs : List value.Value) : Type 0 where
  pub size : length xs ≡ 4
  pub last : map value_means (drop (n - i) (take n xs)) ≡ reverse (map or_empty (take i vs))

pub filled_more : (vs : List Slot) (n i : ℕ) (xs : List value.Value) (x : value.Value) → n ≤ 4 → n ≤ length vs → i < n → Filled vs n i xs → value_means x ≡ top_value (drop i vs) → Filled vs n (i + 1) (set xs (n - 1 - i) x)
filled_more vs n i xs x few enough h filled is =
    let at : n - (i + 1) ≡ n - 1 - i = omega arith in
    let next : n - 1 - i + 1 ≡ n - i = omega arith in
    record {
      size = length-set xs (n - 1 - i) x ∙ filled.size;
      last =
          ap (λ k. map value_means (drop k (take n (set xs (n - 1 - i) x)))) at
          ∙ ap (λ ys. map value_means (drop (n - 1 - i) ys)) (take-set-lt n xs (n - 1 - i) x (omega arith))
          ∙ ap (map value_means) (drop-set (take n xs) (n - 1 - i) x (omega (arith, filled.size, length-take n xs)))
          ∙ ap (λ k. value_means x ∷ map value_means (drop k (take n xs))) next
          ∙ ap (λ v. v ∷ map value_means (drop (n - i) (take n xs))) is
          ∙ ap (λ ws. top_value (drop i vs) ∷ ws) filled.last
          ∙ sym (ap (λ k. reverse (map or_empty (take k vs))) (add-one i) ∙ ap reverse (taken_more i vs (omega arith)) ∙ reverse-append (map or_empty (take i vs)) (top_value (drop i vs) ∷ []));
    }

-- all n are there
pub filled_all : (vs : List Slot) (count n i : ℕ) (xs : List value.Value) → n ≡ min count (length vs) → n ≤ i → i ≤ n → Filled vs n i xs → map value_means (take n xs) ≡ arguments_of count vs
filled_all vs count n i xs is le ge filled =
    let zero_at : 0 ≡ n - i = omega arith in
    let same : i ≡ min count (length vs) = omega arith in
    ap (λ k. map value_means (drop k (take n xs))) zero_at ∙ filled.last ∙ ap (λ k. reverse (map or_empty (take k vs))) same ∙ ap (λ ws. reverse (map or_empty ws)) (take_min count vs)

-- and what stood below them is left
pub filled_left : (vs : List Slot) (count n i : ℕ) → n ≡ min count (length vs) → n ≤ i → i ≤ n → drop i vs ≡ drop count vs
filled_left vs count n i is le ge = let same : i ≡ min count (length vs) = omega arith in ap (λ k. drop k vs) same ∙ drop_min count vs

-- ---- a turn: the visit of a node that counts, and then what it does

counts : (w : ℕ) → 0 < w → (w == 0) ≡ false
counts w h = grind (arith, nat_tests)

silent : (w : ℕ) → w ≤ 0 → (w == 0) ≡ true
silent w h = grind (arith, nat_tests)

-- what a node did, told at its place
worked_tells : (L : Limits) (p : ℕ) (t : Result Turn Error) (o : Result ℕ Refusal) (us : List Slot) (s s' : State) → Works t o us → s' ≡ s → told (result_as (λ k. (us, k)) (faulted p o)) s' ≡ outcome_of L p return s t
worked_tells L p (Ok t) o us s s' w same = ap (λ r. told (result_as (λ k. (us, k)) (faulted p r)) s') w.0 ∙ ap (λ vs. done (vs, t.1) s') w.1 ∙ ap (done t) same
worked_tells L p (Err e) o us s s' w same = ap (λ r. told (result_as (λ k. (us, k)) (faulted p r)) s') w ∙ ap (refused (refusal_of e) p) same

module _ (r r₁ : Run) (n : Node) (ns : Names) where
  abbrev act : Program Turn
  act = acted r.values.capacity r.text.now n (slots r)

  abbrev turn : Program Turn
  turn = turned r.values.capacity r.text.now n (slots r)

  visits : 0 < weight n → turn ≡ visit (place_of n) act
  visits h = cond-false _ _ _ (counts (weight n) h)

  -- it acts where the steps and the names are those of r₁, which has the values of r
  acts_from : (r' : Run) (o : Result ℕ Refusal) (answer : Result ℕ Fault) (L : Limits) (paper' : List ℕ) → Works (worked r.values.capacity r.text.now ns n (slots r)) o (slots r') → r'.steps ≡ r₁.steps → answer ≡ faulted (place_of n) o
      → told (result_as (λ k. (slots r', k)) answer) (state r' ns paper') ≡ exec L act (state r₁ ns paper')
  acts_from r' o answer L paper' w same is =
      ap (λ x. told (result_as (λ k. (slots r', k)) x) (state r' ns paper')) is
      ∙ worked_tells L (place_of n) (worked r.values.capacity r.text.now ns n (slots r)) o (slots r') (state r₁ ns paper') (state r' ns paper') w (ap (λ k. record { steps = k; names = ns; paper = paper' }) same)
      ∙ sym (acts L r.values.capacity r.text.now n (slots r) return (state r₁ ns paper')) ∙ ap (λ m. exec L m (state r₁ ns paper')) (bind_return act)

  pub counted_turn : (r' : Run) (o : Result ℕ Refusal) (answer : Result ℕ Fault) → 0 < weight n → Visited (place_of n) r r₁ (Ok tt) → Works (worked r₁.values.capacity r₁.text.now ns n (slots r₁)) o (slots r') → r'.steps ≡ r₁.steps → answer ≡ faulted (place_of n) o
      → Does ns turn r r' (result_as (λ k. (slots r', k)) answer)
  counted_turn r' o answer counts v w same is =
      subst (λ m. Does ns m r r' (result_as (λ k. (slots r', k)) answer)) (sym (visits counts)) (does_visited ns act r' tt (result_as (λ k. (slots r', k)) answer) v (λ L paper' l. acts_from r' o answer L paper' (rw (v.still.capacity, v.still.text, v.values) at w) same is))

  pub refused_turn : (f : Fault) → 0 < weight n → Visited (place_of n) r r₁ (Err f) → Does ns turn r r₁ (Err f)
  refused_turn f counts v = subst (λ m. Does ns m r r₁ (Err f)) (sym (visits counts)) (does_unvisited ns act f v)

-- a silent node acts at once
pub silent_turn : (r r' : Run) (n : Node) (ns : Names) (o : Result ℕ Refusal) (answer : Result ℕ Fault) → weight n ≤ 0 → Works (worked r.values.capacity r.text.now ns n (slots r)) o (slots r') → r'.steps ≡ r.steps → answer ≡ faulted (place_of n) o
    → Does ns (turned r.values.capacity r.text.now n (slots r)) r r' (result_as (λ k. (slots r', k)) answer)
silent_turn r r' n ns o answer quiet w same is L paper' steps =
    acts_from r r n ns r' o answer L paper' w same is ∙ ap (λ m. exec L m (state r ns paper')) (sym (cond-true _ _ _ (silent (weight n) quiet)))
