-- No print sees that the tests of a WHILE are bounded. Assumes nothing.
use Rattle.std.proofs.Common.{◌≡◌, ℕ, zero, suc, ◌+◌, ◌^◌, ◌<◌, ◌≤◌, Bool, true, false, cond, List, sym, refl, ap, ◌∙◌, arith}
use Rattle.std.specs.Prelude.{nat_lt}
use Rattle.std.proofs.lemmas.Bool.{le-ltb, cond-false}
use Rattle.refusals.specs.declared.Refusal.TheVariants.{OutOfSteps}
use Rattle.trees.specs.Tree.{Expr, Block, Statement}
use Rattle.effects.specs.Effects.{Program, return, visit, ◌>>=◌, Limits, State, visited, Outcome, done, refused, exec, state_of, Print}
use Rattle.effects.proofs.Programs.{exec_bind, on}
use Rattle.effects.proofs.Runs.{gets_more}
use Rattle.meaning.specs.Meaning.{test, most_tests, repeat, block, statement}
use Rattle.meaning.specs.Laws.{BoundUnseen}

-- two ways on from where a run ended are the same, if they are from every state with no fewer steps than it began with
on_alike : {A B : Type 0} (L : Limits) (n : ℕ) (f g : A → Program B) (o : Outcome A) → n ≤ (state_of o).steps
    → ((a : A) (t : State) → n ≤ t.steps → exec L (f a) t ≡ exec L (g a) t) → on L o f ≡ on L o g
on_alike L n f g (done a t) le h = h a t le
on_alike L n f g (refused r p t) le h = refl

-- two programs that begin alike are the same, if they go on the same from every state in which the beginning may end
then_alike : {A B : Type 0} (L : Limits) (m : Program A) (f g : A → Program B) (s : State)
    → ((a : A) (t : State) → s.steps ≤ t.steps → exec L (f a) t ≡ exec L (g a) t) → exec L (m >>= f) s ≡ exec L (m >>= g) s
then_alike L m f g s h = exec_bind L m f s ∙ on_alike L s.steps f g (exec L m s) (gets_more L m s).steps h ∙ sym (exec_bind L m g s)

visit_alike : {A : Type 0} (L : Limits) (p : ℕ) (m m' : Program A) (s : State) → exec L m (visited s) ≡ exec L m' (visited s) → exec L (visit p m) s ≡ exec L (visit p m') s
visit_alike L p m m' s h = ap (λ o. cond (nat_lt s.steps L.steps) o (refused OutOfSteps p s)) h

-- where no step is left, a WHILE is refused at its next visit; each of its tests begins with one
stopped : (L : Limits) (q n : ℕ) (c : Program Bool) (m : Print) (s : State) → L.steps ≤ s.steps → exec L (repeat n q (visit q c) m) s ≡ refused OutOfSteps q s
stopped L q zero c m s le = cond-false _ _ _ (le-ltb s.steps L.steps le)
stopped L q (suc n) c m s le = cond-false _ _ _ (le-ltb s.steps L.steps le)

-- the block and some rest, where a test holds
abbrev then_block : Print → Print → Bool → Print
then_block m r b = cond b (m >>= λ u. r) (return tt)

-- a test, and what comes where it holds
abbrev tested : ℕ → Program Bool → Print → Print → Print
tested q c m r = visit q c >>= then_block m r

block_alike : (L : Limits) (m r r' : Print) (b : Bool) (s : State) → ((t : State) → s.steps ≤ t.steps → exec L r t ≡ exec L r' t) → exec L (then_block m r b) s ≡ exec L (then_block m r' b) s
block_alike L m r r' true s h = then_alike L m (λ u. r) (λ u. r') s (λ u t le. h t le)
block_alike L m r r' false s h = refl

test_alike : (L : Limits) (q : ℕ) (c : Program Bool) (m r r' : Print) (s : State) → ((t : State) → s.steps < t.steps → exec L r t ≡ exec L r' t) → exec L (tested q c m r) s ≡ exec L (tested q c m r') s
test_alike L q c m r r' s h =
    visit_alike L q (c >>= then_block m r) (c >>= then_block m r') s
    (then_alike L c (then_block m r) (then_block m r') (visited s) (λ b t le. block_alike L m r r' b t (λ t' le'. h t' (omega arith))))

-- with no fewer tests than there are steps left, it does not matter how many there are
more : (L : Limits) (q n n' : ℕ) (c : Program Bool) (m : Print) (s : State) → L.steps ≤ n + s.steps → L.steps ≤ n' + s.steps → exec L (repeat n q (visit q c) m) s ≡ exec L (repeat n' q (visit q c) m) s
more L q zero n' c m s le le' = stopped L q zero c m s (omega arith) ∙ sym (stopped L q n' c m s (omega arith))
more L q (suc n) zero c m s le le' = stopped L q (suc n) c m s (omega arith) ∙ sym (stopped L q zero c m s (omega arith))
more L q (suc n) (suc n') c m s le le' = test_alike L q c m (repeat n q (visit q c) m) (repeat n' q (visit q c) m) s (λ t lt. more L q n n' c m t (omega arith) (omega arith))

-- a limit of 32 bits leaves no more steps than there are tests
enough : (n : ℕ) → n < 2 ^ 32 → n ≤ most_tests
unfolding most_tests
enough n lt = omega arith

goes_on : (text : List ℕ) (q j : ℕ) (c : Expr) (b : Block) (q' j' : ℕ) (L : Limits) (s : State) → L.steps < 2 ^ 32
    → exec L (statement text (Statement.while q j c b q' j')) s ≡ exec L (test text q c >>= λ yes. cond yes (block text b >>= λ u. statement text (Statement.while q j c b q' j')) (return tt)) s
unfolding block
goes_on text q j c b q' j' L s lt = let h = enough L.steps lt in more L q most_tests (suc most_tests) _ (block text b) s (omega arith) (omega arith)

pub bound_unseen : BoundUnseen
bound_unseen = record {
  more_tests = λ text q c m n L s lt le. let h = enough L.steps lt in more L q n most_tests _ m s (omega arith) (omega arith);
  goes_on = goes_on;
}
