-- Laws of a template's meaning. Assumes nothing.
use Rattle.std.specs.Prelude.{◌≡◌, ℕ, ◌^◌, ◌<◌, ◌≤◌, cond, List}
use Rattle.effects.specs.Effects.{return, ◌>>=◌, Limits, State, exec, Print}
use Rattle.meaning.specs.Meaning.{test, most_tests, repeat, block, statement}
use Rattle.trees.specs.Tree.{Expr, Block, Statement}

-- No print sees that the tests of a WHILE are bounded, since a limit on steps has 32 bits.
pub record BoundUnseen : Type 0 where
  -- a bound above it makes no difference
  pub more_tests :
      (text : List ℕ) (q : ℕ) (c : Expr) (m : Print) (n : ℕ) (L : Limits) (s : State) → L.steps < 2 ^ 32 → most_tests ≤ n →
      exec L (repeat n q (test text q c) m) s ≡ exec L (repeat most_tests q (test text q c) m) s
  -- a WHILE is its test and, where that holds, its block and then the whole WHILE again
  pub goes_on :
      (text : List ℕ) (q j : ℕ) (c : Expr) (b : Block) (q' j' : ℕ) (L : Limits) (s : State) → L.steps < 2 ^ 32 →
      let again = statement text (Statement.while q j c b q' j') in
      exec L again s ≡ exec L (test text q c >>= λ yes. cond yes (block text b >>= λ u. again) (return tt)) s
