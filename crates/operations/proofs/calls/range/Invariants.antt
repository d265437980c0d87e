use Rattle.std.proofs.Common.{◌≡◌, ◌⊎◌, ◌≤ℤ◌}
use Rattle.std.specs.Int.{int_gap}
use Rattle.values.specs.Means.{value_means}
use Rattle.operations.specs.Functions.{numbers_from}
use Rattle.operations.proofs.calls.range.Given as goal

abbrev pub invariant-loop-n : goal.invariant-loop-n
invariant-loop-n l = record {
  from : l.a ≤ℤ l.n;
  to : (l.n ≡ l.a) ⊎ (l.n ≤ℤ l.b);
  so_far : value_means l.value ≡ numbers_from l.a (int_gap l.a l.n);
}
