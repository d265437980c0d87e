use Rattle.std.proofs.Common.{◌≡◌, ◌<◌, ◌^◌}
use Rattle.values.specs.Means.{value_means}
use Rattle.operations.specs.Functions.{Onwards}
use Rattle.operations.proofs.Sequences.{numbers_at}
use Rattle.operations.proofs.lists.sequence.Given as goal

abbrev pub invariant-loop-i : goal.invariant-loop-i
invariant-loop-i l = Onwards l.first l.second l.last → l.first < 2 ^ 63 → l.last < 2 ^ 63 → value_means l.value ≡ numbers_at l.first l.second 0 l.i
