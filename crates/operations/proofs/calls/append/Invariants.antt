use Rattle.std.proofs.Common.{◌≡◌, map, take}
use Rattle.values.specs.Means.{value_means}
use Rattle.operations.specs.Functions.{all_elements}
use Rattle.operations.proofs.calls.append.Given as goal

abbrev pub invariant-loop-argument : goal.invariant-loop-argument
invariant-loop-argument l = value_means l.value ≡ all_elements (take l.argument-index (map value_means l.arguments))
