use Rattle.std.proofs.Common.{◌≡◌, ◌≤◌, take, drop}
use Rattle.values.specs.Given.{lawful_elements, elements_of}
use Rattle.values.specs.Means.{value_means}
use Rattle.values.proofs.judge.ValueTryFromRefSliceGiven.try_from.Given as goal

abbrev pub invariant-loop-g : goal.invariant-loop-g
invariant-loop-g l = record {
  few : l.g-index ≤ 16;
  so_far : value_means l.value ≡ elements_of (take l.g-index l.given);
  lawful : lawful_elements (drop l.g-index l.given) ≡ lawful_elements l.given;
}
