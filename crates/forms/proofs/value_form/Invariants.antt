use Rattle.std.proofs.Common.{◌≡◌, ◌-◌, ◌*◌, ◌≤◌, length, take}
use Rattle.arrays.specs.Items.{items}
use Rattle.values.specs.Forms.{value_form}
use Rattle.values.specs.Means.{value_means}
use Rattle.forms.proofs.value_form.Given as goal

abbrev pub invariant-loop-i : goal.invariant-loop-i
invariant-loop-i l = record {
  written : items l.bytes ≡ value_form (take l.i (value_means l.value));
  short : length (items l.bytes) ≤ 33 * l.i - 1;
}
