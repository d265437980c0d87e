use Rattle.std.proofs.Common.{◌≡◌, ◌++◌, false, drop}
use Rattle.arrays.specs.Items.{items}
use Rattle.meaning.specs.Constants.{unescaped}
use Rattle.evaluator.proofs.constants.unescape.Given as goal

abbrev pub invariant-loop-b : goal.invariant-loop-b
invariant-loop-b l = unescaped false l.fn.bytes ≡ items l.text ++ unescaped l.escape (drop l.b-index l.fn.bytes)
