use Rattle.std.proofs.Common.{◌≡◌, ◌^◌, ◌<◌, true, drop}
use Rattle.numbers.specs.Numbers.{digits, read_on}
use Rattle.numbers.proofs.read.magnitude.Given as goal

abbrev pub invariant-loop-b : goal.invariant-loop-b
invariant-loop-b l = (l.n < 2 ^ 64) × (read_on l.n (drop l.b-index l.bytes) ≡ read_on 0 l.bytes) × (digits (drop l.b-index l.bytes) ≡ true)
