use Rattle.std.proofs.Common.{◌≡◌, [], length}
use Rattle.values.specs.Means.{value_means}
use Rattle.cards.specs.Lines.{pieces, elements_in}
use Rattle.cards.proofs.line.read_value.Given as goal

-- what is left gives the elements of all
abbrev pub invariant-loop-piece : goal.invariant-loop-piece
invariant-loop-piece l = elements_in (value_means l.value) (pieces l.rest) ≡ elements_in [] (pieces l.bytes)

abbrev pub decreases-loop-piece : goal.decreases-loop-piece
decreases-loop-piece l = length l.rest
