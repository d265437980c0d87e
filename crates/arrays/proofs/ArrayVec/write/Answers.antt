use lib.Seq.{take-set-lt}
use Rattle.arrays.proofs.Exchange.{took}
use Rattle.arrays.proofs.ArrayVec.write.Goals as goal

pub returns : goal.returns
returns g c =
    let s = c.args.self.now in
    let read = c.in_ok-had.ensures.lookup in
    took c.as_slice.result.now s.slots _ _ s.len c.args.at c.in_ok-had.field-0.now c.as_slice.ensures read.0 read.1 (take-set-lt s.len s.slots c.args.at c.args.x)
