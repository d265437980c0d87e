use Rattle.std.proofs.Common.{◌<◌, arith}
use Rattle.arrays.proofs.Turned.{take-turned_left}
use Rattle.arrays.proofs.Exchange.{took}
use Rattle.arrays.proofs.ArrayVec.remove.Goals as goal

pub returns : goal.returns
returns g c =
    let s = c.args.self.now in
    let read = c.in_ok-x.ensures.lookup in
    took c.as_slice.result.now s.slots _ _ s.len c.args.at c.in_ok-x.field-0.now c.as_slice.ensures read.0 read.1
    (λ (l : c.args.at < s.len). take-turned_left s.slots c.rotate_left.new.self c.args.at s.len l (omega arith) c.rotate_left.ensures.after)
