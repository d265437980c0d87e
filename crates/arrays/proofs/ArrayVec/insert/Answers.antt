use Rattle.std.proofs.Common.{◌≡◌, true, false, ltb, leb, length, take, sym, ◌∙◌, arith, length-take}
use Rattle.std.proofs.lemmas.Bool.{lt-ltb, le-ltb, le-leb, and_from, cond-true}
use Rattle.arrays.proofs.Turned.{take-turned_right}
use Rattle.arrays.proofs.ArrayVec.insert.Goals as goal

pub returns : goal.returns
returns g c =
    let s = c.args.self.now in
    let xs = take s.len s.slots in
    let long : length xs ≡ s.len = simp length-take (omega arith) in
    let near : leb c.args.at (length xs) ≡ true = le-leb _ _ (omega arith) in
    let there : ltb (length xs) c.args.at ≡ false = le-ltb _ _ (omega arith) in
    let room : ltb (length xs) g.row.N ≡ true = lt-ltb _ _ (omega arith) in
    record {
      answer = rw (there, room);
      left = take-turned_right s.slots c.rotate_right.new.self c.args.at s.len c.args.x (omega arith) (omega arith) c.rotate_right.ensures.after ∙ sym (cond-true _ _ _ (and_from _ _ near room));
    }
