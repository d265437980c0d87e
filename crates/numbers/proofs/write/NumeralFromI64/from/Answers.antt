use Rattle.std.proofs.Common.{◌≡◌, ◌-◌, ◌+◌, sym, arith, rules, w64, append-nil}
use Rattle.std.proofs.lemmas.Fmt.{length-decimal-le}
use Rattle.std.proofs.lemmas.Int.{to_z-of_z}
use Rattle.std.proofs.lemmas.List.{drop-set}
use Rattle.numbers.proofs.Digits.{signed_below, signed_above}
use Rattle.numbers.proofs.write.NumeralFromI64.from.Goals as goal
use Rattle.numbers.proofs.write.NumeralFromI64.from.Goals.{then-n-lt0, else-n-lt0}

pub write_digits-start-requires : goal.write_digits-start-requires
write_digits-start-requires c = search (rules, length-decimal-le 20)

pub overflow_sub-start : goal.overflow_sub-start
overflow_sub-start c = omega (arith, length-decimal-le 19 c.unsigned_abs.result (omega arith) (omega arith) (omega arith))

pub returns : goal.returns
returns c =
    let d = c.write_digits-start in
    let is = to_z-of_z w64 c.args.n c.ranges.n in
    let long = length-decimal-le 19 c.unsigned_abs.result (omega arith) (omega arith) (omega arith) in
    let at : d.result - 1 + 1 ≡ d.result = omega arith in
    elim c.if-n-lt0.branch [
      | then-n-lt0 w ↦ rw (w.bytes-is, w.start-is, drop-set d.new.buf (d.result - 1) _ (omega arith), at, d.ensures.written, append-nil, c.unsigned_abs.ensures.value, is) (sym (signed_below c.args.n (rw is at w.if-n-lt0.true)))
      | else-n-lt0 w ↦ rw (w.bytes-is, w.start-is, d.ensures.written, append-nil, c.unsigned_abs.ensures.value, is) (sym (signed_above c.args.n (rw is at w.if-n-lt0.false)))
    ]
