use Rattle.std.proofs.Common.{◌≡◌, pos, ◌+ℤ◌, w64, to_z, of_z, Err, ap, ◌∙◌, inr, arith}
use Rattle.std.proofs.lemmas.Int.{ints, to_z-of_z}
use Rattle.refusals.specs.Refusals.{meant}
use Rattle.refusals.proofs.Answered.{handed_on}
use Rattle.values.specs.Means.{value_means}
use Rattle.operations.proofs.Guards.{made, refused}
use Rattle.operations.proofs.Ranges.{empty, more, all, too_many}
use Rattle.operations.proofs.calls.range.Goals as goal

pub returns-in_err-push : goal.returns-in_err-push
returns-in_err-push c =
    let a = to_z-of_z w64 c.args.a c.ranges.a in
    let b = to_z-of_z w64 c.args.b c.ranges.b in
    let l = c.loop-n.invariant in
    let r = refused _ _ _ _ _ _ _ c.push.ensures c.in_err-push.was in
    ap (meant value_means) (handed_on c.in_err-push.field-0.0 c.from_residual.result c.from_residual.ensures.1) ∙ ap Err r.1
    ∙ too_many c.args.a (to_z w64 c.loop-n.n-bits) c.args.b (rw a at l.from) (rw b at c.loop-n-test.true) (value_means c.loop-n.value) (rw a at l.so_far) r.0

pub loop-n-preserved : goal.loop-n-preserved
loop-n-preserved c =
    let a = to_z-of_z w64 c.args.a c.ranges.a in
    let b = to_z-of_z w64 c.args.b c.ranges.b in
    let n : to_z w64 (of_z w64 (to_z w64 c.loop-n.n-bits +ℤ pos 1)) ≡ to_z w64 c.loop-n.n-bits +ℤ pos 1 = omega (arith, ints) in
    let l = c.loop-n.invariant in
    let p = made _ _ _ _ _ _ _ c.push.ensures c.in_ok-push.was in
    record {
      from = omega (arith, ints);
      to = inr (omega (arith, ints));
      so_far = rw (a, n) (more c.args.a (to_z w64 c.loop-n.n-bits) c.args.b (rw a at l.from) (rw b at c.loop-n-test.true) (value_means c.loop-n.value) (rw a at l.so_far) (value_means c.push.new.self) p.1);
    }

pub returns : goal.returns
returns c =
    let a = to_z-of_z w64 c.args.a c.ranges.a in
    let b = to_z-of_z w64 c.args.b c.ranges.b in
    let l = c.loop-n.invariant in
    empty c.args.a c.args.b (to_z w64 c.loop-n.n-bits) (value_means c.loop-n.value) (rw (a, b) at l.to) (rw b at c.loop-n-test.false) (rw a at l.so_far)

pub returns-in_ok-push : goal.returns-in_ok-push
returns-in_ok-push c =
    let a = to_z-of_z w64 c.args.a c.ranges.a in
    let b = to_z-of_z w64 c.args.b c.ranges.b in
    let l = c.loop-n.invariant in
    let p = made _ _ _ _ _ _ _ c.push.ensures c.in_ok-push.was in
    all c.args.a (to_z w64 c.loop-n.n-bits) c.args.b (rw a at l.from) (rw b at c.loop-n-test.true) (value_means c.loop-n.value) (rw a at l.so_far) (value_means c.push.new.self) (omega (arith, ints)) p.0 p.1
