use Rattle.std.proofs.Common.{Err, ap, ◌∙◌}
use Rattle.refusals.specs.Refusals.{meant}
use Rattle.refusals.proofs.Answered.{handed_on}
use Rattle.values.specs.Means.{value_means}
use Rattle.operations.proofs.Guards.{made, refused}
use Rattle.operations.proofs.Elements.{appended, over}
use Rattle.operations.proofs.calls.append.Goals as goal

pub returns-in_err-append : goal.returns-in_err-append
returns-in_err-append c =
    let r = refused _ _ _ _ _ _ _ c.append.ensures c.in_err-append.was in
    ap (meant value_means) (handed_on c.in_err-append.field-0.0 c.from_residual.result c.from_residual.ensures.1) ∙ ap Err r.1
    ∙ over c.args.arguments.now c.loop-argument.argument-index c.argument-item.result c.loop-argument-test.true c.argument-item.is (value_means c.loop-argument.value) c.loop-argument.invariant r.0

pub loop-argument-preserved : goal.loop-argument-preserved
loop-argument-preserved c =
    let p = made _ _ _ _ _ _ _ c.append.ensures c.in_ok-append.was in
    appended c.args.arguments.now c.loop-argument.argument-index c.argument-item.result c.loop-argument-test.true c.argument-item.is (value_means c.loop-argument.value) c.loop-argument.invariant (value_means c.append.new.self) p.1
