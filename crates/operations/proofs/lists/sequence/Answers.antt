use Rattle.std.proofs.Common.{Err, ap, ◌∙◌, arith}
use lib.ListN.{length-map}
use Rattle.std.proofs.lemmas.Int.{ints}
use Rattle.refusals.specs.Refusals.{meant}
use Rattle.refusals.proofs.Answered.{handed_on}
use Rattle.arrays.specs.Items.{few}
use Rattle.values.specs.Means.{value_means}
use Rattle.operations.proofs.Guards.{made, refused}
use Rattle.operations.proofs.Sequences.{more, too_many, arrived}
use Rattle.operations.proofs.lists.sequence.Goals as goal

pub returns-in_err-push-clause-answer : goal.returns-in_err-push-clause-answer
returns-in_err-push-clause-answer c = λ on f l.
    let r = refused _ _ _ _ _ _ _ c.push.ensures c.in_err-push.was in
    ap (meant value_means) (handed_on c.in_err-push.field-0.0 c.from_residual.result c.from_residual.ensures.1) ∙ ap Err r.1
    ∙ too_many c.args.first c.args.second c.args.last on f l c.sequence_length-i-end.result c.sequence_length-i-end.ensures c.loop-i.i (value_means c.loop-i.value) (c.loop-i.invariant on f l) c.loop-i-test.true r.0

pub loop-i-preserved : goal.loop-i-preserved
loop-i-preserved c = λ on f l.
    let p = made _ _ _ _ _ _ _ c.push.ensures c.in_ok-push.was in
    more c.args.first c.args.second c.args.last on f l c.sequence_length-i-end.result c.sequence_length-i-end.ensures c.loop-i.i (value_means c.loop-i.value) (c.loop-i.invariant on f l) _ (value_means c.push.new.self) c.loop-i-test.true (λ h. omega (arith, ints, c.sequence_number.ensures.up h)) (λ h. omega (arith, ints, c.sequence_number.ensures.down h)) p.1

pub returns-clause-answer : goal.returns-clause-answer
returns-clause-answer c = λ on f l.
    arrived c.args.first c.args.second c.args.last on f l c.sequence_length-i-end.result c.sequence_length-i-end.ensures c.loop-i.i (value_means c.loop-i.value) (c.loop-i.invariant on f l) (omega arith) c.loop-i-test.false (rw length-map (few c.loop-i.value.elements))
