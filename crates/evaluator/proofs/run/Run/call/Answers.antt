use Rattle.std.proofs.Common.{◌≡◌, ◌≤◌, rules, min, length, drop, ◌∙◌, ap, arith}
use Rattle.std.proofs.lemmas.List.{length-map}
use Rattle.std.specs.Option.{option_map}
use Rattle.stacks.specs.Stacked.{rest}
use Rattle.refusals.proofs.Answered.{handed_on}
use Rattle.operations.specs.Functions.{call}
use Rattle.values.specs.Means.{value_means}
use Rattle.evaluator.specs.Runs.{slots}
use Rattle.evaluator.specs.Turns.{arguments_of}
use Rattle.evaluator.proofs.Acting.{gave, gave_none, rest_drop, filled_more, filled_all, filled_left}
use Rattle.evaluator.proofs.run.Run.call.Goals as goal

pub loop-i-preserved : goal.loop-i-preserved
loop-i-preserved c =
    let l = c.loop-i.invariant in
    let vs = slots c.args.self.now in
    let room : c.min-count.result ≤ length vs = omega (arith, length-map c.args.self.now.values.items (option_map value_means), c.len.ensures.value) in
    record {
      values = search rules;
      left = c.pop.ensures.values ∙ ap rest l.left ∙ rest_drop c.loop-i.i vs;
      filled = filled_more vs c.min-count.result c.loop-i.i c.loop-i.arguments c.pop.result (omega arith) room c.loop-i-test.true l.filled (rw l.left at c.pop.ensures.answer);
    }

pub returns-in_err-call-clause-gives : goal.returns-in_err-call-clause-gives
returns-in_err-call-clause-gives c few =
    let vs = slots c.args.self.now in
    let n = c.args.count in
    let f = c.in_err-call.field-0.0 in
    let e : c.min-count.result ≡ min n (length vs) = omega (arith, length-map c.args.self.now.values.items (option_map value_means), c.len.ensures.value) in
    let all = filled_all vs n c.min-count.result c.loop-i.i c.loop-i.arguments e c.loop-i-test.false (omega arith) c.loop-i.invariant.filled in
    gave_none c.args.self.now.values.capacity (call c.args.function (arguments_of n vs)) (drop n vs) f c.from_residual.result (slots c.loop-i.self)
    (rw all at c.in_err-call.ensures) (handed_on f c.from_residual.result c.from_residual.ensures.1)

pub returns-clause-gives : goal.returns-clause-gives
returns-clause-gives c few =
    let vs = slots c.args.self.now in
    let n = c.args.count in
    let e : c.min-count.result ≡ min n (length vs) = omega (arith, length-map c.args.self.now.values.items (option_map value_means), c.len.ensures.value) in
    let all = filled_all vs n c.min-count.result c.loop-i.i c.loop-i.arguments e c.loop-i-test.false (omega arith) c.loop-i.invariant.filled in
    let left = c.loop-i.invariant.left ∙ filled_left vs n c.min-count.result c.loop-i.i e c.loop-i-test.false (omega arith) in
    gave c.args.self.now.values.capacity (call c.args.function (arguments_of n vs)) (drop n vs) (value_means c.in_ok-call.field-0) c.give.result (slots c.give.new.self)
    (rw all at c.in_ok-call.ensures) (rw (left, c.loop-i.invariant.values.capacity) at c.give.ensures.gives)
