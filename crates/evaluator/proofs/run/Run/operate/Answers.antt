use Rattle.std.proofs.Common.{◌≡◌, arith, w64, to_z, of_z}
use Rattle.std.proofs.lemmas.Int.{ints}
use Rattle.refusals.proofs.Answered.{handed_on}
use Rattle.stacks.specs.Stacked.{rest}
use Rattle.meaning.specs.Meaning.{binary_value}
use Rattle.operations.specs.Operators.{value_of}
use Rattle.evaluator.specs.Runs.{slots}
use Rattle.evaluator.specs.Turns.{top_value}
use Rattle.evaluator.proofs.Acting.{gave, gave_none, right_refused, operated, not_operated}
use Rattle.evaluator.proofs.run.Run.operate.Goals as goal

pub returns-in_err-right-clause-gives : goal.returns-in_err-right-clause-gives
returns-in_err-right-clause-gives c =
    let s = slots c.args.self.now in
    let f = c.in_err-right.field-0.0 in
    gave_none c.args.self.now.values.capacity (binary_value c.args.op (top_value (rest s)) (top_value s)) (rest (rest s)) f c.from_residual-in_err-right.result (slots c.pop-left.new.self)
    (right_refused c.args.op (top_value (rest s)) (top_value s) c.in_ok-left.left f (rw (c.pop-left.ensures.answer, c.pop-right.ensures.values) at c.in_ok-left.ensures) (rw c.pop-right.ensures.answer at c.in_err-right.ensures))
    (handed_on f c.from_residual-in_err-right.result c.from_residual-in_err-right.ensures.1)

pub returns-in_err-binary-clause-gives : goal.returns-in_err-binary-clause-gives
returns-in_err-binary-clause-gives c =
    let a : to_z w64 (of_z w64 c.in_ok-left.left) ≡ c.in_ok-left.left = omega (arith, ints) in
    let b : to_z w64 (of_z w64 c.in_ok-right.right) ≡ c.in_ok-right.right = omega (arith, ints) in
    let s = slots c.args.self.now in
    let f = c.in_err-binary.field-0.0 in
    gave_none c.args.self.now.values.capacity (binary_value c.args.op (top_value (rest s)) (top_value s)) (rest (rest s)) f c.from_residual-in_err-binary.result (slots c.pop-left.new.self)
    (not_operated c.args.op (top_value (rest s)) (top_value s) c.in_ok-left.left c.in_ok-right.right (rw (c.pop-left.ensures.answer, c.pop-right.ensures.values) at c.in_ok-left.ensures) (rw c.pop-right.ensures.answer at c.in_ok-right.ensures) f (rw (a, b) at c.in_err-binary.ensures.answer))
    (handed_on f c.from_residual-in_err-binary.result c.from_residual-in_err-binary.ensures.1)

pub returns-clause-gives : goal.returns-clause-gives
returns-clause-gives c =
    let a : to_z w64 (of_z w64 c.in_ok-left.left) ≡ c.in_ok-left.left = omega (arith, ints) in
    let b : to_z w64 (of_z w64 c.in_ok-right.right) ≡ c.in_ok-right.right = omega (arith, ints) in
    let d : to_z w64 (of_z w64 c.in_ok-binary.field-0) ≡ c.in_ok-binary.field-0 = omega (arith, ints) in
    let s = slots c.args.self.now in
    let n = c.in_ok-binary.field-0 in
    gave c.args.self.now.values.capacity (binary_value c.args.op (top_value (rest s)) (top_value s)) (rest (rest s)) (value_of n) c.give.result (slots c.give.new.self)
    (operated c.args.op (top_value (rest s)) (top_value s) c.in_ok-left.left c.in_ok-right.right (rw (c.pop-left.ensures.answer, c.pop-right.ensures.values) at c.in_ok-left.ensures) (rw c.pop-right.ensures.answer at c.in_ok-right.ensures) n (rw (a, b) at c.in_ok-binary.ensures.answer))
    (c.give.ensures.gives.0, cc)
