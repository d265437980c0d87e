use Rattle.std.proofs.Common.{sym, ◌∙◌, arith}
use Rattle.std.proofs.lemmas.List.{at_drop_all}
use Rattle.numbers.specs.Numbers.{read_on}
use Rattle.numbers.proofs.Digits.{next_grows}
use Rattle.numbers.proofs.read.magnitude.Goals as goal

pub returns-in_err-checked_mul : goal.returns-in_err-checked_mul
returns-in_err-checked_mul c =
    let l = c.loop-b in
    rw c.from_residual.ensures (λ small. c.in_err-checked_mul.ensures (omega (arith, l.invariant.1, next_grows l.n c.args.bytes.now l.b-index c.loop-b-test.true)))

pub returns-in_err-n : goal.returns-in_err-n
returns-in_err-n c =
    let l = c.loop-b in
    rw c.from_residual-in_err-n.ensures (λ small. c.in_err-n.ensures (omega (arith, l.invariant.1, next_grows l.n c.args.bytes.now l.b-index c.loop-b-test.true)))

pub returns : goal.returns
returns c =
    let l = c.loop-b in
    let all = sym (at_drop_all (read_on l.n) c.args.bytes.now l.b-index c.loop-b-test.false) ∙ l.invariant.1 in
    (omega arith, all)
