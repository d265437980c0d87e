use Rattle.std.proofs.Common.{◌≤◌, length, subst}
use Rattle.evaluator.proofs.Printing.{holds, small, ran, begun_leaves}
use Rattle.evaluator.proofs.print.Goals as goal

pub returns-then-memory-template-clause-printed : goal.returns-then-memory-template-clause-printed
returns-then-memory-template-clause-printed g c = λ b f. small g.S.Store g.P.Printer _ b _ _ _ _ _ (holds _ _ _ b c.args.template.now.held f).1 c.if-memory-template.true

pub returns-clause-printed : goal.returns-clause-printed
returns-clause-printed g c = λ b f.
    let h = holds _ _ _ b c.args.template.now.held f in
    let fits = subst (λ n. n ≤ length c.args.memory.now) h.1 c.if-memory-template.false in
    ran g.S.Store g.P.Printer _ b _ _ _ _ _ _ _ _ _ c.new-run.ensures fits (c.block-answer.ensures.ran b (begun_leaves _ _ _ _ _ b c.new-run.ensures f h.0 fits)).0
