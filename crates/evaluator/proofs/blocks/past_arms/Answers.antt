use Rattle.std.proofs.Common.{sym, ap, ◌∙◌, length, length-drop, arith}
use Rattle.evaluator.proofs.Shapes.{past_end, past_elif, past_else}
use Rattle.evaluator.proofs.blocks.past_arms.Goals.{in-Elif, in-Else}
use Rattle.evaluator.proofs.blocks.past_arms.Goals as goal

pub returns-in_default-node-clause-past : goal.returns-in_default-node-clause-past
returns-in_default-node-clause-past c r ns e =
    let a = c.loop-node.invariant.1 r ns e in
    past_end a.0 ns _ _ (sym c.in-Some.ensures.cases.0 ∙ a.1) c.in_default-node.not-Elif c.in_default-node.not-Else

pub loop-node-preserved : goal.loop-node-preserved
loop-node-preserved c = (
  omega (arith, ap length c.behind-left.ensures, length-drop c.match-node.size c.in-Some.more.now, c.in-Some.ensures.cases.1),
  λ r ns e.
      let a = c.loop-node.invariant.1 r ns e in
      let left = sym c.in-Some.ensures.cases.0 ∙ a.1 in
      elim c.match-node.branch [
        | in-Elif w ↦ past_elif a.0 ns _ _ _ _ _ _ _ left w.in-Elif.is (omega arith) c.behind-left.ensures
        | in-Else w ↦ past_else a.0 ns _ _ _ _ _ left w.in-Else.is (w.size-is ∙ w.from-size.ensures) c.behind-left.ensures
      ],
)
