use Rattle.evaluator.specs.Runs.{Valued}
use Rattle.evaluator.proofs.Exits.{broke}
use Rattle.evaluator.proofs.Walking.{kept_on, all_done, one_refused}
use Rattle.meaning.specs.Meaning.{expression}
use Rattle.evaluator.proofs.run.Run.expression.Goals as goal

pub returns-in_err-skipped-clause-valued : goal.returns-in_err-skipped-clause-valued
returns-in_err-skipped-clause-valued g c e fits =
    let ns = g.S.Store.names c.args.store.now in
    let r = c.args.self.now in
    broke (Valued ns (expression r.text.now e) r c.turn.new.self) _ _ c.from_residual.ensures.1
    (one_refused ns r c.loop-node.self c.turn.new.self c.args.nodes.now c.loop-node.left.now c.in-Some.node.now c.in-Some.more.now c.in_err-skipped.field-0.0 c.loop-node.invariant c.in-Some.ensures.cases.0
    c.in_err-skipped.ensures.does e fits)

pub loop-node-preserved : goal.loop-node-preserved
loop-node-preserved g c =
    kept_on (g.S.Store.names c.args.store.now) c.args.self.now c.loop-node.self c.turn.new.self c.args.nodes.now c.loop-node.left.now c.in-Some.node.now c.in-Some.more.now c.behind-left.result.now c.in_ok-skipped.skipped
    c.loop-node.invariant c.in-Some.ensures.cases.0 c.behind-left.ensures c.in_ok-skipped.ensures.still c.in_ok-skipped.ensures.does

pub returns-clause-valued : goal.returns-clause-valued
returns-clause-valued g c =
    all_done (g.S.Store.names c.args.store.now) c.args.self.now c.loop-node.self c.args.nodes.now c.loop-node.left.now tt c.loop-node.invariant c.in_default.ensures.cases
