use Rattle.std.proofs.Common.{Ok, Err}
use Rattle.evaluator.proofs.Exits.{broke}
use Rattle.evaluator.proofs.Kept.{still_then}
use Rattle.evaluator.proofs.Composing.{visited_valued}
use Rattle.evaluator.proofs.Instructed.{assigns_fit, assign_unvisited, assign_refused, assign_untargeted, assigned}
use Rattle.evaluator.specs.Blocks.{Sets}
use Rattle.evaluator.specs.Runs.{Level}
use Rattle.meaning.specs.Meaning.{statement}
use Rattle.trees.specs.Tree.{Statement}
use Rattle.evaluator.proofs.run.Run.assign.Goals as goal

pub returns-in_err-visit-clause-sets : goal.returns-in_err-visit-clause-sets
returns-in_err-visit-clause-sets g c k e fits =
    let a = c.args in
    let r = c.visit.new.self in
    broke (λ o. Sets g.S.Store (statement a.self.now.text.now (Statement.assign a.place k e)) a.self.now r a.store.now a.store.now o × Level a.self.now r o) _ _ c.from_residual.ensures.1
    (assign_unvisited g.S.Store k e a.store.now c.in_err-visit.ensures, tt)

pub returns-in_err-expression-clause-sets : goal.returns-in_err-expression-clause-sets
returns-in_err-expression-clause-sets g c k e fits =
    let a = c.args in
    let r = c.expression.new.self in
    let f = c.in_err-expression.field-0.0 in
    broke (λ o. Sets g.S.Store (statement a.self.now.text.now (Statement.assign a.place k e)) a.self.now r a.store.now a.store.now o × Level a.self.now r o) _ _ c.from_residual-in_err-expression.ensures.1
    (assign_refused g.S.Store a.place k e a.self.now r a.store.now f (visited_valued (g.S.Store.names a.store.now) r (Err f) tt c.in_ok-visit.ensures (assigns_fit k fits) c.in_err-expression.ensures.valued), tt)

pub returns-in_err-key-clause-sets : goal.returns-in_err-key-clause-sets
returns-in_err-key-clause-sets g c k e fits =
    let a = c.args in
    let r = c.expression.new.self in
    let w = visited_valued (g.S.Store.names a.store.now) r (Ok tt) tt c.in_ok-visit.ensures (assigns_fit k fits) c.in_ok-expression.ensures.valued in
    broke (λ o. Sets g.S.Store (statement a.self.now.text.now (Statement.assign a.place k e)) a.self.now c.target.new.self a.store.now a.store.now o × Level a.self.now c.target.new.self o) _ _ c.from_residual-in_err-key.ensures.1
    (assign_untargeted g.S.Store a.place k e a.self.now r c.target.new.self a.store.now c.in_err-key.field-0.0 fits w (still_then c.visit.ensures.still c.expression.ensures.still) c.in_err-key.ensures.does, tt)

pub returns-clause-sets : goal.returns-clause-sets
returns-clause-sets g c k e fits =
    let a = c.args in
    let r = c.expression.new.self in
    let w = visited_valued (g.S.Store.names a.store.now) r (Ok tt) tt c.in_ok-visit.ensures (assigns_fit k fits) c.in_ok-expression.ensures.valued in
    assigned g.S.Store k e a.self.now r fits w (still_then c.visit.ensures.still c.expression.ensures.still) c.target.ensures.still c.in_ok-key.ensures.does
    c.pop-value.ensures.rest c.pop-value.ensures.answer c.pop-value.ensures.values c.assign.ensures
