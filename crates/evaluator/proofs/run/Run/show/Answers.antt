use Rattle.std.proofs.Common.{◌∙◌, Ok, Err}
use Rattle.evaluator.proofs.Exits.{broke}
use Rattle.evaluator.proofs.Composing.{visited_valued}
use Rattle.evaluator.proofs.Instructed.{show_unvisited, show_refused, shown}
use Rattle.evaluator.specs.Blocks.{Ran}
use Rattle.evaluator.specs.Runs.{Level}
use Rattle.meaning.specs.Meaning.{statement}
use Rattle.trees.specs.Tree.{Statement}
use Rattle.values.specs.Means.{value_means}
use Rattle.evaluator.proofs.run.Run.show.Goals as goal

pub returns-in_err-visit-clause-ran : goal.returns-in_err-visit-clause-ran
returns-in_err-visit-clause-ran g c e fits =
    let a = c.args in
    let r = c.visit.new.self in
    broke (λ o. Ran g.S.Store g.P.Printer (statement a.self.now.text.now (Statement.show a.place e)) a.self.now r a.store.now a.store.now a.printer.now a.printer.now o × Level a.self.now r o) _ _ c.from_residual.ensures.1
    (show_unvisited g.S.Store g.P.Printer e a.store.now a.printer.now c.in_err-visit.ensures, tt)

pub returns-in_err-expression-clause-ran : goal.returns-in_err-expression-clause-ran
returns-in_err-expression-clause-ran g c e fits =
    let a = c.args in
    let r = c.expression.new.self in
    let f = c.in_err-expression.field-0.0 in
    broke (λ o. Ran g.S.Store g.P.Printer (statement a.self.now.text.now (Statement.show a.place e)) a.self.now r a.store.now a.store.now a.printer.now a.printer.now o × Level a.self.now r o) _ _ c.from_residual-in_err-expression.ensures.1
    (show_refused g.S.Store g.P.Printer a.place e a.self.now r a.store.now a.printer.now f (visited_valued (g.S.Store.names a.store.now) r (Err f) tt c.in_ok-visit.ensures fits c.in_err-expression.ensures.valued), tt)

pub returns-clause-ran : goal.returns-clause-ran
returns-clause-ran g c e fits =
    let a = c.args in
    let r = c.expression.new.self in
    shown g.S.Store g.P.Printer e a.self.now a.store.now (value_means c.pop-value.result) (c.pop-value.ensures.rest.limit ∙ c.expression.ensures.still.limit ∙ c.visit.ensures.still.limit)
    (visited_valued (g.S.Store.names a.store.now) r (Ok tt) tt c.in_ok-visit.ensures fits c.in_ok-expression.ensures.valued)
    c.pop-value.ensures.rest c.pop-value.ensures.answer c.pop-value.ensures.values (c.as_slice.ensures ∙ c.value_form.ensures) c.print.ensures
