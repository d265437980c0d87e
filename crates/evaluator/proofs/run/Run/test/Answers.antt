use Rattle.std.proofs.Common.{Bool, not, Ok, Err, sym, subst, ap, ◌∙◌, rules}
use Rattle.evaluator.proofs.Exits.{broke, made_fault, faulted}
use Rattle.evaluator.proofs.Composing.{visited_valued}
use Rattle.evaluator.proofs.Walking.{Tested, visit_refused, value_refused, tested, zero_bits}
use Rattle.meaning.specs.Meaning.{test}
use Rattle.values.specs.Means.{value_means}
use Rattle.evaluator.proofs.run.Run.test.Goals as goal

pub returns-in_err-visit-clause-tests : goal.returns-in_err-visit-clause-tests
returns-in_err-visit-clause-tests g c e fits =
    let ns = g.S.Store.names c.args.store.now in
    let r = c.args.self.now in
    broke (Tested ns (test r.text.now c.args.place e) r c.visit.new.self) _ _ c.from_residual.ensures.1
    (visit_refused ns c.args.place r c.visit.new.self e c.in_err-visit.field-0.0 c.in_err-visit.ensures)

pub returns-in_err-expression-clause-tests : goal.returns-in_err-expression-clause-tests
returns-in_err-expression-clause-tests g c e fits =
    let ns = g.S.Store.names c.args.store.now in
    let r = c.args.self.now in
    let r₁ = c.expression.new.self in
    let f = c.in_err-expression.field-0.0 in
    broke (Tested ns (test r.text.now c.args.place e) r r₁) _ _ c.from_residual-in_err-expression.ensures.1
    (value_refused ns c.args.place r r₁ e f (visited_valued ns r₁ (Err f) tt c.in_ok-visit.ensures fits c.in_err-expression.ensures.valued))

pub returns-in_err-n-clause-tests : goal.returns-in_err-n-clause-tests
returns-in_err-n-clause-tests g c e fits =
    let ns = g.S.Store.names c.args.store.now in
    let a = c.args in
    let r = a.self.now in
    let r₁ = c.expression.new.self in
    let w = visited_valued ns r₁ (Ok tt) tt c.in_ok-visit.ensures fits c.in_ok-expression.ensures.valued in
    let m = made_fault a.place c.operand.result c.map_err.result c.map_err.ensures.cases (λ f y h. search rules) in
    let n = tested ns a.place r r₁ c.pop.new.self e tt (value_means c.pop.result) (Err c.in_err-n.field-0.0) w (c.expression.ensures.still.limit ∙ c.visit.ensures.still.limit)
    c.pop.ensures.rest c.pop.ensures.answer c.pop.ensures.values (sym c.in_err-n.was ∙ m ∙ ap (faulted a.place) c.operand.ensures) in
    broke (Tested ns (test r.text.now a.place e) r c.pop.new.self) _ _ c.from_residual-in_err-n.ensures.1 (n.0, tt)

pub returns-clause-tests : goal.returns-clause-tests
returns-clause-tests g c e fits =
    let ns = g.S.Store.names c.args.store.now in
    let a = c.args in
    let r = a.self.now in
    let r₁ = c.expression.new.self in
    let w = visited_valued ns r₁ (Ok tt) tt c.in_ok-visit.ensures fits c.in_ok-expression.ensures.valued in
    let m = made_fault a.place c.operand.result c.map_err.result c.map_err.ensures.cases (λ f y h. search rules) in
    subst (λ (b : Bool). Tested ns (test r.text.now a.place e) r c.pop.new.self (Ok b)) (ap not (sym (zero_bits c.in_ok-n.n (search rules))))
    (tested ns a.place r r₁ c.pop.new.self e tt (value_means c.pop.result) (Ok c.in_ok-n.n) w (c.expression.ensures.still.limit ∙ c.visit.ensures.still.limit)
    c.pop.ensures.rest c.pop.ensures.answer c.pop.ensures.values (sym c.in_ok-n.was ∙ m ∙ ap (faulted a.place) c.operand.ensures))
