use Rattle.std.proofs.Common.{◌≡◌, sym, ap, ◌∙◌, Ok, Err, Result, arith, rules, tests, w64, to_z, of_z, refl}
use Rattle.evaluator.proofs.Exits.{broke, made_fault, faulted}
use Rattle.evaluator.proofs.Instructed.{target_alone, target_refused, target_worked}
use Rattle.evaluator.specs.Runs.{Does, Level, result_as}
use Rattle.keys.specs.KeyMeans.{key_means, name_means}
use Rattle.keys.specs.declared.key.Key.{Key}
use Rattle.meaning.specs.Meaning.{target}
use Rattle.refusals.specs.declared.fault.Fault.{Fault}
use Rattle.values.specs.Means.{value_means}
use Rattle.evaluator.proofs.run.Run.target.Goals as goal

pub returns-then-is_empty-clause-does : goal.returns-then-is_empty-clause-does
returns-then-is_empty-clause-does g c k t = (target_alone (g.S.Store.names c.args.store.now) c.args.place (name_means c.name-name.result) k t (grind (arith, tests)) c.name-name.ensures, refl)

pub returns-in_err-expression-clause-does : goal.returns-in_err-expression-clause-does
returns-in_err-expression-clause-does g c k t =
    let a = c.args in
    let r = c.expression.new.self in
    broke (λ (o : Result Key Fault). Does (g.S.Store.names a.store.now) (target a.self.now.text.now a.place k) a.self.now r (result_as key_means o) × Level a.self.now r o) _ _ c.from_residual.ensures.1
    (target_refused (g.S.Store.names a.store.now) a.place r c.in_err-expression.field-0.0 k t (grind (arith, tests)) c.in_err-expression.ensures.valued, tt)

pub returns-in_err-n-clause-does : goal.returns-in_err-n-clause-does
returns-in_err-n-clause-does g c k t =
    let a = c.args in
    let r = c.pop.new.self in
    let e = made_fault a.place c.operand.result c.map_err.result c.map_err.ensures.cases (λ f y h. search rules) in
    let w = target_worked (g.S.Store.names a.store.now) a.place (name_means c.name-name.result) (value_means c.pop.result) (Err c.in_err-n.field-0.0) k t (grind (arith, tests)) c.name-name.ensures c.in_ok-expression.ensures.valued c.expression.ensures.still.limit
    c.pop.ensures.rest c.pop.ensures.answer c.pop.ensures.values (sym c.in_err-n.was ∙ e ∙ ap (faulted a.place) c.operand.ensures) in
    broke (λ (o : Result Key Fault). Does (g.S.Store.names a.store.now) (target a.self.now.text.now a.place k) a.self.now r (result_as key_means o) × Level a.self.now r o) _ _ c.from_residual-in_err-n.ensures.1 (w.0, tt)

pub returns-clause-does : goal.returns-clause-does
returns-clause-does g c k t =
    let a = c.args in
    let e = made_fault a.place c.operand.result c.map_err.result c.map_err.ensures.cases (λ f y h. search rules) in
    let w = target_worked (g.S.Store.names a.store.now) a.place (name_means c.name-name.result) (value_means c.pop.result) (Ok c.in_ok-n.n) k t (grind (arith, tests)) c.name-name.ensures c.in_ok-expression.ensures.valued c.expression.ensures.still.limit
    c.pop.ensures.rest c.pop.ensures.answer c.pop.ensures.values (sym c.in_ok-n.was ∙ e ∙ ap (faulted a.place) c.operand.ensures) in
    let is : to_z w64 (of_z w64 c.in_ok-n.n) ≡ c.in_ok-n.n = search rules in
    rw is w
