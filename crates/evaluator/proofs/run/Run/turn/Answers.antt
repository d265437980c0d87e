use Rattle.std.proofs.Common.{rules, arith, ap, ◌∙◌}
use Rattle.evaluator.specs.Runs.{slots, result_as, Does}
use Rattle.evaluator.specs.Turns.{turned}
use Rattle.trees.specs.Laid.{place_of}
use Rattle.evaluator.proofs.Exits.{broke, made_fault}
use Rattle.evaluator.proofs.Acting.{counted_turn, refused_turn, silent_turn}
use Rattle.evaluator.proofs.run.Run.turn.Goals as goal
use Rattle.evaluator.proofs.run.Run.turn.Goals.{then-weight-gt0+in_ok-visit, else-weight-gt0}

pub returns-in_err-visit-clause-does : goal.returns-in_err-visit-clause-does
returns-in_err-visit-clause-does g c lawful =
    let ns = g.S.Store.names c.args.store.now in
    let r = c.args.self.now in
    let r₁ = c.visit.new.self in
    broke (λ o. Does ns (turned r.values.capacity r.text.now c.args.node (slots r)) r r₁ (result_as (λ k. (slots r₁, k)) o)) _ _ c.from_residual.ensures.1
    (refused_turn r r₁ c.args.node ns c.in_err-visit.field-0.0 (omega (arith, c.weight.ensures)) (rw c.place.ensures at c.in_err-visit.ensures))

pub returns-clause-does : goal.returns-clause-does
returns-clause-does g c lawful =
    let told = made_fault (place_of c.args.node) c.work.result c.map_err.result c.map_err.ensures.cases (λ f y q. search rules) in
    elim c.if-weight-gt0.branch [
      | then-weight-gt0+in_ok-visit w ↦
          let v = rw (w.place.ensures, ← w.self-is) at w.in_ok-visit.ensures in
          counted_turn c.args.self.now c.if-weight-gt0.self c.args.node (g.S.Store.names c.args.store.now) c.work.new.self c.work.result c.map_err.result (omega (arith, c.weight.ensures)) v
          (c.work.ensures.works (rw v.still.text lawful)) c.work.ensures.rest.steps told
      | else-weight-gt0 w ↦
          silent_turn c.args.self.now c.work.new.self c.args.node (g.S.Store.names c.args.store.now) c.work.result c.map_err.result (omega (arith, c.weight.ensures))
          (rw w.self-is at (c.work.ensures.works (rw w.self-is lawful))) (c.work.ensures.rest.steps ∙ ap (λ r. r.steps) w.self-is) told
    ]
