use Rattle.std.proofs.Common.{rules}
use Rattle.evaluator.proofs.Exits.{made_fault}
use Rattle.evaluator.proofs.Writing.{puts}
use Rattle.keys.specs.KeyMeans.{key_means}
use Rattle.values.specs.Means.{value_means}
use Rattle.evaluator.proofs.instructions.assign.Goals as goal

pub returns : goal.returns
returns g c =
    let e = made_fault c.args.place c.put.result c.map_err.result c.map_err.ensures.cases (λ f y h. search rules) in
    puts g.S.Store c.args.place (key_means c.args.key.now) (value_means c.args.value.now) c.args.store.now c.put.new.self c.put.result c.map_err.result c.put.ensures.names c.put.ensures.capacity e
