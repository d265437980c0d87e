use Rattle.std.proofs.Common.{◌≡◌, refl, rules}
use Rattle.std.specs.Option.{option_map}
use Rattle.values.specs.Means.{value_means}
use Rattle.evaluator.specs.Turns.{joined}
use Rattle.evaluator.proofs.Acting.{joined_by}
use Rattle.evaluator.proofs.run.Run.join.Goals as goal

pub returns-clause-gives : goal.returns-clause-gives
returns-clause-gives c =
    let list : option_map value_means c.and_then-list.result ≡ joined (option_map value_means c.take.result) (value_means c.pop-item.result) = joined_by c.take.result _ _ _ c.and_then-list.ensures (λ x p. search rules) in
    (refl, cc)
