use Rattle.order.proofs.Sorting.{total}
use Rattle.order.proofs.compare_total.Goals as goal

pub returns : goal.returns
returns g c = record { answer = c.compare.ensures; total = total g.K.Ordered.order }
