use Rattle.std.proofs.Common.{◌≡◌, ◌-◌, ◌≤◌, true, length, take, drop}
use Rattle.order.specs.Orders.{sorted, above, below}
use Rattle.order.proofs.search.Given as goal

-- of sorted rows, those below `low` are before the key and those from `high` on are after it
abbrev pub invariant-loop-low : goal.invariant-loop-low
invariant-loop-low g l =
    (l.low ≤ l.high) × (l.high ≤ length l.rows)
    × (sorted g.R.Key.Ordered.order (λ x. g.R.Key.Ordered.means (g.R.Row.keyed x)) l.rows ≡ true
    → (above g.R.Key.Ordered.order (λ x. g.R.Key.Ordered.means (g.R.Row.keyed x)) (g.R.Key.Ordered.means l.key) (take l.low l.rows) ≡ true)
    × (below g.R.Key.Ordered.order (λ x. g.R.Key.Ordered.means (g.R.Row.keyed x)) (g.R.Key.Ordered.means l.key) (drop l.high l.rows) ≡ true))

abbrev pub decreases-loop-low : goal.decreases-loop-low
decreases-loop-low g l = l.high - l.low
