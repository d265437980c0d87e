use Rattle.std.proofs.Common.{◌≡◌, ◌+◌, ◌-◌, ◌/◌, get_or, Less, Equal, Greater, sym, refl, ap, ◌∙◌, add-one, arith}
use Rattle.std.proofs.lemmas.List.{drop_all, get_or_read}
use Rattle.order.specs.Orders.{below}
use Rattle.order.proofs.Sorting.{eq_is, gt_is, lt_is, front, back}
use Rattle.order.proofs.search.Goals as goal

pub loop-low-init : goal.loop-low-init
loop-low-init g c = (omega arith, omega arith, λ _. (refl, ap (below g.R.Key.Ordered.order _ _) (drop_all _ c.args.rows.now (omega arith))))

pub loop-low-preserved-then-is_lt : goal.loop-low-preserved-then-is_lt
loop-low-preserved-then-is_lt g c =
    let x = c.index-rows-mid.result in
    let k = g.R.Key.Ordered in
    let mid = c.loop-low.low + (c.loop-low.high - c.loop-low.low) / 2 in
    let less : c.compare-found.result ≡ Less = lt_is _ (sym c.is_lt.ensures ∙ c.if-is_lt.true) in
    let a = c.compare-found.ensures in
    let h : k.order.rank (k.means (g.R.Row.keyed (get_or c.args.rows.now mid x))) (k.means c.args.key.now) ≡ Less = cc in
    (omega arith, omega arith, λ s. (rw add-one (front k.order _ _ c.args.rows.now mid x (omega arith) s h), (c.loop-low.invariant.2 s).1))

pub loop-low-preserved : goal.loop-low-preserved
loop-low-preserved g c =
    let x = c.index-rows-mid.result in
    let k = g.R.Key.Ordered in
    let mid = c.loop-low.low + (c.loop-low.high - c.loop-low.low) / 2 in
    let greater : c.compare-found.result ≡ Greater = gt_is _ (sym c.is_eq.ensures ∙ c.if-is_eq.false) (sym c.is_lt.ensures ∙ c.if-is_lt.false) in
    let a = c.compare-found.ensures in
    let h : k.order.rank (k.means (g.R.Row.keyed (get_or c.args.rows.now mid x))) (k.means c.args.key.now) ≡ Greater = cc in
    (omega arith, omega arith, λ s. ((c.loop-low.invariant.2 s).0, back k.order _ _ c.args.rows.now mid x (omega arith) s h))

pub returns-then-is_eq : goal.returns-then-is_eq
returns-then-is_eq g c =
    let x = c.index-rows-mid.result in
    let k = g.R.Key.Ordered in
    let mid = c.loop-low.low + (c.loop-low.high - c.loop-low.low) / 2 in
    let equal : c.compare-found.result ≡ Equal = eq_is _ (sym c.is_eq.ensures ∙ c.if-is_eq.true) in
    let a = k.order.same _ _ (sym c.compare-found.ensures ∙ equal) in
    (omega arith, λ d. ap (λ y. k.means (g.R.Row.keyed y)) (sym (get_or_read c.args.rows.now mid x (omega arith) c.index-rows-mid.is d)) ∙ ap k.means (sym c.key.ensures) ∙ a)
