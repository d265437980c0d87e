use Rattle.std.proofs.Common.{◌≡◌, true, sym, ◌∙◌, rules}
use Rattle.order.specs.Made.{bytes_order}
use Rattle.order.specs.Orders.{sorted}
use Rattle.order.specs.Tables.{row_means}
use Rattle.order.proofs.Rowed.{lookup_ok, lookup_not_ok}
use Rattle.order.proofs.table.Table.find.Goals as goal

pub returns : goal.returns
returns g c =
    let s : sorted bytes_order (λ n. n.name.bytes.now) c.args.self.now.rows.now ≡ true = search rules in
    sym (lookup_ok bytes_order row_means c.args.self.now.rows.now c.args.name.now _ c.search.result c.in_ok-at.at s c.search.ensures c.in_ok-at.ensures.value)

pub returns-in_err-at : goal.returns-in_err-at
returns-in_err-at g c =
    let s : sorted bytes_order (λ n. n.name.bytes.now) c.args.self.now.rows.now ≡ true = search rules in
    c.from_residual.ensures ∙ sym (lookup_not_ok bytes_order row_means c.args.self.now.rows.now c.args.name.now c.search.result s c.search.ensures c.in_err-at.ensures.value)
