use Rattle.std.proofs.Common.{[], ◌∷◌, rules}
use Rattle.std.proofs.lemmas.Grind.{common_steps}
use Rattle.printer.proofs.Steps.{prints_then, prints_stop}
use Rattle.listings.proofs.print_key.Goals as goal

pub returns-in_err-print-3 : goal.returns-in_err-print-3
returns-in_err-print-3 g c =
    let p = g.P.Printer in
    let all = prints_then p c.in_ok-print.ensures (prints_then p c.in_ok-print-2.ensures (prints_stop p (93 ∷ []) c.in_err-print-3.ensures)) in
    search (rules, common_steps)

pub returns : goal.returns
returns g c =
    let p = g.P.Printer in
    let all = prints_then p c.in_ok-print.ensures (prints_then p c.in_ok-print-2.ensures (prints_then p c.in_ok-print-3.ensures c.print-4.ensures)) in
    search (rules, common_steps)
