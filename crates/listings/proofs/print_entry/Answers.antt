use Rattle.std.proofs.Common.{[], ◌∷◌, rules}
use Rattle.std.proofs.lemmas.Grind.{common_steps}
use Rattle.printer.proofs.Steps.{prints_then, prints_stop}
use Rattle.listings.proofs.print_entry.Goals as goal

pub returns-in_err-print_value : goal.returns-in_err-print_value
returns-in_err-print_value g c =
    let p = g.P.Printer in
    let all = prints_then p c.in_ok-print_key.ensures (prints_then p c.in_ok-print.ensures (prints_stop p (10 ∷ []) c.in_err-print_value.ensures)) in
    search (rules, common_steps)

pub returns : goal.returns
returns g c =
    let p = g.P.Printer in
    let all = prints_then p c.in_ok-print_key.ensures (prints_then p c.in_ok-print.ensures (prints_then p c.in_ok-print_value.ensures c.print-2.ensures)) in
    search (rules, common_steps)
