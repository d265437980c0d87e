use Rattle.std.proofs.Common.{arith, ◌≡◌, ◌+◌, ◌∷◌, ◌++◌, take, drop, rules, drop-cons}
use Rattle.std.proofs.lemmas.Grind.{common_steps}
use Rattle.printer.proofs.Steps.{prints_then, prints_stop}
use Rattle.listings.specs.Printed.{card_form, keys_of}
use Rattle.listings.proofs.print_card.Goals as goal

pub returns-in_err-print_entry : goal.returns-in_err-print_entry
returns-in_err-print_entry g c =
    let p = g.P.Printer in
    let rows = c.args.rows.now in
    let i = c.loop-row.row-index in
    let x = c.row-item.result in
    let rest = drop (i + 1) rows in
    let parts : take i rows ++ (x ∷ rest) ≡ rows = grind (arith, common_steps, drop-cons rows i x c.loop-row-test.true) in
    let all = prints_then p c.loop-row.invariant (prints_stop p (card_form (g.S.Store.names c.args.store.now) (keys_of rest)) c.in_err-print_entry.ensures) in
    search (rules, common_steps)
