use Rattle.std.proofs.Common.{take, Ok}
use Rattle.printer.specs.Printing.{Prints}
use Rattle.listings.specs.Printed.{card_form, keys_of}
use Rattle.listings.proofs.print_card.Given as goal

abbrev pub invariant-loop-row : goal.invariant-loop-row
invariant-loop-row g l = Prints g.P.Printer l.initial.printer l.printer (card_form (g.S.Store.names l.store) (keys_of (take l.row-index l.rows))) (Ok tt)
