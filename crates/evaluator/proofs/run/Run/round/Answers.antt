use Rattle.std.proofs.Common.{None, Ok, Err, refl, rules, tests}
use Rattle.evaluator.proofs.Exits.{broke}
use Rattle.evaluator.proofs.Instructed.{inks_first, inks_next, round_unvisited, round_unprinted, round_started}
use Rattle.evaluator.specs.Blocks.{Ran}
use Rattle.keys.specs.KeyMeans.{name_means}
use Rattle.meaning.specs.Meaning.{round_start}
use Rattle.values.specs.Means.{element_means}
use Rattle.evaluator.proofs.run.Run.round.Goals.{then-not-first+in_ok-print, else-not-first}
use Rattle.evaluator.proofs.run.Run.round.Goals as goal

pub returns-in_err-visit-clause-ran : goal.returns-in_err-visit-clause-ran
returns-in_err-visit-clause-ran g c =
    let a = c.args in
    let h = a.head in
    broke (Ran g.S.Store g.P.Printer (round_start a.first h.place (name_means h.name, None) h.delimiter.now (element_means a.element)) a.self.now c.visit.new.self a.store.now a.store.now a.printer.now a.printer.now) _ _ c.from_residual.ensures.1
    (round_unvisited g.S.Store g.P.Printer a.first (name_means h.name, None) h.delimiter.now (element_means a.element) a.store.now a.printer.now c.in_err-visit.ensures)

pub returns-in_err-print-clause-ran : goal.returns-in_err-print-clause-ran
returns-in_err-print-clause-ran g c =
    let a = c.args in
    let h = a.head in
    broke (Ran g.S.Store g.P.Printer (round_start a.first h.place (name_means h.name, None) h.delimiter.now (element_means a.element)) a.self.now c.visit.new.self a.store.now a.store.now a.printer.now c.print.new.printer) _ _ c.from_residual-in_err-print.ensures.1
    (round_unprinted g.S.Store g.P.Printer a.first (name_means h.name, None) h.delimiter.now (element_means a.element) a.store.now c.in_ok-visit.ensures (inks_next g.P.Printer c.print.new.printer (Err c.in_err-print.field-0.0) a.first (search (rules, tests)) refl c.in_err-print.ensures))

pub returns-clause-ran : goal.returns-clause-ran
returns-clause-ran g c =
    let a = c.args in
    let h = a.head in
    round_started g.S.Store g.P.Printer a.first h.delimiter.now (element_means a.element) c.in_ok-visit.ensures
    (elim c.if-not-first.branch [
      | then-not-first+in_ok-print w ↦ inks_next g.P.Printer c.if-not-first.printer (Ok tt) a.first (search (rules, tests)) w.printer-is w.in_ok-print.ensures
      | else-not-first w ↦ inks_first g.P.Printer h.place h.delimiter.now a.printer.now c.if-not-first.printer a.first (search (rules, tests)) w.printer-is
    ])
    c.from.ensures c.assign.ensures
