use Rattle.evaluator.proofs.Exits.{broke}
use Rattle.evaluator.proofs.Composing.{shows_unvisited, shows_visited, inks_shows}
use Rattle.effects.specs.Effects.{visit}
use Rattle.evaluator.specs.Blocks.{Shows}
use Rattle.meaning.specs.Meaning.{print}
use Rattle.evaluator.proofs.run.Run.plain.Goals as goal

pub returns-in_err-visit-clause-shows : goal.returns-in_err-visit-clause-shows
returns-in_err-visit-clause-shows g c =
    let a = c.args in
    let m = print a.place a.bytes.now in
    broke (Shows g.P.Printer (visit a.place m) a.self.now c.visit.new.self a.printer.now a.printer.now) _ _ c.from_residual.ensures.1 (shows_unvisited g.P.Printer m a.printer.now c.in_err-visit.ensures)

pub returns-clause-shows : goal.returns-clause-shows
returns-clause-shows g c =
    let r = c.visit.new.self in
    shows_visited g.P.Printer (print c.args.place c.args.bytes.now) r c.args.printer.now c.print.new.printer tt c.print.result c.in_ok-visit.ensures (inks_shows g.P.Printer r c.print.ensures)
