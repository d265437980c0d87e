use Rattle.std.proofs.Common.{rules}
use Rattle.evaluator.proofs.Exits.{made_fault}
use Rattle.evaluator.proofs.Writing.{inks}
use Rattle.evaluator.proofs.instructions.print.Goals as goal

pub returns : goal.returns
returns g c =
    let e = made_fault c.args.place c.print.result c.map_err.result c.map_err.ensures.cases (λ f y h. search rules) in
    inks g.P.Printer c.args.place c.args.bytes.now c.args.printer.now c.print.new.printer c.print.result c.map_err.result c.print.ensures e
