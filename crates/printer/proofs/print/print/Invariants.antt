use Rattle.std.proofs.Common.{◌≡◌, ◌+◌, ◌≤◌, ◌++◌, length, take}
use Rattle.printer.proofs.print.print.Given as goal

abbrev pub invariant-loop-b : goal.invariant-loop-b
invariant-loop-b g l = record {
  room : length (g.P.Printer.taken l.initial.printer) + l.b-index ≤ g.P.Printer.capacity l.initial.printer;
  taken : g.P.Printer.taken l.printer ≡ g.P.Printer.taken l.initial.printer ++ take l.b-index l.bytes;
  capacity : g.P.Printer.capacity l.printer ≡ g.P.Printer.capacity l.initial.printer;
}
