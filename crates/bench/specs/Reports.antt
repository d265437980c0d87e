-- What is reported of a template that was tried. Assumes nothing.
use Rattle.std.specs.Prelude.{ℕ, List, ◌++◌, codes, decimal}
use Rattle.bench.specs.declared.Counts.{Counts}

abbrev pub report_of : Counts → List ℕ
report_of c = codes "done steps=" ++ decimal c.steps ++ codes " nodes=" ++ decimal c.nodes ++ codes " stack=" ++ decimal c.stack ++ codes " names=" ++ decimal c.names ++ codes " paper=" ++ decimal c.paper
