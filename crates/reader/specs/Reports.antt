-- What a program reports of a template that is read. Assumes nothing.
use Rattle.std.specs.Prelude.{ℕ, List, ◌++◌, codes, decimal}
use Rattle.reader.specs.declared.Reading.{Reading}

abbrev pub told_of : Reading → List ℕ
told_of r = codes "nodes=" ++ decimal r.table.nodes ++ codes " stack=" ++ decimal r.stack
