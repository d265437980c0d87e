-- What a table of names means. Assumes nothing.
use Rattle.std.specs.Prelude.{ℕ, List, map}
use Rattle.order.specs.declared.table.Named.{Named}
use Rattle.order.specs.declared.table.Table.{Table}

abbrev pub row_means : {T : Type 0} → Named T → List ℕ × T
row_means n = (n.name.bytes.now, n.value)

-- the names with their values, in the order of the names
abbrev pub entries : {T : Type 0} → Table T → List (List ℕ × T)
entries t = map row_means t.rows.now
