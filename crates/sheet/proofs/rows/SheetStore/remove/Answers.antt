use Rattle.std.proofs.Common.{arith}
use Rattle.sheet.proofs.Changes.{is_set_placed, removed_apart, removed_names}
use Rattle.sheet.proofs.rows.SheetStore.remove.Goals as goal

pub invariant_of-self-clause-apart : goal.invariant_of-self-clause-apart
invariant_of-self-clause-apart g c = grind (arith, removed_apart)

pub returns-clause-names : goal.returns-clause-names
returns-clause-names g c = grind (arith, is_set_placed, removed_names)
