-- What is promised of every print beside its answer. Assumes nothing.
use Rattle.effects.proofs.Runs.{print_laws}
use Rattle.effects.specs.Laws.{PrintLaws}
use Rattle.meaning.proofs.Tests.{bound_unseen}
use Rattle.meaning.proofs.Worked.{examples}
use Rattle.meaning.specs.Laws.{BoundUnseen}
use Rattle.meaning.specs.Slips.{Examples}

pub laws : PrintLaws
laws = print_laws

pub unseen : BoundUnseen
unseen = bound_unseen

pub worked : Examples
worked = examples
