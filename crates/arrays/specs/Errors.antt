-- What is said of an element that is not put at a place. Assumes nothing.
use Rattle.std.specs.Prelude.{ℕ, List, codes}
use Rattle.arrays.specs.declared.error.InsertError.{InsertError}
use Rattle.arrays.specs.declared.error.InsertError.TheVariants.{OutOfBounds, Full}

abbrev pub insert_error_text : InsertError → List ℕ
insert_error_text OutOfBounds = codes "the place is behind the end"
insert_error_text Full = codes "no room is left"
