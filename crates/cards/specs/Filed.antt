-- What filing a line does to a store. Assumes nothing.
use Rattle.std.specs.Prelude.{◌≡◌, ℕ, List, Ok, Err, Result}
use Rattle.refusals.specs.Refusals.{Guarded}
use Rattle.refusals.specs.declared.Refusal.{Refusal}
use Rattle.refusals.specs.declared.Refusal.TheVariants.{StoreFull}
use Rattle.keys.specs.KeyOrder.{KeyName}
use Rattle.values.specs.Forms.{Elem}
use Rattle.values.specs.Means.{value_means}
use Rattle.values.specs.declared.value.Value.{Value}
use Rattle.keys.specs.KeyMeans.{key_means}
use Rattle.keys.specs.declared.key.Key.{Key}
use Rattle.store.specs.Names.{Names, with, has_room}

abbrev pub pair_means : Key × Value → KeyName × List Elem
pair_means e = (key_means e.0, value_means e.1)

-- a line that says a key and a value sets that key alone, where there is room; a refused line changes nothing
abbrev pub Files : ℕ → Result (KeyName × List Elem) Refusal → Names → Names → Result (Unit {0}) Refusal → Type 0
Files capacity (Ok e) before after r = Guarded (has_room capacity e.0 before) before (with e.0 e.1 before) after StoreFull r
Files capacity (Err f) before after r = (r ≡ Err f) × (after ≡ before)
