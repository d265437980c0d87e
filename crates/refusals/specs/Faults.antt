-- A refusal with its place, and what a program reports of it. Assumes nothing.
use Rattle.std.specs.Prelude.{ℕ, List, ◌++◌, codes, decimal}
use Rattle.refusals.specs.Refusals.{number_of, layer_of, word_of}
use Rattle.refusals.specs.declared.fault.Fault.{Fault}
use Rattle.refusals.specs.declared.Refusal.{Refusal}

abbrev pub fault : Refusal → ℕ → Fault
fault r p = record { refusal = r; place = p }

abbrev pub placed_report : Fault → List ℕ
placed_report f = codes "refused " ++ decimal (number_of f.refusal) ++ codes " at " ++ decimal f.place ++ codes " in " ++ word_of (layer_of f.refusal)
