-- What is promised of a print. Assumes nothing.
use Rattle.std.specs.Prelude.{◌≡◌, ℕ, ◌<◌, ◌≤◌, List, length, Err, Result}
use Rattle.effects.specs.Effects.{told, exec}
use Rattle.meaning.specs.Meaning.{block}
use Rattle.printer.specs.declared.Printer as printer
use Rattle.refusals.specs.declared.fault.Fault.{Fault}
use Rattle.refusals.specs.declared.Refusal.TheVariants.{StackTooSmall}
use Rattle.refusals.specs.Faults.{fault}
use Rattle.store.specs.declared.Store as store
use Rattle.trees.specs.Counts.{need_block}
use Rattle.trees.specs.Tree.{Block}

-- A print of the text of a template b, at most `limit` steps long and with room for `room` values, leaves what the meaning of b leaves
-- when it is executed under these limits: steps, answer, names and paper. With too little room it is refused before its first step.
pub record Printed {S P : Type 0} (s : store.Ghosts S) (p : printer.Ghosts P) (text : List ℕ) (b : Block) (limit room : ℕ) (store' store'' : S) (printer' printer'' : P) (o : ℕ × Result (Unit {0}) Fault) : Type 0 where
  pub outcome :
      need_block 0 b ≤ room →
      told o.1 (record { steps = o.0; names = s.names store''; paper = p.taken printer'' })
      ≡ exec (record { steps = limit; names = s.capacity store'; paper = p.capacity printer' }) (block text b) (record { steps = 0; names = s.names store'; paper = p.taken printer' })
  pub too_small : room < need_block 0 b → (o ≡ (0, Err (fault StackTooSmall 0))) × (store'' ≡ store') × (printer'' ≡ printer')
  pub store_capacity : s.capacity store'' ≡ s.capacity store'
  pub printer_capacity : p.capacity printer'' ≡ p.capacity printer'

-- What the lent memory holds afterwards is free; it has as many places as before.
abbrev pub AnyMemory : {T : Type 0} → List T → List T → Type 0
AnyMemory slots slots' = length slots' ≡ length slots
