-- What it is to read and print a template on a bench. Assumes nothing.
use Rattle.std.specs.Prelude.{◌≡◌, ℕ, ◌<◌, ◌≤◌, true, List, length, Ok, Err, Result}
use Rattle.bench.specs.declared.Counts.{Counts}
use Rattle.effects.specs.Effects.{Outcome, done, refused, exec}
use Rattle.grammar.specs.Laws.{Faultless}
use Rattle.meaning.specs.Meaning.{block}
use Rattle.printer.specs.declared.Printer as printer
use Rattle.reader.specs.Answers.{Refuses}
use Rattle.refusals.specs.declared.fault.Fault.{Fault}
use Rattle.refusals.specs.declared.Refusal.TheVariants.{TooManyNodes, StackTooSmall}
use Rattle.refusals.specs.Faults.{fault}
use Rattle.store.specs.declared.Store as store
use Rattle.trees.specs.Counts.{nodes_block, need_block}
use Rattle.trees.specs.Tree.{Block, Items, written}

module _ {S P : Type 0} (s : store.Ghosts S) (p : printer.Ghosts P) where
  -- the outcome of a print that answers so: the counts that it tells, or its refusal after some steps
  abbrev pub Ends : Result Counts Fault → Block → S → P → Outcome (Unit {0}) → Type 0
  Ends (Ok c) b store' printer' o =
      (o ≡ done tt (record { steps = c.steps; names = s.names store'; paper = p.taken printer' }))
      × (c.nodes ≡ nodes_block b) × (c.stack ≡ need_block 0 b) × (c.names ≡ length (s.names store')) × (c.paper ≡ length (p.taken printer'))
  Ends (Err f) b store' printer' o =
      (steps' : ℕ) × (o ≡ refused f.refusal f.place (record { steps = steps'; names = s.names store'; paper = p.taken printer' }))

  -- A text is refused in reading, or by the nodes or the stack that it needs, and nothing is done; or it is printed. A bench has 1,024
  -- nodes and a stack of 32 values.
  pub data Tried (text : List ℕ) (limit : ℕ) (store₁ store₂ : S) (printer₁ printer₂ : P) (r : Result Counts Fault) : Type 0 where
    unread : (f : Fault) → Refuses text f → r ≡ Err f → store₂ ≡ store₁ → printer₂ ≡ printer₁ → Tried text limit store₁ store₂ printer₁ printer₂ r
    too_many_nodes : (b : Block) → length text ≤ 4096 → Faultless text (written b Items.none) → 1024 < nodes_block b → r ≡ Err (fault TooManyNodes 0) → store₂ ≡ store₁ → printer₂ ≡ printer₁ → Tried text limit store₁ store₂ printer₁ printer₂ r
    stack_too_small : (b : Block) → length text ≤ 4096 → Faultless text (written b Items.none) → nodes_block b ≤ 1024 → 32 < need_block 0 b → r ≡ Err (fault StackTooSmall 0) → store₂ ≡ store₁ → printer₂ ≡ printer₁ → Tried text limit store₁ store₂ printer₁ printer₂ r
    printed : (b : Block) → length text ≤ 4096 → Faultless text (written b Items.none) → nodes_block b ≤ 1024 → need_block 0 b ≤ 32
        → Ends r b store₂ printer₂ (exec (record { steps = limit; names = s.capacity store₁; paper = p.capacity printer₁ }) (block text b) (record { steps = 0; names = s.names store₁; paper = p.taken printer₁ }))
        → s.capacity store₂ ≡ s.capacity store₁ → p.capacity printer₂ ≡ p.capacity printer₁
        → p.settled printer₂ ≡ true → Tried text limit store₁ store₂ printer₁ printer₂ r
