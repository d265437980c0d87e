-- What comes of a template on a bench, at each exit. Assumes nothing.
use Rattle.std.proofs.Common.{◌≡◌, ℕ, ◌≤◌, ◌<◌, min, List, length, take, Err, Result, true, refl, sym, ap, ◌∙◌, subst, arith}
use Rattle.std.proofs.lemmas.List.{take_all}
use Rattle.bench.specs.declared.Counts.{Counts}
use Rattle.bench.specs.Tries.{Ends, Tried, too_many_nodes, stack_too_small, printed}
use Rattle.effects.specs.Effects.{told}
use Rattle.evaluator.specs.Held.{Held}
use Rattle.evaluator.specs.Prints.{Printed}
use Rattle.grammar.specs.Laws.{Faultless}
use Rattle.printer.specs.declared.Printer as printer
use Rattle.reader.specs.Answers.{ReadAs}
use Rattle.reader.specs.declared.Reading.{Reading}
use Rattle.refusals.specs.declared.fault.Fault.{Fault}
use Rattle.refusals.specs.declared.Refusal.TheVariants.{TooManyNodes, StackTooSmall}
use Rattle.refusals.specs.Faults.{fault}
use Rattle.store.specs.declared.Store as store
use Rattle.trees.specs.declared.Node.{Node}
use Rattle.trees.specs.Flat.{flatten_block}
use Rattle.trees.specs.Tree.{Block, Items, written}

faultless_read : {text : List ℕ} {o : Reading} (h : ReadAs text o) → Faultless text (written h.tree Items.none)
faultless_read h = record { template = h.template; lawful = h.lawful }

-- the table of a template of at most 1,024 nodes has room for them all
pub held : {text : List ℕ} {o : Reading} {ns : List Node} {n k : ℕ} → ReadAs text o → n ≡ o.table.nodes → n ≤ 1024 → ns ≡ take (min o.table.len 2048) o.table.slots → k ≡ o.stack → Held text ns k
held {text} {o} h n_is few ns_is k_is =
    let fits : length (flatten_block h.tree) ≤ 2048 = omega (arith, h.fits, h.nodes_are) in
    let all : min o.table.len 2048 ≡ length (flatten_block h.tree) = omega (arith, h.length_is) in
    record {
      tree = h.tree;
      faultless = faultless_read h;
      nodes_are = ns_is ∙ ap (λ i. take i o.table.slots) all ∙ h.kept ∙ take_all 2048 (flatten_block h.tree) fits;
      stack_is = k_is ∙ h.stack_is;
    }

module _ {S P : Type 0} (s : store.Ghosts S) (p : printer.Ghosts P) where
  pub refused_by_nodes : {text : List ℕ} {o : Reading} {n limit : ℕ} {f : Fault} {store' : S} {printer' : P} → ReadAs text o → n ≡ o.table.nodes → 1024 < n → f ≡ fault TooManyNodes 0 → Tried s p text limit store' store' printer' printer' (Err f)
  refused_by_nodes h n_is many f_is = too_many_nodes h.tree h.short (faultless_read h) (omega (arith, h.nodes_are)) (ap Err f_is) refl refl

  pub refused_by_stack : {text : List ℕ} {o : Reading} {n k limit : ℕ} {f : Fault} {store' : S} {printer' : P} → ReadAs text o → n ≡ o.table.nodes → n ≤ 1024 → k ≡ o.stack → 32 < k → f ≡ fault StackTooSmall 0 → Tried s p text limit store' store' printer' printer' (Err f)
  refused_by_stack h n_is few k_is deep f_is = stack_too_small h.tree h.short (faultless_read h) (omega (arith, h.nodes_are)) (omega (arith, h.stack_is)) (ap Err f_is) refl refl

  -- a print that answers x, and then the printer is settled
  pub printed_and_settled : {text : List ℕ} {o : Reading} {n k limit : ℕ} {store₁ store₂ : S} {printer₁ printer₂ printer₃ : P} {a : ℕ × Result (Unit {0}) Fault} {x : Result (Unit {0}) Fault} {r : Result Counts Fault}
      → (h : ReadAs text o) → n ≡ o.table.nodes → n ≤ 1024 → k ≡ o.stack → k ≤ 32
      → ((b : Block) → Faultless text (written b Items.none) → Printed s p text b limit 32 store₁ store₂ printer₁ printer₂ a)
      → p.taken printer₃ ≡ p.taken printer₂ → p.capacity printer₃ ≡ p.capacity printer₂ → p.settled printer₃ ≡ true
      → a.1 ≡ x → Ends s p r h.tree store₂ printer₃ (told x (record { steps = a.0; names = s.names store₂; paper = p.taken printer₃ }))
      → Tried s p text limit store₁ store₂ printer₁ printer₃ r
  printed_and_settled {text} {o} {n} {k} {limit} {store₁} {store₂} {printer₁} {printer₂} {printer₃} {a} {x} {r} h n_is few k_is shallow prints taken_is capacity_is settled_is x_is end =
      let d : Printed s p text h.tree limit 32 store₁ store₂ printer₁ printer₂ a = prints h.tree (faultless_read h) in
      let same = ap (λ y. told y (record { steps = a.0; names = s.names store₂; paper = p.taken printer₃ })) (sym x_is) ∙ ap (λ t. told a.1 (record { steps = a.0; names = s.names store₂; paper = t })) taken_is ∙ d.outcome (omega (arith, h.stack_is)) in
      printed h.tree h.short (faultless_read h) (omega (arith, h.nodes_are)) (omega (arith, h.stack_is)) (subst (Ends s p r h.tree store₂ printer₃) same end) d.store_capacity (capacity_is ∙ d.printer_capacity) settled_is
