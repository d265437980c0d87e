-- A print of a template, from its nodes. Assumes nothing.
use Rattle.std.proofs.Common.{◌≡◌, ℕ, ◌≤◌, ◌<◌, List, length, map, Option, Err, Result, refl, sym, ap, subst, ◌∙◌, arith}
use Rattle.std.proofs.Math.Logic.{∥∥₁_elim}
use Rattle.std.specs.Coded.{Coded-set, coded_list, coded_ℕ, ×_prop}
use Rattle.grammar.proofs.Closed.{only_block}
use Rattle.grammar.specs.Laws.{Faultless}
use Rattle.trees.specs.Counts.{need_block}
use Rattle.trees.specs.declared.Node.{Node}
use Rattle.trees.specs.contracts.Node as contracts
use Rattle.trees.specs.Flat.{flatten_block}
use Rattle.trees.specs.Tree.{Block, Items, written}
use Rattle.evaluator.specs.Held.{Held}
use Rattle.evaluator.specs.Prints.{Printed}
use Rattle.evaluator.specs.Runs.{Begun}
use Rattle.evaluator.specs.Blocks.{rest, Leaves, Ran}
use Rattle.evaluator.specs.declared.run.Run.{Run}
use Rattle.effects.specs.Effects.{exec}
use Rattle.meaning.proofs.Lawfulness.{nodes_lawful}
use Rattle.meaning.specs.Lawful.{AllLawful}
use Rattle.meaning.specs.Meaning.{block}
use Rattle.printer.specs.declared.Printer as printer
use Rattle.refusals.specs.declared.fault.Fault.{Fault}
use Rattle.refusals.specs.declared.Refusal.TheVariants.{StackTooSmall}
use Rattle.refusals.specs.Faults.{fault}
use Rattle.store.specs.declared.Store as store
use Rattle.std.specs.Option.{option_map}
use Rattle.values.specs.declared.value.Value.{Value}
use Rattle.values.specs.Means.{value_means}

-- the nodes and the stack of a template are those of every tree that its text spells
held : (text : List ℕ) (nodes : List Node) (stack : ℕ) (b : Block) → Held text nodes stack → Faultless text (written b Items.none) → (nodes ≡ flatten_block b) × (stack ≡ need_block 0 b)
held text nodes stack b h f =
    let e : h.tree ≡ b = only_block text h.tree b h.faultless.template f.template in
    (h.nodes_are ∙ ap flatten_block e, h.stack_is ∙ ap (need_block 0) e)

pub holds : (text : List ℕ) (nodes : List Node) (stack : ℕ) (b : Block) → ∥ Held text nodes stack ∥₁ → Faultless text (written b Items.none) → (nodes ≡ flatten_block b) × (stack ≡ need_block 0 b)
holds text nodes stack b h f = ∥∥₁_elim h (×_prop (Coded-set (coded_list contracts.the_row.coded) nodes (flatten_block b)) (Coded-set coded_ℕ stack (need_block 0 b))) (λ h. held text nodes stack b h f)

-- with too little room nothing is done
pub small : {S P : Type 0} (s : store.Ghosts S) (p : printer.Ghosts P) (text : List ℕ) (b : Block) (limit room stack : ℕ) (store₁ : S) (printer₁ : P) → stack ≡ need_block 0 b → room < stack → Printed s p text b limit room store₁ store₁ printer₁ printer₁ (0, Err (fault StackTooSmall 0))
small s p text b limit room stack store₁ printer₁ e h =
    record {
      outcome = λ fits. let k : room < need_block 0 b = subst (λ n. room < n) e h in absurd (let z : ⊥ = omega arith in z);
      too_small = λ k. (refl, refl, refl);
      store_capacity = refl;
      printer_capacity = refl;
    }

-- a block that has run from the beginning
pub ran : {S P : Type 0} (s : store.Ghosts S) (p : printer.Ghosts P) (text : List ℕ) (b : Block) (limit room : ℕ) (r r' : Run) (store₁ store₂ : S) (printer₁ printer₂ : P) (o : Result (Unit {0}) Fault) → Begun text limit room r → need_block 0 b ≤ room → Ran s p (block r.text.now b) r r' store₁ store₂ printer₁ printer₂ o → Printed s p text b limit room store₁ store₂ printer₁ printer₂ (r'.steps, o)
ran s p text b limit room r r' store₁ store₂ printer₁ printer₂ o h fits q =
    record {
      outcome = λ k. q.outcome ∙ (λ i. exec (record { steps = h.limit i; names = s.capacity store₁; paper = p.capacity printer₁ }) (block (h.at i) b) (record { steps = h.steps i; names = s.names store₁; paper = p.taken printer₁ }));
      too_small = λ k. absurd (let z : ⊥ = omega arith in z);
      store_capacity = q.names;
      printer_capacity = q.paper;
    }

pub begun_leaves : (text : List ℕ) (limit room : ℕ) (r : Run) (nodes : List Node) (b : Block) → Begun text limit room r → Faultless text (written b Items.none) → nodes ≡ flatten_block b → need_block 0 b ≤ room → Leaves r nodes (rest b)
begun_leaves text limit room r nodes b h f e fits =
    record {
      nodes = e;
      lawful = subst (λ t. AllLawful t nodes) (sym h.at) (subst (AllLawful text) (sym e) (nodes_lawful text b f));
      room = subst (λ (vs : List (Option Value)). need_block (length (map (option_map value_means) vs)) b ≤ r.values.capacity) (sym h.values) (subst (λ n. need_block 0 b ≤ n) (sym h.capacity) fits);
    }
