-- What a print of bytes and the assignment of a value do under limits. Assumes nothing.
use Rattle.std.proofs.Common.{◌≡◌, ℕ, zero, suc, ◌-◌, Bool, true, false, cond, List, [], ◌∷◌, ◌++◌, length, take, leb, Result, sym, ap, ◌∙◌, append_assoc, append-nil, length-append, arith}
use Rattle.std.proofs.Math.Dec.{leb-zero, leb-suc-zero, leb-suc-suc}
use Rattle.std.proofs.lemmas.Bool.{cond-true, cond-false, lt-ltb, le-ltb}
use Rattle.effects.specs.Effects.{Limits, State, printed, assigned, done, refused, exec, told}
use Rattle.evaluator.specs.Blocks.{Inks, Puts}
use Rattle.evaluator.proofs.Exits.{faulted}
use Rattle.keys.specs.KeyOrder.{KeyName}
use Rattle.meaning.specs.Meaning.{Value, print, assign}
use Rattle.printer.specs.declared.Printer as printer
use Rattle.printer.specs.Printing.{room, Prints}
use Rattle.refusals.specs.declared.fault.Fault.{Fault}
use Rattle.refusals.specs.declared.Refusal.{Refusal}
use Rattle.refusals.specs.declared.Refusal.TheVariants.{PaperFull, StoreFull}
use Rattle.refusals.specs.Refusals.{answered, Guarded}
use Rattle.store.specs.declared.Store as store
use Rattle.store.specs.Names.{Names, with, has_room}

-- ---- bytes

-- Where n bytes have room: as many are printed, and the next one is refused.
prints : (L : Limits) (p n : ℕ) (bs : List ℕ) (t : State) → n ≡ L.paper - length t.paper
    → told (faulted p (answered {A = Unit {0}} (leb (length bs) n) tt PaperFull)) (record t { paper = t.paper ++ take n bs }) ≡ exec L (print p bs) t
prints L p zero [] t e = ap (λ ys. done tt (record t { paper = ys })) (append-nil t.paper)
prints L p (suc n) [] t e = simp leb-zero (ap (λ ys. done tt (record t { paper = ys })) (append-nil t.paper))
prints L p zero (b ∷ bs) t e =
    simp leb-suc-zero (ap (λ ys. refused PaperFull p (record t { paper = ys })) (append-nil t.paper) ∙ sym (cond-false _ _ _ (le-ltb (length t.paper) L.paper (omega arith))))
prints L p (suc n) (b ∷ bs) t e =
    simp leb-suc-suc (
    ap (λ ys. told (faulted p (answered {A = Unit {0}} (leb (length bs) n) tt PaperFull)) (record t { paper = ys })) (sym (append_assoc t.paper (b ∷ []) (take n bs)))
    ∙ prints L p n bs (printed b t) (omega (arith, length-append t.paper (b ∷ [])))
    ∙ sym (cond-true _ _ _ (lt-ltb (length t.paper) L.paper (omega arith)))
    )

module _ {P : Type 0} (p : printer.Ghosts P) where
  -- what a printer does to bytes, the node at a place does
  pub inks : (place : ℕ) (bs : List ℕ) (printer₀ printer₁ : P) (r : Result (Unit {0}) Refusal) (o : Result (Unit {0}) Fault) → Prints p printer₀ printer₁ bs r → o ≡ faulted place r → Inks p place bs printer₀ printer₁ o
  inks place bs printer₀ printer₁ r o h e = record {
    outcome = λ steps' ns L l.
        ap (λ o. told o (record { steps = steps'; names = ns; paper = p.taken printer₁ })) (e ∙ ap (faulted place) h.answer)
        ∙ ap (λ ys. told (faulted place (answered {A = Unit {0}} (leb (length bs) (room (p.capacity printer₀) (p.taken printer₀))) tt PaperFull)) (record { steps = steps'; names = ns; paper = ys })) h.taken
        ∙ prints L place (room (p.capacity printer₀) (p.taken printer₀)) bs (record { steps = steps'; names = ns; paper = p.taken printer₀ }) (ap (λ c. c - length (p.taken printer₀)) (sym l));
    capacity = h.capacity;
  }

-- ---- values

-- where there is room for a key it gets its value
puts_by : (place : ℕ) (k : KeyName) (v : Value) (t : State) (ns : Names) (b : Bool) → ns ≡ cond b (with k v t.names) t.names
    → told (faulted place (answered {A = Unit {0}} b tt StoreFull)) (record t { names = ns }) ≡ cond b (done tt (assigned k v t)) (refused StoreFull place t)
puts_by place k v t ns true e = ap (λ (ms : Names). done tt (record t { names = ms })) e
puts_by place k v t ns false e = ap (λ (ms : Names). refused StoreFull place (record t { names = ms })) e

module _ {S : Type 0} (s : store.Ghosts S) where
  -- what a store does to a key, the node at a place does
  pub puts : (place : ℕ) (k : KeyName) (v : Value) (store₀ store₁ : S) (r : Result (Unit {0}) Refusal) (o : Result (Unit {0}) Fault)
      → Guarded (has_room (s.capacity store₀) k (s.names store₀)) (s.names store₀) (with k v (s.names store₀)) (s.names store₁) StoreFull r → s.capacity store₁ ≡ s.capacity store₀ → o ≡ faulted place r
      → Puts s place k v store₀ store₁ o
  puts place k v store₀ store₁ r o h c e = record {
    outcome = λ steps' paper' L l.
        ap (λ o. told o (record { steps = steps'; names = s.names store₁; paper = paper' })) (e ∙ ap (faulted place) h.answer)
        ∙ puts_by place k v (record { steps = steps'; names = s.names store₀; paper = paper' }) (s.names store₁) (has_room (s.capacity store₀) k (s.names store₀)) h.left
        ∙ ap (λ c. exec (record L { names = c }) (assign place k v) (record { steps = steps'; names = s.names store₀; paper = paper' })) (sym l);
    capacity = c;
  }
