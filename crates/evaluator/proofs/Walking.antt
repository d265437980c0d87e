-- The nodes of an expression as a loop goes through them, and a condition. Assumes nothing.
use mir.Val.{SFits}
use Rattle.std.proofs.Common.{◌≡◌, ℕ, zero, suc, Bool, not, nat_eq, List, [], ◌∷◌, length, drop, Some, Ok, Err, Result, ℤ, pos, negsuc, w64, of_z, sym, refl, ap, ◌∙◌, subst, append-nil, arith}
use Rattle.std.proofs.lemmas.Bool.{ne_eqb}
use Rattle.std.proofs.lemmas.Bool.Decides.{nat_tests}
use Rattle.effects.specs.Effects.{Program, return, visit, ◌>>=◌, or_fail, Limits, State, Outcome, done, refused, exec}
use Rattle.effects.proofs.Programs.{on, exec_bind}
use Rattle.evaluator.specs.declared.run.Run.{Run}
use Rattle.evaluator.specs.Runs.{slots, state, result_as, Still, OnlyValues, Does, Valued, Fits, Level, Visited}
use Rattle.evaluator.specs.Turns.{Slot, Turn, top_value, turned, walked}
use Rattle.evaluator.proofs.Exits.{faulted}
use Rattle.evaluator.proofs.Kept.{still_then}
use Rattle.evaluator.proofs.Composing.{told_on, does_stops, does_unvisited, operand_does}
use Rattle.evaluator.proofs.Walks.{walks, skips, lawful_calls}
use Rattle.meaning.specs.Lawful.{Lawful, AllLawful}
use Rattle.meaning.specs.Meaning.{Value, expression, test}
use Rattle.operations.specs.Operators.{is_zero, operand}
use Rattle.refusals.specs.declared.fault.Fault.{Fault}
use Rattle.refusals.specs.declared.Refusal.{Refusal}
use Rattle.refusals.specs.Errors.{refused_by}
use Rattle.stacks.specs.Stacked.{rest}
use Rattle.store.specs.Names.{Names}
use Rattle.trees.specs.declared.Node.{Node}
use Rattle.trees.specs.Flat.{flatten}
use Rattle.trees.specs.Tree.{Expr}

-- ---- what is left of the nodes

lawful_behind : (text : List ℕ) (k : ℕ) (ns : List Node) → AllLawful text ns → AllLawful text (drop k ns)
lawful_behind text zero ns h = h
lawful_behind text (suc k) [] h = h
lawful_behind text (suc k) (n ∷ ns) h = lawful_behind text k ns h.1

-- from r on, what is left of the nodes does what all of them do from r₀ on
abbrev Leads : Names → Run → Run → List Node → List Node → Type 0
Leads ns r₀ r nodes left =
    (L : Limits) (paper' : List ℕ) → L.steps ≡ r₀.limit →
    exec L (walked r₀.values.capacity r₀.text.now 0 left (slots r)) (state r ns paper') ≡ exec L (walked r₀.values.capacity r₀.text.now 0 nodes (slots r₀)) (state r₀ ns paper')

-- what the loop keeps
abbrev pub Kept : Names → Run → Run → List Node → List Node → Type 0
Kept ns r₀ r nodes left = Still r₀ r × (AllLawful r₀.text.now nodes → AllLawful r₀.text.now left × Leads ns r₀ r nodes left)

-- the turn of the first node that is left
first_left : (ns : Names) (r₀ r r' : Run) (nodes left : List Node) (n : Node) (more : List Node) (o : Result Turn Fault)
    → Kept ns r₀ r nodes left → left ≡ n ∷ more → AllLawful r₀.text.now nodes → (Lawful r.text.now n → Does ns (turned r.values.capacity r.text.now n (slots r)) r r' o)
    → Does ns (turned r₀.values.capacity r₀.text.now n (slots r)) r r' o
first_left ns r₀ r r' nodes left n more o h e lawful does =
    let first : AllLawful r₀.text.now (n ∷ more) = subst (AllLawful r₀.text.now) e (h.1 lawful).0 in
    subst (λ (m : Program Turn). Does ns m r r' o) (λ i. turned (h.0.capacity i) (h.0.text i) n (slots r)) (does (subst (λ (t : List ℕ). Lawful t n) (sym h.0.text) first.0))

-- what comes after a node's turn
abbrev after_turn : Run → List Node → Turn → Program (List Slot)
after_turn r₀ more t = walked r₀.values.capacity r₀.text.now t.1 more t.0

-- a node that did what it does is behind the run, and with it the k that it skips
pub kept_on : (ns : Names) (r₀ r r' : Run) (nodes left : List Node) (n : Node) (more left' : List Node) (k : ℕ)
    → Kept ns r₀ r nodes left → left ≡ n ∷ more → left' ≡ drop k more → Still r r' → (Lawful r.text.now n → Does ns (turned r.values.capacity r.text.now n (slots r)) r r' (Ok (slots r', k)))
    → Kept ns r₀ r' nodes left'
kept_on ns r₀ r r' nodes left n more left' k h e e' still does = (
  still_then h.0 still,
  λ lawful. (
    subst (AllLawful r₀.text.now) (sym e') (lawful_behind r₀.text.now k more (subst (AllLawful r₀.text.now) e (h.1 lawful).0).1),
    λ L paper' same.
        (λ i. exec L (walked r₀.values.capacity r₀.text.now 0 (e' i) (slots r')) (state r' ns paper'))
        ∙ ap (λ m. exec L m (state r' ns paper')) (sym (skips r₀.values.capacity r₀.text.now k more (slots r')))
        ∙ sym (told_on L (turned r₀.values.capacity r₀.text.now n (slots r)) (after_turn r₀ more) (state r ns paper') (state r' ns paper') (slots r', k) (first_left ns r₀ r r' nodes left n more (Ok (slots r', k)) h e lawful does L paper' (same ∙ sym h.0.limit)))
        ∙ subst (Leads ns r₀ r nodes) e (h.1 lawful).1 L paper' same,
  ),
)

-- ---- the end

-- the value on top of what waits
abbrev on_top : List Slot → Value → Program (List Slot)
on_top vs v = return (Some v ∷ vs)

-- all the nodes do what the expression means
means : (r : Run) (nodes : List Node) (e : Expr) → Fits r nodes e → walked r.values.capacity r.text.now 0 nodes (slots r) ≡ expression r.text.now e >>= on_top (slots r)
means r nodes e fits =
    ap (λ ms. walked r.values.capacity r.text.now 0 ms (slots r)) (fits.nodes ∙ sym (append-nil (flatten e)))
    ∙ walks r.values.capacity r.text.now e [] (slots r) (lawful_calls r.text.now (flatten e) (subst (AllLawful r.text.now) fits.nodes fits.lawful)) fits.room

-- an outcome with the value on top is that of a value, or of the same refusal
topped : (L : Limits) (us vs : List Slot) (s : State) (o : Outcome Value) → done us s ≡ on L o (on_top vs) → (v : Value) × (us ≡ Some v ∷ vs) × (done v s ≡ o)
topped L us vs s (done v s') h = (v, cc, cc)
topped L us vs s (refused x p s') h = absurd cc

refused_topped : (L : Limits) (vs : List Slot) (x : Refusal) (p : ℕ) (s : State) (o : Outcome Value) → refused x p s ≡ on L o (on_top vs) → refused x p s ≡ o
refused_topped L vs x p s (done v s') h = absurd cc
refused_topped L vs x p s (refused y q s') h = cc

same_top : (u v : Value) (us vs : List Slot) → us ≡ Some u ∷ vs → us ≡ Some v ∷ vs → u ≡ v
same_top u v us vs h h' = cc

-- how r ends where the program m was begun at r₀, under given limits and with some paper
abbrev Ends : Names → Program Value → Run → Run → Limits → List ℕ → Type 0
Ends ns m r₀ r L paper' = (v : Value) × (slots r ≡ Some v ∷ slots r₀) × (done v (state r ns paper') ≡ exec L m (state r₀ ns paper'))

ends : (ns : Names) (r₀ r : Run) (nodes : List Node) (e : Expr) → Kept ns r₀ r nodes [] → Fits r₀ nodes e → (L : Limits) (paper' : List ℕ) → L.steps ≡ r₀.limit → Ends ns (expression r₀.text.now e) r₀ r L paper'
ends ns r₀ r nodes e h fits L paper' same =
    topped L (slots r) (slots r₀) (state r ns paper') (exec L (expression r₀.text.now e) (state r₀ ns paper'))
    ((h.1 fits.lawful).1 L paper' same ∙ ap (λ m. exec L m (state r₀ ns paper')) (means r₀ nodes e fits) ∙ exec_bind L (expression r₀.text.now e) (on_top (slots r₀)) (state r₀ ns paper'))

-- With no node left the value is on top. It is found under one choice of limits and paper; that it is the same under all, the values
-- that wait tell.
pub all_done : (ns : Names) (r₀ r : Run) (nodes left : List Node) (u : Unit {0}) → Kept ns r₀ r nodes left → length left ≡ 0 → (e : Expr) → Fits r₀ nodes e → Valued ns (expression r₀.text.now e) r₀ r (Ok u)
all_done ns r₀ r nodes (n ∷ left) u h none e fits = absurd (omega arith)
all_done ns r₀ r nodes [] u h none e fits =
    let m = expression r₀.text.now e in
    let one : Ends ns m r₀ r (record { steps = r₀.limit; names = 0; paper = 0 }) [] = ends ns r₀ r nodes e h fits (record { steps = r₀.limit; names = 0; paper = 0 }) [] refl in
    let same : (L : Limits) (paper' : List ℕ) → Ends ns m r₀ r L paper' → done one.0 (state r ns paper') ≡ exec L m (state r₀ ns paper') = λ L paper' x. ap (λ v. done v (state r ns paper')) (same_top one.0 x.0 (slots r) (slots r₀) one.1 x.1) ∙ x.2 in
    (one.0, one.1, λ L paper' k. same L paper' (ends ns r₀ r nodes e h fits L paper' k))

-- where a node is refused the expression is
pub one_refused : (ns : Names) (r₀ r r' : Run) (nodes left : List Node) (n : Node) (more : List Node) (f : Fault)
    → Kept ns r₀ r nodes left → left ≡ n ∷ more → (Lawful r.text.now n → Does ns (turned r.values.capacity r.text.now n (slots r)) r r' (Err f)) → (e : Expr) → Fits r₀ nodes e → Valued ns (expression r₀.text.now e) r₀ r' (Err f)
one_refused ns r₀ r r' nodes left n more f h e' does e fits L paper' same =
    let turn = first_left ns r₀ r r' nodes left n more (Err f) h e' fits.lawful does in
    refused_topped L (slots r₀) f.refusal f.place (state r' ns paper') (exec L (expression r₀.text.now e) (state r₀ ns paper'))
    (does_stops ns (turned r₀.values.capacity r₀.text.now n (slots r)) (after_turn r₀ more) r r' f turn L paper' (same ∙ sym h.0.limit)
    ∙ subst (Leads ns r₀ r nodes) e' (h.1 fits.lawful).1 L paper' same
    ∙ ap (λ m. exec L m (state r₀ ns paper')) (means r₀ nodes e fits)
    ∙ exec_bind L (expression r₀.text.now e) (on_top (slots r₀)) (state r₀ ns paper'))

-- ---- a condition

-- what is promised of a condition with the meaning m
abbrev pub Tested : Names → Program Bool → Run → Run → Result Bool Fault → Type 0
Tested ns m r r' o = Does ns m r r' o × Level r r' o

-- what is done with the value
abbrev judged : ℕ → Value → Program Bool
judged p v = or_fail p (operand v) >>= λ n. return (not (is_zero n))

pub visit_refused : (ns : Names) (p : ℕ) (r r' : Run) (e : Expr) (f : Fault) → Visited p r r' (Err f) → Tested ns (test r.text.now p e) r r' (Err f)
visit_refused ns p r r' e f v = (does_unvisited ns (expression r.text.now e >>= judged p) f v, tt)

pub value_refused : (ns : Names) (p : ℕ) (r r' : Run) (e : Expr) (f : Fault) → Valued ns (visit p (expression r.text.now e)) r r' (Err f) → Tested ns (test r.text.now p e) r r' (Err f)
value_refused ns p r r' e f w = (does_stops ns (visit p (expression r.text.now e)) (judged p) r r' f w, tt)

-- r₁ is behind the expression, r₂ behind its value
pub tested : (ns : Names) (p : ℕ) (r r₁ r₂ : Run) (e : Expr) (u : Unit {0}) (v : Value) (o : Result ℤ Fault)
    → Valued ns (visit p (expression r.text.now e)) r r₁ (Ok u) → r₁.limit ≡ r.limit → OnlyValues r₁ r₂ → v ≡ top_value (slots r₁) → slots r₂ ≡ rest (slots r₁) → o ≡ faulted p (refused_by (operand v))
    → Does ns (test r.text.now p e) r r₂ (result_as (λ n. not (is_zero n)) o) × (slots r₂ ≡ slots r)
tested ns p r r₁ r₂ e u v o = operand_does ns (visit p (expression r.text.now e)) p (λ n. not (is_zero n)) r r₁ r₂ u v o

-- a number is 0 where its bits are
pub zero_bits : (n : ℤ) → SFits w64 n → nat_eq (of_z w64 n) 0 ≡ is_zero n
zero_bits (pos n) fits = grind (arith, nat_tests)
zero_bits (negsuc n) fits = ne_eqb _ _ (omega (arith, fits.sfits))
