-- The laws of programs and limits. They hold of every print, whatever its template says. Assumes nothing.
use Rattle.std.specs.Prelude.{◌≡◌, ℕ, zero, suc, ◌+◌, ◌-◌, ◌≤◌, Bool, true, false, cond, List, [], ◌∷◌, ◌++◌, length, Ok, Err, Result, nat_lt}
use Rattle.refusals.specs.declared.fault.Fault.{Fault}
use Rattle.refusals.specs.declared.Refusal.TheVariants.{OutOfSteps, StoreFull, PaperFull}
use Rattle.refusals.specs.Errors.{refusal_of}
use Rattle.refusals.specs.Faults.{fault}
use Rattle.keys.specs.KeyOrder.{KeyName}
use Rattle.values.specs.Forms.{Elem}
use Rattle.store.specs.Names.{Names, read_at, with, has_room}
use Rattle.store.specs.Laws.{InKeyOrder}
use Rattle.effects.specs.Effects.{Program, return, fail, visit, byte, put, ask, Print, Limits, State, visited, printed, assigned, Outcome, refused, told, exec, state_of, limited}

-- what a program does, one after another
pub data Event : Type 0 where
  visits : ℕ → Event
  prints : ℕ → ℕ → Event
  assigns : KeyName → List Elem → ℕ → Event

-- all that a program does from some names on, if nothing limits it
abbrev pub trace : {A : Type 0} → Program A → Names → List Event
trace (return a) ns = []
trace (fail e p) ns = []
trace (visit p m) ns = visits p ∷ trace m ns
trace (byte b p m) ns = prints b p ∷ trace m ns
trace (put k v p m) ns = assigns k v p ∷ trace m (with k v ns)
trace (ask k g) ns = trace (g (read_at k ns)) ns

-- the end of a program from some names on, if nothing limits it: its result, or its error and where
abbrev pub end_of : {A : Type 0} → Program A → Names → Result A Fault
end_of (return a) ns = Ok a
end_of (fail e p) ns = Err (fault (refusal_of e) p)
end_of (visit p m) ns = end_of m ns
end_of (byte b p m) ns = end_of m ns
end_of (put k v p m) ns = end_of m (with k v ns)
end_of (ask k g) ns = end_of (g (read_at k ns)) ns

-- what an event leaves, and what some events leave one after another
abbrev pub after_event : State → Event → State
after_event s (visits p) = visited s
after_event s (prints b p) = printed b s
after_event s (assigns k v p) = assigned k v s

abbrev pub after : State → List Event → State
after s [] = s
after s (e ∷ es) = after (after_event s e) es

-- whether limits allow an event
abbrev pub allowed : Limits → State → Event → Bool
allowed L s (visits p) = nat_lt s.steps L.steps
allowed L s (prints b p) = nat_lt (length s.paper) L.paper
allowed L s (assigns k v p) = has_room L.names k s.names

-- the refusal of an event that limits do not allow, with its place
abbrev pub refusal_at : Event → Fault
refusal_at (visits p) = fault OutOfSteps p
refusal_at (prints b p) = fault PaperFull p
refusal_at (assigns k v p) = fault StoreFull p

-- the outcome of some events and the end that follows them: the refusal of the first event that limits do not allow, or else the end
abbrev pub outcome_of : {A : Type 0} → Limits → State → List Event → Result A Fault → Outcome A
outcome_of L s [] o = told o s
outcome_of L s (e ∷ es) o = cond (allowed L s e) (outcome_of L (after_event s e) es o) (told (Err (refusal_at e)) s)

-- the first events, up to one that limits do not allow
abbrev pub reached : Limits → State → List Event → List Event
reached L s [] = []
reached L s (e ∷ es) = cond (allowed L s e) (e ∷ reached L (after_event s e) es) []

abbrev pub is_visit : Event → Bool
is_visit (visits p) = true
is_visit (prints b p) = false
is_visit (assigns k v p) = false

abbrev pub count_visits : List Event → ℕ
count_visits [] = 0
count_visits (e ∷ es) = cond (is_visit e) (suc (count_visits es)) (count_visits es)

-- the first n visits, with all that is done up to the next
abbrev pub first_visits : ℕ → List Event → List Event
first_visits n [] = []
first_visits zero (e ∷ es) = cond (is_visit e) [] (e ∷ first_visits zero es)
first_visits (suc n) (e ∷ es) = e ∷ first_visits (cond (is_visit e) n (suc n)) es

-- what a print leaves is what its events leave, up to one that its limits do not allow
abbrev pub DoesItsTrace : Type 0
DoesItsTrace = (L : Limits) (m : Print) (s : State) → state_of (exec L m s) ≡ after s (reached L s (trace m s.names))

-- the steps are the visits made
abbrev pub CountsVisits : Type 0
CountsVisits = (L : Limits) (m : Print) (s : State) → (state_of (exec L m s)).steps ≡ s.steps + count_visits (reached L s (trace m s.names))

-- A print is refused at the first event that its limits do not allow: 22 where a visit, 24 where a byte and 23 where a put is then due,
-- with its place. If they allow all, it comes to the end of its program.
abbrev pub RefusedWhereDue : Type 0
RefusedWhereDue = (L : Limits) (m : Print) (s : State) → exec L m s ≡ outcome_of L s (trace m s.names) (end_of m s.names)

-- after the first n visits, with all that is done up to the next, a visit at p is due
abbrev pub DueAfter : ℕ → ℕ → List Event → Type 0
DueAfter n p es = (fs : List Event) × (es ≡ first_visits n es ++ visits p ∷ fs)

-- A print that is stopped at its steps leaves exactly what its first n visits leave, where n steps were left to it. It names the place of
-- the next visit.
abbrev pub StopsAtSteps : Type 0
StopsAtSteps =
    (L : Limits) (m : Print) (s s' : State) (p : ℕ) → s.steps ≤ L.steps → exec L m s ≡ refused OutOfSteps p s' →
    (s'.steps ≡ L.steps) × (s' ≡ after s (first_visits (L.steps - s.steps) (trace m s.names))) × DueAfter (L.steps - s.steps) p (trace m s.names)

abbrev pub Begins : List ℕ → List ℕ → Type 0
Begins xs ys = (zs : List ℕ) × (xs ++ zs ≡ ys)

-- paper only grows
abbrev pub PaperGrows : Type 0
PaperGrows = (L : Limits) (m : Print) (s : State) → Begins s.paper (state_of (exec L m s)).paper

-- limits reach a state
pub record Within (L : Limits) (s : State) : Type 0 where
  pub steps : s.steps ≤ L.steps
  pub names : length s.names ≤ L.names
  pub paper : length s.paper ≤ L.paper

-- A print that no limit refuses is the same under all limits that reach where it ends. It is the same under no others that reach where it
-- begins, if its names are in key order, as those of every store are: in names that are not in key order a put may add a row for a key
-- that is set.
abbrev pub SameWhereReached : Type 0
SameWhereReached =
    (L M : Limits) (m : Print) (s : State) → limited (exec L m s) ≡ false →
    (Within M (state_of (exec L m s)) → exec M m s ≡ exec L m s)
    × (InKeyOrder s.names → Within M s → exec M m s ≡ exec L m s → Within M (state_of (exec L m s)))

-- no limit of M is below that of L
pub record Wider (L M : Limits) : Type 0 where
  pub steps : L.steps ≤ M.steps
  pub names : L.names ≤ M.names
  pub paper : L.paper ≤ M.paper

-- under wider limits the paper begins with that of the narrower; and it is the same print, if no limit refused the narrower
abbrev pub NarrowBegins : Type 0
NarrowBegins =
    (L M : Limits) (m : Print) (s : State) → Wider L M →
    Begins (state_of (exec L m s)).paper (state_of (exec M m s)).paper × (limited (exec L m s) ≡ false → exec M m s ≡ exec L m s)

-- all of them
pub record PrintLaws : Type 0 where
  pub does_its_trace : DoesItsTrace
  pub counts_visits : CountsVisits
  pub refused_where_due : RefusedWhereDue
  pub stops_at_steps : StopsAtSteps
  pub paper_grows : PaperGrows
  pub same_where_reached : SameWhereReached
  pub narrow_begins : NarrowBegins
