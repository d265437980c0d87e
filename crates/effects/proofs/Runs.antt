-- The laws of programs and limits, for programs of any result. Assumes nothing.
use Rattle.std.proofs.Common.{◌≡◌, ℕ, zero, suc, ◌+◌, ◌-◌, ◌<◌, ◌≤◌, Bool, true, false, cond, List, [], ◌∷◌, ◌++◌, length, sym, refl, ap, ◌∙◌, subst, append_assoc, length-append, arith}
use Rattle.std.specs.Prelude.{nat_lt}
use Rattle.std.proofs.lemmas.Bool.{ltb-true, ltb-false, lt-ltb, cond-true, both_ways}
use Rattle.std.proofs.lemmas.List.{append-nil}
use Rattle.refusals.specs.declared.Refusal.{Refusal}
use Rattle.refusals.specs.declared.Refusal.TheVariants.{OutOfSteps, StoreFull, PaperFull}
use Rattle.refusals.specs.Errors.{Error, refusal_of}
use Rattle.keys.specs.KeyOrder.{KeyName, key_order}
use Rattle.values.specs.Forms.{Elem}
use Rattle.order.proofs.Entries.{put-sorted}
use Rattle.store.specs.Names.{read_at, with, has_room}
use Rattle.store.specs.Laws.{InKeyOrder}
use Rattle.effects.specs.Effects.{Program, return, fail, visit, byte, put, ask, Limits, State, visited, printed, assigned, Outcome, refused, exec, state_of, is_limit, limited}
use Rattle.effects.specs.Laws.{PrintLaws, Event, visits, prints, assigns, trace, end_of, after_event, after, outcome_of, reached, count_visits, first_visits, DoesItsTrace, CountsVisits, RefusedWhereDue, DueAfter, StopsAtSteps, Begins, PaperGrows, Within, SameWhereReached, Wider, NarrowBegins}
use Rattle.effects.proofs.Rooms.{with_keeps, room_from_length, length_from_room, room_wider}

-- ---- what a run does

-- one event, of which b says that limits allow it
leaves : {A : Type 0} (L : Limits) (s : State) (b : Bool) (e : Event) (es : List Event) (x : Outcome A) (r : Refusal) (p : ℕ) → state_of x ≡ after (after_event s e) (reached L (after_event s e) es)
    → state_of (cond b x (refused r p s)) ≡ after s (cond b (e ∷ reached L (after_event s e) es) [])
leaves L s true e es x r p h = h
leaves L s false e es x r p h = refl

pub leaves_trace : {A : Type 0} (L : Limits) (m : Program A) (s : State) → state_of (exec L m s) ≡ after s (reached L s (trace m s.names))
leaves_trace L (return a) s = refl
leaves_trace L (fail e p) s = refl
leaves_trace L (visit p m) s = leaves L s _ (visits p) (trace m s.names) _ _ p (leaves_trace L m (visited s))
leaves_trace L (byte b p m) s = leaves L s _ (prints b p) (trace m s.names) _ _ p (leaves_trace L m (printed b s))
leaves_trace L (put k v p m) s = leaves L s _ (assigns k v p) (trace m (with k v s.names)) _ _ p (leaves_trace L m (assigned k v s))
leaves_trace L (ask k g) s = leaves_trace L (g (read_at k s.names)) s

pub does_its_trace : DoesItsTrace
does_its_trace L m s = leaves_trace L m s

pub steps_after : (s : State) (es : List Event) → (after s es).steps ≡ s.steps + count_visits es
steps_after s [] = omega arith
steps_after s (visits p ∷ es) = let h = steps_after (visited s) es in omega arith
steps_after s (prints b p ∷ es) = steps_after (printed b s) es
steps_after s (assigns k v p ∷ es) = steps_after (assigned k v s) es

pub counts_visits : CountsVisits
counts_visits L m s = ap (λ (t : State). t.steps) (leaves_trace L m s) ∙ steps_after s (reached L s (trace m s.names))

pub refused_due : {A : Type 0} (L : Limits) (m : Program A) (s : State) → exec L m s ≡ outcome_of L s (trace m s.names) (end_of m s.names)
refused_due L (return a) s = refl
refused_due L (fail e p) s = refl
refused_due L (visit p m) s = λ i. cond (nat_lt s.steps L.steps) (refused_due L m (visited s) i) (refused OutOfSteps p s)
refused_due L (byte b p m) s = λ i. cond (nat_lt (length s.paper) L.paper) (refused_due L m (printed b s) i) (refused PaperFull p s)
refused_due L (put k v p m) s = λ i. cond (has_room L.names k s.names) (refused_due L m (assigned k v s) i) (refused StoreFull p s)
refused_due L (ask k g) s = refused_due L (g (read_at k s.names)) s

pub refused_where_due : RefusedWhereDue
refused_where_due L m s = refused_due L m s

-- ---- stopped at a step

not_steps : (e : Error) → refusal_of e ≡ OutOfSteps → ⊥
not_steps Error.not_a_number h = cc
not_steps Error.overflow h = cc
not_steps Error.division_by_zero h = cc
not_steps Error.bad_shift h = cc
not_steps Error.too_many_elements h = cc
not_steps Error.text_too_long h = cc
not_steps Error.not_digits h = cc

first_prints : (n b p : ℕ) (es : List Event) → first_visits n (prints b p ∷ es) ≡ prints b p ∷ first_visits n es
first_prints zero b p es = refl
first_prints (suc n) b p es = refl

first_assigns : (n : ℕ) (k : KeyName) (v : List Elem) (p : ℕ) (es : List Event) → first_visits n (assigns k v p ∷ es) ≡ assigns k v p ∷ first_visits n es
first_assigns zero k v p es = refl
first_assigns (suc n) k v p es = refl

-- a run that is stopped at its steps, from s on and at q, with some events to come
abbrev pub StopsFrom : Limits → State → State → ℕ → List Event → Type 0
StopsFrom L s t q es = (t.steps ≡ L.steps) × (t ≡ after s (first_visits (L.steps - s.steps) es)) × DueAfter (L.steps - s.steps) q es

-- one event, after which the run goes on until it is stopped
stops_later : (L : Limits) (s t : State) (q : ℕ) (e : Event) (es : List Event) → first_visits (L.steps - s.steps) (e ∷ es) ≡ e ∷ first_visits (L.steps - (after_event s e).steps) es
    → StopsFrom L (after_event s e) t q es → StopsFrom L s t q (e ∷ es)
stops_later L s t q e es f h = (h.0, h.1 ∙ ap (after s) (sym f), (h.2.0, (λ i. e ∷ h.2.1 i) ∙ ap (λ xs. xs ++ visits q ∷ h.2.0) (sym f)))

-- a stop at the steps is not the refusal of another event, so it comes after that event
goes_on : {A : Type 0} (b : Bool) (x : Outcome A) (r : Refusal) (p q : ℕ) (s t : State) → (r ≡ OutOfSteps → ⊥) → cond b x (refused r p s) ≡ refused OutOfSteps q t → x ≡ refused OutOfSteps q t
goes_on true x r p q s t n h = h
goes_on false x r p q s t n h = absurd (n (cc))

visit_stops : {A : Type 0} (L : Limits) (s t : State) (p q : ℕ) (es : List Event) (b : Bool) (x : Outcome A) → nat_lt s.steps L.steps ≡ b → s.steps ≤ L.steps
    → (s.steps < L.steps → x ≡ refused OutOfSteps q t → StopsFrom L (visited s) t q es) → cond b x (refused OutOfSteps p s) ≡ refused OutOfSteps q t → StopsFrom L s t q (visits p ∷ es)
visit_stops L s t p q es true x e le next h =
    let lt = ltb-true s.steps L.steps e in
    let n : L.steps - s.steps ≡ suc (L.steps - suc s.steps) = omega arith in
    stops_later L s t q (visits p) es (ap (λ k. first_visits k (visits p ∷ es)) n) (next lt h)
visit_stops L s t p q es false x e le next h =
    let same : t ≡ s = cc in
    let ge = ltb-false s.steps L.steps e in
    let steps : t.steps ≡ s.steps = ap (λ (u : State). u.steps) same in
    let n : L.steps - s.steps ≡ 0 = omega arith in
    let place : p ≡ q = cc in
    (omega arith, rw n same, rw n (es, λ i. visits (place i) ∷ es))

pub stops_from : {A : Type 0} (L : Limits) (m : Program A) (s t : State) (q : ℕ) → s.steps ≤ L.steps → exec L m s ≡ refused OutOfSteps q t → StopsFrom L s t q (trace m s.names)
stops_from L (return a) s t q le h = cc
stops_from L (fail e p) s t q le h = absurd (not_steps e (cc))
stops_from L (visit p m) s t q le h =
    visit_stops L s t p q (trace m s.names) (nat_lt s.steps L.steps) (exec L m (visited s)) refl le (λ lt e. stops_from L m (visited s) t q (omega arith) e) h
stops_from L (byte b p m) s t q le h =
    stops_later L s t q (prints b p) (trace m s.names) (first_prints (L.steps - s.steps) b p (trace m s.names))
    (stops_from L m (printed b s) t q le (goes_on (nat_lt (length s.paper) L.paper) (exec L m (printed b s)) PaperFull p q s t (λ e. cc) h))
stops_from L (put k v p m) s t q le h =
    stops_later L s t q (assigns k v p) (trace m (with k v s.names)) (first_assigns (L.steps - s.steps) k v p (trace m (with k v s.names)))
    (stops_from L m (assigned k v s) t q le (goes_on (has_room L.names k s.names) (exec L m (assigned k v s)) StoreFull p q s t (λ e. cc) h))
stops_from L (ask k g) s t q le h = stops_from L (g (read_at k s.names)) s t q le h

pub stops_at_steps : StopsAtSteps
stops_at_steps L m s t p le h = stops_from L m s t p le h

-- ---- what each event that is allowed keeps, a run keeps

module _ (L : Limits) (P : State → Type 0)
    (on_visit : (s : State) → s.steps < L.steps → P s → P (visited s))
    (on_byte : (s : State) (b : ℕ) → length s.paper < L.paper → P s → P (printed b s))
    (on_put : (s : State) (k : KeyName) (v : List Elem) → has_room L.names k s.names ≡ true → P s → P (assigned k v s)) where
  -- one event, of which c says that L allows it
  kept_by : {A : Type 0} (s : State) (b c : Bool) (x : Outcome A) (r : Refusal) (p : ℕ) → b ≡ c → P s → (b ≡ true → P (state_of x)) → P (state_of (cond c x (refused r p s)))
  kept_by s b true x r p e h next = next e
  kept_by s b false x r p e h next = h

  pub kept : {A : Type 0} (m : Program A) (s : State) → P s → P (state_of (exec L m s))
  kept (return a) s h = h
  kept (fail e p) s h = h
  kept (visit p m) s h = kept_by s (nat_lt s.steps L.steps) _ _ _ p refl h (λ e. kept m (visited s) (on_visit s (ltb-true _ _ e) h))
  kept (byte b p m) s h = kept_by s (nat_lt (length s.paper) L.paper) _ _ _ p refl h (λ e. kept m (printed b s) (on_byte s b (ltb-true _ _ e) h))
  kept (put k v p m) s h = kept_by s (has_room L.names k s.names) _ _ _ p refl h (λ e. kept m (assigned k v s) (on_put s k v e h))
  kept (ask k g) s h = kept (g (read_at k s.names)) s h

pub begins_self : (xs : List ℕ) → Begins xs xs
begins_self xs = ([], append-nil xs)

pub grows : {A : Type 0} (L : Limits) (m : Program A) (s : State) → Begins s.paper (state_of (exec L m s)).paper
grows L m s =
    kept L (λ t. Begins s.paper t.paper) (λ t lt h. h)
    (λ t b lt h. (h.0 ++ b ∷ [], sym (append_assoc s.paper h.0 (b ∷ [])) ∙ ap (λ xs. xs ++ b ∷ []) h.1))
    (λ t k v r h. h) m s (begins_self s.paper)

pub paper_grows : PaperGrows
paper_grows L m s = grows L m s

-- a run from names in key order stays within its limits
pub stays_within : {A : Type 0} (L : Limits) (m : Program A) (s : State) → InKeyOrder s.names → Within L s → Within L (state_of (exec L m s))
stays_within L m s o h = (
    kept L (λ t. InKeyOrder t.names × Within L t)
    (λ t lt h. (h.0, record { steps = omega arith; names = h.1.names; paper = h.1.paper }))
    (λ t b lt h. (h.0, record { steps = h.1.steps; names = h.1.names; paper = simp length-append (omega arith) }))
    (λ t k v r h. (put-sorted key_order k v t.names h.0, record { steps = h.1.steps; names = length_from_room L.names k v t.names h.0 r h.1.names; paper = h.1.paper }))
    m s (o, h)
    ).1

-- nothing gets less
pub record More (s t : State) : Type 0 where
  pub steps : s.steps ≤ t.steps
  pub names : length s.names ≤ length t.names
  pub paper : length s.paper ≤ length t.paper

pub gets_more : {A : Type 0} (L : Limits) (m : Program A) (s : State) → More s (state_of (exec L m s))
gets_more L m s =
    kept L (More s)
    (λ t lt h. record { steps = omega arith; names = h.names; paper = h.paper })
    (λ t b lt h. record { steps = h.steps; names = h.names; paper = simp length-append (omega arith) })
    (λ t k v r h. record { steps = h.steps; names = let e = with_keeps k v t.names in omega arith; paper = h.paper })
    m s (record { steps = omega arith; names = omega arith; paper = omega arith })

-- ---- the same program under two limits, where the first does not refuse

-- one event, of which b says that the first limits allow it and c that the second do
same_by : {A : Type 0} (P : State → Type 0) (b c : Bool) (x y : Outcome A) (r : Refusal) (p : ℕ) (s : State) → is_limit r ≡ true → (b ≡ true → limited x ≡ false → P (state_of x) → (c ≡ true) × (y ≡ x))
    → limited (cond b x (refused r p s)) ≡ false → P (state_of (cond b x (refused r p s))) → cond c y (refused r p s) ≡ cond b x (refused r p s)
same_by P true c x y r p s lim next free h = let e = next refl free h in cond-true c y (refused r p s) e.0 ∙ e.1
same_by P false c x y r p s lim next free h = absurd (both_ways (is_limit r) free lim)

-- under limits that reach where it ends it is the same, from any names
pub same_reached : {A : Type 0} (L M : Limits) (m : Program A) (s : State) → limited (exec L m s) ≡ false → Within M (state_of (exec L m s)) → exec M m s ≡ exec L m s
same_reached L M (return a) s free h = refl
same_reached L M (fail e p) s free h = refl
same_reached L M (visit p m) s free h =
    same_by (Within M) (nat_lt s.steps L.steps) (nat_lt s.steps M.steps) (exec L m (visited s)) (exec M m (visited s)) OutOfSteps p s refl
    (λ _ f w. (let g = gets_more L m (visited s) in lt-ltb s.steps M.steps (omega arith), same_reached L M m (visited s) f w)) free h
same_reached L M (byte b p m) s free h =
    same_by (Within M) (nat_lt (length s.paper) L.paper) (nat_lt (length s.paper) M.paper) (exec L m (printed b s)) (exec M m (printed b s)) PaperFull p s refl
    (λ _ f w. (let g = simp length-append at (gets_more L m (printed b s)).paper in lt-ltb (length s.paper) M.paper (omega arith), same_reached L M m (printed b s) f w)) free h
same_reached L M (put k v p m) s free h =
    same_by (Within M) (has_room L.names k s.names) (has_room M.names k s.names) (exec L m (assigned k v s)) (exec M m (assigned k v s)) StoreFull p s refl
    (λ _ f w. (let g = gets_more L m (assigned k v s) in room_from_length M.names k v s.names (omega arith), same_reached L M m (assigned k v s) f w)) free h
same_reached L M (ask k g) s free h = same_reached L M (g (read_at k s.names)) s free h

pub same_where_reached : SameWhereReached
same_where_reached L M m s free = ((λ h. same_reached L M m s free h), (λ o w e. subst (λ x. Within M (state_of x)) e (stays_within M m s o w)))

-- ---- wider limits

-- what narrower limits allow, wider ones do
allows_more : (n less more : ℕ) → less ≤ more → nat_lt n less ≡ true → nat_lt n more ≡ true
allows_more n less more le e = let lt = ltb-true n less e in lt-ltb n more (omega arith)

pub same_wider : {A : Type 0} (L M : Limits) (m : Program A) (s : State) → Wider L M → limited (exec L m s) ≡ false → exec M m s ≡ exec L m s
same_wider L M (return a) s w free = refl
same_wider L M (fail e p) s w free = refl
same_wider L M (visit p m) s w free =
    same_by (λ t. Unit {0}) (nat_lt s.steps L.steps) (nat_lt s.steps M.steps) (exec L m (visited s)) (exec M m (visited s)) OutOfSteps p s refl
    (λ e f _. (allows_more s.steps L.steps M.steps w.steps e, same_wider L M m (visited s) w f)) free tt
same_wider L M (byte b p m) s w free =
    same_by (λ t. Unit {0}) (nat_lt (length s.paper) L.paper) (nat_lt (length s.paper) M.paper) (exec L m (printed b s)) (exec M m (printed b s)) PaperFull p s refl
    (λ e f _. (allows_more (length s.paper) L.paper M.paper w.paper e, same_wider L M m (printed b s) w f)) free tt
same_wider L M (put k v p m) s w free =
    same_by (λ t. Unit {0}) (has_room L.names k s.names) (has_room M.names k s.names) (exec L m (assigned k v s)) (exec M m (assigned k v s)) StoreFull p s refl
    (λ e f _. (room_wider L.names M.names k s.names w.names e, same_wider L M m (assigned k v s) w f)) free tt
same_wider L M (ask k g) s w free = same_wider L M (g (read_at k s.names)) s w free

-- the same, where the first may refuse
begins_by : {A : Type 0} (b c : Bool) (x y : Outcome A) (r : Refusal) (p : ℕ) (s : State) → (b ≡ true → c ≡ true) → Begins s.paper (state_of y).paper → Begins (state_of x).paper (state_of y).paper
    → Begins (state_of (cond b x (refused r p s))).paper (state_of (cond c y (refused r p s))).paper
begins_by true c x y r p s wide start rest = subst (λ o. Begins (state_of x).paper (state_of o).paper) (sym (cond-true c y (refused r p s) (wide refl))) rest
begins_by false true x y r p s wide start rest = start
begins_by false false x y r p s wide start rest = begins_self s.paper

begins_less : (xs ys zs : List ℕ) → Begins (xs ++ ys) zs → Begins xs zs
begins_less xs ys zs h = (ys ++ h.0, sym (append_assoc xs ys h.0) ∙ h.1)

pub paper_begins : {A : Type 0} (L M : Limits) (m : Program A) (s : State) → Wider L M → Begins (state_of (exec L m s)).paper (state_of (exec M m s)).paper
paper_begins L M (return a) s w = begins_self s.paper
paper_begins L M (fail e p) s w = begins_self s.paper
paper_begins L M (visit p m) s w =
    begins_by _ _ _ _ _ p s (allows_more s.steps L.steps M.steps w.steps) (grows M m (visited s)) (paper_begins L M m (visited s) w)
paper_begins L M (byte b p m) s w =
    begins_by _ _ _ _ _ p s (allows_more (length s.paper) L.paper M.paper w.paper) (begins_less s.paper (b ∷ []) _ (grows M m (printed b s))) (paper_begins L M m (printed b s) w)
paper_begins L M (put k v p m) s w =
    begins_by _ _ _ _ _ p s (room_wider L.names M.names k s.names w.names) (grows M m (assigned k v s)) (paper_begins L M m (assigned k v s) w)
paper_begins L M (ask k g) s w = paper_begins L M (g (read_at k s.names)) s w

pub narrow_begins : NarrowBegins
narrow_begins L M m s w = (paper_begins L M m s w, λ free. same_wider L M m s w free)

pub print_laws : PrintLaws
print_laws = record { does_its_trace = does_its_trace; counts_visits = counts_visits; refused_where_due = refused_where_due; stops_at_steps = stops_at_steps; paper_grows = paper_grows; same_where_reached = same_where_reached; narrow_begins = narrow_begins }
