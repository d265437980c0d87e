-- What stands at a place of the text, and what of that stands in an instruction. Assumes nothing.
use Rattle.std.proofs.Common.{◌≡◌, ℕ, ◌+◌, ◌<◌, ◌≤◌, true, false, List, length, get_or, Bor, slice_get, Some, None, Ok, Err, Result, sym, ap, ◌∙◌, ⊎_elim, arith}
use Rattle.std.proofs.lemmas.Option.{slice_get-get_or, slice_get_past}
use Rattle.std.proofs.lemmas.Bool.{cases_lt}
use Rattle.std.proofs.lemmas.Bool.Decides.{nat_tests}
use Rattle.tokens.specs.declared.operator.Op.{Op}
use Rattle.tokens.specs.declared.byte.Start.{Start}
use Rattle.tokens.specs.declared.byte.Start.TheVariants as at
use Rattle.tokens.specs.declared.byte.After.{After}
use Rattle.tokens.specs.declared.byte.After.TheVariants as past
use Rattle.tokens.specs.declared.byte.Class.TheVariants as is
use Rattle.tokens.specs.Bytes.{start, after, class, blank, digit_value}
use Rattle.tokens.specs.Operators.{is_wide}
use Rattle.reader.specs.declared.cursor.Cursor.{Cursor}
use Rattle.reader.specs.declared.cursor.State.TheVariants.{Instruction, Plain}
use Rattle.refusals.specs.declared.fault.Fault.{Fault}
use Rattle.reader.specs.States.{moved, Inner, MovedTo, Taken}
use Rattle.reader.specs.Scans.{Spaced, start_of, start_at, after_of, after_at, digit_of, digit_at, token_of, token_at}
use Rattle.reader.specs.Statements.{Finished, Completed}

module _ (text : List ℕ) (p : ℕ) where
  -- what stands at a place is what the byte there is
  pub start_here : p < length text → start_at text p ≡ start (get_or text p 0)
  start_here lt = ap start_of (slice_get-get_or text p 0 lt)

  pub after_here : p < length text → after_at text p ≡ after (get_or text p 0)
  after_here lt = ap after_of (slice_get-get_or text p 0 lt)

  pub digit_here : p < length text → digit_at text p ≡ digit_value (get_or text p 0)
  digit_here lt = ap digit_of (slice_get-get_or text p 0 lt)

  -- behind the text stands nothing
  pub start_inside : (start_at text p ≡ at.Other → ⊥) → p < length text
  start_inside other = ⊎_elim (λ lt. lt) (λ ge. absurd (other (ap start_of (slice_get_past text p ge)))) (cases_lt p (length text))

  pub after_inside : (after_at text p ≡ past.Other → ⊥) → p < length text
  after_inside other = ⊎_elim (λ lt. lt) (λ ge. absurd (other (ap after_of (slice_get_past text p ge)))) (cases_lt p (length text))

  pub digit_inside : digit_at text p < 16 → p < length text
  digit_inside h = ⊎_elim (λ lt. lt) (λ ge. absurd (omega (arith, ap digit_of (slice_get_past text p ge)))) (cases_lt p (length text))

  -- so there is a byte where anything stands
  pub start_is : (s : Start) → (s ≡ at.Other → ⊥) → start_at text p ≡ s → (p < length text) × (start (get_or text p 0) ≡ s)
  start_is s other e = let lt = start_inside (λ o. other (sym e ∙ o)) in (lt, sym (start_here lt) ∙ e)

  pub after_is : (x : After) → (x ≡ past.Other → ⊥) → after_at text p ≡ x → (p < length text) × (after (get_or text p 0) ≡ x)
  after_is x other e = let lt = after_inside (λ o. other (sym e ∙ o)) in (lt, sym (after_here lt) ∙ e)

-- what stands at the place that a cursor has come to
pub at_place : {A : Type 0} (f : List ℕ → ℕ → A) {r r' : Cursor} {p : ℕ} → MovedTo r p r' → f r'.text.now r'.pos ≡ f r.text.now p
at_place f {r} {r'} m = ap (λ (t : Bor (List ℕ)). f t.now r'.pos) m.text ∙ ap (f r.text.now) m.pos

-- a blank is one before an operand and behind it
pub blank_start : (b : ℕ) → start b ≡ at.Blank → blank b ≡ true
blank_start b e = grind (arith, nat_tests)

pub blank_after : (b : ℕ) → after b ≡ past.Blank → blank b ≡ true
blank_after b e = grind (arith, nat_tests)

start_inner : (b : ℕ) → (start b ≡ at.Quote → ⊥) → (start b ≡ at.Other → ⊥) → Inner b
start_inner b q o = grind (arith, nat_tests)

after_inner : (b : ℕ) → (after b ≡ past.Dollar → ⊥) → (after b ≡ past.Quote → ⊥) → (after b ≡ past.Other → ⊥) → Inner b
after_inner b d q o = grind (arith, nat_tests)

digit_inner : (b : ℕ) → digit_value b < 16 → Inner b
digit_inner b h = grind (arith, nat_tests)

-- what stands behind an operand, but for `$` and a quote, stands in an instruction
pub after_passes : (text : List ℕ) (p : ℕ) → (after_at text p ≡ past.Dollar → ⊥) → (after_at text p ≡ past.Quote → ⊥) → (after_at text p ≡ past.Other → ⊥) → (p < length text) × Inner (get_or text p 0)
after_passes text p d q o =
    let lt = after_inside text p o in
    let here = after_here text p lt in
    (lt, after_inner (get_or text p 0) (λ e. d (here ∙ e)) (λ e. q (here ∙ e)) (λ e. o (here ∙ e)))

-- a cursor in an instruction stands at a byte that the instruction goes on over
abbrev pub Passes : Cursor → Type 0
Passes r = (r.pos < length r.text.now) × ((r.state ≡ Instruction) × Inner (get_or r.text.now r.pos 0))

pub start_passed : (r : Cursor) {s : Start} → r.state ≡ Instruction → start_at r.text.now r.pos ≡ s → (s ≡ at.Quote → ⊥) → (s ≡ at.Other → ⊥) → Passes r
start_passed r {s} inward e quote other =
    let h = start_is r.text.now r.pos s other e in
    (h.0, (inward, start_inner (get_or r.text.now r.pos 0) (λ q. quote (sym h.1 ∙ q)) (λ o. other (sym h.1 ∙ o))))

pub after_passed : (r : Cursor) {x : After} → r.state ≡ Instruction → after_at r.text.now r.pos ≡ x → (x ≡ past.Dollar → ⊥) → (x ≡ past.Quote → ⊥) → (x ≡ past.Other → ⊥) → Passes r
after_passed r inward e dollar quote other =
    let h = after_passes r.text.now r.pos (λ d. dollar (sym e ∙ d)) (λ q. quote (sym e ∙ q)) (λ o. other (sym e ∙ o)) in
    (h.0, (inward, h.1))

pub digit_passed : (r : Cursor) → r.state ≡ Instruction → digit_at r.text.now r.pos < 16 → Passes r
digit_passed r inward h =
    let lt = digit_inside r.text.now r.pos h in
    (lt, (inward, digit_inner (get_or r.text.now r.pos 0) (omega (arith, digit_here r.text.now r.pos lt))))

-- an operator of one byte is narrow, and one of two has its second byte
narrow : (b : ℕ) (o : Op) → token_of (after b) None ≡ Some o → is_wide o ≡ false
narrow b o e = grind (arith, nat_tests)

pub token_inside : (text : List ℕ) (p : ℕ) (o : Op) → token_at text p ≡ Some o → p < length text
token_inside text p o e = after_inside text p (λ other. none (sym (ap (λ a. token_of a (slice_get text (p + 1))) other) ∙ e))
  where
    none : token_of past.Other (slice_get text (p + 1)) ≡ Some o → ⊥
    none t = cc

pub wide_inside : (text : List ℕ) (p : ℕ) (o : Op) → token_at text p ≡ Some o → is_wide o ≡ true → p + 1 < length text
wide_inside text p o e w = ⊎_elim (λ lt. lt) (λ ge. absurd (cc (narrow (get_or text p 0) o (none ge), w))) (cases_lt (p + 1) (length text))
  where
    none : length text ≤ p + 1 → token_of (after (get_or text p 0)) None ≡ Some o
    none ge = sym (ap (λ a. token_of a (slice_get text (p + 1))) (after_here text p (token_inside text p o e)) ∙ ap (token_of (after (get_or text p 0))) (slice_get_past text (p + 1) ge)) ∙ e

after_dollar : (b : ℕ) → after b ≡ past.Dollar → class b ≡ is.Dollar
after_dollar b e = grind (arith, nat_tests)

-- the `$` that closes an instruction is taken, and leads into plain text
pub finished : (r r' : Cursor) (o : Result (Unit {0}) Fault) → r.state ≡ Instruction → after_at r.text.now r.pos ≡ past.Dollar → Taken r o r' → Finished r.text.now r o r'
finished r r' o inward here took = by_answer o took
  where
    dollar : (r.pos < length r.text.now) × (after (get_or r.text.now r.pos 0) ≡ past.Dollar)
    dollar = after_is r.text.now r.pos past.Dollar (λ other. cc) here

    on : moved r.state (class (get_or r.text.now r.pos 0)) ≡ Some Plain
    on = ap (λ s. moved s (class (get_or r.text.now r.pos 0))) inward ∙ ap (moved Instruction) (after_dollar (get_or r.text.now r.pos 0) dollar.1)

    by_answer : (o : Result (Unit {0}) Fault) → Taken r o r' → Finished r.text.now r o r'
    by_answer (Ok u) took = (here, (cc (on, took.1)), took.2)
    by_answer (Err f) took = absurd (cc (on, took.1 dollar.0))

-- the same behind blanks
pub completed : (r m r' : Cursor) (o : Result (Unit {0}) Fault) → Spaced r m → after_at m.text.now m.pos ≡ past.Dollar → Finished m.text.now m o r' → Completed r.text.now r o r'
completed r m r' (Ok u) s here f = record { middle = m; spaced = s; dollar = sym (at_place after_at s.same) ∙ here; outward = f.1; next = f.2 }
completed r m r' (Err e) s here f = absurd (f.0 here)
