-- What one byte of a line changes in what is read so far. Assumes nothing.
use Rattle.std.proofs.Common.{◌≡◌, ℕ, ◌+◌, ◌*◌, ◌<◌, ◌≤◌, List, [], ◌∷◌, ◌++◌, length, get_or, take, drop, set, Some, None, Option, Ok, Err, Result, refl, sym, ap, ◌∙◌, arith, append_assoc}
use Rattle.std.specs.Option.{option_map}
use Rattle.std.proofs.lemmas.List.{drop_more, drop_all, take_more_set, drop-set-lt, length-set}
use Rattle.std.specs.Result.{IsErr}
use Rattle.std.proofs.lemmas.Bool.{false≢true}
use Rattle.std.proofs.lemmas.Grind.{drop_more_same}
use Rattle.std.proofs.lemmas.Bool.Decides.{nat_tests}
use Rattle.tokens.specs.Bytes.{digit_value}
use Rattle.escapes.specs.declared.BadEscape.{BadEscape}
use Rattle.escapes.specs.declared.Within.{Within}
use Rattle.escapes.specs.declared.Within.TheVariants.{Outside, Backslash, Hex, Second}
use Rattle.escapes.specs.Escapes.{DigitFits, Steps, read_from, read_line, ReadInPlace}

-- the second digit of an escape by two
pub second : (w : Within) (high low b : ℕ) → w ≡ Second high → digit_value b < 16 → low ≡ digit_value b → Steps w b (Ok (Outside, Some (16 * high + low)))
second w high low b e d f = rw (e, f) (tt, λ bs. grind (arith, nat_tests))

-- The bytes of a line before place i are read: what it begins with now, and what the rest reads as, are what the whole line reads as
pub record SoFar (before now : List ℕ) (i len : ℕ) (w : Within) : Type 0 where
  pub read : option_map (λ xs. take len now ++ xs) (read_from w (drop i before)) ≡ read_line before
  pub rest : drop i now ≡ drop i before
  pub few : len ≤ i
  pub long : length now ≡ length before
  pub digit : DigitFits w

option_map-push : {A : Type 0} (o : Option (List A)) (ys : List A) (x : A) → option_map (λ xs. (ys ++ x ∷ []) ++ xs) o ≡ option_map (λ xs. ys ++ xs) (option_map (λ xs. x ∷ xs) o)
option_map-push None ys x = refl
option_map-push (Some xs) ys x = ap Some (append_assoc ys (x ∷ []) xs)

-- the next byte stands as it did before
next : (before now : List ℕ) (i len : ℕ) (w : Within) → SoFar before now i len w → i < length before → drop i before ≡ get_or now i 0 ∷ drop (i + 1) before
next before now i len w s h =
    let l = s.long in
    sym s.rest ∙ drop_more now i 0 (omega arith) ∙ ap (λ xs. get_or now i 0 ∷ xs) (drop_more_same now before i s.rest)

-- the byte means none
pub passed : (before now : List ℕ) (i len : ℕ) (w v : Within) → SoFar before now i len w → i < length before → Steps w (get_or now i 0) (Ok (v, None)) → SoFar before now (i + 1) len v
passed before now i len w v s h t = record {
  read = ap (option_map (λ xs. take len now ++ xs)) (sym (t.1 (drop (i + 1) before)) ∙ ap (read_from w) (sym (next before now i len w s h))) ∙ s.read;
  rest = drop_more_same now before i s.rest;
  few = let f = s.few in omega arith;
  long = s.long;
  digit = t.0;
}

-- the byte means one, which is written at the end of those that are read
pub meant : (before now : List ℕ) (i len x : ℕ) (w v : Within) → SoFar before now i len w → i < length before → Steps w (get_or now i 0) (Ok (v, Some x)) → SoFar before (set now len x) (i + 1) (len + 1) v
meant before now i len x w v s h t =
    let f = s.few in
    let l = s.long in
    let lower : len < length now = omega arith in
    let below : len < i + 1 = omega arith in
    record {
      read =
          ap (λ ys. option_map (λ xs. ys ++ xs) (read_from v (drop (i + 1) before))) (take_more_set now len x lower)
          ∙ option_map-push (read_from v (drop (i + 1) before)) (take len now) x
          ∙ ap (option_map (λ xs. take len now ++ xs)) (sym (t.1 (drop (i + 1) before)) ∙ ap (read_from w) (sym (next before now i len w s h)))
          ∙ s.read;
      rest = drop-set-lt (i + 1) now len x below ∙ drop_more_same now before i s.rest;
      few = omega arith;
      long = length-set now len x ∙ s.long;
      digit = t.0;
    }

-- the byte goes on no escape
pub refused : (before now : List ℕ) (i len : ℕ) (w : Within) (e : BadEscape) → SoFar before now i len w → i < length before → Steps w (get_or now i 0) (Err e) → (r : Result ℕ BadEscape) → IsErr r → ReadInPlace before r now
refused before now i len w e s h t (Ok n) o = absurd (false≢true o)
refused before now i len w e s h t (Err d) o =
    (sym s.read ∙ ap (option_map (λ xs. take len now ++ xs)) (ap (read_from w) (next before now i len w s h) ∙ t (drop (i + 1) before)), s.long)

-- the line is at its end
ended : (before now : List ℕ) (i len : ℕ) (w : Within) → SoFar before now i len w → length before ≤ i → read_line before ≡ option_map (λ xs. take len now ++ xs) (read_from w [])
ended before now i len w s h =
    sym s.read ∙ ap (λ bs. option_map (λ xs. take len now ++ xs) (read_from w bs)) (drop_all i before h)

-- the line ends within an escape
pub open_end : (before now : List ℕ) (i len : ℕ) (w : Within) → SoFar before now i len w → length before ≤ i → (w ≡ Outside → ⊥) → ReadInPlace before (Err (record {})) now
open_end before now i len Outside s h o = absurd (o refl)
open_end before now i len Backslash s h o = (ended before now i len Backslash s h, s.long)
open_end before now i len Hex s h o = (ended before now i len Hex s h, s.long)
open_end before now i len (Second d) s h o = (ended before now i len (Second d) s h, s.long)
