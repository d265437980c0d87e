-- What an `ArrayVec` holds, and changes that may be refused. Assumes nothing.
use Rattle.std.specs.Prelude.{◌≡◌, ℕ, ◌≤◌, Bool, if◌then◌else◌, cond, ◌&&◌, List, length, take, Ok, Err, Result, Option, nat_lt, nat_le, slice_get}
use Rattle.std.specs.List.{insert}
use Rattle.std.proofs.Common.{arith, length-take}
use Rattle.arrays.specs.declared.ArrayVec.{ArrayVec}
use Rattle.arrays.specs.declared.error.CapacityError.{CapacityError}
use Rattle.arrays.specs.declared.error.InsertError.{InsertError}
use Rattle.arrays.specs.declared.error.InsertError.TheVariants.{OutOfBounds, Full}

-- the elements, first to last
abbrev pub items : {T : Type 0} {n : ℕ} → ArrayVec T n → List T
items v = take v.len v.slots

-- there are at most as many as there is room for
pub few : {T : Type 0} {n : ℕ} (v : ArrayVec T n) → length (items v) ≤ n
few v = let h = v.within in rw length-take (omega arith)

-- what is given where there is room for it
abbrev pub roomy : {A : Type 0} → Bool → A → Result A CapacityError
roomy room a = if room then Ok a else Err (record {})

-- an answer, by the elements of the vector in it
abbrev pub items_of : {T : Type 0} {n : ℕ} → Result (ArrayVec T n) CapacityError → Result (List T) CapacityError
items_of (Ok v) = Ok (items v)
items_of (Err e) = Err e

-- a change from `before` to `next` that is made exactly where there is room; refused, it leaves `before`
pub record Allowed {X : Type 0} (room : Bool) (before next after : X) (r : Result (Unit {0}) CapacityError) : Type 0 where
  pub answer : r ≡ roomy room tt
  pub left : after ≡ cond room next before

-- an element is put at a place, exactly where that is no further than the end and there is room; refused, the elements stay
pub record Inserts {T : Type 0} (capacity : ℕ) (before : List T) (at : ℕ) (x : T) (after : List T) (r : Result (Unit {0}) InsertError) : Type 0 where
  pub answer : r ≡ (if nat_lt (length before) at then Err OutOfBounds else (if nat_lt (length before) capacity then Ok tt else Err Full))
  pub left : after ≡ cond (nat_le at (length before) && nat_lt (length before) capacity) (insert before at x) before

-- the element at a place is the answer, and `next` stands then; where there is no such place, there is no answer and `before` stays
pub record Exchanged {T : Type 0} (at : ℕ) (before next after : List T) (r : Option T) : Type 0 where
  pub answer : r ≡ slice_get before at
  pub left : after ≡ cond (nat_lt at (length before)) next before
