-- The laws of division and of sequences. Assumes nothing.
use Rattle.std.specs.Prelude.{◌≡◌, ℕ, ◌+◌, ◌-◌, ◌*◌, ◌/◌, ◌^◌, ◌<◌, ◌≤◌, ◌≢◌, ◌⊎◌, true, List, length, ℤ, pos, neg_ℤ, ◌+ℤ◌, ◌*ℤ◌, ◌≤ℤ◌, unsigned_abs, Ok}
use Rattle.tokens.specs.declared.operator.Op.TheVariants as op
use Rattle.values.specs.Forms.{Elem}
use Rattle.operations.specs.Functions.{at_most_16, element_at, sequence}
use Rattle.operations.specs.Operators.{binary, in_range, value_of}

-- q and r are the quotient and the remainder of a and b: the fraction is dropped towards zero, so that the magnitude of q is that of a
-- divided by that of b, and r, whose magnitude is smaller than b's, is on the side of zero on which a is; and a is q × b + r.
pub record Divides (a b q r : ℤ) : Type 0 where
  pub whole : a ≡ q *ℤ b +ℤ r
  pub towards_zero : unsigned_abs q ≡ unsigned_abs a / unsigned_abs b
  pub smaller : unsigned_abs r < unsigned_abs b
  pub above : pos 0 ≤ℤ a → pos 0 ≤ℤ r
  pub below : a ≤ℤ pos 0 → r ≤ℤ pos 0

-- what `/` and `%` give is the quotient and the remainder
unfoldable pub DividesTowardsZero : Type 0
DividesTowardsZero = (a b q r : ℤ) → binary op.Divide a b ≡ Ok q → binary op.Remainder a b ≡ Ok r → Divides a b q r

-- of numbers of 64 bits both give a number, but where b is 0, and of the lowest number and -1
unfoldable pub DividesAll : Type 0
DividesAll = (a b : ℤ) → in_range a ≡ true → b ≢ pos 0 → (a ≡ neg_ℤ (pos (2 ^ 63)) → b ≡ neg_ℤ (pos 1) → ⊥) → (q : ℤ) × (r : ℤ) × (binary op.Divide a b ≡ Ok q) × (binary op.Remainder a b ≡ Ok r)

-- c is reached from b by going k times on by the difference of a and b
abbrev pub Reached : ℕ → ℕ → ℕ → ℕ → Type 0
Reached a b c k = ((a < b) × (c ≡ b + k * (b - a))) ⊎ ((b < a) × (c + k * (a - b) ≡ b))

-- the k + 2 elements are a, then b and on by the difference of a and b, and the last is c
pub record FromTo (a b c k : ℕ) (v : List Elem) : Type 0 where
  pub count : length v ≡ k + 2
  pub first : element_at v (pos 0) ≡ value_of (pos a)
  pub up : a < b → (i : ℕ) → i ≤ k → element_at v (pos (i + 1)) ≡ value_of (pos (b + i * (b - a)))
  pub down : b < a → (i : ℕ) → i ≤ k → element_at v (pos (i + 1)) ≡ value_of (pos (b - i * (a - b)))
  pub last : element_at v (pos (k + 1)) ≡ value_of (pos c)

-- a sequence that reaches its last number gives all numbers from the first to it, if a value has room for them
unfoldable pub SequenceArrives : Type 0
SequenceArrives = (a b c k : ℕ) → Reached a b c k → (v : List Elem) × (sequence a b c ≡ at_most_16 v) × FromTo a b c k v
