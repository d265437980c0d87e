-- Bytes before and behind the first of a kind. Assumes nothing.
use Rattle.std.specs.Prelude.{◌≡◌, ℕ, ◌+◌, ◌<◌, Bool, true, false, List, length, take, drop, ◌==◌}
use Rattle.std.specs.List.{list_any, before_first, after_first}

abbrev pub has : ℕ → List ℕ → Bool
has b bs = list_any (λ x. x == b) bs

-- up to the first b, or all
abbrev pub before : ℕ → List ℕ → List ℕ
before b bs = before_first (λ x. x == b) bs

-- from behind the first b on, or none
abbrev pub behind : ℕ → List ℕ → List ℕ
behind b bs = after_first (λ x. x == b) bs

-- no such byte
pub record NotThere (b : ℕ) (bs : List ℕ) : Type 0 where
  pub none : has b bs ≡ false
  pub all : before b bs ≡ bs

-- the first such byte is at place i
pub record Cut (b : ℕ) (bs : List ℕ) (i : ℕ) : Type 0 where
  pub some : has b bs ≡ true
  pub within : i < length bs
  pub front : take i bs ≡ before b bs
  pub back : drop (i + 1) bs ≡ behind b bs

-- the first such byte stands between two parts
pub record Parts (b : ℕ) (bs x y : List ℕ) : Type 0 where
  pub some : has b bs ≡ true
  pub front : x ≡ before b bs
  pub back : y ≡ behind b bs
