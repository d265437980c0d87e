-- A total order, as the answer to a comparison, and rows that are sorted by it. Assumes nothing.
use Rattle.std.specs.Prelude.{◌≡◌, ℕ, ◌<◌, ◌≤◌, Bool, true, ◌&&◌, ◌⊎◌, List, [], ◌∷◌, length, take, drop, Ok, Err, Result, ◌≢◌, slice_index_or}
use Rattle.std.specs.declared.cmp.Ordering.TheVariants.{Less, Equal, Greater}
use Rattle.std.specs.declared.cmp.Ordering.{Ordering}
use Rattle.std.specs.Ordering.{ordering_reverse, is_lt}

-- `rank x y` says whether x is before y (Less), the same (Equal) or after it (Greater).
-- Same keys are equal keys, after is before the other way round, and before is transitive.
pub record Order (K : Type 0) : Type 0 where
  pub rank : K → K → Ordering
  pub self : (x : K) → rank x x ≡ Equal
  pub same : (x y : K) → rank x y ≡ Equal → x ≡ y
  pub flip : (x y : K) → rank x y ≡ ordering_reverse (rank y x)
  pub trans : (x y z : K) → rank x y ≡ Less → rank y z ≡ Less → rank x z ≡ Less

abbrev pub Before : {K : Type 0} → Order K → K → K → Type 0
Before o x y = o.rank x y ≡ Less

-- the laws of a total order in words: of before, same (equal keys) and after just one holds, and before is transitive
pub record Total {K : Type 0} (o : Order K) : Type 0 where
  pub some : (x y : K) → Before o x y ⊎ ((x ≡ y) ⊎ Before o y x)
  pub not_before_and_same : (x y : K) → Before o x y → x ≢ y
  pub not_before_and_after : (x y : K) → Before o x y → Before o y x → ⊥
  pub transitive : (x y z : K) → Before o x y → Before o y z → Before o x z

-- one of three, by the answer of a comparison
abbrev pub choose : {X : Type 0} → Ordering → X → X → X → X
choose Less a b c = a
choose Equal a b c = b
choose Greater a b c = c

-- rows xs that have a key each
module _ {K : Type 0} (o : Order K) {X : Type 0} (key : X → K) where
  -- k is before each key of xs
  abbrev pub below : K → List X → Bool
  below k [] = true
  below k (x ∷ xs) = is_lt (o.rank k (key x)) && below k xs

  -- each key of xs is before k
  abbrev pub above : K → List X → Bool
  above k [] = true
  above k (x ∷ xs) = is_lt (o.rank (key x) k) && above k xs

  -- each key is before every later one
  abbrev pub sorted : List X → Bool
  sorted [] = true
  sorted (x ∷ xs) = below (key x) xs && sorted xs

  -- where k stands among xs; or, if they are sorted, where it would go: behind all smaller keys and before all greater ones
  abbrev pub Located : List X → K → Result ℕ ℕ → Type 0
  Located xs k (Ok i) = (i < length xs) × ((d : X) → key (slice_index_or xs i d) ≡ k)
  Located xs k (Err i) = (i ≤ length xs) × (sorted xs ≡ true → (above k (take i xs) ≡ true) × (below k (drop i xs) ≡ true))
