-- Bytes in rows of 32. Assumes nothing.
use Rattle.std.specs.Prelude.{◌≡◌, ℕ, ◌*◌, ◌≤◌, List, length, take, drop}
use Rattle.std.proofs.Common.{arith, length-take}
use Rattle.std.specs.List.{All, concat}

-- each row has 32 bytes
abbrev pub Wide : List (List ℕ) → Type 0
Wide rows = All (λ row. length row ≡ 32) rows

-- the first `len` bytes of the rows, one row after the other
abbrev pub written : ℕ → List (List ℕ) → List ℕ
written len rows = take len (concat rows)

-- what of these bytes stands in the row at a place
abbrev pub row_of : List ℕ → ℕ → List ℕ
row_of bytes at = take 32 (drop (32 * at) bytes)

-- no more bytes are written than are counted
pub short : {len : ℕ} (n : ℕ) (rows : List (List ℕ)) → len ≤ n → length (written len rows) ≤ n
short {len} n rows h = rw length-take (omega arith)
