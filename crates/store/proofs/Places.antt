-- Rows by place, for the stores above. Assumes nothing.
use Rattle.std.proofs.Common.{ℕ, ◌<◌, List, [], ◌∷◌, length, arith}
use Rattle.store.specs.declared.entry.Entry.{Entry}

-- rows that have a place have a row
pub some_row : (rows : List Entry) (i : ℕ) → i < length rows → Entry
some_row [] i h = absurd (omega arith)
some_row (r ∷ rows) i h = r
