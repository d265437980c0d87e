-- What the line layer means over a printer. Assumes nothing.
use Rattle.std.specs.Prelude.{◌≡◌, ℕ, Bool, true, cond, ◌&&◌, ◌||◌, List, [], ◌∷◌, ◌++◌, length, ◌==◌, nat_lt}
use Rattle.arrays.specs.Items.{items}
use Rattle.printer.specs.declared.Printer as printer
use Rattle.lines.specs.declared.Lines.{Lines}

-- what is held with a byte more; where 32 are held they go below first
abbrev pub held_more : List ℕ → ℕ → List ℕ
held_more held byte = cond (length held == 32) (byte ∷ []) (held ++ byte ∷ [])

-- what is held after a byte more: nothing at the end of a line
abbrev pub held_next : List ℕ → ℕ → List ℕ
held_next held byte = cond (byte == 10) [] (held_more held byte)

module _ {P : Type 0} {p : printer.Ghosts P} where
  -- the bytes taken below, then those held
  abbrev pub taken_of : Lines P p → List ℕ
  taken_of l = p.taken l.below ++ items l.held

  -- the capacity below
  abbrev pub capacity_of : Lines P p → ℕ
  capacity_of l = p.capacity l.below

  -- nothing is held, and the printer below is settled
  abbrev pub settled_of : Lines P p → Bool
  settled_of l = length (items l.held) == 0 && p.settled l.below

  -- a byte more is within the capacity
  abbrev pub room_of : Lines P p → Bool
  room_of l = nat_lt (length (taken_of l)) (capacity_of l)

  -- a byte that is taken sends held bytes down: one that ends a line, or one that comes while 32 are held
  abbrev pub hands_down : Lines P p → ℕ → Bool
  hands_down l byte = room_of l && (byte == 10 || length (items l.held) == 32)

  -- a printer that has all that the layer has taken
  pub record Whole (l : Lines P p) (below : P) : Type 0 where
    pub taken : p.taken below ≡ taken_of l
    pub settled : p.settled below ≡ true

  -- these bytes have been taken, all of them stand below, and nothing is held; the capacity stays
  pub record Down (before after : Lines P p) (bytes : List ℕ) : Type 0 where
    pub taken : taken_of after ≡ bytes
    pub below : p.taken after.below ≡ bytes
    pub held : items after.held ≡ []
    pub capacity : capacity_of after ≡ capacity_of before
