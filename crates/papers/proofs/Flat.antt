-- Rows of 32 bytes, one after the other. Assumes nothing.
use Rattle.std.proofs.Common.{◌≡◌, ℕ, zero, suc, ◌+◌, ◌-◌, ◌*◌, ◌/◌, ◌%◌, ◌<◌, ◌≤◌, min, List, [], ◌∷◌, ◌++◌, length, get_or, take, drop, set, sym, refl, ◌∙◌, arith, length-drop, length-take}
use Rattle.std.specs.List.{concat}
use Rattle.std.proofs.lemmas.Grind.{common_steps}
use Rattle.std.proofs.lemmas.List.{set-append_left, set-append_right, same_lists, get_or-take, get_or-drop, drop-drop, drop_at}
use Rattle.std.proofs.lemmas.List.Elements.{All-head, All-tail}
use Rattle.papers.specs.Rows.{Wide, written, row_of}

parts : (row : List ℕ) (rows : List (List ℕ)) → Wide (row ∷ rows) → (length row ≡ 32) × Wide rows
parts row rows w = (All-head (λ r. length r ≡ 32) row rows w, All-tail (λ r. length r ≡ 32) row rows w)

pub concat_length : (rows : List (List ℕ)) → Wide rows → length (concat rows) ≡ 32 * length rows
concat_length [] w = refl
concat_length (row ∷ rows) w = let p = parts row rows w in grind (arith, common_steps, p.0, concat_length rows p.1)

pub length_written : (rows : List (List ℕ)) (len : ℕ) → Wide rows → len ≤ 32 * length rows → length (written len rows) ≡ len
length_written rows len w l = let n = concat_length rows w in simp length-take (omega arith)

-- a byte of a row is written over
concat_set : (rows : List (List ℕ)) (i j n b : ℕ) → Wide rows → i < length rows → j < 32 → n ≡ 32 * i + j → concat (set rows i (set (get_or rows i []) j b)) ≡ set (concat rows) n b
concat_set [] i j n b w l s e = absurd (omega arith)
concat_set (row ∷ rows) zero j n b w l s e = let p = parts row rows w in grind (arith, common_steps, p.0, set-append_left row (concat rows) j b)
concat_set (row ∷ rows) (suc i) j n b w l s e =
    let p = parts row rows w in
    let rest = concat_set rows i j (n - 32) b p.1 (omega arith) s (omega arith) in
    grind (arith, common_steps, rest, set-append_right row (concat rows) 32 n b p.0)

-- a row is a part of the rows one after the other
concat_at : (rows : List (List ℕ)) (at used : ℕ) → Wide rows → at < length rows → used ≤ 32 → take used (drop (32 * at) (concat rows)) ≡ take used (get_or rows at [])
concat_at [] at used w l u = absurd (omega arith)
concat_at (row ∷ rows) zero used w l u = let p = parts row rows w in grind (arith, common_steps, p.0)
concat_at (row ∷ rows) (suc at) used w l u =
    let p = parts row rows w in
    let more : 32 * suc at ≡ 32 + 32 * at = omega arith in
    rw (more, ← drop-drop (32 * at) 32 (row ++ concat rows), drop_at row (concat rows) 32 p.0) (concat_at rows at used p.1 (omega arith) u)

-- a part of the first bytes
part_of : (bytes : List ℕ) (len from used : ℕ) → used ≡ min (len - from) 32 → take 32 (drop from (take len bytes)) ≡ take used (drop from bytes)
part_of bytes len from used u =
    same_lists (take 32 (drop from (take len bytes))) (take used (drop from bytes)) (simp (length-take, length-drop) (omega arith))
    (λ k d h.
    let n : k < used = omega (arith, simp (length-take, length-drop) at h) in
    get_or-take 32 (drop from (take len bytes)) k d (omega arith) ∙ get_or-drop from (take len bytes) k d ∙ get_or-take len bytes (from + k) d (omega arith)
    ∙ sym (get_or-take used (drop from bytes) k d n ∙ get_or-drop from bytes k d))

-- what of the bytes written stands in a row
pub row_at : (rows : List (List ℕ)) (at len used : ℕ) → Wide rows → at < length rows → used ≡ min (len - 32 * at) 32 → take used (get_or rows at []) ≡ row_of (written len rows) at
row_at rows at len used w l u = sym (part_of (concat rows) len (32 * at) used u ∙ concat_at rows at used w l (omega arith))

-- one byte more, at its row and its place in the row
pub written_more : (rows : List (List ℕ)) (len b : ℕ) → Wide rows → len < 32 * length rows
    → written (len + 1) (set rows (len / 32) (set (get_or rows (len / 32) []) (len % 32) b)) ≡ written len rows ++ b ∷ []
written_more rows len b w l =
    let n = concat_length rows w in
    let s = concat_set rows (len / 32) (len % 32) len b w (omega arith) (omega arith) (omega arith) in
    grind (arith, common_steps, n, s)
