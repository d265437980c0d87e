-- Elements that are turned by one place, the last to the front or the first to the end. Assumes nothing.
use Rattle.std.proofs.Common.{◌≡◌, ℕ, ◌+◌, ◌-◌, ◌<◌, ◌≤◌, List, [], ◌∷◌, ◌++◌, length, take, drop, set, sym, ap, ◌∙◌, add-one, arith, length-take, length-drop, length-append, length-set, append_assoc}
use Rattle.std.specs.List.{insert, remove}
use Rattle.std.proofs.lemmas.Slice.{take-put_mid}
use Rattle.std.proofs.lemmas.List.{drop-drop, drop-take, take_more_set, take-set, take-take, drop-append-le}
use Rattle.std.proofs.Math.Seq.{drop-append_seam, take-append_seam}
use borrow.Rule.Slice.PartMut.{put_mid, mid_of}

-- the elements from place `at` to place `len`
part : {X : Type 0} (xs : List X) (at len : ℕ) → at ≤ len → mid_of at (len - at) xs ≡ drop at (take len xs)
part xs at len l = let up : at + (len - at) ≡ len = omega arith in sym (drop-take at (len - at) xs) ∙ ap (λ n. drop at (take n xs)) up

-- x stands at their end, and comes to their front
pub take-turned_right : {X : Type 0} (slots ys : List X) (at len : ℕ) (x : X) → at ≤ len → len < length slots
    → let mid = mid_of at (len + 1 - at) (set slots len x) in ys ≡ drop (length mid - 1) mid ++ take (length mid - 1) mid
    → take (len + 1) (put_mid at (len + 1 - at) (set slots len x) ys) ≡ insert (take len slots) at x
take-turned_right {X} slots ys at len x l room e =
    let s : List X = set slots len x in
    let a : List X = drop at (take len slots) in
    let mid : List X = mid_of at (len + 1 - at) s in
    let long : length (take len slots) ≡ len = simp length-take (omega arith) in
    let m : mid ≡ a ++ (x ∷ []) = part s at (len + 1) (omega arith) ∙ ap (drop at) (take_more_set slots len x room) ∙ drop-append-le at (take len slots) (x ∷ []) (omega arith) in
    let w : length mid - 1 ≡ length a = omega (arith, ap length m, length-append a (x ∷ [])) in
    let y : ys ≡ x ∷ a =
    e ∙ (λ j. drop (w j) (m j) ++ take (w j) (m j)) ∙ ap (λ t. t ++ take (length a) (a ++ (x ∷ []))) (drop-append_seam a (x ∷ [])) ∙ ap (λ t. x ∷ t) (take-append_seam a (x ∷ [])) in
    let n : length a ≡ len - at = length-drop at (take len slots) ∙ ap (λ k. k - at) long in
    let here : length s ≡ length slots = length-set slots len x in
    take-put_mid at (len + 1 - at) s ys (len + 1) (omega (arith, ap length y)) (omega arith)
    ∙ ap (λ t. take at s ++ t) y
    ∙ ap (λ t. t ++ (x ∷ a)) (sym (take-take at len s l) ∙ ap (take at) (take-set slots len x))

-- the first of them comes to their end, where it is not counted any more
pub take-turned_left : {X : Type 0} (slots ys : List X) (at len : ℕ) → at < len → len ≤ length slots
    → let mid = mid_of at (len - at) slots in ys ≡ drop 1 mid ++ take 1 mid
    → take (len - 1) (put_mid at (len - at) slots ys) ≡ remove (take len slots) at
take-turned_left {X} slots ys at len l room e =
    let mid : List X = mid_of at (len - at) slots in
    let long : length (take len slots) ≡ len = simp length-take (omega arith) in
    let m : mid ≡ drop at (take len slots) = part slots at len (omega arith) in
    let n : length mid ≡ len - at = ap length m ∙ length-drop at (take len slots) ∙ ap (λ k. k - at) long in
    let front : List X = take at slots ++ drop 1 mid in
    let f : length front ≡ len - 1 = length-append (take at slots) (drop 1 mid) ∙ (let p : length (take at slots) ≡ at = simp length-take (omega arith) in let q = length-drop 1 mid in omega arith) in
    let size : length ys ≡ len - at = ap length e ∙ length-append (drop 1 mid) (take 1 mid) ∙ (let p = length-drop 1 mid in let q : length (take 1 mid) ≡ 1 = length-take 1 mid ∙ (omega arith) in omega arith) in
    let whole : take len (put_mid at (len - at) slots ys) ≡ front ++ take 1 mid =
    take-put_mid at (len - at) slots ys len (omega arith) (omega arith) ∙ ap (λ t. take at slots ++ t) e ∙ sym (append_assoc (take at slots) (drop 1 mid) (take 1 mid)) in
    sym (take-take (len - 1) len (put_mid at (len - at) slots ys) (omega arith))
    ∙ ap (take (len - 1)) whole ∙ ap (λ k. take k (front ++ take 1 mid)) (sym f) ∙ take-append_seam front (take 1 mid)
    ∙ (λ j. sym (take-take at len slots (omega arith)) j ++ drop 1 (m j)) ∙ ap (λ t. take at (take len slots) ++ t) (drop-drop 1 at (take len slots) ∙ ap (λ k. drop k (take len slots)) (add-one at))
