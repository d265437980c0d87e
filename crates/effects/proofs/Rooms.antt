-- How many names stand once one is put, and whether there is room for it. Assumes nothing.
use Rattle.std.proofs.Common.{◌≡◌, suc, ◌≤◌, ℕ, true, false, List, [], ◌∷◌, length, is_some, refl, ap, arith}
use Rattle.std.proofs.lemmas.Bool.Decides.{nat_tests}
use Rattle.order.specs.Orders.{Order}
use Rattle.order.specs.Names.{lookup, put}
use Rattle.order.proofs.Sorting.{by_answer}
use Rattle.order.proofs.Entries.{length-put}
use Rattle.keys.specs.KeyOrder.{KeyName, key_order}
use Rattle.values.specs.Forms.{Elem}
use Rattle.store.specs.Names.{Names, with, has_room}
use Rattle.store.specs.Laws.{InKeyOrder}

module _ {K V : Type 0} (o : Order K) where
  -- in any order: no entry is lost
  put_keeps : (k : K) (v : V) (es : List (K × V)) → length es ≤ length (put o k v es)
  put_keeps k v [] = omega arith
  put_keeps k v (e ∷ es) =
      by_answer (o.rank k e.0)
      (λ h. simp h (omega arith))
      (λ h. simp h (omega arith))
      (λ h. let ih = put_keeps k v es in simp h (omega arith))

  -- in any order: a key that is nowhere makes one entry more
  put_adds : (k : K) (v : V) (es : List (K × V)) → is_some (lookup o k es) ≡ false → length (put o k v es) ≡ suc (length es)
  put_adds k v [] n = refl
  put_adds k v (e ∷ es) n =
      by_answer (o.rank k e.0)
      (λ h. simp h)
      (λ h. let z = simp h at n in cc)
      (λ h. simp h (ap suc (put_adds k v es (simp h at n))))

pub with_keeps : (k : KeyName) (v : List Elem) (ns : Names) → length ns ≤ length (with k v ns)
with_keeps k v ns = put_keeps key_order k v ns

-- where the names fit afterwards, there was room
pub room_from_length : (most : ℕ) (k : KeyName) (v : List Elem) (ns : Names) → length (with k v ns) ≤ most → has_room most k ns ≡ true
room_from_length most k v ns le = let e = put_adds key_order k v ns in grind (arith, nat_tests)

-- where there was room, names in key order fit afterwards
pub length_from_room : (most : ℕ) (k : KeyName) (v : List Elem) (ns : Names) → InKeyOrder ns → has_room most k ns ≡ true → length ns ≤ most → length (with k v ns) ≤ most
length_from_room most k v ns o r le = let e = length-put key_order k v ns o in grind (arith, nat_tests)

pub room_wider : (less more : ℕ) (k : KeyName) (ns : Names) → less ≤ more → has_room less k ns ≡ true → has_room more k ns ≡ true
room_wider less more k ns le r = grind (arith, nat_tests)
