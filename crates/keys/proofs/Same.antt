-- Keys that test equal are keys of one rank. Assumes nothing.
use Rattle.std.proofs.Common.{◌≡◌, ℤ, ◌&&◌, nat_eq, int_cmp, Ordering, Less, Equal, Greater, Option, Some, None, refl}
use Rattle.std.specs.Cmp.Lexicographic.{pointwise, texts_ties}
use Rattle.std.specs.Option.{option_eq, option_cmp}
use Rattle.std.specs.Ordering.{is_eq, int_eq, ordering_then}
use Rattle.arrays.specs.Items.{items}
use Rattle.keys.specs.declared.key.Key.{Key}
use Rattle.keys.specs.KeyMeans.{key_means}
use Rattle.keys.specs.KeyOrder.{key_order}

both : (r q : Ordering) → (is_eq r && is_eq q) ≡ is_eq (ordering_then r q)
both Less q = refl
both Equal q = refl
both Greater q = refl

same_subscript : (m n : Option ℤ) → option_eq int_eq m n ≡ is_eq (option_cmp int_cmp m n)
same_subscript None None = refl
same_subscript None (Some y) = refl
same_subscript (Some x) None = refl
same_subscript (Some x) (Some y) = refl

-- what `a == b` gives
pub same_key : (a b : Key) → (pointwise nat_eq (items a.name.bytes) (items b.name.bytes) && option_eq int_eq a.subscript b.subscript) ≡ is_eq (key_order.rank (key_means a) (key_means b))
same_key a b = rw (texts_ties, same_subscript) (both _ _)
