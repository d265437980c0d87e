-- What a key means, and the order of keys. Assumes nothing.
use Rattle.std.specs.Prelude.{ℕ, List, ℤ, Option}
use Rattle.std.specs.Cmp.{nat_cmp_total, int_cmp_total, then_total, on_total}
use Rattle.std.specs.Cmp.Lexicographic.{lists_total, options_total}
use Rattle.order.specs.Orders.{Order}
use Rattle.order.specs.Made.{from_total, unsigned_apart, signed_apart, lexical_apart, optional_apart, pairs_apart}

-- the bytes of a name, and the number that is its subscript, if there is one: `A` and `A[0]` are two keys
abbrev pub KeyName : Type 0
KeyName = List ℕ × Option ℤ

-- by the bytes of the name, then plain before numbered, then by the number
abbrev pub key_order : Order KeyName
key_order = from_total
    (then_total (on_total (λ (k : KeyName). k.0) (lists_total nat_cmp_total)) (on_total (λ (k : KeyName). k.1) (options_total int_cmp_total)))
    (pairs_apart (lists_total nat_cmp_total) (options_total int_cmp_total) (lexical_apart nat_cmp_total unsigned_apart) (optional_apart int_cmp_total signed_apart))
