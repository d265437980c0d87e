-- Why the sorted list says what a store means, and what a put and a removal change. Assumes nothing.
use Rattle.std.specs.Prelude.{◌≡◌, suc, true, cond, List, length, Some, None, ◌≢◌}
use Rattle.order.specs.Orders.{sorted}
use Rattle.order.specs.Names.{key_of}
use Rattle.keys.specs.KeyOrder.{KeyName, key_order}
use Rattle.values.specs.Forms.{Elem}
use Rattle.store.specs.Names.{Names, value_at, is_set, with, without}

abbrev pub InKeyOrder : Names → Type 0
InKeyOrder ns = sorted key_order key_of ns ≡ true

-- names with equal look-ups are equal
abbrev pub SameLookUps : Type 0
SameLookUps = (ms ns : Names) → InKeyOrder ms → InKeyOrder ns → ((k : KeyName) → value_at k ms ≡ value_at k ns) → ms ≡ ns

-- what a put changes: the key has the value, every other key has what it had, and one key more stands only if it was unset
pub record PutSets : Type 0 where
  pub here : (ns : Names) (k : KeyName) (v : List Elem) → value_at k (with k v ns) ≡ Some v
  pub elsewhere : (ns : Names) (k : KeyName) (v : List Elem) (q : KeyName) → (q ≢ k) → value_at q (with k v ns) ≡ value_at q ns
  pub count : (ns : Names) (k : KeyName) (v : List Elem) → InKeyOrder ns → length (with k v ns) ≡ cond (is_set k ns) (length ns) (suc (length ns))
  pub order : (ns : Names) (k : KeyName) (v : List Elem) → InKeyOrder ns → InKeyOrder (with k v ns)

-- what a removal changes: the key is unset, every other key has what it had, and one key less stands
pub record RemoveUnsets : Type 0 where
  pub here : (ns : Names) (k : KeyName) → InKeyOrder ns → value_at k (without k ns) ≡ None
  pub elsewhere : (ns : Names) (k : KeyName) (q : KeyName) → (q ≢ k) → value_at q (without k ns) ≡ value_at q ns
  pub count : (ns : Names) (k : KeyName) → InKeyOrder ns → is_set k ns ≡ true → suc (length (without k ns)) ≡ length ns
  pub order : (ns : Names) (k : KeyName) → InKeyOrder ns → InKeyOrder (without k ns)
