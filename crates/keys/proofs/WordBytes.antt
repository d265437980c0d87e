-- The bytes of a name are the bytes of a word. Assumes nothing.
use Rattle.std.proofs.Common.{◌≡◌, ℕ, Bool, true, false, ◌||◌, ◌==◌, refl}
use Rattle.tokens.specs.Bytes as bytes
use Rattle.keys.specs.NameBytes.{letter, digit, name_byte}

reordered : (l u d p : Bool) → (l || u || d || p) ≡ (l || (d || (u || p)))
reordered true u d p = refl
reordered false true true p = refl
reordered false true false p = refl
reordered false false d p = refl

pub word_is : (b : ℕ) → bytes.word b ≡ name_byte b
word_is b = reordered (letter b) (b == 95) (digit b) (b == 46)
