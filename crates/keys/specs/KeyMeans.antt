-- What the structs of names and keys mean. Assumes nothing.
use Rattle.std.specs.Prelude.{ℕ, List}
use Rattle.arrays.specs.Items.{items}
use Rattle.keys.specs.declared.name.Name.{Name}
use Rattle.keys.specs.declared.key.Key.{Key}
use Rattle.keys.specs.KeyOrder.{KeyName}

abbrev pub name_means : Name → List ℕ
name_means n = items n.bytes

abbrev pub key_means : Key → KeyName
key_means k = (name_means k.name, k.subscript)
