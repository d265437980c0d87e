-- What a row of a store means. Assumes nothing.
use Rattle.std.specs.Prelude.{List}
use Rattle.keys.specs.KeyOrder.{KeyName}
use Rattle.keys.specs.KeyMeans.{key_means}
use Rattle.values.specs.Forms.{Elem}
use Rattle.values.specs.Means.{value_means}
use Rattle.store.specs.declared.entry.Entry.{Entry}

abbrev pub entry_means : Entry → KeyName × List Elem
entry_means e = (key_means e.key, value_means e.value)
