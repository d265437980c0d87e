-- The kinds of open blocks. Assumes nothing.
use Rattle.std.specs.Prelude.{Bool, true, false}
use Rattle.trees.specs.Laid.{Mark}
use Rattle.grammar.specs.Rules
use Rattle.grammar.specs.Rules.{Opened}
use Rattle.reader.specs.declared.block.Kind.{Kind}
use Rattle.reader.specs.declared.block.Kind.TheVariants as kind
use Rattle.reader.specs.declared.block.Open.{Open}

abbrev pub kind_means : Kind → Rules.Kind
kind_means kind.Choice = Rules.choice
kind_means kind.Chosen = Rules.chosen
kind_means kind.Repeat = Rules.repeat
kind_means kind.Each = Rules.each

abbrev pub is_each_in : Kind → Bool
is_each_in kind.Choice = false
is_each_in kind.Chosen = false
is_each_in kind.Repeat = false
is_each_in kind.Each = true

-- an open block as the rules see it, and as the table's layout does
abbrev pub opened_of : Open → Opened
opened_of o = record { kind = kind_means o.kind; place = o.place }

abbrev pub mark_of : Open → Mark
mark_of o = record { at = o.at; head = o.head; each = is_each_in o.kind }
