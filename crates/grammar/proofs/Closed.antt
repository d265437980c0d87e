-- The laws of reading with nothing left to give, and the blocks that a reading has. Assumes nothing.
use Rattle.std.proofs.Common.{◌≡◌, ℕ, true, List, length}
use Rattle.trees.specs.Tree.{Items, Block, written}
use Rattle.grammar.specs.Machine.{accepted, reading}
use Rattle.grammar.specs.Grammar.{Template}
use Rattle.grammar.specs.Laws.{Exact, OneReading, NamesTheByte, NamesTheRule, RefusedByTheFirst, ArrivesInSteps}
use Rattle.grammar.proofs.Whole.{complete}
use Rattle.grammar.proofs.Sound.{sound}
use Rattle.grammar.proofs.Ordered.{first_least}
use Rattle.grammar.proofs.Nested.{nested, one_block}
use Rattle.grammar.proofs.Arrivals
use Rattle.grammar.proofs.Exactness
use Rattle.grammar.proofs.Exactness.{lawful}

pub exact : Exact
exact = Exactness.exact complete sound

pub one_reading : OneReading
one_reading = Exactness.one_reading complete sound

pub names_the_byte : NamesTheByte
names_the_byte = Exactness.names_the_byte complete sound

pub names_the_rule : NamesTheRule
names_the_rule = Exactness.names_the_rule complete sound first_least

pub refused_by_the_first : RefusedByTheFirst
refused_by_the_first = Exactness.refused_by_the_first complete sound

pub arrives_in_steps : ArrivesInSteps
arrives_in_steps = Arrivals.arrives_in_steps

-- the items of a reading are those of a block
pub block_of : (text : List ℕ) (ts : Items) → reading true text ≡ accepted ts → (b : Block) × (written b Items.none ≡ ts)
block_of text ts e = nested ts (length text) (lawful text ts e)

-- and a text has no two blocks
pub only_block : (text : List ℕ) (b b' : Block) → Template text (written b Items.none) → Template text (written b' Items.none) → b ≡ b'
only_block text b b' h h' = one_block b b' (one_reading text (written b Items.none) (written b' Items.none) h h')
