-- What a word means: a function's name, the word of an instruction. Assumes nothing.
use Rattle.std.specs.Prelude.{ℕ, List, Option}
use Rattle.order.specs.Made.{bytes_order}
use Rattle.order.specs.Names.{lookup}
use Rattle.functions.specs.declared.Signature.{Signature}
use Rattle.functions.specs.Table.{functions}
use Rattle.keywords.specs.declared.Keyword.{Keyword}
use Rattle.keywords.specs.Words.{keywords}

abbrev pub function : List ℕ → Option Signature
function w = lookup bytes_order w functions

abbrev pub keyword_of : List ℕ → Option Keyword
keyword_of w = lookup bytes_order w keywords
