use Rattle.std.proofs.Common.{is_some, ap, ◌∙◌}
use Rattle.keywords.specs.Words.{keywords}
use Rattle.keys.proofs.Listed.{found_if_listed}
use Rattle.keys.proofs.name.judge.is_reserved.Goals as goal

-- the reserved words are the names of the keywords
pub returns : goal.returns
returns c = c.is_some.ensures ∙ ap is_some c.find.ensures ∙ found_if_listed c.args.bytes.now keywords
