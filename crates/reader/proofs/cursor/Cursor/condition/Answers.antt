use Rattle.reader.proofs.Conditions.{conditions}
use Rattle.reader.proofs.cursor.Cursor.condition.Goals as goal

pub returns : goal.returns
returns c = conditions c.args.inside _ c.in_ok-operand.operand c.reserve-at.result c.nodes_behind.result c.args.self.now c.reserve-at.new.self c.operators.new.self c.requires.0 c.requires.1 c.outermost.ensures c.reserve-at.ensures.held c.in_ok-operand.ensures.did c.in_ok-operand.ensures.stops c.reserve-at.ensures.at c.nodes_behind.ensures
