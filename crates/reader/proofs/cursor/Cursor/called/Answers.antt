use Rattle.reader.proofs.Shown.{called_simply}
use Rattle.reader.proofs.cursor.Cursor.called.Goals as goal

pub returns : goal.returns
returns c = called_simply c.args.place c.args.name.«from» c.args.name.to _ _ c.in_ok-operand.operand c.args.self.now c.begin-statement.new.self c.call.new.self _ c.continued.result c.begin-statement.ensures.begun c.outermost.ensures c.requires.1 c.begin-statement.ensures.held c.in_ok-operand.ensures c.continued.ensures
