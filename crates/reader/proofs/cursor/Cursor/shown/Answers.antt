use Rattle.reader.specs.Statements.{Simply, shown_at}
use Rattle.reader.proofs.Leaves.{by_break}
use Rattle.reader.proofs.Shown.{shown_simply, shown_not}
use Rattle.reader.proofs.cursor.Cursor.shown.Goals as goal

pub returns-in_err-operand : goal.returns-in_err-operand
returns-in_err-operand c = by_break (λ o. Simply c.args.self.now.text.now c.args.place (shown_at c.args.place) c.args.self.now o c.operators.new.self) _ _ c.from_residual.ensures.1 (shown_not c.args.place _ c.args.self.now c.begin-statement.new.self c.operators.new.self _ c.outermost.ensures c.requires.1.1.1.0 c.requires.1.1.1.1 c.begin-statement.ensures.held c.in_err-operand.ensures.did)

pub returns : goal.returns
returns c = shown_simply c.args.place _ c.in_ok-operand.operand _ c.args.self.now c.begin-statement.new.self c.operators.new.self _ c.show.result c.begin-statement.ensures.begun c.outermost.ensures c.requires.1.1.1.0 c.requires.1.1.1.1 c.begin-statement.ensures.held c.in_ok-operand.ensures.did c.in_ok-operand.ensures.stops c.show.ensures
