use Rattle.reader.specs.Statements.{Continues}
use Rattle.reader.proofs.Leaves.{by_break}
use Rattle.reader.proofs.Shown.{continues, continues_not}
use Rattle.reader.proofs.cursor.Cursor.continued.Goals as goal

pub returns-in_err-operand : goal.returns-in_err-operand
returns-in_err-operand c = by_break (λ o. Continues c.args.self.now.text.now c.args.statement c.args.first c.args.self.now o c.tail.new.self) _ _ (c.from_residual.ensures.1) (continues_not c.args.statement _ c.args.first c.args.self.now c.blanks.new.self c.tail.new.self _ c.outermost.ensures c.blanks.ensures c.in_err-operand.ensures.did)

pub returns : goal.returns
returns c = continues c.args.statement _ c.args.first c.in_ok-operand.operand c.args.self.now c.blanks.new.self c.tail.new.self _ c.show.result c.outermost.ensures c.blanks.ensures c.in_ok-operand.ensures.did c.in_ok-operand.ensures.stops c.show.ensures
