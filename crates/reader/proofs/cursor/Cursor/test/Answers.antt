use Rattle.reader.specs.Heads.{Tested}
use Rattle.reader.proofs.Leaves.{by_break}
use Rattle.reader.proofs.Conditions.{test_unclosed, test_closed}
use Rattle.reader.proofs.cursor.Cursor.test.Goals as goal

pub returns-in_err-finish : goal.returns-in_err-finish
returns-in_err-finish c = by_break (λ o. Tested c.args.self.now.text.now c.args.self.now o c.finish.new.self) _ _ (c.from_residual-in_err-finish.ensures.1) (test_unclosed c.args.self.now c.condition.new.self c.finish.new.self c.in_ok-condition.condition _ c.in_ok-condition.ensures c.in_err-finish.ensures)

pub returns : goal.returns
returns c = test_closed c.args.self.now c.condition.new.self c.finish.new.self c.in_ok-condition.condition c.in_ok-condition.ensures c.in_ok-finish.ensures
