use Rattle.reader.specs.Heads.{Headed}
use Rattle.reader.proofs.Leaves.{by_break}
use Rattle.reader.proofs.Conditions.{head_not, head_all}
use Rattle.reader.proofs.cursor.Cursor.loop_head.Goals as goal

pub returns-in_err-list : goal.returns-in_err-list
returns-in_err-list c = by_break (λ o. Headed c.args.self.now.text.now c.args.inside c.args.self.now o c.condition.new.self) _ _ (c.from_residual-in_err-list.ensures.1) (head_not c.args.inside c.args.self.now c.loop_name.new.self c.condition.new.self c.in_ok-name.name _ c.in_ok-name.ensures c.in_err-list.ensures)

pub returns : goal.returns
returns c = head_all c.args.inside c.args.self.now c.loop_name.new.self c.condition.new.self c.in_ok-name.name c.in_ok-list.list c.in_ok-name.ensures c.in_ok-list.ensures
