use Rattle.std.proofs.Common.{refl}
use Rattle.reader.specs.Statements.{Shows}
use Rattle.reader.proofs.Leaves.{by_break}
use Rattle.reader.proofs.Shown.{shows, shows_not}
use Rattle.reader.proofs.cursor.Cursor.show.Goals as goal

pub returns-in_err-finish : goal.returns-in_err-finish
returns-in_err-finish c = by_break (λ o. Shows c.args.self.now.text.now c.args.statement c.args.need c.args.self.now o c.finish.new.self) _ _ (c.from_residual.ensures.1) (shows_not c.args.statement c.args.need c.args.self.now c.finish.new.self _ c.in_err-finish.ensures)

pub returns : goal.returns
returns c = shows c.args.statement c.args.need _ c.args.self.now c.finish.new.self _ c.requires c.in_ok-finish.ensures c.nodes_behind-size.ensures (record { text = refl; state = refl; pos = refl; table = c.patch.ensures })
