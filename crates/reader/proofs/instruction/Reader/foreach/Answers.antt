use Rattle.keywords.specs.declared.Keyword.TheVariants.{Foreach}
use Rattle.std.proofs.Common.{false}
use Rattle.reader.proofs.Blocks.{fails_by, head_fails, foreach_finish, head_small, foreach_opened, loops_few}
use Rattle.reader.proofs.instruction.Reader.foreach.Goals as goal

pub returns-in_err-name : goal.returns-in_err-name
returns-in_err-name c = fails_by Foreach c.args.self.now _ _ _ c.from_residual-in_err-name.ensures.1 (head_fails false c.args.self.now _ c.loop_head.new.self c.requires.word c.in_ok-check_room.ensures c.in_err-name.ensures)

pub returns-in_err-finish : goal.returns-in_err-finish
returns-in_err-finish c = fails_by Foreach c.args.self.now _ _ _ c.from_residual-in_err-finish.ensures.1 (foreach_finish c.args.self.now c.in_ok-name.name c.in_ok-name.list _ c.loop_head.new.self c.finish.new.self c.requires.word c.in_ok-check_room.ensures c.in_ok-name.ensures c.in_err-finish.ensures)

pub open-requires : goal.open-requires
open-requires c = (head_small _ _ _ (c.in_ok-name.name, c.in_ok-name.list) _ c.in_ok-name.ensures, (loops_few _ _ c.requires.entered.standing, c.in_ok-check_room.ensures))

pub returns : goal.returns
returns c = foreach_opened c.args.self.now _ _ c.in_ok-name.name _ c.in_ok-name.list c.loop_head.new.self c.finish.new.self c.requires.entered c.requires.word c.in_ok-check_room.ensures c.narrow.ensures c.in_ok-name.ensures c.in_ok-finish.ensures c.open.ensures
