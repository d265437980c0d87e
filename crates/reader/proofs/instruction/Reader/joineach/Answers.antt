use Rattle.keywords.specs.declared.Keyword.TheVariants.{Joineach}
use Rattle.std.proofs.Common.{true}
use Rattle.reader.proofs.Blocks.{fails_by, head_fails, joineach_finish, head_small, joineach_opened, loops_few}
use Rattle.reader.proofs.instruction.Reader.joineach.Goals as goal

pub returns-in_err-name : goal.returns-in_err-name
returns-in_err-name c = fails_by Joineach c.args.self.now _ _ _ c.from_residual-in_err-name.ensures.1 (head_fails true c.args.self.now _ c.loop_head.new.self c.requires.word c.in_ok-check_room.ensures c.in_err-name.ensures)

pub returns-in_err-delimiter : goal.returns-in_err-delimiter
returns-in_err-delimiter c = fails_by Joineach c.args.self.now _ _ _ c.from_residual-in_err-delimiter.ensures.1 (joineach_finish c.args.self.now c.in_ok-name.name c.in_ok-name.list _ c.loop_head.new.self c.delimiter.new.self c.requires.word c.in_ok-check_room.ensures c.in_ok-name.ensures c.in_err-delimiter.ensures)

pub open-requires : goal.open-requires
open-requires c = (head_small _ _ _ (c.in_ok-name.name, c.in_ok-name.list) _ c.in_ok-name.ensures, (loops_few _ _ c.requires.entered.standing, c.in_ok-check_room.ensures))

pub returns : goal.returns
returns c = joineach_opened c.args.self.now _ _ c.in_ok-name.name _ _ c.in_ok-name.list c.in_ok-delimiter.delimiter c.loop_head.new.self c.delimiter.new.self c.requires.entered c.requires.word c.in_ok-check_room.ensures c.narrow.ensures c.narrow-2.ensures c.in_ok-name.ensures c.in_ok-delimiter.ensures c.open.ensures
