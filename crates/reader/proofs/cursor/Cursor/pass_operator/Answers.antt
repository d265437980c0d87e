use Rattle.std.proofs.Common.{sym}
use Rattle.reader.proofs.Joins.{operator_passed, second_passed}
use Rattle.reader.proofs.cursor.Cursor.pass_operator.Goals as goal

pub pass-requires : goal.pass-requires
pass-requires c = operator_passed c.args.self.now c.args.op c.requires.0.inward c.requires.1

pub pass-requires-then-is_wide : goal.pass-requires-then-is_wide
pass-requires-then-is_wide c = second_passed c.args.self.now c.pass.new.self c.args.op c.requires.0.inward c.requires.1 (sym c.if-is_wide.ensures) c.pass.ensures
