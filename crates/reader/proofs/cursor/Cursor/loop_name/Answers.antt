use Rattle.std.proofs.Common.{sym, ◌∙◌}
use Rattle.reader.proofs.Opens.{loop_begins, loop_named}
use Rattle.reader.proofs.cursor.Cursor.loop_name.Goals as goal

pub returns-in_default : goal.returns-in_default
returns-in_default c = loop_begins c.args.self.now c.blanks.new.self c.blanks.ensures (λ e. c.in_default.not-Letter (c.start.ensures ∙ e)) _ c.refuse.ensures

pub returns : goal.returns
returns c = loop_named c.args.self.now c.blanks.new.self c.free_name.new.self _ c.requires.1 c.blanks.ensures (sym c.in-Letter.ensures) c.free_name.ensures.passed c.free_name.ensures.name
