use Rattle.std.proofs.Common.{sym, ◌∙◌}
use Rattle.reader.specs.Scans.{after_at}
use Rattle.reader.proofs.Places.{at_place, finished, completed}
use Rattle.reader.proofs.cursor.Cursor.complete.Goals as goal

pub returns-in_default : goal.returns-in_default
returns-in_default c =
    record {
      middle = c.blanks.new.self;
      spaced = c.blanks.ensures;
      no_dollar = λ e. c.in_default.not-Dollar (c.after.ensures ∙ at_place after_at c.blanks.ensures.same ∙ e);
      told = c.refuse.ensures;
    }

pub returns : goal.returns
returns c =
    let m = c.blanks.new.self in
    completed c.args.self.now m _ _ c.blanks.ensures (sym c.in-Dollar.ensures) (finished m _ _ (c.blanks.ensures.same.state ∙ c.requires.inward) (sym c.in-Dollar.ensures) c.take.ensures)
