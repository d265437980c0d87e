use Rattle.reader.specs.Statements.{Simply, keyed_at}
use Rattle.reader.proofs.Leaves.{by_break}
use Rattle.reader.proofs.Shown.{keyed_on, keyed_long}
use Rattle.reader.proofs.cursor.Cursor.keyed.Goals as goal

pub returns-in_err-check_length : goal.returns-in_err-check_length
returns-in_err-check_length c = by_break (λ o. Simply c.args.self.now.text.now c.args.place (keyed_at c.args.self.now.text.now c.args.place c.args.name.«from» c.args.name.to) c.args.self.now o c.args.self.now) _ _ (c.from_residual.ensures.1) (keyed_long c.args.place c.args.name.«from» c.args.name.to c.args.self.now c.args.self.now _ c.requires.1.0 c.requires.1.1 c.in_err-check_length.ensures.0 c.in_err-check_length.ensures.1)

pub returns-in-Square : goal.returns-in-Square
returns-in-Square c = keyed_on c.args.place c.args.name.«from» c.args.name.to c.args.self.now c.blanks.new.self _ c.indexed.result c.requires.1.0 c.requires.1.1 c.in_ok-check_length.ensures c.blanks.ensures c.indexed.ensures

pub returns-in-Round : goal.returns-in-Round
returns-in-Round c = keyed_on c.args.place c.args.name.«from» c.args.name.to c.args.self.now c.blanks.new.self _ c.called.result c.requires.1.0 c.requires.1.1 c.in_ok-check_length.ensures c.blanks.ensures c.called.ensures

pub returns-in_default : goal.returns-in_default
returns-in_default c = keyed_on c.args.place c.args.name.«from» c.args.name.to c.args.self.now c.blanks.new.self _ c.named.result c.requires.1.0 c.requires.1.1 c.in_ok-check_length.ensures c.blanks.ensures c.named.ensures
