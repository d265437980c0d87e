use Rattle.std.proofs.Common.{refl}
use Rattle.grammar.specs.Machine.{want}
use Rattle.reader.specs.Reads.{Fitting, Did}
use Rattle.reader.proofs.Leaves.{by_break}
use Rattle.reader.proofs.Joins.{number_fails, number_large, number_long, number_took}
use Rattle.reader.proofs.cursor.Cursor.number.Goals as goal

pub returns-in_err-span : goal.returns-in_err-span
returns-in_err-span c =
    by_break (λ o. Did c.args.self.now.text.now (Fitting 12 c.args.context) want c.args.self.now o c.numeral.new.self) _ _ c.from_residual.ensures.1
    (number_fails c.args.context c.args.self.now _ c.requires.1 c.in_err-span.ensures)

pub returns-in_default : goal.returns-in_default
returns-in_default c = number_large c.args.context c.args.self.now c.numeral.new.self _ c.requires.1 c.in_ok-span.ensures _ c.in_default.is c.late.ensures

pub returns-in_err-check_length : goal.returns-in_err-check_length
returns-in_err-check_length c =
    by_break (λ o. Did c.args.self.now.text.now (Fitting 12 c.args.context) want c.args.self.now o c.numeral.new.self) _ _ c.from_residual-in_err-check_length.ensures.1
    (number_long c.args.context c.args.self.now c.numeral.new.self _ c.requires.1 c.in_ok-span.ensures _ c.in-Some.value c.in-Some.is c.in_err-check_length.ensures.0 c.in_err-check_length.ensures.1)

pub returns : goal.returns
returns c =
    number_took c.args.context c.args.self.now c.numeral.new.self _ c.requires.1 c.in_ok-span.ensures _ c.in-Some.value _ c.requires.0.inward c.in-Some.is c.in_ok-check_length.ensures c.narrow.ensures (record { text = refl; state = refl; pos = refl; table = c.push.ensures })
