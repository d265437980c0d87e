use Rattle.std.proofs.Common.{refl}
use Rattle.grammar.specs.Machine.{want}
use Rattle.reader.specs.Reads.{Fitting, Did}
use Rattle.reader.proofs.Leaves.{by_break}
use Rattle.reader.proofs.Joins.{quoted_fails, quoted_long, quoted_took}
use Rattle.reader.proofs.cursor.Cursor.quoted.Goals as goal

pub returns-in_err-quote : goal.returns-in_err-quote
returns-in_err-quote c =
    by_break (λ o. Did c.args.self.now.text.now (Fitting 12 c.args.context) want c.args.self.now o c.quote.new.self) _ _ c.from_residual.ensures.1
    (quoted_fails c.args.context c.args.self.now _ c.requires.1 c.in_err-quote.ensures)

pub returns-in_err-check_length : goal.returns-in_err-check_length
returns-in_err-check_length c =
    by_break (λ o. Did c.args.self.now.text.now (Fitting 12 c.args.context) want c.args.self.now o c.quote.new.self) _ _ c.from_residual-in_err-check_length.ensures.1
    (quoted_long c.args.context c.args.self.now c.quote.new.self _ c.requires.1 c.in_ok-quote.ensures _ c.in_err-check_length.ensures.0 c.in_err-check_length.ensures.1)

pub returns : goal.returns
returns c =
    quoted_took c.args.context c.args.self.now c.quote.new.self _ c.requires.1 c.in_ok-quote.ensures _ _ _ c.requires.0.inward c.in_ok-check_length.ensures c.narrow.ensures c.computed.ensures (record { text = refl; state = refl; pos = refl; table = c.push.ensures })
