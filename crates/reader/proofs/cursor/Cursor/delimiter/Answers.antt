use Rattle.std.proofs.Common.{sym, ◌∙◌}
use Rattle.reader.specs.Heads.{Delimited}
use Rattle.reader.proofs.Leaves.{by_break}
use Rattle.reader.proofs.Conditions.{no_delimiter, delimits_not, delimits_long, delimits_open, delimits_all}
use Rattle.reader.proofs.cursor.Cursor.delimiter.Goals as goal

pub returns-in_default : goal.returns-in_default
returns-in_default c = no_delimiter c.args.self.now c.args.self.now _ (λ e. c.in_default.not-Quote (c.after.ensures ∙ e)) c.unexpected.ensures

pub returns-in_err-quote : goal.returns-in_err-quote
returns-in_err-quote c = by_break (λ o. Delimited c.args.self.now.text.now c.args.self.now o c.quote.new.self) _ _ (c.from_residual.ensures.1) (delimits_not c.args.self.now c.quote.new.self _ (sym c.in-Quote.ensures) c.in_err-quote.ensures)

pub returns-in_err-check_length : goal.returns-in_err-check_length
returns-in_err-check_length c = by_break (λ o. Delimited c.args.self.now.text.now c.args.self.now o c.quote.new.self) _ _ (c.from_residual-in_err-check_length.ensures.1) (delimits_long c.args.self.now c.quote.new.self c.quote.new.self c.in_ok-quote.quote _ (sym c.in-Quote.ensures) c.in_ok-quote.ensures c.in_err-check_length.ensures.0 c.in_err-check_length.ensures.1)

pub returns-in_err-complete : goal.returns-in_err-complete
returns-in_err-complete c = by_break (λ o. Delimited c.args.self.now.text.now c.args.self.now o c.complete.new.self) _ _ (c.from_residual-in_err-complete.ensures.1) (delimits_open c.args.self.now c.quote.new.self c.complete.new.self c.in_ok-quote.quote _ (sym c.in-Quote.ensures) c.in_ok-quote.ensures c.in_ok-check_length.ensures c.in_err-complete.ensures)

pub returns : goal.returns
returns c = delimits_all c.args.self.now c.quote.new.self c.complete.new.self c.in_ok-quote.quote (sym c.in-Quote.ensures) c.in_ok-quote.ensures c.in_ok-check_length.ensures c.in_ok-complete.ensures
