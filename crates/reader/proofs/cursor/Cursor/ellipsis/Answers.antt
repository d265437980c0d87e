use Rattle.std.proofs.Common.{sym, ◌∙◌}
use Rattle.reader.specs.Reads.{Ellipsed}
use Rattle.reader.proofs.Leaves.{by_break}
use Rattle.reader.proofs.Places.{start_passed}
use Rattle.reader.proofs.Seqs.{Dotting, dotting_first, dotting_more, dotting_stop, dotting_over, dotting_end, ellipsis_stop, ellipsis_done, comma_passed}
use Rattle.reader.proofs.cursor.Cursor.ellipsis.Goals as goal

pub pass-requires : goal.pass-requires
pass-requires c = start_passed c.args.self.now c.requires.0.inward c.requires.1 (λ q. cc) (λ o. cc)

pub returns-in_err-dot : goal.returns-in_err-dot
returns-in_err-dot c =
    let r = c.args.self.now in
    by_break (λ o. Ellipsed r.text.now r o c.dot.new.self) _ _ c.from_residual.ensures.1 (dotting_stop 1 r _ c.dot.new.self _ (dotting_first r _ c.pass.ensures) c.in_err-dot.ensures)

pub returns-in_err-dot-2 : goal.returns-in_err-dot-2
returns-in_err-dot-2 c =
    let r = c.args.self.now in
    let one : Dotting 1 r c.dot.new.self = dotting_more 1 r _ _ (dotting_first r _ c.pass.ensures) c.in_ok-dot.ensures in
    by_break (λ o. Ellipsed r.text.now r o c.dot-2.new.self) _ _ c.from_residual-in_err-dot-2.ensures.1 (dotting_stop 0 r _ c.dot-2.new.self _ one c.in_err-dot-2.ensures)

pub returns-then-not-is_comma : goal.returns-then-not-is_comma
returns-then-not-is_comma c =
    let r = c.args.self.now in
    let one : Dotting 1 r c.dot.new.self = dotting_more 1 r _ _ (dotting_first r _ c.pass.ensures) c.in_ok-dot.ensures in
    let none : Dotting 0 r c.dot-2.new.self = dotting_more 0 r _ _ one c.in_ok-dot-2.ensures in
    dotting_end r _ c.blanks.new.self _ none c.blanks.ensures (sym c.if-not-is_comma.ensures) c.refuse.ensures

pub pass-requires-2 : goal.pass-requires-2
pass-requires-2 c =
    let r = c.args.self.now in
    let one : Dotting 1 r c.dot.new.self = dotting_more 1 r _ _ (dotting_first r _ c.pass.ensures) c.in_ok-dot.ensures in
    let none : Dotting 0 r c.dot-2.new.self = dotting_more 0 r _ _ one c.in_ok-dot-2.ensures in
    comma_passed c.blanks.new.self (c.blanks.ensures.same.state ∙ none.same.state ∙ c.requires.0.inward) (sym c.if-not-is_comma.ensures)

pub returns-in_default : goal.returns-in_default
returns-in_default c =
    let r = c.args.self.now in
    let one : Dotting 1 r c.dot.new.self = dotting_more 1 r _ _ (dotting_first r _ c.pass.ensures) c.in_ok-dot.ensures in
    let none : Dotting 0 r c.blanks.new.self = dotting_over r _ _ (dotting_more 0 r _ _ one c.in_ok-dot-2.ensures) c.blanks.ensures in
    ellipsis_stop r _ _ c.blanks-2.new.self none (sym c.if-not-is_comma.ensures) c.pass-2.ensures c.blanks-2.ensures _ (λ e. c.in_default.not-Digit (c.start.ensures ∙ e)) c.refuse-in_default.ensures

pub returns : goal.returns
returns c =
    let r = c.args.self.now in
    let one : Dotting 1 r c.dot.new.self = dotting_more 1 r _ _ (dotting_first r _ c.pass.ensures) c.in_ok-dot.ensures in
    let none : Dotting 0 r c.blanks.new.self = dotting_over r _ _ (dotting_more 0 r _ _ one c.in_ok-dot-2.ensures) c.blanks.ensures in
    ellipsis_done r _ _ c.blanks-2.new.self none (sym c.if-not-is_comma.ensures) c.pass-2.ensures c.blanks-2.ensures (sym c.in-Digit.ensures)
