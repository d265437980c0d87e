use Rattle.std.proofs.Common.{sym, refl, ◌∙◌, arith}
use Rattle.reader.specs.Statements.{Simply, named_at}
use Rattle.reader.proofs.Leaves.{by_break}
use Rattle.reader.proofs.Passing.{narrowed}
use Rattle.reader.proofs.Shown.{Indexed, indexed, indexed_shown, indexed_assigned, indexed_not}
use Rattle.reader.proofs.cursor.Cursor.indexed.Goals as goal
use Rattle.reader.proofs.cursor.Cursor.indexed.Goals.{After-blanks}

behind : (c : After-blanks) → Indexed c.args.place c.args.name.«from» c.args.name.to c.begin-statement.result c.in_ok-need.need c.args.self.now c.blanks.new.self
behind c = indexed c.args.place c.args.name.«from» c.args.name.to c.begin-statement.result c.outermost.result c.in_ok-need.need c.args.self.now c.begin-statement.new.self c.subscript.new.self c.blanks.new.self c.begin-statement.ensures.begun c.outermost.ensures c.begin-statement.ensures.held c.in_ok-need.ensures c.blanks.ensures

pub returns-in_err-right : goal.returns-in_err-right
returns-in_err-right c =
    let r = c.args.self.now in
    by_break (λ o. Simply r.text.now c.args.place (named_at r.text.now c.args.place c.args.name.«from» c.args.name.to) r o c.assigned.new.self) _ _ (c.from_residual-in_err-right.ensures.1) (indexed_not c.args.place _ _ _ _ c.nodes_behind-subscript.result r _ c.assigned.new.self _ (behind (goal.at.returns-in_err-right c).After-blanks) c.in_err-right.ensures)

pub returns-then-is_assignment : goal.returns-then-is_assignment
returns-then-is_assignment c = indexed_assigned _ _ _ _ _ _ c.in_ok-right.right _ _ _ c.assigned.new.self (behind (goal.at.returns-then-is_assignment c).After-blanks) c.nodes_behind-subscript.ensures c.max.ensures c.in_ok-right.ensures

pub returns : goal.returns
returns c =
    let r = c.args.self.now in
    let here = c.requires.0 in
    let name = narrowed c.args.name.«from» c.args.name.to c.narrow.result c.narrow.ensures (omega (arith, here.ordered, here.behind, r.within, r.short)) (omega (arith, here.behind, r.within, r.short)) in
    indexed_shown c.args.place c.args.name.«from» c.args.name.to _ _ c.narrow.result c.computed.result r _ _ c.continued.new.self c.continued.result (behind (goal.at.returns c).After-blanks) c.computed.ensures (sym c.is_assignment.ensures ∙ c.if-is_assignment.false) name (record { text = refl; state = refl; pos = refl; table = c.push.ensures }) c.continued.ensures
