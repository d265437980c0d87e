use Rattle.std.proofs.Common.{sym, refl, ◌∙◌, arith}
use Rattle.reader.proofs.Shown.{named_shown, named_assigned}
use Rattle.reader.proofs.Passing.{narrowed}
use Rattle.reader.proofs.cursor.Cursor.named.Goals as goal

pub returns-then-is_assignment : goal.returns-then-is_assignment
returns-then-is_assignment c = named_assigned c.args.place c.args.name.«from» c.args.name.to _ c.args.self.now c.begin-statement.new.self _ c.assigned.result c.begin-statement.ensures.begun c.requires.1.0 c.requires.1.1.0 c.requires.1.1.1 c.begin-statement.ensures.held c.assigned.ensures

pub returns : goal.returns
returns c =
    let r = c.args.self.now in
    let here = c.requires.0 in
    let name = narrowed c.args.name.«from» c.args.name.to c.narrow.result c.narrow.ensures (omega (arith, here.ordered, here.behind, r.within, r.short)) (omega (arith, here.behind, r.within, r.short)) in
    named_shown c.args.place c.args.name.«from» c.args.name.to _ _ _ r c.begin-statement.new.self _ _ c.continued.result c.begin-statement.ensures.begun c.computed.ensures (omega (arith, here.few)) c.requires.1.0 c.requires.1.1.0 c.requires.1.1.1 (sym c.is_assignment.ensures ∙ c.if-is_assignment.false) name c.begin-statement.ensures.held (record { text = refl; state = refl; pos = refl; table = c.push.ensures }) c.continued.ensures
