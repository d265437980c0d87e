use Rattle.std.proofs.Common.{◌-◌, ◌∙◌, refl, ap, arith}
use Rattle.trees.specs.declared.Node.TheVariants as node
use Rattle.reader.specs.Tables.{patched}
use Rattle.reader.specs.Statements.{Assigns}
use Rattle.reader.proofs.Leaves.{by_break}
use Rattle.reader.proofs.Shown.{assigns_all, assigns_not, assigns_unclosed, equals_passes}
use Rattle.reader.proofs.Passing.{narrowed}
use Rattle.reader.proofs.cursor.Cursor.assigned.Goals as goal

pub pass-requires : goal.pass-requires
pass-requires c = let h = equals_passes c.args.self.now.text.now c.args.self.now.pos c.requires.assigns in (h.0, (c.requires.ready.inward, h.1))

pub returns-in_err-operand : goal.returns-in_err-operand
returns-in_err-operand c = by_break (λ o. Assigns c.args.self.now.text.now c.args.statement c.args.name.«from» c.args.name.to c.args.subscript c.args.self.now o c.operators.new.self) _ _ (c.from_residual.ensures.1) (assigns_not c.args.statement c.args.subscript c.args.name.«from» c.args.name.to _ c.args.self.now c.pass.new.self c.operators.new.self _ c.outermost.ensures c.requires c.pass.ensures c.in_err-operand.ensures.did)

pub returns-in_err-finish : goal.returns-in_err-finish
returns-in_err-finish c = by_break (λ o. Assigns c.args.self.now.text.now c.args.statement c.args.name.«from» c.args.name.to c.args.subscript c.args.self.now o c.finish.new.self) _ _ (c.from_residual-in_err-finish.ensures.1) (assigns_unclosed c.args.statement c.args.subscript c.args.name.«from» c.args.name.to c.in_ok-operand.operand _ c.args.self.now c.pass.new.self c.operators.new.self c.finish.new.self _ c.outermost.ensures c.requires c.pass.ensures c.in_ok-operand.ensures.did c.in_ok-operand.ensures.stops c.in_err-finish.ensures)

pub returns : goal.returns
returns c =
    let r = c.args.self.now in
    let name = narrowed c.args.name.«from» c.args.name.to c.narrow.result c.narrow.ensures (omega (arith, r.within, r.short)) (omega (arith, r.within, r.short)) in
    assigns_all c.args.statement c.args.subscript _ c.args.name.«from» c.args.name.to c.in_ok-operand.operand _ r c.pass.new.self c.operators.new.self c.finish.new.self _ c.outermost.ensures c.requires c.pass.ensures c.in_ok-operand.ensures.did c.in_ok-finish.ensures (ap (λ n. n - c.args.subscript) c.nodes_behind.ensures)
    (record { text = refl; state = refl; pos = refl; table = c.patch.ensures ∙ ap (λ n. patched c.finish.new.self.table c.args.statement.at (node.Assign c.args.statement.place n c.args.subscript (c.nodes_behind.result - c.args.subscript))) name })
