use Rattle.std.proofs.Common.{refl, ◌∙◌}
use Rattle.bench.proofs.Trying.{held, refused_by_nodes, refused_by_stack, printed_and_settled}
use Rattle.bench.specs.Tries.{Tried, unread}
use Rattle.reader.proofs.Leaves.{by_break}
use Rattle.bench.proofs.try_on.Goals as goal

pub returns-in_err-reading : goal.returns-in_err-reading
returns-in_err-reading g c =
    by_break (Tried g.S.Store g.P.Printer c.args.text.now c.args.limit c.args.store.now c.args.store.now c.args.printer.now c.args.printer.now) _ _ c.from_residual.ensures.1
    (unread _ c.in_err-reading.ensures.answered refl refl refl)

pub returns-then-nodes-gt-NODES : goal.returns-then-nodes-gt-NODES
returns-then-nodes-gt-NODES g c = refused_by_nodes g.S.Store g.P.Printer c.in_ok-reading.ensures.answered c.nodes-nodes.ensures c.if-nodes-gt-NODES.true c.at_start.ensures

pub returns-then-stack-gt-STACK : goal.returns-then-stack-gt-STACK
returns-then-stack-gt-STACK g c = refused_by_stack g.S.Store g.P.Printer c.in_ok-reading.ensures.answered c.nodes-nodes.ensures c.if-nodes-gt-NODES.false c.stack-stack.ensures c.if-stack-gt-STACK.true c.at_start-then-stack-gt-STACK.ensures

pub invariant_of-template : goal.invariant_of-template
invariant_of-template g c = record { held = ∣ held c.in_ok-reading.ensures.answered c.nodes-nodes.ensures c.if-nodes-gt-NODES.false c.slots.ensures c.stack-stack.ensures ∣₁ }

pub returns-in_err-answer : goal.returns-in_err-answer
returns-in_err-answer g c =
    by_break (Tried g.S.Store g.P.Printer c.args.text.now c.args.limit c.args.store.now c.print-steps.new.store c.args.printer.now c.settle.new.self) _ _ c.from_residual-in_err-answer.ensures.1
    (printed_and_settled g.S.Store g.P.Printer c.in_ok-reading.ensures.answered c.nodes-nodes.ensures c.if-nodes-gt-NODES.false c.stack-stack.ensures c.if-stack-gt-STACK.false c.print-steps.ensures.printed c.settle.ensures.taken c.settle.ensures.capacity c.settle.ensures.settled c.in_err-answer.was (_, refl))

pub returns : goal.returns
returns g c =
    printed_and_settled g.S.Store g.P.Printer c.in_ok-reading.ensures.answered c.nodes-nodes.ensures c.if-nodes-gt-NODES.false c.stack-stack.ensures c.if-stack-gt-STACK.false c.print-steps.ensures.printed c.settle.ensures.taken c.settle.ensures.capacity c.settle.ensures.settled c.in_ok-answer.was
    (refl, c.nodes-nodes.ensures ∙ c.in_ok-reading.ensures.answered.nodes_are, c.stack-stack.ensures ∙ c.in_ok-reading.ensures.answered.stack_is, c.len.ensures, c.len-2.ensures)
