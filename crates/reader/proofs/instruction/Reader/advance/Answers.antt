use Rattle.std.proofs.Common.{refl, arith}
use Rattle.reader.proofs.Outer.{sparse_within, advance_breaks, stops, begins, instruction_stops, instruction_read, passes, in_instruction, not_instruction}
use Rattle.reader.proofs.instruction.Reader.advance.Goals as goal

pub emit-requires : goal.emit-requires
emit-requires c =
    let r = c.args.self.now in
    let h = sparse_within r.cursor.state r.«from» r.cursor.pos r.cursor.table.len c.requires.outer.sparse in
    (omega (arith, h.1, r.cursor.within, r.cursor.short), h.0)

pub returns-in_err-step : goal.returns-in_err-step
returns-in_err-step c =
    advance_breaks _ _ _ _ _ _ c.from_residual.ensures.1 (stops c.args.self.now c.emit.new.self _ _ _ c.step.new.self c.requires.outer c.requires.within c.from-class.ensures c.emit.ensures c.in_err-step.ensures)

pub returns-in_err-instruction : goal.returns-in_err-instruction
returns-in_err-instruction c =
    advance_breaks _ _ _ _ _ _ c.from_residual-in_err-instruction.ensures.1
    (instruction_stops _ _ _ _ _
    (begins c.args.self.now c.emit.new.self _ _ tt c.requires.outer c.requires.within c.from-class.ensures c.emit.ensures c.in_ok-step.ensures (in_instruction _ c.if-eq.ensures) refl refl refl)
    c.in_err-instruction.ensures)

pub returns-in_ok-instruction : goal.returns-in_ok-instruction
returns-in_ok-instruction c =
    instruction_read _ _ c.instruction.new.self _ _ _ _
    (begins c.args.self.now c.emit.new.self _ _ tt c.requires.outer c.requires.within c.from-class.ensures c.emit.ensures c.in_ok-step.ensures (in_instruction _ c.if-eq.ensures) refl refl refl)
    c.in_ok-instruction.ensures
    refl refl refl refl

pub returns-else-eq : goal.returns-else-eq
returns-else-eq c =
    passes c.args.self.now c.emit.new.self _ c.step.new.self _ tt c.requires.outer c.requires.within c.from-class.ensures c.emit.ensures c.in_ok-step.ensures (not_instruction _ c.if-eq.ensures)
    (record { text = refl; state = refl; pos = refl; table = refl; «from» = refl; stack = refl; loops = refl })
