use Rattle.std.proofs.Common.{sym, ap, inl, inr, arith}
use Rattle.reader.specs.Scans.{Quoted}
use Rattle.reader.proofs.Leaves.{bump, quoting_begins, quoting_first, quoting_more, quoting_stop, quoting_last, by_break}
use Rattle.reader.proofs.cursor.Cursor.quote.Goals as goal

pub loop-bytes-init : goal.loop-bytes-init
loop-bytes-init c = quoting_first c.args.self.now _ c.requires.0.inward c.requires.1 c.in_ok-take.ensures

pub returns-in_err-take : goal.returns-in_err-take
returns-in_err-take c = absurd (quoting_begins c.args.self.now _ c.take.new.self c.requires.0.inward c.requires.1 c.in_err-take.ensures)

pub returns-in_err-take-2 : goal.returns-in_err-take-2
returns-in_err-take-2 c =
    by_break (λ o. Quoted c.args.self.now o c.take-in-loop-bytes.new.self) _ _ c.from_residual-in_err-take-2.ensures.1 (quoting_stop _ c.args.self.now _ _ _ c.take-in-loop-bytes.new.self c.in_ok-take.ensures.2.text c.loop-bytes.invariant c.in_err-take-2.ensures)

pub loop-bytes-preserved-in-Text : goal.loop-bytes-preserved-in-Text
loop-bytes-preserved-in-Text c =
    quoting_more _ _ _ _ _ c.loop-bytes.invariant c.in_ok-take-2.ensures (inl c.in-Text.is) _ (sym (ap (λ s. bump s c.loop-bytes.bytes) c.in-Text.is)) (omega arith)

pub loop-bytes-preserved : goal.loop-bytes-preserved
loop-bytes-preserved c =
    quoting_more _ _ _ _ _ c.loop-bytes.invariant c.in_ok-take-2.ensures (inr c.in-Escape.is) _ (sym (ap (λ s. bump s c.loop-bytes.bytes) c.in-Escape.is)) (omega arith)

pub returns : goal.returns
returns c =
    quoting_last _ c.args.self.now _ _ _ c.in_ok-take.ensures.2.text c.in_ok-take.ensures.2.table c.loop-bytes.invariant c.in_ok-take-2.ensures c.in_default.not-Text c.in_default.not-Escape
