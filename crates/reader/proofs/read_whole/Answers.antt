use Rattle.std.proofs.Common.{List, ℕ, Bor, length, refl, ap, arith}
use Rattle.reader.specs.Outside.{Read}
use Rattle.reader.proofs.Leaves.{by_break}
use Rattle.reader.proofs.Outer.{sparse_within, sofar_none, sofar_more, read_stops, read_unended, read_ended}
use Rattle.reader.proofs.read_whole.Goals as goal

pub loop-reader-init : goal.loop-reader-init
loop-reader-init c = sofar_none _ _ c.requires

pub advance-requires-clause-outer : goal.advance-requires-clause-outer
advance-requires-clause-outer c = c.loop-reader.invariant.outer

pub loop-reader-preserved : goal.loop-reader-preserved
loop-reader-preserved c = sofar_more _ _ _ c.loop-reader.invariant c.in_ok-advance.ensures

pub loop-reader-smaller : goal.loop-reader-smaller
loop-reader-smaller c = omega (arith, c.in_ok-advance.ensures.onwards, c.advance.new.self.cursor.within, c.loop-reader-test.true, ap (λ (t : Bor (List ℕ)). length t.now) c.in_ok-advance.ensures.text)

pub returns-in_err-advance : goal.returns-in_err-advance
returns-in_err-advance c = by_break (Read c.args.reader.cursor.text.now) _ _ c.from_residual.ensures.1 (read_stops _ _ _ c.loop-reader.invariant c.in_err-advance.ensures)

pub finish-requires : goal.finish-requires
finish-requires c =
    let r = c.loop-reader.reader in
    omega (arith, (sparse_within r.cursor.state r.«from» r.cursor.pos r.cursor.table.len c.loop-reader.invariant.outer.sparse).1, r.cursor.within, r.cursor.short)

pub returns-in_err-finish : goal.returns-in_err-finish
returns-in_err-finish c = by_break (Read c.args.reader.cursor.text.now) _ _ c.from_residual-in_err-finish.ensures.1 (read_unended _ _ _ _ _ c.loop-reader.invariant c.loop-reader-test.false c.finish.ensures c.in_err-finish.was)

pub returns : goal.returns
returns c = read_ended _ _ _ _ _ c.loop-reader.invariant c.loop-reader-test.false c.finish.ensures c.in_ok-finish.was refl refl
