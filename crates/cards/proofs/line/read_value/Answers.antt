use Rattle.std.proofs.Common.{[], sym, ap, ◌∙◌}
use Rattle.refusals.specs.Refusals.{meant}
use Rattle.refusals.proofs.Answered.{handed_on}
use Rattle.values.specs.Means.{value_means}
use Rattle.cards.specs.Lines.{pieces, elements_in}
use Rattle.cards.proofs.Reading.{pieces_first, pieces_last, piece_added, piece_refused, value_some}
use Rattle.cards.proofs.line.read_value.Goals as goal

pub returns-in_err-add : goal.returns-in_err-add
returns-in_err-add c =
    let x = c.in-Some.piece.now in
    let y = c.in-Some.behind.now in
    let f = c.in_err-add.field-0.0 in
    let v = value_means c.loop-piece.value in
    ap (meant value_means) (handed_on f c.from_residual.result c.from_residual.ensures.1) ∙ piece_refused v _ x (pieces y) c.add.result c.add.ensures f c.in_err-add.was
    ∙ ap (elements_in v) (sym (pieces_first _ x y c.in-Some.ensures)) ∙ c.loop-piece.invariant ∙ sym (value_some c.args.bytes.now (sym c.if-is_empty.ensures))

pub loop-piece-preserved : goal.loop-piece-preserved
loop-piece-preserved c =
    let x = c.in-Some.piece.now in
    let y = c.in-Some.behind.now in
    let v = value_means c.loop-piece.value in
    sym (piece_added v _ x (pieces y) c.add.result c.add.ensures c.in_ok-add.was) ∙ ap (elements_in v) (sym (pieces_first _ x y c.in-Some.ensures)) ∙ c.loop-piece.invariant

pub returns-in_err-add-2 : goal.returns-in_err-add-2
returns-in_err-add-2 c =
    let x = c.loop-piece.rest.now in
    let f = c.in_err-add-2.field-0.0 in
    let v = value_means c.loop-piece.value in
    ap (meant value_means) (handed_on f c.from_residual-in_err-add-2.result c.from_residual-in_err-add-2.ensures.1) ∙ piece_refused v _ x [] c.add-2.result c.add-2.ensures f c.in_err-add-2.was
    ∙ ap (elements_in v) (sym (pieces_last x c.in_default.ensures)) ∙ c.loop-piece.invariant ∙ sym (value_some c.args.bytes.now (sym c.if-is_empty.ensures))

pub returns : goal.returns
returns c =
    let x = c.loop-piece.rest.now in
    let v = value_means c.loop-piece.value in
    sym (piece_added v _ x [] c.add-2.result c.add-2.ensures c.in_ok-add-2.was)
    ∙ ap (elements_in v) (sym (pieces_last x c.in_default.ensures)) ∙ c.loop-piece.invariant ∙ sym (value_some c.args.bytes.now (sym c.if-is_empty.ensures))
