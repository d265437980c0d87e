use Rattle.std.proofs.Common.{w64, sym, ◌∙◌}
use Rattle.std.proofs.lemmas.Int.{to_z-of_z}
use Rattle.values.specs.Means.{value_means}
use Rattle.operations.proofs.Elements.{element_found}
use Rattle.operations.proofs.calls.element_at.Goals as goal

pub returns-in-Some : goal.returns-in-Some
returns-in-Some c =
    let v = value_means c.args.value.now in
    let i = rw (to_z-of_z w64 c.args.index c.ranges.index) at c.in-Ok.ensures in
    let r = c.in-Some.ensures.lookup in
    c.from.ensures ∙ sym (element_found c.elements.result.now v c.args.index c.in-Ok.i c.in-Some.element.now c.elements.ensures i.0 i.1 r.3.0 r.1)
