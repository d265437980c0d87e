use Rattle.std.proofs.Common.{◌≡◌, ◌≤◌, [], ◌∷◌, ◌++◌, length, ap, ◌∙◌, arith, length-append}
use Rattle.arrays.specs.Items.{items, few}
use Rattle.arrays.proofs.Made.{made}
use Rattle.values.specs.Forms.{form}
use Rattle.values.specs.Means.{element_means, value_means}
use Rattle.forms.proofs.Commas.{read_map, first_item, later_item}
use Rattle.forms.proofs.value_form.Goals as goal
use Rattle.forms.proofs.value_form.Goals.{then-i-gt0, else-i-gt0}

pub loop-i-preserved : goal.loop-i-preserved
loop-i-preserved c =
    let l = c.loop-i in
    let x = c.element-item.result in
    let es = value_means c.args.value.now in
    let all = c.elements-element-items in
    let piece = c.as_slice.result.now in
    let at = read_map element_means all.result.now es l.i x all.ensures c.loop-i-test.true c.element-item.is in
    let formed : piece ≡ form (element_means x) = c.as_slice.ensures ∙ c.element_form.ensures in
    let small : length piece ≤ 32 = rw c.as_slice.ensures (few c.element_form.result) in
    let appended : items c.append.new.self ≡ items c.if-i-gt0.bytes ++ piece = made _ _ _ _ c.append.result _ c.append.ensures c.unwrap-in-loop-i.ensures in
    let longer = length-append (items c.if-i-gt0.bytes) piece in
    elim c.if-i-gt0.branch [
      | then-i-gt0 w ↦
          let comma : items c.if-i-gt0.bytes ≡ items l.bytes ++ 44 ∷ [] = ap (λ b. items b) w.bytes-is ∙ made _ _ _ _ w.push.result _ w.push.ensures w.unwrap.ensures in
          record {
            written = later_item es l.i (element_means x) at (items l.bytes) piece (items c.append.new.self) l.invariant.written formed (items c.if-i-gt0.bytes) w.if-i-gt0.true comma appended;
            short = omega (arith, l.invariant.short, ap length appended, ap length comma, length-append (items l.bytes) (44 ∷ []));
          }
      | else-i-gt0 w ↦
          let same : items c.if-i-gt0.bytes ≡ items l.bytes = ap (λ b. items b) w.bytes-is in
          record {
            written = first_item es l.i (element_means x) at (items l.bytes) piece (items c.append.new.self) l.invariant.written formed w.if-i-gt0.false (appended ∙ ap (λ t. t ++ piece) same);
            short = omega (arith, l.invariant.short, ap length appended, ap length same);
          }
    ]
