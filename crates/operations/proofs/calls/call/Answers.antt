use Rattle.std.proofs.Common.{Ok, sym, ap, ◌∙◌}
use Rattle.refusals.specs.Refusals.{meant}
use Rattle.refusals.proofs.Answered.{handed_on}
use Rattle.values.specs.Forms.{value_form}
use Rattle.values.specs.Means.{value_means}
use Rattle.operations.specs.Operators.{value_of}
use Rattle.operations.proofs.Readings.{not_read}
use Rattle.operations.proofs.calls.call.Goals as goal

pub returns-in_err-read_form-in-Atoi : goal.returns-in_err-read_form-in-Atoi
returns-in_err-read_form-in-Atoi c =
    let f = c.in_err-read_form-in-Atoi.field-0.0 in
    rw (c.in-Atoi.is, ← c.argument-first.ensures) (ap (meant value_means) (handed_on f c.from_residual.result c.from_residual.ensures.1) ∙ sym (not_read (value_form (value_means c.argument-first.result)) (λ n. Ok (value_of n)) c.read_form.result f c.read_form.ensures c.in_err-read_form-in-Atoi.was))

pub returns-in-Value : goal.returns-in-Value
returns-in-Value c = rw (c.in-Value.is, ← c.argument-first.ensures, ← c.argument-second.ensures) c.join.ensures
