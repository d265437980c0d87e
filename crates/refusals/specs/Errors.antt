-- What a template can do wrong while it is printed, limits apart. Assumes nothing.
use Rattle.refusals.specs.declared.Refusal.{Refusal}
use Rattle.refusals.specs.declared.Refusal.TheVariants.{NotANumber, Overflow, DivisionByZero, BadShift, TooManyElements, TextTooLong, NotDigits}
use Rattle.std.specs.Prelude.{Ok, Err, Result}

pub data Error : Type 0 where
  not_a_number overflow division_by_zero bad_shift too_many_elements text_too_long not_digits : Error

-- as the refusals 10 to 16
abbrev pub refusal_of : Error → Refusal
refusal_of Error.not_a_number = NotANumber
refusal_of Error.overflow = Overflow
refusal_of Error.division_by_zero = DivisionByZero
refusal_of Error.bad_shift = BadShift
refusal_of Error.too_many_elements = TooManyElements
refusal_of Error.text_too_long = TextTooLong
refusal_of Error.not_digits = NotDigits

-- an answer with its error as a refusal
abbrev pub refused_by : {A : Type 0} → Result A Error → Result A Refusal
refused_by (Ok a) = Ok a
refused_by (Err e) = Err (refusal_of e)
