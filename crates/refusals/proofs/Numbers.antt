-- No two refusals share a number. Assumes nothing.
use Rattle.std.proofs.Common.{◌≡◌, ◌-◌, List, [], ◌∷◌, get_or, sym, refl, ap, ◌∙◌}
use Rattle.refusals.specs.Refusals.{number_of, OwnNumbers}
use Rattle.refusals.specs.declared.Refusal.{Refusal}
use Rattle.refusals.specs.declared.Refusal.TheVariants.{OutOfRange, TemplateTooLong, UnexpectedByte, UnmatchedBlock, BadNumber, TooLong, NestedTooDeep, BadCall, NothingLoaded, NotANumber, Overflow, DivisionByZero, BadShift, TooManyElements, TextTooLong, NotDigits, BadName, BadValue, UnsetKey, TooManyNodes, StackTooSmall, OutOfSteps, StoreFull, PaperFull}

-- all refusals, in the order of their numbers
all : List Refusal
all = OutOfRange ∷ TemplateTooLong ∷ UnexpectedByte ∷ UnmatchedBlock ∷ BadNumber ∷ TooLong ∷ NestedTooDeep ∷ BadCall ∷ NothingLoaded ∷ NotANumber ∷ Overflow ∷ DivisionByZero ∷ BadShift ∷ TooManyElements ∷ TextTooLong ∷ NotDigits ∷ BadName ∷ BadValue ∷ UnsetKey ∷ TooManyNodes ∷ StackTooSmall ∷ OutOfSteps ∷ StoreFull ∷ PaperFull ∷ []

found : (f : Refusal) → get_or all (number_of f - 1) OutOfRange ≡ f
unfolding all
found OutOfRange = refl
found TemplateTooLong = refl
found UnexpectedByte = refl
found UnmatchedBlock = refl
found BadNumber = refl
found TooLong = refl
found NestedTooDeep = refl
found BadCall = refl
found NothingLoaded = refl
found NotANumber = refl
found Overflow = refl
found DivisionByZero = refl
found BadShift = refl
found TooManyElements = refl
found TextTooLong = refl
found NotDigits = refl
found BadName = refl
found BadValue = refl
found UnsetKey = refl
found TooManyNodes = refl
found StackTooSmall = refl
found OutOfSteps = refl
found StoreFull = refl
found PaperFull = refl

pub own_numbers : OwnNumbers
own_numbers f g e = sym (found f) ∙ ap (λ n. get_or all (n - 1) OutOfRange) e ∙ found g
