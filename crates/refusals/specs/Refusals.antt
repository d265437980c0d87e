-- The number and the layer of each refusal, and the answer of a call that may be refused. Assumes nothing.
use Rattle.std.specs.Prelude.{◌≡◌, ℕ, Bool, true, false, cond, List, ◌++◌, Ok, Err, codes, decimal, Result}
use Rattle.refusals.specs.declared.Layer.{Layer}
use Rattle.refusals.specs.declared.Layer.TheVariants.{Reader, Evaluator, Store, Printer}
use Rattle.refusals.specs.declared.Refusal.{Refusal}
use Rattle.refusals.specs.declared.Refusal.TheVariants.{OutOfRange, TemplateTooLong, UnexpectedByte, UnmatchedBlock, BadNumber, TooLong, NestedTooDeep, BadCall, NothingLoaded, NotANumber, Overflow, DivisionByZero, BadShift, TooManyElements, TextTooLong, NotDigits, BadName, BadValue, UnsetKey, TooManyNodes, StackTooSmall, OutOfSteps, StoreFull, PaperFull}

-- every refusal: its number and its layer
abbrev pub listed : Refusal → ℕ × Layer
listed OutOfRange = (1, Reader)
listed TemplateTooLong = (2, Reader)
listed UnexpectedByte = (3, Reader)
listed UnmatchedBlock = (4, Reader)
listed BadNumber = (5, Reader)
listed TooLong = (6, Reader)
listed NestedTooDeep = (7, Reader)
listed BadCall = (8, Reader)
listed NothingLoaded = (9, Evaluator)
listed NotANumber = (10, Evaluator)
listed Overflow = (11, Evaluator)
listed DivisionByZero = (12, Evaluator)
listed BadShift = (13, Evaluator)
listed TooManyElements = (14, Evaluator)
listed TextTooLong = (15, Evaluator)
listed NotDigits = (16, Evaluator)
listed BadName = (17, Store)
listed BadValue = (18, Store)
listed UnsetKey = (19, Store)
listed TooManyNodes = (20, Reader)
listed StackTooSmall = (21, Reader)
listed OutOfSteps = (22, Evaluator)
listed StoreFull = (23, Store)
listed PaperFull = (24, Printer)

abbrev pub number_of : Refusal → ℕ
number_of f = (listed f).0

abbrev pub layer_of : Refusal → Layer
layer_of f = (listed f).1

-- no two refusals share a number
abbrev pub OwnNumbers : Type 0
OwnNumbers = (f g : Refusal) → number_of f ≡ number_of g → f ≡ g

-- the words of the layers in reports
abbrev pub word_of : Layer → List ℕ
word_of Reader = codes "reader"
word_of Evaluator = codes "evaluator"
word_of Store = codes "store"
word_of Printer = codes "printer"

-- what a program reports of a refusal
abbrev pub report_of : Refusal → List ℕ
report_of f = codes "refused " ++ decimal (number_of f) ++ codes " in " ++ word_of (layer_of f)

-- the answer of a call that is done where a test allows it, and else refused
abbrev pub answered : {A : Type 0} → Bool → A → Refusal → Result A Refusal
answered true a f = Ok a
answered false a f = Err f

-- an answer, by what the value in it means
abbrev pub meant : {A M : Type 0} → (A → M) → Result A Refusal → Result M Refusal
meant means (Ok a) = Ok (means a)
meant means (Err f) = Err f

-- a change from `before` to `next` that is made exactly where it is allowed; else it is refused with f, and `before` stays
pub record Guarded {X : Type 0} (allowed : Bool) (before next after : X) (f : Refusal) (r : Result (Unit {0}) Refusal) : Type 0 where
  pub answer : r ≡ answered allowed tt f
  pub left : after ≡ cond allowed next before
