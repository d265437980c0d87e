-- What values are, and how they print. Assumes nothing.
use Rattle.std.specs.Prelude.{ℕ, List, [], ◌∷◌, ◌++◌, ℤ, Some, None, Option}
use Rattle.std.specs.Fmt.{signed_decimal}

-- an element has a number, a text or both
pub data Elem : Type 0 where
  number : ℤ → Elem
  text : List ℕ → Elem
  both : ℤ → List ℕ → Elem

abbrev pub number_in : Elem → Option ℤ
number_in (number n) = Some n
number_in (text t) = None
number_in (both n t) = Some n

abbrev pub text_in : Elem → Option (List ℕ)
text_in (number n) = None
text_in (text t) = Some t
text_in (both n t) = Some t

-- an element's print form: its text if any, else its number in base ten
abbrev pub form : Elem → List ℕ
form (number n) = signed_decimal n
form (text t) = t
form (both n t) = t

-- the later elements, each after a comma
abbrev pub more : List Elem → List ℕ
more [] = []
more (e ∷ es) = 44 ∷ form e ++ more es

-- a value's print form: those of its elements in order, with commas between
abbrev pub value_form : List Elem → List ℕ
value_form [] = []
value_form (e ∷ es) = form e ++ more es
