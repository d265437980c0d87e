-- What functions and sequences give. Assumes nothing.
use Rattle.std.specs.Prelude.{◌≡◌, ℕ, zero, suc, ◌+◌, ◌-◌, ◌/◌, ◌^◌, ◌<◌, ◌≤◌, ◌⊎◌, Bool, cond, List, [], ◌∷◌, ◌++◌, length, take, drop, ℤ, pos, ◌+ℤ◌, int_lt, unsigned_abs, Some, None, Option, Ok, Err, Result, nat_le, nat_lt, get_or}
use Rattle.std.specs.Int.{int_gap, abs_diff}
use Rattle.std.specs.Str.{bytes_eq}
use Rattle.functions.specs.declared.Function.{Function}
use Rattle.functions.specs.declared.Function.TheVariants as function
use Rattle.numbers.specs.Numbers.{numeral, minus, magnitude, with_sign}
use Rattle.refusals.specs.Errors.{Error, refused_by}
use Rattle.refusals.specs.Refusals.{meant}
use Rattle.refusals.specs.declared.Refusal.{Refusal}
use Rattle.values.specs.Forms.{Elem, number, text, both, form, value_form}
use Rattle.values.specs.Means.{value_means}
use Rattle.values.specs.declared.value.Value.{Value}
use Rattle.operations.specs.Operators.{truth, in_64_bits, operand, value_of}

-- what is worked out next, unless there was an error
abbrev pub and_then : {A B : Type 0} → Result A Error → (A → Result B Error) → Result B Error
and_then (Ok a) f = f a
and_then (Err e) f = Err e

-- an argument by its index, from 0
abbrev pub argument : ℕ → List (List Elem) → List Elem
argument i vs = get_or vs i []

-- a value has at most 16 elements
abbrev pub at_most_16 : List Elem → Result (List Elem) Error
at_most_16 v = cond (nat_le (length v) 16) (Ok v) (Err Error.too_many_elements)

-- a text has at most 32 bytes
abbrev pub text_of : List ℕ → Result (List Elem) Error
text_of bs = cond (nat_le (length bs) 32) (Ok (text bs ∷ [])) (Err Error.text_too_long)

-- an optional sign and decimal digits
abbrev pub read_digits : List ℕ → Result ℤ Error
read_digits bs = cond (numeral bs) (in_64_bits (with_sign (minus bs) (magnitude bs))) (Err Error.not_digits)

-- the print form of the first argument of VALUE, or nothing
abbrev pub some_text : List Elem → Result (Option (List ℕ)) Error
some_text [] = Ok None
some_text (e ∷ []) = Ok (Some (form e))
some_text (e ∷ f ∷ es) = Err Error.not_a_number

-- the number of the second, or nothing
abbrev pub some_number : List Elem → Result (Option ℤ) Error
some_number [] = Ok None
some_number (e ∷ es) = and_then (operand (e ∷ es)) (λ n. Ok (Some n))

-- the element of a text and a number; of neither there is none
abbrev pub element_of : Option (List ℕ) → Option ℤ → List Elem
element_of None None = []
element_of (Some t) None = text t ∷ []
element_of None (Some n) = number n ∷ []
element_of (Some t) (Some n) = both n t ∷ []

-- what VALUE gives
abbrev pub text_with_number : List Elem → List Elem → Result (List Elem) Error
text_with_number v w = and_then (some_text v) (λ t. and_then (some_number w) (λ n. Ok (element_of t n)))

-- the element at an index from 0, if there is one
abbrev pub element_at : List Elem → ℤ → List Elem
element_at v n = cond (int_lt n (pos 0)) [] (take 1 (drop (unsigned_abs n) v))

-- n numbers from a on
abbrev pub numbers_from : ℤ → ℕ → List Elem
numbers_from a zero = []
numbers_from a (suc n) = number a ∷ numbers_from (a +ℤ pos 1) n

-- a, a + 1, to b
abbrev pub range : ℤ → ℤ → Result (List Elem) Error
range a b = cond (int_lt b a) (Ok []) (cond (nat_lt (int_gap a b) 16) (Ok (numbers_from a (suc (int_gap a b)))) (Err Error.too_many_elements))

-- the elements of all arguments
abbrev pub all_elements : List (List Elem) → List Elem
all_elements [] = []
all_elements (v ∷ vs) = v ++ all_elements vs

-- what a function gives of its arguments
abbrev pub call : Function → List (List Elem) → Result (List Elem) Error
call function.Length vs = Ok (value_of (pos (length (argument 0 vs))))
call function.Atoi vs = and_then (read_digits (value_form (argument 0 vs))) (λ n. Ok (value_of n))
call function.Eq vs = Ok (value_of (truth (bytes_eq (value_form (argument 0 vs)) (value_form (argument 1 vs)))))
call function.Value vs = text_with_number (argument 0 vs) (argument 1 vs)
call function.Concat vs = text_of (value_form (argument 0 vs) ++ value_form (argument 1 vs))
call function.At vs = and_then (operand (argument 1 vs)) (λ n. Ok (element_at (argument 0 vs) n))
call function.Range vs = and_then (operand (argument 0 vs)) (λ a. and_then (operand (argument 1 vs)) (λ b. range a b))
call function.Append vs = at_most_16 (all_elements vs)

-- c does not lie before b on the way from a: so it is in every sequence that can be read
abbrev pub Onwards : ℕ → ℕ → ℕ → Type 0
Onwards a b c = ((a < b) × (b ≤ c)) ⊎ ((b < a) × (c ≤ b))

-- k numbers from n on, each by d above the one before or, where they do not go up, below it
abbrev pub progression : ℕ → ℕ → Bool → ℕ → List Elem
progression n d up zero = []
progression n d up (suc k) = number (pos n) ∷ progression (cond up (n + d) (n - d)) d up k

-- a, then b and on by the difference of a and b as long as c is not passed
abbrev pub sequence_elements : ℕ → ℕ → ℕ → List Elem
sequence_elements a b c = number (pos a) ∷ progression b (abs_diff a b) (nat_lt a b) (suc (abs_diff b c / abs_diff a b))

-- what a sequence a,b,...,c gives
abbrev pub sequence : ℕ → ℕ → ℕ → Result (List Elem) Error
sequence a b c = at_most_16 (sequence_elements a b c)

-- What is promised of the answer for a sequence a,b,...,c: the value of its elements, or their refusal, if c does not lie before b and all
-- three are at most 9223372036854775807. For other numbers the answer is free: any value or refusal. No template that is read has such.
abbrev pub SequenceIfOnwards : ℕ → ℕ → ℕ → Result Value Refusal → Type 0
SequenceIfOnwards a b c answer = Onwards a b c → a < 2 ^ 63 → c < 2 ^ 63 → meant value_means answer ≡ refused_by (sequence a b c)
