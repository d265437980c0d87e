-- What the functions promise that work out expressions. Assumes nothing.
use Rattle.std.specs.Prelude.{◌≡◌, ℕ, ◌+◌, ◌^◌, ◌≤◌, ◌<◌, List, [], ◌∷◌, map, length, Some, Ok, Err, Result}
use Rattle.std.specs.Option.{option_map}
use Rattle.effects.specs.Effects.{Program, return, visit, Limits, State, told, exec}
use Rattle.evaluator.specs.declared.run.Run.{Run}
use Rattle.evaluator.specs.Turns.{Slot, Turn}
use Rattle.meaning.specs.Lawful.{AllLawful}
use Rattle.meaning.specs.Meaning.{Value}
use Rattle.refusals.specs.declared.fault.Fault.{Fault}
use Rattle.refusals.specs.declared.Refusal.{Refusal}
use Rattle.refusals.specs.Errors.{Error, refusal_of}
use Rattle.store.specs.Names.{Names}
use Rattle.trees.specs.Counts.{need}
use Rattle.trees.specs.declared.Node.{Node}
use Rattle.trees.specs.Flat.{flatten}
use Rattle.trees.specs.Tree.{Expr}
use Rattle.values.specs.Means.{value_means}

-- what waits, by what its values mean
abbrev pub slots : Run → List Slot
slots r = map (option_map value_means) r.values.items

-- how far the print is, with these names and this paper
abbrev pub state : Run → Names → List ℕ → State
state r ns paper' = record { steps = r.steps; names = ns; paper = paper' }

abbrev pub result_as : {A B : Type 0} → (A → B) → Result A Fault → Result B Fault
result_as f (Ok a) = Ok (f a)
result_as f (Err e) = Err e

-- the text, the limit and the stack's room stay, and steps only grow
pub record Still (r r' : Run) : Type 0 where
  pub text : r'.text.now ≡ r.text.now
  pub limit : r'.limit ≡ r.limit
  pub capacity : r'.values.capacity ≡ r.values.capacity
  pub steps : r.steps ≤ r'.steps

-- at the beginning of a print
pub record Begun (text : List ℕ) (limit' room : ℕ) (r : Run) : Type 0 where
  pub at : r.text.now ≡ text
  pub steps : r.steps ≡ 0
  pub limit : r.limit ≡ limit'
  pub values : r.values.items ≡ []
  pub capacity : r.values.capacity ≡ room

-- all but the values that wait stays
pub record OnlyValues (r r' : Run) : Type 0 where
  pub text : r'.text.now ≡ r.text.now
  pub limit : r'.limit ≡ r.limit
  pub capacity : r'.values.capacity ≡ r.values.capacity
  pub steps : r'.steps ≡ r.steps

-- From r to r' the run does what the program m says, with the names ns. It has no part in the paper, so this holds with any.
abbrev pub Does : {A : Type 0} → Names → Program A → Run → Run → Result A Fault → Type 0
Does ns m r r' o = (L : Limits) (paper' : List ℕ) → L.steps ≡ r.limit → told o (state r' ns paper') ≡ exec L m (state r ns paper')

-- what a node does to the values that wait
abbrev pub Works : Result Turn Error → Result ℕ Refusal → List Slot → Type 0
Works (Ok t) o vs = (o ≡ Ok t.1) × (vs ≡ t.0)
Works (Err e) o vs = o ≡ Err (refusal_of e)

-- the value of an expression is left on top
abbrev pub Valued : Names → Program Value → Run → Run → Result (Unit {0}) Fault → Type 0
Valued ns m r r' (Ok u) = (v : Value) × (slots r' ≡ Some v ∷ slots r) × Does ns m r r' (Ok v)
Valued ns m r r' (Err f) = Does ns m r r' (Err f)

-- the nodes ns' are those of the expression e, and there is room for what it needs
pub record Fits (r : Run) (ns' : List Node) (e : Expr) : Type 0 where
  pub nodes : ns' ≡ flatten e
  pub lawful : AllLawful r.text.now ns'
  pub room : length (slots r) + need e ≤ r.values.capacity

-- the values that wait stay as they are, where the answer is a result
abbrev pub Level : {A : Type 0} → Run → Run → Result A Fault → Type 0
Level r r' (Ok a) = slots r' ≡ slots r
Level r r' (Err f) = Unit {0}

-- a visit of the node at p
pub record Visited (p : ℕ) (r r' : Run) (o : Result (Unit {0}) Fault) : Type 0 where
  pub does : (ns : Names) → Does ns (visit p (return tt)) r r' o
  pub values : slots r' ≡ slots r
  pub still : Still r r'
  pub counted : o ≡ Ok tt → r.steps < r'.steps
  -- a limit on steps has 32 bits
  pub narrow : r.limit < 2 ^ 32
