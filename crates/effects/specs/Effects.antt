-- What a print does, and what limits make of it. A program is the steps, bytes, assignments and questions to the names of a print, one
-- after another; it knows no limit. `exec` is what comes of a program under limits. Assumes nothing.
use Rattle.std.specs.Prelude.{ℕ, suc, Bool, false, cond, List, [], ◌∷◌, ◌++◌, length, Ok, Err, Result, nat_lt, nat_le, ◌&&◌}
use Rattle.refusals.specs.declared.fault.Fault.{Fault}
use Rattle.refusals.specs.declared.Refusal.{Refusal}
use Rattle.refusals.specs.declared.Refusal.TheVariants.{OutOfSteps, StoreFull, PaperFull}
use Rattle.refusals.specs.Refusals.{number_of}
use Rattle.refusals.specs.Errors.{Error, refusal_of}
use Rattle.keys.specs.KeyOrder.{KeyName}
use Rattle.values.specs.Forms.{Elem}
use Rattle.store.specs.Names.{Names, read_at, with, has_room}

pub data Program (A : Type 0) : Type 0 where
  -- the end, with a result
  return : A → Program A
  -- the end, at an error of the template; its place is the one that a refusal names
  fail : Error → ℕ → Program A
  -- a step: the visit of the node at a place
  visit : ℕ → Program A → Program A
  -- a byte for the paper, from the node at a place
  byte : ℕ → ℕ → Program A → Program A
  -- a key gets a value, by the node at a place
  put : KeyName → List Elem → ℕ → Program A → Program A
  -- the value of a key, on which the rest depends
  ask : KeyName → (List Elem → Program A) → Program A

-- a whole print has no result
abbrev pub Print : Type 0
Print = Program (Unit {0})

-- a program, and then another that may depend on its result
infixl 20 ◌>>=◌
abbrev pub ◌>>=◌ : {A B : Type 0} → Program A → (A → Program B) → Program B
return a >>= f = f a
fail e p >>= f = fail e p
visit p m >>= f = visit p (m >>= f)
byte b p m >>= f = byte b p (m >>= f)
put k v p m >>= f = put k v p (m >>= f)
ask k g >>= f = ask k (λ v. g v >>= f)

-- a result, or the error of what stands at a place
abbrev pub or_fail : {A : Type 0} → ℕ → Result A Error → Program A
or_fail p (Ok a) = return a
or_fail p (Err e) = fail e p

-- how many steps a print may take, how many keys the store holds, and how many bytes the paper has
pub record Limits : Type 0 where
  pub steps : ℕ
  pub names : ℕ
  pub paper : ℕ

-- how far a print is: its steps, and what stands in the names and on the paper
pub record State : Type 0 where
  pub steps : ℕ
  pub names : Names
  pub paper : List ℕ

abbrev pub visited : State → State
visited s = record s { steps = suc s.steps }

abbrev pub printed : ℕ → State → State
printed b s = record s { paper = s.paper ++ b ∷ [] }

abbrev pub assigned : KeyName → List Elem → State → State
assigned k v s = record s { names = with k v s.names }

-- how a print ends: done with a result, or refused at a place; and what then stands
pub data Outcome (A : Type 0) : Type 0 where
  done : A → State → Outcome A
  refused : Refusal → ℕ → State → Outcome A

-- an answer, with what then stands, as an outcome
abbrev pub told : {A : Type 0} → Result A Fault → State → Outcome A
told (Ok a) s = done a s
told (Err f) s = refused f.refusal f.place s

-- A visit is refused with 22 where as many steps as the limit are counted, a byte with 24 where the paper is full, a value with 23 where
-- its key is new and the store is full. What was done before stands.
abbrev pub exec : {A : Type 0} → Limits → Program A → State → Outcome A
exec L (return a) s = done a s
exec L (fail e p) s = refused (refusal_of e) p s
exec L (visit p m) s = cond (nat_lt s.steps L.steps) (exec L m (visited s)) (refused OutOfSteps p s)
exec L (byte b p m) s = cond (nat_lt (length s.paper) L.paper) (exec L m (printed b s)) (refused PaperFull p s)
exec L (put k v p m) s = cond (has_room L.names k s.names) (exec L m (assigned k v s)) (refused StoreFull p s)
exec L (ask k g) s = exec L (g (read_at k s.names)) s

-- what stands at the end
abbrev pub state_of : {A : Type 0} → Outcome A → State
state_of (done a s) = s
state_of (refused r p s) = s

-- whether it was a limit that refused: 20 to 24
abbrev pub is_limit : Refusal → Bool
is_limit r = nat_le 20 (number_of r) && nat_le (number_of r) 24

abbrev pub limited : {A : Type 0} → Outcome A → Bool
limited (done a s) = false
limited (refused r p s) = is_limit r
