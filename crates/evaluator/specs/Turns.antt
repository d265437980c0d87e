-- What each node of an expression does to the values that wait, and what the nodes of an expression do one after another. That this is
-- what the expression means is a law of the tree: the lemma `walks` in proofs/Walks.antt. Assumes nothing.
use Rattle.std.specs.Prelude.{ℕ, zero, suc, cond, List, [], ◌∷◌, ◌++◌, map, reverse, length, take, drop, Some, None, Option, Ok, Err, Result, ◌==◌, nat_le, nat_lt}
use Rattle.effects.specs.Effects.{Program, return, visit, ask, ◌>>=◌, or_fail}
use Rattle.meaning.specs.Constants.{part_of, number_constant, text_constant}
use Rattle.meaning.specs.Meaning.{Value, holds, signed_value, binary_value}
use Rattle.operations.specs.Functions.{and_then, at_most_16, call, sequence}
use Rattle.operations.specs.Operators.{decides, operand}
use Rattle.refusals.specs.Errors.{Error}
use Rattle.stacks.specs.Stacked.{rest}
use Rattle.store.specs.Names.{Names, read_at}
use Rattle.trees.specs.declared.Node.{Node}
use Rattle.trees.specs.declared.Node.TheVariants as node
use Rattle.trees.specs.Laid.{weight, place_of}

-- what waits on the stack: a value, or None for items of a list that have more than 16 elements
abbrev pub Slot : Type 0
Slot = Option Value

-- the slot on top, and its value
abbrev pub top_slot : List Slot → Slot
top_slot [] = None
top_slot (v ∷ vs) = v

abbrev pub or_empty : Slot → Value
or_empty None = []
or_empty (Some v) = v

abbrev pub top_value : List Slot → Value
top_value vs = or_empty (top_slot vs)

-- the slot for items of a list and one more; the first item's is its value, whatever its length
abbrev pub joined : Slot → Value → Slot
joined None v = None
joined (Some u) v = cond (nat_le (length (u ++ v)) 16) (Some (u ++ v)) None

-- the value of a list, by the slot for all its items; judged here too, since that of a single item may have any length
abbrev pub checked : Slot → Result Value Error
checked None = Err Error.too_many_elements
checked (Some v) = at_most_16 v

-- one more slot on top, if there is room; there is, since the stack that a template needs is judged before it is printed
abbrev pub pushed : ℕ → Slot → List Slot → List Slot
pushed capacity v vs = cond (nat_lt (length vs) capacity) (v ∷ vs) vs

-- the values of a call, the first one deepest
abbrev pub arguments_of : ℕ → List Slot → List Value
arguments_of n vs = reverse (map or_empty (take n vs))

-- what is left on the stack, and how many nodes behind this one are skipped
abbrev pub Turn : Type 0
Turn = List Slot × ℕ

abbrev pub gives : ℕ → Slot → List Slot → Result Turn Error
gives capacity v vs = Ok (pushed capacity v vs, 0)

abbrev pub gives_if : ℕ → Result Value Error → List Slot → Result Turn Error
gives_if capacity r vs = and_then r (λ v. gives capacity (Some v) vs)

-- the stack after a node, with the names ns
abbrev pub worked : ℕ → List ℕ → Names → Node → List Slot → Result Turn Error
worked cap text ns (node.Piece s) vs = Ok (vs, 0)
worked cap text ns (node.Dollar p) vs = Ok (vs, 0)
worked cap text ns (node.Show p n) vs = Ok (vs, 0)
worked cap text ns (node.Assign p s n m) vs = Ok (vs, 0)
worked cap text ns (node.If p n m) vs = Ok (vs, 0)
worked cap text ns (node.Elif p n m) vs = Ok (vs, 0)
worked cap text ns (node.Else m) vs = Ok (vs, 0)
worked cap text ns node.End vs = Ok (vs, 0)
worked cap text ns (node.While p n m) vs = Ok (vs, 0)
worked cap text ns (node.Foreach p s n m) vs = Ok (vs, 0)
worked cap text ns (node.Joineach p s n d m) vs = Ok (vs, 0)
worked cap text ns (node.Number s n) vs = gives cap (Some (number_constant text s n)) vs
worked cap text ns (node.Text s) vs = gives cap (Some (text_constant text s)) vs
worked cap text ns (node.Name s) vs = gives cap (Some (read_at (part_of text s, None) ns)) vs
worked cap text ns (node.Index s) vs = and_then (operand (top_value vs)) (λ n. gives cap (Some (read_at (part_of text s, Some n) ns)) (rest vs))
worked cap text ns (node.Call p f n) vs = gives_if cap (call f (arguments_of n vs)) (drop n vs)
worked cap text ns (node.Empty p) vs = gives cap (Some []) vs
worked cap text ns (node.List p) vs = gives_if cap (checked (top_slot vs)) (rest vs)
worked cap text ns (node.Sequence p a b c) vs = gives_if cap (sequence a b c) vs
worked cap text ns node.Joined vs = gives cap (joined (top_slot (rest vs)) (top_value vs)) (rest (rest vs))
worked cap text ns (node.Signed p s) vs = gives_if cap (signed_value s (top_value vs)) (rest vs)
worked cap text ns (node.Binary p o) vs = gives_if cap (binary_value o (top_value (rest vs)) (top_value vs)) (rest (rest vs))
worked cap text ns (node.Short p o k) vs = and_then (operand (top_value vs)) (λ a. cond (decides o a) (Ok (pushed cap (Some (holds a)) (rest vs), k)) (Ok (rest vs, 0)))
worked cap text ns (node.Judged p) vs = and_then (operand (top_value vs)) (λ b. gives cap (Some (holds b)) (rest vs))

-- the same as a program, which asks for the names
abbrev pub acted : ℕ → List ℕ → Node → List Slot → Program Turn
acted cap text (node.Name s) vs = ask (part_of text s, None) (λ v. return (pushed cap (Some v) vs, 0))
acted cap text (node.Index s) vs = or_fail s.«from» (operand (top_value vs)) >>= λ n. ask (part_of text s, Some n) (λ v. return (pushed cap (Some v) (rest vs), 0))
acted cap text n vs = or_fail (place_of n) (worked cap text [] n vs)

-- a node that counts is visited before it acts
abbrev pub turned : ℕ → List ℕ → Node → List Slot → Program Turn
turned cap text n vs = cond (weight n == 0) (acted cap text n vs) (visit (place_of n) (acted cap text n vs))

-- nodes one after another, the first k of them skipped
abbrev pub walked : ℕ → List ℕ → ℕ → List Node → List Slot → Program (List Slot)
walked cap text k [] vs = return vs
walked cap text (suc k) (n ∷ ns) vs = walked cap text k ns vs
walked cap text zero (n ∷ ns) vs = turned cap text n vs >>= λ t. walked cap text t.1 ns t.0
