-- What the functions promise that run instructions. Assumes nothing.
use Rattle.std.specs.Prelude.{◌≡◌, ℕ, ◌+◌, ◌≤◌, max, Bool, true, false, ◌⊎◌, List, [], ◌++◌, length, Ok, Err, Result}
use Rattle.std.specs.Borrow.{Bor}
use Rattle.effects.specs.Effects.{Program, Print, Limits, State, told, exec, ◌>>=◌}
use Rattle.evaluator.specs.declared.run.Run.{Run}
use Rattle.evaluator.specs.Runs.{slots, state}
use Rattle.meaning.specs.Lawful.{Named, AllLawful}
use Rattle.meaning.specs.Constants.{part_of, quoted}
use Rattle.meaning.specs.Meaning.{Value, block, arms, print, assign}
use Rattle.printer.specs.declared.Printer as printer
use Rattle.refusals.specs.declared.fault.Fault.{Fault}
use Rattle.store.specs.declared.Store as store
use Rattle.store.specs.Names.{Names}
use Rattle.keys.specs.KeyOrder.{KeyName}
use Rattle.trees.specs.Counts.{need, need_assign, need_block, need_arms}
use Rattle.trees.specs.declared.Node.{Node}
use Rattle.trees.specs.declared.Node.TheVariants as node
use Rattle.trees.specs.declared.Span.{Span}
use Rattle.trees.specs.Flat.{flatten, flatten_target, flatten_block, flatten_arms}
use Rattle.trees.specs.Tree.{Key, Expr, Block, Arms, from_to}

-- what is left of a block: instructions, or first what follows the block of an IF whose condition is 0
pub data Left : Type 0 where
  rest : Block → Left
  arms_then : Arms → Block → Left

abbrev pub left_nodes : Left → List Node
left_nodes (rest b) = flatten_block b
left_nodes (arms_then r b) = flatten_arms r ++ flatten_block b

abbrev pub left_print : List ℕ → Left → Print
left_print text (rest b) = block text b
left_print text (arms_then r b) = arms text r >>= λ u. block text b

-- the stack that it needs, with n values waiting
abbrev pub left_need : ℕ → Left → ℕ
left_need n (rest b) = need_block n b
left_need n (arms_then r b) = max (need_arms n r) (need_block n b)

-- the nodes ns are what is left, x, and there is room for what it needs
pub record Leaves (r : Run) (ns : List Node) (x : Left) : Type 0 where
  pub nodes : ns ≡ left_nodes x
  pub lawful : AllLawful r.text.now ns
  pub room : left_need (length (slots r)) x ≤ r.values.capacity

-- the part of the text that is a target's name, and the stack that its subscript needs
abbrev pub name_of : Key → Span ℕ
name_of (Key.name i j) = from_to i j
name_of (Key.index i j q e) = from_to i j

abbrev pub need_target : Key → ℕ
need_target (Key.name i j) = 0
need_target (Key.index i j q e) = need e

-- the name s and the nodes ns of a subscript are those of the target k, and there is room for what it needs
pub record Targets (r : Run) (s : Span ℕ) (ns : List Node) (k : Key) : Type 0 where
  pub named : Named r.text.now s
  pub name : s ≡ name_of k
  pub nodes : ns ≡ flatten_target k
  pub lawful : AllLawful r.text.now ns
  pub room : length (slots r) + need_target k ≤ r.values.capacity

-- an assignment: the right side is worked out first, and its value waits while the subscript is
pub record Assigns (r : Run) (s : Span ℕ) (ms ns : List Node) (k : Key) (e : Expr) : Type 0 where
  pub named : Named r.text.now s
  pub name : s ≡ name_of k
  pub subscript : ms ≡ flatten_target k
  pub right : ns ≡ flatten e
  pub lawful : AllLawful r.text.now ms × AllLawful r.text.now ns
  pub room : length (slots r) + need_assign k e ≤ r.values.capacity

-- an instruction that has a block, and ELSE
abbrev pub has_block : Node → Bool
has_block (node.If p n m) = true
has_block (node.Elif p n m) = true
has_block (node.Else m) = true
has_block (node.While p n m) = true
has_block (node.Foreach p s n m) = true
has_block (node.Joineach p s n d m) = true
has_block n = false

-- an IF or ELIF
abbrev pub Tests : Node → ℕ → ℕ → ℕ → Type 0
Tests n p c m = (n ≡ node.If p c m) ⊎ (n ≡ node.Elif p c m)

-- a FOREACH, or a JOINEACH with the delimiter d
abbrev pub Loops : List ℕ → Node → ℕ → List ℕ → List ℕ → ℕ → ℕ → Type 0
Loops text n p name d l m =
    ((s : Span ℕ) × (n ≡ node.Foreach p s l m) × (name ≡ part_of text s) × (d ≡ []))
    ⊎ ((s t : Span ℕ) × (n ≡ node.Joineach p s l t m) × (name ≡ part_of text s) × (d ≡ quoted text t))

module _ {P : Type 0} (p : printer.Ghosts P) where
  -- bytes from the node at a place, with any steps and names
  pub record Inks (place : ℕ) (bytes : List ℕ) (printer' printer'' : P) (o : Result (Unit {0}) Fault) : Type 0 where
    pub outcome : (steps' : ℕ) (ns : Names) (L : Limits) → L.paper ≡ p.capacity printer' → told o (record { steps = steps'; names = ns; paper = p.taken printer'' }) ≡ exec L (print place bytes) (record { steps = steps'; names = ns; paper = p.taken printer' })
    pub capacity : p.capacity printer'' ≡ p.capacity printer'

  -- From r to r' the print does what the program m says, which has no part in the names.
  abbrev pub Shows : {A : Type 0} → Program A → Run → Run → P → P → Result A Fault → Type 0
  Shows m r r' printer' printer'' o = (ns : Names) (L : Limits) → L.steps ≡ r.limit → L.paper ≡ p.capacity printer' → told o (state r' ns (p.taken printer'')) ≡ exec L m (state r ns (p.taken printer'))

module _ {S : Type 0} (s : store.Ghosts S) where
  -- a value for a key, with any steps and paper
  pub record Puts (place : ℕ) (k : KeyName) (v : Value) (store' store'' : S) (o : Result (Unit {0}) Fault) : Type 0 where
    pub outcome : (steps' : ℕ) (paper' : List ℕ) (L : Limits) → L.names ≡ s.capacity store' → told o (record { steps = steps'; names = s.names store''; paper = paper' }) ≡ exec L (assign place k v) (record { steps = steps'; names = s.names store'; paper = paper' })
    pub capacity : s.capacity store'' ≡ s.capacity store'

  -- From r to r' the print does what the program m says, which has no part in the paper.
  abbrev pub Sets : {A : Type 0} → Program A → Run → Run → S → S → Result A Fault → Type 0
  Sets m r r' store' store'' o = (paper' : List ℕ) (L : Limits) → L.steps ≡ r.limit → L.names ≡ s.capacity store' → told o (state r' (s.names store'') paper') ≡ exec L m (state r (s.names store') paper')

module _ {S P : Type 0} (s : store.Ghosts S) (p : printer.Ghosts P) where
  -- where a print stands, and its limits
  abbrev pub stands : Run → S → P → State
  stands r store' printer' = state r (s.names store') (p.taken printer')

  abbrev pub limits : Run → S → P → Limits
  limits r store' printer' = record { steps = r.limit; names = s.capacity store'; paper = p.capacity printer' }

  -- from r, store and printer to r', store' and printer' the print does what the program m says
  pub record Ran {A : Type 0} (m : Program A) (r r' : Run) (store' store'' : S) (printer' printer'' : P) (o : Result A Fault) : Type 0 where
    pub outcome : told o (stands r' store'' printer'') ≡ exec (limits r store' printer') m (stands r store' printer')
    pub names : s.capacity store'' ≡ s.capacity store'
    pub paper : p.capacity printer'' ≡ p.capacity printer'

  -- one instruction of what is left, x, and then the nodes that are left after it
  abbrev pub Advanced : Left → Run → Run → S → S → P → P → Result (Bor (List Node)) Fault → Type 0
  Advanced x r r' store' store'' printer' printer'' (Ok ns) =
      (y : Left) × Leaves r' ns.now y
      × (exec (limits r store' printer') (left_print r.text.now x) (stands r store' printer') ≡ exec (limits r' store'' printer'') (left_print r.text.now y) (stands r' store'' printer''))
      × (slots r' ≡ slots r) × (s.capacity store'' ≡ s.capacity store') × (p.capacity printer'' ≡ p.capacity printer')
  Advanced x r r' store' store'' printer' printer'' (Err f) = Ran (left_print r.text.now x) r r' store' store'' printer' printer'' (Err f)
