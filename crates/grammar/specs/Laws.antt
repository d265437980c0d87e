-- The laws of reading, in the words of the grammar and the rules. Assumes nothing.
use Rattle.std.specs.Prelude.{◌≡◌, ℕ, ◌+◌, ◌-◌, ◌*◌, ◌<◌, ◌≤◌, true, ◌⊎◌, List, [], ◌∷◌, length, take}
use Rattle.refusals.specs.declared.Refusal.TheVariants.{UnexpectedByte}
use Rattle.refusals.specs.Refusals.{number_of}
use Rattle.trees.specs.Tree.{Items}
use Rattle.grammar.specs.Rules.{Rule, refusal_of, Broken, arrives, broken_rules}
use Rattle.grammar.specs.Machine.{reading, accepted, refused}
use Rattle.grammar.specs.Grammar.{Template}

-- the text is a template that says the items, and breaks none of the rules 4 to 8
pub record Faultless (text : List ℕ) (ts : Items) : Type 0 where
  pub template : Template text ts
  pub lawful : broken_rules ts (length text) ≡ []

-- the reading gives the items exactly where the text is a faultless template of them
abbrev pub Exact : Type 0
Exact = (text : List ℕ) (ts : Items) → (Faultless text ts → reading true text ≡ accepted ts) × (reading true text ≡ accepted ts → Faultless text ts)

-- no text has two readings
abbrev pub OneReading : Type 0
OneReading = (text : List ℕ) (ts ts' : Items) → Template text ts → Template text ts' → ts ≡ ts'

-- the first p bytes of the text begin some template (of any length), the rules 4 to 8 apart
pub record Viable (text : List ℕ) (p : ℕ) : Type 0 where
  pub other : List ℕ
  pub items : Items
  pub template : Template other items
  pub same : take p other ≡ take p text

-- the first p + 1 bytes of the text begin none (at the text's end: the text itself is none)
abbrev pub Dead : List ℕ → ℕ → Type 0
Dead text p = (other : List ℕ) (items : Items) → take (p + 1) other ≡ take (p + 1) text → Template other items → ⊥

abbrev pub Among : Broken → List Broken → Type 0
Among f [] = ⊥
Among f (g ∷ gs) = (f ≡ g) ⊎ Among f gs

-- no template that begins with the first p bytes of the text breaks a rule that falls due before p
abbrev pub NothingDue : List ℕ → ℕ → Type 0
NothingDue text p = (other : List ℕ) (items : Items) → take p other ≡ take p text → Template other items → (f : Broken) → Among f (broken_rules items (length other)) → p ≤ f.due

-- number 3 names the byte with which no template goes on, or the template's length; before it no rule falls due
abbrev pub NamesTheByte : Type 0
NamesTheByte = (text : List ℕ) (p : ℕ) → reading true text ≡ refused UnexpectedByte p → (p ≤ length text) × Viable text p × Dead text p × NothingDue text p

-- f falls due before g, or at the same byte with no greater number
abbrev pub Sooner : Broken → Broken → Type 0
Sooner f g = (f.due < g.due) ⊎ ((f.due ≡ g.due) × (number_of (refusal_of f.rule) ≤ number_of (refusal_of g.rule)))

-- f is the first of the broken rules, and none of them is sooner. So of two with one number that fall due at one byte (a sequence's last
-- constant that is too large, and the sequence that does not arrive) it is the one that the rules list first.
pub record Earliest (f : Broken) (fs : List Broken) : Type 0 where
  pub rest : List Broken
  pub first : fs ≡ f ∷ rest
  pub least : (g : Broken) → Among g fs → Sooner f g

-- A refusal by 4 to 8 has a byte p (or the template's length) at which it falls due. With that byte the text still begins a template, the
-- rules apart; and whatever template goes on from there, it breaks this rule at the place that is named, due at p, and no rule sooner.
abbrev pub NamesTheRule : Type 0
NamesTheRule =
    (text : List ℕ) (r : Rule) (q : ℕ) → reading true text ≡ refused (refusal_of r) q →
    (p : ℕ) × (p ≤ length text) × Viable text (p + 1)
    × ((other : List ℕ) (items : Items) → take (p + 1) other ≡ take (p + 1) text → Template other items → Earliest (record { rule = r; place = q; due = p }) (broken_rules items (length other)))

-- a template that breaks rules is refused by the first of them
abbrev pub RefusedByTheFirst : Type 0
RefusedByTheFirst = (text : List ℕ) (ts : Items) (f : Broken) (fs : List Broken) → Template text ts → broken_rules ts (length text) ≡ f ∷ fs → reading true text ≡ refused (refusal_of f.rule) f.place

-- c is reached from b in k steps of the difference of a and b, upwards where a is the smaller, else downwards
abbrev pub InSteps : ℕ → ℕ → ℕ → Type 0
InSteps a b c = ((a < b) × ((k : ℕ) × (c ≡ b + k * (b - a)))) ⊎ ((b < a) × ((k : ℕ) × (c + k * (a - b) ≡ b)))

-- a sequence arrives just where its last number is reached from its second in whole steps, and the first two differ
abbrev pub ArrivesInSteps : Type 0
ArrivesInSteps = (a b c : ℕ) → (arrives a b c ≡ true → InSteps a b c) × (InSteps a b c → arrives a b c ≡ true)
