-- Worked slips, what is counted of worked prints, and what narrow limits make of some. Assumes nothing.
use Rattle.std.specs.Prelude.{◌≡◌, ℕ, List, [], ◌∷◌, length, codes}
use Rattle.std.specs.List.{All}
use Rattle.effects.specs.Effects.{Limits, State, Outcome, done, refused, exec}
use Rattle.grammar.specs.Grammar.{Template}
use Rattle.grammar.specs.Laws.{Faultless}
use Rattle.grammar.specs.Rules.{refusal_of, Broken, broken_rules}
use Rattle.meaning.specs.Meaning.{block}
use Rattle.refusals.specs.declared.Refusal.{Refusal}
use Rattle.refusals.specs.declared.Refusal.TheVariants.{BadNumber, Overflow, DivisionByZero, BadShift, TooManyElements, OutOfSteps, StoreFull, PaperFull}
use Rattle.trees.specs.Counts.{nodes_block, need_block}
use Rattle.trees.specs.Tree.{Block, Items, written}

-- the paper of a print that is done, or a refusal and its place
pub data Slip : Type 0 where
  prints : List ℕ → Slip
  refuses : Refusal → ℕ → Slip

abbrev pub slip_of : Outcome (Unit {0}) → Slip
slip_of (done u s) = prints s.paper
slip_of (refused r p s) = refuses r p

-- the greatest limits that there are, and nothing done, set or printed
abbrev pub greatest : Limits
greatest = record { steps = 1000000; names = 512; paper = 16384 }

abbrev pub blank : State
blank = record { steps = 0; names = []; paper = [] }

-- what comes of a template: the refusal by the first of the rules that it breaks, or the print of the block that it spells without
-- breaking one
pub data Gives (text : List ℕ) : Slip → Type 0 where
  unread : (ts : Items) (f : Broken) (fs : List Broken) → Template text ts → broken_rules ts (length text) ≡ f ∷ fs → Gives text (refuses (refusal_of f.rule) f.place)
  printed : (b : Block) → Faultless text (written b Items.none) → Gives text (slip_of (exec greatest (block text b) blank))

abbrev pub worked : List (List ℕ × Slip)
worked =
    (codes "$-7 / 2$", prints (codes "-3"))
    ∷ (codes "$1 << 63$", refuses Overflow 3)
    ∷ (codes "$1 << 64$", refuses BadShift 3)
    ∷ (codes "${2,5,...,17}$", prints (codes "2,5,8,11,14,17"))
    ∷ (codes "${2,5,...,16}$", refuses BadNumber 2)
    ∷ (codes "$LENGTH(RANGE(1,16))$", prints (codes "16"))
    ∷ (codes "$RANGE(1,17)$", refuses TooManyElements 1)
    ∷ (codes "$+0x10$", prints (codes "16"))
    ∷ (codes "$0x10$", prints (codes "0x10"))
    ∷ (codes "$1 / 0$", refuses DivisionByZero 3)
    ∷ []

abbrev pub WorkedSlips : Type 0
WorkedSlips = All (λ (w : List ℕ × Slip). Gives w.0 w.1) worked

-- ---- counts

-- the paper, and how many steps, nodes, stack and names
pub data Count : Type 0 where
  count : List ℕ → ℕ → ℕ → ℕ → ℕ → Count

abbrev pub count_of : Block → State → Count
count_of b s = count s.paper s.steps (nodes_block b) (need_block 0 b) (length s.names)

-- what is counted of a text that spells a block without breaking a rule, where the print is done
pub data Counts (text : List ℕ) : Count → Type 0 where
  ended : (b : Block) (s : State) → Faultless text (written b Items.none) → exec greatest (block text b) blank ≡ done tt s → Counts text (count_of b s)

abbrev pub counted : List (List ℕ × Count)
counted =
    ([], count [] 0 0 0 0)
    ∷ (codes "a$$b", count (codes "a$b") 3 3 0 0)
    ∷ (codes "$-7 / 2$", count (codes "-3") 5 5 2 0)
    ∷ (codes "$0 && 1/0$", count (codes "0") 3 6 2 0)
    ∷ (codes "$a[1 + 2] = 5$$a[3]$", count (codes "5") 8 8 3 1)
    ∷ (codes "$IF 0$x$ELIF 1$y$ELSE$z$END$", count (codes "y") 5 9 1 0)
    ∷ (codes "$n = 2$$WHILE n$$n$$n = n - 1$$END$", count (codes "21") 20 11 2 1)
    ∷ (codes "$JOINEACH i {1,2} \"-\"$$i$$END$", count (codes "1-2") 10 7 2 1)
    ∷ (codes "$AT({4,5,6}, 1 + 1)$", count (codes "6") 9 9 3 0)
    ∷ (codes "$FOREACH i {1,2,3}$$i + 1$;$END$", count (codes "2;3;4;") 23 11 3 1)
    ∷ []

abbrev pub CountedSlips : Type 0
CountedSlips = All (λ (w : List ℕ × Count). Counts w.0 w.1) counted

-- ---- narrow limits

-- how a print ends, and how many steps and names and which paper then stand
pub data Ending : Type 0 where
  finishes : ℕ → ℕ → List ℕ → Ending
  stops : Refusal → ℕ → ℕ → ℕ → List ℕ → Ending

abbrev pub ending_of : Outcome (Unit {0}) → Ending
ending_of (done u s) = finishes s.steps (length s.names) s.paper
ending_of (refused r p s) = stops r p s.steps (length s.names) s.paper

-- what comes under some limits of a text that spells a block without breaking a rule
pub data Ends (text : List ℕ) (L : Limits) : Ending → Type 0 where
  printed_under : (b : Block) → Faultless text (written b Items.none) → Ends text L (ending_of (exec L (block text b) blank))

-- the greatest limits, but for one
abbrev pub steps_at : ℕ → Limits
steps_at n = record greatest { steps = n }

abbrev pub names_at : ℕ → Limits
names_at n = record greatest { names = n }

abbrev pub paper_at : ℕ → Limits
paper_at n = record greatest { paper = n }

-- a loop of 23 steps, which sets a name and prints 6 bytes
abbrev pub three_rounds : List ℕ
three_rounds = codes "$FOREACH i {1,2,3}$$i + 1$;$END$"

abbrev pub narrow : List (List ℕ × Limits × Ending)
narrow =
    (three_rounds, record { steps = 23; names = 1; paper = 6 }, finishes 23 1 (codes "2;3;4;"))
    ∷ (three_rounds, steps_at 0, stops OutOfSteps 0 0 0 [])
    ∷ (three_rounds, steps_at 9, stops OutOfSteps 22 9 1 [])
    ∷ (three_rounds, steps_at 11, stops OutOfSteps 0 11 1 (codes "2;"))
    ∷ (three_rounds, steps_at 22, stops OutOfSteps 26 22 1 (codes "2;3;4"))
    ∷ (three_rounds, names_at 0, stops StoreFull 0 6 0 [])
    ∷ (three_rounds, paper_at 2, stops PaperFull 19 16 1 (codes "2;"))
    ∷ (three_rounds, paper_at 3, stops PaperFull 26 17 1 (codes "2;3"))
    ∷ (codes "$JOINEACH i {1,2} \", \"$$i$$END$", paper_at 2, stops PaperFull 0 8 1 (codes "1,"))
    ∷ (codes "abc", paper_at 2, stops PaperFull 0 1 0 (codes "ab"))
    ∷ (codes "$12345$", paper_at 3, stops PaperFull 0 2 0 (codes "123"))
    ∷ (codes "$a = 1$$b = 2$", names_at 1, stops StoreFull 7 4 1 [])
    ∷ (codes "$a = 1$$a = 2$", names_at 1, finishes 4 1 [])
    ∷ []

abbrev pub NarrowSlips : Type 0
NarrowSlips = All (λ (w : List ℕ × Limits × Ending). Ends w.0 w.1 w.2) narrow

-- the three tables
pub record Examples : Type 0 where
  pub slips : WorkedSlips
  pub counts : CountedSlips
  pub endings : NarrowSlips
