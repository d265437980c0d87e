-- The worked slips, counts and narrow limits, each table by one computation. Assumes nothing.
use Rattle.std.proofs.Common.{◌≡◌, ℕ, true, false, List, [], ◌∷◌, length, map, refl, ap, subst}
use Rattle.std.proofs.lemmas.List.Elements.{All-nil, All-cons}
use Rattle.std.specs.Fmt.{digits}
use Rattle.std.specs.List.{All}
use Rattle.trees.specs.Tree.{Opening, Item, Items, Block, Statement, Arms, written}
use Rattle.trees.specs.Counts.{nodes, nodes_block, need, need_block}
use Rattle.grammar.specs.Grammar.{Template}
use Rattle.grammar.specs.Rules.{refusal_of, Broken, broken, open_blocks, broken_items, broken_rules}
use Rattle.grammar.specs.Machine.{Out, run, reading, accepted, refused}
use Rattle.grammar.proofs.Closed.{exact}
use Rattle.grammar.proofs.Sound.{sound}
use Rattle.effects.specs.Effects.{Limits, State, Outcome, done, exec, state_of}
use Rattle.meaning.specs.Meaning.{expression, block, most_tests}
use Rattle.meaning.specs.Slips.{Examples, Slip, refuses, slip_of, greatest, blank, Gives, unread, printed, worked, WorkedSlips, Count, count_of, Counts, ended, counted, CountedSlips, Ending, ending_of, Ends, printed_under, narrow, NarrowSlips}

-- The block of items, from the last item on. What stands behind the next item is b up to the end of its block, and fs from there: for
-- that block and each around it what closes it, and the block behind that.
abbrev made : Items → Block → List (Arms × Block) → Block
made Items.none b fs = b
made (Items.then ts (Item.piece i j)) b fs = made ts (Block.then (Statement.piece i j) b) fs
made (Items.then ts (Item.dollar p)) b fs = made ts (Block.then (Statement.dollar p) b) fs
made (Items.then ts (Item.show q e)) b fs = made ts (Block.then (Statement.show q e) b) fs
made (Items.then ts (Item.assign q k e)) b fs = made ts (Block.then (Statement.assign q k e) b) fs
made (Items.then ts (Item.end q j)) b fs = made ts Block.nothing ((Arms.close q j, b) ∷ fs)
made (Items.then ts (Item.else q j)) b ((Arms.close q' j', d) ∷ fs) = made ts Block.nothing ((Arms.otherwise q j b q' j', d) ∷ fs)
made (Items.then ts (Item.elif q j c)) b ((r, d) ∷ fs) = made ts Block.nothing ((Arms.elif q j c b r, d) ∷ fs)
made (Items.then ts (Item.opens q j (Opening.if c))) b ((r, d) ∷ fs) = made ts (Block.then (Statement.choice q j c b r) d) fs
made (Items.then ts (Item.opens q j (Opening.while c))) b ((Arms.close q' j', d) ∷ fs) = made ts (Block.then (Statement.while q j c b q' j') d) fs
made (Items.then ts (Item.opens q j (Opening.foreach x y e))) b ((Arms.close q' j', d) ∷ fs) = made ts (Block.then (Statement.foreach q j x y e b q' j') d) fs
made (Items.then ts (Item.opens q j (Opening.joineach x y e t))) b ((Arms.close q' j', d) ∷ fs) = made ts (Block.then (Statement.joineach q j x y e t b q' j') d) fs
made (Items.then ts t) b fs = made ts b fs

-- the block of a reading; of a refusal an empty one
abbrev block_of : Out → Block
block_of (accepted ts) = made ts Block.nothing []
block_of (refused r p) = Block.nothing

abbrev outcome : List ℕ → Block → Outcome (Unit {0})
outcome text b = exec greatest (block text b) blank

-- what holds of a row on which f and g are the same holds of all rows of a table on which they are
rows : {A B : Type 0} (P : A → Type 0) (f g : A → B) → ((a : A) → f a ≡ g a → P a) → (ws : List A) → map f ws ≡ map g ws → All P ws
rows P f g h [] e = All-nil P
rows P f g h (w ∷ ws) e = All-cons P w ws (h w (cc)) (rows P f g h ws (cc))

-- ---- slips

-- the items of a reading without the rules; of a refusal none
abbrev items_of : Out → Items
items_of (accepted ts) = ts
items_of (refused r p) = Items.none

abbrev read : List ℕ → Items
read text = items_of (reading false text)

abbrev faults : List ℕ → List Broken
faults text = broken_rules (read text) (length text)

-- what comes of items that break rules
abbrev shown : List ℕ → Items → List Broken → Slip
shown text ts [] = slip_of (outcome text (made ts Block.nothing []))
shown text ts (f ∷ fs) = refuses (refusal_of f.rule) f.place

-- items that break no rule as their block is written
abbrev again : Items → List Broken → Items
again ts [] = written (made ts Block.nothing []) Items.none
again ts (f ∷ fs) = ts

gives : (text : List ℕ) (ts : Items) (fs : List Broken) → Template text ts → broken_rules ts (length text) ≡ fs → ts ≡ again ts fs → Gives text (shown text ts fs)
gives text ts [] t l same = printed (made ts Block.nothing []) (record { template = subst (Template text) same t; lawful = subst (λ us. broken_rules us (length text) ≡ []) same l })
gives text ts (f ∷ fs) t l same = unread ts f fs t l

abbrev computed : List ℕ × Slip → Out × Items × Slip
computed w = (reading false w.0, read w.0, shown w.0 (read w.0) (faults w.0))

abbrev expected : List ℕ × Slip → Out × Items × Slip
expected w = (accepted (read w.0), again (read w.0) (faults w.0), w.1)

agree : map computed worked ≡ map expected worked
unfolding run open_blocks broken broken_items expression block digits
agree = refl

slips_are : (w : List ℕ × Slip) → computed w ≡ expected w → Gives w.0 w.1
slips_are w e = subst (Gives w.0) (ap (λ x. x.2) e) (gives w.0 (read w.0) (faults w.0) (sound w.0 (read w.0) (ap (λ x. x.0) e)) refl (ap (λ x. x.1) e))

pub worked_slips : WorkedSlips
worked_slips = rows _ computed expected slips_are worked agree

-- ---- counts

abbrev Row : Type 0
Row = Out × Outcome (Unit {0}) × Count

abbrev state : List ℕ → State
state text = state_of (outcome text (block_of (reading true text)))

abbrev computed_count : List ℕ × Count → Row
computed_count w = let b = block_of (reading true w.0) in (reading true w.0, outcome w.0 b, count_of b (state w.0))

abbrev expected_count : List ℕ × Count → Row
expected_count w = let b = block_of (reading true w.0) in (accepted (written b Items.none), done tt (state w.0), w.1)

agree_counts : map computed_count counted ≡ map expected_count counted
unfolding run open_blocks expression block most_tests digits nodes nodes_block need need_block
agree_counts = refl

counts_are : (w : List ℕ × Count) → computed_count w ≡ expected_count w → Counts w.0 w.1
counts_are w e =
    let b = block_of (reading true w.0) in
    subst (Counts w.0) (ap (λ x. x.2) e) (ended b (state w.0) ((exact w.0 (written b Items.none)).1 (ap (λ x. x.0) e)) (ap (λ x. x.1) e))

pub counted_slips : CountedSlips
counted_slips = rows _ computed_count expected_count counts_are counted agree_counts

-- ---- narrow limits

abbrev computed_ending : List ℕ × Limits × Ending → Out × Ending
computed_ending w = let o = reading true w.0 in (o, ending_of (exec w.1 (block w.0 (block_of o)) blank))

abbrev expected_ending : List ℕ × Limits × Ending → Out × Ending
expected_ending w = (accepted (written (block_of (reading true w.0)) Items.none), w.2)

agree_endings : map computed_ending narrow ≡ map expected_ending narrow
unfolding run open_blocks expression block digits
agree_endings = refl

endings_are : (w : List ℕ × Limits × Ending) → computed_ending w ≡ expected_ending w → Ends w.0 w.1 w.2
endings_are w e =
    let b = block_of (reading true w.0) in
    subst (Ends w.0 w.1) (ap (λ x. x.1) e) (printed_under b ((exact w.0 (written b Items.none)).1 (ap (λ x. x.0) e)))

pub narrow_slips : NarrowSlips
narrow_slips = rows _ computed_ending expected_ending endings_are narrow agree_endings

pub examples : Examples
examples = record { slips = worked_slips; counts = counted_slips; endings = narrow_slips }
