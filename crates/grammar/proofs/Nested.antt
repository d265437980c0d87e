-- Items that break no rule 4 are those of just one block. Assumes nothing.
use Rattle.std.proofs.Common.{◌≡◌, ℕ, List, [], ◌∷◌, ◌++◌, sym, refl, ap, ◌∙◌, subst, arith}
use Rattle.trees.specs.declared.Quote.{Quote}
use Rattle.trees.specs.Tree.{Expr, Opening, Item, Items, Block, Statement, Arms, written, written_statement, written_arms}
use Rattle.grammar.specs.Rules.{Broken, Kind, Opened, elsed, ended, open_blocks, in_choice, in_block, broken_item, broken_items, unclosed, broken_rules}

-- the arms of an IF up to the one that is being read: its IF, or the arms before, the last one's block, and its ELIF
data Past : Type 0 where
  first : ℕ → ℕ → Expr → Past
  next : Past → Block → ℕ → ℕ → Expr → Past

-- what stands around the block that is being read: nothing, or what stands around the block around it, that block so far, and the
-- instruction (of an IF its arms up to here, and with an ELSE the block before that and the ELSE)
data Around : Type 0 where
  top : Around
  in_while : Around → Block → ℕ → ℕ → Expr → Around
  in_foreach : Around → Block → ℕ → ℕ → ℕ → ℕ → Expr → Around
  in_joineach : Around → Block → ℕ → ℕ → ℕ → ℕ → Expr → Quote → Around
  in_arm : Around → Block → Past → Around
  in_else : Around → Block → Past → Block → ℕ → ℕ → Around

record State : Type 0 where
  around : Around
  block : Block

-- one block behind another, and a statement behind a block
abbrev joined : Block → Block → Block
joined Block.nothing c = c
joined (Block.then s b) c = Block.then s (joined b c)

abbrev after : Block → Statement → Block
after b s = joined b (Block.then s Block.nothing)

joined_nothing : (b : Block) → joined b Block.nothing ≡ b
joined_nothing Block.nothing = refl
joined_nothing (Block.then s b) = ap (Block.then s) (joined_nothing b)

joined_after : (b c : Block) (s : Statement) → joined (after b s) c ≡ joined b (Block.then s c)
joined_after Block.nothing c s = refl
joined_after (Block.then s' b) c s = ap (Block.then s') (joined_after b c s)

written_after : (b : Block) (s : Statement) (ts : Items) → written (after b s) ts ≡ written_statement s (written b ts)
written_after Block.nothing s ts = refl
written_after (Block.then s' b) s ts = written_after b s (written_statement s' ts)

-- an IF with the block of the arm that is being read, and what follows that
abbrev whole : Past → Block → Arms → Statement
whole (first q j c) b r = Statement.choice q j c b r
whole (next p d q j c) b r = whole p d (Arms.elif q j c b r)

-- the `$` of its IF
abbrev started : Past → ℕ
started (first q j c) = q
started (next p d q j c) = started p

abbrev written_past : Past → Items → Items
written_past (first q j c) ts = Items.then ts (Item.opens q j (Opening.if c))
written_past (next p d q j c) ts = Items.then (written d (written_past p ts)) (Item.elif q j c)

whole_written : (p : Past) (b : Block) (r : Arms) (ts : Items) → written_statement (whole p b r) ts ≡ written_arms r (written b (written_past p ts))
whole_written (first q j c) b r ts = refl
whole_written (next p d q j c) b r ts = whole_written p d (Arms.elif q j c b r) ts

-- the items up to the block that is being read
abbrev written_around : Around → Items
written_around top = Items.none
written_around (in_while a d q j c) = Items.then (written d (written_around a)) (Item.opens q j (Opening.while c))
written_around (in_foreach a d q j x y e) = Items.then (written d (written_around a)) (Item.opens q j (Opening.foreach x y e))
written_around (in_joineach a d q j x y e t) = Items.then (written d (written_around a)) (Item.opens q j (Opening.joineach x y e t))
written_around (in_arm a d p) = written_past p (written d (written_around a))
written_around (in_else a d p c q j) = Items.then (written c (written_past p (written d (written_around a)))) (Item.else q j)

abbrev sofar : State → Items
sofar s = written s.block (written_around s.around)

-- the open blocks, the innermost first
abbrev frames : Around → List Opened
frames top = []
frames (in_while a d q j c) = record { kind = Kind.repeat; place = q } ∷ frames a
frames (in_foreach a d q j x y e) = record { kind = Kind.each; place = q } ∷ frames a
frames (in_joineach a d q j x y e t) = record { kind = Kind.each; place = q } ∷ frames a
frames (in_arm a d p) = record { kind = Kind.choice; place = started p } ∷ frames a
frames (in_else a d p c q j) = record { kind = Kind.chosen; place = started p } ∷ frames a

abbrev opening : Around → Block → ℕ → ℕ → Opening → Around
opening a b q j (Opening.if c) = in_arm a b (first q j c)
opening a b q j (Opening.while c) = in_while a b q j c
opening a b q j (Opening.foreach x y e) = in_foreach a b q j x y e
opening a b q j (Opening.joineach x y e t) = in_joineach a b q j x y e t

abbrev at_elif : Around → Block → ℕ → ℕ → Expr → State
at_elif top b q j c = record { around = top; block = b }
at_elif (in_while a d q' j' c') b q j c = record { around = (in_while a d q' j' c'); block = b }
at_elif (in_foreach a d q' j' x y e) b q j c = record { around = (in_foreach a d q' j' x y e); block = b }
at_elif (in_joineach a d q' j' x y e t) b q j c = record { around = (in_joineach a d q' j' x y e t); block = b }
at_elif (in_arm a d p) b q j c = record { around = in_arm a d (next p b q j c); block = Block.nothing }
at_elif (in_else a d p c' q' j') b q j c = record { around = (in_else a d p c' q' j'); block = b }

abbrev at_else : Around → Block → ℕ → ℕ → State
at_else top b q j = record { around = top; block = b }
at_else (in_while a d q' j' c') b q j = record { around = (in_while a d q' j' c'); block = b }
at_else (in_foreach a d q' j' x y e) b q j = record { around = (in_foreach a d q' j' x y e); block = b }
at_else (in_joineach a d q' j' x y e t) b q j = record { around = (in_joineach a d q' j' x y e t); block = b }
at_else (in_arm a d p) b q j = record { around = in_else a d p b q j; block = Block.nothing }
at_else (in_else a d p c' q' j') b q j = record { around = (in_else a d p c' q' j'); block = b }

abbrev at_end : Around → Block → ℕ → ℕ → State
at_end top b q j = record { around = top; block = b }
at_end (in_while a d q' j' c') b q j = record { around = a; block = after d (Statement.while q' j' c' b q j) }
at_end (in_foreach a d q' j' x y e) b q j = record { around = a; block = after d (Statement.foreach q' j' x y e b q j) }
at_end (in_joineach a d q' j' x y e t) b q j = record { around = a; block = after d (Statement.joineach q' j' x y e t b q j) }
at_end (in_arm a d p) b q j = record { around = a; block = after d (whole p b (Arms.close q j)) }
at_end (in_else a d p c' q' j') b q j = record { around = a; block = after d (whole p c' (Arms.otherwise q' j' b q j)) }

-- the next item; one that breaks rule 4 changes nothing
abbrev grow : State → Item → State
grow s (Item.piece i j) = record { around = s.around; block = after s.block (Statement.piece i j) }
grow s (Item.dollar p) = record { around = s.around; block = after s.block (Statement.dollar p) }
grow s (Item.show q e) = record { around = s.around; block = after s.block (Statement.show q e) }
grow s (Item.assign q k e) = record { around = s.around; block = after s.block (Statement.assign q k e) }
grow s (Item.opens q j h) = record { around = opening s.around s.block q j h; block = Block.nothing }
grow s (Item.elif q j c) = at_elif s.around s.block q j c
grow s (Item.else q j) = at_else s.around s.block q j
grow s (Item.end q j) = at_end s.around s.block q j

-- the items read one after another
abbrev nest : Items → State
nest Items.none = record { around = top; block = Block.nothing }
nest (Items.then ts t) = grow (nest ts) t

-- a block leaves the blocks around it open
ended_elsed : (os : List Opened) → ended (elsed os) ≡ ended os
ended_elsed [] = refl
ended_elsed (o ∷ os) = refl

mutual
  unfolding open_blocks

  pub open_written : (b : Block) (ts : Items) → open_blocks (written b ts) ≡ open_blocks ts
  open_written Block.nothing ts = refl
  open_written (Block.then s b) ts = open_written b (written_statement s ts) ∙ open_statement s ts

  open_statement : (s : Statement) (ts : Items) → open_blocks (written_statement s ts) ≡ open_blocks ts
  open_statement (Statement.piece i j) ts = refl
  open_statement (Statement.dollar p) ts = refl
  open_statement (Statement.show q e) ts = refl
  open_statement (Statement.assign q k e) ts = refl
  open_statement (Statement.choice q j c b r) ts = open_arms r (written b (Items.then ts (Item.opens q j (Opening.if c)))) ∙ ap ended (open_written b (Items.then ts (Item.opens q j (Opening.if c))))
  open_statement (Statement.while q j c b q' j') ts = ap ended (open_written b (Items.then ts (Item.opens q j (Opening.while c))))
  open_statement (Statement.foreach q j x y e b q' j') ts = ap ended (open_written b (Items.then ts (Item.opens q j (Opening.foreach x y e))))
  open_statement (Statement.joineach q j x y e d b q' j') ts = ap ended (open_written b (Items.then ts (Item.opens q j (Opening.joineach x y e d))))

  open_arms : (r : Arms) (ts : Items) → open_blocks (written_arms r ts) ≡ ended (open_blocks ts)
  open_arms (Arms.close q j) ts = refl
  open_arms (Arms.otherwise q j b q' j') ts = ap ended (open_written b (Items.then ts (Item.else q j))) ∙ ended_elsed (open_blocks ts)
  open_arms (Arms.elif q j c b r) ts = open_arms r (written b (Items.then ts (Item.elif q j c))) ∙ ap ended (open_written b (Items.then ts (Item.elif q j c)))

open_past : (p : Past) (ts : Items) → open_blocks (written_past p ts) ≡ record { kind = Kind.choice; place = started p } ∷ open_blocks ts
unfolding open_blocks
open_past (first q j c) ts = refl
open_past (next p d q j c) ts = open_written d (written_past p ts) ∙ open_past p ts

open_around : (a : Around) → open_blocks (written_around a) ≡ frames a
unfolding open_blocks
open_around top = refl
open_around (in_while a d q j c) = ap (λ os. record { kind = Kind.repeat; place = q } ∷ os) (open_written d (written_around a) ∙ open_around a)
open_around (in_foreach a d q j x y e) = ap (λ os. record { kind = Kind.each; place = q } ∷ os) (open_written d (written_around a) ∙ open_around a)
open_around (in_joineach a d q j x y e t) = ap (λ os. record { kind = Kind.each; place = q } ∷ os) (open_written d (written_around a) ∙ open_around a)
open_around (in_arm a d p) = open_past p (written d (written_around a)) ∙ ap (λ os. record { kind = Kind.choice; place = started p } ∷ os) (open_written d (written_around a) ∙ open_around a)
open_around (in_else a d p c q j) = ap elsed (open_written c (written_past p (written d (written_around a))) ∙ open_past p (written d (written_around a)) ∙ ap (λ os. record { kind = Kind.choice; place = started p } ∷ os) (open_written d (written_around a) ∙ open_around a))

open_sofar : (s : State) → open_blocks (sofar s) ≡ frames s.around
open_sofar s = open_written s.block (written_around s.around) ∙ open_around s.around

-- a rule that is broken
something : (x : Broken) (xs ys : List Broken) {A : Type 0} → (x ∷ xs) ++ ys ≡ [] → A
something x xs ys e = absurd (let z : ◌≡◌ {A = ℕ} 0 1 = cc in omega arith)

nothing_left : (xs ys : List Broken) → xs ++ ys ≡ [] → xs ≡ []
nothing_left [] ys e = refl
nothing_left (x ∷ xs) ys e = something x xs ys e

nothing_right : (xs ys : List Broken) → xs ++ ys ≡ [] → ys ≡ []
nothing_right [] ys e = e
nothing_right (x ∷ xs) ys e = something x xs ys e

grow_opening : (a : Around) (b : Block) (q j : ℕ) (h : Opening) → written_around (opening a b q j h) ≡ Items.then (written b (written_around a)) (Item.opens q j h)
grow_opening a b q j (Opening.if c) = refl
grow_opening a b q j (Opening.while c) = refl
grow_opening a b q j (Opening.foreach x y e) = refl
grow_opening a b q j (Opening.joineach x y e t) = refl

grow_elif : (a : Around) (b : Block) (q j : ℕ) (c : Expr) → in_choice (frames a) q j ≡ [] → sofar (at_elif a b q j c) ≡ Items.then (written b (written_around a)) (Item.elif q j c)
grow_elif top b q j c h = something _ [] [] h
grow_elif (in_while a d q' j' c') b q j c h = something _ [] [] h
grow_elif (in_foreach a d q' j' x y e) b q j c h = something _ [] [] h
grow_elif (in_joineach a d q' j' x y e t) b q j c h = something _ [] [] h
grow_elif (in_arm a d p) b q j c h = refl
grow_elif (in_else a d p c' q' j') b q j c h = something _ [] [] h

grow_else : (a : Around) (b : Block) (q j : ℕ) → in_choice (frames a) q j ≡ [] → sofar (at_else a b q j) ≡ Items.then (written b (written_around a)) (Item.else q j)
grow_else top b q j h = something _ [] [] h
grow_else (in_while a d q' j' c') b q j h = something _ [] [] h
grow_else (in_foreach a d q' j' x y e) b q j h = something _ [] [] h
grow_else (in_joineach a d q' j' x y e t) b q j h = something _ [] [] h
grow_else (in_arm a d p) b q j h = refl
grow_else (in_else a d p c' q' j') b q j h = something _ [] [] h

grow_end : (a : Around) (b : Block) (q j : ℕ) → in_block (frames a) q j ≡ [] → sofar (at_end a b q j) ≡ Items.then (written b (written_around a)) (Item.end q j)
grow_end top b q j h = something _ [] [] h
grow_end (in_while a d q' j' c') b q j h = written_after d (Statement.while q' j' c' b q j) (written_around a)
grow_end (in_foreach a d q' j' x y e) b q j h = written_after d (Statement.foreach q' j' x y e b q j) (written_around a)
grow_end (in_joineach a d q' j' x y e t) b q j h = written_after d (Statement.joineach q' j' x y e t b q j) (written_around a)
grow_end (in_arm a d p) b q j h = written_after d (whole p b (Arms.close q j)) (written_around a) ∙ whole_written p b (Arms.close q j) (written d (written_around a))
grow_end (in_else a d p c' q' j') b q j h = written_after d (whole p c' (Arms.otherwise q' j' b q j)) (written_around a) ∙ whole_written p c' (Arms.otherwise q' j' b q j) (written d (written_around a))

grow_right : (s : State) (t : Item) → broken_item (frames s.around) t ≡ [] → sofar (grow s t) ≡ Items.then (sofar s) t
grow_right s (Item.piece i j) h = written_after s.block (Statement.piece i j) (written_around s.around)
grow_right s (Item.dollar p) h = written_after s.block (Statement.dollar p) (written_around s.around)
grow_right s (Item.show q e) h = written_after s.block (Statement.show q e) (written_around s.around)
grow_right s (Item.assign q k e) h = written_after s.block (Statement.assign q k e) (written_around s.around)
grow_right s (Item.opens q j o) h = grow_opening s.around s.block q j o
grow_right s (Item.elif q j c) h = grow_elif s.around s.block q j c (nothing_left _ _ h)
grow_right s (Item.else q j) h = grow_else s.around s.block q j h
grow_right s (Item.end q j) h = grow_end s.around s.block q j h

-- read again, the items are those that were read
nest_right : (ts : Items) → broken_items ts ≡ [] → sofar (nest ts) ≡ ts
unfolding broken_items
nest_right Items.none h = refl
nest_right (Items.then ts t) h =
    let e : sofar (nest ts) ≡ ts = nest_right ts (nothing_left _ _ h) in
    let os : open_blocks ts ≡ frames (nest ts).around = ap open_blocks (sym e) ∙ open_sofar (nest ts) in
    grow_right (nest ts) t (subst (λ o. broken_item o t ≡ []) os (nothing_right (broken_items ts) _ h))
    ∙ ap (λ u. Items.then u t) e

at_top : (a : Around) (n : ℕ) → unclosed (frames a) n ≡ [] → a ≡ top
at_top top n h = refl
at_top (in_while a d q' j' c') n h = something _ [] [] h
at_top (in_foreach a d q' j' x y e) n h = something _ [] [] h
at_top (in_joineach a d q' j' x y e t) n h = something _ [] [] h
at_top (in_arm a d p) n h = something _ [] [] h
at_top (in_else a d p c' q' j') n h = something _ [] [] h

-- items that break no rule are those of a block
pub nested : (ts : Items) (n : ℕ) → broken_rules ts n ≡ [] → (b : Block) × (written b Items.none ≡ ts)
nested ts n h =
    let e : sofar (nest ts) ≡ ts = nest_right ts (nothing_left _ _ h) in
    let os : open_blocks ts ≡ frames (nest ts).around = ap open_blocks (sym e) ∙ open_sofar (nest ts) in
    let t : (nest ts).around ≡ top = at_top (nest ts).around n (subst (λ o. unclosed o n ≡ []) os (nothing_right (broken_items ts) _ h)) in
    ((nest ts).block, ap (λ a. written (nest ts).block (written_around a)) (sym t) ∙ e)

abbrev with_block : State → Block → State
with_block s b = record { around = s.around; block = joined s.block b }

-- the items of a block are read as the block
mutual
  nest_written : (b : Block) (ts : Items) → nest (written b ts) ≡ with_block (nest ts) b
  nest_written Block.nothing ts = λ i. record { around = (nest ts).around; block = sym (joined_nothing (nest ts).block) i }
  nest_written (Block.then s b) ts =
      nest_written b (written_statement s ts)
      ∙ ap (λ u. with_block u b) (nest_statement s ts)
      ∙ (λ i. record { around = (nest ts).around; block = joined_after (nest ts).block b s i })

  nest_statement : (s : Statement) (ts : Items) → nest (written_statement s ts) ≡ record { around = (nest ts).around; block = after (nest ts).block s }
  nest_statement (Statement.piece i j) ts = refl
  nest_statement (Statement.dollar p) ts = refl
  nest_statement (Statement.show q e) ts = refl
  nest_statement (Statement.assign q k e) ts = refl
  nest_statement (Statement.choice q j c b r) ts = nest_arms r (written b (Items.then ts (Item.opens q j (Opening.if c)))) (nest ts).around (nest ts).block (first q j c) b (nest_written b (Items.then ts (Item.opens q j (Opening.if c))))
  nest_statement (Statement.while q j c b q' j') ts = ap (λ u. grow u (Item.end q' j')) (nest_written b (Items.then ts (Item.opens q j (Opening.while c))))
  nest_statement (Statement.foreach q j x y e b q' j') ts = ap (λ u. grow u (Item.end q' j')) (nest_written b (Items.then ts (Item.opens q j (Opening.foreach x y e))))
  nest_statement (Statement.joineach q j x y e d b q' j') ts = ap (λ u. grow u (Item.end q' j')) (nest_written b (Items.then ts (Item.opens q j (Opening.joineach x y e d))))

  nest_arms : (r : Arms) (ts : Items) (a : Around) (d : Block) (p : Past) (b : Block) → nest ts ≡ record { around = in_arm a d p; block = b } → nest (written_arms r ts) ≡ record { around = a; block = after d (whole p b r) }
  nest_arms (Arms.close q j) ts a d p b e = ap (λ u. grow u (Item.end q j)) e
  nest_arms (Arms.otherwise q j c q' j') ts a d p b e = ap (λ u. grow u (Item.end q' j')) (nest_written c (Items.then ts (Item.else q j)) ∙ ap (λ u. with_block (grow u (Item.else q j)) c) e)
  nest_arms (Arms.elif q j c b' r) ts a d p b e = nest_arms r (written b' (Items.then ts (Item.elif q j c))) a d (next p b q j c) b' (nest_written b' (Items.then ts (Item.elif q j c)) ∙ ap (λ u. with_block (grow u (Item.elif q j c)) b') e)

-- the items of a block are those of no other block
pub one_block : (b b' : Block) → written b Items.none ≡ written b' Items.none → b ≡ b'
one_block b b' e = sym (ap (λ s. s.block) (nest_written b Items.none)) ∙ ap (λ ts. (nest ts).block) e ∙ ap (λ s. s.block) (nest_written b' Items.none)
