-- Outside of instructions, and a whole template. Assumes nothing.
use Rattle.std.proofs.Common.{◌≡◌, ℕ, ◌+◌, ◌<◌, ◌≤◌, Bool, true, false, cond, ltb, List, [], ◌∷◌, ◌++◌, length, map, get_or, IsErrAnd, Some, None, Ok, Err, Option, Result, Bor, sym, refl, ap, ◌∙◌, subst, arith}
use Rattle.std.proofs.lemmas.Bool.Decides.{nat_tests}
use Rattle.refusals.specs.declared.Refusal.TheVariants.{UnexpectedByte}
use Rattle.tokens.specs.declared.byte.Start.TheVariants as at
use Rattle.tokens.specs.declared.byte.Class.{Class}
use Rattle.tokens.specs.declared.byte.Class.TheVariants as is
use Rattle.tokens.specs.Bytes.{start, class}
use Rattle.trees.specs.declared.Node.TheVariants as node
use Rattle.trees.specs.Tree.{Item, Items, from_to}
use Rattle.trees.specs.Laid.{laid}
use Rattle.grammar.specs.Rules.{open_blocks, unclosed}
use Rattle.grammar.specs.Machine.{Stack, Head, Move, stop, go, line, plain, comment, dollar_at_line, dollar, want, row, step, wants, piece, finish, finished, reading, onward, Out, accepted, refused, judged}
use Rattle.grammar.proofs.Moves.{moves, alike, at_end}
use Rattle.reader.specs.declared.block.Open.{Open}
use Rattle.reader.specs.declared.cursor.Cursor.{Cursor}
use denote.Enum.Bare.{sameb}
use Rattle.reader.specs.contracts.cursor.State.{the_type}
use Rattle.reader.specs.declared.cursor.State.{State}
use Rattle.reader.specs.declared.cursor.State.TheVariants.{Line, Plain, Comment, Instruction, Text, DollarAtLine, Dollar, Escape}
use Rattle.refusals.specs.declared.fault.Fault.{Fault}
use Rattle.reader.specs.declared.instruction.Reader.{Reader}
use Rattle.reader.specs.declared.Reading.{Reading}
use Rattle.reader.specs.Tables.{Table, pushed, Holds}
use Rattle.reader.specs.States.{moved, fault, Stepped}
use Rattle.reader.specs.Kinds.{opened_of, mark_of}
use Rattle.reader.specs.Blocks.{Standing, Looped, Armed, Kept, Instruction as Instructs, opening_out}
use Rattle.reader.specs.Outside.{pieced, table_after, from_after, Emitted, outside, Sparse, Outer, Advances, Advanced, Fresh, Ended, table_end, may_end, unclosed_in, Reads}
use Rattle.reader.proofs.Leaves.{as_refused, by_break}
use Rattle.reader.proofs.Blocks.{standing_on, kept_on}
use Rattle.reader.proofs.Tabling.{grew_one, holds_blank}

-- what comes to the items
abbrev pub items_after : State → Class → ℕ → ℕ → Items → Items
items_after Plain cl i p ts = row (piece i p ts) (piece i p ts) ts (piece i p ts) ts ts ts ts cl
items_after DollarAtLine cl i p ts = row ts ts ts (Items.then ts (Item.dollar i)) ts ts ts ts cl
items_after Dollar cl i p ts = row ts ts ts (Items.then ts (Item.dollar i)) ts ts ts ts cl
items_after s cl i p ts = ts

-- an instruction opens at the byte b, or the machine goes on outside
abbrev Opened : State → ℕ → ℕ → ℕ → Items → Move → Type 0
Opened Instruction i p b ts v = v ≡ wants (start b) b (Stack.top i Head.show ts) p
Opened s i p b ts v = v ≡ go [] (outside s i ts)

-- how the machine moves outside of instructions; cl is the class of b
abbrev pub steps : State → ℕ → Items → ℕ → ℕ → Class → Move
steps Line i ts p b cl = let other = go [] (plain p ts) in row (go [] (line ts)) (go [] (plain (p + 1) ts)) (go [] (line ts)) (go [] (dollar_at_line p ts)) other other other other cl
steps Plain i ts p b cl = let on = go [] (plain i ts) in row (go [] (line (piece i p ts))) (go [] (plain (p + 1) (piece i p ts))) on (go [] (dollar p (piece i p ts))) on on on on cl
steps Comment i ts p b cl = let on = go [] (comment ts) in row (go [] (line ts)) on on on on on on on cl
steps DollarAtLine i ts p b cl = let opens = wants (start b) b (Stack.top i Head.show ts) p in row opens opens (go [] (comment ts)) (go [] (plain (p + 1) (Items.then ts (Item.dollar i)))) opens opens opens opens cl
steps Dollar i ts p b cl = let opens = wants (start b) b (Stack.top i Head.show ts) p in row opens opens opens (go [] (plain (p + 1) (Items.then ts (Item.dollar i)))) opens opens opens opens cl
steps s i ts p b cl = stop

abbrev Moves_to : Option State → State → Class → ℕ → Items → ℕ → ℕ → Type 0
Moves_to (Some s') s cl i ts p b = Opened s' (from_after s cl i p) p b (items_after s cl i p ts) (steps s i ts p b cl)
Moves_to None s cl i ts p b = class b ≡ cl → steps s i ts p b cl ≡ stop

-- bytes that begin no operand
newline_stops : (b : ℕ) → class b ≡ is.Newline → start b ≡ at.Other
newline_stops b e = grind (arith, nat_tests)

return_stops : (b : ℕ) → class b ≡ is.Return → start b ≡ at.Other
return_stops b e = grind (arith, nat_tests)

backslash_stops : (b : ℕ) → class b ≡ is.Backslash → start b ≡ at.Other
backslash_stops b e = grind (arith, nat_tests)

-- the state goes where the machine goes
outer_moves : (s : State) (n i' p' : ℕ) → Sparse s i' p' n → (cl : Class) (i : ℕ) (ts : Items) (p b : ℕ) → Moves_to (moved s cl) s cl i ts p b
outer_moves Instruction n i' p' h cl i ts p b = absurd h
outer_moves Text n i' p' h cl i ts p b = absurd h
outer_moves Escape n i' p' h cl i ts p b = absurd h
outer_moves DollarAtLine n i' p' h is.Newline i ts p b = λ e. ap (λ s. wants s b (Stack.top i Head.show ts) p) (newline_stops b e)
outer_moves DollarAtLine n i' p' h is.Return i ts p b = λ e. ap (λ s. wants s b (Stack.top i Head.show ts) p) (return_stops b e)
outer_moves DollarAtLine n i' p' h is.Backslash i ts p b = λ e. ap (λ s. wants s b (Stack.top i Head.show ts) p) (backslash_stops b e)
outer_moves Dollar n i' p' h is.Newline i ts p b = λ e. ap (λ s. wants s b (Stack.top i Head.show ts) p) (newline_stops b e)
outer_moves Dollar n i' p' h is.Return i ts p b = λ e. ap (λ s. wants s b (Stack.top i Head.show ts) p) (return_stops b e)
outer_moves Dollar n i' p' h is.Backslash i ts p b = λ e. ap (λ s. wants s b (Stack.top i Head.show ts) p) (backslash_stops b e)
outer_moves Line n i' p' h is.Newline i ts p b = refl
outer_moves Plain n i' p' h is.Newline i ts p b = refl
outer_moves Comment n i' p' h is.Newline i ts p b = refl
outer_moves s n i' p' h cl i ts p b = refl

steps_are : (s : State) (n i' p' : ℕ) → Sparse s i' p' n → (i : ℕ) (ts : Items) (p b : ℕ) → step (outside s i ts) p b ≡ steps s i ts p b (class b)
steps_are s n i' p' h i ts p b = grind arith

-- an instruction opens: nothing comes to the table, and its `$` is behind
record Opening (s : State) (cl : Class) (i : ℕ) (ts : Items) (p b : ℕ) (t : Table) : Type 0 where
  opens : steps s i ts p b cl ≡ wants (start b) b (Stack.top i Head.show ts) p
  ends : finish (outside s i ts) p ≡ None
  table : table_after s cl i p t ≡ t
  «from» : from_after s cl i p ≡ i
  behind : i + 1 ≡ p
  few : t.len ≤ i

opens_at : (s : State) (cl : Class) (i : ℕ) (ts : Items) (p b : ℕ) (t : Table) → Sparse s i p t.len → moved s cl ≡ Some Instruction → Opening s cl i ts p b t
opens_at DollarAtLine is.Quote i ts p b t h e = record { opens = refl; ends = refl; table = refl; «from» = refl; behind = h.0; few = h.1 }
opens_at DollarAtLine is.Escaped i ts p b t h e = record { opens = refl; ends = refl; table = refl; «from» = refl; behind = h.0; few = h.1 }
opens_at DollarAtLine is.Other i ts p b t h e = record { opens = refl; ends = refl; table = refl; «from» = refl; behind = h.0; few = h.1 }
opens_at Dollar is.Blank i ts p b t h e = record { opens = refl; ends = refl; table = refl; «from» = refl; behind = h.0; few = h.1 }
opens_at Dollar is.Quote i ts p b t h e = record { opens = refl; ends = refl; table = refl; «from» = refl; behind = h.0; few = h.1 }
opens_at Dollar is.Escaped i ts p b t h e = record { opens = refl; ends = refl; table = refl; «from» = refl; behind = h.0; few = h.1 }
opens_at Dollar is.Other i ts p b t h e = record { opens = refl; ends = refl; table = refl; «from» = refl; behind = h.0; few = h.1 }
opens_at Instruction cl i ts p b t h e = absurd h
opens_at Text cl i ts p b t h e = absurd h
opens_at Escape cl i ts p b t h e = absurd h
opens_at Line is.Newline i ts p b t h e = absurd (cc)
opens_at Plain is.Newline i ts p b t h e = absurd (cc)
opens_at Comment is.Newline i ts p b t h e = absurd (cc)
opens_at s cl i ts p b t h e = absurd (cc)

-- a piece of plain text ends
pieced_few : (t : Table) (i p : ℕ) → i ≤ p → t.len ≤ i → (pieced t i p).len ≤ p
pieced_few t i p le few = grind (arith, nat_tests)

abbrev Sparse_to : Option State → State → Class → ℕ → ℕ → Table → Type 0
Sparse_to (Some Instruction) s cl i p t = Unit {0}
Sparse_to (Some s') s cl i p t = Sparse s' (from_after s cl i p) (p + 1) (table_after s cl i p t).len
Sparse_to None s cl i p t = Unit {0}

sparse_to : (s : State) (cl : Class) (i p : ℕ) (t : Table) → Sparse s i p t.len → Sparse_to (moved s cl) s cl i p t
sparse_to Instruction cl i p t h = absurd h
sparse_to Text cl i p t h = absurd h
sparse_to Escape cl i p t h = absurd h
sparse_to Plain is.Newline i p t h = (omega arith, omega (arith, pieced_few t i p h.0 h.1))
sparse_to Plain is.Return i p t h = (omega arith, omega (arith, pieced_few t i p h.0 h.1))
sparse_to Plain is.Dollar i p t h = (omega arith, omega (arith, pieced_few t i p h.0 h.1))
sparse_to DollarAtLine is.Blank i p t h = (omega arith, omega arith)
sparse_to DollarAtLine is.Dollar i p t h = (omega arith, omega arith)
sparse_to DollarAtLine cl i p t h = tt
sparse_to Dollar is.Dollar i p t h = (omega arith, omega arith)
sparse_to Dollar cl i p t h = tt
sparse_to Line is.Newline i p t h = (omega arith, omega arith)
sparse_to Comment is.Newline i p t h = (omega arith, omega arith)
sparse_to s cl i p t h = (omega arith, omega arith)

-- what holds of the table and the items holds of them after a byte
after : (P : Table → Items → Type 0) (i p : ℕ) (t : Table) (ts : Items) → P t ts → P (pieced t i p) (piece i p ts) → P (pushed t (node.Dollar i)) (Items.then ts (Item.dollar i)) → (s : State) (cl : Class) → P (table_after s cl i p t) (items_after s cl i p ts)
after P i p t ts h x y Plain is.Newline = x
after P i p t ts h x y Plain is.Return = x
after P i p t ts h x y Plain is.Dollar = x
after P i p t ts h x y DollarAtLine is.Dollar = y
after P i p t ts h x y Dollar is.Dollar = y
after P i p t ts h x y s cl = h

-- the table only grows, and no more of its nodes count than there are
record Larger (t t' : Table) : Type 0 where
  more : t.len ≤ t'.len
  fewer : t.nodes ≤ t.len → t'.nodes ≤ t'.len

larger_piece : (t : Table) (i p : ℕ) → Larger t (pieced t i p)
larger_piece t i p = record { more = grind arith; fewer = λ h. grind arith }

larger_after : (s : State) (cl : Class) (i p : ℕ) (t : Table) → Larger t (table_after s cl i p t)
larger_after s cl i p t = after (λ t' ts. Larger t t') i p t Items.none (record { more = omega arith; fewer = λ h. h }) (larger_piece t i p) (record { more = omega arith; fewer = λ h. omega arith }) s cl

-- a reader with the table t and what else r has, has read the items ts
abbrev Keeps : Reader → List Open → Table → Items → Type 0
Keeps r bs t ts = (r' : Reader) → r'.cursor.table ≡ t → r'.stack ≡ r.stack → r'.loops ≡ r.loops → Kept r' bs ts

keeps_on : (r : Reader) (bs : List Open) (ts : Items) → Kept r bs ts → Keeps r bs r.cursor.table ts
keeps_on r bs ts k r' table stack lp = kept_on r r' bs ts table stack lp k

keeps_piece : (r : Reader) (bs : List Open) (ts : Items) (i p : ℕ) → Kept r bs ts → Keeps r bs (pieced r.cursor.table i p) (piece i p ts)
unfolding laid open_blocks
keeps_piece r bs ts i p k = by (ltb i p)
  where
    by : (b : Bool) → Keeps r bs (cond b (pushed r.cursor.table (node.Piece (from_to i p))) r.cursor.table) (cond b (Items.then ts (Item.piece i p)) ts)
    by true r' table stack lp = record { holds = subst (λ t. Holds t ((laid ts).nodes ++ node.Piece (from_to i p) ∷ [])) (sym table) ((grew_one r.cursor.table (node.Piece (from_to i p))).holds (laid ts).nodes k.holds); marks = k.marks; opened = k.opened; stack = stack ∙ k.stack; around = lp ∙ k.around }
    by false r' table stack lp = kept_on r r' bs ts table stack lp k

keeps_dollar : (r : Reader) (bs : List Open) (ts : Items) (i : ℕ) → Kept r bs ts → Keeps r bs (pushed r.cursor.table (node.Dollar i)) (Items.then ts (Item.dollar i))
unfolding laid open_blocks
keeps_dollar r bs ts i k r' table stack lp = record { holds = subst (λ t. Holds t ((laid ts).nodes ++ node.Dollar i ∷ [])) (sym table) ((grew_one r.cursor.table (node.Dollar i)).holds (laid ts).nodes k.holds); marks = k.marks; opened = k.opened; stack = stack ∙ k.stack; around = lp ∙ k.around }

keeps_after : (r : Reader) (bs : List Open) (s : State) (cl : Class) (i p : ℕ) (ts : Items) → Kept r bs ts → Keeps r bs (table_after s cl i p r.cursor.table) (items_after s cl i p ts)
keeps_after r bs s cl i p ts k = after (Keeps r bs) i p r.cursor.table ts (keeps_on r bs ts k) (keeps_piece r bs ts i p k) (keeps_dollar r bs ts i k) s cl

-- a byte outside of instructions: refused, or at which no instruction opens, or one opens
module _ (text : List ℕ) (s : State) (i p : ℕ) (t : Table) (h : Sparse s i p t.len) (lt : p < length text) where
  abbrev here : ℕ
  here = get_or text p 0

  outer_stops : moved s (class here) ≡ None → (ts : Items) → onward true text (outside s i ts) p ≡ refused UnexpectedByte p
  outer_stops e ts = moves true text (outside s i ts) p stop lt (steps_are s t.len i p h i ts p here ∙ subst (λ o. Moves_to o s (class here) i ts p here) e (outer_moves s t.len i p h (class here) i ts p here) refl)

  outer_opens : moved s (class here) ≡ Some Instruction → (ts : Items) → onward true text (outside s i ts) p ≡ onward true text (want (Stack.top i Head.show ts)) p
  outer_opens e ts =
      let o : Opening s (class here) i ts p here t = opens_at s (class here) i ts p here t h e in
      alike true text (outside s i ts) (want (Stack.top i Head.show ts)) p (λ lt. steps_are s t.len i p h i ts p here ∙ o.opens) o.ends

  outer_on : (s' : State) → (s' ≡ Instruction → ⊥) → moved s (class here) ≡ Some s' → (ts : Items) → onward true text (outside s i ts) p ≡ onward true text (outside s' (from_after s (class here) i p) (items_after s (class here) i p ts)) (p + 1)
  outer_on s' ne e ts = moves true text (outside s i ts) p (go [] (outside s' (from_after s (class here) i p) (items_after s (class here) i p ts))) lt (steps_are s t.len i p h i ts p here ∙ by s' ne (subst (λ o. Moves_to o s (class here) i ts p here) e (outer_moves s t.len i p h (class here) i ts p here)))
    where
      by : (s' : State) → (s' ≡ Instruction → ⊥) → Moves_to (Some s') s (class here) i ts p here → steps s i ts p here (class here) ≡ go [] (outside s' (from_after s (class here) i p) (items_after s (class here) i p ts))
      by Instruction ne a = absurd (ne refl)
      by s ne a = a

  outer_sparse : (s' : State) → (s' ≡ Instruction → ⊥) → moved s (class here) ≡ Some s' → Sparse s' (from_after s (class here) i p) (p + 1) (table_after s (class here) i p t).len
  outer_sparse s' ne e = by s' ne (subst (λ o. Sparse_to o s (class here) i p t) e (sparse_to s (class here) i p t h))
    where
      by : (s' : State) → (s' ≡ Instruction → ⊥) → Sparse_to (Some s') s (class here) i p t → Sparse s' (from_after s (class here) i p) (p + 1) (table_after s (class here) i p t).len
      by Instruction ne a = absurd (ne refl)
      by s ne a = a

-- the open piece, or the `$`, begins behind the cursor, and no more nodes than bytes are there
pub sparse_within : (s : State) (i p n : ℕ) → Sparse s i p n → (i ≤ p) × (n ≤ p)
sparse_within s i p n h = (grind arith, grind arith)

-- what comes out of a `?`
pub advance_breaks : (r : Reader) (bs : List Open) (o : Result (Unit {0}) Fault) (f : Fault) (r' : Reader) (bs' : List Open) → IsErrAnd o (λ y. y ≡ f) → Advanced r bs (Err f) r' bs' → Advanced r bs o r' bs'
advance_breaks r bs o f r' bs' e h = by_break (λ o. Advanced r bs o r' bs') o f e h

-- a byte that the machine refuses
pub stops : (r r₁ : Reader) (bs : List Open) (cl : Class) (f : Fault) (c₂ : Cursor) → Outer r bs → r.cursor.pos < length r.cursor.text.now → cl ≡ class (get_or r.cursor.text.now r.cursor.pos 0) → Emitted r cl r₁ → Stepped r₁.cursor cl (Err f) c₂ → (ts : Items) → Kept r bs ts → onward true r.cursor.text.now (outside r.cursor.state r.«from» ts) r.cursor.pos ≡ refused f.refusal f.place
stops r r₁ bs cl f c₂ outer lt is e st ts k =
    let no : moved r.cursor.state (class (get_or r.cursor.text.now r.cursor.pos 0)) ≡ None = (λ j. moved (sym e.state j) (sym is j)) ∙ st.0 in
    outer_stops r.cursor.text.now r.cursor.state r.«from» r.cursor.pos r.cursor.table outer.sparse lt no ts
    ∙ as_refused f UnexpectedByte r.cursor.pos (st.1 ∙ ap (fault UnexpectedByte) e.pos)

-- an instruction begins behind its `$`
pub record Begins (r : Reader) (bs : List Open) (r₂ : Reader) (bs₂ : List Open) : Type 0 where
  pub text : r₂.cursor.text ≡ r.cursor.text
  pub pos : r₂.cursor.pos ≡ r.cursor.pos
  pub kept : (ts : Items) → Kept r bs ts → Kept r₂ bs₂ ts
  pub out : (ts : Items) → onward true r.cursor.text.now (outside r.cursor.state r.«from» ts) r.cursor.pos ≡ opening_out r₂.cursor.text.now r₂.cursor.pos r₂.«from» ts

pub begins : (r r₁ r₂ : Reader) (cl : Class) (u : Unit {0}) → Outer r r.blocks.items → r.cursor.pos < length r.cursor.text.now → cl ≡ class (get_or r.cursor.text.now r.cursor.pos 0) → Emitted r cl r₁ → Stepped r₁.cursor cl (Ok u) r₂.cursor → r₂.cursor.state ≡ Instruction → r₂.«from» ≡ r₁.«from» → r₂.stack ≡ r₁.stack → r₂.loops ≡ r₁.loops → Begins r r.blocks.items r₂ r₁.blocks.items
begins r r₁ r₂ cl u outer lt is e st inward from₂ stack₂ loops₂ =
    let text : List ℕ = r.cursor.text.now in
    let to : moved r.cursor.state (class (get_or text r.cursor.pos 0)) ≡ Some Instruction = (λ j. moved (sym e.state j) (sym is j)) ∙ st.0 ∙ ap Some inward in
    let o : Opening r.cursor.state (class (get_or text r.cursor.pos 0)) r.«from» Items.none r.cursor.pos (get_or text r.cursor.pos 0) r.cursor.table = opens_at r.cursor.state (class (get_or text r.cursor.pos 0)) r.«from» Items.none r.cursor.pos (get_or text r.cursor.pos 0) r.cursor.table outer.sparse to in
    let same_text : r₂.cursor.text ≡ r.cursor.text = st.1.text ∙ e.text in
    let same_pos : r₂.cursor.pos ≡ r.cursor.pos = st.1.pos ∙ e.pos in
    let same_from : r₂.«from» ≡ r.«from» = from₂ ∙ e.«from» ∙ (λ j. from_after r.cursor.state (is j) r.«from» r.cursor.pos) ∙ o.«from» in
    let same_table : r₂.cursor.table ≡ r.cursor.table = st.1.table ∙ e.table ∙ (λ j. table_after r.cursor.state (is j) r.«from» r.cursor.pos r.cursor.table) ∙ o.table in
    record {
      text = same_text;
      pos = same_pos;
      kept = λ ts k. subst (λ bs. Kept r₂ bs ts) (sym e.blocks) (kept_on r r₂ r.blocks.items ts same_table (stack₂ ∙ e.stack) (loops₂ ∙ e.loops) k);
      out = λ ts.
          outer_opens text r.cursor.state r.«from» r.cursor.pos r.cursor.table outer.sparse lt to ts
          ∙ λ j. onward true (sym same_text j).now (want (Stack.top (sym same_from j) Head.show ts)) (sym same_pos j);
    }

-- the instruction is refused
pub instruction_stops : (r r₂ : Reader) (bs bs₂ : List Open) (f : Fault) → Begins r bs r₂ bs₂ → ((ts : Items) → Kept r₂ bs₂ ts → opening_out r₂.cursor.text.now r₂.cursor.pos r₂.«from» ts ≡ refused f.refusal f.place) → (ts : Items) → Kept r bs ts → onward true r.cursor.text.now (outside r.cursor.state r.«from» ts) r.cursor.pos ≡ refused f.refusal f.place
instruction_stops r r₂ bs bs₂ f b a ts k = b.out ts ∙ a ts (b.kept ts k)

-- the instruction is read, and plain text follows
pub instruction_read : (r r₂ r₃ r' : Reader) (bs bs₂ bs₃ : List Open) → Begins r bs r₂ bs₂ → Instructs (opening_out r₂.cursor.text.now r₂.cursor.pos) r₂ bs₂ r₃ bs₃ → r'.cursor ≡ r₃.cursor → r'.«from» ≡ r₃.cursor.pos → r'.stack ≡ r₃.stack → r'.loops ≡ r₃.loops → Advances r bs r' bs₃
instruction_read r r₂ r₃ r' bs bs₂ bs₃ b a same from' stack' loops' =
    let state' : r'.cursor.state ≡ Plain = ap (λ (c : Cursor). c.state) same ∙ a.outward in
    let pos' : r'.cursor.pos ≡ r₃.cursor.pos = ap (λ (c : Cursor). c.pos) same in
    let table' : r'.cursor.table ≡ r₃.cursor.table = ap (λ (c : Cursor). c.table) same in
    let text' : r'.cursor.text ≡ r.cursor.text = ap (λ (c : Cursor). c.text) same ∙ a.text ∙ b.text in
    record {
      text = text';
      outer = record {
        sparse = subst (λ s. Sparse s r'.«from» r'.cursor.pos r'.cursor.table.len) (sym state') (omega (arith, from', pos'), omega (arith, from', ap (λ (t : Table). t.len) table', a.few));
        fewer = subst (λ (t : Table). t.nodes ≤ t.len) (sym table') a.fewer;
        standing = standing_on r₃ r' bs₃ loops' (omega (arith, ap (λ (t : Table). t.len) table')) a.standing;
      };
      onwards = omega (arith, a.onwards, b.pos, pos');
      reads = λ ts k.
          let x = a.reads ts (b.kept ts k) in (
            Items.then ts x.0,
            kept_on r₃ r' bs₃ (Items.then ts x.0) table' stack' loops' x.1,
            b.out ts ∙ x.2 ∙ (λ j. onward true (b.text j).now (plain (sym from' j) (Items.then ts x.0)) (sym pos' j)) ∙ λ j. onward true r.cursor.text.now (outside (sym state' j) r'.«from» (Items.then ts x.0)) r'.cursor.pos,
          );
    }

-- the reader a byte further on
pub record Further (r : Reader) (c : Cursor) (r' : Reader) : Type 0 where
  pub text : r'.cursor.text ≡ c.text
  pub state : r'.cursor.state ≡ c.state
  pub pos : r'.cursor.pos ≡ c.pos + 1
  pub table : r'.cursor.table ≡ c.table
  pub «from» : r'.«from» ≡ r.«from»
  pub stack : r'.stack ≡ r.stack
  pub loops : r'.loops ≡ r.loops

-- a byte at which no instruction opens
pub passes : (r r₁ r' : Reader) (c₂ : Cursor) (cl : Class) (u : Unit {0}) → Outer r r.blocks.items → r.cursor.pos < length r.cursor.text.now → cl ≡ class (get_or r.cursor.text.now r.cursor.pos 0) → Emitted r cl r₁ → Stepped r₁.cursor cl (Ok u) c₂ → (c₂.state ≡ Instruction → ⊥) → Further r₁ c₂ r' → Advances r r.blocks.items r' r₁.blocks.items
passes r r₁ r' c₂ cl u outer lt is e st ne on =
    let text : List ℕ = r.cursor.text.now in
    let i : ℕ = r.«from» in
    let p : ℕ = r.cursor.pos in
    let s : State = r.cursor.state in
    let b : ℕ = get_or text p 0 in
    let to : moved s (class b) ≡ Some c₂.state = (λ j. moved (sym e.state j) (sym is j)) ∙ st.0 in
    let text' : r'.cursor.text ≡ r.cursor.text = on.text ∙ st.1.text ∙ e.text in
    let pos' : r'.cursor.pos ≡ p + 1 = on.pos ∙ ap (λ q. q + 1) (st.1.pos ∙ e.pos) in
    let from' : r'.«from» ≡ from_after s (class b) i p = on.«from» ∙ e.«from» ∙ λ j. from_after s (is j) i p in
    let table' : r'.cursor.table ≡ table_after s (class b) i p r.cursor.table = on.table ∙ st.1.table ∙ e.table ∙ λ j. table_after s (is j) i p r.cursor.table in
    let larger : Larger r.cursor.table (table_after s (class b) i p r.cursor.table) = larger_after s (class b) i p r.cursor.table in
    record {
      text = text';
      outer = record {
        sparse = subst (λ (x : State × ℕ × ℕ × Table). Sparse x.0 x.1 x.2 x.3.len) (λ j. (sym on.state j, sym from' j, sym pos' j, sym table' j)) (outer_sparse text s i p r.cursor.table outer.sparse lt c₂.state ne to);
        fewer = subst (λ (t : Table). t.nodes ≤ t.len) (sym table') (larger.fewer outer.fewer);
        standing = subst (Standing r') (sym e.blocks) (standing_on r r' r.blocks.items (on.loops ∙ e.loops) (omega (arith, larger.more, ap (λ (t : Table). t.len) table')) outer.standing);
      };
      onwards = omega (arith, pos');
      reads = λ ts k. (
        items_after s (class b) i p ts,
        subst (λ bs. Kept r' bs (items_after s (class b) i p ts)) (sym e.blocks) (keeps_after r r.blocks.items s (class b) i p ts k r' table' (on.stack ∙ e.stack) (on.loops ∙ e.loops)),
        outer_on text s i p r.cursor.table outer.sparse lt c₂.state ne to ts ∙ λ j. onward true text (outside (sym on.state j) (sym from' j) (items_after s (class b) i p ts)) (sym pos' j),
      );
    }

-- a test of the state
pub in_instruction : (s : State) → true ≡ sameb the_type s Instruction → s ≡ Instruction
in_instruction s e = grind arith

pub not_instruction : (s : State) → false ≡ sameb the_type s Instruction → s ≡ Instruction → ⊥
not_instruction s e is = cc (e ∙ ap (λ s. sameb the_type s Instruction) is)

-- the reading of a text so far
pub record Sofar (text : List ℕ) (r : Reader) : Type 0 where
  pub same : r.cursor.text.now ≡ text
  pub outer : Outer r r.blocks.items
  pub items : Items
  pub kept : Kept r r.blocks.items items
  pub runs : reading true text ≡ onward true text (outside r.cursor.state r.«from» items) r.cursor.pos

pub sofar_none : (text : List ℕ) (r : Reader) → Fresh text r → Sofar text r
unfolding laid open_blocks
sofar_none text r f = record {
  same = f.text;
  outer = record {
    sparse = subst (λ s. Sparse s r.«from» r.cursor.pos r.cursor.table.len) (sym f.state) (omega (arith, f.«from»), omega (arith, ap (λ (t : Table). t.len) f.table));
    fewer = omega (arith, ap (λ (t : Table). t.len) f.table, ap (λ (t : Table). t.nodes) f.table);
    standing = record {
      looped = subst (Looped r.loops) (sym f.blocks) f.loops;
      armed = subst (Armed r.cursor.table.len) (sym f.blocks) tt;
      few = omega (arith, ap length f.blocks);
    };
  };
  items = Items.none;
  kept = record {
    holds = subst (λ t. Holds t []) (sym f.table) holds_blank;
    marks = ap (map mark_of) f.blocks;
    opened = ap (map opened_of) f.blocks;
    stack = f.stack;
    around = f.loops;
  };
  runs = λ j. onward true text (outside (sym f.state j) r.«from» Items.none) (sym f.pos j);
}

pub sofar_more : (text : List ℕ) (r r' : Reader) → Sofar text r → Advances r r.blocks.items r' r'.blocks.items → Sofar text r'
sofar_more text r r' a h =
    let x = h.reads a.items a.kept in
    record {
      same = ap (λ (t : Bor (List ℕ)). t.now) h.text ∙ a.same;
      outer = h.outer;
      items = x.0;
      kept = x.1;
      runs = a.runs ∙ subst (λ w. onward true w (outside r.cursor.state r.«from» a.items) r.cursor.pos ≡ onward true w (outside r'.cursor.state r'.«from» x.0) r'.cursor.pos) a.same x.2;
    }

-- the items at a template's end
abbrev pub items_end : State → ℕ → ℕ → Items → Items
items_end Plain i p ts = piece i p ts
items_end s i p ts = ts

keeps_end : (r : Reader) (bs : List Open) (s : State) (i p : ℕ) (ts : Items) → Kept r bs ts → Keeps r bs (table_end s i p r.cursor.table) (items_end s i p ts)
keeps_end r bs Plain i p ts k = keeps_piece r bs ts i p k
keeps_end r bs s i p ts k = keeps_on r bs ts k

-- the answer says what comes out of the reading
abbrev Tells : Result (Unit {0}) Fault → Items → Out → Type 0
Tells (Ok u) ts o = o ≡ accepted ts
Tells (Err f) ts o = o ≡ refused f.refusal f.place

unclosed_tells : (bs : List Open) (ts : Items) (p : ℕ) → map opened_of bs ≡ open_blocks ts → Tells (unclosed_in bs) ts (finished true (Some ts) p)
unclosed_tells [] ts p e = ap (λ os. judged true (unclosed os p) (accepted ts)) (sym e)
unclosed_tells (o ∷ os) ts p e = ap (λ os. judged true (unclosed os p) (accepted ts)) (sym e)

end_tells : (bs : List Open) (s : State) (n i p : ℕ) (ts : Items) → Sparse s i p n → map opened_of bs ≡ open_blocks (items_end s i p ts) → Tells (cond (may_end s) (unclosed_in bs) (Err (fault UnexpectedByte p))) (items_end s i p ts) (finished true (finish (outside s i ts) p) p)
end_tells bs Line n i p ts h e = unclosed_tells bs ts p e
end_tells bs Plain n i p ts h e = unclosed_tells bs (piece i p ts) p e
end_tells bs Comment n i p ts h e = unclosed_tells bs ts p e
end_tells bs DollarAtLine n i p ts h e = refl
end_tells bs Dollar n i p ts h e = refl
end_tells bs s n i p ts h e = absurd h

-- a template that is read to its end
record Whole (text : List ℕ) (r : Reader) (o : Result (Unit {0}) Fault) (r' : Reader) : Type 0 where
  items : Items
  kept : Kept r' r.blocks.items items
  tells : Tells o items (reading true text)

whole : (text : List ℕ) (r r' : Reader) (o : Result (Unit {0}) Fault) → Sofar text r → length r.cursor.text.now ≤ r.cursor.pos → Ended r.blocks.items r o r' → Whole text r o r'
whole text r r' o a past e =
    let s : State = r.cursor.state in
    let i : ℕ = r.«from» in
    let p : ℕ = r.cursor.pos in
    let k : Kept r' r.blocks.items (items_end s i p a.items) = keeps_end r r.blocks.items s i p a.items a.kept r' e.after.table e.after.stack e.after.loops in
    record {
      items = items_end s i p a.items;
      kept = k;
      tells = subst (λ o. Tells o (items_end s i p a.items) (reading true text)) (sym e.answer) (subst (Tells (cond (may_end s) (unclosed_in r.blocks.items) (Err (fault UnexpectedByte p))) (items_end s i p a.items)) (sym (a.runs ∙ at_end true text (outside s i a.items) p (omega (arith, ap length a.same)))) (end_tells r.blocks.items s r.cursor.table.len i p a.items a.outer.sparse k.opened));
    }

-- a byte, or an instruction, that is refused
pub read_stops : (text : List ℕ) (r : Reader) (f : Fault) → Sofar text r → ((ts : Items) → Kept r r.blocks.items ts → onward true r.cursor.text.now (outside r.cursor.state r.«from» ts) r.cursor.pos ≡ refused f.refusal f.place) → reading true text ≡ refused f.refusal f.place
read_stops text r f a h = a.runs ∙ subst (λ w. onward true w (outside r.cursor.state r.«from» a.items) r.cursor.pos ≡ refused f.refusal f.place) a.same (h a.items a.kept)

-- a template that may not end here
pub read_unended : (text : List ℕ) (r r' : Reader) (o : Result (Unit {0}) Fault) (f : Fault) → Sofar text r → length r.cursor.text.now ≤ r.cursor.pos → Ended r.blocks.items r o r' → o ≡ Err f → reading true text ≡ refused f.refusal f.place
read_unended text r r' o f a past e is = let w = whole text r r' o a past e in subst (λ o. Tells o w.items (reading true text)) is w.tells

pub read_ended : (text : List ℕ) (r r' : Reader) (o : Result (Unit {0}) Fault) (x : Reading) → Sofar text r → length r.cursor.text.now ≤ r.cursor.pos → Ended r.blocks.items r o r' → o ≡ Ok tt → x.table ≡ r'.cursor.table → x.stack ≡ r'.stack → Reads text x
read_ended text r r' o x a past e is table' stack' =
    let w = whole text r r' o a past e in
    record {
      items = w.items;
      accepts = subst (λ o. Tells o w.items (reading true text)) is w.tells;
      holds = subst (λ t. Holds t (laid w.items).nodes) (sym table') w.kept.holds;
      needs = stack' ∙ w.kept.stack;
    }
