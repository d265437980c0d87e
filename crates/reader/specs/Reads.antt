-- What the functions of the expression reader say: on every stack of waiting things that fits, the reading goes on as if the expression
-- were one operand. Assumes nothing.
use Rattle.std.specs.Prelude.{◌≡◌, ℕ, suc, ◌+◌, ◌-◌, ◌<◌, ◌≤◌, max, Bool, true, false, cond, ◌⊎◌, List, [], ◌∷◌, ◌++◌, length, Some, None, Ok, Err, Option, Result, ◌≢◌, nat_lt, slice_index}
use Rattle.refusals.specs.declared.Refusal.TheVariants.{UnexpectedByte, TooLong}
use Rattle.functions.specs.declared.Signature.{Signature}
use Rattle.keywords.specs.declared.Keyword.{Keyword}
use Rattle.tokens.specs.declared.operator.Op.{Op}
use Rattle.tokens.specs.declared.byte.Start.{Start}
use Rattle.tokens.specs.declared.byte.Start.TheVariants as at
use Rattle.tokens.specs.declared.byte.After.{After}
use Rattle.tokens.specs.declared.byte.After.TheVariants as past
use Rattle.tokens.specs.declared.byte.Separator.TheVariants.{Comma, Semicolon}
use Rattle.tokens.specs.declared.byte.Shape.{Shape}
use Rattle.tokens.specs.declared.byte.Shape.TheVariants.{Round, Square, Curly}
use Rattle.tokens.specs.Bytes.{blank}
use Rattle.tokens.specs.Operators.{level, is_short}
use Rattle.trees.specs.declared.Constant.{Constant}
use Rattle.trees.specs.declared.Node.{Node}
use Rattle.trees.specs.declared.Span.{Span}
use Rattle.trees.specs.declared.Node.TheVariants as node
use Rattle.trees.specs.Tree.{Key, Expr, Args, Seq, count_args, from_to}
use Rattle.trees.specs.Flat.{flatten, flatten_args, flatten_seq, rest}
use Rattle.trees.specs.Counts.{need, need_args, need_list}
use Rattle.grammar.specs.Machine.{Head, Stack, Bracket, Run, Config, stop, want, named, aft, dots, last_wanted, depth, constant, constant_at, dotted, commanded, assigns, onward, refused, Below}
use Rattle.grammar.specs.Words.{keyword_of}
use Rattle.grammar.specs.Grammar.{Blanks, part}
use Rattle.grammar.specs.Rules.{Broken, refusal_of, large, lengthy, arrival}
use Rattle.reader.specs.declared.cursor.Cursor.{Cursor}
use Rattle.reader.specs.declared.cursor.Inside.{Inside}
use Rattle.reader.specs.declared.cursor.Inside.TheVariants as inside
use Rattle.reader.specs.declared.cursor.State.TheVariants.{Instruction}
use Rattle.reader.specs.declared.expression.Context.{Context}
use Rattle.reader.specs.declared.expression.Operand.{Operand}
use Rattle.reader.specs.declared.expression.Arguments.{Arguments}
use Rattle.reader.specs.declared.expression.Group.{Group}
use Rattle.refusals.specs.declared.fault.Fault.{Fault}
use Rattle.reader.specs.Tables.{Grew}
use Rattle.reader.specs.States.{fault, MovedTo}
use Rattle.reader.specs.declared.cursor.Follow.{Follow}
use Rattle.reader.specs.declared.cursor.Follow.TheVariants as follow
use Rattle.reader.specs.declared.cursor.Numeral.{Numeral}
use Rattle.reader.specs.Scans.{start_at, after_at, token_at, unexpected_at, capped, Limited}

-- the innermost bracket of a stack, or what ends the expression
abbrev pub head_inside : Head → Inside
head_inside Head.show = inside.Top
head_inside (Head.assign k) = inside.Top
head_inside (Head.if j) = inside.Top
head_inside (Head.elif j) = inside.Top
head_inside (Head.while j) = inside.Top
head_inside (Head.foreach j x y) = inside.Top
head_inside (Head.joineach j x y) = inside.Join

abbrev pub bracket_inside : Bracket → Inside
bracket_inside (Bracket.round q) = inside.Round
bracket_inside (Bracket.square i j q) = inside.Square
bracket_inside (Bracket.call i j q f s) = inside.Call
bracket_inside (Bracket.curly q s n) = inside.Curly

abbrev pub innermost : Stack → Inside
innermost (Stack.top q h ts) = head_inside h
innermost (Stack.binary q o l k) = innermost k
innermost (Stack.signed q s k) = innermost k
innermost (Stack.open' b k) = bracket_inside b

-- in one bracket more than in x, if it may open
abbrev pub inner_of : Inside → Context → Option Context
inner_of i x = cond (nat_lt 0 x.left) (Some (record { inside = i; left = x.left - 1 })) None

-- a stack on which an operand of level n is read, in the context x
pub record Fitting (n : ℕ) (x : Context) (k : Stack) : Type 0 where
  pub here : innermost k ≡ x.inside
  pub room : depth k + x.left ≡ 12
  pub below : Below n k

-- what begins here means no more than an operand on this stack: no dots of a sequence, no word of an instruction
abbrev pub Clear : Start → Stack → Type 0
Clear at.Blank k = Unit {0}
Clear at.Digit k = Unit {0}
Clear at.Letter k = (w : Keyword) (j b : ℕ) → commanded w k j b ≡ stop
Clear at.Quote k = Unit {0}
Clear (at.Sign s) k = Unit {0}
Clear at.Round k = Unit {0}
Clear at.Curly k = Unit {0}
Clear at.EndRound k = Unit {0}
Clear at.EndCurly k = Unit {0}
Clear at.Dot k = dotted k ≡ stop
Clear at.Other k = Unit {0}

-- such a stack where an operand is expected at p
pub record Wanting (text : List ℕ) (p n : ℕ) (x : Context) (k : Stack) : Type 0 where
  pub fit : Fitting n x k
  pub clear : (q : ℕ) → Blanks text p q → Clear (start_at text q) k

-- on every stack that fits, the reading at p in c is that at p' in c', or the refusal f
abbrev pub Runs : List ℕ → (Stack → Type 0) → (Stack → Config) → ℕ → (Stack → Config) → ℕ → Type 0
Runs text fits c p c' p' = (k : Stack) → fits k → onward true text (c k) p ≡ onward true text (c' k) p'

abbrev pub Fails : List ℕ → (Stack → Type 0) → (Stack → Config) → ℕ → Fault → Type 0
Fails text fits c p f = (k : Stack) → fits k → onward true text (c k) p ≡ refused f.refusal f.place

-- the cursor has gone on inside the instruction, and the nodes have come to the table
pub record Went (r : Cursor) (ns : List Node) (r' : Cursor) : Type 0 where
  pub text : r'.text ≡ r.text
  pub inward : r'.state ≡ Instruction
  pub onwards : r.pos ≤ r'.pos
  pub few : r'.table.len + r.pos ≤ r.table.len + r'.pos
  pub fewer : r'.table.nodes + r.table.len ≤ r.table.nodes + r'.table.len
  pub grew : Grew r.table ns r'.table

abbrev pub operand_of : Expr → Operand
operand_of t = record { need = need t; constant = constant t }

-- a constant begins no later than p
abbrev pub Placed : Option Constant → ℕ → Type 0
Placed (Some c) p = c.span.«from» ≤ p
Placed None p = Unit {0}

-- no letter stands at p behind blanks
abbrev pub Unlettered : List ℕ → ℕ → Type 0
Unlettered text p = (q : ℕ) → Blanks text p q → start_at text q ≢ at.Letter

-- the expression is no key: a `=` behind it does not assign
abbrev pub Keyless : Expr → Type 0
Keyless t = (k : Stack) (b q : ℕ) → assigns t k b q ≡ stop

-- an operand is read
pub record Took (text : List ℕ) (fits : Stack → Type 0) (c : Stack → Config) (r : Cursor) (o : Operand) (r' : Cursor) : Type 0 where
  pub tree : Expr
  pub told : o ≡ operand_of tree
  pub placed : Placed o.constant r'.pos
  pub small : o.need + r.pos ≤ r'.pos
  pub far : r.pos < r'.pos
  pub keyless : Unlettered text r.pos → Keyless tree
  pub went : Went r (flatten tree) r'
  pub runs : Runs text fits c r.pos (λ k. aft tree k) r'.pos

abbrev pub Did : List ℕ → (Stack → Type 0) → (Stack → Config) → Cursor → Result Operand Fault → Cursor → Type 0
Did text fits c r (Ok o) r' = Took text fits c r o r'
Did text fits c r (Err f) r' = Fails text fits c r.pos f

-- no blank stands at p
abbrev pub Solid : List ℕ → ℕ → Type 0
Solid text p = p < length text → blank (slice_index text p) ≡ false

-- neither a blank nor an operator of level n or tighter stands at p
pub record Stops (n : ℕ) (text : List ℕ) (p : ℕ) : Type 0 where
  pub solid : Solid text p
  pub loose : (o : Op) → token_at text p ≡ Some o → level o < n

abbrev pub Stopped : {A : Type 0} → ℕ → List ℕ → Result A Fault → Cursor → Type 0
Stopped n text (Ok o) r = Stops n text r.pos
Stopped n text (Err f) r = Unit {0}

-- the operators behind an operand t make `grow t` of it
pub record Chain (text : List ℕ) (n : ℕ) (x : Context) (first : Operand) (r : Cursor) (o : Operand) (r' : Cursor) : Type 0 where
  pub grow : Expr → Expr
  pub nodes : List Node
  pub told : (t : Expr) → first ≡ operand_of t → o ≡ operand_of (grow t)
  pub placed : Placed first.constant r.pos → Placed o.constant r'.pos
  pub small : (o.need ≤ first.need) ⊎ (o.need + r.pos ≤ r'.pos)
  pub flat : (t : Expr) → flatten (grow t) ≡ flatten t ++ nodes
  pub still : ((r'.pos ≡ r.pos) × ((t : Expr) → grow t ≡ t)) ⊎ ((t : Expr) → Keyless (grow t))
  pub went : Went r nodes r'
  pub runs : (t : Expr) → Runs text (Fitting n x) (λ k. aft t k) r.pos (λ k. aft (grow t) k) r'.pos

abbrev pub Tailed : List ℕ → ℕ → Context → Operand → Cursor → Result Operand Fault → Cursor → Type 0
Tailed text n x first r (Ok o) r' = Chain text n x first r o r'
Tailed text n x first r (Err f) r' = (t : Expr) → Fails text (Fitting n x) (λ k. aft t k) r.pos f

-- what the right side of an operator needs beside the left one
abbrev pub beside : Op → ℕ → ℕ
beside o n = cond (is_short o) n (1 + n)

-- an operator and its right side are read
pub record Joins (text : List ℕ) (o : Op) (x : Context) (r : Cursor) (n : ℕ) (r' : Cursor) : Type 0 where
  pub right : Expr
  pub told : n ≡ beside o (need right)
  pub small : n + r.pos ≤ r'.pos
  pub far : r.pos < r'.pos
  pub went : Went r (rest r.pos o (flatten right)) r'
  pub runs : (l : Expr) → Runs text (Fitting (level o) x) (λ k. aft l k) r.pos (λ k. aft (Expr.binary r.pos o l right) k) r'.pos

abbrev pub Joined : List ℕ → Op → Context → Cursor → Result ℕ Fault → Cursor → Type 0
Joined text o x r (Ok n) r' = Joins text o x r n r'
Joined text o x r (Err f) r' = (l : Expr) → Fails text (Fitting (level o) x) (λ k. aft l k) r.pos f

-- a primary may begin here, or nothing
abbrev pub Primal : Start → Type 0
Primal at.Blank = ⊥
Primal at.Digit = Unit {0}
Primal at.Letter = Unit {0}
Primal at.Quote = Unit {0}
Primal (at.Sign s) = ⊥
Primal at.Round = Unit {0}
Primal at.Curly = Unit {0}
Primal at.EndRound = Unit {0}
Primal at.EndCurly = Unit {0}
Primal at.Dot = Unit {0}
Primal at.Other = Unit {0}

-- the closing sign of a bracket is passed, or what stands there instead is refused
abbrev pub Closed : List ℕ → Shape → Cursor → Result (Unit {0}) Fault → Cursor → Type 0
Closed text s r (Ok u) r' = (after_at text r.pos ≡ past.End s) × MovedTo r (r.pos + 1) r'
Closed text s r (Err f) r' = (after_at text r.pos ≢ past.End s) × (f ≡ fault UnexpectedByte (unexpected_at text r.pos))

-- the subscript of a name is read
pub record Subscript (text : List ℕ) (left : ℕ) (r : Cursor) (n : ℕ) (r' : Cursor) : Type 0 where
  pub tree : Expr
  pub told : n ≡ need tree
  pub small : n + r.pos + 2 ≤ r'.pos
  pub few : r'.table.len + r.pos + 1 ≤ r.table.len + r'.pos
  pub went : Went r (flatten tree) r'
  pub runs : (i j : ℕ) (w : List ℕ) (k : Stack) → depth k + left ≡ 12 → onward true text (named i j w k) r.pos ≡ onward true text (aft (Expr.key (Key.index i j r.pos tree)) k) r'.pos

abbrev pub Subscribed : List ℕ → ℕ → Cursor → Result ℕ Fault → Cursor → Type 0
Subscribed text left r (Ok n) r' = Subscript text left r n r'
Subscribed text left r (Err f) r' = (i j : ℕ) (w : List ℕ) (k : Stack) → depth k + left ≡ 12 → onward true text (named i j w k) r.pos ≡ refused f.refusal f.place

-- a call of the function whose name stands from x to y is read
abbrev pub name_at : List ℕ → ℕ → ℕ → Stack → Config
name_at text x y k = named x y (part text x y) k

abbrev pub Roomy : ℕ → Stack → Type 0
Roomy left k = depth k + left ≡ 12

abbrev pub Called : List ℕ → ℕ → ℕ → ℕ → Cursor → Result Operand Fault → Cursor → Type 0
Called text x y left r o r' = Did text (Roomy left) (name_at text x y) r o r'

-- the arguments of a call are read, up to its `)`
pub record Argument (text : List ℕ) (left : ℕ) (r : Cursor) (a : Arguments) (r' : Cursor) : Type 0 where
  pub before : Args
  pub tree : Expr
  pub told : a ≡ record { count = suc (count_args before); need = need_args (Args.argument before tree) }
  pub small : a.need + r.pos ≤ r'.pos
  pub some : a.count + r.pos ≤ r'.pos
  pub went : Went r (flatten_args (Args.argument before tree)) r'
  pub at_end : after_at text r'.pos ≡ past.End Round
  pub runs : (i j q : ℕ) (f : Option Signature) (k : Stack) → depth k + 1 + left ≡ 12 → onward true text (want (Stack.open' (Bracket.call i j q f Args.nullary) k)) r.pos ≡ onward true text (aft tree (Stack.open' (Bracket.call i j q f before) k)) r'.pos

abbrev pub Argued : List ℕ → ℕ → Cursor → Result Arguments Fault → Cursor → Type 0
Argued text left r (Ok a) r' = Argument text left r a r'
Argued text left r (Err e) r' = (i j q : ℕ) (f : Option Signature) (k : Stack) → depth k + 1 + left ≡ 12 → onward true text (want (Stack.open' (Bracket.call i j q f Args.nullary) k)) r.pos ≡ refused e.refusal e.place

-- an item behind others is joined to them
abbrev pub joint_of : Bool → List Node
joint_of true = []
joint_of false = node.Joined ∷ []

-- an item of a list is read; its need is counted with the list's own
pub record Item (text : List ℕ) (x : Context) (empty : Bool) (r : Cursor) (o : Operand) (r' : Cursor) : Type 0 where
  pub tree : Expr
  pub told : o ≡ record { need = need tree + 1; constant = constant tree }
  pub placed : Placed o.constant r'.pos
  pub small : o.need + r.pos ≤ r'.pos + 1
  pub far : r.pos < r'.pos
  pub few : r'.table.len + r.pos ≤ r.table.len + r'.pos + 1
  pub fewer : r'.table.nodes + r.table.len ≤ r.table.nodes + r'.table.len
  pub same_text : r'.text ≡ r.text
  pub inward : r'.state ≡ Instruction
  pub grew : Grew r.table (flatten tree ++ joint_of empty) r'.table
  pub runs : Runs text (Wanting text r.pos 1 x) want r.pos (λ k. aft tree k) r'.pos

abbrev pub Itemed : List ℕ → Context → Bool → Cursor → Result Operand Fault → Cursor → Type 0
Itemed text x empty r (Ok o) r' = Item text x empty r o r'
Itemed text x empty r (Err f) r' = Fails text (Wanting text r.pos 1 x) want r.pos f

abbrev pub is_comma : After → Bool
is_comma past.Blank = false
is_comma (past.Single o) = false
is_comma (past.Double h) = false
is_comma (past.Separator Comma) = true
is_comma (past.Separator Semicolon) = false
is_comma past.Round = false
is_comma past.Square = false
is_comma (past.End s) = false
is_comma past.Dollar = false
is_comma past.Quote = false
is_comma past.Other = false

-- the `;` or `}` behind the last item of a group
abbrev pub group_end : Bool → After
group_end true = past.Separator Semicolon
group_end false = past.End Curly

abbrev pub is_group_end : After → Bool
is_group_end past.Blank = false
is_group_end (past.Single o) = false
is_group_end (past.Double h) = false
is_group_end (past.Separator Comma) = false
is_group_end (past.Separator Semicolon) = true
is_group_end past.Round = false
is_group_end past.Square = false
is_group_end (past.End Round) = false
is_group_end (past.End Square) = false
is_group_end (past.End Curly) = true
is_group_end past.Dollar = false
is_group_end past.Quote = false
is_group_end past.Other = false

-- it is passed, if it stands there
abbrev pub GroupEnded : List ℕ → Cursor → Option Bool → Cursor → Type 0
GroupEnded text r (Some more) r' = (after_at text r.pos ≡ group_end more) × MovedTo r (r.pos + 1) r'
GroupEnded text r None r' = (is_group_end (after_at text r.pos) ≡ false) × MovedTo r r.pos r'

abbrev pub Ended : List ℕ → ℕ → Cursor → Result Group Fault → Cursor → Type 0
Ended text n r (Ok g) r' = (g.need ≡ n) × (after_at text r.pos ≡ group_end g.more) × MovedTo r (r.pos + 1) r'
Ended text n r (Err f) r' = (is_group_end (after_at text r.pos) ≡ false) × (f ≡ fault UnexpectedByte (unexpected_at text r.pos))

-- where the reading is behind a group of the list at q, with the items s: at the next group or behind the list
abbrev pub behind : Bool → ℕ → Seq → Stack → Config
behind true q s k = want (Stack.open' (Bracket.curly q s 0) k)
behind false q s k = aft (Expr.list q s) k

abbrev pub is_empty : Seq → Bool
is_empty Seq.empty = true
is_empty (Seq.item s e) = false
is_empty (Seq.steps s a b c) = false

-- a group, or the rest of one, is read: it makes `grow s` of the items s before it, which need at least `base`
pub record Grows (text : List ℕ) (empty : Bool) (base : ℕ) (start : ℕ → Seq → Stack → Config) (left : ℕ) (r : Cursor) (g : Group) (r' : Cursor) : Type 0 where
  pub grow : Seq → Seq
  pub nodes : List Node
  pub flat : (s : Seq) → is_empty s ≡ empty → flatten_seq (grow s) ≡ flatten_seq s ++ nodes
  pub some : (s : Seq) → is_empty (grow s) ≡ false
  pub told : (s : Seq) → base ≤ need_list s → need_list (grow s) ≡ max (need_list s) g.need
  pub least : base ≤ g.need
  pub small : (g.need ≤ base) ⊎ (g.need + r.pos ≤ r'.pos)
  pub far : r.pos < r'.pos
  pub went : Went r nodes r'
  pub runs : (q : ℕ) (s : Seq) (k : Stack) → is_empty s ≡ empty → depth k + 1 + left ≡ 12 → onward true text (start q s k) r.pos ≡ onward true text (behind g.more q (grow s) k) r'.pos

-- the reading at p of a list with the items s, of which n belong to the present group
abbrev pub grouping : ℕ → ℕ → Seq → Stack → Config
grouping n q s k = want (Stack.open' (Bracket.curly q s n) k)

abbrev pub Continued : List ℕ → ℕ → Bool → ℕ → ℕ → Cursor → Result Group Fault → Cursor → Type 0
Continued text left empty base n r (Ok g) r' = Grows text empty base (grouping n) left r g r'
Continued text left empty base n r (Err f) r' = (q : ℕ) (s : Seq) (k : Stack) → is_empty s ≡ empty → depth k + 1 + left ≡ 12 → onward true text (grouping n q s k) r.pos ≡ refused f.refusal f.place

-- `...` and the comma behind it are passed, up to a digit
pub record Ellipsis (text : List ℕ) (r r' : Cursor) : Type 0 where
  pub same : MovedTo r r'.pos r'
  pub far : r.pos + 4 ≤ r'.pos
  pub digit : start_at text r'.pos ≡ at.Digit
  pub runs : (u : Run) → onward true text (dots 2 u) (r.pos + 1) ≡ onward true text (last_wanted u) r'.pos

abbrev pub Ellipsed : List ℕ → Cursor → Result (Unit {0}) Fault → Cursor → Type 0
Ellipsed text r (Ok u) r' = Ellipsis text r r'
Ellipsed text r (Err f) r' = (u : Run) → onward true text (dots 2 u) (r.pos + 1) ≡ refused f.refusal f.place

-- one dot is passed, or what stands there instead is refused
abbrev pub Dotted : List ℕ → Cursor → Result (Unit {0}) Fault → Cursor → Type 0
Dotted text r (Ok u) r' = (start_at text r.pos ≡ at.Dot) × MovedTo r (r.pos + 1) r'
Dotted text r (Err f) r' = (start_at text r.pos ≢ at.Dot) × (f ≡ fault UnexpectedByte r.pos)

-- the rules that the last constant of a sequence breaks, with the sequence
abbrev pub last_rules : Constant → Constant → Constant → List Broken
last_rules a b c = large c ++ arrival a b c ++ lengthy c

-- some rules are judged at the byte after what breaks them: the first of them that is broken, or 3
abbrev pub Judged : Follow → Cursor → List Broken → Fault → Type 0
Judged f r [] o = ⊥
Judged f r (x ∷ xs) o = Limited f r (refusal_of x.rule) x.place o

abbrev pub Arrived : Constant → Constant → Numeral → Cursor → Result Constant Fault → Type 0
Arrived a b n r (Ok c) = (v : ℕ) → n.value ≡ capped v → (c ≡ constant_at n.span.«from» n.span.to v) × (last_rules a b c ≡ [])
Arrived a b n r (Err f) = (v : ℕ) → n.value ≡ capped v → Judged follow.Last r (last_rules a b (constant_at n.span.«from» n.span.to v)) f

-- the `;` or `}` behind a sequence
abbrev pub EndedSequence : List ℕ → Cursor → Result Group Fault → Cursor → Type 0
EndedSequence text r (Ok g) r' = (g.need ≡ 2) × (after_at text r.pos ≡ group_end g.more) × MovedTo r (r.pos + 1) r'
EndedSequence text r (Err f) r' = (is_group_end (after_at text r.pos) ≡ false) × (f ≡ fault UnexpectedByte r.pos)

-- the rest of a sequence, behind two items x and y with the constants a and b
pub record Sequence (text : List ℕ) (a b : Option Constant) (empty : Bool) (r : Cursor) (g : Group) (r' : Cursor) : Type 0 where
  pub first : Constant
  pub second : Constant
  pub last : Constant
  pub is_first : a ≡ Some first
  pub is_second : b ≡ Some second
  pub told : g.need ≡ 2
  pub far : r.pos + 6 ≤ r'.pos
  pub went : Went r (node.Sequence first.span.«from» first.value second.value last.value ∷ joint_of empty) r'
  pub runs : (q : ℕ) (s : Seq) (k : Stack) (x y : Expr) → constant x ≡ a → constant y ≡ b → onward true text (grouping 2 q (Seq.item (Seq.item s x) y) k) r.pos ≡ onward true text (behind g.more q (Seq.steps s first second last) k) r'.pos

abbrev pub Sequenced : List ℕ → Option Constant → Option Constant → Bool → Cursor → Result Group Fault → Cursor → Type 0
Sequenced text a b empty r (Ok g) r' = Sequence text a b empty r g r'
Sequenced text a b empty r (Err f) r' = (q : ℕ) (s : Seq) (k : Stack) (x y : Expr) → constant x ≡ a → constant y ≡ b → onward true text (grouping 2 q (Seq.item (Seq.item s x) y) k) r.pos ≡ refused f.refusal f.place

-- at most so many bytes have been read from q on; if there are more, that falls due here
abbrev pub Measured : Follow → Cursor → ℕ → ℕ → ℕ → Result (Unit {0}) Fault → Type 0
Measured f r q n most (Ok u) = n ≤ most
Measured f r q n most (Err e) = (most < n) × Limited f r TooLong q e

-- the word from q up to the cursor is a name: no keyword, and not too long
abbrev pub FreeName : Follow → ℕ → Cursor → Result (Span ℕ) Fault → Type 0
FreeName f q r (Ok n) = (n ≡ from_to q r.pos) × (keyword_of (part r.text.now q r.pos) ≡ None) × (r.pos ≤ q + 24)
FreeName f q r (Err e) = ((keyword_of (part r.text.now q r.pos) ≢ None) × (e ≡ fault UnexpectedByte r.pos)) ⊎ ((keyword_of (part r.text.now q r.pos) ≡ None) × (q + 24 < r.pos) × Limited f r TooLong q e)
