-- What a template says, as a tree. Number and text constants are the code's own structs. Assumes nothing.
-- All numbers but the value of a number constant and the length of a text are places: offsets of bytes in the template, from 0.
-- "From i to j" is from the byte at i up to the byte before j.
use Rattle.std.specs.Prelude.{ℕ, suc, Option}
use Rattle.functions.specs.declared.Signature.{Signature}
use Rattle.tokens.specs.declared.operator.Op.{Op}
use Rattle.tokens.specs.declared.operator.Sign.{Sign}
use Rattle.trees.specs.declared.Constant.{Constant}
use Rattle.trees.specs.declared.Quote.{Quote}
use Rattle.trees.specs.declared.Span.{Span}

-- the part from i to j
abbrev pub from_to : ℕ → ℕ → Span ℕ
from_to i j = record { «from» = i; to = j }

mutual
  -- a name from i to j, and with a subscript the place of its `[`
  pub data Key : Type 0 where
    name : ℕ → ℕ → Key
    index : ℕ → ℕ → ℕ → Expr → Key

  pub data Expr : Type 0 where
    number : Constant → Expr
    text : Quote → Expr
    key : Key → Expr
    -- the function's name from i to j, the place of `(`, the function (none if it is unknown), the arguments, the place of `)`
    call : ℕ → ℕ → ℕ → Option Signature → Args → ℕ → Expr
    -- the place of `{`, and the items
    list : ℕ → Seq → Expr
    -- the place of `(`, and what it holds
    round : ℕ → Expr → Expr
    -- the place of the sign or operator
    signed : ℕ → Sign → Expr → Expr
    binary : ℕ → Op → Expr → Expr → Expr

  pub data Args : Type 0 where
    nullary : Args
    argument : Args → Expr → Args

  -- the items of a list: an expression, or a sequence a,b,...,c, is the last
  pub data Seq : Type 0 where
    empty : Seq
    item : Seq → Expr → Seq
    steps : Seq → Constant → Constant → Constant → Seq

-- what opens a block: the condition; the name from i to j and the expression; the same with the delimiter
pub data Opening : Type 0 where
  if : Expr → Opening
  while : Expr → Opening
  foreach : ℕ → ℕ → Expr → Opening
  joineach : ℕ → ℕ → Expr → Quote → Opening

-- what stands in a template one after another. The first number is the place of an instruction's `$`, the second that of the byte after its word.
pub data Item : Type 0 where
  -- plain text from i to j
  piece : ℕ → ℕ → Item
  -- `$$`
  dollar : ℕ → Item
  show : ℕ → Expr → Item
  assign : ℕ → Key → Expr → Item
  opens : ℕ → ℕ → Opening → Item
  elif : ℕ → ℕ → Expr → Item
  else : ℕ → ℕ → Item
  end : ℕ → ℕ → Item

-- the last one is outermost
pub data Items : Type 0 where
  none : Items
  then : Items → Item → Items

-- a template with its blocks; the instructions have their places as above
mutual
  pub data Block : Type 0 where
    nothing : Block
    then : Statement → Block → Block

  pub data Statement : Type 0 where
    piece : ℕ → ℕ → Statement
    dollar : ℕ → Statement
    show : ℕ → Expr → Statement
    assign : ℕ → Key → Expr → Statement
    -- IF, its block, and what follows that
    choice : ℕ → ℕ → Expr → Block → Arms → Statement
    -- WHILE, FOREACH or JOINEACH, its block, and END
    while : ℕ → ℕ → Expr → Block → ℕ → ℕ → Statement
    foreach : ℕ → ℕ → ℕ → ℕ → Expr → Block → ℕ → ℕ → Statement
    joineach : ℕ → ℕ → ℕ → ℕ → Expr → Quote → Block → ℕ → ℕ → Statement

  pub data Arms : Type 0 where
    -- END
    close : ℕ → ℕ → Arms
    -- ELSE, its block and END
    otherwise : ℕ → ℕ → Block → ℕ → ℕ → Arms
    -- ELIF, its block and what follows that
    elif : ℕ → ℕ → Expr → Block → Arms → Arms

-- the items of a block, one after another, behind those that stand before it
abbrev mutual
  pub written : Block → Items → Items
  written Block.nothing ts = ts
  written (Block.then s b) ts = written b (written_statement s ts)

  pub written_statement : Statement → Items → Items
  written_statement (Statement.piece i j) ts = Items.then ts (Item.piece i j)
  written_statement (Statement.dollar p) ts = Items.then ts (Item.dollar p)
  written_statement (Statement.show q e) ts = Items.then ts (Item.show q e)
  written_statement (Statement.assign q k e) ts = Items.then ts (Item.assign q k e)
  written_statement (Statement.choice q j c b r) ts = written_arms r (written b (Items.then ts (Item.opens q j (Opening.if c))))
  written_statement (Statement.while q j c b q' j') ts = Items.then (written b (Items.then ts (Item.opens q j (Opening.while c)))) (Item.end q' j')
  written_statement (Statement.foreach q j x y e b q' j') ts = Items.then (written b (Items.then ts (Item.opens q j (Opening.foreach x y e)))) (Item.end q' j')
  written_statement (Statement.joineach q j x y e d b q' j') ts = Items.then (written b (Items.then ts (Item.opens q j (Opening.joineach x y e d)))) (Item.end q' j')

  pub written_arms : Arms → Items → Items
  written_arms (Arms.close q j) ts = Items.then ts (Item.end q j)
  written_arms (Arms.otherwise q j b q' j') ts = Items.then (written b (Items.then ts (Item.else q j))) (Item.end q' j')
  written_arms (Arms.elif q j c b r) ts = written_arms r (written b (Items.then ts (Item.elif q j c)))

-- how many arguments there are
abbrev pub count_args : Args → ℕ
count_args Args.nullary = 0
count_args (Args.argument s e) = suc (count_args s)
