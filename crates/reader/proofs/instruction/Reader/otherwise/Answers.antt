use Rattle.std.proofs.Common.{◌≡◌, refl, ap, ◌∷◌, ◌∙◌}
use Rattle.keywords.specs.declared.Keyword.TheVariants.{Else}
use Rattle.stacks.specs.Stacked.{Stacked, rest}
use Rattle.trees.specs.declared.Node.TheVariants as node
use Rattle.trees.specs.Tree.{Item}
use Rattle.reader.specs.declared.block.Kind.TheVariants as kind
use Rattle.reader.specs.declared.block.Open.{Open}
use Rattle.reader.specs.declared.cursor.Follow.TheVariants as follow
use Rattle.reader.specs.declared.instruction.Reader.{Reader}
use Rattle.reader.specs.Tables.{Table}
use Rattle.reader.proofs.Blocks.{fails_by, choice_fails, choice_there, bare_fails, else_done, rearmed, completes_table, arm_table}
use Rattle.reader.proofs.instruction.Reader.otherwise.Goals as goal

pub returns-in_err-block : goal.returns-in_err-block
returns-in_err-block c = fails_by Else c.args.self.now _ _ c.args.self.now c.from_residual.ensures.1 (choice_fails Else c.args.self.now _ tt refl c.in_err-block.ensures)

pub returns-in_err-complete : goal.returns-in_err-complete
returns-in_err-complete c =
    let r = c.args.self.now in
    fails_by Else r _ _ _ c.from_residual-in_err-complete.ensures.1 (bare_fails Else (Item.else r.«from» r.cursor.pos) r _ (λ ts. refl) c.requires.word (choice_there follow.Complete r c.in_ok-block.block c.in_ok-block.ensures) c.in_err-complete.ensures)

pub returns : goal.returns
returns c =
    let r = c.args.self.now in
    let o = c.in_ok-block.block in
    let m = c.complete.new.self in
    let arm = c.close_arm.ensures in
    let new = c.stand.ensures in
    let same = completes_table _ _ _ c.in_ok-complete.ensures in
    let here = ap (λ (r : Reader). r.cursor.table.len) c.self.view_is in
    let left : c.pop.new.self.items ≡ rest r.blocks.items = ap (λ (s : Stacked Open). s.items) c.pop.ensures.after ∙ ap rest arm.blocks in
    else_done r _ o c.close_arm.new.self.cursor.table.len m c.requires.entered c.requires.word c.in_ok-block.ensures c.in_ok-complete.ensures (ap (λ (t : Table). t.len) arm.table ∙ ap (λ (t : Table). t.len) same)
    (record {
      text = new.text ∙ c.push.ensures.text ∙ arm.text;
      state = new.state ∙ c.push.ensures.state ∙ arm.state;
      pos = new.pos ∙ c.push.ensures.pos ∙ arm.pos;
      table = new.table ∙ arm_table r.cursor.table o (node.Else 0) m c.close_arm.new.self.cursor c.push.new.self same arm.table c.push.ensures.table;
      stack = new.stack ∙ arm.stack;
      loops = new.loops ∙ arm.loops;
      blocks = new.blocks ∙ λ i. rearmed o kind.Chosen (here i) (node.Else 0) ∷ left i;
    })
