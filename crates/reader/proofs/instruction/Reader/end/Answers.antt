use Rattle.std.proofs.Common.{ap, refl, sym, ◌∙◌}
use Rattle.keywords.specs.declared.Keyword.TheVariants.{End}
use Rattle.stacks.specs.Stacked.{Stacked, rest}
use Rattle.trees.specs.declared.Node.TheVariants as node
use Rattle.trees.specs.Tree.{Item}
use Rattle.reader.specs.declared.block.Open.{Open}
use Rattle.reader.proofs.Blocks.{fails_by, bare_fails, block_there, end_done, completes_table, arm_table}
use Rattle.reader.proofs.instruction.Reader.end.Goals as goal

pub returns-in_err-complete : goal.returns-in_err-complete
returns-in_err-complete c =
    let r = c.args.self.now in
    fails_by End r _ _ _ c.from_residual-in_err-complete.ensures.1 (bare_fails End (Item.end r.«from» r.cursor.pos) r _ (λ ts. refl) c.requires.word (block_there r _ (sym c.peek.ensures.answer ∙ c.in_ok-block.ensures.ok_part)) c.in_err-complete.ensures)

pub returns : goal.returns
returns c =
    let r = c.args.self.now in
    let m = c.complete.new.self in
    let arm = c.close_arm.ensures in
    end_done r _ c.in_ok-block.block m c.requires.entered c.requires.word (sym c.peek.ensures.answer ∙ c.in_ok-block.ensures.ok_part) c.in_ok-complete.ensures
    (record {
      text = c.push.ensures.text ∙ arm.text;
      state = c.push.ensures.state ∙ arm.state;
      pos = c.push.ensures.pos ∙ arm.pos;
      table = arm_table r.cursor.table c.in_ok-block.block node.End m c.close_arm.new.self.cursor c.push.new.self (completes_table _ _ _ c.in_ok-complete.ensures) arm.table c.push.ensures.table;
      stack = arm.stack;
      loops = refl;
      blocks = ap (λ (s : Stacked Open). s.items) c.pop.ensures.after ∙ ap rest arm.blocks;
    })
