use Rattle.std.proofs.Common.{◌≡◌, arith, refl, ap, max, ◌+◌, ◌∷◌, ◌∙◌}
use Rattle.keywords.specs.declared.Keyword.TheVariants.{Elif}
use Rattle.stacks.specs.Stacked.{Stacked, rest}
use Rattle.trees.specs.declared.Node.TheVariants as node
use Rattle.reader.specs.declared.block.Open.{Open}
use Rattle.reader.specs.declared.cursor.Follow.TheVariants as follow
use Rattle.reader.specs.Tables.{patched}
use Rattle.reader.proofs.Blocks.{fails_by, elif_tests, choice_there, choice_fails, test_fails, test_small, elif_done, rearmed, loops_few}
use Rattle.reader.proofs.instruction.Reader.elif.Goals as goal

pub returns-in_err-block : goal.returns-in_err-block
returns-in_err-block c = fails_by Elif c.args.self.now _ _ c.args.self.now c.from_residual.ensures.1 (choice_fails Elif c.args.self.now _ tt refl c.in_err-block.ensures)

pub returns-in_err-condition : goal.returns-in_err-condition
returns-in_err-condition c =
    let r = c.args.self.now in
    let arm = c.close_arm.ensures in
    fails_by Elif r _ _ _ c.from_residual-in_err-condition.ensures.1 (test_fails Elif elif_tests r c.close_arm.new.self.cursor c.test.new.self _ c.requires.word (choice_there follow.Begin r c.in_ok-block.block c.in_ok-block.ensures) arm.text arm.pos c.in_err-condition.ensures)

pub needs-requires : goal.needs-requires
needs-requires c = (test_small _ _ _ _ c.in_ok-condition.ensures, omega (arith, c.close_arm.ensures.loops, loops_few _ _ c.requires.entered.standing))

pub returns : goal.returns
returns c =
    let r = c.args.self.now in
    let o = c.in_ok-block.block in
    let arm = c.close_arm.ensures in
    let more = c.needs.ensures in
    let new = c.stand.ensures in
    let d = c.in_ok-condition.condition in
    let left : c.pop.new.self.items ≡ rest r.blocks.items = ap (λ (s : Stacked Open). s.items) c.pop.ensures.after ∙ ap rest more.blocks ∙ ap rest arm.blocks in
    elif_done r c.close_arm.new.self _ o c.test.new.self d c.requires.entered c.requires.word c.in_ok-block.ensures arm c.in_ok-condition.ensures
    (record {
      text = new.text ∙ more.text ∙ c.patch.ensures.text;
      state = new.state ∙ more.state ∙ c.patch.ensures.state;
      pos = new.pos ∙ more.pos ∙ c.patch.ensures.pos;
      table = new.table ∙ more.table ∙ c.patch.ensures.table ∙ ap (λ q. patched c.test.new.self.table d.at (node.Elif q d.size 0)) arm.«from»;
      stack = new.stack ∙ more.stack ∙ λ i. max (arm.stack i) (d.need + arm.loops i);
      loops = new.loops ∙ more.loops ∙ arm.loops;
      blocks = new.blocks ∙ λ i. rearmed o o.kind d.at (node.Elif (arm.«from» i) d.size 0) ∷ left i;
    })
