use Rattle.std.proofs.Common.{refl}
use Rattle.keywords.specs.declared.Keyword.TheVariants.{While}
use Rattle.trees.specs.declared.Node.TheVariants as node
use Rattle.trees.specs.Tree.{Opening}
use Rattle.reader.proofs.Blocks.{fails_by, while_tests, room_left, room_fails, test_fails, test_small, test_opened, loops_few}
use Rattle.reader.proofs.instruction.Reader.repeat.Goals as goal

pub returns-in_err-check_room : goal.returns-in_err-check_room
returns-in_err-check_room c = fails_by While c.args.self.now _ _ c.args.self.now c.from_residual.ensures.1 (room_fails While c.args.self.now _ tt refl c.in_err-check_room.ensures)

pub returns-in_err-condition : goal.returns-in_err-condition
returns-in_err-condition c =
    let r = c.args.self.now in
    fails_by While r _ _ _ c.from_residual-in_err-condition.ensures.1 (test_fails While while_tests r r.cursor c.test.new.self _ c.requires.word (room_left r c.in_ok-check_room.ensures) refl refl c.in_err-condition.ensures)

pub open-requires : goal.open-requires
open-requires c = (test_small _ _ _ _ c.in_ok-condition.ensures, (loops_few _ _ c.requires.entered.standing, c.in_ok-check_room.ensures))

pub returns : goal.returns
returns c = test_opened While while_tests c.args.self.now _ c.test.new.self _ Opening.while _ c.in_ok-condition.condition c.requires.entered c.requires.word refl c.in_ok-check_room.ensures c.in_ok-condition.ensures (λ q j e. refl) refl (λ e i. node.While c.args.self.now.«from» (e i) 0) c.open.ensures
