use Rattle.std.proofs.Common.{◌≡◌, [], length, drop, Some, None, Ok, Err, refl, sym, ap, ◌∙◌, arith}
use Rattle.evaluator.specs.Runs.{slots}
use Rattle.evaluator.proofs.Shapes.{chosen, reached, nothing_left, loops_foreach, loops_joineach, while_shape, each_shape, expression_fits, block_leaves, next_leaves}
use Rattle.evaluator.proofs.Rounds.{loop_ends, repeats_from, test_refused, repeats_no_more, block_refused, repeats_on, visit_refused, list_refused, rounds_from, round_refused, body_refused, rounds_on, none_behind, no_round, rounds_end}
use Rattle.evaluator.proofs.run.Run.+block.Goals.{each-else-loop-i-test, each-then-loop-i-test+in_default}
use Rattle.keys.specs.KeyMeans.{name_means}
use Rattle.values.specs.Means.{element_means}
use Rattle.evaluator.proofs.Choices.{choice_refused, choice_fails, choice_stops, choice_holds, else_stops, else_ends}
use Rattle.evaluator.proofs.Composing.{visited_valued, reaches_popped, reaches_end, stops}
use Rattle.evaluator.proofs.Kept.{narrow, still_same, still_then, still_popped, level_popped}
use Rattle.evaluator.proofs.run.Run.+block.Goals as goal

pub block-returns-clause-ran : goal.block-returns-clause-ran
block-returns-clause-ran g t c b l =
    let h = c.loop-node.invariant.2 b l in (
      reaches_end g.S.Store g.P.Printer h.2 (nothing_left c.args.self.now.text.now h.0 c.loop-node.left.now c.in_default.ensures.cases h.1.nodes),
      h.3,
    )

pub choose-returns-in_err-test-clause-advanced : goal.choose-returns-in_err-test-clause-advanced
choose-returns-in_err-test-clause-advanced g t c n x h l =
    let w = chosen c.args.self.now n c.args.more.now c.args.place c.args.condition c.args.body x h l c.front.ensures c.behind-block.ensures refl c.behind-next.ensures in
    choice_refused g.S.Store g.P.Printer w c.args.store.now c.args.printer.now c.test.new.self c.from_residual.result c.from_residual.ensures.1 c.in_err-test.ensures.tests

pub choose-returns-then-not-branch-clause-advanced : goal.choose-returns-then-not-branch-clause-advanced
choose-returns-then-not-branch-clause-advanced g t c n x h l =
    let w = chosen c.args.self.now n c.args.more.now c.args.place c.args.condition c.args.body x h l c.front.ensures c.behind-block.ensures refl c.behind-next.ensures in
    choice_fails g.S.Store g.P.Printer w c.args.store.now c.args.printer.now c.test.new.self c.behind-next.result c.in_ok-test.ensures.tests c.in_ok-test.ensures.still c.if-not-branch.true refl

pub choose-returns-in_err-block-clause-advanced : goal.choose-returns-in_err-block-clause-advanced
choose-returns-in_err-block-clause-advanced g t c n x h l =
    let w = chosen c.args.self.now n c.args.more.now c.args.place c.args.condition c.args.body x h l c.front.ensures c.behind-block.ensures c.front-2.ensures c.behind-next.ensures in
    choice_stops g.S.Store g.P.Printer w c.args.store.now c.args.printer.now c.test.new.self c.block.new.self c.block.new.store c.block.new.printer c.in_ok-test.ensures.tests c.in_ok-test.ensures.still c.if-not-branch.false
    c.from_residual-in_err-block.result c.from_residual-in_err-block.ensures.1 c.in_err-block.ensures.ran

pub choose-returns-clause-advanced : goal.choose-returns-clause-advanced
choose-returns-clause-advanced g t c n x h l =
    let w = chosen c.args.self.now n c.args.more.now c.args.place c.args.condition c.args.body x h l c.front.ensures c.behind-block.ensures c.front-2.ensures c.behind-next.ensures in
    choice_holds g.S.Store g.P.Printer w c.args.store.now c.args.printer.now c.test.new.self c.block.new.self c.block.new.store c.block.new.printer c.in_ok-test.ensures.tests c.in_ok-test.ensures.still c.if-not-branch.false
    c.past_arms.result c.in_ok-block.ensures.ran c.in_ok-block.ensures.still c.past_arms.ensures.past

pub each-returns-in_err-visit-clause-advanced : goal.each-returns-in_err-visit-clause-advanced
each-returns-in_err-visit-clause-advanced g t c =
    λ n x loops h.
    let w = each_shape c.args.self.now n c.args.head.place (name_means c.args.head.name) c.args.head.delimiter.now c.args.list c.args.body c.args.more.now x loops h in
    stops g.S.Store g.P.Printer x c.from_residual.result c.from_residual.ensures.1 w.means
    (visit_refused {s = g.S.Store} {p = g.P.Printer} (name_means c.args.head.name, None) c.args.head.delimiter.now w.e w.b w.next c.args.store.now c.args.printer.now c.visit.new.self c.in_err-visit.field-0.0 c.in_err-visit.ensures)

pub each-returns-in_err-expression-clause-advanced : goal.each-returns-in_err-expression-clause-advanced
each-returns-in_err-expression-clause-advanced g t c =
    λ n x loops h.
    let w = each_shape c.args.self.now n c.args.head.place (name_means c.args.head.name) c.args.head.delimiter.now c.args.list c.args.body c.args.more.now x loops h in
    let d = visited_valued (g.S.Store.names c.args.store.now) c.expression.new.self (Err c.in_err-expression.field-0.0) tt c.in_ok-visit.ensures (expression_fits w.opened (still_same c.args.self.now) c.front.result.now c.front.ensures refl) c.in_err-expression.ensures.valued in
    stops g.S.Store g.P.Printer x c.from_residual-in_err-expression.result c.from_residual-in_err-expression.ensures.1 w.means
    (list_refused {s = g.S.Store} {p = g.P.Printer} (name_means c.args.head.name, None) c.args.head.delimiter.now w.e w.b w.next c.args.store.now c.args.printer.now c.expression.new.self c.in_err-expression.field-0.0 d)

pub each-loop-i-init : goal.each-loop-i-init
each-loop-i-init g t c =
    let still = still_then c.in_ok-visit.ensures.still c.in_ok-expression.ensures.still in (
      still,
      λ e b next o.
          let d = visited_valued (g.S.Store.names c.args.store.now) c.expression.new.self (Ok tt) tt c.in_ok-visit.ensures (expression_fits o (still_same c.args.self.now) c.front.result.now c.front.ensures refl) c.in_ok-expression.ensures.valued in
          rounds_from (name_means c.args.head.name, None) c.args.head.delimiter.now e b next c.args.store.now c.args.printer.now c.expression.new.self d still,
    )

pub each-returns-in_err-round-clause-advanced : goal.each-returns-in_err-round-clause-advanced
each-returns-in_err-round-clause-advanced g t c =
    λ n x loops h.
    let w = each_shape c.args.self.now n c.args.head.place (name_means c.args.head.name) c.args.head.delimiter.now c.args.list c.args.body c.args.more.now x loops h in
    let turn = c.loop-i.invariant.1 w.e w.b w.next w.opened in
    stops g.S.Store g.P.Printer x c.from_residual-in_err-round.result c.from_residual-in_err-round.ensures.1 w.means
    (round_refused turn c.loop-i.invariant.0 (element_means c.in-Some.element) (sym c.in-Some.ensures) c.round.new.self c.round.new.store c.round.new.printer c.in_err-round.field-0.0 c.in_err-round.ensures.ran)

pub each-returns-in_err-block-clause-advanced : goal.each-returns-in_err-block-clause-advanced
each-returns-in_err-block-clause-advanced g t c =
    λ n x loops h.
    let w = each_shape c.args.self.now n c.args.head.place (name_means c.args.head.name) c.args.head.delimiter.now c.args.list c.args.body c.args.more.now x loops h in
    let still = c.loop-i.invariant.0 in
    let start = c.in_ok-round.ensures in
    let turn = c.loop-i.invariant.1 w.e w.b w.next w.opened in
    let r = c.in_err-block.ensures.ran w.b (block_leaves w.opened (still_then still start.still) c.behind-block.result.now c.front-in-loop-i.result.now c.behind-block.ensures c.front-in-loop-i.ensures (omega (arith, ap length (start.level ∙ turn.waits)))) in
    stops g.S.Store g.P.Printer x c.from_residual-in_err-block.result c.from_residual-in_err-block.ensures.1 w.means
    (body_refused turn still (element_means c.in-Some.element) (sym c.in-Some.ensures) c.round.new.self c.round.new.store c.round.new.printer start.ran start.still c.block.new.self c.block.new.store c.block.new.printer c.in_err-block.field-0.0 r.0)

pub each-loop-i-preserved : goal.each-loop-i-preserved
each-loop-i-preserved g t c =
    let still = c.loop-i.invariant.0 in
    let start = c.in_ok-round.ensures in
    let still' = c.in_ok-block.ensures.still in (
      still_then still (still_then start.still still'),
      λ e b next o.
          let turn = c.loop-i.invariant.1 e b next o in
          let r = c.in_ok-block.ensures.ran b (block_leaves o (still_then still start.still) c.behind-block.result.now c.front-in-loop-i.result.now c.behind-block.ensures c.front-in-loop-i.ensures (omega (arith, ap length (start.level ∙ turn.waits)))) in
          rounds_on turn still (element_means c.in-Some.element) (sym c.in-Some.ensures) c.round.new.self c.round.new.store c.round.new.printer start.ran start.still c.block.new.self c.block.new.store c.block.new.printer start.level r.0 r.1 still',
    )

pub each-returns-clause-advanced : goal.each-returns-clause-advanced
each-returns-clause-advanced g t c =
    λ n x loops h.
    let w = each_shape c.args.self.now n c.args.head.place (name_means c.args.head.name) c.args.head.delimiter.now c.args.list c.args.body c.args.more.now x loops h in
    let still = c.loop-i.invariant.0 in
    let turn = c.loop-i.invariant.1 w.e w.b w.next w.opened in
    let none : drop c.loop-i.i turn.list ≡ [] = elim c.loop-i-test.branch [ each-else-loop-i-test w ↦ none_behind turn still c.pop.result c.pop.ensures.answer (omega arith) | each-then-loop-i-test+in_default w ↦ no_round turn still (sym w.in_default.ensures) ] in
    let level = level_popped (Some turn.list) (slots c.pop.new.self) (slots c.loop-i.self) (slots c.args.self.now) c.pop.ensures.values turn.waits in
    loop_ends x w.next c.behind.result w.means (reaches_popped g.S.Store g.P.Printer (rounds_end turn still none) c.pop.ensures.rest)
    (next_leaves w.opened (still_then still (still_popped c.pop.ensures.rest)) c.behind-block.result.now c.behind.result.now c.behind-block.ensures c.behind.ensures level) level

pub otherwise-returns-in_err-block-clause-advanced : goal.otherwise-returns-in_err-block-clause-advanced
otherwise-returns-in_err-block-clause-advanced g t c x l =
    let w = reached c.args.self.now c.args.more.now c.args.body x l c.front.ensures refl in
    else_stops g.S.Store g.P.Printer w c.block.new.self c.args.store.now c.block.new.store c.args.printer.now c.block.new.printer c.from_residual.result c.from_residual.ensures.1 c.in_err-block.ensures.ran

pub otherwise-returns-clause-advanced : goal.otherwise-returns-clause-advanced
otherwise-returns-clause-advanced g t c x l =
    let w = reached c.args.self.now c.args.more.now c.args.body x l c.front.ensures c.behind.ensures in
    else_ends g.S.Store g.P.Printer w c.block.new.self c.args.store.now c.block.new.store c.args.printer.now c.block.new.printer c.behind.result c.in_ok-block.ensures.ran c.in_ok-block.ensures.still refl

pub repeat-loop-self-init : goal.repeat-loop-self-init
repeat-loop-self-init g t c =
    (still_same c.args.self.now, λ small e b next o. repeats_from small)

pub repeat-returns-in_err-test-clause-advanced : goal.repeat-returns-in_err-test-clause-advanced
repeat-returns-in_err-test-clause-advanced g t c =
    λ x h.
    let w = while_shape c.args.self.now c.args.place c.args.condition c.args.body c.args.more.now x h in
    let still = c.loop-self.invariant.0 in
    let turn = c.loop-self.invariant.1 (narrow still c.in_err-test.ensures.narrow) w.e w.b w.next w.opened in
    let d = c.in_err-test.ensures.tests w.e (expression_fits w.opened still c.front.result.now c.front.ensures turn.level) in
    stops g.S.Store g.P.Printer x c.from_residual.result c.from_residual.ensures.1 w.means (test_refused turn still c.test.new.self c.in_err-test.field-0.0 c.loop-self.self.counted d.0)

pub repeat-loop-self-preserved : goal.repeat-loop-self-preserved
repeat-loop-self-preserved g t c =
    let still = c.loop-self.invariant.0 in
    let still' = c.in_ok-test.ensures.still in
    let still'' = c.in_ok-block.ensures.still in (
      still_then still (still_then still' still''),
      λ small e b next o.
          let turn = c.loop-self.invariant.1 small e b next o in
          let d = c.in_ok-test.ensures.tests e (expression_fits o still c.front.result.now c.front.ensures turn.level) in
          let r = c.in_ok-block.ensures.ran b (block_leaves o (still_then still still') c.behind-block.result.now c.front-in-loop-self.result.now c.behind-block.ensures c.front-in-loop-self.ensures (omega (arith, ap length (d.1 ∙ turn.level)))) in
          repeats_on turn still c.test.new.self c.loop-self.self.counted d.0 c.if-branch.true still' (c.in_ok-test.ensures.counted refl) c.block.new.self c.block.new.store c.block.new.printer d.1 r.0 r.1 still'',
    )

pub repeat-returns-in_err-block-clause-advanced : goal.repeat-returns-in_err-block-clause-advanced
repeat-returns-in_err-block-clause-advanced g t c =
    λ x h.
    let w = while_shape c.args.self.now c.args.place c.args.condition c.args.body c.args.more.now x h in
    let still = c.loop-self.invariant.0 in
    let still' = c.in_ok-test.ensures.still in
    let turn = c.loop-self.invariant.1 (narrow still c.in_ok-test.ensures.narrow) w.e w.b w.next w.opened in
    let d = c.in_ok-test.ensures.tests w.e (expression_fits w.opened still c.front.result.now c.front.ensures turn.level) in
    let r = c.in_err-block.ensures.ran w.b (block_leaves w.opened (still_then still still') c.behind-block.result.now c.front-in-loop-self.result.now c.behind-block.ensures c.front-in-loop-self.ensures (omega (arith, ap length (d.1 ∙ turn.level)))) in
    stops g.S.Store g.P.Printer x c.from_residual-in_err-block.result c.from_residual-in_err-block.ensures.1 w.means
    (block_refused turn still c.test.new.self c.loop-self.self.counted d.0 c.if-branch.true still' (c.in_ok-test.ensures.counted refl) c.block.new.self c.block.new.store c.block.new.printer c.in_err-block.field-0.0 r.0)

pub repeat-returns-clause-advanced : goal.repeat-returns-clause-advanced
repeat-returns-clause-advanced g t c =
    λ x h.
    let w = while_shape c.args.self.now c.args.place c.args.condition c.args.body c.args.more.now x h in
    let still = c.loop-self.invariant.0 in
    let still' = c.in_ok-test.ensures.still in
    let turn = c.loop-self.invariant.1 (narrow still c.in_ok-test.ensures.narrow) w.e w.b w.next w.opened in
    let d = c.in_ok-test.ensures.tests w.e (expression_fits w.opened still c.front.result.now c.front.ensures turn.level) in
    let level = d.1 ∙ turn.level in
    loop_ends x w.next c.behind.result w.means (repeats_no_more turn still c.test.new.self c.loop-self.self.counted d.0 c.if-branch.false still' (c.in_ok-test.ensures.counted refl))
    (next_leaves w.opened (still_then still still') c.behind-block.result.now c.behind.result.now c.behind-block.ensures c.behind.ensures level) level

pub statement-returns-in-Foreach-clause-advanced : goal.statement-returns-in-Foreach-clause-advanced
statement-returns-in-Foreach-clause-advanced g t c x l =
    c.each.ensures.advanced c.args.node x (loops_foreach _ _ _ _ _ _ _ _ _ _ c.in-Foreach.is c.place-place.ensures c.from-in-Foreach.ensures c.from-in-Foreach-2.ensures l.lawful.0 c.name-name.ensures) l

pub statement-returns-in-Joineach-clause-advanced : goal.statement-returns-in-Joineach-clause-advanced
statement-returns-in-Joineach-clause-advanced g t c x l =
    c.each-in-Joineach.ensures.advanced c.args.node x
    (loops_joineach _ _ _ _ _ _ _ _ _ _ _ _ c.in-Joineach.is c.place-place.ensures c.from-in-Joineach.ensures c.from-in-Joineach-2.ensures l.lawful.0 c.name-name-in-Joineach.ensures (λ q. c.as_bytes.ensures ∙ c.quoted-delimiter.ensures q)) l
