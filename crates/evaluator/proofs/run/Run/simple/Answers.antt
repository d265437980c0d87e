use Rattle.std.proofs.Common.{Ok, Err, refl, ap, ◌∙◌}
use Rattle.trees.specs.Laid.{place_of}
use Rattle.evaluator.proofs.Exits.{broke}
use Rattle.evaluator.proofs.Simples.{piece_advances, dollar_advances, show_advances, assign_advances, end_advances}
use Rattle.evaluator.specs.Blocks.{Advanced}
use Rattle.evaluator.proofs.run.Run.simple.Goals as goal

pub returns-in_err-plain-in-Piece-clause-advanced :
    goal.returns-in_err-plain-in-Piece-clause-advanced
returns-in_err-plain-in-Piece-clause-advanced g c f x h =
    let a = c.args in
    let r = c.plain.new.self in
    let e = c.in_err-plain-in-Piece in
    broke (λ o. Advanced g.S.Store g.P.Printer x a.self.now r a.store.now a.store.now a.printer.now c.plain.new.printer o) _ _ c.from_residual.ensures.1
    (piece_advances g.S.Store g.P.Printer a.store.now a.printer.now c.plain.new.printer c.in-Piece.span c.place.result c.part.result.now (Err e.field-0.0) (Err e.field-0.0) f h c.in-Piece.is c.place.ensures c.part.ensures e.ensures.shows c.plain.ensures.capacity c.plain.ensures.level c.plain.ensures.still refl)

pub returns-in_err-plain-in-Dollar-clause-advanced :
    goal.returns-in_err-plain-in-Dollar-clause-advanced
returns-in_err-plain-in-Dollar-clause-advanced g c f x h =
    let a = c.args in
    let r = c.plain-in-Dollar.new.self in
    let e = c.in_err-plain-in-Dollar in
    broke (λ o. Advanced g.S.Store g.P.Printer x a.self.now r a.store.now a.store.now a.printer.now c.plain-in-Dollar.new.printer o) _ _ c.from_residual-in_err-plain-in-Dollar.ensures.1
    (dollar_advances g.S.Store g.P.Printer a.store.now a.printer.now c.plain-in-Dollar.new.printer c.in-Dollar.place c.place-in-Dollar.result (Err e.field-0.0) (Err e.field-0.0) f h c.in-Dollar.is (c.place-in-Dollar.ensures ∙ ap place_of c.in-Dollar.is) e.ensures.shows c.plain-in-Dollar.ensures.capacity c.plain-in-Dollar.ensures.level c.plain-in-Dollar.ensures.still refl)

pub returns-in_err-show-in-Show-clause-advanced : goal.returns-in_err-show-in-Show-clause-advanced
returns-in_err-show-in-Show-clause-advanced g c f x h =
    let a = c.args in
    let r = c.show.new.self in
    let e = c.in_err-show-in-Show in
    broke (λ o. Advanced g.S.Store g.P.Printer x a.self.now r a.store.now a.store.now a.printer.now c.show.new.printer o) _ _ c.from_residual-in_err-show-in-Show.ensures.1
    (show_advances g.S.Store g.P.Printer a.store.now a.printer.now c.show.new.printer c.in-Show.place c.place-in-Show.result c.in-Show.size c.from-size.result c.front.result.now (Err e.field-0.0) (Err e.field-0.0) f h c.in-Show.is c.place-in-Show.ensures c.from-size.ensures c.front.ensures e.ensures.ran c.show.ensures.still refl)

pub returns-in_err-assign-in-Assign-clause-advanced :
    goal.returns-in_err-assign-in-Assign-clause-advanced
returns-in_err-assign-in-Assign-clause-advanced g c f x h =
    let a = c.args in
    let r = c.assign.new.self in
    let n = c.in-Assign in
    let e = c.in_err-assign-in-Assign in
    broke (λ o. Advanced g.S.Store g.P.Printer x a.self.now r a.store.now c.assign.new.store a.printer.now a.printer.now o) _ _ c.from_residual-in_err-assign-in-Assign.ensures.1
    (assign_advances g.S.Store g.P.Printer a.store.now c.assign.new.store a.printer.now n.place c.place-in-Assign.result n.subscript c.from-subscript.result n.right c.from-right.result n.name c.behind-sides.result.now c.front-in-Assign.result.now c.front-in-Assign-2.result.now (Err e.field-0.0) (Err e.field-0.0)
    f h n.is c.place-in-Assign.ensures c.from-subscript.ensures c.from-right.ensures c.behind-sides.ensures c.front-in-Assign.ensures c.front-in-Assign-2.ensures e.ensures.sets c.assign.ensures.capacity c.assign.ensures.still refl)

pub returns-in_ok-plain-in-Piece-clause-advanced :
    goal.returns-in_ok-plain-in-Piece-clause-advanced
returns-in_ok-plain-in-Piece-clause-advanced g c f x h =
    let a = c.args in
    piece_advances g.S.Store g.P.Printer a.store.now a.printer.now c.plain.new.printer c.in-Piece.span c.place.result c.part.result.now (Ok tt) (Ok a.more) f h c.in-Piece.is c.place.ensures c.part.ensures c.in_ok-plain-in-Piece.ensures.shows c.plain.ensures.capacity c.plain.ensures.level c.plain.ensures.still refl

pub returns-in_ok-plain-in-Dollar-clause-advanced :
    goal.returns-in_ok-plain-in-Dollar-clause-advanced
returns-in_ok-plain-in-Dollar-clause-advanced g c f x h =
    let a = c.args in
    dollar_advances g.S.Store g.P.Printer a.store.now a.printer.now c.plain-in-Dollar.new.printer c.in-Dollar.place c.place-in-Dollar.result (Ok tt) (Ok a.more) f h c.in-Dollar.is (c.place-in-Dollar.ensures ∙ ap place_of c.in-Dollar.is) c.in_ok-plain-in-Dollar.ensures.shows c.plain-in-Dollar.ensures.capacity c.plain-in-Dollar.ensures.level c.plain-in-Dollar.ensures.still refl

pub returns-in_ok-show-in-Show-clause-advanced : goal.returns-in_ok-show-in-Show-clause-advanced
returns-in_ok-show-in-Show-clause-advanced g c f x h =
    let a = c.args in
    show_advances g.S.Store g.P.Printer a.store.now a.printer.now c.show.new.printer c.in-Show.place c.place-in-Show.result c.in-Show.size c.from-size.result c.front.result.now (Ok tt) (Ok c.behind.result) f h c.in-Show.is c.place-in-Show.ensures c.from-size.ensures c.front.ensures c.in_ok-show-in-Show.ensures.ran c.show.ensures.still c.behind.ensures

pub returns-in_ok-assign-in-Assign-clause-advanced :
    goal.returns-in_ok-assign-in-Assign-clause-advanced
returns-in_ok-assign-in-Assign-clause-advanced g c f x h =
    let a = c.args in
    let n = c.in-Assign in
    assign_advances g.S.Store g.P.Printer a.store.now c.assign.new.store a.printer.now n.place c.place-in-Assign.result n.subscript c.from-subscript.result n.right c.from-right.result n.name c.behind-sides.result.now c.front-in-Assign.result.now c.front-in-Assign-2.result.now (Ok tt) (Ok c.behind-in-Assign.result)
    f h n.is c.place-in-Assign.ensures c.from-subscript.ensures c.from-right.ensures c.behind-sides.ensures c.front-in-Assign.ensures c.front-in-Assign-2.ensures c.in_ok-assign-in-Assign.ensures.sets c.assign.ensures.capacity c.assign.ensures.still c.behind-in-Assign.ensures

pub returns-in_default-clause-advanced : goal.returns-in_default-clause-advanced
returns-in_default-clause-advanced g c f x h =
    let a = c.args in
    let d = c.in_default in
    end_advances g.S.Store g.P.Printer a.store.now a.printer.now a.more f h refl d.not-Piece d.not-Dollar d.not-Show d.not-Assign
