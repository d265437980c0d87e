use Rattle.std.proofs.Common.{◌∙◌}
use Rattle.reader.specs.Statements.{shown_at}
use Rattle.reader.specs.Blocks.{opening_out}
use Rattle.reader.proofs.Blocks.{opening_fails, instructed_from, loops_few, blanks_begin, simple_done, simple_small}
use Rattle.reader.proofs.instruction.Reader.instruction.Goals as goal

pub returns-then-eq : goal.returns-then-eq
returns-then-eq c =
    let r = c.args.self.now in
    let m = c.blanks.new.self in
    instructed_from (opening_out r.cursor.text.now r.cursor.pos) (opening_out m.text.now m.pos) r m _ _ _ _ _ c.blanks.ensures.same c.blanks.ensures.all.onwards (λ ts. blanks_begin r.cursor m r.«from» ts c.blanks.ensures) c.worded.ensures

pub returns-in_err-need : goal.returns-in_err-need
returns-in_err-need c =
    let r = c.args.self.now in
    opening_fails r _ _ _ c.from_residual.ensures.1
    (λ ts. blanks_begin r.cursor c.blanks.new.self r.«from» ts c.blanks.ensures ∙ c.in_err-need.ensures ts)

pub needs-requires : goal.needs-requires
needs-requires c = (simple_small _ _ _ _ _ c.shown.new.self c.in_ok-need.ensures, loops_few _ _ c.requires.standing)

pub returns : goal.returns
returns c =
    let r = c.args.self.now in
    let m = c.blanks.new.self in
    simple_done (opening_out r.cursor.text.now r.cursor.pos) r _ _ m c.shown.new.self _ (shown_at r.«from») c.requires c.blanks.ensures.same c.blanks.ensures.all.onwards (λ ts. blanks_begin r.cursor m r.«from» ts c.blanks.ensures) c.in_ok-need.ensures c.needs.ensures
