use Rattle.std.proofs.Common.{sym, ◌∙◌}
use Rattle.reader.specs.Statements.{keyed_at}
use Rattle.reader.specs.Blocks.{opening_out, command_out}
use Rattle.reader.proofs.Blocks.{opening_fails, instructed_from, loops_few, word_begins, word_names, command_begins, simple_done, simple_small}
use Rattle.reader.proofs.instruction.Reader.worded.Goals as goal

pub keyed-requires : goal.keyed-requires
keyed-requires c = word_names c.args.self.now c.word-word.new.self c.word-word.result c.requires.entered c.requires.letter c.word-word.ensures.passed c.word-word.ensures.span (sym c.in-None.ensures)

pub returns-in_err-need-in-None : goal.returns-in_err-need-in-None
returns-in_err-need-in-None c =
    let r = c.args.self.now in
    let m = c.word-word.new.self in
    opening_fails r _ _ _ c.from_residual.ensures.1
    (λ ts. word_begins r.cursor m c.word-word.result r.«from» ts c.requires.letter c.word-word.ensures.passed c.word-word.ensures.span ∙ c.in_err-need-in-None.ensures ts)

pub needs-requires : goal.needs-requires
needs-requires c = (simple_small _ _ _ _ _ c.keyed.new.self c.in_ok-need-in-None.ensures, loops_few _ _ c.requires.entered.standing)

pub returns-in-Some : goal.returns-in-Some
returns-in-Some c =
    let r = c.args.self.now in
    let m = c.word-word.new.self in
    let w = c.word-word.ensures in
    instructed_from (opening_out r.cursor.text.now r.cursor.pos) (command_out m.text.now c.in-Some.keyword m.pos) r m _ _ _ _ _ w.passed.same w.passed.all.onwards
    (λ ts. command_begins r.cursor m c.word-word.result c.in-Some.keyword r.«from» ts c.requires.letter w.passed w.span (sym c.in-Some.ensures))
    c.commanded.ensures

pub returns-in_ok-need-in-None : goal.returns-in_ok-need-in-None
returns-in_ok-need-in-None c =
    let r = c.args.self.now in
    let m = c.word-word.new.self in
    let w = c.word-word.ensures in
    simple_done (opening_out r.cursor.text.now r.cursor.pos) r _ _ m c.keyed.new.self _ (keyed_at m.text.now r.«from» c.word-word.result.«from» c.word-word.result.to) c.requires.entered w.passed.same w.passed.all.onwards
    (λ ts. word_begins r.cursor m c.word-word.result r.«from» ts c.requires.letter w.passed w.span)
    c.in_ok-need-in-None.ensures c.needs.ensures
