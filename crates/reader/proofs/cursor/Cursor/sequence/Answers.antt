use Rattle.std.proofs.Common.{Some, refl, ap, ◌∙◌, arith}
use Rattle.grammar.specs.Machine.{running}
use Rattle.reader.specs.Reads.{Sequenced}
use Rattle.reader.proofs.Leaves.{by_break}
use Rattle.reader.proofs.Seqs.{sequence_unpaired, sequence_undotted, sequence_misread, sequence_fails, lasting, puts_alone, puts_joined, sequenced}
use Rattle.reader.proofs.cursor.Cursor.sequence.Goals as goal
use Rattle.reader.proofs.cursor.Cursor.sequence.Goals.{then-not-empty, else-not-empty, in_default-via-in-Some+in_default, in_default-via-in_default}

pub returns-in_default : goal.returns-in_default
returns-in_default c =
    sequence_unpaired c.args.self.now c.args.first c.args.second _ c.requires.1.0
    (λ q s k. elim c.in_default.branch [
      | in_default-via-in-Some+in_default w ↦ ap (λ a. running q s a c.args.second k) w.in_default.is-0 ∙ ap (λ b. running q s (Some w.in_default.field-0-0) b k) w.in_default.is-1
      | in_default-via-in_default w ↦ ap (λ a. running q s a c.args.second k) w.in_default.is-0
    ])
    c.refuse.ensures

pub returns-in_err-ellipsis : goal.returns-in_err-ellipsis
returns-in_err-ellipsis c =
    let r = c.args.self.now in
    let h = c.in-Some-Some in
    by_break (λ o. Sequenced r.text.now c.args.first c.args.second c.args.empty r o c.ellipsis.new.self) _ _ c.from_residual.ensures.1
    (λ q s k x y ex ey. sequence_undotted r c.ellipsis.new.self _ _ _ c.requires.1.0 c.in_err-ellipsis.ensures q s k x y (ex ∙ h.is-0) (ey ∙ h.is-1))

pub returns-in_err-last : goal.returns-in_err-last
returns-in_err-last c =
    let r = c.args.self.now in
    let h = c.in-Some-Some in
    by_break (λ o. Sequenced r.text.now c.args.first c.args.second c.args.empty r o c.numeral.new.self) _ _ c.from_residual-in_err-last.ensures.1
    (λ q s k x y ex ey. sequence_misread r _ c.requires.1.0 c.in_ok-ellipsis.ensures c.numeral.new.self _ _ _ c.in_err-last.ensures q s k x y (ex ∙ h.is-0) (ey ∙ h.is-1))

pub returns-in_err-last-2 : goal.returns-in_err-last-2
returns-in_err-last-2 c =
    let r = c.args.self.now in
    let h = c.in-Some-Some in
    by_break (λ o. Sequenced r.text.now c.args.first c.args.second c.args.empty r o c.numeral.new.self) _ _ c.from_residual-in_err-last-2.ensures.1
    (λ q s k x y ex ey. sequence_fails r _ c.requires.1.0 c.in_ok-ellipsis.ensures c.numeral.new.self _ c.in_ok-last.ensures _ _ _ c.in_err-last-2.ensures q s k x y (ex ∙ h.is-0) (ey ∙ h.is-1))

pub returns : goal.returns
returns c =
    let r = c.args.self.now in
    let h = c.in-Some-Some in
    let l = lasting r _ c.requires.1.0 c.in_ok-ellipsis.ensures c.numeral.new.self _ c.in_ok-last.ensures _ _ _ c.in_ok-last-2.ensures in
    elim c.if-not-empty.branch [
      | then-not-empty w ↦
          sequenced r _ _ _ _ _ _ _ _ _ _ l
          (puts_joined c.numeral.new.self _ _ c.args.empty (omega arith) w.if-not-empty.true w.self-is c.push.ensures (record { text = refl; state = refl; pos = refl; table = w.push-then-not-empty.ensures }))
          c.blanks.ensures _ c.requires.0.inward h.is-0 h.is-1 c.end_sequence.ensures
      | else-not-empty w ↦
          sequenced r _ _ _ _ _ _ _ _ _ _ l
          (puts_alone c.numeral.new.self _ c.args.empty (omega arith) w.if-not-empty.false w.self-is (record { text = refl; state = refl; pos = refl; table = c.push.ensures }))
          c.blanks.ensures _ c.requires.0.inward h.is-0 h.is-1 c.end_sequence.ensures
    ]
