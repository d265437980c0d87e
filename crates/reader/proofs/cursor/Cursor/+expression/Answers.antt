use Rattle.std.proofs.Common.{◌≡◌, ◌+◌, false, None, sym, refl, ap, ◌∙◌, arith, rules, inl, inr}
use Rattle.grammar.specs.Machine.{want}
use Rattle.reader.specs.declared.cursor.Inside.TheVariants.{Call, Curly}
use Rattle.reader.specs.States.{fault}
use Rattle.refusals.specs.declared.Refusal.TheVariants.{BadCall}
use Rattle.reader.specs.Scans.{start_at, after_at}
use Rattle.reader.specs.Reads.{Fitting, Wanting, Did, Tailed, Joined, Subscribed, Called, Argued, Continued}
use Rattle.reader.proofs.Leaves.{by_break}
use Rattle.reader.proofs.Joins.{chained, spaced_did, wanting_on, primal, primary_fails, signed_fails, signed_twice, signed_took, long_joins, long_fails, short_joins_at, tight_some, tailing_none, tailing_more, tailing_fails, tailing_stops, tail_smaller}
use Rattle.reader.proofs.cursor.Cursor.+expression.Goals as goal
use Rattle.reader.specs.declared.cursor.Cursor.{Cursor}
use Rattle.reader.proofs.cursor.Cursor.+expression.Goals.{signed-in-Sign, signed-in_default, tail-then-is_short+in_ok-right, tail-else-is_short+in_ok-right-2, call-in-EndRound, call-in_default+in_ok-arguments-in_default, call-then-arguments-from-via-then-arguments-from, call-then-arguments-from-via-else-arguments-from+then-arguments-from-2, item-then-not-empty, item-else-not-empty, list-in-EndCurly, list-in_default}
use Rattle.reader.specs.declared.cursor.Inside.TheVariants as inside
use Rattle.tokens.specs.declared.byte.After.TheVariants as past
use Rattle.tokens.specs.declared.byte.Separator.TheVariants.{Comma}
use Rattle.reader.proofs.Places.{start_passed, after_passed}
use Rattle.reader.proofs.Passing.{ready_on, ready_went, spaced_solid}
use Rattle.reader.proofs.Limits.{ends_here}
use Rattle.reader.proofs.Opens.{Opened, opened, full, missing, round_took, round_fails, round_unclosed, round_deep, square_took, square_fails, square_unclosed, square_deep, name_fails, name_took, name_call, name_index_fails, name_index, argument_fails, argument_last, argument_next, argument_stop, arguing_first, call_deep, call_unknown, Listed, listed_none, listed_some, listed_fails, listed_is, call_miscounted, call_took}
use Rattle.reader.proofs.Seqs as seqs
use Rattle.tokens.specs.declared.byte.Start.TheVariants as start
use Rattle.reader.specs.Tables.{restored}

pub long-returns-in_err-right-clause-did : goal.long-returns-in_err-right-clause-did
long-returns-in_err-right-clause-did t c =
    by_break (λ o. Joined c.args.self.now.text.now c.args.op c.args.context c.args.self.now o c.operators.new.self) _ _ c.from_residual.ensures.1
    (long_fails c.args.op c.args.context _ c.args.self.now c.pass_operator.new.self _ (ap (λ l. l + 1) c.level.ensures) c.requires.1.0 c.pass_operator.ensures c.in_err-right.ensures.did)

pub long-returns-clause-did : goal.long-returns-clause-did
long-returns-clause-did t c =
    long_joins c.args.op c.args.context _ c.in_ok-right.right c.args.self.now c.pass_operator.new.self c.operators.new.self _ c.requires.1.1 (ap (λ l. l + 1) c.level.ensures) c.requires.0.inward c.requires.1.0 c.pass_operator.ensures c.in_ok-right.ensures.did c.in_ok-right.ensures.stops (record { text = refl; state = refl; pos = refl; table = c.push.ensures })

pub operand-returns-in-Sign : goal.operand-returns-in-Sign
operand-returns-in-Sign t c =
    spaced_did c.args.context c.args.self.now _ _ c.requires.inward c.blanks.ensures _ _ _ (λ k w. w.fit) c.signed.ensures

pub operand-returns-in_default : goal.operand-returns-in_default
operand-returns-in_default t c =
    spaced_did c.args.context c.args.self.now _ _ c.requires.inward c.blanks.ensures _ _ _ (λ k w. wanting_on c.args.context c.args.self.now _ c.primary.new.self c.requires.inward c.blanks.ensures 11 k (omega arith) w) c.primary.ensures

pub operand-primary-requires : goal.operand-primary-requires
operand-primary-requires t c =
    (omega arith, (ready_on c.requires c.blanks.ensures.same c.blanks.ensures.all.onwards, primal c.blanks.new.self.text.now c.blanks.new.self.pos (spaced_solid c.blanks.ensures) (λ s e. c.in_default.not-Sign s (c.start.ensures ∙ e))))

pub operators-returns-clause-did : goal.operators-returns-clause-did
operators-returns-clause-did t c =
    chained _ _ _ c.args.self.now _ _ _ c.requires.1.1 c.in_ok-first.ensures c.blanks.ensures _ c.tail.ensures.did

pub primary-returns-in_default : goal.primary-returns-in_default
primary-returns-in_default t c =
    let s = c.start.ensures in
    primary_fails _ _ _ _ c.requires.1 (λ e. c.in_default.not-Digit (s ∙ e)) (λ e. c.in_default.not-Letter (s ∙ e)) (λ e. c.in_default.not-Quote (s ∙ e)) (λ e. c.in_default.not-Round (s ∙ e)) (λ e. c.in_default.not-Curly (s ∙ e)) c.refuse.ensures

pub short-returns-in_err-right-clause-did : goal.short-returns-in_err-right-clause-did
short-returns-in_err-right-clause-did t c =
    by_break (λ o. Joined c.args.self.now.text.now c.args.op c.args.context c.args.self.now o c.operators.new.self) _ _ c.from_residual.ensures.1
    (long_fails c.args.op c.args.context _ c.args.self.now _ _ (ap (λ l. l + 1) c.level.ensures) c.requires.1.0 c.pass_operator.ensures c.in_err-right.ensures.did)

pub short-returns-clause-did : goal.short-returns-clause-did
short-returns-clause-did t c =
    short_joins_at c.args.op c.args.context _ _ _ _ c.in_ok-right.right c.push-2.new.self c.args.self.now c.pass_operator.new.self _ c.operators.new.self _ (ap (λ (z : Cursor). z.pos) c.self.view_is) (ap (λ (z : Cursor). z.table.len) c.self.view_is) c.requires.1.1 (ap (λ l. l + 1) c.level.ensures) c.requires.0.inward c.requires.1.0 c.pass_operator.ensures (record { text = refl; state = refl; pos = refl; table = c.push.ensures }) c.in_ok-right.ensures.did c.in_ok-right.ensures.stops c.push-2.ensures c.nodes_behind-skip.ensures (record { text = refl; state = refl; pos = refl; table = c.patch.ensures })

pub signed-pass-requires : goal.signed-pass-requires
signed-pass-requires t c =
    start_passed c.args.self.now c.requires.0.inward c.requires.1 (λ q. cc) (λ o. cc)

pub signed-returns-then-matches : goal.signed-returns-then-matches
signed-returns-then-matches t c =
    elim c.match-matches.branch [
      | signed-in-Sign w ↦ signed_twice c.args.context c.args.sign c.args.self.now c.pass.new.self _ c.requires.0.inward c.requires.1 c.pass.ensures c.blanks.ensures w.in-Sign.field-0 _ (sym w.in-Sign.ensures) c.refuse.ensures
      | signed-in_default w ↦ absurd (cc (c.if-matches.true, w.matches-is))
    ]

pub signed-primary-requires : goal.signed-primary-requires
signed-primary-requires t c =
    elim c.match-matches.branch [
      | signed-in-Sign w ↦ absurd (cc (c.if-matches.false, w.matches-is))
      | signed-in_default w ↦ (omega arith, (ready_on (ready_on c.requires.0 c.pass.ensures (omega arith)) c.blanks.ensures.same c.blanks.ensures.all.onwards, primal c.blanks.new.self.text.now c.blanks.new.self.pos (spaced_solid c.blanks.ensures) (λ s e. w.in_default.not-Sign s (c.start.ensures ∙ e))))
    ]

pub signed-returns-in_err-operand : goal.signed-returns-in_err-operand
signed-returns-in_err-operand t c =
    by_break (λ o. Did c.args.self.now.text.now (Fitting 11 c.args.context) want c.args.self.now o c.primary.new.self) _ _ c.from_residual.ensures.1
    (signed_fails c.args.context c.args.sign c.args.self.now c.pass.new.self _ c.requires.0.inward c.requires.1 c.pass.ensures c.blanks.ensures _ c.in_err-operand.ensures)

pub signed-returns : goal.signed-returns
signed-returns t c =
    signed_took c.args.context c.args.sign c.args.self.now c.pass.new.self _ c.requires.0.inward c.requires.1 c.pass.ensures c.blanks.ensures c.in_ok-operand.operand c.computed.result c.primary.new.self _ c.in_ok-operand.ensures c.computed.ensures (record { text = refl; state = refl; pos = refl; table = c.push.ensures })

pub tail-short-requires : goal.tail-short-requires
tail-short-requires t c =
    let h = tight_some c.args.level _ c.in-Some.op c.in-Some.ensures in
    (omega (arith, h.1), (ready_went _ c.requires.0 c.loop-op.invariant.chain.went, (h.0, sym c.if-is_short.ensures)))

pub tail-returns-in_err-right-clause-did : goal.tail-returns-in_err-right-clause-did
tail-returns-in_err-right-clause-did t c =
    let h = tight_some c.args.level _ c.in-Some.op c.in-Some.ensures in
    by_break (λ o. Tailed c.args.self.now.text.now c.args.level c.args.context c.args.first c.args.self.now o c.short.new.self) _ _ c.from_residual.ensures.1
    (tailing_fails c.args.level c.args.context c.args.first _ c.in-Some.op c.args.self.now c.loop-op.self _ c.loop-op.invariant h.1 c.in_err-right.ensures.did)

pub tail-long-requires : goal.tail-long-requires
tail-long-requires t c =
    let h = tight_some c.args.level _ c.in-Some.op c.in-Some.ensures in
    (omega (arith, h.1), (ready_went _ c.requires.0 c.loop-op.invariant.chain.went, (h.0, sym c.if-is_short.ensures)))

pub tail-returns-in_err-right-2-clause-did : goal.tail-returns-in_err-right-2-clause-did
tail-returns-in_err-right-2-clause-did t c =
    let h = tight_some c.args.level _ c.in-Some.op c.in-Some.ensures in
    by_break (λ o. Tailed c.args.self.now.text.now c.args.level c.args.context c.args.first c.args.self.now o c.long.new.self) _ _ c.from_residual-in_err-right-2.ensures.1
    (tailing_fails c.args.level c.args.context c.args.first _ c.in-Some.op c.args.self.now c.loop-op.self _ c.loop-op.invariant h.1 c.in_err-right-2.ensures.did)

pub tail-loop-op-smaller : goal.tail-loop-op-smaller
tail-loop-op-smaller t c =
    elim c.if-is_short.branch [
      | tail-then-is_short+in_ok-right w ↦ tail_smaller c.args.level c.args.context c.args.first c.loop-op.operand c.in-Some.op _ c.args.self.now c.loop-op.self _ _ c.loop-op.invariant w.in_ok-right.ensures.did w.self-is
      | tail-else-is_short+in_ok-right-2 w ↦ tail_smaller c.args.level c.args.context c.args.first c.loop-op.operand c.in-Some.op _ c.args.self.now c.loop-op.self _ _ c.loop-op.invariant w.in_ok-right-2.ensures.did w.self-is
    ]

pub tail-returns-clause-stops : goal.tail-returns-clause-stops
tail-returns-clause-stops t c = tailing_stops c.args.level c.args.context c.args.first c.loop-op.operand c.args.self.now c.loop-op.self c.loop-op.invariant c.in_default.ensures

pub tail-loop-op-init : goal.tail-loop-op-init
tail-loop-op-init t c =
    tailing_none _ _ _ c.args.self.now c.requires.0.inward c.requires.1.1.1

pub tail-loop-op-preserved : goal.tail-loop-op-preserved
tail-loop-op-preserved t c =
    let h = tight_some c.args.level _ c.in-Some.op c.in-Some.ensures in
    elim c.if-is_short.branch [
      | tail-then-is_short+in_ok-right w ↦ tailing_more c.args.level _ _ _ c.args.context c.args.first c.loop-op.operand _ c.in-Some.op c.args.self.now c.loop-op.self _ _ c.loop-op.invariant h.1 w.in_ok-right.ensures.did w.in_ok-right.ensures.stops w.self-is w.right-is (c.computed-operand.ensures ∙ ap (λ n. record { need = n; constant = None }) c.max.ensures)
      | tail-else-is_short+in_ok-right-2 w ↦ tailing_more c.args.level _ _ _ c.args.context c.args.first c.loop-op.operand _ c.in-Some.op c.args.self.now c.loop-op.self _ _ c.loop-op.invariant h.1 w.in_ok-right-2.ensures.did w.in_ok-right-2.ensures.stops w.self-is w.right-is (c.computed-operand.ensures ∙ ap (λ n. record { need = n; constant = None }) c.max.ensures)
    ]

pub arguments-returns-in_err-argument : goal.arguments-returns-in_err-argument
arguments-returns-in_err-argument t c =
    by_break (λ o. Argued c.args.self.now.text.now c.args.context.left c.args.self.now o c.operators.new.self) _ _ c.from_residual.ensures.1 (argument_fails c.args.context c.args.self.now c.loop-argument.self c.loop-argument.count c.loop-argument.need c.loop-argument.invariant c.requires.1 _ c.operators.new.self c.in_err-argument.ensures.did)

pub arguments-pass-requires : goal.arguments-pass-requires
arguments-pass-requires t c =
    let h : after_at c.operators.new.self.text.now c.operators.new.self.pos ≡ past.Separator Comma = cc (c.in-Separator-Comma.ensures, c.in-Separator-Comma.field-0-is) in
    after_passed c.operators.new.self c.in_ok-argument.ensures.did.went.inward h (λ d. cc) (λ q. cc) (λ o. cc)

pub arguments-returns-in-End-Round : goal.arguments-returns-in-End-Round
arguments-returns-in-End-Round t c =
    argument_last c.args.context c.args.self.now c.loop-argument.self c.loop-argument.count c.loop-argument.need c.loop-argument.invariant c.requires.1 _ c.operators.new.self c.in_ok-argument.ensures.did (cc (c.in-End-Round.ensures, c.in-End-Round.field-0-is)) _ c.max-need.ensures

pub arguments-returns-in_default : goal.arguments-returns-in_default
arguments-returns-in_default t c =
    let e : ends_here inside.Call (after_at c.operators.new.self.text.now c.operators.new.self.pos) ≡ false = search rules in
    argument_stop c.args.context c.args.self.now c.loop-argument.self c.loop-argument.count c.loop-argument.need c.loop-argument.invariant c.requires.1 _ c.operators.new.self _ c.in_ok-argument.ensures.did c.in_ok-argument.ensures.stops e c.unexpected.ensures

pub call-returns-in_err-inner : goal.call-returns-in_err-inner
call-returns-in_err-inner t c =
    by_break (λ o. Called c.args.self.now.text.now c.args.name.«from» c.args.name.to c.args.context.left c.args.self.now o c.args.self.now) _ _ c.from_residual.ensures.1
    (call_deep c.args.context c.args.self.now c.args.name.«from» c.args.name.to _ c.requires.1.0 (full inside.Call c.args.context c.inner.ensures c.in_err-inner.ensures.ok_part) (missing c.too_deep.result c.in_err-inner.ensures.value c.in_err-inner.ensures.ok_part ∙ c.too_deep.ensures))

pub call-returns-in_err-signature : goal.call-returns-in_err-signature
call-returns-in_err-signature t c =
    by_break (λ o. Called c.args.self.now.text.now c.args.name.«from» c.args.name.to c.args.context.left c.args.self.now o c.args.self.now) _ _ c.from_residual-in_err-signature.ensures.1
    (call_unknown c.args.context c.in_ok-inner.inner c.args.self.now c.args.name.«from» c.args.name.to _ c.requires.1.0 (opened c.inner.ensures c.in_ok-inner.ensures.ok_part) (sym c.find.ensures ∙ c.in_err-signature.ensures.ok_part) (missing (fault BadCall c.args.name.«from») c.in_err-signature.ensures.value c.in_err-signature.ensures.ok_part))

pub call-pass-requires : goal.call-pass-requires
call-pass-requires t c =
    after_passed c.args.self.now c.requires.0.inward c.requires.1.0 (λ d. cc) (λ q. cc) (λ o. cc)

pub call-returns-in_err-arguments-in_default : goal.call-returns-in_err-arguments-in_default
call-returns-in_err-arguments-in_default t c =
    by_break (λ o. Called c.args.self.now.text.now c.args.name.«from» c.args.name.to c.args.context.left c.args.self.now o c.arguments.new.self) _ _ c.from_residual-in_err-arguments-in_default.ensures.1
    (listed_fails c.args.name.«from» c.args.name.to c.in_ok-signature.signature c.args.context c.in_ok-inner.inner c.args.self.now c.pass.new.self c.blanks.new.self c.requires.0 c.requires.1.0 (opened c.inner.ensures c.in_ok-inner.ensures.ok_part) (sym c.find.ensures ∙ c.in_ok-signature.ensures.ok_part) c.pass.ensures c.blanks.ensures (λ e. c.in_default.not-EndRound (c.start.ensures ∙ e)) _ c.arguments.new.self c.in_err-arguments-in_default.ensures)

pub call-returns-then-arguments-from : goal.call-returns-then-arguments-from
call-returns-then-arguments-from t c =
    let l : Listed c.args.name.«from» c.args.name.to c.in_ok-signature.signature c.args.context.left c.args.self.now c.match-start.arguments c.match-start.self =
    elim c.match-start.branch [
      | call-in-EndRound w ↦ listed_is (listed_none c.args.name.«from» c.args.name.to c.in_ok-signature.signature c.args.context c.in_ok-inner.inner c.args.self.now c.pass.new.self c.blanks.new.self c.requires.0 c.requires.1.0 (opened c.inner.ensures c.in_ok-inner.ensures.ok_part) (sym c.find.ensures ∙ c.in_ok-signature.ensures.ok_part) c.pass.ensures c.blanks.ensures (sym w.in-EndRound.ensures)) w.arguments-is w.self-is
      | call-in_default+in_ok-arguments-in_default w ↦ listed_is (listed_some c.args.name.«from» c.args.name.to c.in_ok-signature.signature c.args.context c.in_ok-inner.inner c.args.self.now c.pass.new.self c.blanks.new.self c.requires.0 c.requires.1.0 (opened c.inner.ensures c.in_ok-inner.ensures.ok_part) (sym c.find.ensures ∙ c.in_ok-signature.ensures.ok_part) c.pass.ensures c.blanks.ensures (λ e. w.in_default.not-EndRound (c.start.ensures ∙ e)) _ _ w.in_ok-arguments-in_default.ensures) w.arguments-is w.self-is
    ]
    in
    call_miscounted c.args.name.«from» c.args.name.to c.in_ok-signature.signature c.args.context.left c.args.self.now c.match-start.arguments c.match-start.self l
    (elim c.then-arguments-from.branch [
      | call-then-arguments-from-via-then-arguments-from w ↦ inl (omega (arith, w.if-arguments-from.true, c.from.ensures))
      | call-then-arguments-from-via-else-arguments-from+then-arguments-from-2 w ↦ inr (omega (arith, w.if-arguments-from-2.true, w.from-else-arguments-from.ensures))
    ])

pub call-pass-requires-2 : goal.call-pass-requires-2
call-pass-requires-2 t c =
    let l : Listed c.args.name.«from» c.args.name.to c.in_ok-signature.signature c.args.context.left c.args.self.now c.match-start.arguments c.match-start.self =
    elim c.match-start.branch [
      | call-in-EndRound w ↦ listed_is (listed_none c.args.name.«from» c.args.name.to c.in_ok-signature.signature c.args.context c.in_ok-inner.inner c.args.self.now c.pass.new.self c.blanks.new.self c.requires.0 c.requires.1.0 (opened c.inner.ensures c.in_ok-inner.ensures.ok_part) (sym c.find.ensures ∙ c.in_ok-signature.ensures.ok_part) c.pass.ensures c.blanks.ensures (sym w.in-EndRound.ensures)) w.arguments-is w.self-is
      | call-in_default+in_ok-arguments-in_default w ↦ listed_is (listed_some c.args.name.«from» c.args.name.to c.in_ok-signature.signature c.args.context c.in_ok-inner.inner c.args.self.now c.pass.new.self c.blanks.new.self c.requires.0 c.requires.1.0 (opened c.inner.ensures c.in_ok-inner.ensures.ok_part) (sym c.find.ensures ∙ c.in_ok-signature.ensures.ok_part) c.pass.ensures c.blanks.ensures (λ e. w.in_default.not-EndRound (c.start.ensures ∙ e)) _ _ w.in_ok-arguments-in_default.ensures) w.arguments-is w.self-is
    ]
    in
    l.ends

pub call-returns : goal.call-returns
call-returns t c =
    let l : Listed c.args.name.«from» c.args.name.to c.in_ok-signature.signature c.args.context.left c.args.self.now c.match-start.arguments c.match-start.self =
    elim c.match-start.branch [
      | call-in-EndRound w ↦ listed_is (listed_none c.args.name.«from» c.args.name.to c.in_ok-signature.signature c.args.context c.in_ok-inner.inner c.args.self.now c.pass.new.self c.blanks.new.self c.requires.0 c.requires.1.0 (opened c.inner.ensures c.in_ok-inner.ensures.ok_part) (sym c.find.ensures ∙ c.in_ok-signature.ensures.ok_part) c.pass.ensures c.blanks.ensures (sym w.in-EndRound.ensures)) w.arguments-is w.self-is
      | call-in_default+in_ok-arguments-in_default w ↦ listed_is (listed_some c.args.name.«from» c.args.name.to c.in_ok-signature.signature c.args.context c.in_ok-inner.inner c.args.self.now c.pass.new.self c.blanks.new.self c.requires.0 c.requires.1.0 (opened c.inner.ensures c.in_ok-inner.ensures.ok_part) (sym c.find.ensures ∙ c.in_ok-signature.ensures.ok_part) c.pass.ensures c.blanks.ensures (λ e. w.in_default.not-EndRound (c.start.ensures ∙ e)) _ _ w.in_ok-arguments-in_default.ensures) w.arguments-is w.self-is
    ]
    in
    call_took c.args.name.«from» c.args.name.to c.in_ok-signature.signature c.args.context.left c.args.self.now c.match-start.arguments c.match-start.self l (omega (arith, c.if-arguments-from.false, c.from.ensures)) (omega (arith, c.if-arguments-from-2.false, c.from-else-arguments-from.ensures)) c.pass-2.new.self _ c.pass-2.ensures (record { text = refl; state = refl; pos = refl; table = c.push.ensures }) _ c.computed.ensures

pub name-returns-in_err-name : goal.name-returns-in_err-name
name-returns-in_err-name t c =
    by_break (λ o. Did c.args.self.now.text.now (Wanting c.args.self.now.text.now c.args.self.now.pos 12 c.args.context) want c.args.self.now o c.free_name.new.self) _ _ c.from_residual.ensures.1 (name_fails c.args.context c.args.self.now c.free_name.new.self _ c.requires.1 c.in_err-name.ensures.passed c.in_err-name.ensures.name)

pub name-returns-in_err-need-in-Square : goal.name-returns-in_err-need-in-Square
name-returns-in_err-need-in-Square t c =
    by_break (λ o. Did c.args.self.now.text.now (Wanting c.args.self.now.text.now c.args.self.now.pos 12 c.args.context) want c.args.self.now o c.subscript.new.self) _ _ c.from_residual-in_err-need-in-Square.ensures.1 (name_index_fails c.args.context c.args.self.now c.free_name.new.self c.blanks.new.self c.in_ok-name.name c.requires.1 c.in_ok-name.ensures.passed c.in_ok-name.ensures.name c.blanks.ensures _ c.subscript.new.self c.in_err-need-in-Square.ensures)

pub name-returns-in_ok-need-in-Square : goal.name-returns-in_ok-need-in-Square
name-returns-in_ok-need-in-Square t c =
    name_index c.args.context c.args.self.now c.free_name.new.self c.blanks.new.self c.in_ok-name.name c.requires.1 c.in_ok-name.ensures.passed c.in_ok-name.ensures.name c.blanks.ensures c.in_ok-need-in-Square.need c.subscript.new.self c.in_ok-need-in-Square.ensures c.narrow.result c.narrow.ensures _ (record { text = refl; state = refl; pos = refl; table = c.push.ensures }) _ c.computed.ensures

pub name-returns-in-Round : goal.name-returns-in-Round
name-returns-in-Round t c =
    name_call c.args.context c.args.self.now c.free_name.new.self c.blanks.new.self c.in_ok-name.name c.requires.1 c.in_ok-name.ensures.passed c.in_ok-name.ensures.name c.blanks.ensures _ c.call.new.self c.call.ensures

pub name-returns-in_default : goal.name-returns-in_default
name-returns-in_default t c =
    name_took c.args.context c.args.self.now c.free_name.new.self c.blanks.new.self c.in_ok-name.name c.requires.1 c.in_ok-name.ensures.passed c.in_ok-name.ensures.name c.blanks.ensures c.requires.0 (λ e. c.in_default.not-Round (c.after.ensures ∙ e)) (λ e. c.in_default.not-Square (c.after.ensures ∙ e)) c.narrow-in_default.result c.narrow-in_default.ensures _ (record { text = refl; state = refl; pos = refl; table = c.push-in_default.ensures }) _ c.computed-in_default.ensures

pub round-returns-in_err-inner : goal.round-returns-in_err-inner
round-returns-in_err-inner t c =
    by_break (λ o. Did c.args.self.now.text.now (Fitting 12 c.args.context) want c.args.self.now o c.args.self.now) _ _ c.from_residual.ensures.1 (round_deep c.args.context c.args.self.now _ c.requires.1 (full inside.Round c.args.context c.inner.ensures c.in_err-inner.ensures.ok_part) (missing c.too_deep.result c.in_err-inner.ensures.value c.in_err-inner.ensures.ok_part ∙ c.too_deep.ensures))

pub round-pass-requires : goal.round-pass-requires
round-pass-requires t c =
    start_passed c.args.self.now c.requires.0.inward c.requires.1 (λ q. cc) (λ o. cc)

pub round-returns-in_err-held : goal.round-returns-in_err-held
round-returns-in_err-held t c =
    by_break (λ o. Did c.args.self.now.text.now (Fitting 12 c.args.context) want c.args.self.now o c.operators.new.self) _ _ c.from_residual-in_err-held.ensures.1 (round_fails c.args.context c.in_ok-inner.inner c.args.self.now c.pass.new.self c.requires.1 (opened c.inner.ensures c.in_ok-inner.ensures.ok_part) c.pass.ensures _ c.in_err-held.ensures.did)

pub round-returns-in_err-close : goal.round-returns-in_err-close
round-returns-in_err-close t c =
    by_break (λ o. Did c.args.self.now.text.now (Fitting 12 c.args.context) want c.args.self.now o c.close.new.self) _ _ c.from_residual-in_err-close.ensures.1 (round_unclosed c.args.context c.in_ok-inner.inner c.args.self.now c.pass.new.self c.requires.1 (opened c.inner.ensures c.in_ok-inner.ensures.ok_part) c.pass.ensures _ c.operators.new.self c.close.new.self _ c.in_ok-held.ensures.did c.in_ok-held.ensures.stops c.in_err-close.ensures)

pub round-returns : goal.round-returns
round-returns t c =
    round_took c.args.context c.in_ok-inner.inner c.args.self.now c.pass.new.self c.requires.1 (opened c.inner.ensures c.in_ok-inner.ensures.ok_part) c.pass.ensures _ _ c.operators.new.self c.close.new.self c.in_ok-held.ensures.did c.in_ok-close.ensures c.computed.ensures

pub subscript-returns-in_err-inner : goal.subscript-returns-in_err-inner
subscript-returns-in_err-inner t c =
    by_break (λ o. Subscribed c.args.self.now.text.now c.args.context.left c.args.self.now o c.args.self.now) _ _ c.from_residual.ensures.1 (square_deep c.args.context c.args.self.now _ c.requires.1 (full inside.Square c.args.context c.inner.ensures c.in_err-inner.ensures.ok_part) (missing c.too_deep.result c.in_err-inner.ensures.value c.in_err-inner.ensures.ok_part ∙ c.too_deep.ensures))

pub subscript-pass-requires : goal.subscript-pass-requires
subscript-pass-requires t c =
    after_passed c.args.self.now c.requires.0.inward c.requires.1 (λ d. cc) (λ q. cc) (λ o. cc)

pub subscript-returns-in_err-held : goal.subscript-returns-in_err-held
subscript-returns-in_err-held t c =
    by_break (λ o. Subscribed c.args.self.now.text.now c.args.context.left c.args.self.now o c.operators.new.self) _ _ c.from_residual-in_err-held.ensures.1 (square_fails c.args.context c.in_ok-inner.inner c.args.self.now c.pass.new.self c.requires.1 (opened c.inner.ensures c.in_ok-inner.ensures.ok_part) c.pass.ensures _ c.in_err-held.ensures.did)

pub subscript-returns-in_err-close : goal.subscript-returns-in_err-close
subscript-returns-in_err-close t c =
    by_break (λ o. Subscribed c.args.self.now.text.now c.args.context.left c.args.self.now o c.close.new.self) _ _ c.from_residual-in_err-close.ensures.1 (square_unclosed c.args.context c.in_ok-inner.inner c.args.self.now c.pass.new.self c.requires.1 (opened c.inner.ensures c.in_ok-inner.ensures.ok_part) c.pass.ensures _ c.operators.new.self c.close.new.self _ c.in_ok-held.ensures.did c.in_ok-held.ensures.stops c.in_err-close.ensures)

pub subscript-returns : goal.subscript-returns
subscript-returns t c =
    square_took c.args.context c.in_ok-inner.inner c.args.self.now c.pass.new.self c.requires.1 (opened c.inner.ensures c.in_ok-inner.ensures.ok_part) c.pass.ensures _ _ c.operators.new.self c.close.new.self c.in_ok-held.ensures.did c.in_ok-close.ensures refl

pub arguments-loop-argument-init : goal.arguments-loop-argument-init
arguments-loop-argument-init t c = arguing_first c.args.context.left c.args.self.now c.requires.0.inward

pub arguments-loop-argument-preserved : goal.arguments-loop-argument-preserved
arguments-loop-argument-preserved t c =
    let h : after_at c.operators.new.self.text.now c.operators.new.self.pos ≡ past.Separator Comma = cc (c.in-Separator-Comma.ensures, c.in-Separator-Comma.field-0-is) in
    argument_next c.args.context c.args.self.now c.loop-argument.self c.loop-argument.count c.loop-argument.need c.loop-argument.invariant c.requires.1 _ c.operators.new.self c.pass.new.self c.in_ok-argument.ensures.did h c.pass.ensures _ c.max-need.ensures

pub group-returns-in_err-first : goal.group-returns-in_err-first
group-returns-in_err-first t c =
    let r = c.args.self.now in
    by_break (λ o. Continued r.text.now c.args.context.left c.args.empty 0 0 r o c.item.new.self) _ _ c.from_residual.ensures.1
    (seqs.growing_fails c.args.context c.requires.1 0 c.args.empty 0 r 0 0 c.args.empty r (seqs.group_none c.args.context c.requires.1 c.args.empty r c.requires.0.inward) (seqs.undotted_few 0 _ _ (omega arith)) _ c.in_err-first.ensures.did)

pub group-returns-then-not-is_comma : goal.group-returns-then-not-is_comma
group-returns-then-not-is_comma t c =
    let r = c.args.self.now in
    seqs.growing_end c.args.context c.requires.1 0 c.args.empty 0 r 0 0 c.args.empty r (seqs.group_none c.args.context c.requires.1 c.args.empty r c.requires.0.inward) (seqs.undotted_few 0 _ _ (omega arith)) _ _ c.in_ok-first.ensures.did _ _ (omega arith) c.in_ok-first.ensures.stops (sym c.if-not-is_comma.ensures) _ c.end_group.ensures

pub group-pass-requires : goal.group-pass-requires
group-pass-requires t c =
    seqs.comma_passed c.item.new.self c.in_ok-first.ensures.did.inward (sym c.if-not-is_comma.ensures)

pub group-returns-in_err-second : goal.group-returns-in_err-second
group-returns-in_err-second t c =
    let r = c.args.self.now in
    let one = seqs.group_one c.args.context c.requires.1 c.args.empty r c.requires.0.inward _ _ c.pass.new.self c.in_ok-first.ensures.did (sym c.if-not-is_comma.ensures) c.pass.ensures in
    by_break (λ o. Continued r.text.now c.args.context.left c.args.empty 0 0 r o c.item-2.new.self) _ _ c.from_residual-in_err-second.ensures.1
    (seqs.growing_fails c.args.context c.requires.1 0 c.args.empty 0 r 1 _ false c.pass.new.self one (seqs.undotted_few 1 _ _ (omega arith)) _ c.in_err-second.ensures.did)

pub group-returns-then-not-is_comma-2 : goal.group-returns-then-not-is_comma-2
group-returns-then-not-is_comma-2 t c =
    let r = c.args.self.now in
    let one = seqs.group_one c.args.context c.requires.1 c.args.empty r c.requires.0.inward _ _ c.pass.new.self c.in_ok-first.ensures.did (sym c.if-not-is_comma.ensures) c.pass.ensures in
    seqs.growing_end c.args.context c.requires.1 0 c.args.empty 0 r 1 _ false c.pass.new.self one (seqs.undotted_few 1 _ _ (omega arith)) _ _ c.in_ok-second.ensures.did _ _ c.max-need.ensures c.in_ok-second.ensures.stops (sym c.if-not-is_comma-2.ensures) _ c.end_group-then-not-is_comma-2.ensures

pub group-pass-requires-2 : goal.group-pass-requires-2
group-pass-requires-2 t c =
    seqs.comma_passed c.item-2.new.self c.in_ok-second.ensures.did.inward (sym c.if-not-is_comma-2.ensures)

pub group-returns-in_default : goal.group-returns-in_default
group-returns-in_default t c =
    let r = c.args.self.now in
    let two = seqs.group_two c.args.context c.requires.1 c.args.empty r c.requires.0.inward _ _ c.pass.new.self c.in_ok-first.ensures.did (sym c.if-not-is_comma.ensures) c.pass.ensures _ _ c.pass-2.new.self c.in_ok-second.ensures.did (sym c.if-not-is_comma-2.ensures) c.pass-2.ensures _ c.max-need.ensures in
    seqs.growing_continues _ c.args.empty 0 r _ c.blanks.new.self _ _ (seqs.growing_over _ 0 c.args.empty 0 r 2 _ false _ c.blanks.new.self two c.blanks.ensures) c.items.ensures

pub group-returns : goal.group-returns
group-returns t c =
    let r = c.args.self.now in
    let pair = seqs.group_pair c.args.context c.requires.1 c.args.empty r c.requires.0.inward _ _ c.pass.new.self c.in_ok-first.ensures.did (sym c.if-not-is_comma.ensures) c.pass.ensures _ _ c.pass-2.new.self c.in_ok-second.ensures.did (sym c.if-not-is_comma-2.ensures) c.pass-2.ensures _ c.max-need.ensures c.blanks.new.self c.blanks.ensures in
    seqs.group_sequence _ c.args.empty _ _ r c.blanks.new.self _ _ _ pair refl refl (c.restore.ensures ∙ ap (λ (z : Cursor). restored c.blanks.new.self.table z.table.len z.table.nodes) c.self.view_is) c.sequence.ensures

pub item-returns-clause-did : goal.item-returns-clause-did
item-returns-clause-did t c =
    seqs.item_read _ _ c.args.empty c.args.self.now _ c.operators.new.self c.if-not-empty.self c.in_ok-item.ensures.did
    (elim c.if-not-empty.branch [
      | item-then-not-empty w ↦ seqs.puts_joint c.operators.new.self c.args.empty w.if-not-empty.true w.self-is (record { text = refl; state = refl; pos = refl; table = w.push.ensures })
      | item-else-not-empty w ↦ seqs.puts_nothing c.operators.new.self c.args.empty w.if-not-empty.false w.self-is (record { text = refl; state = refl; pos = refl; table = refl })
    ])

pub items-returns-in_err-item : goal.items-returns-in_err-item
items-returns-in_err-item t c =
    let r = c.args.self.now in
    by_break (λ o. Continued r.text.now c.args.context.left false c.args.need 2 r o c.item.new.self) _ _ c.from_residual.ensures.1
    (seqs.itemizing_fails c.args.context c.requires.1.0 c.args.need r _ c.loop-item.self c.loop-item.invariant _ c.in_err-item.ensures.did)

pub items-returns-then-not-is_comma : goal.items-returns-then-not-is_comma
items-returns-then-not-is_comma t c =
    seqs.itemizing_end c.args.context c.requires.1.0 c.args.need c.args.self.now _ c.loop-item.self c.loop-item.invariant _ _ c.in_ok-item.ensures.did _ _ c.max-need.ensures c.in_ok-item.ensures.stops (sym c.if-not-is_comma.ensures) _ c.end_group.ensures

pub items-pass-requires : goal.items-pass-requires
items-pass-requires t c =
    seqs.comma_passed c.item.new.self c.in_ok-item.ensures.did.inward (sym c.if-not-is_comma.ensures)

pub items-loop-item-init : goal.items-loop-item-init
items-loop-item-init t c = seqs.itemizing_first _ c.args.need c.args.self.now c.requires.0.inward c.requires.1.1.1.0 c.requires.1.1.1.1

pub items-loop-item-preserved : goal.items-loop-item-preserved
items-loop-item-preserved t c =
    seqs.itemizing_more c.args.context c.requires.1.0 c.args.need c.args.self.now _ c.loop-item.self c.loop-item.invariant _ _ c.in_ok-item.ensures.did _ c.pass.new.self c.max-need.ensures (sym c.if-not-is_comma.ensures) c.pass.ensures

pub list-returns-in_err-inner : goal.list-returns-in_err-inner
list-returns-in_err-inner t c =
    let r = c.args.self.now in
    by_break (λ o. Did r.text.now (Fitting 12 c.args.context) want r o r) _ _ c.from_residual.ensures.1
    (seqs.list_deep c.args.context r _ c.requires.1 (full Curly c.args.context c.inner.ensures c.in_err-inner.ensures.ok_part) (missing c.too_deep.result c.in_err-inner.ensures.value c.in_err-inner.ensures.ok_part ∙ c.too_deep.ensures))

pub list-pass-requires : goal.list-pass-requires
list-pass-requires t c =
    start_passed c.args.self.now c.requires.0.inward c.requires.1 (λ q. cc) (λ o. cc)

pub list-pass-requires-then-matches : goal.list-pass-requires-then-matches
list-pass-requires-then-matches t c =
    elim c.match-matches.branch [
      | list-in-EndCurly w ↦ start_passed c.blanks.new.self (c.blanks.ensures.same.state ∙ c.pass.ensures.state ∙ c.requires.0.inward) (sym w.in-EndCurly.ensures) (λ q. cc) (λ o. cc)
      | list-in_default w ↦ absurd (cc (w.matches-is, c.if-matches.true))
    ]

pub list-returns-then-matches : goal.list-returns-then-matches
list-returns-then-matches t c =
    let r = c.args.self.now in
    let room : Opened Curly c.args.context c.in_ok-inner.inner = opened c.inner.ensures c.in_ok-inner.ensures.ok_part in
    let end : start_at c.blanks.new.self.text.now c.blanks.new.self.pos ≡ start.EndCurly = elim c.match-matches.branch [ list-in-EndCurly w ↦ sym w.in-EndCurly.ensures | list-in_default w ↦ absurd (cc (w.matches-is, c.if-matches.true)) ] in
    seqs.list_hollow c.args.context c.in_ok-inner.inner r c.pass.new.self c.blanks.new.self c.requires.1 room c.pass.ensures c.blanks.ensures c.pass-then-matches.new.self _ _ c.requires.0.inward end c.pass-then-matches.ensures (record { text = refl; state = refl; pos = refl; table = c.push.ensures }) c.computed.ensures

pub list-returns-in_err-group : goal.list-returns-in_err-group
list-returns-in_err-group t c =
    let r = c.args.self.now in
    let room : Opened Curly c.args.context c.in_ok-inner.inner = opened c.inner.ensures c.in_ok-inner.ensures.ok_part in
    let ne : start_at c.blanks.new.self.text.now c.blanks.new.self.pos ≡ start.EndCurly → ⊥ = elim c.match-matches.branch [ list-in-EndCurly w ↦ absurd (cc (w.matches-is, c.if-matches.false)) | list-in_default w ↦ λ e. w.in_default.not-EndCurly (c.start.ensures ∙ e) ] in
    by_break (λ o. Did r.text.now (Fitting 12 c.args.context) want r o c.group.new.self) _ _ c.from_residual-in_err-group.ensures.1
    (seqs.list_fails c.args.context c.in_ok-inner.inner r c.pass.new.self c.blanks.new.self c.requires.1 room c.pass.ensures c.blanks.ensures ne _ _ c.loop-group.self c.loop-group.invariant _ c.group.new.self c.in_err-group.ensures)

pub list-loop-group-init : goal.list-loop-group-init
list-loop-group-init t c = seqs.grouped_none _ c.blanks.new.self (c.blanks.ensures.same.state ∙ c.pass.ensures.state ∙ c.requires.0.inward)

pub list-loop-group-preserved : goal.list-loop-group-preserved
list-loop-group-preserved t c =
    seqs.grouped_more _ c.blanks.new.self _ _ c.loop-group.self c.loop-group.invariant c.in_ok-group.group c.group.new.self c.in_ok-group.ensures _ c.max-need.ensures (seqs.not_false _ c.if-not-group.false)

pub list-returns : goal.list-returns
list-returns t c =
    let r = c.args.self.now in
    let room : Opened Curly c.args.context c.in_ok-inner.inner = opened c.inner.ensures c.in_ok-inner.ensures.ok_part in
    let ne : start_at c.blanks.new.self.text.now c.blanks.new.self.pos ≡ start.EndCurly → ⊥ = elim c.match-matches.branch [ list-in-EndCurly w ↦ absurd (cc (w.matches-is, c.if-matches.false)) | list-in_default w ↦ λ e. w.in_default.not-EndCurly (c.start.ensures ∙ e) ] in
    seqs.list_took c.args.context c.in_ok-inner.inner r c.pass.new.self c.blanks.new.self c.requires.1 room c.pass.ensures c.blanks.ensures ne _ _ c.loop-group.self c.loop-group.invariant c.in_ok-group.group c.group.new.self _ _ c.in_ok-group.ensures _ c.max-need.ensures (seqs.not_true _ c.if-not-group.true) (record { text = refl; state = refl; pos = refl; table = c.push-2.ensures }) c.computed-2.ensures
