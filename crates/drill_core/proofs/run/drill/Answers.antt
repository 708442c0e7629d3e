use Rattle.std.proofs.Common.{◌≡◌, ℕ, Bool, List, Result, Err, refl, ap, subst, rules}
use Rattle.outside_words.specs.Faults.{Rose}
use Rattle.outside_io.specs.declared.sink.StreamFail.{StreamFail}
use Rattle.outside_io.specs.declared.sink.StreamFail.TheVariants as streams
use Rattle.line_input.specs.declared.fail.InputFail.{InputFail}
use Rattle.line_input.specs.declared.fail.InputFail.TheVariants as inputs
use Rattle.drill_core.specs.declared.fail.DrillFail.{DrillFail}
use Rattle.notary_book.specs.Books.{book_limits}
use Rattle.timeline_model.specs.Scene.{nothing_yet}
use Rattle.timeline_model.specs.Timeline.{after}
use Rattle.timeline_model.proofs.Reports.{each_right}
use Rattle.drill_core.specs.declared.fail.DrillFail.TheVariants as fails
use Rattle.drill_core.specs.Fail.{of_input, of_output}
use Rattle.stmt_text.specs.Lines.{answer}
use Rattle.drill_core.specs.Taken.{IsAnswered}
use Rattle.drill_core.proofs.Lines.{begins, goes_on, wanted, unwritten, ended, read_failed}
use Rattle.drill_core.proofs.run.drill.Goals as goal

-- what failed is told as it is
of_read : (result : Result Bool DrillFail) (fail : InputFail) → result ≡ Err (of_input fail) → result ≡ Err fails.ReadFault → fail ≡ inputs.ReadFault
of_read result inputs.ReadFault same is = refl
of_read result inputs.InputLimit same is = absurd cc
of_read result inputs.NoMemory same is = absurd cc

not_write : (result : Result Bool DrillFail) (fail : InputFail) → result ≡ Err (of_input fail) → result ≡ Err fails.WriteFault → ⊥
not_write result inputs.ReadFault same is = cc
not_write result inputs.InputLimit same is = cc
not_write result inputs.NoMemory same is = cc

of_write : (result : Result Bool DrillFail) (fail : StreamFail) → result ≡ Err (of_output fail) → result ≡ Err fails.WriteFault → fail ≡ streams.Failed
of_write result streams.Failed same is = refl
of_write result streams.NoMemory same is = absurd cc

not_read : (result : Result Bool DrillFail) (fail : StreamFail) → result ≡ Err (of_output fail) → result ≡ Err fails.ReadFault → ⊥
not_read result streams.Failed same is = cc
not_read result streams.NoMemory same is = cc

pub lines-init : goal.lines-init
lines-init g c = begins (nothing_yet book_limits) (g.I.Source.state c.args.input.now) c.new-reader.result (g.O.Sink.state c.args.out.now) c.new-drill.result c.new-drill.ensures.value c.new-drill.ensures.faults c.new-reader.ensures.fresh

pub lines-preserved : goal.lines-preserved
lines-preserved g c =
    let I = g.I.Source.state in
    let O = g.O.Sink.state in
    goes_on (nothing_yet book_limits) (each_right book_limits) (I c.args.input.now) (I c.lines.input) c.lines.reader (O c.args.out.now) (O c.lines.out) c.lines.drill c.lines.refused c.lines.invariant (I c.read_line.new.input) c.read_line.new.self (rw c.if-branch.true at c.in_ok-read_line.ensures.told) c.read_line.ensures.feedless c.read_line.ensures.taken c.read_line.ensures.frame
    c.in_ok-answered.answered c.answer.new.self (O c.write_reply.new.out) (subst (λ (l : List ℕ). IsAnswered (answer l) (after (nothing_yet book_limits) c.lines.invariant.events) c.in_ok-answered.answered c.lines.drill c.answer.new.self) c.line.ensures.value (c.in_ok-answered.ensures.value (after (nothing_yet book_limits) c.lines.invariant.events) c.lines.invariant.at))
    (rw c.if-branch.true at c.in_ok-read_line.ensures.more) c.in_ok-read_line.ensures.counted c.in_ok-refused.ensures.ok c.write_reply.ensures.frame c.in_ok-refused.ensures.counted c.in_ok-refused.field-0 c.in_ok-refused.ensures.value

pub returns-in_err-read_line-clause-told : goal.returns-in_err-read_line-clause-told
returns-in_err-read_line-clause-told g c =
    let I = g.I.Source.state in
    let O = g.O.Sink.state in
    let fail = c.in_err-read_line.field-0.0 in
    let same : c.from_residual.result ≡ Err (of_input fail) = search (rules, c.from_residual.ensures) in
    rw same (read_failed (nothing_yet book_limits) (each_right book_limits) (I c.args.input.now) (I c.lines.input) c.lines.reader (O c.args.out.now) (O c.lines.out) c.lines.drill c.lines.refused c.lines.invariant (I c.read_line.new.input) c.read_line.new.self c.read_line.ensures.taken fail c.in_err-read_line.ensures.told c.in_err-read_line.ensures.sees c.in_err-read_line.ensures.input_limit c.in_err-read_line.ensures.read_fault)

pub returns-in_err-read_line-clause-read_cause : goal.returns-in_err-read_line-clause-read_cause
returns-in_err-read_line-clause-read_cause g c = λ is.
    let fail = c.in_err-read_line.field-0.0 in
    let same : c.from_residual.result ≡ Err (of_input fail) = search (rules, c.from_residual.ensures) in
    subst (λ (n : ℕ). Rose n (g.I.Source.state c.read_line.new.input).faults) c.lines.invariant.input_faults (c.in_err-read_line.ensures.cause (ap (λ (e : InputFail). Err e) (of_read c.from_residual.result fail same is)))

pub returns-in_err-read_line-clause-write_cause : goal.returns-in_err-read_line-clause-write_cause
returns-in_err-read_line-clause-write_cause g c = λ is.
    let fail = c.in_err-read_line.field-0.0 in
    let same : c.from_residual.result ≡ Err (of_input fail) = search (rules, c.from_residual.ensures) in
    absurd (not_write c.from_residual.result fail same is)

pub returns-in_err-answered-clause-told : goal.returns-in_err-answered-clause-told
returns-in_err-answered-clause-told g c =
    let I = g.I.Source.state in
    let O = g.O.Sink.state in
    let same : c.from_residual-in_err-answered.result ≡ Err fails.NoMemory = search (rules, c.from_residual-in_err-answered.ensures) in
    rw same (wanted (nothing_yet book_limits) (each_right book_limits) (I c.args.input.now) (I c.lines.input) c.lines.reader (O c.args.out.now) (O c.lines.out) c.lines.drill c.lines.refused c.lines.invariant (I c.read_line.new.input) c.read_line.new.self (rw c.if-branch.true at c.in_ok-read_line.ensures.told) c.read_line.ensures.feedless c.read_line.ensures.taken c.read_line.ensures.frame)

pub returns-in_err-refused-clause-told : goal.returns-in_err-refused-clause-told
returns-in_err-refused-clause-told g c =
    let I = g.I.Source.state in
    let O = g.O.Sink.state in
    let fail = c.in_err-refused.field-0.0 in
    let same : c.from_residual-in_err-refused.result ≡ Err (of_output fail) = search (rules, c.from_residual-in_err-refused.ensures) in
    rw same (unwritten (nothing_yet book_limits) (each_right book_limits) (I c.args.input.now) (I c.lines.input) c.lines.reader (O c.args.out.now) (O c.lines.out) c.lines.drill c.lines.refused c.lines.invariant (I c.read_line.new.input) c.read_line.new.self (rw c.if-branch.true at c.in_ok-read_line.ensures.told) c.read_line.ensures.feedless c.read_line.ensures.taken c.read_line.ensures.frame
    fail c.in_ok-answered.answered c.answer.new.self (O c.write_reply.new.out) (subst (λ (l : List ℕ). IsAnswered (answer l) (after (nothing_yet book_limits) c.lines.invariant.events) c.in_ok-answered.answered c.lines.drill c.answer.new.self) c.line.ensures.value (c.in_ok-answered.ensures.value (after (nothing_yet book_limits) c.lines.invariant.events) c.lines.invariant.at))
    c.in_ok-read_line.ensures.at_once.little_more c.in_err-refused.ensures.err)

pub returns-in_err-refused-clause-read_cause : goal.returns-in_err-refused-clause-read_cause
returns-in_err-refused-clause-read_cause g c = λ is.
    let fail = c.in_err-refused.field-0.0 in
    let same : c.from_residual-in_err-refused.result ≡ Err (of_output fail) = search (rules, c.from_residual-in_err-refused.ensures) in
    absurd (not_read c.from_residual-in_err-refused.result fail same is)

pub returns-in_err-refused-clause-write_cause : goal.returns-in_err-refused-clause-write_cause
returns-in_err-refused-clause-write_cause g c = λ is.
    let fail = c.in_err-refused.field-0.0 in
    let same : c.from_residual-in_err-refused.result ≡ Err (of_output fail) = search (rules, c.from_residual-in_err-refused.ensures) in
    subst (λ (n : ℕ). Rose n (g.O.Sink.state c.write_reply.new.out).faults) c.lines.invariant.out_faults (c.in_err-refused.ensures.cause (ap (λ (e : StreamFail). Err e) (of_write c.from_residual-in_err-refused.result fail same is)))

pub returns-clause-told : goal.returns-clause-told
returns-clause-told g c =
    let I = g.I.Source.state in
    let O = g.O.Sink.state in
    ended (nothing_yet book_limits) (each_right book_limits) (I c.args.input.now) (I c.lines.input) c.lines.reader (O c.args.out.now) (O c.lines.out) c.lines.drill c.lines.refused c.lines.invariant (I c.read_line.new.input) c.read_line.new.self c.read_line.ensures.taken (rw c.if-branch.false at c.in_ok-read_line.ensures.told) (rw c.if-branch.false at c.in_ok-read_line.ensures.sees) (rw c.if-branch.false at c.in_ok-read_line.ensures.end refl)
