use Rattle.std.proofs.Common.{◌≡◌, ◌∙◌, List, ℕ, Bool, subst, sym, refl, rules, arith, Ok, Err}
use Rattle.disk_words.proofs.Frame as disk_frames
use Rattle.notary_link.proofs.Frame as notary_frames
use Rattle.outside_io.specs.Sink as sinks
use Rattle.outside_io.proofs.Frame as sink_frames
use Rattle.outside_io.proofs.Out.{out_then, out_but_end}
use Rattle.line_runs.specs.Devices.{desk, site, devices}
use Rattle.line_runs.specs.Carrying.{RepliesFrom, of_input, of_output, of_line}
use Rattle.line_runs.proofs.Ended.{front_out, none_out, out_more}
use Rattle.line_runs.proofs.Nothing.{nothing}
use Rattle.line_runs.proofs.Faults.{uses_input, uses_output}
use Rattle.line_runs.proofs.CarriedLines.{begins, goes_on, goes_no_further, between, under_way, ended, carries_of, reads_failed, reads_unwritten, written_failed, written_front}
use Rattle.line_runs.specs.SeeingLines.{CarriesSeenFrom}
use Rattle.line_runs.proofs.Seeing.{Hears, none_seen, any_more, heard_by}
use Rattle.line_runs.proofs.run.carry_lines.Goals as goal

pub lines-init : goal.lines-init
lines-init g c = record {
  going = begins c.args.runner.now (desk (g.D.Disk.state c.args.disk.now) (g.N.Notary.state c.args.notary.now)) (g.C.Clock.state c.args.clock.now) (g.I.Source.state c.args.input.now) c.new-reader.result c.args.seen.now (g.O.Sink.state c.args.out.now) (g.met.D.Disk.only_now c.args.disk.now) c.requires.unseen c.new-reader.ensures.fresh;
  any = none_seen c.args.seen.now c.requires.unseen;
  counted = c.requires.unseen.refused ∙ sym c.requires.unrefused;
  out_frame = sink_frames.goes_on_same _;
  out_grows = none_out (g.O.Sink.state c.args.out.now) (g.O.Sink.state c.args.out.now) refl;
}

pub lines-smaller : goal.lines-smaller
lines-smaller g c =
    let more = rw c.if-branch.true at c.in_ok-read_line.ensures.more in
    omega (arith, more, c.read_line.ensures.taken.within)

pub lines-preserved : goal.lines-preserved
lines-preserved g c =
    let D = g.D.Disk.state in
    let N = g.N.Notary.state in
    let C = g.C.Clock.state in
    let I = g.I.Source.state in
    let O = g.O.Sink.state in
    let text = c.in_ok-text.text in
    let replies = subst (λ (l : List ℕ). RepliesFrom l (Ok text) c.lines.runner c.reply.new.self (site (D c.lines.disk) (N c.lines.notary) (C c.lines.clock)) (site (D c.reply.new.disk) (N c.reply.new.notary) (C c.reply.new.clock))) c.line-line.ensures.value c.in_ok-text.ensures.told in
    let wrote : sinks.IsOut text (O c.lines.out) (O c.write_whole-written.new.out) = subst (λ (l : List ℕ). sinks.IsOut l (O c.lines.out) (O c.write_whole-written.new.out)) c.as_slice.ensures.value c.in_ok-written.ensures.ok in
    let hears : Hears c.read_line.new.self.line text c.reply.new.self.refused c.lines.seen c.note.new.self = subst (λ (l : List ℕ). Hears l text c.reply.new.self.refused c.lines.seen c.note.new.self) c.line-line.ensures.value (heard_by c.line-line.result.now text c.reply.new.self.refused c.lines.seen _ c.note.new.self c.in_ok-text.ensures.begun c.note.ensures.value refl refl refl) in
    record {
      going = goes_on c.args.runner.now c.lines.runner c.reply.new.self (desk (D c.args.disk.now) (N c.args.notary.now)) (desk (D c.lines.disk) (N c.lines.notary)) (desk (D c.reply.new.disk) (N c.reply.new.notary)) (C c.args.clock.now) (C c.lines.clock) (C c.reply.new.clock) (I c.args.input.now) (I c.lines.input) (I c.read_line.new.input) c.lines.reader c.read_line.new.self c.lines.seen c.note.new.self text
          (λ before xs. sinks.IsOut xs (O c.args.out.now) (O c.lines.out)) (λ before xs. sinks.IsOut xs (O c.args.out.now) (O c.write_whole-written.new.out))
          c.lines.invariant.going c.lines.invariant.any hears (rw c.if-branch.true at c.in_ok-read_line.ensures.told) c.read_line.ensures.feedless c.read_line.ensures.taken c.read_line.ensures.frame
          replies c.reply.ensures.scripted c.reply.ensures.disk_frame c.reply.ensures.notary_frame c.reply.ensures.clock_frame
          (λ before xs out. out_then xs text (O c.args.out.now) (O c.lines.out) (O c.write_whole-written.new.out) out wrote);
      any = any_more c.read_line.new.self.line text c.reply.new.self.refused c.lines.seen c.note.new.self (omega (arith, c.lines.invariant.counted, c.reply.ensures.counted)) c.lines.invariant.any hears;
      counted = hears.refused_are;
      out_frame = sink_frames.goes_on_then (O c.args.out.now) (O c.lines.out) (O c.write_whole-written.new.out) c.lines.invariant.out_frame c.write_whole-written.ensures.frame;
      out_grows = out_more (O c.args.out.now) (O c.lines.out) (O c.write_whole-written.new.out) c.lines.invariant.out_grows (text, wrote);
    }

pub returns-in_err-read_line-clause-sees : goal.returns-in_err-read_line-clause-sees
returns-in_err-read_line-clause-sees g c =
    let D = g.D.Disk.state in
    let N = g.N.Notary.state in
    let C = g.C.Clock.state in
    let I = g.I.Source.state in
    let O = g.O.Sink.state in
    let fail = c.in_err-read_line.field-0.0 in
    let same : c.from_residual.result ≡ Err (of_input fail) = search rules in
    let going = goes_no_further (Err fail) tt c.lines.runner (desk (D c.args.disk.now) (N c.args.notary.now)) (desk (D c.lines.disk) (N c.lines.notary)) (C c.args.clock.now) (C c.lines.clock) (I c.args.input.now) (I c.lines.input) (I c.read_line.new.input) c.lines.reader c.read_line.new.self c.lines.seen
    (λ before xs. sinks.IsOut xs (O c.args.out.now) (O c.lines.out)) c.args.runner.now c.lines.invariant.going c.in_err-read_line.ensures.told c.in_err-read_line.ensures.sees c.read_line.ensures.taken c.read_line.ensures.frame in
    rw same (between c.args.runner.now c.lines.runner (devices (D c.args.disk.now) (N c.args.notary.now) (C c.args.clock.now) (I c.args.input.now) (O c.args.out.now)) (devices (D c.lines.disk) (N c.lines.notary) (C c.lines.clock) (I c.read_line.new.input) (O c.lines.out)) c.read_line.new.self c.lines.seen
    (λ before xs. sinks.IsOut xs (O c.args.out.now) (O c.lines.out)) (Err (of_input fail)) going
    (λ done all others r. reads_failed fail c.read_line.new.self done all others c.in_err-read_line.ensures.sees.1 c.in_err-read_line.ensures.input_limit c.in_err-read_line.ensures.read_fault r)
    (λ before text is. written_failed fail before text (O c.args.out.now) (O c.lines.out) is) (λ scripted r. uses_input scripted r nothing fail))

pub returns-in_err-text-clause-sees : goal.returns-in_err-text-clause-sees
returns-in_err-text-clause-sees g c =
    let D = g.D.Disk.state in
    let N = g.N.Notary.state in
    let C = g.C.Clock.state in
    let I = g.I.Source.state in
    let O = g.O.Sink.state in
    let fail = c.in_err-text.field-0.0 in
    let same : c.from_residual-in_err-text.result ≡ Err (of_line fail) = search rules in
    let replies = subst (λ (l : List ℕ). RepliesFrom l (Err fail) c.lines.runner c.reply.new.self (site (D c.lines.disk) (N c.lines.notary) (C c.lines.clock)) (site (D c.reply.new.disk) (N c.reply.new.notary) (C c.reply.new.clock))) c.line-line.ensures.value c.in_err-text.ensures.told in
    let here = subst (λ (begun : List Bool). CarriesSeenFrom (record c.lines.seen { begun = begun }) (Err (of_line fail)) c.args.runner.now c.reply.new.self
    (devices (g.D.Disk.state c.args.disk.now) (g.N.Notary.state c.args.notary.now) (g.C.Clock.state c.args.clock.now) (g.I.Source.state c.args.input.now) (g.O.Sink.state c.args.out.now))
    (devices (g.D.Disk.state c.reply.new.disk) (g.N.Notary.state c.reply.new.notary) (g.C.Clock.state c.reply.new.clock) (g.I.Source.state c.read_line.new.input) (g.O.Sink.state c.lines.out))) (sym c.in_err-text.ensures.unbegun)
    (under_way c.args.runner.now c.lines.runner c.reply.new.self (devices (D c.args.disk.now) (N c.args.notary.now) (C c.args.clock.now) (I c.args.input.now) (O c.args.out.now)) (devices (D c.reply.new.disk) (N c.reply.new.notary) (C c.reply.new.clock) (I c.read_line.new.input) (O c.lines.out))
    (desk (D c.lines.disk) (N c.lines.notary)) (C c.lines.clock) (I c.lines.input) c.lines.reader c.read_line.new.self c.lines.seen fail
    c.lines.invariant.going (g.met.D.Disk.counts_now c.reply.new.disk) (rw c.if-branch.true at c.in_ok-read_line.ensures.told) c.read_line.ensures.feedless c.read_line.ensures.taken c.in_ok-read_line.ensures.at_once.little_more replies c.reply.ensures.notary_frame) in
    rw same here

pub returns-in_err-written-clause-sees : goal.returns-in_err-written-clause-sees
returns-in_err-written-clause-sees g c =
    let D = g.D.Disk.state in
    let N = g.N.Notary.state in
    let C = g.C.Clock.state in
    let I = g.I.Source.state in
    let O = g.O.Sink.state in
    let fail = c.in_err-written.field-0.0 in
    let text = c.in_ok-text.text in
    let same : c.from_residual-in_err-written.result ≡ Err (of_output fail) = search rules in
    let replies = subst (λ (l : List ℕ). RepliesFrom l (Ok text) c.lines.runner c.reply.new.self (site (D c.lines.disk) (N c.lines.notary) (C c.lines.clock)) (site (D c.reply.new.disk) (N c.reply.new.notary) (C c.reply.new.clock))) c.line-line.ensures.value c.in_ok-text.ensures.told in
    let front : sinks.FrontIsOut text (O c.lines.out) (O c.write_whole-written.new.out) = subst (λ (l : List ℕ). sinks.FrontIsOut l (O c.lines.out) (O c.write_whole-written.new.out)) c.as_slice.ensures.value c.in_err-written.ensures.err in
    let hears : Hears c.read_line.new.self.line text c.reply.new.self.refused c.lines.seen c.note.new.self = subst (λ (l : List ℕ). Hears l text c.reply.new.self.refused c.lines.seen c.note.new.self) c.line-line.ensures.value (heard_by c.line-line.result.now text c.reply.new.self.refused c.lines.seen _ c.note.new.self c.in_ok-text.ensures.begun c.note.ensures.value refl refl refl) in
    let going = goes_on c.args.runner.now c.lines.runner c.reply.new.self (desk (D c.args.disk.now) (N c.args.notary.now)) (desk (D c.lines.disk) (N c.lines.notary)) (desk (D c.reply.new.disk) (N c.reply.new.notary)) (C c.args.clock.now) (C c.lines.clock) (C c.reply.new.clock) (I c.args.input.now) (I c.lines.input) (I c.read_line.new.input) c.lines.reader c.read_line.new.self c.lines.seen c.note.new.self text
    (λ before xs. sinks.IsOut xs (O c.args.out.now) (O c.lines.out)) (λ before xs. sinks.IsOutBut before xs (O c.args.out.now) (O c.write_whole-written.new.out))
    c.lines.invariant.going c.lines.invariant.any hears (rw c.if-branch.true at c.in_ok-read_line.ensures.told) c.read_line.ensures.feedless c.read_line.ensures.taken c.read_line.ensures.frame
    replies c.reply.ensures.scripted c.reply.ensures.disk_frame c.reply.ensures.notary_frame c.reply.ensures.clock_frame
    (λ before xs out. out_but_end xs text (O c.args.out.now) (O c.lines.out) (O c.write_whole-written.new.out) out front) in
    rw same (between c.args.runner.now c.reply.new.self (devices (D c.args.disk.now) (N c.args.notary.now) (C c.args.clock.now) (I c.args.input.now) (O c.args.out.now)) (devices (D c.reply.new.disk) (N c.reply.new.notary) (C c.reply.new.clock) (I c.read_line.new.input) (O c.write_whole-written.new.out)) c.read_line.new.self c.note.new.self
    (λ before xs. sinks.IsOutBut before xs (O c.args.out.now) (O c.write_whole-written.new.out)) (Err (of_output fail)) going
    (λ done all others r. reads_unwritten fail c.read_line.new.self done all others c.in_ok-read_line.ensures.at_once.little_more r)
    (λ before text is. written_front fail before text (O c.args.out.now) (O c.write_whole-written.new.out) is) (λ scripted r. uses_output scripted r nothing fail))

pub returns-clause-sees : goal.returns-clause-sees
returns-clause-sees g c =
    ended c.args.runner.now c.lines.runner (devices (g.D.Disk.state c.args.disk.now) (g.N.Notary.state c.args.notary.now) (g.C.Clock.state c.args.clock.now) (g.I.Source.state c.args.input.now) (g.O.Sink.state c.args.out.now))
    (devices (g.D.Disk.state c.lines.disk) (g.N.Notary.state c.lines.notary) (g.C.Clock.state c.lines.clock) (g.I.Source.state c.read_line.new.input) (g.O.Sink.state c.lines.out)) (g.I.Source.state c.lines.input) c.lines.reader c.read_line.new.self c.lines.seen
    c.lines.invariant.going (rw c.if-branch.false at c.in_ok-read_line.ensures.told) (rw c.if-branch.false at c.in_ok-read_line.ensures.sees) c.read_line.ensures.taken (rw c.if-branch.false at c.in_ok-read_line.ensures.end refl)

pub returns-in_err-text-clause-disk_frame : goal.returns-in_err-text-clause-disk_frame
returns-in_err-text-clause-disk_frame g c = disk_frames.goes_on_then _ _ _ c.lines.invariant.going.disk_frame c.reply.ensures.disk_frame

pub returns-in_err-written-clause-disk_frame : goal.returns-in_err-written-clause-disk_frame
returns-in_err-written-clause-disk_frame g c = disk_frames.goes_on_then _ _ _ c.lines.invariant.going.disk_frame c.reply.ensures.disk_frame

pub returns-in_err-text-clause-notary_frame : goal.returns-in_err-text-clause-notary_frame
returns-in_err-text-clause-notary_frame g c = notary_frames.goes_on_then _ _ _ c.lines.invariant.going.notary_frame c.reply.ensures.notary_frame

pub returns-in_err-written-clause-notary_frame : goal.returns-in_err-written-clause-notary_frame
returns-in_err-written-clause-notary_frame g c = notary_frames.goes_on_then _ _ _ c.lines.invariant.going.notary_frame c.reply.ensures.notary_frame

pub returns-in_err-written-clause-out_grows : goal.returns-in_err-written-clause-out_grows
returns-in_err-written-clause-out_grows g c = out_more (g.O.Sink.state c.args.out.now) (g.O.Sink.state c.lines.out) (g.O.Sink.state c.write_whole-written.new.out) c.lines.invariant.out_grows (front_out _ (g.O.Sink.state c.lines.out) (g.O.Sink.state c.write_whole-written.new.out) c.in_err-written.ensures.err)

pub returns-in_err-read_line-clause-told : goal.returns-in_err-read_line-clause-told
returns-in_err-read_line-clause-told g c = carries_of c.lines.seen c.from_residual.result c.args.runner.now c.lines.runner
    (devices (g.D.Disk.state c.args.disk.now) (g.N.Notary.state c.args.notary.now) (g.C.Clock.state c.args.clock.now) (g.I.Source.state c.args.input.now) (g.O.Sink.state c.args.out.now))
    (devices (g.D.Disk.state c.lines.disk) (g.N.Notary.state c.lines.notary) (g.C.Clock.state c.lines.clock) (g.I.Source.state c.read_line.new.input) (g.O.Sink.state c.lines.out)) (returns-in_err-read_line-clause-sees g c)

pub returns-in_err-text-clause-told : goal.returns-in_err-text-clause-told
returns-in_err-text-clause-told g c = carries_of (record c.lines.seen { begun = c.reply.new.begun }) c.from_residual-in_err-text.result c.args.runner.now c.reply.new.self
    (devices (g.D.Disk.state c.args.disk.now) (g.N.Notary.state c.args.notary.now) (g.C.Clock.state c.args.clock.now) (g.I.Source.state c.args.input.now) (g.O.Sink.state c.args.out.now))
    (devices (g.D.Disk.state c.reply.new.disk) (g.N.Notary.state c.reply.new.notary) (g.C.Clock.state c.reply.new.clock) (g.I.Source.state c.read_line.new.input) (g.O.Sink.state c.lines.out)) (returns-in_err-text-clause-sees g c)

pub returns-in_err-written-clause-told : goal.returns-in_err-written-clause-told
returns-in_err-written-clause-told g c = carries_of c.note.new.self c.from_residual-in_err-written.result c.args.runner.now c.reply.new.self
    (devices (g.D.Disk.state c.args.disk.now) (g.N.Notary.state c.args.notary.now) (g.C.Clock.state c.args.clock.now) (g.I.Source.state c.args.input.now) (g.O.Sink.state c.args.out.now))
    (devices (g.D.Disk.state c.reply.new.disk) (g.N.Notary.state c.reply.new.notary) (g.C.Clock.state c.reply.new.clock) (g.I.Source.state c.read_line.new.input) (g.O.Sink.state c.write_whole-written.new.out)) (returns-in_err-written-clause-sees g c)

pub returns-clause-told : goal.returns-clause-told
returns-clause-told g c = carries_of c.lines.seen (Ok tt) c.args.runner.now c.lines.runner
    (devices (g.D.Disk.state c.args.disk.now) (g.N.Notary.state c.args.notary.now) (g.C.Clock.state c.args.clock.now) (g.I.Source.state c.args.input.now) (g.O.Sink.state c.args.out.now))
    (devices (g.D.Disk.state c.lines.disk) (g.N.Notary.state c.lines.notary) (g.C.Clock.state c.lines.clock) (g.I.Source.state c.read_line.new.input) (g.O.Sink.state c.lines.out)) (returns-clause-sees g c)
