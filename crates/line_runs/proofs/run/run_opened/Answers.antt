use Rattle.std.proofs.Common.{true, false, Ok, Err, refl, rules, arith}
use Rattle.line_runs.specs.declared.status.Status.TheVariants as statuses
use Rattle.line_runs.specs.Devices.{devices}
use Rattle.line_runs.proofs.Ending.{some_refused, none_refused, ran_well, ran_failed, ran_sound, runs_of, written_cause}
use Rattle.line_runs.specs.Ends.{run_ends}
use Rattle.line_runs.proofs.Ended.{ended, ends_behind, run_may}
use Rattle.line_runs.proofs.Seeing.{failed_counted}
use Rattle.line_runs.proofs.run.run_opened.Goals as goal

pub returns-then-runner-gt0-clause-sees : goal.returns-then-runner-gt0-clause-sees
returns-then-runner-gt0-clause-sees g c =
    ran_well c.args.runner.now c.carry_lines.new.runner (devices (g.D.Disk.state c.args.disk.now) (g.N.Notary.state c.args.notary.now) (g.C.Clock.state c.args.clock.now) (g.I.Source.state c.args.input.now) (g.O.Sink.state c.args.out.now))
    (devices (g.D.Disk.state c.carry_lines.new.disk) (g.N.Notary.state c.carry_lines.new.notary) (g.C.Clock.state c.carry_lines.new.clock) (g.I.Source.state c.carry_lines.new.input) (g.O.Sink.state c.carry_lines.new.out)) c.carry_lines.new.seen true
    c.in-Ok.ensures.sees (some_refused c.carry_lines.new.runner.refused c.if-runner-gt0.true)

pub returns-else-runner-gt0-clause-sees : goal.returns-else-runner-gt0-clause-sees
returns-else-runner-gt0-clause-sees g c =
    ran_well c.args.runner.now c.carry_lines.new.runner (devices (g.D.Disk.state c.args.disk.now) (g.N.Notary.state c.args.notary.now) (g.C.Clock.state c.args.clock.now) (g.I.Source.state c.args.input.now) (g.O.Sink.state c.args.out.now))
    (devices (g.D.Disk.state c.carry_lines.new.disk) (g.N.Notary.state c.carry_lines.new.notary) (g.C.Clock.state c.carry_lines.new.clock) (g.I.Source.state c.carry_lines.new.input) (g.O.Sink.state c.carry_lines.new.out)) c.carry_lines.new.seen false
    c.in-Ok.ensures.sees (none_refused c.carry_lines.new.runner.refused c.if-runner-gt0.false)

pub returns-in-Err-clause-sees : goal.returns-in-Err-clause-sees
returns-in-Err-clause-sees g c =
    ran_failed c.args.runner.now c.carry_lines.new.runner (devices (g.D.Disk.state c.args.disk.now) (g.N.Notary.state c.args.notary.now) (g.C.Clock.state c.args.clock.now) (g.I.Source.state c.args.input.now) (g.O.Sink.state c.args.out.now))
    (devices (g.D.Disk.state c.carry_lines.new.disk) (g.N.Notary.state c.carry_lines.new.notary) (g.C.Clock.state c.carry_lines.new.clock) (g.I.Source.state c.carry_lines.new.input) (g.O.Sink.state c.carry_lines.new.out)) c.carry_lines.new.seen (g.O.Sink.state c.end.new.out)
    c.in-Err.fail c.end.result c.in-Err.ensures.sees c.in-Err.ensures.disk_cause c.in-Err.ensures.notary_cause c.in-Err.ensures.read_cause c.end.ensures.value

pub returns-in-Err-clause-causes : goal.returns-in-Err-clause-causes
returns-in-Err-clause-causes g c = record {
  disk = search rules;
  notary = search rules;
  read = search rules;
  write = written_cause c.in-Err.fail c.end.result (g.O.Sink.state c.args.out.now) (g.O.Sink.state c.carry_lines.new.out) (g.O.Sink.state c.end.new.out)
      c.in-Err.ensures.write_cause c.carry_lines.ensures.out_frame.faults c.end.ensures.frame.faults c.end.ensures.cause;
}

pub returns-then-runner-gt0-clause-sound : goal.returns-then-runner-gt0-clause-sound
returns-then-runner-gt0-clause-sound g c =
    ran_sound (Ok tt) c.args.runner.now c.carry_lines.new.runner (devices (g.D.Disk.state c.args.disk.now) (g.N.Notary.state c.args.notary.now) (g.C.Clock.state c.args.clock.now) (g.I.Source.state c.args.input.now) (g.O.Sink.state c.args.out.now))
    (devices (g.D.Disk.state c.carry_lines.new.disk) (g.N.Notary.state c.carry_lines.new.notary) (g.C.Clock.state c.carry_lines.new.clock) (g.I.Source.state c.carry_lines.new.input) (g.O.Sink.state c.carry_lines.new.out))
    c.in-Ok.ensures.told

pub returns-else-runner-gt0-clause-sound : goal.returns-else-runner-gt0-clause-sound
returns-else-runner-gt0-clause-sound g c =
    ran_sound (Ok tt) c.args.runner.now c.carry_lines.new.runner (devices (g.D.Disk.state c.args.disk.now) (g.N.Notary.state c.args.notary.now) (g.C.Clock.state c.args.clock.now) (g.I.Source.state c.args.input.now) (g.O.Sink.state c.args.out.now))
    (devices (g.D.Disk.state c.carry_lines.new.disk) (g.N.Notary.state c.carry_lines.new.notary) (g.C.Clock.state c.carry_lines.new.clock) (g.I.Source.state c.carry_lines.new.input) (g.O.Sink.state c.carry_lines.new.out))
    c.in-Ok.ensures.told

pub returns-in-Err-clause-sound : goal.returns-in-Err-clause-sound
returns-in-Err-clause-sound g c =
    ran_sound (Err c.in-Err.fail) c.args.runner.now c.carry_lines.new.runner (devices (g.D.Disk.state c.args.disk.now) (g.N.Notary.state c.args.notary.now) (g.C.Clock.state c.args.clock.now) (g.I.Source.state c.args.input.now) (g.O.Sink.state c.args.out.now))
    (devices (g.D.Disk.state c.carry_lines.new.disk) (g.N.Notary.state c.carry_lines.new.notary) (g.C.Clock.state c.carry_lines.new.clock) (g.I.Source.state c.carry_lines.new.input) (g.O.Sink.state c.carry_lines.new.out))
    c.in-Err.ensures.told

pub returns-then-runner-gt0-clause-ends : goal.returns-then-runner-gt0-clause-ends
returns-then-runner-gt0-clause-ends g c = record { status = refl; named = λ fault. absurd fault }

pub returns-else-runner-gt0-clause-ends : goal.returns-else-runner-gt0-clause-ends
returns-else-runner-gt0-clause-ends g c = record { status = refl; named = λ fault. absurd fault }

pub returns-in-Err-clause-ends : goal.returns-in-Err-clause-ends
returns-in-Err-clause-ends g c = ends_behind run_ends c.end.result (g.O.Sink.state c.carry_lines.new.out) (g.O.Sink.state c.end.new.out) (g.O.Sink.state c.args.out.now) c.carry_lines.ensures.out_grows
    (ended run_ends c.end.result (g.O.Sink.state c.carry_lines.new.out) (g.O.Sink.state c.end.new.out) c.in-Err.fail (run_may c.in-Err.fail) c.end.ensures.value)

pub returns-then-runner-gt0-clause-told : goal.returns-then-runner-gt0-clause-told
returns-then-runner-gt0-clause-told g c = runs_of c.carry_lines.new.seen statuses.Refused c.args.runner.now
    (devices (g.D.Disk.state c.args.disk.now) (g.N.Notary.state c.args.notary.now) (g.C.Clock.state c.args.clock.now) (g.I.Source.state c.args.input.now) (g.O.Sink.state c.args.out.now))
    (devices (g.D.Disk.state c.carry_lines.new.disk) (g.N.Notary.state c.carry_lines.new.notary) (g.C.Clock.state c.carry_lines.new.clock) (g.I.Source.state c.carry_lines.new.input) (g.O.Sink.state c.carry_lines.new.out)) (returns-then-runner-gt0-clause-sees g c)

pub returns-else-runner-gt0-clause-told : goal.returns-else-runner-gt0-clause-told
returns-else-runner-gt0-clause-told g c = runs_of c.carry_lines.new.seen statuses.Ok c.args.runner.now
    (devices (g.D.Disk.state c.args.disk.now) (g.N.Notary.state c.args.notary.now) (g.C.Clock.state c.args.clock.now) (g.I.Source.state c.args.input.now) (g.O.Sink.state c.args.out.now))
    (devices (g.D.Disk.state c.carry_lines.new.disk) (g.N.Notary.state c.carry_lines.new.notary) (g.C.Clock.state c.carry_lines.new.clock) (g.I.Source.state c.carry_lines.new.input) (g.O.Sink.state c.carry_lines.new.out)) (returns-else-runner-gt0-clause-sees g c)

pub returns-in-Err-clause-told : goal.returns-in-Err-clause-told
returns-in-Err-clause-told g c = runs_of c.carry_lines.new.seen c.end.result c.args.runner.now
    (devices (g.D.Disk.state c.args.disk.now) (g.N.Notary.state c.args.notary.now) (g.C.Clock.state c.args.clock.now) (g.I.Source.state c.args.input.now) (g.O.Sink.state c.args.out.now))
    (devices (g.D.Disk.state c.carry_lines.new.disk) (g.N.Notary.state c.carry_lines.new.notary) (g.C.Clock.state c.carry_lines.new.clock) (g.I.Source.state c.carry_lines.new.input) (g.O.Sink.state c.end.new.out)) (returns-in-Err-clause-sees g c)

pub returns-then-runner-gt0-clause-refusals : goal.returns-then-runner-gt0-clause-refusals
returns-then-runner-gt0-clause-refusals g c = record { any = c.carry_lines.ensures.any; ending = record { some = λ e. omega (arith, c.in-Ok.ensures.counted, c.if-runner-gt0.true); none = λ e. cc } }

pub returns-else-runner-gt0-clause-refusals : goal.returns-else-runner-gt0-clause-refusals
returns-else-runner-gt0-clause-refusals g c = record { any = c.carry_lines.ensures.any; ending = record { some = λ e. cc; none = λ e. omega (arith, c.in-Ok.ensures.counted, c.if-runner-gt0.false) } }

pub returns-in-Err-clause-refusals : goal.returns-in-Err-clause-refusals
returns-in-Err-clause-refusals g c = record { any = c.carry_lines.ensures.any; ending = failed_counted c.in-Err.fail c.carry_lines.new.seen.refused c.end.result (g.O.Sink.state c.carry_lines.new.out) (g.O.Sink.state c.end.new.out) c.end.ensures.value }
