use Rattle.std.proofs.Common.{◌≡◌, refl, subst, rules}
use Rattle.line_runs.specs.declared.run_fail.RunFail.{RunFail}
use Rattle.line_runs.specs.Carrying.{EndsWith, of_line}
use Rattle.line_runs.specs.Devices.{devices}
use Rattle.line_runs.proofs.MadeEnding.{made_all, made_failed}
use Rattle.line_runs.specs.Ends.{make_ends}
use Rattle.line_runs.proofs.Ended.{ended, made_ended, make_may}
use Rattle.line_runs.proofs.Seeing.{failed_counted}
use Rattle.line_runs.proofs.make.make_text.Goals as goal

pub returns-in-Ok-clause-told : goal.returns-in-Ok-clause-told
returns-in-Ok-clause-told g c = λ input. made_all c.args.count c.args.text.now c.args.runner.now c.make_lines.new.runner
    (devices (g.D.Disk.state c.args.disk.now) (g.N.Notary.state c.args.notary.now) (g.C.Clock.state c.args.clock.now) input (g.O.Sink.state c.args.out.now))
    (devices (g.D.Disk.state c.make_lines.new.disk) (g.N.Notary.state c.make_lines.new.notary) (g.C.Clock.state c.make_lines.new.clock) input (g.O.Sink.state c.say_made.new.out))
    refl c.say_made.result c.in-Ok.two c.in-Ok.ensures.told c.say_made.ensures.said

pub returns-in-Err-clause-told : goal.returns-in-Err-clause-told
returns-in-Err-clause-told g c = λ input. made_failed c.args.count c.args.text.now c.args.runner.now c.make_lines.new.runner
    (devices (g.D.Disk.state c.args.disk.now) (g.N.Notary.state c.args.notary.now) (g.C.Clock.state c.args.clock.now) input (g.O.Sink.state c.args.out.now))
    (devices (g.D.Disk.state c.make_lines.new.disk) (g.N.Notary.state c.make_lines.new.notary) (g.C.Clock.state c.make_lines.new.clock) input (g.O.Sink.state c.end.new.out))
    refl c.end.result c.in-Err.fail c.in-Err.ensures.told c.in-Err.ensures.disk_cause c.in-Err.ensures.notary_cause
    (let same : c.from.result ≡ of_line c.in-Err.fail = search rules in subst (λ (fail : RunFail). EndsWith fail c.end.result (g.O.Sink.state c.args.out.now) (g.O.Sink.state c.end.new.out)) same c.end.ensures.value)

pub returns-in-Ok-clause-ends : goal.returns-in-Ok-clause-ends
returns-in-Ok-clause-ends g c = made_ended c.make_lines.new.runner.refused _ c.say_made.result (g.O.Sink.state c.args.out.now) (g.O.Sink.state c.say_made.new.out) c.say_made.ensures.said

pub returns-in-Err-clause-ends : goal.returns-in-Err-clause-ends
returns-in-Err-clause-ends g c =
    let same : c.from.result ≡ of_line c.in-Err.fail = search rules in
    ended make_ends c.end.result (g.O.Sink.state c.args.out.now) (g.O.Sink.state c.end.new.out) (of_line c.in-Err.fail) (make_may c.in-Err.fail)
    (subst (λ (fail : RunFail). EndsWith fail c.end.result (g.O.Sink.state c.args.out.now) (g.O.Sink.state c.end.new.out)) same c.end.ensures.value)

pub returns-in-Err-clause-counted : goal.returns-in-Err-clause-counted
returns-in-Err-clause-counted g c =
    let same : c.from.result ≡ of_line c.in-Err.fail = search rules in
    failed_counted (of_line c.in-Err.fail) c.make_lines.new.runner.refused c.end.result (g.O.Sink.state c.args.out.now) (g.O.Sink.state c.end.new.out)
    (subst (λ (fail : RunFail). EndsWith fail c.end.result (g.O.Sink.state c.args.out.now) (g.O.Sink.state c.end.new.out)) same c.end.ensures.value)
