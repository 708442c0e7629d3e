use Rattle.std.proofs.Common.{sym, refl, arith, inr}
use Rattle.store_engine.specs.declared.fail.StoreFail.TheVariants as stores
use Rattle.line_runs.specs.declared.status.Status.TheVariants as statuses
use Rattle.line_runs.specs.Devices.{devices}
use Rattle.line_runs.specs.Ran.{RunsHeader}
use Rattle.line_runs.specs.Sees.{SeesHeader}
use Rattle.line_runs.proofs.OnStore.{is_none_by, nowhere, old_format, wanting}
use Rattle.line_runs.proofs.Behaving.{goes_on_opened, causes_opened, goes_on_beside, all_left}
use Rattle.line_runs.proofs.Ending.{ran_opened, seen_opened, opened_sound}
use Rattle.line_runs.proofs.Seeing.{none_counted, refused_counted, ends_other}
use Rattle.line_runs.specs.Ends.{run_ends}
use Rattle.line_runs.proofs.Ended.{ends_cut, ends_refused}
use Rattle.line_runs.proofs.run.run_lines.Goals as goal

pub returns-in-Ok-clause-leaves : goal.returns-in-Ok-clause-leaves
returns-in-Ok-clause-leaves g c = rw (sym c.in-Ok.ensures.scripted) (ran_opened c.args.id c.in-Ok.runner (g.D.Disk.state c.args.disk.now)
    (devices (g.D.Disk.state c.open.new.disk) (g.N.Notary.state c.args.notary.now) (g.C.Clock.state c.args.clock.now) (g.I.Source.state c.args.input.now) (g.O.Sink.state c.args.out.now))
    (devices (g.D.Disk.state c.run_opened.new.disk) (g.N.Notary.state c.run_opened.new.notary) (g.C.Clock.state c.run_opened.new.clock) (g.I.Source.state c.run_opened.new.input) (g.O.Sink.state c.run_opened.new.out))
    c.in-Ok.ensures.value c.in-Ok.ensures.id c.open.ensures.same c.run_opened.result (g.met.D.Disk.reads_image c.args.disk.now) c.open.ensures.frame.faults c.run_opened.ensures.told)

pub returns-in-Ok-clause-causes : goal.returns-in-Ok-clause-causes
returns-in-Ok-clause-causes g c = causes_opened (g.D.Disk.state c.args.disk.now) _ _ c.open.ensures.frame c.run_opened.result c.run_opened.ensures.causes

pub returns-in-Ok-clause-goes_on : goal.returns-in-Ok-clause-goes_on
returns-in-Ok-clause-goes_on g c = goes_on_opened (g.D.Disk.state c.args.disk.now) _ _ c.open.ensures.frame c.run_opened.ensures.goes_on

pub returns-in-Err-NotAStore-clause-goes_on : goal.returns-in-Err-NotAStore-clause-goes_on
returns-in-Err-NotAStore-clause-goes_on g c = goes_on_beside _ _ _ c.open.ensures.frame c.refuse.ensures.frame

pub returns-in-Err-OldFormat-clause-goes_on : goal.returns-in-Err-OldFormat-clause-goes_on
returns-in-Err-OldFormat-clause-goes_on g c = goes_on_beside _ _ _ c.open.ensures.frame c.refuse-in-Err-OldFormat.ensures.frame

pub returns-in-Err-DiskFault-clause-goes_on : goal.returns-in-Err-DiskFault-clause-goes_on
returns-in-Err-DiskFault-clause-goes_on g c = goes_on_beside _ _ _ c.open.ensures.frame c.refuse-in-Err-DiskFault.ensures.frame

pub returns-in-Err-clause-goes_on : goal.returns-in-Err-clause-goes_on
returns-in-Err-clause-goes_on g c = goes_on_beside _ _ _ c.open.ensures.frame (record { told = refl; faults = omega arith })

pub returns-in-Err-NotAStore-clause-leaves : goal.returns-in-Err-NotAStore-clause-leaves
returns-in-Err-NotAStore-clause-leaves g c =
    let none = is_none_by c.args.id (g.D.Disk.state c.args.disk.now).reads c.in-Err-NotAStore.field-0 stores.NotAStore c.in-Err-NotAStore.field-0-is c.in-Err-NotAStore.ensures.value in
    nowhere c.args.id (RunsHeader c.args.is_scripted) c.refuse.result _ _ (all_left _ _ _ _ _ c.open.ensures.same) none c.refuse.ensures.said

pub returns-in-Err-OldFormat-clause-leaves : goal.returns-in-Err-OldFormat-clause-leaves
returns-in-Err-OldFormat-clause-leaves g c =
    let none = is_none_by c.args.id (g.D.Disk.state c.args.disk.now).reads c.in-Err-OldFormat.field-0 stores.OldFormat c.in-Err-OldFormat.field-0-is c.in-Err-OldFormat.ensures.value in
    old_format c.args.id (RunsHeader c.args.is_scripted) c.refuse-in-Err-OldFormat.result _ _ (all_left _ _ _ _ _ c.open.ensures.same) none c.refuse-in-Err-OldFormat.ensures.said

pub returns-in-Err-clause-leaves : goal.returns-in-Err-clause-leaves
returns-in-Err-clause-leaves g c = wanting c.args.id (RunsHeader c.args.is_scripted) statuses.NoMemory _ _ (all_left _ _ _ _ _ c.open.ensures.same) refl refl

pub returns-in-Ok-clause-sound : goal.returns-in-Ok-clause-sound
returns-in-Ok-clause-sound g c = opened_sound c.in-Ok.runner (g.D.Disk.state c.args.disk.now)
    (devices (g.D.Disk.state c.open.new.disk) (g.N.Notary.state c.args.notary.now) (g.C.Clock.state c.args.clock.now) (g.I.Source.state c.args.input.now) (g.O.Sink.state c.args.out.now))
    (devices (g.D.Disk.state c.run_opened.new.disk) (g.N.Notary.state c.run_opened.new.notary) (g.C.Clock.state c.run_opened.new.clock) (g.I.Source.state c.run_opened.new.input) (g.O.Sink.state c.run_opened.new.out))
    c.in-Ok.ensures.value c.open.ensures.same c.run_opened.ensures.sound

pub returns-in-Ok-clause-ends : goal.returns-in-Ok-clause-ends
returns-in-Ok-clause-ends g c = c.run_opened.ensures.ends

pub returns-in-Err-NotAStore-clause-ends : goal.returns-in-Err-NotAStore-clause-ends
returns-in-Err-NotAStore-clause-ends g c = ends_refused run_ends c.refuse.result (g.O.Sink.state c.args.out.now) (g.O.Sink.state c.refuse.new.out) statuses.NotAStore refl c.refuse.ensures.said

pub returns-in-Err-OldFormat-clause-ends : goal.returns-in-Err-OldFormat-clause-ends
returns-in-Err-OldFormat-clause-ends g c = ends_refused run_ends c.refuse-in-Err-OldFormat.result (g.O.Sink.state c.args.out.now) (g.O.Sink.state c.refuse-in-Err-OldFormat.new.out) statuses.OldFormat refl c.refuse-in-Err-OldFormat.ensures.said

pub returns-in-Err-DiskFault-clause-ends : goal.returns-in-Err-DiskFault-clause-ends
returns-in-Err-DiskFault-clause-ends g c = ends_refused run_ends c.refuse-in-Err-DiskFault.result (g.O.Sink.state c.args.out.now) (g.O.Sink.state c.refuse-in-Err-DiskFault.new.out) statuses.DiskFault refl c.refuse-in-Err-DiskFault.ensures.said

pub returns-in-Err-clause-ends : goal.returns-in-Err-clause-ends
returns-in-Err-clause-ends g c = ends_cut run_ends statuses.NoMemory (g.O.Sink.state c.args.out.now) (g.O.Sink.state c.args.out.now) (inr refl)

pub returns-in-Ok-clause-sees : goal.returns-in-Ok-clause-sees
returns-in-Ok-clause-sees g c = rw (sym c.in-Ok.ensures.scripted) (seen_opened c.args.id c.in-Ok.runner c.run_opened.new.seen (g.D.Disk.state c.args.disk.now)
    (devices (g.D.Disk.state c.open.new.disk) (g.N.Notary.state c.args.notary.now) (g.C.Clock.state c.args.clock.now) (g.I.Source.state c.args.input.now) (g.O.Sink.state c.args.out.now))
    (devices (g.D.Disk.state c.run_opened.new.disk) (g.N.Notary.state c.run_opened.new.notary) (g.C.Clock.state c.run_opened.new.clock) (g.I.Source.state c.run_opened.new.input) (g.O.Sink.state c.run_opened.new.out))
    c.in-Ok.ensures.value c.in-Ok.ensures.id c.open.ensures.same c.run_opened.result (g.met.D.Disk.reads_image c.args.disk.now) c.open.ensures.frame.faults c.run_opened.ensures.sees)

pub returns-in-Err-NotAStore-clause-sees : goal.returns-in-Err-NotAStore-clause-sees
returns-in-Err-NotAStore-clause-sees g c =
    let none = is_none_by c.args.id (g.D.Disk.state c.args.disk.now).reads c.in-Err-NotAStore.field-0 stores.NotAStore c.in-Err-NotAStore.field-0-is c.in-Err-NotAStore.ensures.value in
    nowhere c.args.id (SeesHeader c.args.is_scripted c.args.seen.now) c.refuse.result _ _ (all_left _ _ _ _ _ c.open.ensures.same) none c.refuse.ensures.said

pub returns-in-Err-OldFormat-clause-sees : goal.returns-in-Err-OldFormat-clause-sees
returns-in-Err-OldFormat-clause-sees g c =
    let none = is_none_by c.args.id (g.D.Disk.state c.args.disk.now).reads c.in-Err-OldFormat.field-0 stores.OldFormat c.in-Err-OldFormat.field-0-is c.in-Err-OldFormat.ensures.value in
    old_format c.args.id (SeesHeader c.args.is_scripted c.args.seen.now) c.refuse-in-Err-OldFormat.result _ _ (all_left _ _ _ _ _ c.open.ensures.same) none c.refuse-in-Err-OldFormat.ensures.said

pub returns-in-Err-clause-sees : goal.returns-in-Err-clause-sees
returns-in-Err-clause-sees g c = wanting c.args.id (SeesHeader c.args.is_scripted c.args.seen.now) statuses.NoMemory _ _ (all_left _ _ _ _ _ c.open.ensures.same) refl refl

pub returns-in-Err-NotAStore-clause-refusals : goal.returns-in-Err-NotAStore-clause-refusals
returns-in-Err-NotAStore-clause-refusals g c = none_counted c.args.seen.now c.refuse.result c.requires.unseen (refused_counted statuses.NotAStore c.args.seen.now.refused c.refuse.result _ _ (ends_other statuses.NotAStore c.args.seen.now.refused (λ e. cc) (λ e. cc)) c.refuse.ensures.said)

pub returns-in-Err-OldFormat-clause-refusals : goal.returns-in-Err-OldFormat-clause-refusals
returns-in-Err-OldFormat-clause-refusals g c = none_counted c.args.seen.now c.refuse-in-Err-OldFormat.result c.requires.unseen (refused_counted statuses.OldFormat c.args.seen.now.refused c.refuse-in-Err-OldFormat.result _ _ (ends_other statuses.OldFormat c.args.seen.now.refused (λ e. cc) (λ e. cc)) c.refuse-in-Err-OldFormat.ensures.said)

pub returns-in-Err-DiskFault-clause-refusals : goal.returns-in-Err-DiskFault-clause-refusals
returns-in-Err-DiskFault-clause-refusals g c = none_counted c.args.seen.now c.refuse-in-Err-DiskFault.result c.requires.unseen (refused_counted statuses.DiskFault c.args.seen.now.refused c.refuse-in-Err-DiskFault.result _ _ (ends_other statuses.DiskFault c.args.seen.now.refused (λ e. cc) (λ e. cc)) c.refuse-in-Err-DiskFault.ensures.said)

pub returns-in-Err-clause-refusals : goal.returns-in-Err-clause-refusals
returns-in-Err-clause-refusals g c = none_counted c.args.seen.now statuses.NoMemory c.requires.unseen (ends_other statuses.NoMemory c.args.seen.now.refused (λ e. cc) (λ e. cc))
