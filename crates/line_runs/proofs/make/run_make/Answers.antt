use Rattle.std.proofs.Common.{None, refl, arith, inr}
use Rattle.store_engine.specs.declared.fail.StoreFail.TheVariants as stores
use Rattle.line_runs.specs.declared.status.Status.TheVariants as statuses
use Rattle.line_runs.specs.Devices.{devices}
use Rattle.line_runs.specs.Made.{MakesHeader}
use Rattle.line_runs.proofs.OnStore.{is_none_by, nowhere, old_format, wanting}
use Rattle.line_runs.proofs.Behaving.{goes_on_opened, causes_opened, goes_on_beside, all_left}
use Rattle.line_runs.proofs.Ending.{opened_sound}
use Rattle.line_runs.proofs.MadeEnding.{made_opened}
use Rattle.line_runs.specs.Ends.{make_ends}
use Rattle.line_runs.proofs.Ended.{ends_cut, ends_refused}
use Rattle.line_runs.proofs.Seeing.{refused_counted, ends_other}
use Rattle.line_runs.proofs.make.run_make.Goals as goal

pub returns-in-Ok-clause-leaves : goal.returns-in-Ok-clause-leaves
returns-in-Ok-clause-leaves g c = λ input. made_opened c.args.id c.args.seed c.args.count c.in-Ok.runner (g.D.Disk.state c.args.disk.now)
    (devices (g.D.Disk.state c.open.new.disk) (g.N.Notary.state c.args.notary.now) (g.C.Clock.state c.args.clock.now) input (g.O.Sink.state c.args.out.now))
    (devices (g.D.Disk.state c.make_opened-status.new.disk) (g.N.Notary.state c.make_opened-status.new.notary) (g.C.Clock.state c.make_opened-status.new.clock) input (g.O.Sink.state c.make_opened-status.new.out))
    c.in-Ok.ensures.value c.in-Ok.ensures.id c.open.ensures.same c.make_opened-status.result (g.met.D.Disk.reads_image c.args.disk.now) c.open.ensures.frame.faults (c.make_opened-status.ensures.told input)

pub returns-in-Ok-clause-sound : goal.returns-in-Ok-clause-sound
returns-in-Ok-clause-sound g c = opened_sound c.in-Ok.runner (g.D.Disk.state c.args.disk.now)
    (devices (g.D.Disk.state c.open.new.disk) (g.N.Notary.state c.args.notary.now) (g.C.Clock.state c.args.clock.now) (record { rest = None; faults = 0 }) (g.O.Sink.state c.args.out.now))
    (devices (g.D.Disk.state c.make_opened-status.new.disk) (g.N.Notary.state c.make_opened-status.new.notary) (g.C.Clock.state c.make_opened-status.new.clock) (record { rest = None; faults = 0 }) (g.O.Sink.state c.make_opened-status.new.out))
    c.in-Ok.ensures.value c.open.ensures.same c.make_opened-status.ensures.sound

pub returns-in-Ok-clause-causes : goal.returns-in-Ok-clause-causes
returns-in-Ok-clause-causes g c = λ input. causes_opened (g.D.Disk.state c.args.disk.now) _ _ c.open.ensures.frame c.make_opened-status.result (c.make_opened-status.ensures.causes input)

pub returns-in-Ok-clause-goes_on : goal.returns-in-Ok-clause-goes_on
returns-in-Ok-clause-goes_on g c = λ input. goes_on_opened (g.D.Disk.state c.args.disk.now) _ _ c.open.ensures.frame (c.make_opened-status.ensures.goes_on input)

pub returns-in-Err-NotAStore-clause-goes_on : goal.returns-in-Err-NotAStore-clause-goes_on
returns-in-Err-NotAStore-clause-goes_on g c = λ input. goes_on_beside _ _ _ c.open.ensures.frame c.refuse.ensures.frame

pub returns-in-Err-OldFormat-clause-goes_on : goal.returns-in-Err-OldFormat-clause-goes_on
returns-in-Err-OldFormat-clause-goes_on g c = λ input. goes_on_beside _ _ _ c.open.ensures.frame c.refuse-in-Err-OldFormat.ensures.frame

pub returns-in-Err-DiskFault-clause-goes_on : goal.returns-in-Err-DiskFault-clause-goes_on
returns-in-Err-DiskFault-clause-goes_on g c = λ input. goes_on_beside _ _ _ c.open.ensures.frame c.refuse-in-Err-DiskFault.ensures.frame

pub returns-in-Err-clause-goes_on : goal.returns-in-Err-clause-goes_on
returns-in-Err-clause-goes_on g c = λ input. goes_on_beside _ _ _ c.open.ensures.frame (record { told = refl; faults = omega arith })

pub returns-in-Err-NotAStore-clause-leaves : goal.returns-in-Err-NotAStore-clause-leaves
returns-in-Err-NotAStore-clause-leaves g c =
    let none = is_none_by c.args.id (g.D.Disk.state c.args.disk.now).reads c.in-Err-NotAStore.field-0 stores.NotAStore c.in-Err-NotAStore.field-0-is c.in-Err-NotAStore.ensures.value in
    λ input. nowhere c.args.id (MakesHeader c.args.seed c.args.count) c.refuse.result _ _ (all_left _ _ _ _ _ c.open.ensures.same) none c.refuse.ensures.said

pub returns-in-Err-OldFormat-clause-leaves : goal.returns-in-Err-OldFormat-clause-leaves
returns-in-Err-OldFormat-clause-leaves g c =
    let none = is_none_by c.args.id (g.D.Disk.state c.args.disk.now).reads c.in-Err-OldFormat.field-0 stores.OldFormat c.in-Err-OldFormat.field-0-is c.in-Err-OldFormat.ensures.value in
    λ input. old_format c.args.id (MakesHeader c.args.seed c.args.count) c.refuse-in-Err-OldFormat.result _ _ (all_left _ _ _ _ _ c.open.ensures.same) none c.refuse-in-Err-OldFormat.ensures.said

pub returns-in-Err-clause-leaves : goal.returns-in-Err-clause-leaves
returns-in-Err-clause-leaves g c = λ input. wanting c.args.id (MakesHeader c.args.seed c.args.count) statuses.NoMemory _ _ (all_left _ _ _ _ _ c.open.ensures.same) refl refl

pub returns-in-Ok-clause-ends : goal.returns-in-Ok-clause-ends
returns-in-Ok-clause-ends g c = c.make_opened-status.ensures.ends

pub returns-in-Err-NotAStore-clause-ends : goal.returns-in-Err-NotAStore-clause-ends
returns-in-Err-NotAStore-clause-ends g c = ends_refused make_ends c.refuse.result (g.O.Sink.state c.args.out.now) (g.O.Sink.state c.refuse.new.out) statuses.NotAStore refl c.refuse.ensures.said

pub returns-in-Err-OldFormat-clause-ends : goal.returns-in-Err-OldFormat-clause-ends
returns-in-Err-OldFormat-clause-ends g c = ends_refused make_ends c.refuse-in-Err-OldFormat.result (g.O.Sink.state c.args.out.now) (g.O.Sink.state c.refuse-in-Err-OldFormat.new.out) statuses.OldFormat refl c.refuse-in-Err-OldFormat.ensures.said

pub returns-in-Err-DiskFault-clause-ends : goal.returns-in-Err-DiskFault-clause-ends
returns-in-Err-DiskFault-clause-ends g c = ends_refused make_ends c.refuse-in-Err-DiskFault.result (g.O.Sink.state c.args.out.now) (g.O.Sink.state c.refuse-in-Err-DiskFault.new.out) statuses.DiskFault refl c.refuse-in-Err-DiskFault.ensures.said

pub returns-in-Err-clause-ends : goal.returns-in-Err-clause-ends
returns-in-Err-clause-ends g c = ends_cut make_ends statuses.NoMemory (g.O.Sink.state c.args.out.now) (g.O.Sink.state c.args.out.now) (inr refl)

pub returns-in-Err-NotAStore-clause-counted : goal.returns-in-Err-NotAStore-clause-counted
returns-in-Err-NotAStore-clause-counted g c = refused_counted statuses.NotAStore c.args.seen.now.refused c.refuse.result _ _ (ends_other statuses.NotAStore c.args.seen.now.refused (λ e. cc) (λ e. cc)) c.refuse.ensures.said

pub returns-in-Err-OldFormat-clause-counted : goal.returns-in-Err-OldFormat-clause-counted
returns-in-Err-OldFormat-clause-counted g c = refused_counted statuses.OldFormat c.args.seen.now.refused c.refuse-in-Err-OldFormat.result _ _ (ends_other statuses.OldFormat c.args.seen.now.refused (λ e. cc) (λ e. cc)) c.refuse-in-Err-OldFormat.ensures.said

pub returns-in-Err-DiskFault-clause-counted : goal.returns-in-Err-DiskFault-clause-counted
returns-in-Err-DiskFault-clause-counted g c = refused_counted statuses.DiskFault c.args.seen.now.refused c.refuse-in-Err-DiskFault.result _ _ (ends_other statuses.DiskFault c.args.seen.now.refused (λ e. cc) (λ e. cc)) c.refuse-in-Err-DiskFault.ensures.said

pub returns-in-Err-clause-counted : goal.returns-in-Err-clause-counted
returns-in-Err-clause-counted g c = ends_other statuses.NoMemory c.args.seen.now.refused (λ e. cc) (λ e. cc)
