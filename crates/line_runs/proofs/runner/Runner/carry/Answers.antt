use Rattle.std.proofs.Common.{◌≡◌, ◌∙◌, sym, refl, Ok, Err, codes, rules}
use Rattle.disk_words.proofs.Frame.{goes_on_same}
use Rattle.notary_link.proofs.Frame as notary_frames
use Rattle.store_world.specs.declared.fail.LineFail.TheVariants as lines
use Rattle.stmt_text.specs.declared.kind.LineKind.TheVariants as kinds
use Rattle.line_runs.specs.Running.{set_moment, refused_line}
use Rattle.line_runs.proofs.Replying.{goes_by, steps_by, blank_goes, refuses_goes, sets_goes, fails_goes, moment_same, takes_for}
use Rattle.line_runs.specs.Devices.{desk}
use Rattle.line_runs.proofs.runner.Runner.carry.Goals as goal

pub returns-in_err-set_moment-in-SetsMoment-clause-disk_frame : goal.returns-in_err-set_moment-in-SetsMoment-clause-disk_frame
returns-in_err-set_moment-in-SetsMoment-clause-disk_frame g c = goes_on_same _

pub returns-in_err-refuse-in-OutsideScripts-clause-disk_frame : goal.returns-in_err-refuse-in-OutsideScripts-clause-disk_frame
returns-in_err-refuse-in-OutsideScripts-clause-disk_frame g c = goes_on_same _

pub returns-in-Blank-clause-disk_frame : goal.returns-in-Blank-clause-disk_frame
returns-in-Blank-clause-disk_frame g c = goes_on_same _

pub returns-in_ok-set_moment-in-SetsMoment-clause-disk_frame : goal.returns-in_ok-set_moment-in-SetsMoment-clause-disk_frame
returns-in_ok-set_moment-in-SetsMoment-clause-disk_frame g c = goes_on_same _

pub returns-in_ok-refuse-in-OutsideScripts-clause-disk_frame : goal.returns-in_ok-refuse-in-OutsideScripts-clause-disk_frame
returns-in_ok-refuse-in-OutsideScripts-clause-disk_frame g c = goes_on_same _

pub returns-in_err-set_moment-in-SetsMoment-clause-notary_frame : goal.returns-in_err-set_moment-in-SetsMoment-clause-notary_frame
returns-in_err-set_moment-in-SetsMoment-clause-notary_frame g c = notary_frames.goes_on_same _

pub returns-in_err-refuse-in-OutsideScripts-clause-notary_frame : goal.returns-in_err-refuse-in-OutsideScripts-clause-notary_frame
returns-in_err-refuse-in-OutsideScripts-clause-notary_frame g c = notary_frames.goes_on_same _

pub returns-in-Blank-clause-notary_frame : goal.returns-in-Blank-clause-notary_frame
returns-in-Blank-clause-notary_frame g c = notary_frames.goes_on_same _

pub returns-in_ok-set_moment-in-SetsMoment-clause-notary_frame : goal.returns-in_ok-set_moment-in-SetsMoment-clause-notary_frame
returns-in_ok-set_moment-in-SetsMoment-clause-notary_frame g c = notary_frames.goes_on_same _

pub returns-in_ok-refuse-in-OutsideScripts-clause-notary_frame : goal.returns-in_ok-refuse-in-OutsideScripts-clause-notary_frame
returns-in_ok-refuse-in-OutsideScripts-clause-notary_frame g c = notary_frames.goes_on_same _

pub returns-in-Blank-clause-told : goal.returns-in-Blank-clause-told
returns-in-Blank-clause-told g c =
    goes_by c.args.line.now kinds.Blank 0 (Ok c.new.result) c.args.self.now c.args.self.now (desk (g.D.Disk.state c.args.disk.now) (g.N.Notary.state c.args.notary.now)) (desk (g.D.Disk.state c.args.disk.now) (g.N.Notary.state c.args.notary.now)) (g.C.Clock.state c.args.clock.now) (g.C.Clock.state c.args.clock.now)
    (sym c.kind.ensures.value ∙ c.in-Blank.is) (λ part e. cc) refl tt (blank_goes c.new.result c.args.self.now (g.D.Disk.state c.args.disk.now) (g.N.Notary.state c.args.notary.now) (g.met.D.Disk.only_now c.args.disk.now) c.new.ensures.value)

pub returns-in_ok-set_moment-in-SetsMoment-clause-told : goal.returns-in_ok-set_moment-in-SetsMoment-clause-told
returns-in_ok-set_moment-in-SetsMoment-clause-told g c =
    let text = c.in_ok-set_moment-in-SetsMoment.field-0 in
    let kind = kinds.SetsMoment c.in-SetsMoment.moment in
    goes_by c.args.line.now kind c.seconds.result (Ok text) c.args.self.now c.set_moment.new.self (desk (g.D.Disk.state c.args.disk.now) (g.N.Notary.state c.args.notary.now)) (desk (g.D.Disk.state c.args.disk.now) (g.N.Notary.state c.args.notary.now)) (g.C.Clock.state c.args.clock.now) (g.C.Clock.state c.seconds.new.clock)
    (sym c.kind.ensures.value ∙ c.in-SetsMoment.is) (λ part e. cc) (takes_for kind c.args.self.now.is_scripted c.args.self.now c.seconds.result (g.C.Clock.state c.args.clock.now) (g.C.Clock.state c.seconds.new.clock) (λ e. cc) c.seconds.ensures.value) tt
    (sets_goes c.args.self.now c.set_moment.new.self (g.D.Disk.state c.args.disk.now) (g.N.Notary.state c.args.notary.now) (g.met.D.Disk.only_now c.args.disk.now) _ c.args.self.now.is_scripted c.in-SetsMoment.moment text c.in_ok-set_moment-in-SetsMoment.ensures.value)

pub returns-in_err-set_moment-in-SetsMoment-clause-told : goal.returns-in_err-set_moment-in-SetsMoment-clause-told
returns-in_err-set_moment-in-SetsMoment-clause-told g c =
    let same : c.from_residual.result ≡ Err lines.NoMemory = search rules in
    let kind = kinds.SetsMoment c.in-SetsMoment.moment in
    rw same (goes_by c.args.line.now kind c.seconds.result (Err lines.NoMemory) c.args.self.now c.set_moment.new.self (desk (g.D.Disk.state c.args.disk.now) (g.N.Notary.state c.args.notary.now)) (desk (g.D.Disk.state c.args.disk.now) (g.N.Notary.state c.args.notary.now)) (g.C.Clock.state c.args.clock.now) (g.C.Clock.state c.seconds.new.clock)
    (sym c.kind.ensures.value ∙ c.in-SetsMoment.is) (λ part e. cc) (takes_for kind c.args.self.now.is_scripted c.args.self.now c.seconds.result (g.C.Clock.state c.args.clock.now) (g.C.Clock.state c.seconds.new.clock) (λ e. cc) c.seconds.ensures.value) refl
    (fails_goes c.args.self.now c.set_moment.new.self (g.D.Disk.state c.args.disk.now) (g.N.Notary.state c.args.notary.now) (g.met.D.Disk.only_now c.args.disk.now) (λ r. set_moment c.args.self.now.is_scripted r c.in-SetsMoment.moment) lines.NoMemory (moment_same c.args.self.now.is_scripted c.in-SetsMoment.moment)))

pub returns-in_ok-refuse-in-OutsideScripts-clause-told : goal.returns-in_ok-refuse-in-OutsideScripts-clause-told
returns-in_ok-refuse-in-OutsideScripts-clause-told g c =
    let text = c.in_ok-refuse-in-OutsideScripts.field-0 in
    goes_by c.args.line.now kinds.OutsideScripts c.seconds-in-OutsideScripts.result (Ok text) c.args.self.now c.refuse.new.self (desk (g.D.Disk.state c.args.disk.now) (g.N.Notary.state c.args.notary.now)) (desk (g.D.Disk.state c.args.disk.now) (g.N.Notary.state c.args.notary.now)) (g.C.Clock.state c.args.clock.now) (g.C.Clock.state c.seconds-in-OutsideScripts.new.clock)
    (sym c.kind.ensures.value ∙ c.in-OutsideScripts.is) (λ part e. cc) (takes_for kinds.OutsideScripts c.args.self.now.is_scripted c.args.self.now c.seconds-in-OutsideScripts.result (g.C.Clock.state c.args.clock.now) (g.C.Clock.state c.seconds-in-OutsideScripts.new.clock) (λ e. cc) c.seconds-in-OutsideScripts.ensures.value) tt
    (refuses_goes c.args.self.now c.refuse.new.self (g.D.Disk.state c.args.disk.now) (g.N.Notary.state c.args.notary.now) (g.met.D.Disk.only_now c.args.disk.now) (codes "Syntax") text c.in_ok-refuse-in-OutsideScripts.ensures.value c.in_ok-refuse-in-OutsideScripts.ensures.change)

pub returns-in_err-refuse-in-OutsideScripts-clause-told : goal.returns-in_err-refuse-in-OutsideScripts-clause-told
returns-in_err-refuse-in-OutsideScripts-clause-told g c =
    let same : c.from_residual-in_err-refuse-in-OutsideScripts.result ≡ Err lines.NoMemory = search rules in
    rw same (goes_by c.args.line.now kinds.OutsideScripts c.seconds-in-OutsideScripts.result (Err lines.NoMemory) c.args.self.now c.refuse.new.self (desk (g.D.Disk.state c.args.disk.now) (g.N.Notary.state c.args.notary.now)) (desk (g.D.Disk.state c.args.disk.now) (g.N.Notary.state c.args.notary.now)) (g.C.Clock.state c.args.clock.now) (g.C.Clock.state c.seconds-in-OutsideScripts.new.clock)
    (sym c.kind.ensures.value ∙ c.in-OutsideScripts.is) (λ part e. cc) (takes_for kinds.OutsideScripts c.args.self.now.is_scripted c.args.self.now c.seconds-in-OutsideScripts.result (g.C.Clock.state c.args.clock.now) (g.C.Clock.state c.seconds-in-OutsideScripts.new.clock) (λ e. cc) c.seconds-in-OutsideScripts.ensures.value) refl
    (fails_goes c.args.self.now c.refuse.new.self (g.D.Disk.state c.args.disk.now) (g.N.Notary.state c.args.notary.now) (g.met.D.Disk.only_now c.args.disk.now) (λ r. refused_line r (codes "Syntax")) lines.NoMemory (λ r. refl)))

pub returns-in-InWorld-clause-told : goal.returns-in-InWorld-clause-told
returns-in-InWorld-clause-told g c =
    steps_by c.args.line.now c.in-InWorld.part c.seconds-now.result c.step.result c.args.self.now c.step.new.self (desk (g.D.Disk.state c.args.disk.now) (g.N.Notary.state c.args.notary.now)) (desk (g.D.Disk.state c.step.new.disk) (g.N.Notary.state c.step.new.notary)) (g.C.Clock.state c.args.clock.now) (g.C.Clock.state c.seconds-now.new.clock)
    (sym c.kind.ensures.value ∙ c.in-InWorld.is) c.seconds-now.ensures.value c.step.ensures.told
