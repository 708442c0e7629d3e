use Rattle.std.proofs.Common.{◌≡◌, refl, sym, subst, Result, Ok, Err, codes, rules}
use Rattle.std.specs.Prelude.{IfOk}
use Rattle.stmt_text.specs.declared.error.ParseFail.{ParseFail}
use Rattle.stmt_text.specs.declared.line.Line.{Line}
use Rattle.line_runs.specs.Sees.{Follows}
use Rattle.disk_words.proofs.Frame.{goes_on_same}
use Rattle.notary_link.proofs.Frame as notary_frames
use Rattle.store_world.specs.declared.fail.LineFail.TheVariants as lines
use Rattle.stmt_text.specs.declared.error.ParseFail.TheVariants as parses
use Rattle.line_runs.specs.Running.{refused_line}
use Rattle.line_runs.proofs.Replying.{replies_by, replies_refused, replies_none, refuses_goes, fails_goes}
use Rattle.line_runs.specs.Devices.{desk}
use Rattle.line_runs.proofs.runner.Runner.reply.Goals as goal

pub returns-in_err-refuse-in-Err-Syntax-clause-disk_frame : goal.returns-in_err-refuse-in-Err-Syntax-clause-disk_frame
returns-in_err-refuse-in-Err-Syntax-clause-disk_frame g c = goes_on_same _

pub returns-in_err-refuse-in-Err-NumberTooWide-clause-disk_frame : goal.returns-in_err-refuse-in-Err-NumberTooWide-clause-disk_frame
returns-in_err-refuse-in-Err-NumberTooWide-clause-disk_frame g c = goes_on_same _

pub returns-in_ok-refuse-in-Err-Syntax-clause-disk_frame : goal.returns-in_ok-refuse-in-Err-Syntax-clause-disk_frame
returns-in_ok-refuse-in-Err-Syntax-clause-disk_frame g c = goes_on_same _

pub returns-in_ok-refuse-in-Err-NumberTooWide-clause-disk_frame : goal.returns-in_ok-refuse-in-Err-NumberTooWide-clause-disk_frame
returns-in_ok-refuse-in-Err-NumberTooWide-clause-disk_frame g c = goes_on_same _

pub returns-in-Err-NoMemory-clause-disk_frame : goal.returns-in-Err-NoMemory-clause-disk_frame
returns-in-Err-NoMemory-clause-disk_frame g c = goes_on_same _

pub returns-in_err-refuse-in-Err-Syntax-clause-notary_frame : goal.returns-in_err-refuse-in-Err-Syntax-clause-notary_frame
returns-in_err-refuse-in-Err-Syntax-clause-notary_frame g c = notary_frames.goes_on_same _

pub returns-in_err-refuse-in-Err-NumberTooWide-clause-notary_frame : goal.returns-in_err-refuse-in-Err-NumberTooWide-clause-notary_frame
returns-in_err-refuse-in-Err-NumberTooWide-clause-notary_frame g c = notary_frames.goes_on_same _

pub returns-in_ok-refuse-in-Err-Syntax-clause-notary_frame : goal.returns-in_ok-refuse-in-Err-Syntax-clause-notary_frame
returns-in_ok-refuse-in-Err-Syntax-clause-notary_frame g c = notary_frames.goes_on_same _

pub returns-in_ok-refuse-in-Err-NumberTooWide-clause-notary_frame : goal.returns-in_ok-refuse-in-Err-NumberTooWide-clause-notary_frame
returns-in_ok-refuse-in-Err-NumberTooWide-clause-notary_frame g c = notary_frames.goes_on_same _

pub returns-in-Err-NoMemory-clause-notary_frame : goal.returns-in-Err-NoMemory-clause-notary_frame
returns-in-Err-NoMemory-clause-notary_frame g c = notary_frames.goes_on_same _

pub returns-in-Ok-clause-told : goal.returns-in-Ok-clause-told
returns-in-Ok-clause-told g c =
    replies_by c.args.line.now c.in-Ok.line c.carry-reply.result c.args.self.now c.carry-reply.new.self (desk (g.D.Disk.state c.args.disk.now) (g.N.Notary.state c.args.notary.now)) (desk (g.D.Disk.state c.carry-reply.new.disk) (g.N.Notary.state c.carry-reply.new.notary)) (g.C.Clock.state c.args.clock.now) (g.C.Clock.state c.carry-reply.new.clock)
    c.in-Ok.ensures.value c.in-Ok.ensures.spelled c.carry-reply.ensures.told

pub returns-in-Err-NoMemory-clause-told : goal.returns-in-Err-NoMemory-clause-told
returns-in-Err-NoMemory-clause-told g c = replies_none c.args.line.now c.args.self.now c.args.self.now (g.D.Disk.state c.args.disk.now) (g.N.Notary.state c.args.notary.now) (g.C.Clock.state c.args.clock.now) (g.met.D.Disk.only_now c.args.disk.now)

pub returns-in_ok-refuse-in-Err-Syntax-clause-told : goal.returns-in_ok-refuse-in-Err-Syntax-clause-told
returns-in_ok-refuse-in-Err-Syntax-clause-told g c =
    let text = c.in_ok-refuse-in-Err-Syntax.field-0 in
    replies_refused c.args.line.now (codes "Syntax") parses.Syntax c.seconds.result (Ok text) c.args.self.now c.refuse.new.self (g.D.Disk.state c.args.disk.now) (g.N.Notary.state c.args.notary.now) (g.C.Clock.state c.args.clock.now) (g.C.Clock.state c.seconds.new.clock)
    (rw c.in-Err-Syntax.field-0-is at c.in-Err-Syntax.ensures.value) (λ s n r. refl) c.seconds.ensures.value tt (g.met.D.Disk.only_now c.args.disk.now)
    (refuses_goes c.args.self.now c.refuse.new.self (g.D.Disk.state c.args.disk.now) (g.N.Notary.state c.args.notary.now) (g.met.D.Disk.only_now c.args.disk.now) (codes "Syntax") text c.in_ok-refuse-in-Err-Syntax.ensures.value c.in_ok-refuse-in-Err-Syntax.ensures.change)

pub returns-in_ok-refuse-in-Err-NumberTooWide-clause-told : goal.returns-in_ok-refuse-in-Err-NumberTooWide-clause-told
returns-in_ok-refuse-in-Err-NumberTooWide-clause-told g c =
    let text = c.in_ok-refuse-in-Err-NumberTooWide.field-0 in
    replies_refused c.args.line.now (codes "NumberTooWide") parses.NumberTooWide c.seconds-in-Err-NumberTooWide.result (Ok text) c.args.self.now c.refuse-in-Err-NumberTooWide.new.self (g.D.Disk.state c.args.disk.now) (g.N.Notary.state c.args.notary.now) (g.C.Clock.state c.args.clock.now) (g.C.Clock.state c.seconds-in-Err-NumberTooWide.new.clock)
    (rw c.in-Err-NumberTooWide.field-0-is at c.in-Err-NumberTooWide.ensures.value) (λ s n r. refl) c.seconds-in-Err-NumberTooWide.ensures.value tt (g.met.D.Disk.only_now c.args.disk.now)
    (refuses_goes c.args.self.now c.refuse-in-Err-NumberTooWide.new.self (g.D.Disk.state c.args.disk.now) (g.N.Notary.state c.args.notary.now) (g.met.D.Disk.only_now c.args.disk.now) (codes "NumberTooWide") text c.in_ok-refuse-in-Err-NumberTooWide.ensures.value c.in_ok-refuse-in-Err-NumberTooWide.ensures.change)

pub returns-in_err-refuse-in-Err-Syntax-clause-told : goal.returns-in_err-refuse-in-Err-Syntax-clause-told
returns-in_err-refuse-in-Err-Syntax-clause-told g c =
    let same : c.from_residual.result ≡ Err lines.NoMemory = search rules in
    rw same (replies_refused c.args.line.now (codes "Syntax") parses.Syntax c.seconds.result (Err lines.NoMemory) c.args.self.now c.refuse.new.self (g.D.Disk.state c.args.disk.now) (g.N.Notary.state c.args.notary.now) (g.C.Clock.state c.args.clock.now) (g.C.Clock.state c.seconds.new.clock)
    (rw c.in-Err-Syntax.field-0-is at c.in-Err-Syntax.ensures.value) (λ s n r. refl) c.seconds.ensures.value refl (g.met.D.Disk.only_now c.args.disk.now)
    (fails_goes c.args.self.now c.refuse.new.self (g.D.Disk.state c.args.disk.now) (g.N.Notary.state c.args.notary.now) (g.met.D.Disk.only_now c.args.disk.now) (λ r. refused_line r (codes "Syntax")) lines.NoMemory (λ r. refl)))

pub returns-in_err-refuse-in-Err-NumberTooWide-clause-told : goal.returns-in_err-refuse-in-Err-NumberTooWide-clause-told
returns-in_err-refuse-in-Err-NumberTooWide-clause-told g c =
    let same : c.from_residual-in_err-refuse-in-Err-NumberTooWide.result ≡ Err lines.NoMemory = search rules in
    rw same (replies_refused c.args.line.now (codes "NumberTooWide") parses.NumberTooWide c.seconds-in-Err-NumberTooWide.result (Err lines.NoMemory) c.args.self.now c.refuse-in-Err-NumberTooWide.new.self (g.D.Disk.state c.args.disk.now) (g.N.Notary.state c.args.notary.now) (g.C.Clock.state c.args.clock.now) (g.C.Clock.state c.seconds-in-Err-NumberTooWide.new.clock)
    (rw c.in-Err-NumberTooWide.field-0-is at c.in-Err-NumberTooWide.ensures.value) (λ s n r. refl) c.seconds-in-Err-NumberTooWide.ensures.value refl (g.met.D.Disk.only_now c.args.disk.now)
    (fails_goes c.args.self.now c.refuse-in-Err-NumberTooWide.new.self (g.D.Disk.state c.args.disk.now) (g.N.Notary.state c.args.notary.now) (g.met.D.Disk.only_now c.args.disk.now) (λ r. refused_line r (codes "NumberTooWide")) lines.NoMemory (λ r. refl)))

pub returns-in-Ok-clause-begun : goal.returns-in-Ok-clause-begun
returns-in-Ok-clause-begun g c = subst (λ (read : Result Line ParseFail). IfOk c.carry-reply.result (λ text. Follows read text c.args.begun.now c.follow.new.begun)) (sym c.in-Ok.ensures.value) c.follow.ensures.value
