use Rattle.std.proofs.Common.{rules, ◌≡◌, ◌≤◌, ◌+◌, Err, refl, ◌∙◌}
use Rattle.outside_words.proofs.Told.{told_same}
use Rattle.disk_words.proofs.Steady.{unchanged_then}
use Rattle.notary_link.specs.Notary.{Keeps}
use Rattle.notary_link.proofs.Frame.{goes_on_same}
use Rattle.validator.proofs.Filed.{keeps_same}
use Rattle.validator.proofs.Sound.{kept_sound}
use Rattle.audit_steps.specs.declared.next.Next.TheVariants as nexts
use Rattle.audit_steps.specs.Auditing.{IsAuditOf}
use Rattle.audit_steps.specs.Steps.{NextIs}
use Rattle.audit_steps.proofs.Ending.{at_end, ends_more, ends_few, ends_most, within_most, ends_nowhere, same_auditing}
use Rattle.audit_steps.proofs.auditor.Auditor.step.Goals as goal

pub returns-in_err-auditing-clause-notary_frame : goal.returns-in_err-auditing-clause-notary_frame
returns-in_err-auditing-clause-notary_frame g c = goes_on_same (g.N.Notary.state c.args.notary.now)

pub returns-in-Going-clause-notary_frame : goal.returns-in-Going-clause-notary_frame
returns-in-Going-clause-notary_frame g c = goes_on_same (g.N.Notary.state c.args.notary.now)

pub returns-in_ok-verdict-in-Last-clause-more : goal.returns-in_ok-verdict-in-Last-clause-more
returns-in_ok-verdict-in-Last-clause-more g c =
    let reads = (g.D.Disk.state c.args.disk.now).reads in
    let near = (g.D.Disk.state c.read_next.new.disk).reads in
    let id = c.args.id in
    let v = c.args.self.now in
    let b = c.in-Last.auditing in
    let own = c.replace-under_way.ensures.value ∙ c.self.view_is in
    let ends = same_auditing (λ o bytes. IsAuditOf id o bytes → NextIs id bytes o (nexts.Last b)) c.replace-under_way.result v reads own (rw c.in-Last.is at c.in_ok-auditing.ensures.value) in
    ends_more id v b _ reads ends

pub returns-in_ok-verdict-in-Last-clause-unasked : goal.returns-in_ok-verdict-in-Last-clause-unasked
returns-in_ok-verdict-in-Last-clause-unasked g c =
    let reads = (g.D.Disk.state c.args.disk.now).reads in
    let near = (g.D.Disk.state c.read_next.new.disk).reads in
    let id = c.args.id in
    let v = c.args.self.now in
    let b = c.in-Last.auditing in
    let own = c.replace-under_way.ensures.value ∙ c.self.view_is in
    let ends = same_auditing (λ o bytes. IsAuditOf id o bytes → NextIs id bytes o (nexts.Last b)) c.replace-under_way.result v reads own (rw c.in-Last.is at c.in_ok-auditing.ensures.value) in
    ends_more id v b _ reads ends

pub returns-in_ok-verdict-in-Last-clause-told : goal.returns-in_ok-verdict-in-Last-clause-told
returns-in_ok-verdict-in-Last-clause-told g c =
    let reads = (g.D.Disk.state c.args.disk.now).reads in
    let near = (g.D.Disk.state c.read_next.new.disk).reads in
    let id = c.args.id in
    let v = c.args.self.now in
    let b = c.in-Last.auditing in
    let own = c.replace-under_way.ensures.value ∙ c.self.view_is in
    let ends = same_auditing (λ o bytes. IsAuditOf id o bytes → NextIs id bytes o (nexts.Last b)) c.replace-under_way.result v reads own (rw c.in-Last.is at c.in_ok-auditing.ensures.value) in
    at_end id v b _ reads near c.in_ok-auditing.ensures.same.reads ends c.in_ok-verdict-in-Last.ensures.told

pub returns-in_ok-verdict-in-Last-clause-few : goal.returns-in_ok-verdict-in-Last-clause-few
returns-in_ok-verdict-in-Last-clause-few g c =
    let reads = (g.D.Disk.state c.args.disk.now).reads in
    let near = (g.D.Disk.state c.read_next.new.disk).reads in
    let id = c.args.id in
    let v = c.args.self.now in
    let b = c.in-Last.auditing in
    let own = c.replace-under_way.ensures.value ∙ c.self.view_is in
    let ends = same_auditing (λ o bytes. IsAuditOf id o bytes → NextIs id bytes o (nexts.Last b)) c.replace-under_way.result v reads own (rw c.in-Last.is at c.in_ok-auditing.ensures.value) in
    at_end id v b _ reads near c.in_ok-auditing.ensures.same.reads ends c.in_ok-verdict-in-Last.ensures.few

pub returns-in_ok-verdict-in-Last-clause-nowhere : goal.returns-in_ok-verdict-in-Last-clause-nowhere
returns-in_ok-verdict-in-Last-clause-nowhere g c =
    let reads = (g.D.Disk.state c.args.disk.now).reads in
    let near = (g.D.Disk.state c.read_next.new.disk).reads in
    let id = c.args.id in
    let v = c.args.self.now in
    let b = c.in-Last.auditing in
    let own = c.replace-under_way.ensures.value ∙ c.self.view_is in
    let ends = same_auditing (λ o bytes. IsAuditOf id o bytes → NextIs id bytes o (nexts.Last b)) c.replace-under_way.result v reads own (rw c.in-Last.is at c.in_ok-auditing.ensures.value) in
    ends_nowhere id v b _ reads ends (λ none. c.in_ok-verdict-in-Last.ensures.nowhere none)

pub returns-in_ok-verdict-in-Last-clause-steps : goal.returns-in_ok-verdict-in-Last-clause-steps
returns-in_ok-verdict-in-Last-clause-steps g c =
    let reads = (g.D.Disk.state c.args.disk.now).reads in
    let near = (g.D.Disk.state c.read_next.new.disk).reads in
    let id = c.args.id in
    let v = c.args.self.now in
    let b = c.in-Last.auditing in
    let own = c.replace-under_way.ensures.value ∙ c.self.view_is in
    let ends = same_auditing (λ o bytes. IsAuditOf id o bytes → NextIs id bytes o (nexts.Last b)) c.replace-under_way.result v reads own (rw c.in-Last.is at c.in_ok-auditing.ensures.value) in
    let few = same_auditing (λ o bytes. IsAuditOf id o bytes → c.read_next.new.steps ≤ c.args.steps.now + 512) c.replace-under_way.result v reads own c.read_next.ensures.steps in
    ends_few id v b c.args.steps.now c.read_next.new.steps c.conclude.new.steps ⊥ (λ never. never) reads near c.in_ok-auditing.ensures.same.reads ends few c.conclude.ensures.steps

pub returns-in_ok-verdict-in-Last-clause-sound : goal.returns-in_ok-verdict-in-Last-clause-sound
returns-in_ok-verdict-in-Last-clause-sound g c =
    let L = (g.N.Notary.state c.args.notary.now).lists in
    let D = g.D.Disk.state in
    kept_sound (Unit {0}) (D c.args.disk.now) (D c.conclude.new.disk) L L (g.N.Notary.state c.conclude.new.notary).lists
    (unchanged_then (D c.args.disk.now) (D c.read_next.new.disk) (D c.conclude.new.disk) c.in_ok-auditing.ensures.same c.conclude.ensures.same)
    c.conclude.ensures.notary_frame.told.untold (told_same L L Keeps refl keeps_same) c.conclude.ensures.batches

pub returns-in_err-verdict-in-Last-clause-more : goal.returns-in_err-verdict-in-Last-clause-more
returns-in_err-verdict-in-Last-clause-more g c =
    let same : c.from_residual-in_err-verdict-in-Last.result ≡ Err c.in_err-verdict-in-Last.field-0.0 = search rules in
    let reads = (g.D.Disk.state c.args.disk.now).reads in
    let near = (g.D.Disk.state c.read_next.new.disk).reads in
    let id = c.args.id in
    let v = c.args.self.now in
    let b = c.in-Last.auditing in
    let own = c.replace-under_way.ensures.value ∙ c.self.view_is in
    let ends = same_auditing (λ o bytes. IsAuditOf id o bytes → NextIs id bytes o (nexts.Last b)) c.replace-under_way.result v reads own (rw c.in-Last.is at c.in_ok-auditing.ensures.value) in
    rw same (ends_more id v b _ reads ends)

pub returns-in_err-verdict-in-Last-clause-unasked : goal.returns-in_err-verdict-in-Last-clause-unasked
returns-in_err-verdict-in-Last-clause-unasked g c =
    let reads = (g.D.Disk.state c.args.disk.now).reads in
    let near = (g.D.Disk.state c.read_next.new.disk).reads in
    let id = c.args.id in
    let v = c.args.self.now in
    let b = c.in-Last.auditing in
    let own = c.replace-under_way.ensures.value ∙ c.self.view_is in
    let ends = same_auditing (λ o bytes. IsAuditOf id o bytes → NextIs id bytes o (nexts.Last b)) c.replace-under_way.result v reads own (rw c.in-Last.is at c.in_ok-auditing.ensures.value) in
    ends_more id v b _ reads ends

pub returns-in_err-verdict-in-Last-clause-told : goal.returns-in_err-verdict-in-Last-clause-told
returns-in_err-verdict-in-Last-clause-told g c =
    let same : c.from_residual-in_err-verdict-in-Last.result ≡ Err c.in_err-verdict-in-Last.field-0.0 = search rules in
    let reads = (g.D.Disk.state c.args.disk.now).reads in
    let near = (g.D.Disk.state c.read_next.new.disk).reads in
    let id = c.args.id in
    let v = c.args.self.now in
    let b = c.in-Last.auditing in
    let own = c.replace-under_way.ensures.value ∙ c.self.view_is in
    let ends = same_auditing (λ o bytes. IsAuditOf id o bytes → NextIs id bytes o (nexts.Last b)) c.replace-under_way.result v reads own (rw c.in-Last.is at c.in_ok-auditing.ensures.value) in
    rw same (at_end id v b _ reads near c.in_ok-auditing.ensures.same.reads ends c.in_err-verdict-in-Last.ensures.told)

pub returns-in_err-verdict-in-Last-clause-nowhere : goal.returns-in_err-verdict-in-Last-clause-nowhere
returns-in_err-verdict-in-Last-clause-nowhere g c =
    let same : c.from_residual-in_err-verdict-in-Last.result ≡ Err c.in_err-verdict-in-Last.field-0.0 = search rules in
    let reads = (g.D.Disk.state c.args.disk.now).reads in
    let near = (g.D.Disk.state c.read_next.new.disk).reads in
    let id = c.args.id in
    let v = c.args.self.now in
    let b = c.in-Last.auditing in
    let own = c.replace-under_way.ensures.value ∙ c.self.view_is in
    let ends = same_auditing (λ o bytes. IsAuditOf id o bytes → NextIs id bytes o (nexts.Last b)) c.replace-under_way.result v reads own (rw c.in-Last.is at c.in_ok-auditing.ensures.value) in
    rw same (ends_nowhere id v b _ reads ends (λ none. c.in_err-verdict-in-Last.ensures.nowhere none))

pub returns-in_err-verdict-in-Last-clause-steps : goal.returns-in_err-verdict-in-Last-clause-steps
returns-in_err-verdict-in-Last-clause-steps g c =
    let same : c.from_residual-in_err-verdict-in-Last.result ≡ Err c.in_err-verdict-in-Last.field-0.0 = search rules in
    let reads = (g.D.Disk.state c.args.disk.now).reads in
    let near = (g.D.Disk.state c.read_next.new.disk).reads in
    let id = c.args.id in
    let v = c.args.self.now in
    let b = c.in-Last.auditing in
    let own = c.replace-under_way.ensures.value ∙ c.self.view_is in
    let ends = same_auditing (λ o bytes. IsAuditOf id o bytes → NextIs id bytes o (nexts.Last b)) c.replace-under_way.result v reads own (rw c.in-Last.is at c.in_ok-auditing.ensures.value) in
    let few = same_auditing (λ o bytes. IsAuditOf id o bytes → c.read_next.new.steps ≤ c.args.steps.now + 512) c.replace-under_way.result v reads own c.read_next.ensures.steps in
    rw same (ends_few id v b c.args.steps.now c.read_next.new.steps c.conclude.new.steps ⊥ (λ never. never) reads near c.in_ok-auditing.ensures.same.reads ends few c.conclude.ensures.steps)

pub returns-in_err-verdict-in-Last-clause-sound : goal.returns-in_err-verdict-in-Last-clause-sound
returns-in_err-verdict-in-Last-clause-sound g c =
    let L = (g.N.Notary.state c.args.notary.now).lists in
    let D = g.D.Disk.state in
    kept_sound (Unit {0}) (D c.args.disk.now) (D c.conclude.new.disk) L L (g.N.Notary.state c.conclude.new.notary).lists
    (unchanged_then (D c.args.disk.now) (D c.read_next.new.disk) (D c.conclude.new.disk) c.in_ok-auditing.ensures.same c.conclude.ensures.same)
    c.conclude.ensures.notary_frame.told.untold (told_same L L Keeps refl keeps_same) c.conclude.ensures.batches

pub returns-in_err-auditing-clause-most : goal.returns-in_err-auditing-clause-most
returns-in_err-auditing-clause-most g c =
    let reads = (g.D.Disk.state c.args.disk.now).reads in
    let id = c.args.id in
    let v = c.args.self.now in
    let own = c.replace-under_way.ensures.value ∙ c.self.view_is in
    let few = same_auditing (λ o bytes. IsAuditOf id o bytes → c.read_next.new.steps ≤ c.args.steps.now + 512) c.replace-under_way.result v reads own c.read_next.ensures.steps in
    within_most id v v c.args.steps.now c.read_next.new.steps reads few

pub returns-in-Going-clause-most : goal.returns-in-Going-clause-most
returns-in-Going-clause-most g c =
    let reads = (g.D.Disk.state c.args.disk.now).reads in
    let id = c.args.id in
    let v = c.args.self.now in
    let own = c.replace-under_way.ensures.value ∙ c.self.view_is in
    let few = same_auditing (λ o bytes. IsAuditOf id o bytes → c.read_next.new.steps ≤ c.args.steps.now + 512) c.replace-under_way.result v reads own c.read_next.ensures.steps in
    within_most id v v c.args.steps.now c.read_next.new.steps reads few

pub returns-in_ok-verdict-in-Last-clause-most : goal.returns-in_ok-verdict-in-Last-clause-most
returns-in_ok-verdict-in-Last-clause-most g c =
    let reads = (g.D.Disk.state c.args.disk.now).reads in
    let near = (g.D.Disk.state c.read_next.new.disk).reads in
    let id = c.args.id in
    let v = c.args.self.now in
    let own = c.replace-under_way.ensures.value ∙ c.self.view_is in
    let few = same_auditing (λ o bytes. IsAuditOf id o bytes → c.read_next.new.steps ≤ c.args.steps.now + 512) c.replace-under_way.result v reads own c.read_next.ensures.steps in
    ends_most id v c.in-Last.auditing c.args.steps.now c.read_next.new.steps c.conclude.new.steps reads near c.in_ok-auditing.ensures.same.reads few c.conclude.ensures.most

pub returns-in_err-verdict-in-Last-clause-most : goal.returns-in_err-verdict-in-Last-clause-most
returns-in_err-verdict-in-Last-clause-most g c =
    let reads = (g.D.Disk.state c.args.disk.now).reads in
    let near = (g.D.Disk.state c.read_next.new.disk).reads in
    let id = c.args.id in
    let v = c.args.self.now in
    let own = c.replace-under_way.ensures.value ∙ c.self.view_is in
    let few = same_auditing (λ o bytes. IsAuditOf id o bytes → c.read_next.new.steps ≤ c.args.steps.now + 512) c.replace-under_way.result v reads own c.read_next.ensures.steps in
    ends_most id v c.in-Last.auditing c.args.steps.now c.read_next.new.steps c.conclude.new.steps reads near c.in_ok-auditing.ensures.same.reads few c.conclude.ensures.most
