use Rattle.std.proofs.Common.{rules, refl, sym, ap, subst, ◌∙◌}
use Rattle.notary_link.proofs.Frame as notary_frames
use Rattle.stmt_text.specs.declared.line.Line.{Line}
use Rattle.validator.specs.Desk.{desk}
use Rattle.store_world.specs.Standing.{StandsOver}
use Rattle.store_world.specs.Parts.{alone, asking}
use Rattle.store_world.specs.Stepping.{StepsFor}
use Rattle.store_world.proofs.Analysing.{sound_where}
use Rattle.store_world.proofs.lines.answer_with_store.Goals as goal

pub returns-in-None-clause-notary_frame : goal.returns-in-None-clause-notary_frame
returns-in-None-clause-notary_frame g c = notary_frames.goes_on_same _

pub returns-in-Some-Notarize-clause-sound : goal.returns-in-Some-Notarize-clause-sound
returns-in-Some-Notarize-clause-sound g c = sound_where _ (StandsOver (alone c.args.sessions.now c.args.store.now c.args.auditor.now)) (λ b stands. (stands.0.store.items, stands.1.store.open_on)) (g.D.Disk.state c.args.disk.now) (g.D.Disk.state c.answer_notarization.new.disk) (g.N.Notary.state c.args.notary.now) (g.N.Notary.state c.answer_notarization.new.notary) c.answer_notarization.ensures.sound

pub returns-in-Some-Policy-clause-sound : goal.returns-in-Some-Policy-clause-sound
returns-in-Some-Policy-clause-sound g c = sound_where _ (StandsOver (alone c.args.sessions.now c.args.store.now c.args.auditor.now)) (λ b stands. (stands.0.store.items, stands.1.store.open_on)) (g.D.Disk.state c.args.disk.now) (g.D.Disk.state c.answer_policy.new.disk) (g.N.Notary.state c.args.notary.now) (g.N.Notary.state c.answer_policy.new.notary) c.answer_policy.ensures.sound

pub returns-in-Some-Validate-clause-sound : goal.returns-in-Some-Validate-clause-sound
returns-in-Some-Validate-clause-sound g c = sound_where _ (StandsOver (alone c.args.sessions.now c.args.store.now c.args.auditor.now)) (λ b stands. tt) (g.D.Disk.state c.args.disk.now) (g.D.Disk.state c.answer_validation.new.disk) (g.N.Notary.state c.args.notary.now) (g.N.Notary.state c.answer_validation.new.notary) c.answer_validation.ensures.sound

pub returns-in-Some-Analyse-clause-sound : goal.returns-in-Some-Analyse-clause-sound
returns-in-Some-Analyse-clause-sound g c = sound_where _ (StandsOver (alone c.args.sessions.now c.args.store.now c.args.auditor.now)) (λ b stands. tt) (g.D.Disk.state c.args.disk.now) (g.D.Disk.state c.answer_analysis.new.disk) (g.N.Notary.state c.args.notary.now) (g.N.Notary.state c.answer_analysis.new.notary) c.answer_analysis.ensures.sound

pub returns-in-Some-Audit-clause-sound : goal.returns-in-Some-Audit-clause-sound
returns-in-Some-Audit-clause-sound g c = sound_where _ (StandsOver (alone c.args.sessions.now c.args.store.now c.args.auditor.now)) (λ b stands. tt) (g.D.Disk.state c.args.disk.now) (g.D.Disk.state c.answer_audit.new.disk) (g.N.Notary.state c.args.notary.now) (g.N.Notary.state c.answer_audit.new.notary) c.answer_audit.ensures.sound

pub returns-in-Some-Audit-clause-told : goal.returns-in-Some-Audit-clause-told
returns-in-Some-Audit-clause-told g c =
    let S = g.D.Disk.state in
    let N = g.N.Notary.state in
    let held = alone c.args.sessions.now c.args.store.now c.args.auditor.now in
    subst (λ (l : Line). StepsFor l c.args.now c.answer_audit.result held (alone c.args.sessions.now c.args.store.now c.answer_audit.new.auditor) (desk (S c.args.disk.now) (N c.args.notary.now)) (desk (S c.answer_audit.new.disk) (N c.answer_audit.new.notary)))
    (sym (c.in-Some-Audit.ensures.asked ∙ ap asking c.in-Some-Audit.field-0-is)) (c.answer_audit.ensures.told held (search rules) refl)
