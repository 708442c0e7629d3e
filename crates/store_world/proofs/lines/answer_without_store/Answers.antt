use Rattle.std.proofs.Common.{rules, refl, sym, ap, subst, ◌∙◌}
use Rattle.std.specs.Prelude.{⊤}
use Rattle.disk_words.proofs.Frame.{goes_on_same}
use Rattle.notary_link.proofs.Frame as notary_frames
use Rattle.stmt_text.specs.declared.line.Line.{Line}
use Rattle.stmt_text.specs.Kinds.{line_kind}
use Rattle.validator.specs.Desk.{desk}
use Rattle.store_world.specs.ByBytes.{NeedsStore}
use Rattle.store_world.specs.Parts.{no_store, asking}
use Rattle.store_world.specs.Stepping.{StepsFor}
use Rattle.store_world.proofs.Faults.{ends_wanting}
use Rattle.store_world.proofs.Nowhere.{nowhere}
use Rattle.store_world.proofs.lines.answer_without_store.Goals as goal

-- ---- `notarize`, or `policy`

pub returns-in-Some-Notarize-clause-told : goal.returns-in-Some-Notarize-clause-told
returns-in-Some-Notarize-clause-told g c =
    let needs : NeedsStore c.args.line.now = search rules in
    nowhere c.args.line.now needs c.args.id c.args.is_old c.args.now (g.D.Disk.state c.args.disk.now) (g.met.D.Disk.only_now c.args.disk.now) (g.N.Notary.state c.args.notary.now) c.no_answer.result c.no_answer.ensures.value c.no_answer.ensures.only_memory c.args.auditor.now

pub returns-in-Some-Notarize-clause-disk_frame : goal.returns-in-Some-Notarize-clause-disk_frame
returns-in-Some-Notarize-clause-disk_frame g c = goes_on_same _

pub returns-in-Some-Notarize-clause-notary_frame : goal.returns-in-Some-Notarize-clause-notary_frame
returns-in-Some-Notarize-clause-notary_frame g c = notary_frames.goes_on_same _

pub returns-in-Some-Notarize-clause-only : goal.returns-in-Some-Notarize-clause-only
returns-in-Some-Notarize-clause-only g c = ends_wanting ⊤ (line_kind c.args.line.now) c.no_answer.result c.no_answer.ensures.only_memory

-- ---- `audit`

pub returns-in-Some-Audit-clause-told : goal.returns-in-Some-Audit-clause-told
returns-in-Some-Audit-clause-told g c =
    let S = g.D.Disk.state in
    let N = g.N.Notary.state in
    subst (λ (l : Line). StepsFor l c.args.now c.answer_audit.result (no_store c.args.id c.args.is_old c.args.auditor.now) (no_store c.args.id c.args.is_old c.answer_audit.new.auditor) (desk (S c.args.disk.now) (N c.args.notary.now)) (desk (S c.answer_audit.new.disk) (N c.answer_audit.new.notary)))
    (sym (c.in-Some-Audit.ensures.asked ∙ ap asking c.in-Some-Audit.field-0-is)) (c.answer_audit.ensures.told (no_store c.args.id c.args.is_old c.args.auditor.now) refl refl)
