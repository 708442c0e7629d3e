use Rattle.std.proofs.Common.{rules, ◌≡◌, ◌∙◌, Ok, Err, ap}
use Rattle.outside_words.proofs.Told.{told_map}
use Rattle.notary_link.specs.Notary.{Lists}
use Rattle.evidence_examine.specs.declared.examined.Examined.TheVariants.{Lines}
use Rattle.evidence_examine.specs.Places.{layout_of}
use Rattle.evidence_examine.specs.Examining.{lists_examined, IsToldOf}
use Rattle.evidence_examine.specs.Judging.{judged_text}
use Rattle.evidence_examine.proofs.FileTold.{lines_told, refusal_told}
use Rattle.evidence_examine.proofs.examining.examine_lists.Goals as goal

pub returns-in_err-judged-clause-told : goal.returns-in_err-judged-clause-told
returns-in_err-judged-clause-told g c =
    let e = c.args.evidence.now in
    let fail = c.in_err-judged.field-0.0 in
    let same : c.from_residual.result ≡ Err fail = search rules in
    rw same (told_map _ _ _ (λ (before after : Lists). IsToldOf (lists_examined (before.batches e.header.id) (layout_of e) e.entries) (Err fail)) c.in_err-judged.ensures.told
    (λ before after so. refusal_told (before.batches e.header.id) e fail c.in_err-judged.ensures.only so.1))

pub returns-clause-told : goal.returns-clause-told
returns-clause-told g c =
    let e = c.args.evidence.now in
    let text = c.in_ok-text.text in
    told_map _ _ _ (λ (before after : Lists). IsToldOf (lists_examined (before.batches e.header.id) (layout_of e) e.entries) (Ok (Lines text))) c.in_ok-judged.ensures.told
    (λ before after so. lines_told (before.batches e.header.id) (layout_of e) e.entries c.in_ok-judged.judged.items text (c.in_ok-text.ensures.value ∙ ap judged_text c.deref.ensures.value) so.0)
