use Rattle.std.proofs.Common.{◌≡◌, true, List}
use Rattle.notary_link.specs.Batches.{Batch}
use Rattle.notary_link.proofs.Frame.{goes_on_same}
use Rattle.notary_link.proofs.Reading.{told_behind}
use Rattle.evidence_examine.specs.Places.{layout_of, has_filed_places}
use Rattle.evidence_examine.specs.Examining.{lists_examined, file_examined, IsToldOf}
use Rattle.evidence_examine.proofs.FileTold.{right_told}
use Rattle.evidence_examine.proofs.examining.examine_places.Goals as goal

pub returns-in_err-eras-clause-frame : goal.returns-in_err-eras-clause-frame
returns-in_err-eras-clause-frame g c = goes_on_same (g.N.Notary.state c.args.notary.now)

pub returns-then-branch-clause-told : goal.returns-then-branch-clause-told
returns-then-branch-clause-told g c =
    let e = c.args.evidence.now in
    let id = c.args.evidence.now.header.id in
    let right : c.in_ok-has_filed_places.field-0 ≡ true = c.if-branch.true in
    let asked = c.in_ok-has_filed_places.ensures in
    told_behind id (λ (batches : List Batch). true ≡ has_filed_places batches e) (λ (batches : List Batch). IsToldOf (lists_examined batches (layout_of e) e.entries) c.examine_lists.result)
    (λ (batches : List Batch). IsToldOf (file_examined e.header.id batches e) c.examine_lists.result) _ _ _
    c.examine_lists.ensures.frame.told.untold asked.same.lists (rw right at asked.told) c.examine_lists.ensures.told
    (λ batches so told. right_told batches e c.examine_lists.result so told)
