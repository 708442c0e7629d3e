use Rattle.std.proofs.Common.{rules, ◌≡◌, Ok, Err, List}
use Rattle.notary_link.specs.Batches.{Batch}
use Rattle.notary_link.proofs.Reading.{told_behind}
use Rattle.evidence_examine.specs.Asking.{IsListed, IsSecond, IsJudged}
use Rattle.evidence_examine.proofs.Answered.{second_refused}
use Rattle.evidence_examine.proofs.asking.ask_entry.Goals as goal

pub returns-in_err-original-clause-told : goal.returns-in_err-original-clause-told
returns-in_err-original-clause-told g c =
    let e = c.args.entry.now in
    let name = c.args.name in
    let fail = c.in_err-original.field-0.0 in
    let same : c.from_residual-in_err-original.result ≡ Err fail = search rules in
    rw same (told_behind c.args.id (λ (batches : List Batch). IsListed batches name e.granule e.shown (Ok c.in_ok-shown.shown)) (λ (batches : List Batch). IsSecond batches name e.granule e.original (Err fail)) (λ (batches : List Batch). IsJudged batches name e (Err fail)) _ _ _
    c.in_err-original.ensures.frame.told.untold c.in_ok-shown.ensures.same.lists c.in_ok-shown.ensures.told c.in_err-original.ensures.told
    (λ batches one two. second_refused batches name e fail two))
