use Rattle.std.proofs.Common.{◌≡◌, true, false, refl, sym, ap, inl, inr, arith}
use Rattle.notary_link.specs.declared.answer.Answer.TheVariants.{Same}
use Rattle.audit_model.specs.Notary.{is_same}
use Rattle.evidence_examine.proofs.EraPlaces.{few_asked, told_places}
use Rattle.evidence_examine.proofs.places.has_filed_places.Goals as goal

pub returns-in_err-ask_header-clause-asked : goal.returns-in_err-ask_header-clause-asked
returns-in_err-ask_header-clause-asked g c =
    omega (arith, few_asked c.args.evidence.now c.args.eras.now c.in_ok-tiles.tiles c.requires.fits c.requires.eras, c.in_err-ask_header.ensures.asked, c.in_ok-tiles.ensures.asked)

pub returns-in-Same-clause-asked : goal.returns-in-Same-clause-asked
returns-in-Same-clause-asked g c =
    omega (arith, few_asked c.args.evidence.now c.args.eras.now c.in_ok-tiles.tiles c.requires.fits c.requires.eras, c.in_ok-ask_header.ensures.asked, c.in_ok-tiles.ensures.asked)

pub returns-in-Differs-clause-asked : goal.returns-in-Differs-clause-asked
returns-in-Differs-clause-asked g c =
    omega (arith, few_asked c.args.evidence.now c.args.eras.now c.in_ok-tiles.tiles c.requires.fits c.requires.eras, c.in_ok-ask_header.ensures.asked, c.in_ok-tiles.ensures.asked)

pub returns-in-Same-clause-told : goal.returns-in-Same-clause-told
returns-in-Same-clause-told g c =
    let asked = c.in_ok-ask_header.ensures in
    told_places c.args.id c.args.evidence.now c.args.eras.now c.in_ok-tiles.tiles Same true refl c.requires.eras _ _ _ asked.frame.told.untold c.in_ok-tiles.ensures.same.lists c.in_ok-tiles.ensures.told
    (rw c.in-Same.is at asked.told)

pub returns-in-Differs-clause-told : goal.returns-in-Differs-clause-told
returns-in-Differs-clause-told g c =
    let asked = c.in_ok-ask_header.ensures in
    let a = c.in_ok-ask_header.field-0 in
    let no : false ≡ is_same a = elim c.in-Differs.is [ inl differs ↦ sym (ap is_same differs) | inr absent ↦ sym (ap is_same absent) ] in
    told_places c.args.id c.args.evidence.now c.args.eras.now c.in_ok-tiles.tiles a false no c.requires.eras _ _ _ asked.frame.told.untold c.in_ok-tiles.ensures.same.lists c.in_ok-tiles.ensures.told asked.told
