use Rattle.std.proofs.Common.{List, length, sym, subst, ◌≤◌, ◌+◌}
use Rattle.digest_model.specs.Layout.{first_era, policy_of}
use Rattle.policy_eras.specs.declared.era.Era.{Era}
use Rattle.evidence_examine.proofs.EraPlaces.{AreTaken, one_taken, all_are_taken}
use Rattle.evidence_examine.proofs.places.eras_of.Goals as goal

pub loop-era-preserved : goal.loop-era-preserved
loop-era-preserved c =
    let first = first_era c.args.evidence.now.header in
    let i = c.loop-era.era-index in
    let all = c.as_slice-era-items.ensures.value in
    subst (λ (es : List Era). AreTaken (first_era c.args.evidence.now.header) es (c.loop-era.era-index + 1) c.offer.new.self) all
    (one_taken first c.loop-era.eras c.offer.new.self c.as_slice-era-items.result.now i (record { tile = 0; granule = 0; k = 0; algs = 0 }) c.loop-era-test.true c.offer.ensures.value
    (subst (λ (es : List Era). AreTaken (first_era c.args.evidence.now.header) es c.loop-era.era-index c.loop-era.eras) (sym all) c.loop-era.invariant))

pub returns : goal.returns
unfolding policy_of
returns c =
    let past = subst (λ (es : List Era). length es ≤ c.loop-era.era-index) c.as_slice-era-items.ensures.value c.loop-era-test.false in
    record { value = all_are_taken (first_era c.args.evidence.now.header) c.loop-era.eras c.args.evidence.now.eras c.loop-era.era-index past c.loop-era.invariant }
