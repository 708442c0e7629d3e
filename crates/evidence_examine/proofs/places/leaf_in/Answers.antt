use Rattle.std.proofs.Common.{sym, ap, ◌∙◌, arith}
use Rattle.digest_model.specs.Layout.{Layout, Policy, layout, era_at, first_granule, tile_of}
use Rattle.policy_eras.specs.Policy.{as_era}
use Rattle.policy_eras.proofs.Histories.{layout_is}
use Rattle.tile_seals.proofs.Trees.{era_counted, era_there}
use Rattle.evidence_examine.proofs.Leaves.{leaf_is}
use Rattle.evidence_examine.proofs.places.leaf_in.Goals as goal

pub returns-in-Some : goal.returns-in-Some
returns-in-Some c = record {
  value = λ h e same.
      c.saturating_sub.ensures
      ∙ leaf_is h c.args.number c.args.granule c.in-Some.era.granule (as_era c.in-Some.era) same
      (ap (λ (p : Policy). era_at p c.args.number) (sym e) ∙ sym c.in-Some.ensures.value)
      (c.in-Some.ensures.placed ∙ ap (λ (l : Layout). first_granule l c.in-Some.era.tile) (layout_is h e));
}

pub returns-in-None : goal.returns-in-None
returns-in-None c = record {
  value = λ h e same.
      absurd (let known = era_counted h (tile_of (layout h) c.args.granule) in
      era_there h c.args.number (omega (arith, same, known)) (ap (λ (p : Policy). era_at p c.args.number) (sym e) ∙ sym c.in-None.ensures.value));
}
