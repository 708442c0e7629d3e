use Rattle.std.proofs.Common.{◌≡◌, ℕ, Some, None, sym, ap, ◌∙◌, arith}
use Rattle.digest_model.specs.Layout.{Layout, Policy, layout_by, policy_of, era_at, era_of, first_granule, leaf_start}
use Rattle.policy_eras.specs.Policy.{as_era}
use Rattle.policy_eras.proofs.Histories.{layout_is}
use Rattle.tile_seals.proofs.Trees.{start_is, era_counted, era_there}
use Rattle.tile_seals.proofs.eras.leaf_start.Goals as goal

pub returns-in-Some : goal.returns-in-Some
returns-in-Some c = record {
  value = λ h e.
      (let own = layout_is h e in
      c.saturating_sub.ensures
      ∙ start_is h c.args.tile c.era_of.result c.first-first.result c.in-Some.era.granule (as_era c.in-Some.era)
      (c.era_of.ensures.value ∙ ap (λ (l : Layout). era_of l c.args.tile) own)
      (ap (λ (p : Policy). era_at p c.era_of.result) (sym e) ∙ sym c.in-Some.ensures.value)
      (c.in-Some.ensures.placed ∙ ap (λ (l : Layout). first_granule l c.in-Some.era.tile) own)
      (c.first-first.ensures.value ∙ ap (λ (l : Layout). first_granule l c.args.tile) own)
      ∙ ap (λ (l : Layout). leaf_start l c.args.tile) (sym own));
}

pub returns-in-None : goal.returns-in-None
returns-in-None c = record {
  value = λ h e.
      absurd (let same = c.era_of.ensures.value ∙ ap (λ (l : Layout). era_of l c.args.tile) (layout_is h e) in
      let known = era_counted h c.args.tile in
      era_there h c.era_of.result (omega (arith, same, known)) (ap (λ (p : Policy). era_at p c.era_of.result) (sym e) ∙ sym c.in-None.ensures.value));
}
