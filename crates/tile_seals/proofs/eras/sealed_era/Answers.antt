use Rattle.std.proofs.Common.{◌≡◌, ℕ, ◌≤◌, length, Some, None, sym, ap, ◌∙◌, arith}
use Rattle.notary_link.specs.declared.name.Name.TheVariants as names
use Rattle.sha2.specs.Sha256.{sha256}
use Rattle.digest_model.specs.Layout.{Layout, Policy, layout, era_at, first_granule, sealed_eras}
use Rattle.digest_model.specs.Digests.{era_input}
use Rattle.policy_eras.specs.Policy.{as_era}
use Rattle.policy_eras.proofs.Histories.{layout_is}
use Rattle.tile_seals.proofs.Finding.{answered, no_era, era_found}
use Rattle.tile_seals.proofs.Trees.{sealed_counted, era_there}
use Rattle.tile_seals.proofs.eras.sealed_era.Goals as goal
use Rattle.tile_seals.proofs.eras.sealed_era.Goals.{then-era-eq0-via-then-era-eq0, then-era-eq0-via-else-era-eq0+then-era-sealed}

pub returns-then-era-eq0 : goal.returns-then-era-eq0
returns-then-era-eq0 c = record {
  value = λ h e. no_era h c.args.tiles c.args.era (λ some within. elim c.then-era-eq0.branch [
    | then-era-eq0-via-then-era-eq0 w ↦ omega (arith, some, w.if-era-eq0.true)
    | then-era-eq0-via-else-era-eq0+then-era-sealed w ↦
        (let count = w.sealed.ensures.value ∙ ap (λ (l : Layout). length (sealed_eras l c.args.tiles)) (layout_is h e) in
        omega (arith, within, count, w.if-era-sealed.true))
  ]);
}

pub returns-in_err-begun : goal.returns-in_err-begun
returns-in_err-begun c = record {
  value = λ h e.
      absurd (let count = c.sealed.ensures.value ∙ ap (λ (l : Layout). length (sealed_eras l c.args.tiles)) (layout_is h e) in
      let known = sealed_counted h c.args.tiles in
      era_there h c.args.era (omega (arith, count, known, c.if-era-sealed.false)) (ap (λ (p : Policy). era_at p c.args.era) (sym e) ∙ sym c.in_err-begun.ensures.value));
}

pub returns : goal.returns
returns c = record {
  value = λ h e.
      (let own = layout_is h e in
      let count = c.sealed.ensures.value ∙ ap (λ (l : Layout). length (sealed_eras l c.args.tiles)) own in
      answered h c.args.tiles (names.Era c.args.era) (Some (sha256 (era_input c.args.era (as_era c.in_ok-begun.begun) c.in_ok-begun.begun.granule))) (Some c.era_digest.result)
      (ap Some c.era_digest.ensures.value)
      (era_found h c.args.tiles c.args.era c.in_ok-begun.begun.granule (as_era c.in_ok-begun.begun) (omega (arith, c.if-era-eq0.false)) (omega (arith, count, c.if-era-sealed.false))
      (ap (λ (p : Policy). era_at p c.args.era) (sym e) ∙ sym c.in_ok-begun.ensures.value)
      (c.in_ok-begun.ensures.placed ∙ ap (λ (l : Layout). first_granule l c.in_ok-begun.begun.tile) own)));
}
