use Rattle.std.proofs.Common.{◌≡◌, ℕ, Option, Some, None, sym, ap, ◌∙◌}
use Rattle.history_model.specs.History.{History}
use Rattle.digest_model.specs.Layout.{Era, Layout, Policy, layout, policy_of, era_at, layout_by, first_granule}
use Rattle.digest_model.specs.Digests.{digest_of_era, era_digest}
use Rattle.policy_eras.proofs.Histories.{layout_is}
use Rattle.validator.proofs.asking.digest_of.Goals as goal

-- of the era of a number, where there is one
digest_at : (h : History) (eras : Policy) (number : ℕ) (o : Option Era) → o ≡ era_at eras number → eras ≡ policy_of h → era_digest h number ≡ digest_of_era h number o
unfolding era_digest
digest_at h eras number o at policy = sym (ap (digest_of_era h number) (at ∙ ap (λ (p : Policy). era_at p number) policy))

placed : (h : History) (eras : Policy) (granule tile : ℕ) → granule ≡ first_granule (layout_by eras) tile → eras ≡ policy_of h → granule ≡ first_granule (layout h) tile
placed h eras granule tile place policy = place ∙ ap (λ (l : Layout). first_granule l tile) (layout_is h policy)

pub returns-in-Some : goal.returns-in-Some
returns-in-Some c =
    let e : Era = record { tile = c.in-Some.era.tile; k = c.in-Some.era.k; algs = c.in-Some.era.algs } in
    record {
      value = λ h policy.
          (let digest = digest_at h c.args.eras.now c.args.number (Some e) c.in-Some.ensures.value policy in
          let place = placed h c.args.eras.now c.in-Some.era.granule c.in-Some.era.tile c.in-Some.ensures.placed policy in
          let own = c.era_digest.ensures.value in
          cc);
    }

pub returns-in-None : goal.returns-in-None
returns-in-None c = record { value = λ h policy. sym (digest_at h c.args.eras.now c.args.number None c.in-None.ensures.value policy) }
