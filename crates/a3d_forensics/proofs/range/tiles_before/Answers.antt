use Rattle.std.proofs.Common.{sym, ap, ◌∙◌, None, Some}
use Rattle.std.specs.Option.{option_map}
use Rattle.digest_model.specs.Layout.{Policy, era_at}
use Rattle.policy_eras.specs.Policy.{as_era}
use Rattle.a3d_forensics.proofs.Begins.{begins_at_era}
use Rattle.a3d_forensics.proofs.range.tiles_before.Goals as goal

pub returns-in-Some-clause-value : goal.returns-in-Some-clause-value
returns-in-Some-clause-value c = λ h is.
    c.min.ensures ∙ begins_at_era h c.args.tiles c.args.era (Some (as_era c.in-Some.found))
    (ap (option_map as_era) (sym c.in-Some.is) ∙ c.at.ensures.value ∙ ap (λ (p : Policy). era_at p c.args.era) is)

pub returns-in-None-clause-value : goal.returns-in-None-clause-value
returns-in-None-clause-value c = λ h is.
    begins_at_era h c.args.tiles c.args.era None
    (ap (option_map as_era) (sym c.in-None.is) ∙ c.at.ensures.value ∙ ap (λ (p : Policy). era_at p c.args.era) is)
