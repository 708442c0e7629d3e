use Rattle.std.proofs.Common.{ℕ, ◌+◌, List, map, length, filter, ap, ◌∙◌}
use Rattle.digest_model.specs.Layout.{Policy, layout_by, era_of}
use Rattle.digest_model.specs.Eras.{is_below}
use Rattle.policy_eras.specs.declared.era.Era.{Era as Kept}
use Rattle.policy_eras.specs.Policy.{as_era}
use Rattle.policy_eras.proofs.Reaching.{count_is}
use Rattle.policy_eras.proofs.eras.Eras.era_of.Goals as goal

pub returns-clause-value : goal.returns-clause-value
returns-clause-value c =
    c.count_below.ensures.value
    ∙ ap (λ (xs : List Kept). length (filter (is_below (c.from.result + 1)) (map as_era xs))) c.deref.ensures.value
    ∙ ap (λ (n : ℕ). length (filter (is_below (n + 1)) (map as_era c.self.inside.later.items))) c.from.ensures
    ∙ count_is c.self.inside.first c.self.inside.later.items c.args.tile c.self.invariant.0
    ∙ ap (λ (p : Policy). era_of (layout_by p) c.args.tile) c.self.view_is
