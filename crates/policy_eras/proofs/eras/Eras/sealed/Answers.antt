use Rattle.std.proofs.Common.{ℕ, List, map, length, filter, sym, ap, ◌∙◌}
use Rattle.digest_model.specs.Layout.{Era, Policy, layout_by, sealed_eras}
use Rattle.digest_model.specs.Eras.{is_below}
use Rattle.digest_model.proofs.Eras.{sealed_of}
use Rattle.policy_eras.specs.declared.era.Era.{Era as Kept}
use Rattle.policy_eras.specs.Policy.{as_era, policy}
use Rattle.policy_eras.proofs.eras.Eras.sealed.Goals as goal

pub returns-clause-value : goal.returns-clause-value
returns-clause-value c =
    c.count_below.ensures.value
    ∙ ap (λ (xs : List Kept). length (filter (is_below c.from.result) (map as_era xs))) c.deref.ensures.value
    ∙ ap (λ (n : ℕ). length (filter (is_below n) (map as_era c.self.inside.later.items))) c.from.ensures
    ∙ sym (ap (length {A = Era}) (sealed_of (policy c.self.inside.first c.self.inside.later.items) c.args.tiles c.self.invariant.0.ascend))
    ∙ ap (λ (p : Policy). length (sealed_eras (layout_by p) c.args.tiles)) c.self.view_is
