use Rattle.std.proofs.Common.{◌≡◌, sym, ◌∙◌}
use Rattle.std.proofs.lemmas.Bool.{false≢true}
use Rattle.policy_eras.specs.Policy.{policy}
use Rattle.policy_eras.proofs.Reaching.{kept_are}
use Rattle.policy_eras.proofs.eras.Eras.is.Goals as goal

pub returns-then-is_era-clause-other : goal.returns-then-is_era-clause-other
returns-then-is_era-clause-other c not_same one =
    let own : policy c.self.inside.first c.self.inside.later.items ≡ policy c.other.inside.first c.other.inside.later.items = c.self.view_is ∙ sym one ∙ sym c.other.view_is in
    let same = (kept_are c.self.inside.first c.other.inside.first c.self.inside.later.items c.other.inside.later.items c.self.invariant.0 c.other.invariant.0 own).1 in
    false≢true (sym not_same ∙ c.are_eras.ensures.1 (c.deref.ensures.value ∙ same ∙ sym c.deref-then-is_era.ensures.value))
