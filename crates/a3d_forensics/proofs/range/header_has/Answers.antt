use Rattle.std.proofs.Common.{◌≡◌, Some, None, sym, ap, ◌∙◌}
use Rattle.std.specs.Option.{option_map}
use Rattle.history_model.specs.History.{History}
use Rattle.digest_model.specs.Layout.{Era, Policy, era_at, era_in, first_era, layout_by, policy_of}
use Rattle.digest_model.proofs.Eras.{first_is}
use Rattle.policy_eras.specs.Policy.{as_era}
use Rattle.a3d_forensics.proofs.range.header_has.Goals as goal

-- the first era has the algorithms of the header
of_first : (h : History) (e : Era) → Some e ≡ era_at (policy_of h) 0 → h.header.algs ≡ e.algs
of_first h e is = (let same : e ≡ (policy_of h).first = cc in sym (ap (λ (x : Era). x.algs) same ∙ ap (λ (x : Era). x.algs) (first_is h)))

pub returns-in-Some : goal.returns-in-Some
unfolding era_in
returns-in-Some c = λ h is.
    c.are_among.ensures (layout_by (first_era h.header)) 0
    (of_first h (as_era c.in-Some.first) (ap (option_map as_era) (sym c.in-Some.is) ∙ c.at.ensures.value ∙ ap (λ (p : Policy). era_at p 0) is))

pub returns-in-None : goal.returns-in-None
returns-in-None c = λ h is. (let none : None ≡ era_at (policy_of h) 0 = ap (option_map as_era) (sym c.in-None.is) ∙ c.at.ensures.value ∙ ap (λ (p : Policy). era_at p 0) is in absurd cc)
