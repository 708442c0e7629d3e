use Rattle.std.proofs.Common.{◌≡◌, ℕ, ◌≤◌, Bool, true, false, Err, refl, sym, ap, ◌∙◌, arith}
use Rattle.outside_words.proofs.Told.{told_map, told_same}
use Rattle.history_model.specs.History.{History, history}
use Rattle.digest_model.specs.Layout.{Layout, Policy, policy_of, layout_by, layout}
use Rattle.notary_link.proofs.Frame.{goes_on_same}
use Rattle.notary_link.specs.Notary.{Lists}
use Rattle.policy_eras.specs.Policy.{first_past}
use Rattle.policy_eras.proofs.Histories.{layout_is}
use Rattle.notary_link.specs.declared.name.Name.TheVariants as names
use Rattle.forensic_report.specs.declared.algorithm.Algorithm.{Algorithm}
use Rattle.forensic_report.specs.declared.fail.AnalyseFail.TheVariants as fails
use Rattle.forensic_report.specs.Finding.{has_era, has_chains, IsFoundIn}
use Rattle.forensic_report.specs.Values.{found_as, OrGivesUp}
use Rattle.forensic_report.proofs.Layouts.{eraless_refuses, lacking_refuses}
use Rattle.forensic_report.proofs.Counted.{found_eraless, found_chainless, found_past, found_within, few_granules}
use Rattle.forensic_report.proofs.finding.find_tiles.Goals as goal

past_is : (eras : Policy) (s : History) (past : ℕ) → eras ≡ policy_of s → past ≡ first_past (layout_by eras) → past ≡ first_past (layout s)
past_is eras s past policy is = is ∙ ap (λ (l : Layout). first_past l) (layout_is s policy)

pub returns-then-not-has_era-clause-value : goal.returns-then-not-has_era-clause-value
returns-then-not-has_era-clause-value g c =
    let s = history c.args.header.now c.args.items.now in
    let lists = (g.N.Notary.state c.args.notary.now).lists in
    let lacks : has_era c.args.asked.era s ≡ false = sym (c.has_era.ensures.value s c.requires.eras) ∙ c.if-not-has_era.true in
    told_same lists lists (λ (before after : Lists). OrGivesUp (IsFoundIn (has_era c.args.asked.era s) c.args.asked.algorithm c.args.asked.era (before.batches c.args.header.now.id) c.args.asked.tiles s) (Err fails.NoEra)) refl
    (λ before. found_eraless c.args.asked.algorithm c.args.asked.era (before.batches c.args.header.now.id) c.args.asked.tiles s lacks)

pub returns-then-not-has_era-clause-none_other : goal.returns-then-not-has_era-clause-none_other
returns-then-not-has_era-clause-none_other g c =
    let s = history c.args.header.now c.args.items.now in
    eraless_refuses c.args.asked.algorithm c.args.asked.era s (sym (c.has_era.ensures.value s c.requires.eras) ∙ c.if-not-has_era.true)

pub returns-then-not-has_era-clause-frame : goal.returns-then-not-has_era-clause-frame
returns-then-not-has_era-clause-frame g c = goes_on_same (g.N.Notary.state c.args.notary.now)

pub returns-then-not-has_chains-clause-value : goal.returns-then-not-has_chains-clause-value
returns-then-not-has_chains-clause-value g c =
    let s = history c.args.header.now c.args.items.now in
    let lists = (g.N.Notary.state c.args.notary.now).lists in
    let there : has_era c.args.asked.era s ≡ true = sym (c.has_era.ensures.value s c.requires.eras) ∙ c.if-not-has_era.false in
    let lacks : has_chains c.args.asked.algorithm c.args.asked.era s c.args.asked.tiles ≡ false = sym (c.has_chains.ensures.value s c.requires.eras) ∙ c.if-not-has_chains.true in
    told_same lists lists (λ (before after : Lists). OrGivesUp (IsFoundIn (has_era c.args.asked.era s) c.args.asked.algorithm c.args.asked.era (before.batches c.args.header.now.id) c.args.asked.tiles s) (Err fails.NotSealedSo)) refl
    (λ before. found_chainless c.args.asked.algorithm c.args.asked.era (before.batches c.args.header.now.id) c.args.asked.tiles s there lacks)

pub returns-then-not-has_chains-clause-none_other : goal.returns-then-not-has_chains-clause-none_other
returns-then-not-has_chains-clause-none_other g c =
    let s = history c.args.header.now c.args.items.now in
    lacking_refuses c.args.asked.algorithm c.args.asked.era s c.args.asked.tiles (sym (c.has_chains.ensures.value s c.requires.eras) ∙ c.if-not-has_chains.true)

pub returns-then-not-has_chains-clause-frame : goal.returns-then-not-has_chains-clause-frame
returns-then-not-has_chains-clause-frame g c = goes_on_same (g.N.Notary.state c.args.notary.now)

pub returns-then-asked-past-clause-frame : goal.returns-then-asked-past-clause-frame
returns-then-asked-past-clause-frame g c = goes_on_same (g.N.Notary.state c.args.notary.now)

pub returns-clause-value : goal.returns-clause-value
returns-clause-value g c =
    let s = history c.args.header.now c.args.items.now in
    let there : has_era c.args.asked.era s ≡ true = sym (c.has_era.ensures.value s c.requires.eras) ∙ c.if-not-has_era.false in
    let has : has_chains c.args.asked.algorithm c.args.asked.era s c.args.asked.tiles ≡ true = sym (c.has_chains.ensures.value s c.requires.eras) ∙ c.if-not-has_chains.false in
    let few : c.args.asked.tiles ≤ first_past (layout s) = omega (arith, past_is c.args.eras s c.first_past-past.result c.requires.eras c.first_past-past.ensures.value) in
    told_map _ _ _ _ c.find_examined.ensures.value
    (λ (before after : Lists) is. found_within c.args.asked.algorithm c.args.asked.era (before.batches c.args.header.now.id) c.args.asked.tiles s there has few (found_as c.find_examined.result) is)

pub returns-then-asked-past-clause-value : goal.returns-then-asked-past-clause-value
returns-then-asked-past-clause-value g c =
    let s = history c.args.header.now c.args.items.now in
    let lists = (g.N.Notary.state c.args.notary.now).lists in
    let there : has_era c.args.asked.era s ≡ true = sym (c.has_era.ensures.value s c.requires.eras) ∙ c.if-not-has_era.false in
    let has : has_chains c.args.asked.algorithm c.args.asked.era s c.args.asked.tiles ≡ true = sym (c.has_chains.ensures.value s c.requires.eras) ∙ c.if-not-has_chains.false in
    let past = past_is c.args.eras s c.first_past-past.result c.requires.eras c.first_past-past.ensures.value in
    told_same lists lists (λ (before after : Lists). OrGivesUp (IsFoundIn (has_era c.args.asked.era s) c.args.asked.algorithm c.args.asked.era (before.batches c.args.header.now.id) c.args.asked.tiles s) (Err (fails.SealMissing (names.Cum c.first_past-past.result)))) refl
    (λ before. found_past c.args.asked.algorithm c.args.asked.era (before.batches c.args.header.now.id) c.args.asked.tiles s c.first_past-past.result there has past c.if-asked-past.true)

pub find_examined-requires-clause-era : goal.find_examined-requires-clause-era
find_examined-requires-clause-era g c = sym (c.has_era.ensures.value (history c.args.header.now c.args.items.now) c.requires.eras) ∙ c.if-not-has_era.false

pub find_examined-requires-clause-within : goal.find_examined-requires-clause-within
find_examined-requires-clause-within g c =
    let s = history c.args.header.now c.args.items.now in
    few_granules s c.args.asked.tiles (omega (arith, past_is c.args.eras s c.first_past-past.result c.requires.eras c.first_past-past.ensures.value))

pub has_chains-requires : goal.has_chains-requires
has_chains-requires g c = record { small = c.has_era.ensures.small c.if-not-has_era.false }
