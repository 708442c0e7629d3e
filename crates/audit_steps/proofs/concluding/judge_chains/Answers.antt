use Rattle.std.proofs.Common.{◌≡◌, ◌≤◌, ◌+◌, ℕ, List, length, Some, sym, ap, subst, ◌∙◌, arith}
use Rattle.outside_words.proofs.Told.{told_map}
use Rattle.tuple_bytes.specs.declared.header.Header.{Header}
use Rattle.history_model.specs.declared.stored.Stored.{Stored}
use Rattle.history_model.specs.History.{History}
use Rattle.digest_model.specs.Layout.{Policy, policy_of, layout_by, first_granule, max_granules}
use Rattle.notary_link.specs.Notary.{Lists}
use Rattle.notary_link.proofs.Frame.{goes_on_same}
use Rattle.audit_model.specs.Altered.{history_with}
use Rattle.chain_state.specs.Chained.{IsChainOf, history_of}
use Rattle.validator.specs.Verdicts.{IsLinked, Validates, sealed_by, sealed_of}
use Rattle.validator.proofs.Questions.{asked_fewer, sealed_same}
use Rattle.audit_steps.proofs.concluding.judge_chains.Goals as goal

pub returns-in_err-links-clause-frame : goal.returns-in_err-links-clause-frame
returns-in_err-links-clause-frame g c = goes_on_same (g.N.Notary.state c.args.notary.now)

pub judge_links-requires : goal.judge_links-requires
judge_links-requires g c =
    let own : c.eras.result.now ≡ policy_of (history_of c.args.chains) = c.eras.ensures.value ∙ ap policy_of c.in_ok-links.ensures.same in
    record { linked = λ within. ap length c.deref.ensures.value ∙ c.in_ok-links.ensures.linked (subst (λ (p : Policy). first_granule (layout_by p) c.args.tiles ≤ max_granules) own within) }

pub returns-clause-asked : goal.returns-clause-asked
returns-clause-asked g c =
    let S = g.N.Notary.state in
    let h = history_of c.args.chains in
    let own : c.eras.result.now ≡ policy_of h = c.eras.ensures.value ∙ ap policy_of c.in_ok-links.ensures.same in
    asked_fewer c.judge_links.result (S c.args.notary.now).asked (S c.judge_links.new.notary).asked (sealed_by c.eras.result.now) (sealed_of h) (λ n. (let same = sealed_same h c.eras.result.now n own in omega (arith, same))) c.judge_links.ensures.asked

pub returns-clause-told : goal.returns-clause-told
returns-clause-told g c =
    let S = g.N.Notary.state in
    let id = c.args.id in
    let header = c.args.header.now in
    let eras = c.eras.result.now in
    let n = c.args.tiles in
    let links = c.in_ok-links.links.items in
    let own : policy_of (history_of c.args.chains) ≡ c.eras.result.now = sym (c.eras.ensures.value ∙ ap policy_of c.in_ok-links.ensures.same) in
    told_map (S c.args.notary.now).lists (S c.judge_links.new.notary).lists
    (λ (lists later : Lists). (s : Stored) (h : History) → history_with id s ≡ Some h → IsLinked h header eras c.deref.result.now n → length (lists.batches id) ≡ n + 1
    → Validates id c.args.now (S c.args.notary.now).limits s c.judge_links.result (S c.args.notary.now).trace (S c.judge_links.new.notary).trace lists later)
    (λ (lists later : Lists). (s : Stored) (h : History) → history_with id s ≡ Some h → IsChainOf c.args.chains h → length (lists.batches id) ≡ n + 1
    → Validates id c.args.now (S c.args.notary.now).limits s c.judge_links.result (S c.args.notary.now).trace (S c.judge_links.new.notary).trace lists later)
    c.judge_links.ensures.told (λ lists later is s h has chain count.
    let under : IsLinked h header eras links n = subst (λ (p : Policy). IsLinked h header p links n) own (subst (λ (x : Header). IsLinked h x (policy_of (history_of c.args.chains)) links n) c.requires.under (c.in_ok-links.ensures.value h chain)) in
    is s h has (subst (λ (l : List (List ℕ)). IsLinked h header eras l n) (sym c.deref.ensures.value) under) count)
