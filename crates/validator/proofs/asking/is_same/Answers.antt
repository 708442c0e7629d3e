use Rattle.std.proofs.Common.{◌≡◌, ◌⊎◌, inl, inr, true, false, List, sym, ap, ◌∙◌}
use Rattle.history_model.specs.History.{History}
use Rattle.digest_model.specs.Layout.{policy_of}
use Rattle.notary_link.specs.declared.answer.Answer.TheVariants.{Same}
use Rattle.notary_link.specs.declared.name.Name.TheVariants as names
use Rattle.notary_link.specs.Batches.{answer}
use Rattle.audit_model.specs.Notary.{is_same, is_era_same}
use Rattle.validator.proofs.Telling.{told_of}
use Rattle.validator.proofs.Asked.{era_is}
use Rattle.validator.proofs.asking.is_same.Goals as goal

pub returns-in-Same-clause-told : goal.returns-in-Same-clause-told
returns-in-Same-clause-told g c =
    let S = g.N.Notary.state in
    told_of (S c.args.notary.now).lists (S c.ask.new.self).lists (λ lists. Same ≡ answer (lists.batches c.args.id) (names.Era c.args.number) c.digest_of-digest.result)
    (λ before after. (h : History) → c.args.eras.now ≡ policy_of h → true ≡ is_era_same (before.batches c.args.id) h c.args.number)
    (rw c.in-Same.is at c.in_ok-ask.ensures.value)
    (λ before after is h policy. era_is (before.batches c.args.id) h c.args.number c.digest_of-digest.result Same (c.digest_of-digest.ensures.value h policy) is)

pub returns-in-Differs-clause-told : goal.returns-in-Differs-clause-told
returns-in-Differs-clause-told g c =
    let S = g.N.Notary.state in
    let a = c.in_ok-ask.field-0 in
    let no : false ≡ is_same a = elim c.in-Differs.is [ inl differs ↦ sym (ap is_same differs) | inr absent ↦ sym (ap is_same absent) ] in
    told_of (S c.args.notary.now).lists (S c.ask.new.self).lists (λ lists. a ≡ answer (lists.batches c.args.id) (names.Era c.args.number) c.digest_of-digest.result)
    (λ before after. (h : History) → c.args.eras.now ≡ policy_of h → false ≡ is_era_same (before.batches c.args.id) h c.args.number)
    c.in_ok-ask.ensures.value
    (λ before after is h policy. no ∙ era_is (before.batches c.args.id) h c.args.number c.digest_of-digest.result a (c.digest_of-digest.ensures.value h policy) is)
