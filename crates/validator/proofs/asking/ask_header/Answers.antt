use Rattle.std.proofs.Common.{rules, ◌≡◌, List, IfOk, refl, ◌∙◌}
use Rattle.std.proofs.lemmas.Result.{IfOk-weaker}
use Rattle.outside_words.specs.Told.{WhereTold}
use Rattle.history_model.specs.History.{History}
use Rattle.digest_model.specs.Layout.{policy_of}
use Rattle.notary_link.specs.Batches.{Batch, answer}
use Rattle.notary_link.specs.Notary.{Lists}
use Rattle.notary_link.specs.declared.answer.Answer.TheVariants.{Same, Differs, Absent}
use Rattle.notary_link.specs.declared.name.Name.TheVariants as names
use Rattle.notary_link.proofs.Reading.{told_behind}
use Rattle.audit_model.specs.Notary.{with_eras, header_answer}
use Rattle.validator.specs.Steps.{are_eras}
use Rattle.validator.proofs.Telling.{told_of}
use Rattle.validator.proofs.Asked.{HeaderShows, shown_by, shown_at}
use Rattle.validator.proofs.asking.ask_header.Goals as goal

pub returns-in-Same-clause-told : goal.returns-in-Same-clause-told
returns-in-Same-clause-told g c =
    let S = g.N.Notary.state in
    let id = c.args.id in
    let header = c.args.header.now in
    let eras = c.args.eras.now in
    let n = c.args.tiles in
    let sealed = c.sealed-sealed.result in
    let count = c.sealed-sealed.ensures.value in
    let digest = c.header_digest.result in
    let r = c.ask_eras.result in
    let at : WhereTold (S c.args.notary.now).lists (S c.ask.new.self).lists (λ (before after : Lists). Same ≡ answer (before.batches id) names.Header digest) =
    told_of (S c.args.notary.now).lists (S c.ask.new.self).lists (λ lists. Same ≡ answer (lists.batches id) names.Header digest) (λ (before after : Lists). Same ≡ answer (before.batches id) names.Header digest)
    (rw c.in-Same.is at c.in_ok-ask.ensures.value) (λ before after is. is) in
    told_behind id (λ batches. Same ≡ answer batches names.Header digest)
    (λ batches. (h : History) → eras ≡ policy_of h → IfOk r (λ a. a ≡ with_eras Same (are_eras batches h sealed)))
    (λ batches. (h : History) → h.header ≡ header → eras ≡ policy_of h → IfOk r (λ a. a ≡ header_answer batches h n))
    (S c.args.notary.now).lists (S c.ask.new.self).lists (S c.ask_eras.new.notary).lists c.ask_eras.ensures.frame.told.untold c.in_ok-ask.ensures.same.lists at c.ask_eras.ensures.told
    (λ batches answered shown h under policy. IfOk-weaker r (λ a. a ≡ with_eras Same (are_eras batches h sealed)) (λ a. a ≡ header_answer batches h n)
    (λ a is. is ∙ shown_by header eras n sealed count batches digest Same h c.header_digest.ensures.value under policy answered) (shown h policy))

pub returns-in-Differs-clause-told : goal.returns-in-Differs-clause-told
returns-in-Differs-clause-told g c =
    let S = g.N.Notary.state in
    told_of (S c.args.notary.now).lists (S c.ask.new.self).lists (λ lists. Differs ≡ answer (lists.batches c.args.id) names.Header c.header_digest.result)
    (λ (before after : Lists). HeaderShows c.args.header.now c.args.eras.now c.args.tiles c.sealed-sealed.result c.sealed-sealed.ensures.value Differs (before.batches c.args.id))
    (rw c.in-Differs.is at c.in_ok-ask.ensures.value)
    (λ before after is. shown_at c.args.header.now c.args.eras.now c.args.tiles c.sealed-sealed.result c.sealed-sealed.ensures.value (before.batches c.args.id) c.header_digest.result Differs c.header_digest.ensures.value (λ b. refl) is)

pub returns-in-Absent-clause-told : goal.returns-in-Absent-clause-told
returns-in-Absent-clause-told g c =
    let S = g.N.Notary.state in
    told_of (S c.args.notary.now).lists (S c.ask.new.self).lists (λ lists. Absent ≡ answer (lists.batches c.args.id) names.Header c.header_digest.result)
    (λ (before after : Lists). HeaderShows c.args.header.now c.args.eras.now c.args.tiles c.sealed-sealed.result c.sealed-sealed.ensures.value Absent (before.batches c.args.id))
    (rw c.in-Absent.is at c.in_ok-ask.ensures.value)
    (λ before after is. shown_at c.args.header.now c.args.eras.now c.args.tiles c.sealed-sealed.result c.sealed-sealed.ensures.value (before.batches c.args.id) c.header_digest.result Absent c.header_digest.ensures.value (λ b. refl) is)
