use Rattle.std.proofs.Common.{◌∷◌, ℕ, ap, ◌∙◌}
use Rattle.tuple_bytes.specs.Items.{item_of}
use Rattle.policy_eras.specs.Policy.{with_found, with_payload, as_item}
use Rattle.policy_eras.proofs.Payloads.{tag_is, no_tag, none_is, other_tag, none_behind, more_behind, nothing_behind}
use Rattle.policy_eras.proofs.reading.policy_of.Goals as goal

pub returns-in_err-tag-clause-none : goal.returns-in_err-tag-clause-none
returns-in_err-tag-clause-none c none p = ap (with_payload p) (no_tag c.args.payload.now c.in_err-tag.ensures.value) ∙ ap (with_found p) none_is

pub returns-then-tag-ne3-clause-none : goal.returns-then-tag-ne3-clause-none
returns-then-tag-ne3-clause-none c none p =
    ap (with_payload p) (tag_is c.args.payload.now c.in_ok-tag.tag c.in_ok-tag.rest.now c.in_ok-tag.ensures.value) ∙ other_tag p c.in_ok-tag.tag c.in_ok-tag.rest.now c.if-tag-ne3.true

pub returns-in_err-era-clause-none : goal.returns-in_err-era-clause-none
returns-in_err-era-clause-none c none p =
    ap (with_payload p) (tag_is c.args.payload.now c.in_ok-tag.tag c.in_ok-tag.rest.now c.in_ok-tag.ensures.value)
    ∙ ap (λ (tag : ℕ). with_payload p (tag ∷ c.in_ok-tag.rest.now)) c.if-tag-ne3.false
    ∙ none_behind p 3 c.in_ok-tag.rest.now c.in_err-era.ensures.value

pub returns-then-not-is_empty-clause-none : goal.returns-then-not-is_empty-clause-none
returns-then-not-is_empty-clause-none c none p =
    ap (with_payload p) (tag_is c.args.payload.now c.in_ok-tag.tag c.in_ok-tag.rest.now c.in_ok-tag.ensures.value)
    ∙ ap (λ (tag : ℕ). with_payload p (tag ∷ c.in_ok-tag.rest.now)) c.if-tag-ne3.false
    ∙ more_behind p 3 c.in_ok-tag.rest.now (as_item c.in_ok-era.era) c.in_ok-era.rest.now c.in_ok-era.ensures.value c.if-not-is_empty.ensures

pub returns-clause-some : goal.returns-clause-some
returns-clause-some c =
    ap item_of (tag_is c.args.payload.now c.in_ok-tag.tag c.in_ok-tag.rest.now c.in_ok-tag.ensures.value)
    ∙ ap (λ (tag : ℕ). item_of (tag ∷ c.in_ok-tag.rest.now)) c.if-tag-ne3.false
    ∙ nothing_behind 3 c.in_ok-tag.rest.now (as_item c.in_ok-era.era) c.in_ok-era.rest.now c.in_ok-era.ensures.value c.if-not-is_empty.ensures
