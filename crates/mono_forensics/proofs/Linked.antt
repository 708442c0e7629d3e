-- What a search over the chain of a history shows of it.
use Rattle.std.proofs.Common.{◌≡◌, ◌⊎◌, inl, inr, ℕ, zero, suc, ◌-◌, ◌<◌, List, [], map, length, get_or, Option, Some, None, Result, Ok, Err, sym, ap, ◌∙◌, refl, arith}
use Rattle.std.specs.List.{range_with_len}
use Rattle.std.proofs.lemmas.List.FromFn.{length-map-range_with_len, get_or-map-range_with_len}
use Rattle.history_model.specs.History.{History}
use Rattle.digest_model.specs.Digests.{cum}
use Rattle.notary_link.specs.declared.answer.Answer.{Answer}
use Rattle.notary_link.specs.declared.answer.Answer.TheVariants.{Same}
use Rattle.notary_link.specs.declared.fail.AskFail.{AskFail}
use Rattle.notary_link.specs.declared.fail.AskFail.TheVariants.{NotaryFault, SealMissing, NotSealedSo, NotaryInconsistent, NoMemory}
use Rattle.notary_link.specs.declared.name.Name.TheVariants as names
use Rattle.notary_link.specs.Batches.{answer}
use Rattle.notary_link.specs.Notary.{Lists}
use Rattle.audit_model.specs.Mono.{BeginsRegion}
use Rattle.audit_model.specs.Names.{digest}
use Rattle.audit_model.specs.Notary.{cums}
use Rattle.mono_forensics.specs.Finds.{link_answers, Finds}

-- answers that are alike for n tiles show the same
module _ (f g : ℕ → Answer) (n : ℕ) (alike : (i : ℕ) → i < n → f i ≡ g i) where
  before_by : (tile : ℕ) → tile < n → (tile ≡ 0) ⊎ (f (tile - 1) ≡ Same) → (tile ≡ 0) ⊎ (g (tile - 1) ≡ Same)
  before_by tile within (inl first) = inl first
  before_by tile within (inr same) = inr (sym (alike (tile - 1) (omega (arith, within))) ∙ same)

region_by : (f g : ℕ → Answer) (n : ℕ) (region : Option ℕ) → ((i : ℕ) → i < n → f i ≡ g i) → BeginsRegion f n region → BeginsRegion g n region
region_by f g zero region alike is = is
region_by f g (suc last) None alike is = sym (alike last (omega arith)) ∙ is
region_by f g (suc last) (Some tile) alike is = (
  sym (alike last (omega arith)) ∙ is.0,
  record {
    within = is.1.within;
    differs = sym (alike tile is.1.within) ∙ is.1.differs;
    before = before_by f g (suc last) alike tile is.1.within is.1.before;
  },
)

finds_by : (f g : ℕ → Answer) (n : ℕ) (r : Result (Option ℕ) AskFail) → ((i : ℕ) → i < n → f i ≡ g i) → Finds f n r → Finds g n r
finds_by f g n (Ok region) alike is = region_by f g n region alike is
finds_by f g n (Err (SealMissing (names.Cum tile))) alike is = (is.0, sym (alike tile is.0) ∙ is.1, λ same. is.2 (alike (n - 1) (omega (arith, is.0)) ∙ same))
finds_by f g n (Err (SealMissing names.Header)) alike is = is
finds_by f g n (Err (SealMissing (names.Tile tile part))) alike is = is
finds_by f g n (Err (SealMissing (names.Node level index))) alike is = is
finds_by f g n (Err (SealMissing (names.Era era))) alike is = is
finds_by f g n (Err (SealMissing (names.EraNode era level index))) alike is = is
finds_by f g n (Err NotaryFault) alike is = tt
finds_by f g n (Err NotSealedSo) alike is = tt
finds_by f g n (Err (NotaryInconsistent era level index)) alike is = tt
finds_by f g n (Err NoMemory) alike is = tt

digest_is : (h : History) (tile : ℕ) → digest h (names.Cum tile) ≡ cum h tile
unfolding digest
digest_is h tile = refl

-- the links of n tiles of a history
module _ (h : History) (n : ℕ) (links : List (List ℕ)) (are : links ≡ map (cum h) (range_with_len 0 n)) where
  pub as_many : length links ≡ n
  as_many = ap length are ∙ length-map-range_with_len (cum h) 0 n

  link_is : (tile : ℕ) → tile < n → get_or links tile [] ≡ digest h (names.Cum tile)
  link_is tile within = ap (λ (l : List (List ℕ)). get_or l tile []) are ∙ get_or-map-range_with_len (cum h) 0 n tile tile [] within (omega arith) ∙ sym (digest_is h tile)

  alike : (lists : Lists) (id tile : ℕ) → tile < n → link_answers lists id links tile ≡ cums (lists.batches id) h tile
  alike lists id tile within = ap (answer (lists.batches id) (names.Cum tile)) (link_is tile within)

  -- what is found by the links is found by the history
  pub found_of_history : (lists : Lists) (id : ℕ) (r : Result (Option ℕ) AskFail) → Finds (link_answers lists id links) n r → Finds (cums (lists.batches id) h) n r
  found_of_history lists id r is = finds_by (link_answers lists id links) (cums (lists.batches id) h) n r (alike lists id) is
