-- What a region shows.
use Rattle.std.proofs.Common.{◌≡◌, ◌⊎◌, inl, inr, ℕ, zero, suc, ◌+◌, ◌-◌, ◌<◌, ◌≤◌, true, false, List, Option, Some, None, Ok, refl, sym, ap, subst, ◌∙◌, arith}
use Rattle.std.specs.List.{range_with_len}
use Rattle.history_model.specs.History.{History}
use Rattle.digest_model.specs.Layout.{layout, first_granule}
use Rattle.digest_model.proofs.Layouts.{same_first}
use Rattle.notary_link.specs.declared.answer.Answer.{Answer}
use Rattle.notary_link.specs.Batches.{Batch}
use Rattle.audit_model.specs.Altered.{HasOtherHeader, IsAltered, HashClash}
use Rattle.audit_model.specs.Laws.{IsAudit}
use Rattle.audit_model.specs.Mono.{BeginsRegion, IsFirstBad}
use Rattle.audit_model.proofs.Planned.{other_altered}
use Rattle.audit_model.proofs.Region.{region_has}
use Rattle.audit_model.proofs.Exact.{changed_altered, begins_altered}
use Rattle.audit_model.specs.Notary.{cums}
use Rattle.forensic_report.specs.declared.algorithm.Algorithm.TheVariants.{Mono}
use Rattle.forensic_report.specs.Analysis.{Extent, Analysis, Region, Targets, Leaves, Unsealed, HeaderAltered, Found, is_some_bad, bad_tiles}
use Rattle.forensic_report.specs.Finding.{extent_of, IsRegion}
use Rattle.forensic_report.specs.Shows.{IsAlteredWithin, AreAltered, BeginsAltered, NamesIn, Shows}
use Rattle.forensic_report.proofs.Layouts.{some_granule, granule_sealed, within_all}
use Rattle.forensic_report.proofs.Headers.{IsPassed, own_shows, passed_shows}

-- ---- what was found

-- it is a region of these tiles
record IsRegionOf (chain : ℕ → Answer) (extent : Extent) (a : Analysis) : Type 0 where
  pub region : Option ℕ
  pub is : a ≡ Found extent (Region region)
  pub begins : BeginsRegion chain extent.tiles region

region_of : (chain : ℕ → Answer) (extent : Extent) (a : Analysis) → IsRegion chain extent (Ok a) → IsRegionOf chain extent a
region_of chain extent (Found found (Region region)) is = record { region = region; is = ap (λ (e : Extent). Found e (Region region)) is.0; begins = is.1 }
region_of chain extent (Found found (Targets targets)) is = absurd is
region_of chain extent (Found found (Leaves granules checks)) is = absurd is
region_of chain extent (Unsealed era) is = absurd is
region_of chain extent (HeaderAltered tiles) is = absurd is

first_bad : (chain : ℕ → Answer) (n first : ℕ) → BeginsRegion chain n (Some first) → IsFirstBad chain n first
first_bad chain zero first is = absurd cc
first_bad chain (suc last) first is = is.1

bad_from : (first n : ℕ) → first < n → is_some_bad (range_with_len first (n - first)) ≡ true
bad_from first n below = (let many : n - first ≡ suc (n - first - 1) = omega arith in rw many refl)

-- ---- under the header and the eras that were filed

-- where the chain differs at the end of the last tile, something is altered
changed : (batches : List Batch) (id : ℕ) (h s : History) (n : ℕ) (region : Option ℕ) → IsAudit batches id h s n → BeginsRegion (cums batches s) n region → AreAltered h s n (extent_of None s n) (Region region)
changed batches id h s n None audit is = tt
changed batches id h s zero (Some first) audit is = absurd cc
changed batches id h s (suc last) (Some first) audit is =
    (let some = changed_altered batches id h s (suc last) last audit (omega arith) is.0 in (some.0, within_all h (Some s) (suc last) some.0 some.2))

module _ (batches : List Batch) (id : ℕ) (h s : History) (n : ℕ) (audit : IsAudit batches id h s n) where
  named : (region : Option ℕ) → BeginsRegion (cums batches s) n region → (g : ℕ) → IsAltered h (Some s) n g
      → NamesIn Mono (layout s) (Region region) g ⊎ HashClash h (Some s) n
  named None is g alt = region_has batches id h s n None g audit is alt
  named (Some first) is g alt =
      let below = (first_bad (cums batches s) n first is).within in
      elim (region_has batches id h s n (Some first) g audit is alt) [
        | inl from ↦ inl (subst (λ (begin : ℕ). begin ≤ g) (same_first (layout h) (layout s) n first (omega (arith, below)) audit.places) from)
        | inr clash ↦ inr clash
      ]

  unaltered : (region : Option ℕ) → BeginsRegion (cums batches s) n region → is_some_bad (bad_tiles (extent_of None s n) (Region region)) ≡ false
      → (g : ℕ) → IsAltered h (Some s) n g → HashClash h (Some s) n
  unaltered None is none g alt = elim (named None is g alt) [ inl never ↦ absurd never | inr clash ↦ clash ]
  unaltered (Some first) is none g alt =
      let bad = first_bad (cums batches s) n first is in
      let some : true ≡ false = sym (bad_from first n bad.within) ∙ none in
      absurd cc

  begins : (region : Option ℕ) → BeginsRegion (cums batches s) n region → BeginsAltered h s n (Region region)
  begins None is = tt
  begins (Some first) is = begins_altered batches id h s n first audit (first_bad (cums batches s) n first is)

  region_own : (region : Option ℕ) → BeginsRegion (cums batches s) n region → Shows Mono batches h (Some s) n (Found (extent_of None s n) (Region region))
  region_own region is =
      own_shows Mono None batches id h s n (Region region) audit (λ g alt promised. named region is g alt.altered) (λ none g alt. unaltered region is none g alt.altered) (begins region is)
      (changed batches id h s n region audit is) tt

-- ---- under any header that is answered the same

all_altered : (chain : ℕ → Answer) (h s : History) (n : ℕ) (region : Option ℕ) → HasOtherHeader h (Some s) n → BeginsRegion chain n region → AreAltered h s n (extent_of None s n) (Region region)
all_altered chain h s n None other is = tt
all_altered chain h s n (Some first) other is =
    let bad = first_bad chain n first is in
    let first_one = first_granule (layout h) first + 0 in
    (first_one, within_all h (Some s) n first_one (other_altered h (Some s) n first_one other (granule_sealed (layout h) n first 0 bad.within (some_granule (layout h) first))))

region_shows : (batches : List Batch) (id : ℕ) (h s : History) (n : ℕ) (region : Option ℕ) → IsAudit batches id h s n ⊎ IsPassed h s n → BeginsRegion (cums batches s) n region
    → Shows Mono batches h (Some s) n (Found (extent_of None s n) (Region region))
region_shows batches id h s n region (inl audit) is = region_own batches id h s n audit region is
region_shows batches id h s n region (inr passed) is =
    passed_shows Mono None batches h s n (Region region) passed (all_altered (cums batches s) h s n region passed.other is) tt

pub mono_shows : (batches : List Batch) (id : ℕ) (h s : History) (n : ℕ) (a : Analysis) → IsAudit batches id h s n ⊎ IsPassed h s n → IsRegion (cums batches s) (extent_of None s n) (Ok a)
    → Shows Mono batches h (Some s) n a
mono_shows batches id h s n a header found =
    let r = region_of (cums batches s) (extent_of None s n) a found in
    subst (λ (x : Analysis). Shows Mono batches h (Some s) n x) (sym r.is) (region_shows batches id h s n r.region header r.begins)
