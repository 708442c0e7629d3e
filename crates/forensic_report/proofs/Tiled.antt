-- What targets show.
use Rattle.std.proofs.Common.{◌≡◌, ◌⊎◌, inl, inr, ℕ, ◌+◌, ◌<◌, true, false, List, map, Option, Some, Ok, sym, ap, subst, ◌∙◌, arith}
use Rattle.std.specs.Prelude.{◌↔◌}
use Rattle.std.specs.List.{Contains}
use Rattle.history_model.specs.History.{History}
use Rattle.digest_model.specs.Layout.{Layout, layout, SameTiles, exponent, first_granule, tile_of, has_tile_chains}
use Rattle.digest_model.proofs.Layouts.{same_exponent, same_first}
use Rattle.digest_model.proofs.Members.{Contains-map}
use Rattle.notary_link.specs.Batches.{Batch}
use Rattle.audit_model.specs.Altered.{HasOtherHeader, IsAltered, HashClash}
use Rattle.audit_model.specs.Laws.{IsAudit, HasAltered}
use Rattle.audit_model.specs.Ranges.{range_of}
use Rattle.audit_model.specs.Tiled.{IsCandidate, IsCandidateAmong, candidates_of, exactly_of}
use Rattle.audit_model.proofs.Planned.{other_altered}
use Rattle.audit_model.proofs.Filed.{each}
use Rattle.audit_model.proofs.Candidates.{exact}
use Rattle.audit_model.proofs.Among.{exact_among}
use Rattle.audit_model.proofs.TileAudit.{candidates_have}
use Rattle.audit_model.proofs.KappaAudit.{among_have}
use Rattle.audit_model.proofs.Exact.{failing_altered}
use Rattle.tiled_forensics.specs.Target.{parts}
use Rattle.forensic_report.specs.declared.algorithm.Algorithm.{Algorithm}
use Rattle.forensic_report.specs.declared.algorithm.Algorithm.TheVariants.{Tiled, TiledExactly}
use Rattle.forensic_report.specs.Analysis.{Analysis, Targets, Found, is_some_bad, bad_tiles}
use Rattle.forensic_report.specs.Finding.{extent_of, analysis_by, targets_told, has_chains}
use Rattle.forensic_report.specs.Texts.{candidates_by, granules_by}
use Rattle.forensic_report.specs.Shows.{NamesIn, IsAlteredWithin, HasAlteredMany, IsPromised, AreAltered, AreExplained, Shows}
use Rattle.a3d_forensics.proofs.Ranges.{in_range_of}
use Rattle.forensic_report.proofs.Layouts.{number_of, in_its_tile, number_below, some_granule, granule_sealed, range_of_audit, chains_of_audit}
use Rattle.forensic_report.proofs.Lists.{none_bad}
use Rattle.forensic_report.proofs.Headers.{IsPassed, own_shows, passed_shows}
use Rattle.forensic_report.proofs.Targets.{AreTargets, alike_targets, told_of}

-- tiles that lie alike have the same candidates
same_granules : (algorithm : Algorithm) (l m : Layout) (n tile target : ℕ) → tile < n → SameTiles n l m → granules_by algorithm l tile target ≡ granules_by algorithm m tile target
same_granules algorithm l m n tile target below same =
    ap (λ (k : ℕ). map (λ number. first_granule l tile + number) (candidates_by algorithm target k)) (same_exponent l m tile (same tile below))
    ∙ ap (λ (first : ℕ). map (λ number. first + number) (candidates_by algorithm target (exponent m tile))) (same_first l m n tile (omega (arith, below)) same)

-- each tile of a range has the chains of its parts
abbrev HaveTileChains : Option ℕ → History → ℕ → Type 0
HaveTileChains era h n = (tile : ℕ) → Contains (range_of era (layout h) n) tile → has_tile_chains (layout h) tile ≡ true

-- ---- under the header and the eras that were filed

module _ (era : Option ℕ) (batches : List Batch) (id : ℕ) (h s : History) (n : ℕ) (targets : List (ℕ × ℕ))
    (audit : IsAudit batches id h s n) (has : HaveTileChains era h n) (are : AreTargets era (layout h) (parts batches s) n targets) where
  -- the tile of a granule, its number there, and the exponent of the tile
  abbrev tile : ℕ → ℕ
  tile g = tile_of (layout h) g

  abbrev number : ℕ → ℕ
  number g = number_of (layout h) g

  abbrev k : ℕ → ℕ
  k g = exponent (layout h) (tile g)

  -- the tile is listed, and its candidates by the target have the granule
  abbrev IsListed : ℕ → (ℕ → List ℕ) → Type 0
  IsListed g candidates = (target : ℕ) × Contains targets (tile g, target) × Contains (candidates target) (number g)

  sealed : (tile : ℕ) → Contains (range_of era (layout h) n) tile → tile < n
  sealed tile among = in_range_of (layout h) era n tile among

  numbered : (g : ℕ) → IsAltered h (Some s) n g → IsAltered h (Some s) n (first_granule (layout h) (tile g) + number g)
  numbered g alt = subst (λ (x : ℕ). IsAltered h (Some s) n x) (sym (in_its_tile (layout h) g)) alt

  listed : (g : ℕ) → IsAlteredWithin era h (Some s) n g → IsListed g (λ target. candidates_of target (k g)) ⊎ HashClash h (Some s) n
  listed g alt =
      elim (candidates_have batches id h s n (tile g) (number g) audit (has (tile g) alt.inside) (sealed (tile g) alt.inside) (number_below (layout h) g) (numbered g alt.altered)) [
        | inr clash ↦ inr clash
        | inl candidate ↦ elim (are.each (tile g) alt.inside) [
          | inl same ↦ absurd (let differs = candidate.1.tile in cc)
          | inr l ↦ inl (l.0, l.1, (exact (k g) l.0 (number g) (parts batches s (tile g)) l.2).1 candidate)
        ]
      ]

  listed_among : (kappa g : ℕ) → IsAlteredWithin era h (Some s) n g → HasAlteredMany kappa h s n (tile g) → IsListed g (λ target. exactly_of target (k g) kappa) ⊎ HashClash h (Some s) n
  listed_among kappa g alt many =
      let member = (many.1.members (number g)).1 (number_below (layout h) g, numbered g alt.altered) in
      elim (among_have batches id h s n (tile g) (number g) many.0 audit (has (tile g) alt.inside) (sealed (tile g) alt.inside) many.1 member) [
        | inr clash ↦ inr clash
        | inl candidate ↦ elim (are.each (tile g) alt.inside) [
          | inl same ↦ absurd (let differs = candidate.1.tile in cc)
          | inr l ↦
              (let among = subst (λ (m : ℕ). IsCandidateAmong m (k g) (parts batches s (tile g)) (number g)) many.2 candidate in
              inl (l.0, l.1, (exact_among kappa (k g) l.0 (number g) (parts batches s (tile g)) l.2).1 among))
        ]
      ]

  -- what is listed is named
  named_in : (algorithm : Algorithm) (g : ℕ) → IsListed g (λ target. candidates_by algorithm target (k g)) → NamesIn algorithm (layout s) (Targets targets) g
  named_in algorithm g is =
      let place = Contains-map (λ i. first_granule (layout h) (tile g) + i) (candidates_by algorithm is.0 (k g)) (number g) is.2 in
      let own = subst (λ (x : ℕ). Contains (granules_by algorithm (layout h) (tile g) is.0) x) (in_its_tile (layout h) g) place in
      let below = sealed (tile g) (are.only (tile g, is.0) is.1).0 in
      ((tile g, is.0), is.1, subst (λ (granules : List ℕ). Contains granules g) (same_granules algorithm (layout h) (layout s) n (tile g) is.0 below audit.places) own)

  named : (g : ℕ) → IsAlteredWithin era h (Some s) n g → NamesIn Tiled (layout s) (Targets targets) g ⊎ HashClash h (Some s) n
  named g alt = elim (listed g alt) [ inl l ↦ inl (named_in Tiled g l) | inr clash ↦ inr clash ]

  named_among : (kappa g : ℕ) → IsAlteredWithin era h (Some s) n g → HasAlteredMany kappa h s n (tile g) → NamesIn (TiledExactly kappa) (layout s) (Targets targets) g ⊎ HashClash h (Some s) n
  named_among kappa g alt many = elim (listed_among kappa g alt many) [ inl l ↦ inl (named_in (TiledExactly kappa) g l) | inr clash ↦ inr clash ]

  unaltered : is_some_bad (bad_tiles (extent_of era s n) (Targets targets)) ≡ false → (g : ℕ) → IsAlteredWithin era h (Some s) n g → HashClash h (Some s) n
  unaltered none g alt = elim (listed g alt) [
    | inl l ↦ absurd (none_bad (λ (t : ℕ × ℕ). t.0) targets (tile g, l.0) none l.1)
    | inr clash ↦ clash
  ]

  only : AreAltered h s n (extent_of era s n) (Targets targets)
  only = each (λ (t : ℕ × ℕ). Contains (range_of era (layout s) n) t.0 × HasAltered h s n t.0) targets (λ t is.
      let told = are.only t is in (
        subst (λ (tiles : List ℕ). Contains tiles t.0) (range_of_audit batches id h s n audit era) told.0,
        failing_altered batches id h s n t.0 audit (has t.0 told.0) (sealed t.0 told.0) told.1.tile,
      ))

-- ---- under any header that is answered the same

-- the tiles that fail are sealed ones, of which all granules are altered
all_altered : (era : Option ℕ) (batches : List Batch) (h s : History) (n : ℕ) (targets : List (ℕ × ℕ)) → HasOtherHeader h (Some s) n → AreTargets era (layout s) (parts batches s) n targets
    → AreAltered h s n (extent_of era s n) (Targets targets)
all_altered era batches h s n targets other are = each (λ (t : ℕ × ℕ). Contains (range_of era (layout s) n) t.0 × HasAltered h s n t.0) targets (λ t is.
    let told = are.only t is in
    let sealed = granule_sealed (layout h) n t.0 0 (in_range_of (layout s) era n t.0 told.0) (some_granule (layout h) t.0) in
    (told.0, (0, (some_granule (layout h) t.0, other_altered h (Some s) n (first_granule (layout h) t.0 + 0) other sealed))))

module _ (era : Option ℕ) (batches : List Batch) (s : History) (l : Layout) (n : ℕ) (targets : List (ℕ × ℕ)) (are : AreTargets era l (parts batches s) n targets) where
  explained : AreExplained Tiled batches s l (Targets targets)
  explained = each (λ (t : ℕ × ℕ). (number : ℕ) → Contains (candidates_of t.1 (exponent l t.0)) number ↔ IsCandidate (exponent l t.0) (parts batches s t.0) number) targets
      (λ t is number. exact (exponent l t.0) t.1 number (parts batches s t.0) (are.only t is).1)

  explained_among : (kappa : ℕ) → AreExplained (TiledExactly kappa) batches s l (Targets targets)
  explained_among kappa = each (λ (t : ℕ × ℕ). (number : ℕ) → Contains (exactly_of t.1 (exponent l t.0) kappa) number ↔ IsCandidateAmong kappa (exponent l t.0) (parts batches s t.0) number) targets
      (λ t is number. exact_among kappa (exponent l t.0) t.1 number (parts batches s t.0) (are.only t is).1)

-- ---- all of it

-- by what is named under h's header, and what is explained
module _ (algorithm : Algorithm) (era : Option ℕ) (batches : List Batch) (id : ℕ) (h s : History) (n : ℕ) (targets : List (ℕ × ℕ))
    (named_so : IsAudit batches id h s n → HaveTileChains era h n → AreTargets era (layout h) (parts batches s) n targets
    → (g : ℕ) → IsAlteredWithin era h (Some s) n g → IsPromised algorithm h (Some s) n g → NamesIn algorithm (layout s) (Targets targets) g ⊎ HashClash h (Some s) n)
    (explained_so : AreExplained algorithm batches s (layout s) (Targets targets)) where
  targets_own : IsAudit batches id h s n → HaveTileChains era h n → AreTargets era (layout h) (parts batches s) n targets
      → Shows algorithm batches h (Some s) n (Found (extent_of era s n) (Targets targets))
  targets_own audit has own =
      own_shows algorithm era batches id h s n (Targets targets) audit (named_so audit has own) (unaltered era batches id h s n targets audit has own) tt
      (only era batches id h s n targets audit has own) explained_so

  targets_show : IsAudit batches id h s n ⊎ IsPassed h s n → has_chains Tiled era s n ≡ true → AreTargets era (layout s) (parts batches s) n targets
      → Shows algorithm batches h (Some s) n (Found (extent_of era s n) (Targets targets))
  targets_show (inl audit) has are =
      targets_own audit (λ tile among. chains_of_audit batches id h s n audit era tile has among) (alike_targets era (layout h) (layout s) (parts batches s) n targets audit.places are)
  targets_show (inr passed) has are =
      passed_shows algorithm era batches h s n (Targets targets) passed (all_altered era batches h s n targets passed.other are) explained_so

module _ (era : Option ℕ) (batches : List Batch) (id : ℕ) (h s : History) (n : ℕ) (a : Analysis) (has : has_chains Tiled era s n ≡ true)
    (header : IsAudit batches id h s n ⊎ IsPassed h s n) (is : Ok a ≡ analysis_by Targets (extent_of era s n) (targets_told batches s (range_of era (layout s) n))) where
  pub tiled_shows : Shows Tiled batches h (Some s) n a
  tiled_shows =
      let told = told_of batches s era n has a is in
      subst (λ (x : Analysis). Shows Tiled batches h (Some s) n x) (sym told.is)
      (targets_show Tiled era batches id h s n told.targets
      (λ audit own are g alt promised. named era batches id h s n told.targets audit own are g alt)
      (explained era batches s (layout s) n told.targets told.are) header has told.are)

  pub exactly_shows : (kappa : ℕ) → Shows (TiledExactly kappa) batches h (Some s) n a
  exactly_shows kappa =
      let told = told_of batches s era n has a is in
      subst (λ (x : Analysis). Shows (TiledExactly kappa) batches h (Some s) n x) (sym told.is)
      (targets_show (TiledExactly kappa) era batches id h s n told.targets
      (λ audit own are g alt promised. named_among era batches id h s n told.targets audit own are kappa g alt promised)
      (explained_among era batches s (layout s) n told.targets told.are kappa) header has told.are)
