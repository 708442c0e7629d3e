-- Under the header that was filed nothing is refused.
use Rattle.std.proofs.Common.{◌≡◌, ◌⊎◌, inl, inr, ℕ, zero, suc, ◌+◌, ◌<◌, ◌≤◌, true, false, List, length, length-append, Option, Some, None, IfSome, Err, refl, sym, ap, subst, ◌∙◌, arith}
use Rattle.std.specs.Prelude.{nat_le, nat_lt}
use Rattle.std.proofs.lemmas.Bool.Decides.{nat_tests}
use Rattle.std.specs.List.{Contains, find, range_with_len}
use Rattle.std.specs.Option.{option_map}
use Rattle.history_model.specs.History.{History}
use Rattle.digest_model.specs.Layout.{Era, layout, policy_of, sealed_eras, exponent, first_granule, max_granules, whole}
use Rattle.digest_model.proofs.Eras.{sealed_come_first}
use Rattle.digest_model.proofs.Layouts.{same_exponent, same_eras}
use Rattle.digest_model.specs.Laws.{HasSpelling}
use Rattle.notary_link.specs.declared.answer.Answer.{Answer}
use Rattle.notary_link.specs.declared.answer.Answer.TheVariants.{Same, Differs, Absent}
use Rattle.notary_link.specs.declared.fail.AskFail.TheVariants as ask_fails
use Rattle.notary_link.specs.declared.name.Name.{Name}
use Rattle.notary_link.specs.declared.name.Name.TheVariants as names
use Rattle.notary_link.specs.Batches.{Batch}
use Rattle.audit_model.specs.Names.{planned}
use Rattle.audit_model.specs.Notary.{NotaryOf, answers, header_answer, cums}
use Rattle.audit_model.specs.Altered.{HashClash}
use Rattle.audit_model.specs.Laws.{IsAudit}
use Rattle.audit_model.proofs.Compare.{compare}
use Rattle.audit_model.proofs.Planned.{cum_planned, part_planned}
use Rattle.audit_model.proofs.Exact.{consistent}
use Rattle.audit_model.specs.Asked.{is_absent}
use Rattle.audit_model.specs.Ranges.{range_of}
use Rattle.policy_eras.specs.Policy.{count_of}
use Rattle.tiled_forensics.specs.Target.{parts, missing_chain, target_by}
use Rattle.a3d_forensics.specs.Descent.{tree_stop, tree_told}
use Rattle.a3d_forensics.proofs.Notarized.{audited_ends}
use Rattle.forensic_report.specs.declared.algorithm.Algorithm.{Algorithm}
use Rattle.forensic_report.specs.declared.algorithm.Algorithm.TheVariants.{Mono, Tiled, TiledExactly, A3d}
use Rattle.forensic_report.specs.declared.fail.AnalyseFail.{AnalyseFail}
use Rattle.forensic_report.specs.declared.fail.AnalyseFail.TheVariants as fails
use Rattle.forensic_report.specs.Analysis.{Targets}
use Rattle.forensic_report.specs.Finding.{extent_of, IsRegion, stop_told, analysis_by, targets_told, has_era, has_chains, IsFoundBy}
use Rattle.a3d_forensics.proofs.Ranges.{in_range_of}
use Rattle.forensic_report.proofs.Layouts.{range_of_audit, ends_within, chains_of_audit, tree_of_audit, same_has}
use Rattle.forensic_report.proofs.Told.{leaves, stop_at_tile, stop_of_tiles, failing_tiles, tile_is, found_in_tree, tree_is}
use Rattle.forensic_report.proofs.Filed.{is_there, not_absent, header_not_absent}
use Rattle.audit_model.proofs.Stops.{no_stop}
use Rattle.forensic_report.proofs.Lists.{ended}
use Rattle.forensic_report.proofs.Headers.{decided}
use Rattle.forensic_report.proofs.Ways.{Way, unfiled, refused, eraless, chainless, past, asked, not_past}

-- ---- the parts of a tile

none_absent : (answers : ℕ → Answer) (a k : ℕ) → ((bit : ℕ) → bit < a + k → is_absent (answers bit) ≡ false) → find (λ bit. is_absent (answers bit)) (range_with_len a k) ≡ None
none_absent answers a zero each = refl
none_absent answers a (suc k) each =
    let first = each a (omega arith) in
    let rest = none_absent answers (a + 1) k (λ bit below. each bit (omega (arith, below))) in
    rw (first, rest) refl

no_chain_missing : (answers : ℕ → Answer) (k tile : ℕ) → ((bit : ℕ) → bit < k → is_absent (answers bit) ≡ false) → missing_chain answers k tile ≡ None
no_chain_missing answers k tile each = ap (option_map (λ bit. ask_fails.SealMissing (names.Tile tile bit))) (none_absent answers 0 k (λ bit below. each bit (omega (arith, below))))

none_stops_at : (a : Answer) (answers : ℕ → Answer) (k tile : ℕ) → is_absent a ≡ false → missing_chain answers k tile ≡ None → stop_told (target_by a answers k tile) ≡ None
none_stops_at Same answers k tile there_it none = refl
none_stops_at Differs answers k tile there_it none = rw none refl
none_stops_at Absent answers k tile there_it none = absurd cc

-- ---- by the algorithm, under the header that was filed

module _ (era : Option ℕ) (batches : List Batch) (id n : ℕ) (h s : History) (audit : IsAudit batches id h s n) where
  abbrev tiles : List ℕ
  tiles = range_of era (layout s) n

  there : (name : Name) → Contains (planned (layout h) n) name → is_absent (answers batches s name) ≡ false
  there name is = is_there batches id n h s audit.filed name is

  tile_goes_on : has_chains Tiled era s n ≡ true → (tile : ℕ) → Contains tiles tile → stop_at_tile batches s tile ≡ None
  tile_goes_on has tile among =
      let below = in_range_of (layout s) era n tile among in
      let ours = subst (λ (tiles : List ℕ). Contains tiles tile) (sym (range_of_audit batches id h s n audit era)) among in
      let own = chains_of_audit batches id h s n audit era tile has ours in
      let alike = same_exponent (layout h) (layout s) tile (audit.places tile below) in
      ap stop_told (tile_is batches s era n tile has among)
      ∙ none_stops_at (parts batches s tile whole) (parts batches s tile) (exponent (layout s) tile) tile
      (there (names.Tile tile whole) (part_planned (layout h) n tile whole own below (inl refl)))
      (no_chain_missing (parts batches s tile) (exponent (layout s) tile) tile
      (λ bit low. there (names.Tile tile bit) (part_planned (layout h) n tile bit own below (inr (omega (arith, low, alike))))))

  tiled_ends : (fail : AnalyseFail) → has_chains Tiled era s n ≡ true → Err fail ≡ analysis_by Targets (extent_of era s n) (targets_told batches s (range_of era (layout s) n)) → ⊥
  tiled_ends fail has is = ended Targets (extent_of era s n) (stop_of_tiles batches s tiles) (failing_tiles batches s tiles) fail
      (no_stop (stop_at_tile batches s) tiles (tile_goes_on has)) is

  tree_ends : (fail : AnalyseFail) → has_chains A3d era s n ≡ true → Err fail ≡ analysis_by leaves (extent_of era s n) (tree_told batches s era n) → ⊥
  tree_ends fail has is =
      let own = tree_of_audit batches id h s n audit era has in
      ended leaves (extent_of era s n) (tree_stop batches s era n) (found_in_tree batches s era n) fail (audited_ends batches id h s era n audit own compare consistent)
      (is ∙ ap (analysis_by leaves (extent_of era s n)) (tree_is batches s era n has))

  region_ends : (fail : AnalyseFail) → IsRegion (cums batches s) (extent_of None s n) (Err fail) → ⊥
  region_ends (fails.SealMissing name) is = not_absent batches id n h s audit.filed (names.Cum is.0) (cum_planned (layout h) n is.0 is.1) is.3
  region_ends fails.DiskFault is = is
  region_ends fails.NotaryFault is = is
  region_ends fails.NoEra is = is
  region_ends fails.NotSealedSo is = is
  region_ends (fails.NotaryInconsistent era level index) is = is
  region_ends fails.NoMemory is = is

  none_refused : (algorithm : Algorithm) (fail : AnalyseFail) → has_chains algorithm era s n ≡ true → IsFoundBy algorithm era batches n s (Err fail) → ⊥
  none_refused Mono fail has is = region_ends fail is
  none_refused Tiled fail has is = tiled_ends fail has is
  none_refused (TiledExactly kappa) fail has is = tiled_ends fail has is
  none_refused A3d fail has is = tree_ends fail has is

  -- nor do the tiles end behind the last granule
  none_past : nat_le (first_granule (layout s) n) max_granules ≡ false → ⊥
  none_past test = not_past (first_granule (layout s) n) (ends_within batches id h s n audit) test

-- ---- so it is refused under another one

-- an era that is not there is none of the sealed ones
unknown_era : (h s : History) (n : ℕ) (era : Option ℕ) → sealed_eras (layout h) n ≡ sealed_eras (layout s) n → has_era era s ≡ false → IfSome era (λ number. length (sealed_eras (layout h) n) < number)
unknown_era h s n None same lacks = absurd cc
unknown_era h s n (Some number) same lacks =
    let front = sealed_come_first s n in
    let long = length-append (sealed_eras (layout s) n) front.0 in
    let all : length (policy_of s).later ≡ length (sealed_eras (layout s) n) + length front.0 = ap (length {A = Era}) front.1 ∙ long in
    let past : count_of (policy_of s) ≤ number = grind (arith, nat_tests, lacks) in
    rw same (omega (arith, all, past))

module _ (era : Option ℕ) (batches : List Batch) (id n : ℕ) (h s : History) (filed : NotaryOf batches id h n) (ours : HasSpelling h) (theirs : HasSpelling s) where
  clash_unless : header_answer batches s n ≡ Same → (IsAudit batches id h s n → ⊥) → HashClash h (Some s) n
  clash_unless same never = elim (decided batches id h s n filed ours theirs same) [
    | inl audit ↦ absurd (never audit)
    | inr passed ↦ passed.clash
  ]

  pub missing_by : (algorithm : Algorithm) (name : Name) → Way algorithm era batches n s (Err (fails.SealMissing name)) → HashClash h (Some s) n
  missing_by algorithm name (unfiled absent is) = absurd (header_not_absent batches id n h s filed absent)
  missing_by algorithm name (refused differs is) = absurd cc
  missing_by algorithm name (eraless same lacks is) = absurd cc
  missing_by algorithm name (chainless same lacks is) = absurd cc
  missing_by algorithm name (past same test is) = clash_unless same (λ audit. none_past era batches id n h s audit test)
  missing_by algorithm name (asked same has small is) = clash_unless same (λ audit. none_refused era batches id n h s audit algorithm (fails.SealMissing name) has is)

  -- the era is none of h's sealed ones, or it has another header
  pub eraless_by : (algorithm : Algorithm) → Way algorithm era batches n s (Err fails.NoEra) → IfSome era (λ number. length (sealed_eras (layout h) n) < number) ⊎ HashClash h (Some s) n
  eraless_by algorithm (unfiled absent is) = absurd cc
  eraless_by algorithm (refused differs is) = absurd cc
  eraless_by algorithm (chainless same lacks is) = absurd cc
  eraless_by algorithm (past same test is) = absurd cc
  eraless_by algorithm (asked same has small is) = inr (clash_unless same (λ audit. none_refused era batches id n h s audit algorithm fails.NoEra has is))
  eraless_by algorithm (eraless same lacks is) = elim (decided batches id h s n filed ours theirs same) [
    | inl audit ↦ inl (unknown_era h s n era (same_eras (layout h) (layout s) n audit.places) lacks)
    | inr passed ↦ inr passed.clash
  ]

  -- a tile of h's range lacks the chains, or it has another header
  pub lacking_by : (algorithm : Algorithm) → Way algorithm era batches n s (Err fails.NotSealedSo) → (has_chains algorithm era h n ≡ false) ⊎ HashClash h (Some s) n
  lacking_by algorithm (unfiled absent is) = absurd cc
  lacking_by algorithm (refused differs is) = absurd cc
  lacking_by algorithm (eraless same lacks is) = absurd cc
  lacking_by algorithm (past same test is) = absurd cc
  lacking_by algorithm (asked same has small is) = inr (clash_unless same (λ audit. none_refused era batches id n h s audit algorithm fails.NotSealedSo has is))
  lacking_by algorithm (chainless same lacks is) = elim (decided batches id h s n filed ours theirs same) [
    | inl audit ↦ inl (same_has batches id h s n audit algorithm era ∙ lacks)
    | inr passed ↦ inr passed.clash
  ]
