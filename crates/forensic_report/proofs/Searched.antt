-- What the search for the first bad tile shows of a history.
use Rattle.std.proofs.Common.{◌≡◌, ℕ, ◌+◌, ◌<◌, ◌≤◌, ◌==◌, false, List, map, length, Option, Some, None, IfSome, Result, Ok, Err, refl, sym, subst, arith}
use Rattle.std.specs.List.{range_with_len}
use Rattle.std.proofs.lemmas.Bool.Decides.{nat_tests}
use Rattle.outside_words.specs.Told.{WhereTold}
use Rattle.outside_words.proofs.Told.{told_map}
use Rattle.history_model.specs.History.{History}
use Rattle.digest_model.specs.Layout.{layout, first_granule, max_granules}
use Rattle.digest_model.specs.Digests.{cum}
use Rattle.digest_model.proofs.Layouts.{counts}
use Rattle.notary_link.specs.declared.answer.Answer.{Answer}
use Rattle.notary_link.specs.declared.fail.AskFail.{AskFail}
use Rattle.notary_link.specs.declared.fail.AskFail.TheVariants as ask_fails
use Rattle.notary_link.specs.declared.name.Name.TheVariants as names
use Rattle.notary_link.specs.Notary.{Lists}
use Rattle.audit_model.specs.Tree.{digit_count}
use Rattle.audit_model.specs.Notary.{cums}
use Rattle.mono_forensics.specs.Finds.{link_answers, Finds, IsFindFail}
use Rattle.mono_forensics.proofs.Linked.{as_many, found_of_history}
use Rattle.forensic_report.specs.declared.fail.AnalyseFail.{AnalyseFail}
use Rattle.forensic_report.specs.Analysis.{Extent, Analysis, Region, asked_by}
use Rattle.forensic_report.specs.Finding.{extent_of, IsRegion, analysis_by}
use Rattle.forensic_report.specs.declared.algorithm.Algorithm.TheVariants.{Mono}
use Rattle.forensic_report.specs.Fails.{of_asking}
use Rattle.forensic_report.specs.Values.{OrGivesUp, IsOfFinding}

-- what is told of the answers for a history's chain
module _ (chain : ℕ → Answer) (extent : Extent) where
  search_shows : (r : Result (Option ℕ) AskFail) → IsFindFail extent.tiles r → Finds chain extent.tiles r → OrGivesUp (IsRegion chain extent) (analysis_by Region extent r)
  search_shows (Ok region) only is = (refl, is)
  search_shows (Err ask_fails.NotaryFault) only is = tt
  search_shows (Err ask_fails.NoMemory) only is = tt
  search_shows (Err (ask_fails.SealMissing (names.Cum tile))) only is = (tile, is.0, refl, is.1, is.2)
  search_shows (Err (ask_fails.SealMissing names.Header)) only is = absurd is
  search_shows (Err (ask_fails.SealMissing (names.Tile tile part))) only is = absurd is
  search_shows (Err (ask_fails.SealMissing (names.Node level index))) only is = absurd is
  search_shows (Err (ask_fails.SealMissing (names.Era era))) only is = absurd is
  search_shows (Err (ask_fails.SealMissing (names.EraNode era level index))) only is = absurd is
  search_shows (Err ask_fails.NotSealedSo) only is = absurd only
  search_shows (Err (ask_fails.NotaryInconsistent era level index)) only is = absurd only

-- the links of n tiles
module _ (h : History) (n : ℕ) (links : List (List ℕ)) (are : links ≡ map (cum h) (range_with_len 0 n)) where
  many : length links ≡ n
  many = as_many h n links are

  pub few_links : first_granule (layout h) n ≤ max_granules → length links ≤ 1048576
  few_links within = omega (arith, within, many, counts (layout h) n)

  pub region_within : (region : Option ℕ) → IfSome region (λ tile. tile < length links) → IfSome region (λ tile. tile < n)
  region_within None is = tt
  region_within (Some tile) is = omega (arith, many, is)

  pub some_questions : (before after : ℕ) → 1 ≤ n → after ≤ before + digit_count (length links) + 2 → after ≤ before + asked_by (extent_of None h n) (Region None)
  some_questions before after some asked =
      let no : (n == 0) ≡ false = grind (arith, nat_tests, some) in
      let few : after ≤ before + digit_count n + 2 = rw many at asked in
      rw no (omega (arith, few))

  pub told_search : (o m : Option Lists) (id : ℕ) (r : Result (Option ℕ) AskFail) (result : Result Analysis AnalyseFail) → result ≡ analysis_by Region (extent_of None h n) r → IsFindFail (length links) r
      → WhereTold o m (λ before after. Finds (link_answers before id links) (length links) r)
      → WhereTold o m (λ before after. OrGivesUp (IsRegion (cums (before.batches id) h) (extent_of None h n)) result)
  told_search o m id r result is only told = told_map o m _ _ told (λ before after found.
      let only_n : IsFindFail n r = subst (λ (k : ℕ). IsFindFail k r) many only in
      let found_n : Finds (link_answers before id links) n r = subst (λ (k : ℕ). Finds (link_answers before id links) k r) many found in
      subst (λ (x : Result Analysis AnalyseFail). OrGivesUp (IsRegion (cums (before.batches id) h) (extent_of None h n)) x) (sym is) (search_shows (cums (before.batches id) h) (extent_of None h n) r only_n (found_of_history h n links are before id r found_n)))

-- so is a search refused
pub refused_so : (n : ℕ) (fail : AskFail) → IsFindFail {T = Option ℕ} n (Err fail) → IsOfFinding Mono None (of_asking fail)
refused_so n ask_fails.NotaryFault is = tt
refused_so n ask_fails.NoMemory is = tt
refused_so n (ask_fails.SealMissing (names.Cum tile)) is = tt
refused_so n (ask_fails.SealMissing names.Header) is = absurd is
refused_so n (ask_fails.SealMissing (names.Tile tile part)) is = absurd is
refused_so n (ask_fails.SealMissing (names.Node level index)) is = absurd is
refused_so n (ask_fails.SealMissing (names.Era era)) is = absurd is
refused_so n (ask_fails.SealMissing (names.EraNode era level index)) is = absurd is
refused_so n ask_fails.NotSealedSo is = absurd is
refused_so n (ask_fails.NotaryInconsistent era level index) is = absurd is
