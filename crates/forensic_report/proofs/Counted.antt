-- What is shown behind the count of batches, behind the answer for the header and the eras, and behind the tests of the tiles.
use Rattle.std.proofs.Common.{◌≡◌, ℕ, ◌+◌, ◌<◌, ◌≤◌, nat_le, true, List, [], ◌∷◌, length, Option, Some, None, false, Result, Ok, Err, IfSome, refl, ap, subst, ◌∙◌, arith}
use Rattle.std.specs.Option.{is_some}
use Rattle.std.proofs.lemmas.Bool.Decides.{nat_tests}
use Rattle.outside_words.specs.Told.{WhereTold}
use Rattle.outside_words.proofs.Told.{told_map}
use Rattle.history_model.specs.declared.stored.Stored.{Stored}
use Rattle.history_model.specs.History.{History}
use Rattle.digest_model.specs.Layout.{layout, first_granule, max_granules}
use Rattle.digest_model.proofs.Layouts.{ascends, ends_within, tile_begins, tile_ends}
use Rattle.notary_link.specs.declared.answer.Answer.{Answer}
use Rattle.notary_link.specs.declared.name.Name.TheVariants as names
use Rattle.notary_link.specs.Batches.{Batch}
use Rattle.notary_link.specs.Notary.{Lists, Keeps}
use Rattle.audit_model.specs.Notary.{header_answer}
use Rattle.audit_model.specs.Altered.{history_with}
use Rattle.policy_eras.specs.Policy.{first_past}
use Rattle.validator.proofs.Telling.{told_of}
use Rattle.forensic_report.specs.declared.algorithm.Algorithm.{Algorithm}
use Rattle.forensic_report.specs.declared.fail.AnalyseFail.{AnalyseFail}
use Rattle.forensic_report.specs.declared.fail.AnalyseFail.TheVariants as fails
use Rattle.forensic_report.specs.Analysis.{Analysis}
use Rattle.forensic_report.specs.Finding.{has_era, has_chains, IsFoundBy, IsFoundIn, IsFoundAt, IsFoundOf, IsAnalysis}
use Rattle.forensic_report.specs.Values.{OrGivesUp}
use Rattle.notary_link.proofs.Reading.{told_behind}

pub or_gives_up : (P Q : Result Analysis AnalyseFail → Type 0) (r : Result Analysis AnalyseFail) → ((found : Result Analysis AnalyseFail) → P found → Q found) → OrGivesUp P r → OrGivesUp Q r
or_gives_up P Q (Ok a) f is = f (Ok a) is
or_gives_up P Q (Err fails.DiskFault) f is = tt
or_gives_up P Q (Err fails.NotaryFault) f is = tt
or_gives_up P Q (Err (fails.SealMissing name)) f is = f (Err (fails.SealMissing name)) is
or_gives_up P Q (Err fails.NoEra) f is = f (Err fails.NoEra) is
or_gives_up P Q (Err fails.NotSealedSo) f is = f (Err fails.NotSealedSo) is
or_gives_up P Q (Err (fails.NotaryInconsistent era level index)) f is = f (Err (fails.NotaryInconsistent era level index)) is
or_gives_up P Q (Err fails.NoMemory) f is = tt

pub as_read : (P Q : List ℕ → Type 0) (reads : Option (List ℕ)) → IfSome reads P → ((bytes : List ℕ) → P bytes → Q bytes) → IfSome reads Q
as_read P Q None is f = tt
as_read P Q (Some bytes) is f = f bytes is

-- ---- the count

module _ (algorithm : Algorithm) (era : Option ℕ) (id n : ℕ) (s : Stored) (r : Result Analysis AnalyseFail) where
  counted : (batches : List Batch) (found : Result Analysis AnalyseFail) → n + 1 ≡ length batches → IsFoundOf algorithm era batches n (history_with id s) found → IsAnalysis algorithm era id batches s found
  counted [] found count is = absurd (omega (arith, count))
  counted (batch ∷ batches) found count is =
      let e : n ≡ length batches = omega (arith, count) in
      subst (λ (m : ℕ). IsFoundOf algorithm era (batch ∷ batches) m (history_with id s) found) e is

  pub told_behind_count : (o m z : Option Lists) → (is_some m ≡ false → is_some z ≡ false) → WhereTold o m Keeps → IfSome o (λ lists. n + 1 ≡ length (lists.batches id))
      → WhereTold m z (λ before after. OrGivesUp (IsFoundOf algorithm era (before.batches id) n (history_with id s)) r) → WhereTold o z (λ before after. OrGivesUp (IsAnalysis algorithm era id (before.batches id) s) r)
  told_behind_count o m z stays keeps count next =
      told_behind id (λ batches. n + 1 ≡ length batches) (λ batches. OrGivesUp (IsFoundOf algorithm era batches n (history_with id s)) r) (λ batches. OrGivesUp (IsAnalysis algorithm era id batches s) r) o m z
      stays keeps (told_of o m (λ lists. n + 1 ≡ length (lists.batches id)) (λ before after. n + 1 ≡ length (before.batches id)) count (λ before after is. is)) next
      (λ batches many is. or_gives_up (IsFoundOf algorithm era batches n (history_with id s)) (IsAnalysis algorithm era id batches s) r (λ found. counted batches found many) is)

-- ---- the header and the eras

-- s has this answer for them
module _ (algorithm : Algorithm) (era : Option ℕ) (id n : ℕ) (s : History) (a : Answer) (r : Result Analysis AnalyseFail) where
  by_answer : (batches : List Batch) → a ≡ header_answer batches s n → OrGivesUp (IsFoundAt a algorithm era batches n s) r → OrGivesUp (IsFoundOf algorithm era batches n (Some s)) r
  by_answer batches is by =
      or_gives_up (IsFoundAt a algorithm era batches n s) (IsFoundOf algorithm era batches n (Some s)) r (λ found. subst (λ (x : Answer). IsFoundAt x algorithm era batches n s found) is) by

  -- and no other question was asked
  pub told_at_header : (o m : Option Lists) → WhereTold o m (λ before after. a ≡ header_answer (before.batches id) s n) → ((batches : List Batch) → OrGivesUp (IsFoundAt a algorithm era batches n s) r)
      → WhereTold o m (λ before after. OrGivesUp (IsFoundOf algorithm era (before.batches id) n (Some s)) r)
  told_at_header o m answered by =
      told_map o m _ _ answered (λ before after so. by_answer (before.batches id) so (by (before.batches id)))

  -- and others were asked then
  pub told_behind_header : (o m z : Option Lists) → (is_some m ≡ false → is_some z ≡ false) → WhereTold o m Keeps → WhereTold o m (λ before after. a ≡ header_answer (before.batches id) s n)
      → WhereTold m z (λ before after. OrGivesUp (IsFoundAt a algorithm era (before.batches id) n s) r) → WhereTold o z (λ before after. OrGivesUp (IsFoundOf algorithm era (before.batches id) n (Some s)) r)
  told_behind_header o m z stays keeps answered next =
      told_behind id (λ batches. a ≡ header_answer batches s n) (λ batches. OrGivesUp (IsFoundAt a algorithm era batches n s) r) (λ batches. OrGivesUp (IsFoundOf algorithm era batches n (Some s)) r) o m z
      stays keeps answered next by_answer

-- ---- the tiles

-- the tiles before the first one that ends behind the last granule
pub few_granules : (s : History) (n : ℕ) → n ≤ first_past (layout s) → first_granule (layout s) n ≤ max_granules
few_granules s n few = (let past = tile_begins (layout s) max_granules in let up = ascends (layout s) n (first_past (layout s)) few in omega (arith, past, up))

past_last : (s : History) (n : ℕ) → first_past (layout s) < n → nat_le (first_granule (layout s) n) max_granules ≡ false
past_last s n past =
    let ends = tile_ends (layout s) max_granules in
    let behind = ends_within (layout s) n (first_past (layout s)) past in
    let more : max_granules < first_granule (layout s) n = omega (arith, ends, behind) in
    grind (arith, nat_tests, more)

-- by the era, by the chains, and by the end of the tiles
module _ (algorithm : Algorithm) (era : Option ℕ) (batches : List Batch) (n : ℕ) (s : History) where
  abbrev IsFoundHere : Result Analysis AnalyseFail → Type 0
  IsFoundHere found = IsFoundIn (has_era era s) algorithm era batches n s found

  pub found_eraless : has_era era s ≡ false → IsFoundHere (Err fails.NoEra)
  found_eraless lacks = rw lacks refl

  pub found_chainless : has_era era s ≡ true → has_chains algorithm era s n ≡ false → IsFoundHere (Err fails.NotSealedSo)
  found_chainless there_it lacks = rw (there_it, lacks) refl

  pub found_past : (past : ℕ) → has_era era s ≡ true → has_chains algorithm era s n ≡ true → past ≡ first_past (layout s) → past < n → IsFoundHere (Err (fails.SealMissing (names.Cum past)))
  found_past past there_it has is less = (let behind = past_last s n (omega (arith, is, less)) in rw (there_it, has, behind) (ap missing is))
    where
      missing : ℕ → Result Analysis AnalyseFail
      missing tile = Err (fails.SealMissing (names.Cum tile))

  pub found_within : has_era era s ≡ true → has_chains algorithm era s n ≡ true → n ≤ first_past (layout s) → (r : Result Analysis AnalyseFail) → OrGivesUp (IsFoundBy algorithm era batches n s) r → OrGivesUp IsFoundHere r
  found_within there_it has few r is = or_gives_up (IsFoundBy algorithm era batches n s) IsFoundHere r (λ found by. rw (there_it, has, within) by) is
    where
      within : nat_le (first_granule (layout s) n) max_granules ≡ true
      within = (let most = few_granules s n few in grind (arith, nat_tests, most))
