-- The ways in which an analysis comes to what it finds.
use Rattle.std.proofs.Common.{◌≡◌, ℕ, ◌≤◌, Bool, true, false, List, [], ◌∷◌, length, Option, Some, None, Result, Ok, Err, refl, sym, ap, subst, ◌∙◌, arith}
use Rattle.std.specs.Prelude.{◌==◌, nat_le, if◌then◌else◌, unwrap_or, IfSome}
use Rattle.std.specs.Option.{option_map}
use Rattle.std.proofs.lemmas.Bool.{eq-eqb}
use Rattle.std.proofs.lemmas.Bool.Decides.{nat_tests}
use Rattle.tuple_bytes.specs.declared.header.Header.{Header}
use Rattle.history_model.specs.declared.stored.Stored.{Stored}
use Rattle.history_model.specs.History.{History, history}
use Rattle.history_model.specs.Stored.{stored}
use Rattle.history_model.specs.StoredHistory.{IsHistory}
use Rattle.digest_model.specs.Layout.{layout, first_granule, max_granules}
use Rattle.digest_model.specs.Laws.{HasSpelling}
use Rattle.digest_model.proofs.Spelled.{has_spelling}
use Rattle.notary_link.specs.declared.answer.Answer.{Answer}
use Rattle.notary_link.specs.declared.answer.Answer.TheVariants.{Same, Differs, Absent}
use Rattle.notary_link.specs.declared.name.Name.TheVariants as names
use Rattle.notary_link.specs.Batches.{Batch}
use Rattle.audit_model.specs.Notary.{NotaryOf, header_answer}
use Rattle.audit_model.specs.Altered.{history_in, under_id, history_with}
use Rattle.audit_model.proofs.Compare.{counted}
use Rattle.policy_eras.specs.Policy.{first_past}
use Rattle.forensic_report.specs.declared.algorithm.Algorithm.{Algorithm}
use Rattle.forensic_report.specs.declared.fail.AnalyseFail.{AnalyseFail}
use Rattle.forensic_report.specs.declared.fail.AnalyseFail.TheVariants as fails
use Rattle.forensic_report.specs.Analysis.{Analysis, HeaderAltered}
use Rattle.forensic_report.specs.Held.{HoldsHistory}
use Rattle.forensic_report.specs.Finding.{has_era, has_chains, IsFoundBy, IsFoundWithin, IsFoundWith, IsFoundIn, IsFoundAt, IsFoundOf, IsAnalysis}

-- By the answer for the header and the eras: the header's seal is missing, or others were filed; or these were, and there is no such
-- era, or the tiles lack the chains, or end behind the last granule, or the algorithm is run.
pub data Way (algorithm : Algorithm) (era : Option ℕ) (batches : List Batch) (n : ℕ) (s : History) (found : Result Analysis AnalyseFail) : Type 0 where
  unfiled : header_answer batches s n ≡ Absent → found ≡ Err (fails.SealMissing names.Header) → Way algorithm era batches n s found
  refused : header_answer batches s n ≡ Differs → found ≡ Ok (HeaderAltered n) → Way algorithm era batches n s found
  eraless : header_answer batches s n ≡ Same → has_era era s ≡ false → found ≡ Err fails.NoEra → Way algorithm era batches n s found
  chainless : header_answer batches s n ≡ Same → has_chains algorithm era s n ≡ false → found ≡ Err fails.NotSealedSo → Way algorithm era batches n s found
  past : header_answer batches s n ≡ Same → nat_le (first_granule (layout s) n) max_granules ≡ false → found ≡ Err (fails.SealMissing (names.Cum (first_past (layout s)))) → Way algorithm era batches n s found
  asked : header_answer batches s n ≡ Same → has_chains algorithm era s n ≡ true → first_granule (layout s) n ≤ max_granules → IsFoundBy algorithm era batches n s found → Way algorithm era batches n s found

-- the file has no history of the id, or has one
pub data WayIn (algorithm : Algorithm) (era : Option ℕ) (batches : List Batch) (id n : ℕ) (file : Option History) (found : Result Analysis AnalyseFail) : Type 0 where
  other : ((s : History) → file ≡ Some s → s.header.id ≡ id → ⊥) → found ≡ Ok (HeaderAltered n) → WayIn algorithm era batches id n file found
  under : (s : History) → file ≡ Some s → Way algorithm era batches n s found → WayIn algorithm era batches id n file found

-- ---- by the header's answer

within : (m : ℕ) → nat_le m max_granules ≡ true → m ≤ max_granules
within m test = grind (arith, nat_tests)

pub not_past : (m : ℕ) → m ≤ max_granules → nat_le m max_granules ≡ false → ⊥
not_past m most test = (let yes_it : nat_le m max_granules ≡ true = grind (arith, nat_tests) in let both : true ≡ false = sym yes_it ∙ test in cc)

module _ (algorithm : Algorithm) (era : Option ℕ) (batches : List Batch) (n : ℕ) (s : History) (found : Result Analysis AnalyseFail) where
  by_bound : header_answer batches s n ≡ Same → has_chains algorithm era s n ≡ true
      → (b : Bool) → nat_le (first_granule (layout s) n) max_granules ≡ b → IsFoundWithin b algorithm era batches n s found → Way algorithm era batches n s found
  by_bound same has true test is = asked same has (within (first_granule (layout s) n) test) is
  by_bound same has false test is = past same test is

  by_chains : header_answer batches s n ≡ Same → (b : Bool) → has_chains algorithm era s n ≡ b → IsFoundWith b algorithm era batches n s found → Way algorithm era batches n s found
  by_chains same true has is = by_bound same has (nat_le (first_granule (layout s) n) max_granules) refl is
  by_chains same false has is = chainless same has is

  by_era : header_answer batches s n ≡ Same → (b : Bool) → has_era era s ≡ b → IsFoundIn b algorithm era batches n s found → Way algorithm era batches n s found
  by_era same true there_it is = by_chains same (has_chains algorithm era s n) refl is
  by_era same false lacks is = eraless same lacks is

  pub by_answer : (a : Answer) → header_answer batches s n ≡ a → IsFoundAt a algorithm era batches n s found → Way algorithm era batches n s found
  by_answer Same header is = by_era header (has_era era s) refl is
  by_answer Differs header is = refused header is
  by_answer Absent header is = unfiled header is

-- ---- by what is stored

module _ (algorithm : Algorithm) (era : Option ℕ) (batches : List Batch) (id n : ℕ) (found : Result Analysis AnalyseFail) where
  by_id : (held : History) (b : Bool) → (held.header.id == id) ≡ b → IsFoundOf algorithm era batches n (if b then Some held else None) found
      → WayIn algorithm era batches id n (Some held) found
  by_id held true own is = under held refl (by_answer algorithm era batches n held found (header_answer batches held n) refl is)
  by_id held false test is = other (λ s stands own.
      let same : held.header.id ≡ s.header.id = ap (λ (o : Option History). (unwrap_or o held).header.id) stands in
      let one : (held.header.id == id) ≡ true = eq-eqb held.header.id id (same ∙ own) in
      let both : true ≡ false = sym one ∙ test in
      cc) is

  by_header : (header : Option Header) (st : Stored) → IsFoundOf algorithm era batches n (under_id id header st) found
      → WayIn algorithm era batches id n (option_map (λ (hd : Header). history hd st.items) header) found
  by_header None st is = other (λ s stands own. cc) is
  by_header (Some header) st is = by_id (history header st.items) (header.id == id) refl is

pub way_of : (algorithm : Algorithm) (era : Option ℕ) (batches : List Batch) (id n : ℕ) (h : History) (st : Stored) (found : Result Analysis AnalyseFail)
    → NotaryOf batches id h n → IsAnalysis algorithm era id batches st found → WayIn algorithm era batches id n (history_in st) found
way_of algorithm era [] id n h st found filed is = absurd (let many = counted [] id h n filed in omega (arith, many))
way_of algorithm era (first ∷ batches) id n h st found filed is =
    let many : length batches ≡ n = omega (arith, counted (first ∷ batches) id h n filed) in
    by_header algorithm era (first ∷ batches) id n found st.header st (subst (λ (m : ℕ). IsFoundOf algorithm era (first ∷ batches) m (history_with id st) found) many is)

-- ---- what is stored has a spelling

-- a notary that holds a history's batches has some, so the bytes were read
pub spelled : (batches : List Batch) (id n : ℕ) (h s : History) (bytes : List ℕ) → NotaryOf batches id h n → HoldsHistory batches bytes → history_in (stored bytes) ≡ Some s → HasSpelling s
spelled [] id n h s bytes filed held holds = absurd (let many = counted [] id h n filed in omega (arith, many))
spelled (batch ∷ batches) id n h s bytes filed held holds = has_spelling s (subst (λ (o : Option History). IfSome o IsHistory) holds held)
