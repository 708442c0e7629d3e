-- What a report shows, by the way in which it was found.
use Rattle.std.proofs.Common.{◌≡◌, ◌⊎◌, ℕ, true, List, Option, Some, Result, Ok, refl, sym, subst, ◌∙◌}
use Rattle.history_model.specs.History.{History}
use Rattle.history_model.specs.Stored.{stored}
use Rattle.digest_model.specs.Laws.{HasSpelling}
use Rattle.notary_link.specs.Batches.{Batch}
use Rattle.audit_model.specs.Notary.{NotaryOf}
use Rattle.audit_model.specs.Altered.{history_in, HasOtherHeader}
use Rattle.audit_model.specs.Laws.{IsAudit}
use Rattle.audit_model.proofs.Exact.{refused_other}
use Rattle.forensic_report.specs.declared.algorithm.Algorithm.{Algorithm}
use Rattle.forensic_report.specs.declared.algorithm.Algorithm.TheVariants.{Mono, Tiled, TiledExactly, A3d}
use Rattle.forensic_report.specs.declared.fail.AnalyseFail.{AnalyseFail}
use Rattle.forensic_report.specs.Analysis.{Analysis, HeaderAltered}
use Rattle.forensic_report.specs.Finding.{has_chains, IsFoundBy}
use Rattle.forensic_report.specs.Shows.{Shows}
use Rattle.forensic_report.specs.Held.{HoldsHistory}
use Rattle.forensic_report.specs.Laws.{ReportsShow}
use Rattle.forensic_report.proofs.Ways.{Way, unfiled, refused, eraless, chainless, past, asked, WayIn, other, under, way_of, spelled}
use Rattle.forensic_report.proofs.Headers.{IsPassed, decided, header_shows, other_of}
use Rattle.forensic_report.proofs.Region.{mono_shows}
use Rattle.forensic_report.proofs.Tiled.{tiled_shows, exactly_shows}
use Rattle.forensic_report.proofs.Tree.{tree_shows}

by_algorithm : (algorithm : Algorithm) (era : Option ℕ) (batches : List Batch) (id n : ℕ) (h s : History) (a : Analysis) → IsAudit batches id h s n ⊎ IsPassed h s n
    → has_chains algorithm era s n ≡ true → IsFoundBy algorithm era batches n s (Ok a)
    → Shows algorithm batches h (Some s) n a
by_algorithm Mono era batches id n h s a header has is = mono_shows batches id h s n a header is
by_algorithm Tiled era batches id n h s a header has is = tiled_shows era batches id h s n a has header is
by_algorithm (TiledExactly kappa) era batches id n h s a header has is = exactly_shows era batches id h s n a has header is kappa
by_algorithm A3d era batches id n h s a header has is = tree_shows era batches id h s n a has header is

abbrev reported : Analysis → Result Analysis AnalyseFail
reported a = Ok a

same_analysis : (a b : Analysis) → reported a ≡ reported b → a ≡ b
same_analysis a b e = cc

module _ (algorithm : Algorithm) (era : Option ℕ) (batches : List Batch) (id n : ℕ) (h : History) (a : Analysis) (filed : NotaryOf batches id h n) (ours : HasSpelling h) where
  -- the header is told as altered
  header_told : (file : Option History) → HasOtherHeader h file n → reported a ≡ reported (HeaderAltered n) → Shows algorithm batches h file n a
  header_told file other_header is = subst (λ (x : Analysis). Shows algorithm batches h file n x) (sym (same_analysis a (HeaderAltered n) is)) (header_shows algorithm batches h file n n other_header)

  by_way : (s : History) → HasSpelling s → Way algorithm era batches n s (Ok a) → Shows algorithm batches h (Some s) n a
  by_way s theirs (unfiled absent is) = absurd cc
  by_way s theirs (refused differs is) = header_told (Some s) (refused_other batches id h s n filed differs) is
  by_way s theirs (eraless same lacks is) = absurd cc
  by_way s theirs (chainless same lacks is) = absurd cc
  by_way s theirs (past same test is) = absurd cc
  by_way s theirs (asked same has small is) = by_algorithm algorithm era batches id n h s a (decided batches id h s n filed ours theirs same) has is

  by_way_in : (bytes : List ℕ) → HoldsHistory batches bytes → (file : Option History) → history_in (stored bytes) ≡ file → WayIn algorithm era batches id n file (Ok a) → Shows algorithm batches h file n a
  by_way_in bytes held file holds (other none is) = header_told file (other_of h id n file filed.header ours (λ s stands. spelled batches id n h s bytes filed held (holds ∙ stands)) none) is
  by_way_in bytes held file holds (under s stands way) =
      subst (λ (o : Option History). Shows algorithm batches h o n a) (sym stands) (by_way s (spelled batches id n h s bytes filed held (holds ∙ stands)) way)

pub shows : ReportsShow
shows algorithm era batches id n h bytes a filed ours held is =
    by_way_in algorithm era batches id n h a filed ours bytes held (history_in (stored bytes)) refl (way_of algorithm era batches id n h (stored bytes) (Ok a) filed is)
