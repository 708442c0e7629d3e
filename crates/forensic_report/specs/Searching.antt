-- What a search by one algorithm answers.
use Rattle.std.specs.Prelude.{◌≤◌, ℕ, ◌+◌, Option, Result, IfOk, IfErr}
use Rattle.outside_words.specs.Faults.{HasCause}
use Rattle.outside_words.specs.Told.{WhereTold}
use Rattle.notary_link.specs.Notary.{State, Unchanged, GoesOn, IsCounted}
use Rattle.history_model.specs.History.{History}
use Rattle.forensic_report.specs.declared.algorithm.Algorithm.{Algorithm}
use Rattle.forensic_report.specs.declared.fail.AnalyseFail.{AnalyseFail}
use Rattle.forensic_report.specs.declared.fail.AnalyseFail.TheVariants.{NotaryFault}
use Rattle.forensic_report.specs.declared.found.Findings.{Findings as FindingsValue}
use Rattle.forensic_report.specs.Fails.{notary_in_doubt}
use Rattle.forensic_report.specs.Analysis.{asked_by, FitsFindings}
use Rattle.forensic_report.specs.Finding.{extent_of, IsFoundBy}
use Rattle.forensic_report.specs.Values.{findings_of, found_with, OrGivesUp, IsOfFinding}

-- By an algorithm, of the tiles of an era or of all n sealed ones of a history, with a notary that holds batches under an id: what
-- the answers show is found, it fits whatever is told, and the notary is left as it was.
pub record Searches (algorithm : Algorithm) (era : Option ℕ) (id n : ℕ) (s : History) (old new : State) (result : Result FindingsValue AnalyseFail) : Type 0 where
  pub value : WhereTold old.lists new.lists (λ before after.
      OrGivesUp (IsFoundBy algorithm era (before.batches id) n s) (found_with (extent_of era s n) result))
  pub fits : IfOk result (λ found. FitsFindings (extent_of era s n) (findings_of found))
  pub none_other : IfErr result (IsOfFinding algorithm era)
  pub same : Unchanged old new
  pub asked : IfOk result (λ found. new.asked ≤ old.asked + asked_by (extent_of era s n) (findings_of found))
  pub frame : GoesOn old new
  pub cause : HasCause NotaryFault old.faults new.faults result
  pub counted : IsCounted notary_in_doubt old new result
