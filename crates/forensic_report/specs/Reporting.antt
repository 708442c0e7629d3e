-- What an analysis answers.
use Rattle.std.specs.Prelude.{◌≡◌, ◌≤◌, ℕ, ◌+◌, List, ◌++◌, Option, IfSome, Result, Ok, Err}
use Rattle.outside_words.specs.Told.{WhereTold}
use Rattle.disk_words.specs.Disk as disks
use Rattle.notary_link.specs.Notary as notaries
use Rattle.history_model.specs.Stored.{stored}
use Rattle.validator.specs.Verdicts.{sealed_on}
use Rattle.forensic_report.specs.declared.algorithm.Algorithm.{Algorithm}
use Rattle.forensic_report.specs.declared.report.Report.{Report}
use Rattle.forensic_report.specs.declared.fail.AnalyseFail.{AnalyseFail}
use Rattle.forensic_report.specs.declared.fail.AnalyseFail.TheVariants as fails
use Rattle.forensic_report.specs.Analysis.{Analysis, IsWithoutStore, is_altered, questions, Fits}
use Rattle.forensic_report.specs.Finding.{IsGivingUp, IsAnalysis}
use Rattle.forensic_report.specs.Texts.{head_line, report_text, kept_of}

-- one text begins another
pub record Begins (front text : List ℕ) : Type 0 where
  pub rest : List ℕ
  pub is : text ≡ front ++ rest

-- What is found is what the answers show of the stored bytes, where both are told.
abbrev pub IsFoundOn : Algorithm → Option ℕ → ℕ → disks.State → notaries.State → notaries.State → Result Analysis AnalyseFail → Type 0
IsFoundOn algorithm era id disk filed later found =
    IfSome disk.reads (λ bytes. WhereTold filed.lists later.lists (λ lists later_lists. IsAnalysis algorithm era id (lists.batches id) (stored bytes) found))

-- A report of what was found: its text by what the notary has, where it tells that. Whatever is told, it took few questions.
pub record IsReport (algorithm : Algorithm) (id now : ℕ) (disk : disks.State) (filed later : notaries.State) (a : Analysis) (report : Report) : Type 0 where
  pub altered : report.altered ≡ is_altered a
  pub begins : Begins (head_line algorithm id a) report.text
  pub text : WhereTold filed.lists later.lists (λ lists later_lists.
      report.text ≡ report_text algorithm id (kept_of lists id now) a)
  pub asked : later.asked ≤ filed.asked + questions (sealed_on id disk.reads) a
  pub fits : Fits a

-- What an analysis at these clock seconds answers: a report of what is found, or what refuses it.
abbrev pub Analyses : Algorithm → Option ℕ → ℕ → ℕ → disks.State → notaries.State → notaries.State → Result Report AnalyseFail → Type 0
Analyses algorithm era id now disk filed later (Ok report) = (a : Analysis) × IsFoundOn algorithm era id disk filed later (Ok a) × IsReport algorithm id now disk filed later a report
Analyses algorithm era id now disk filed later (Err fails.DiskFault) = Unit {0}
Analyses algorithm era id now disk filed later (Err fails.NotaryFault) = Unit {0}
Analyses algorithm era id now disk filed later (Err fails.NoMemory) = Unit {0}
Analyses algorithm era id now disk filed later (Err fail) = IsFoundOn algorithm era id disk filed later (Err fail)

-- Where no history is stored under the id, the report begins as that of nothing filed, or of an altered header. Only a failed
-- device and want of memory refuse it.
abbrev pub ReportsNone : Algorithm → ℕ → Result Report AnalyseFail → Type 0
ReportsNone algorithm id (Ok report) = (a : Analysis) × IsWithoutStore a × Begins (head_line algorithm id a) report.text
ReportsNone algorithm id (Err fail) = IsGivingUp fail
