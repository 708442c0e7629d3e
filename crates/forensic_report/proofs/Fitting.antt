-- That what was found fits.
use Rattle.forensic_report.specs.declared.found.Analysis.{Analysis as AnalysisValue}
use Rattle.forensic_report.specs.declared.found.Analysis.TheVariants as analyses
use Rattle.forensic_report.specs.Analysis.{Fits}
use Rattle.forensic_report.specs.Values.{analysis_of, FitsAnalysis}

pub fits : (a : AnalysisValue) → FitsAnalysis a → Fits (analysis_of a)
fits (analyses.Unsealed era) is = tt
fits (analyses.HeaderAltered tiles) is = tt
fits (analyses.Found examined) is = record { short = is.short; within = is.within; few = is.few; each = is.each }
