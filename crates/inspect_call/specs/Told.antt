-- What `inspect` writes, and how it ends.
use Rattle.std.specs.Prelude.{ℕ, List, [], ◌∷◌, codes}
use Rattle.file_findings.specs.Lines.{report_text}
use Rattle.file_findings.specs.declared.finding.Found.{Found}
use Rattle.inspect_call.specs.declared.looking.Looked.{Looked}
use Rattle.inspect_call.specs.declared.inspected.Inspected.{Inspected}
use Rattle.inspect_call.specs.declared.inspected.Inspected.TheVariants.{Clean, Odd, DiskFault, NotaryFault, WriteFault, NoMemory}

-- the number that the process ends with
abbrev pub status_code : Inspected → ℕ
status_code Clean = 0
status_code Odd = 25
status_code DiskFault = 5
status_code NotaryFault = 6
status_code WriteFault = 8
status_code NoMemory = 9

abbrev pub fault_text : Inspected → List ℕ
fault_text Clean = []
fault_text Odd = []
fault_text DiskFault = codes "fault DiskFault\n"
fault_text NotaryFault = codes "fault NotaryFault\n"
fault_text WriteFault = codes "fault WriteFault\n"
fault_text NoMemory = codes "fault NoMemory\n"

-- odd where something was found
abbrev pub by_found : List Found → Inspected
by_found [] = Clean
by_found (found ∷ others) = Odd

abbrev pub text_of : Looked → List ℕ
text_of l = report_text l.items l.entries l.found.items
