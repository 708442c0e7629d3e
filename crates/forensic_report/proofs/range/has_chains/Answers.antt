use Rattle.std.proofs.Common.{sym}
use Rattle.forensic_report.proofs.Layouts.{mono_has}
use Rattle.forensic_report.proofs.range.has_chains.Goals as goal

pub returns-in-Mono : goal.returns-in-Mono
returns-in-Mono c = record { value = λ s is. rw c.in-Mono.is (sym (mono_has c.args.asked.era s c.args.asked.tiles)) }
