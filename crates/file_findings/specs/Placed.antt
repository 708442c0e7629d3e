-- Findings of one place.
use Rattle.std.specs.Prelude.{List, map}
use Rattle.file_findings.specs.declared.finding.Finding.{Finding}
use Rattle.file_findings.specs.declared.finding.Device.{Device}
use Rattle.file_findings.specs.declared.finding.Found.{Found}

abbrev pub placed : Device → List Finding → List Found
placed device findings = map (λ finding. record { device = device; finding = finding }) findings
