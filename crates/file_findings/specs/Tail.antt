-- What stands after the gate that ends a run of records.
use Rattle.std.specs.Prelude.{ℕ, ◌+◌, ◌==◌, nat_lt, Bool, ◌&&◌, ◌||◌, List, [], ◌∷◌, length, if◌then◌else◌}
use Rattle.byte_grammar.specs.Gated.{Shape, open_gate, records}
use Rattle.file_findings.specs.declared.finding.Finding.{Finding}
use Rattle.file_findings.specs.declared.finding.Finding.TheVariants.{CutOff, Trailing}
use Rattle.file_findings.specs.declared.tail.Ending.{Ending}
use Rattle.file_findings.specs.Along.{listed}

-- how many bytes there are up to the last that is not 0
abbrev pub filled : List ℕ → ℕ
filled [] = 0
filled (b ∷ bytes) = if (b == 0) && (filled bytes == 0) then 0 else filled bytes + 1

-- how many whole records follow a gate, if it is read as an open one
abbrev pub hidden : Shape → ℕ → List ℕ → ℕ
hidden shape gate after = length (records shape gate 0 (open_gate ∷ after)).0

-- whether these bytes after the gate are more than a cut-off append or group leaves
abbrev pub is_odd : Ending → List ℕ → Bool
is_odd e after = e.is_open || nat_lt e.reach (e.gate + filled after)

-- the finding of the bytes after a gate, if any
abbrev pub tail_of : Shape → Ending → List ℕ → List Finding
tail_of shape e after =
    if is_odd e after then Trailing e.segment (e.gate + 1) (filled after) (hidden shape e.gate after) ∷ []
    else listed (nat_lt 0 (filled after)) (CutOff e.segment (e.gate + 1) (filled after) (hidden shape e.gate after))
