use Rattle.line_runs.proofs.Serial.{runs_serial}
use Rattle.line_runs.proofs.laws.runs_are_serial.Goals as goal

pub returns : goal.returns
returns c = runs_serial
