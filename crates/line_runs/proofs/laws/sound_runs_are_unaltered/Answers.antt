use Rattle.line_runs.proofs.SoundRuns.{sound_runs}
use Rattle.line_runs.proofs.laws.sound_runs_are_unaltered.Goals as goal

pub returns : goal.returns
returns c = sound_runs c.sound_worlds_stay_sound.ensures
