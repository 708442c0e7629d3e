use Rattle.line_runs.proofs.SoundRuns.{sound_start}
use Rattle.line_runs.proofs.laws.sound_bytes_begin_sound.Goals as goal

pub returns : goal.returns
returns c = sound_start c.stored_is_history.ensures
