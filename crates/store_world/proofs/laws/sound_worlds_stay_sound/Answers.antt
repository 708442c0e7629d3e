use Rattle.store_world.proofs.SoundWorlds.{sound_worlds}
use Rattle.store_world.proofs.laws.sound_worlds_stay_sound.Goals as goal

pub returns : goal.returns
returns c = sound_worlds
