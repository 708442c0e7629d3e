use Rattle.std.proofs.Common.{refl}
use Rattle.store_engine.proofs.Telling.{gathered_none}
use Rattle.store_engine.proofs.replay.Gathered.new.Goals as goal

pub returns : goal.returns
returns c = record { value = gathered_none c.args.header.now _ c.new.ensures.items refl c.in_ok-new.ensures.value }
