use Rattle.store_engine.proofs.Taken.{taken_none}
use Rattle.store_engine.proofs.chaining.no_chained.Goals as goal

pub returns : goal.returns
returns c = record { value = taken_none c.args.header.now c.in_ok-chains.chains c.in_ok-chains.ensures.value }
