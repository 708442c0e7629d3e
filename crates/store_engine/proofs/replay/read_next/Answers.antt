use Rattle.std.proofs.Common.{sym, ◌∙◌}
use Rattle.store_engine.proofs.Telling.{read_no_more}
use Rattle.store_engine.proofs.replay.read_next.Goals as goal

pub returns-in-None : goal.returns-in-None
returns-in-None c =
    record { value = λ follows header payloads read. read_no_more header payloads c.args.payload.now c.args.contents.now (sym c.in_ok-txn.ensures.value ∙ c.in-None.is) read }
