use Rattle.store_engine.specs.Contents.{lent_item}
use Rattle.store_engine.proofs.Telling.{read_more}
use Rattle.store_engine.proofs.replay.add_next.Goals as goal

pub returns : goal.returns
returns c = record {
  value = λ follows header payloads read. read_more header payloads c.args.payload.now (lent_item c.args.item.now) c.args.contents.now c.add.new.self c.requires.spelled (c.in_ok-add.ensures.tells header) c.in_ok-add.ensures.in_time read;
}
