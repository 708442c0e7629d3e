use Rattle.history_model.specs.Answers.{write_key, write_name}
use Rattle.tt_table.proofs.tables.Tables.prepare.Goals as goal

pub prepare_known-requires : goal.prepare_known-requires
prepare_known-requires c = record { known = c.nothing-known.ensures.value (write_name c.args.write) (write_key c.args.write) }
