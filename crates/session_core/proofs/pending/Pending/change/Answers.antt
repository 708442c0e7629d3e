use Rattle.std.proofs.Common.{List, sym, subst}
use Rattle.tuple_bytes.specs.declared.op.Op.{Op}
use Rattle.tuple_bytes.specs.Writing.{IsCountedOp}
use Rattle.history_model.specs.Answers.{write_key, write_name}
use Rattle.tt_table.specs.Known.{IsKnown}
use Rattle.statement_core.proofs.Preparing.{op_is}
use Rattle.session_core.proofs.pending.Pending.change.Goals as goal

pub prepare_known-requires : goal.prepare_known-requires
prepare_known-requires c = record { known = subst (λ (l : List Op). IsKnown (write_name c.args.change) (write_key c.args.change) c.args.known.now l) (sym c.self.view_is) c.requires.known }

pub add-requires : goal.add-requires
add-requires c = record { counted = subst (λ (o : Op). IsCountedOp o) (sym (op_is _ c.args.change c.in-Ok.op (sym c.in-Ok.ensures.value))) c.requires.counted }
