use Rattle.store_engine.proofs.Appended.{cut_append_leaves, append_adds, append_within, cut_append_front, append_puts}
use Rattle.store_engine.proofs.laws.appends_leave_old_or_new.Goals as goal

pub returns : goal.returns
returns c = record { cut = cut_append_leaves; whole = append_adds; within = append_within; front = cut_append_front; puts = append_puts }
