use Rattle.std.proofs.Common.{◌≤◌}
use Rattle.tuple_bytes.specs.Limits.{max_payload}
use Rattle.tuple_bytes.specs.Spelling.{spell_op}
use Rattle.tuple_bytes.proofs.Counting.{IsSized}
use Rattle.tuple_bytes.proofs.sizes.txn_size.Given as goal

abbrev pub invariant-loop-op : goal.invariant-loop-op
invariant-loop-op l = IsSized 15 spell_op l.size l.ops l.op-index × (l.size ≤ max_payload)
