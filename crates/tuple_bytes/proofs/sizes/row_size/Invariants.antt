use Rattle.std.proofs.Common.{◌≤◌}
use Rattle.tuple_bytes.specs.Limits.{max_payload}
use Rattle.tuple_bytes.specs.Spelling.{spell_value}
use Rattle.tuple_bytes.proofs.Counting.{IsSized}
use Rattle.tuple_bytes.proofs.sizes.row_size.Given as goal

abbrev pub invariant-loop-value : goal.invariant-loop-value
invariant-loop-value l = IsSized 1 spell_value l.size l.row l.value-index × (l.size ≤ max_payload)
