use Rattle.std.proofs.Common.{◌≤◌}
use Rattle.tuple_bytes.specs.Limits.{max_payload}
use Rattle.tuple_bytes.specs.Spelling.{spell_column}
use Rattle.tuple_bytes.proofs.Counting.{IsSized}
use Rattle.tuple_bytes.proofs.sizes.columns_size.Given as goal

abbrev pub invariant-loop-column : goal.invariant-loop-column
invariant-loop-column l = IsSized 1 spell_column l.size l.columns l.column-index × (l.size ≤ max_payload)
