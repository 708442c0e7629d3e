use Rattle.std.proofs.Common.{◌≡◌, ◌≤◌, drop, length}
use Rattle.std.specs.List.{flat_map}
use Rattle.tuple_bytes.specs.Limits.{max_file}
use Rattle.digest_model.specs.Digests.{behind_length}
use Rattle.evidence_file.specs.Evidence.{spell_list}
use Rattle.evidence_file.specs.Writing.{counted_on}
use Rattle.evidence_file.proofs.sizes.with_list.Given as goal

abbrev pub invariant-loop-txn : goal.invariant-loop-txn
invariant-loop-txn l = (counted_on l.size (length (flat_map behind_length (drop l.txn-index l.txns))) ≡ counted_on l.before (length (spell_list l.txns))) × (l.size ≤ max_file)
