use Rattle.std.proofs.Common.{◌≡◌, ◌≤◌, drop, length}
use Rattle.std.specs.List.{flat_map}
use Rattle.tuple_bytes.specs.Limits.{max_file}
use Rattle.evidence_file.specs.Evidence.{spell_entry, spell_entries}
use Rattle.evidence_file.specs.Writing.{counted_on}
use Rattle.evidence_file.proofs.sizes.with_entries.Given as goal

abbrev pub invariant-loop-entry : goal.invariant-loop-entry
invariant-loop-entry l = (counted_on l.size (length (flat_map spell_entry (drop l.entry-index l.entries))) ≡ counted_on l.before (length (spell_entries l.entries))) × (l.size ≤ max_file)
