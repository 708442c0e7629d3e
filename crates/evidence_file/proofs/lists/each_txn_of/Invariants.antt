use Rattle.std.proofs.Common.{◌≡◌, ◌-◌}
use Rattle.byte_grammar.specs.Reading.{many}
use Rattle.evidence_file.specs.Reading.{txn_at}
use Rattle.byte_grammar.proofs.Fronts.{with_front}
use Rattle.evidence_file.proofs.lists.each_txn_of.Given as goal

abbrev pub invariant-loop : goal.invariant-loop
invariant-loop l = with_front l.all (many txn_at (l.count - l.counter) l.rest) ≡ many txn_at l.count l.bytes
