use Rattle.std.proofs.Common.{◌≡◌, ◌-◌}
use Rattle.byte_grammar.specs.Reading.{many}
use Rattle.notary_book.specs.Calls.{seal_at}
use Rattle.byte_grammar.proofs.Fronts.{with_front}
use Rattle.notary_book.proofs.decoding.each_seal_of.Given as goal

abbrev pub invariant-loop : goal.invariant-loop
invariant-loop l = with_front l.all (many seal_at (l.count - l.counter) l.rest) ≡ many seal_at l.count l.bytes
