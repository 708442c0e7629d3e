use Rattle.std.proofs.Common.{◌≡◌, ◌-◌}
use Rattle.byte_grammar.specs.Reading.{rest_of, many}
use Rattle.notary_book.specs.Calls.{seal_at}
use Rattle.notary_book.proofs.skipping.skip_each_seal.Given as goal

abbrev pub invariant-loop : goal.invariant-loop
invariant-loop l = rest_of (many seal_at (l.count - l.counter) l.rest) ≡ rest_of (many seal_at l.count l.bytes)
