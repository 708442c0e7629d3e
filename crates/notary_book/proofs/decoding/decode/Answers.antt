use Rattle.std.proofs.Common.{arith}
use Rattle.notary_book.proofs.Entries.{entry_fits}
use Rattle.notary_book.proofs.decoding.decode.Goals as goal

pub returns-clause-fits : goal.returns-clause-fits
returns-clause-fits c = entry_fits c.args.bytes.now c.whole_entry.result (λ i. omega (arith, c.type_inv.bytes i)) c.whole_entry.ensures
