use Rattle.std.proofs.Common.{arith}
use Rattle.notary_book.proofs.CallLaws.{whole_takes}
use Rattle.notary_book.proofs.replay.read_next.Goals as goal

pub returns-in_err-entry-clause-spelled : goal.returns-in_err-entry-clause-spelled
returns-in_err-entry-clause-spelled c = λ call is. whole_takes c.args.payload.now call (λ i. omega (arith, c.type_inv.payload i)) is

pub returns-in-Some-clause-spelled : goal.returns-in-Some-clause-spelled
returns-in-Some-clause-spelled c = λ call is. whole_takes c.args.payload.now call (λ i. omega (arith, c.type_inv.payload i)) is
