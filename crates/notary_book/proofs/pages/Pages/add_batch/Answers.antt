use Rattle.std.proofs.Common.{refl, arith}
use Rattle.notary_book.proofs.Lists.{stands_filed}
use Rattle.notary_book.proofs.pages.Pages.add_batch.Goals as goal

pub returns : goal.returns
returns c = record { stands = λ calls index stands. stands_filed calls c.args.self.now _ c.args.id index c.args.moment c.args.seals.now (omega arith) c.in_ok-shelve_batch.ensures.ok refl refl stands }
