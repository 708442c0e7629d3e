use Rattle.std.proofs.Common.{refl, arith}
use Rattle.notary_book.proofs.Lists.{stands_noted}
use Rattle.notary_book.proofs.pages.Pages.add_mark.Goals as goal

pub returns : goal.returns
returns c = record { stands = λ calls stands. stands_noted calls c.args.self.now _ c.args.id c.args.mark (omega arith) c.in_ok-shelve_mark.ensures.ok refl refl stands }
