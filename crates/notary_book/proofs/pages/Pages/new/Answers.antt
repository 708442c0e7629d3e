use Rattle.std.proofs.Common.{refl}
use Rattle.notary_book.proofs.Lists.{none_read}
use Rattle.notary_book.proofs.pages.Pages.new.Goals as goal

pub returns : goal.returns
returns c = record { empty = none_read _ c.new.ensures.empty refl refl }
