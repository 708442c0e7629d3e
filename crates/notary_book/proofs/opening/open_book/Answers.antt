use Rattle.disk_words.proofs.Frame.{goes_on_then}
use Rattle.notary_book.proofs.opening.open_book.Goals as goal

pub returns-clause-frame : goal.returns-clause-frame
returns-clause-frame g c = goes_on_then _ _ _ c.in_ok-sync.ensures.frame c.read_book.ensures.frame
