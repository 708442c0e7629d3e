use Rattle.disk_words.proofs.Frame.{goes_on_same}
use Rattle.notary_book.proofs.adding.started.Goals as goal

pub returns-in-Some-clause-frame : goal.returns-in-Some-clause-frame
returns-in-Some-clause-frame g c = goes_on_same _
