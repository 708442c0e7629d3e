use Rattle.disk_words.proofs.Frame.{goes_on_same}
use Rattle.store_engine.proofs.store.Store.frontier.Goals as goal

pub returns-then-moment-self-clause-frame : goal.returns-then-moment-self-clause-frame
returns-then-moment-self-clause-frame g c = goes_on_same _
