use Rattle.disk_words.proofs.Frame.{goes_on_same}
use Rattle.store_engine.proofs.store.Store.store_txn.Goals as goal

pub returns-in-Err-clause-frame : goal.returns-in-Err-clause-frame
returns-in-Err-clause-frame g c = goes_on_same _
