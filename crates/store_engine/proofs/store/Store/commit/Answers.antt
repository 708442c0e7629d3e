use Rattle.disk_words.proofs.Frame.{goes_on_same}
use Rattle.store_engine.proofs.Adding.{unchanged_same}
use Rattle.store_engine.proofs.store.Store.commit.Goals as goal

pub returns-in_default-clause-frame : goal.returns-in_default-clause-frame
returns-in_default-clause-frame g c = goes_on_same _

pub returns-then-granule-from-clause-frame : goal.returns-then-granule-from-clause-frame
returns-then-granule-from-clause-frame g c = goes_on_same _

pub returns-then-as_slice-from-clause-frame : goal.returns-then-as_slice-from-clause-frame
returns-then-as_slice-from-clause-frame g c = goes_on_same _

pub returns-in_default-clause-same : goal.returns-in_default-clause-same
returns-in_default-clause-same g c = λ _. unchanged_same _

pub returns-then-granule-from-clause-same : goal.returns-then-granule-from-clause-same
returns-then-granule-from-clause-same g c = λ _. unchanged_same _

pub returns-then-as_slice-from-clause-same : goal.returns-then-as_slice-from-clause-same
returns-then-as_slice-from-clause-same g c = λ _. unchanged_same _
