-- Devices that were not touched.
use Rattle.std.proofs.Common.{List, [], ◌∷◌, refl}
use Rattle.std.specs.List.{AllZip}
use Rattle.disk_words.specs.Disk.{State}
use Rattle.disk_words.proofs.Frame.{goes_on_same}
use Rattle.inspect_call.specs.Looked.{Same}

pub same_self : (s : State) → Same s s
same_self s = (record { reads = refl; trace = refl; images = λ c. ((λ i. i), λ i. i); since = λ t c. ((λ i. i), λ i. i) }, goes_on_same s)

pub each_same : {N : Type 0} (f : N → State) (l : List N) → AllZip (λ (old new : N). Same (f old) (f new)) l l
each_same f [] = tt
each_same f (n ∷ l) = (same_self (f n), each_same f l)
