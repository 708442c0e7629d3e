-- What is known of bytes that were read.
use Rattle.std.specs.Prelude.{ℕ, List, [], ◌∷◌, IfSome}
use Rattle.outside_words.specs.Told.{WhereTold}
use Rattle.disk_words.specs.Disk as disks
use Rattle.notary_link.specs.Notary as notaries
use Rattle.notary_link.specs.Batches.{Batch}
use Rattle.history_model.specs.Stored.{stored}
use Rattle.history_model.specs.StoredHistory.{IsHistory}
use Rattle.audit_model.specs.Altered.{history_in}

-- What stands under a header, if there is one, is a history. Nothing is read where nothing was filed.
abbrev pub HoldsHistory : List Batch → List ℕ → Type 0
HoldsHistory [] bytes = Unit {0}
HoldsHistory (batch ∷ batches) bytes = IfSome (history_in (stored bytes)) IsHistory

-- so do the bytes of a disk, by what was filed under an id, where both are told
abbrev pub HoldsFiled : ℕ → disks.State → notaries.State → notaries.State → Type 0
HoldsFiled id disk filed later = IfSome disk.reads (λ bytes. WhereTold filed.lists later.lists (λ lists later_lists. HoldsHistory (lists.batches id) bytes))
