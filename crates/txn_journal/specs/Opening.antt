-- A file is opened for appending.
use Rattle.std.specs.Prelude.{◌≡◌, ℕ, Bool, List, None}
use Rattle.txn_journal.specs.declared.fail.JournalFail.{JournalFail}
use Rattle.txn_journal.specs.declared.fail.JournalFail.TheVariants as fails
use Rattle.txn_journal.specs.Reading.{head_of}
use Rattle.txn_journal.specs.Held.{Held, Standing}

-- what an opened file holds
abbrev pub held_of : List ℕ → List (List ℕ) → Standing → Held
held_of head payloads at = record { head = head; payloads = payloads; end = at.end }

-- the refusals of opening, whatever the bytes are
abbrev pub IsOfOpening : JournalFail → Type 0
IsOfOpening fails.NotAStore = Unit {0}
IsOfOpening fails.DiskFault = Unit {0}
IsOfOpening fails.NoMemory = Unit {0}
IsOfOpening fails.AlreadyThere = ⊥
IsOfOpening fails.StoreFull = ⊥
IsOfOpening fails.Closed = ⊥

-- those that come of the disk or of memory
abbrev pub IsOfDisk : JournalFail → Type 0
IsOfDisk fails.DiskFault = Unit {0}
IsOfDisk fails.NoMemory = Unit {0}
IsOfDisk fails.NotAStore = ⊥
IsOfDisk fails.AlreadyThere = ⊥
IsOfDisk fails.StoreFull = ⊥
IsOfDisk fails.Closed = ⊥

-- bytes are refused as no such file where they have no head of this kind
abbrev pub IsNoFile : (List ℕ → Bool) → List ℕ → JournalFail → Type 0
IsNoFile is_head bytes fails.NotAStore = head_of is_head bytes ≡ None
IsNoFile is_head bytes fails.DiskFault = Unit {0}
IsNoFile is_head bytes fails.NoMemory = Unit {0}
IsNoFile is_head bytes fails.AlreadyThere = ⊥
IsNoFile is_head bytes fails.StoreFull = ⊥
IsNoFile is_head bytes fails.Closed = ⊥
