-- Refusals of a journal.
use Rattle.std.specs.Prelude.{Bool, true, false}
use Rattle.disk_words.specs.declared.DiskFail.{DiskFail}
use Rattle.disk_words.specs.declared.DiskFail.TheVariants.{Failed, NoMemory}
use Rattle.txn_journal.specs.declared.fail.JournalFail.{JournalFail}
use Rattle.txn_journal.specs.declared.fail.JournalFail.TheVariants as fails

-- what a disk's refusal is called above it
abbrev pub fail_of : DiskFail → JournalFail
fail_of Failed = fails.DiskFault
fail_of NoMemory = fails.NoMemory

-- a refusal behind which the disk may have failed
abbrev pub in_doubt : JournalFail → Bool
in_doubt fails.DiskFault = true
in_doubt fails.NoMemory = true
in_doubt fails.AlreadyThere = false
in_doubt fails.NotAStore = false
in_doubt fails.StoreFull = false
in_doubt fails.Closed = false
