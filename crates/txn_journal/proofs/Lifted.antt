-- What a disk answers, as it is handed on.
use Rattle.std.proofs.Common.{Result, Ok, Err, OnOk}
use Rattle.disk_words.specs.declared.DiskFail.{DiskFail}
use Rattle.txn_journal.specs.declared.fail.JournalFail.{JournalFail}
use Rattle.txn_journal.specs.Fail.{fail_of}

abbrev pub lifted : Result (Unit {0}) DiskFail → Result (Unit {0}) JournalFail
lifted (Ok u) = Ok u
lifted (Err f) = Err (fail_of f)

pub on_lifted : {P Q : Type 0} (r : Result (Unit {0}) DiskFail) → (P → Q) → OnOk r P → OnOk (lifted r) Q
on_lifted (Ok u) f p = f p
on_lifted (Err f) g p = tt
