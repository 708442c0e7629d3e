-- A call as code keeps it.
use Rattle.notary_link.specs.Notary.{Call, file, note, batch_of}
use Rattle.notary_book.specs.declared.entry.Entry.{Entry}
use Rattle.notary_book.specs.declared.entry.Entry.TheVariants.{File, Note}

abbrev pub call_in : Entry → Call
call_in (File id index moment seals) = file id index (batch_of moment seals)
call_in (Note id mark) = note id mark
