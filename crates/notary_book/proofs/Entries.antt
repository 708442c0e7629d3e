-- What is read into memory fits.
use Rattle.std.proofs.Common.{ℕ, List, Option, None, Some, Result, Ok, Err, IfOk, IfSome}
use Rattle.byte_grammar.specs.Reading.{IsBytes, Gives}
use Rattle.notary_book.specs.declared.entry.Entry.{Entry}
use Rattle.notary_book.specs.Calls.{call_of}
use Rattle.notary_book.specs.Entries.{call_in}
use Rattle.notary_book.specs.Spelling.{FitsCall}
use Rattle.notary_book.proofs.CallLaws.{whole_takes}

pub entry_fits : {E : Type 0} (bytes : List ℕ) (r : Result (Option Entry) E) → IsBytes bytes → IfOk r (λ found. Gives call_in found (call_of bytes)) → IfOk r (λ found. IfSome found (λ entry. FitsCall (call_in entry)))
entry_fits bytes (Ok (Some entry)) fits is = (whole_takes bytes (call_in entry) fits is).0
entry_fits bytes (Ok None) fits is = tt
entry_fits bytes (Err e) fits is = tt
