-- A book as a notary.
use Rattle.std.specs.Prelude.{ℕ, ◌+◌, true, false, None}
use Rattle.disk_words.specs.Disk.{State as DiskState}
use Rattle.notary_link.specs.Notary.{State}
use Rattle.notary_book.specs.Books.{book_limits, lists_told}

-- over a disk in this state, with so many questions asked and so many readings that found no book
abbrev pub book_state : DiskState → ℕ → ℕ → State
book_state s asked unreadable = record {
  lists = lists_told s.reads;
  limits = book_limits;
  trace = None;
  plan = None;
  sure = false;
  shows = true;
  asked = asked;
  faults = s.faults + unreadable;
}
