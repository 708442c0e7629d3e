-- What is known of a book file that was read.
use Rattle.std.specs.Prelude.{◌≡◌, ℕ, List, length, is_some}
use Rattle.notary_book.specs.Books.{calls_in}
use Rattle.book_inspect.specs.declared.book.BookRead.{BookRead}
use Rattle.book_inspect.specs.declared.book.BookSeen.{BookSeen}
use Rattle.book_inspect.specs.Entries.{batches_of}
use Rattle.book_inspect.specs.Book.{book_in, payloads_of, calls_of, file_findings, findings_of_book}

-- it was read
pub record IsRead (bytes : List ℕ) (r : BookRead) : Type 0 where
  pub is_book : r.is_book ≡ is_some (book_in bytes)
  pub payloads : r.payloads ≡ payloads_of (book_in bytes)
  pub found : r.found.items ≡ file_findings bytes

-- it was looked at, under an id, at a second of the clock
pub record IsSeen (id second : ℕ) (bytes : List ℕ) (s : BookSeen) : Type 0 where
  pub is_book : s.is_book ≡ is_some (book_in bytes)
  pub payloads : s.payloads ≡ payloads_of (book_in bytes)
  pub findings : s.findings.items ≡ findings_of_book id second bytes
  pub entries : s.entries ≡ length (calls_of bytes)
  pub batches : s.batches ≡ length (batches_of id (calls_of bytes))
