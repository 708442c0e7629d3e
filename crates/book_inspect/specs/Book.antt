-- What is odd about a book file.
use Rattle.std.specs.Prelude.{ℕ, ◌+◌, ◌==◌, nat_eq, if◌then◌else◌, List, [], ◌∷◌, ◌++◌, take, drop, slice_index, Option, Some, None}
use Rattle.std.specs.List.{common_prefix_len}
use Rattle.byte_grammar.specs.Gated.{open_gate}
use Rattle.history_model.specs.Stored.{header_length}
use Rattle.txn_journal.specs.Create.{is_free}
use Rattle.txn_journal.specs.Held.{Held, held_by}
use Rattle.notary_link.specs.Notary.{Call}
use Rattle.notary_book.specs.Books.{is_book_head, book_head, book_shape, calls_in}
use Rattle.file_findings.specs.declared.finding.Finding.{Finding}
use Rattle.file_findings.specs.declared.finding.Finding.TheVariants.{NoBook, DamagedFront}
use Rattle.file_findings.specs.declared.tail.Ending.{Ending}
use Rattle.file_findings.specs.Tail.{tail_of}
use Rattle.book_inspect.specs.Entries.{findings_of_entries}
use Rattle.book_inspect.specs.Order.{damaged_list, other_id, book_ahead}

-- what stands in these bytes, where they have the head of a book
abbrev pub book_in : List ℕ → Option Held
book_in bytes = held_by is_book_head book_shape bytes

-- its payloads; bytes without a head have none
abbrev pub payloads_of : Option Held → List (List ℕ)
payloads_of None = []
payloads_of (Some h) = h.payloads

-- the entries
abbrev pub calls_of : List ℕ → List Call
calls_of bytes = calls_in (payloads_of (book_in bytes))

-- ---- the file

-- how many of the first bytes are those of a book's head
abbrev pub front_of_head : List ℕ → ℕ
front_of_head bytes = common_prefix_len nat_eq (take header_length bytes) book_head

-- of bytes that have no head of a book: none at all, what the making of a book leaves that was cut off, or others
abbrev pub without_head : List ℕ → Finding
without_head bytes = if is_free bytes then NoBook else DamagedFront (front_of_head bytes)

-- the gate that ends the records. A record has at most so many bytes after it
abbrev pub ending_in : ℕ → List ℕ → Ending
ending_in end bytes = record { segment = 0; gate = end; reach = end + 262149; is_open = slice_index bytes end == open_gate }

abbrev pub file_findings_by : List ℕ → Option Held → List Finding
file_findings_by bytes None = without_head bytes ∷ []
file_findings_by bytes (Some h) = tail_of book_shape (ending_in h.end bytes) (drop (h.end + 1) bytes)

abbrev pub file_findings : List ℕ → List Finding
file_findings bytes = file_findings_by bytes (book_in bytes)

-- ---- all

-- of the entries, under an id, at a second of the clock
abbrev pub entry_findings : ℕ → ℕ → List Call → List Finding
entry_findings id second calls = damaged_list calls ++ (other_id id calls ++ (findings_of_entries id calls ++ book_ahead id second calls))

-- what is odd about a book file
abbrev pub findings_of_book : ℕ → ℕ → List ℕ → List Finding
findings_of_book id second bytes = file_findings bytes ++ entry_findings id second (calls_of bytes)
