-- What the bytes of a book say: the calls that were done, one after another, and the lists that they leave.
use Rattle.std.specs.Prelude.{◌==◌, ◌&&◌, ◌+◌, ℕ, nat_eq, nat_le, nat_lt, Bool, true, List, [], ◌∷◌, ◌++◌, length, codes, replicate, Option, None, Some, is_some, Ok, if◌then◌else◌}
use Rattle.std.specs.Cmp.Lexicographic.{pointwise}
use Rattle.std.specs.List.{flat_map, filter_map}
use Rattle.notary_link.specs.Calls.{batches_by, marks_by}
use Rattle.notary_link.specs.Notary.{Call, file, note, Lists, seals_in_all, marks_in_all}
use Rattle.byte_grammar.specs.Gated.{Shape, open_gate}
use Rattle.txn_journal.specs.Create.{is_free}
use Rattle.txn_journal.specs.Held.{Held, held_by}
use Rattle.notary_book.specs.Calls.{call_of}
pub use Rattle.notary_book.specs.Limits.{max_seals, max_marks, book_limits}

-- ---- calls

-- what stands after these calls, the oldest first
abbrev pub lists_of : List Call → Lists
lists_of calls = record {
  batches = λ id. flat_map (λ call. batches_by id (call, Ok tt)) calls;
  marks = λ id. flat_map (λ call. marks_by id (call, Ok tt)) calls;
}

-- behind these calls, this one is in turn and within the limits
abbrev pub is_next : List Call → Call → Bool
is_next calls (file id index batch) = (index == length ((lists_of calls).batches id)) && nat_le (seals_in_all (lists_of calls) + length batch.seals) max_seals
is_next calls (note id mark) = nat_lt (marks_in_all (lists_of calls)) max_marks

-- behind some calls, each of these is, one after another
abbrev pub all_next : List Call → List Call → Bool
all_next before [] = true
all_next before (call ∷ calls) = is_next before call && all_next (before ++ call ∷ []) calls

-- ---- bytes

-- an open gate and the letters of the format
abbrev pub head_text : List ℕ
head_text = open_gate ∷ codes "DRAGBOK1"

abbrev pub book_head : List ℕ
book_head = head_text ++ replicate 55 0

abbrev pub is_book_head : List ℕ → Bool
is_book_head bytes = pointwise nat_eq bytes book_head

-- a payload of a book spells a call
abbrev pub book_shape : Shape
book_shape = record { accepts = λ payload. is_some (call_of payload); max_payload = 262144; max_file = 2147483648 }

abbrev pub calls_in : List (List ℕ) → List Call
calls_in payloads = filter_map call_of payloads

abbrev pub lists_held : Option Held → Option Lists
lists_held None = None
lists_held (Some held) = if all_next [] (calls_in held.payloads) then Some (lists_of (calls_in held.payloads)) else None

-- the lists that the bytes of a book say
abbrev pub book_of : List ℕ → Option Lists
book_of bytes = lists_held (held_by is_book_head book_shape bytes)

-- what the bytes of a device say; one on which a book may be made stands for an empty book
abbrev pub told_by : List ℕ → Option Lists
told_by bytes = if is_free bytes then Some (lists_of []) else book_of bytes

abbrev pub lists_told : Option (List ℕ) → Option Lists
lists_told None = None
lists_told (Some bytes) = told_by bytes
