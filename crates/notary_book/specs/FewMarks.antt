-- Whatever the bytes of a book say, there are few marks in all.
use Rattle.std.proofs.Common.{◌≡◌, ◌≤◌, lit≤, ℕ, Bool, true, false, List, [], ◌∷◌, ◌++◌, Option, None, Some, IfSome, refl, sym, subst, append_assoc, if◌then◌else◌}
use Rattle.std.proofs.lemmas.Bool.{and_parts}
use Rattle.std.proofs.lemmas.List.{append-nil}
use Rattle.notary_link.specs.Notary.{Call, file, note, Lists, marks_in_all}
use Rattle.notary_link.proofs.FewMarks.{none_within, file_within, note_within}
use Rattle.txn_journal.specs.Held.{Held, held_by}
use Rattle.txn_journal.specs.Create.{is_free}
use Rattle.notary_book.specs.Books.{lists_of, max_marks, is_next, all_next, is_book_head, book_shape, calls_in, lists_held, book_of, lists_told}

abbrev pub HasFew : Lists → Type 0
HasFew lists = marks_in_all lists ≤ 4294967295

none_few : HasFew (lists_of [])
none_few = none_within 4294967295

one_few : (calls : List Call) (call : Call) → is_next calls call ≡ true → HasFew (lists_of calls) → HasFew (lists_of (calls ++ call ∷ []))
one_few calls (file id index batch) next few = file_within 4294967295 calls id index batch few
one_few calls (note id mark) next few = note_within 4294967295 calls max_marks id mark (lit≤ tt) next

all_few : (before calls : List Call) → all_next before calls ≡ true → HasFew (lists_of before) → HasFew (lists_of (before ++ calls))
all_few before [] next few = subst (λ (l : List Call). HasFew (lists_of l)) (sym (append-nil before)) few
all_few before (call ∷ calls) next few =
    let both = and_parts (is_next before call) (all_next (before ++ call ∷ []) calls) next in
    subst (λ (l : List Call). HasFew (lists_of l)) (append_assoc before (call ∷ []) calls) (all_few (before ++ call ∷ []) calls both.1 (one_few before call both.0 few))

few_next : (calls : List Call) (b : Bool) → all_next [] calls ≡ b → IfSome (if b then Some (lists_of calls) else None) HasFew
few_next calls true next = all_few [] calls next none_few
few_next calls false next = tt

few_held : (held : Option Held) → IfSome (lists_held held) HasFew
few_held None = tt
few_held (Some held) = few_next (calls_in held.payloads) (all_next [] (calls_in held.payloads)) refl

few_in : (bytes : List ℕ) (free : Bool) → IfSome (if free then Some (lists_of []) else book_of bytes) HasFew
few_in bytes true = none_few
few_in bytes false = few_held (held_by is_book_head book_shape bytes)

pub few_told : (reads : Option (List ℕ)) → IfSome (lists_told reads) HasFew
few_told None = tt
few_told (Some bytes) = few_in bytes (is_free bytes)
