-- Entries by their payloads, and a book file.
use Rattle.std.proofs.Common.{◌≡◌, ℕ, ◌+◌, ◌<◌, ◌≤◌, min, nat_eq, get_or, take, length, List, [], ◌∷◌, ◌++◌, Option, None, Some, refl, sym, ap, subst, ◌∙◌, arith}
use Rattle.std.specs.Prelude.{IfSome}
use Rattle.std.specs.List.{cons_option, common_prefix_len}
use Rattle.std.proofs.lemmas.List.{append-nil, take_more, take_min}
use Rattle.std.proofs.lemmas.List.Elements.{filter_map-append}
use Rattle.disk_words.specs.Disk.{Reads}
use Rattle.notary_link.specs.Notary.{Call}
use Rattle.notary_book.specs.Books.{calls_in, book_head}
use Rattle.notary_book.specs.Calls.{call_of}
use Rattle.book_inspect.specs.declared.entries.Entries.{Entries}
use Rattle.book_inspect.specs.KnownEntries.{KnowsEntries}
use Rattle.book_inspect.specs.Book.{front_of_head}

-- what a payload adds, where it spells a call, and where it spells none
pub with_call : (calls : List Call) (payload : List ℕ) (call : Call) → call_of payload ≡ Some call → calls ++ calls_in (payload ∷ []) ≡ calls ++ call ∷ []
with_call calls payload call is = ap (λ (o : Option Call). calls ++ cons_option o []) is

pub with_none : (calls : List Call) (payload : List ℕ) → call_of payload ≡ None → calls ++ calls_in (payload ∷ []) ≡ calls
with_none calls payload is = ap (λ (o : Option Call). calls ++ cons_option o []) is ∙ append-nil calls

-- the payloads up to one of them
pub calls_more : (payloads : List (List ℕ)) (i : ℕ) (payload seen : List ℕ) → i < length payloads → payload ≡ get_or payloads i payload → seen ≡ payload → calls_in (take i payloads) ++ calls_in (seen ∷ []) ≡ calls_in (take (i + 1) payloads)
calls_more payloads i payload seen below at same =
    sym (filter_map-append call_of (take i payloads) (seen ∷ []))
    ∙ ap (λ (p : List ℕ). calls_in (take i payloads ++ p ∷ [])) (same ∙ at)
    ∙ ap calls_in (sym (take_more payloads i payload below))

-- ---- the front of a file

pub front_read : (reads : Option (List ℕ)) (into head seen : List ℕ) (n result : ℕ) → IfSome reads (λ bytes. Reads 0 bytes into n) → length into ≡ 64 → seen ≡ take n into → head ≡ book_head → result ≡ common_prefix_len nat_eq seen head → IfSome reads (λ bytes. result ≡ front_of_head bytes)
front_read None into head seen n result r long is_seen is_head is = tt
front_read (Some bytes) into head seen n result r long is_seen is_head is =
    let count : n ≡ min 64 (length bytes) = omega (arith, r.as_many, long) in
    is ∙ ap (λ (s : List ℕ). common_prefix_len nat_eq s head) (is_seen ∙ r.front ∙ ap (λ (k : ℕ). take k bytes) count ∙ take_min 64 bytes) ∙ ap (common_prefix_len nat_eq (take 64 bytes)) is_head

-- ---- one payload more

pub entries_step : (id : ℕ) (payloads : List (List ℕ)) (i : ℕ) (payload seen : List ℕ) (old new : Entries) → i < length payloads → payload ≡ get_or payloads i payload → seen ≡ payload → old.id ≡ id
    → ((calls : List Call) → KnowsEntries old.id old calls → KnowsEntries old.id new (calls ++ calls_in (seen ∷ []))) → KnowsEntries id old (calls_in (take i payloads)) → KnowsEntries id new (calls_in (take (i + 1) payloads))
entries_step id payloads i payload seen old new below at same own takes known =
    let calls : List Call = calls_in (take i payloads) in
    let before : KnowsEntries old.id old calls = subst (λ (n : ℕ). KnowsEntries n old calls) (sym own) known in
    subst (KnowsEntries id new) (calls_more payloads i payload seen below at same) (subst (λ (n : ℕ). KnowsEntries n new (calls ++ calls_in (seen ∷ []))) own (takes calls before))
