-- What the bytes of a device say.
use Rattle.std.proofs.Common.{◌≡◌, ◌≢◌, ◌⊎◌, inl, inr, ◌<◌, ◌≤◌, ◌==◌, ltb, leb, cond, ℕ, Bool, true, false, List, [], length, take, Option, None, Some, refl, sym, ap, ◌∙◌, arith}
use Rattle.std.specs.Prelude.{◌&&◌, slice_index}
use Rattle.std.proofs.lemmas.Bool.{and_from, and_right, or_from, ltb-true, lt-ltb, ltb-false, lt-leb, not_from_true}
use Rattle.std.proofs.lemmas.Bool.Decides.{nat_tests, Decides-eqb}
use Rattle.std.proofs.lemmas.List.{get_or-take, length-take}
use Rattle.std.proofs.lemmas.Option.{same_Some}
use Rattle.std.proofs.lemmas.Slice.Eq.{slice_eq-Decides}
use Rattle.byte_grammar.specs.Gated.{open_gate}
use Rattle.notary_link.specs.Notary.{Call}
use Rattle.txn_journal.specs.Create.{is_free, IsFree, IsHalfMade}
use Rattle.txn_journal.proofs.Free.{free_is, is_free_if}
use Rattle.txn_journal.specs.Held.{Held, Standing, held_under, held_by}
use Rattle.txn_journal.specs.Reading.{head_of, left}
use Rattle.notary_book.specs.Adding.{Tells}
use Rattle.notary_book.specs.Books.{lists_of, all_next, book_head, is_book_head, book_shape, calls_in, lists_held, book_of, told_by}
use Rattle.notary_book.specs.Kept.{IsFileOf}

-- ---- the head

same_head : (bytes : List ℕ) → is_book_head bytes ≡ true → bytes ≡ book_head
same_head bytes h = (slice_eq-Decides Decides-eqb bytes book_head (is_book_head bytes) refl).0 h

pub is_head : (bytes : List ℕ) → bytes ≡ book_head → is_book_head bytes ≡ true
is_head bytes e = (slice_eq-Decides Decides-eqb bytes book_head (is_book_head bytes) refl).1 e

found_parts : (bytes head : List ℕ) (long good : Bool) → cond (long && good) (Some (take 64 bytes)) None ≡ Some head → (long ≡ true) × (good ≡ true)
found_parts bytes head true true e = (refl, refl)
found_parts bytes head true false e = absurd cc
found_parts bytes head false good e = absurd cc

-- bytes with a head are not free
not_free : (bytes head : List ℕ) → head_of is_book_head bytes ≡ Some head → is_free bytes ≡ false
not_free bytes head e =
    let parts = found_parts bytes head (ltb 64 (length bytes)) (is_book_head (take 64 bytes)) e in
    let long : 64 < length bytes = ltb-true 64 (length bytes) parts.0 in
    let front : slice_index (take 64 bytes) 0 ≡ open_gate = ap (λ (l : List ℕ). slice_index l 0) (same_head (take 64 bytes) parts.1) in
    let here : slice_index (take 64 bytes) 0 ≡ slice_index bytes 0 = get_or-take 64 bytes 0 0 (omega arith) in
    let gate : slice_index bytes 0 ≡ open_gate = sym here ∙ front in
    let open_is : (slice_index bytes 0 == open_gate) ≡ true = grind (arith, nat_tests) in
    or_from (leb (length bytes) 1) _ (lt-leb (length bytes) 1 (omega arith)) (and_right (leb (length bytes) 65) _ (not_from_true _ open_is))

head_held : (o : Option (List ℕ)) (f : _) (held : Held) → held_under o f ≡ Some held → o ≡ Some held.head
head_held None f held e = absurd cc
head_held (Some head) f held e = ap (λ (h : Held). Some h.head) (same_Some _ held e)

-- a free device has none
pub free_unheld : (bytes : List ℕ) → is_free bytes ≡ true → held_by is_book_head book_shape bytes ≡ None
free_unheld bytes free = by (held_by is_book_head book_shape bytes) refl
  where
    by : (o : Option Held) → held_by is_book_head book_shape bytes ≡ o → held_by is_book_head book_shape bytes ≡ None
    by None none = none
    by (Some held) some =
        let taken = not_free bytes held.head (head_held (head_of is_book_head bytes) (left book_shape 64 bytes) held some) in
        let wrong : true ≡ false = sym free ∙ taken in
        absurd cc

-- ---- a book

told_as_book : (bytes : List ℕ) → is_free bytes ≡ false → told_by bytes ≡ book_of bytes
told_as_book bytes e = ap (λ (b : Bool). cond b (Some (lists_of [])) (book_of bytes)) e

told_as_held : (bytes : List ℕ) (held : Held) → held_by is_book_head book_shape bytes ≡ Some held → told_by bytes ≡ lists_held (Some held)
told_as_held bytes held holds =
    let head = head_held (head_of is_book_head bytes) (left book_shape 64 bytes) held holds in
    told_as_book bytes (not_free bytes held.head head) ∙ ap lists_held holds

pub told_held : (bytes : List ℕ) (held : Held) (calls : List Call) → held_by is_book_head book_shape bytes ≡ Some held → calls_in held.payloads ≡ calls → all_next [] calls ≡ true → Tells calls bytes
told_held bytes held calls holds are next =
    told_as_held bytes held holds
    ∙ ap (λ (cs : List Call). cond (all_next [] cs) (Some (lists_of cs)) None) are
    ∙ ap (λ (b : Bool). cond b (Some (lists_of calls)) None) next

-- one of its calls is not next
pub told_none : (bytes : List ℕ) (held : Held) → held_by is_book_head book_shape bytes ≡ Some held → all_next [] (calls_in held.payloads) ≡ false → told_by bytes ≡ None
told_none bytes held holds next = told_as_held bytes held holds ∙ ap (λ (b : Bool). cond b (Some (lists_of (calls_in held.payloads))) None) next

-- there is no head
pub told_headless : (bytes : List ℕ) → is_free bytes ≡ false → head_of is_book_head bytes ≡ None → told_by bytes ≡ None
told_headless bytes taken none = told_as_book bytes taken ∙ ap (λ (o : Option (List ℕ)). lists_held (held_under o (left book_shape 64 bytes))) none

-- ---- a free device

pub told_free : (bytes : List ℕ) → is_free bytes ≡ true → Tells [] bytes
told_free bytes e = ap (λ (b : Bool). cond b (Some (lists_of [])) (book_of bytes)) e

pub told_file : (calls : List Call) (at : Option Standing) (bytes : List ℕ) → IsFileOf calls at bytes → Tells calls bytes
told_file calls None bytes f = told_free bytes f.1 ∙ ap (λ (cs : List Call). Some (lists_of cs)) (sym f.0)
told_file calls (Some at) bytes f = told_held bytes f.held calls f.stands.holds f.calls_are f.next

-- a front of a free device is free
pub free_front : (before c : List ℕ) → is_free before ≡ true → c ≡ take (length c) before → is_free c ≡ true
free_front before c free front = free_is c (by (is_free_if before free))
  where
    short : length c ≤ length before
    short = omega (arith, ap length front, length-take (length c) before)

    closed : 0 < length c → slice_index before 0 ≢ open_gate → slice_index c 0 ≢ open_gate
    closed some h e = h (sym (get_or-take (length c) before 0 0 some) ∙ ap (λ (l : List ℕ). slice_index l 0) (sym front) ∙ e)

    by : IsFree before → IsFree c
    by (inl few) = inl (omega (arith, few, short))
    by (inr h) = at (ltb 0 (length c)) refl
      where
        at : (b : Bool) → ltb 0 (length c) ≡ b → IsFree c
        at true e = inr (omega (arith, short, h.0), closed (ltb-true _ _ e) h.1)
        at false e = inl (omega (arith, ltb-false 0 (length c) e))

-- ---- a file that is being made

head_found : (c : List ℕ) → 64 < length c → take 64 c ≡ book_head → head_of is_book_head c ≡ Some (take 64 c)
head_found c long e = ap (λ (b : Bool). cond b (Some (take 64 c)) None) (and_from _ _ (lt-ltb 64 (length c) long) (is_head (take 64 c) e))

-- at each moment it says that no call was done
pub half_tells : (c : List ℕ) → IsHalfMade book_shape book_head [] c → Tells [] c
half_tells c half = by (half.from_empty refl)
  where
    by : IsFree c ⊎ ((take 64 c ≡ book_head) × (64 < length c)) → Tells [] c
    by (inl free) = told_free c (free_is c free)
    by (inr made) =
        let held : Held = record { head = take 64 c; payloads = (left book_shape 64 c).0; end = (left book_shape 64 c).1 } in
        let holds : held_by is_book_head book_shape c ≡ Some held = ap (λ (o : Option (List ℕ)). held_under o (left book_shape 64 c)) (head_found c made.1 made.0) in
        let none : (left book_shape 64 c).0 ≡ [] = ap (λ (p : List (List ℕ) × ℕ). p.0) half.empty in
        told_held c held [] holds (ap calls_in none) refl
