-- What one more call leaves.
use Rattle.std.proofs.Common.{◌≡◌, ◌≢◌, ◌<◌, ◌+◌, ◌^◌, ◌==◌, ◌&&◌, ltb, leb, ℕ, Bool, true, false, List, [], ◌∷◌, ◌++◌, length, Ok, refl, sym, ap, ◌∙◌, subst, arith, append_assoc, if◌then◌else◌}
use Rattle.std.proofs.lemmas.Bool.{and_from, and_left, and_right}
use Rattle.std.proofs.lemmas.Bool.Decides.{nat_tests}
use Rattle.std.proofs.lemmas.List.{flat_map_more, append-nil}
use Rattle.notary_link.specs.declared.mark.Mark.{Mark}
use Rattle.notary_link.specs.declared.seal.Seal.{Seal}
use Rattle.notary_link.specs.Batches.{Batch}
use Rattle.notary_link.specs.Calls.{batches_by, marks_by}
use Rattle.notary_link.specs.Notary.{Call, file, note, batch_of, Lists, Files, Notes, Keeps, Grows, Adds}
use Rattle.notary_link.specs.Shelves.{TakesBatch, TakesMark, ChangesShelf, moments_on, shelf_of}
use Rattle.notary_link.proofs.InAll.{filed_seals, filed_marks, noted_seals, noted_marks}
use Rattle.notary_link.proofs.Sums.{none_below}
use Rattle.notary_link.proofs.Standing.{none_stand, count_stands, filed_stands, noted_stands}
use Rattle.notary_book.specs.declared.pages.Pages.{Pages}
use Rattle.notary_book.specs.Books.{lists_of, max_seals, max_marks, is_next, all_next}
use Rattle.notary_book.specs.Kept.{StandsFor, IsRead}

-- ---- the lists

module _ (calls : List Call) (call : Call) where
  batches_more : (id : ℕ) → (lists_of (calls ++ call ∷ [])).batches id ≡ (lists_of calls).batches id ++ batches_by id (call, Ok tt)
  batches_more id = sym (flat_map_more (λ (c : Call). batches_by id (c, Ok tt)) [] calls call)

  marks_more : (id : ℕ) → (lists_of (calls ++ call ∷ [])).marks id ≡ (lists_of calls).marks id ++ marks_by id (call, Ok tt)
  marks_more id = sym (flat_map_more (λ (c : Call). marks_by id (c, Ok tt)) [] calls call)

same_id : {A : Type 0} (id : ℕ) (a b : A) → (if id == id then a else b) ≡ a
same_id id a b = grind (arith, nat_tests)

other_id : {A : Type 0} (id other : ℕ) (a b : A) → other ≢ id → (if id == other then a else b) ≡ b
other_id id other a b apart = grind (arith, nat_tests)

pub files : (calls : List Call) (id index : ℕ) (batch : Batch) → Files id batch (lists_of calls) (lists_of (calls ++ file id index batch ∷ []))
files calls id index batch = record {
  filed = batches_more calls call id ∙ ap (λ (l : List Batch). (lists_of calls).batches id ++ l) (same_id id (batch ∷ []) []);
  others = λ other apart. batches_more calls call other ∙ ap (λ (l : List Batch). (lists_of calls).batches other ++ l) (other_id id other (batch ∷ []) [] apart) ∙ append-nil ((lists_of calls).batches other);
  marks = λ any. marks_more calls call any ∙ append-nil ((lists_of calls).marks any);
}
  where
    call : Call
    call = file id index batch

pub notes : (calls : List Call) (id : ℕ) (mark : Mark) → Notes id mark (lists_of calls) (lists_of (calls ++ note id mark ∷ []))
notes calls id mark = record {
  noted = marks_more calls call id ∙ ap (λ (l : List Mark). (lists_of calls).marks id ++ l) (same_id id (mark ∷ []) []);
  others = λ other apart. marks_more calls call other ∙ ap (λ (l : List Mark). (lists_of calls).marks other ++ l) (other_id id other (mark ∷ []) [] apart) ∙ append-nil ((lists_of calls).marks other);
  batches = λ any. batches_more calls call any ∙ append-nil ((lists_of calls).batches any);
}
  where
    call : Call
    call = note id mark

-- one call more, and nothing else
pub adds : (calls : List Call) (call : Call) → Adds call (lists_of calls) (lists_of (calls ++ call ∷ []))
adds calls (file id index batch) = files calls id index batch
adds calls (note id mark) = notes calls id mark

pub grows : (calls : List Call) (call : Call) → Grows (lists_of calls) (lists_of (calls ++ call ∷ []))
grows calls call = record {
  batches = λ id. (batches_by id (call, Ok tt), batches_more calls call id);
  marks = λ id. (marks_by id (call, Ok tt), marks_more calls call id);
}

pub keeps : (calls : List Call) → Keeps (lists_of calls) (lists_of calls)
keeps calls = record { batches = λ id. refl; marks = λ id. refl }

-- ---- pages

-- before the first call
pub none_read : (pages : Pages) → pages.shelves.entries ≡ [] → pages.seals ≡ 0 → pages.marks ≡ 0 → IsRead [] pages
none_read pages none no_seals no_marks = record {
  next = refl;
  stands = record {
    shelves_are = none_stand pages.shelves none;
    seals_are = no_seals ∙ sym (none_below (2 ^ 64));
    marks_are = no_marks ∙ sym (none_below (2 ^ 64));
  };
}

module _ (calls : List Call) (old new : Pages) where
  pub stands_filed : (id index moment : ℕ) (seals : List Seal) → id < 2 ^ 64 → ChangesShelf id (TakesBatch moment seals) old.shelves new.shelves → new.seals ≡ old.seals + length seals → new.marks ≡ old.marks
      → StandsFor calls old → StandsFor (calls ++ file id index (batch_of moment seals) ∷ []) new
  stands_filed id index moment seals fits change more same stands = record {
    shelves_are = filed_stands (lists_of calls) after old.shelves new.shelves id moment seals filed change stands.shelves_are;
    seals_are = more ∙ ap (λ (n : ℕ). n + length seals) stands.seals_are ∙ sym (filed_seals (lists_of calls) after id (batch_of moment seals) fits filed);
    marks_are = same ∙ stands.marks_are ∙ sym (filed_marks (lists_of calls) after id (batch_of moment seals) filed);
  }
    where
      after : Lists
      after = lists_of (calls ++ file id index (batch_of moment seals) ∷ [])

      filed : Files id (batch_of moment seals) (lists_of calls) after
      filed = files calls id index (batch_of moment seals)

  pub stands_noted : (id : ℕ) (mark : Mark) → id < 2 ^ 64 → ChangesShelf id (TakesMark mark) old.shelves new.shelves → new.seals ≡ old.seals → new.marks ≡ old.marks + 1
      → StandsFor calls old → StandsFor (calls ++ note id mark ∷ []) new
  stands_noted id mark fits change same more stands = record {
    shelves_are = noted_stands (lists_of calls) after old.shelves new.shelves id mark noted change stands.shelves_are;
    seals_are = same ∙ stands.seals_are ∙ sym (noted_seals (lists_of calls) after id mark noted);
    marks_are = more ∙ ap (λ (n : ℕ). n + 1) stands.marks_are ∙ sym (noted_marks (lists_of calls) after id mark fits noted);
  }
    where
      after : Lists
      after = lists_of (calls ++ note id mark ∷ [])

      noted : Notes id mark (lists_of calls) after
      noted = notes calls id mark

-- ---- which call is next

append_next : (before xs ys : List Call) → all_next before (xs ++ ys) ≡ (all_next before xs && all_next (before ++ xs) ys)
append_next before [] ys = ap (λ (l : List Call). all_next l ys) (sym (append-nil before))
append_next before (x ∷ xs) ys = by (is_next before x) (append_next (before ++ x ∷ []) xs ys ∙ ap (λ (l : List Call). all_next (before ++ x ∷ []) xs && all_next l ys) (append_assoc before (x ∷ []) xs))
  where
    by : (b : Bool) → all_next (before ++ x ∷ []) (xs ++ ys) ≡ (all_next (before ++ x ∷ []) xs && all_next (before ++ x ∷ xs) ys) → (b && all_next (before ++ x ∷ []) (xs ++ ys)) ≡ ((b && all_next (before ++ x ∷ []) xs) && all_next (before ++ x ∷ xs) ys)
    by true e = e
    by false e = refl

and_true : (b : Bool) → (b && true) ≡ b
and_true true = refl
and_true false = refl

pub next_is : (calls : List Call) (call : Call) → all_next [] calls ≡ true → all_next [] (calls ++ call ∷ []) ≡ is_next calls call
next_is calls call e = append_next [] calls (call ∷ []) ∙ ap (λ (b : Bool). b && (is_next calls call && true)) e ∙ and_true (is_next calls call)

-- what comes behind a call that is not next changes nothing
pub stays_false : (xs ys : List Call) → all_next [] xs ≡ false → all_next [] (xs ++ ys) ≡ false
stays_false xs ys e = append_next [] xs ys ∙ ap (λ (b : Bool). b && all_next xs ys) e

module _ (calls : List Call) (pages : Pages) (stands : StandsFor calls pages) where
  pub count_is : (id : ℕ) → length (moments_on (shelf_of pages.shelves id)) ≡ length ((lists_of calls).batches id)
  count_is id = count_stands (stands.shelves_are id)

  pub file_next : (id index : ℕ) (batch : Batch) → index ≡ length (moments_on (shelf_of pages.shelves id)) → leb (pages.seals + length batch.seals) max_seals ≡ true → is_next calls (file id index batch) ≡ true
  file_next id index batch turn room =
      let is : index ≡ length ((lists_of calls).batches id) = turn ∙ count_is id in
      let here : (index == length ((lists_of calls).batches id)) ≡ true = grind (arith, nat_tests) in
      and_from _ _ here (subst (λ (n : ℕ). leb (n + length batch.seals) max_seals ≡ true) stands.seals_are room)

  pub file_out_of_turn : (id index : ℕ) (batch : Batch) → index ≢ length (moments_on (shelf_of pages.shelves id)) → is_next calls (file id index batch) ≡ false
  file_out_of_turn id index batch turn =
      let isnt : index ≢ length ((lists_of calls).batches id) = λ e. turn (e ∙ sym (count_is id)) in
      let here : (index == length ((lists_of calls).batches id)) ≡ false = grind (arith, nat_tests) in
      and_left _ _ here

  pub file_full : (id index : ℕ) (batch : Batch) → leb (pages.seals + length batch.seals) max_seals ≡ false → is_next calls (file id index batch) ≡ false
  file_full id index batch room = and_right _ _ (subst (λ (n : ℕ). leb (n + length batch.seals) max_seals ≡ false) stands.seals_are room)

  pub note_is : (id : ℕ) (mark : Mark) (b : Bool) → ltb pages.marks max_marks ≡ b → is_next calls (note id mark) ≡ b
  note_is id mark b room = subst (λ (n : ℕ). ltb n max_marks ≡ b) stands.marks_are room
