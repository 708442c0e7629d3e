-- Entries of a book, with one more.
use Rattle.std.proofs.Common.{◌≡◌, ◌≢◌, ℕ, ◌+◌, ◌-◌, Bool, true, false, not, ◌&&◌, ◌||◌, eqb, ltb, max, fold, map, filter, List, [], ◌∷◌, ◌++◌, length, length-append, refl, sym, ap, ◌∙◌, arith}
use Rattle.std.proofs.lemmas.Bool.{eq-eqb, ne_eqb}
use Rattle.std.proofs.lemmas.List.{map-append, length_push}
use Rattle.std.proofs.lemmas.List.Elements.{filter-append}
use Rattle.std.proofs.lemmas.List.Sums.{fold_push}
use Rattle.notary_link.specs.declared.mark.Mark.{Mark}
use Rattle.notary_link.specs.declared.seal.Seal.{Seal}
use Rattle.notary_link.specs.Batches.{Batch}
use Rattle.notary_link.specs.Notary.{Call, file, note, batch_of, Files, Notes}
use Rattle.notary_book.specs.Books.{lists_of}
use Rattle.notary_book.proofs.Lists.{files, notes}
use Rattle.file_findings.specs.declared.finding.Finding.{Finding}
use Rattle.file_findings.specs.declared.finding.Finding.TheVariants.{SealMissing, MarkOver, SecondsFall, AlteredMark}
use Rattle.book_inspect.specs.declared.entries.Entries.{Entries}
use Rattle.file_findings.specs.Along.{listed, found_along}
use Rattle.book_inspect.specs.Entries.{batches_of, marks_of, sealed_of, latest_filed, latest_marked, latest, has_own_seal, is_other_tile, is_altered, altered_of, seal_missing, mark_over, seconds_fall, altered_mark}
use Rattle.book_inspect.specs.KnownEntries.{KnowsEntries, TakesBatch, TakesMark}
use Rattle.file_findings.proofs.Along.{found_none, found_with}

-- ---- under this id, and under another

under : (id : ℕ) (so : Bool) (it : Finding) → listed so it ≡ listed ((eqb id id) && so) it
under id so it = ap (λ (b : Bool). listed (b && so) it) (sym (eq-eqb id id refl))

elsewhere : (i id : ℕ) (so : Bool) (it : Finding) → i ≢ id → listed ((eqb i id) && so) it ≡ []
elsewhere i id so it apart = ap (λ (b : Bool). listed (b && so) it) (ne_eqb i id apart)

-- ---- lists with one more

latest_push : {A : Type 0} (f : A → ℕ) (xs : List A) (x : A) → fold max 0 (map f (xs ++ x ∷ [])) ≡ max (fold max 0 (map f xs)) (f x)
latest_push f xs x = ap (fold max 0) (map-append f xs (x ∷ [])) ∙ fold_push max 0 (map f xs) (f x)

altered_push : (xs : List Mark) (mark : Mark) → length (altered_of (xs ++ mark ∷ [])) ≡ length (altered_of xs) + length (listed (is_altered mark.outcome) mark)
altered_push xs mark = ap length (filter-append (λ (m : Mark). is_altered m.outcome) xs (mark ∷ [])) ∙ length-append (altered_of xs) (altered_of (mark ∷ []))

as_long : {A B : Type 0} (so : Bool) (x : A) (y : B) → length (listed so x) ≡ length (listed so y)
as_long true x y = refl
as_long false x y = refl

-- ---- an entry more

module _ (id : ℕ) (old new : Entries) (calls : List Call) (known : KnowsEntries id old calls) where
  -- a batch under the id
  pub batch_known : (index moment : ℕ) (seals : List Seal) → TakesBatch moment seals old new → KnowsEntries id new (calls ++ file id index (batch_of moment seals) ∷ [])
  batch_known index moment seals t =
      let batch : Batch = batch_of moment seals in
      let call : Call = file id index batch in
      let f : Files id batch (lists_of calls) (lists_of (calls ++ call ∷ [])) = files calls id index batch in
      let of_place : ℕ → ℕ → List Finding = λ place before. listed (ltb moment before) (SecondsFall place before moment) in
      record {
        entries = omega (arith, t.entries, known.entries, length_push calls call);
        batches = t.batches ∙ ap (λ (n : ℕ). n + 1) known.batches ∙ sym (ap length f.filed ∙ length_push (batches_of id calls) batch);
        marks = t.marks ∙ known.marks ∙ sym (ap length (f.marks id));
        latest_of_batches = t.filed ∙ ap (λ (m : ℕ). max m moment) known.latest_of_batches ∙ sym (ap (λ (bs : List Batch). fold max 0 (map (λ b. b.moment) bs)) f.filed ∙ latest_push (λ (b : Batch). b.moment) (batches_of id calls) batch);
        latest_of_marks = t.marked ∙ known.latest_of_marks ∙ sym (ap (λ (ms : List Mark). fold max 0 (map (λ m. m.moment) ms)) (f.marks id));
        missing = found_with (seal_missing id) calls call old.missing.items new.missing.items _ t.missing
            (ap (λ (n : ℕ). listed (not (has_own_seal n batch)) (SealMissing n)) known.batches ∙ under id (not (has_own_seal (length (batches_of id calls)) batch)) (SealMissing (length (batches_of id calls)))) known.missing;
        over = t.over ∙ known.over ∙ sym (found_none (mark_over id) calls call refl);
        falls = found_with (seconds_fall id) calls call old.falls.items new.falls.items _ t.falls
            (ap (λ (n : ℕ). of_place (n + 1) old.latest_filed) known.entries ∙ ap (of_place (length calls + 1)) known.latest_of_batches ∙ under id (ltb moment (latest_filed id calls)) (SecondsFall (length calls + 1) (latest_filed id calls) moment)) known.falls;
        altered = t.altered ∙ known.altered ∙ sym (found_none (altered_mark id) calls call refl);
        count = ap length t.altered ∙ known.count ∙ sym (ap (λ (ms : List Mark). length (altered_of ms)) (f.marks id));
      }

  -- a mark under the id
  pub mark_known : (mark : Mark) → TakesMark mark old new → KnowsEntries id new (calls ++ note id mark ∷ [])
  mark_known mark t =
      let call : Call = note id mark in
      let f : Notes id mark (lists_of calls) (lists_of (calls ++ call ∷ [])) = notes calls id mark in
      let sealed : ℕ = sealed_of id calls in
      let number : ℕ = length (marks_of id calls) + 1 in
      let is_over : ℕ → Bool = λ n. ltb n mark.tiles || is_other_tile mark.tiles mark.outcome in
      let before : ℕ = latest id calls in
      record {
        entries = omega (arith, t.entries, known.entries, length_push calls call);
        batches = t.batches ∙ known.batches ∙ sym (ap length (f.batches id));
        marks = t.marks ∙ ap (λ (n : ℕ). n + 1) known.marks ∙ sym (ap length f.noted ∙ length_push (marks_of id calls) mark);
        latest_of_batches = t.filed ∙ known.latest_of_batches ∙ sym (ap (λ (bs : List Batch). fold max 0 (map (λ b. b.moment) bs)) (f.batches id));
        latest_of_marks = t.marked ∙ ap (λ (m : ℕ). max m mark.moment) known.latest_of_marks ∙ sym (ap (λ (ms : List Mark). fold max 0 (map (λ m. m.moment) ms)) f.noted ∙ latest_push (λ (m : Mark). m.moment) (marks_of id calls) mark);
        missing = t.missing ∙ known.missing ∙ sym (found_none (seal_missing id) calls call refl);
        over = found_with (mark_over id) calls call old.over.items new.over.items _ t.over
            (ap (λ (n : ℕ). listed (is_over (n - 1)) (MarkOver (old.marks + 1) mark.tiles (n - 1))) known.batches
            ∙ ap (λ (n : ℕ). listed (is_over sealed) (MarkOver (n + 1) mark.tiles sealed)) known.marks
            ∙ under id (is_over sealed) (MarkOver number mark.tiles sealed)) known.over;
        falls = found_with (seconds_fall id) calls call old.falls.items new.falls.items _ t.falls
            (ap (λ (n : ℕ). listed (ltb mark.moment (max old.latest_filed old.latest_marked)) (SecondsFall (n + 1) (max old.latest_filed old.latest_marked) mark.moment)) known.entries
            ∙ ap (λ (m : ℕ). listed (ltb mark.moment m) (SecondsFall (length calls + 1) m mark.moment)) (ap (λ (m : ℕ). max m old.latest_marked) known.latest_of_batches ∙ ap (max (latest_filed id calls)) known.latest_of_marks)
            ∙ under id (ltb mark.moment before) (SecondsFall (length calls + 1) before mark.moment)) known.falls;
        altered = found_with (altered_mark id) calls call old.altered.items new.altered.items _ t.altered
            (ap (λ (n : ℕ). listed (is_altered mark.outcome) (AlteredMark (n + 1) mark.moment (length old.altered.items + 1))) known.marks
            ∙ ap (λ (n : ℕ). listed (is_altered mark.outcome) (AlteredMark number mark.moment (n + 1))) known.count
            ∙ under id (is_altered mark.outcome) (AlteredMark number mark.moment (length (altered_of (marks_of id calls)) + 1))) known.altered;
        count =
            ap length t.altered ∙ length-append old.altered.items (listed (is_altered mark.outcome) (AlteredMark (old.marks + 1) mark.moment (length old.altered.items + 1)))
            ∙ ap (λ (n : ℕ). n + length (listed (is_altered mark.outcome) (AlteredMark (old.marks + 1) mark.moment (length old.altered.items + 1)))) known.count
            ∙ ap (λ (n : ℕ). length (altered_of (marks_of id calls)) + n) (as_long (is_altered mark.outcome) (AlteredMark (old.marks + 1) mark.moment (length old.altered.items + 1)) mark)
            ∙ sym (ap (λ (ms : List Mark). length (altered_of ms)) f.noted ∙ altered_push (marks_of id calls) mark);
      }

  -- an entry under another id: all but the count of entries stays
  pub record Skips : Type 0 where
    pub entries : new.count ≡ old.count + 1
    pub batches : new.batches ≡ old.batches
    pub marks : new.marks ≡ old.marks
    pub filed : new.latest_filed ≡ old.latest_filed
    pub marked : new.latest_marked ≡ old.latest_marked
    pub missing : new.missing.items ≡ old.missing.items
    pub over : new.over.items ≡ old.over.items
    pub falls : new.falls.items ≡ old.falls.items
    pub altered : new.altered.items ≡ old.altered.items

  pub other_batch : (i index : ℕ) (batch : Batch) → i ≢ id → Skips → KnowsEntries id new (calls ++ file i index batch ∷ [])
  other_batch i index batch apart t =
      let call : Call = file i index batch in
      let f : Files i batch (lists_of calls) (lists_of (calls ++ call ∷ [])) = files calls i index batch in
      let away : id ≢ i = λ e. apart (sym e) in
      record {
        entries = omega (arith, t.entries, known.entries, length_push calls call);
        batches = t.batches ∙ known.batches ∙ sym (ap length (f.others id away));
        marks = t.marks ∙ known.marks ∙ sym (ap length (f.marks id));
        latest_of_batches = t.filed ∙ known.latest_of_batches ∙ sym (ap (λ (bs : List Batch). fold max 0 (map (λ b. b.moment) bs)) (f.others id away));
        latest_of_marks = t.marked ∙ known.latest_of_marks ∙ sym (ap (λ (ms : List Mark). fold max 0 (map (λ m. m.moment) ms)) (f.marks id));
        missing = t.missing ∙ known.missing ∙ sym (found_none (seal_missing id) calls call (elsewhere i id _ _ apart));
        over = t.over ∙ known.over ∙ sym (found_none (mark_over id) calls call refl);
        falls = t.falls ∙ known.falls ∙ sym (found_none (seconds_fall id) calls call (elsewhere i id _ _ apart));
        altered = t.altered ∙ known.altered ∙ sym (found_none (altered_mark id) calls call refl);
        count = ap length t.altered ∙ known.count ∙ sym (ap (λ (ms : List Mark). length (altered_of ms)) (f.marks id));
      }

  pub other_mark : (i : ℕ) (mark : Mark) → i ≢ id → Skips → KnowsEntries id new (calls ++ note i mark ∷ [])
  other_mark i mark apart t =
      let call : Call = note i mark in
      let f : Notes i mark (lists_of calls) (lists_of (calls ++ call ∷ [])) = notes calls i mark in
      let away : id ≢ i = λ e. apart (sym e) in
      record {
        entries = omega (arith, t.entries, known.entries, length_push calls call);
        batches = t.batches ∙ known.batches ∙ sym (ap length (f.batches id));
        marks = t.marks ∙ known.marks ∙ sym (ap length (f.others id away));
        latest_of_batches = t.filed ∙ known.latest_of_batches ∙ sym (ap (λ (bs : List Batch). fold max 0 (map (λ b. b.moment) bs)) (f.batches id));
        latest_of_marks = t.marked ∙ known.latest_of_marks ∙ sym (ap (λ (ms : List Mark). fold max 0 (map (λ m. m.moment) ms)) (f.others id away));
        missing = t.missing ∙ known.missing ∙ sym (found_none (seal_missing id) calls call refl);
        over = t.over ∙ known.over ∙ sym (found_none (mark_over id) calls call (elsewhere i id _ _ apart));
        falls = t.falls ∙ known.falls ∙ sym (found_none (seconds_fall id) calls call (elsewhere i id _ _ apart));
        altered = t.altered ∙ known.altered ∙ sym (found_none (altered_mark id) calls call (elsewhere i id _ _ apart));
        count = ap length t.altered ∙ known.count ∙ sym (ap (λ (ms : List Mark). length (altered_of ms)) (f.others id away));
      }
