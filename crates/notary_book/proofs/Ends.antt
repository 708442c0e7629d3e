-- How far the file of a book goes: at most so many bytes for each seal and for each mark that it says.
use Rattle.std.proofs.Common.{◌≡◌, ◌≤◌, ◌<◌, ◌+◌, ◌*◌, ℕ, zero, suc, List, [], ◌∷◌, ◌++◌, length, Option, None, Some, IfSome, refl, sym, ap, ◌∙◌, subst, false, true, arith, append_assoc, length-take, length-drop, drop}
use Rattle.std.specs.Option.{is_some}
use Rattle.std.specs.List.{All, AllByRecursion}
use Rattle.std.proofs.lemmas.List.{append-nil}
use Rattle.std.proofs.lemmas.List.Elements.{recursion_from_All}
use Rattle.std.proofs.lemmas.Option.{same_Some}
use Rattle.byte_grammar.specs.Gated.{Shape, named_length, payload_at, with_first, records, FitsRecord}
use Rattle.notary_link.specs.Notary.{Call, file, note, seals_in_all, marks_in_all}
use Rattle.notary_link.proofs.InAll.{filed_seals, filed_marks, noted_seals, noted_marks}
use Rattle.txn_journal.specs.Held.{Held, Standing, StandsIn, held_under}
use Rattle.txn_journal.specs.Opening.{held_of}
use Rattle.txn_journal.specs.Reading.{head_of, left}
use Rattle.txn_journal.proofs.Frames.{record_from}
use Rattle.notary_book.specs.declared.kept.Kept.{Kept}
use Rattle.notary_book.specs.declared.pages.Pages.{Pages}
use Rattle.notary_book.specs.Books.{lists_of, max_seals, max_marks, is_book_head, book_shape, calls_in}
use Rattle.notary_book.specs.Calls.{call_of}
use Rattle.notary_book.specs.Kept.{StandsFor, IsRead, next_gate, IsShort, HasPlace, IsSpelled, IsReadOf, Holds, Knows}
use Rattle.notary_book.specs.Spelling.{FitsCall, Spells}
use Rattle.notary_book.proofs.Lists.{files, notes}
use Rattle.notary_book.proofs.Sizes.{weight, weighs}
use Rattle.notary_book.proofs.Telling.{if_map, if_both}

-- ---- records

-- what records of these payloads take
abbrev sizes : List (List ℕ) → ℕ
sizes [] = 0
sizes (payload ∷ payloads) = 5 + length payload + sizes payloads

abbrev EndsBy : ℕ → List (List ℕ) × ℕ → Type 0
EndsBy from found = found.1 ≤ from + sizes found.0

abbrev chosen : Shape → ℕ → ℕ → List ℕ → Option (List ℕ) → List (List ℕ) × ℕ
chosen shape place b bytes None = ([], place)
chosen shape place b bytes (Some payload) = with_first payload (records shape (suc place) (4 + named_length (b ∷ bytes)) bytes)

ends_at : (shape : Shape) (place b : ℕ) (bytes : List ℕ) → ((passed : ℕ) → EndsBy (suc place + passed) (records shape (suc place) passed bytes)) → (o : Option (List ℕ)) → payload_at shape place (b ∷ bytes) ≡ o → EndsBy place (chosen shape place b bytes o)
ends_at shape place b bytes ih None e = omega arith
ends_at shape place b bytes ih (Some payload) e =
    let r = record_from shape place (b ∷ bytes) payload e in
    let n = named_length (b ∷ bytes) in
    let room : 5 + n < suc (length bytes) = r.framed.room in
    let is : length payload ≡ n = omega (arith, ap (λ (p : List ℕ). length p) r.payload_is, length-take n (drop 5 (b ∷ bytes)), length-drop 5 (b ∷ bytes), room) in
    omega (arith, ih (4 + n), is)

ends_by : (shape : Shape) (bytes : List ℕ) (place passed : ℕ) → EndsBy (place + passed) (records shape place passed bytes)
unfolding records
ends_by shape [] place passed = omega arith
ends_by shape (b ∷ bytes) place (suc passed) = omega (arith, ends_by shape bytes (suc place) passed)
ends_by shape (b ∷ bytes) place zero = omega (arith, ends_at shape place b bytes (ends_by shape bytes (suc place)) (payload_at shape place (b ∷ bytes)) refl)

held_ends : (o : Option (List ℕ)) (found : List (List ℕ) × ℕ) (held : Held) → EndsBy 64 found → held_under o found ≡ Some held → held.end ≤ 64 + sizes held.payloads
held_ends None found held by e = absurd cc
held_ends (Some head) found held by e = subst (λ (h : Held). h.end ≤ 64 + sizes h.payloads) (same_Some _ held e) by

-- ---- seals and marks

abbrev weight_of : List Call → ℕ
weight_of calls = 70 * seals_in_all (lists_of calls) + 31 * marks_in_all (lists_of calls)

-- a call more
weight_more : (calls : List Call) (call : Call) → FitsCall call → weight_of (calls ++ call ∷ []) ≡ weight_of calls + weight call
weight_more calls (file id index batch) fits =
    let more = files calls id index batch in
    omega (arith, filed_seals _ _ id batch fits.0 more, filed_marks _ _ id batch more)
weight_more calls (note id mark) fits =
    let more = notes calls id mark in
    omega (arith, noted_seals _ _ id mark more, noted_marks _ _ id mark fits.0 more)

sizes_weigh : (before : List Call) (payloads : List (List ℕ)) → AllByRecursion IsSpelled payloads → AllByRecursion (FitsRecord book_shape) payloads → sizes payloads + weight_of before ≤ weight_of (before ++ calls_in payloads)
sizes_weigh before [] spelled fit = omega (arith, ap weight_of (append-nil before))
sizes_weigh before (payload ∷ payloads) spelled fit = by (call_of payload) refl (λ next. sizes_weigh next payloads spelled.1 fit.1)
  where
    by : (o : Option Call) → call_of payload ≡ o → ((next : List Call) → sizes payloads + weight_of next ≤ weight_of (next ++ calls_in payloads)) → sizes (payload ∷ payloads) + weight_of before ≤ weight_of (before ++ calls_in (payload ∷ payloads))
    by None none ih = let accepted : is_some (call_of payload) ≡ true = fit.0.accepted in let wrong : false ≡ true = sym (ap is_some none) ∙ accepted in absurd cc
    by (Some call) some ih =
        let s = spelled.0 call some in
        let first : calls_in (payload ∷ payloads) ≡ call ∷ calls_in payloads = rw some refl in
        let together : before ++ calls_in (payload ∷ payloads) ≡ (before ++ call ∷ []) ++ calls_in payloads = ap (λ (cs : List Call). before ++ cs) first ∙ sym (append_assoc before (call ∷ []) (calls_in payloads)) in
        omega (arith, ap weight_of together, weighs call payload s, weight_more before call s.0, ih (before ++ call ∷ []))

stands_weigh : (calls : List Call) (pages : Pages) → StandsFor calls pages → 70 * pages.seals + 31 * pages.marks ≡ weight_of calls
stands_weigh calls pages stands = omega (arith, stands.seals_are, stands.marks_are)

-- what was read is short
pub read_short : (at : Standing) (bytes : List ℕ) (held : Held) (pages : Pages) → StandsIn is_book_head book_shape at held bytes → All IsSpelled held.payloads → All (FitsRecord book_shape) held.payloads → IsRead (calls_in held.payloads) pages → IsShort (Some at) pages
read_short at bytes held pages stands spelled fit read =
    let by = held_ends (head_of is_book_head bytes) (left book_shape 64 bytes) held (ends_by book_shape (drop 64 bytes) 64 0) stands.holds in
    let light = sizes_weigh [] held.payloads (recursion_from_All IsSpelled held.payloads spelled) (recursion_from_All (FitsRecord book_shape) held.payloads fit) in
    omega (arith, by, stands.end, light, stands_weigh (calls_in held.payloads) pages read.stands)

-- and stays so behind a call more
pub short_more : (calls : List Call) (call : Call) (bytes : List ℕ) (at : Option Standing) (now : Standing) (old new : Pages) → Spells call bytes → StandsFor calls old → StandsFor (calls ++ call ∷ []) new → now.end ≡ next_gate at + 5 + length bytes → IsShort at old → IsShort (Some now) new
short_more calls call bytes at now old new s before after end short =
    omega (arith, short, end, weighs call bytes s, weight_more calls call s.0, stands_weigh calls old before, stands_weigh (calls ++ call ∷ []) new after)

-- so that there is place for a payload
pub has_place : (at : Option Standing) (pages : Pages) (payload : List ℕ) → pages.seals ≤ max_seals → pages.marks ≤ max_marks → FitsRecord book_shape payload → IsShort at pages → HasPlace at payload
has_place at pages payload seals marks fits short = omega (arith, seals, marks, fits.short, short)

-- ---- what is kept

-- of an opened file
pub holds_read : (reads : Option (List ℕ)) (head : List ℕ) (payloads seen : List (List ℕ)) (at : Standing) (found : Option Pages) (pages : Pages) → seen ≡ payloads → found ≡ Some pages → at.is_closed ≡ false → IfSome reads (StandsIn is_book_head book_shape at (held_of head payloads at)) → All (FitsRecord book_shape) payloads → IsReadOf (calls_in seen) found → IfSome found (λ pages. All IsSpelled seen) → Holds reads (record { journal = Some at; pages = pages })
holds_read reads head payloads seen at found pages same is fresh stands fit of_seen of_spelled =
    let some_read : IsReadOf (calls_in seen) (Some pages) = subst (IsReadOf (calls_in seen)) is of_seen in
    let read : IsRead (calls_in payloads) pages = subst (λ (ps : List (List ℕ)). IsRead (calls_in ps) pages) same some_read in
    let some_spelled : All IsSpelled seen = subst (λ (o : Option Pages). IfSome o (λ pages. All IsSpelled seen)) is of_spelled in
    let spelled : All IsSpelled payloads = subst (All IsSpelled) same some_spelled in
    record {
      calls = calls_in payloads;
      stands = read.stands;
      in_file = if_map reads stands (λ b s. record { held = held_of head payloads at; stands = s; calls_are = refl; next = read.next });
      short = if_map reads stands (λ b s. read_short at b (held_of head payloads at) pages s spelled fit read);
      is_open = fresh;
    }

module _ (reads : Option (List ℕ)) (kept : Kept) (k : Knows reads kept) (payload : List ℕ) where
  pub placed : FitsRecord book_shape payload → IfSome reads (λ b. HasPlace kept.journal payload)
  placed fits = if_map reads k.short (λ b short. has_place kept.journal kept.pages payload kept.pages.seals_within kept.pages.marks_within fits short)

  pub stays_short : (call : Call) (now : Standing) (new : Pages) → Spells call payload → (StandsFor k.calls kept.pages → StandsFor (k.calls ++ call ∷ []) new) → IfSome reads (λ b. now.end ≡ next_gate kept.journal + 5 + length payload) → IfSome reads (λ b. IsShort (Some now) new)
  stays_short call now new s more end =
      let both : IfSome reads (λ b. StandsFor k.calls kept.pages × IsShort kept.journal kept.pages) = if_both reads k.stands k.short (λ b stands short. (stands, short)) in
      if_both reads both end (λ b p e. short_more k.calls call payload kept.journal now kept.pages new s p.0 (more p.0) e p.1)
