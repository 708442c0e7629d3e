-- The bytes of a file up to its limit hold all that it stores.
use Rattle.std.proofs.Common.{◌≡◌, inl, inr, ℕ, suc, ◌+◌, ◌-◌, ◌<◌, ◌≤◌, Bool, true, false, cond, eqb, ltb, leb, List, length, take, drop, None, refl, sym, ap, ◌∙◌, arith}
use Rattle.std.specs.List.{flat_map, range_with_len}
use Rattle.std.proofs.lemmas.Bool.{cases_lt, lt-ltb, le-ltb, lt-leb}
use Rattle.std.proofs.lemmas.List.{length-take, drop-take, take-take, take_all, get_or-take}
use Rattle.byte_grammar.specs.Gated.{records}
use Rattle.txn_journal.specs.Create.{is_free}
use Rattle.txn_journal.proofs.SameFront.{same_part}
use Rattle.segment_file.proofs.Limits.{limit_is_taken}
use Rattle.history_model.specs.Heads.{is_segmented, any_header}
use Rattle.history_model.specs.Stored.{store_shape, max_file, header_length, items_of, front_header, found_behind}
use Rattle.history_model.specs.Segments.{segment_start, segment_end, segment, last_segment, found_in}
use Rattle.history_model.proofs.SegmentRuns.{starts_low, items_of_segments, same_items}
use Rattle.file_findings.specs.declared.finding.Finding.TheVariants.{DamagedFront}
use Rattle.store_inspect.specs.Front.{wrong_byte, headless}

-- ---- the front

longer : (x : List ℕ) → ltb 64 (length (take max_file x)) ≡ ltb 64 (length x)
longer x = elim (cases_lt 64 (length x)) [
  | inl long ↦ lt-ltb _ _ (omega (arith, length-take max_file x, long)) ∙ sym (lt-ltb _ _ long)
  | inr short ↦ le-ltb _ _ (omega (arith, length-take max_file x, short)) ∙ sym (le-ltb _ _ short)
]

pub front_same : (x : List ℕ) → front_header (take max_file x) ≡ front_header x
front_same x =
    ap (λ (b : Bool). cond b (any_header (take header_length (take max_file x))) None) (longer x)
    ∙ ap (λ (l : List ℕ). cond (ltb 64 (length x)) (any_header l) None) (take-take header_length max_file x (omega arith))

pub segmented_same : (x : List ℕ) → is_segmented (take max_file x) ≡ is_segmented x
segmented_same x = ap (λ (b : ℕ). eqb b 0x32) (get_or-take max_file x 8 0 (omega arith))

taken : (x : List ℕ) → 65 < length x → is_free x ≡ false
taken x long =
    let one : leb (length x) 1 ≡ false = lt-leb _ _ (omega (arith, long)) in
    let few : leb (length x) 65 ≡ false = lt-leb _ _ long in
    rw (one, few) refl

pub headless_same : (x : List ℕ) → headless (take max_file x) ≡ headless x
headless_same x = elim (cases_lt max_file (length x)) [
  | inl long ↦
      rw (taken (take max_file x) (omega (arith, length-take max_file x, long)), taken x (omega (arith, long)))
      (ap (λ (l : List ℕ). DamagedFront (wrong_byte l)) (take-take header_length max_file x (omega arith)))
  | inr short ↦ ap headless (take_all max_file x short)
]

-- ---- the items

segment_same : (q : ℕ) (x : List ℕ) → q ≤ 1023 → segment q (take max_file x) ≡ segment q x
segment_same q x few =
    let low = starts_low q in
    same_part (segment_start q) (segment_end q - segment_start q) max_file x (take max_file x) (omega (arith, low, few)) (take-take max_file max_file x (omega arith))

found_same : (q : ℕ) (x : List ℕ) → q ≤ 1023 → found_in store_shape q (take max_file x) ≡ found_in store_shape q x
unfolding found_in
found_same q x few = ap (records store_shape (segment_start q) 0) (segment_same q x few)

last_same : (x : List ℕ) → last_segment (take max_file x) ≡ last_segment x
last_same x = elim (cases_lt max_file (length x)) [
  | inl long ↦ omega (arith, length-take max_file x, long)
  | inr short ↦ ap last_segment (take_all max_file x short)
]

items_two : (x : List ℕ) → is_segmented x ≡ true → items_of (found_behind x).0 ≡ flat_map (λ r. items_of (found_in store_shape r x).0) (range_with_len 0 (suc (last_segment x)))
items_two x e = rw e (items_of_segments store_shape (suc (last_segment x)) 0 x)

found_one : (x : List ℕ) → is_segmented x ≡ false → found_behind x ≡ records store_shape header_length 0 (drop header_length x)
found_one x e = rw e refl

one_same : (x : List ℕ) → records store_shape header_length 0 (drop header_length (take max_file x)) ≡ records store_shape header_length 0 (drop header_length x)
one_same x =
    let parts : max_file ≡ header_length + (max_file - header_length) = omega arith in
    ap (records store_shape header_length 0) (ap (λ (k : ℕ). drop header_length (take k x)) parts ∙ drop-take header_length (max_file - header_length) x)
    ∙ sym (limit_is_taken store_shape max_file header_length 0 (drop header_length x) (omega arith) (omega arith))

pub items_same : (x : List ℕ) → items_of (found_behind (take max_file x)).0 ≡ items_of (found_behind x).0
items_same x = by (is_segmented x) refl
  where
    by : (b : Bool) → is_segmented x ≡ b → items_of (found_behind (take max_file x)).0 ≡ items_of (found_behind x).0
    by true e =
        items_two (take max_file x) (segmented_same x ∙ e)
        ∙ same_items (λ r. items_of (found_in store_shape r (take max_file x)).0) (λ r. items_of (found_in store_shape r x).0) (suc (last_segment (take max_file x))) 0
        (λ r below. ap (λ (found : List (List ℕ) × ℕ). items_of found.0) (found_same r x (omega (arith, below))))
        ∙ ap (λ (n : ℕ). flat_map (λ r. items_of (found_in store_shape r x).0) (range_with_len 0 (suc n))) (last_same x)
        ∙ sym (items_two x e)
    by false e = ap (λ (found : List (List ℕ) × ℕ). items_of found.0) (found_one (take max_file x) (segmented_same x ∙ e) ∙ one_same x ∙ sym (found_one x e))
