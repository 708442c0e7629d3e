-- The segments of a file, each with a run of its own.
use Rattle.std.proofs.Common.{◌≡◌, ℕ, zero, suc, ◌+◌, ◌-◌, ◌<◌, ◌≤◌, List, ◌++◌, length, drop, refl, sym, ap, ap₂, ◌∙◌, arith}
use Rattle.std.specs.List.{flat_map, range_with_len}
use Rattle.std.proofs.lemmas.List.{append-nil, append_assoc, length-take, length-drop}
use Rattle.std.proofs.lemmas.List.Elements.{filter_map-append}
use Rattle.tuple_bytes.specs.declared.item.Item.{Item}
use Rattle.tuple_bytes.specs.Items.{item_of}
use Rattle.byte_grammar.specs.Reading.{IsBytes}
use Rattle.byte_grammar.specs.Gated.{Shape}
use Rattle.byte_grammar.proofs.Fields.{IsBytes-take}
use Rattle.byte_grammar.proofs.GatedLaws.{IsBytes-drop}
use Rattle.history_model.specs.Segments.{segment_start, segment_end, segment, last_segment, found_in, found_from}
use Rattle.history_model.specs.Stored.{items_of}

-- a segment starts below the limit of a file
pub starts_below : (q : ℕ) → q ≤ 1023 → segment_start q < 67108864
starts_below zero few = omega arith
starts_below (suc q) few = omega (arith, few)

pub starts_low : (q : ℕ) → segment_start q < segment_end q
starts_low zero = omega arith
starts_low (suc q) = omega arith

-- and within the file
pub starts_inside : (q : ℕ) (bytes : List ℕ) → 64 < length bytes → q ≤ last_segment bytes → segment_start q < length bytes
starts_inside zero bytes long has = long
starts_inside (suc q) bytes long has = omega (arith, long, has)

pub segment_bytes : (q : ℕ) (bytes : List ℕ) → IsBytes bytes → IsBytes (segment q bytes)
segment_bytes q bytes fits = IsBytes-take (segment_end q - segment_start q) (drop (segment_start q) bytes) (IsBytes-drop (segment_start q) bytes fits)

pub some_bytes : (q : ℕ) (bytes : List ℕ) → 64 < length bytes → q ≤ last_segment bytes → 0 < length (segment q bytes)
some_bytes q bytes long has =
    let inside = starts_inside q bytes long has in
    let low = starts_low q in
    omega (arith, inside, low, length-take (segment_end q - segment_start q) (drop (segment_start q) bytes), length-drop (segment_start q) bytes)

-- the items of so many segments
pub items_of_segments : (shape : Shape) (n q : ℕ) (bytes : List ℕ) → items_of (found_from shape q n bytes) ≡ flat_map (λ r. items_of (found_in shape r bytes).0) (range_with_len q n)
items_of_segments shape zero q bytes = refl
items_of_segments shape (suc n) q bytes =
    filter_map-append item_of (found_in shape q bytes).0 (found_from shape (q + 1) n bytes)
    ∙ ap (λ (items : List Item). items_of (found_in shape q bytes).0 ++ items) (items_of_segments shape n (q + 1) bytes)

-- where each segment has the same ones
pub same_items : (f g : ℕ → List Item) (n q : ℕ) → ((r : ℕ) → r < q + n → f r ≡ g r) → flat_map f (range_with_len q n) ≡ flat_map g (range_with_len q n)
same_items f g zero q same = refl
same_items f g (suc n) q same = ap₂ (λ (a b : List Item). a ++ b) (same q (omega arith)) (same_items f g n (q + 1) (λ r below. same r (omega (arith, below))))

-- the last segment apart
pub at_last : (shape : Shape) (n a : ℕ) (x : List ℕ) → found_from shape a (suc n) x ≡ found_from shape a n x ++ (found_in shape (a + n) x).0
at_last shape zero a x = append-nil (found_in shape a x).0 ∙ ap (λ (r : ℕ). (found_in shape r x).0) (let e : a ≡ a + 0 = omega arith in e)
at_last shape (suc n) a x =
    ap (λ (ps : List (List ℕ)). (found_in shape a x).0 ++ ps) (at_last shape n (a + 1) x ∙ ap (λ (r : ℕ). found_from shape (a + 1) n x ++ (found_in shape r x).0) (let e : a + 1 + n ≡ a + suc n = omega arith in e))
    ∙ sym (append_assoc (found_in shape a x).0 (found_from shape (a + 1) n x) (found_in shape (a + suc n) x).0)
