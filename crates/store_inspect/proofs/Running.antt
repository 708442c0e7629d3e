-- The records of a run, one by one, and what stands after its gate.
use Rattle.std.proofs.Common.{◌≡◌, ℕ, zero, suc, ◌+◌, ◌-◌, ◌<◌, ◌≤◌, Bool, true, false, List, [], ◌∷◌, ◌++◌, length, get_or, take, drop, length-drop, append_assoc, Option, Some, None, refl, sym, ap, ◌∙◌, arith}
use Rattle.std.specs.List.{flat_map, range_with_len}
use Rattle.std.proofs.lemmas.List.{append-nil, length-take, drop-drop, drop-take, take_all, get_or-take}
use Rattle.std.proofs.lemmas.List.Elements.{filter_map-append}
use Rattle.tuple_bytes.specs.declared.item.Item.{Item}
use Rattle.tuple_bytes.specs.Items.{item_of}
use Rattle.byte_grammar.specs.Gated.{named_length, payload_at, records, with_first}
use Rattle.byte_grammar.proofs.GatedLaws.{records_step, records_stop}
use Rattle.txn_journal.proofs.Frames.{record_from}
use Rattle.history_model.specs.declared.format.Format.{Format}
use Rattle.history_model.specs.declared.format.Format.TheVariants.{One, Two}
use Rattle.history_model.specs.Heads.{is_segmented, format_by}
use Rattle.history_model.specs.Stored.{store_shape, max_file, header_length, items_of, found_behind}
use Rattle.history_model.specs.Segments.{segment_start, segment_end, segment, last_segment, found_in}
use Rattle.history_model.proofs.SegmentRuns.{starts_low, starts_inside, items_of_segments}
use Rattle.history_model.proofs.Replays.{behind, IsReplaying}
use Rattle.file_findings.specs.declared.tail.Ending.{Ending}
use Rattle.file_findings.specs.Tail.{tail_of}
use Rattle.store_inspect.specs.Reading.{IsRun}
use Rattle.store_inspect.specs.Runs.{runs_in, limit_of, run_of, after_gate, ending_of, tail_from, tail_at}

-- ---- a record more

-- a slice up to the end
pub to_end : (place : ℕ) (bytes : List ℕ) (o : Option (List ℕ)) → payload_at store_shape place (take (length bytes - place) (drop place bytes)) ≡ o → payload_at store_shape place (drop place bytes) ≡ o
to_end place bytes o e = ap (payload_at store_shape place) (sym (take_all (length bytes - place) (drop place bytes) (omega (arith, length-drop place bytes)))) ∙ e

one_more : (items : List Item) (payload : List ℕ) (found : List (List ℕ) × ℕ) → behind (items ++ items_of (payload ∷ [])) found ≡ behind items (with_first payload found)
one_more items payload found =
    ap (λ (x : List Item). (x, found.1)) (append_assoc items (items_of (payload ∷ [])) (items_of found.0) ∙ ap (λ (x : List Item). items ++ x) (sym (filter_map-append item_of (payload ∷ []) found.0)))

module _ (bytes : List ℕ) (place : ℕ) (payload : List ℕ) (found : payload_at store_shape place (drop place bytes) ≡ Some payload) where
  size : named_length (drop place bytes) ≡ length payload
  size =
      let r = record_from store_shape place (drop place bytes) payload found in
      omega (arith, ap length r.payload_is, length-take (named_length (drop place bytes)) (drop 5 (drop place bytes)), length-drop 5 (drop place bytes), r.framed.room)

  -- the next gate is within the bytes
  pub next_inside : place + (5 + length payload) < length bytes
  next_inside =
      let r = record_from store_shape place (drop place bytes) payload found in
      omega (arith, size, r.framed.room, length-drop place bytes)

  pub goes_on : (all : List Item × ℕ) (items : List Item) → IsReplaying all bytes place items → IsReplaying all bytes (place + (5 + length payload)) (items ++ items_of (payload ∷ []))
  goes_on all items before =
      let r = record_from store_shape place (drop place bytes) payload found in
      let at : place + 5 + length payload ≡ place + (5 + length payload) = omega arith in
      let step : records store_shape place 0 (drop place bytes) ≡ with_first payload (records store_shape (place + (5 + length payload)) 0 (drop (place + (5 + length payload)) bytes)) =
      records_step store_shape place (drop place bytes) payload found r.framed
      ∙ ap (λ (n : ℕ). with_first payload (records store_shape (place + 5 + n) 0 (drop (5 + n) (drop place bytes)))) size
      ∙ ap (λ (k : ℕ). with_first payload (records store_shape k 0 (drop (5 + length payload) (drop place bytes)))) at
      ∙ ap (λ (l : List ℕ). with_first payload (records store_shape (place + (5 + length payload)) 0 l)) (drop-drop (5 + length payload) place bytes) in
      one_more items payload (records store_shape (place + (5 + length payload)) 0 (drop (place + (5 + length payload)) bytes)) ∙ ap (behind items) (sym step) ∙ before

-- all of a run was read
pub run_ends : (before items : List Item) (found : List (List ℕ) × ℕ) (bytes : List ℕ) (place : ℕ) → IsReplaying (behind before found) bytes place items → payload_at store_shape place (drop place bytes) ≡ None → IsRun before found items place
run_ends before items found bytes place all none =
    let stop = records_stop store_shape place (drop place bytes) none in
    let is : (items, place) ≡ behind before found = ap (λ (x : List Item). (x, place)) (sym (append-nil items)) ∙ ap (behind items) (sym stop) ∙ all in
    record { items_are = ap (λ (r : List Item × ℕ). r.0) is; gate_is = ap (λ (r : List Item × ℕ). r.1) is }

-- ---- which run it is

pub few_runs : (format : Format) (q : ℕ) (bytes : List ℕ) → q < runs_in format bytes → q ≤ 1023
few_runs One q bytes has = omega (arith, has)
few_runs Two q bytes has = omega (arith, has)

pub run_inside : (format : Format) (q start : ℕ) (own bytes : List ℕ) → own ≡ take (limit_of format q) bytes → start ≡ segment_start q → 64 < length bytes → q < runs_in format bytes → start < length own
run_inside One q start own bytes is at long has =
    let none : q ≡ 0 = omega (arith, has) in
    let from : start ≡ 64 = at ∙ ap segment_start none in
    omega (arith, ap length is, length-take max_file bytes, long, from)
run_inside Two q start own bytes is at long has =
    omega (arith, ap length is, length-take (segment_end q) bytes, starts_low q, starts_inside q bytes long (omega (arith, has)), at)

cut_segment : (q : ℕ) (bytes : List ℕ) → drop (segment_start q) (take (segment_end q) bytes) ≡ segment q bytes
cut_segment q bytes =
    ap (λ (k : ℕ). drop (segment_start q) (take k bytes)) (let low = starts_low q in let k : segment_end q ≡ segment_start q + (segment_end q - segment_start q) = omega (arith, low) in k)
    ∙ drop-take (segment_start q) (segment_end q - segment_start q) bytes

pub run_is : (format : Format) (q start : ℕ) (own bytes : List ℕ) → own ≡ take (limit_of format q) bytes → start ≡ segment_start q → length bytes ≤ max_file → q < runs_in format bytes
    → records store_shape start 0 (drop start own) ≡ run_of format q bytes
unfolding found_in
run_is One q start own bytes is at short has =
    let none : q ≡ 0 = omega (arith, has) in
    let from : start ≡ 64 = at ∙ ap segment_start none in
    let all : own ≡ bytes = is ∙ take_all max_file bytes short in
    ap (λ (k : ℕ). records store_shape k 0 (drop k own)) from ∙ ap (λ (l : List ℕ). records store_shape 64 0 (drop 64 l)) all
run_is Two q start own bytes is at short has =
    ap (λ (k : ℕ). records store_shape k 0 (drop k own)) at ∙ ap (λ (l : List ℕ). records store_shape (segment_start q) 0 (drop (segment_start q) l)) is ∙ ap (records store_shape (segment_start q) 0) (cut_segment q bytes)

-- ---- what stands after its gate

pub tail_is : (format : Format) (q gate limit : ℕ) (own bytes : List ℕ) → limit ≡ limit_of format q → own ≡ take limit bytes → gate < length own
    → tail_of store_shape (ending_of format q gate (get_or own gate 0) (length (drop (gate + 1) own))) (drop (gate + 1) own) ≡ tail_from format bytes q gate
tail_is format q gate limit own bytes lim is inside =
    let within : gate < limit = omega (arith, ap length is, length-take limit bytes) in
    let parts : limit ≡ (gate + 1) + (limit - (gate + 1)) = omega (arith, within) in
    let after : drop (gate + 1) own ≡ after_gate gate limit bytes =
    ap (drop (gate + 1)) is ∙ ap (λ (k : ℕ). drop (gate + 1) (take k bytes)) parts ∙ drop-take (gate + 1) (limit - (gate + 1)) bytes in
    let byte : get_or own gate 0 ≡ get_or bytes gate 0 = ap (λ (l : List ℕ). get_or l gate 0) is ∙ get_or-take limit bytes gate 0 within in
    ap (λ (b : ℕ). tail_of store_shape (ending_of format q gate b (length (drop (gate + 1) own))) (drop (gate + 1) own)) byte
    ∙ ap (λ (l : List ℕ). tail_of store_shape (ending_of format q gate (get_or bytes gate 0) (length l)) l) after
    ∙ ap (λ (k : ℕ). tail_of store_shape (ending_of format q gate (get_or bytes gate 0) (length (after_gate gate k bytes))) (after_gate gate k bytes)) lim

pub run_tail : (format : Format) (q start gate : ℕ) (own bytes slice : List ℕ) (ending : Ending) → own ≡ take (limit_of format q) bytes → start ≡ segment_start q → length bytes ≤ max_file → q < runs_in format bytes
    → gate < length own → gate ≡ (records store_shape start 0 (drop start own)).1 → ending ≡ ending_of format q gate (get_or own gate 0) (length (drop (gate + 1) own)) → slice ≡ take (length own - (gate + 1)) (drop (gate + 1) own)
    → tail_of store_shape ending slice ≡ tail_at format bytes q
run_tail format q start gate own bytes slice ending is at short has inside ends ending_is cut =
    let whole : slice ≡ drop (gate + 1) own = cut ∙ take_all (length own - (gate + 1)) (drop (gate + 1) own) (omega (arith, length-drop (gate + 1) own)) in
    let gate_is : gate ≡ (run_of format q bytes).1 = ends ∙ ap (λ (found : List (List ℕ) × ℕ). found.1) (run_is format q start own bytes is at short has) in
    ap (λ (e : Ending). tail_of store_shape e slice) ending_is
    ∙ ap (tail_of store_shape (ending_of format q gate (get_or own gate 0) (length (drop (gate + 1) own)))) whole
    ∙ tail_is format q gate (limit_of format q) own bytes refl is inside
    ∙ ap (tail_from format bytes q) gate_is

-- ---- one run more

flat_from : {A : Type 0} (f : ℕ → List A) (n a : ℕ) → flat_map f (range_with_len a (suc n)) ≡ flat_map f (range_with_len a n) ++ f (a + n)
flat_from f zero a = append-nil (f a) ∙ ap f (let e : a ≡ a + 0 = omega arith in e)
flat_from {A} f (suc n) a =
    ap (λ (l : List A). f a ++ l) (flat_from f n (a + 1) ∙ ap (λ (k : ℕ). flat_map f (range_with_len (a + 1) n) ++ f k) (let e : a + 1 + n ≡ a + suc n = omega arith in e))
    ∙ sym (append_assoc (f a) (flat_map f (range_with_len (a + 1) n)) (f (a + suc n)))

pub flat_more : {A : Type 0} (f : ℕ → List A) (n : ℕ) (old new more : List A) → old ≡ flat_map f (range_with_len 0 n) → more ≡ f n → new ≡ old ++ more → new ≡ flat_map f (range_with_len 0 (n + 1))
flat_more {A} f n old new more so_far same is =
    let one : suc n ≡ n + 1 = omega arith in
    let at : 0 + n ≡ n = omega arith in
    is ∙ ap (λ (l : List A). l ++ more) so_far ∙ ap (λ (l : List A). flat_map f (range_with_len 0 n) ++ l) same
    ∙ ap (λ (k : ℕ). flat_map f (range_with_len 0 n) ++ f k) (sym at) ∙ sym (flat_from f n 0) ∙ ap (λ (k : ℕ). flat_map f (range_with_len 0 k)) one

-- the items of all runs
items_by : (segmented : Bool) (bytes : List ℕ) → is_segmented bytes ≡ segmented
    → flat_map (λ q. items_of (run_of (format_by segmented) q bytes).0) (range_with_len 0 (runs_in (format_by segmented) bytes)) ≡ items_of (found_behind bytes).0
items_by true bytes is = sym (items_of_segments store_shape (suc (last_segment bytes)) 0 bytes) ∙ rw is refl
items_by false bytes is = append-nil (items_of (records store_shape header_length 0 (drop header_length bytes)).0) ∙ rw is refl

pub all_items : (format : Format) (bytes : List ℕ) → format ≡ format_by (is_segmented bytes)
    → flat_map (λ q. items_of (run_of format q bytes).0) (range_with_len 0 (runs_in format bytes)) ≡ items_of (found_behind bytes).0
all_items format bytes is = ap (λ (f : Format). flat_map (λ q. items_of (run_of f q bytes).0) (range_with_len 0 (runs_in f bytes))) is ∙ items_by (is_segmented bytes) bytes refl
