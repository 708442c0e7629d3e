-- The writes of an append put its record where it goes.
use Rattle.std.proofs.Common.{◌≡◌, ℕ, ◌+◌, ◌-◌, ◌<◌, ◌≤◌, Bool, true, false, cond, eqb, ltb, List, [], ◌∷◌, ◌++◌, length, take, drop, replicate, refl, sym, ap, ◌∙◌, arith, append_assoc, length-append}
use Rattle.std.specs.Prelude.{slice_index}
use borrow.Author.Tests.{ltb-true, ltb-false}
use Rattle.std.proofs.lemmas.List.{take_at, drop_at, drop-drop, length-take-le, length-replicate}
use Rattle.disk_words.specs.Disk.{written}
use Rattle.disk_model.specs.Gate.{gated_writes, IsClosed, with_piece}
use Rattle.disk_model.specs.Moments.{written_all}
use Rattle.disk_model.proofs.Gated as gated
use Rattle.byte_grammar.specs.Gated.{open_gate}
use Rattle.txn_journal.specs.Append.{behind_gate, addition}
use Rattle.txn_journal.proofs.Appending.{over, at_over}
use Rattle.txn_journal.proofs.Replaced.{all_appended}
use Rattle.segment_file.specs.Append.{append_writes}
use Rattle.history_model.specs.Placing.{next_start}
use Rattle.segment_file.specs.Writes.{closes, fills, placed}
use Rattle.segment_file.proofs.SegmentAppends.{written_length}
use Rattle.store_engine.specs.Appended.{standing, filled_to, with_piece_within}

-- a closed gate is written at a place, also right behind all bytes, and a piece behind it
module _ (p : ℕ) (piece x : List ℕ) (room : p ≤ length x) where
  over_front : take p (over p 0 x) ≡ take p x
  over_front =
      ap (take p) (append_assoc (take p x) (0 ∷ []) (drop (p + 1) x))
      ∙ take_at (take p x) (0 ∷ drop (p + 1) x) p (length-take-le p x room)

  over_back : drop (p + 1 + length piece) (over p 0 x) ≡ drop (p + 1 + length piece) x
  over_back =
      let at : length (take p x ++ 0 ∷ []) ≡ p + 1 = omega (arith, length-append (take p x) (0 ∷ []), length-take-le p x room) in
      let behind : drop (p + 1) (over p 0 x) ≡ drop (p + 1) x = drop_at (take p x ++ 0 ∷ []) (drop (p + 1) x) (p + 1) at in
      sym (drop-drop (length piece) (p + 1) (over p 0 x)) ∙ ap (drop (length piece)) behind ∙ drop-drop (length piece) (p + 1) x

  over_closed : IsClosed p open_gate (over p 0 x)
  over_closed = record { within = omega (arith, written_length p (0 ∷ []) x room); closed = (let shut = at_over p 0 x room in omega (arith, shut)) }

  begun : written_all ((p, 0 ∷ []) ∷ gated_writes p open_gate piece) x ≡ with_piece p open_gate piece x
  begun =
      gated.all_written p open_gate piece (over p 0 x) over_closed
      ∙ ap (λ (front : List ℕ). front ++ (open_gate ∷ piece) ++ drop (p + 1 + length piece) (over p 0 x)) over_front
      ∙ ap (λ (back : List ℕ). take p x ++ (open_gate ∷ piece) ++ back) over_back

module _ (end : ℕ) (payload : List ℕ) where
  abbrev nx : ℕ
  nx = next_start end

  abbrev piece : List ℕ
  piece = behind_gate payload

  closes_are : (g : Bool) → closes g end (gated_writes end open_gate (behind_gate payload)) ≡ addition g end payload
  closes_are true = refl
  closes_are false = refl

  -- ---- at the next start

  begins : (y : List ℕ) → end < length y → (d : Bool) → ltb (length y) (next_start end) ≡ d
      → written_all (fills d end (next_start end) ((next_start end, 0 ∷ []) ∷ gated_writes (next_start end) open_gate (behind_gate payload))) y
      ≡ with_piece (next_start end) open_gate (behind_gate payload) (cond d (written (end + 1) (replicate (next_start end - (end + 1)) 0) y) y)
  begins y room true is =
      let short = ltb-true (length y) nx is in
      let all = written_length (end + 1) (replicate (nx - (end + 1)) 0) y (omega (arith, room)) in
      let size = length-replicate {A = ℕ} (nx - (end + 1)) 0 in
      begun nx piece (written (end + 1) (replicate (nx - (end + 1)) 0) y) (omega (arith, all, size, short, room))
  begins y room false is =
      let long = ltb-false (length y) nx is in
      begun nx piece y (omega (arith, long))

  -- where the file is as long as before
  begins_at : (y : List ℕ) (size : ℕ) → size ≡ length y → end < length y
      → written_all (fills (ltb size (next_start end)) end (next_start end) ((next_start end, 0 ∷ []) ∷ gated_writes (next_start end) open_gate (behind_gate payload))) y
      ≡ with_piece (next_start end) open_gate (behind_gate payload) (filled_to (next_start end) end y)
  begins_at y size is room =
      ap (λ (n : ℕ). written_all (fills (ltb n nx) end nx ((nx, 0 ∷ []) ∷ gated_writes nx open_gate piece)) y) is
      ∙ begins y room (ltb (length y) nx) refl

  module _ (x : List ℕ) (room : end < length x) where
    shut_length : length x ≡ length (over end 0 x)
    shut_length = let all = written_length end (0 ∷ []) x (omega (arith, room)) in omega (arith, all, room)

    goes_on : (g : Bool) → eqb (slice_index x end) open_gate ≡ g
        → written_all (closes g end (fills (ltb (length x) (next_start end)) end (next_start end) ((next_start end, 0 ∷ []) ∷ gated_writes (next_start end) open_gate (behind_gate payload)))) x
        ≡ with_piece (next_start end) open_gate (behind_gate payload) (filled_to (next_start end) end (cond g (over end 0 x) x))
    goes_on true is = begins_at (over end 0 x) (length x) shut_length (let e = shut_length in omega (arith, room, e))
    goes_on false is = begins_at x (length x) refl room

    with_placed : (within : Bool)
        → written_all (closes (eqb (slice_index x end) open_gate) end (placed within (ltb (length x) (next_start end)) end (next_start end) (behind_gate payload))) x
        ≡ with_piece_within within end (next_start end) (behind_gate payload) x
    with_placed true = ap (λ (w : List (ℕ × List ℕ)). written_all w x) (closes_are (eqb (slice_index x end) open_gate)) ∙ all_appended end payload x room
    with_placed false = goes_on (eqb (slice_index x end) open_gate) refl

-- of any bytes within which the end lies
pub all_placed : (end : ℕ) (payload x : List ℕ) → end < length x
    → written_all (append_writes (standing end x) payload) x ≡ with_piece_within (ltb (end + 5 + length payload) (next_start end)) end (next_start end) (behind_gate payload) x
all_placed end payload x room = with_placed end payload x room (ltb (end + 5 + length payload) (next_start end))
