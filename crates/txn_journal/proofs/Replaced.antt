-- The writes of an append put its record in place of the bytes from the gate on.
use Rattle.std.proofs.Common.{◌≡◌, ℕ, ◌+◌, ◌<◌, Bool, true, false, eqb, List, [], ◌∷◌, ◌++◌, length, take, drop, refl, sym, ap, ◌∙◌, arith, append_assoc, length-append}
use Rattle.std.specs.Prelude.{slice_index}
use Rattle.std.proofs.lemmas.Bool.{eqb-false}
use Rattle.std.proofs.lemmas.List.{take_at, drop_at, drop-drop, length-take-le}
use Rattle.disk_words.proofs.Images.{Torn-written}
use Rattle.disk_model.specs.Gate.{IsClosed, with_piece}
use Rattle.disk_model.specs.Moments.{written_all}
use Rattle.disk_model.proofs.Gated as gated
use Rattle.byte_grammar.specs.Gated.{open_gate}
use Rattle.txn_journal.specs.Append.{behind_gate, addition}
use Rattle.txn_journal.proofs.Appending.{over, at_over}

-- a gate that was closed first, or not, is written over
module _ (end : ℕ) (piece x : List ℕ) (room : end < length x) where
  over_front : take end (over end 0 x) ≡ take end x
  over_front =
      ap (take end) (append_assoc (take end x) (0 ∷ []) (drop (end + 1) x))
      ∙ take_at (take end x) (0 ∷ drop (end + 1) x) end (length-take-le end x (omega (arith, room)))

  over_back : drop (end + 1 + length piece) (over end 0 x) ≡ drop (end + 1 + length piece) x
  over_back =
      let at : length (take end x ++ 0 ∷ []) ≡ end + 1 = omega (arith, length-append (take end x) (0 ∷ []), length-take-le end x (omega (arith, room))) in
      let behind : drop (end + 1) (over end 0 x) ≡ drop (end + 1) x = drop_at (take end x ++ 0 ∷ []) (drop (end + 1) x) (end + 1) at in
      sym (drop-drop (length piece) (end + 1) (over end 0 x)) ∙ ap (drop (length piece)) behind ∙ drop-drop (length piece) (end + 1) x

  over_piece : with_piece end open_gate piece (over end 0 x) ≡ with_piece end open_gate piece x
  over_piece =
      ap (λ (front : List ℕ). front ++ (open_gate ∷ piece) ++ drop (end + 1 + length piece) (over end 0 x)) over_front
      ∙ ap (λ (back : List ℕ). take end x ++ (open_gate ∷ piece) ++ back) over_back

  over_closed : IsClosed end open_gate (over end 0 x)
  over_closed =
      let torn = Torn-written end (0 ∷ []) x in
      record { within = omega (arith, room, torn.no_shorter); closed = (let shut = at_over end 0 x (omega (arith, room)) in omega (arith, shut)) }

pub all_appended : (end : ℕ) (payload x : List ℕ) → end < length x → written_all (addition (eqb (slice_index x end) open_gate) end payload) x ≡ with_piece end open_gate (behind_gate payload) x
all_appended end payload x room = by (eqb (slice_index x end) open_gate) refl
  where
    by : (g : Bool) → eqb (slice_index x end) open_gate ≡ g → written_all (addition g end payload) x ≡ with_piece end open_gate (behind_gate payload) x
    by true is = gated.all_written end open_gate (behind_gate payload) (over end 0 x) (over_closed end (behind_gate payload) x room) ∙ over_piece end (behind_gate payload) x room
    by false is = gated.all_written end open_gate (behind_gate payload) x (record { within = room; closed = eqb-false (slice_index x end) open_gate is })
