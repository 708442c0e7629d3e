-- What a crash leaves while a payload is being added behind a closed gate.
use Rattle.std.proofs.Common.{◌≡◌, ◌≢◌, inl, inr, ℕ, ◌+◌, ◌<◌, ◌≤◌, ◌^◌, Bool, List, [], ◌∷◌, ◌++◌, length, get_or, take, drop, Some, sym, ap, ◌∙◌, arith, append_assoc, take-append-drop, length-append}
use Rattle.std.specs.Int.{w32, to_be_bytes}
use Rattle.std.proofs.lemmas.List.{drop_more, drop_at, take_at, get_or_at, get_or-drop, length-take-le}
use Rattle.disk_words.specs.Disk.{written}
use Rattle.disk_model.specs.Moments.{written_all, AllWithin, CutShort}
use Rattle.disk_model.specs.Gate.{gated_writes, IsClosed, with_piece, IsOldOrNew}
use Rattle.disk_model.proofs.Gated as gated
use Rattle.byte_grammar.specs.Gated.{Shape, spell_record, FitsRecord}
use Rattle.txn_journal.specs.Held.{Held, held_by, with_payload, HoldsOldOrNew}
use Rattle.txn_journal.specs.Append.{behind_gate}
use Rattle.txn_journal.proofs.InFile.{HasParts, end_inside, keeps, gains}

-- a list at a place within it
pub split_at : (c : List ℕ) (end : ℕ) → end < length c → c ≡ take end c ++ (get_or c end 0 ∷ drop (end + 1) c)
split_at c end room = sym (take-append-drop end c) ∙ ap (λ (l : List ℕ). take end c ++ l) (drop_more c end 0 room)

-- one byte is written over
abbrev pub over : ℕ → ℕ → List ℕ → List ℕ
over end byte x = written end (byte ∷ []) x

pub at_over : (end byte : ℕ) (x : List ℕ) → end ≤ length x → get_or (over end byte x) end 0 ≡ byte
at_over end byte x le =
    ap (λ (l : List ℕ). get_or l end 0) (append_assoc (take end x) (byte ∷ []) (drop (end + 1) x))
    ∙ get_or_at (take end x) byte (drop (end + 1) x) 0 end (length-take-le end x le)

module _ (is_head : List ℕ → Bool) (shape : Shape) (held : Held) (payload : List ℕ) (small : shape.max_payload < 2 ^ 32) (fits : FitsRecord shape payload) (within : held.end + 5 + length payload < shape.max_file) (y : List ℕ) (p : HasParts is_head shape held y) (shut : get_or y held.end 0 ≢ 0xA7) where
  abbrev end : ℕ
  end = held.end

  abbrev piece : List ℕ
  piece = behind_gate payload

  abbrev tail : List ℕ
  tail = drop (end + 1 + length piece) y

  room : end < length y
  room = end_inside is_head shape held y p

  at : IsClosed end 0xA7 y
  at = record { within = room; closed = shut }

  -- the record stands behind its open gate
  module _ (c : List ℕ) (is : c ≡ with_piece end 0xA7 piece y) where
    length-front : length (take end y) ≡ end
    length-front = length-take-le end y (omega (arith, room))

    parts : c ≡ take end y ++ ((0xA7 ∷ piece) ++ tail)
    parts = is ∙ append_assoc (take end y) (0xA7 ∷ piece) tail

    c_room : end < length c
    c_room = omega (arith, ap length parts, length-append (take end y) ((0xA7 ∷ piece) ++ tail), length-front)

    c_front : take end c ≡ take end y
    c_front = ap (take end) parts ∙ take_at (take end y) ((0xA7 ∷ piece) ++ tail) end length-front

    c_back : drop end c ≡ spell_record payload ++ (0 ∷ tail)
    c_back =
        ap (drop end) parts ∙ drop_at (take end y) ((0xA7 ∷ piece) ++ tail) end length-front
        ∙ ap (λ (l : List ℕ). 0xA7 ∷ (to_be_bytes w32 (length payload) ++ l)) (append_assoc payload (0 ∷ []) tail)

    gained : held_by is_head shape c ≡ Some (with_payload held payload)
    gained = gains is_head shape held y c p c_room c_front payload (0 ∷ tail) small fits within c_back (omega arith) (omega arith)

    next_gate : get_or c (end + 5 + length payload) 0 ≡ 0
    next_gate =
        let at : end + 5 + length payload ≡ end + (5 + length payload) = omega arith in
        ap (λ (i : ℕ). get_or c i 0) at ∙ sym (get_or-drop end c (5 + length payload) 0) ∙ ap (λ (l : List ℕ). get_or l (5 + length payload) 0) c_back ∙ get_or_at (spell_record payload) 0 tail 0 (5 + length payload) (omega arith)

  pub all_within : AllWithin (gated_writes end 0xA7 piece) y
  all_within = gated.all_within end 0xA7 piece y at

  pub each : (c : List ℕ) → CutShort (gated_writes end 0xA7 piece) y c → HoldsOldOrNew is_head shape held payload c
  each c cut = by (gated.each end 0xA7 piece y at c cut)
    where
      by : IsOldOrNew end 0xA7 piece y c → HoldsOldOrNew is_head shape held payload c
      by (inl old) = inl (keeps is_head shape held y c p old.closed.within old.front old.closed.closed)
      by (inr is) = inr (gained c is)

  module _ (a : List ℕ) (is : a ≡ written_all (gated_writes end 0xA7 piece) y) where
    pub added : held_by is_head shape a ≡ Some (with_payload held payload)
    added = gained a (is ∙ gated.all_written end 0xA7 piece y at)

    pub added_gate : get_or a (end + 5 + length payload) 0 ≡ 0
    added_gate = next_gate a (is ∙ gated.all_written end 0xA7 piece y at)
