-- Bytes after a gate, with one byte more, and with one record more.
use Rattle.std.proofs.Common.{◌≡◌, ◌≢◌, ℕ, suc, ◌+◌, ◌-◌, ◌<◌, Bool, true, false, cond, eqb, eq-eqb, List, [], ◌∷◌, ◌++◌, length, get_or, take, drop, drop-cons, length-drop, Option, Some, None, refl, sym, ap, ◌∙◌, arith}
use Rattle.std.specs.Prelude.{◌&&◌}
use Rattle.std.proofs.lemmas.Bool.{ne_eqb}
use Rattle.std.proofs.lemmas.List.{length-take, drop-drop, take_more, take_all, get_or-drop}
use Rattle.byte_grammar.specs.Gated.{Shape, open_gate, named_length, payload_at, records, with_first}
use Rattle.byte_grammar.proofs.GatedLaws.{Framed, records_step, records_stop}
use Rattle.txn_journal.proofs.Frames.{record_from}
use Rattle.txn_journal.proofs.SameFront.{no_record}
use Rattle.file_findings.specs.Tail.{filled, hidden}

-- ---- one byte more

filled_push : (xs : List ℕ) (b : ℕ) → filled (xs ++ b ∷ []) ≡ cond (eqb b 0) (filled xs) (length xs + 1)
filled_push [] b = by (eqb b 0)
  where
    by : (z : Bool) → cond (z && true) 0 (0 + 1) ≡ cond z 0 (0 + 1)
    by true = refl
    by false = refl
filled_push (x ∷ xs) b = rw (filled_push xs b) (by (eqb b 0))
  where
    at : (z : Bool) → cond (z && false) 0 (length xs + 1 + 1) ≡ suc (length xs) + 1
    at true = omega arith
    at false = omega arith

    by : (z : Bool) → cond (eqb x 0 && eqb (cond z (filled xs) (length xs + 1)) 0) 0 (cond z (filled xs) (length xs + 1) + 1) ≡ cond z (filled (x ∷ xs)) (suc (length xs) + 1)
    by true = refl
    by false =
        let some : eqb (length xs + 1) 0 ≡ false = ne_eqb _ _ (omega arith) in
        rw some (at (eqb x 0))

module _ (bytes : List ℕ) (i count b : ℕ) (below : i < length bytes) (at : b ≡ get_or bytes i 0) (so_far : count ≡ filled (take i bytes)) where
  pushed : filled (take (i + 1) bytes) ≡ cond (eqb b 0) (filled (take i bytes)) (length (take i bytes) + 1)
  pushed = ap filled (take_more bytes i 0 below) ∙ ap (λ (x : ℕ). filled (take i bytes ++ x ∷ [])) (sym at) ∙ filled_push (take i bytes) b

  pub filled_zero : b ≡ 0 → count ≡ filled (take (i + 1) bytes)
  filled_zero is = so_far ∙ sym (pushed ∙ ap (λ (z : Bool). cond z (filled (take i bytes)) (length (take i bytes) + 1)) (eq-eqb b 0 is))

  pub filled_some : b ≢ 0 → i + 1 ≡ filled (take (i + 1) bytes)
  filled_some isnt =
      let n : i + 1 ≡ length (take i bytes) + 1 = omega (arith, length-take i bytes, below) in
      n ∙ sym (pushed ∙ ap (λ (z : Bool). cond z (filled (take i bytes)) (length (take i bytes) + 1)) (ne_eqb b 0 isnt))

-- ---- one record more

-- with those before them, all that are hidden
abbrev pub AreHidden : Shape → ℕ → List ℕ → ℕ → ℕ → Type 0
AreHidden shape gate after count at = count + length (records shape (gate + at) 0 (open_gate ∷ drop at after)).0 ≡ hidden shape gate after

-- a slice up to the end
pub to_end : (shape : Shape) (place at : ℕ) (after : List ℕ) (o : Option (List ℕ)) → payload_at shape place (open_gate ∷ take (length after - at) (drop at after)) ≡ o → payload_at shape place (open_gate ∷ drop at after) ≡ o
to_end shape place at after o e = ap (λ (l : List ℕ). payload_at shape place (open_gate ∷ l)) (sym (take_all (length after - at) (drop at after) (omega (arith, length-drop at after)))) ∙ e

pub none_hidden : (shape : Shape) (gate : ℕ) (after : List ℕ) → AreHidden shape gate after 0 0
none_hidden shape gate after =
    let at : gate + 0 ≡ gate = omega arith in
    omega (arith, ap (λ (k : ℕ). length (records shape k 0 (open_gate ∷ after)).0) at)

pub no_more : (shape : Shape) (gate : ℕ) (after : List ℕ) (count at : ℕ) → AreHidden shape gate after count at → payload_at shape (gate + at) (open_gate ∷ drop at after) ≡ None → count ≡ hidden shape gate after
no_more shape gate after count at all none =
    omega (arith, all, ap (λ (r : List (List ℕ) × ℕ). length r.0) (records_stop shape (gate + at) (open_gate ∷ drop at after) none))

module _ (shape : Shape) (gate at : ℕ) (after payload : List ℕ) (found : payload_at shape (gate + at) (open_gate ∷ drop at after) ≡ Some payload) where
  framed : Framed shape (gate + at) (open_gate ∷ drop at after)
  framed = (record_from shape (gate + at) (open_gate ∷ drop at after) payload found).framed

  size : named_length (open_gate ∷ drop at after) ≡ length payload
  size =
      let r = record_from shape (gate + at) (open_gate ∷ drop at after) payload found in
      omega (arith, ap length r.payload_is, length-take (named_length (open_gate ∷ drop at after)) (drop 5 (open_gate ∷ drop at after)), length-drop 5 (open_gate ∷ drop at after), framed.room)

  -- the next gate is within the bytes
  pub next_within : at + 4 + length payload < length after
  next_within = omega (arith, size, framed.room, length-drop at after)

  behind : drop (5 + length payload) (open_gate ∷ drop at after) ≡ drop (at + 4 + length payload) after
  behind =
      let n : 5 + length payload ≡ suc (4 + length payload) = omega arith in
      let m : at + (4 + length payload) ≡ at + 4 + length payload = omega arith in
      rw n (drop-drop (4 + length payload) at after ∙ ap (λ (k : ℕ). drop k after) m)

  stepped : records shape (gate + at) 0 (open_gate ∷ drop at after) ≡ with_first payload (records shape (gate + at + 5 + length payload) 0 (drop (at + 4 + length payload) after))
  stepped =
      records_step shape (gate + at) (open_gate ∷ drop at after) payload found framed
      ∙ ap (λ (n : ℕ). with_first payload (records shape (gate + at + 5 + n) 0 (drop (5 + n) (open_gate ∷ drop at after)))) size
      ∙ ap (λ (l : List ℕ). with_first payload (records shape (gate + at + 5 + length payload) 0 l)) behind

  -- a closed gate follows
  pub closed_after : (count : ℕ) → AreHidden shape gate after count at → get_or after (at + 4 + length payload) 0 ≢ 167 → count + 1 ≡ hidden shape gate after
  closed_after count all shut =
      let none : at + 4 + length payload + 0 ≡ at + 4 + length payload = omega arith in
      let front : get_or (drop (at + 4 + length payload) after) 0 0 ≡ get_or after (at + 4 + length payload) 0 = get_or-drop (at + 4 + length payload) after 0 0 ∙ ap (λ (k : ℕ). get_or after k 0) none in
      let stop = records_stop shape (gate + at + 5 + length payload) (drop (at + 4 + length payload) after) (no_record shape (gate + at + 5 + length payload) (drop (at + 4 + length payload) after) (λ e. shut (sym front ∙ e))) in
      omega (arith, all, ap (λ (r : List (List ℕ) × ℕ). length r.0) stepped, ap (λ (r : List (List ℕ) × ℕ). length r.0) stop)

  -- an open one does
  pub open_after : (count : ℕ) → AreHidden shape gate after count at → get_or after (at + 4 + length payload) 0 ≡ 167 → AreHidden shape gate after (count + 1) (at + 4 + length payload + 1)
  open_after count all gate_is =
      let next : suc (at + 4 + length payload) ≡ at + 4 + length payload + 1 = omega arith in
      let cut : drop (at + 4 + length payload) after ≡ open_gate ∷ drop (at + 4 + length payload + 1) after =
      drop-cons after (at + 4 + length payload) 0 next_within ∙ ap (λ (b : ℕ). b ∷ drop (suc (at + 4 + length payload)) after) gate_is ∙ ap (λ (k : ℕ). open_gate ∷ drop k after) next in
      let place : gate + at + 5 + length payload ≡ gate + (at + 4 + length payload + 1) = omega arith in
      let same : records shape (gate + at + 5 + length payload) 0 (drop (at + 4 + length payload) after) ≡ records shape (gate + (at + 4 + length payload + 1)) 0 (open_gate ∷ drop (at + 4 + length payload + 1) after) =
      ap (records shape (gate + at + 5 + length payload) 0) cut ∙ ap (λ (k : ℕ). records shape k 0 (open_gate ∷ drop (at + 4 + length payload + 1) after)) place in
      omega (arith, all, ap (λ (r : List (List ℕ) × ℕ). length r.0) stepped, ap (λ (r : List (List ℕ) × ℕ). length r.0) same)
