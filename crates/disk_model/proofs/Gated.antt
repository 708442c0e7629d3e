-- What a crash leaves of a piece that is written behind a closed gate before the gate is opened.
use Rattle.std.proofs.Common.{◌≡◌, inl, inr, ℕ, ◌+◌, ◌<◌, List, [], ◌∷◌, ◌++◌, length, take, drop, sym, ◌∙◌, ap, subst, arith, append_assoc, length-append, Result, Ok, Err, OnOk, rules}
use Rattle.std.specs.Prelude.{◌≢◌, slice_index}
use Rattle.std.proofs.lemmas.List.{places, same_lists, take_at, drop_at, take_more, drop_more, take-append-drop, length-take-le}
use Rattle.std.proofs.lemmas.Bool.{cases_eq}
use Rattle.disk_words.specs.declared.DiskFail.{DiskFail}
use Rattle.disk_words.specs.Disk.{State, written, Torn}
use Rattle.disk_words.proofs.TornParts.{torn_front, torn_back}
use Rattle.disk_model.specs.Moments.{written_all, AllWithin, CutShort, Secures}
use Rattle.disk_model.specs.Gate.{gated_writes, IsClosed, with_piece, IsOldOrNew, ShowsAllOrNothing}
use Rattle.disk_model.proofs.Moments.{weaker}

module _ (gate open_byte : ℕ) (piece before : List ℕ) (at : IsClosed gate open_byte before) where
  -- the piece is behind the gate, and the gate is this
  abbrev behind : ℕ → List ℕ
  behind g = take gate before ++ (g ∷ piece) ++ drop (gate + 1 + length piece) before

  length-front : length (take gate before) ≡ gate
  length-front = length-take-le gate before (omega (arith, at.within))

  wrote : written (gate + 1) piece before ≡ behind (slice_index before gate)
  wrote =
      let tail = drop (gate + 1 + length piece) before in
      ap (λ (l : List ℕ). l ++ piece ++ tail) (take_more before gate 0 at.within)
      ∙ ap (λ (l : List ℕ). l ++ tail) (append_assoc (take gate before) (slice_index before gate ∷ []) piece)

  opened : (g : ℕ) → written gate (open_byte ∷ []) (behind g) ≡ behind open_byte
  opened g =
      let front = length-front in
      let within = at.within in
      same_lists _ _ (search (rules, places)) (λ k d h. grind (arith, places))

  front-behind : (g : ℕ) → take gate (behind g) ≡ take gate before
  front-behind g =
      ap (take gate) (append_assoc (take gate before) (g ∷ piece) (drop (gate + 1 + length piece) before))
      ∙ take_at (take gate before) ((g ∷ piece) ++ drop (gate + 1 + length piece) before) gate length-front

  back-behind : (g : ℕ) → drop (gate + 1) (behind g) ≡ piece ++ drop (gate + 1 + length piece) before
  back-behind g =
      let tail = drop (gate + 1 + length piece) before in
      let split = append_assoc (take gate before) (g ∷ piece) tail ∙ sym (append_assoc (take gate before) (g ∷ []) (piece ++ tail)) in
      ap (drop (gate + 1)) split ∙ drop_at (take gate before ++ g ∷ []) (piece ++ tail) (gate + 1) (omega (arith, length-append (take gate before) (g ∷ []), length-front))

  room : (g : ℕ) → gate < length (behind g)
  room g = let front = length-front in grind (arith, places)

  pub all_written : written_all (gated_writes gate open_byte piece) before ≡ with_piece gate open_byte piece before
  all_written = ap (written gate (open_byte ∷ [])) wrote ∙ opened (slice_index before gate)

  pub all_within : AllWithin (gated_writes gate open_byte piece) before
  all_within = (omega (arith, at.within), (omega (arith, ap length wrote, room (slice_index before gate)), tt))

  -- the gate is closed, and all before it is as it was
  old : (c : List ℕ) → gate < length c → slice_index c gate ≢ open_byte → take gate c ≡ take gate before → IsOldOrNew gate open_byte piece before c
  old c within closed front = inl (record { closed = record { within = within; closed = closed }; front = front })

  -- while the piece is on its way
  on_its_way : (c : List ℕ) → Torn (gate + 1) (length piece) before c → IsOldOrNew gate open_byte piece before c
  on_its_way c torn = old c (omega (arith, at.within, torn.no_shorter)) (λ is. at.closed (sym (torn.below gate at.within (omega arith)) ∙ is)) (torn_front gate (gate + 1) (length piece) before c (omega arith) (omega (arith, at.within)) torn)

  -- while the gate is, whose byte may be any
  opening : (c : List ℕ) → Torn gate 1 (behind (slice_index before gate)) c → IsOldOrNew gate open_byte piece before c
  opening c torn = elim (cases_eq (slice_index c gate) open_byte) [
    | inl is_open ↦ inr (whole ∙ ap behind is_open)
    | inr closed ↦ old c within closed front
  ]
    where
      within : gate < length c
      within = omega (arith, room (slice_index before gate), torn.no_shorter)

      front : take gate c ≡ take gate before
      front = torn_front gate gate 1 (behind (slice_index before gate)) c (omega arith) (omega (arith, room (slice_index before gate))) torn ∙ front-behind (slice_index before gate)

      whole : c ≡ behind (slice_index c gate)
      whole =
          let tail = drop (gate + 1 + length piece) before in
          let there : drop (gate + 1) c ≡ piece ++ tail = torn_back gate 1 (behind (slice_index before gate)) c (omega (arith, room (slice_index before gate))) torn ∙ back-behind (slice_index before gate) in
          sym (take-append-drop gate c)
          ∙ ap (λ (l : List ℕ). take gate c ++ l) (drop_more c gate 0 within ∙ ap (λ (l : List ℕ). slice_index c gate ∷ l) there)
          ∙ ap (λ (l : List ℕ). l ++ (slice_index c gate ∷ (piece ++ tail))) front
          ∙ sym (append_assoc (take gate before) (slice_index c gate ∷ piece) tail)

  -- all of it
  pub each : (c : List ℕ) → CutShort (gated_writes gate open_byte piece) before c → IsOldOrNew gate open_byte piece before c
  each c (inl torn) = on_its_way c torn
  each c (inr (inl torn)) = opening c (subst (λ (l : List ℕ). Torn gate 1 l c) wrote torn)
  each c (inr (inr is)) = inr (is ∙ all_written)

-- what follows of the run
pub shows_all_or_nothing : (gate open_byte : ℕ) (piece : List ℕ) (result : Result (Unit {0}) DiskFail) (old new : State) (b a : List ℕ) → Secures (gated_writes gate open_byte piece) result old new b a → ShowsAllOrNothing gate open_byte piece result old new b a
shows_all_or_nothing gate open_byte piece result old new b a run = record {
  shown = on_ok result run.written;
  images = λ at only. weaker (run.images only (all_within gate open_byte piece b at)) (each gate open_byte piece b at);
}
  where
    on_ok : (result : Result (Unit {0}) DiskFail) → OnOk result (AllWithin (gated_writes gate open_byte piece) b → a ≡ written_all (gated_writes gate open_byte piece) b) → OnOk result (IsClosed gate open_byte b → a ≡ with_piece gate open_byte piece b)
    on_ok (Ok _) written = λ at. written (all_within gate open_byte piece b at) ∙ all_written gate open_byte piece b at
    on_ok (Err e) none = tt
