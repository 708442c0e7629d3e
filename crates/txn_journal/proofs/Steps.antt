-- A reader goes over a record.
use Rattle.std.proofs.Common.{◌≡◌, ◌≢◌, ℕ, ◌+◌, ◌-◌, ◌<◌, ◌≤◌, Bool, true, false, List, get_or, length, take, drop, Option, Some, None, refl, sym, ap, subst, ◌∙◌, arith}
use Rattle.std.proofs.lemmas.List.{drop-drop, length-take, length-drop, get_or-take, get_or-drop}
use Rattle.std.specs.Prelude.{IfSome, ◌==◌, ◌&&◌, nat_lt, not, slice_index}
use Rattle.byte_grammar.specs.Gated.{Shape, open_gate, payload_at, named_length, with_first, records}
use Rattle.txn_journal.proofs.Frames.{record_from}
use Rattle.std.proofs.lemmas.Bool.{ltb-true, eq-eqb, not-true}
use Rattle.byte_grammar.proofs.Parts.{and_left}
use Rattle.byte_grammar.proofs.GatedLaws.{records_step, records_stop}
use Rattle.txn_journal.proofs.SameFront.{no_record}
use Rattle.txn_journal.proofs.Fronts.{found_in_front, front_decides, drop-take-sub}
use Rattle.txn_journal.specs.Front.{IsAtFront}
use Rattle.txn_journal.specs.Reading.{Reading, limited, ahead, IsSeenIn, IsFilled, StepsOver, StopsAt, ReadsNext, Advances, is_closed_ahead}

abbrev pub reading : ℕ → ℕ → List ℕ → ℕ → List ℕ → Reading
reading place limit payload begin seen = record { place = place; limit = limit; payload = payload; begin = begin; seen = seen }

-- the payload that was found is lent from the window
lent : (r : Reading) (found : List ℕ) → r.begin ≤ r.place → found ≡ take (length found) (drop 5 (ahead r)) → take (length found) (drop (r.place + 5 - r.begin) r.seen) ≡ found
lent r found le is =
    let n : r.place + 5 - r.begin ≡ (r.place - r.begin) + 5 = omega arith in
    ap (λ (k : ℕ). take (length found) (drop k r.seen)) n ∙ ap (take (length found)) (sym (drop-drop 5 (r.place - r.begin) r.seen)) ∙ sym is

abbrev stepped_to : Reading → List ℕ → Reading
stepped_to r found = reading (r.place + 5 + length found) r.limit (take (length found) (drop (r.place + 5 - r.begin) r.seen)) r.begin r.seen

pub stepped : (shape : Shape) (r : Reading) (found : List ℕ) → r.begin ≤ r.place → payload_at (limited shape r.limit) r.place (ahead r) ≡ Some found → IsAtFront (limited shape r.limit) r.place (ahead r) found
    → StepsOver shape r true (stepped_to r found)
stepped shape r found le is at =
    rw (lent r found le at.payload_is) (is, refl)

pub moved : (shape : Shape) (r : Reading) (found : List ℕ) → r.begin ≤ r.place → IsAtFront (limited shape r.limit) r.place (ahead r) found → Advances shape r (stepped_to r found)
moved shape r found le at =
    rw (lent r found le at.payload_is) (record { fits = record { accepted = at.fits.accepted; short = at.fits.short }; place = refl; within = at.within })

-- what is seen from the place on is a front of what stands there
ahead_is : (bytes : List ℕ) (r : Reading) → IsSeenIn bytes r → ahead r ≡ take (length r.seen - (r.place - r.begin)) (drop r.place bytes)
ahead_is bytes r s =
    let d : ℕ = r.place - r.begin in
    let at : d + r.begin ≡ r.place = omega (arith, s.within) in
    ap (drop d) s.seen ∙ drop-take-sub d (length r.seen) (drop r.begin bytes) ∙ ap (take (length r.seen - d)) (drop-drop d r.begin bytes ∙ ap (λ (k : ℕ). drop k bytes) (omega (arith, s.within)))

-- the record that was gone over is the next one of the file
pub next_read : (shape : Shape) (bytes : List ℕ) (old new : Reading) → IsSeenIn bytes old → StepsOver shape old true new → ReadsNext shape bytes old true new
next_read shape bytes old new s over =
    let rest : List ℕ = drop old.place bytes in
    let to : Shape = limited shape old.limit in
    let found : payload_at to old.place rest ≡ Some new.payload = found_in_front to old.place _ rest new.payload (ap (payload_at to old.place) (sym (ahead_is bytes old s)) ∙ over.0) in
    let r = record_from to old.place rest new.payload found in
    let n : named_length rest ≡ length new.payload = sym (ap length r.payload_is ∙ length-take (named_length rest) (drop 5 rest) ∙ omega (arith, length-drop 5 rest, r.framed.room)) in
    let place : old.place + 5 + named_length rest ≡ new.place = ap (λ (k : ℕ). old.place + 5 + k) n ∙ sym (ap (λ (r : Reading). r.place) over.1) in
    let there : drop (5 + named_length rest) rest ≡ drop new.place bytes = drop-drop (5 + named_length rest) old.place bytes ∙ ap (λ (k : ℕ). drop k bytes) (omega (arith, place)) in
    records_step to old.place rest new.payload found r.framed ∙ ap (with_first new.payload) (ap (λ (k : ℕ). records to k 0 (drop (5 + named_length rest) rest)) place ∙ ap (records to new.place 0) there)

-- where none was, in a window that is filled, there is none
pub stops : (shape : Shape) (bytes : List ℕ) (old new : Reading) → IsFilled shape bytes old → StepsOver shape old false new → StopsAt shape bytes new
stops shape bytes old new f over = rw over.1 (at_old shape bytes old f over.0)
  where
    at_old : (shape : Shape) (bytes : List ℕ) (r : Reading) → IsFilled shape bytes r → payload_at (limited shape r.limit) r.place (ahead r) ≡ None → StopsAt shape bytes r
    at_old shape bytes r f none =
        let rest : List ℕ = drop r.place bytes in
        let to : Shape = limited shape r.limit in
        let here : ahead r ≡ take f.room rest = let zero_is : r.place - r.begin ≡ 0 = omega (arith, f.begin) in ap (λ (k : ℕ). drop k r.seen) zero_is ∙ f.seen in
        let no_record : payload_at to r.place rest ≡ None = front_decides to r.place f.room rest f.long (ap (payload_at to r.place) (sym here) ∙ none) in
        let first : get_or (ahead r) 0 0 ≡ get_or bytes r.place 0 = ap (λ (l : List ℕ). get_or l 0 0) here ∙ get_or-take f.room rest 0 0 (omega (arith, f.long)) ∙ get_or-drop r.place bytes 0 0 ∙ ap (λ (k : ℕ). get_or bytes k 0) (omega arith) in
        record { none = records_stop to r.place rest no_record; gate = first }

-- a gate that is seen, and is closed
closed_gate : (seen : List ℕ) → (nat_lt 0 (length seen) && not (slice_index seen 0 == open_gate)) ≡ true → (0 < length seen) × (get_or seen 0 0 ≢ 0xA7)
closed_gate seen closed =
    let is_other = not-true _ (and_second (nat_lt 0 (length seen)) _ closed) in
    (ltb-true _ _ (and_left _ _ closed), λ same. true_not_false (sym (eq-eqb _ _ same) ∙ is_other))
  where
    and_second : (a b : Bool) → (a && b) ≡ true → b ≡ true
    and_second true b e = e
    and_second false b e = absurd cc

    true_not_false : true ≡ false → ⊥
    true_not_false e = absurd cc

-- at such a gate there is none
pub closed_stops : (shape : Shape) (bytes : List ℕ) (r : Reading) → IsSeenIn bytes r → is_closed_ahead r ≡ true → StopsAt shape bytes r
closed_stops shape bytes r s closed =
    let rest : List ℕ = drop r.place bytes in
    let to : Shape = limited shape r.limit in
    let k : ℕ = length r.seen - (r.place - r.begin) in
    let gate = closed_gate (ahead r) closed in
    let enough : 1 ≤ k = omega (arith, gate.0, length-drop (r.place - r.begin) r.seen) in
    let first : get_or (ahead r) 0 0 ≡ get_or rest 0 0 = ap (λ (l : List ℕ). get_or l 0 0) (ahead_is bytes r s) ∙ get_or-take k rest 0 0 enough in
    record {
      none = records_stop to r.place rest (no_record to r.place rest (λ same. gate.1 (first ∙ same)));
      gate = first ∙ get_or-drop r.place bytes 0 0 ∙ ap (λ (k : ℕ). get_or bytes k 0) (omega arith);
    }

-- ---- where the bytes are told

pub told_closed : (told : Option (List ℕ)) (shape : Shape) (old new : Reading) → new ≡ old → is_closed_ahead new ≡ true → IfSome told (λ bytes. IsSeenIn bytes old → StopsAt shape bytes new)
told_closed None shape old new same closed = tt
told_closed (Some bytes) shape old new same closed = λ seen. closed_stops shape bytes new (subst (λ (r : Reading). IsSeenIn bytes r) (sym same) seen) closed

pub told_next : (told : Option (List ℕ)) (shape : Shape) (old new : Reading) → StepsOver shape old true new → IfSome told (λ bytes. IsSeenIn bytes old → ReadsNext shape bytes old true new)
told_next None shape old new over = tt
told_next (Some bytes) shape old new over = λ s. next_read shape bytes old new s over

filled_read : (shape : Shape) (bytes : List ℕ) (old filled new : Reading) (found : Bool) → filled.place ≡ old.place → filled.limit ≡ old.limit → IsFilled shape bytes filled → IsSeenIn bytes filled → StepsOver shape filled found new → ReadsNext shape bytes old found new
filled_read shape bytes old filled new true place limit f s over = rw (← place, ← limit) (next_read shape bytes filled new s over)
filled_read shape bytes old filled new false place limit f s over = stops shape bytes filled new f over

pub told_filled : (told : Option (List ℕ)) (shape : Shape) (old filled new : Reading) (found : Bool) → filled.place ≡ old.place → filled.limit ≡ old.limit → IfSome told (λ bytes. IsFilled shape bytes filled) → IfSome told (λ bytes. IsSeenIn bytes filled)
    → StepsOver shape filled found new → IfSome told (λ bytes. IsSeenIn bytes old → ReadsNext shape bytes old found new)
told_filled None shape old filled new found place limit f s over = tt
told_filled (Some bytes) shape old filled new found place limit f s over = λ seen. filled_read shape bytes old filled new found place limit f s over
