-- A record that stands in a front of the bytes stands in all of them.
use Rattle.std.proofs.Common.{◌≡◌, ℕ, ◌+◌, ◌-◌, ◌≤◌, List, get_or, take, drop, Option, Some, None, refl, sym, ap, ◌∙◌, arith, inl, inr}
use Rattle.std.specs.Int.{w32, from_be_bytes}
use Rattle.std.proofs.lemmas.Bool.{cases_lt}
use Rattle.std.proofs.lemmas.List.{take-take, drop-take, drop_all, length-take, get_or-take}
use Rattle.std.proofs.lemmas.Option.{none-some}
use Rattle.byte_grammar.specs.Gated.{Shape, named_length, named_payload, payload_at}
use Rattle.byte_grammar.proofs.GatedLaws.{Framed}
use Rattle.txn_journal.proofs.Frames.{record_from, record_to}

pub drop-take-sub : (n k : ℕ) (l : List ℕ) → drop n (take k l) ≡ take (k - n) (drop n l)
drop-take-sub n k l =
    elim (cases_lt k n) [
      | inl lt ↦ let e : k - n ≡ 0 = omega arith in drop_all n (take k l) (omega (arith, length-take k l)) ∙ ap (λ (m : ℕ). take m (drop n l)) (sym e)
      | inr le ↦ let e : k ≡ n + (k - n) = omega arith in ap (λ (m : ℕ). drop n (take m l)) e ∙ drop-take n (k - n) l
    ]

-- a part that lies in the front
pub part-take : (i n k : ℕ) (l : List ℕ) → i + n ≤ k → take n (drop i (take k l)) ≡ take n (drop i l)
part-take i n k l le =
    let e : k ≡ i + (k - i) = omega arith in
    ap (λ (m : ℕ). take n (drop i (take m l))) e ∙ ap (take n) (drop-take i (k - i) l) ∙ take-take n (k - i) (drop i l) (omega arith)

named-take : (k : ℕ) (bytes : List ℕ) → 5 ≤ k → named_length (take k bytes) ≡ named_length bytes
named-take k bytes le = ap (from_be_bytes w32) (part-take 1 4 k bytes le)

-- a frame in a front is a frame in all
framed_front : (shape : Shape) (place k : ℕ) (bytes : List ℕ) → Framed shape place (take k bytes) → Framed shape place bytes × (named_length (take k bytes) ≡ named_length bytes) × (5 + named_length bytes ≤ k)
framed_front shape place k bytes f =
    let len = length-take k bytes in
    let five : 5 ≤ k = omega (arith, f.long) in
    let n = named-take k bytes five in
    let first : get_or (take k bytes) 0 0 ≡ get_or bytes 0 0 = get_or-take k bytes 0 0 (omega arith) in (
      record {
        long = omega (arith, f.long);
        gate = sym first ∙ f.gate;
        small = omega (arith, f.small);
        room = omega (arith, f.room);
        within = omega (arith, f.within);
      },
      n,
      omega (arith, f.room),
    )

framed_back : (shape : Shape) (place k : ℕ) (bytes : List ℕ) → shape.max_payload + 6 ≤ k → Framed shape place bytes → Framed shape place (take k bytes)
framed_back shape place k bytes le f =
    let len = length-take k bytes in
    let n = named-take k bytes (omega arith) in
    let first : get_or (take k bytes) 0 0 ≡ get_or bytes 0 0 = get_or-take k bytes 0 0 (omega arith) in
    record {
      long = omega (arith, f.long);
      gate = first ∙ f.gate;
      small = omega (arith, f.small);
      room = omega (arith, f.room, f.small);
      within = omega (arith, f.within);
    }

payload-take : (k : ℕ) (bytes : List ℕ) → named_length (take k bytes) ≡ named_length bytes → 5 + named_length bytes ≤ k → named_payload (take k bytes) ≡ named_payload bytes
payload-take k bytes n le = ap (λ (m : ℕ). take m (drop 5 (take k bytes))) n ∙ part-take 5 (named_length bytes) k bytes le

-- what is found in a front is found in all
pub found_in_front : (shape : Shape) (place k : ℕ) (bytes payload : List ℕ) → payload_at shape place (take k bytes) ≡ Some payload → payload_at shape place bytes ≡ Some payload
found_in_front shape place k bytes payload e =
    let w = record_from shape place (take k bytes) payload e in
    let f = framed_front shape place k bytes w.framed in
    record_to shape place bytes payload (record { framed = f.0; payload_is = w.payload_is ∙ payload-take k bytes f.1 f.2; accepted = w.accepted })

-- a front with room for the longest record decides
pub front_decides : (shape : Shape) (place k : ℕ) (bytes : List ℕ) → shape.max_payload + 6 ≤ k → payload_at shape place (take k bytes) ≡ None → payload_at shape place bytes ≡ None
front_decides shape place k bytes le e = by (payload_at shape place bytes) refl
  where
    by : (o : Option (List ℕ)) → payload_at shape place bytes ≡ o → o ≡ None
    by None is = refl
    by (Some payload) is =
        let w = record_from shape place bytes payload is in
        let f = framed_back shape place k bytes le w.framed in
        let n = named-take k bytes (omega arith) in
        let some = record_to shape place (take k bytes) payload (record { framed = f; payload_is = w.payload_is ∙ sym (payload-take k bytes n (omega (arith, w.framed.small))); accepted = w.accepted }) in
        absurd (none-some payload (sym e ∙ some))
