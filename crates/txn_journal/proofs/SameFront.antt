-- The walk over records finds the same where the same bytes stand up to the place where it stops.
use Rattle.std.proofs.Common.{◌≡◌, ◌≢◌, ℕ, zero, suc, ◌+◌, ◌-◌, ◌<◌, ◌≤◌, ◌^◌, Bool, true, false, cond, List, [], ◌∷◌, ◌++◌, length, get_or, take, drop, Option, Some, None, refl, sym, ap, ◌∙◌, arith}
use Rattle.std.specs.Prelude.{◌&&◌}
use Rattle.std.proofs.lemmas.List.{append-nil, drop_at, length-drop, drop-drop, drop-take, take-take, get_or-take, get_or-drop}
use Rattle.std.proofs.lemmas.Nat.{from_be_bytes-to_be_bytes_4}
use Rattle.std.specs.Int.{w32, from_be_bytes}
use Rattle.byte_grammar.specs.Gated.{Shape, named_length, named_payload, is_framed, payload_at, with_first, records, spell_record, FitsRecord}
use Rattle.byte_grammar.proofs.Parts.{then_some}
use Rattle.byte_grammar.proofs.GatedLaws.{Framed, framed_from, framed_to, records_step, records_stop, spelled_record, spelled_framed}

-- no frame, no record
pub no_frame : (shape : Shape) (place : ℕ) (bytes : List ℕ) → (Framed shape place bytes → ⊥) → payload_at shape place bytes ≡ None
unfolding payload_at
no_frame shape place bytes unframed = by (is_framed shape place bytes) refl
  where
    by : (b : Bool) → is_framed shape place bytes ≡ b → cond (b && shape.accepts (named_payload bytes)) (Some (named_payload bytes)) None ≡ None
    by true is = absurd (unframed (framed_from shape place bytes is))
    by false is = refl

-- a closed gate has no record behind it
pub no_record : (shape : Shape) (place : ℕ) (bytes : List ℕ) → get_or bytes 0 0 ≢ 0xA7 → payload_at shape place bytes ≡ None
no_record shape place bytes shut = no_frame shape place bytes (λ f. shut f.gate)

abbrev chosen : Shape → ℕ → ℕ → List ℕ → Option (List ℕ) → List (List ℕ) × ℕ
chosen shape place b bytes None = ([], place)
chosen shape place b bytes (Some payload) = with_first payload (records shape (suc place) (4 + named_length (b ∷ bytes)) bytes)

and_front : (a b : Bool) → (a && b) ≡ true → a ≡ true
and_front true b e = refl
and_front false b e = e

framed_by : (shape : Shape) (place : ℕ) (bytes payload : List ℕ) → payload_at shape place bytes ≡ Some payload → Framed shape place bytes
unfolding payload_at
framed_by shape place bytes payload e = framed_from shape place bytes (and_front _ _ (then_some (is_framed shape place bytes && shape.accepts (named_payload bytes)) (named_payload bytes) payload e).0)

-- ---- where the walk stops

end_at : (shape : Shape) (place b : ℕ) (bytes : List ℕ) → suc place ≤ (records shape (suc place) (4 + named_length (b ∷ bytes)) bytes).1 → (o : Option (List ℕ)) → place ≤ (chosen shape place b bytes o).1
end_at shape place b bytes on None = omega arith
end_at shape place b bytes on (Some payload) = omega arith

pub end_not_before : (shape : Shape) (bytes : List ℕ) (place passed : ℕ) → place ≤ (records shape place passed bytes).1
unfolding records
end_not_before shape [] place passed = omega arith
end_not_before shape (b ∷ bytes) place (suc passed) = let on = end_not_before shape bytes (suc place) passed in omega arith
end_not_before shape (b ∷ bytes) place zero = end_at shape place b bytes (end_not_before shape bytes (suc place) (4 + named_length (b ∷ bytes))) (payload_at shape place (b ∷ bytes))

within_at : (shape : Shape) (place b : ℕ) (bytes : List ℕ) → ((passed : ℕ) → passed < length bytes → (records shape (suc place) passed bytes).1 < suc place + length bytes)
    → (o : Option (List ℕ)) → payload_at shape place (b ∷ bytes) ≡ o → (chosen shape place b bytes o).1 < place + length (b ∷ bytes)
within_at shape place b bytes on None e = omega arith
within_at shape place b bytes on (Some payload) e =
    let f = framed_by shape place (b ∷ bytes) payload e in
    omega (arith, on (4 + named_length (b ∷ bytes)) (omega (arith, f.room)))

pub end_within : (shape : Shape) (bytes : List ℕ) (place passed : ℕ) → passed < length bytes → (records shape place passed bytes).1 < place + length bytes
unfolding records
end_within shape [] place passed some = absurd (omega arith)
end_within shape (b ∷ bytes) place (suc passed) some = let on = end_within shape bytes (suc place) passed (omega arith) in omega arith
end_within shape (b ∷ bytes) place zero some = within_at shape place b bytes (end_within shape bytes (suc place)) (payload_at shape place (b ∷ bytes)) refl

-- ---- the same front

pub same_part : (i j k : ℕ) (b c : List ℕ) → i + j ≤ k → take k c ≡ take k b → take j (drop i c) ≡ take j (drop i b)
same_part i j k b c le same = sym (part c) ∙ ap (λ (l : List ℕ). take j (drop i l)) same ∙ part b
  where
    part : (l : List ℕ) → take j (drop i (take k l)) ≡ take j (drop i l)
    part l =
        let k_is : k ≡ i + (k - i) = omega arith in
        ap (λ (n : ℕ). take j (drop i (take n l))) k_is ∙ ap (take j) (drop-take i (k - i) l) ∙ take-take j (k - i) (drop i l) (omega arith)

same_byte : (i k : ℕ) (b c : List ℕ) → i < k → take k c ≡ take k b → get_or c i 0 ≡ get_or b i 0
same_byte i k b c lt same = sym (get_or-take k c i 0 lt) ∙ ap (λ (l : List ℕ). get_or l i 0) same ∙ get_or-take k b i 0 lt

-- the record at the front is the same
same_record : (shape : Shape) (place k : ℕ) (b c payload : List ℕ) → payload_at shape place b ≡ Some payload → 5 + named_length b ≤ k → k < length c → take k c ≡ take k b
    → (payload_at shape place c ≡ Some payload) × Framed shape place c × (named_length c ≡ named_length b)
unfolding payload_at
same_record shape place k b c payload e le room same =
    let f = framed_by shape place b payload e in
    let g = then_some (is_framed shape place b && shape.accepts (named_payload b)) (named_payload b) payload e in
    let n : named_length c ≡ named_length b = ap (λ (l : List ℕ). from_be_bytes w32 l) (same_part 1 4 k b c (omega arith) same) in
    let fc : Framed shape place c = record { long = omega arith; gate = same_byte 0 k b c (omega arith) same ∙ f.gate; small = omega (arith, f.small); room = omega arith; within = omega (arith, f.within) } in
    let p : named_payload c ≡ named_payload b = ap (λ (m : ℕ). take m (drop 5 c)) n ∙ same_part 5 (named_length b) k b c le same in
    (rw (framed_to shape place c fc, p) (rw (framed_to shape place b f) at e), fc, n)

none_at : (shape : Shape) (place end : ℕ) (b : List ℕ) → records shape place 0 b ≡ ([], end) → (o : Option (List ℕ)) → payload_at shape place b ≡ o → end ≡ place
none_at shape place end b is None e = ap (λ (r : List (List ℕ) × ℕ). r.1) (sym is ∙ records_stop shape place b e)
none_at shape place end b is (Some payload) e =
    let empty = ap (λ (r : List (List ℕ) × ℕ). r.0) (sym is ∙ records_step shape place b payload e (framed_by shape place b payload e)) in
    absurd (cc empty)

none_found : (shape : Shape) (place end : ℕ) (b : List ℕ) → records shape place 0 b ≡ ([], end) → end ≡ place
none_found shape place end b is = none_at shape place end b is (payload_at shape place b) refl

record Finds (shape : Shape) (place end : ℕ) (b payload : List ℕ) (payloads : List (List ℕ)) : Type 0 where
  pub first : payload_at shape place b ≡ Some payload
  pub others : records shape (place + 5 + named_length b) 0 (drop (5 + named_length b) b) ≡ (payloads, end)

some_at : (shape : Shape) (place end : ℕ) (b payload : List ℕ) (payloads : List (List ℕ)) → records shape place 0 b ≡ (payload ∷ payloads, end) → (o : Option (List ℕ)) → payload_at shape place b ≡ o → Finds shape place end b payload payloads
some_at shape place end b payload payloads is None e =
    let empty = ap (λ (r : List (List ℕ) × ℕ). r.0) (sym is ∙ records_stop shape place b e) in
    absurd (cc empty)
some_at shape place end b payload payloads is (Some first) e =
    let step = sym (records_step shape place b first e (framed_by shape place b first e)) ∙ is in
    let list = ap (λ (r : List (List ℕ) × ℕ). r.0) step in
    let stop = ap (λ (r : List (List ℕ) × ℕ). r.1) step in
    let same : first ≡ payload = cc list in
    let rest : (records shape (place + 5 + named_length b) 0 (drop (5 + named_length b) b)).0 ≡ payloads = cc list in
    record {
      first = e ∙ ap (λ (l : List ℕ). Some l) same;
      others = ap (λ (l : List (List ℕ)). (l, (records shape (place + 5 + named_length b) 0 (drop (5 + named_length b) b)).1)) rest ∙ ap (λ (k : ℕ). (payloads, k)) stop;
    }

some_found : (shape : Shape) (place end : ℕ) (b payload : List ℕ) (payloads : List (List ℕ)) → records shape place 0 b ≡ (payload ∷ payloads, end) → Finds shape place end b payload payloads
some_found shape place end b payload payloads is = some_at shape place end b payload payloads is (payload_at shape place b) refl

-- payloads, and then those that are found behind them
abbrev pub then_found : List (List ℕ) → List (List ℕ) × ℕ → List (List ℕ) × ℕ
then_found payloads found = (payloads ++ found.0, found.1)

pub same_front : (shape : Shape) (payloads : List (List ℕ)) (place n : ℕ) (b c : List ℕ) → records shape place 0 b ≡ (payloads, place + n) → n < length c → take n c ≡ take n b
    → records shape place 0 c ≡ then_found payloads (records shape (place + n) 0 (drop n c))
same_front shape [] place n b c is room same =
    let n_is : n ≡ 0 = omega (arith, none_found shape place (place + n) b is) in
    let at : place ≡ place + n = omega arith in
    ap (λ (k : ℕ). records shape k 0 c) at ∙ ap (λ (k : ℕ). records shape (place + n) 0 (drop k c)) (sym n_is)
same_front shape (payload ∷ payloads) place n b c is room same =
    let f = some_found shape place (place + n) b payload payloads is in
    let m : ℕ = 5 + named_length b in
    let behind : place + m ≤ place + n = omega (arith, end_not_before shape (drop m b) (place + 5 + named_length b) 0, ap (λ (r : List (List ℕ) × ℕ). r.1) f.others) in
    let le : m ≤ n = omega arith in
    let r = same_record shape place n b c payload f.first le room same in
    let k : ℕ = n - m in
    let end_is : place + n ≡ (place + 5 + named_length b) + k = omega arith in
    let others : records shape (place + 5 + named_length b) 0 (drop m b) ≡ (payloads, (place + 5 + named_length b) + k) = f.others ∙ ap (λ (e : ℕ). (payloads, e)) end_is in
    let ih = same_front shape payloads (place + 5 + named_length b) k (drop m b) (drop m c) others (omega (arith, length-drop m c)) (same_part m k n b c (omega arith) same) in
    let n_is : m + k ≡ n = omega arith in
    records_step shape place c payload r.0 r.1
    ∙ ap (λ (l : ℕ). with_first payload (records shape (place + 5 + l) 0 (drop (5 + l) c))) r.2
    ∙ ap (with_first payload) ih
    ∙ ap (λ (l : List ℕ). then_found (payload ∷ payloads) (records shape ((place + 5 + named_length b) + k) 0 l)) (drop-drop k m c ∙ ap (λ (j : ℕ). drop j c) n_is)
    ∙ ap (λ (e : ℕ). then_found (payload ∷ payloads) (records shape e 0 (drop n c))) (sym end_is)

-- a closed gate ends the walk
pub stops_at_closed : (shape : Shape) (payloads : List (List ℕ)) (place n : ℕ) (b c : List ℕ) → records shape place 0 b ≡ (payloads, place + n) → n < length c → take n c ≡ take n b → get_or c n 0 ≢ 0xA7
    → records shape place 0 c ≡ (payloads, place + n)
stops_at_closed shape payloads place n b c is room same shut =
    same_front shape payloads place n b c is room same
    ∙ ap (then_found payloads) (records_stop shape (place + n) (drop n c) (no_record shape (place + n) (drop n c) (λ e. shut (gate ∙ e))))
    ∙ ap (λ (ps : List (List ℕ)). (ps, place + n)) (append-nil payloads)
  where
    gate : get_or c n 0 ≡ get_or (drop n c) 0 0
    gate = let at : n ≡ n + 0 = omega arith in ap (λ (i : ℕ). get_or c i 0) at ∙ sym (get_or-drop n c 0 0)

-- one record more, and a closed gate behind it
pub one_more_found : (shape : Shape) (payloads : List (List ℕ)) (payload rest : List ℕ) (place n : ℕ) (b c : List ℕ) → records shape place 0 b ≡ (payloads, place + n) → n < length c → take n c ≡ take n b
    → shape.max_payload < 2 ^ 32 → FitsRecord shape payload → place + n + 5 + length payload < shape.max_file → drop n c ≡ spell_record payload ++ rest → 0 < length rest → get_or rest 0 0 ≢ 0xA7
    → records shape place 0 c ≡ (payloads ++ payload ∷ [], place + n + 5 + length payload)
one_more_found shape payloads payload rest place n b c is room same small fits within parts some shut =
    let within' : place + n + length (spell_record payload) < shape.max_file = omega arith in
    let found = spelled_record shape (place + n) payload rest small fits some within' in
    let framed = spelled_framed shape (place + n) payload rest small fits some within' in
    let n_is : named_length (spell_record payload ++ rest) ≡ length payload = named_is in
    let behind : drop (5 + length payload) (spell_record payload ++ rest) ≡ rest = drop_at (spell_record payload) rest (5 + length payload) (omega arith) in
    same_front shape payloads place n b c is room same
    ∙ ap (λ (l : List ℕ). then_found payloads (records shape (place + n) 0 l)) parts
    ∙ ap (then_found payloads) (records_step shape (place + n) (spell_record payload ++ rest) payload found framed)
    ∙ ap (λ (l : ℕ). then_found payloads (with_first payload (records shape (place + n + 5 + l) 0 (drop (5 + l) (spell_record payload ++ rest))))) n_is
    ∙ ap (λ (l : List ℕ). then_found payloads (with_first payload (records shape (place + n + 5 + length payload) 0 l))) behind
    ∙ ap (λ (r : List (List ℕ) × ℕ). then_found payloads (with_first payload r)) (records_stop shape (place + n + 5 + length payload) rest (no_record shape (place + n + 5 + length payload) rest shut))
  where
    named_is : named_length (spell_record payload ++ rest) ≡ length payload
    named_is = let short : length payload ≤ shape.max_payload = fits.short in from_be_bytes-to_be_bytes_4 (length payload) (omega arith)
