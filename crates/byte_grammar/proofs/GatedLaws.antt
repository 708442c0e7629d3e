-- What the walk over gated records finds is the longest prefix of them.
use Rattle.std.proofs.Common.{◌≡◌, ℕ, zero, suc, ◌+◌, ◌-◌, ◌^◌, ◌<◌, ◌≤◌, Bool, true, false, ltb, leb, eqb, List, [], ◌∷◌, ◌++◌, length, get_or, take, drop, Option, Some, None, refl, sym, ap, subst, ◌∙◌, append_assoc, arith}
use Rattle.std.specs.Prelude.{◌&&◌}
use Rattle.std.specs.List.{AllByRecursion}
use Rattle.std.specs.Int.{w32, to_be_bytes}
use Rattle.std.proofs.lemmas.Bool.{lt-ltb, leb-true, le-leb, eqb-true, eq-eqb}
use Rattle.std.proofs.lemmas.List.{append-nil, take_at, drop_at, take-append-drop, length-append, length-drop, length-take, drop-drop, get_or-drop}
use Rattle.std.proofs.lemmas.Nat.{be_bytes_4, from_be_bytes-to_be_bytes_4}
use borrow.Author.Tests.{ltb-true}
use Rattle.byte_grammar.specs.Reading.{IsBytes}
use Rattle.byte_grammar.specs.Gated.{Shape, named_length, named_payload, is_framed, payload_at, with_first, records, spell_record, spell_records, FitsRecord, BeginsWith, IsLongest}
use Rattle.byte_grammar.proofs.Parts.{then_some}
use Rattle.byte_grammar.proofs.Fields.{IsBytes-take}

and_first : (a b : Bool) → (a && b) ≡ true → a ≡ true
and_first true b e = refl
and_first false b e = e

and_second : (a b : Bool) → (a && b) ≡ true → b ≡ true
and_second true b e = e
and_second false b e = absurd cc

pub IsBytes-drop : (n : ℕ) (bytes : List ℕ) → IsBytes bytes → IsBytes (drop n bytes)
IsBytes-drop n bytes h i = rw get_or-drop (h (n + i))

-- what the tests of a frame say
pub record Framed (shape : Shape) (place : ℕ) (bytes : List ℕ) : Type 0 where
  pub long : 4 < length bytes
  pub gate : get_or bytes 0 0 ≡ 0xA7
  pub small : named_length bytes ≤ shape.max_payload
  pub room : 5 + named_length bytes < length bytes
  pub within : place + 5 + named_length bytes < shape.max_file

pub framed_from : (shape : Shape) (place : ℕ) (bytes : List ℕ) → is_framed shape place bytes ≡ true → Framed shape place bytes
framed_from shape place bytes e =
    let e4 = and_first _ _ e in
    let e3 = and_first _ _ e4 in
    let e2 = and_first _ _ e3 in
    record {
      long = ltb-true _ _ (and_first _ _ e2);
      gate = eqb-true _ _ (and_second (ltb 4 (length bytes)) _ e2);
      small = leb-true _ _ (and_second _ _ e3);
      room = ltb-true _ _ (and_second _ _ e4);
      within = ltb-true _ _ (and_second _ _ e);
    }

pub framed_to : (shape : Shape) (place : ℕ) (bytes : List ℕ) → Framed shape place bytes → is_framed shape place bytes ≡ true
framed_to shape place bytes f =
    let a : ltb 4 (length bytes) ≡ true = lt-ltb _ _ f.long in
    let b : eqb (get_or bytes 0 0) 0xA7 ≡ true = eq-eqb _ _ f.gate in
    let c : leb (named_length bytes) shape.max_payload ≡ true = le-leb _ _ f.small in
    let d : ltb (5 + named_length bytes) (length bytes) ≡ true = lt-ltb _ _ f.room in
    let e : ltb (place + 5 + named_length bytes) shape.max_file ≡ true = lt-ltb _ _ f.within in
    rw (a, b, c, d, e) refl

-- what a record that is found is
pub record Found (shape : Shape) (place : ℕ) (bytes payload : List ℕ) : Type 0 where
  pub parts : bytes ≡ spell_record payload ++ drop (5 + named_length bytes) bytes
  pub length_is : named_length bytes ≡ length payload
  pub fits : FitsRecord shape payload
  pub framed : Framed shape place bytes

cut5 : (bytes : List ℕ) → 4 < length bytes → bytes ≡ get_or bytes 0 0 ∷ (take 4 (drop 1 bytes) ++ drop 5 bytes)
cut5 [] h = absurd (omega arith)
cut5 (a ∷ []) h = absurd (omega arith)
cut5 (a ∷ b ∷ []) h = absurd (omega arith)
cut5 (a ∷ b ∷ c ∷ []) h = absurd (omega arith)
cut5 (a ∷ b ∷ c ∷ d ∷ []) h = absurd (omega arith)
cut5 (a ∷ b ∷ c ∷ d ∷ e ∷ bytes) h = refl

drop_more : (n : ℕ) (bytes : List ℕ) → drop (5 + n) bytes ≡ drop n (drop 5 bytes)
drop_more n bytes = sym (drop-drop n 5 bytes)

-- the bytes of a frame are its record and what is behind it
framed_parts : (shape : Shape) (place : ℕ) (bytes payload : List ℕ) → IsBytes bytes → Framed shape place bytes → named_payload bytes ≡ payload
    → (bytes ≡ spell_record payload ++ drop (5 + named_length bytes) bytes) × (named_length bytes ≡ length payload)
framed_parts shape place bytes payload fits f same =
    let n = named_length bytes in
    let room : 5 + n < length bytes = f.room in
    let len5 : length (drop 5 bytes) ≡ length bytes - 5 = length-drop 5 bytes in
    let len : length (take n (drop 5 bytes)) ≡ n = length-take n (drop 5 bytes) ∙ omega arith in
    let n_is : n ≡ length payload = sym len ∙ ap length same in
    let four : length (take 4 (drop 1 bytes)) ≡ 4 = length-take 4 (drop 1 bytes) ∙ omega (arith, length-drop 1 bytes, f.long) in
    let count : to_be_bytes w32 n ≡ take 4 (drop 1 bytes) = be_bytes_4 (take 4 (drop 1 bytes)) n four (IsBytes-take 4 (drop 1 bytes) (IsBytes-drop 1 bytes fits)) refl in
    let rest : List ℕ = drop (5 + n) bytes in
    let body : payload ++ rest ≡ drop 5 bytes = ap (λ (x : List ℕ). x ++ rest) (sym same) ∙ ap (λ (x : List ℕ). take n (drop 5 bytes) ++ x) (drop_more n bytes) ∙ take-append-drop n (drop 5 bytes) in
    let text : bytes ≡ 0xA7 ∷ (to_be_bytes w32 n ++ (payload ++ rest)) = cut5 bytes f.long ∙ ap (λ (x : ℕ). x ∷ (take 4 (drop 1 bytes) ++ drop 5 bytes)) f.gate ∙ ap (λ (x : List ℕ). 0xA7 ∷ (x ++ drop 5 bytes)) (sym count) ∙ ap (λ (x : List ℕ). 0xA7 ∷ (to_be_bytes w32 n ++ x)) (sym body) in
    (text ∙ ap (λ (k : ℕ). 0xA7 ∷ (to_be_bytes w32 k ++ (payload ++ rest))) n_is ∙ ap (λ (x : List ℕ). 0xA7 ∷ x) (sym (append_assoc (to_be_bytes w32 (length payload)) payload rest)), n_is)

pub found_record : (shape : Shape) (place : ℕ) (bytes payload : List ℕ) → IsBytes bytes → payload_at shape place bytes ≡ Some payload → Found shape place bytes payload
unfolding payload_at
found_record shape place bytes payload fits e =
    let g = then_some (is_framed shape place bytes && shape.accepts (named_payload bytes)) (named_payload bytes) payload e in
    let f = framed_from shape place bytes (and_first _ _ g.0) in
    let p = framed_parts shape place bytes payload fits f g.1 in
    let taken : shape.accepts payload ≡ true = ap shape.accepts (sym g.1) ∙ and_second (is_framed shape place bytes) _ g.0 in
    record {
      parts = p.0;
      length_is = p.1;
      fits = record { accepted = taken; short = subst (λ (k : ℕ). k ≤ shape.max_payload) p.1 f.small };
      framed = f;
    }

-- ---- a record that is spelled is found

named_spelled : (shape : Shape) (payload rest : List ℕ) → shape.max_payload < 2 ^ 32 → FitsRecord shape payload → named_length (spell_record payload ++ rest) ≡ length payload
named_spelled shape payload rest small fits =
    let short : length payload ≤ shape.max_payload = fits.short in
    let lt : length payload < 2 ^ 32 = omega arith in
    from_be_bytes-to_be_bytes_4 (length payload) lt

record_length : (payload : List ℕ) → length (spell_record payload) ≡ 5 + length payload
record_length payload = omega arith

pub spelled_framed : (shape : Shape) (place : ℕ) (payload rest : List ℕ) → shape.max_payload < 2 ^ 32 → FitsRecord shape payload → 0 < length rest → place + length (spell_record payload) < shape.max_file → Framed shape place (spell_record payload ++ rest)
spelled_framed shape place payload rest small fits gate within =
    let n = named_spelled shape payload rest small fits in
    let len : length (spell_record payload ++ rest) ≡ 5 + length payload + length rest = omega (arith, length-append (spell_record payload) rest) in
    let all = record_length payload in
    record {
      long = omega arith;
      gate = refl;
      small = rw n fits.short;
      room = omega arith;
      within = omega arith;
    }

pub spelled_record : (shape : Shape) (place : ℕ) (payload rest : List ℕ) → shape.max_payload < 2 ^ 32 → FitsRecord shape payload → 0 < length rest → place + length (spell_record payload) < shape.max_file → payload_at shape place (spell_record payload ++ rest) ≡ Some payload
unfolding payload_at
spelled_record shape place payload rest small fits gate within =
    let n = named_spelled shape payload rest small fits in
    let f = spelled_framed shape place payload rest small fits gate within in
    let same : named_payload (spell_record payload ++ rest) ≡ payload = ap (λ (k : ℕ). take k (payload ++ rest)) n ∙ take_at payload rest (length payload) refl in
    rw (framed_to shape place (spell_record payload ++ rest) f, same, fits.accepted) refl

-- ---- passing over bytes

pub records-passed : (shape : Shape) (place passed : ℕ) (bytes : List ℕ) → passed ≤ length bytes → records shape place passed bytes ≡ records shape (place + passed) 0 (drop passed bytes)
unfolding records
records-passed shape place zero bytes le = let e : place ≡ place + 0 = omega arith in ap (λ (k : ℕ). records shape k 0 bytes) e
records-passed shape place (suc passed) [] le = absurd (omega arith)
records-passed shape place (suc passed) (b ∷ bytes) le =
    let e : suc place + passed ≡ place + suc passed = omega arith in
    let fewer : passed ≤ length bytes = omega arith in
    records-passed shape (suc place) passed bytes fewer ∙ ap (λ (k : ℕ). records shape k 0 (drop passed bytes)) e

drop_suc : (n b : ℕ) (bytes : List ℕ) → drop (5 + n) (b ∷ bytes) ≡ drop (4 + n) bytes
drop_suc n b bytes = let e : 5 + n ≡ suc (4 + n) = omega arith in rw e refl

-- a record at the front is the first, and the others are found behind it
pub records_step : (shape : Shape) (place : ℕ) (bytes payload : List ℕ) → payload_at shape place bytes ≡ Some payload → Framed shape place bytes
    → records shape place 0 bytes ≡ with_first payload (records shape (place + 5 + named_length bytes) 0 (drop (5 + named_length bytes) bytes))
unfolding records
records_step shape place [] payload e f = absurd (omega (arith, f.long))
records_step shape place (b ∷ bytes) payload e f =
    let n = named_length (b ∷ bytes) in
    let room : 5 + n < suc (length bytes) = f.room in
    let fewer : 4 + n ≤ length bytes = omega arith in
    let at : suc place + (4 + n) ≡ place + 5 + n = omega arith in
    let there : records shape (suc place) (4 + n) bytes ≡ records shape (place + 5 + n) 0 (drop (5 + n) (b ∷ bytes)) = records-passed shape (suc place) (4 + n) bytes fewer ∙ ap (λ (k : ℕ). records shape k 0 (drop (4 + n) bytes)) at ∙ ap (records shape (place + 5 + n) 0) (sym (drop_suc n b bytes)) in
    rw (e, records) (ap (with_first payload) there)

pub records_stop : (shape : Shape) (place : ℕ) (bytes : List ℕ) → payload_at shape place bytes ≡ None → records shape place 0 bytes ≡ ([], place)
unfolding records
records_stop shape place [] e = refl
records_stop shape place (b ∷ bytes) e = rw (e, records) refl

-- ---- each prefix is a front of what is found

pub front : (shape : Shape) → shape.max_payload < 2 ^ 32 → (others : List (List ℕ)) (place : ℕ) (bytes rest : List ℕ)
    → bytes ≡ spell_records others ++ rest → 0 < length rest → AllByRecursion (FitsRecord shape) others → place + length (spell_records others) < shape.max_file
    → (more : List (List ℕ)) × ((records shape place 0 bytes).0 ≡ others ++ more)
front shape small [] place bytes rest e gate fits within = ((records shape place 0 bytes).0, refl)
front shape small (p ∷ ps) place bytes rest e gate fits within =
    let tail : List ℕ = spell_records ps ++ rest in
    let cut : bytes ≡ spell_record p ++ tail = e ∙ append_assoc (spell_record p) (spell_records ps) rest in
    let gate' : 0 < length tail = omega (arith, length-append (spell_records ps) rest) in
    let both : length (spell_record p ++ spell_records ps) ≡ length (spell_record p) + length (spell_records ps) = length-append (spell_record p) (spell_records ps) in
    let all = record_length p in
    let here : place + length (spell_record p) < shape.max_file = omega arith in
    let found : payload_at shape place bytes ≡ Some p = rw cut (spelled_record shape place p tail small fits.0 gate' here) in
    let f : Framed shape place bytes = rw cut (spelled_framed shape place p tail small fits.0 gate' here) in
    let n : named_length bytes ≡ length p = rw cut (named_spelled shape p tail small fits.0) in
    let size : length (spell_record p) ≡ 5 + named_length bytes = omega arith in
    let behind : drop (5 + named_length bytes) bytes ≡ tail = ap (drop (5 + named_length bytes)) cut ∙ drop_at (spell_record p) tail (5 + named_length bytes) size in
    let later : (place + 5 + named_length bytes) + length (spell_records ps) < shape.max_file = omega arith in
    let ih = front shape small ps (place + 5 + named_length bytes) (drop (5 + named_length bytes) bytes) rest behind gate fits.1 later in
    (ih.0, ap (λ (r : List (List ℕ) × ℕ). r.0) (records_step shape place bytes p found f) ∙ ap (λ (x : List (List ℕ)). p ∷ x) ih.1)

-- ---- what is found is a prefix

pub record Sound (shape : Shape) (place passed : ℕ) (bytes : List ℕ) (r : List (List ℕ) × ℕ) : Type 0 where
  pub rest : List ℕ
  pub parts : drop passed bytes ≡ spell_records r.0 ++ rest
  pub gate : 0 < length rest
  pub fit : AllByRecursion (FitsRecord shape) r.0
  pub end_is : r.1 ≡ place + passed + length (spell_records r.0)
  pub within : r.1 < shape.max_file

abbrev chosen : Shape → ℕ → ℕ → List ℕ → Option (List ℕ) → List (List ℕ) × ℕ
chosen shape place b bytes None = ([], place)
chosen shape place b bytes (Some payload) = with_first payload (records shape (suc place) (4 + named_length (b ∷ bytes)) bytes)

sound_at : (shape : Shape) (b : ℕ) (bytes : List ℕ) (place : ℕ) → IsBytes (b ∷ bytes) → place < shape.max_file
    → ((passed : ℕ) → passed < length bytes → suc place + passed < shape.max_file → Sound shape (suc place) passed bytes (records shape (suc place) passed bytes))
    → (o : Option (List ℕ)) → payload_at shape place (b ∷ bytes) ≡ o → Sound shape place 0 (b ∷ bytes) (chosen shape place b bytes o)
sound_at shape b bytes place fits within ih None e = record { rest = b ∷ bytes; parts = refl; gate = omega arith; fit = tt; end_is = omega arith; within = within }
sound_at shape b bytes place fits within ih (Some payload) e =
    let f = found_record shape place (b ∷ bytes) payload fits e in
    let n = named_length (b ∷ bytes) in
    let room : 5 + n < suc (length bytes) = f.framed.room in
    let in_file : place + 5 + n < shape.max_file = f.framed.within in
    let t = ih (4 + n) (omega arith) (omega arith) in
    let r : List (List ℕ) × ℕ = records shape (suc place) (4 + n) bytes in
    let flat : List ℕ = spell_records r.0 in
    let len = length-append (spell_record payload) flat in
    let size = record_length payload in
    record {
      rest = t.rest;
      parts = f.parts ∙ ap (λ (x : List ℕ). spell_record payload ++ x) (drop_suc n b bytes ∙ t.parts) ∙ sym (append_assoc (spell_record payload) flat t.rest);
      gate = t.gate;
      fit = (f.fits, t.fit);
      end_is = omega (arith, t.end_is, f.length_is, len, size);
      within = t.within;
    }

pub sound : (shape : Shape) (bytes : List ℕ) (place passed : ℕ) → IsBytes bytes → passed < length bytes → place + passed < shape.max_file → Sound shape place passed bytes (records shape place passed bytes)
unfolding records
sound shape [] place passed fits lt within = absurd (omega arith)
sound shape (b ∷ bytes) place (suc passed) fits lt within =
    let t = sound shape bytes (suc place) passed (λ i. fits (suc i)) (omega arith) (omega arith) in
    record { rest = t.rest; parts = t.parts; gate = t.gate; fit = t.fit; end_is = omega (arith, t.end_is); within = t.within }
sound shape (b ∷ bytes) place zero fits lt within =
    sound_at shape b bytes place fits (omega arith) (λ passed few file. sound shape bytes (suc place) passed (λ i. fits (suc i)) few file) (payload_at shape place (b ∷ bytes)) refl

-- ---- the two meanings are one

begins : (shape : Shape) (place : ℕ) (bytes : List ℕ) (r : List (List ℕ) × ℕ) → Sound shape place 0 bytes r → BeginsWith shape place bytes r.0
begins shape place bytes r s = record { rest = s.rest; parts = s.parts; gate = s.gate; fit = s.fit; within = omega (arith, s.within, s.end_is) }

-- no prefix is longer than what is found
front_is_shorter : (shape : Shape) (place : ℕ) (bytes : List ℕ) (others : List (List ℕ)) → shape.max_payload < 2 ^ 32 → BeginsWith shape place bytes others
    → length others ≤ length (records shape place 0 bytes).0
front_is_shorter shape place bytes others small p =
    let f = front shape small others place bytes p.rest p.parts p.gate p.fit p.within in
    omega (arith, ap (λ (x : List (List ℕ)). length x) f.1, length-append others f.0)

-- what is found is the longest prefix
pub records_are_longest : (shape : Shape) (place : ℕ) (bytes : List ℕ) → shape.max_payload < 2 ^ 32 → IsBytes bytes → 0 < length bytes → place < shape.max_file
    → IsLongest shape place bytes (records shape place 0 bytes)
records_are_longest shape place bytes small fits some within =
    let s = sound shape bytes place 0 fits some (omega arith) in
    record {
      prefix = begins shape place bytes (records shape place 0 bytes) s;
      end = omega (arith, s.end_is);
      longest = λ others p. front_is_shorter shape place bytes others small p;
    }

none_left : (more : List (List ℕ)) → length more ≤ 0 → more ≡ []
none_left [] h = refl
none_left (i ∷ more) h = absurd (omega arith)

-- nothing else is
pub longest_is_records : (shape : Shape) (place : ℕ) (bytes : List ℕ) (found : List (List ℕ) × ℕ) → shape.max_payload < 2 ^ 32 → IsBytes bytes
    → IsLongest shape place bytes found → found ≡ records shape place 0 bytes
longest_is_records shape place bytes found small fits is =
    let r : List (List ℕ) × ℕ = records shape place 0 bytes in
    let p = is.prefix in
    let some : 0 < length bytes = omega (arith, ap (λ (x : List ℕ). length x) p.parts, length-append (spell_records found.0) p.rest, p.gate) in
    let s = sound shape bytes place 0 fits some (omega (arith, p.within)) in
    let f = front shape small found.0 place bytes p.rest p.parts p.gate p.fit p.within in
    let most : length r.0 ≤ length found.0 = is.longest r.0 (begins shape place bytes r s) in
    let len : length r.0 ≡ length found.0 + length f.0 = ap (λ (x : List (List ℕ)). length x) f.1 ∙ length-append found.0 f.0 in
    let few : length f.0 ≤ 0 = omega arith in
    let same : r.0 ≡ found.0 = f.1 ∙ ap (λ (x : List (List ℕ)). found.0 ++ x) (none_left f.0 few) ∙ append-nil found.0 in
    let end_same : found.1 ≡ r.1 = is.end ∙ ap (λ (x : List (List ℕ)). place + length (spell_records x)) (sym same) ∙ omega (arith, s.end_is) in
    ap (λ (x : List (List ℕ)). (x, found.1)) (sym same) ∙ ap (λ (k : ℕ). (r.0, k)) end_same
