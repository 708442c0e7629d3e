-- What a file holds, where the same bytes stand up to the gate behind its payloads.
use Rattle.std.proofs.Common.{◌≡◌, ◌≢◌, ℕ, ◌+◌, ◌-◌, ◌<◌, ◌≤◌, ◌^◌, Bool, true, false, cond, ltb, List, [], ◌∷◌, ◌++◌, length, get_or, take, drop, Some, None, refl, sym, ap, ◌∙◌, arith}
use Rattle.std.specs.Prelude.{◌&&◌}
use Rattle.std.proofs.lemmas.Bool.{lt-ltb}
use Rattle.std.proofs.lemmas.List.{length-drop, drop-drop, get_or-drop}
use Rattle.std.proofs.lemmas.Option.{same_Some, none-some}
use borrow.Author.Tests.{ltb-true}
use Rattle.byte_grammar.specs.Gated.{Shape, records, spell_record, FitsRecord}
use Rattle.txn_journal.specs.Held.{Held, held_under, held_by, with_payload}
use Rattle.txn_journal.proofs.SameFront.{same_part, end_not_before, end_within, stops_at_closed, one_more_found}

and_left : (a b : Bool) → (a && b) ≡ true → a ≡ true
and_left true b e = refl
and_left false b e = e

and_right : (a b : Bool) → (a && b) ≡ true → b ≡ true
and_right true b e = e
and_right false b e = absurd cc

-- the parts of a file
pub record HasParts (is_head : List ℕ → Bool) (shape : Shape) (held : Held) (x : List ℕ) : Type 0 where
  pub long : 64 < length x
  pub head_fits : is_head (take 64 x) ≡ true
  pub head : take 64 x ≡ held.head
  pub found : records shape 64 0 (drop 64 x) ≡ (held.payloads, held.end)

module _ (is_head : List ℕ → Bool) (shape : Shape) (held : Held) (x : List ℕ) where
  pub parts_of : held_by is_head shape x ≡ Some held → HasParts is_head shape held x
  parts_of = by (ltb 64 (length x) && is_head (take 64 x)) refl
    where
      by : (b : Bool) → (ltb 64 (length x) && is_head (take 64 x)) ≡ b → held_under (cond b (Some (take 64 x)) None) (records shape 64 0 (drop 64 x)) ≡ Some held → HasParts is_head shape held x
      by false is e = absurd (none-some held e)
      by true is e =
          let same = same_Some _ held e in
          record {
            long = ltb-true _ _ (and_left _ _ is);
            head_fits = and_right (ltb 64 (length x)) _ is;
            head = ap (λ (h : Held). h.head) same;
            found = ap (λ (h : Held). (h.payloads, h.end)) same;
          }

  pub held_from : HasParts is_head shape held x → held_by is_head shape x ≡ Some held
  held_from p =
      let test : (ltb 64 (length x) && is_head (take 64 x)) ≡ true = rw (lt-ltb 64 (length x) p.long, p.head_fits) refl in
      ap (λ (b : Bool). held_under (cond b (Some (take 64 x)) None) (records shape 64 0 (drop 64 x))) test
      ∙ ap (λ (h : List ℕ). held_under (Some h) (records shape 64 0 (drop 64 x))) p.head
      ∙ ap (held_under (Some held.head)) p.found

  pub end_reached : HasParts is_head shape held x → 64 ≤ held.end
  end_reached p = omega (arith, end_not_before shape (drop 64 x) 64 0, ap (λ (r : List (List ℕ) × ℕ). r.1) p.found)

  pub end_inside : HasParts is_head shape held x → held.end < length x
  end_inside p =
      let long = p.long in
      let some : 0 < length (drop 64 x) = omega (arith, length-drop 64 x) in
      omega (arith, end_within shape (drop 64 x) 64 0 some, ap (λ (r : List (List ℕ) × ℕ). r.1) p.found, length-drop 64 x)

-- bytes that are the same up to the gate behind all payloads
module _ (is_head : List ℕ → Bool) (shape : Shape) (held : Held) (x c : List ℕ) (p : HasParts is_head shape held x) (room : held.end < length c) (same : take held.end c ≡ take held.end x) where
  abbrev n : ℕ
  n = held.end - 64

  end_is : 64 + n ≡ held.end
  end_is = omega (arith, end_reached is_head shape held x p)

  body_same : take n (drop 64 c) ≡ take n (drop 64 x)
  body_same = same_part 64 n held.end x c (omega (arith, end_is)) same

  head_same : take 64 c ≡ take 64 x
  head_same = same_part 0 64 held.end x c (omega (arith, end_is)) same

  found : records shape 64 0 (drop 64 x) ≡ (held.payloads, 64 + n)
  found = p.found ∙ ap (λ (e : ℕ). (held.payloads, e)) (sym end_is)

  body_room : n < length (drop 64 c)
  body_room = omega (arith, end_is, length-drop 64 c)

  gate : get_or (drop 64 c) n 0 ≡ get_or c held.end 0
  gate = get_or-drop 64 c n 0 ∙ ap (λ (i : ℕ). get_or c i 0) end_is

  -- a closed gate keeps what is held
  pub keeps : get_or c held.end 0 ≢ 0xA7 → held_by is_head shape c ≡ Some held
  keeps shut = held_from is_head shape held c (record {
    long = omega (arith, end_is);
    head_fits = ap is_head head_same ∙ p.head_fits;
    head = head_same ∙ p.head;
    found = stops_at_closed shape held.payloads 64 n (drop 64 x) (drop 64 c) found body_room body_same (λ e. shut (sym gate ∙ e)) ∙ ap (λ (e : ℕ). (held.payloads, e)) end_is;
  })

  -- an open gate before a record, and a closed one behind it, add its payload
  pub gains : (payload rest : List ℕ) → shape.max_payload < 2 ^ 32 → FitsRecord shape payload → held.end + 5 + length payload < shape.max_file → drop held.end c ≡ spell_record payload ++ rest → 0 < length rest → get_or rest 0 0 ≢ 0xA7
      → held_by is_head shape c ≡ Some (with_payload held payload)
  gains payload rest small fits within parts some shut =
      let behind : drop n (drop 64 c) ≡ spell_record payload ++ rest = drop-drop n 64 c ∙ ap (λ (i : ℕ). drop i c) end_is ∙ parts in
      let within' : 64 + n + 5 + length payload < shape.max_file = omega (arith, end_is) in
      let end' : 64 + n + 5 + length payload ≡ held.end + 5 + length payload = omega (arith, end_is) in
      held_from is_head shape (with_payload held payload) c (record {
        long = omega (arith, end_is);
        head_fits = ap is_head head_same ∙ p.head_fits;
        head = head_same ∙ p.head;
        found = one_more_found shape held.payloads payload rest 64 n (drop 64 x) (drop 64 c) found body_room body_same small fits within' behind some shut ∙ ap (λ (e : ℕ). (held.payloads ++ payload ∷ [], e)) end';
      })
