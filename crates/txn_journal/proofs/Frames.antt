-- The record at the front of some bytes.
use Rattle.std.proofs.Common.{◌≡◌, ℕ, Bool, true, false, cond, List, length, take, drop, Some, None, refl, sym, ap, subst, ◌∙◌, arith}
use Rattle.std.specs.Prelude.{◌&&◌}
use Rattle.std.proofs.lemmas.List.{length-take, length-drop}
use Rattle.std.proofs.lemmas.Option.{same_Some, none-some}
use Rattle.byte_grammar.specs.Gated.{Shape, named_length, named_payload, is_framed, payload_at}
use Rattle.byte_grammar.proofs.Parts.{then_some}
use Rattle.byte_grammar.proofs.GatedLaws.{Framed, framed_from, framed_to}
use Rattle.txn_journal.specs.Front.{framed_length, IsAtFront}

and_first : (a b : Bool) → (a && b) ≡ true → a ≡ true
and_first true b e = refl
and_first false b e = e

and_second : (a b : Bool) → (a && b) ≡ true → b ≡ true
and_second true b e = e
and_second false b e = absurd cc

-- the record at the front, and its payload
pub record IsRecord (shape : Shape) (place : ℕ) (bytes payload : List ℕ) : Type 0 where
  pub framed : Framed shape place bytes
  pub payload_is : payload ≡ named_payload bytes
  pub accepted : shape.accepts payload ≡ true

pub record_from : (shape : Shape) (place : ℕ) (bytes payload : List ℕ) → payload_at shape place bytes ≡ Some payload → IsRecord shape place bytes payload
unfolding payload_at
record_from shape place bytes payload e =
    let g = then_some (is_framed shape place bytes && shape.accepts (named_payload bytes)) (named_payload bytes) payload e in
    record {
      framed = framed_from shape place bytes (and_first _ _ g.0);
      payload_is = sym g.1;
      accepted = subst (λ (p : List ℕ). shape.accepts p ≡ true) g.1 (and_second (is_framed shape place bytes) _ g.0);
    }

pub record_to : (shape : Shape) (place : ℕ) (bytes payload : List ℕ) → IsRecord shape place bytes payload → payload_at shape place bytes ≡ Some payload
unfolding payload_at
record_to shape place bytes payload r =
    let fits : shape.accepts (named_payload bytes) ≡ true = subst (λ (p : List ℕ). shape.accepts p ≡ true) r.payload_is r.accepted in
    rw (framed_to shape place bytes r.framed, fits) (ap (λ (p : List ℕ). Some p) (sym r.payload_is))

record Sized (shape : Shape) (place : ℕ) (bytes : List ℕ) (size : ℕ) : Type 0 where
  pub framed : is_framed shape place bytes ≡ true
  pub size_is : size ≡ named_length bytes

sized : (shape : Shape) (place : ℕ) (bytes : List ℕ) (size : ℕ) → Some size ≡ framed_length shape place bytes → Sized shape place bytes size
sized shape place bytes size e = by (is_framed shape place bytes) refl e
  where
    by : (b : Bool) → is_framed shape place bytes ≡ b → Some size ≡ cond b (Some (named_length bytes)) None → Sized shape place bytes size
    by true is h = record { framed = is; size_is = same_Some size (named_length bytes) h }
    by false is h = absurd (none-some size (sym h))

-- no frame, no record
pub no_frame : (shape : Shape) (place : ℕ) (bytes : List ℕ) → None ≡ framed_length shape place bytes → payload_at shape place bytes ≡ None
unfolding payload_at
no_frame shape place bytes e = by (is_framed shape place bytes) e
  where
    by : (b : Bool) → None ≡ cond b (Some (named_length bytes)) None → cond (b && shape.accepts (named_payload bytes)) (Some (named_payload bytes)) None ≡ None
    by true h = absurd (none-some (named_length bytes) h)
    by false h = refl

-- a frame, and whether its payload is accepted
pub in_frame : (shape : Shape) (place : ℕ) (bytes : List ℕ) (size : ℕ) (payload : List ℕ) (accepted : Bool) → Some size ≡ framed_length shape place bytes → payload ≡ take size (drop 5 bytes) → accepted ≡ shape.accepts payload
    → payload_at shape place bytes ≡ cond accepted (Some payload) None
unfolding payload_at
in_frame shape place bytes size payload accepted e is fits =
    let s = sized shape place bytes size e in
    rw (s.framed, fits, is, s.size_is) refl

-- what is known of it
pub at_front : (shape : Shape) (place : ℕ) (bytes : List ℕ) (size : ℕ) (payload : List ℕ) → Some size ≡ framed_length shape place bytes → payload ≡ take size (drop 5 bytes) → shape.accepts payload ≡ true
    → IsAtFront shape place bytes payload
at_front shape place bytes size payload e is accepted =
    let s = sized shape place bytes size e in
    let f = framed_from shape place bytes s.framed in
    let len : length payload ≡ size = ap length is ∙ length-take size (drop 5 bytes) ∙ omega (arith, length-drop 5 bytes, s.size_is, f.room) in
    record {
      fits = record { accepted = accepted; short = omega (arith, len, s.size_is, f.small) };
      payload_is = is ∙ ap (λ (n : ℕ). take n (drop 5 bytes)) (sym len);
      room = omega (arith, len, s.size_is, f.room);
      within = omega (arith, len, s.size_is, f.within);
    }
