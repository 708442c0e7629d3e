-- A header that is spelled in the first format begins with an open gate and its letters.
use Rattle.std.proofs.Common.{◌≡◌, ℕ, Bool, true, false, cond, List, length, take, drop, Option, Some, None, refl, sym, ap, ◌∙◌, arith}
use Rattle.std.specs.Prelude.{slice_index}
use Rattle.std.specs.Str.{bytes_eq}
use Rattle.std.proofs.lemmas.Bool.Decides.{Decides-eqb}
use Rattle.std.proofs.lemmas.List.{get_or-take}
use Rattle.std.proofs.lemmas.Slice.Eq.{slice_eq-Decides}
use Rattle.byte_grammar.specs.Gated.{open_gate}
use Rattle.byte_grammar.specs.Reading.{constant, seq, mapped, whole, ◌>>=◌}
use Rattle.tuple_bytes.specs.declared.header.Header.{Header}
use Rattle.tuple_bytes.specs.Spelling.{head_text}
use Rattle.tuple_bytes.specs.HeaderBytes.{header_at, header_of}

read_first : {A B C D : Type 0} (o : Option A) (f : A → Option B) (g : B → Option C) (w : C → Option D) (d : D) → (((o >>= f) >>= g) >>= w) ≡ Some d → (a : A) × (o ≡ Some a)
read_first None f g w d e = absurd cc
read_first (Some a) f g w d e = (a, refl)

constant_front : (text bytes : List ℕ) (a : Unit {0} × List ℕ) → constant text bytes ≡ Some a → take (length text) bytes ≡ text
unfolding constant
constant_front text bytes a e = (slice_eq-Decides Decides-eqb (take (length text) bytes) text (bytes_eq (take (length text) bytes) text) refl).0 (by (bytes_eq (take (length text) bytes) text) e)
  where
    by : (b : Bool) → cond b (Some (tt, drop (length text) bytes)) None ≡ Some a → b ≡ true
    by true e = refl
    by false e = absurd cc

text_first : (bytes : List ℕ) (h : Header) → header_of bytes ≡ Some h → take 9 bytes ≡ head_text
unfolding header_of whole header_at mapped seq
text_first bytes h e = constant_front head_text bytes _ (read_first (constant head_text bytes) _ _ _ h e).1

pub gate_first : (bytes : List ℕ) (h : Header) → header_of bytes ≡ Some h → slice_index bytes 0 ≡ open_gate
gate_first bytes h e = sym (get_or-take 9 bytes 0 0 (omega arith)) ∙ ap (λ (l : List ℕ). slice_index l 0) (text_first bytes h e)

-- and with the letters of the first format
pub letter_first : (bytes : List ℕ) (h : Header) → header_of bytes ≡ Some h → slice_index bytes 8 ≡ 0x31
letter_first bytes h e = sym (get_or-take 9 bytes 8 0 (omega arith)) ∙ ap (λ (l : List ℕ). slice_index l 8) (text_first bytes h e)
