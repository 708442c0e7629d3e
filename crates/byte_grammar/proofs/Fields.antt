-- Bytes and numbers.
use Rattle.std.proofs.Common.{◌≡◌, ℕ, ◌^◌, ◌<◌, ◌≤◌, true, false, ltb, List, [], ◌∷◌, ◌++◌, length, take, drop, Some, refl, sym, ap, subst, ◌∙◌, arith, inl, inr}
use Rattle.std.specs.List.{flat_map, AllByRecursion}
use Rattle.std.specs.Int.{Width, w16, w32, w64, byte_len, from_be_bytes, to_be_bytes}
use Rattle.std.proofs.lemmas.Bool.{cases_lt, ltb-false, le-ltb, leb-true, le-leb}
use Rattle.std.proofs.lemmas.List.{take_at, drop_at, take-append-drop, length-append, length-take, get_or-take, get_or_past}
use Rattle.std.proofs.lemmas.Nat.{be_bytes_2, be_bytes_4, be_bytes_8, from_be_bytes-to_be_bytes_2, from_be_bytes-to_be_bytes_4, from_be_bytes-to_be_bytes_8}
use Rattle.std.proofs.lemmas.Option.{same_Some}
use Rattle.std.specs.Prelude.{nat_le}
use Rattle.std.specs.Str.{bytes_eq}
use Rattle.std.proofs.lemmas.Slice.Eq.{bytes_eq-Decides}
use Rattle.byte_grammar.specs.Reading.{Reader, IsBytes, is_from_1_to, IsFrom1To, up_to, IsUpTo, byte, number, constant, checked, counted}
use Rattle.byte_grammar.proofs.Parts.{Reads, and_left, and_right, then_some, else_some, checked_reads, counted_reads, reads_as}

pub IsBytes-take : (n : ℕ) (bytes : List ℕ) → IsBytes bytes → IsBytes (take n bytes)
IsBytes-take n bytes h i =
    elim (cases_lt i n) [
      | inl lt ↦ rw (get_or-take n bytes i 0 lt) (h i)
      | inr le ↦ rw (get_or_past (take n bytes) i 0 (omega (arith, length-take n bytes))) (omega arith)
    ]

abbrev pub cell : ℕ → List ℕ
cell b = b ∷ []

abbrev pub IsByte : ℕ → Type 0
IsByte b = b < 256

byte_takes : (bytes : List ℕ) (b : ℕ) (rest : List ℕ) → IsBytes bytes → byte bytes ≡ Some (b, rest) → (bytes ≡ cell b ++ rest) × IsByte b
byte_takes [] b rest fits e = absurd cc
byte_takes (x ∷ xs) b rest fits e =
    let found : ℕ × List ℕ = (x, xs) in
    subst (λ (y : ℕ × List ℕ). (x ∷ xs ≡ cell y.0 ++ y.1) × IsByte y.0) (same_Some found (b, rest) e) (refl, fits 0)

pub byte_reads : Reads byte cell IsByte
byte_reads = record { takes = byte_takes; again = λ b rest fits. refl }

pub record IsWide (w : Width) (limit : ℕ) : Type 0 where
  pub len : (n : ℕ) → length (to_be_bytes w n) ≡ byte_len w
  pub back : (bytes : List ℕ) → length bytes ≡ byte_len w → IsBytes bytes → to_be_bytes w (from_be_bytes w bytes) ≡ bytes
  pub again : (n : ℕ) → n < limit → from_be_bytes w (to_be_bytes w n) ≡ n
  pub below : (bytes : List ℕ) → IsBytes bytes → from_be_bytes w bytes < limit

pub wide16 : IsWide w16 (2 ^ 16)
wide16 = record {
  len = λ n. refl;
  back = λ bytes len fits. be_bytes_2 bytes _ len fits refl;
  again = λ n lt. from_be_bytes-to_be_bytes_2 n lt;
  below = λ bytes fits. omega (arith, fits 0, fits 1);
}

pub wide32 : IsWide w32 (2 ^ 32)
wide32 = record {
  len = λ n. refl;
  back = λ bytes len fits. be_bytes_4 bytes _ len fits refl;
  again = λ n lt. from_be_bytes-to_be_bytes_4 n lt;
  below = λ bytes fits. omega (arith, fits 0, fits 1, fits 2, fits 3);
}

pub wide64 : IsWide w64 (2 ^ 64)
wide64 = record {
  len = λ n. refl;
  back = λ bytes len fits. be_bytes_8 bytes _ len fits refl;
  again = λ n lt. from_be_bytes-to_be_bytes_8 n lt;
  below = λ bytes fits. omega (arith, fits 0, fits 1, fits 2, fits 3, fits 4, fits 5, fits 6, fits 7);
}

pub number_reads : (w : Width) (limit : ℕ) → IsWide w limit → Reads (number w) (to_be_bytes w) (λ n. n < limit)
number_reads w limit wide = record {
  takes = λ bytes n rest fits e.
      let g = else_some (ltb (length bytes) (byte_len w)) (from_be_bytes w (take (byte_len w) bytes), drop (byte_len w) bytes) (n, rest) e in
      let long : byte_len w ≤ length bytes = ltb-false _ _ g.0 in
      let front : to_be_bytes w (from_be_bytes w (take (byte_len w) bytes)) ≡ take (byte_len w) bytes = wide.back (take (byte_len w) bytes) (omega (arith, length-take (byte_len w) bytes)) (IsBytes-take (byte_len w) bytes fits) in
      let parts : bytes ≡ to_be_bytes w (from_be_bytes w (take (byte_len w) bytes)) ++ drop (byte_len w) bytes = rw front (sym (take-append-drop (byte_len w) bytes)) in
      subst (λ (y : ℕ × List ℕ). (bytes ≡ to_be_bytes w y.0 ++ y.1) × (y.0 < limit)) g.1 (parts, wide.below (take (byte_len w) bytes) (IsBytes-take (byte_len w) bytes fits));
  again = λ n rest lt.
      let len = wide.len n in
      let long : ltb (length (to_be_bytes w n ++ rest)) (byte_len w) ≡ false = le-ltb _ _ (omega (arith, length-append (to_be_bytes w n) rest)) in
      rw (long, take_at (to_be_bytes w n) rest (byte_len w) len, drop_at (to_be_bytes w n) rest (byte_len w) len, wide.again n lt) refl;
}

-- ---- constant bytes

abbrev pub spell_constant : List ℕ → Unit {0} → List ℕ
spell_constant text u = text

abbrev pub Nothing : Unit {0} → Type 0
Nothing u = Unit {0}

same_bytes : (xs ys : List ℕ) → bytes_eq xs ys ≡ true → xs ≡ ys
same_bytes xs ys e = grind (arith, bytes_eq-Decides)

bytes_same : (xs : List ℕ) → bytes_eq xs xs ≡ true
bytes_same xs = grind (arith, bytes_eq-Decides)

pub constant_reads : (text : List ℕ) → Reads (constant text) (spell_constant text) Nothing
unfolding constant
constant_reads text = record {
  takes = λ bytes u rest fits e.
      let g = then_some (bytes_eq (take (length text) bytes) text) (tt, drop (length text) bytes) (u, rest) e in
      let front : take (length text) bytes ≡ text = same_bytes (take (length text) bytes) text g.0 in
      let parts : bytes ≡ text ++ drop (length text) bytes = sym (take-append-drop (length text) bytes) ∙ ap (λ (x : List ℕ). x ++ drop (length text) bytes) front in
      subst (λ (y : Unit {0} × List ℕ). (bytes ≡ text ++ y.1) × Unit {0}) g.1 (parts, tt);
  again = λ u rest fits. rw (take_at text rest (length text) refl, bytes_same text, drop_at text rest (length text) refl) refl;
}

-- ---- numbers within limits

pub from_test : (limit n : ℕ) → is_from_1_to limit n ≡ true → IsFrom1To limit n
from_test limit n e = (leb-true 1 n (and_left _ _ e), leb-true n limit (and_right (nat_le 1 n) _ e))

pub to_test : (limit n : ℕ) → IsFrom1To limit n → is_from_1_to limit n ≡ true
to_test limit n h =
    let low : nat_le 1 n ≡ true = le-leb 1 n h.0 in
    let high : nat_le n limit ≡ true = le-leb n limit h.1 in
    rw (low, high) refl

-- a number from 1 to a limit that the reader reaches
pub from_1_to_reads : (r : Reader ℕ) (s : ℕ → List ℕ) (wide limit : ℕ) → limit < wide → Reads r s (λ n. n < wide) → Reads (checked (is_from_1_to limit) r) s (IsFrom1To limit)
from_1_to_reads r s wide limit lt law =
    reads_as (checked (is_from_1_to limit) r) s _ (IsFrom1To limit) (checked_reads (is_from_1_to limit) r s (λ n. n < wide) law)
    (λ n h. from_test limit n h.1) (λ n h. let le : n ≤ limit = h.1 in let b : n < wide = omega arith in (b, to_test limit n h))

-- a number up to such a limit
pub up_to_reads : (r : Reader ℕ) (s : ℕ → List ℕ) (wide limit : ℕ) → limit < wide → Reads r s (λ n. n < wide) → Reads (checked (up_to limit) r) s (IsUpTo limit)
up_to_reads r s wide limit lt law =
    reads_as (checked (up_to limit) r) s _ (IsUpTo limit) (checked_reads (up_to limit) r s (λ n. n < wide) law)
    (λ n h. leb-true n limit h.1) (λ n h. let b : n < wide = omega arith in (b, le-leb n limit h))

-- from 1 to a limit, counted by a number that reaches it
pub few_reads : {A : Type 0} (rc : Reader ℕ) (sc : ℕ → List ℕ) (wide limit : ℕ) → limit < wide → Reads rc sc (λ n. n < wide)
    → (r : Reader A) (s : A → List ℕ) (F : A → Type 0) → Reads r s F
    → Reads (counted rc (is_from_1_to limit) r) (λ (xs : List A). sc (length xs) ++ flat_map s xs) (λ (xs : List A). IsFrom1To limit (length xs) × AllByRecursion F xs)
few_reads {A} rc sc wide limit lt c_law r s F law =
    reads_as (counted rc (is_from_1_to limit) r) (λ (xs : List A). sc (length xs) ++ flat_map s xs) _ (λ (xs : List A). IsFrom1To limit (length xs) × AllByRecursion F xs)
    (counted_reads rc sc (λ n. n < wide) (is_from_1_to limit) r s F c_law law)
    (λ xs h. (from_test limit (length xs) h.0.1, h.1))
    (λ xs h. let le : length xs ≤ limit = h.0.1 in let b : length xs < wide = omega arith in ((b, to_test limit (length xs) h.0), h.1))
