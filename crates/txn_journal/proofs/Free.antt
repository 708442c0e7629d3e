-- A device is free where the test says so.
use Rattle.std.proofs.Common.{◌≡◌, ◌≢◌, inl, inr, ◌≤◌, ◌==◌, ℕ, Bool, true, false, leb, List, length, refl, arith}
use Rattle.std.specs.Prelude.{◌&&◌, ◌||◌, not, slice_index}
use Rattle.std.proofs.lemmas.Bool.{and_from, or_left, or_right, le-leb, leb-true, not_from_false}
use Rattle.std.proofs.lemmas.Bool.Decides.{nat_tests}
use Rattle.byte_grammar.specs.Gated.{open_gate}
use Rattle.txn_journal.specs.Create.{is_free, IsFree}

pub free_is : (bytes : List ℕ) → IsFree bytes → is_free bytes ≡ true
free_is bytes (inl few) = or_left _ _ (le-leb (length bytes) 1 few)
free_is bytes (inr h) =
    let few : length bytes ≤ 65 = h.0 in
    let closed : slice_index bytes 0 ≢ open_gate = h.1 in
    let test : (slice_index bytes 0 == open_gate) ≡ false = grind (arith, nat_tests) in
    or_right _ _ (and_from _ _ (le-leb (length bytes) 65 few) (not_from_false _ test))

pub is_free_if : (bytes : List ℕ) → is_free bytes ≡ true → IsFree bytes
is_free_if bytes e = by (leb (length bytes) 1) (leb (length bytes) 65) (slice_index bytes 0 == open_gate) refl refl refl e
  where
    by : (short few gate : Bool) → leb (length bytes) 1 ≡ short → leb (length bytes) 65 ≡ few → (slice_index bytes 0 == open_gate) ≡ gate → (short || (few && not gate)) ≡ true → IsFree bytes
    by true few gate s f g h = inl (leb-true (length bytes) 1 s)
    by false true false s f g h = let closed : slice_index bytes 0 ≢ open_gate = grind (arith, nat_tests) in inr (leb-true (length bytes) 65 f, closed)
    by false true true s f g h = absurd cc
    by false false gate s f g h = absurd cc
