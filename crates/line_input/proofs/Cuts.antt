-- The first feed of bytes, by its place.
use Rattle.std.proofs.Common.{◌≡◌, ◌<◌, ◌≤◌, ◌+◌, ◌-◌, ℕ, zero, suc, true, false, List, [], ◌∷◌, ◌++◌, length, take, drop, refl, sym, ap, ◌∙◌, subst, append_assoc, arith, add-one}
use Rattle.std.specs.Prelude.{◌==◌, slice_index, slice_range}
use Rattle.std.proofs.lemmas.Bool.{eqb-true, false_from_ne_true}
use Rattle.std.proofs.lemmas.List.{take_all, drop-take, drop-drop, length-take}
use Rattle.std.proofs.Math.Seq.{split_at}
use Rattle.memchr.specs.Find.{Nowhere, Passes, is_byte}
use Rattle.line_input.specs.Lines.{feed, IsFeedless}
use Rattle.line_input.proofs.Lines.{feedless_append}

-- no feed stands below a place
feedless_below : (bytes : List ℕ) (k : ℕ) → ((i : ℕ) → i < k → (slice_index bytes i == feed) ≡ true → ⊥) → IsFeedless (take k bytes)
feedless_below [] zero none = refl
feedless_below [] (suc k) none = refl
feedless_below (b ∷ bytes) zero none = refl
feedless_below (b ∷ bytes) (suc k) none =
    let here : (b == feed) ≡ false = false_from_ne_true (b == feed) (none 0 (omega arith)) in
    rw (here, feedless_below bytes k (λ i l. none (suc i) (omega arith))) refl

pub feedless_before : (bytes : List ℕ) (k : ℕ) → Nowhere (Passes (is_byte feed) bytes) 0 k → IsFeedless (take k bytes)
feedless_before bytes k none = feedless_below bytes k (λ i l. none i (omega arith) l)

pub feedless_all : (bytes : List ℕ) → Nowhere (Passes (is_byte feed) bytes) 0 (length bytes) → IsFeedless bytes
feedless_all bytes none = subst IsFeedless (take_all (length bytes) bytes (omega arith)) (feedless_before bytes (length bytes) none)

-- bytes, cut at a feed
pub cut_at : (bytes : List ℕ) (k : ℕ) → k < length bytes → Passes (is_byte feed) bytes k → bytes ≡ take k bytes ++ feed ∷ drop (k + 1) bytes
cut_at bytes k l is = rw (add-one) (split_at bytes k 0 l ∙ ap (λ (b : ℕ). take k bytes ++ b ∷ drop (suc k) bytes) (eqb-true (slice_index bytes k) feed is))

-- a range without its first n
range_from : (bytes : List ℕ) (from end n : ℕ) → n ≤ end - from → drop n (slice_range bytes from end) ≡ slice_range bytes (from + n) end
range_from bytes from end n le =
    let len : end - from ≡ n + (end - (from + n)) = omega arith in
    ap (λ (m : ℕ). drop n (take m (drop from bytes))) len ∙ drop-take n (end - (from + n)) (drop from bytes) ∙ ap (take (end - (from + n))) (drop-drop n from bytes)

pub length_range : (bytes : List ℕ) (from end : ℕ) → length (slice_range bytes from end) ≤ end - from
length_range bytes from end = omega (arith, length-take (end - from) (drop from bytes))

-- a line goes on to the first feed of the bytes that are ahead
pub cut_ahead : (line new bytes rest : List ℕ) (from end k : ℕ) → rest ≡ slice_range bytes from end → k < length rest → Passes (is_byte feed) rest k → new ≡ line ++ take k rest → line ++ slice_range bytes from end ≡ new ++ feed ∷ slice_range bytes (from + (k + 1)) end
cut_ahead line new bytes rest from end k is l passes next =
    let behind : drop (k + 1) rest ≡ slice_range bytes (from + (k + 1)) end = ap (drop (k + 1)) is ∙ range_from bytes from end (k + 1) (omega (arith, length_range bytes from end, ap length is)) in
    ap (λ (x : List ℕ). line ++ x) (sym is ∙ cut_at rest k l passes) ∙ sym (append_assoc line (take k rest) (feed ∷ drop (k + 1) rest)) ∙ ap (λ (x : List ℕ). x ++ feed ∷ drop (k + 1) rest) (sym next) ∙ ap (λ (x : List ℕ). new ++ feed ∷ x) behind

pub feedless_joined : (line more new : List ℕ) → new ≡ line ++ more → IsFeedless line → IsFeedless more → IsFeedless new
feedless_joined line more new is f g = rw is (feedless_append line more f g)
