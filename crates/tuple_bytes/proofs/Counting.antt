-- The sizes of spellings, one after the other.
use Rattle.std.proofs.Common.{◌≡◌, ℕ, ◌+◌, ◌<◌, ◌≤◌, List, [], ◌∷◌, ◌++◌, length, get_or, take, sym, ap, ◌∙◌, arith}
use Rattle.std.specs.List.{flat_map}
use Rattle.std.proofs.lemmas.List.{take_more, take_all, length-append, append-nil}
use Rattle.std.proofs.lemmas.List.Concat.{flat_map-append}
use Rattle.std.proofs.lemmas.List.Folds.{length-flat_map-take}

-- so many bytes have a front of so many and the first i spellings behind it
abbrev pub IsSized : {A : Type 0} → ℕ → (A → List ℕ) → ℕ → List A → ℕ → Type 0
IsSized front s size xs i = size ≡ front + length (flat_map s (take i xs))

pub sized_next : {A : Type 0} (front : ℕ) (s : A → List ℕ) (size : ℕ) (xs : List A) (i : ℕ) (x : A) → i < length xs → x ≡ get_or xs i x → IsSized front s size xs i → IsSized front s (size + length (s x)) xs (i + 1)
sized_next {A} front s size xs i x lt is e =
    let more : take (i + 1) xs ≡ take i xs ++ x ∷ [] = take_more xs i x lt ∙ ap (λ (y : A). take i xs ++ y ∷ []) (sym is) in
    let parts : flat_map s (take i xs ++ x ∷ []) ≡ flat_map s (take i xs) ++ s x = flat_map-append s (take i xs) (x ∷ []) ∙ ap (λ (t : List ℕ). flat_map s (take i xs) ++ t) (append-nil (s x)) in
    rw more (rw parts (omega (arith, e, length-append (flat_map s (take i xs)) (s x))))

pub sized_all : {A : Type 0} (front : ℕ) (s : A → List ℕ) (size : ℕ) (xs : List A) (i : ℕ) → length xs ≤ i → IsSized front s size xs i → size ≡ front + length (flat_map s xs)
sized_all {A} front s size xs i le e = e ∙ ap (λ (ys : List A). front + length (flat_map s ys)) (take_all i xs le)

-- the first of them and one more have no more bytes than all
pub sized_front : {A : Type 0} (front : ℕ) (s : A → List ℕ) (size : ℕ) (xs : List A) (i : ℕ) (x : A) → i < length xs → x ≡ get_or xs i x → IsSized front s size xs i → size + length (s x) ≤ front + length (flat_map s xs)
sized_front {A} front s size xs i x lt is e =
    let same : length (s x) ≡ length (s (get_or xs i x)) = ap (λ (y : A). length (s y)) is in
    omega (arith, e, same, length-flat_map-take s xs i x lt)
