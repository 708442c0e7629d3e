-- The lines of an input, one after another.
use Rattle.std.proofs.Common.{◌≡◌, ◌≤◌, ◌∙◌, ℕ, zero, suc, List, [], ◌∷◌, ◌++◌, length, take, refl, ap, arith}
use Rattle.std.proofs.lemmas.List.{take_all, take-append-le}
use Rattle.line_input.specs.Giving.{HasGiven}
use Rattle.line_input.specs.Limits.{input_limit}
use Rattle.line_input.specs.Reader.{Reading}

-- the reader has given out these lines of the input, and took no more than may be taken
pub record IsRead (done : List (List ℕ)) (reader : Reading) (all others : List ℕ) : Type 0 where
  pub given : HasGiven all done reader others
  pub within : reader.taken ≤ input_limit

pub take_first : {A : Type 0} → (xs ys : List A) → take (length xs) (xs ++ ys) ≡ xs
take_first xs ys = take-append-le (length xs) xs ys (omega arith) ∙ take_all (length xs) xs (omega arith)

pub take_front : {A : Type 0} → (m n : ℕ) (xs : List A) → m ≤ n → take m (take n xs) ≡ take m xs
take_front zero n xs le = refl
take_front (suc m) zero xs le = absurd (omega (arith, le))
take_front (suc m) (suc n) [] le = refl
take_front {A} (suc m) (suc n) (x ∷ xs) le = ap (λ (ys : List A). x ∷ ys) (take_front m n xs (omega (arith, le)))
