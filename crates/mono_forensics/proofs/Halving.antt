-- How many questions are left, where each of them halves the tiles that are looked at.
use Rattle.std.proofs.Common.{◌≡◌, ℕ, zero, suc, ◌+◌, ◌*◌, ◌^◌, ◌<◌, ◌≤◌, arith}
use Rattle.std.specs.Int.{w32, leading_zeros}
use Rattle.std.proofs.lemmas.Nat.{leading_length}
use Rattle.audit_model.specs.Tree.{digit_count}

-- so many questions more are enough for the rest, and stay within the limit
abbrev pub HasQuestions : ℕ → ℕ → ℕ → Type 0
HasQuestions rest asked limit = (left : ℕ) × (rest < 2 ^ left) × (asked + left ≤ limit)

-- a number is below the power of two of its digits
below_digits : (n : ℕ) → n < 2 ^ 32 → n < 2 ^ digit_count n
below_digits n small =
    let m = leading_length 32 n small in
    let sum : leading_zeros w32 n + m.0 ≡ 32 = m.1 in
    let count : digit_count n ≡ m.0 = omega (arith, sum) in
    rw count m.2

-- one for each digit
pub questions_at_first : (n rest asked limit : ℕ) → n < 2 ^ 32 → rest ≤ n → asked + digit_count n ≤ limit → HasQuestions rest asked limit
questions_at_first n rest asked limit small within few = let digits = below_digits n small in (digit_count n, omega (arith, digits, within), few)

-- at most half of the rest needs one less
pub one_less : (rest half asked more limit : ℕ) → 1 ≤ rest → half + half ≤ rest → more ≤ asked + 1 → HasQuestions rest asked limit → HasQuestions half more limit
one_less rest half asked more limit some least one (zero, few, within) = absurd (omega (arith, some, few))
one_less rest half asked more limit some least one (suc left, few, within) =
    let double : 2 ^ suc left ≡ 2 * 2 ^ left = omega arith in
    (left, omega (arith, least, few, double), omega (arith, one, within))
