-- Tags that are none.
use Rattle.std.proofs.Common.{◌≡◌, ℕ, zero, suc, ◌≤◌, List, None, refl, arith}
use Rattle.notary_book.specs.Calls.{name_by, outcome_by, call_by}

pub name_by_other : (n : ℕ) (bytes : List ℕ) → 6 ≤ n → name_by n bytes ≡ None
unfolding name_by
name_by_other zero bytes h = absurd (omega arith)
name_by_other (suc zero) bytes h = absurd (omega arith)
name_by_other (suc (suc zero)) bytes h = absurd (omega arith)
name_by_other (suc (suc (suc zero))) bytes h = absurd (omega arith)
name_by_other (suc (suc (suc (suc zero)))) bytes h = absurd (omega arith)
name_by_other (suc (suc (suc (suc (suc zero))))) bytes h = absurd (omega arith)
name_by_other (suc (suc (suc (suc (suc (suc n)))))) bytes h = refl

pub outcome_by_other : (n : ℕ) (bytes : List ℕ) → 3 ≤ n → outcome_by n bytes ≡ None
unfolding outcome_by
outcome_by_other zero bytes h = absurd (omega arith)
outcome_by_other (suc zero) bytes h = absurd (omega arith)
outcome_by_other (suc (suc zero)) bytes h = absurd (omega arith)
outcome_by_other (suc (suc (suc n))) bytes h = refl

pub call_by_other : (n : ℕ) (bytes : List ℕ) → 3 ≤ n → call_by n bytes ≡ None
unfolding call_by
call_by_other zero bytes h = absurd (omega arith)
call_by_other (suc zero) bytes h = absurd (omega arith)
call_by_other (suc (suc zero)) bytes h = absurd (omega arith)
call_by_other (suc (suc (suc n))) bytes h = refl
