-- A device is sure where no reading call is to fail, and memory is its only other want. Then a fault comes of a changing call alone.
use Rattle.std.specs.Prelude.{◌≤◌, ◌+◌, ℕ, Bool, true, false, List, [], ◌∷◌}
use Rattle.std.specs.List.{count_by}

-- no call is listed to fail
abbrev pub none_listed : List ℕ → Bool
none_listed [] = true
none_listed (number ∷ listed) = false

-- the count of faults rose by no more than the changing calls that failed
abbrev pub RisesByFailed : {A : Type 0} → (A → Bool) → ℕ → ℕ → List A → List A → Type 0
RisesByFailed failed before now old new = now + count_by failed old ≤ before + count_by failed new
