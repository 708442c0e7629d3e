-- A fault that a device counted is told, and not hidden behind another answer.
use Rattle.std.specs.Prelude.{◌≡◌, ℕ, Bool, false, Result, Ok, Err}

-- no fault was counted behind an Ok, nor behind an error that tells of none
abbrev pub ShowsFaults : {T E : Type 0} → (E → Bool) → ℕ → ℕ → Result T E → Type 0
ShowsFaults tells before now (Ok _) = now ≡ before
ShowsFaults tells before now (Err fail) = tells fail ≡ false → now ≡ before
