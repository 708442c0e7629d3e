-- A clock as its callers see it: the answers still to come.
use Rattle.std.specs.Prelude.{◌≡◌, ℕ, ◌+◌, ◌-◌, min, List, length, slice_index, Option, Some, None}
use Rattle.outside_words.specs.Told.{WhereTold, TellsAlike}

pub record State : Type 0 where
  -- the answers still to come, by number from 0, where they are told
  pub answers : Option (ℕ → ℕ)

-- this was the first of the answers, and those behind it are still to come
abbrev pub Tells : ℕ → State → State → Type 0
Tells moment old new = WhereTold old.answers new.answers (λ before after. (moment ≡ before 0) × ((n : ℕ) → after n ≡ before (n + 1)))

-- What every call and every run of calls keeps.
pub record GoesOn (old new : State) : Type 0 where
  pub told : TellsAlike old.answers new.answers

-- these moments in order, from one on, and then the last for ever; 0 where there are none
abbrev pub moments_from : List ℕ → ℕ → ℕ → ℕ
moments_from moments first n = slice_index moments (min (first + n) (length moments - 1))

-- a clock that gives these
abbrev pub state_of_moments : List ℕ → ℕ → State
state_of_moments moments first = record { answers = Some (moments_from moments first) }

-- a clock that tells nothing of itself
abbrev pub untold_clock : State
untold_clock = record { answers = None }
