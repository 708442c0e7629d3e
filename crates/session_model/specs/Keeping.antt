-- What a line leaves of what is kept of sessions, beside what it does to the store.
use Rattle.std.specs.Prelude.{◌≡◌, ◌⊎◌, ◌==◌, ℕ, if◌then◌else◌, List, [], None, Some}
use Rattle.tuple_bytes.specs.declared.op.Op.{Op}
use Rattle.statement_core.specs.declared.reply.Reply.{Reply}
use Rattle.statement_core.specs.declared.reply.Reply.TheVariants as replies
use Rattle.session_model.specs.declared.place.Place.{Place}
use Rattle.session_model.specs.Index.{noted_ops}
use Rattle.session_model.specs.Standing.{Machine, Kept, kept_at, numbers_at}

-- what is kept is as it was
pub record IsLeft (m new : Machine) : Type 0 where
  pub sessions : (k : ℕ) → kept_at new k ≡ kept_at m k
  pub from : new.touched.from ≡ m.touched.from
  pub numbers : (place : Place) → numbers_at new.touched.places place ≡ numbers_at m.touched.places place

-- its operations are noted
pub record IsNoted (number : ℕ) (ops : List Op) (m new : Machine) : Type 0 where
  pub from : new.touched.from ≡ m.touched.from
  pub numbers : (place : Place) → numbers_at new.touched.places place ≡ noted_ops number ops (numbers_at m.touched.places) place

-- the session is gone; its operations are noted, or no session is left
pub record IsBehind (n number : ℕ) (ops : List Op) (m new : Machine) : Type 0 where
  pub sessions : (k : ℕ) → kept_at new k ≡ (if k == n then None else kept_at m k)
  pub index : IsNoted number ops m new ⊎ (new.sessions ≡ [])

-- behind the reply to a commit that has something to store
abbrev pub GoesAlong : ℕ → List Op → Reply → Machine → Machine → Type 0
GoesAlong n ops (replies.Committed number) m new = IsBehind n number ops m new
GoesAlong n ops reply m new = IsLeft m new

-- the session is kept so, and nothing is noted
pub record IsHeard (n : ℕ) (kept : Kept) (m new : Machine) : Type 0 where
  pub sessions : (k : ℕ) → kept_at new k ≡ (if k == n then Some kept else kept_at m k)
  pub from : new.touched.from ≡ m.touched.from
  pub numbers : (place : Place) → numbers_at new.touched.places place ≡ numbers_at m.touched.places place
