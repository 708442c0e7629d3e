-- A store with its sessions: a stored history, and what each session has read and wants to store.
use Rattle.std.specs.Prelude.{ℕ, ◌==◌, if◌then◌else◌, List, [], length, Option}
use Rattle.tuple_bytes.specs.declared.op.Op.{Op}
use Rattle.history_model.specs.History.{txns}
use Rattle.statement_core.specs.Database as stores
use Rattle.session_model.specs.declared.place.Place.{Place}

-- a session that is begun
pub record Session : Type 0 where
  -- the number of transactions at its begin
  pub begun : ℕ
  -- as a set: the order does not count, nor how often a place is there
  pub reads : List Place
  -- in the order in which they are to be stored
  pub pending : List Op

pub record Service : Type 0 where
  pub store : stores.Database
  pub sessions : ℕ → Option Session

-- something else at one number
abbrev pub put_at : {A : Type 0} → ℕ → A → (ℕ → A) → ℕ → A
put_at n a f any = if any == n then a else f any

-- with another session of this number, or with none
abbrev pub with_session : Service → ℕ → Option Session → Service
with_session w n s = record { store = w.store; sessions = put_at n s w.sessions }

abbrev pub with_store : Service → stores.Database → Service
with_store w store = record { store = store; sessions = w.sessions }

-- a session that begins now
abbrev pub new_session : Service → Session
new_session w = record { begun = length (txns w.store.items); reads = []; pending = [] }
