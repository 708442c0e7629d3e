-- What code keeps of a world, and the world that it stands for.
use Rattle.std.specs.Prelude.{◌≡◌, ℕ, Bool, true, false, List, Option, Some, None, IfSome, Result, Ok, Err}
use Rattle.std.specs.Option.{is_some}
use Rattle.history_model.specs.Stored.{stored, format_of}
use Rattle.store_engine.specs.declared.fail.StoreFail.{StoreFail}
use Rattle.store_engine.specs.declared.fail.StoreFail.TheVariants as fails
use Rattle.store_engine.specs.Opened.{IsOpenOn}
use Rattle.store_engine.specs.Causes.{IsNoStore}
use Rattle.statement_core.specs.Database as statements
use Rattle.session_model.specs.Service as session_worlds
use Rattle.session_model.specs.Service.{Session}
use Rattle.session_model.specs.Standing as sessions
use Rattle.audit_steps.specs.declared.auditing.Auditing.{Auditing}
use Rattle.audit_steps.specs.Auditing.{IsAuditOf, read_by}
use Rattle.store_world.specs.declared.open_store.OpenStore.{OpenStore}
use Rattle.store_world.specs.World.{World, HasNoStore, old_under}

-- A world as code keeps it: its id, and where a store is open that store with what is kept of its sessions; else whether the file
-- was refused as one of the first format. And the audit that is under way.
pub record OpenWorld : Type 0 where
  pub id : ℕ
  pub opened : Option OpenStore
  pub is_old : Bool
  pub auditing : Option Auditing

-- An open store of this id and its sessions stand for what is stored and for the sessions over it. Or there is no store and no
-- session, and the bytes have no header with the id, or one of the first format.
abbrev pub StoreIsIn : ℕ → Option statements.Database → (ℕ → Option Session) → Option OpenStore → List ℕ → Type 0
StoreIsIn id (Some w) begun (Some o) bytes = sessions.IsIn (record { store = w; sessions = begun }) o.sessions o.store bytes × (w.header.id ≡ id)
StoreIsIn id None begun None bytes = HasNoStore id bytes × ((n : ℕ) → begun n ≡ None)
StoreIsIn id (Some w) begun None bytes = ⊥
StoreIsIn id None begun (Some o) bytes = ⊥

-- It stands for this world over these bytes, whatever the notary holds.
pub record IsIn (w : World) (held : OpenWorld) (bytes : List ℕ) : Type 0 where
  pub id : held.id ≡ w.id
  pub store : StoreIsIn w.id w.store w.sessions held.opened bytes
  -- what is stored in the first format
  pub old : w.old_history ≡ old_under w.id bytes
  pub is_old : held.is_old ≡ is_some w.old_history
  -- what the auditor has read
  pub audit : IsAuditOf w.id held.auditing bytes
  pub audited : read_by held.auditing ≡ w.audited

-- there is no store, or it stands over these bytes with its sessions, for whatever world
abbrev pub StandsOver : OpenWorld → List ℕ → Type 0
StandsOver held bytes = IfSome held.opened (λ o. (w : session_worlds.Service) × sessions.IsIn w o.sessions o.store bytes)

-- the store of an id was opened over these bytes, or refused
abbrev pub IsEntered : ℕ → List ℕ → Result (Unit {0}) StoreFail → Option OpenStore → Type 0
IsEntered id bytes (Ok _) (Some o) = IsOpenOn o.store (stored bytes).items bytes × (o.store.header.id ≡ id)
IsEntered id bytes (Ok _) None = ⊥
IsEntered id bytes (Err fail) opened = IsNoStore id (stored bytes).header (format_of bytes) fail

-- refused as one of the first format
abbrev pub is_refused_old : Result (Unit {0}) StoreFail → Bool
is_refused_old (Err fails.OldFormat) = true
is_refused_old result = false
