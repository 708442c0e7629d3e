-- The world that lines run in: a stored history with its sessions, and what a notary holds.
use Rattle.std.specs.Prelude.{◌≡◌, ◌⊎◌, ℕ, ◌==◌, if◌then◌else◌, Bool, true, false, List, ◌++◌, ◌∷◌, [], Option, Some, None}
use Rattle.history_model.specs.declared.format.Format.{Format}
use Rattle.history_model.specs.declared.format.Format.TheVariants.{One, Two}
use Rattle.history_model.specs.Stored.{stored, format_of}
use Rattle.history_model.specs.History.{History, history}
use Rattle.notary_link.specs.declared.mark.Mark.{Mark}
use Rattle.notary_link.specs.declared.notary.NotaryLimits.{NotaryLimits}
use Rattle.notary_link.specs.Batches.{Batch}
use Rattle.notary_link.specs.Notary.{Lists}
use Rattle.audit_model.specs.Altered.{history_with}
use Rattle.store_engine.specs.Opened.{Stores}
use Rattle.store_engine.specs.Refusals.{IsOfAnother}
use Rattle.statement_core.specs.Database as statements
use Rattle.session_model.specs.Service.{Session}

pub record World : Type 0 where
  -- of the store, and of what is filed for it
  pub id : ℕ
  -- what is stored, where the file has a header with this id, in the second format
  pub store : Option statements.Database
  -- what is stored, where it has one in the first format: no line adds to that, and only validations and analyses read it
  pub old_history : Option History
  -- those that are begun, by their numbers; without a store there are none
  pub sessions : ℕ → Option Session
  -- what the notary holds under each id; no step goes by it
  pub lists : Lists
  pub limits : NotaryLimits
  -- how many items its auditor has read
  pub audited : ℕ

-- no session is begun
abbrev pub no_sessions : ℕ → Option Session
no_sessions n = None

-- with another history
abbrev pub with_store : World → statements.Database → World
with_store w store = record w { store = Some store }

-- with other sessions
abbrev pub with_sessions : World → (ℕ → Option Session) → World
with_sessions w begun = record w { sessions = begun }

-- with other lists
abbrev pub with_lists : World → Lists → World
with_lists w lists = record w { lists = lists }

-- batches more under an id
abbrev pub with_batches : ℕ → List Batch → Lists → Lists
with_batches id batches lists = record lists {
  batches = λ any. if any == id then lists.batches any ++ batches else lists.batches any;
}

-- a mark more under an id
abbrev pub with_mark : ℕ → Mark → Lists → Lists
with_mark id mark lists = record lists {
  marks = λ any. if any == id then lists.marks any ++ mark ∷ [] else lists.marks any;
}

-- with an auditor that has read so many items
abbrev pub with_audited : World → ℕ → World
with_audited w read = record w { audited = read }

-- the history of a store, or else an old one
abbrev pub history_or : Option statements.Database → Option History → Option History
history_or None old = old
history_or (Some store) old = Some (history store.header store.items)

-- the history of a world
abbrev pub history_of : World → Option History
history_of w = history_or w.store w.old_history

-- ---- in bytes

-- whether a file is in the second format
abbrev pub is_new : Option Format → Bool
is_new None = false
is_new (Some One) = false
is_new (Some Two) = true

-- a history in the first format
abbrev pub old_in : Option Format → Option History → Option History
old_in format history = if is_new format then None else history

-- what bytes store in the first format, behind a header with this id
abbrev pub old_under : ℕ → List ℕ → Option History
old_under id bytes = old_in (format_of bytes) (history_with id (stored bytes))

-- they have no header with this id, or one of the first format
abbrev pub HasNoStore : ℕ → List ℕ → Type 0
HasNoStore id bytes = IsOfAnother id (stored bytes).header ⊎ (format_of bytes ≡ Some One)

-- the bytes store this history in the second format; or they have no such header with the id, and this old history or none
abbrev pub StoresOf : ℕ → Option statements.Database → Option History → List ℕ → Type 0
StoresOf id (Some w) old bytes = Stores w.header w.items bytes
StoresOf id None old bytes = HasNoStore id bytes × (old ≡ old_under id bytes)

-- the bytes store what a world has
abbrev pub StoresWorld : World → List ℕ → Type 0
StoresWorld w bytes = StoresOf w.id w.store w.old_history bytes
