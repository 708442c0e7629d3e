-- What code keeps of sessions, when it stands for a world with sessions, and what a step does to it.
use Rattle.std.specs.Prelude.{◌≡◌, ◌≢◌, ℕ, ◌≤◌, List, [], Option, Some, None, IfSome, Result, OnOk, OnErr, IfOk}
use Rattle.std.specs.BTreeMap.{is_at}
use Rattle.std.specs.Map.{lookup}
use Rattle.std.specs.Option.{unwrap_or}
use Rattle.std.specs.Ordering.{nat_cmp}
use Rattle.disk_words.specs.Disk.{State, Only}
use Rattle.disk_model.specs.Moments.{EveryImage}
use Rattle.tuple_bytes.specs.declared.op.Op.{Op}
use Rattle.history_model.specs.History.{txns}
use Rattle.store_engine.specs.Opened.{Opened}
use Rattle.stmt_text.specs.declared.line.Line.{Line}
use Rattle.stmt_text.specs.declared.line.Line.TheVariants as lines
use Rattle.stmt_text.specs.declared.kind.LineKind.{LineKind}
use Rattle.stmt_text.specs.declared.kind.LineKind.TheVariants as kinds
use Rattle.stmt_text.specs.declared.kind.WorldPart.TheVariants as parts
use Rattle.stmt_text.specs.Kinds.{line_kind}
use Rattle.statement_core.specs.declared.reply.Reply.{Reply}
use Rattle.statement_core.specs.declared.statements.StepFail.{StepFail}
use Rattle.statement_core.specs.Database as stores
use Rattle.statement_core.specs.Steps as statements
use Rattle.statement_core.specs.Stepping as stepping
use Rattle.session_model.specs.declared.place.Place.{Place}
use Rattle.session_model.specs.Service.{Session, Service}
use Rattle.session_model.specs.Steps.{Served, reply_of, conflict, serve}
use Rattle.session_model.specs.PlaceOrder.{place_cmp}
use Rattle.session_model.specs.Index.{IsIndex, AreAllNumbered, least_above}
use Rattle.session_model.specs.Conflicts.{AreSameReads}
use Rattle.session_model.specs.Pending.{HasRoom}

-- ---- what is kept

-- of a session
pub record Kept : Type 0 where
  pub begun : ℕ
  -- as a set: neither their order counts, nor how often a place is there
  pub reads : List Place
  pub pending : List Op

-- of transactions
pub record Touched : Type 0 where
  -- as many are not noted
  pub from : ℕ
  -- the numbers that are noted at each place
  pub places : List (Place × List ℕ)

-- the whole, the sessions under their numbers
pub record Machine : Type 0 where
  pub sessions : List (ℕ × Kept)
  pub touched : Touched

-- what is kept under a number
abbrev pub kept_at : Machine → ℕ → Option Kept
kept_at m n = lookup (is_at (nat_cmp n)) m.sessions

-- the numbers at a place, none where nothing is noted
abbrev pub numbers_at : List (Place × List ℕ) → Place → List ℕ
numbers_at places place = unwrap_or (lookup (is_at (place_cmp place)) places) []

-- ---- what it stands for

-- what is kept is this session, its reads as a set that touches the same
abbrev pub IsSession : Option Session → Option Kept → Type 0
IsSession (Some s) (Some k) = (k.begun ≡ s.begun) × (k.pending ≡ s.pending) × AreSameReads k.reads s.reads
IsSession None None = Unit {0}
IsSession (Some s) None = ⊥
IsSession None (Some k) = ⊥

-- a machine and an open store stand for this world
pub record IsIn (w : Service) (m : Machine) (stand : Opened) (bytes : List ℕ) : Type 0 where
  pub store : stores.IsIn w.store stand bytes
  pub sessions : (n : ℕ) → IsSession (w.sessions n) (kept_at m n)
  pub room : (n : ℕ) → HasRoom (w.sessions n)
  pub numbered : AreAllNumbered w
  -- the transactions since the begin of each session are noted
  pub indexed : (n : ℕ) → IfSome (w.sessions n) (λ s. (m.touched.from ≤ s.begun) × IsIndex m.touched.from (numbers_at m.touched.places) (txns w.store.items))

-- what the code finds where a session commits
abbrev pub found_conflict : Machine → Kept → Option ℕ
found_conflict m k = least_above k.begun (numbers_at m.touched.places) k.reads

-- It is the conflict.
abbrev pub MachinesFindConflicts : Type 0
MachinesFindConflicts = (w : Service) (m : Machine) (stand : Opened) (bytes : List ℕ) (n : ℕ) (s : Session) (k : Kept) → IsIn w m stand bytes
    → w.sessions n ≡ Some s → kept_at m n ≡ Some k → found_conflict m k ≡ conflict w s

-- ---- a step

-- a step as one of the store
abbrev pub of_store : Served → statements.Performed
of_store next = record { world = next.world.store; reply = reply_of next.answer }

-- no session is kept
abbrev pub NoneKept : Machine → Type 0
NoneKept m = m.sessions ≡ []

-- an open store, with the machine beside it
pub record Serving : Type 0 where
  pub machine : Machine
  pub store : Opened

abbrev pub serving : Machine → Opened → Serving
serving m store = record { machine = m; store = store }

-- from and to are what serves before and after, and next what is to be done
pub record StepsIn (w : Service) (next : Served) (result : Result Reply StepFail) (from to : Serving) (old new : State) (before after : List ℕ) : Type 0 where
  pub reply : IfOk result (λ reply. reply ≡ reply_of next.answer)
  pub stands : OnOk result (IsIn next.world to.machine to.store after)
  pub dropped : OnErr result (NoneKept to.machine)
  pub settled : Only before old → OnOk result (Only after new)
  pub places : OnOk result (stepping.KeepsPlaces before after)
  pub images : Only before old → EveryImage old new (stores.StoresEither w.store next.world.store)
  pub kept : Only before old → stores.StoresEither w.store next.world.store after
  pub trace : stepping.MakesFor w.store (of_store next) result from.store old new

-- whatever world it stands for, a line does this to it
abbrev pub StepsTo : Line → ℕ → Result Reply StepFail → Serving → Serving → State → State → List ℕ → List ℕ → Type 0
StepsTo line now result from to old new before after =
    (w : Service) → IsIn w from.machine from.store before → StepsIn w (serve w line now) result from to old new before after

-- ---- the conditions of a step, and what it leaves

-- the store answers lines of this kind, by its tables or by a session
abbrev pub IsOfStore : LineKind → Type 0
IsOfStore (kinds.InWorld parts.Tables) = Unit {0}
IsOfStore (kinds.InWorld parts.Sessions) = Unit {0}
IsOfStore kind = ⊥

-- a statement on tables, or a line of a session
abbrev pub IsStatementLine : Line → Type 0
IsStatementLine line = IsOfStore (line_kind line)

-- what is kept of other sessions stays
abbrev pub OnlyOwnKept : Line → Machine → Machine → Type 0
OnlyOwnKept (lines.InSession n stmt) m new = (k : ℕ) → k ≢ n → kept_at new k ≡ kept_at m k
OnlyOwnKept line m new = new.sessions ≡ m.sessions
