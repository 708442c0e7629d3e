-- How the calls of a device stand for what a timeline says of a line.
use Rattle.std.specs.Prelude.{◌≡◌, ℕ, ◌+◌, ◌<◌, nat_lt, Bool, true, false, if◌then◌else◌, List, [], ◌∷◌, ◌++◌, length, Option, None, IfSome, Result, Ok, Err}
use Rattle.outside_words.specs.Runs.{after_calls}
use Rattle.disk_words.specs.Disk.{Call}
use Rattle.disk_words.specs.Record.{bytes_after, bytes_synced, is_covered, image_of}
use Rattle.disk_model.specs.Moments.{is_done, calls_of}
use Rattle.tuple_bytes.specs.declared.header.Header.{Header}
use Rattle.tuple_bytes.specs.declared.item.Item.{Item}
use Rattle.history_model.specs.Heads.{spell_head}
use Rattle.txn_journal.specs.Append.{closed_gate}
use Rattle.txn_journal.specs.Create.{is_free, creation}
use Rattle.segment_file.specs.Append.{Standing, append_calls}
use Rattle.history_model.specs.Placing.{next_start}
use Rattle.store_engine.specs.Appended.{standing}
use Rattle.store_engine.specs.declared.fail.StoreFail.{StoreFail}
use Rattle.store_engine.specs.declared.fail.StoreFail.TheVariants as fails
use Rattle.statement_core.specs.Database as statements
use Rattle.session_model.specs.Service.{Session}
use Rattle.session_model.specs.Standing.{NoneKept}
use Rattle.store_world.specs.declared.open_store.OpenStore.{OpenStore}
use Rattle.store_world.specs.Standing.{StoreIsIn, IsIn, IsEntered}
use Rattle.timeline_model.specs.Scene.{Scene, entered_anew, store_in, world_of}
use Rattle.store_world.specs.ItemsMore.{with_items}
use Rattle.store_world.specs.LineCalls.{appends}

-- nothing is on its way to the disk: what reads give was synced
pub record IsSettledBy (first : List ℕ) (trace : List (Call × Bool)) : Type 0 where
  pub synced : bytes_synced first trace ≡ bytes_after first trace
  pub covered : (p : ℕ) → is_covered trace p ≡ false

-- the calls more of a record that goes on to the next segment: 2, and 2 more where zeros are written up to there
abbrev pub calls_on : Standing → List ℕ → ℕ
calls_on at payload = if nat_lt (at.end + 5 + length payload) (next_start at.end) then 0 else if nat_lt at.length (next_start at.end) then 4 else 2

-- An append takes 4 calls, 2 more where the gate is open, and those of going on; making a store takes 6.
pub record CallsAreCounted : Type 0 where
  pub append : (at : Standing) (payload : List ℕ) → length (append_calls at payload) ≡ (if at.gate_is_open then 6 else 4) + calls_on at payload
  pub create : (head : List ℕ) → length (calls_of (creation head)) ≡ 6

-- The calls of an append put the item where a timeline has it, and leave nothing on its way.
pub record AppendsWriteItems : Type 0 where
  pub written : (first : List ℕ) (trace : List (Call × Bool)) (end : ℕ) (item : Item) → end < length (bytes_after first trace)
      → bytes_after first (after_calls is_done (appends (standing end (bytes_after first trace)) (item ∷ [])) trace) ≡ with_items end (item ∷ []) (bytes_after first trace)
  pub settled : (first : List ℕ) (trace : List (Call × Bool)) (at : Standing) (item : Item) → IsSettledBy first (after_calls is_done (appends at (item ∷ [])) trace)

-- The calls that make a store on a free device leave its header and a closed gate, whatever image is taken.
abbrev pub InitsWriteHeaders : Type 0
InitsWriteHeaders = (choice : ℕ) (bytes : List ℕ) (header : Header) → is_free bytes ≡ true
    → image_of choice bytes (after_calls is_done (calls_of (creation (spell_head header))) []) ≡ spell_head header ++ closed_gate ∷ []

-- A call that failed leaves no image.
abbrev pub FailedCallsLeaveNothing : Type 0
FailedCallsLeaveNothing = (choice : ℕ) (first : List ℕ) (call : Call) (trace : List (Call × Bool)) → image_of choice first ((call, false) ∷ trace) ≡ image_of choice first trace

-- The image of a choice goes by the calls since the disk was settled.
abbrev pub ImagesGoByNewCalls : Type 0
ImagesGoByNewCalls = (choice : ℕ) (first : List ℕ) (trace : List (Call × Bool)) (calls : List Call) → IsSettledBy first trace
    → image_of choice first (after_calls is_done calls trace) ≡ image_of choice (bytes_after first trace) (after_calls is_done calls [])

-- The world that an open store stands for over some bytes is the one that a timeline reads from them.
abbrev pub WorldsGoByBytes : Type 0
WorldsGoByBytes = (id : ℕ) (w : Option statements.Database) (begun : ℕ → Option Session) (kept : Option OpenStore) (bytes : List ℕ) → StoreIsIn id w begun kept bytes → store_in id bytes ≡ w

-- a machine with this store stands for the world of a scene that was entered anew
abbrev pub StandsWith : Scene → ℕ → Option OpenStore → Bool → Type 0
StandsWith t id kept is_old = IsIn (world_of (entered_anew t) id) (record { id = id; opened = kept; is_old = is_old; auditing = None }) t.bytes

-- what it stands for behind an answer of entering, if it came to one
abbrev pub StandsEntered : Scene → ℕ → Result (Unit {0}) StoreFail → Option OpenStore → Type 0
StandsEntered t id (Ok _) kept = StandsWith t id kept false
StandsEntered t id (Err fails.NotAStore) kept = StandsWith t id None false
StandsEntered t id (Err fails.OldFormat) kept = StandsWith t id None true
StandsEntered t id (Err fail) kept = Unit {0}

-- The other way round: a machine that entered over a scene's bytes stands for the world that a timeline reads then.
abbrev pub EnteredStandForWorlds : Type 0
EnteredStandForWorlds = (t : Scene) (id : ℕ) (result : Result (Unit {0}) StoreFail) (kept : Option OpenStore)
    → IsEntered id t.bytes result kept → IfSome kept (λ o. NoneKept o.sessions) → StandsEntered t id result kept
