-- What `run` leaves: what it wrote, what its store holds at every moment, and what it took from its input and the clock.
use Rattle.std.specs.Prelude.{if◌then◌else◌, ◌≡◌, ◌≢◌, ◌⊎◌, ◌-◌, nat_lt, ℕ, Bool, List, [], ◌∷◌, ◌++◌, length, take, map, Option, Some, None}
use Rattle.outside_words.specs.Told.{WhereTold}
use Rattle.outside_words.specs.Faults.{Rose}
use Rattle.disk_words.specs.Disk as disks
use Rattle.disk_model.specs.Moments.{EveryImage}
use Rattle.outside_io.specs.Sink as sinks
use Rattle.line_input.specs.Front.{AreFirst, AreAll, AreComplete, AreWithinLimit, TakesLittle, TakesFront}
use Rattle.tuple_bytes.specs.declared.header.Header.{Header}
use Rattle.notary_link.specs.Notary.{Lists}
use Rattle.history_model.specs.Stored.{stored}
use Rattle.audit_model.specs.Sound.{IsSound}
use Rattle.store_world.specs.World.{StoresWorld}
use Rattle.store_world.specs.Lists.{ListsGo, WhereBeside}
use Rattle.store_world.specs.Acknowledged.{HasTxn, StoresMore, ok_text}
use Rattle.line_runs.specs.declared.status.Status.{Status}
use Rattle.line_runs.specs.declared.status.Status.TheVariants as statuses
use Rattle.line_runs.specs.Devices.{Desk, Site, Devices, Effect, site_of}
use Rattle.line_runs.specs.Outcome.{CutsOff}
use Rattle.line_runs.specs.OnStore.{OnStore}
use Rattle.line_runs.specs.Texts.{fault_line}
use Rattle.line_runs.specs.Running.{Running, Timed, start, carried, world_of, AllMayTell, AllMayFind, Takes, AllTellNone, IsReplied}
use Rattle.line_runs.specs.Failing.{EndsByUse}

-- ---- which lines were carried out, of an input that told its bytes before and after

-- All lines were carried out of an input that was read to its end, and that is shorter than a run takes. After a fault
-- of the source, and at the limit, those whose end was read were. Else some first ones.
abbrev pub AreDone : List (List ℕ) → Status → List ℕ → List ℕ → Type 0
AreDone done statuses.Ok input left = AreAll done input left
AreDone done statuses.Refused input left = AreAll done input left
AreDone done statuses.ReadFault input left = AreComplete done input left
AreDone done statuses.InputLimit input left = AreWithinLimit done input left
AreDone done s input left = AreFirst done input

abbrev pub lines_in : List Timed → List (List ℕ)
lines_in timed = map (λ t. t.line) timed

-- this line comes behind those that were carried out
abbrev pub IsNext : List Timed → Timed → List ℕ → Type 0
IsNext done next input = AreFirst (lines_in (done ++ next ∷ [])) input

-- A fault of the disk or the notary comes while a line is carried out. Else none may have been under way, which an empty line stands for.
abbrev pub IsUnderWay : Status → List Timed → Timed → List ℕ → Type 0
IsUnderWay statuses.DiskFault done next input = IsNext done next input
IsUnderWay statuses.NotaryFault done next input = IsNext done next input
IsUnderWay s done next input = (next.line ≡ []) ⊎ IsNext done next input

-- At a fault of the disk, the notary or the output little was taken beyond the lines that were begun.
abbrev pub TakesNoMore : Status → List Timed → Timed → List ℕ → List ℕ → Type 0
TakesNoMore statuses.DiskFault done next input left = TakesLittle (lines_in (done ++ next ∷ [])) input left
TakesNoMore statuses.NotaryFault done next input left = TakesLittle (lines_in (done ++ next ∷ [])) input left
TakesNoMore statuses.WriteFault done next input left = TakesLittle (lines_in done) input left ⊎ TakesLittle (lines_in (done ++ next ∷ [])) input left
TakesNoMore s done next input left = Unit {0}

-- What was read of an input, where these lines were carried out and this one was perhaps under way.
pub record Reads (result : Status) (done : List Timed) (next : Timed) (input left : List ℕ) : Type 0 where
  pub lines : AreDone (lines_in done) result input left
  pub under_way : IsUnderWay result done next input
  pub little : TakesNoMore result done next input left
  pub front : TakesFront input left

-- ---- what was written

-- the replies to all lines but the last
abbrev pub text_before : Bool → Running → List Timed → List ℕ
text_before scripted begin done = (carried scripted begin (take (length done - 1) done)).text

-- why a fault line is told: the faults of a device rose; that the limit was met is said by what was read
abbrev pub CauseOf : Status → Devices → Devices → Type 0
CauseOf s old new =
    ((s ≡ statuses.DiskFault) × Rose old.desk.disk.faults new.desk.disk.faults)
    ⊎ ((s ≡ statuses.NotaryFault) × Rose old.desk.notary.faults new.desk.notary.faults)
    ⊎ ((s ≡ statuses.ReadFault) × Rose old.input.faults new.input.faults)
    ⊎ (s ≡ statuses.InputLimit)

-- this fault line may stand behind the replies
pub record IsToTell (done : List Timed) (next : Timed) (old new : Devices) (s : Status) : Type 0 where
  pub cause : CauseOf s old new
  pub read : WhereTold old.input.rest new.input.rest (Reads s done next)

-- The last reply is cut short, and no line was begun behind it; or all replies are out; or a fault line behind them is cut short.
abbrev pub IsCutAtEnd : Type 0 → (Status → Type 0) → List ℕ → List ℕ → sinks.State → sinks.State → Type 0
IsCutAtEnd Idle Told before text old new =
    (Idle × sinks.IsOutBut before text old new)
    ⊎ sinks.IsOut text old new
    ⊎ ((s : Status) × Told s × sinks.IsOutBut text (text ++ fault_line s) old new)

-- how a run ends whose lines were all carried out: by whether some reply is a refusal
abbrev pub ending_by : ℕ → Status
ending_by refused = if nat_lt 0 refused then statuses.Refused else statuses.Ok

abbrev pub ending_of : Running → Status
ending_of r = ending_by r.refused

-- All replies are out, and no other text; or the line of a fault that is told is behind them; or the end is cut short.
abbrev pub Writes : Type 0 → (Status → Type 0) → List ℕ → Running → Status → sinks.State → sinks.State → Type 0
Writes Idle Told before r s old new =
    ((s ≡ ending_of r) × sinks.IsOut r.text old new)
    ⊎ (Told s × sinks.IsOut (r.text ++ fault_line s) old new)
    ⊎ (CutsOff s × IsCutAtEnd Idle Told before r.text old new)

-- ---- the store and the notary

-- the bytes store what they did after some first lines
abbrev pub StoresFront : Bool → Running → List Timed → List ℕ → Type 0
StoresFront scripted begin timed c = (n : ℕ) × StoresWorld (carried scripted begin (take n timed)).world c

-- Whether no line was under way: not after a fault of the disk or the notary, which stands behind a fault of the output where
-- the line that tells it was cut short.
pub record IsSettled (s : Status) (old new : Desk) : Type 0 where
  pub disk : s ≢ statuses.DiskFault
  pub notary : s ≢ statuses.NotaryFault
  pub memory : s ≢ statuses.NoMemory
  pub write : s ≡ statuses.WriteFault → (Rose old.disk.faults new.disk.faults → ⊥) × (Rose old.notary.faults new.notary.faults → ⊥)

-- Lines were carried out from this beginning, and one was perhaps under way, wherever they came from and whatever became of their
-- replies. Whatever the notary tells.
pub record RunsLines (scripted : Bool) (begin : Running) (done : List Timed) (next : Timed) (result : Status) (old new : Site) (before after : List ℕ) : Type 0 where
  pub none : IsSettled result old.desk new.desk → next.line ≡ []
  -- what was replied, any notary may tell
  pub tells : AllMayTell scripted begin done
  -- a fault is of a device that the line under way uses
  pub uses : EndsByUse result scripted (carried scripted begin done) next
  pub seconds : Takes scripted (done ++ next ∷ []) old.clock new.clock
  -- a crash at any moment leaves what stood there after some first lines
  pub images : disks.Only before old.desk.disk → EveryImage old.desk.disk new.desk.disk (StoresFront scripted begin (done ++ next ∷ []))
  -- and now at least what the lines left that were carried out, so each reply that is out stands for good
  pub kept : disks.Only before old.desk.disk → (c : List ℕ) → new.desk.disk.is_image c → StoresWorld (carried scripted begin done).world c ⊎ StoresWorld (carried scripted begin (done ++ next ∷ [])).world c
  pub settled : IsSettled result old.desk new.desk → disks.Only before old.desk.disk → disks.Only after new.desk.disk
  pub stores : IsSettled result old.desk new.desk → StoresWorld (carried scripted begin done).world after
  -- ---- what the notary's lists add, where it tells them
  -- each line found what its world allows
  pub found : WhereBeside begin.world old.desk new.desk (λ lists later. AllMayFind scripted begin (done ++ next ∷ []))
  -- it holds all that these lines filed and marked, and perhaps some of what the one under way would
  pub files : WhereBeside begin.world old.desk new.desk (λ lists later.
      ListsGo (carried scripted begin done).world (carried scripted begin (done ++ next ∷ [])).world (IsSettled result old.desk new.desk) old.desk.disk new.desk.disk before after later)

-- A run whose store was opened.
pub record Runs (scripted : Bool) (begin : Running) (result : Status) (old new : Devices) (before after : List ℕ) : Type 0 where
  -- the lines that were carried out, and the one under way
  pub done : List Timed
  pub next : Timed
  pub lines : RunsLines scripted begin done next result (site_of old) (site_of new) before after
  pub read : WhereTold old.input.rest new.input.rest (Reads result done next)
  pub said : Writes (next.line ≡ []) (IsToTell done next old new) (text_before scripted begin done) (carried scripted begin done) result old.out new.out

-- ---- over a store

-- the lists that a notary tells; one that tells none counts as one that holds nothing
abbrev pub lists_of : Option Lists → Lists
lists_of (Some lists) = lists
lists_of None = record { batches = λ id. []; marks = λ id. [] }

-- where a run begins over a store of this header
abbrev pub opened : Header → Devices → List ℕ → Running
opened header old before = start (world_of header before) (lists_of old.desk.notary.lists) old.desk.notary.limits

-- What is promised of lines over a store of this header, where these were carried out and this one was perhaps under way.
pub record KeepsPromises (scripted : Bool) (header : Header) (done : List Timed) (next : Timed) (old new : Devices) (before : List ℕ) : Type 0 where
  -- on a settled disk a crash at any moment leaves all items that were stored, and perhaps more
  pub appends : disks.Only before old.desk.disk → EveryImage old.desk.disk new.desk.disk (StoresMore (stored before).items)
  -- each transaction of which `ok N` was replied stands in every image, by its number
  pub acknowledged : disks.Only before old.desk.disk → (digits : List ℕ) → IsReplied (ok_text digits) scripted (opened header old before) done → (c : List ℕ) → new.desk.disk.is_image c → HasTxn digits (stored c).items
  -- no line tells of an alteration where the store is sound
  pub unaltered : WhereTold old.desk.notary.lists new.desk.notary.lists (λ lists later. IsSound old.desk.disk.is_image (lists.batches header.id) header.id → AllTellNone scripted (opened header old before) (done ++ next ∷ []))

-- A run over a store of this header.
pub record RunsStore (scripted : Bool) (header : Header) (result : Status) (old new : Devices) (before after : List ℕ) : Type 0 where
  pub runs : Runs scripted (opened header old before) result old new before after
  pub promises : KeepsPromises scripted header runs.done runs.next old new before

-- Whatever the notary tells.
abbrev pub RunsHeader : Bool → Header → Effect
RunsHeader scripted header result old new = WhereTold old.desk.disk.reads new.desk.disk.reads (RunsStore scripted header result old new)

abbrev pub RunsOn : Bool → ℕ → Effect
RunsOn scripted id = OnStore id (RunsHeader scripted)
