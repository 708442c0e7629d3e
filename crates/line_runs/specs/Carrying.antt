-- How the parts of `run` carry lines out: where a runner stands, and what one line and all lines leave.
use Rattle.std.specs.Prelude.{◌≡◌, ◌⊎◌, ◌+◌, ℕ, min, Bool, true, false, List, [], ◌∷◌, ◌++◌, codes, Some, Result, Ok, Err, IsOk, OnOk, IfOk, IfErr}
use Rattle.outside_words.specs.Told.{WhereTold}
use Rattle.disk_words.specs.Disk as disks
use Rattle.disk_model.specs.Moments.{EveryImage}
use Rattle.outside_io.specs.declared.sink.StreamFail.{StreamFail}
use Rattle.outside_io.specs.declared.sink.StreamFail.TheVariants as streams
use Rattle.outside_io.specs.Sink as sinks
use Rattle.outside_io.specs.Clock as clocks
use Rattle.notary_link.specs.declared.notary.NotaryLimits.{NotaryLimits}
use Rattle.notary_link.specs.Notary.{Lists}
use Rattle.line_input.specs.declared.fail.InputFail.{InputFail}
use Rattle.line_input.specs.declared.fail.InputFail.TheVariants as inputs
use Rattle.line_input.specs.Front.{AreFirst}
use Rattle.tuple_bytes.specs.declared.header.Header.{Header}
use Rattle.tuple_bytes.specs.Spelling.{FitsHeader}
use Rattle.history_model.specs.declared.format.Format.TheVariants.{Two}
use Rattle.history_model.specs.Stored.{stored, format_of}
use Rattle.stmt_text.specs.declared.line.Line.{Line}
use Rattle.store_world.specs.Found.{Found}
use Rattle.store_world.specs.declared.fail.LineFail.{LineFail}
use Rattle.store_world.specs.declared.fail.LineFail.TheVariants as lines
use Rattle.store_world.specs.Standing.{IsIn}
use Rattle.store_world.specs.Stepping.{StoresEither}
use Rattle.store_world.specs.Steps.{step}
use Rattle.store_world.specs.Finding.{MayTell, MayFind}
use Rattle.store_world.specs.Lists.{ListsGo, WhereBeside}
use Rattle.line_runs.specs.declared.status.Status.{Status}
use Rattle.line_runs.specs.declared.status.Status.TheVariants as statuses
use Rattle.line_runs.specs.declared.run_fail.RunFail.{RunFail}
use Rattle.line_runs.specs.declared.run_fail.RunFail.TheVariants as fails
use Rattle.line_runs.specs.declared.runner.Runner.{Runner}
use Rattle.stmt_text.specs.declared.kind.LineKind.{LineKind}
use Rattle.stmt_text.specs.declared.kind.LineKind.TheVariants as kinds
use Rattle.stmt_text.specs.Kinds.{line_kind}
use Rattle.stmt_text.specs.Numbers.{max_u64}
use Rattle.line_runs.specs.Outcome.{Said, refused}
use Rattle.validator.specs.Desk.{KeepsSound}
use Rattle.audit_model.specs.Sound.{IsSound}
use Rattle.line_runs.specs.Devices.{Desk, Site, Devices, site_of}
use Rattle.line_runs.specs.Running.{Running, Timed, start, carry, carried, counted, stepped, world_of, seconds_of, said_by, refused_text, AllMayTell, AllMayFind, Takes}
use Rattle.line_runs.specs.Failing.{HasStored, MayEndOn, MayEnd}
use Rattle.line_runs.specs.Ran.{Runs, RunsLines, Reads, lines_in, text_before}

-- ---- failures

abbrev pub of_line : LineFail → RunFail
of_line lines.DiskFault = fails.DiskFault
of_line lines.NotaryFault = fails.NotaryFault
of_line lines.NoMemory = fails.NoMemory

abbrev pub of_input : InputFail → RunFail
of_input inputs.ReadFault = fails.ReadFault
of_input inputs.InputLimit = fails.InputLimit
of_input inputs.NoMemory = fails.NoMemory

abbrev pub of_output : StreamFail → RunFail
of_output streams.Failed = fails.WriteFault
of_output streams.NoMemory = fails.NoMemory

-- how a run ends that stops so, where its last line is out
abbrev pub status_of : RunFail → Status
status_of fails.DiskFault = statuses.DiskFault
status_of fails.NotaryFault = statuses.NotaryFault
status_of fails.ReadFault = statuses.ReadFault
status_of fails.InputLimit = statuses.InputLimit
status_of fails.WriteFault = statuses.WriteFault
status_of fails.NoMemory = statuses.NoMemory

-- the fault line is out, but for a fault of the output and want of memory, which are not told
abbrev pub EndsWith : RunFail → Status → sinks.State → sinks.State → Type 0
EndsWith fails.WriteFault result out written = (result ≡ statuses.WriteFault) × (written ≡ out)
EndsWith fails.NoMemory result out written = (result ≡ statuses.NoMemory) × (written ≡ out)
EndsWith fail result out written = Said (refused (status_of fail)) result out written

-- ---- where a runner stands

-- a run is where this runner stands, over these bytes
pub record IsAt (r : Running) (runner : Runner) (bytes : List ℕ) : Type 0 where
  pub stands : IsIn r.world runner.world bytes
  pub epoch : runner.epoch ≡ r.epoch
  pub moment : runner.moment ≡ r.moment
  pub refused : runner.refused ≡ r.refused

-- just opened: where a run begins over a file in segments, with a header of the world's id, whatever the notary holds
pub record IsReady (runner : Runner) (bytes : List ℕ) : Type 0 where
  pub header : Header
  pub is : (stored bytes).header ≡ Some header
  pub format : format_of bytes ≡ Some Two
  pub id : header.id ≡ runner.world.id
  pub fits : FitsHeader header
  pub at : (lists : Lists) (limits : NotaryLimits) → IsAt (start (world_of header bytes) lists limits) runner bytes

-- the clock seconds of a line, which a scripted run has without the clock
abbrev pub GivesSeconds : Bool → Runner → ℕ → clocks.State → clocks.State → Type 0
GivesSeconds true runner now clock ahead = (now ≡ min (runner.epoch + runner.moment) max_u64) × (ahead ≡ clock)
GivesSeconds false runner now clock ahead = clocks.Tells now clock ahead

-- ---- what is said of a run wherever the runner stands

-- of each run that is where this runner stands, where the disk tells its bytes
abbrev pub FromWhere : Runner → Desk → Desk → (Running → List ℕ → List ℕ → Type 0) → Type 0
FromWhere runner old new P = WhereTold old.disk.reads new.disk.reads (λ before after. (r : Running) → IsAt r runner before → P r before after)

-- under each id a store that was sound is sound, where the disk was settled
abbrev pub SoundFrom : Runner → Desk → Desk → Type 0
SoundFrom runner = KeepsSound (λ before. (r : Running) × IsAt r runner before)

-- the same of what was told of the disk before
abbrev pub SoundThen : Desk → Desk → List ℕ → Type 0
SoundThen old new before = WhereTold old.notary.lists new.notary.lists (λ lists later. (id : ℕ) → disks.Only before old.disk → IsSound old.disk.is_image (lists.batches id) id → IsSound new.disk.is_image (later.batches id) id)

-- ---- a runner alone

-- with one reply more
abbrev pub counting : Bool → Runner → Runner
counting refusal runner = record { world = runner.world; epoch = runner.epoch; moment = runner.moment; is_scripted = runner.is_scripted; refused = counted refusal runner.refused }

-- with one refusal more
abbrev pub refusing : Runner → Runner
refusing = counting true

-- at another moment
abbrev pub moved : Runner → ℕ → Runner
moved runner moment = record { world = runner.world; epoch = runner.epoch; moment = moment; is_scripted = runner.is_scripted; refused = runner.refused }

-- a line is refused by this name
pub record Refuses {E : Type 0} (name : List ℕ) (result : Result (List ℕ) E) (runner later : Runner) : Type 0 where
  pub text : IfOk result (λ text. text ≡ refused_text name)
  pub later_is : later ≡ refusing runner

-- the moment is set
pub record Moves {E : Type 0} (moment : ℕ) (result : Result (List ℕ) E) (runner later : Runner) : Type 0 where
  pub text : IfOk result (λ text. text ≡ codes "ok\n")
  pub later_is : later ≡ moved runner moment

abbrev pub SetsMoment : {E : Type 0} → Bool → ℕ → Result (List ℕ) E → Runner → Runner → Type 0
SetsMoment true moment result runner later = Moves moment result runner later
SetsMoment false moment result runner later = Refuses (codes "NotScripted") result runner later

-- ---- one line

-- On the way from r to next: what is replied, where the last runner stands then, and the store and the lists.
pub record Goes (r next : Running) (result : Result (List ℕ) LineFail) (last : Runner) (old new : Desk) (before after : List ℕ) : Type 0 where
  pub reply : IfOk result (λ text. next.text ≡ r.text ++ text)
  pub stands : OnOk result (IsAt next last after)
  pub settled : disks.Only before old.disk → OnOk result (disks.Only after new.disk)
  -- whatever was answered
  pub images : disks.Only before old.disk → EveryImage old.disk new.disk (StoresEither r.world next.world)
  pub files : WhereBeside r.world old new (λ lists later. ListsGo r.world next.world (IsOk result) old.disk new.disk before after later)
  pub sound : SoundThen old new before

-- a line of the world was carried out, and this was found
pub record Steps (line : Line) (now : ℕ) (result : Result (List ℕ) LineFail) (last : Runner) (old new : Desk) (r : Running) (before after : List ℕ) : Type 0 where
  pub found : Found
  pub may : OnOk result (MayTell r.world line found)
  pub finds : WhereBeside r.world old new (λ lists later. MayFind r.world line now found)
  pub goes : Goes r (stepped r (step r.world line now found)) result last old new before after
  pub only : IfErr result (MayEndOn line r.world now (HasStored r (stepped r (step r.world line now found))))

abbrev pub StepsFrom : Line → ℕ → Result (List ℕ) LineFail → Runner → Runner → Desk → Desk → Type 0
StepsFrom line now result runner last old new = FromWhere runner old new (Steps line now result last old new)

-- a line that is not blank takes the clock's second, unless the run is scripted
abbrev pub TakesFor : LineKind → Bool → ℕ → clocks.State → clocks.State → Type 0
TakesFor kinds.Blank scripted second clock ahead = ahead ≡ clock
TakesFor kind true second clock ahead = ahead ≡ clock
TakesFor kind false second clock ahead = clocks.Tells second clock ahead

-- a line of the grammar was carried out
pub record GoesBy (line : Line) (scripted : Bool) (result : Result (List ℕ) LineFail) (last : Runner) (old new : Site) (r : Running) (before after : List ℕ) : Type 0 where
  pub second : ℕ
  pub found : Found
  pub seconds : TakesFor (line_kind line) scripted second old.clock new.clock
  pub may : OnOk result (MayTell r.world line found)
  pub finds : WhereBeside r.world old.desk new.desk (λ lists later. MayFind r.world line (seconds_of scripted r second) found)
  pub goes : Goes r (said_by (line_kind line) scripted (seconds_of scripted r second) found r line) result last old.desk new.desk before after
  pub only : IfErr result (MayEndOn line r.world (seconds_of scripted r second) (HasStored r (said_by (line_kind line) scripted (seconds_of scripted r second) found r line)))

abbrev pub LineFrom : Line → Result (List ℕ) LineFail → Runner → Runner → Site → Site → Type 0
LineFrom line result runner last old new = FromWhere runner old.desk new.desk (GoesBy line runner.is_scripted result last old new)

-- a line was carried out, or begun; where memory was wanting it may not have been, which an empty one stands for
abbrev pub IsLineOf : {A : Type 0} → List ℕ → Result A LineFail → List ℕ → Type 0
IsLineOf line (Ok text) taken = taken ≡ line
IsLineOf line (Err lines.DiskFault) taken = taken ≡ line
IsLineOf line (Err lines.NotaryFault) taken = taken ≡ line
IsLineOf line (Err lines.NoMemory) taken = (taken ≡ []) ⊎ (taken ≡ line)

-- a line was read, its second taken, and it was carried out
pub record Replies (line : List ℕ) (scripted : Bool) (result : Result (List ℕ) LineFail) (last : Runner) (old new : Site) (r : Running) (before after : List ℕ) : Type 0 where
  pub timed : Timed
  pub line_is : IsLineOf line result timed.line
  pub seconds : Takes scripted (timed ∷ []) old.clock new.clock
  pub may : OnOk result (AllMayTell scripted r (timed ∷ []))
  pub finds : WhereBeside r.world old.desk new.desk (λ lists later. AllMayFind scripted r (timed ∷ []))
  pub goes : Goes r (carry scripted r timed) result last old.desk new.desk before after
  pub only : IfErr result (MayEnd scripted r timed)

abbrev pub RepliesFrom : List ℕ → Result (List ℕ) LineFail → Runner → Runner → Site → Site → Type 0
RepliesFrom line result runner last old new = FromWhere runner old.desk new.desk (Replies line runner.is_scripted result last old new)

-- ---- all lines

-- the status that stands for an answer, refusals aside
abbrev pub ending : Result (Unit {0}) RunFail → Status
ending (Ok _) = statuses.Ok
ending (Err fail) = status_of fail

-- What was written before the fault line: all replies. The last is cut short where the output failed or memory was wanting, and
-- no line was begun behind it then.
abbrev pub IsWritten : Type 0 → List ℕ → List ℕ → Result (Unit {0}) RunFail → sinks.State → sinks.State → Type 0
IsWritten Idle before text (Err fails.WriteFault) out written = Idle × sinks.IsOutBut before text out written
IsWritten Idle before text (Err fails.NoMemory) out written = (Idle × sinks.IsOutBut before text out written) ⊎ sinks.IsOut text out written
IsWritten Idle before text result out written = sinks.IsOut text out written

-- The lines of an input were carried out from this beginning on, up to its end or a failure.
pub record Carries (scripted : Bool) (result : Result (Unit {0}) RunFail) (last : Runner) (old new : Devices) (begin : Running) (before after : List ℕ) : Type 0 where
  -- these lines were, and this one was perhaps under way
  pub done : List Timed
  pub next : Timed
  pub lines : RunsLines scripted begin done next (ending result) (site_of old) (site_of new) before after
  pub first : WhereTold old.input.rest new.input.rest (λ all others. AreFirst (lines_in done) all)
  pub read : WhereTold old.input.rest new.input.rest (Reads (ending result) done next)
  pub stands : OnOk result (IsAt (carried scripted begin done) last after)
  pub said : begin.text ≡ [] → IsWritten (next.line ≡ []) (text_before scripted begin done) (carried scripted begin done).text result old.out new.out
  pub sound : SoundThen old.desk new.desk before

abbrev pub CarriesFrom : Result (Unit {0}) RunFail → Runner → Runner → Devices → Devices → Type 0
CarriesFrom result runner last old new = FromWhere runner old.desk new.desk (Carries runner.is_scripted result last old new)

-- before its first reply
abbrev pub RunsFrom : Status → Runner → Devices → Devices → Type 0
RunsFrom result runner old new = FromWhere runner old.desk new.desk (λ begin before after. begin.text ≡ [] → Runs runner.is_scripted begin result old new before after)
