-- What `make` leaves: the lines of a generated script are carried out as those of a scripted run, and a summary is written.
use Rattle.std.specs.Prelude.{◌≡◌, ◌⊎◌, ◌-◌, ℕ, true, List, [], ◌∷◌, ◌++◌, length, take, drop, codes, decimal, Option, Some, None}
use Rattle.outside_words.specs.Faults.{Rose}
use Rattle.outside_words.specs.Told.{WhereTold}
use Rattle.outside_io.specs.Sink as sinks
use Rattle.line_input.specs.Lines.{lines_of}
use Rattle.line_input.specs.Front.{AreFirst}
use Rattle.tuple_bytes.specs.declared.header.Header.{Header}
use Rattle.history_model.specs.Stored.{stored}
use Rattle.history_model.specs.History.{txns, last_moment}
use Rattle.statement_core.specs.Database as statements
use Rattle.workload_make.specs.Script.{script}
use Rattle.line_runs.specs.declared.status.Status.{Status}
use Rattle.line_runs.specs.declared.status.Status.TheVariants as statuses
use Rattle.line_runs.specs.Devices.{Devices, Effect, site_of}
use Rattle.line_runs.specs.Outcome.{Outcome, Said, refused}
use Rattle.line_runs.specs.OnStore.{OnStore}
use Rattle.line_runs.specs.Running.{Running, Timed, carried}
use Rattle.line_runs.specs.Ran.{IsNext, RunsLines, KeepsPromises, ending_of, lines_in, opened}

-- ---- the summary

-- how many transactions a store has
abbrev pub txns_in : Option statements.Database → ℕ
txns_in None = 0
txns_in (Some w) = length (txns w.items)

-- how many steps, how many refusals among the replies, and how many transactions then
abbrev pub made_line : ℕ → ℕ → ℕ → List ℕ
made_line count refused stored = codes "made " ++ (decimal count ++ (codes " refused " ++ (decimal refused ++ (codes " txns " ++ (decimal stored ++ 10 ∷ [])))))

-- behind all lines but the last two
abbrev pub all_but_two : Running → List Timed → Running
all_but_two begin done = carried true begin (take (length done - 2) done)

-- the replies between: what the text has more
abbrev pub added : Running → Running → List ℕ
added before r = drop (length before.text) r.text

-- the summary of a run, with the replies since it stood before
abbrev pub summary : ℕ → Running → Running → List ℕ
summary count before r = made_line count r.refused (txns_in r.world.store) ++ added before r

-- a run whose lines were all carried out tells its summary, and ends by whether some reply is a refusal
abbrev pub made_outcome : ℕ → Running → Running → Outcome
made_outcome count before r = record { status = ending_of r; text = summary count before r }

-- ---- how it ends

-- all lines of the text were carried out
abbrev pub AreAll : List Timed → List ℕ → Type 0
AreAll done text = lines_in done ≡ lines_of text

-- the line of a fault that has its cause is out, or a front of it
abbrev pub TellsFault : Status → Devices → Devices → Type 0
TellsFault result old new =
    (Rose old.desk.disk.faults new.desk.disk.faults × Said (refused statuses.DiskFault) result old.out new.out)
    ⊎ (Rose old.desk.notary.faults new.desk.notary.faults × Said (refused statuses.NotaryFault) result old.out new.out)

-- this line was under way, or none was, which an empty one stands for
abbrev pub IsPerhapsNext : List Timed → Timed → List ℕ → Type 0
IsPerhapsNext done next text = ((next.line ≡ []) × AreFirst (lines_in done) text) ⊎ IsNext done next text

-- memory was wanting, and nothing is out
abbrev pub TellsNothing : Status → Devices → Devices → Type 0
TellsNothing result old new = (result ≡ statuses.NoMemory) × sinks.Unchanged old.out new.out

-- No reply is written but in what was made, behind all lines. A line that failed is the next of the text.
abbrev pub Tells : Outcome → List Timed → Timed → List ℕ → Status → Devices → Devices → Type 0
Tells made done next text result old new =
    (AreAll done text × Said made result old.out new.out)
    ⊎ (IsNext done next text × TellsFault result old new)
    ⊎ (IsPerhapsNext done next text × TellsNothing result old new)

-- ---- the whole

-- which lines of a text these are: its first ones, and the next, or none
pub record AreOfText (done : List Timed) (next : Timed) (text : List ℕ) : Type 0 where
  pub first : AreFirst (lines_in done) text
  pub under_way : (next.line ≡ []) ⊎ IsNext done next text

-- The lines of this text were carried out from this beginning on, and this one was perhaps under way.
pub record Makes (count : ℕ) (begin : Running) (text : List ℕ) (result : Status) (old new : Devices) (before after : List ℕ) : Type 0 where
  pub done : List Timed
  pub next : Timed
  pub first : AreOfText done next text
  pub lines : RunsLines true begin done next result (site_of old) (site_of new) before after
  pub tells : Tells (made_outcome count (all_but_two begin done) (carried true begin done)) done next text result old new
  pub none_read : new.input ≡ old.input

-- over a store of this header: the script is that of its granule width and its last moment
pub record MakesStore (seed count : ℕ) (header : Header) (result : Status) (old new : Devices) (before after : List ℕ) : Type 0 where
  pub makes : Makes count (opened header old before) (script header.width (last_moment (stored before).items) seed count) result old new before after
  pub promises : KeepsPromises true header makes.done makes.next old new before

-- Whatever the notary tells.
abbrev pub MakesHeader : ℕ → ℕ → Header → Effect
MakesHeader seed count header result old new = WhereTold old.desk.disk.reads new.desk.disk.reads (MakesStore seed count header result old new)

-- `make ID SEED N`
abbrev pub MakesOn : ℕ → ℕ → ℕ → Effect
MakesOn id seed count = OnStore id (MakesHeader seed count)
