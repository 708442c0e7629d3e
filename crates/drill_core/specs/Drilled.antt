-- What a drill leaves: on its output the replies of a timeline for the lines of its input.
use Rattle.std.specs.Prelude.{◌≡◌, ℕ, ◌||◌, Bool, true, false, List, [], ◌∷◌, map, filter, reverse, drop, Result, Ok, Err, IfOk}
use Rattle.outside_words.specs.Told.{WhereTold}
use Rattle.outside_io.specs.Sink as sinks
use Rattle.outside_io.specs.Source as sources
use Rattle.line_input.specs.Front.{AreFirst, AreAll, AreComplete, AreWithinLimit, TakesLittle, TakesFront}
use Rattle.stmt_text.specs.declared.error.ParseFail.{ParseFail}
use Rattle.stmt_text.specs.declared.line.Line.{Line}
use Rattle.stmt_text.specs.declared.line.Line.TheVariants as lines
use Rattle.stmt_text.specs.Lines.{answer}
use Rattle.timeline_model.specs.Scene.{Scene}
use Rattle.timeline_model.specs.Timeline.{Event, IsTimeline, after, replies, step}
use Rattle.timeline_model.specs.Reports.{ReportsAreRight}
use Rattle.drill_core.specs.declared.fail.DrillFail.{DrillFail}
use Rattle.drill_core.specs.declared.fail.DrillFail.TheVariants as fails

-- ---- lines and events

-- it is not blank
abbrev pub is_said : Result Line ParseFail → Bool
is_said (Ok lines.Blank) = false
is_said reading = true

-- what reading these lines gives, but for the blank ones
abbrev pub readings_of : List (List ℕ) → List (Result Line ParseFail)
readings_of taken = filter is_said (map answer taken)

-- what was read for these events, the oldest first
abbrev pub read_for : List Event → List (Result Line ParseFail)
read_for es = map (λ e. e.line) (reverse es)

-- whether some reply is a refusal
unfoldable pub some_refused : Scene → List Event → Bool
some_refused t [] = false
some_refused t (e ∷ es) = some_refused t es || (step (after t es) e.line e.found).is_refused

-- ---- how a drill ends

-- All lines were taken, or those whose end was read where the input failed or was too long. Where the output failed they are the
-- first ones, and little was taken beyond them; where memory was wanting the first ones.
abbrev pub Ends : List (List ℕ) → Result Bool DrillFail → List ℕ → List ℕ → Type 0
Ends taken (Ok refused) input left = AreAll taken input left
Ends taken (Err fails.ReadFault) input left = AreComplete taken input left
Ends taken (Err fails.InputLimit) input left = AreWithinLimit taken input left
Ends taken (Err fails.WriteFault) input left = AreFirst taken input × TakesLittle taken input left
Ends taken (Err fails.NoMemory) input left = AreFirst taken input

-- what was read of an input, where these lines were taken
pub record Reads (taken : List (List ℕ)) (result : Result Bool DrillFail) (input left : List ℕ) : Type 0 where
  pub ends : Ends taken result input left
  pub front : TakesFront input left

-- All replies are out. Where the output failed or memory was wanting, the last one is cut short, or out too.
abbrev pub Writes : Result Bool DrillFail → List ℕ → List ℕ → sinks.State → sinks.State → Type 0
Writes (Err fails.WriteFault) before text out written = sinks.IsOutBut before text out written
Writes (Err fails.NoMemory) before text out written = sinks.IsOutBut before text out written
Writes result before text out written = sinks.IsOut text out written

-- Lines were taken from this scene on. There is a timeline for them, and what was written is its replies.
pub record Drills (begin : Scene) (result : Result Bool DrillFail) (input left : sources.State) (out written : sinks.State) : Type 0 where
  pub taken : List (List ℕ)
  -- the newest first
  pub events : List Event
  pub timeline : IsTimeline begin events
  -- each report names what is altered, and where the clock never went back its spans hold a change; or two inputs clash
  pub right : ReportsAreRight begin events
  pub lines_are : read_for events ≡ readings_of taken
  pub read : WhereTold input.rest left.rest (Reads taken result)
  pub replied : Writes result (replies begin (drop 1 events)) (replies begin events) out written
  pub refused : IfOk result (λ refused. refused ≡ some_refused begin events)
