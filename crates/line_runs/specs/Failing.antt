-- In which faults a line of a run may end: in those of devices that it uses.
use Rattle.std.specs.Prelude.{◌≢◌, ℕ, Bool, Result, Ok, Err}
use Rattle.stmt_text.specs.declared.error.ParseFail.{ParseFail}
use Rattle.stmt_text.specs.declared.line.Line.{Line}
use Rattle.stmt_text.specs.Kinds.{line_kind}
use Rattle.stmt_text.specs.Lines.{answer}
use Rattle.store_world.specs.declared.fail.LineFail.{LineFail}
use Rattle.store_world.specs.declared.fail.LineFail.TheVariants as fails
use Rattle.store_world.specs.Faults.{IsOfStoring, MayEndIn, early_of, EndsTimely, audit_goes_on, EndsUnasked}
use Rattle.store_world.specs.World.{World}
use Rattle.line_runs.specs.declared.status.Status.{Status}
use Rattle.line_runs.specs.declared.status.Status.TheVariants as statuses
use Rattle.line_runs.specs.Running.{Running, Timed, carry, seconds_of}

-- something is stored on the way
abbrev pub HasStored : Running → Running → Type 0
HasStored r next = next.world.store ≢ r.world.store

-- a line of the grammar in this world at these clock seconds: by its kind, where nothing speaks early against it, and in a fault of
-- the notary where no audit goes on
abbrev pub MayEndOn : Line → World → ℕ → Type 0 → LineFail → Type 0
MayEndOn line w now stores fail = MayEndIn (line_kind line) stores fail × EndsTimely (early_of w line now) fail × EndsUnasked (audit_goes_on w line) fail

-- a line that is read so
abbrev pub MayEndBy : Result Line ParseFail → World → ℕ → Type 0 → LineFail → Type 0
MayEndBy (Ok line) w now stores fail = MayEndOn line w now stores fail
MayEndBy (Err refusal) w now stores fail = IsOfStoring stores fail

-- a line at this point of a run
abbrev pub MayEnd : Bool → Running → Timed → LineFail → Type 0
MayEnd scripted r t fail = MayEndBy (answer t.line) r.world (seconds_of scripted r t.second) (HasStored r (carry scripted r t)) fail

-- A fault of the notary comes only by a line that asks it, which an audit that goes on does not, and one of the disk by a line that
-- the notary answers or one that stores something. Neither comes by a notarization whose refusal the clock decides.
abbrev pub EndsByUse : Status → Bool → Running → Timed → Type 0
EndsByUse statuses.DiskFault scripted r t = MayEnd scripted r t fails.DiskFault
EndsByUse statuses.NotaryFault scripted r t = MayEnd scripted r t fails.NotaryFault
EndsByUse s scripted r t = Unit {0}
