-- Which of a line's changing calls were made, by what the line came to.
use Rattle.std.specs.Prelude.{◌≡◌, ◌⊎◌, ℕ, List, [], ◌∷◌, Result, Ok, Err}
use Rattle.outside_words.specs.Told.{WhereTold}
use Rattle.disk_words.specs.declared.DiskFail.TheVariants as disk_fails
use Rattle.disk_words.specs.Disk as disks
use Rattle.disk_model.specs.Moments as moments
use Rattle.notary_link.specs.declared.fail.NotaryFail.TheVariants as notary_fails
use Rattle.notary_link.specs.Notary.{Call, Entry}
use Rattle.notary_link.specs.Runs as runs
use Rattle.stmt_text.specs.declared.line.Line.{Line}
use Rattle.validator.specs.Desk.{Desk}
use Rattle.validator.specs.Reaching.{CallsBehind}
use Rattle.store_world.specs.Found.{Found}
use Rattle.store_world.specs.declared.answered.Answered.{Answered}
use Rattle.store_world.specs.declared.fail.LineFail.{LineFail}
use Rattle.store_world.specs.declared.fail.LineFail.TheVariants as fails
use Rattle.store_world.specs.World.{World}
use Rattle.store_world.specs.Steps.{Step}
use Rattle.store_world.specs.LineCalls.{disk_calls, notary_calls}

-- All calls of the disk. After a fault of the disk those before one that failed, or none, where reading failed; after one of the
-- notary all, or none, where it was asked before; where memory wants, some first ones.
abbrev pub MakesOfDisk : List disks.Call → Result Answered LineFail → disks.State → disks.State → Type 0
MakesOfDisk calls (Ok answered) old new = moments.MakesCalls calls (Ok tt) old new
MakesOfDisk calls (Err fails.DiskFault) old new = (new.trace ≡ old.trace) ⊎ moments.MakesCalls calls (Err disk_fails.Failed) old new
MakesOfDisk calls (Err fails.NotaryFault) old new = (new.trace ≡ old.trace) ⊎ moments.MakesCalls calls (Ok tt) old new
MakesOfDisk calls (Err fails.NoMemory) old new = moments.MakesCalls calls (Ok tt) old new ⊎ moments.MakesCalls calls (Err disk_fails.NoMemory) old new

-- each call is done, or the last is refused, as there is no room
abbrev pub IsAnswered : List Call → List Entry → List Entry → Type 0
IsAnswered [] old new = new ≡ old
IsAnswered (call ∷ []) old new = (new ≡ runs.is_done call ∷ old) ⊎ (new ≡ runs.was_answered notary_fails.Full call ∷ old)
IsAnswered (call ∷ other ∷ calls) old new = IsAnswered (other ∷ calls) (runs.is_done call ∷ old) new

-- All calls of the notary. After a fault of the disk none; after one of the notary those before one that failed, or none, where it
-- was asked before; where memory wants, some first ones.
abbrev pub MakesOfNotary : List Call → Result Answered LineFail → List Entry → List Entry → Type 0
MakesOfNotary calls (Ok answered) old new = IsAnswered calls old new
MakesOfNotary calls (Err fails.DiskFault) old new = new ≡ old
MakesOfNotary calls (Err fails.NotaryFault) old new = (new ≡ old) ⊎ runs.MakesCalls calls (Err notary_fails.Failed) old new
MakesOfNotary calls (Err fails.NoMemory) old new = IsAnswered calls old new ⊎ runs.MakesCalls calls (Err notary_fails.NoMemory) old new

-- The changing calls that a line made at these clock seconds, where this was found.
pub record MakesLineCalls (w : World) (line : Line) (now : ℕ) (found : Found) (next : Step) (result : Result Answered LineFail) (old new : Desk) (before : List ℕ) : Type 0 where
  pub disk : MakesOfDisk (disk_calls w next before) result old.disk new.disk
  pub notary : WhereTold old.notary.trace new.notary.trace (MakesOfNotary (notary_calls w line now found) result)
  -- the notary is called behind all calls of the disk
  pub order : WhereTold old.notary.trace new.notary.trace (CallsBehind (disk_calls w next before) old.disk new.disk)
