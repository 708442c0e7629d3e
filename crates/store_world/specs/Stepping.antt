-- A line over an open store and a notary: it does to the world that they stand for what the definition says.
use Rattle.std.specs.Prelude.{◌≡◌, ◌≢◌, ◌⊎◌, ℕ, true, List, None, option_map, Result, Ok, Err, IsOk, OnOk, IfOk, IfErr, IfSome}
use Rattle.std.specs.Bool.{OnTrue}
use Rattle.disk_words.specs.Disk as disks
use Rattle.disk_model.specs.Moments.{EveryImage}
use Rattle.stmt_text.specs.declared.line.Line.{Line}
use Rattle.stmt_text.specs.Kinds.{line_kind}
use Rattle.outside_words.specs.Faults.{HidesNoFault}
use Rattle.outside_words.specs.Told.{WhereTold}
use Rattle.notary_link.specs.Notary as notaries
use Rattle.validator.specs.Desk.{Desk}
use Rattle.validator.specs.Filing.{TellsCount}
use Rattle.store_world.specs.declared.answered.Answered.{Answered}
use Rattle.store_world.specs.declared.fail.LineFail.{LineFail}
use Rattle.store_world.specs.World.{World, StoresWorld}
use Rattle.store_world.specs.Standing.{OpenWorld, IsIn}
use Rattle.store_world.specs.Lists.{ListsGo, WhereBeside}
use Rattle.store_world.specs.Found.{Found}
use Rattle.store_world.specs.Steps.{Step, step}
use Rattle.store_world.specs.Finding.{MayTell, MayFind}
use Rattle.store_world.specs.CallsMade.{MakesLineCalls}
use Rattle.store_world.specs.Faults.{MayEndIn, early_of, EndsTimely, audit_goes_on, EndsUnasked}

-- bytes store what one of two worlds has
abbrev pub StoresEither : World → World → List ℕ → Type 0
StoresEither w next bytes = StoresWorld w bytes ⊎ StoresWorld next bytes

-- this was replied
pub record IsReply (next : Step) (answered : Answered) : Type 0 where
  pub text : answered.text ≡ next.text
  pub refused : answered.refused ≡ next.is_refused

-- On the way from a world to the next one: what is replied, where the machine stands then, and the store.
pub record Goes (w : World) (next : Step) (result : Result Answered LineFail) (later : OpenWorld) (old new : disks.State) (before after : List ℕ) : Type 0 where
  pub reply : IfOk result (IsReply next)
  pub stands : OnOk result (IsIn next.world later after)
  pub settled : disks.Only before old → OnOk result (disks.Only after new)
  pub images : disks.Only before old → EveryImage old new (StoresEither w next.world)
  -- whatever was answered
  pub kept : disks.Only before old → StoresEither w next.world after
  -- where nothing is stored, no call changes the disk
  pub same : next.world.store ≡ w.store → OnOk result (new.trace ≡ old.trace)

-- What a line does to a world, where this was found.
pub record Steps (line : Line) (now : ℕ) (w : World) (result : Result Answered LineFail) (later : OpenWorld) (old new : Desk) (before after : List ℕ) : Type 0 where
  pub found : Found
  -- what is replied, any notary may tell
  pub may : OnOk result (MayTell w line found)
  -- and a batch out of turn with the count that the notary answered
  pub turn : OnOk result (IfSome found.refusal (λ fail. TellsCount fail new.notary))
  pub goes : Goes w (step w line now found) result later old.disk new.disk before after
  -- the fault is of a device that the line uses
  pub only : IfErr result (MayEndIn (line_kind line) ((step w line now found).world.store ≢ w.store))
  -- and comes where nothing speaks early against the line
  pub timely : IfErr result (EndsTimely (early_of w line now))
  -- while an audit goes on the notary is as it was, and the fault is not the notary's
  pub quiet : OnTrue (audit_goes_on w line) (new.notary ≡ old.notary)
  pub unasked : IfErr result (EndsUnasked (audit_goes_on w line))
  -- ---- what the notary's lists add, where it tells them
  pub finds : WhereBeside w old new (λ lists later_lists. MayFind w line now found)
  pub files : WhereBeside w old new (λ lists later_lists. ListsGo w (step w line now found).world (IsOk result) old.disk new.disk before after later_lists)
  pub makes : WhereBeside w old new (λ lists later_lists. MakesLineCalls w line now found (step w line now found) result old new before)

-- whatever world they stand for
abbrev pub StepsFor : Line → ℕ → Result Answered LineFail → OpenWorld → OpenWorld → Desk → Desk → Type 0
StepsFor line now result held later old new = WhereTold old.disk.reads new.disk.reads (λ before after. (w : World) → IsIn w held before → Steps line now w result later old new before after)

-- ---- whatever is told

-- after a failure there is no store and no session, and else a store of the same header, where there was one
abbrev pub KeepsStore : Result Answered LineFail → OpenWorld → OpenWorld → Type 0
KeepsStore (Ok answered) held later = option_map (λ o. o.store.header) later.opened ≡ option_map (λ o. o.store.header) held.opened
KeepsStore (Err fail) held later = later.opened ≡ None

-- behind a reply, a notary that shows its faults counted none
abbrev pub HidesNone : {T E : Type 0} → notaries.State → notaries.State → Result T E → Type 0
HidesNone old new result = old.shows ≡ true → HidesNoFault old.faults new.faults result
