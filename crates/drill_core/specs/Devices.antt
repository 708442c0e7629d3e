-- The devices of a drill under a crash.
use Rattle.std.specs.Prelude.{◌≡◌, ℕ, ◌+◌, ◌-◌, ◌≤◌, nat_le, if◌then◌else◌, true, List, [], ◌∷◌, Option, Some, None}
use Rattle.outside_words.specs.Listed.{listed_from}
use Rattle.disk_model.specs.Memory as disks
use Rattle.notary_link.specs.Memory as notaries
use Rattle.store_engine.specs.declared.fail.StoreFail.{StoreFail}
use Rattle.store_engine.specs.declared.fail.StoreFail.TheVariants as fails
use Rattle.timeline_model.specs.Scene.{Crash}
use Rattle.drill_core.specs.declared.machine.Drill.{Drill}
use Rattle.drill_core.specs.Drills.{bare_of, NoneFails, IsAt, faults_of}

-- ---- calls that are to fail

-- the number of the notary's call that is to fail, where the disk lets as many calls pass before it
abbrev pub listed_filings : ℕ → ℕ → List ℕ
listed_filings after before = if nat_le before after then (after - before + 1) ∷ [] else []

-- The devices let so many calls pass from now on, and then one fails: so many of the disk's, and of the notary's those that come
-- behind these calls of the disk.
pub record IsStopping (after before : ℕ) (d : Drill) : Type 0 where
  pub trace : (disks.state_of d.disk).trace ≡ []
  pub disk : (disks.state_of d.disk).plan ≡ Some (listed_from 0 ((after + 1) ∷ []))
  pub disk_sure : (disks.state_of d.disk).sure ≡ true
  pub notary : (notaries.state_of d.notary).plan ≡ Some (listed_from (notaries.turn_of d.notary) (listed_filings after before))
  pub notary_sure : (notaries.state_of d.notary).sure ≡ true

-- they do so where a line is under a crash; else no call is to fail
abbrev pub StopsBy : Option Crash → ℕ → Drill → Type 0
StopsBy None before d = NoneFails d
StopsBy (Some crash) before d = IsStopping crash.after before d

-- and nothing else has changed
pub record WillStop (crash : Option Crash) (before : ℕ) (d later : Drill) : Type 0 where
  pub fields : bare_of later ≡ bare_of d
  pub world : later.world ≡ d.world
  pub stopping : StopsBy crash before later
  pub faults : faults_of later ≤ faults_of d

-- no call is to fail, and the bytes, the lists and the rest are as they were
pub record WillPass (d later : Drill) : Type 0 where
  pub fields : bare_of later ≡ bare_of d
  pub world : later.world ≡ d.world
  pub none_fails : NoneFails later
  pub faults : faults_of later ≤ faults_of d

-- ---- what a crash leaves

-- the disk has the image of this choice, and no call is to fail
pub record IsRestarted (choice : ℕ) (d later : Drill) : Type 0 where
  pub fields : bare_of later ≡ record (bare_of d) { bytes = disks.image_after choice d.disk }
  pub none_fails : NoneFails later
  pub faults : faults_of later ≤ faults_of d

-- a call fails only under a crash
abbrev pub IsRestartedBy : Option Crash → Drill → Drill → Type 0
IsRestartedBy None d later = ⊥
IsRestartedBy (Some crash) d later = IsRestarted crash.choice d later

-- the disk has these bytes, and the store is entered anew
pub record Holds (bytes : List ℕ) (d later : Drill) : Type 0 where
  pub fields : bare_of later ≡ record (bare_of d) { bytes = bytes }
  pub at : IsAt (bare_of later) later
  pub faults : faults_of later ≤ faults_of d

-- why no store is open: there is none of the id, or an old one
abbrev pub LeavesNone : StoreFail → Type 0
LeavesNone fails.NotAStore = Unit {0}
LeavesNone fails.OldFormat = Unit {0}
LeavesNone fail = ⊥

-- the store stands that the bytes have under the id, without any session or audit
abbrev pub EntersAnew : Drill → Drill → Type 0
EntersAnew d later = Holds d.disk.bytes.items d later
