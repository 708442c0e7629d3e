-- The scene that a drill stands for.
use Rattle.std.specs.Prelude.{◌≡◌, ℕ, ◌<◌, ◌≤◌, ◌+◌, ◌-◌, ◌^◌, true, false, Option, Some, None}
use Rattle.std.specs.Option.{option_map}
use Rattle.disk_model.specs.Memory as disks
use Rattle.notary_link.specs.Calls.{lists_of}
use Rattle.notary_link.specs.Memory as notaries
use Rattle.store_world.specs.Standing.{OpenWorld, IsIn}
use Rattle.store_world.specs.World.{no_sessions}
use Rattle.timeline_model.specs.Scene as scenes
use Rattle.timeline_model.specs.Scene.{Scene, entered_anew, world_of}
use Rattle.drill_core.specs.declared.machine.Crash.{Crash}
use Rattle.drill_core.specs.declared.machine.Drill.{Drill}

abbrev pub crash_of : Option Crash → Option scenes.Crash
crash_of crash = option_map (λ c. record { after = c.after; choice = c.choice }) crash

-- what it holds besides sessions and its auditor, as a scene that was entered anew
abbrev pub bare_of : Drill → Scene
bare_of d = record {
  id = d.id;
  bytes = d.disk.bytes.items;
  sessions = no_sessions;
  audited = 0;
  lists = lists_of d.notary.made.items;
  limits = d.notary.limits;
  clock = d.clock;
  crash = crash_of d.crash;
}

-- the store that is held, with its sessions and its auditor, stands for the world of the id, where there is one
abbrev pub StandsUnder : Option ℕ → Scene → OpenWorld → Type 0
StandsUnder None t held = Unit {0}
StandsUnder (Some id) t held = IsIn (world_of t id) held t.bytes

-- no call of either device is to fail
pub record NoneFails (d : Drill) : Type 0 where
  pub disk : (disks.state_of d.disk).plan ≡ Some (λ t. false)
  pub disk_sure : (disks.state_of d.disk).sure ≡ true
  pub notary : (notaries.state_of d.notary).plan ≡ Some (λ t. false)
  pub notary_sure : (notaries.state_of d.notary).sure ≡ true

-- it holds what this scene has, which was entered anew, and no call is to fail
pub record IsLeft (t : Scene) (d : Drill) : Type 0 where
  pub fields : t ≡ bare_of d
  pub none_fails : NoneFails d

-- between two lines a drill stands for this scene
pub record IsAt (t : Scene) (d : Drill) : Type 0 where
  pub left : IsLeft (entered_anew t) d
  pub world : StandsUnder t.id t d.world

-- Behind a line. A crash leaves the store to be entered anew.
abbrev pub IsBehind : Option scenes.Crash → Scene → Drill → Type 0
IsBehind None t d = IsAt t d
IsBehind (Some crash) t d = IsLeft t d

-- ---- faults

-- how often its devices have failed
abbrev pub faults_of : Drill → ℕ
faults_of d = d.disk.faults + d.notary.faults

-- the counts of faults can rise
abbrev pub HasFewFaults : Drill → Type 0
HasFewFaults d = faults_of d < 2 ^ 64 - 1

-- at most one fault more
abbrev pub FailsOnce : Drill → Drill → Type 0
FailsOnce d later = faults_of later ≤ faults_of d + 1
