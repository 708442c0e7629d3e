-- A line of the world, from the drill before the failures were listed to the one behind them.
use Rattle.std.proofs.Common.{arith, ◌≡◌, ◌≢◌, ℕ, ◌≤◌, true, Option, Some, None, Result, Ok, Err, refl, sym, ap, subst, ◌∙◌}
use Rattle.std.specs.Prelude.{codes, is_some}
use Rattle.outside_words.specs.Faults.{HasCause}
use Rattle.disk_words.specs.Disk as disks
use Rattle.disk_model.specs.declared.memory.MemDisk.{MemDisk}
use Rattle.disk_model.specs.Memory as disk_memory
use Rattle.notary_link.specs.declared.memory.MemNotary.{MemNotary}
use Rattle.notary_link.specs.Memory as notary_memory
use Rattle.notary_link.specs.Notary as notaries
use Rattle.stmt_text.specs.declared.line.Line.{Line}
use Rattle.stmt_text.specs.Fits.{FitsParts}
use Rattle.validator.specs.Desk.{desk}
use Rattle.store_world.specs.declared.answered.Answered.{Answered}
use Rattle.store_world.specs.declared.fail.LineFail.{LineFail}
use Rattle.store_world.specs.declared.fail.LineFail.TheVariants as fails
use Rattle.store_world.specs.Answers.{said}
use Rattle.store_world.specs.Standing.{OpenWorld}
use Rattle.store_world.specs.Steps.{IsWorldLine}
use Rattle.store_world.specs.Stepping.{StepsFor}
use Rattle.timeline_model.specs.Scene.{Scene, Crash, entered_anew}
use Rattle.drill_core.specs.declared.machine.Drill.{Drill}
use Rattle.drill_core.specs.Drills.{bare_of, StandsUnder, IsAt, faults_of, HasFewFaults}
use Rattle.drill_core.specs.Devices.{WillStop, WillPass, IsRestartedBy}
use Rattle.drill_core.specs.Taken.{IsActed, ComeBefore}
use Rattle.drill_core.proofs.Ready.{Begun, scene_of, by_scene}
use Rattle.drill_core.proofs.Stops as stopping

-- the drill before, with the calls counted, and with the failures listed; and what its line left
module _ (d0 d1 d : Drill) (crash : Option Crash) (before : ℕ) (line : Line) (of_world : IsWorldLine line) (fits : FitsParts line) (few : HasFewFaults d0) (some : is_some d0.id ≡ true)
    (faults1 : faults_of d1 ≡ faults_of d0) (result : Result Answered LineFail) (world : OpenWorld) (disk : MemDisk) (notary : MemNotary)
    (told : StepsFor line d.clock result d.world world (desk (disk_memory.state_of d.disk) (notary_memory.state_of d.notary)) (desk (disk_memory.state_of disk) (notary_memory.state_of notary)))
    (disk_on : disks.GoesOn (disk_memory.state_of d.disk) (disk_memory.state_of disk)) (notary_on : notaries.GoesOn (notary_memory.state_of d.notary) (notary_memory.state_of notary))
    (disk_cause : HasCause fails.DiskFault d.disk.faults disk.faults result) (notary_cause : HasCause fails.NotaryFault d.notary.faults notary.faults result)
    (t : Scene) (at0 : IsAt t d0) (at1 : IsAt t d1) (will : WillStop crash before d1 d) (counts : ComeBefore before t t.id line) where
  abbrev later : Drill
  later = record { alloc = d.alloc; id = d.id; world = world; disk = disk; notary = notary; clock = d.clock; crash = d.crash }

  few_then : HasFewFaults d
  few_then = let f = will.faults in omega (arith, f, faults1, few)

  fewer : faults_of d ≤ faults_of d0
  fewer = let f = will.faults in omega (arith, f, faults1)

  fields : entered_anew t ≡ bare_of d
  fields = at1.left.fields ∙ sym will.fields

  stands : StandsUnder t.id t d.world
  stands = subst (λ (h : OpenWorld). StandsUnder t.id t h) (sym will.world) at1.world

  some_then : is_some d.id ≡ true
  some_then = ap (λ (s : Scene). is_some s.id) (sym fields ∙ at0.left.fields) ∙ some

  module _ (answered : Answered) (d4 : Drill) where
    abbrev Acts : Scene → Type 0
    Acts s = IsActed crash (Ok line) s answered d0 d4

    -- of whatever scene the drill stands for, under its id
    from_id : ((begun : Begun) → StandsUnder d.id (scene_of d begun) d.world → (id : ℕ) → d.id ≡ Some id → ComeBefore before (scene_of d begun) (Some id) line → Acts (scene_of d begun)) → Acts t
    from_id holds = by_scene t d (λ s. ComeBefore before s s.id line → Acts s) fields stands (λ begun stand count. by begun stand count d.id refl some_then) counts
      where
        by : (begun : Begun) → StandsUnder d.id (scene_of d begun) d.world → ComeBefore before (scene_of d begun) d.id line → (o : Option ℕ) → d.id ≡ o → is_some o ≡ true → Acts (scene_of d begun)
        by begun stand count None own some_o = absurd cc
        by begun stand count (Some id) own some_o = holds begun stand id own (subst (λ (o : Option ℕ). ComeBefore before (scene_of d begun) o line) own count)

    pub passed : result ≡ Ok answered → WillPass later d4 → Acts t
    passed is pass = from_id (λ begun stand id own count.
        stopping.passed d begun stand before few_then line of_world fits result world disk notary told disk_on notary_on disk_cause notary_cause id own d0 fewer crash will.stopping count answered d4 is pass)

    pub stopped : (fail : LineFail) → result ≡ Err fail → fail ≢ fails.NoMemory → IsRestartedBy crash later d4 → answered ≡ said (codes "crashed") → Acts t
    stopped fail is other restarted reply = from_id (λ begun stand id own count.
        stopping.stops d begun stand before few_then line of_world fits result world disk notary told disk_on notary_on disk_cause notary_cause id own d0 fewer crash will.stopping count answered d4 fail is other restarted reply)
