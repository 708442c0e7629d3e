-- What listing failures, and entering a store anew, do to what a drill holds.
use Rattle.std.proofs.Common.{arith, ◌≡◌, ℕ, Bool, true, false, List, Option, Some, None, IfSome, Result, Ok, Err, refl, sym, ap, ◌∙◌, subst}
use Rattle.std.proofs.lemmas.Option.{same_Some}
use Rattle.disk_words.specs.Disk as disks
use Rattle.disk_words.proofs.Quiet as disk_quiet
use Rattle.disk_model.specs.declared.memory.MemDisk.{MemDisk}
use Rattle.disk_model.specs.Memory as disk_memory
use Rattle.notary_link.specs.declared.memory.MemNotary.{MemNotary}
use Rattle.notary_link.specs.declared.notary.NotaryLimits.{NotaryLimits}
use Rattle.notary_link.specs.Calls.{lists_of}
use Rattle.notary_link.specs.Memory as notary_memory
use Rattle.notary_link.specs.Notary as notaries
use Rattle.store_engine.specs.declared.fail.StoreFail.{StoreFail}
use Rattle.store_engine.specs.declared.fail.StoreFail.TheVariants as store_fails
use Rattle.session_model.specs.Standing.{NoneKept}
use Rattle.store_world.specs.declared.open_store.OpenStore.{OpenStore}
use Rattle.store_world.specs.Standing.{OpenWorld, IsEntered, is_refused_old}
use Rattle.timeline_model.specs.Calls.{StandsEntered}
use Rattle.timeline_model.proofs.Entering as entering
use Rattle.timeline_model.specs.Scene.{Scene}
use Rattle.drill_core.specs.declared.machine.Drill.{Drill}
use Rattle.drill_core.specs.Drills.{bare_of, StandsUnder, NoneFails}
use Rattle.drill_core.specs.Devices.{LeavesNone, WillPass, EntersAnew, IsRestarted}

-- the same lists, limits and faults, where all but the plan stays
pub record NotaryStays (old new : MemNotary) : Type 0 where
  pub lists : lists_of new.made.items ≡ lists_of old.made.items
  pub limits : new.limits ≡ old.limits
  pub faults : new.faults ≡ old.faults

pub notary_stays : (old new : MemNotary) → record (notary_memory.state_of new) { plan = (notary_memory.state_of old).plan; sure = (notary_memory.state_of old).sure } ≡ notary_memory.state_of old → NotaryStays old new
notary_stays old new same = record {
  lists = same_Some (lists_of new.made.items) (lists_of old.made.items) (ap (λ (s : notaries.State). s.lists) same);
  limits = ap (λ (s : notaries.State). s.limits) same;
  faults = ap (λ (s : notaries.State). s.faults) same;
}

-- so all that is held stays
pub fields_stay : (d : Drill) (world : OpenWorld) (disk : MemDisk) (notary : MemNotary) → disk.bytes.items ≡ d.disk.bytes.items → NotaryStays d.notary notary
    → bare_of (record { alloc = d.alloc; id = d.id; world = world; disk = disk; notary = notary; clock = d.clock; crash = d.crash }) ≡ bare_of d
fields_stay d world disk notary bytes stays =
    ap (λ (b : List ℕ). record (bare_of d) { bytes = b; lists = lists_of notary.made.items; limits = notary.limits }) bytes
    ∙ ap (λ (l : notaries.Lists). record (bare_of d) { lists = l; limits = notary.limits }) stays.lists
    ∙ ap (λ (l : NotaryLimits). record (bare_of d) { limits = l }) stays.limits

pub passes : (d : Drill) (disk : MemDisk) (notary : MemNotary) → (disk_memory.state_of disk).plan ≡ Some (λ t. false) → (disk_memory.state_of disk).sure ≡ true → (disk_memory.state_of disk).reads ≡ (disk_memory.state_of d.disk).reads → disk.faults ≡ d.disk.faults
    → (notary_memory.state_of notary).plan ≡ Some (λ t. false) → (notary_memory.state_of notary).sure ≡ true
    → record (notary_memory.state_of notary) { plan = (notary_memory.state_of d.notary).plan; sure = (notary_memory.state_of d.notary).sure } ≡ notary_memory.state_of d.notary
    → WillPass d (record { alloc = d.alloc; id = d.id; world = d.world; disk = disk; notary = notary; clock = d.clock; crash = d.crash })
passes d disk notary disk_plan disk_sure reads disk_faults notary_plan notary_sure same =
    let stays = notary_stays d.notary notary same in
    record {
      fields = fields_stay d d.world disk notary (same_Some disk.bytes.items d.disk.bytes.items reads) stays;
      world = refl;
      none_fails = record { disk = disk_plan; disk_sure = disk_sure; notary = notary_plan; notary_sure = notary_sure };
      faults = (let f = stays.faults in omega (arith, disk_faults, f));
    }

-- what a crash of this choice leaves
pub restarts : (choice : ℕ) (d : Drill) (disk : MemDisk) (notary : MemNotary) → disk_memory.IsFresh (disk_memory.image_after choice d.disk) d.disk.faults disk
    → (notary_memory.state_of notary).plan ≡ Some (λ t. false) → (notary_memory.state_of notary).sure ≡ true
    → record (notary_memory.state_of notary) { plan = (notary_memory.state_of d.notary).plan; sure = (notary_memory.state_of d.notary).sure } ≡ notary_memory.state_of d.notary
    → IsRestarted choice d (record { alloc = d.alloc; id = d.id; world = d.world; disk = disk; notary = notary; clock = d.clock; crash = d.crash })
restarts choice d disk notary fresh notary_plan notary_sure same =
    let stays = notary_stays d.notary notary same in
    let image : disk.bytes.items ≡ disk_memory.image_after choice d.disk = same_Some disk.bytes.items (disk_memory.image_after choice d.disk) fresh.reads in
    record {
      fields =
          ap (λ (b : List ℕ). record (bare_of d) { bytes = b; lists = lists_of notary.made.items; limits = notary.limits }) image
          ∙ ap (λ (l : notaries.Lists). record (bare_of d) { bytes = disk_memory.image_after choice d.disk; lists = l; limits = notary.limits }) stays.lists
          ∙ ap (λ (l : NotaryLimits). record (bare_of d) { bytes = disk_memory.image_after choice d.disk; limits = l }) stays.limits;
      none_fails = record { disk = fresh.no_failing_changes; disk_sure = fresh.sure; notary = notary_plan; notary_sure = notary_sure };
      faults = (let f = stays.faults in let g = fresh.faults_are in omega (arith, f, g));
    }

-- the store is entered
module _ (d : Drill) (none : NoneFails d) (id : ℕ) (own : d.id ≡ Some id) (world : OpenWorld) (disk : MemDisk) (on : disks.GoesOn (disk_memory.state_of d.disk) (disk_memory.state_of disk)) (same : disks.Unchanged (disk_memory.state_of d.disk) (disk_memory.state_of disk)) (id_is : world.id ≡ id) where
  abbrev later : Drill
  later = record { alloc = d.alloc; id = d.id; world = world; disk = disk; notary = d.notary; clock = d.clock; crash = d.crash }

  entered_fields : bare_of later ≡ bare_of d
  entered_fields = fields_stay d world disk d.notary (same_Some disk.bytes.items d.disk.bytes.items same.reads) (record { lists = refl; limits = refl; faults = refl })

  by_stands : StandsUnder (Some id) (bare_of d) (record { id = id; opened = world.opened; is_old = world.is_old; auditing = world.auditing }) → EntersAnew d later
  by_stands stands = record {
    fields = entered_fields;
    at = record {
      left = record { fields = refl; none_fails = record { disk = on.plan ∙ none.disk; disk_sure = on.sure ∙ none.disk_sure; notary = none.notary; notary_sure = none.notary_sure } };
      world = subst (λ (t : Scene). StandsUnder t.id t world) (sym entered_fields)
          (subst (λ (o : Option ℕ). StandsUnder o (bare_of d) world) (sym own) (subst (λ (n : ℕ). StandsUnder (Some id) (bare_of d) (record { id = n; opened = world.opened; is_old = world.is_old; auditing = world.auditing })) (sym id_is) stands));
    };
    faults = (let f = disk_quiet.no_change (disk_memory.state_of d.disk) (disk_memory.state_of disk) on none.disk_sure same.trace in omega (arith, f));
  }

  abbrev IsEnteredBy : Result (Unit {0}) StoreFail → Type 0
  IsEnteredBy r = IsEntered id d.disk.bytes.items r world.opened

  -- what it keeps, by what entering came to; no audit goes on
  kept_as : (opened : Option OpenStore) (is_old : Bool) → world.opened ≡ opened → world.is_old ≡ is_old → world.auditing ≡ None → StandsUnder (Some id) (bare_of d) (record { id = id; opened = opened; is_old = is_old; auditing = None }) → EntersAnew d later
  kept_as opened is_old opened_is old_is audit_is stands = by_stands (subst (λ (o : Option OpenStore). StandsUnder (Some id) (bare_of d) (record { id = id; opened = o; is_old = world.is_old; auditing = world.auditing })) (sym opened_is)
      (subst (λ (b : Bool). StandsUnder (Some id) (bare_of d) (record { id = id; opened = opened; is_old = b; auditing = world.auditing })) (sym old_is)
      (subst (λ a. StandsUnder (Some id) (bare_of d) (record { id = id; opened = opened; is_old = is_old; auditing = a })) (sym audit_is) stands)))

  module _ (result : Result (Unit {0}) StoreFail) (entered : IsEnteredBy result) (sessions : IfSome world.opened (λ o. NoneKept o.sessions)) (old_is : world.is_old ≡ is_refused_old result) (audit_is : world.auditing ≡ None) where
    stands_by : (r : Result (Unit {0}) StoreFail) → result ≡ r → StandsEntered (bare_of d) id r world.opened
    stands_by r is = entering.entered (bare_of d) id r world.opened (subst IsEnteredBy is entered) sessions

    pub enters : result ≡ Ok tt → EntersAnew d later
    enters is = kept_as world.opened false refl (old_is ∙ ap is_refused_old is) audit_is (stands_by (Ok tt) is)

    pub enters_none : (fail : StoreFail) → result ≡ Err fail → LeavesNone fail → world.opened ≡ None → EntersAnew d later
    enters_none store_fails.NotAStore is leaves none_is = kept_as None false none_is (old_is ∙ ap is_refused_old is) audit_is (stands_by (Err store_fails.NotAStore) is)
    enters_none store_fails.OldFormat is leaves none_is = kept_as None true none_is (old_is ∙ ap is_refused_old is) audit_is (stands_by (Err store_fails.OldFormat) is)
    enters_none store_fails.DiskFault is leaves none_is = absurd leaves
    enters_none store_fails.NoMemory is leaves none_is = absurd leaves
    enters_none (store_fails.ClockBack last) is leaves none_is = absurd leaves
    enters_none store_fails.TooLate is leaves none_is = absurd leaves
    enters_none store_fails.TooManyOps is leaves none_is = absurd leaves
    enters_none store_fails.TooLong is leaves none_is = absurd leaves
    enters_none store_fails.StoreFull is leaves none_is = absurd leaves
    enters_none store_fails.Closed is leaves none_is = absurd leaves

pub no_id : (d : Drill) → NoneFails d → d.id ≡ None → EntersAnew d d
no_id d none is = record {
  fields = refl;
  at = record { left = record { fields = refl; none_fails = none }; world = subst (λ (o : Option ℕ). StandsUnder o (bare_of d) d.world) (sym is) tt };
  faults = omega arith;
}
