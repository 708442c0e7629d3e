-- How a run ends, and what it leaves then.
use Rattle.std.proofs.Common.{if◌then◌else◌, ◌≡◌, ◌≢◌, ◌<◌, ◌≤◌, ◌∙◌, ℕ, Bool, true, false, List, [], ◌∷◌, ◌++◌, take, Option, Some, None, refl, sym, subst, arith, inl, inr, ⊎_elim, Ok, Err}
use Rattle.std.specs.Prelude.{◌⊎◌, nat_lt, IsErrOf, IfSome}
use Rattle.std.proofs.lemmas.Bool.Decides.{nat_tests}
use Rattle.outside_words.specs.Faults.{Rose}
use Rattle.outside_words.specs.Told.{WhereTold}
use Rattle.outside_words.proofs.Told.{told_map}
use Rattle.disk_words.specs.Disk as disks
use Rattle.disk_model.proofs.Moments.{weaker}
use Rattle.notary_link.specs.declared.notary.NotaryLimits.{NotaryLimits}
use Rattle.notary_link.specs.Notary.{Lists}
use Rattle.outside_io.specs.Sink.{State}
use Rattle.tuple_bytes.specs.declared.header.Header.{Header}
use Rattle.tuple_bytes.specs.Spelling.{FitsHeader}
use Rattle.history_model.specs.Stored.{stored}
use Rattle.audit_model.specs.Sound.{IsSound}
use Rattle.store_world.specs.World.{StoresWorld}
use Rattle.store_world.specs.Lists.{IsBeside}
use Rattle.store_world.specs.Acknowledged.{ok_text}
use Rattle.store_world.proofs.SoundWorlds.{sound_worlds}
use Rattle.validator.proofs.Telling.{if_both, told_both}
use Rattle.line_runs.specs.declared.status.Status.{Status}
use Rattle.line_runs.specs.declared.status.Status.TheVariants as statuses
use Rattle.line_runs.specs.declared.run_fail.RunFail.{RunFail}
use Rattle.line_runs.specs.declared.run_fail.RunFail.TheVariants as fails
use Rattle.line_runs.specs.declared.runner.Runner.{Runner}
use Rattle.line_runs.specs.declared.seen.Seen.{Seen}
use Rattle.line_runs.specs.Saying.{WriteCause}
use Rattle.line_runs.specs.Running.{Running, Timed, start, carried, world_of}
use Rattle.line_runs.specs.Ran.{CauseOf, IsToTell, Writes, IsSettled, RunsLines, Runs, KeepsPromises, RunsStore, RunsHeader, RunsOn, opened, lists_of, text_before}
use Rattle.line_runs.specs.Carrying.{IsReady, Carries, CarriesFrom, EndsWith, RunsFrom, SoundFrom, ending}
use Rattle.line_runs.specs.Sees.{SeesHeader, SeesOn, SeesStore}
use Rattle.line_runs.specs.SeeingLines.{CarriesSeenFrom, RunsSeenFrom}
use Rattle.line_runs.specs.Devices.{Site, Devices, StaysSound, desk, site_of}
use Rattle.line_runs.proofs.RunEnds.{Ended, at_out, IsToldBy, told_failed, told_well}
use Rattle.line_runs.proofs.OnStore.{IsHeaderOf, cause_from, only_before, every_image_from, told_from, at_disk, opened_on, telling}
use Rattle.line_runs.proofs.SoundRuns.{sound_runs, sound_begin}
use Rattle.line_runs.proofs.Acknowledging.{acknowledged_in, appended_in, replied_more}
use Rattle.line_runs.proofs.Faults.{KeepsUse}
use Rattle.line_runs.proofs.SoundKept.{sound_images, sound_from}

-- ---- an end behind the lines that were carried out

-- the same lines, where fewer ends are settled
pub lines_as : (scripted : Bool) (begin : Running) (done : List Timed) (next : Timed) (s t : Status) (old new : Site) (before after : List ℕ) → (IsSettled t old.desk new.desk → IsSettled s old.desk new.desk) → KeepsUse s t
    → RunsLines scripted begin done next s old new before after → RunsLines scripted begin done next t old new before after
lines_as scripted begin done next s t old new before after settles uses l = record {
  none = λ x. l.none (settles x);
  tells = l.tells;
  uses = uses scripted (carried scripted begin done) next l.uses;
  seconds = l.seconds;
  images = l.images;
  kept = l.kept;
  settled = λ x. l.settled (settles x);
  stores = λ x. l.stores (settles x);
  found = l.found;
  files = told_map old.desk.notary.lists new.desk.notary.lists _ _ l.files (λ lists later f beside.
      let files = f beside in
      record { keeps = λ x. files.keeps (settles x); between = files.between; ordered = files.ordered });
}

module _ (first last : Runner) (old new : Devices) (seen : Seen) (written : State) where
  -- the lines that were carried out, wherever the run began
  pub ran : (result : Status) (r : Ended) → ((begin : Running) (before after : List ℕ) (c : Carries first.is_scripted r last old new begin before after) → begin.text ≡ []
      → IsToldBy old new written c.done c.next (text_before first.is_scripted begin c.done) (carried first.is_scripted begin c.done) result r)
      → CarriesSeenFrom seen r first last old new → RunsSeenFrom seen result first old (at_out written new)
  ran result r tells told = told_map old.desk.disk.reads new.desk.disk.reads _ _ told (λ before after all begin at silent.
      let c = (all begin at).carries in
      let x : Running = carried first.is_scripted begin c.done in
      let t = tells begin before after c silent in
      record {
        runs = record {
          done = c.done;
          next = c.next;
          lines = lines_as first.is_scripted begin c.done c.next (ending r) result (site_of old) (site_of new) before after t.settles t.uses c.lines;
          read = t.read;
          said = t.said;
        };
        sees = (all begin at).sees;
      })

  -- a failure
  pub ran_failed : (fail : RunFail) (result : Status) → CarriesSeenFrom seen (Err fail) first last old new → (IsErrOf {T = Unit {0}} (Err fail) fails.DiskFault → Rose old.desk.disk.faults new.desk.disk.faults) → (IsErrOf {T = Unit {0}} (Err fail) fails.NotaryFault → Rose old.desk.notary.faults new.desk.notary.faults)
      → (IsErrOf {T = Unit {0}} (Err fail) fails.ReadFault → Rose old.input.faults new.input.faults) → EndsWith fail result new.out written → RunsSeenFrom seen result first old (at_out written new)
  ran_failed fail result told disk notary input ends = ran result (Err fail) (λ begin before after c silent.
      told_failed old new written c.done c.next (text_before first.is_scripted begin c.done) (carried first.is_scripted begin c.done) fail result disk notary input ends c.first c.read (c.said silent)) told

-- the run, without what was seen
pub runs_of : (seen : Seen) (result : Status) (first : Runner) (old new : Devices) → RunsSeenFrom seen result first old new → RunsFrom result first old new
runs_of seen result first old new told = told_map old.desk.disk.reads new.desk.disk.reads _ _ told (λ before after all begin at silent. (all begin at silent).runs)

-- whether some reply is a refusal
pub some_refused : (n : ℕ) → 0 < n → nat_lt 0 n ≡ true
some_refused n some = grind (arith, nat_tests, some)

pub none_refused : (n : ℕ) → n ≤ 0 → nat_lt 0 n ≡ false
none_refused n none = grind (arith, nat_tests, none)

-- all lines were carried out
pub ran_well : (first last : Runner) (old new : Devices) (seen : Seen) (b : Bool) → CarriesSeenFrom seen (Ok tt) first last old new → nat_lt 0 last.refused ≡ b → RunsSeenFrom seen (if b then statuses.Refused else statuses.Ok) first old new
ran_well first last old new seen b told flag = ran first last old new seen new.out (if b then statuses.Refused else statuses.Ok) (Ok tt) (λ begin before after c silent.
    told_well old new c.done c.next (text_before first.is_scripted begin c.done) (carried first.is_scripted begin c.done) last.refused c.stands.refused c.read (c.said silent) b flag) told

pub rose_on : (old mid new : ℕ) → mid ≤ new → Rose old mid → Rose old new
rose_on old mid new le rose = omega (arith, le, rose)

-- a fault of the output, while the lines were carried out or behind them
pub written_cause : (fail : RunFail) (result : Status) (out mid written : State) → (IsErrOf {T = Unit {0}} (Err fail) fails.WriteFault → Rose out.faults mid.faults) → out.faults ≤ mid.faults → mid.faults ≤ written.faults
    → (fail ≢ fails.WriteFault → WriteCause result mid written) → WriteCause result out written
written_cause fails.DiskFault result out mid written before le on cause = λ e. cause_from out.faults mid.faults written.faults le (cause (λ x. cc) e)
written_cause fails.NotaryFault result out mid written before le on cause = λ e. cause_from out.faults mid.faults written.faults le (cause (λ x. cc) e)
written_cause fails.ReadFault result out mid written before le on cause = λ e. cause_from out.faults mid.faults written.faults le (cause (λ x. cc) e)
written_cause fails.InputLimit result out mid written before le on cause = λ e. cause_from out.faults mid.faults written.faults le (cause (λ x. cc) e)
written_cause fails.WriteFault result out mid written before le on cause = λ e. rose_on out.faults mid.faults written.faults on (before refl)
written_cause fails.NoMemory result out mid written before le on cause = λ e. cause_from out.faults mid.faults written.faults le (cause (λ x. cc) e)

-- ---- the store was opened before

module _ (first : disks.State) (old new : Devices) (le : first.faults ≤ old.desk.disk.faults) where
  pub rose_before : Rose old.desk.disk.faults new.desk.disk.faults → Rose first.faults new.desk.disk.faults
  rose_before r = cause_from first.faults old.desk.disk.faults new.desk.disk.faults le r

  pub settled_from : (result : Status) → IsSettled result (desk first old.desk.notary) new.desk → IsSettled result old.desk new.desk
  settled_from result s = record { disk = s.disk; notary = s.notary; memory = s.memory; write = λ e. ((λ r. (s.write e).0 (rose_before r)), (s.write e).1) }

  told_cause : (s : Status) → CauseOf s old new → CauseOf s (at_disk first old) new
  told_cause s h = ⊎_elim (λ (d : (s ≡ statuses.DiskFault) × Rose old.desk.disk.faults new.desk.disk.faults). inl (d.0, rose_before d.1)) (λ (other : ((s ≡ statuses.NotaryFault) × Rose old.desk.notary.faults new.desk.notary.faults) ⊎ ((s ≡ statuses.ReadFault) × Rose old.input.faults new.input.faults) ⊎ (s ≡ statuses.InputLimit)). inr other) h

  tell_from : (done : List Timed) (next : Timed) (s : Status) → IsToTell done next old new s → IsToTell done next (at_disk first old) new s
  tell_from done next s t = record { cause = told_cause s t.cause; read = t.read }

writes_from : (Idle : Type 0) (P Q : Status → Type 0) (before : List ℕ) (r : Running) (s : Status) (out written : State) → ((s : Status) → P s → Q s) → Writes Idle P before r s out written → Writes Idle Q before r s out written
writes_from Idle P Q before r s out written f (inl all) = inl all
writes_from Idle P Q before r s out written f (inr (inl told)) = inr (inl (f s told.0, told.1))
writes_from Idle P Q before r s out written f (inr (inr (cuts, inl short))) = inr (inr (cuts, inl short))
writes_from Idle P Q before r s out written f (inr (inr (cuts, inr (inl all)))) = inr (inr (cuts, inr (inl all)))
writes_from Idle P Q before r s out written f (inr (inr (cuts, inr (inr told)))) = inr (inr (cuts, inr (inr (told.0, f told.0 told.1, told.2))))

-- the lines of a store that was opened before
pub lines_from : (scripted : Bool) (begin : Running) (done : List Timed) (next : Timed) (result : Status) (first : disks.State) (old new : Devices) (before after : List ℕ) → disks.Unchanged first old.desk.disk → first.faults ≤ old.desk.disk.faults
    → RunsLines scripted begin done next result (site_of old) (site_of new) before after → RunsLines scripted begin done next result (site_of (at_disk first old)) (site_of new) before after
lines_from scripted begin done next result first old new before after same le lines =
    let settles : IsSettled result (desk first old.desk.notary) new.desk → IsSettled result old.desk new.desk = settled_from first old new le result in
    record {
      none = λ x. lines.none (settles x);
      tells = lines.tells;
      uses = lines.uses;
      seconds = lines.seconds;
      images = λ only. every_image_from first old.desk.disk new.desk.disk _ same (lines.images (only_before first old.desk.disk before same only));
      kept = λ only. lines.kept (only_before first old.desk.disk before same only);
      settled = λ x only. lines.settled (settles x) (only_before first old.desk.disk before same only);
      stores = λ x. lines.stores (settles x);
      found = lines.found;
      files = told_map old.desk.notary.lists new.desk.notary.lists _ _ lines.files (λ lists later f beside.
          let files = f beside in
          record { keeps = λ x. files.keeps (settles x); between = files.between; ordered = λ id more only. files.ordered id more (only_before first old.desk.disk before same only) });
    }

-- the lists where a run begins are those that the notary tells
begins_with : (o n : Option Lists) → WhereTold o n (λ lists later. lists_of o ≡ lists)
begins_with (Some lists) (Some later) = refl
begins_with (Some lists) None = tt
begins_with None n = tt

beside_first : (header : Header) (bytes : List ℕ) (o : Option Lists) (limits : NotaryLimits) (lists : Lists) → lists_of o ≡ lists → IsBeside (start (world_of header bytes) (lists_of o) limits).world limits lists
beside_first header bytes o limits lists same = subst (IsBeside (start (world_of header bytes) (lists_of o) limits).world limits) same (record { lists = record { batches = λ id. refl; marks = λ id. refl }; limits = refl })

-- what is promised of lines over a store of this header, whatever became of their replies
pub promises_kept : (scripted : Bool) (header : Header) (done : List Timed) (next : Timed) (result : Status) (old new : Devices) (before after : List ℕ)
    → old.desk.disk.is_image before → (stored before).header ≡ Some header → FitsHeader header
    → RunsLines scripted (opened header old before) done next result (site_of old) (site_of new) before after → KeepsPromises scripted header done next old new before
promises_kept scripted header done next result old new before after here has fits lines =
    let begin : Running = opened header old before in
    let all : List Timed = done ++ next ∷ [] in
    record {
      appends = λ only. weaker (lines.images only) (λ c front. appended_in scripted begin (world_of header before) (take front.0 all) c refl front.1);
      acknowledged = λ only digits replied c is. ⊎_elim
          (λ (so_far : StoresWorld (carried scripted begin done).world c). acknowledged_in scripted begin done digits c replied so_far)
          (λ (more : StoresWorld (carried scripted begin all).world c). acknowledged_in scripted begin all digits c (replied_more (ok_text digits) scripted begin done (next ∷ []) replied) more)
          (lines.kept only c is);
      unaltered = told_map old.desk.notary.lists new.desk.notary.lists _ _ (told_both old.desk.notary.lists new.desk.notary.lists _ _ (begins_with old.desk.notary.lists new.desk.notary.lists) lines.found) (λ lists later both sound.
          (sound_runs sound_worlds scripted begin all (fits, refl)
          (sound_begin old.desk.disk.is_image before header (lists_of old.desk.notary.lists) old.desk.notary.limits here has (subst (λ (l : Lists). IsSound old.desk.disk.is_image (l.batches header.id) header.id) (sym both.0) sound))
          (both.1 (beside_first header before old.desk.notary.lists old.desk.notary.limits lists both.0))).0);
    }

runs_store : (scripted : Bool) (header : Header) (result : Status) (first : disks.State) (old new : Devices) (before after : List ℕ) → disks.Unchanged first old.desk.disk → first.faults ≤ old.desk.disk.faults
    → first.is_image before → (stored before).header ≡ Some header → FitsHeader header → Runs scripted (opened header old before) result old new before after → RunsStore scripted header result (at_disk first old) new before after
runs_store scripted header result first old new before after same le here has fits r =
    let begin : Running = opened header old before in
    let lines = lines_from scripted begin r.done r.next result first old new before after same le r.lines in
    record {
      runs = record {
        done = r.done;
        next = r.next;
        lines = lines;
        read = r.read;
        said = writes_from (r.next.line ≡ []) (IsToTell r.done r.next old new) (IsToTell r.done r.next (at_disk first old) new) (text_before scripted begin r.done) (carried scripted begin r.done) result old.out new.out (tell_from first old new le r.done r.next) r.said;
      };
      promises = promises_kept scripted header r.done r.next result (at_disk first old) new before after here has fits lines;
    }

-- a run of each header that the bytes have
pub ran_opened : (id : ℕ) (runner : Runner) (first : disks.State) (old new : Devices) → IfSome first.reads (IsReady runner) → runner.world.id ≡ id → disks.Unchanged first old.desk.disk → (result : Status)
    → IfSome first.reads first.is_image → first.faults ≤ old.desk.disk.faults → RunsFrom result runner old new → RunsOn runner.is_scripted id result (at_disk first old) new
ran_opened id runner first old new ready is same result image le runs = opened_on id (RunsHeader runner.is_scripted) result (at_disk first old) new
    (telling first.reads new.desk.disk.reads (IsHeaderOf id) (λ h before after. RunsStore runner.is_scripted h result (at_disk first old) new before after)
    (told_from first.reads old.desk.disk.reads new.desk.disk.reads _ _ _ same.reads (if_both first.reads first.is_image (IsReady runner) image ready) runs (λ before after both from.
    let r = both.1 in
    let h : Header = r.header in (
      h,
      record { header_is = r.is; id_is = r.id ∙ is; format_is = r.format },
      runs_store runner.is_scripted h result first old new before after same le both.0 r.is r.fits (from (opened h old before) (r.at (lists_of old.desk.notary.lists) old.desk.notary.limits) refl),
    ))))

-- the same with what was seen
pub seen_opened : (id : ℕ) (runner : Runner) (seen : Seen) (first : disks.State) (old new : Devices) → IfSome first.reads (IsReady runner) → runner.world.id ≡ id → disks.Unchanged first old.desk.disk → (result : Status)
    → IfSome first.reads first.is_image → first.faults ≤ old.desk.disk.faults → RunsSeenFrom seen result runner old new → SeesOn runner.is_scripted id seen result (at_disk first old) new
unfolding runs_store
seen_opened id runner seen first old new ready is same result image le runs = opened_on id (SeesHeader runner.is_scripted seen) result (at_disk first old) new
    (telling first.reads new.desk.disk.reads (IsHeaderOf id) (λ h before after. SeesStore runner.is_scripted h seen result (at_disk first old) new before after)
    (told_from first.reads old.desk.disk.reads new.desk.disk.reads _ _ _ same.reads (if_both first.reads first.is_image (IsReady runner) image ready) runs (λ before after both from.
    let r = both.1 in
    let h : Header = r.header in
    let s = from (opened h old before) (r.at (lists_of old.desk.notary.lists) old.desk.notary.limits) refl in (
      h,
      record { header_is = r.is; id_is = r.id ∙ is; format_is = r.format },
      record {
        run = runs_store runner.is_scripted h result first old new before after same le both.0 r.is r.fits s.runs;
        sees = s.sees (record { refused = refl; begun = λ n. refl });
      },
    ))))

-- ---- what was sound stays so

-- however the run ends
pub ran_sound : (r : Ended) (first last : Runner) (old new : Devices) → CarriesFrom r first last old new → SoundFrom first old.desk new.desk
ran_sound r first last old new told = sound_from first old.desk new.desk (told_map old.desk.disk.reads new.desk.disk.reads _ _ told (λ before after all begin at. (all begin at).sound))

pub opened_sound : (runner : Runner) (first : disks.State) (old new : Devices) → IfSome first.reads (IsReady runner) → disks.Unchanged first old.desk.disk → SoundFrom runner old.desk new.desk → StaysSound (desk first old.desk.notary) new.desk
opened_sound runner first old new ready same sound = told_from first.reads old.desk.disk.reads new.desk.disk.reads _ _ _ same.reads ready sound (λ before after r keeps.
    told_map old.desk.notary.lists new.desk.notary.lists _ _ keeps (λ lists later k any stands only was.
    k any (start (world_of r.header before) lists old.desk.notary.limits, r.at lists old.desk.notary.limits) (only_before first old.desk.disk before same only) (sound_images first old.desk.disk (lists.batches any) any same.images was)))
