-- How `make` ends, and what it leaves then.
use Rattle.std.proofs.Common.{◌≡◌, ◌∙◌, ◌≤◌, ℕ, true, List, ◌++◌, length, drop, refl, sym, ap, subst, inl, inr, ⊎_elim, append_assoc, Result, Ok, Err, Option, Some, None}
use Rattle.std.specs.Prelude.{nat_lt, if◌then◌else◌, Bool, false, IfSome, IsErrOf}
use Rattle.outside_words.specs.Faults.{Rose}
use Rattle.outside_words.proofs.Told.{told_map}
use Rattle.disk_words.specs.Disk as disks
use Rattle.disk_words.proofs.Steady.{unchanged_then}
use Rattle.notary_link.specs.Notary as notaries
use Rattle.notary_link.specs.declared.notary.NotaryLimits.{NotaryLimits}
use Rattle.outside_io.specs.Sink.{State, IsOut, FrontIsOut}
use Rattle.tuple_bytes.specs.declared.header.Header.{Header}
use Rattle.tuple_bytes.specs.Spelling.{FitsHeader}
use Rattle.history_model.specs.Stored.{stored}
use Rattle.history_model.specs.History.{last_moment}
use Rattle.statement_core.specs.Database as statements
use Rattle.session_model.specs.Service.{Session}
use Rattle.store_world.specs.declared.open_store.OpenStore.{OpenStore}
use Rattle.store_world.specs.Standing.{StoreIsIn}
use Rattle.store_world.specs.World.{no_sessions}
use Rattle.store_world.specs.declared.fail.LineFail.{LineFail}
use Rattle.store_world.specs.declared.fail.LineFail.TheVariants as lines
use Rattle.validator.proofs.Telling.{if_both}
use Rattle.workload_make.specs.Script.{script}
use Rattle.line_runs.specs.declared.make.LastTwo.{LastTwo}
use Rattle.line_runs.specs.declared.runner.Runner.{Runner}
use Rattle.line_runs.specs.declared.status.Status.{Status}
use Rattle.line_runs.specs.declared.status.Status.TheVariants as statuses
use Rattle.line_runs.specs.Outcome.{Outcome, Said, CutsOff, refused}
use Rattle.line_runs.specs.Devices.{Devices, AllIsLeft, site_of}
use Rattle.line_runs.specs.Running.{Running, Timed, start, carried, world_of}
use Rattle.line_runs.specs.Ran.{IsSettled, ending_by, opened, lists_of, text_before}
use Rattle.line_runs.specs.Failing.{EndsByUse}
use Rattle.line_runs.specs.Carrying.{IsReady, IsAt, EndsWith, FromWhere, of_line}
use Rattle.line_runs.specs.Made.{Makes, MakesStore, MakesHeader, MakesOn, Tells, made_line, made_outcome, added, all_but_two, txns_in}
use Rattle.line_runs.specs.MakingLines.{AreLastTwo, Reaches, MakesLines, MakesLinesFrom, MakesFrom, script_for, width_of, stored_in, told_of, line_status}
use Rattle.line_runs.proofs.OnStore.{IsHeaderOf, at_disk, told_from, opened_on, telling, wanting}
use Rattle.line_runs.proofs.Faults.{KeepsUse}
use Rattle.line_runs.proofs.LastTwo.{drop_front}
use Rattle.line_runs.proofs.RunEnds.{ok_settled}
use Rattle.line_runs.proofs.Ending.{lines_as, lines_from, promises_kept, rose_before}

-- it comes with its text, or was cut off
pub said_is : (P : Status → Type 0) (d : Outcome) (result : Status) (out written : State) → P d.status → P statuses.WriteFault → P statuses.NoMemory → Said d result out written → P result
said_is P d result out written is write memory said = ⊎_elim
    (λ (whole : (result ≡ d.status) × IsOut d.text out written). subst P (sym whole.0) is)
    (λ (cut : CutsOff result × FrontIsOut d.text out written). ⊎_elim (λ (e : result ≡ statuses.WriteFault). subst P (sym e) write) (λ (e : result ≡ statuses.NoMemory). subst P (sym e) memory) cut.0)
    said

-- ---- what is told behind all lines

txns_told : (id : ℕ) (w : Option statements.Database) (begun : ℕ → Option Session) (held : Option OpenStore) (bytes : List ℕ) → StoreIsIn id w begun held bytes → txns_in w ≡ stored_in held
txns_told id None begun None bytes h = refl
txns_told id (Some w) begun (Some o) bytes h = sym h.0.store.open_on.knows.count
txns_told id (Some w) begun None bytes h = absurd h
txns_told id None begun (Some o) bytes h = absurd h

two_told : (before r : Running) (one : List ℕ) (two : LastTwo) → AreLastTwo before.text one r.text two → added before r ≡ two.first ++ two.second
two_told before r one two are = ap (drop (length before.text)) (are.second ∙ ap (λ (xs : List ℕ). xs ++ two.second) are.first ∙ append_assoc before.text two.first two.second) ∙ drop_front before.text (two.first ++ two.second)

abbrev telling_so : ℕ → ℕ → ℕ → List ℕ → Outcome
telling_so count refusals stored replies = record { status = ending_by refusals; text = made_line count refusals stored ++ replies }

outcome_told : (count : ℕ) (before r : Running) (one : List ℕ) (last : Runner) (two : LastTwo) (bytes : List ℕ) → IsAt r last bytes → AreLastTwo before.text one r.text two
    → made_outcome count before r ≡ told_of count last two
outcome_told count before r one last two bytes at are =
    ap (λ (n : ℕ). telling_so count n (txns_in r.world.store) (added before r)) (sym at.refused)
    ∙ ap (λ (n : ℕ). telling_so count last.refused n (added before r)) (txns_told r.world.id r.world.store r.world.sessions last.world.opened bytes at.stands.store)
    ∙ ap (telling_so count last.refused (stored_in last.world.opened)) (two_told before r one two are)

-- it ends well, or by a refusal
module _ (P : Status → Type 0) (ok : P statuses.Ok) (refuses : P statuses.Refused) where
  by_ending : (b : Bool) → P (if b then statuses.Refused else statuses.Ok)
  by_ending true = refuses
  by_ending false = ok

  pub ending_is : (refusals : ℕ) → P (ending_by refusals)
  ending_is refusals = by_ending (nat_lt 0 refusals)

-- ---- the ends of the lines

module _ (count : ℕ) (text : List ℕ) (first last : Runner) (old new : Devices) (unread : new.input ≡ old.input) (result : Status) where
  abbrev Made : Type 0
  Made = FromWhere first old.desk new.desk (λ begin before after. Makes count begin text result old new before after)

  abbrev Lines : Result LastTwo LineFail → Type 0
  Lines r = MakesLinesFrom text r first last (site_of old) (site_of new)

  made : (r : Result LastTwo LineFail) → (IsSettled result old.desk new.desk → IsSettled (line_status r) old.desk new.desk) → KeepsUse (line_status r) result
      → ((begin : Running) (before after : List ℕ) → (m : MakesLines text r last (site_of old) (site_of new) begin before after) → Tells (made_outcome count (all_but_two begin m.done) (carried true begin m.done)) m.done m.next text result old new) → Lines r → Made
  made r settles uses tells told = told_map old.desk.disk.reads new.desk.disk.reads _ _ told (λ before after all begin at.
      let m = all begin at in
      record {
        done = m.done;
        next = m.next;
        first = m.first;
        lines = lines_as true begin m.done m.next (line_status r) result (site_of old) (site_of new) before after settles uses m.lines;
        tells = tells begin before after m;
        none_read = unread;
      })

  pub made_all : (two : LastTwo) → Lines (Ok two) → Said (told_of count last two) result old.out new.out → Made
  made_all two told said = made (Ok two) (λ s. ok_settled old.desk new.desk) (λ scripted x t used. let P : Status → Type 0 = λ n. EndsByUse n scripted x t in said_is P (told_of count last two) result old.out new.out (ending_is P tt tt last.refused) tt tt said)
      (λ begin before after m. inl (m.reaches, subst (λ (o : Outcome). Said o result old.out new.out) (sym (outcome_told count (all_but_two begin m.done) (carried true begin m.done) (text_before true begin m.done) last two after m.stands m.two)) said)) told

  -- a line was under way where a device failed
  unsettled_disk : Rose old.desk.disk.faults new.desk.disk.faults → Said (refused statuses.DiskFault) result old.out new.out → IsSettled result old.desk new.desk → ⊥
  unsettled_disk rose said s = ⊎_elim (λ (h : (result ≡ statuses.DiskFault) × IsOut (refused statuses.DiskFault).text old.out new.out). s.disk h.0)
      (λ (h : CutsOff result × FrontIsOut (refused statuses.DiskFault).text old.out new.out). ⊎_elim (λ (e : result ≡ statuses.WriteFault). (s.write e).0 rose) s.memory h.0) said

  unsettled_notary : Rose old.desk.notary.faults new.desk.notary.faults → Said (refused statuses.NotaryFault) result old.out new.out → IsSettled result old.desk new.desk → ⊥
  unsettled_notary rose said s = ⊎_elim (λ (h : (result ≡ statuses.NotaryFault) × IsOut (refused statuses.NotaryFault).text old.out new.out). s.notary h.0)
      (λ (h : CutsOff result × FrontIsOut (refused statuses.NotaryFault).text old.out new.out). ⊎_elim (λ (e : result ≡ statuses.WriteFault). (s.write e).1 rose) s.memory h.0) said

  abbrev HasCauses : LineFail → Type 0
  HasCauses fail = (IsErrOf {T = LastTwo} (Err fail) lines.DiskFault → Rose old.desk.disk.faults new.desk.disk.faults) × (IsErrOf {T = LastTwo} (Err fail) lines.NotaryFault → Rose old.desk.notary.faults new.desk.notary.faults)

  unsettled : (fail : LineFail) → HasCauses fail → EndsWith (of_line fail) result old.out new.out → IsSettled result old.desk new.desk → ⊥
  unsettled lines.DiskFault causes said s = unsettled_disk (causes.0 refl) said s
  unsettled lines.NotaryFault causes said s = unsettled_notary (causes.1 refl) said s
  unsettled lines.NoMemory causes said s = s.memory said.0

  -- how it is told
  failed_tells : (outcome : Outcome) (done : List Timed) (next : Timed) (fail : LineFail) → HasCauses fail → EndsWith (of_line fail) result old.out new.out → Reaches {A = LastTwo} text done next (Err fail) → Tells outcome done next text result old new
  failed_tells outcome done next lines.DiskFault causes said reaches = inr (inl (reaches, inl (causes.0 refl, said)))
  failed_tells outcome done next lines.NotaryFault causes said reaches = inr (inl (reaches, inr (causes.1 refl, said)))
  failed_tells outcome done next lines.NoMemory causes said reaches = inr (inr (reaches, (said.0, ap (λ (x : State). x.held) said.1)))

  failed_uses : (fail : LineFail) → EndsWith (of_line fail) result old.out new.out → KeepsUse (line_status {A = LastTwo} (Err fail)) result
  failed_uses lines.DiskFault said = λ scripted x t used. said_is (λ n. EndsByUse n scripted x t) (refused statuses.DiskFault) result old.out new.out used tt tt said
  failed_uses lines.NotaryFault said = λ scripted x t used. said_is (λ n. EndsByUse n scripted x t) (refused statuses.NotaryFault) result old.out new.out used tt tt said
  failed_uses lines.NoMemory said = λ scripted x t used. subst (λ (n : Status). EndsByUse n scripted x t) (sym said.0) tt

  pub made_failed : (fail : LineFail) → Lines (Err fail) → (IsErrOf {T = LastTwo} (Err fail) lines.DiskFault → Rose old.desk.disk.faults new.desk.disk.faults) → (IsErrOf {T = LastTwo} (Err fail) lines.NotaryFault → Rose old.desk.notary.faults new.desk.notary.faults)
      → EndsWith (of_line fail) result old.out new.out → Made
  made_failed fail told disk notary said = made (Err fail) (λ s. absurd (unsettled fail (disk, notary) said s)) (failed_uses fail said)
      (λ begin before after m. failed_tells (made_outcome count (all_but_two begin m.done) (carried true begin m.done)) m.done m.next fail (disk, notary) said m.reaches) told

-- ---- the store was opened before

tells_from : (outcome : Outcome) (done : List Timed) (next : Timed) (text : List ℕ) (result : Status) (first : disks.State) (old new : Devices) → first.faults ≤ old.desk.disk.faults
    → Tells outcome done next text result old new → Tells outcome done next text result (at_disk first old) new
tells_from outcome done next text result first old new le (inl all) = inl all
tells_from outcome done next text result first old new le (inr (inl (is, inl (rose, said)))) = inr (inl (is, inl (rose_before first old new le rose, said)))
tells_from outcome done next text result first old new le (inr (inl (is, inr notary))) = inr (inl (is, inr notary))
tells_from outcome done next text result first old new le (inr (inr wants)) = inr (inr wants)

makes_store : (seed count : ℕ) (header : Header) (result : Status) (first : disks.State) (old new : Devices) (before after : List ℕ) → disks.Unchanged first old.desk.disk → first.faults ≤ old.desk.disk.faults
    → first.is_image before → (stored before).header ≡ Some header → FitsHeader header
    → Makes count (opened header old before) (script header.width (last_moment (stored before).items) seed count) result old new before after → MakesStore seed count header result (at_disk first old) new before after
makes_store seed count header result first old new before after same le here has fits m =
    let begin : Running = opened header old before in
    let text : List ℕ = script header.width (last_moment (stored before).items) seed count in
    let lines = lines_from true begin m.done m.next result first old new before after same le m.lines in
    record {
      makes = record {
        done = m.done;
        next = m.next;
        first = m.first;
        lines = lines;
        tells = tells_from (made_outcome count (all_but_two begin m.done) (carried true begin m.done)) m.done m.next text result first old new le m.tells;
        none_read = m.none_read;
      };
      promises = promises_kept true header m.done m.next result (at_disk first old) new before after here has fits lines;
    }

width_here : (held : Option OpenStore) (header : Header) (bytes : List ℕ) → StoreIsIn header.id (Some (world_of header bytes)) no_sessions held bytes → width_of held ≡ header.width
width_here None header bytes h = absurd h
width_here (Some o) header bytes h = ap (λ (x : Header). x.width) h.0.store.header

script_here : (seed count : ℕ) (runner : Runner) (header : Header) (bytes : List ℕ) (limits : NotaryLimits) (lists : notaries.Lists) → IsAt (start (world_of header bytes) lists limits) runner bytes
    → script_for runner seed count ≡ script header.width (last_moment (stored bytes).items) seed count
script_here seed count runner header bytes limits lists at =
    ap (λ (w : ℕ). script w runner.moment seed count) (width_here runner.world.opened header bytes at.stands.store) ∙ ap (λ (m : ℕ). script header.width m seed count) at.moment

left_before : (first : disks.State) (old new : Devices) → disks.Unchanged first old.desk.disk → AllIsLeft old new → AllIsLeft (at_disk first old) new
left_before first old new same left = record {
  desk = record { disk = unchanged_then first old.desk.disk new.desk.disk same left.desk.disk; notary = left.desk.notary };
  clock = left.clock;
  input = left.input;
}

-- the lines of the script, of each header that the bytes have
pub made_opened : (id seed count : ℕ) (runner : Runner) (first : disks.State) (old new : Devices) → IfSome first.reads (IsReady runner) → runner.world.id ≡ id → disks.Unchanged first old.desk.disk
    → (result : Status) → IfSome first.reads first.is_image → first.faults ≤ old.desk.disk.faults → MakesFrom seed count runner result old new → MakesOn id seed count result (at_disk first old) new
made_opened id seed count runner first old new ready is same result image le (inl want) = wanting id (MakesHeader seed count) result (at_disk first old) new (left_before first old new same want.left) want.wanting want.none_out
made_opened id seed count runner first old new ready is same result image le (inr makes) = opened_on id (MakesHeader seed count) result (at_disk first old) new
    (telling first.reads new.desk.disk.reads (IsHeaderOf id) (λ h before after. MakesStore seed count h result (at_disk first old) new before after)
    (told_from first.reads old.desk.disk.reads new.desk.disk.reads _ _ _ same.reads (if_both first.reads first.is_image (IsReady runner) image ready) makes (λ before after both from.
    let r = both.1 in
    let h : Header = r.header in
    let lists = lists_of old.desk.notary.lists in
    let limits = old.desk.notary.limits in
    let at = r.at lists limits in (
      h,
      record { header_is = r.is; id_is = r.id ∙ is; format_is = r.format },
      makes_store seed count h result first old new before after same le both.0 r.is r.fits
          (subst (λ (text : List ℕ). Makes count (opened h old before) text result old new before after) (script_here seed count runner h before limits lists at) (from (opened h old before) at)),
    ))))
