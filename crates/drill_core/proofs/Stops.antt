-- A line of the world, over devices that may stop behind so many changing calls.
use Rattle.std.proofs.Common.{arith, ◌≡◌, ◌≢◌, ◌⊎◌, inl, inr, ℕ, zero, suc, ◌+◌, ◌-◌, ◌^◌, ◌<◌, ◌≤◌, Bool, true, false, List, [], ◌∷◌, length, take, Option, Some, None, IfSome, Result, Ok, Err, refl, sym, ap, subst, ◌∙◌}
use Rattle.std.specs.Prelude.{nat_le, codes}
use Rattle.std.proofs.lemmas.Bool.{le-leb, cases_lt}
use Rattle.std.proofs.lemmas.Bool.Decides.{nat_tests}
use Rattle.outside_words.specs.Faults.{HasCause}
use Rattle.outside_words.specs.Listed.{listed_from}
use Rattle.outside_words.specs.Runs.{after_calls}
use Rattle.outside_words.specs.Trace.{AsPlanned}
use Rattle.outside_words.proofs.Planned.{first_listed, fails_after}
use Rattle.outside_words.proofs.Quiet.{no_cause, one_failed, all_passed}
use Rattle.std.specs.List.{count_by}
use Rattle.disk_words.specs.declared.DiskFail.TheVariants as disk_fails
use Rattle.disk_words.specs.Disk as disks
use Rattle.disk_words.specs.Record.{bytes_after, image_of}
use Rattle.disk_words.proofs.Quiet as disk_quiet
use Rattle.disk_model.specs.Moments as moments
use Rattle.disk_model.specs.declared.memory.MemDisk.{MemDisk}
use Rattle.disk_model.specs.Calls as disk_traces
use Rattle.disk_model.specs.Memory as disk_memory
use Rattle.disk_model.proofs.Planned as disk_plans
use Rattle.notary_link.specs.declared.fail.NotaryFail.TheVariants as notary_fails
use Rattle.notary_link.specs.declared.memory.MemNotary.{MemNotary}
use Rattle.notary_link.specs.declared.notary.NotaryLimits.{NotaryLimits}
use Rattle.notary_link.specs.Calls.{lists_of, trace_of}
use Rattle.notary_link.specs.Memory as notary_memory
use Rattle.notary_link.specs.Notary as notaries
use Rattle.notary_link.specs.Notary.{Call, Entry, is_failed}
use Rattle.notary_link.specs.Runs as runs
use Rattle.notary_link.proofs.Quiet as notary_quiet
use Rattle.stmt_text.specs.declared.line.Line.{Line}
use Rattle.stmt_text.specs.Fits.{FitsParts}
use Rattle.validator.specs.Desk.{Desk, desk}
use Rattle.store_world.specs.declared.answered.Answered.{Answered}
use Rattle.store_world.specs.declared.fail.LineFail.{LineFail}
use Rattle.store_world.specs.declared.fail.LineFail.TheVariants as fails
use Rattle.store_world.specs.Answers.{said}
use Rattle.store_world.specs.Found.{Found}
use Rattle.store_world.specs.World.{World}
use Rattle.store_world.specs.Standing.{OpenWorld}
use Rattle.store_world.specs.Lists.{IsBeside}
use Rattle.store_world.specs.Steps as world_steps
use Rattle.store_world.specs.Stepping.{Steps, StepsFor}
use Rattle.store_world.specs.Steps.{IsWorldLine}
use Rattle.store_world.specs.Finding.{MayFind}
use Rattle.timeline_model.specs.Scene.{Scene, Crash, entered_anew, world_of}
use Rattle.timeline_model.specs.Lines.{Act, over_world, act}
use Rattle.timeline_model.specs.Timeline.{calls_in, under, crashed, stopped, crashed_behind, with_calls}
use Rattle.timeline_model.proofs.Calls.{failed_nothing}
use Rattle.drill_core.specs.declared.machine.Drill.{Drill}
use Rattle.drill_core.specs.Drills.{bare_of, StandsUnder, IsBehind, faults_of, HasFewFaults, FailsOnce}
use Rattle.drill_core.specs.Devices.{listed_filings, IsStopping, StopsBy, WillPass, IsRestarted, IsRestartedBy}
use Rattle.drill_core.specs.Taken.{Follows, IsActed, ComeBefore}
use Rattle.drill_core.proofs.Ready.{Begun, scene_of}
use Rattle.drill_core.proofs.Coming.{next_on, under_whole, under_stopped}
use Rattle.drill_core.proofs.Planned.{FailedOne, failed_one, answered_within, answered_quiet}
use Rattle.drill_core.proofs.Filings.{same_trace, failed_trace}
use Rattle.drill_core.proofs.Whole as whole
use Rattle.drill_core.proofs.Whole.{act_of, may_of}

-- ---- how many calls there are

module _ {C D : Type 0} (firsts : List C) (after before : ℕ) where
  -- all of them pass
  within : (lasts : List D) → (lasts ≢ [] → before ≡ length firsts) → length firsts ≤ after → (before ≤ after → length lasts ≤ after - before) → length firsts + length lasts ≤ after
  within [] counts le fits = omega (arith, le)
  within (last ∷ lasts) counts le fits =
      let same : before ≡ length firsts = counts (λ (e : last ∷ lasts ≡ []). absurd cc) in
      let rest : length (last ∷ lasts) ≤ after - before = fits (omega (arith, same, le)) in
      omega (arith, same, le, rest)

  none_less : (lasts : List D) (n : ℕ) → n < length lasts → lasts ≢ []
  none_less [] n more = absurd (omega (arith, more))
  none_less (last ∷ lasts) n more = λ (e : last ∷ lasts ≡ []). absurd cc

take_zero : {A : Type 0} (xs : List A) → take 0 xs ≡ []
take_zero [] = refl
take_zero (x ∷ xs) = refl

take_whole : {A : Type 0} (n : ℕ) (xs : List A) → length xs ≤ n → take n xs ≡ xs
take_whole zero [] le = refl
take_whole (suc n) [] le = refl
take_whole zero (x ∷ xs) le = absurd (omega (arith, le))
take_whole {A = A} (suc n) (x ∷ xs) le = ap (λ (l : List A). x ∷ l) (take_whole n xs (omega (arith, le)))

pub listed_some : (after before : ℕ) → before ≤ after → listed_filings after before ≡ (after - before + 1) ∷ []
listed_some after before le = let e : nat_le before after ≡ true = le-leb before after le in rw e refl

pub listed_none : (after before : ℕ) → after < before → listed_filings after before ≡ []
listed_none after before less = let e : nat_le before after ≡ false = grind (arith, nat_tests, less) in rw e refl

abbrev answered_by : LineFail → Result Answered LineFail
answered_by fail = Err fail

-- ---- the drill

module _ (d : Drill) (begun : Begun) (stands : StandsUnder d.id (scene_of d begun) d.world) (before : ℕ) (few : HasFewFaults d) (line : Line) (of_world : IsWorldLine line) (fits : FitsParts line)
    (result : Result Answered LineFail) (world : OpenWorld) (disk : MemDisk) (notary : MemNotary)
    (told : StepsFor line d.clock result d.world world (desk (disk_memory.state_of d.disk) (notary_memory.state_of d.notary)) (desk (disk_memory.state_of disk) (notary_memory.state_of notary)))
    (disk_on : disks.GoesOn (disk_memory.state_of d.disk) (disk_memory.state_of disk)) (notary_on : notaries.GoesOn (notary_memory.state_of d.notary) (notary_memory.state_of notary))
    (disk_cause : HasCause fails.DiskFault d.disk.faults disk.faults result) (notary_cause : HasCause fails.NotaryFault d.notary.faults notary.faults result)
    (id : ℕ) (own : d.id ≡ Some id) (d0 : Drill) (fewer : faults_of d ≤ faults_of d0) where
  abbrev t : Scene
  t = scene_of d begun

  abbrev later : Drill
  later = record { alloc = d.alloc; id = d.id; world = world; disk = disk; notary = notary; clock = d.clock; crash = d.crash }

  abbrev old : Desk
  old = desk (disk_memory.state_of d.disk) (notary_memory.state_of d.notary)

  abbrev new : Desk
  new = desk (disk_memory.state_of disk) (notary_memory.state_of notary)

  abbrev left_with : List ℕ
  left_with = disk.bytes.items

  abbrev was : List Entry
  was = trace_of d.notary.made.items

  abbrev now_is : List Entry
  now_is = trace_of notary.made.items

  few_disk : d.disk.faults < 2 ^ 64 - 1
  few_disk = omega (arith, few)

  few_notary : d.notary.faults < 2 ^ 64 - 1
  few_notary = omega (arith, few)

  abbrev w : World
  w = world_of t id

  beside : IsBeside w d.notary.limits (lists_of d.notary.made.items)
  beside = whole.beside d begun stands line of_world fits result world disk notary told disk_on notary_on id

  through : (r : Result Answered LineFail) → result ≡ r → Steps line d.clock w r world old new d.disk.bytes.items left_with
  through r is = whole.through d begun stands line of_world fits result world disk notary told disk_on notary_on id own r is

  -- what may be found, and what the line then does
  module _ (found : Found) (finds : MayFind w line d.clock found) where
    abbrev act_by : Act
    act_by = over_world t w line found (world_steps.step w line d.clock found)

    acted_by : (crash : Option Crash) (answered : Answered) (d4 : Drill) → Follows (IsBehind crash) (under crash t act_by) answered d0 d4 → IsActed crash (Ok line) t answered d0 d4
    acted_by crash answered d4 f = record {
      found = found;
      may = may_of t id own line found finds;
      follows = next_on answered d0 d4 (IsBehind crash) (under crash t act_by) (under crash t (act t line found)) (ap (under crash t) (act_of t id own line found of_world)) f;
    }

  -- ---- nothing failed

  module _ (answered : Answered) (is : result ≡ Ok answered) where
    abbrev steps : Steps line d.clock w (Ok answered) world old new d.disk.bytes.items left_with
    steps = through (Ok answered) is

    abbrev a : Act
    a = act_by steps.found (steps.finds beside)

    as_many : (disk_memory.state_of d.disk).sure ≡ true → (notary_memory.state_of d.notary).sure ≡ true → faults_of later ≤ faults_of d
    as_many disk_sure notary_sure =
        let of_disk : disk.faults ≡ d.disk.faults = disk_quiet.as_many_failed (disk_memory.state_of d.disk) (disk_memory.state_of disk) disk_on disk_sure
        (ap (count_by disks.is_failed) (steps.makes beside).disk ∙ all_passed disks.is_failed moments.is_done (λ call. refl) a.disk_calls (disk_traces.trace_of d.disk.made.items)) in
        let of_notary : notary.faults ≡ d.notary.faults = notary_quiet.as_many_failed (notary_memory.state_of d.notary) (notary_memory.state_of notary) notary_on notary_sure was refl (answered_quiet a.notary_calls was now_is (steps.makes beside).notary) in
        omega (arith, of_disk, of_notary)

  -- ---- under a crash

  module _ (crash : Crash) (stopping : IsStopping crash.after before d) (counts : ComeBefore before t (Some id) line) where
    abbrev after : ℕ
    after = crash.after

    -- the disk began with the bytes of the scene
    origin_is : disk_memory.origin_of disk ≡ d.disk.bytes.items
    origin_is = whole.first_is d begun stands line of_world fits result world disk notary told disk_on notary_on
        ∙ sym (d.disk.replayed ∙ ap (bytes_after (disk_memory.origin_of d.disk)) stopping.trace)

    -- the notary's plan
    planned : (listed : List ℕ) → listed_filings after before ≡ listed → AsPlanned is_failed (listed_from (length was) listed) (length was) now_is
    planned listed is = subst (λ (l : List ℕ). AsPlanned is_failed (listed_from (length was) l) (length was) now_is) is
        (subst (λ (p : Option (ℕ → Bool)). IfSome p (λ f. AsPlanned is_failed f (length was) now_is)) stopping.notary notary_on.trace.planned)

    -- nothing failed, so all calls were let pass
    module _ (answered : Answered) (is : result ≡ Ok answered) where
      abbrev all : Act
      all = a answered is

      first_fit : length all.disk_calls ≤ after
      first_fit = (disk_plans.stops_where_listed 0 after ((after + 1) ∷ []) all.disk_calls (Ok tt) (disk_memory.state_of d.disk) (disk_memory.state_of disk) stopping.disk (ap length stopping.trace) refl disk_on ((steps answered is).makes beside).disk).0

      rest_fit : before ≤ after → length all.notary_calls ≤ after - before
      rest_fit le = answered_within (listed_from (length was) ((after - before + 1) ∷ [])) (length was) (after - before) all.notary_calls was now_is (omega arith) (first_listed (length was) (after - before))
          (planned ((after - before + 1) ∷ []) (listed_some after before le)) ((steps answered is).makes beside).notary

      all_pass : calls_in all ≤ after
      all_pass = within all.disk_calls after before all.notary_calls (counts (steps answered is).found ((steps answered is).finds beside)) first_fit rest_fit

    -- one failed
    module _ (found : Found) (finds : MayFind w line d.clock found) where
      abbrev b : Act
      b = act_by found finds

      abbrev made_calls : List disks.Call
      made_calls = take after b.disk_calls

      abbrev filed_calls : List Call
      filed_calls = take (after - length b.disk_calls) b.notary_calls

      -- what the crash leaves
      left : (d4 : Drill) (answered : Answered) → IsRestarted crash.choice later d4 → answered ≡ said (codes "crashed") → nat_le (calls_in b) after ≡ false
          → disk_memory.image_after crash.choice disk ≡ image_of crash.choice t.bytes (after_calls moments.is_done made_calls [])
          → lists_of notary.made.items ≡ with_calls filed_calls t.lists
          → faults_of later ≤ faults_of d + 1
          → IsActed (Some crash) (Ok line) t answered d0 d4
      left d4 answered restarted reply more bytes_are lists_are once = acted_by found finds (Some crash) answered d4
          (next_on answered d0 d4 (IsBehind (Some crash)) (crashed (stopped t crash b)) (under (Some crash) t b) (under_stopped t crash b more)
          (record {
            at = record { fields = sym fields_are; none_fails = restarted.none_fails };
            text = ap (λ (x : Answered). x.text) reply;
            refused = ap (λ (x : Answered). x.refused) reply;
            faults = (let f = restarted.faults in omega (arith, f, once, fewer));
          }))
        where
          fields_are : bare_of d4 ≡ stopped t crash b
          fields_are =
              restarted.fields
              ∙ ap (λ (x : List ℕ). record (bare_of later) { bytes = x }) bytes_are
              ∙ ap (λ (l : notaries.Lists). record (bare_of later) { bytes = image_of crash.choice t.bytes (after_calls moments.is_done made_calls []); lists = l }) lists_are
              ∙ ap (λ (l : NotaryLimits). record (bare_of d) { bytes = image_of crash.choice t.bytes (after_calls moments.is_done made_calls []); lists = with_calls filed_calls t.lists; limits = l }) notary_on.limits

      image_is : (trace : List (disks.Call × Bool)) → disk_traces.trace_of disk.made.items ≡ trace → disk_memory.image_after crash.choice disk ≡ image_of crash.choice t.bytes trace
      image_is trace same = ap (λ (f : List ℕ). image_of crash.choice f (disk_traces.trace_of disk.made.items)) origin_is ∙ ap (image_of crash.choice t.bytes) same

    module _ (d4 : Drill) (answered : Answered) (restarted : IsRestarted crash.choice later d4) (reply : answered ≡ said (codes "crashed")) where
      -- a call of the disk
      module _ (is : result ≡ Err fails.DiskFault) where
        abbrev short : Steps line d.clock w (Err fails.DiskFault) world old new d.disk.bytes.items left_with
        short = through (Err fails.DiskFault) is

        abbrev bd : Act
        bd = act_by short.found (short.finds beside)

        failed_at : (disk_traces.trace_of disk.made.items ≡ disk_traces.trace_of d.disk.made.items) ⊎ moments.MakesCalls bd.disk_calls (Err disk_fails.Failed) (disk_memory.state_of d.disk) (disk_memory.state_of disk)
            → FailedOne moments.is_done moments.has_failed after bd.disk_calls (disk_traces.trace_of d.disk.made.items) (disk_traces.trace_of disk.made.items)
        failed_at (inl same) = absurd (no_cause fails.DiskFault d.disk.faults disk.faults (answered_by fails.DiskFault) (disk_quiet.no_change (disk_memory.state_of d.disk) (disk_memory.state_of disk) disk_on stopping.disk_sure same) few_disk
            (subst (λ (r : Result Answered LineFail). HasCause fails.DiskFault d.disk.faults disk.faults r) is disk_cause) refl)
        failed_at (inr made) = failed_one moments.is_done moments.has_failed after bd.disk_calls (disk_traces.trace_of d.disk.made.items) (disk_traces.trace_of disk.made.items)
            (disk_plans.stops_where_listed 0 after ((after + 1) ∷ []) bd.disk_calls (Err disk_fails.Failed) (disk_memory.state_of d.disk) (disk_memory.state_of disk) stopping.disk (ap length stopping.trace) refl disk_on made)

        disk_faults : faults_of later ≤ faults_of d + 1
        disk_faults =
            let one = failed_at (short.makes beside).disk in
            let count : count_by disks.is_failed (disk_traces.trace_of disk.made.items) ≡ 1 + count_by disks.is_failed (disk_traces.trace_of d.disk.made.items) =
            ap (count_by disks.is_failed) one.is
            ∙ one_failed disks.is_failed (moments.has_failed one.call) (after_calls moments.is_done (take after bd.disk_calls) (disk_traces.trace_of d.disk.made.items)) refl
            ∙ ap (λ (n : ℕ). 1 + n) (all_passed disks.is_failed moments.is_done (λ call. refl) (take after bd.disk_calls) (disk_traces.trace_of d.disk.made.items)) in
            let rises = disk_on.quiet stopping.disk_sure in
            let of_notary : notary.faults ≡ d.notary.faults = notary_quiet.no_change (notary_memory.state_of d.notary) (notary_memory.state_of notary) notary_on stopping.notary_sure was refl (ap (λ (l : List Entry). Some l) (short.makes beside).notary) in
            omega (arith, count, rises, of_notary)

        disk_stopped : IsActed (Some crash) (Ok line) t answered d0 d4
        disk_stopped =
            let one = failed_at (short.makes beside).disk in
            let more : after < length bd.disk_calls = one.more in
            let many : nat_le (calls_in bd) after ≡ false = grind (arith, nat_tests, more) in
            let none : after - length bd.disk_calls ≡ 0 = omega (arith, more) in
            left short.found (short.finds beside) d4 answered restarted reply many
            (image_is short.found (short.finds beside) (moments.has_failed one.call ∷ after_calls moments.is_done (take after bd.disk_calls) [])
            (one.is ∙ ap (λ (l : List (disks.Call × Bool)). moments.has_failed one.call ∷ after_calls moments.is_done (take after bd.disk_calls) l) stopping.trace)
            ∙ failed_nothing crash.choice t.bytes one.call (after_calls moments.is_done (take after bd.disk_calls) []))
            (same_trace d.notary notary (short.makes beside).notary
            ∙ sym (ap (λ (n : ℕ). with_calls (take n bd.notary_calls) t.lists) none ∙ ap (λ (l : List Call). with_calls l t.lists) (take_zero bd.notary_calls)))
            disk_faults

      -- a call of the notary
      module _ (is : result ≡ Err fails.NotaryFault) where
        abbrev late : Steps line d.clock w (Err fails.NotaryFault) world old new d.disk.bytes.items left_with
        late = through (Err fails.NotaryFault) is

        abbrev bn : Act
        bn = act_by late.found (late.finds beside)

        -- it counted a fault
        rose : notary.faults ≡ d.notary.faults → ⊥
        rose same = no_cause fails.NotaryFault d.notary.faults notary.faults (answered_by fails.NotaryFault) same few_notary
            (subst (λ (r : Result Answered LineFail). HasCause fails.NotaryFault d.notary.faults notary.faults r) is notary_cause) refl

        unchanged : now_is ≡ was → ⊥
        unchanged same = rose (notary_quiet.no_change (notary_memory.state_of d.notary) (notary_memory.state_of notary) notary_on stopping.notary_sure was refl (ap (λ (l : List Entry). Some l) same))

        made_of : (now_is ≡ was) ⊎ runs.MakesCalls bn.notary_calls (Err notary_fails.Failed) was now_is → runs.MakesCalls bn.notary_calls (Err notary_fails.Failed) was now_is
        made_of (inl same) = absurd (unchanged same)
        made_of (inr made) = made

        all_of : (now_is ≡ was) ⊎ moments.MakesCalls bn.disk_calls (Ok tt) (disk_memory.state_of d.disk) (disk_memory.state_of disk) → moments.MakesCalls bn.disk_calls (Ok tt) (disk_memory.state_of d.disk) (disk_memory.state_of disk)
        all_of (inl same) = absurd (unchanged same)
        all_of (inr made) = made

        -- so one was listed
        not_less : after < before → ⊥
        not_less less = rose (notary_quiet.none_listed_to (notary_memory.state_of d.notary) (notary_memory.state_of notary) notary_on stopping.notary_sure was refl (length was) [] (stopping.notary ∙ ap (λ (l : List ℕ). Some (listed_from (length was) l)) (listed_none after before less)) refl)

        fits_before : before ≤ after
        fits_before = elim (cases_lt after before) [ inl less ↦ absurd (not_less less) | inr le ↦ le ]

        one_late : FailedOne runs.is_done (runs.was_answered notary_fails.Failed) (after - before) bn.notary_calls was now_is
        one_late = failed_one runs.is_done (runs.was_answered notary_fails.Failed) (after - before) bn.notary_calls was now_is
            (fails_after (listed_from (length was) ((after - before + 1) ∷ [])) is_failed runs.is_done (runs.was_answered notary_fails.Failed) (λ call. refl) (λ call. refl) (length was) (after - before) bn.notary_calls was now_is (omega arith) (first_listed (length was) (after - before))
            (planned ((after - before + 1) ∷ []) (listed_some after before fits_before)) (made_of (late.makes beside).notary))

        notary_faults : faults_of later ≤ faults_of d + 1
        notary_faults =
            let of_notary = notary_quiet.failed_once (notary_memory.state_of d.notary) (notary_memory.state_of notary) notary_on stopping.notary_sure was refl bn.notary_calls (made_of (late.makes beside).notary) in
            let of_disk : disk.faults ≡ d.disk.faults = disk_quiet.as_many_failed (disk_memory.state_of d.disk) (disk_memory.state_of disk) disk_on stopping.disk_sure
            (ap (count_by disks.is_failed) (all_of (late.makes beside).order) ∙ all_passed disks.is_failed moments.is_done (λ call. refl) bn.disk_calls (disk_traces.trace_of d.disk.made.items)) in
            omega (arith, of_disk, of_notary)

        notary_stopped : IsActed (Some crash) (Ok line) t answered d0 d4
        notary_stopped =
            let one = one_late in
            let more : after - before < length bn.notary_calls = one.more in
            let count : before ≡ length bn.disk_calls = counts late.found (late.finds beside) (none_less bn.disk_calls after before bn.notary_calls (after - before) more) in
            let le : before ≤ after = fits_before in
            let many : nat_le (calls_in bn) after ≡ false = grind (arith, nat_tests, more, count, le) in
            left late.found (late.finds beside) d4 answered restarted reply many
            (image_is late.found (late.finds beside) (after_calls moments.is_done (take after bn.disk_calls) [])
            (all_of (late.makes beside).order ∙ ap (after_calls moments.is_done bn.disk_calls) stopping.trace
            ∙ ap (λ (l : List disks.Call). after_calls moments.is_done l []) (sym (take_whole after bn.disk_calls (omega (arith, count, le))))))
            (failed_trace d.notary notary one.call notary_fails.Failed (take (after - before) bn.notary_calls) one.is
            ∙ ap (λ (n : ℕ). with_calls (take (after - n) bn.notary_calls) t.lists) count)
            notary_faults

      stopped_by : (fail : LineFail) → result ≡ Err fail → fail ≢ fails.NoMemory → IsActed (Some crash) (Ok line) t answered d0 d4
      stopped_by fails.DiskFault is other = disk_stopped is
      stopped_by fails.NotaryFault is other = notary_stopped is
      stopped_by fails.NoMemory is other = absurd (other refl)

  -- ---- under a crash or none

  module _ (crash : Option Crash) (stopping : StopsBy crash before d) (counts : ComeBefore before t (Some id) line) (answered : Answered) (d4 : Drill) where
    module _ (is : result ≡ Ok answered) (pass : WillPass later d4) where
      abbrev whole_act : Act
      whole_act = a answered is

      fields_then : entered_anew whole_act.next.scene ≡ bare_of d4
      fields_then = whole.fields_are d begun stands line of_world fits result world disk notary told disk_on notary_on id own answered (steps answered is) ∙ sym pass.fields

      world_then : StandsUnder whole_act.next.scene.id whole_act.next.scene d4.world
      world_then = subst (λ (h : OpenWorld). StandsUnder whole_act.next.scene.id whole_act.next.scene h) (sym pass.world)
          (whole.stands_then d begun stands line of_world fits result world disk notary told disk_on notary_on id own answered (steps answered is))

      faults_then : (disk_memory.state_of d.disk).sure ≡ true → (notary_memory.state_of d.notary).sure ≡ true → FailsOnce d0 d4
      faults_then disk_sure notary_sure = let f = pass.faults in let g = as_many answered is disk_sure notary_sure in omega (arith, f, g, fewer)

      by : (c : Option Crash) → StopsBy c before d → Follows (IsBehind c) (under c t whole_act) answered d0 d4
      by None none = record {
        at = record { left = record { fields = fields_then; none_fails = pass.none_fails }; world = world_then };
        text = (steps answered is).goes.reply.text;
        refused = (steps answered is).goes.reply.refused;
        faults = faults_then none.disk_sure none.notary_sure;
      }
      by (Some c) s = next_on answered d0 d4 (IsBehind (Some c)) (crashed_behind whole_act.next) (under (Some c) t whole_act) (under_whole t c whole_act (le-leb (calls_in whole_act) c.after (all_pass c s counts answered is)))
          (record {
            at = record { fields = fields_then; none_fails = pass.none_fails };
            text = (steps answered is).goes.reply.text;
            refused = (steps answered is).goes.reply.refused;
            faults = faults_then s.disk_sure s.notary_sure;
          })

      pub passed : IsActed crash (Ok line) t answered d0 d4
      passed = acted_by (steps answered is).found ((steps answered is).finds beside) crash answered d4 (by crash stopping)

    pub stops : (fail : LineFail) → result ≡ Err fail → fail ≢ fails.NoMemory → IsRestartedBy crash later d4 → answered ≡ said (codes "crashed") → IsActed crash (Ok line) t answered d0 d4
    stops fail is other restarted reply = by crash stopping restarted
      where
        by : (c : Option Crash) → StopsBy c before d → IsRestartedBy c later d4 → IsActed c (Ok line) t answered d0 d4
        by None none restarted_by = absurd restarted_by
        by (Some c) s restarted_by = stopped_by c s counts d4 answered restarted_by reply fail is other
