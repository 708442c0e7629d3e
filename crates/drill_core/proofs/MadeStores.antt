-- A store that is made, or not, over devices that may stop.
use Rattle.std.proofs.Common.{arith, ◌≡◌, ◌⊎◌, inl, inr, ℕ, ◌<◌, ◌≤◌, ◌+◌, ◌-◌, Bool, true, false, List, [], ◌∷◌, ◌++◌, length, take, Option, Some, None, Result, Ok, Err, refl, sym, ap, subst, ◌∙◌, ◌==◌}
use Rattle.std.specs.Prelude.{nat_le, nat_lt, slice_index, ◌&&◌, not, codes}
use Rattle.std.specs.Fmt.{decimal}
use Rattle.std.specs.List.{count_by}
use Rattle.std.proofs.lemmas.Bool.{le-leb, cases_lt, cases_eq, eq-eqb}
use Rattle.std.proofs.lemmas.Bool.Decides.{nat_tests}
use Rattle.std.proofs.lemmas.Option.{same_Some}
use Rattle.outside_words.specs.Faults.{HasCause}
use Rattle.outside_words.specs.Runs.{after_calls}
use Rattle.outside_words.proofs.Quiet.{no_cause, one_failed, all_passed}
use Rattle.disk_words.specs.declared.DiskFail.TheVariants as disk_fails
use Rattle.disk_words.specs.Disk as disks
use Rattle.disk_words.specs.Record.{bytes_after, image_of}
use Rattle.disk_words.proofs.Quiet as disk_quiet
use Rattle.disk_model.specs.Moments.{is_done, has_failed, calls_of, MakesCalls}
use Rattle.disk_model.specs.declared.memory.MemDisk.{MemDisk}
use Rattle.disk_model.specs.Memory as disk_memory
use Rattle.disk_model.proofs.Planned as disk_plans
use Rattle.byte_grammar.specs.Gated.{open_gate}
use Rattle.notary_link.specs.Notary as notaries
use Rattle.tuple_bytes.specs.declared.header.Header.{Header}
use Rattle.tuple_bytes.specs.Limits.{max_moment}
use Rattle.history_model.specs.Heads.{spell_head, is_segment_head}
use Rattle.history_model.specs.Stored.{store_shape}
use Rattle.txn_journal.specs.declared.fail.JournalFail.TheVariants as journals
use Rattle.segment_file.specs.declared.fail.SegmentFail.{SegmentFail}
use Rattle.segment_file.specs.declared.fail.SegmentFail.TheVariants as fails
use Rattle.segment_file.specs.Creation.{as_journal}
use Rattle.txn_journal.specs.Create.{IsFree, IsTaken, creation, Creates, is_free}
use Rattle.txn_journal.proofs.Free.{free_is}
use Rattle.store_world.specs.declared.answered.Answered.{Answered}
use Rattle.store_world.specs.Answers.{said, refusal}
use Rattle.timeline_model.specs.Scene.{Scene, Crash, entered_anew}
use Rattle.timeline_model.specs.Lines.{Act, Next, quiet, refuses, makes, inits, header_at, brings}
use Rattle.timeline_model.specs.Timeline.{calls_in, under, crashed, stopped, with_calls}
use Rattle.stmt_text.specs.declared.event.Event.TheVariants as events
use Rattle.timeline_model.proofs.Acts.{take_none}
use Rattle.timeline_model.proofs.Calls.{failed_nothing}
use Rattle.drill_core.specs.declared.machine.Drill.{Drill}
use Rattle.drill_core.specs.Drills.{bare_of, HasFewFaults, NoneFails, IsLeft, IsAt, IsBehind}
use Rattle.drill_core.specs.Devices.{IsStopping, StopsBy, WillStop, WillPass, IsRestarted, IsRestartedBy, EntersAnew}
use Rattle.drill_core.specs.Taken.{Follows, making}
use Rattle.drill_core.proofs.Coming.{next_on, under_whole, under_stopped, entered_behind}
use Rattle.drill_core.proofs.DeviceFacts.{fields_stay}
use Rattle.drill_core.proofs.Planned.{FailedOne, failed_one}
use Rattle.drill_core.proofs.Ready.{same_plans}

pub taken_is : (bytes : List ℕ) → IsTaken bytes → is_free bytes ≡ false
taken_is bytes (more, inl long) =
    let e : nat_le (length bytes) 1 ≡ false = grind (arith, nat_tests, more) in
    let f : nat_le (length bytes) 65 ≡ false = grind (arith, nat_tests, long) in
    rw (e, f) refl
taken_is bytes (more, inr is_open) =
    let e : nat_le (length bytes) 1 ≡ false = grind (arith, nat_tests, more) in
    let g : (slice_index bytes 0 == open_gate) ≡ true = eq-eqb (slice_index bytes 0) open_gate is_open in
    rw e (by (nat_le (length bytes) 65) g)
  where
    by : (b : Bool) → (slice_index bytes 0 == open_gate) ≡ true → (b && not (slice_index bytes 0 == open_gate)) ≡ false
    by true g = rw g refl
    by false g = refl

free_or_taken : (bytes : List ℕ) → IsFree bytes ⊎ IsTaken bytes
free_or_taken bytes = elim (cases_lt 1 (length bytes)) [
  | inl more ↦ (elim (cases_lt 65 (length bytes)) [
    | inl long ↦ inr (more, inl long)
    | inr short ↦ (elim (cases_eq (slice_index bytes 0) open_gate) [ inl is_open ↦ inr (more, inr is_open) | inr shut ↦ inl (inr (short, shut)) ])
  ])
  | inr short ↦ inl (inl short)
]

-- what is made, by whether the disk is free
free_making : (t : Scene) (h : Header) → is_free t.bytes ≡ true → making t h ≡ makes t h
free_making t h free = rw free refl

taken_making : (t : Scene) (h : Header) → is_free t.bytes ≡ false → making t h ≡ quiet (refuses t (codes "AlreadyThere"))
taken_making t h taken = rw taken refl

-- the disk's record is one of all its calls
sure_by : (crash : Option Crash) (d : Drill) → StopsBy crash 0 d → (disk_memory.state_of d.disk).sure ≡ true
sure_by None d none = none.disk_sure
sure_by (Some crash) d s = s.disk_sure

-- of a scene that was entered anew: where all calls pass, a line takes its own step under a crash, too
whole_under : (crash : Option Crash) (t : Scene) (a : Act) → entered_anew a.next.scene ≡ a.next.scene → ((c : Crash) → crash ≡ Some c → calls_in a ≤ c.after) → under crash t a ≡ a.next
whole_under None t a bare fits = refl
whole_under (Some crash) t a bare fits = under_whole t crash a (le-leb (calls_in a) crash.after (fits crash refl)) ∙ ap (λ (s : Scene). record a.next { scene = s }) bare

module _ (h : Header) (d : Drill) (crash : Option Crash) (stopping : StopsBy crash 0 d) (few : HasFewFaults d) (disk : MemDisk) (on : disks.GoesOn (disk_memory.state_of d.disk) (disk_memory.state_of disk))
    (result : Result (Unit {0}) SegmentFail) (creates : Creates is_segment_head store_shape (spell_head h) (as_journal result) (disk_memory.state_of d.disk) (disk_memory.state_of disk) d.disk.bytes.items disk.bytes.items) (cause : HasCause fails.DiskFault d.disk.faults disk.faults result) (answered : Answered) (u : Drill) where
  abbrev t : Scene
  t = bare_of d

  abbrev later : Drill
  later = record { alloc = d.alloc; id = d.id; world = d.world; disk = disk; notary = d.notary; clock = d.clock; crash = d.crash }

  abbrev old : disks.State
  old = disk_memory.state_of d.disk

  abbrev new : disks.State
  new = disk_memory.state_of disk

  abbrev calls : List disks.Call
  calls = calls_of (creation (spell_head h))

  abbrev IsMade : Option Crash → Type 0
  IsMade c = Follows IsLeft (under c t (making t h)) answered d u

  created : (r : Result (Unit {0}) SegmentFail) → result ≡ r → Creates is_segment_head store_shape (spell_head h) (as_journal r) old new d.disk.bytes.items disk.bytes.items
  created r is = subst (λ (x : Result (Unit {0}) SegmentFail). Creates is_segment_head store_shape (spell_head h) (as_journal x) old new d.disk.bytes.items disk.bytes.items) is creates

  -- by what is made, and what comes of it
  by_act : (c : Option Crash) (a : Act) (next : Next) → making t h ≡ a → under c t a ≡ next → Follows IsLeft next answered d u → IsMade c
  by_act c a next is leaves f = next_on answered d u IsLeft next (under c t (making t h)) (ap (under c t) is ∙ leaves) f

  pub was_made : result ≡ Ok tt → WillPass later u → answered ≡ said (codes "ready " ++ decimal h.id) → IsMade crash
  was_made is pass reply =
      let c = created (Ok tt) is in
      let of_disk : disk.faults ≡ d.disk.faults = disk_quiet.as_many_failed old new on (sure_by crash d stopping) (ap (count_by disks.is_failed) c.trace ∙ all_passed disks.is_failed is_done (λ call. refl) calls old.trace) in
      by_act crash (makes t h) (makes t h).next (free_making t h (free_is d.disk.bytes.items c.refused))
      (whole_under crash t (makes t h) refl (λ by some. let s : IsStopping by.after 0 d = subst (λ (x : Option Crash). StopsBy x 0 d) some stopping in
      (disk_plans.stops_where_listed 0 by.after ((by.after + 1) ∷ []) calls (Ok tt) old new s.disk (ap length s.trace) refl on c.trace).0))
      (record {
        at = record {
          fields = sym (pass.fields ∙ ap (λ (b : List ℕ). record t { bytes = b }) c.made);
          none_fails = pass.none_fails;
        };
        text = ap (λ (x : Answered). x.text) reply;
        refused = ap (λ (x : Answered). x.refused) reply;
        faults = (let f = pass.faults in omega (arith, f, of_disk));
      })

  pub was_taken : (fail : SegmentFail) → result ≡ Err fail → fail ≡ fails.AlreadyThere → WillPass later u → answered ≡ refusal (codes "AlreadyThere") → IsMade crash
  was_taken fail is taken pass reply =
      let c = created (Err fails.AlreadyThere) (is ∙ ap (λ (f : SegmentFail). Err f) taken) in
      let same = c.kept c.refused in
      let of_disk : disk.faults ≡ d.disk.faults = disk_quiet.no_change old new on (sure_by crash d stopping) same.trace in
      by_act crash (quiet (refuses t (codes "AlreadyThere"))) (refuses t (codes "AlreadyThere")) (taken_making t h (taken_is d.disk.bytes.items c.refused)) (whole_under crash t (quiet (refuses t (codes "AlreadyThere"))) refl (λ by some. omega arith))
      (record {
        at = record {
          fields = sym (pass.fields ∙ fields_stay d d.world disk d.notary (same_Some disk.bytes.items d.disk.bytes.items same.reads) (record { lists = refl; limits = refl; faults = refl }));
          none_fails = pass.none_fails;
        };
        text = ap (λ (x : Answered). x.text) reply;
        refused = ap (λ (x : Answered). x.refused) reply;
        faults = (let f = pass.faults in omega (arith, f, of_disk));
      })

  module _ (is : result ≡ Err fails.DiskFault) (by : Crash) (s : IsStopping by.after 0 d) (restarted : IsRestarted by.choice later u) (reply : answered ≡ said (codes "crashed")) where
    c : Creates is_segment_head store_shape (spell_head h) (Err journals.DiskFault) old new d.disk.bytes.items disk.bytes.items
    c = created (Err fails.DiskFault) is

    moved : new.trace ≡ old.trace → ⊥
    moved same = no_cause fails.DiskFault d.disk.faults disk.faults result (disk_quiet.no_change old new on s.disk_sure same) (omega (arith, few)) cause is

    free : IsFree d.disk.bytes.items
    free = elim (free_or_taken d.disk.bytes.items) [ inl yes_free ↦ yes_free | inr taken ↦ absurd (moved (c.kept taken).trace) ]

    one_of : (new.trace ≡ old.trace) ⊎ MakesCalls calls (Err disk_fails.Failed) old new → FailedOne is_done has_failed by.after calls old.trace new.trace
    one_of (inl same) = absurd (moved same)
    one_of (inr made) = failed_one is_done has_failed by.after calls old.trace new.trace (disk_plans.stops_where_listed 0 by.after ((by.after + 1) ∷ []) calls (Err disk_fails.Failed) old new s.disk (ap length s.trace) refl on made)

    one : FailedOne is_done has_failed by.after calls old.trace new.trace
    one = one_of c.trace

    abbrev made_calls : List disks.Call
    made_calls = take by.after calls

    origin_is : disk_memory.origin_of disk ≡ d.disk.bytes.items
    origin_is = same_Some (disk_memory.origin_of disk) (disk_memory.origin_of d.disk) on.origin ∙ sym (d.disk.replayed ∙ ap (bytes_after (disk_memory.origin_of d.disk)) s.trace)

    bytes_are : disk_memory.image_after by.choice disk ≡ image_of by.choice t.bytes (after_calls is_done made_calls [])
    bytes_are =
        ap (λ (f : List ℕ). image_of by.choice f new.trace) origin_is
        ∙ ap (image_of by.choice t.bytes) (one.is ∙ ap (λ (l : List (disks.Call × Bool)). has_failed one.call ∷ after_calls is_done (take by.after calls) l) s.trace)
        ∙ failed_nothing by.choice t.bytes one.call (after_calls is_done (take by.after calls) [])

    stopped_fields : bare_of u ≡ stopped t by (makes t h)
    stopped_fields =
        restarted.fields
        ∙ ap (λ (b : List ℕ). record t { bytes = b }) bytes_are
        ∙ ap (λ (l : List notaries.Call). record t { bytes = image_of by.choice t.bytes (after_calls is_done made_calls []); lists = with_calls l t.lists }) (sym (take_none (by.after - 6)))

    was_stopped_by : IsMade (Some by)
    was_stopped_by =
        let less : by.after < 6 = one.more in
        let many : nat_le 6 by.after ≡ false = grind (arith, nat_tests, less) in
        let count : count_by disks.is_failed new.trace ≡ 1 + count_by disks.is_failed old.trace =
        ap (count_by disks.is_failed) one.is
        ∙ one_failed disks.is_failed (has_failed one.call) (after_calls is_done (take by.after calls) old.trace) refl
        ∙ ap (λ (n : ℕ). 1 + n) (all_passed disks.is_failed is_done (λ call. refl) (take by.after calls) old.trace) in
        let rises = on.quiet s.disk_sure in
        by_act (Some by) (makes t h) (crashed (stopped t by (makes t h))) (free_making t h (free_is d.disk.bytes.items free)) (under_stopped t by (makes t h) many)
        (record {
          at = record { fields = sym stopped_fields; none_fails = restarted.none_fails };
          text = ap (λ (x : Answered). x.text) reply;
          refused = ap (λ (x : Answered). x.refused) reply;
          faults = (let f = restarted.faults in omega (arith, f, count, rises));
        })

  pub was_stopped : (fail : SegmentFail) → result ≡ Err fail → fail ≡ fails.DiskFault → IsRestartedBy crash later u → answered ≡ said (codes "crashed") → IsMade crash
  was_stopped fail is of_disk restarted reply = by crash stopping restarted
    where
      by : (c : Option Crash) → StopsBy c 0 d → IsRestartedBy c later u → IsMade c
      by None none restarted_by = absurd restarted_by
      by (Some c) s restarted_by = was_stopped_by (is ∙ ap (λ (f : SegmentFail). Err f) of_disk) c s restarted_by reply

-- ---- an `init` line

init_is_late : (t : Scene) (h : Header) → max_moment < t.clock → inits t h ≡ quiet (refuses t (codes "TooLate"))
init_is_late t h late = let e : nat_lt max_moment t.clock ≡ true = grind (arith, nat_tests, late) in rw e refl

init_is_early : (t : Scene) (h : Header) → t.clock ≤ max_moment → inits t h ≡ making t h
init_is_early t h early = let e : nat_lt max_moment t.clock ≡ false = grind (arith, nat_tests, early) in rw e refl

module _ (d : Drill) (crash : Option Crash) (h : Header) (answered : Answered) where
  abbrev Inits : Drill → Type 0
  Inits u = Follows IsLeft (under crash (bare_of d) (inits (bare_of d) h)) answered d u

  -- the clock comes before the device
  pub late_left : NoneFails d → max_moment < d.clock → answered ≡ refusal (codes "TooLate") → Inits d
  late_left none late is = next_on answered d d IsLeft (refuses (bare_of d) (codes "TooLate")) (under crash (bare_of d) (inits (bare_of d) h))
      (ap (under crash (bare_of d)) (init_is_late (bare_of d) h late) ∙ whole_under crash (bare_of d) (quiet (refuses (bare_of d) (codes "TooLate"))) refl (λ by some. omega arith))
      (record {
        at = record { fields = refl; none_fails = none };
        text = ap (λ (x : Answered). x.text) is;
        refused = ap (λ (x : Answered). x.refused) is;
        faults = omega arith;
      })

  -- listed failures change nothing that is held
  pub made_left : (mid u : Drill) → d.clock ≤ max_moment → WillStop crash 0 d mid → Follows IsLeft (under crash (bare_of mid) (making (bare_of mid) h)) answered mid u → Inits u
  made_left mid u early will f =
      let same = will.fields in
      let on : Follows IsLeft (under crash (bare_of d) (making (bare_of d) h)) answered mid u = subst (λ (s : Scene). Follows IsLeft (under crash s (making s h)) answered mid u) same f in
      next_on answered d u IsLeft (under crash (bare_of d) (making (bare_of d) h)) (under crash (bare_of d) (inits (bare_of d) h)) (ap (under crash (bare_of d)) (init_is_early (bare_of d) h early))
      (record { at = on.at; text = on.text; refused = on.refused; faults = (let g = on.faults in let fewer = will.faults in omega (arith, g, fewer)) })

module _ (d : Drill) (id width k algs : ℕ) (crash : Option Crash) (t : Scene) (at : IsAt t d) where
  -- the id comes before all else
  abbrev named : Drill
  named = record { alloc = d.alloc; id = Some id; world = d.world; disk = d.disk; notary = d.notary; clock = d.clock; crash = d.crash }

  pub none_named : NoneFails named
  none_named = same_plans d (Some id) d.clock d.crash at.left.none_fails

  abbrev brought : Scene → Act
  brought s = inits s (header_at id s.clock width k algs)

  abbrev renamed : Scene
  renamed = record (entered_anew t) { id = Some id }

  renamed_is : renamed ≡ bare_of named
  renamed_is = ap (λ (s : Scene). record s { id = Some id }) at.left.fields

  -- a stop goes by the bytes and the lists alone
  same_stop : (c : Option Crash) (a : Act) → under c t a ≡ under c renamed a
  same_stop None a = refl
  same_stop (Some c) a = refl

  pub init_entered : (answered : Answered) (mid later : Drill) → Follows IsLeft (under crash (bare_of named) (brought (bare_of named))) answered named mid → EntersAnew mid later
      → Follows (IsBehind crash) (under crash t (brings t (events.Init id width k algs))) answered d later
  init_entered answered mid later f enters =
      let g : Follows IsLeft (under crash renamed (brought renamed)) answered named mid = subst (λ (s : Scene). Follows IsLeft (under crash s (brought s)) answered named mid) (sym renamed_is) f in
      next_on answered d later (IsBehind crash) (under crash renamed (brought renamed)) (under crash t (brings t (events.Init id width k algs))) (same_stop crash (brought renamed))
      (entered_behind (under crash renamed (brought renamed)) answered d mid later (record { at = g.at; text = g.text; refused = g.refused; faults = g.faults }) enters crash)
