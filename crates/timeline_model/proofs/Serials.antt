-- The sessions of a drill are serial.
use Rattle.std.proofs.Common.{◌≡◌, inl, inr, ℕ, ◌+◌, Bool, true, false, List, [], ◌∷◌, length, Option, Some, None, IfSome, Result, Ok, Err, refl, sym, ap, subst, ◌∙◌}
use Rattle.std.specs.Prelude.{nat_le, nat_lt, take, if◌then◌else◌, codes, option_map}
use Rattle.std.proofs.lemmas.Option.{same_Some}
use Rattle.disk_words.specs.Disk.{written}
use Rattle.tuple_bytes.specs.declared.header.Header.{Header}
use Rattle.tuple_bytes.specs.Limits.{max_moment}
use Rattle.history_model.specs.History.{history}
use Rattle.digest_model.specs.Layout.{layout}
use Rattle.txn_journal.specs.Create.{is_free}
use Rattle.notary_link.specs.declared.notary.NotaryLimits.{NotaryLimits}
use Rattle.stmt_text.specs.declared.error.ParseFail.{ParseFail}
use Rattle.stmt_text.specs.declared.event.Event.TheVariants as events
use Rattle.stmt_text.specs.declared.event.Event as drills
use Rattle.stmt_text.specs.declared.stmt.Stmt.{Stmt}
use Rattle.stmt_text.specs.declared.stmt.Stmt.TheVariants as stmts
use Rattle.stmt_text.specs.declared.line.Line.{Line}
use Rattle.stmt_text.specs.declared.line.Line.TheVariants as lines
use Rattle.stmt_text.specs.Fits.{FitsParts}
use Rattle.statement_core.specs.Database as statements
use Rattle.statement_core.specs.Replies.{reply_text}
use Rattle.validator.specs.declared.fail.AuditFail.{AuditFail}
use Rattle.validator.specs.Notarizing.{Heard, frontier_for}
use Rattle.validator.proofs.Growing.{need_follows}
use Rattle.session_model.specs.Service as sessions
use Rattle.session_model.specs.Service.{Session}
use Rattle.session_model.specs.Serial.{IsSerialAt}
use Rattle.session_model.specs.Steps.{reply_of}
use Rattle.session_model.specs.Steps as session_steps
use Rattle.session_model.specs.Later.{IsLater}
use Rattle.session_model.specs.Runs.{Logs, no_logs}
use Rattle.session_model.proofs.Later.{later_same, later_frontier, later_policy}
use Rattle.session_model.proofs.Serials.{AreHeld, line_goes, all_later}
use Rattle.store_world.specs.Found.{Found}
use Rattle.store_world.specs.World as worlds
use Rattle.store_world.specs.World.{no_sessions}
use Rattle.store_world.specs.Steps as world_steps
use Rattle.store_world.specs.Finding.{MayFind}
use Rattle.store_world.specs.Steps.{reached, notarized, unless, turn_in, turns_world, turned, validated, has_more, piece_audited, on_tables, algorithm_of}
use Rattle.store_world.proofs.Acknowledging.{by_line}
use Rattle.store_world.proofs.Analysing.{analysed_stays}
use Rattle.timeline_model.specs.Scene.{Scene, Crash, nothing_yet, entered_anew, sessions_over, store_in, world_with, world_of}
use Rattle.timeline_model.specs.Lines.{Act, quiet, says, refuses, over_store, header_at, makes, inits, altered, shortened, brings, act}
use Rattle.timeline_model.specs.Timeline.{Event, calls_in, stopped, crashed, crashed_behind, under, without_crash, act_on, step, after, FitsReading, MayBeFound, IsTimeline, MayCome}
use Rattle.timeline_model.specs.Stepping.{IsWhole}
use Rattle.timeline_model.specs.Sessions.{begun_under, begun_in, told_more, told_under, told, SessionsAreSerial}
use Rattle.timeline_model.proofs.Events.{found_without_crash, fit_after, nothing_fit}
use Rattle.timeline_model.proofs.Sessions.{IsFit, notarized_rest, validated_rest, audited_rest}
use Rattle.store_world.proofs.Validating.{with_validated, with_audit}
use Rattle.timeline_model.proofs.Statements.{with_begun, notarized_store, step_stores}
use Rattle.timeline_model.proofs.StayBytes.{still_fit}
use Rattle.timeline_model.proofs.Stepping.{read_by, take_step}

-- what is kept of sessions over a store, where there is one
abbrev pub HeldIn : Option sessions.Service → Logs → Type 0
HeldIn o logs = IfSome o (λ w. AreHeld w logs)

-- ---- the step of a world

abbrev store_of : worlds.World → Option sessions.Service
store_of w = option_map (with_begun w) w.store

-- a line of neither kind tells no session anything
told_plain : (o : Option sessions.Service) (stmt : Stmt) (now : ℕ) (logs : Logs) → told_more logs o (Ok (lines.Plain stmt)) now ≡ logs
told_plain None stmt now logs = refl
told_plain (Some w) stmt now logs = refl

told_drill : (o : Option sessions.Service) (event : drills.Event) (now : ℕ) (logs : Logs) → told_more logs o (Ok (lines.Drill event)) now ≡ logs
told_drill None event now logs = refl
told_drill (Some w) event now logs = refl

told_none : (o : Option sessions.Service) (fail : ParseFail) (now : ℕ) (logs : Logs) → told_more logs o (Err fail) now ≡ logs
told_none None fail now logs = refl
told_none (Some w) fail now logs = refl

module _ (w : worlds.World) (now : ℕ) (logs : Logs) where
  tables_held : (o : Option statements.Database) → w.store ≡ o → (line : Line) → HeldIn (option_map (with_begun w) o) logs → HeldIn (store_of (on_tables w o line now).world) (told_more logs (option_map (with_begun w) o) (Ok line) now)
  tables_held None is line held = subst (λ (x : Option statements.Database). HeldIn (option_map (with_begun w) x) logs) (sym is) tt
  tables_held (Some store) is line held = (line_goes (with_begun w store) logs held line now).1

  -- the store goes on, and the sessions stay
  goes_on : (store later : statements.Database) (new : worlds.World) → IsLater store later → new.store ≡ Some later → new.sessions ≡ w.sessions → AreHeld (with_begun w store) logs → HeldIn (store_of new) logs
  goes_on store later new more store_is same held =
      subst (λ (x : Option statements.Database). HeldIn (option_map (with_begun new) x) logs) (sym store_is)
      (subst (λ (begun : ℕ → Option Session). AreHeld (record { store = later; sessions = begun }) logs) (sym same) (all_later (with_begun w store) logs held later more))

  stays_held : (new : worlds.World) → new.store ≡ w.store → new.sessions ≡ w.sessions → HeldIn (store_of w) logs → HeldIn (store_of new) logs
  stays_held new store_is same held =
      subst (λ (x : Option statements.Database). HeldIn (option_map (with_begun new) x) logs) (sym store_is)
      (subst (λ (begun : ℕ → Option Session). HeldIn (option_map (λ store. record { store = store; sessions = begun }) w.store) logs) (sym same) held)

  notarized_held : (heard : Heard) (refusal : Option AuditFail) (o : Option statements.Database) → w.store ≡ o → HeldIn (store_of w) logs → HeldIn (store_of (notarized w o now heard refusal).world) logs
  notarized_held heard refusal None is held = held
  notarized_held heard refusal (Some store) is held = elim (notarized_store w store now heard refusal) [
    | inl same ↦ stays_held (notarized w (Some store) now heard refusal).world same (notarized_rest w (Some store) is now heard refusal).sessions held
    | inr gets ↦ goes_on store (reached need store) (notarized w (Some store) now heard refusal).world (later need refl) gets.is (notarized_rest w (Some store) is now heard refusal).sessions
        (subst (λ (x : Option statements.Database). HeldIn (option_map (with_begun w) x) logs) is held)
  ]
    where
      need : Option ℕ
      need = frontier_for (layout (history store.header store.items)) (statements.tail_of_database store) now heard.count

      later : (o : Option ℕ) → frontier_for (layout (history store.header store.items)) (statements.tail_of_database store) now heard.count ≡ o → IsLater store (reached o store)
      later None e = later_same store
      later (Some moment) e = later_frontier store moment (need_follows (layout (history store.header store.items)) (statements.tail_of_database store) store.items refl now heard.count moment e)

  turned_held : (heard : Heard) (k algs : ℕ) (o : Option statements.Database) → w.store ≡ o → HeldIn (store_of w) logs → HeldIn (store_of (turned w o heard k algs).world) logs
  turned_held heard k algs None is held = held
  turned_held heard k algs (Some store) is held = by (turn_in store heard k algs).fault
    where
      by : (fault : Option AuditFail) → HeldIn (store_of (unless fault w (turns_world w store (turn_in store heard k algs))).world) logs
      by (Some fail) = held
      by None = goes_on store (statements.with_item store (turn_in store heard k algs).item) (turns_world w store (turn_in store heard k algs)).world (later_policy store _ _ k algs) refl refl
          (subst (λ (x : Option statements.Database). HeldIn (option_map (with_begun w) x) logs) is held)

  plain_held : (stmt : Stmt) (new : worlds.World) → HeldIn (store_of new) logs → HeldIn (store_of new) (told_more logs (store_of w) (Ok (lines.Plain stmt)) now)
  plain_held stmt new held = subst (HeldIn (store_of new)) (sym (told_plain (store_of w) stmt now logs)) held

  step_held : (line : Line) (found : Found) → HeldIn (store_of w) logs → HeldIn (store_of (world_steps.step w line now found).world) (told_more logs (store_of w) (Ok line) now)
  step_held line found held = by_line (λ line s. HeldIn (store_of s.world) (told_more logs (store_of w) (Ok line) now)) w line now found (λ line. tables_held w.store refl line held)
      (plain_held stmts.Notarize (notarized w w.store now found.heard found.refusal).world (notarized_held found.heard found.refusal w.store refl held))
      (λ k algs. plain_held (stmts.Policy k algs) (turned w w.store found.heard k algs).world (turned_held found.heard k algs w.store refl held))
      (plain_held stmts.Validate (validated w now found.verdict found.refusal).world (stays_held (validated w now found.verdict found.refusal).world (with_validated w now found.verdict found.refusal).same.store (validated_rest w w.audited now found.verdict found.refusal).sessions held))
      (plain_held stmts.Audit (piece_audited (has_more w) w now found.verdict found.refusal).world (stays_held (piece_audited (has_more w) w now found.verdict found.refusal).world (with_audit (has_more w) w now found.verdict found.refusal).same.store (audited_rest (has_more w) w now found.verdict found.refusal).sessions held))
      (λ algorithm era. plain_held (stmts.Analyse algorithm era) (world_steps.analysed w (algorithm_of algorithm) found.analysis found.body).world
      (subst (λ (x : worlds.World). HeldIn (store_of x) logs) (sym (analysed_stays w (algorithm_of algorithm) found.analysis found.body)) held))

-- ---- a scene

-- the crash that is to come and the clock are no matter
crash_same : (id : Option ℕ) (t : Scene) (crash : Option Crash) → begun_under id (record t { crash = crash }) ≡ begun_under id t
crash_same None t crash = refl
crash_same (Some id) t crash = refl

clock_same : (id : Option ℕ) (t : Scene) (moment : ℕ) → begun_under id (record t { clock = moment }) ≡ begun_under id t
clock_same None t moment = refl
clock_same (Some id) t moment = refl

held_entered : (id : Option ℕ) (t : Scene) (logs : Logs) → HeldIn (begun_under id (entered_anew t)) logs
held_entered None t logs = tt
held_entered (Some id) t logs = by (store_in id t.bytes)
  where
    by : (o : Option statements.Database) → HeldIn (option_map (λ store. record { store = store; sessions = no_sessions }) o) logs
    by None = tt
    by (Some store) = λ k. tt

under_held : (t : Scene) (a : Act) (crash : Option Crash) (logs : Logs) → HeldIn (begun_in a.next.scene) logs → HeldIn (begun_in (under crash t a).scene) (told_under crash logs)
under_held t a None logs held = held
under_held t a (Some crash) logs held = by (nat_le (calls_in a) crash.after)
  where
    by : (b : Bool) → HeldIn (begun_in (if b then crashed_behind a.next else crashed (stopped t crash a)).scene) no_logs
    by true = held_entered a.next.scene.id a.next.scene no_logs
    by false = held_entered a.next.scene.id (stopped t crash a) no_logs

-- the world of a scene
same_store : (t : Scene) (id : ℕ) → store_of (world_of t id) ≡ begun_under (Some id) t
unfolding world_of
same_store t id = by (store_in id t.bytes)
  where
    by : (o : Option statements.Database) → option_map {U = sessions.Service} (λ store. record { store = store; sessions = sessions_over o t.sessions }) o ≡ option_map {U = sessions.Service} (λ store. record { store = store; sessions = t.sessions }) o
    by None = refl
    by (Some store) = refl

module _ (t : Scene) (fits : IsFit t) (logs : Logs) (held : HeldIn (begun_in t) logs) where
  with_id : (id : ℕ) (line : Line) (found : Found) → FitsParts line → MayFind (world_of t id) line t.clock found → HeldIn (begun_under (Some id) t) logs
      → HeldIn (begun_under (Some id) (over_store t (Some id) line found).next.scene) (told_more logs (begun_under (Some id) t) (Ok line) t.clock)
  with_id id line found parts may here =
      let s = world_steps.step (world_of t id) line t.clock found in
      let read = read_by id t line found fits parts may s.world.store (step_stores (world_of t id) line t.clock found) in
      subst (λ (x : Option statements.Database). HeldIn (option_map (λ store. record { store = store; sessions = s.world.sessions }) x) (told_more logs (begun_under (Some id) t) (Ok line) t.clock)) (sym read)
      (subst (λ (x : Option sessions.Service). HeldIn (store_of s.world) (told_more logs x (Ok line) t.clock)) (same_store t id)
      (step_held (world_of t id) t.clock logs line found (subst (λ (x : Option sessions.Service). HeldIn x logs) (sym (same_store t id)) here)))

  over_held : (o : Option ℕ) → t.id ≡ o → (line : Line) (found : Found) → FitsParts line → MayBeFound o t (Ok line) found → HeldIn (begun_under o t) logs
      → HeldIn (begun_under o (over_store t o line found).next.scene) (told_more logs (begun_under o t) (Ok line) t.clock)
  over_held None is line found parts may here = tt
  over_held (Some id) is line found parts may here = with_id id line found parts may here

  -- the drill's id stays
  same_id : (o : Option ℕ) (line : Line) (found : Found) → (over_store t o line found).next.scene.id ≡ t.id
  same_id None line found = refl
  same_id (Some id) line found = refl

  over : (line : Line) (found : Found) → FitsParts line → MayBeFound t.id t (Ok line) found → HeldIn (begun_in (over_store t t.id line found).next.scene) (told_more logs (begun_in t) (Ok line) t.clock)
  over line found parts may =
      subst (λ (o : Option ℕ). HeldIn (begun_under o (over_store t t.id line found).next.scene) (told_more logs (begun_in t) (Ok line) t.clock)) (sym (same_id t.id line found)) (over_held t.id refl line found parts may held)

  inits_held : (id : ℕ) (header : Header) → HeldIn (begun_in (inits (entered_anew (record t { id = Some id })) header).next.scene) logs
  inits_held id header = by (nat_lt max_moment t.clock) (is_free t.bytes)
    where
      by : (late free : Bool)
          → HeldIn (begun_in (if late then quiet (refuses (entered_anew (record t { id = Some id })) (codes "TooLate")) else if free then makes (entered_anew (record t { id = Some id })) header else quiet (refuses (entered_anew (record t { id = Some id })) (codes "AlreadyThere"))).next.scene) logs
      by true free = held_entered (Some id) t logs
      by false true = held_entered (Some id) (makes t header).next.scene logs
      by false false = held_entered (Some id) t logs

  altered_held : (place : ℕ) (bytes : List ℕ) → HeldIn (begun_in (altered t place bytes).scene) logs
  altered_held place bytes = by (nat_le (place + length bytes) (length t.bytes))
    where
      by : (b : Bool) → HeldIn (begun_in (if b then says (entered_anew (record t { bytes = written place bytes t.bytes })) (codes "ok") else refuses t (codes "NoPlace")).scene) logs
      by true = held_entered t.id (record t { bytes = written place bytes t.bytes }) logs
      by false = held

  shortened_held : (n : ℕ) → HeldIn (begun_in (shortened t n).scene) logs
  shortened_held n = by (nat_le n (length t.bytes))
    where
      by : (b : Bool) → HeldIn (begun_in (if b then says (entered_anew (record t { bytes = take n t.bytes })) (codes "ok") else refuses t (codes "NoPlace")).scene) logs
      by true = held_entered t.id (record t { bytes = take n t.bytes }) logs
      by false = held

  brings_held : (event : drills.Event) → HeldIn (begun_in (brings t event).next.scene) logs
  brings_held (events.Init id width k algs) = inits_held id (header_at id t.clock width k algs)
  brings_held (events.Crash after choice) = subst (λ (o : Option sessions.Service). HeldIn o logs) (sym (crash_same t.id t (Some (record { after = after; choice = choice })))) held
  brings_held (events.Alter place bytes) = altered_held place bytes
  brings_held (events.Cut n) = shortened_held n

  stmt_held : (stmt : Stmt) (found : Found) → FitsParts (lines.Plain stmt) → MayBeFound t.id t (Ok (lines.Plain stmt)) found → HeldIn (begun_in (act t (lines.Plain stmt) found).next.scene) (told_more logs (begun_in t) (Ok (lines.Plain stmt)) t.clock)
  unfolding act
  stmt_held (stmts.Now moment) found parts may =
      subst (λ (o : Option sessions.Service). HeldIn o (told_more logs (begun_in t) (Ok (lines.Plain (stmts.Now moment))) t.clock)) (sym (clock_same t.id t moment))
      (subst (HeldIn (begun_in t)) (sym (told_plain (begun_in t) (stmts.Now moment) t.clock logs)) held)
  stmt_held stmt found parts may = over (lines.Plain stmt) found parts may

  act_held : (line : Line) (found : Found) → FitsParts line → MayBeFound t.id t (Ok line) found → HeldIn (begun_in (act t line found).next.scene) (told_more logs (begun_in t) (Ok line) t.clock)
  unfolding act
  act_held (lines.Plain stmt) found parts may = stmt_held stmt found parts may
  act_held (lines.Drill event) found parts may = subst (HeldIn (begun_in (brings t event).next.scene)) (sym (told_drill (begun_in t) event t.clock logs)) (brings_held event)
  act_held (lines.InSession n stmt) found parts may = over (lines.InSession n stmt) found parts may
  act_held lines.Blank found parts may = over lines.Blank found parts may

  reading_held : (line : Result Line ParseFail) (found : Found) → FitsReading line → MayBeFound t.id t line found → HeldIn (begun_in (act_on t line found).next.scene) (told_more logs (begun_in t) line t.clock)
  reading_held (Ok line) found parts may = act_held line found parts may
  reading_held (Err fail) found parts may = subst (HeldIn (begun_in t)) (sym (told_none (begun_in t) fail t.clock logs)) held

-- ---- all events

event_held : (t : Scene) (e : Event) (logs : Logs) → IsFit t → MayCome t e → HeldIn (begun_in t) logs → HeldIn (begun_in (step t e.line e.found).scene) (told_under t.crash (told_more logs (begun_in t) e.line t.clock))
unfolding step
event_held t e logs fits may held =
    let same = crash_same t.id t None in
    under_held (without_crash t) (act_on (without_crash t) e.line e.found) t.crash (told_more logs (begun_in t) e.line t.clock)
    (subst (λ (o : Option sessions.Service). HeldIn (begun_in (act_on (without_crash t) e.line e.found).next.scene) (told_more logs o e.line t.clock)) same
    (reading_held (without_crash t) (still_fit t fits) logs (subst (λ (o : Option sessions.Service). HeldIn o logs) (sym same) held) e.line e.found may.fits (found_without_crash t.id t e.line e.found may.found)))

all_held : (t : Scene) (es : List Event) → IsFit t → HeldIn (begun_in t) no_logs → IsTimeline t es → HeldIn (begun_in (after t es)) (told t es)
unfolding after told
all_held t [] fits held is = held
all_held t (e ∷ es) fits held is = event_held (after t es) e (told t es) (fit_after t es fits is.0) is.1 (all_held t es fits held is.0)

-- ---- what is replied

replied_by : (t : Scene) (id n : ℕ) (stmt : Stmt) (found : Found) (w : sessions.Service) → begun_under (Some id) t ≡ Some w
    → (world_steps.step (world_of t id) (lines.InSession n stmt) t.clock found).text ≡ reply_text (reply_of (session_steps.serve w (lines.InSession n stmt) t.clock).answer)
unfolding world_of world_steps.step
replied_by t id n stmt found w is = by (store_in id t.bytes) is
  where
    by : (o : Option statements.Database) → option_map {U = sessions.Service} (λ store. record { store = store; sessions = t.sessions }) o ≡ Some w
        → (on_tables (world_with t id o) o (lines.InSession n stmt) t.clock).text ≡ reply_text (reply_of (session_steps.serve w (lines.InSession n stmt) t.clock).answer)
    by None is = absurd cc
    by (Some store) is = ap (λ (x : sessions.Service). reply_text (reply_of (session_steps.serve x (lines.InSession n stmt) t.clock).answer)) (same_Some (record { store = store; sessions = t.sessions }) w is)

are_replied : (limits : NotaryLimits) (e : Event) (es : List Event) (w : sessions.Service) (n : ℕ) (stmt : Stmt) → IsTimeline (nothing_yet limits) (e ∷ es) → begun_in (after (nothing_yet limits) es) ≡ Some w
    → e.line ≡ Ok (lines.InSession n stmt) → IsWhole (after (nothing_yet limits) es) e
    → (step (after (nothing_yet limits) es) e.line e.found).text ≡ reply_text (reply_of (session_steps.serve w (lines.InSession n stmt) (after (nothing_yet limits) es).clock).answer)
are_replied limits e es w n stmt is begun line_is passes = by (after (nothing_yet limits) es).id refl begun
  where
    by : (o : Option ℕ) → (after (nothing_yet limits) es).id ≡ o → begun_under o (after (nothing_yet limits) es) ≡ Some w
        → (step (after (nothing_yet limits) es) e.line e.found).text ≡ reply_text (reply_of (session_steps.serve w (lines.InSession n stmt) (after (nothing_yet limits) es).clock).answer)
    by None own begun = absurd cc
    by (Some id) own begun = (take_step limits e es id (lines.InSession n stmt) is own line_is tt passes).text ∙ replied_by (after (nothing_yet limits) es) id n stmt e.found w begun

serial : (limits : NotaryLimits) (es : List Event) (w : sessions.Service) (line : Line) → IsTimeline (nothing_yet limits) es → begun_in (after (nothing_yet limits) es) ≡ Some w
    → IsSerialAt w (told (nothing_yet limits) es) line (session_steps.serve w line (after (nothing_yet limits) es).clock).answer
serial limits es w line is begun =
    let all = all_held (nothing_yet limits) es (nothing_fit limits) tt is in
    (line_goes w (told (nothing_yet limits) es) (subst (λ (o : Option sessions.Service). HeldIn o (told (nothing_yet limits) es)) begun all) line (after (nothing_yet limits) es).clock).0

pub are_serial : SessionsAreSerial
are_serial = record { serial = serial; replied = are_replied }
