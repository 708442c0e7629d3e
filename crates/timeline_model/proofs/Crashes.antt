-- What an event leaves under a crash, from its single laws.
use Rattle.std.proofs.Common.{◌≡◌, inl, inr, ℕ, ◌-◌, ◌<◌, ◌≤◌, Bool, true, false, List, [], ◌∷◌, ◌++◌, length, take, Option, Some, None, Result, Ok, refl, sym, ap, subst, ◌∙◌, arith}
use Rattle.std.specs.Prelude.{nat_le, if◌then◌else◌, IfSome}
use Rattle.std.proofs.lemmas.Bool.{le-leb, leb-true, leb-false}
use Rattle.std.proofs.lemmas.Nat.{mul-le}
use Rattle.std.proofs.lemmas.List.{take_all}
use Rattle.outside_words.specs.Runs.{after_calls}
use Rattle.disk_words.specs.Disk as disks
use Rattle.disk_words.specs.Record.{image_of}
use Rattle.disk_model.specs.Moments.{is_done}
use Rattle.tuple_bytes.specs.declared.item.Item.{Item}
use Rattle.history_model.specs.Stored.{stored}
use Rattle.history_model.specs.History.{History}
use Rattle.digest_model.specs.Layout.{layout, first_granule}
use Rattle.notary_link.specs.declared.notary.NotaryLimits.{NotaryLimits}
use Rattle.notary_link.specs.Notary.{Lists}
use Rattle.stmt_text.specs.declared.error.ParseFail.{ParseFail}
use Rattle.stmt_text.specs.declared.event.Event.TheVariants as events
use Rattle.stmt_text.specs.declared.line.Line.{Line}
use Rattle.stmt_text.specs.declared.line.Line.TheVariants as lines
use Rattle.store_world.specs.Laws.{HoldsFiled}
use Rattle.timeline_model.specs.Scene.{Scene, Crash, nothing_yet, held, batches_of}
use Rattle.timeline_model.specs.Lines.{Act, header_at}
use Rattle.timeline_model.specs.Timeline.{Event, calls_in, stopped, crashed, crashed_behind, with_calls, under, without_crash, act_on, step, after, IsTimeline, MayCome}
use Rattle.timeline_model.specs.Sound.{stored_by, IsFromInside, AllFromInside}
use Rattle.timeline_model.specs.Acknowledged.{IsAcknowledged, IsStoredAs}
use Rattle.timeline_model.specs.Stepping.{IsWhole}
use Rattle.timeline_model.specs.Crashes.{LeavesHalfMade, WasAdded, made_under, calls_made, LeavesOnly, WholeLinesAreDurable, HasReached, SurvivesCrashes, CrashesAreSurvived}
use Rattle.timeline_model.proofs.Events.{found_without_crash, fit_after, nothing_fit}
use Rattle.timeline_model.proofs.Sessions.{IsFit}
use Rattle.timeline_model.proofs.StayBytes.{still_fit}
use Rattle.timeline_model.proofs.Sound.{SoundEither}
use Rattle.timeline_model.proofs.SoundLines.{reading_sound, event_good, stay_sound, keep_items, next_tells}
use Rattle.timeline_model.proofs.Inits.{inits_half}
use Rattle.timeline_model.proofs.Acknowledging.{stays_stored}
use Rattle.digest_model.proofs.Layouts.{ascends}

-- ---- a line that is not stopped

-- behind all its calls nothing is on its way
module _ (more : List Item) (t : Scene) (a : Act) (sound : SoundEither more t a) where
  lasts_behind : (crash : Crash) → calls_in a ≤ crash.after → LeavesOnly t.bytes (take crash.after a.disk_calls) (crashed_behind a.next).scene.bytes
  lasts_behind crash passes choice =
      let all : take crash.after a.disk_calls ≡ a.disk_calls = take_all crash.after a.disk_calls (omega (arith, passes)) in
      ap (λ (calls : List disks.Call). image_of choice t.bytes (after_calls is_done calls [])) all ∙ sound.lasts choice

  whole_lasts : (crash : Option Crash) → IfSome crash (λ c. calls_in a ≤ c.after) → LeavesOnly t.bytes (made_under crash a) (under crash t a).scene.bytes
  whole_lasts None passes = sound.lasts
  whole_lasts (Some crash) passes = (let enough : nat_le (calls_in a) crash.after ≡ true = le-leb (calls_in a) crash.after passes in rw enough (lasts_behind crash passes))

whole_event : (t : Scene) (e : Event) → IsFit t → MayCome t e → IsFromInside e.line → IsWhole t e → LeavesOnly t.bytes (calls_made t e) (step t e.line e.found).scene.bytes
unfolding step
whole_event t e fits may inside passes =
    whole_lasts (stored_by t.id (without_crash t) e.line e.found) (without_crash t) (act_on (without_crash t) e.line e.found) (reading_sound (without_crash t) e.line e.found may.line inside may.fits (found_without_crash t.id t e.line e.found may.found) (still_fit t fits)) t.crash passes

pub whole_durable : WholeLinesAreDurable
unfolding after
whole_durable limits e es is inside passes = whole_event (after (nothing_yet limits) es) e (fit_after (nothing_yet limits) es (nothing_fit limits) is.0) is.1 inside passes

-- ---- a batch more

-- it is filed behind all calls of the disk
module _ (more : List Item) (t : Scene) (a : Act) (sound : SoundEither more t a) (id index : ℕ) (old : length (batches_of t id) ≤ index) where
  durable_part : (crash : Crash) → index < length (batches_of (stopped t crash a) id) → LeavesOnly t.bytes (take crash.after a.disk_calls) (stopped t crash a).bytes
  durable_part crash new = by (nat_le crash.after (length a.disk_calls)) refl
    where
      by : (early : Bool) → nat_le crash.after (length a.disk_calls) ≡ early → LeavesOnly t.bytes (take crash.after a.disk_calls) (stopped t crash a).bytes
      by true early =
          let le : crash.after ≤ length a.disk_calls = leb-true crash.after (length a.disk_calls) early in
          let no_call : crash.after - length a.disk_calls ≡ 0 = omega (arith, le) in
          let same : (stopped t crash a).lists ≡ t.lists = ap (λ (n : ℕ). with_calls (take n a.notary_calls) t.lists) no_call in
          absurd (let count = ap (λ (l : Lists). length (l.batches id)) same in omega (arith, count, new, old))
      by false late = λ choice.
          let past : length a.disk_calls < crash.after = leb-false crash.after (length a.disk_calls) late in
          let all : take crash.after a.disk_calls ≡ a.disk_calls = take_all crash.after a.disk_calls (omega (arith, past)) in
          let behind : (any : ℕ) → image_of any t.bytes (after_calls is_done (take crash.after a.disk_calls) []) ≡ a.next.scene.bytes =
          λ any. ap (λ (calls : List disks.Call). image_of any t.bytes (after_calls is_done calls [])) all ∙ sound.lasts any in
          behind choice ∙ sym (behind crash.choice)

  durable : (crash : Option Crash) → index < length (batches_of (under crash t a).scene id) → LeavesOnly t.bytes (made_under crash a) (under crash t a).scene.bytes
  durable None new = sound.lasts
  durable (Some crash) new = by (nat_le (calls_in a) crash.after) refl new
    where
      by : (b : Bool) → nat_le (calls_in a) crash.after ≡ b → index < length (batches_of (if b then crashed_behind a.next else crashed (stopped t crash a)).scene id) → LeavesOnly t.bytes (take crash.after a.disk_calls) (if b then crashed_behind a.next else crashed (stopped t crash a)).scene.bytes
      by true enough new = lasts_behind more t a sound crash (leb-true (calls_in a) crash.after enough)
      by false few new = durable_part crash new

durable_event : (t : Scene) (e : Event) → IsFit t → MayCome t e → IsFromInside e.line → (id index : ℕ) → WasAdded id index t (step t e.line e.found).scene → LeavesOnly t.bytes (calls_made t e) (step t e.line e.found).scene.bytes
unfolding step
durable_event t e fits may inside id index added =
    durable (stored_by t.id (without_crash t) e.line e.found) (without_crash t) (act_on (without_crash t) e.line e.found) (reading_sound (without_crash t) e.line e.found may.line inside may.fits (found_without_crash t.id t e.line e.found may.found) (still_fit t fits)) id index added.new t.crash added.filed

-- the store that is filed has reached the end of each tile
reached_by : (was : Scene) (e : Event) (is : Scene) (id index : ℕ) → LeavesOnly was.bytes (calls_made was e) is.bytes → index < length (batches_of is id) → (o : Option History) → held is ≡ o → HoldsFiled (batches_of is id) id o → HasReached index was e is
reached_by was e is id index lasts new o held_is (inl none) = absurd (let count = ap length none in omega (arith, count, new))
reached_by was e is id index lasts new None held_is (inr known) = absurd known.2
reached_by was e is id index lasts new (Some store) held_is (inr known) = record {
  store = store;
  held_is = held_is;
  reached =
      let count = known.1 in
      let below : index ≤ known.0 = omega (arith, count, new) in
      let granules = ascends (layout store) index known.0 below in
      let moments = mul-le (first_granule (layout store) index) store.header.width (first_granule (layout store) known.0) store.header.width granules (omega arith) in
      let reached = known.2.reached in
      omega (arith, moments, reached);
  durably = lasts;
}

-- ---- an event

module _ (limits : NotaryLimits) (e : Event) (es : List Event) (is : IsTimeline (nothing_yet limits) (e ∷ es)) (inside : AllFromInside (e ∷ es)) where
  abbrev t : Scene
  t = nothing_yet limits

  sound : (id : ℕ) → HoldsFiled (batches_of (after t (e ∷ es)) id) id (held (after t (e ∷ es)))
  sound id = stay_sound limits (e ∷ es) id is inside

  batches : (id index : ℕ) → WasAdded id index (after t es) (after t (e ∷ es)) → HasReached index (after t es) e (after t (e ∷ es))
  unfolding after
  batches id index added =
      reached_by (after t es) e (after t (e ∷ es)) id index
      (durable_event (after t es) e (fit_after t es (nothing_fit limits) is.0) is.1 inside.1 id index added)
      added.filed (held (after t (e ∷ es))) refl (sound id)

  init : (id width k algs : ℕ) → e.line ≡ Ok (lines.Drill (events.Init id width k algs)) → LeavesHalfMade (header_at id (after t es).clock width k algs) (after t es).bytes (after t (e ∷ es)).bytes
  unfolding after
  init id width k algs line_is =
      subst (λ (l : Result Line ParseFail). LeavesHalfMade (header_at id (after t es).clock width k algs) (after t es).bytes (step (after t es) l e.found).scene.bytes) (sym line_is)
      (inits_half (after t es) id width k algs e.found)

  bare : held (after t es) ≡ None → (stored (after t (e ∷ es)).bytes).items ≡ []
  unfolding after
  bare = (event_good (after t es) e (fit_after t es (nothing_fit limits) is.0) is.1 inside.1).bare

  -- the later events are from inside, as all are
  acknowledged : (later before : List Event) (past : Event) (number : ℕ) → e ∷ es ≡ later ++ past ∷ before → IsAcknowledged (after t before) past number → IsStoredAs (after t before) past number (after t (e ∷ es))
  acknowledged later before past number parts told =
      subst (λ (all : List Event). IsStoredAs (after t before) past number (after t all)) (sym parts)
      (stays_stored limits later past before number (subst (IsTimeline t) parts is) (front_inside later (past ∷ before) (subst AllFromInside parts inside)) told)
    where
      front_inside : (front back : List Event) → AllFromInside (front ++ back) → AllFromInside front
      front_inside [] back all = tt
      front_inside (x ∷ front) back all = (front_inside front back all.0, all.1)

  survives : SurvivesCrashes t e es
  survives = record {
    sound = sound;
    items = λ h some. keep_items limits e es h is inside.1 some;
    bare = bare;
    acknowledged = acknowledged;
    batches = batches;
    init = init;
    next = λ id line found may. next_tells limits (e ∷ es) id line found is inside may;
  }

pub survived : CrashesAreSurvived
survived limits e es is inside = survives limits e es is inside
