-- A line of the world that nothing stops: the drill stands for the scene that follows.
use Rattle.std.proofs.Common.{arith, ◌≡◌, inl, inr, ℕ, ◌<◌, Bool, List, [], ◌∷◌, length, Option, Some, None, Result, Ok, refl, sym, ap, subst, ◌∙◌}
use Rattle.std.specs.Prelude.{codes}
use Rattle.std.proofs.lemmas.Option.{same_Some}
use Rattle.outside_words.specs.Runs.{after_calls}
use Rattle.disk_words.specs.Disk as disks
use Rattle.disk_words.specs.Record.{bytes_after}
use Rattle.disk_model.specs.Moments.{is_done}
use Rattle.disk_model.specs.declared.memory.MemDisk.{MemDisk}
use Rattle.disk_model.specs.Calls as disk_traces
use Rattle.disk_model.specs.Memory as disk_memory
use Rattle.tuple_bytes.specs.declared.item.Item.{Item}
use Rattle.tuple_bytes.specs.declared.item.Item.TheVariants as items
use Rattle.history_model.specs.History.{History}
use Rattle.notary_link.specs.declared.notary.NotaryLimits.{NotaryLimits}
use Rattle.notary_link.specs.Notary as notaries
use Rattle.notary_link.specs.declared.memory.MemNotary.{MemNotary}
use Rattle.notary_link.specs.Calls.{lists_of}
use Rattle.notary_link.specs.Memory as notary_memory
use Rattle.stmt_text.specs.declared.line.Line.{Line}
use Rattle.stmt_text.specs.Fits.{FitsParts}
use Rattle.store_engine.specs.Appended.{standing}
use Rattle.store_engine.proofs.Appended.{gate_inside}
use Rattle.statement_core.specs.Database as statements
use Rattle.session_model.specs.Service.{Session}
use Rattle.validator.specs.Desk.{Desk, desk}
use Rattle.store_world.specs.declared.answered.Answered.{Answered}
use Rattle.store_world.specs.declared.fail.LineFail.{LineFail}
use Rattle.store_world.specs.Answers.{refusal}
use Rattle.store_world.specs.Found.{Found}
use Rattle.store_world.specs.World.{World, old_under}
use Rattle.store_world.specs.Standing.{OpenWorld, IsIn, StoreIsIn}
use Rattle.store_world.specs.Lists.{IsBeside}
use Rattle.store_world.specs.Steps as world_steps
use Rattle.store_world.specs.Stepping.{Steps, StepsFor}
use Rattle.store_world.specs.Steps.{IsWorldLine, turn_in}
use Rattle.store_world.specs.Finding.{MayFind}
use Rattle.timeline_model.specs.Scene.{Scene, Crash, entered_anew, sessions_over, store_in, world_of}
use Rattle.store_world.specs.LineCalls.{items_added, with_items, appends, end_of_store}
use Rattle.timeline_model.specs.Lines.{Next, quiet, refuses, over_world, over_store, act}
use Rattle.timeline_model.specs.Timeline.{MayBeFound, under}
use Rattle.timeline_model.proofs.Calls.{appended, world_is}
use Rattle.timeline_model.proofs.Doings.{store_is}
use Rattle.timeline_model.proofs.Sessions.{step_under, world_over}
use Rattle.timeline_model.proofs.Statements.{new_txn, Stores, step_stores, same_added, txn_added, frontier_added, policy_added}
use Rattle.timeline_model.proofs.Stepping.{line_act}
use Rattle.drill_core.specs.declared.machine.Drill.{Drill}
use Rattle.drill_core.specs.Drills.{bare_of, StandsUnder, IsAt, IsBehind}
use Rattle.drill_core.specs.Taken.{IsActed}
use Rattle.drill_core.proofs.Ready.{Begun, same_lists, scene_of}
use Rattle.drill_core.proofs.Coming.{any_found, next_on, quiet_follows, refused_only}

-- ---- the bytes

module _ (first : List ℕ) (trace : List (disks.Call × Bool)) where
  abbrev written_by : List Item → ℕ → List ℕ → Type 0
  written_by its place x = bytes_after first (after_calls is_done (appends (standing place x) its) trace) ≡ with_items place its x

  one_written : (place : ℕ) (item : Item) (x : List ℕ) → bytes_after first trace ≡ x → place < length x → written_by (item ∷ []) place x
  one_written place item x is = subst (λ (y : List ℕ). place < length y → written_by (item ∷ []) place y) is (appended.written first trace place item)

  by_none : (its : List Item) (place : ℕ) (x : List ℕ) → bytes_after first trace ≡ x → its ≡ [] → written_by its place x
  by_none its place x is none = subst (λ (l : List Item). written_by l place x) (sym none) is

  by_one : (its : List Item) (item : Item) (place : ℕ) (x : List ℕ) → bytes_after first trace ≡ x → its ≡ item ∷ [] → place < length x → written_by its place x
  by_one its item place x is one room = subst (λ (l : List Item). written_by l place x) (sym one) (one_written place item x is room)

  module _ (t : Scene) (id : ℕ) (line : Line) (is : bytes_after first trace ≡ t.bytes) where
    abbrev before : World
    before = world_of t id

    store_room : (store : statements.Database) → before.store ≡ Some store → end_of_store before.store < length t.bytes
    unfolding world_of
    store_room store some =
        let facts = store_is id t.bytes store some in
        let room = gate_inside store.header store.items (items.Frontier 0) t.bytes (record { header_is = facts.header; items_are = facts.items; format = facts.format }) in
        let place : end_of_store before.store ≡ store.end = ap end_of_store some in
        omega (arith, room, place, facts.end)

    -- after all calls of the line
    line_written : (found : Found) (new : Option statements.Database) → Stores before line t.clock found new → written_by (items_added before.store new) (end_of_store before.store) t.bytes
    line_written found new (inl same) = by_none (items_added before.store new) (end_of_store before.store) t.bytes is (same_added before line t.clock new same)
    line_written found new (inr (inl txn)) = by_one (items_added before.store new) (items.Txn (new_txn txn.store txn.ops t.clock)) (end_of_store before.store) t.bytes is (txn_added before line t.clock new txn) (store_room txn.store txn.store_is)
    line_written found new (inr (inr (inl frontier))) = by_one (items_added before.store new) (items.Frontier frontier.moment) (end_of_store before.store) t.bytes is (frontier_added before line t.clock new frontier) (store_room frontier.store frontier.store_is)
    line_written found new (inr (inr (inr policy))) =
        by_one (items_added before.store new) (turn_in policy.store found.heard policy.k policy.algs).item (end_of_store before.store) t.bytes is (policy_added before line t.clock new found policy) (store_room policy.store policy.store_is)

-- ---- the act of a line

module _ (t : Scene) (id : ℕ) (own : t.id ≡ Some id) (line : Line) (found : Found) where
  pub act_of : IsWorldLine line → act t line found ≡ over_world t (world_of t id) line found (world_steps.step (world_of t id) line t.clock found)
  act_of of_world = line_act t line found of_world ∙ ap (λ (o : Option ℕ). over_store t o line found) own

  pub may_of : MayFind (world_of t id) line t.clock found → MayBeFound t.id t (Ok line) found
  may_of may = subst (λ (o : Option ℕ). MayBeFound o t (Ok line) found) (sym own) may

-- ---- before an `init` line

module _ (t : Scene) (line : Line) (of_world : IsWorldLine line) where
  none_act : t.id ≡ None → act t line any_found ≡ quiet (refuses t (codes "NotAStore"))
  none_act own = line_act t line any_found of_world ∙ ap (λ (o : Option ℕ). over_store t o line any_found) own

  none_may : t.id ≡ None → MayBeFound t.id t (Ok line) any_found
  none_may own = subst (λ (o : Option ℕ). MayBeFound o t (Ok line) any_found) (sym own) tt

  pub none_acted : (crash : Option Crash) (d : Drill) (answered : Answered) → t.id ≡ None → IsAt t d → answered ≡ refusal (codes "NotAStore") → IsActed crash (Ok line) t answered d d
  none_acted crash d answered own at is = record {
    found = any_found;
    may = none_may own;
    follows = next_on answered d d (IsBehind crash) (under crash t (quiet (refuses t (codes "NotAStore")))) (under crash t (act t line any_found)) (ap (under crash t) (none_act own))
        (quiet_follows answered d d crash t (refuses t (codes "NotAStore")) (refused_only t d answered (codes "NotAStore") at is));
  }

-- ---- the drill

module _ (d : Drill) (begun : Begun) (stands : StandsUnder d.id (scene_of d begun) d.world) (line : Line) (of_world : IsWorldLine line) (fits : FitsParts line)
    (result : Result Answered LineFail) (world : OpenWorld) (disk : MemDisk) (notary : MemNotary)
    (told : StepsFor line d.clock result d.world world (desk (disk_memory.state_of d.disk) (notary_memory.state_of d.notary)) (desk (disk_memory.state_of disk) (notary_memory.state_of notary)))
    (disk_on : disks.GoesOn (disk_memory.state_of d.disk) (disk_memory.state_of disk)) (notary_on : notaries.GoesOn (notary_memory.state_of d.notary) (notary_memory.state_of notary)) where
  abbrev later : Drill
  later = record { alloc = d.alloc; id = d.id; world = world; disk = disk; notary = notary; clock = d.clock; crash = d.crash }

  abbrev t : Scene
  t = scene_of d begun

  abbrev old : Desk
  old = desk (disk_memory.state_of d.disk) (notary_memory.state_of d.notary)

  abbrev new : Desk
  new = desk (disk_memory.state_of disk) (notary_memory.state_of notary)

  abbrev after : List ℕ
  after = disk.bytes.items

  -- its notary holds the lists of the world
  pub beside : (id : ℕ) → IsBeside (world_of t id) d.notary.limits (lists_of d.notary.made.items)
  unfolding world_of
  beside id = record { lists = record { batches = λ i. refl; marks = λ i. refl }; limits = refl }

  pub through : (id : ℕ) → d.id ≡ Some id → (r : Result Answered LineFail) → result ≡ r → Steps line d.clock (world_of t id) r world old new d.disk.bytes.items after
  through id own r is = subst (λ (x : Result Answered LineFail). Steps line d.clock (world_of t id) x world old new d.disk.bytes.items after) is
      (told (world_of t id) (subst (λ (o : Option ℕ). StandsUnder o t d.world) own stands))

  abbrev first : List ℕ
  first = disk_memory.origin_of d.disk

  pub first_is : disk_memory.origin_of disk ≡ first
  first_is = same_Some (disk_memory.origin_of disk) first disk_on.origin

  after_is : bytes_after first (disk_traces.trace_of disk.made.items) ≡ disk.bytes.items
  after_is = ap (λ (f : List ℕ). bytes_after f (disk_traces.trace_of disk.made.items)) (sym first_is) ∙ sym disk.replayed

  module _ (id : ℕ) (own : d.id ≡ Some id) (answered : Answered) (steps : Steps line d.clock (world_of t id) (Ok answered) world old new d.disk.bytes.items after) where
    abbrev w : World
    w = world_of t id

    abbrev s : world_steps.Step
    s = world_steps.step w line d.clock steps.found

    abbrev next : Next
    next = (over_world t w line steps.found s).next

    bytes_are : disk.bytes.items ≡ next.scene.bytes
    bytes_are = sym after_is ∙ ap (bytes_after first) (steps.makes (beside id)).disk
        ∙ line_written first (disk_traces.trace_of d.disk.made.items) t id line (sym d.disk.replayed) steps.found s.world.store (step_stores w line d.clock steps.found)

    lists_are : lists_of notary.made.items ≡ s.world.lists
    lists_are = same_lists s.world.lists (lists_of notary.made.items) ((steps.files (beside id)).keeps refl)

    pub fields_are : entered_anew next.scene ≡ bare_of later
    fields_are =
        ap (λ (b : List ℕ). record (bare_of d) { bytes = b; lists = s.world.lists }) (sym bytes_are)
        ∙ ap (λ (l : notaries.Lists). record (bare_of d) { bytes = disk.bytes.items; lists = l }) (sym lists_are)
        ∙ ap (λ (l : NotaryLimits). record (bare_of d) { bytes = disk.bytes.items; lists = lists_of notary.made.items; limits = l }) (sym notary_on.limits)

    -- the store that is read from the bytes
    world_then : world_of next.scene id ≡ s.world
    unfolding world_of
    world_then =
        let under = step_under w line d.clock steps.found fits in
        let store : store_in id next.scene.bytes ≡ s.world.store =
        ap (store_in id) (sym bytes_are)
        ∙ world_is id s.world.store s.world.sessions world.opened disk.bytes.items (subst (λ (n : ℕ). StoreIsIn n s.world.store s.world.sessions world.opened disk.bytes.items) under.id steps.goes.stands.store) in
        let old : old_under id next.scene.bytes ≡ s.world.old_history =
        ap (old_under id) (sym bytes_are) ∙ ap (λ (n : ℕ). old_under n disk.bytes.items) (sym under.id) ∙ sym steps.goes.stands.old in
        ap (λ (o : Option statements.Database). record { id = id; store = o; old_history = old_under id next.scene.bytes; sessions = sessions_over o s.world.sessions; lists = s.world.lists; limits = t.limits; audited = s.world.audited }) store
        ∙ ap (λ (h : Option History). record { id = id; store = s.world.store; old_history = h; sessions = sessions_over s.world.store s.world.sessions; lists = s.world.lists; limits = t.limits; audited = s.world.audited }) old
        ∙ ap (λ (b : ℕ → Option Session). record { id = id; store = s.world.store; old_history = s.world.old_history; sessions = b; lists = s.world.lists; limits = t.limits; audited = s.world.audited }) (under.over (world_over t id))
        ∙ ap (λ (n : ℕ). record { id = n; store = s.world.store; old_history = s.world.old_history; sessions = s.world.sessions; lists = s.world.lists; limits = t.limits; audited = s.world.audited }) (sym under.id)
        ∙ ap (λ (l : NotaryLimits). record { id = s.world.id; store = s.world.store; old_history = s.world.old_history; sessions = s.world.sessions; lists = s.world.lists; limits = l; audited = s.world.audited }) (sym under.limits)

    pub stands_then : StandsUnder next.scene.id next.scene world
    stands_then = subst (λ (o : Option ℕ). StandsUnder o next.scene world) (sym own)
        (subst (λ (x : World). IsIn x world next.scene.bytes) (sym world_then)
        (subst (λ (b : List ℕ). IsIn s.world world b) bytes_are steps.goes.stands))
