-- What is read from the bytes after a line is the world that its step gives.
use Rattle.std.proofs.Common.{◌≡◌, inl, inr, ℕ, ◌≤◌, Bool, true, List, [], ◌∷◌, ◌++◌, length, Option, Some, None, IfSome, Result, Ok, refl, sym, ap, subst, ◌∙◌}
use Rattle.std.specs.Prelude.{nat_le, if◌then◌else◌}
use Rattle.std.proofs.lemmas.Bool.{eq-eqb, le-leb}
use Rattle.byte_grammar.specs.Reading.{IsBytes}
use Rattle.tuple_bytes.specs.declared.header.Header.{Header}
use Rattle.tuple_bytes.specs.declared.item.Item.{Item}
use Rattle.tuple_bytes.specs.declared.item.Item.TheVariants as items
use Rattle.tuple_bytes.specs.Spelling.{spell_item}
use Rattle.history_model.specs.declared.format.Format.{Format}
use Rattle.history_model.specs.declared.format.Format.TheVariants.{Two}
use Rattle.history_model.specs.Stored.{stored, format_of}
use Rattle.history_model.specs.History.{History}
use Rattle.history_model.specs.Placing.{gate_behind}
use Rattle.notary_link.specs.declared.notary.NotaryLimits.{NotaryLimits}
use Rattle.store_engine.specs.Opened as opened
use Rattle.stmt_text.specs.declared.error.ParseFail.{ParseFail}
use Rattle.stmt_text.specs.declared.stmt.Stmt.{Stmt}
use Rattle.stmt_text.specs.declared.stmt.Stmt.TheVariants as stmts
use Rattle.stmt_text.specs.declared.line.Line.{Line}
use Rattle.stmt_text.specs.declared.line.Line.TheVariants as lines
use Rattle.stmt_text.specs.Fits.{FitsParts}
use Rattle.statement_core.specs.Database as statements
use Rattle.session_model.specs.Service.{Session}
use Rattle.store_world.specs.Found.{Found}
use Rattle.store_world.specs.World as worlds
use Rattle.store_world.specs.Steps as world_steps
use Rattle.store_world.specs.Steps.{IsWorldStmt, IsWorldLine, turn_in}
use Rattle.store_world.specs.Finding.{MayFind}
use Rattle.store_engine.specs.Appended.{with_record}
use Rattle.store_engine.specs.Leaving.{Takes}
use Rattle.store_engine.proofs.Appended.{append_adds, append_puts, stores_record}
use Rattle.store_world.specs.World.{old_under}
use Rattle.store_world.specs.LineCalls.{items_added, with_items, end_of_store}
use Rattle.store_world.proofs.Tables.{none_old}
use Rattle.timeline_model.specs.Scene.{Scene, Crash, nothing_yet, sessions_over, store_under, store_as, store_in, world_of}
use Rattle.timeline_model.specs.Lines.{Act, Next, over_world, over_store, act}
use Rattle.timeline_model.specs.Timeline.{Event, calls_in, crashed_behind, under, without_crash, act_on, step, after, FitsReading, MayBeFound}
use Rattle.timeline_model.specs.Stepping.{IsWhole, left_by, TakesItsStep, LinesTakeTheirStep}
use Rattle.timeline_model.proofs.Doings.{StoreIs, store_is}
use Rattle.timeline_model.proofs.Statements.{new_txn, with_begun, Stores, step_stores, same_added, txn_added, frontier_added, policy_added}
use Rattle.timeline_model.proofs.StayBytes.{still_fit}
use Rattle.timeline_model.proofs.Sessions.{IsFit, asked_fit, step_under, world_fit, world_over, none_over}
use Rattle.timeline_model.proofs.Sealing as sealing
use Rattle.timeline_model.proofs.Fitting.{takes_txn, takes_policy}
use Rattle.timeline_model.proofs.Events.{fit_after, nothing_fit}

-- ---- a store with an item more

-- the world of a store that is read
pub world_read : (id : ℕ) (header : Header) (bytes : List ℕ) → (stored bytes).header ≡ Some header → format_of bytes ≡ Some Two → header.id ≡ id
    → store_in id bytes ≡ Some (record { header = header; items = (stored bytes).items; end = (stored bytes).end })
world_read id header bytes is new own =
    ap (λ (o : Option Format). store_as o (store_under id (stored bytes).header (stored bytes))) new
    ∙ ap (λ (o : Option Header). store_under id o (stored bytes)) is
    ∙ ap (λ (b : Bool). if b then Some (record { header = header; items = (stored bytes).items; end = (stored bytes).end }) else None) (eq-eqb header.id id own)

module _ (id : ℕ) (t : Scene) (store : statements.Database) (is : store_in id t.bytes ≡ Some store) (bytes : IsBytes t.bytes) (item : Item) (takes : Takes t.bytes item) where
  facts : StoreIs id t.bytes store
  facts = store_is id t.bytes store is

  now_stores : opened.Stores store.header store.items t.bytes
  now_stores = record { header_is = facts.header; items_are = facts.items; format = facts.format }

  abbrev y : List ℕ
  y = with_items store.end (item ∷ []) t.bytes

  stores : opened.Stores store.header (store.items ++ item ∷ []) y
  stores = subst (λ (e : ℕ). opened.Stores store.header (store.items ++ item ∷ []) (with_record e item t.bytes)) facts.end
      (stores_record store.header store.items item t.bytes now_stores takes)

  end_is : (stored y).end ≡ gate_behind store.end (length (spell_item item))
  end_is =
      ap (λ (e : ℕ). (stored (with_record e item t.bytes)).end) (sym facts.end)
      ∙ ap (λ (x : List ℕ). (stored x).end) (sym (append_puts store.header store.items item t.bytes now_stores))
      ∙ (append_adds store.header store.items item t.bytes now_stores takes).1
      ∙ ap (λ (e : ℕ). gate_behind e (length (spell_item item))) facts.end

  read_more : store_in id y ≡ Some (record { header = store.header; items = store.items ++ item ∷ []; end = gate_behind store.end (length (spell_item item)) })
  read_more =
      world_read id store.header y stores.header_is stores.format facts.own
      ∙ ap (λ (its : List Item). Some (record { header = store.header; items = its; end = (stored y).end })) stores.items_are
      ∙ ap (λ (e : ℕ). Some (record { header = store.header; items = store.items ++ item ∷ []; end = e })) end_is

  -- before and behind that it is in the second format
  old_same : old_under id y ≡ old_under id t.bytes
  old_same = none_old id y stores.format ∙ sym (none_old id t.bytes facts.format)

-- ---- a line

module _ (id : ℕ) (t : Scene) (line : Line) (found : Found) (scene_fits : IsFit t) (fits : FitsParts line) (may : MayFind (world_of t id) line t.clock found) where
  abbrev bytes : IsBytes t.bytes
  bytes = scene_fits.bytes

  abbrev w : worlds.World
  w = world_of t id

  abbrev bytes_to : Option statements.Database → List ℕ
  bytes_to new = with_items (end_of_store w.store) (items_added w.store new) t.bytes

  -- with this item
  with_one : (new : Option statements.Database) (store : statements.Database) (item : Item) → w.store ≡ Some store → items_added w.store new ≡ item ∷ [] → bytes_to new ≡ with_items store.end (item ∷ []) t.bytes
  with_one new store item is one = ap (λ (o : Option statements.Database). with_items (end_of_store o) (items_added w.store new) t.bytes) is ∙ ap (λ (its : List Item). with_items store.end its t.bytes) one

  pub read_by : (new : Option statements.Database) → Stores w line t.clock found new → store_in id (bytes_to new) ≡ new
  unfolding world_of
  read_by new (inl same) = ap (λ (its : List Item). store_in id (with_items (end_of_store w.store) its t.bytes)) (same_added w line t.clock new same) ∙ sym same
  read_by new (inr (inl txn)) =
      let in_file = takes_txn id t txn.store txn.store_is bytes txn.ops txn.some (asked_fit (with_begun w txn.store) line txn.ops txn.asked fits (world_fit t id scene_fits.sessions)) txn.free in
      let item : Item = items.Txn (new_txn txn.store txn.ops t.clock) in
      let y_is : bytes_to new ≡ with_items txn.store.end (item ∷ []) t.bytes = with_one new txn.store item txn.store_is (txn_added w line t.clock new txn) in
      ap (λ (y : List ℕ). store_in id y) y_is ∙ read_more id t txn.store txn.store_is bytes item in_file ∙ sym txn.new_is
  read_by new (inr (inr (inl frontier))) =
      let item : Item = items.Frontier frontier.moment in
      let in_file = sealing.frontier_takes id t (record found { heard = frontier.heard }) frontier.store frontier.store_is bytes frontier.free frontier.moment frontier.need in
      let y_is : bytes_to new ≡ with_items frontier.store.end (item ∷ []) t.bytes = with_one new frontier.store item frontier.store_is (frontier_added w line t.clock new frontier) in
      ap (λ (y : List ℕ). store_in id y) y_is ∙ read_more id t frontier.store frontier.store_is bytes item in_file ∙ sym frontier.new_is
  read_by new (inr (inr (inr policy))) =
      let item : Item = (turn_in policy.store found.heard policy.k policy.algs).item in
      let in_file = takes_policy t scene_fits id line found fits may new policy in
      let y_is : bytes_to new ≡ with_items policy.store.end (item ∷ []) t.bytes = with_one new policy.store item policy.store_is (policy_added w line t.clock new found policy) in
      ap (λ (y : List ℕ). store_in id y) y_is ∙ read_more id t policy.store policy.store_is bytes item in_file ∙ sym policy.new_is

  -- and what is stored in the first format stays
  old_by : (new : Option statements.Database) → Stores w line t.clock found new → old_under id (bytes_to new) ≡ old_under id t.bytes
  unfolding world_of
  old_by new (inl same) = ap (λ (its : List Item). old_under id (with_items (end_of_store w.store) its t.bytes)) (same_added w line t.clock new same)
  old_by new (inr (inl txn)) =
      let in_file = takes_txn id t txn.store txn.store_is bytes txn.ops txn.some (asked_fit (with_begun w txn.store) line txn.ops txn.asked fits (world_fit t id scene_fits.sessions)) txn.free in
      let item : Item = items.Txn (new_txn txn.store txn.ops t.clock) in
      let y_is : bytes_to new ≡ with_items txn.store.end (item ∷ []) t.bytes = with_one new txn.store item txn.store_is (txn_added w line t.clock new txn) in
      ap (old_under id) y_is ∙ old_same id t txn.store txn.store_is bytes item in_file
  old_by new (inr (inr (inl frontier))) =
      let item : Item = items.Frontier frontier.moment in
      let in_file = sealing.frontier_takes id t (record found { heard = frontier.heard }) frontier.store frontier.store_is bytes frontier.free frontier.moment frontier.need in
      let y_is : bytes_to new ≡ with_items frontier.store.end (item ∷ []) t.bytes = with_one new frontier.store item frontier.store_is (frontier_added w line t.clock new frontier) in
      ap (old_under id) y_is ∙ old_same id t frontier.store frontier.store_is bytes item in_file
  old_by new (inr (inr (inr policy))) =
      let item : Item = (turn_in policy.store found.heard policy.k policy.algs).item in
      let in_file = takes_policy t scene_fits id line found fits may new policy in
      let y_is : bytes_to new ≡ with_items policy.store.end (item ∷ []) t.bytes = with_one new policy.store item policy.store_is (policy_added w line t.clock new found policy) in
      ap (old_under id) y_is ∙ old_same id t policy.store policy.store_is bytes item in_file

  abbrev s : world_steps.Step
  s = world_steps.step w line t.clock found

  takes : t.crash ≡ None → TakesItsStep t id line found (over_world t w line found s).next
  unfolding world_of
  takes free =
      let under = step_under w line t.clock found fits in
      let store = read_by s.world.store (step_stores w line t.clock found) in
      let old = old_by s.world.store (step_stores w line t.clock found) ∙ sym under.old in
      record {
        world =
            ap (λ (o : Option statements.Database). record { id = id; store = o; old_history = old_under id (bytes_to s.world.store); sessions = sessions_over o s.world.sessions; lists = s.world.lists; limits = t.limits; audited = s.world.audited }) store
            ∙ ap (λ (h : Option History). record { id = id; store = s.world.store; old_history = h; sessions = sessions_over s.world.store s.world.sessions; lists = s.world.lists; limits = t.limits; audited = s.world.audited }) old
            ∙ ap (λ (begun : ℕ → Option Session). record { id = id; store = s.world.store; old_history = s.world.old_history; sessions = begun; lists = s.world.lists; limits = t.limits; audited = s.world.audited }) (under.over (world_over t id))
            ∙ ap (λ (n : ℕ). record { id = n; store = s.world.store; old_history = s.world.old_history; sessions = s.world.sessions; lists = s.world.lists; limits = t.limits; audited = s.world.audited }) (sym under.id)
            ∙ ap (λ (l : NotaryLimits). record { id = s.world.id; store = s.world.store; old_history = s.world.old_history; sessions = s.world.sessions; lists = s.world.lists; limits = l; audited = s.world.audited }) (sym under.limits)
            ∙ ap (λ (crash : Option Crash). left_by crash s.world) (sym free);
        text = refl;
        refused = refl;
      }

stmt_act : (t : Scene) (stmt : Stmt) (found : Found) → IsWorldStmt stmt → act t (lines.Plain stmt) found ≡ over_store t t.id (lines.Plain stmt) found
unfolding act
stmt_act t stmts.Begin found is = absurd is
stmt_act t stmts.Commit found is = absurd is
stmt_act t stmts.Abort found is = absurd is
stmt_act t (stmts.Now moment) found is = absurd is
stmt_act t stmt found is = refl

pub line_act : (t : Scene) (line : Line) (found : Found) → IsWorldLine line → act t line found ≡ over_store t t.id line found
unfolding act
line_act t (lines.Plain stmt) found is = stmt_act t stmt found is
line_act t lines.Blank found is = absurd is
line_act t (lines.InSession session stmt) found is = refl
line_act t (lines.Drill event) found is = absurd is

-- ---- an event

-- what a line leaves under a crash that lets it pass
abbrev behind : Option Crash → Next → Next
behind None next = next
behind (Some crash) next = crashed_behind next

under_whole : (t : Scene) (a : Act) (crash : Option Crash) → IfSome crash (λ c. calls_in a ≤ c.after) → under crash t a ≡ behind crash a.next
under_whole t a None passes = refl
under_whole t a (Some crash) passes = let enough : nat_le (calls_in a) crash.after ≡ true = le-leb (calls_in a) crash.after passes in rw enough refl

-- a crash behind the line
world_behind : (crash : Option Crash) (next : Next) (id : ℕ) → world_of (behind crash next).scene id ≡ left_by crash (world_of next.scene id)
unfolding world_of
world_behind None next id = refl
world_behind (Some crash) next id = ap (λ (begun : ℕ → Option Session). record { id = id; store = store_in id next.scene.bytes; old_history = old_under id next.scene.bytes; sessions = begun; lists = next.scene.lists; limits = next.scene.limits; audited = 0 }) (none_over (store_in id next.scene.bytes))

behind_text : (crash : Option Crash) (next : Next) → (behind crash next).text ≡ next.text
behind_text None next = refl
behind_text (Some crash) next = refl

behind_refused : (crash : Option Crash) (next : Next) → (behind crash next).is_refused ≡ next.is_refused
behind_refused None next = refl
behind_refused (Some crash) next = refl

event_takes : (t : Scene) (e : Event) (id : ℕ) (line : Line) → IsFit t → FitsReading e.line → MayFind (world_of t id) line t.clock e.found → t.id ≡ Some id → e.line ≡ Ok line → IsWorldLine line → IsWhole t e → TakesItsStep t id line e.found (step t e.line e.found)
unfolding step world_of
event_takes t e id line scene_fits fits may own line_is on passes =
    let act_is : act_on (without_crash t) e.line e.found ≡ over_world (without_crash t) (world_of (without_crash t) id) line e.found (world_steps.step (world_of (without_crash t) id) line t.clock e.found) =
    ap (λ (l : Result Line ParseFail). act_on (without_crash t) l e.found) line_is ∙ line_act (without_crash t) line e.found on ∙ ap (λ (o : Option ℕ). over_store (without_crash t) o line e.found) own in
    let takes_it = takes id (without_crash t) line e.found (still_fit t scene_fits) (subst FitsReading line_is fits) may refl in
    let next_is = under_whole (without_crash t) (act_on (without_crash t) e.line e.found) t.crash passes ∙ ap (λ (a : Act). behind t.crash a.next) act_is in
    let next = (over_world (without_crash t) (world_of (without_crash t) id) line e.found (world_steps.step (world_of (without_crash t) id) line t.clock e.found)).next in
    record {
      world = ap (λ (n : Next). world_of n.scene id) next_is ∙ world_behind t.crash next id ∙ ap (left_by t.crash) takes_it.world;
      text = ap (λ (n : Next). n.text) next_is ∙ behind_text t.crash next ∙ takes_it.text;
      refused = ap (λ (n : Next). n.is_refused) next_is ∙ behind_refused t.crash next ∙ takes_it.refused;
    }

-- what the line finds in the world that stands
found_at : (t : Scene) (o : Option ℕ) (id : ℕ) (l : Result Line ParseFail) (line : Line) (found : Found) → o ≡ Some id → l ≡ Ok line → MayBeFound o t l found → MayFind (world_of t id) line t.clock found
found_at t o id l line found own line_is may = subst (λ (x : Result Line ParseFail). MayBeFound (Some id) t x found) line_is (subst (λ (x : Option ℕ). MayBeFound x t l found) own may)

pub take_step : LinesTakeTheirStep
take_step limits e es id line is own line_is on passes =
    event_takes (after (nothing_yet limits) es) e id line (fit_after (nothing_yet limits) es (nothing_fit limits) is.0) is.1.fits (found_at (after (nothing_yet limits) es) (after (nothing_yet limits) es).id id e.line line e.found own line_is is.1.found) own line_is on passes
