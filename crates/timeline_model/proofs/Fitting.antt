-- What a line stores fits the file.
use Rattle.std.proofs.Common.{◌≡◌, inl, inr, ℕ, ◌^◌, ◌<◌, ◌≤◌, false, List, [], length, Option, Some, None, IfSome, Result, Ok, Err, sym, ap, subst, ◌∙◌, arith}
use Rattle.std.specs.Prelude.{nat_lt}
use Rattle.std.specs.List.{All, AllByRecursion}
use Rattle.std.proofs.lemmas.Bool.Decides.{nat_tests}
use Rattle.std.proofs.lemmas.List.Elements.{All-nil, All-cons}
use Rattle.byte_grammar.specs.Reading.{IsBytes}
use Rattle.tuple_bytes.specs.declared.item.Item.{Item}
use Rattle.tuple_bytes.specs.declared.item.Item.TheVariants as items
use Rattle.tuple_bytes.specs.declared.item.Txn.{Txn}
use Rattle.tuple_bytes.specs.declared.op.Op.{Op}
use Rattle.tuple_bytes.specs.Spelling.{spell_txn, FitsHeader}
use Rattle.history_model.specs.Stored.{IsStorable}
use Rattle.history_model.specs.History.{txns, last_moment}
use Rattle.history_model.proofs.Stores.{stored_history}
use Rattle.store_engine.specs.declared.fail.StoreFail.TheVariants as fails
use Rattle.store_engine.specs.Refusals.{is_full, commit_fault}
use Rattle.store_engine.specs.Leaving.{Takes}
use Rattle.stmt_text.specs.declared.error.ParseFail.{ParseFail}
use Rattle.stmt_text.specs.declared.stmt.Stmt.TheVariants as stmts
use Rattle.stmt_text.specs.declared.line.Line.{Line}
use Rattle.stmt_text.specs.declared.line.Line.TheVariants as lines
use Rattle.stmt_text.specs.Fits.{FitsParts}
use Rattle.statement_core.specs.Database as statements
use Rattle.session_model.proofs.Rooms.{no_cause}
use Rattle.session_model.proofs.Storing.{IsFree, is_free}
use Rattle.store_world.specs.Found.{Found}
use Rattle.store_world.specs.Steps.{turn_in}
use Rattle.store_world.specs.Finding.{IsHeard, MayFind}
use Rattle.store_world.specs.LineCalls.{items_added}
use Rattle.timeline_model.specs.Scene.{Scene, nothing_yet, store_in, world_of}
use Rattle.timeline_model.specs.Timeline.{FitsReading, MayBeFound, after}
use Rattle.timeline_model.specs.Sound.{stored_by}
use Rattle.timeline_model.specs.Spelled.{BytesStayBytes, LinesStoreSpellings}
use Rattle.timeline_model.proofs.Doings.{StoreIs, store_is}
use Rattle.timeline_model.proofs.Statements.{new_txn, with_begun, IsPolicyOf, Stores, step_stores, same_added, txn_added, frontier_added, policy_added}
use Rattle.timeline_model.proofs.Spellings.{IsFitOp, txn_fits, stored_few, moment_small}
use Rattle.timeline_model.proofs.Sessions.{IsFit, asked_fit, world_fit}
use Rattle.timeline_model.proofs.Sealing as sealing
use Rattle.timeline_model.proofs.Turning.{policy_takes}
use Rattle.timeline_model.proofs.Events.{fit_after, nothing_fit}

-- over the store of a scene
module _ (i : ℕ) (t : Scene) (store : statements.Database) (is : store_in i t.bytes ≡ Some store) (bytes_before : IsBytes t.bytes)
    (ops : List Op) (some : 1 ≤ length ops) (fit : AllByRecursion IsFitOp ops) (free : commit_fault (statements.tail_of_database store) false ops t.clock ≡ None) where
  facts : StoreIs i t.bytes store
  facts = store_is i t.bytes store is

  header_fits : FitsHeader store.header
  header_fits = (stored_history t.bytes store.header bytes_before facts.header).header

  abbrev txn : Txn
  txn = new_txn store ops t.clock

  none : IsFree (statements.tail_of_database store) ops t.clock
  none = is_free (statements.tail_of_database store) ops t.clock free

  -- nothing stood against it
  causes : (nat_lt 32768 (length (spell_txn txn)) ≡ false) × (is_full store.end (length (spell_txn txn)) ≡ false)
  causes =
      let long = no_cause (nat_lt 32768 (length (spell_txn txn))) fails.TooLong _ none.room in
      (long.0, (no_cause (is_full store.end (length (spell_txn txn))) fails.StoreFull _ long.1).0)

  short : length (spell_txn txn) ≤ 32768
  short = (let c = causes.0 in grind (arith, nat_tests, c))

  pub few : txn.number < 2 ^ 32
  few = (let lt = stored_few t.bytes store.header bytes_before facts.header in let same = ap (λ (its : List Item). length (txns its)) facts.items in omega (arith, lt, same))

  pub follows : last_moment store.items ≤ txn.moment
  follows = none.later

  pub takes_txn : Takes t.bytes (items.Txn txn)
  takes_txn = record {
    storable = record { fits = txn_fits txn.number txn.moment ops few (moment_small store.header txn.moment header_fits none.on_time) (omega (arith, some), none.few) fit short; short = short };
    room = ap (λ (e : ℕ). is_full e (length (spell_txn txn))) facts.end ∙ causes.1;
  }

-- ---- what an event stores

module _ (t : Scene) (scene_fits : IsFit t) (id : ℕ) (line : Line) (found : Found) (fits : FitsParts line) (may : MayFind (world_of t id) line t.clock found) where
  abbrev bytes : IsBytes t.bytes
  bytes = scene_fits.bytes

  -- a policy fits, too
  pub takes_policy : (new : Option statements.Database) (policy : IsPolicyOf (world_of t id) line found new) → Takes t.bytes (turn_in policy.store found.heard policy.k policy.algs).item
  unfolding world_of
  takes_policy new policy =
      let parts : FitsParts (lines.Plain (stmts.Policy policy.k policy.algs)) = subst FitsParts policy.line_is fits in
      let finds : IfSome (world_of t id).store (IsHeard (world_of t id) found) = subst (λ (l : Line). MayFind (world_of t id) l t.clock found) policy.line_is may in
      let hears : IsHeard (world_of t id) found policy.store = subst (λ (o : Option statements.Database). IfSome o (IsHeard (world_of t id) found)) policy.store_is finds in
      policy_takes id t found policy.store policy.store_is hears policy.k policy.algs parts.0.0 parts.0.1 policy.free

  by_kind : (new : Option statements.Database) → Stores (world_of t id) line t.clock found new → All IsStorable (items_added (world_of t id).store new)
  unfolding world_of
  by_kind new (inl same) = subst (All IsStorable) (sym (same_added (world_of t id) line t.clock new same)) (All-nil IsStorable)
  by_kind new (inr (inl txn)) =
      let takes = takes_txn id t txn.store txn.store_is bytes txn.ops txn.some (asked_fit (with_begun (world_of t id) txn.store) line txn.ops txn.asked fits (world_fit t id scene_fits.sessions)) txn.free in
      subst (All IsStorable) (sym (txn_added (world_of t id) line t.clock new txn)) (All-cons IsStorable (items.Txn (new_txn txn.store txn.ops t.clock)) [] takes.storable (All-nil IsStorable))
  by_kind new (inr (inr (inl frontier))) =
      subst (All IsStorable) (sym (frontier_added (world_of t id) line t.clock new frontier)) (All-cons IsStorable (items.Frontier frontier.moment) []
      (sealing.frontier_takes id t (record found { heard = frontier.heard }) frontier.store frontier.store_is bytes frontier.free frontier.moment frontier.need).storable (All-nil IsStorable))
  by_kind new (inr (inr (inr policy))) =
      subst (All IsStorable) (sym (policy_added (world_of t id) line t.clock new found policy)) (All-cons IsStorable (turn_in policy.store found.heard policy.k policy.algs).item [] (takes_policy new policy).storable (All-nil IsStorable))

all_storable : (t : Scene) (o : Option ℕ) (l : Result Line ParseFail) (found : Found) → IsFit t → FitsReading l → MayBeFound o t l found → All IsStorable (stored_by o t l found)
all_storable t None l found scene_fits fits may = All-nil IsStorable
all_storable t (Some id) (Err fail) found scene_fits fits may = All-nil IsStorable
all_storable t (Some id) (Ok line) found scene_fits fits may = by_kind t scene_fits id line found fits may _ (step_stores (world_of t id) line t.clock found)

pub bytes_stay : BytesStayBytes
bytes_stay limits es is = (fit_after (nothing_yet limits) es (nothing_fit limits) is).bytes

pub store_spellings : LinesStoreSpellings
store_spellings limits e es is = all_storable (after (nothing_yet limits) es) (after (nothing_yet limits) es).id e.line e.found (fit_after (nothing_yet limits) es (nothing_fit limits) is.0) is.1.fits is.1.found
