-- What a notarization stores before it files: its Frontier, by what an open store and the notary's count tell.
use Rattle.std.proofs.Common.{◌≡◌, ℕ, false, List, [], length, Option, Some, None, IfSome, Result, Ok, Err, refl, sym, ap, subst, ◌∙◌}
use Rattle.std.specs.Prelude.{◌≢◌}
use Rattle.std.specs.Option.{option_map}
use Rattle.tuple_bytes.specs.declared.item.Item.{Item}
use Rattle.history_model.specs.History.{history}
use Rattle.digest_model.specs.Layout.{policy_of}
use Rattle.notary_link.specs.declared.memory.MemNotary.{MemNotary}
use Rattle.notary_link.specs.declared.notary.NotaryLimits.{NotaryLimits}
use Rattle.notary_link.specs.Calls.{lists_of}
use Rattle.notary_link.specs.Memory.{state_of}
use Rattle.notary_link.specs.declared.fail.NotaryFail.{NotaryFail}
use Rattle.notary_link.specs.Notary.{Lists, Unchanged, GoesOn, in_doubt}
use Rattle.outside_words.specs.Shown.{ShowsFaults}
use Rattle.disk_words.specs.Disk as disks
use Rattle.store_engine.specs.Opened.{Opened}
use Rattle.store_engine.specs.Refusals.{Tail, tail_of}
use Rattle.store_engine.specs.Appended.{standing}
use Rattle.statement_core.specs.Database as statements
use Rattle.stmt_text.specs.declared.line.Line.{Line}
use Rattle.stmt_text.specs.declared.line.Line.TheVariants as lines
use Rattle.stmt_text.specs.declared.stmt.Stmt.TheVariants as stmts
use Rattle.validator.specs.declared.fail.AuditFail.{AuditFail}
use Rattle.validator.specs.Notarizing.{Heard, Intent, intent_of, early_fault, else_cause}
use Rattle.validator.specs.Reaching.{frontier_calls}
use Rattle.store_world.specs.declared.open_store.OpenStore.{OpenStore}
use Rattle.store_world.specs.Found.{Found}
use Rattle.store_world.specs.World.{World}
use Rattle.store_world.specs.Standing.{OpenWorld, StoreIsIn}
use Rattle.store_world.specs.Steps as world_steps
use Rattle.store_world.specs.Steps.{intent_in, validated, has_more, piece_audited}
use Rattle.store_world.specs.Finding.{MayFile, MayFind}
use Rattle.store_world.specs.LineCalls.{unless, filing_calls, notarize_calls, notary_calls, disk_calls, appends, items_added, end_of_store}
use Rattle.store_world.proofs.LineItems.{none_added}
use Rattle.store_world.proofs.Validating.{with_validated, with_audit}
use Rattle.store_world.proofs.CallsTold.{by_fault}
use Rattle.timeline_model.specs.Scene.{Scene, world_of, batches_of}
use Rattle.drill_core.specs.declared.machine.Drill.{Drill}
use Rattle.drill_core.specs.Drills.{bare_of, StandsUnder, IsAt}
use Rattle.drill_core.specs.Taken.{ComeBefore}
use Rattle.drill_core.proofs.Ready.{same_lists}

-- ---- the notary was asked

module _ (t : Scene) (d : Drill) (at : IsAt t d) where
  pub asked : (notary : MemNotary) → Unchanged (state_of d.notary) (state_of notary) → GoesOn (state_of d.notary) (state_of notary)
      → IsAt t (record { alloc = d.alloc; id = d.id; world = d.world; disk = d.disk; notary = notary; clock = d.clock; crash = d.crash })
  asked notary same on = record {
    left = record {
      fields =
          at.left.fields
          ∙ ap (λ (l : Lists). record (bare_of d) { lists = l }) (sym (same_lists (lists_of d.notary.made.items) (lists_of notary.made.items) same.lists))
          ∙ ap (λ (l : NotaryLimits). record (bare_of d) { lists = lists_of notary.made.items; limits = l }) (sym on.limits);
      none_fails = (let none = at.left.none_fails in record { disk = none.disk; disk_sure = none.disk_sure; notary = on.plan ∙ none.notary; notary_sure = on.sure ∙ none.notary_sure });
    };
    world = at.world;
  }

  id_is : (o : Option ℕ) → d.id ≡ o → t.id ≡ o
  id_is o own = ap (λ (s : Scene). s.id) at.left.fields ∙ own

  pub none_filed : (filed : ℕ) → d.id ≡ None → IfSome t.id (λ id. filed ≡ length (batches_of t id))
  none_filed filed own = subst (λ (o : Option ℕ). IfSome o (λ id. filed ≡ length (batches_of t id))) (sym (id_is None own)) tt

  pub some_filed : (id filed : ℕ) → d.id ≡ Some id → filed ≡ length ((lists_of d.notary.made.items).batches id) → IfSome t.id (λ i. filed ≡ length (batches_of t i))
  some_filed id filed own is = subst (λ (o : Option ℕ). IfSome o (λ i. filed ≡ length (batches_of t i))) (sym (id_is (Some id) own))
      (is ∙ ap (λ (s : Scene). length (s.lists.batches id)) (sym at.left.fields))

-- behind an answer no fault was counted
pub as_many : (result : Result ℕ NotaryFail) (filed before now : ℕ) → result ≡ Ok filed → ShowsFaults in_doubt before now result → now ≡ before
as_many (Ok n) filed before now is shows = shows
as_many (Err fail) filed before now is shows = absurd cc

-- ---- why nothing is done

first_none : (first other : Option AuditFail) → else_cause first other ≡ None → first ≡ None
first_none (Some fail) other none = absurd cc
first_none None other none = refl

pub none_early : (t : Tail) (now : ℕ) (its : List Item) (heard : Heard) → (intent_of t false now its heard).fault ≡ None → early_fault t false now ≡ None
none_early t now its heard free = first_none (early_fault t false now) _ free

-- ---- a notarization

abbrev notarize : Line
notarize = lines.Plain stmts.Notarize

-- so many are the calls of the Frontier, where a store is open
abbrev pub CountsFor : (now filed count : ℕ) → Option Opened → Type 0
CountsFor now filed count None = Unit {0}
CountsFor now filed count (Some s) = (its : List Item) (heard : Heard) → s.eras ≡ policy_of (history s.header its) → filed ≡ heard.count → (intent_of (tail_of s) false now its heard).fault ≡ None
    → count ≡ length (frontier_calls s (intent_of (tail_of s) false now its heard).frontier)

abbrev opened_in : Option OpenStore → Option Opened
opened_in kept = option_map (λ (o : OpenStore). o.store) kept

tail_is : (ws : statements.Database) (s : Opened) (bytes : List ℕ) → statements.IsIn ws s bytes → tail_of s ≡ statements.tail_of_database ws
tail_is ws s bytes stands =
    let h = stands.header in
    let end = stands.end in
    let count = stands.open_on.knows.count in
    let last = stands.open_on.knows.last in
    cc

module _ (t : Scene) (id filed count : ℕ) where
  abbrev w : World
  w = world_of t id

  -- it calls the notary only where it has a store, and nothing speaks against it
  nothing_filed : (found : Found) (o : Option statements.Database) → w.store ≡ o → notarize_calls w o t.clock found.heard ≡ [] → notary_calls w notarize t.clock found ≡ []
  unfolding notary_calls
  nothing_filed found o is none = ap (λ (store : Option statements.Database). notarize_calls w store t.clock found.heard) is ∙ none

  module _ (ws : statements.Database) (is : w.store ≡ Some ws) (s : Opened) (stands : statements.IsIn ws s t.bytes) (counts : CountsFor t.clock filed count (Some s)) (many : filed ≡ length (batches_of t id)) (found : Found) where
    abbrev intent : Intent
    intent = intent_in ws t.clock found.heard

    intent_is : intent_of (tail_of s) false t.clock ws.items found.heard ≡ intent
    intent_is = ap (λ (tail : Tail). intent_of tail false t.clock ws.items found.heard) (tail_is ws s t.bytes stands)

    -- as many are heard as are filed
    heard_many : MayFind w notarize t.clock found → filed ≡ found.heard.count
    unfolding world_of
    heard_many may =
        let file : MayFile w t.clock found ws = subst (λ (o : Option statements.Database). IfSome o (MayFile w t.clock found)) is may in
        many ∙ ap (λ (x : Heard). x.count) (sym file.heard)

    counted : MayFind w notarize t.clock found → intent.fault ≡ None → count ≡ length (frontier_calls s intent.frontier)
    counted may = subst (λ (i : Intent). i.fault ≡ None → count ≡ length (frontier_calls s i.frontier)) intent_is (counts ws.items found.heard stands.open_on.knows.eras (heard_many may))

    stored_before : MayFind w notarize t.clock found → notary_calls w notarize t.clock found ≢ [] → count ≡ length (disk_calls w (world_steps.step w notarize t.clock found) t.bytes)
    unfolding world_steps.step
    stored_before may some = by_fault t.clock w ws is s t.bytes stands found.heard found.refusal (λ (calls : List disks.Call). count ≡ length calls)
        (λ fail against. absurd (some (nothing_filed found (Some ws) is (ap (λ (fault : Option AuditFail). unless fault (filing_calls w intent.batches)) against))))
        (counted may)

  by_store : (kept : Option OpenStore) (o : Option statements.Database) → w.store ≡ o → StoreIsIn w.id o w.sessions kept t.bytes → CountsFor t.clock filed count (opened_in kept) → filed ≡ length (batches_of t id) → ComeBefore count t (Some id) notarize
  by_store None None is stands counts many = λ found may some. absurd (some (nothing_filed found None is refl))
  by_store None (Some ws) is stands counts many = absurd stands
  by_store (Some o) None is stands counts many = absurd stands
  by_store (Some o) (Some ws) is stands counts many = stored_before ws is o.store stands.0.store counts many

under_id : (t : Scene) (filed count : ℕ) (id : Option ℕ) (held : OpenWorld) → StandsUnder id t held → CountsFor t.clock filed count (opened_in held.opened) → IfSome id (λ i. filed ≡ length (batches_of t i)) → ComeBefore count t id notarize
under_id t filed count None held stands counts many = tt
under_id t filed count (Some id) held stands counts many = by_store t id filed count held.opened (world_of t id).store refl stands.store counts many

pub come_before : (t : Scene) (d : Drill) (filed count : ℕ) → IsAt t d → CountsFor d.clock filed count (opened_in d.world.opened) → IfSome t.id (λ id. filed ≡ length (batches_of t id)) → ComeBefore count t t.id notarize
come_before t d filed count at counts many =
    under_id t filed count t.id d.world at.world (subst (λ (now : ℕ). CountsFor now filed count (opened_in d.world.opened)) (sym (ap (λ (s : Scene). s.clock) at.left.fields)) counts) many

-- ---- any other line: it calls the notary for nothing, or is a validation or an audit, which store nothing

module _ (w : World) (now : ℕ) (found : Found) (bytes : List ℕ) where
  nothing_stored : (next : world_steps.Step) → next.world.store ≡ w.store → 0 ≡ length (disk_calls w next bytes)
  nothing_stored next stays = ap length (sym (ap (appends (standing (end_of_store w.store) bytes)) (ap (items_added w.store) stays ∙ none_added w.store)))

  of_other : (line : Line) → (line ≡ notarize → ⊥) → notary_calls w line now found ≢ [] → 0 ≡ length (disk_calls w (world_steps.step w line now found) bytes)
  unfolding notary_calls world_steps.step
  of_other (lines.Plain stmts.Notarize) other some = absurd (other refl)
  of_other (lines.Plain stmts.Validate) other some = nothing_stored (validated w now found.verdict found.refusal) (with_validated w now found.verdict found.refusal).same.store
  of_other (lines.Plain stmts.Audit) other some = nothing_stored (piece_audited (has_more w) w now found.verdict found.refusal) (with_audit (has_more w) w now found.verdict found.refusal).same.store
  of_other line other some = absurd (some refl)

pub none_before : (t : Scene) (id : Option ℕ) (line : Line) → (line ≡ notarize → ⊥) → ComeBefore 0 t id line
none_before t None line other = tt
none_before t (Some id) line other = λ found may some. of_other (world_of t id) t.clock found t.bytes line other some
