-- What a line stores: nothing, a transaction, a Frontier, or a policy.
use Rattle.std.proofs.Common.{◌≡◌, ◌⊎◌, inl, inr, ℕ, ◌≤◌, false, List, [], ◌∷◌, ◌++◌, length, drop, Option, Some, None, refl, sym, ap, subst, ◌∙◌}
use Rattle.std.proofs.lemmas.List.{drop_at}
use Rattle.tuple_bytes.specs.declared.item.Item.{Item}
use Rattle.tuple_bytes.specs.declared.item.Item.TheVariants as items
use Rattle.tuple_bytes.specs.declared.item.Txn.{Txn}
use Rattle.tuple_bytes.specs.declared.op.Op.{Op}
use Rattle.history_model.specs.History.{history}
use Rattle.store_engine.specs.Refusals.{commit_fault, next_txn}
use Rattle.stmt_text.specs.declared.stmt.Stmt.TheVariants as stmts
use Rattle.stmt_text.specs.declared.line.Line.{Line}
use Rattle.stmt_text.specs.declared.line.Line.TheVariants as lines
use Rattle.validator.specs.declared.fail.AuditFail.{AuditFail}
use Rattle.validator.specs.Notarizing.{Heard, notarize_fault, frontier_for}
use Rattle.statement_core.specs.Database as statements
use Rattle.statement_core.specs.Database.{tail_of_database, with_txn}
use Rattle.session_model.specs.Service as sessions
use Rattle.session_model.proofs.Storing.{AsksFor, stores_or_not}
use Rattle.store_world.specs.Found.{Found}
use Rattle.store_world.specs.World as worlds
use Rattle.store_world.specs.Steps as world_steps
use Rattle.store_world.specs.Steps.{on_tables, notarized, intent_in, carried_out, reached, turn_in, turns_world, turned, validated, has_more, algorithm_of}
use Rattle.store_world.proofs.Acknowledging.{by_line}
use Rattle.store_world.proofs.Analysing.{analysed_stays}
use Rattle.store_world.proofs.Validating.{with_validated, with_audit}
use Rattle.store_world.specs.LineCalls.{items_added}
use Rattle.store_world.proofs.LineItems.{none_added, carried_world}
use Rattle.digest_model.specs.Layout.{layout}

-- ---- a statement on tables, or a line of a session

-- the transaction that operations become
abbrev pub new_txn : statements.Database → List Op → ℕ → Txn
new_txn w ops now = next_txn (tail_of_database w) ops now

-- a store with the sessions of a world
abbrev pub with_begun : worlds.World → statements.Database → sessions.Service
with_begun w store = record { store = store; sessions = w.sessions }

-- ---- a notarization

-- the store gets its Frontier, where nothing speaks against it
pub record GetsFrontier (store : statements.Database) (now : ℕ) (heard : Heard) (s : world_steps.Step) : Type 0 where
  pub free : notarize_fault (tail_of_database store) false now store.items heard ≡ None
  pub is : s.world.store ≡ Some (reached (frontier_for (layout (history store.header store.items)) (tail_of_database store) now heard.count) store)

pub notarized_store : (w : worlds.World) (store : statements.Database) (now : ℕ) (heard : Heard) (refusal : Option AuditFail)
    → ((notarized w (Some store) now heard refusal).world.store ≡ w.store) ⊎ GetsFrontier store now heard (notarized w (Some store) now heard refusal)
notarized_store w store now heard refusal = by (notarize_fault (tail_of_database store) false now store.items heard) refl
  where
    carried : world_steps.Step
    carried = carried_out w store (intent_in store now heard) refusal

    by : (fault : Option AuditFail) → notarize_fault (tail_of_database store) false now store.items heard ≡ fault → ((world_steps.unless fault w carried).world.store ≡ w.store) ⊎ GetsFrontier store now heard (world_steps.unless fault w carried)
    by (Some fail) is = inl refl
    by None is = inr (record { free = is; is = ap (λ (x : worlds.World). x.store) (carried_world w store (intent_in store now heard) refusal) })

-- ---- a line

-- the transaction of what a line asks to be stored
pub record IsTxnOf (w : worlds.World) (line : Line) (now : ℕ) (new : Option statements.Database) : Type 0 where
  pub store : statements.Database
  pub store_is : w.store ≡ Some store
  pub ops : List Op
  pub asked : AsksFor (with_begun w store) line ops
  pub some : 1 ≤ length ops
  pub free : commit_fault (tail_of_database store) false ops now ≡ None
  pub new_is : new ≡ Some (with_txn store (new_txn store ops now))

-- the Frontier of a notarization, by what was heard
pub record IsFrontierOf (w : worlds.World) (now : ℕ) (new : Option statements.Database) : Type 0 where
  pub heard : Heard
  pub store : statements.Database
  pub store_is : w.store ≡ Some store
  pub free : notarize_fault (tail_of_database store) false now store.items heard ≡ None
  pub moment : ℕ
  pub need : frontier_for (layout (history store.header store.items)) (tail_of_database store) now heard.count ≡ Some moment
  pub new_is : new ≡ Some (statements.with_frontier store moment)

-- the policy that a line asks for, by what was heard
pub record IsPolicyOf (w : worlds.World) (line : Line) (found : Found) (new : Option statements.Database) : Type 0 where
  pub k : ℕ
  pub algs : ℕ
  pub line_is : line ≡ lines.Plain (stmts.Policy k algs)
  pub store : statements.Database
  pub store_is : w.store ≡ Some store
  pub free : (turn_in store found.heard k algs).fault ≡ None
  pub new_is : new ≡ Some (statements.with_item store (turn_in store found.heard k algs).item)

-- the store of a world stays, or has one of these more
abbrev pub Stores : worlds.World → Line → ℕ → Found → Option statements.Database → Type 0
Stores w line now found new = (new ≡ w.store) ⊎ IsTxnOf w line now new ⊎ IsFrontierOf w now new ⊎ IsPolicyOf w line found new

module _ (w : worlds.World) (line : Line) (now : ℕ) (found : Found) where
  of_tables : (o : Option statements.Database) → w.store ≡ o → Stores w line now found (on_tables w o line now).world.store
  of_tables None is = inl refl
  of_tables (Some store) is = elim (stores_or_not (with_begun w store) line now) [
    | inl same ↦ inl (ap (λ (x : statements.Database). Some x) same ∙ sym is)
    | inr one ↦ inr (inl (record { store = store; store_is = is; ops = one.ops; asked = one.asked; some = one.some; free = one.free; new_is = ap (λ (x : statements.Database). Some x) one.store }))
  ]

  of_notarize : (heard : Heard) (refusal : Option AuditFail) (o : Option statements.Database) → w.store ≡ o → Stores w line now found (notarized w o now heard refusal).world.store
  of_notarize heard refusal None is = inl refl
  of_notarize heard refusal (Some store) is = elim (notarized_store w store now heard refusal) [
    | inl same ↦ inl same
    | inr gets ↦ subst (Stores w line now found) (sym gets.is) (by gets.free (frontier_for (layout (history store.header store.items)) (tail_of_database store) now heard.count) refl)
  ]
    where
      by : notarize_fault (tail_of_database store) false now store.items heard ≡ None → (need : Option ℕ) → frontier_for (layout (history store.header store.items)) (tail_of_database store) now heard.count ≡ need → Stores w line now found (Some (reached need store))
      by free None need = inl (sym is)
      by free (Some moment) need = inr (inr (inl (record { heard = heard; store = store; store_is = is; free = free; moment = moment; need = need; new_is = refl })))

of_policy : (w : worlds.World) (now : ℕ) (found : Found) (k algs : ℕ) (o : Option statements.Database) → w.store ≡ o → Stores w (lines.Plain (stmts.Policy k algs)) now found (turned w o found.heard k algs).world.store
of_policy w now found k algs None is = inl refl
of_policy w now found k algs (Some store) is = by (turn_in store found.heard k algs).fault refl
  where
    by : (fault : Option AuditFail) → (turn_in store found.heard k algs).fault ≡ fault
        → Stores w (lines.Plain (stmts.Policy k algs)) now found (world_steps.unless fault w (turns_world w store (turn_in store found.heard k algs))).world.store
    by (Some fail) cause = inl refl
    by None free = inr (inr (inr (record { k = k; algs = algs; line_is = refl; store = store; store_is = is; free = free; new_is = refl })))

pub step_stores : (w : worlds.World) (line : Line) (now : ℕ) (found : Found) → Stores w line now found (world_steps.step w line now found).world.store
step_stores w line now found = by_line (λ line s. Stores w line now found s.world.store) w line now found (λ line. of_tables w line now found w.store refl) (of_notarize w (lines.Plain stmts.Notarize) now found found.heard found.refusal w.store refl)
    (λ k algs. of_policy w now found k algs w.store refl) (inl (with_validated w now found.verdict found.refusal).same.store) (inl (with_audit (has_more w) w now found.verdict found.refusal).same.store) (λ algorithm era. inl (ap (λ (x : worlds.World). x.store) (analysed_stays w (algorithm_of algorithm) found.analysis found.body)))

-- the items of that
module _ (w : worlds.World) (line : Line) (now : ℕ) (new : Option statements.Database) where
  pub same_added : new ≡ w.store → items_added w.store new ≡ []
  same_added same = ap (items_added w.store) same ∙ none_added w.store

  one_added : (store more : statements.Database) (item : Item) → w.store ≡ Some store → new ≡ Some more → more.items ≡ store.items ++ item ∷ [] → items_added w.store new ≡ item ∷ []
  one_added store more item is new_is items_are =
      ap (λ (o : Option statements.Database). items_added o new) is ∙ ap (items_added (Some store)) new_is
      ∙ ap (drop (length store.items)) items_are ∙ drop_at store.items (item ∷ []) (length store.items) refl

  pub txn_added : (txn : IsTxnOf w line now new) → items_added w.store new ≡ items.Txn (new_txn txn.store txn.ops now) ∷ []
  txn_added txn = one_added txn.store (with_txn txn.store (new_txn txn.store txn.ops now)) (items.Txn (new_txn txn.store txn.ops now)) txn.store_is txn.new_is refl

  pub policy_added : (found : Found) (policy : IsPolicyOf w line found new) → items_added w.store new ≡ (turn_in policy.store found.heard policy.k policy.algs).item ∷ []
  policy_added found policy = one_added policy.store (statements.with_item policy.store (turn_in policy.store found.heard policy.k policy.algs).item) (turn_in policy.store found.heard policy.k policy.algs).item policy.store_is policy.new_is refl

  pub frontier_added : (frontier : IsFrontierOf w now new) → items_added w.store new ≡ items.Frontier frontier.moment ∷ []
  frontier_added frontier = one_added frontier.store (statements.with_frontier frontier.store frontier.moment) (items.Frontier frontier.moment) frontier.store_is frontier.new_is refl
