-- A later history, and the statements that it does not change.
use Rattle.std.specs.Prelude.{◌≡◌, ℕ, false, List, [], ◌∷◌, ◌++◌}
use Rattle.std.specs.List.{AllByRecursion}
use Rattle.tuple_bytes.specs.declared.op.Op.{Op}
use Rattle.tuple_bytes.specs.declared.item.Item.{Item}
use Rattle.tuple_bytes.specs.declared.item.Txn.{Txn}
use Rattle.history_model.specs.History.{txns, after_last, last_moment, MayFollow}
use Rattle.stmt_text.specs.declared.stmt.Stmt.{Stmt}
use Rattle.statement_core.specs.Database as stores
use Rattle.session_model.specs.declared.place.Place.{Place}
use Rattle.session_model.specs.Places.{reads_of, touches_one}
use Rattle.session_model.specs.Statements.{say}

-- each of these items may come behind those before it, of which this is the last moment
abbrev pub Rise : ℕ → List Item → Type 0
Rise last [] = Unit {0}
Rise last (item ∷ items) = MayFollow last item × Rise (after_last last item) items

-- the same history, with items more that no clock set back
pub record IsLater (w later : stores.Database) : Type 0 where
  pub items : List Item
  pub behind : later.items ≡ w.items ++ items
  pub rise : Rise (last_moment w.items) items

-- no transaction touches one of these places
abbrev pub NoneTouches : List Place → List Txn → Type 0
NoneTouches places txns = AllByRecursion (λ t. touches_one places t ≡ false) txns

-- A statement is replied over the later history as over the earlier one, and leaves the same pending, where no transaction
-- between touches what it reads.
abbrev pub AnswersStay : Type 0
AnswersStay = (w later : stores.Database) (pending : List Op) (stmt : Stmt) → (more : IsLater w later) → NoneTouches (reads_of stmt) (txns more.items)
    → say later pending stmt ≡ say w pending stmt
