-- What is pending has room in a transaction.
use Rattle.std.proofs.Common.{◌≡◌, Bool, true, false, nat_lt, Option, Some, None, Result, Ok, Err, List, [], ◌∷◌, ◌++◌, length, refl, ap, ◌∙◌}
use Rattle.tuple_bytes.specs.declared.op.Op.{Op}
use Rattle.tuple_bytes.specs.declared.item.Item.TheVariants as items
use Rattle.tuple_bytes.specs.Limits.{max_ops, max_payload}
use Rattle.history_model.specs.declared.change.TableFail.{TableFail}
use Rattle.history_model.specs.declared.change.Write.{Write}
use Rattle.history_model.specs.Answers.{prepared}
use Rattle.history_model.specs.State.{after_ops}
use Rattle.stmt_text.specs.declared.stmt.Stmt.{Stmt}
use Rattle.store_engine.specs.declared.fail.StoreFail.{StoreFail}
use Rattle.store_engine.specs.declared.fail.StoreFail.TheVariants as fails
use Rattle.store_engine.specs.Refusals.{where_true, is_back, is_late, is_full, next_txn, item_fault}
use Rattle.statement_core.specs.Database as stores
use Rattle.statement_core.specs.Steps.{write_in}
use Rattle.session_model.specs.Statements.{size_fault, pended, pend, change_or_read, say}
use Rattle.session_model.specs.Pending.{PendingHasRoom, RoomIsEnough, size_of}
use Rattle.session_model.proofs.Each.{each_session}

pended_room : (pending : List Op) (op : Op) → size_fault pending ≡ None → (f : Option StoreFail) → size_fault (pending ++ op ∷ []) ≡ f → size_fault (pended pending op f).pending ≡ None
pended_room pending op room None e = e
pended_room pending op room (Some fail) e = room

pend_room : (pending : List Op) (r : Result Op TableFail) → size_fault pending ≡ None → size_fault (pend pending r).pending ≡ None
pend_room pending (Ok op) room = pended_room pending op room (size_fault (pending ++ op ∷ [])) refl
pend_room pending (Err fail) room = room

said_room : (w : stores.Database) (pending : List Op) (change : Option Write) (stmt : Stmt) → size_fault pending ≡ None → size_fault (change_or_read w pending change stmt).pending ≡ None
said_room w pending (Some change) stmt room = pend_room pending (prepared (after_ops pending (stores.tables_now w)) change) room
said_room w pending None stmt room = room

pub say_room : (w : stores.Database) (pending : List Op) (stmt : Stmt) → size_fault pending ≡ None → size_fault (say w pending stmt).pending ≡ None
unfolding say
say_room w pending stmt room = said_room w pending (write_in stmt) stmt room

pub pending_has_room : PendingHasRoom
pending_has_room w line now room = each_session (λ s. size_fault s.pending ≡ None) w refl (λ s stmt is. say_room w.store s.pending stmt is) line now room

-- ---- what room is good for

pub no_cause : (cause : Bool) (fail : StoreFail) (others : Option StoreFail) → where_true cause fail others ≡ None → (cause ≡ false) × (others ≡ None)
no_cause true fail others e = cc
no_cause false fail others e = (refl, e)

pub room_is_enough : RoomIsEnough
room_is_enough t ops now room =
    let few = no_cause (nat_lt max_ops (length ops)) fails.TooManyOps (where_true (nat_lt max_payload (size_of ops)) fails.TooLong None) room in
    let short = no_cause (nat_lt max_payload (size_of ops)) fails.TooLong None few.1 in
    ap (λ o. where_true (is_back t now) (fails.ClockBack t.last) (where_true (is_late t now) fails.TooLate o))
    (ap (λ b. where_true b fails.TooManyOps (item_fault t false (items.Txn (next_txn t ops now)))) few.0
    ∙ ap (λ b. where_true b fails.TooLong (where_true (is_full t.end (size_of ops)) fails.StoreFull None)) short.0)
