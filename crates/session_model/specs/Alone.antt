-- Statements of one session, one after the other, over a history that does not change.
use Rattle.std.specs.Prelude.{◌≡◌, List, [], ◌∷◌, map}
use Rattle.tuple_bytes.specs.declared.op.Op.{Op}
use Rattle.stmt_text.specs.declared.stmt.Stmt.{Stmt}
use Rattle.statement_core.specs.declared.reply.Reply.{Reply}
use Rattle.statement_core.specs.Database as stores
use Rattle.session_model.specs.Statements.{say}

-- the replies, and what is pending behind them
pub record Alone : Type 0 where
  pub replies : List Reply
  pub pending : List Op

-- with a reply before the others
abbrev pub after_reply : Reply → Alone → Alone
after_reply reply a = record { replies = reply ∷ a.replies; pending = a.pending }

abbrev pub alone_from : stores.Database → List Op → List Stmt → Alone
alone_from w pending [] = record { replies = []; pending = pending }
alone_from w pending (stmt ∷ stmts) = after_reply (say w pending stmt).reply (alone_from w (say w pending stmt).pending stmts)

-- from a begin on
abbrev pub alone : stores.Database → List Stmt → Alone
alone w stmts = alone_from w [] stmts

-- a statement on tables, and its reply
pub record Exchange : Type 0 where
  pub stmt : Stmt
  pub reply : Reply

-- these replies are those of the statements alone, and so is what is pending
pub record IsAlone (w : stores.Database) (told : List Exchange) (pending : List Op) : Type 0 where
  pub replies_are : map (λ t. t.reply) told ≡ (alone w (map (λ t. t.stmt) told)).replies
  pub pending_is : pending ≡ (alone w (map (λ t. t.stmt) told)).pending
