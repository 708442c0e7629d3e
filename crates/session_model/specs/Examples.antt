-- Worked examples.
use Rattle.std.specs.Prelude.{◌≡◌, ℕ, pos, List, [], ◌∷◌, ◌++◌, replicate, codes, Some, None}
use Rattle.tuple_bytes.specs.declared.value.Value.{Value}
use Rattle.tuple_bytes.specs.declared.value.Value.TheVariants as values
use Rattle.tuple_bytes.specs.declared.op.Kind.TheVariants as kinds
use Rattle.stmt_text.specs.declared.stmt.Stmt.{Stmt}
use Rattle.stmt_text.specs.declared.stmt.Stmt.TheVariants as stmts
use Rattle.stmt_text.specs.declared.line.Line.TheVariants as lines
use Rattle.statement_core.specs.declared.reply.Reply.TheVariants as replies
use Rattle.statement_core.specs.declared.reply.Refusal.{Refusal}
use Rattle.statement_core.specs.declared.reply.Refusal.TheVariants as refusals
use Rattle.session_model.specs.Service.{Service}
use Rattle.session_model.specs.Steps.{Answer, Replied, Stopped}
use Rattle.session_model.specs.Runs.{Turn, Take, Reach, Divide, Open, told_in}

-- a store without an item, of granules of 60 moments
abbrev pub new_world : Service
new_world = record {
  store = record { header = record { id = 7; epoch = 0; width = 60; k = 3; algs = 3 }; items = []; end = 64 };
  sessions = λ n. None;
}

abbrev pub int : ℕ → Value
int n = values.Int (pos n)

-- the table t of the examples, with an integer key k and an integer v
abbrev pub t : List ℕ
t = codes "t"

abbrev pub create_t : Stmt
create_t = stmts.Create t (record { name = codes "k"; kind = kinds.Int } ∷ record { name = codes "v"; kind = kinds.Int } ∷ [])

abbrev pub row : ℕ → ℕ → List Value
row k v = int k ∷ int v ∷ []

-- a statement at clock second 0
abbrev pub say_plain : Stmt → Turn
say_plain stmt = Take (lines.Plain stmt) 0

abbrev pub say_in : ℕ → Stmt → Turn
say_in n stmt = Take (lines.InSession n stmt) 0

abbrev pub ok : ℕ → Answer
ok number = Replied (replies.Committed number)

abbrev pub done : Answer
done = Replied replies.Done

abbrev pub found : ℕ → ℕ → Answer
found k v = Replied (replies.Found (row k v))

abbrev pub missing : Answer
missing = Replied replies.Missing

abbrev pub refused : Refusal → Answer
refused refusal = Replied (replies.Refused refusal)

abbrev pub no_session : Answer
no_session = Stopped refusals.NoSession

abbrev pub session_open : Answer
session_open = Stopped refusals.SessionOpen

abbrev pub conflicts : ℕ → Answer
conflicts number = Stopped (refusals.Conflict number)

-- two sessions read a row and change it: the second to commit is refused
abbrev pub two_sessions : List Turn
two_sessions =
    say_plain create_t
    ∷ say_plain (stmts.Insert t (row 1 10))
    ∷ say_in 1 stmts.Begin
    ∷ say_in 2 stmts.Begin
    ∷ say_in 1 (stmts.Get t (int 1) None)
    ∷ say_in 2 (stmts.Get t (int 1) None)
    ∷ say_in 1 (stmts.Update t (row 1 11))
    ∷ say_in 2 (stmts.Update t (row 1 12))
    ∷ say_in 1 stmts.Commit
    ∷ say_in 2 stmts.Commit
    ∷ say_plain (stmts.Get t (int 1) None)
    ∷ []

-- the same at other clock seconds
abbrev pub say_plain_at : ℕ → Stmt → Turn
say_plain_at now stmt = Take (lines.Plain stmt) now

abbrev pub say_in_at : ℕ → ℕ → Stmt → Turn
say_in_at now n stmt = Take (lines.InSession n stmt) now

abbrev pub get_t : ℕ → Stmt
get_t k = stmts.Get t (int k) None

abbrev pub insert_t : ℕ → ℕ → Stmt
insert_t k v = stmts.Insert t (row k v)

-- behind a table t and the begin of session 1
abbrev pub with_one : List Turn → List Turn
with_one turns = say_plain create_t ∷ say_in 1 stmts.Begin ∷ turns

pub record WorkedExamples : Type 0 where
  pub second_is_refused : told_in new_world two_sessions ≡
      ok 1 ∷ ok 2 ∷ done ∷ done ∷ found 1 10 ∷ found 1 10 ∷ done ∷ done ∷ ok 3 ∷ conflicts 3 ∷ found 1 11 ∷ []
  -- another key is no conflict
  pub other_key_is_free : told_in new_world (with_one (say_in 1 (get_t 1) ∷ say_plain (insert_t 2 2) ∷ say_in 1 (insert_t 1 1) ∷ say_in 1 stmts.Commit ∷ [])) ≡
      ok 1 ∷ done ∷ missing ∷ ok 2 ∷ done ∷ ok 3 ∷ []
  -- it is, for a session that scanned the table
  pub scan_conflicts : told_in new_world (with_one (say_in 1 (stmts.Scan t None None) ∷ say_plain (insert_t 2 2) ∷ say_in 1 (insert_t 1 1) ∷ say_in 1 stmts.Commit ∷ [])) ≡
      ok 1 ∷ done ∷ Replied (replies.Scanned []) ∷ ok 2 ∷ done ∷ conflicts 2 ∷ []
  -- a session that stores nothing is tested too
  pub reader_conflicts : told_in new_world (with_one (say_in 1 (get_t 1) ∷ say_plain (insert_t 1 1) ∷ say_in 1 stmts.Commit ∷ say_in 1 stmts.Commit ∷ [])) ≡
      ok 1 ∷ done ∷ missing ∷ ok 2 ∷ conflicts 2 ∷ no_session ∷ []
  -- a read of a moment to come is changed by what is stored up to then
  pub future_read_conflicts : told_in new_world (with_one (say_in 1 (stmts.Get t (int 1) (Some 1000)) ∷ say_plain_at 9 (insert_t 1 1) ∷ say_in 1 (stmts.Get t (int 1) (Some 1000)) ∷ say_in_at 9 1 stmts.Commit ∷ [])) ≡
      ok 1 ∷ done ∷ missing ∷ ok 2 ∷ found 1 1 ∷ conflicts 2 ∷ []
  -- a read of the past is not changed, and is refused all the same: its key was touched
  pub past_read_conflicts : told_in new_world (say_plain create_t ∷ say_plain_at 5 (insert_t 2 2) ∷ say_in_at 9 1 stmts.Begin ∷ say_in_at 9 1 (stmts.Get t (int 1) (Some 3)) ∷ say_plain_at 9 (insert_t 1 1) ∷ say_in_at 9 1 (stmts.Get t (int 1) (Some 3)) ∷ say_in_at 9 1 stmts.Commit ∷ []) ≡
      ok 1 ∷ ok 2 ∷ done ∷ missing ∷ ok 3 ∷ missing ∷ conflicts 3 ∷ []
  -- so is a read behind the change, which sees it: what counts is the begin
  pub late_read_conflicts : told_in new_world (with_one (say_plain (insert_t 1 1) ∷ say_in 1 (get_t 1) ∷ say_in 1 stmts.Commit ∷ [])) ≡
      ok 1 ∷ done ∷ ok 2 ∷ found 1 1 ∷ conflicts 2 ∷ []
  -- a row that is deleted and put again was touched, by the delete first
  pub same_row_again_conflicts : told_in new_world (say_plain create_t ∷ say_plain (insert_t 1 1) ∷ say_in 1 stmts.Begin ∷ say_in 1 (get_t 1) ∷ say_plain (stmts.Delete t (int 1)) ∷ say_plain (insert_t 1 1) ∷ say_in 1 (get_t 1) ∷ say_in 1 stmts.Commit ∷ []) ≡
      ok 1 ∷ ok 2 ∷ done ∷ found 1 1 ∷ ok 3 ∷ ok 4 ∷ found 1 1 ∷ conflicts 3 ∷ []
  -- a refused statement has read
  pub refused_has_read : told_in new_world (with_one (say_in 1 (stmts.Update t (row 1 2)) ∷ say_plain (insert_t 1 1) ∷ say_in 1 stmts.Commit ∷ [])) ≡
      ok 1 ∷ done ∷ refused refusals.NoRow ∷ ok 2 ∷ conflicts 2 ∷ []
  -- a query over a span has read every key, whatever its span
  pub span_conflicts : told_in new_world (with_one (say_in 1 (stmts.OverSelect 5 6 t None) ∷ say_plain (insert_t 1 1) ∷ say_in 1 stmts.Commit ∷ [])) ≡
      ok 1 ∷ done ∷ Replied (replies.Over []) ∷ ok 2 ∷ conflicts 2 ∷ []
  -- a table that was not there is created by another
  pub existence_conflicts : told_in new_world (say_in 1 stmts.Begin ∷ say_in 1 (get_t 1) ∷ say_plain create_t ∷ say_in 1 (get_t 1) ∷ say_in 1 stmts.Commit ∷ []) ≡
      done ∷ refused refusals.NoTable ∷ ok 1 ∷ missing ∷ conflicts 1 ∷ []
  -- its own operations are seen by reads of now alone, and by no other session
  pub own_rows_are_seen : told_in new_world (with_one (say_in 1 (insert_t 1 1) ∷ say_in 1 (get_t 1) ∷ say_in 1 (stmts.Get t (int 1) (Some 0)) ∷ say_in 1 (stmts.History t (int 1)) ∷ say_in 1 (insert_t 1 2) ∷ say_plain (get_t 1) ∷ say_in 1 (stmts.Delete t (int 1)) ∷ say_in 1 (get_t 1) ∷ say_in 1 stmts.Commit ∷ say_plain (stmts.History t (int 1)) ∷ [])) ≡
      ok 1 ∷ done ∷ done ∷ found 1 1 ∷ missing ∷ Replied (replies.Told []) ∷ refused refusals.RowExists ∷ missing ∷ done ∷ missing ∷ ok 2
      ∷ Replied (replies.Told (record { start = 0; stop = Some 0; row = row 1 1 } ∷ [])) ∷ []
  -- a table of its own takes rows
  pub own_table_is_seen : told_in new_world (say_in 1 stmts.Begin ∷ say_in 1 create_t ∷ say_in 1 create_t ∷ say_in 1 (insert_t 1 1) ∷ say_in 1 (stmts.Scan t None None) ∷ say_plain (get_t 1) ∷ say_in 1 stmts.Commit ∷ say_plain (get_t 1) ∷ []) ≡
      done ∷ done ∷ refused refusals.TableExists ∷ done ∷ Replied (replies.Scanned (row 1 1 ∷ [])) ∷ refused refusals.NoTable ∷ ok 1 ∷ found 1 1 ∷ []
  -- a clock that was set back leaves the session, and the next commit may succeed
  pub clock_back_leaves : told_in new_world (with_one (say_in 1 (insert_t 1 1) ∷ say_plain_at 10 (insert_t 2 2) ∷ say_in_at 9 1 stmts.Commit ∷ say_in_at 10 1 stmts.Commit ∷ say_in_at 10 1 (get_t 1) ∷ [])) ≡
      ok 1 ∷ done ∷ done ∷ ok 2 ∷ refused (refusals.ClockBack 10) ∷ ok 3 ∷ no_session ∷ []
  -- with nothing to store the clock is not asked
  pub nothing_to_store : told_in new_world (with_one (say_in 1 (get_t 1) ∷ say_plain_at 10 (insert_t 2 2) ∷ say_in_at 9 1 stmts.Commit ∷ [])) ≡
      ok 1 ∷ done ∷ missing ∷ ok 2 ∷ done ∷ []
  -- a Frontier is no transaction
  pub frontier_is_free : told_in new_world (with_one (say_in 1 (stmts.Scan t None None) ∷ Reach 60 ∷ say_in_at 60 1 (insert_t 1 1) ∷ say_in_at 59 1 stmts.Commit ∷ say_in_at 60 1 stmts.Commit ∷ [])) ≡
      ok 1 ∷ done ∷ Replied (replies.Scanned []) ∷ done ∷ refused (refusals.ClockBack 60) ∷ ok 2 ∷ []
  -- nor is a policy, which has no moment either
  pub policy_is_free : told_in new_world (with_one (say_in 1 (stmts.Scan t None None) ∷ Divide 1 8 0 1 ∷ say_in 1 (insert_t 1 1) ∷ say_in 1 stmts.Commit ∷ [])) ≡
      ok 1 ∷ done ∷ Replied (replies.Scanned []) ∷ done ∷ ok 2 ∷ []
  -- begin, abort, and what is dropped
  pub begins_and_ends : told_in new_world (say_in 3 stmts.Commit ∷ say_in 3 stmts.Abort ∷ say_in 3 stmts.Begin ∷ say_in 3 stmts.Begin ∷ say_in 3 create_t ∷ say_in 3 stmts.Abort ∷ say_in 3 stmts.Begin ∷ Open new_world.store ∷ say_in 3 (get_t 1) ∷ say_plain (get_t 1) ∷ []) ≡
      no_session ∷ no_session ∷ done ∷ session_open ∷ done ∷ done ∷ done ∷ no_session ∷ refused refusals.NoTable ∷ []
  -- with room for no operation more, the tables still refuse first: so a statement that is refused for the size has read
  pub size_comes_last : told_in new_world (say_plain create_t ∷ say_plain (insert_t 9 9) ∷ say_in 1 stmts.Begin
      ∷ (replicate 256 (say_in 1 (stmts.Update t (row 9 9))) ++ (say_in 1 (insert_t 1 1) ∷ say_plain (insert_t 1 1) ∷ say_in 1 (insert_t 1 1) ∷ say_in 1 stmts.Commit ∷ []))) ≡
      ok 1 ∷ ok 2 ∷ done ∷ (replicate 256 done ++ (refused refusals.TooManyOps ∷ ok 3 ∷ refused refusals.RowExists ∷ conflicts 3 ∷ []))
