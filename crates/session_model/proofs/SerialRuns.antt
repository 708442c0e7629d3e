-- A run is answered as its serial run, and stores the same.
use Rattle.std.proofs.Common.{◌≡◌, ℕ, Bool, true, false, nat_lt, if◌then◌else◌, Option, Some, None, List, [], ◌∷◌, ◌++◌, length, map, refl, sym, ap, subst, ◌∙◌}
use Rattle.tuple_bytes.specs.declared.op.Op.{Op}
use Rattle.tuple_bytes.specs.declared.item.Item.TheVariants as items
use Rattle.tuple_bytes.specs.Limits.{max_ops, max_payload}
use Rattle.tuple_bytes.specs.Spelling.{spell_item}
use Rattle.history_model.specs.History.{last_moment}
use Rattle.stmt_text.specs.declared.stmt.Stmt.{Stmt}
use Rattle.stmt_text.specs.declared.stmt.Stmt.TheVariants as stmts
use Rattle.stmt_text.specs.declared.line.Line.{Line}
use Rattle.stmt_text.specs.declared.line.Line.TheVariants as lines
use Rattle.store_engine.specs.declared.fail.StoreFail.{StoreFail}
use Rattle.store_engine.specs.declared.fail.StoreFail.TheVariants as fails
use Rattle.store_engine.specs.Refusals.{Tail, where_true, is_back, is_late, is_full, next_txn, commit_fault}
use Rattle.statement_core.specs.declared.reply.Reply.{Reply}
use Rattle.statement_core.specs.declared.reply.Reply.TheVariants as replies
use Rattle.statement_core.specs.Database as stores
use Rattle.statement_core.specs.Refusing.{refused_by_store}
use Rattle.session_model.specs.Service.{Session, Service, with_store}
use Rattle.session_model.specs.Steps.{Replied, Served, stored, store_pending, unless_conflict, conflict, in_session, serve}
use Rattle.session_model.specs.Alone.{Exchange, IsAlone}
use Rattle.session_model.specs.Runs.{Turn, Logs, no_logs, noted, told_in, world_after, reached, divided, opened}
use Rattle.session_model.specs.Serial.{IsStored, WasAlone, NoneBegun}
use Rattle.session_model.specs.Pieces.{piece, turns_for, serial_run, answers_for, serial_answers, RunsAreAsSerial}
use Rattle.session_model.specs.Runs as turns
use Rattle.session_model.proofs.Serials.{AreHeld, was_alone, line_goes, reach_held, divide_held, none_held}
use Rattle.session_model.proofs.Pieces.{world_of, stmts_of, piece_told, piece_stored, piece_none, IsFree, AreSpoken, noted_spoken}

told_append : (a b : List Turn) (w : Service) → told_in w (a ++ b) ≡ told_in w a ++ told_in (world_after w a) b
told_append [] b w = refl
told_append (turns.Take line now ∷ a) b w = ap (λ l. (serve w line now).answer ∷ l) (told_append a b (serve w line now).world)
told_append (turns.Reach moment ∷ a) b w = told_append a b (reached w moment)
told_append (turns.Divide tile granule k algs ∷ a) b w = told_append a b (divided w tile granule k algs)
told_append (turns.Open store ∷ a) b w = told_append a b (opened store)

after_append : (a b : List Turn) (w : Service) → world_after w (a ++ b) ≡ world_after (world_after w a) b
after_append [] b w = refl
after_append (turns.Take line now ∷ a) b w = after_append a b (serve w line now).world
after_append (turns.Reach moment ∷ a) b w = after_append a b (reached w moment)
after_append (turns.Divide tile granule k algs ∷ a) b w = after_append a b (divided w tile granule k algs)
after_append (turns.Open store ∷ a) b w = after_append a b (opened store)

-- a commit that is refused is no `ok`
abbrev not_ok : Option StoreFail → Type 0
not_ok None = ⊥
not_ok (Some fail) = IsStored (refused_by_store fail) → ⊥

no_ok : (t : Tail) (ops : List Op) (now : ℕ) (fail : StoreFail) → commit_fault t false ops now ≡ Some fail → IsStored (refused_by_store fail) → ⊥
no_ok t ops now fail e = by (is_back t now) (is_late t now) (nat_lt max_ops (length ops)) (nat_lt max_payload (length (spell_item (items.Txn (next_txn t ops now))))) (is_full t.end (length (spell_item (items.Txn (next_txn t ops now))))) e
  where
    by : (a b c d f : Bool)
        → where_true a (fails.ClockBack t.last) (where_true b fails.TooLate (where_true c fails.TooManyOps (where_true d fails.TooLong (where_true false fails.Closed (where_true f fails.StoreFull None))))) ≡ Some fail
        → IsStored (refused_by_store fail) → ⊥
    by true b c d f e = subst (λ (x : Option StoreFail). not_ok x) e (λ s. s)
    by false true c d f e = subst (λ (x : Option StoreFail). not_ok x) e (λ s. s)
    by false false true d f e = subst (λ (x : Option StoreFail). not_ok x) e (λ s. s)
    by false false false true f e = subst (λ (x : Option StoreFail). not_ok x) e (λ s. s)
    by false false false false true e = subst (λ (x : Option StoreFail). not_ok x) e (λ s. s)
    by false false false false false e = cc

-- what one line is in the serial run, from a world x with the same store and no session
record IsLineSerial (w x : Service) (logs : Logs) (line : Line) (now : ℕ) (next : Served) : Type 0 where
  answers_are : told_in x (turns_for logs line now next.answer) ≡ answers_for logs line next.answer
  store_is : (world_after x (turns_for logs line now next.answer)).store ≡ next.world.store
  none : NoneBegun (world_after x (turns_for logs line now next.answer))

module _ (w : Service) (logs : Logs) (held : AreHeld w logs) (spoken : AreSpoken logs) (sessions : ℕ → Option Session) (none : (k : ℕ) → sessions k ≡ None) where
  abbrev x : Service
  x = world_of w.store sessions

  module _ (n now : ℕ) where
    module _ (s : Session) (is : w.sessions n ≡ Some s) (free : conflict w s ≡ None) where
      alike : IsAlone w.store (logs n) s.pending
      alike = subst (WasAlone w.store (logs n)) is (was_alone w logs held n now s is free)

      told : told_in x (piece n now (stmts_of (logs n))) ≡ Replied replies.Done ∷ (map (λ (t : Exchange). Replied t.reply) (logs n) ++ (store_pending w n s.pending now).answer ∷ [])
      told = piece_told w n now (logs n) (spoken n) s.pending alike sessions (none n)

      same : (world_after x (piece n now (stmts_of (logs n)))).store ≡ (store_pending w n s.pending now).world.store
      same = piece_stored w n now (logs n) (spoken n) s.pending alike sessions (none n)

      gone : IsFree w.store s.pending now → NoneBegun (world_after x (piece n now (stmts_of (logs n))))
      gone free_of = piece_none w n now (logs n) (spoken n) s.pending alike sessions (none n) none free_of

    -- a refusal leaves nothing in the serial run
    refused : (reply : Reply) → (IsStored reply → ⊥) → IsLineSerial w x logs (lines.InSession n stmts.Commit) now (record { world = w; answer = Replied reply })
    refused (replies.Committed number) bad = absurd (bad tt)
    refused replies.Done bad = absurd (bad tt)
    refused reply bad = record { answers_are = refl; store_is = refl; none = none }

    stored_line : (s : Session) → w.sessions n ≡ Some s → conflict w s ≡ None → (op : Op) (ops : List Op) → s.pending ≡ op ∷ ops
        → (f : Option StoreFail) → commit_fault (stores.tail_of_database w.store) false (op ∷ ops) now ≡ f → IsLineSerial w x logs (lines.InSession n stmts.Commit) now (stored w n (op ∷ ops) now f)
    stored_line s is free op ops pends None e =
        let line : store_pending w n s.pending now ≡ stored w n (op ∷ ops) now None = ap (λ l. store_pending w n l now) pends ∙ ap (stored w n (op ∷ ops) now) e in
        record {
          answers_are = told s is free ∙ ap (λ (st : Served). Replied replies.Done ∷ (map (λ (t : Exchange). Replied t.reply) (logs n) ++ st.answer ∷ [])) line;
          store_is = same s is free ∙ ap (λ (st : Served). st.world.store) line;
          none = gone s is free (subst (λ l. IsFree w.store l now) (sym pends) e);
        }
    stored_line s is free op ops pends (Some fail) e = refused (refused_by_store fail) (no_ok (stores.tail_of_database w.store) (op ∷ ops) now fail e)

    pending_line : (s : Session) → w.sessions n ≡ Some s → conflict w s ≡ None → (ops : List Op) → s.pending ≡ ops → IsLineSerial w x logs (lines.InSession n stmts.Commit) now (store_pending w n ops now)
    pending_line s is free [] pends = record {
      answers_are = told s is free ∙ ap (λ l. Replied replies.Done ∷ (map (λ (t : Exchange). Replied t.reply) (logs n) ++ (store_pending w n l now).answer ∷ [])) pends;
      store_is = same s is free ∙ ap (λ l. (store_pending w n l now).world.store) pends;
      none = gone s is free (subst (λ l. IsFree w.store l now) (sym pends) tt);
    }
    pending_line s is free (op ∷ ops) pends = stored_line s is free op ops pends (commit_fault (stores.tail_of_database w.store) false (op ∷ ops) now) refl

    commit_line : (s : Session) → w.sessions n ≡ Some s → (c : Option ℕ) → conflict w s ≡ c → IsLineSerial w x logs (lines.InSession n stmts.Commit) now (unless_conflict w n s.pending now c)
    commit_line s is (Some number) e = record { answers_are = refl; store_is = refl; none = none }
    commit_line s is None e = pending_line s is e s.pending refl

    session_line : (o : Option Session) → w.sessions n ≡ o → (stmt : Stmt) → IsLineSerial w x logs (lines.InSession n stmt) now (in_session w n o stmt now)
    session_line None is stmts.Begin = record { answers_are = refl; store_is = refl; none = none }
    session_line None is stmt = record { answers_are = refl; store_is = refl; none = none }
    session_line (Some s) is stmts.Begin = record { answers_are = refl; store_is = refl; none = none }
    session_line (Some s) is stmts.Commit = commit_line s is (conflict w s) refl
    session_line (Some s) is stmts.Abort = record { answers_are = refl; store_is = refl; none = none }
    session_line (Some s) is stmt = record { answers_are = refl; store_is = refl; none = none }

  line_serial : (line : Line) (now : ℕ) → IsLineSerial w x logs line now (serve w line now)
  unfolding serve
  line_serial (lines.Plain stmt) now = record { answers_are = refl; store_is = refl; none = none }
  line_serial (lines.InSession n stmt) now = session_line n now (w.sessions n) refl stmt
  line_serial lines.Blank now = record { answers_are = refl; store_is = refl; none = none }
  line_serial (lines.Drill event) now = record { answers_are = refl; store_is = refl; none = none }

-- ---- a run

-- from a world with the same store and no session
record IsRunSerial (w x : Service) (logs : Logs) (ts : List Turn) : Type 0 where
  answers_are : told_in x (serial_run w logs ts) ≡ serial_answers w logs ts
  store_is : (world_after x (serial_run w logs ts)).store ≡ (world_after w ts).store

reach_same : (w : Service) (sessions : ℕ → Option Session) (moment : ℕ) → (reached (world_of w.store sessions) moment ≡ world_of (reached w moment).store sessions)
reach_same w sessions moment = by (nat_lt (last_moment w.store.items) moment)
  where
    by : (b : Bool) → (if b then with_store (world_of w.store sessions) (stores.with_frontier w.store moment) else world_of w.store sessions) ≡ world_of (if b then with_store w (stores.with_frontier w.store moment) else w).store sessions
    by true = refl
    by false = refl

runs : (ts : List Turn) (w : Service) (logs : Logs) → AreHeld w logs → AreSpoken logs → (sessions : ℕ → Option Session) → ((k : ℕ) → sessions k ≡ None) → IsRunSerial w (world_of w.store sessions) logs ts
runs [] w logs held spoken sessions none = record { answers_are = refl; store_is = refl }
runs (turns.Take line now ∷ rest) w logs held spoken sessions none =
    let next = serve w line now in
    let one = line_serial w logs held spoken sessions none line now in
    let here = turns_for logs line now next.answer in
    let met = world_after (world_of w.store sessions) here in
    let more = runs rest next.world (noted logs line next.answer) (line_goes w logs held line now).1 (noted_spoken logs line next.answer spoken) met.sessions one.none in
    let is : met ≡ world_of next.world.store met.sessions = ap (λ (st : stores.Database). world_of st met.sessions) one.store_is in
    record {
      answers_are =
          told_append here (serial_run next.world (noted logs line next.answer) rest) (world_of w.store sessions)
          ∙ ap (λ l. l ++ told_in met (serial_run next.world (noted logs line next.answer) rest)) one.answers_are
          ∙ ap (λ (y : Service). answers_for logs line next.answer ++ told_in y (serial_run next.world (noted logs line next.answer) rest)) is
          ∙ ap (λ l. answers_for logs line next.answer ++ l) more.answers_are;
      store_is =
          ap (λ (y : Service). y.store) (after_append here (serial_run next.world (noted logs line next.answer) rest) (world_of w.store sessions))
          ∙ ap (λ (y : Service). (world_after y (serial_run next.world (noted logs line next.answer) rest)).store) is
          ∙ more.store_is;
    }
runs (turns.Reach moment ∷ rest) w logs held spoken sessions none =
    let more = runs rest (reached w moment) logs (reach_held w logs held moment) spoken sessions none in
    let is = reach_same w sessions moment in
    record {
      answers_are = ap (λ (y : Service). told_in y (serial_run (reached w moment) logs rest)) is ∙ more.answers_are;
      store_is = ap (λ (y : Service). (world_after y (serial_run (reached w moment) logs rest)).store) is ∙ more.store_is;
    }
runs (turns.Divide tile granule k algs ∷ rest) w logs held spoken sessions none =
    let more = runs rest (divided w tile granule k algs) logs (divide_held w logs held tile granule k algs) spoken sessions none in
    record { answers_are = more.answers_are; store_is = more.store_is }
runs (turns.Open store ∷ rest) w logs held spoken sessions none =
    let more = runs rest (opened store) logs (λ k. tt) spoken (λ n. None) (λ k. refl) in
    record { answers_are = more.answers_are; store_is = more.store_is }

pub runs_are_as_serial : RunsAreAsSerial
runs_are_as_serial w ts none =
    let is = runs ts w no_logs (none_held w none) (λ n. tt) w.sessions none in
    record { answers_are = is.answers_are; store_is = is.store_is }
