-- Which sessions are begun after a line, by the reply to it.
use Rattle.std.proofs.Common.{◌≡◌, ℕ, Bool, true, false, eqb, List, [], ◌∷◌, ◌++◌, Option, Some, None, Result, Ok, Err, refl, sym, ap, subst, arith}
use Rattle.std.specs.Prelude.{if◌then◌else◌, ◌&&◌, not, length, IfSome}
use Rattle.std.specs.Option.{is_some}
use Rattle.std.proofs.lemmas.Bool.Decides.{nat_tests}
use Rattle.std.proofs.lemmas.List.{append_cancel_left}
use Rattle.tuple_bytes.specs.declared.op.Op.{Op}
use Rattle.tuple_bytes.specs.declared.item.Item.{Item}
use Rattle.tuple_bytes.specs.declared.item.Item.TheVariants as items
use Rattle.tuple_bytes.specs.Spelling.{spell_item}
use Rattle.history_model.specs.Placing.{is_full}
use Rattle.stmt_text.specs.declared.error.ParseFail.{ParseFail}
use Rattle.stmt_text.specs.declared.error.ParseFail.TheVariants as parses
use Rattle.stmt_text.specs.declared.stmt.Stmt.{Stmt}
use Rattle.stmt_text.specs.declared.stmt.Stmt.TheVariants as stmts
use Rattle.stmt_text.specs.declared.line.Line.{Line}
use Rattle.stmt_text.specs.declared.line.Line.TheVariants as lines
use Rattle.stmt_text.specs.declared.kind.LineKind.{LineKind}
use Rattle.stmt_text.specs.declared.kind.LineKind.TheVariants as kinds
use Rattle.stmt_text.specs.Kinds.{stmt_kind, line_kind}
use Rattle.stmt_text.specs.Lines.{answer}
use Rattle.store_engine.specs.declared.fail.StoreFail.{StoreFail}
use Rattle.store_engine.specs.declared.fail.StoreFail.TheVariants as stores
use Rattle.store_engine.specs.Refusals.{Tail, where_true, is_back, is_late, is_too_long, are_too_many, next_txn, item_fault, commit_fault}
use Rattle.store_engine.specs.Texts as store_texts
use Rattle.statement_core.specs.Database as statements
use Rattle.statement_core.specs.Replies.{reply_text, refusal_text}
use Rattle.statement_core.specs.Refusing.{refused_by_store}
use Rattle.session_model.specs.Service.{Session, Service, put_at, new_session}
use Rattle.session_model.specs.Statements.{say}
use Rattle.session_model.specs.Steps as session_steps
use Rattle.session_model.specs.Steps.{reply_of, commit, conflict, unless_conflict, store_pending, in_session, heard, serve}
use Rattle.validator.specs.declared.fail.AuditFail.{AuditFail}
use Rattle.validator.specs.Notarizing.{Heard, Intent}
use Rattle.store_world.specs.World.{World}
use Rattle.store_world.specs.Found.{Found}
use Rattle.store_world.specs.Steps.{Step, step, refuses, why_none, on_tables, after_statement, notarized, unless, carried_out, intent_in, turn_in, turns_world, turned, has_more, algorithm_of}
use Rattle.store_world.proofs.Validating.{with_audit, with_validated}
use Rattle.store_world.proofs.Acknowledging.{by_line}
use Rattle.store_world.proofs.Analysing.{analysed_stays}
use Rattle.line_runs.specs.Running.{Running, Timed, carry, answered, seconds_of, said_by, set_moment}
use Rattle.line_runs.specs.Sees.{leaves_session, after_stmt, begun_after}

-- ---- one session among all

abbrev Begun : Type 0
Begun = ℕ → Option Session

-- whether session n is begun after a statement of session m
abbrev after : ℕ → ℕ → Bool → Stmt → Bool → Bool
after n m leaves stmt was = if eqb n m && not leaves then after_stmt stmt was else was

module _ (f : Begun) (m n : ℕ) (leaves : Bool) (stmt : Stmt) where
  -- what a session of this number is then
  abbrev Is : Bool → Type 0
  Is b = b ≡ (if not leaves then after_stmt stmt (is_some (f m)) else is_some (f m))

  -- that session is another one, or none
  put_begun : (s : Option Session) → Is (is_some s) → is_some (put_at m s f n) ≡ after n m leaves stmt (is_some (f n))
  put_begun s is = elim (eqb n m) as (λ b. (eqb n m ≡ b) → is_some (if b then s else f n) ≡ (if b && not leaves then after_stmt stmt (is_some (f n)) else is_some (f n))) [
    | true ↦ λ e. let same : n ≡ m = grind (arith, nat_tests, e) in subst (λ k. is_some s ≡ (if not leaves then after_stmt stmt (is_some (f k)) else is_some (f k))) (sym same) is
    | false ↦ λ e. refl
  ] refl

  -- it stays
  same_begun : Is (is_some (f m)) → is_some (f n) ≡ after n m leaves stmt (is_some (f n))
  same_begun is = elim (eqb n m) as (λ b. (eqb n m ≡ b) → is_some (f n) ≡ (if b && not leaves then after_stmt stmt (is_some (f n)) else is_some (f n))) [
    | true ↦ λ e. let same : n ≡ m = grind (arith, nat_tests, e) in subst (λ k. is_some (f k) ≡ (if not leaves then after_stmt stmt (is_some (f k)) else is_some (f k))) (sym same) is
    | false ↦ λ e. refl
  ] refl

-- a refusal that leaves it
left_begun : (f : Begun) (m n : ℕ) (leaves : Bool) (stmt : Stmt) → leaves ≡ true → is_some (f n) ≡ after n m leaves stmt (is_some (f n))
left_begun f m n leaves stmt left = same_begun f m n leaves stmt (rw left refl)

-- ---- a statement of a session

if_same : (leaves : Bool) (stmt : Stmt) → after_stmt stmt true ≡ true → (if not leaves then after_stmt stmt true else true) ≡ true
if_same true stmt same = refl
if_same false stmt same = same

-- what refuses a commit
abbrev IsRefusal : StoreFail → Type 0
IsRefusal stores.NotAStore = ⊥
IsRefusal stores.OldFormat = ⊥
IsRefusal stores.DiskFault = ⊥
IsRefusal stores.Closed = ⊥
IsRefusal stores.NoMemory = ⊥
IsRefusal fail = Unit {0}

where_refuses : (b : Bool) (fail : StoreFail) (rest : Option StoreFail) → IsRefusal fail → IfSome rest IsRefusal → IfSome (where_true b fail rest) IsRefusal
where_refuses true fail rest is other = is
where_refuses false fail rest is other = other

item_refuses : (t : Tail) (item : Item) → IfSome (item_fault t false item) IsRefusal
item_refuses t item =
    where_refuses (is_too_long (spell_item item)) stores.TooLong (where_true (is_full t.end (length (spell_item item))) stores.StoreFull None) tt
    (where_refuses (is_full t.end (length (spell_item item))) stores.StoreFull None tt tt)

-- an open store refuses a commit by a refusal
commit_refuses : (t : Tail) (ops : List Op) (now : ℕ) → IfSome (commit_fault t false ops now) IsRefusal
commit_refuses t ops now =
    where_refuses (is_back t now) (stores.ClockBack t.last) _ tt
    (where_refuses (is_late t now) stores.TooLate _ tt
    (where_refuses (are_too_many ops) stores.TooManyOps _ tt (item_refuses t (items.Txn (next_txn t ops now)))))

module _ (w : Service) (m n now : ℕ) where
  -- what is served says by its text what becomes of the session
  abbrev Turns : Stmt → session_steps.Served → Type 0
  Turns stmt s = is_some (s.world.sessions n) ≡ after n m (leaves_session (reply_text (reply_of s.answer))) stmt (is_some (w.sessions n))

  -- a session that isn't begun
  none_turns : (stmt : Stmt) → Turns stmt (in_session w m None stmt now)
  unfolding reply_text refusal_text
  none_turns stmts.Begin = put_begun w.sessions m n false stmts.Begin (Some (new_session w)) refl
  none_turns stmt = left_begun w.sessions m n true stmt refl

  -- it ends
  ends : (stmt : Stmt) → after_stmt stmt (is_some (w.sessions m)) ≡ false → is_some (put_at m None w.sessions n) ≡ after n m false stmt (is_some (w.sessions n))
  ends stmt is = put_begun w.sessions m n false stmt None (sym is)

  -- what a store refuses
  refused_turns : (fail : StoreFail) → IsRefusal fail → Turns stmts.Commit (session_steps.answers w (session_steps.Replied (refused_by_store fail)))
  unfolding reply_text refusal_text store_texts.refusal_text
  refused_turns (stores.ClockBack last) is = left_begun w.sessions m n true stmts.Commit refl
  refused_turns stores.TooLate is = left_begun w.sessions m n true stmts.Commit refl
  refused_turns stores.TooManyOps is = left_begun w.sessions m n true stmts.Commit refl
  refused_turns stores.TooLong is = left_begun w.sessions m n true stmts.Commit refl
  refused_turns stores.StoreFull is = left_begun w.sessions m n true stmts.Commit refl
  refused_turns stores.NotAStore is = absurd is
  refused_turns stores.OldFormat is = absurd is
  refused_turns stores.DiskFault is = absurd is
  refused_turns stores.Closed is = absurd is
  refused_turns stores.NoMemory is = absurd is

  stored_turns : (ops : List Op) (o : Option StoreFail) → IfSome o IsRefusal → Turns stmts.Commit (session_steps.stored w m ops now o)
  unfolding reply_text
  stored_turns ops None is = ends stmts.Commit refl
  stored_turns ops (Some fail) is = refused_turns fail is

  pending_turns : (ops : List Op) → Turns stmts.Commit (store_pending w m ops now)
  unfolding reply_text
  pending_turns [] = ends stmts.Commit refl
  pending_turns (op ∷ ops) = stored_turns (op ∷ ops) (commit_fault (statements.tail_of_database w.store) false (op ∷ ops) now) (commit_refuses (statements.tail_of_database w.store) (op ∷ ops) now)

  conflict_turns : (ops : List Op) (o : Option ℕ) → Turns stmts.Commit (unless_conflict w m ops now o)
  unfolding reply_text refusal_text
  conflict_turns ops (Some number) = ends stmts.Commit refl
  conflict_turns ops None = pending_turns ops

  -- it stays begun
  stays : (leaves : Bool) (stmt : Stmt) (s : Session) → w.sessions m ≡ Some s → after_stmt stmt true ≡ true → (next : Session) → is_some (put_at m (Some next) w.sessions n) ≡ after n m leaves stmt (is_some (w.sessions n))
  stays leaves stmt s is same next = put_begun w.sessions m n leaves stmt (Some next) (sym (rw is (if_same leaves stmt same)))

  -- one that is
  some_turns : (s : Session) (stmt : Stmt) → w.sessions m ≡ Some s → Turns stmt (in_session w m (Some s) stmt now)
  unfolding reply_text refusal_text
  some_turns s stmts.Begin is = left_begun w.sessions m n true stmts.Begin refl
  some_turns s stmts.Commit is = conflict_turns s.pending (conflict w s)
  some_turns s stmts.Abort is = ends stmts.Abort refl
  some_turns s stmt is = stays (leaves_session (reply_text (say w.store s.pending stmt).reply)) stmt s is refl (heard s stmt (say w.store s.pending stmt))

  session_turns : (o : Option Session) (stmt : Stmt) → w.sessions m ≡ o → Turns stmt (in_session w m o stmt now)
  session_turns None stmt is = none_turns stmt
  session_turns (Some s) stmt is = some_turns s stmt is

-- ---- a line of a world

module _ (w : World) (n : ℕ) where
  -- a step says by its text what becomes of the session
  abbrev StepTurns : Line → Step → Type 0
  StepTurns line x = is_some (x.world.sessions n) ≡ begun_after (Ok line) x.text n (is_some (w.sessions n))

  served_turns : (store : statements.Database) (line : Line) (now : ℕ) → StepTurns line (after_statement w (serve (record { store = store; sessions = w.sessions }) line now))
  unfolding serve
  served_turns store (lines.Plain stmt) now = refl
  served_turns store (lines.InSession m stmt) now = session_turns (record { store = store; sessions = w.sessions }) m n now (w.sessions m) stmt refl
  served_turns store lines.Blank now = refl
  served_turns store (lines.Drill event) now = refl

  none_left : (is_old : Bool) (line : Line) → StepTurns line (refuses w (why_none is_old))
  none_left true (lines.InSession m stmt) = left_begun w.sessions m n true stmt refl
  none_left false (lines.InSession m stmt) = left_begun w.sessions m n true stmt refl
  none_left is_old (lines.Plain stmt) = refl
  none_left is_old lines.Blank = refl
  none_left is_old (lines.Drill event) = refl

  tables_turn : (o : Option statements.Database) (line : Line) (now : ℕ) → StepTurns line (on_tables w o line now)
  tables_turn None line now = none_left (is_some w.old_history) line
  tables_turn (Some store) line now = served_turns store line now

  unless_turns : (fault : Option AuditFail) (stmt : Stmt) (new : World) (x : Step) → new.sessions ≡ w.sessions → x.world.sessions ≡ w.sessions → StepTurns (lines.Plain stmt) (unless fault new x)
  unless_turns None stmt new x one other = ap (λ (f : Begun). is_some (f n)) other
  unless_turns (Some fail) stmt new x one other = ap (λ (f : Begun). is_some (f n)) one

  carried_same : (store : statements.Database) (i : Intent) (refusal : Option AuditFail) → (carried_out w store i refusal).world.sessions ≡ w.sessions
  carried_same store i None = refl
  carried_same store i (Some fail) = refl

  notarized_turns : (o : Option statements.Database) (now : ℕ) (heard : Heard) (refusal : Option AuditFail) → StepTurns (lines.Plain stmts.Notarize) (notarized w o now heard refusal)
  notarized_turns None now heard refusal = refl
  notarized_turns (Some store) now heard refusal = unless_turns (intent_in store now heard).fault stmts.Notarize w (carried_out w store (intent_in store now heard) refusal) refl (carried_same store (intent_in store now heard) refusal)

  turned_turns : (o : Option statements.Database) (heard : Heard) (k algs : ℕ) → StepTurns (lines.Plain (stmts.Policy k algs)) (turned w o heard k algs)
  turned_turns None heard k algs = refl
  turned_turns (Some store) heard k algs = unless_turns (turn_in store heard k algs).fault (stmts.Policy k algs) w (turns_world w store (turn_in store heard k algs)) refl refl

  step_turns : (line : Line) (now : ℕ) (found : Found) → StepTurns line (step w line now found)
  step_turns line now found = by_line StepTurns w line now found (λ line. tables_turn w.store line now) (notarized_turns w.store now found.heard found.refusal) (turned_turns w.store found.heard)
      (ap (λ (f : Begun). is_some (f n)) (with_validated w now found.verdict found.refusal).same.sessions)
      (ap (λ (f : Begun). is_some (f n)) (with_audit (has_more w) w now found.verdict found.refusal).same.sessions)
      (λ algorithm era. ap (λ (x : World). is_some (x.sessions n)) (analysed_stays w (algorithm_of algorithm) found.analysis found.body))

-- ---- a line of a run

module _ (scripted : Bool) (r : Running) (n : ℕ) where
  -- behind a line that was read so, to which this was replied
  abbrev RunTurns : Result Line ParseFail → List ℕ → Running → Type 0
  RunTurns read text next = is_some (next.world.sessions n) ≡ begun_after read text n (is_some (r.world.sessions n))

  moment_turns : (b : Bool) (moment : ℕ) (stmt : Stmt) (text : List ℕ) → RunTurns (Ok (lines.Plain stmt)) text (set_moment b r moment)
  moment_turns true moment stmt text = refl
  moment_turns false moment stmt text = refl

  plain_turns : (kind : LineKind) (stmt : Stmt) (now : ℕ) (found : Found) (text : List ℕ) → RunTurns (Ok (lines.Plain stmt)) text (said_by kind scripted now found r (lines.Plain stmt))
  plain_turns kinds.Blank stmt now found text = refl
  plain_turns (kinds.InWorld part) stmt now found text = step_turns r.world n (lines.Plain stmt) now found
  plain_turns (kinds.SetsMoment moment) stmt now found text = moment_turns scripted moment stmt text
  plain_turns kinds.OutsideScripts stmt now found text = refl

  line_turns : (line : Line) (now : ℕ) (found : Found) (text : List ℕ) → (said_by (line_kind line) scripted now found r line).text ≡ r.text ++ text → RunTurns (Ok line) text (said_by (line_kind line) scripted now found r line)
  line_turns lines.Blank now found text is = refl
  line_turns (lines.Plain stmt) now found text is = plain_turns (stmt_kind stmt) stmt now found text
  line_turns (lines.InSession m stmt) now found text is =
      subst (λ (reply : List ℕ). RunTurns (Ok (lines.InSession m stmt)) reply (said_by (line_kind (lines.InSession m stmt)) scripted now found r (lines.InSession m stmt)))
      (append_cancel_left r.text (step r.world (lines.InSession m stmt) now found).text text is) (step_turns r.world n (lines.InSession m stmt) now found)
  line_turns (lines.Drill event) now found text is = refl

  read_turns : (read : Result Line ParseFail) (now : ℕ) (found : Found) (text : List ℕ) → (answered scripted now found r read).text ≡ r.text ++ text → RunTurns read text (answered scripted now found r read)
  read_turns (Ok line) now found text is = line_turns line now found text is
  read_turns (Err parses.Syntax) now found text is = refl
  read_turns (Err parses.NumberTooWide) now found text is = refl
  read_turns (Err parses.NoMemory) now found text is = refl

  -- the reply to a line says whether a session is begun then
  pub carry_turns : (t : Timed) (text : List ℕ) → (carry scripted r t).text ≡ r.text ++ text → RunTurns (answer t.line) text (carry scripted r t)
  unfolding carry
  carry_turns t text is = read_turns (answer t.line) (seconds_of scripted r t.second) t.found text is
