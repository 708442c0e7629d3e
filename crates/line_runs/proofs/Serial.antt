-- Every run is serial: along its lines, what a session was told is what its statements are told alone over each later history
-- that leaves what it read.
use Rattle.std.proofs.Common.{◌≡◌, ◌∙◌, ℕ, Bool, true, false, eqb, List, [], ◌∷◌, ◌++◌, map, Option, Some, None, Result, Ok, Err, refl, sym, ap, subst, arith}
use Rattle.std.specs.Prelude.{if◌then◌else◌, ◌&&◌, nat_lt, nat_le, IsSome}
use Rattle.std.proofs.lemmas.Bool.Decides.{nat_tests}
use Rattle.std.proofs.lemmas.List.{map-append}
use Rattle.tuple_bytes.specs.declared.item.Item.TheVariants as items
use Rattle.tuple_bytes.specs.declared.op.Op.{Op}
use Rattle.history_model.specs.History.{history, last_moment}
use Rattle.digest_model.specs.Layout.{layout, first_granule}
use Rattle.notary_link.specs.declared.mark.Mark.{Mark}
use Rattle.stmt_text.specs.declared.error.ParseFail.{ParseFail}
use Rattle.stmt_text.specs.declared.error.ParseFail.TheVariants as parses
use Rattle.stmt_text.specs.declared.stmt.Stmt.{Stmt}
use Rattle.stmt_text.specs.declared.stmt.Stmt.TheVariants as stmts
use Rattle.stmt_text.specs.declared.line.Line.{Line}
use Rattle.stmt_text.specs.declared.line.Line.TheVariants as lines
use Rattle.stmt_text.specs.Lines.{answer}
use Rattle.statement_core.specs.declared.reply.Reply.{Reply}
use Rattle.statement_core.specs.Replies.{reply_text, is_refusal}
use Rattle.statement_core.specs.Database as statements
use Rattle.session_model.specs.Service as sessions
use Rattle.session_model.specs.Service.{Session, put_at}
use Rattle.session_model.specs.Statements.{say}
use Rattle.session_model.specs.Steps as session_steps
use Rattle.session_model.specs.Steps.{Answer, Replied, Stopped, reply_of, commit, conflict, store_pending, unless_conflict, in_session}
use Rattle.session_model.specs.Alone.{Alone, Exchange, IsAlone, alone}
use Rattle.session_model.specs.Runs as runs
use Rattle.session_model.specs.Serial.{WasAlone}
use Rattle.session_model.proofs.Serials.{AreHeld, line_goes, reach_held, divide_held, none_held, was_alone}
use Rattle.session_model.proofs.Promising.{commits_are_alike}
use Rattle.validator.specs.declared.verdict.Verdict.{Verdict}
use Rattle.validator.specs.declared.fail.AuditFail.{AuditFail}
use Rattle.validator.specs.Tiles.{tiles_at, end_of}
use Rattle.validator.specs.Notarizing.{Heard}
use Rattle.validator.specs.Turning.{sealed_tiles}
use Rattle.validator.specs.Verdicts.{mark_of}
use Rattle.validator.specs.Texts.{verdict_text}
use Rattle.store_world.specs.World.{World}
use Rattle.store_world.specs.Found.{Found}
use Rattle.store_world.specs.Steps.{Step, step, on_tables, after_statement, notarized, unless, carried_out, intent_in, reached, turn_in, turns_world, turned, validated, has_more, piece_audited, marked, algorithm_of}
use Rattle.store_world.proofs.Validating.{with_audit}
use Rattle.store_world.proofs.Acknowledging.{by_line}
use Rattle.store_world.proofs.Analysing.{analysed_stays}
use Rattle.stmt_text.specs.declared.kind.LineKind.{LineKind}
use Rattle.stmt_text.specs.declared.kind.LineKind.TheVariants as kinds
use Rattle.stmt_text.specs.Kinds.{stmt_kind, line_kind}
use Rattle.line_runs.specs.Running.{Running, Timed, carry, carried, answered, said_by, seconds_of, set_moment}
use Rattle.line_runs.specs.Serial.{Told, Logs, no_logs, logged, logged_in, logged_by, logs_after, alone_as, stored_alone, CommitsAlone, IsFresh, RunsAreSerial}
use Rattle.line_runs.proofs.Nothing.{carry_is}

-- ---- texts

-- the text of an exchange
abbrev in_text : Exchange → Told
in_text e = record { stmt = e.stmt; text = reply_text e.reply }

texts_of : (es : List Exchange) → map (λ (t : Told). t.text) (map in_text es) ≡ map reply_text (map (λ (e : Exchange). e.reply) es)
texts_of [] = refl
texts_of (e ∷ es) = ap (λ (l : List (List ℕ)). reply_text e.reply ∷ l) (texts_of es)

stmts_of : (es : List Exchange) → map (λ (t : Told). t.stmt) (map in_text es) ≡ map (λ (e : Exchange). e.stmt) es
stmts_of [] = refl
stmts_of (e ∷ es) = ap (λ (l : List Stmt). e.stmt ∷ l) (stmts_of es)

-- ---- what a session was told

module _ (w : sessions.Service) (exchanges : runs.Logs) (logs : Logs) (texts : (k : ℕ) → logs k ≡ map in_text (exchanges k)) (n now : ℕ) where
  -- something else at this number
  at_one : (log : List Told) (told : List Exchange) → log ≡ map in_text told → (k : ℕ) → put_at n log logs k ≡ map in_text (put_at n told exchanges k)
  at_one log told same k = elim (eqb k n) as (λ b. (if b then log else logs k) ≡ map in_text (if b then told else exchanges k)) [ true ↦ same | false ↦ texts k ]

  -- the same at this number
  as_was : (k : ℕ) → put_at n (logs n) logs k ≡ map in_text (exchanges k)
  as_was k = elim (eqb k n) as (λ b. (eqb k n ≡ b) → (if b then logs n else logs k) ≡ map in_text (exchanges k)) [
    | true ↦ λ e. let same : k ≡ n = grind (arith, nat_tests, e) in subst (λ j. logs n ≡ map in_text (exchanges j)) (sym same) (texts n)
    | false ↦ λ e. texts k
  ] refl

  abbrev Follows : Option Session → Stmt → Answer → Type 0
  Follows o stmt answer = (k : ℕ) → put_at n (logged o (logs n) stmt (reply_text (reply_of answer))) logs k ≡ map in_text (runs.noted exchanges (lines.InSession n stmt) answer k)

  commit_follows : (s : Session) (answer : Answer) → Follows (Some s) stmts.Commit answer
  commit_follows s (Replied reply) = at_one (logs n) (exchanges n) (texts n)
  commit_follows s (Stopped refusal) = as_was

  one_more : (stmt : Stmt) (reply : Reply) (k : ℕ) → put_at n (logs n ++ record { stmt = stmt; text = reply_text reply } ∷ []) logs k ≡ map in_text (put_at n (exchanges n ++ record { stmt = stmt; reply = reply } ∷ []) exchanges k)
  one_more stmt reply = at_one (logs n ++ record { stmt = stmt; text = reply_text reply } ∷ []) (exchanges n ++ record { stmt = stmt; reply = reply } ∷ [])
      (ap (λ (l : List Told). l ++ record { stmt = stmt; text = reply_text reply } ∷ []) (texts n) ∙ sym (map-append in_text (exchanges n) (record { stmt = stmt; reply = reply } ∷ [])))

  pub follows : (o : Option Session) (stmt : Stmt) → Follows o stmt (in_session w n o stmt now).answer
  follows None stmts.Begin = at_one [] [] refl
  follows None stmt = as_was
  follows (Some s) stmts.Begin = as_was
  follows (Some s) stmts.Commit = commit_follows s (commit w n s now).answer
  follows (Some s) stmts.Abort = at_one (logs n) (exchanges n) (texts n)
  follows (Some s) stmt = one_more stmt (say w.store s.pending stmt).reply

-- ---- a line of a world

-- these are the logs of a world over a store, and what its sessions were told holds
pub record Stays (w : World) (logs : Logs) : Type 0 where
  pub store : statements.Database
  pub is : w.store ≡ Some store
  pub exchanges : runs.Logs
  pub held : AreHeld (record { store = store; sessions = w.sessions }) exchanges
  pub texts : (k : ℕ) → logs k ≡ map in_text (exchanges k)

-- a Frontier has a moment behind the last one
later_moment : (last : ℕ) (has late : Bool) (end moment : ℕ) → nat_lt last end ≡ late → (if has && late then Some end else None) ≡ Some moment → nat_lt last moment ≡ true
later_moment last true true end moment is some = let same : end ≡ moment = cc in subst (λ (m : ℕ). nat_lt last m ≡ true) same is
later_moment last true false end moment is some = absurd cc
later_moment last false late end moment is some = absurd cc

module _ (w : World) (logs : Logs) (s : Stays w logs) where
  abbrev own : sessions.Service
  own = record { store = s.store; sessions = w.sessions }

  -- ---- a statement, or a line of a session

  follow_all : (line : Line) (now : ℕ) (k : ℕ) → logged_in w line (reply_text (reply_of (session_steps.serve own line now).answer)) logs k ≡ map in_text (runs.noted s.exchanges line (session_steps.serve own line now).answer k)
  unfolding session_steps.serve
  follow_all (lines.Plain stmt) now k = s.texts k
  follow_all (lines.InSession n stmt) now k = follows own s.exchanges logs s.texts n now (w.sessions n) stmt k
  follow_all lines.Blank now k = s.texts k
  follow_all (lines.Drill event) now k = s.texts k

  tables_stay : (line : Line) (now : ℕ) → Stays (on_tables w w.store line now).world (logged_in w line (on_tables w w.store line now).text logs)
  tables_stay line now = subst (λ (o : Option statements.Database). Stays (on_tables w o line now).world (logged_in w line (on_tables w o line now).text logs)) (sym s.is) (record {
    store = (session_steps.serve own line now).world.store;
    is = refl;
    exchanges = runs.noted s.exchanges line (session_steps.serve own line now).answer;
    held = (line_goes own s.exchanges s.held line now).1;
    texts = follow_all line now;
  })

  -- ---- the others

  -- of a world with the same store and sessions
  same_stays : (x : World) → x.store ≡ w.store → x.sessions ≡ w.sessions → Stays x logs
  same_stays x store begun = record {
    store = s.store;
    is = store ∙ s.is;
    exchanges = s.exchanges;
    held = subst (λ (f : ℕ → Option Session). AreHeld (record { store = s.store; sessions = f }) s.exchanges) (sym begun) s.held;
    texts = s.texts;
  }

  -- with a Frontier more
  frontier_held : (moment : ℕ) → nat_lt (last_moment s.store.items) moment ≡ true → AreHeld (record { store = statements.with_frontier s.store moment; sessions = w.sessions }) s.exchanges
  frontier_held moment later = subst (λ (b : Bool). AreHeld (if b then sessions.with_store own (statements.with_frontier s.store moment) else own) s.exchanges) later (reach_held own s.exchanges s.held moment)

  reached_stays : (o : Option ℕ) → ((moment : ℕ) → o ≡ Some moment → nat_lt (last_moment s.store.items) moment ≡ true) → (x : World) → x.store ≡ Some (reached o s.store) → x.sessions ≡ w.sessions → Stays x logs
  reached_stays None later x store begun = same_stays x (store ∙ sym s.is) begun
  reached_stays (Some moment) later x store begun = record {
    store = statements.with_frontier s.store moment;
    is = store;
    exchanges = s.exchanges;
    held = subst (λ (f : ℕ → Option Session). AreHeld (record { store = statements.with_frontier s.store moment; sessions = f }) s.exchanges) (sym begun) (frontier_held moment (later moment refl));
    texts = s.texts;
  }

  unless_stays : (fault : Option AuditFail) (new : World) (x : Step) → Stays new logs → Stays x.world logs → Stays (unless fault new x).world logs
  unless_stays None new x one other = other
  unless_stays (Some fail) new x one other = one

  -- what is filed leaves the sessions
  sealed_stays : (now : ℕ) (heard : Heard) (refusal : Option AuditFail) → Stays (carried_out w s.store (intent_in s.store now heard) refusal).world logs
  sealed_stays now heard refusal =
      let i = intent_in s.store now heard in
      let t = statements.tail_of_database s.store in
      let l = layout (history s.store.header s.store.items) in
      let tiles = tiles_at l s.store.header now in
      let one = λ (x : World) (store : x.store ≡ Some (reached i.frontier s.store)) (begun : x.sessions ≡ w.sessions). reached_stays i.frontier
      (λ moment some. later_moment t.last (nat_le heard.count tiles) (nat_lt t.last (end_of l s.store.header tiles)) (end_of l s.store.header tiles) moment refl some) x store begun in
      unless_stays refusal _ _ (one _ refl refl) (one _ refl refl)

  notarized_stays : (now : ℕ) (heard : Heard) (refusal : Option AuditFail) → Stays (notarized w w.store now heard refusal).world logs
  notarized_stays now heard refusal = subst (λ (o : Option statements.Database). Stays (notarized w o now heard refusal).world logs) (sym s.is)
      (unless_stays (intent_in s.store now heard).fault w (carried_out w s.store (intent_in s.store now heard) refusal) s (sealed_stays now heard refusal))

  -- with a policy more
  divided_stays : (tile granule k algs : ℕ) (x : World) → x.store ≡ Some (statements.with_item s.store (items.Policy tile granule k algs)) → x.sessions ≡ w.sessions → Stays x logs
  divided_stays tile granule k algs x store begun = record {
    store = statements.with_item s.store (items.Policy tile granule k algs);
    is = store;
    exchanges = s.exchanges;
    held = subst (λ (f : ℕ → Option Session). AreHeld (record { store = statements.with_item s.store (items.Policy tile granule k algs); sessions = f }) s.exchanges) (sym begun) (divide_held own s.exchanges s.held tile granule k algs);
    texts = s.texts;
  }

  turned_stays : (heard : Heard) (k algs : ℕ) → Stays (turned w w.store heard k algs).world logs
  turned_stays heard k algs =
      let t = turn_in s.store heard k algs in
      let tile = sealed_tiles heard.count in
      subst (λ (o : Option statements.Database). Stays (turned w o heard k algs).world logs) (sym s.is)
      (unless_stays t.fault w (turns_world w s.store t) s (divided_stays tile (first_granule (layout (history s.store.header s.store.items)) tile) k algs _ refl refl))

  marked_stays : (mark : Option Mark) (refusal : Option AuditFail) (text : List ℕ) → Stays (marked w mark refusal text).world logs
  marked_stays None refusal text = s
  marked_stays (Some mark) refusal text = unless_stays refusal w _ s (same_stays _ refl refl)

  validated_stays : (now : ℕ) (found : Result Verdict AuditFail) (refusal : Option AuditFail) → Stays (validated w now found refusal).world logs
  validated_stays now (Ok verdict) refusal = marked_stays (mark_of verdict now) refusal (verdict_text verdict)
  validated_stays now (Err fail) refusal = s

  audited_stays : (b : Bool) (now : ℕ) (found : Result Verdict AuditFail) (refusal : Option AuditFail) → Stays (piece_audited b w now found refusal).world logs
  audited_stays b now found refusal = let leaves = with_audit b w now found refusal in same_stays _ leaves.same.store leaves.same.sessions

  pub step_stays : (line : Line) (now : ℕ) (found : Found) → Stays (step w line now found).world (logged_in w line (step w line now found).text logs)
  step_stays line now found = by_line (λ line x. Stays x.world (logged_in w line x.text logs)) w line now found (λ line. tables_stay line now) (notarized_stays now found.heard found.refusal) (turned_stays found.heard) (validated_stays now found.verdict found.refusal)
      (audited_stays (has_more w) now found.verdict found.refusal) (λ algorithm era. subst (λ (x : World). Stays x logs) (sym (analysed_stays w (algorithm_of algorithm) found.analysis found.body)) s)

-- ---- the lines of a run

module _ (scripted : Bool) where
  moment_stays : (b : Bool) (r : Running) (moment : ℕ) (logs : Logs) → Stays r.world logs → Stays (set_moment b r moment).world logs
  moment_stays true r moment logs s = s
  moment_stays false r moment logs s = s

  said_stays : (line : Line) (now : ℕ) (found : Found) (r : Running) (logs : Logs) → Stays r.world logs → Stays (said_by (line_kind line) scripted now found r line).world (logged_by r.world now found (Ok line) logs)
  said_stays lines.Blank now found r logs s = s
  said_stays (lines.Plain stmt) now found r logs s = by (stmt_kind stmt)
    where
      by : (kind : LineKind) → Stays (said_by kind scripted now found r (lines.Plain stmt)).world logs
      by kinds.Blank = s
      by (kinds.InWorld part) = step_stays r.world logs s (lines.Plain stmt) now found
      by (kinds.SetsMoment moment) = moment_stays scripted r moment logs s
      by kinds.OutsideScripts = s
  said_stays (lines.InSession n stmt) now found r logs s = step_stays r.world logs s (lines.InSession n stmt) now found
  said_stays (lines.Drill event) now found r logs s = s

  answer_stays : (x : Result Line ParseFail) (now : ℕ) (found : Found) (r : Running) (logs : Logs) → Stays r.world logs → Stays (answered scripted now found r x).world (logged_by r.world now found x logs)
  answer_stays (Ok line) now found r logs s = said_stays line now found r logs s
  answer_stays (Err parses.Syntax) now found r logs s = s
  answer_stays (Err parses.NumberTooWide) now found r logs s = s
  answer_stays (Err parses.NoMemory) now found r logs s = s

  pub carried_stays : (timed : List Timed) (r : Running) (logs : Logs) → Stays r.world logs → Stays (carried scripted r timed).world (logs_after scripted r timed logs)
  carried_stays [] r logs s = s
  carried_stays (t ∷ timed) r logs s =
      let now = seconds_of scripted r t.second in
      let next = logged_by r.world now t.found (answer t.line) logs in
      carried_stays timed (carry scripted r t) next (subst (λ (x : Running). Stays x.world next) (sym (carry_is scripted r t (answer t.line) refl)) (answer_stays (answer t.line) now t.found r logs s))

-- before the first session
fresh_stays : (begin : Running) → IsFresh begin → Stays begin.world no_logs
fresh_stays begin fresh = by begin.world.store refl fresh.over
  where
    by : (o : Option statements.Database) → begin.world.store ≡ o → IsSome o → Stays begin.world no_logs
    by (Some store) is some = record { store = store; is = is; exchanges = runs.no_logs; held = none_held (record { store = store; sessions = begin.world.sessions }) fresh.none; texts = λ k. refl }
    by None is some = absurd cc

-- ---- a commit

module _ (w : World) (logs : Logs) (s : Stays w logs) (n now : ℕ) where
  abbrev mine : sessions.Service
  mine = record { store = s.store; sessions = w.sessions }

  abbrev log : List Told
  log = logs n

  abbrev Commits : Step → Type 0
  Commits next = CommitsAlone w log now next

  alone_is : alone_as s.store log ≡ alone s.store (map (λ (e : Exchange). e.stmt) (s.exchanges n))
  alone_is = ap (alone s.store) (ap (λ (l : List Told). map (λ (t : Told). t.stmt) l) (s.texts n) ∙ stmts_of (s.exchanges n))

  module _ (k : Session) (is : IsAlone s.store (s.exchanges n) k.pending) where
    told_is : map (λ (t : Told). t.text) log ≡ map reply_text (alone_as s.store log).replies
    told_is = ap (λ (l : List Told). map (λ (t : Told). t.text) l) (s.texts n) ∙ texts_of (s.exchanges n) ∙ ap (λ (l : List Reply). map reply_text l) is.replies_are
        ∙ sym (ap (λ (a : Alone). map reply_text a.replies) alone_is)

    pending_is : k.pending ≡ (alone_as s.store log).pending
    pending_is = is.pending_is ∙ sym (ap (λ (a : Alone). a.pending) alone_is)

    -- what is pending is stored
    of_ops : (ops : List Op) → ops ≡ (alone_as s.store log).pending → Commits (after_statement w (store_pending mine n ops now))
    of_ops [] same = record {
      store = s.store;
      before = s.is;
      told = told_is;
      stored = ap (λ (l : List Op). Some (stored_alone s.store l now).world) same;
      reply = ap (λ (l : List Op). reply_text (stored_alone s.store l now).reply) same;
    }
    of_ops (op ∷ ops) same =
        let outside = commits_are_alike mine n now op ops in
        record {
          store = s.store;
          before = s.is;
          told = told_is;
          stored = ap (λ (x : statements.Database). Some x) outside.store ∙ ap (λ (l : List Op). Some (stored_alone s.store l now).world) same;
          reply = ap (λ (a : Answer). reply_text (reply_of a)) outside.answer ∙ ap (λ (l : List Op). reply_text (stored_alone s.store l now).reply) same;
        }

  of_session : (o : Option Session) → w.sessions n ≡ o → is_refusal (reply_of (in_session mine n o stmts.Commit now).answer) ≡ false → Commits (after_statement w (in_session mine n o stmts.Commit now))
  of_session None is free = absurd cc
  of_session (Some k) is free = by (conflict mine k) refl free
    where
      by : (c : Option ℕ) → conflict mine k ≡ c → is_refusal (reply_of (unless_conflict mine n k.pending now c).answer) ≡ false → Commits (after_statement w (unless_conflict mine n k.pending now c))
      by (Some number) e free = absurd cc
      by None e free =
          let told : IsAlone s.store (s.exchanges n) k.pending = subst (WasAlone s.store (s.exchanges n)) is (was_alone mine s.exchanges s.held n now k is e) in
          of_ops k told k.pending (pending_is k told)

  pub commit_alone : (found : Found) → (step w (lines.InSession n stmts.Commit) now found).is_refused ≡ false → Commits (step w (lines.InSession n stmts.Commit) now found)
  unfolding step session_steps.serve
  commit_alone found free = over w.store s.is free
    where
      over : (o : Option statements.Database) → o ≡ Some s.store → (on_tables w o (lines.InSession n stmts.Commit) now).is_refused ≡ false → Commits (on_tables w o (lines.InSession n stmts.Commit) now)
      over o is = subst (λ (x : Option statements.Database). (on_tables w x (lines.InSession n stmts.Commit) now).is_refused ≡ false → Commits (on_tables w x (lines.InSession n stmts.Commit) now)) (sym is) (of_session (w.sessions n) refl)

pub runs_serial : RunsAreSerial
runs_serial scripted begin timed n now found fresh free =
    commit_alone (carried scripted begin timed).world (logs_after scripted begin timed no_logs) (carried_stays scripted timed begin no_logs (fresh_stays begin fresh)) n now found free
