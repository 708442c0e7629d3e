-- Every run is serial.
use Rattle.std.proofs.Common.{◌≡◌, ℕ, ◌+◌, ◌≤◌, Bool, true, false, ◌||◌, eqb, nat_lt, if◌then◌else◌, Option, Some, None, Result, Ok, Err, List, [], ◌∷◌, ◌++◌, length, length-append, map, refl, sym, ap, subst, ◌∙◌, arith}
use Rattle.std.specs.List.{list_any}
use Rattle.std.proofs.lemmas.Bool.Decides.{nat_tests}
use Rattle.std.proofs.lemmas.List.{drop-append-le}
use Rattle.std.proofs.lemmas.List.Elements.{filter_map-append}
use Rattle.tuple_bytes.specs.declared.op.Op.{Op}
use Rattle.tuple_bytes.specs.declared.item.Item.{Item}
use Rattle.tuple_bytes.specs.declared.item.Txn.{Txn}
use Rattle.history_model.specs.declared.change.TableFail.{TableFail}
use Rattle.history_model.specs.declared.change.Write.{Write}
use Rattle.history_model.specs.Answers.{prepared}
use Rattle.history_model.specs.History.{txn_in, txns, last_moment}
use Rattle.stmt_text.specs.declared.stmt.Stmt.{Stmt}
use Rattle.stmt_text.specs.declared.stmt.Stmt.TheVariants as stmts
use Rattle.stmt_text.specs.declared.line.Line.{Line}
use Rattle.stmt_text.specs.declared.line.Line.TheVariants as lines
use Rattle.store_engine.specs.declared.fail.StoreFail.{StoreFail}
use Rattle.store_engine.specs.Refusals.{Tail, next_txn, commit_fault, is_back}
use Rattle.statement_core.specs.declared.reply.Reply.{Reply}
use Rattle.statement_core.specs.Database as stores
use Rattle.statement_core.specs.Steps as statements
use Rattle.session_model.specs.declared.place.Place.{Place}
use Rattle.session_model.specs.Places.{reads_of, touches, touches_one, first_touching, since}
use Rattle.session_model.specs.Statements.{Said, say}
use Rattle.session_model.specs.Service.{Session, Service, put_at, with_store, new_session}
use Rattle.session_model.specs.Steps.{Served, stored, store_pending, unless_conflict, conflict, heard, in_session, serve}
use Rattle.session_model.specs.Alone.{Alone, after_reply, alone_from, alone, Exchange, IsAlone}
use Rattle.session_model.specs.Runs.{Turn, reached, divided, opened, Logs, no_logs, noted}
use Rattle.session_model.specs.Serial.{WasAlone, IsSerialAt, Serial, RunsAreSerial, NoneBegun}
use Rattle.session_model.specs.Runs as turns
use Rattle.session_model.specs.Later.{IsLater, NoneTouches}
use Rattle.session_model.proofs.Later.{later_same, later_still, later_txn, later_frontier, later_policy}
use Rattle.session_model.proofs.Staying.{answers_stay}

-- ---- one statement more, alone

module _ (w : stores.Database) where
  abbrev one_more : Stmt → Alone → Alone
  one_more stmt a = record { replies = a.replies ++ (say w a.pending stmt).reply ∷ []; pending = (say w a.pending stmt).pending }

  alone_more : (stmts : List Stmt) (stmt : Stmt) (pending : List Op) → alone_from w pending (stmts ++ stmt ∷ []) ≡ one_more stmt (alone_from w pending stmts)
  alone_more [] stmt pending = refl
  alone_more (first ∷ stmts) stmt pending = ap (after_reply (say w pending first).reply) (alone_more stmts stmt (say w pending first).pending)

map-append : {A B : Type 0} (f : A → B) (xs ys : List A) → map f (xs ++ ys) ≡ map f xs ++ map f ys
map-append f [] ys = refl
map-append f (x ∷ xs) ys = ap (λ l. f x ∷ l) (map-append f xs ys)

abbrev told_of : Stmt → Reply → Exchange
told_of stmt reply = record { stmt = stmt; reply = reply }

-- a session that was alone stays so with one statement more
alone_told : (w : stores.Database) (log : List Exchange) (pending : List Op) (stmt : Stmt) → IsAlone w log pending
    → IsAlone w (log ++ told_of stmt (say w pending stmt).reply ∷ []) (say w pending stmt).pending
alone_told w log pending stmt is =
    let all = alone_more w (map (λ t. t.stmt) log) stmt [] in
    let words : map (λ (t : Exchange). t.stmt) (log ++ told_of stmt (say w pending stmt).reply ∷ []) ≡ map (λ (t : Exchange). t.stmt) log ++ stmt ∷ [] = map-append (λ (t : Exchange). t.stmt) log (told_of stmt (say w pending stmt).reply ∷ []) in
    let both : alone w (map (λ (t : Exchange). t.stmt) (log ++ told_of stmt (say w pending stmt).reply ∷ [])) ≡ one_more w stmt (alone w (map (λ (t : Exchange). t.stmt) log)) = ap (alone w) words ∙ all in
    record {
      replies_are =
          map-append (λ (t : Exchange). t.reply) log (told_of stmt (say w pending stmt).reply ∷ [])
          ∙ ap (λ l. l ++ (say w pending stmt).reply ∷ []) is.replies_are
          ∙ ap (λ p. (alone w (map (λ (t : Exchange). t.stmt) log)).replies ++ (say w p stmt).reply ∷ []) is.pending_is
          ∙ sym (ap (λ (a : Alone). a.replies) both);
      pending_is = ap (λ p. (say w p stmt).pending) is.pending_is ∙ sym (ap (λ (a : Alone). a.pending) both);
    }

-- ---- places

or_left : (a b : Bool) → (a || b) ≡ false → a ≡ false
or_left true b e = cc
or_left false b e = refl

or_right : (a b : Bool) → (a || b) ≡ false → b ≡ false
or_right true b e = cc
or_right false b e = e

or_both : (a b : Bool) → a ≡ false → b ≡ false → (a || b) ≡ false
or_both true b e f = cc
or_both false b e f = f

any_fewer : (op : Op) (a b : List Place) → list_any (touches op) (a ++ b) ≡ false → (list_any (touches op) a ≡ false) × (list_any (touches op) b ≡ false)
any_fewer op [] b e = (refl, e)
any_fewer op (p ∷ a) b e =
    let rest = any_fewer op a b (or_right (touches op p) (list_any (touches op) (a ++ b)) e) in
    (or_both (touches op p) (list_any (touches op) a) (or_left (touches op p) (list_any (touches op) (a ++ b)) e) rest.0, rest.1)

ops_fewer : (ops : List Op) (a b : List Place) → list_any (λ op. list_any (touches op) (a ++ b)) ops ≡ false
    → (list_any (λ op. list_any (touches op) a) ops ≡ false) × (list_any (λ op. list_any (touches op) b) ops ≡ false)
ops_fewer [] a b e = (refl, refl)
ops_fewer (op ∷ ops) a b e =
    let here = any_fewer op a b (or_left (list_any (touches op) (a ++ b)) (list_any (λ o. list_any (touches o) (a ++ b)) ops) e) in
    let rest = ops_fewer ops a b (or_right (list_any (touches op) (a ++ b)) (list_any (λ o. list_any (touches o) (a ++ b)) ops) e) in
    (or_both (list_any (touches op) a) (list_any (λ o. list_any (touches o) a) ops) here.0 rest.0, or_both (list_any (touches op) b) (list_any (λ o. list_any (touches o) b) ops) here.1 rest.1)

-- who touches none of more places touches none of fewer
fewer : (txns : List Txn) (a b : List Place) → NoneTouches (a ++ b) txns → NoneTouches a txns × NoneTouches b txns
fewer [] a b h = (tt, tt)
fewer (t ∷ txns) a b h =
    let here = ops_fewer t.ops a b h.0 in
    let rest = fewer txns a b h.1 in
    ((here.0, rest.0), (here.1, rest.1))

behind_all : (places : List Place) (xs ys : List Txn) → NoneTouches places (xs ++ ys) → NoneTouches places ys
behind_all places [] ys h = h
behind_all places (x ∷ xs) ys h = behind_all places xs ys h.1

none_found : (places : List Place) (ts : List Txn) → first_touching places ts ≡ None → NoneTouches places ts
none_found places [] e = tt
none_found places (t ∷ ts) e = by (touches_one places t) refl (none_found places ts)
  where
    by : (b : Bool) → touches_one places t ≡ b → (first_touching places ts ≡ None → NoneTouches places ts) → NoneTouches places (t ∷ ts)
    by true is rest = let found : first_touching places (t ∷ ts) ≡ Some t.number = rw is refl in absurd (cc (found, e))
    by false is rest = let same : first_touching places (t ∷ ts) ≡ first_touching places ts = rw is refl in (is, rest (sym same ∙ e))

-- ---- what is kept of a session

txns_append : (xs ys : List Item) → txns (xs ++ ys) ≡ txns xs ++ txns ys
txns_append xs ys = filter_map-append txn_in xs ys

-- in every later history in which nothing touches what it read, the session was told what its statements are told alone
pub record IsKept (w : stores.Database) (s : Session) (log : List Exchange) : Type 0 where
  pub begun : s.begun ≤ length (txns w.items)
  pub told : (later : stores.Database) → IsLater w later → NoneTouches s.reads (since s.begun (txns later.items)) → IsAlone later log s.pending

abbrev pub IsHeld : stores.Database → Option Session → List Exchange → Type 0
IsHeld w None log = Unit {0}
IsHeld w (Some s) log = IsKept w s log

abbrev pub AreHeld : Service → Logs → Type 0
AreHeld w logs = (n : ℕ) → IsHeld w.store (w.sessions n) (logs n)

kept_later : (w later : stores.Database) (s : Session) (log : List Exchange) → IsLater w later → IsKept w s log → IsKept later s log
kept_later w later s log more is = record {
  begun = let e : txns later.items ≡ txns w.items ++ txns more.items = ap txns more.behind ∙ txns_append w.items more.items in
      let n : length (txns later.items) ≡ length (txns w.items) + length (txns more.items) = ap length e ∙ length-append (txns w.items) (txns more.items) in
      omega (arith, is.begun);
  told = λ last further. is.told last (later_still w later last more further);
}

held_later : (w later : stores.Database) (o : Option Session) (log : List Exchange) → IsLater w later → IsHeld w o log → IsHeld later o log
held_later w later None log more is = tt
held_later w later (Some s) log more is = kept_later w later s log more is

kept_new : (w : Service) → IsKept w.store (new_session w) []
kept_new w = record { begun = omega arith; told = λ later more quiet. record { replies_are = refl; pending_is = refl } }

-- one statement more
kept_heard : (w : stores.Database) (s : Session) (log : List Exchange) (stmt : Stmt) → IsKept w s log
    → IsKept w (heard s stmt (say w s.pending stmt)) (log ++ told_of stmt (say w s.pending stmt).reply ∷ [])
kept_heard w s log stmt is = record {
  begun = is.begun;
  told = λ later more quiet.
      let parts = fewer (since s.begun (txns later.items)) s.reads (reads_of stmt) quiet in
      let e : txns later.items ≡ txns w.items ++ txns more.items = ap txns more.behind ∙ txns_append w.items more.items in
      let split : since s.begun (txns later.items) ≡ since s.begun (txns w.items) ++ txns more.items = ap (since s.begun) e ∙ drop-append-le s.begun (txns w.items) (txns more.items) is.begun in
      let untouched = behind_all (reads_of stmt) (since s.begun (txns w.items)) (txns more.items) (subst (NoneTouches (reads_of stmt)) split parts.1) in
      let same = answers_stay w later s.pending stmt more untouched in
      subst (λ (x : Said). IsAlone later (log ++ told_of stmt x.reply ∷ []) x.pending) same (alone_told later log s.pending stmt (is.told later more parts.0));
}

-- ---- a line

-- at one number something else is held
held_at : (store : stores.Database) (sessions : ℕ → Option Session) (logs : Logs) (n : ℕ) (o : Option Session) (log : List Exchange)
    → ((k : ℕ) → IsHeld store (sessions k) (logs k)) → IsHeld store o log → (k : ℕ) → IsHeld store (put_at n o sessions k) (put_at n log logs k)
held_at store sessions logs n o log held here k =
    elim (eqb k n) as (λ b. IsHeld store (if b then o else sessions k) (if b then log else logs k)) [ true ↦ here | false ↦ held k ]

-- a session is gone
held_gone : (store : stores.Database) (sessions : ℕ → Option Session) (logs : Logs) (n : ℕ)
    → ((k : ℕ) → IsHeld store (sessions k) (logs k)) → (k : ℕ) → IsHeld store (put_at n None sessions k) (logs k)
held_gone store sessions logs n held k =
    elim (eqb k n) as (λ b. IsHeld store (if b then None else sessions k) (logs k)) [ true ↦ tt | false ↦ held k ]

not_back : (t : Tail) (ops : List Op) (now : ℕ) → commit_fault t false ops now ≡ None → is_back t now ≡ false
not_back t ops now free = by (is_back t now) refl
  where
    by : (b : Bool) → is_back t now ≡ b → is_back t now ≡ false
    by false is = is
    by true is = let fault = rw is at free in absurd cc

committed_later : (w : stores.Database) (ops : List Op) (now : ℕ) → commit_fault (stores.tail_of_database w) false ops now ≡ None
    → IsLater w (stores.with_txn w (next_txn (stores.tail_of_database w) ops now))
committed_later w ops now free =
    let back = not_back (stores.tail_of_database w) ops now free in
    later_txn w (next_txn (stores.tail_of_database w) ops now) (grind (arith, nat_tests, back))

-- a statement outside sessions leaves a later store
module _ (w : stores.Database) (now : ℕ) where
  of_ops : (ops : List Op) (fault : Option StoreFail) → commit_fault (stores.tail_of_database w) false ops now ≡ fault → IsLater w (statements.committed fault w (next_txn (stores.tail_of_database w) ops now)).world
  of_ops ops (Some fail) is = later_same w
  of_ops ops None is = committed_later w ops now is

  of_prepared : (r : Result Op TableFail) → IsLater w (statements.commit_prepared w r now).world
  of_prepared (Ok op) = of_ops (op ∷ []) (commit_fault (stores.tail_of_database w) false (op ∷ []) now) refl
  of_prepared (Err fail) = later_same w

  of_write : (change : Option Write) (stmt : Stmt) → IsLater w (statements.write_or_read w change stmt now).world
  of_write (Some change) stmt = of_prepared (prepared (stores.tables_now w) change)
  of_write None stmt = later_same w

  outside_later : (stmt : Stmt) → IsLater w (statements.perform w (lines.Plain stmt) now).world
  unfolding statements.perform
  outside_later stmt = of_write (statements.write_in stmt) stmt

module _ (w : Service) (logs : Logs) (held : AreHeld w logs) where
  -- the commit of a line is serial, and what is held is held on
  abbrev pub Goes : Line → Served → Type 0
  Goes line next = IsSerialAt w logs line next.answer × AreHeld next.world (noted logs line next.answer)

  module _ (n : ℕ) (now : ℕ) where
    module _ (s : Session) (is : w.sessions n ≡ Some s) where
      kept : IsKept w.store s (logs n)
      kept = subst (λ o. IsHeld w.store o (logs n)) is (held n)

      spoken : (stmt : Stmt) (k : ℕ) → IsHeld w.store (put_at n (Some (heard s stmt (say w.store s.pending stmt))) w.sessions k) (put_at n (logs n ++ told_of stmt (say w.store s.pending stmt).reply ∷ []) logs k)
      spoken stmt = held_at w.store w.sessions logs n (Some (heard s stmt (say w.store s.pending stmt))) (logs n ++ told_of stmt (say w.store s.pending stmt).reply ∷ []) held (kept_heard w.store s (logs n) stmt kept)

      -- where nothing conflicts it was alone
      pub was_alone : conflict w s ≡ None → WasAlone w.store (logs n) (w.sessions n)
      was_alone free = subst (WasAlone w.store (logs n)) (sym is) (kept.told w.store (later_same w.store) (none_found s.reads (since s.begun (txns w.store.items)) free))

      stays_held : (k : ℕ) → IsHeld w.store (w.sessions k) (put_at n (logs n) logs k)
      stays_held k = elim (eqb k n) as (λ b. (eqb k n ≡ b) → IsHeld w.store (w.sessions k) (if b then logs n else logs k)) [
        | true ↦ λ e. let same : k ≡ n = grind (arith, nat_tests, e) in subst (λ j. IsHeld w.store (w.sessions j) (logs n)) (sym same) (held n)
        | false ↦ λ e. held k
      ] refl

      gone_held : (k : ℕ) → IsHeld w.store (put_at n None w.sessions k) (put_at n (logs n) logs k)
      gone_held = held_at w.store w.sessions logs n None (logs n) held tt

      stored_goes : (alone : WasAlone w.store (logs n) (w.sessions n)) (ops : List Op) (fault : Option StoreFail) → commit_fault (stores.tail_of_database w.store) false ops now ≡ fault
          → Goes (lines.InSession n stmts.Commit) (stored w n ops now fault)
      stored_goes alone ops (Some fail) free = (λ _. alone, stays_held)
      stored_goes alone ops None free = (λ _. alone, λ k. held_later w.store (stores.with_txn w.store (next_txn (stores.tail_of_database w.store) ops now)) (put_at n None w.sessions k) (put_at n (logs n) logs k) (committed_later w.store ops now free) (gone_held k))

      pending_goes : (alone : WasAlone w.store (logs n) (w.sessions n)) (ops : List Op) → Goes (lines.InSession n stmts.Commit) (store_pending w n ops now)
      pending_goes alone [] = (λ _. alone, gone_held)
      pending_goes alone (op ∷ ops) = stored_goes alone (op ∷ ops) (commit_fault (stores.tail_of_database w.store) false (op ∷ ops) now) refl

      commit_goes : (c : Option ℕ) → conflict w s ≡ c → Goes (lines.InSession n stmts.Commit) (unless_conflict w n s.pending now c)
      commit_goes (Some number) e = (tt, held_gone w.store w.sessions logs n held)
      commit_goes None e = pending_goes (was_alone e) s.pending

    session_goes : (o : Option Session) → w.sessions n ≡ o → (stmt : Stmt) → Goes (lines.InSession n stmt) (in_session w n o stmt now)
    session_goes None is stmts.Begin = (tt, held_at w.store w.sessions logs n (Some (new_session w)) [] held (kept_new w))
    session_goes None is stmt = (tt, held)
    session_goes (Some s) is stmts.Begin = (tt, held)
    session_goes (Some s) is stmts.Commit = commit_goes s is (conflict w s) refl
    session_goes (Some s) is stmts.Abort = (tt, gone_held s is)
    session_goes (Some s) is stmt = (tt, spoken s is stmt)

  pub all_later : (later : stores.Database) → IsLater w.store later → (k : ℕ) → IsHeld later (w.sessions k) (logs k)
  all_later later more k = held_later w.store later (w.sessions k) (logs k) more (held k)

  pub line_goes : (line : Line) (now : ℕ) → Goes line (serve w line now)
  unfolding serve
  line_goes (lines.Plain stmt) now = (tt, all_later (statements.perform w.store (lines.Plain stmt) now).world (outside_later w.store now stmt))
  line_goes (lines.InSession n stmt) now = session_goes n now (w.sessions n) refl stmt
  line_goes lines.Blank now = (tt, held)
  line_goes (lines.Drill event) now = (tt, held)

  pub reach_held : (moment : ℕ) → AreHeld (reached w moment) logs
  reach_held moment = by (nat_lt (last_moment w.store.items) moment) refl
    where
      by : (b : Bool) → nat_lt (last_moment w.store.items) moment ≡ b → AreHeld (if b then with_store w (stores.with_frontier w.store moment) else w) logs
      by true e = let before : last_moment w.store.items ≤ moment = grind (arith, nat_tests, e) in all_later (stores.with_frontier w.store moment) (later_frontier w.store moment before)
      by false e = held

  pub divide_held : (tile granule k algs : ℕ) → AreHeld (divided w tile granule k algs) logs
  divide_held tile granule k algs = all_later (divided w tile granule k algs).store (later_policy w.store tile granule k algs)

-- ---- a run

serial : (turns : List Turn) (w : Service) (logs : Logs) → AreHeld w logs → Serial w logs turns
serial [] w logs held = tt
serial (turns.Take line now ∷ rest) w logs held =
    let goes = line_goes w logs held line now in
    (goes.0, serial rest (serve w line now).world (noted logs line (serve w line now).answer) goes.1)
serial (turns.Reach moment ∷ rest) w logs held = serial rest (reached w moment) logs (reach_held w logs held moment)
serial (turns.Divide tile granule k algs ∷ rest) w logs held = serial rest (divided w tile granule k algs) logs (divide_held w logs held tile granule k algs)
serial (turns.Open store ∷ rest) w logs held = serial rest (opened store) logs (λ k. tt)

pub none_held : (w : Service) → NoneBegun w → AreHeld w no_logs
none_held w none k = subst (λ o. IsHeld w.store o []) (sym (none k)) tt

pub runs_are_serial : RunsAreSerial
runs_are_serial w turns none = serial turns w no_logs (none_held w none)
