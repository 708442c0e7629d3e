-- A session that commits could have been in one piece.
use Rattle.std.proofs.Common.{◌≡◌, ℕ, Bool, true, false, eqb, if◌then◌else◌, Option, Some, None, List, [], ◌∷◌, ◌++◌, length, map, refl, sym, ap, subst, ◌∙◌, arith}
use Rattle.std.specs.List.{AllByRecursion}
use Rattle.std.specs.Option.{option_map}
use Rattle.std.proofs.lemmas.Bool.Decides.{nat_tests}
use Rattle.std.proofs.lemmas.List.{append-nil, drop_all}
use Rattle.tuple_bytes.specs.declared.op.Op.{Op}
use Rattle.tuple_bytes.specs.declared.item.Txn.{Txn}
use Rattle.history_model.specs.History.{txns}
use Rattle.stmt_text.specs.declared.stmt.Stmt.{Stmt}
use Rattle.stmt_text.specs.declared.stmt.Stmt.TheVariants as stmts
use Rattle.stmt_text.specs.declared.line.Line.{Line}
use Rattle.stmt_text.specs.declared.line.Line.TheVariants as lines
use Rattle.store_engine.specs.declared.fail.StoreFail.{StoreFail}
use Rattle.store_engine.specs.Refusals.{commit_fault}
use Rattle.statement_core.specs.declared.reply.Reply.{Reply}
use Rattle.statement_core.specs.declared.reply.Reply.TheVariants as replies
use Rattle.statement_core.specs.Database as stores
use Rattle.session_model.specs.declared.place.Place.{Place}
use Rattle.session_model.specs.Places.{first_touching, since}
use Rattle.session_model.specs.Statements.{say}
use Rattle.session_model.specs.Service.{Session, Service, put_at, with_session, new_session}
use Rattle.session_model.specs.Steps.{Answer, Replied, Served, answers, stored, store_pending, unless_conflict, conflict, heard, speak, in_session, serve}
use Rattle.session_model.specs.Alone.{alone_from, Exchange, IsAlone}
use Rattle.session_model.specs.Runs.{Turn, Logs, no_logs, logged, noted, told_in, world_after, reached, divided, opened}
use Rattle.session_model.specs.Serial.{WasAlone, NoneBegun}
use Rattle.session_model.specs.Pieces.{in_turn, piece, IsOnePiece, IsPieceOf, InPieces, IsSpoken, AloneIsOneSession, RunsAreInPieces}
use Rattle.session_model.specs.Runs as turns
use Rattle.session_model.proofs.Serials.{AreHeld, was_alone, line_goes, reach_held, divide_held, none_held}

put_here : {A : Type 0} (n : ℕ) (a : A) (f : ℕ → A) → put_at n a f n ≡ a
put_here n a f = let e : eqb n n ≡ true = grind (arith, nat_tests) in ap (λ b. if b then a else f n) e

abbrev pub told_of_line : Service → List Turn → Served → List Answer
told_of_line w rest next = next.answer ∷ told_in next.world rest

-- ---- statements of one session

pub spoken_step : (w : Service) (n now : ℕ) (s : Session) (stmt : Stmt) → IsSpoken stmt → in_session w n (Some s) stmt now ≡ speak w n s stmt (say w.store s.pending stmt)
spoken_step w n now s stmts.Begin spoken = absurd spoken
spoken_step w n now s stmts.Commit spoken = absurd spoken
spoken_step w n now s stmts.Abort spoken = absurd spoken
spoken_step w n now s stmt spoken = refl

pub step_is : (w : Service) (n now : ℕ) (o : Option Session) (stmt : Stmt) → w.sessions n ≡ o → serve w (lines.InSession n stmt) now ≡ in_session w n o stmt now
unfolding serve
step_is w n now o stmt is = ap (λ p. in_session w n p stmt now) is

-- the session behind its statements, and the world
abbrev pub heard_all : stores.Database → Session → List Stmt → Session
heard_all w s [] = s
heard_all w s (stmt ∷ ss) = heard_all w (heard s stmt (say w s.pending stmt)) ss

abbrev pub spoken_all : Service → ℕ → Session → List Stmt → Service
spoken_all w n s [] = w
spoken_all w n s (stmt ∷ ss) = spoken_all (with_session w n (Some (heard s stmt (say w.store s.pending stmt)))) n (heard s stmt (say w.store s.pending stmt)) ss

same_store : (ss : List Stmt) (w : Service) (n : ℕ) (s : Session) → (spoken_all w n s ss).store ≡ w.store
same_store [] w n s = refl
same_store (stmt ∷ ss) w n s = same_store ss (with_session w n (Some (heard s stmt (say w.store s.pending stmt)))) n (heard s stmt (say w.store s.pending stmt))

session_is : (ss : List Stmt) (w : Service) (n : ℕ) (s : Session) → w.sessions n ≡ Some s → (spoken_all w n s ss).sessions n ≡ Some (heard_all w.store s ss)
session_is [] w n s is = is
session_is (stmt ∷ ss) w n s is =
    session_is ss (with_session w n (Some (heard s stmt (say w.store s.pending stmt)))) n (heard s stmt (say w.store s.pending stmt)) (put_here n (Some (heard s stmt (say w.store s.pending stmt))) w.sessions)

others_kept : (ss : List Stmt) (w : Service) (n : ℕ) (s : Session) (k : ℕ) → eqb k n ≡ false → (spoken_all w n s ss).sessions k ≡ w.sessions k
others_kept [] w n s k e = refl
others_kept (stmt ∷ ss) w n s k e =
    others_kept ss (with_session w n (Some (heard s stmt (say w.store s.pending stmt)))) n (heard s stmt (say w.store s.pending stmt)) k e
    ∙ ap (λ b. if b then Some (heard s stmt (say w.store s.pending stmt)) else w.sessions k) e

begun_is : (ss : List Stmt) (w : stores.Database) (s : Session) → (heard_all w s ss).begun ≡ s.begun
begun_is [] w s = refl
begun_is (stmt ∷ ss) w s = begun_is ss w (heard s stmt (say w s.pending stmt))

pending_is : (ss : List Stmt) (w : stores.Database) (s : Session) → (heard_all w s ss).pending ≡ (alone_from w s.pending ss).pending
pending_is [] w s = refl
pending_is (stmt ∷ ss) w s = pending_is ss w (heard s stmt (say w s.pending stmt))

module _ (n now : ℕ) (rest : List Turn) where
  all_told : (ss : List Stmt) (w : Service) (s : Session) → AllByRecursion IsSpoken ss → w.sessions n ≡ Some s
      → told_in w (in_turn n now ss ++ rest) ≡ map Replied (alone_from w.store s.pending ss).replies ++ told_in (spoken_all w n s ss) rest
  all_told [] w s spoken is = refl
  all_told (stmt ∷ ss) w s spoken is =
      let next = heard s stmt (say w.store s.pending stmt) in
      ap (told_of_line w (in_turn n now ss ++ rest)) (step_is w n now (Some s) stmt is ∙ spoken_step w n now s stmt spoken.0)
      ∙ ap (λ l. Replied (say w.store s.pending stmt).reply ∷ l) (all_told ss (with_session w n (Some next)) next spoken.1 (put_here n (Some next) w.sessions))

  all_after : (ss : List Stmt) (w : Service) (s : Session) → AllByRecursion IsSpoken ss → w.sessions n ≡ Some s
      → world_after w (in_turn n now ss ++ rest) ≡ world_after (spoken_all w n s ss) rest
  all_after [] w s spoken is = refl
  all_after (stmt ∷ ss) w s spoken is =
      let next = heard s stmt (say w.store s.pending stmt) in
      ap (λ (st : Served). world_after st.world (in_turn n now ss ++ rest)) (step_is w n now (Some s) stmt is ∙ spoken_step w n now s stmt spoken.0)
      ∙ all_after ss (with_session w n (Some next)) next spoken.1 (put_here n (Some next) w.sessions)

pub alone_is_one_session : AloneIsOneSession
alone_is_one_session w n now s ss spoken is = record {
  answers_are =
      ap (told_in w) (sym (append-nil (in_turn n now ss)))
      ∙ all_told n now [] ss w s spoken is
      ∙ append-nil (map Replied (alone_from w.store s.pending ss).replies);
  pending_is =
      ap (λ l. option_map (λ (t : Session). t.pending) ((world_after w l).sessions n)) (sym (append-nil (in_turn n now ss)))
      ∙ ap (λ (x : Service). option_map (λ (t : Session). t.pending) (x.sessions n)) (all_after n now [] ss w s spoken is)
      ∙ ap (option_map (λ (t : Session). t.pending)) (session_is ss w n s is)
      ∙ ap Some (pending_is ss w.store s);
}

-- ---- a commit depends on the store and on what is pending

abbrev pub world_of : stores.Database → (ℕ → Option Session) → Service
world_of store sessions = record { store = store; sessions = sessions }

module _ (n now : ℕ) (a b : ℕ → Option Session) where
  stored_same : (store : stores.Database) (ops : List Op) (f : Option StoreFail) → ((stored (world_of store a) n ops now f).answer ≡ (stored (world_of store b) n ops now f).answer) × ((stored (world_of store a) n ops now f).world.store ≡ (stored (world_of store b) n ops now f).world.store)
  stored_same store ops None = (refl, refl)
  stored_same store ops (Some fail) = (refl, refl)

  commit_same : (store : stores.Database) (ops : List Op) → ((store_pending (world_of store a) n ops now).answer ≡ (store_pending (world_of store b) n ops now).answer) × ((store_pending (world_of store a) n ops now).world.store ≡ (store_pending (world_of store b) n ops now).world.store)
  commit_same store [] = (refl, refl)
  commit_same store (op ∷ ops) = stored_same store (op ∷ ops) (commit_fault (stores.tail_of_database store) false (op ∷ ops) now)

-- nothing speaks against storing these operations
abbrev pub IsFree : stores.Database → List Op → ℕ → Type 0
IsFree w [] now = Unit {0}
IsFree w (op ∷ ops) now = commit_fault (stores.tail_of_database w) false (op ∷ ops) now ≡ None

-- ---- one piece

map-map : {A B C : Type 0} (f : A → B) (g : B → C) (xs : List A) → map g (map f xs) ≡ map (λ x. g (f x)) xs
map-map f g [] = refl
map-map f g (x ∷ xs) = ap (λ l. g (f x) ∷ l) (map-map f g xs)

none_since : (places : List Place) (ts : List Txn) → first_touching places (since (length ts) ts) ≡ None
none_since places ts = ap (first_touching places) (drop_all (length ts) ts (omega arith))

abbrev pub stmts_of : List Exchange → List Stmt
stmts_of log = map (λ t. t.stmt) log

module _ (w : Service) (n now : ℕ) (log : List Exchange) (spoken : AllByRecursion IsSpoken (stmts_of log)) (pending : List Op) (alike : IsAlone w.store log pending) (sessions : ℕ → Option Session) (none : sessions n ≡ None) where
  abbrev pub free : Service
  free = world_of w.store sessions

  abbrev pub fresh : Service
  fresh = with_session free n (Some (new_session free))

  abbrev pub behind : Service
  behind = spoken_all fresh n (new_session free) (stmts_of log)

  abbrev pub last : Session
  last = heard_all w.store (new_session free) (stmts_of log)

  begin_is : serve free (lines.InSession n stmts.Begin) now ≡ answers fresh (Replied replies.Done)
  begin_is = step_is free n now None stmts.Begin none

  last_is : behind.sessions n ≡ Some last
  last_is = session_is (stmts_of log) fresh n (new_session free) (put_here n (Some (new_session free)) free.sessions)

  store_is : behind.store ≡ w.store
  store_is = same_store (stmts_of log) fresh n (new_session free)

  no_conflict : conflict behind last ≡ None
  no_conflict =
      ap (λ (st : stores.Database). first_touching last.reads (since last.begun (txns st.items))) store_is
      ∙ ap (λ m. first_touching last.reads (since m (txns w.store.items))) (begun_is (stmts_of log) w.store (new_session free))
      ∙ none_since last.reads (txns w.store.items)

  last_pending : last.pending ≡ pending
  last_pending = pending_is (stmts_of log) w.store (new_session free) ∙ sym alike.pending_is

  commit_is : serve behind (lines.InSession n stmts.Commit) now ≡ store_pending behind n pending now
  commit_is =
      step_is behind n now (Some last) stmts.Commit last_is
      ∙ ap (unless_conflict behind n last.pending now) no_conflict
      ∙ ap (λ ops. store_pending behind n ops now) last_pending

  answer_is : (store_pending behind n pending now).answer ≡ (store_pending w n pending now).answer
  answer_is = (commit_same n now behind.sessions w.sessions behind.store pending).0 ∙ ap (λ (st : stores.Database). (store_pending (world_of st w.sessions) n pending now).answer) store_is

  stored_is : (store_pending behind n pending now).world.store ≡ (store_pending w n pending now).world.store
  stored_is = (commit_same n now behind.sessions w.sessions behind.store pending).1 ∙ ap (λ (st : stores.Database). (store_pending (world_of st w.sessions) n pending now).world.store) store_is

  abbrev pub commit_turn : List Turn
  commit_turn = turns.Take (lines.InSession n stmts.Commit) now ∷ []

  pub piece_told : told_in free (piece n now (stmts_of log)) ≡ Replied replies.Done ∷ (map (λ (t : Exchange). Replied t.reply) log ++ (store_pending w n pending now).answer ∷ [])
  piece_told =
      ap (told_of_line free (in_turn n now (stmts_of log) ++ commit_turn)) begin_is
      ∙ ap (λ l. Replied replies.Done ∷ l)
      (all_told n now commit_turn (stmts_of log) fresh (new_session free) spoken (put_here n (Some (new_session free)) free.sessions)
      ∙ ap (λ l. map Replied l ++ told_in behind commit_turn) (sym alike.replies_are)
      ∙ ap (λ l. l ++ told_in behind commit_turn) (map-map (λ (t : Exchange). t.reply) Replied log)
      ∙ ap (λ (a : Answer). map (λ (t : Exchange). Replied t.reply) log ++ a ∷ []) (ap (λ (st : Served). st.answer) commit_is ∙ answer_is))

  piece_world : world_after free (piece n now (stmts_of log)) ≡ (store_pending behind n pending now).world
  piece_world =
      ap (λ (st : Served). world_after st.world (in_turn n now (stmts_of log) ++ commit_turn)) begin_is
      ∙ all_after n now commit_turn (stmts_of log) fresh (new_session free) spoken (put_here n (Some (new_session free)) free.sessions)
      ∙ ap (λ (st : Served). st.world) commit_is

  pub piece_stored : (world_after free (piece n now (stmts_of log))).store ≡ (store_pending w n pending now).world.store
  piece_stored = ap (λ (x : Service). x.store) piece_world ∙ stored_is

  -- where no session was begun, none is then
  none_in : NoneBegun free → (k : ℕ) → put_at n None behind.sessions k ≡ None
  none_in all k = by (eqb k n) refl
    where
      by : (b : Bool) → eqb k n ≡ b → put_at n None behind.sessions k ≡ None
      by true e = ap (λ b. if b then None else behind.sessions k) e
      by false e =
          ap (λ b. if b then None else behind.sessions k) e
          ∙ others_kept (stmts_of log) fresh n (new_session free) k e
          ∙ ap (λ b. if b then Some (new_session free) else sessions k) e
          ∙ all k

  none_stored : NoneBegun free → (ops : List Op) → IsFree behind.store ops now → NoneBegun (store_pending behind n ops now).world
  none_stored all [] e = none_in all
  none_stored all (op ∷ ops) e = subst (λ (f : Option StoreFail). NoneBegun (stored behind n (op ∷ ops) now f).world) (sym e) (none_in all)

  pub piece_none : NoneBegun free → IsFree w.store pending now → NoneBegun (world_after free (piece n now (stmts_of log)))
  piece_none all e =
      subst (λ (x : Service). NoneBegun x) (sym piece_world)
      (none_stored all pending (subst (λ (st : stores.Database). IsFree st pending now) (sym store_is) e))

pub one_piece : (w : Service) (n now : ℕ) (log : List Exchange) → AllByRecursion IsSpoken (stmts_of log) → (pending : List Op) → IsAlone w.store log pending → IsOnePiece w n now log (store_pending w n pending now)
one_piece w n now log spoken pending alike = record {
  answers_are = piece_told w n now log spoken pending alike (put_at n None w.sessions) (put_here n None w.sessions);
  store_is = piece_stored w n now log spoken pending alike (put_at n None w.sessions) (put_here n None w.sessions);
}

-- ---- runs

-- each log is of statements that a session speaks
abbrev pub AreSpoken : Logs → Type 0
AreSpoken logs = (n : ℕ) → AllByRecursion IsSpoken (stmts_of (logs n))

spoken_more : (log : List Exchange) (stmt : Stmt) (reply : Reply) → IsSpoken stmt → AllByRecursion IsSpoken (stmts_of log) → AllByRecursion IsSpoken (stmts_of (log ++ record { stmt = stmt; reply = reply } ∷ []))
spoken_more [] stmt reply is h = (is, tt)
spoken_more (t ∷ log) stmt reply is h = (h.0, spoken_more log stmt reply is h.1)

logged_spoken : (log : List Exchange) (stmt : Stmt) (reply : Reply) → AllByRecursion IsSpoken (stmts_of log) → AllByRecursion IsSpoken (stmts_of (logged log stmt reply))
logged_spoken log stmts.Begin reply h = tt
logged_spoken log stmts.Commit reply h = h
logged_spoken log stmts.Abort reply h = h
logged_spoken log stmt reply h = spoken_more log stmt reply tt h

pub noted_spoken : (logs : Logs) (line : Line) (answer : Answer) → AreSpoken logs → AreSpoken (noted logs line answer)
noted_spoken logs (lines.InSession n stmt) (Replied reply) h k =
    elim (eqb k n) as (λ b. AllByRecursion IsSpoken (stmts_of (if b then logged (logs n) stmt reply else logs k))) [ true ↦ logged_spoken (logs n) stmt reply (h n) | false ↦ h k ]
noted_spoken logs (lines.InSession n stmt) answer h k = h k
noted_spoken logs line answer h k = h k

module _ (w : Service) (logs : Logs) (held : AreHeld w logs) (spoken : AreSpoken logs) where
  module _ (n now : ℕ) where
    any_answer : (next : Served) (a : Answer) → IsOnePiece w n now (logs n) next → IsPieceOf w logs (lines.InSession n stmts.Commit) now next a
    any_answer next (Replied reply) is = λ _. is
    any_answer next a is = tt

    piece_of : (s : Session) → w.sessions n ≡ Some s → (c : Option ℕ) → conflict w s ≡ c
        → IsPieceOf w logs (lines.InSession n stmts.Commit) now (unless_conflict w n s.pending now c) (unless_conflict w n s.pending now c).answer
    piece_of s is (Some number) e = tt
    piece_of s is None e =
        let alike : IsAlone w.store (logs n) s.pending = subst (λ o. WasAlone w.store (logs n) o) is (was_alone w logs held n now s is e) in
        any_answer (store_pending w n s.pending now) (store_pending w n s.pending now).answer (one_piece w n now (logs n) (spoken n) s.pending alike)

    session_piece : (o : Option Session) → w.sessions n ≡ o → (stmt : Stmt) → IsPieceOf w logs (lines.InSession n stmt) now (in_session w n o stmt now) (in_session w n o stmt now).answer
    session_piece None is stmts.Begin = tt
    session_piece None is stmt = tt
    session_piece (Some s) is stmts.Begin = tt
    session_piece (Some s) is stmts.Commit = piece_of s is (conflict w s) refl
    session_piece (Some s) is stmts.Abort = tt
    session_piece (Some s) is stmt = tt

  line_piece : (line : Line) (now : ℕ) → IsPieceOf w logs line now (serve w line now) (serve w line now).answer
  unfolding serve
  line_piece (lines.Plain stmt) now = tt
  line_piece (lines.InSession n stmt) now = session_piece n now (w.sessions n) refl stmt
  line_piece lines.Blank now = tt
  line_piece (lines.Drill event) now = tt

pieces : (ts : List Turn) (w : Service) (logs : Logs) → AreHeld w logs → AreSpoken logs → InPieces w logs ts
pieces [] w logs held spoken = tt
pieces (turns.Take line now ∷ rest) w logs held spoken = (
  line_piece w logs held spoken line now,
  pieces rest (serve w line now).world (noted logs line (serve w line now).answer) (line_goes w logs held line now).1 (noted_spoken logs line (serve w line now).answer spoken),
)
pieces (turns.Reach moment ∷ rest) w logs held spoken = pieces rest (reached w moment) logs (reach_held w logs held moment) spoken
pieces (turns.Divide tile granule k algs ∷ rest) w logs held spoken =
    pieces rest (divided w tile granule k algs) logs (divide_held w logs held tile granule k algs) spoken
pieces (turns.Open store ∷ rest) w logs held spoken = pieces rest (opened store) logs (λ k. tt) spoken

pub runs_are_in_pieces : RunsAreInPieces
runs_are_in_pieces w ts none = pieces ts w no_logs (none_held w none) (λ n. tt)
