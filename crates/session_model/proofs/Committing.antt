-- A session's commit is done where the store and what is kept have done their parts.
use Rattle.std.proofs.Common.{◌≡◌, ◌⊎◌, inl, inr, ℕ, ◌≤◌, true, false, eqb, nat_lt, if◌then◌else◌, Option, Some, None, IfSome, Result, Ok, Err, IfOk, OnErr, List, [], ◌∷◌, ◌++◌, refl, sym, ap, subst, ◌∙◌}
use Rattle.std.specs.BTreeMap.{is_at}
use Rattle.std.specs.List.{find}
use Rattle.std.specs.Map.{lookup}
use Rattle.std.specs.Ordering.{nat_cmp}
use Rattle.disk_words.specs.Disk.{State}
use Rattle.tuple_bytes.specs.declared.op.Op.{Op}
use Rattle.tuple_bytes.specs.declared.item.Txn.{Txn}
use Rattle.history_model.specs.History.{txns}
use Rattle.stmt_text.specs.declared.stmt.Stmt.{Stmt}
use Rattle.stmt_text.specs.declared.stmt.Stmt.TheVariants as stmts
use Rattle.stmt_text.specs.declared.line.Line.TheVariants as lines
use Rattle.store_engine.specs.declared.fail.StoreFail.{StoreFail}
use Rattle.store_engine.specs.declared.fail.StoreFail.TheVariants as fails
use Rattle.store_engine.specs.Opened.{Opened}
use Rattle.store_engine.specs.Refusals.{next_txn, commit_fault}
use Rattle.statement_core.specs.declared.reply.Reply.{Reply}
use Rattle.statement_core.specs.declared.statements.StepFail.{StepFail}
use Rattle.statement_core.specs.Database as stores
use Rattle.statement_core.specs.Refusing.{refused_by_store}
use Rattle.statement_core.specs.Steps as statements
use Rattle.statement_core.specs.Stepping as stepping
use Rattle.session_model.specs.declared.place.Place.{Place}
use Rattle.session_model.specs.Service.{Session, Service, put_at}
use Rattle.session_model.specs.Statements.{say}
use Rattle.session_model.specs.Steps.{Served, stored, unless_conflict, conflict, in_session, serve, heard, speak}
use Rattle.session_model.specs.Index.{noted_ops, IsIndex, AreNumbered}
use Rattle.session_model.specs.Pending.{HasRoom}
use Rattle.session_model.specs.Standing.{Kept, Machine, kept_at, numbers_at, IsSession, IsIn, NoneKept, StepsIn, serving}
use Rattle.session_model.specs.Keeping.{IsLeft, IsNoted, IsBehind, IsHeard, GoesAlong}
use Rattle.session_model.proofs.Later.{txns_more}
use Rattle.session_model.proofs.Machines.{notes_keep_index}
use Rattle.session_model.proofs.Numbering.{pushed}
use Rattle.session_model.proofs.Rooms.{say_room}

same_index : (from : ℕ) (f g : Place → List ℕ) (ts : List Txn) → ((place : Place) → g place ≡ f place) → IsIndex from f ts → IsIndex from g ts
same_index from f g ts same is = record { within = is.within; numbered = is.numbered; shows = λ begun place le. ap (find (nat_lt begun)) (same place) ∙ is.shows begun place le }

left_of : (n : ℕ) (ops : List Op) (m new : Machine) (fail : StoreFail) → GoesAlong n ops (refused_by_store fail) m new → IsLeft m new
left_of n ops m new (fails.ClockBack last) h = h
left_of n ops m new fail h = h

module _ (w : Service) (n now : ℕ) (op : Op) (ops : List Op) (m new_m : Machine) (stand new_stand : Opened) (old new : State) (before after : List ℕ) (is : IsIn w m stand before) where
  abbrev t : Txn
  t = next_txn (stores.tail_of_database w.store) (op ∷ ops) now

  numbered_by : (o : Option Session) → IfSome o (λ s. AreNumbered s.begun (txns w.store.items)) → IfSome o (λ s. AreNumbered s.begun (txns (stores.with_txn w.store t).items))
  numbered_by None h = tt
  numbered_by (Some s) h = subst (AreNumbered s.begun) (sym (txns_more w.store.items t)) (pushed s.begun (txns w.store.items) t refl h)

  indexed_by : IsNoted t.number (op ∷ ops) m new_m → (o : Option Session) → IfSome o (λ s. (m.touched.from ≤ s.begun) × IsIndex m.touched.from (numbers_at m.touched.places) (txns w.store.items))
      → IfSome o (λ s. (new_m.touched.from ≤ s.begun) × IsIndex new_m.touched.from (numbers_at new_m.touched.places) (txns (stores.with_txn w.store t).items))
  indexed_by goes None h = tt
  indexed_by goes (Some s) h =
      let kept = notes_keep_index m.touched.from (numbers_at m.touched.places) (txns w.store.items) t refl h.1 in
      let here = same_index m.touched.from (noted_ops t.number t.ops (numbers_at m.touched.places)) (numbers_at new_m.touched.places) (txns w.store.items ++ t ∷ []) goes.numbers kept in (
        subst (λ from. from ≤ s.begun) (sym goes.from) h.0,
        subst (λ from. IsIndex from (numbers_at new_m.touched.places) (txns (stores.with_txn w.store t).items)) (sym goes.from)
            (subst (IsIndex m.touched.from (numbers_at new_m.touched.places)) (sym (txns_more w.store.items t)) here),
      )

  -- stored
  behind_sessions : IsBehind n t.number (op ∷ ops) m new_m → (k : ℕ) → IsSession (put_at n None w.sessions k) (kept_at new_m k)
  behind_sessions goes k = subst (IsSession (put_at n None w.sessions k)) (sym (goes.sessions k))
      (elim (eqb k n) as (λ b. IsSession (if b then None else w.sessions k) (if b then None else kept_at m k)) [ true ↦ tt | false ↦ is.sessions k ])

  none_of : (o : Option Session) → IsSession o None → o ≡ None
  none_of None here = refl
  none_of (Some s) here = absurd here

  behind_indexed : IsBehind n t.number (op ∷ ops) m new_m → IsNoted t.number (op ∷ ops) m new_m ⊎ (new_m.sessions ≡ []) → (k : ℕ)
      → IfSome (put_at n None w.sessions k) (λ s. (new_m.touched.from ≤ s.begun) × IsIndex new_m.touched.from (numbers_at new_m.touched.places) (txns (stores.with_txn w.store t).items))
  behind_indexed goes (inl noted) k = elim (eqb k n) as (λ b. IfSome (if b then None else w.sessions k) (λ s. (new_m.touched.from ≤ s.begun) × IsIndex new_m.touched.from (numbers_at new_m.touched.places) (txns (stores.with_txn w.store t).items))) [ true ↦ tt | false ↦ indexed_by noted (w.sessions k) (is.indexed k) ]
  behind_indexed goes (inr none) k =
      let gone : put_at n None w.sessions k ≡ None = none_of (put_at n None w.sessions k) (subst (IsSession (put_at n None w.sessions k)) (ap (lookup (is_at (nat_cmp k))) none) (behind_sessions goes k)) in
      subst (λ (o : Option Session). IfSome o (λ s. (new_m.touched.from ≤ s.begun) × IsIndex new_m.touched.from (numbers_at new_m.touched.places) (txns (stores.with_txn w.store t).items))) (sym gone) tt

  behind_is : IsBehind n t.number (op ∷ ops) m new_m → stores.IsIn (stores.with_txn w.store t) new_stand after → IsIn (stored w n (op ∷ ops) now None).world new_m new_stand after
  behind_is goes store = record {
    store = store;
    sessions = behind_sessions goes;
    room = λ k. elim (eqb k n) as (λ b. HasRoom (if b then None else w.sessions k)) [ true ↦ tt | false ↦ is.room k ];
    numbered = λ k. elim (eqb k n) as (λ b. IfSome (if b then None else w.sessions k) (λ s. AreNumbered s.begun (txns (stores.with_txn w.store t).items))) [ true ↦ tt | false ↦ numbered_by (w.sessions k) (is.numbered k) ];
    indexed = behind_indexed goes goes.index;
  }

  -- refused
  left_indexed : IsLeft m new_m → (o : Option Session) → IfSome o (λ s. (m.touched.from ≤ s.begun) × IsIndex m.touched.from (numbers_at m.touched.places) (txns w.store.items))
      → IfSome o (λ s. (new_m.touched.from ≤ s.begun) × IsIndex new_m.touched.from (numbers_at new_m.touched.places) (txns w.store.items))
  left_indexed goes None h = tt
  left_indexed goes (Some s) h = (
    subst (λ from. from ≤ s.begun) (sym goes.from) h.0,
    subst (λ from. IsIndex from (numbers_at new_m.touched.places) (txns w.store.items)) (sym goes.from)
        (same_index m.touched.from (numbers_at m.touched.places) (numbers_at new_m.touched.places) (txns w.store.items) goes.numbers h.1),
  )

  left_is : IsLeft m new_m → stores.IsIn w.store new_stand after → IsIn w new_m new_stand after
  left_is goes store = record {
    store = store;
    sessions = λ k. subst (IsSession (w.sessions k)) (sym (goes.sessions k)) (is.sessions k);
    room = is.room;
    numbered = is.numbered;
    indexed = λ k. left_indexed goes (w.sessions k) (is.indexed k);
  }

  by_none : (result : Result Reply StepFail) → stepping.StepsIn w.store (statements.committed None w.store t) result stand new_stand old new before after
      → IfOk result (λ reply. GoesAlong n (op ∷ ops) reply m new_m) → OnErr result (NoneKept new_m)
      → StepsIn w (stored w n (op ∷ ops) now None) result (serving m stand) (serving new_m new_stand) old new before after
  by_none (Ok reply) st goes gone = record {
    reply = st.reply;
    stands = behind_is (subst (λ (r : Reply). GoesAlong n (op ∷ ops) r m new_m) st.reply goes) st.stands;
    dropped = tt;
    settled = st.settled;
    places = st.places;
    images = st.images;
    kept = st.kept;
    trace = st.trace;
  }
  by_none (Err fail) st goes gone = record { reply = tt; stands = tt; dropped = gone; settled = st.settled; places = st.places; images = st.images; kept = st.kept; trace = st.trace }

  by_some : (f : StoreFail) (result : Result Reply StepFail) → stepping.StepsIn w.store (statements.committed (Some f) w.store t) result stand new_stand old new before after
      → IfOk result (λ reply. GoesAlong n (op ∷ ops) reply m new_m) → OnErr result (NoneKept new_m)
      → StepsIn w (stored w n (op ∷ ops) now (Some f)) result (serving m stand) (serving new_m new_stand) old new before after
  by_some f (Ok reply) st goes gone = record {
    reply = st.reply;
    stands = left_is (left_of n (op ∷ ops) m new_m f (subst (λ (r : Reply). GoesAlong n (op ∷ ops) r m new_m) st.reply goes)) st.stands;
    dropped = tt;
    settled = st.settled;
    places = st.places;
    images = st.images;
    kept = st.kept;
    trace = st.trace;
  }
  by_some f (Err fail) st goes gone = record { reply = tt; stands = tt; dropped = gone; settled = st.settled; places = st.places; images = st.images; kept = st.kept; trace = st.trace }

  by_fault : (f : Option StoreFail) (result : Result Reply StepFail) → stepping.StepsIn w.store (statements.committed f w.store t) result stand new_stand old new before after
      → IfOk result (λ reply. GoesAlong n (op ∷ ops) reply m new_m) → OnErr result (NoneKept new_m)
      → StepsIn w (stored w n (op ∷ ops) now f) result (serving m stand) (serving new_m new_stand) old new before after
  by_fault None = by_none
  by_fault (Some f) = by_some f

  step_of : (s : Session) → w.sessions n ≡ Some s → conflict w s ≡ None → s.pending ≡ op ∷ ops
      → serve w (lines.InSession n stmts.Commit) now ≡ stored w n (op ∷ ops) now (commit_fault (stores.tail_of_database w.store) false (op ∷ ops) now)
  unfolding serve
  step_of s has free pends = ap (λ o. in_session w n o stmts.Commit now) has ∙ ap (unless_conflict w n s.pending now) free ∙ ap (λ l. unless_conflict w n l now None) pends

-- The store's step and what is kept make the step of the session.
pub commits_are_steps : (w : Service) (n now : ℕ) (s : Session) (op : Op) (ops : List Op) (result : Result Reply StepFail) (m new_m : Machine) (stand new_stand : Opened) (old new : State) (before after : List ℕ)
    → IsIn w m stand before → w.sessions n ≡ Some s → conflict w s ≡ None → s.pending ≡ op ∷ ops
    → stepping.StepsIn w.store (statements.commit w.store (op ∷ ops) now) result stand new_stand old new before after
    → IfOk result (λ reply. GoesAlong n (op ∷ ops) reply m new_m) → OnErr result (NoneKept new_m)
    → StepsIn w (serve w (lines.InSession n stmts.Commit) now) result (serving m stand) (serving new_m new_stand) old new before after
commits_are_steps w n now s op ops result m new_m stand new_stand old new before after is has free pends st goes gone =
    subst (λ (next : Served). StepsIn w next result (serving m stand) (serving new_m new_stand) old new before after) (sym (step_of w n now op ops m new_m stand new_stand old new before after is s has free pends))
    (by_fault w n now op ops m new_m stand new_stand old new before after is (commit_fault (stores.tail_of_database w.store) false (op ∷ ops) now) result st goes gone)

-- ---- a statement of a session

module _ (w : Service) (n now : ℕ) (s : Session) (stmt : Stmt) (kept : Kept) (m new_m : Machine) (stand new_stand : Opened) (before after : List ℕ) (is : IsIn w m stand before) (has : w.sessions n ≡ Some s) where
  abbrev next : Served
  next = speak w n s stmt (say w.store s.pending stmt)

  heard_room : (k : ℕ) → HasRoom (next.world.sessions k)
  heard_room k = elim (eqb k n) as (λ b. HasRoom (if b then Some (heard s stmt (say w.store s.pending stmt)) else w.sessions k)) [
    | true ↦ say_room w.store s.pending stmt (subst HasRoom has (is.room n))
    | false ↦ is.room k
  ]

  heard_numbered : (k : ℕ) → IfSome (next.world.sessions k) (λ s. AreNumbered s.begun (txns w.store.items))
  heard_numbered k = elim (eqb k n) as (λ b. IfSome (if b then Some (heard s stmt (say w.store s.pending stmt)) else w.sessions k) (λ s. AreNumbered s.begun (txns w.store.items))) [
    | true ↦ subst (λ (o : Option Session). IfSome o (λ s. AreNumbered s.begun (txns w.store.items))) has (is.numbered n)
    | false ↦ is.numbered k
  ]

  indexed_on : IsHeard n kept m new_m → (o : Option Session) → IfSome o (λ s. (m.touched.from ≤ s.begun) × IsIndex m.touched.from (numbers_at m.touched.places) (txns w.store.items))
      → IfSome o (λ s. (new_m.touched.from ≤ s.begun) × IsIndex new_m.touched.from (numbers_at new_m.touched.places) (txns w.store.items))
  indexed_on goes None h = tt
  indexed_on goes (Some s) h = (
    subst (λ from. from ≤ s.begun) (sym goes.from) h.0,
    subst (λ from. IsIndex from (numbers_at new_m.touched.places) (txns w.store.items)) (sym goes.from)
        (same_index m.touched.from (numbers_at m.touched.places) (numbers_at new_m.touched.places) (txns w.store.items) goes.numbers h.1),
  )

  heard_indexed : IsHeard n kept m new_m → (k : ℕ) → IfSome (next.world.sessions k) (λ s. (new_m.touched.from ≤ s.begun) × IsIndex new_m.touched.from (numbers_at new_m.touched.places) (txns w.store.items))
  heard_indexed goes k = elim (eqb k n) as (λ b. IfSome (if b then Some (heard s stmt (say w.store s.pending stmt)) else w.sessions k) (λ s. (new_m.touched.from ≤ s.begun) × IsIndex new_m.touched.from (numbers_at new_m.touched.places) (txns w.store.items))) [
    | true ↦ subst (λ (o : Option Session). IfSome o (λ s. (new_m.touched.from ≤ s.begun) × IsIndex new_m.touched.from (numbers_at new_m.touched.places) (txns w.store.items))) has (indexed_on goes (w.sessions n) (is.indexed n))
    | false ↦ indexed_on goes (w.sessions k) (is.indexed k)
  ]

  pub heard_is : IsHeard n kept m new_m → IsSession (Some (heard s stmt (say w.store s.pending stmt))) (Some kept) → stores.IsIn w.store new_stand after → IsIn next.world new_m new_stand after
  heard_is goes here store = record {
    store = store;
    sessions = λ k. subst (IsSession (next.world.sessions k)) (sym (goes.sessions k))
        (elim (eqb k n) as (λ b. IsSession (if b then Some (heard s stmt (say w.store s.pending stmt)) else w.sessions k) (if b then Some kept else kept_at m k)) [ true ↦ here | false ↦ is.sessions k ]);
    room = heard_room;
    numbered = heard_numbered;
    indexed = heard_indexed goes;
  }
