-- A notarization does to the world what the definition says.
use Rattle.std.proofs.Common.{◌≡◌, ◌≢◌, ◌⊎◌, ℕ, ◌-◌, ◌≤◌, ◌==◌, Bool, true, false, List, [], ◌∷◌, ◌++◌, length, take, Option, Some, None, IsSome, IfSome, Result, Ok, Err, IsOk, OnOk, IfOk, IfErr, inl, inr, refl, sym, ap, subst, ◌∙◌, arith}
use Rattle.std.specs.Prelude.{codes}
use Rattle.std.proofs.Math.Seq.{take-length}
use Rattle.std.proofs.lemmas.Bool.{cases_eq, eq-eqb, ne_eqb}
use Rattle.std.proofs.lemmas.List.{append-nil, take-take}
use Rattle.outside_words.specs.Told.{WhereTold}
use Rattle.disk_words.specs.Disk.{State, turn, Only, Unchanged}
use Rattle.disk_model.specs.Moments.{EveryImage, MakesCalls}
use Rattle.disk_model.proofs.Moments.{weaker}
use Rattle.tuple_bytes.specs.declared.header.Header.{Header}
use Rattle.tuple_bytes.specs.declared.item.Item.{Item}
use Rattle.tuple_bytes.specs.declared.item.Item.TheVariants as items
use Rattle.tuple_bytes.specs.Spelling.{spell_frontier}
use Rattle.history_model.specs.History.{txns, history}
use Rattle.history_model.specs.Placing.{gate_behind}
use Rattle.notary_link.specs.declared.notary.NotaryLimits.{NotaryLimits}
use Rattle.notary_link.specs.Batches.{Batch}
use Rattle.notary_link.specs.Filing.{fitting, room_in, FilesAll}
use Rattle.notary_link.specs.Notary as notaries
use Rattle.notary_link.specs.Notary.{Lists, Keeps}
use Rattle.notary_link.proofs.InAll.{kept_seals}
use Rattle.store_engine.specs.Opened.{Opened, Stores, IsOpenOn}
use Rattle.store_engine.proofs.Telling.{txns_stay}
use Rattle.stmt_text.specs.declared.stmt.Stmt.TheVariants as stmts
use Rattle.stmt_text.specs.declared.line.Line.TheVariants as lines
use Rattle.statement_core.specs.Database as statements
use Rattle.session_model.specs.Standing as sessions
use Rattle.session_model.specs.Standing.{Machine}
use Rattle.validator.specs.Desk.{desk}
use Rattle.validator.specs.declared.fail.AuditFail.{AuditFail}
use Rattle.validator.specs.declared.fail.AuditFail.TheVariants as fails
use Rattle.validator.specs.Texts.{refusal_text}
use Rattle.validator.specs.Notarizing.{Heard, heard_of, Intent, early_fault, IsEarly, IsRefusedBy}
use Rattle.validator.specs.Filing.{FilesFor, HasFiledMore, TellsCount, Files as AuditFiles}
use Rattle.validator.proofs.Telling.{told_here}
use Rattle.validator.specs.Reaching as reaching
use Rattle.validator.specs.Reaching.{CarriesOut, Notarizes, IsReached, StoresAround}
use Rattle.audit_steps.specs.declared.auditing.Auditing.{Auditing}
use Rattle.store_world.specs.declared.answered.Answered.{Answered}
use Rattle.store_world.specs.declared.fail.LineFail.{LineFail}
use Rattle.stmt_text.specs.declared.line.Line.{Line}
use Rattle.store_world.specs.Found.{Found}
use Rattle.store_world.specs.Finding.{MayRefuse, full_unless, have_room, MayFile, MayFind}
use Rattle.store_world.specs.World.{World, StoresOf, with_store}
use Rattle.store_world.specs.Standing.{IsIn}
use Rattle.store_world.specs.Lists.{IsBeside, ListsGo}
use Rattle.store_world.specs.Answers.{said, refusal, IsAnswer}
use Rattle.store_world.specs.Faults.{early_over, EndsTimely}
use Rattle.store_engine.specs.Refusals.{tail_of}
use Rattle.store_world.proofs.Replies.{Answers, replies}
use Rattle.store_world.specs.Parts.{alone}
use Rattle.store_world.specs.CallsMade.{MakesLineCalls}
use Rattle.store_world.specs.Steps.{Step, step, intent_in, says, filed, filed_for, reached, sealed_text, carried_out, unless, notarized}
use Rattle.store_world.specs.Stepping.{Goes, Steps, StepsFor}
use Rattle.store_world.proofs.Adding.{reached_extends}
use Rattle.store_world.proofs.Kept.{audit_kept}
use Rattle.store_world.proofs.Between.{keeps_then, filed_keeps, filed_between}
use Rattle.store_world.proofs.LineKinds.{heard_so, notarize_step}
use Rattle.store_world.proofs.LineItems.{carried_world}
use Rattle.store_world.proofs.Intents.{does_in, early_in}
use Rattle.store_world.proofs.Faults.{ends_anyhow, ends_timely, ends_asking}
use Rattle.store_world.proofs.Left.{given, files_still, beside_by}
use Rattle.store_world.proofs.NotaryCalls.{notarization_makes}
use Rattle.store_world.proofs.Refused.{refused}
use Rattle.store_world.proofs.Sessions.{stands_still}
use Rattle.store_world.proofs.Tables.{HasStore, has_store, none_old, never_longer, items_stay}

keeps_none : (id : ℕ) (lists later : Lists) → Keeps lists later → FilesAll id [] lists later
keeps_none id lists later keeps = record { filed = keeps.batches id ∙ sym (append-nil (lists.batches id)); others = λ other apart. keeps.batches other; marks = keeps.marks }

-- some of the batches that fit were filed
pub record FilesFew (id : ℕ) (batches : List Batch) (fit : ℕ) (lists later : Lists) : Type 0 where
  pub done : ℕ
  pub few : done ≤ fit
  pub files : FilesAll id (take done batches) lists later

pub few_filed : (id : ℕ) (limits : NotaryLimits) (batches : List Batch) (r : Result ℕ AuditFail) (lists later : Lists) → FilesFor id limits batches r lists later → FilesFew id batches (fitting (room_in limits lists) batches) lists later
few_filed id limits batches r lists later files = by r files
  where
    none : Keeps lists later → FilesFew id batches (fitting (room_in limits lists) batches) lists later
    none keeps = record { done = 0; few = omega arith; files = keeps_none id lists later keeps }

    by : (r : Result ℕ AuditFail) → FilesFor id limits batches r lists later → FilesFew id batches (fitting (room_in limits lists) batches) lists later
    by (Ok n) whole = record { done = length batches; few = omega (arith, whole.fit); files = subst (λ (l : List Batch). FilesAll id l lists later) (sym (take-length batches)) whole.filed }
    by (Err fails.Full) part = record { done = fitting (room_in limits lists) batches; few = omega arith; files = part.filed }
    by (Err fails.NotaryFault) part = record { done = part.done; few = part.fit; files = part.filed }
    by (Err fails.NoMemory) part = record { done = part.done; few = part.fit; files = part.filed }
    by (Err fails.DiskFault) keeps = none keeps
    by (Err (fails.ClockBack last)) keeps = none keeps
    by (Err fails.TooLate) keeps = none keeps
    by (Err fails.StoreFull) keeps = none keeps
    by (Err fails.TooManyEras) keeps = none keeps
    by (Err fails.Closed) keeps = none keeps
    by (Err fails.Broken) keeps = none keeps
    by (Err (fails.SealMissing name)) keeps = none keeps
    by (Err (fails.OutOfTurn count)) never = absurd never

-- why not all was taken: by the answer, and where there is none by the room
abbrev pub taken_by : Result ℕ AuditFail → Bool → Option AuditFail
taken_by (Ok n) all_fit = None
taken_by (Err fails.Full) all_fit = Some fails.Full
taken_by (Err (fails.OutOfTurn count)) all_fit = Some (fails.OutOfTurn count)
taken_by (Err fail) all_fit = full_unless all_fit

full_may : (b : Bool) → MayRefuse (full_unless b)
full_may true = tt
full_may false = tt

room_turn : (b : Bool) (later : notaries.State) → IfSome (full_unless b) (λ fail. TellsCount fail later)
room_turn true later = tt
room_turn false later = tt

-- what was out of turn is told with the count that was answered
taken_turn : (r : Result ℕ AuditFail) (b : Bool) (later : notaries.State) → IfErr r (λ fail. TellsCount fail later) → IfSome (taken_by r b) (λ fail. TellsCount fail later)
taken_turn (Ok n) b later turn = tt
taken_turn (Err fails.Full) b later turn = tt
taken_turn (Err (fails.OutOfTurn count)) b later turn = turn
taken_turn (Err fails.DiskFault) b later turn = room_turn b later
taken_turn (Err fails.NotaryFault) b later turn = room_turn b later
taken_turn (Err fails.NoMemory) b later turn = room_turn b later
taken_turn (Err (fails.ClockBack last)) b later turn = room_turn b later
taken_turn (Err fails.TooLate) b later turn = room_turn b later
taken_turn (Err fails.StoreFull) b later turn = room_turn b later
taken_turn (Err fails.TooManyEras) b later turn = room_turn b later
taken_turn (Err fails.Closed) b later turn = room_turn b later
taken_turn (Err fails.Broken) b later turn = room_turn b later
taken_turn (Err (fails.SealMissing name)) b later turn = room_turn b later

taken_may : (r : Result ℕ AuditFail) (b : Bool) → MayRefuse (taken_by r b)
taken_may (Ok n) b = tt
taken_may (Err fails.Full) b = tt
taken_may (Err (fails.OutOfTurn count)) b = tt
taken_may (Err fails.DiskFault) b = full_may b
taken_may (Err fails.NotaryFault) b = full_may b
taken_may (Err fails.NoMemory) b = full_may b
taken_may (Err (fails.ClockBack last)) b = full_may b
taken_may (Err fails.TooLate) b = full_may b
taken_may (Err fails.StoreFull) b = full_may b
taken_may (Err fails.TooManyEras) b = full_may b
taken_may (Err fails.Closed) b = full_may b
taken_may (Err fails.Broken) b = full_may b
taken_may (Err (fails.SealMissing name)) b = full_may b

module _ (now : ℕ) (s later_s : Opened) (old new : State) (before after : List ℕ) (header : later_s.header ≡ s.header) (only_now : (c : List ℕ) → old.was_image (turn old) c → old.is_image c)
    (reads : Unchanged old new → after ≡ before) (w : World) (kept_sessions : Machine) (auditing : Option Auditing) (i : IsIn w (alone kept_sessions s auditing) before) (has : HasStore w kept_sessions s before) (heard : Heard) where
  abbrev ws : statements.Database
  ws = has.world

  abbrev To : Step → Result Answered LineFail → Type 0
  To next result = Goes w next result (alone kept_sessions later_s auditing) old new before after

  -- what is to be done
  abbrev intent : Intent
  intent = intent_in ws now heard

  abbrev fault : Option AuditFail
  fault = intent.fault

  abbrev need : Option ℕ
  need = intent.frontier

  abbrev batches : List Batch
  batches = intent.batches

  abbrev tiles : ℕ
  tiles = intent.sealed

  abbrev fit : ℕ
  fit = fitting (room_in w.limits w.lists) batches

  abbrev taken : Result ℕ AuditFail → Option AuditFail
  taken r = taken_by r (fit == length batches)

  -- ---- nothing speaks against it

  abbrev pub new_world : World
  new_world = filed (with_store w (reached need ws)) batches

  abbrev Around : List ℕ → Type 0
  Around c = StoresAround s.header ws.items need c

  of_ws : (c : List ℕ) → Stores s.header ws.items c → StoresOf w.id w.store w.old_history c
  of_ws c stores = subst (λ (o : Option statements.Database). StoresOf w.id o w.old_history c) (sym has.is) (subst (λ (h : Header). Stores h ws.items c) has.stands.header stores)

  pub either_of : (o : Option ℕ) (c : List ℕ) → StoresAround s.header ws.items o c → StoresOf w.id w.store w.old_history c ⊎ StoresOf w.id (Some (reached o ws)) w.old_history c
  either_of None c stores = inl (of_ws c stores)
  either_of (Some moment) c (inl stores) = inl (of_ws c stores)
  either_of (Some moment) c (inr stores) = inr (subst (λ (h : Header). Stores h (reached (Some moment) ws).items c) has.stands.header stores)

  stands_with : (o : Option ℕ) → txns (reached o ws).items ≡ txns ws.items → statements.IsIn (reached o ws) later_s after → sessions.IsIn (record { store = reached o ws; sessions = w.sessions }) kept_sessions later_s after
  stands_with o same stands = stands_still ws (reached o ws) w.sessions kept_sessions s later_s before after same stands has.with_sessions

  pub stands_in : (o : Option ℕ) → IsReached o s later_s ws.items old new before after → sessions.IsIn (record { store = reached o ws; sessions = w.sessions }) kept_sessions later_s after × ((reached o ws).header.id ≡ w.id)
  stands_in None r = (stands_with None refl (record { header = header ∙ has.stands.header; end = ap (λ (x : Opened). x.at.end) r.store_is ∙ has.stands.end; open_on = r.open_on }), has.own)
  stands_in (Some moment) r = (
    stands_with (Some moment) (txns_stay ws.items (items.Frontier moment) refl) (record {
      header = header ∙ has.stands.header;
      end = ap (λ (x : Opened). x.at.end) r.store_is ∙ ap (λ (e : ℕ). gate_behind e (length (spell_frontier moment))) has.stands.end;
      open_on = r.open_on;
    }),
    has.own,
  )

  reached_stores : (o : Option ℕ) → IsReached o s later_s ws.items old new before after → StoresOf w.id (Some (reached o ws)) w.old_history after
  reached_stores None r = subst (λ (h : Header). Stores h ws.items after) (header ∙ has.stands.header) r.open_on.stores
  reached_stores (Some moment) r = subst (λ (h : Header). Stores h (reached (Some moment) ws).items after) (header ∙ has.stands.header) r.open_on.stores

  -- a world that stays needs no Frontier, and without one there is no call
  needs_none : (o : Option ℕ) → Some (reached o ws) ≡ Some ws → o ≡ None
  needs_none None stays = refl
  needs_none (Some moment) stays = absurd (never_longer ws.items (items.Frontier moment) (items_stay (reached (Some moment) ws) ws stays))

  unmoved : (o : Option ℕ) → MakesCalls (reaching.frontier_calls s o) (Ok tt) old new → o ≡ None → new.trace ≡ old.trace
  unmoved None moves none = moves
  unmoved (Some moment) moves none = absurd cc

  abbrev Done : Type 0
  Done = IsReached need s later_s ws.items old new before after

  module _ (images : Only before old → EveryImage old new Around) (kept : Only before old → Around after) where
    go : (text : List ℕ) (is_refused : Bool) (result : Result Answered LineFail) → OnOk result (Done × (need ≡ None → new.trace ≡ old.trace))
        → IfOk result (λ answered. answered ≡ record { refused = is_refused; text = text })
        → To (record { world = new_world; text = text; is_refused = is_refused }) result
    go text is_refused (Ok answered) done reply = record {
      reply = record { text = ap (λ (x : Answered). x.text) reply; refused = ap (λ (x : Answered). x.refused) reply };
      stands = record {
        id = ap (λ (h : Header). h.id) header ∙ i.id;
        store = stands_in need done.0;
        old = has.none_old ∙ sym (none_old w.id after done.0.open_on.stores.format);
        is_old = i.is_old;
        audit = audit_kept w.id auditing ws (reached need ws) s later_s before after (reached_extends need ws) done.0.places has.stands (stands_in need done.0).0.store i.audit;
        audited = i.audited;
      };
      settled = done.0.settled;
      images = λ only. weaker (images only) (either_of need);
      kept = λ only. either_of need after (kept only);
      same = λ stays. done.1 (needs_none need (stays ∙ has.is));
    }
    go text is_refused (Err fail) done reply = record {
      reply = tt;
      stands = tt;
      settled = λ only. tt;
      images = λ only. weaker (images only) (either_of need);
      kept = λ only. either_of need after (kept only);
      same = λ stays. tt;
    }

    abbrev Carried : Option AuditFail → Step
    Carried refusal = unless refusal new_world (says new_world (sealed_text tiles))

    failed : (refusal : Option AuditFail) (result : Result Answered LineFail) → OnOk result ⊥ → To (Carried refusal) result
    failed refusal (Ok answered) never = absurd never
    failed None (Err fail) never = go (sealed_text tiles ++ 10 ∷ []) false (Err fail) tt tt
    failed (Some cause) (Err fail) never = go (codes "refused " ++ refusal_text cause ++ 10 ∷ []) true (Err fail) tt tt

    told_so : (cause : AuditFail) (result : Result Answered LineFail) → Done → (need ≡ None → new.trace ≡ old.trace) → IfOk result (λ answered. answered ≡ refusal (refusal_text cause)) → To (Carried (Some cause)) result
    told_so cause result done moves reply = go (codes "refused " ++ refusal_text cause ++ 10 ∷ []) true result (given result (done, moves)) reply

    pub made : fault ≡ None → (r : Result ℕ AuditFail) (result : Result Answered LineFail) → Answers sealed_text r result → IsRefusedBy fault r → IfOk r (λ n. n ≡ tiles)
        → reaching.MakesFor (reaching.frontier_calls s need) r old new → (left_too shut : Type 0) → reaching.StandsAfter r Done left_too shut → To (Carried (taken r)) result
    made free (Ok n) result answer by value moves L S stands = go (sealed_text tiles ++ 10 ∷ []) false result (given result (stands, unmoved need moves))
        (subst (λ (m : ℕ). IfOk result (λ answered. answered ≡ said (sealed_text m))) value answer)
    made free (Err fails.Full) result answer by value moves L S stands = told_so fails.Full result stands (unmoved need moves) answer
    made free (Err (fails.OutOfTurn count)) result answer by value moves L S stands = told_so (fails.OutOfTurn count) result stands (unmoved need moves) answer
    made free (Err fails.DiskFault) result answer by value moves L S stands = failed (taken (Err fails.DiskFault)) result answer
    made free (Err fails.NotaryFault) result answer by value moves L S stands = failed (taken (Err fails.NotaryFault)) result answer
    made free (Err fails.NoMemory) result answer by value moves L S stands = failed (taken (Err fails.NoMemory)) result answer
    made free (Err fails.Closed) result answer by value moves L S stands = let some : fault ≡ Some fails.Closed = by in absurd cc
    made free (Err (fails.ClockBack last)) result answer by value moves L S stands = let some : fault ≡ Some (fails.ClockBack last) = by in absurd cc
    made free (Err fails.TooLate) result answer by value moves L S stands = let some : fault ≡ Some fails.TooLate = by in absurd cc
    made free (Err fails.StoreFull) result answer by value moves L S stands = let some : fault ≡ Some fails.StoreFull = by in absurd cc
    made free (Err fails.TooManyEras) result answer by value moves L S stands = let some : fault ≡ Some fails.TooManyEras = by in absurd cc
    made free (Err fails.Broken) result answer by value moves L S stands = let some : fault ≡ Some fails.Broken = by in absurd cc
    made free (Err (fails.SealMissing name)) result answer by value moves L S stands = let some : fault ≡ Some (fails.SealMissing name) = by in absurd cc

  -- ---- either way

  module _ (r : Result ℕ AuditFail) (result : Result Answered LineFail) (answer : IsAnswer sealed_text r result) (filed later : notaries.State) (n : CarriesOut intent ws.items r s later_s (desk old filed) (desk new later) before after) where
    goes_by : (f : Option AuditFail) → fault ≡ f → To (unless f w (carried_out w ws intent (taken r))) result
    goes_by (Some fail) is =
        refused s later_s old new before after only_now reads w kept_sessions auditing i fault fail is (n.free (subst (λ (o : Option AuditFail). IsSome o) (sym is) refl)).0 sealed_text r result (replies sealed_text r result answer) n.refused Done (later_s.at.is_closed ≡ true) n.stands
    goes_by None is = made n.images n.kept is r result (replies sealed_text r result answer) n.refused n.value n.trace (reaching.IsLeft s later_s old new) (later_s.at.is_closed ≡ true) n.stands

    -- ---- what the notary's lists add

    module _ (lists later_lists : Lists) (beside : IsBeside w filed.limits lists) (files : AuditFiles s.header.id intent r Done filed later lists later_lists) where
      fit_is : fitting (room_in filed.limits lists) batches ≡ fit
      fit_is = ap (λ (room : ℕ). fitting room batches)
          (ap (λ (l : NotaryLimits). room_in l lists) (sym beside.limits) ∙ ap (λ (n : ℕ). w.limits.seals - n) (kept_seals w.lists lists beside.lists))

      files_world : FilesFor w.id filed.limits batches r lists later_lists
      files_world = subst (λ (id : ℕ). FilesFor id filed.limits batches r lists later_lists) i.id files.files

      -- why not all was taken, where nothing speaks against it
      pub taken_is : (x : Result ℕ AuditFail) → FilesFor w.id filed.limits batches x lists later_lists → taken x ≡ full_unless (fit == length batches)
      taken_is (Ok n) whole = let yes : (fit == length batches) ≡ true = eq-eqb fit (length batches) (sym fit_is ∙ whole.fit) in ap full_unless (sym yes)
      taken_is (Err fails.Full) part = let no : (fit == length batches) ≡ false = ne_eqb fit (length batches) (λ e. omega (arith, e, part.left, fit_is)) in ap full_unless (sym no)
      taken_is (Err (fails.OutOfTurn count)) never = absurd never
      taken_is (Err fails.DiskFault) part = refl
      taken_is (Err fails.NotaryFault) part = refl
      taken_is (Err fails.NoMemory) part = refl
      taken_is (Err (fails.ClockBack last)) part = refl
      taken_is (Err fails.TooLate) part = refl
      taken_is (Err fails.StoreFull) part = refl
      taken_is (Err fails.TooManyEras) part = refl
      taken_is (Err fails.Closed) part = refl
      taken_is (Err fails.Broken) part = refl
      taken_is (Err (fails.SealMissing name)) part = refl

      part : FilesFew w.id batches fit lists later_lists
      part = subst (λ (k : ℕ). FilesFew w.id batches k lists later_lists) fit_is (few_filed w.id filed.limits batches r lists later_lists files_world)

      -- batches more stand under the store's id alone
      more_here : (id : ℕ) → HasFiledMore id w.lists later_lists → HasFiledMore s.header.id lists later_lists
      more_here id more kept = more (by (cases_eq id w.id))
        where
          by : (id ≡ w.id) ⊎ (id ≢ w.id) → later_lists.batches id ≡ w.lists.batches id
          by (inl is) = subst (λ (n : ℕ). later_lists.batches n ≡ w.lists.batches n) (i.id ∙ sym is) (kept ∙ beside.lists.batches s.header.id)
          by (inr other) = part.files.others id other ∙ beside.lists.batches id

      -- what was filed of what fits, by the answer
      all_of : (x : Result ℕ AuditFail) → FilesFor w.id filed.limits batches x lists later_lists → (y : Result Answered LineFail) → Answers sealed_text x y → fault ≡ None → IsRefusedBy fault x → IsOk y → FilesAll w.id (take fit batches) lists later_lists
      all_of (Ok n) whole y answer free by ok = subst (λ (l : List Batch). FilesAll w.id l lists later_lists) (sym (ap (λ (n : ℕ). take n batches) (sym fit_is ∙ whole.fit) ∙ take-length batches)) whole.filed
      all_of (Err fails.Full) half y answer free by ok = subst (λ (n : ℕ). FilesAll w.id (take n batches) lists later_lists) fit_is half.filed
      all_of (Err (fails.OutOfTurn count)) never y answer free by ok = absurd never
      all_of (Err fails.DiskFault) half (Ok answered) answer free by ok = absurd answer
      all_of (Err fails.NotaryFault) half (Ok answered) answer free by ok = absurd answer
      all_of (Err fails.NoMemory) half (Ok answered) answer free by ok = absurd answer
      all_of (Err fails.DiskFault) half (Err fail) answer free by ok = absurd cc
      all_of (Err fails.NotaryFault) half (Err fail) answer free by ok = absurd cc
      all_of (Err fails.NoMemory) half (Err fail) answer free by ok = absurd cc
      all_of (Err fails.Closed) half y answer free by ok = let some : fault ≡ Some fails.Closed = by in absurd cc
      all_of (Err (fails.ClockBack last)) half y answer free by ok = let some : fault ≡ Some (fails.ClockBack last) = by in absurd cc
      all_of (Err fails.TooLate) half y answer free by ok = let some : fault ≡ Some fails.TooLate = by in absurd cc
      all_of (Err fails.StoreFull) half y answer free by ok = let some : fault ≡ Some fails.StoreFull = by in absurd cc
      all_of (Err fails.TooManyEras) half y answer free by ok = let some : fault ≡ Some fails.TooManyEras = by in absurd cc
      all_of (Err fails.Broken) half y answer free by ok = let some : fault ≡ Some fails.Broken = by in absurd cc
      all_of (Err (fails.SealMissing name)) half y answer free by ok = let some : fault ≡ Some (fails.SealMissing name) = by in absurd cc

      abbrev FilesTo : World → Type 0
      FilesTo next = ListsGo w next (IsOk result) old new before after later_lists

      files_by : (f : Option AuditFail) → fault ≡ f → FilesTo (unless f w (carried_out w ws intent (taken r))).world
      files_by (Some fail) is =
          let keeps = keeps_then w.lists lists later_lists beside.lists (files.free (subst (λ (o : Option AuditFail). IsSome o) (sym is) refl)) in
          files_still w w (IsOk result) old new before after later_lists refl keeps
      files_by None is = subst FilesTo (sym (carried_world w ws intent (taken r))) (record {
        keeps = λ ok. filed_keeps w.id w.lists lists later_lists beside.lists (take fit batches) (all_of r files_world result (replies sealed_text r result answer) is n.refused ok);
        between = filed_between w.id w.lists lists later_lists beside.lists (take fit batches) part.done
            (subst (λ (l : List Batch). FilesAll w.id l lists later_lists) (sym (take-take part.done fit batches part.few)) part.files);
        ordered = λ id more only. let reached_so = files.ordered (more_here id more) in (reached_so.settled only, reached_stores need reached_so);
      })

-- the lists' batches are those of the world
pub heard_in : (w : World) (ws : statements.Database) (lists : Lists) (id : ℕ) (header : Header) → id ≡ w.id → header ≡ ws.header → Keeps w.lists lists → heard_of (lists.batches id) (history header ws.items) ≡ heard_of (filed_for w) (history ws.header ws.items)
heard_in w ws lists id header own is keeps = ap (λ (bs : List Batch). heard_of bs (history header ws.items)) (ap lists.batches own ∙ keeps.batches w.id) ∙ ap (λ (h : Header). heard_of (filed_for w) (history h ws.items)) is

pub told_known : {A : Type 0} (o n : Option A) (P Q : A → A → Type 0) → WhereTold o n P → ((b a : A) → o ≡ Some b → n ≡ Some a → P b a → Q b a) → WhereTold o n Q
told_known (Some b) (Some a) P Q told f = f b a refl refl told
told_known (Some b) None P Q told f = tt
told_known None n P Q told f = tt

module _ (now : ℕ) (s later_s : Opened) (old new : State) (filed later : notaries.State) (is_open : s.at.is_closed ≡ false) (header : later_s.header ≡ s.header)
    (only_now : (c : List ℕ) → old.was_image (turn old) c → old.is_image c) (r : Result ℕ AuditFail) (result : Result Answered LineFail) (answer : IsAnswer sealed_text r result)
    (early : IsEarly (early_fault (tail_of s) s.at.is_closed now) r) (turn : IfErr r (λ fail. TellsCount fail later)) (kept_sessions : Machine) (auditing : Option Auditing) where
  module _ (before after : List ℕ) (reads : Unchanged old new → after ≡ before) (w : World) (i : IsIn w (alone kept_sessions s auditing) before) (has : HasStore w kept_sessions s before)
      (n : Notarizes now has.world.items r s later_s (desk old filed) (desk new later) before after) where
    abbrev mine : statements.Database
    mine = has.world

    abbrev heard : Heard
    heard = n.heard

    abbrev aim : Intent
    aim = intent_in mine now heard

    abbrev kept_back : Option AuditFail
    kept_back = taken_by r (have_room w aim.batches)

    abbrev found : Found
    found = heard_so heard kept_back

    does : CarriesOut aim mine.items r s later_s (desk old filed) (desk new later) before after
    does = does_in now mine s before has.stands is_open heard r later_s (desk old filed) (desk new later) after n.does

    abbrev line : Line
    line = lines.Plain stmts.Notarize

    step_is : step w line now found ≡ notarized w (Some mine) now heard kept_back
    step_is = notarize_step w now heard kept_back ∙ ap (λ (o : Option statements.Database). notarized w o now heard kept_back) has.is

    -- where the notary tells its lists
    module _ (lists later_lists : Lists) (was : filed.lists ≡ Some lists) (is : later.lists ≡ Some later_lists) (beside : IsBeside w filed.limits lists) where
      heard_is : heard ≡ heard_of (filed_for w) (history mine.header mine.items)
      heard_is = told_here filed.lists later.lists (λ lists later_lists. heard ≡ heard_of (lists.batches s.header.id) (history s.header mine.items)) lists later_lists was is n.told
          ∙ heard_in w mine lists s.header.id s.header i.id has.stands.header beside.lists

      counted_is : heard.count ≡ length (filed_for w)
      counted_is = ap (λ (h : Heard). h.count) heard_is

      files : AuditFiles s.header.id aim r (IsReached aim.frontier s later_s mine.items old new before after) filed later lists later_lists
      files = told_here filed.lists later.lists _ lists later_lists was is does.told (counted_is ∙ ap length (sym (ap lists.batches i.id ∙ beside.lists.batches w.id)))

      finds : MayFind w line now found
      finds = subst (λ (o : Option statements.Database). IfSome o (MayFile w now found)) (sym has.is) (record {
        heard = heard_is;
        refusal = λ free. taken_is now s later_s old new before after header only_now reads w kept_sessions auditing i has heard r result answer filed later does lists later_lists beside files r
            (subst (λ (id : ℕ). FilesFor id filed.limits aim.batches r lists later_lists) i.id files.files);
      })

    pub notarizes : Steps line now w result (alone kept_sessions later_s auditing) (desk old filed) (desk new later) before after
    notarizes = record {
      found = found;
      may = given result (n.may, taken_may r (have_room w aim.batches));
      turn = given result (taken_turn r (have_room w aim.batches) later turn);
      goes = subst (λ (x : Step). Goes w x result (alone kept_sessions later_s auditing) old new before after) (sym step_is)
          (goes_by now s later_s old new before after header only_now reads w kept_sessions auditing i has heard r result answer filed later does aim.fault refl);
      only = ends_anyhow result;
      timely = subst (λ (e : Option AuditFail). IfErr result (EndsTimely e)) (sym (ap (λ (o : Option statements.Database). early_over o now) has.is))
          (subst (λ (e : Option AuditFail). IfErr result (EndsTimely e)) (early_in now mine s before has.stands is_open) (ends_timely sealed_text (tail_of s) s.at.is_closed now r result answer early));
      quiet = tt;
      unasked = ends_asking false refl result;
      finds = beside_by w (desk old filed) (desk new later) _ (λ lists later_lists was is beside. finds lists later_lists was is beside);
      files = beside_by w (desk old filed) (desk new later) _ (λ lists later_lists was is beside. subst (λ (x : Step). ListsGo w x.world (IsOk result) old new before after later_lists) (sym step_is)
          (files_by now s later_s old new before after header only_now reads w kept_sessions auditing i has heard r result answer filed later does lists later_lists beside (files lists later_lists was is beside) aim.fault refl));
      makes = beside_by w (desk old filed) (desk new later) _ (λ lists later_lists was is beside. subst (λ (x : Step). MakesLineCalls w line now found x result (desk old filed) (desk new later) before) (sym (notarize_step w now heard kept_back))
          (notarization_makes now w mine has.is s before has.stands heard kept_back i.id later_s lists later_lists beside.lists after (desk old filed) (desk new later) beside.limits r does
          (IsReached aim.frontier s later_s mine.items old new before after) (files lists later_lists was is beside) (counted_is lists later_lists was is beside) sealed_text result answer));
    }

  pub notarization : WhereTold old.reads new.reads (λ before after. (items : List Item) → IsOpenOn s items before → Notarizes now items r s later_s (desk old filed) (desk new later) before after)
      → StepsFor (lines.Plain stmts.Notarize) now result (alone kept_sessions s auditing) (alone kept_sessions later_s auditing) (desk old filed) (desk new later)
  notarization told = told_known old.reads new.reads _ _ told
      (λ before after was is notarizes_at w i.
      let has = has_store w kept_sessions s auditing before i in
      notarizes before after (λ same. same_bytes before after (sym is ∙ same.reads ∙ was)) w i has (notarizes_at has.world.items has.stands.open_on))
    where
      same_bytes : (b a : List ℕ) → Some a ≡ Some b → a ≡ b
      same_bytes b a e = cc

-- whatever was answered, the header stays
pub stays_header : {A : Type 0} (r : Result A AuditFail) (s later_s : Opened) → reaching.StaysOpen r s later_s → later_s.header ≡ s.header
stays_header (Ok n) s later_s stays = stays.0
stays_header (Err fails.DiskFault) s later_s stays = stays.0
stays_header (Err fails.NoMemory) s later_s stays = stays.0
stays_header (Err fails.NotaryFault) s later_s stays = stays.0
stays_header (Err (fails.ClockBack last)) s later_s stays = stays.0
stays_header (Err fails.TooLate) s later_s stays = stays.0
stays_header (Err fails.StoreFull) s later_s stays = stays.0
stays_header (Err fails.TooManyEras) s later_s stays = stays.0
stays_header (Err fails.Full) s later_s stays = stays.0
stays_header (Err fails.Closed) s later_s stays = stays.0
stays_header (Err fails.Broken) s later_s stays = stays.0
stays_header (Err (fails.SealMissing name)) s later_s stays = stays.0
stays_header (Err (fails.OutOfTurn count)) s later_s stays = stays.0
