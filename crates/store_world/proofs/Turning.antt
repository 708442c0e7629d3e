-- A policy does to the world what the definition says.
use Rattle.std.proofs.Common.{◌≡◌, ◌⊎◌, ℕ, Bool, true, false, List, [], ◌∷◌, ◌++◌, length, Option, Some, None, IsSome, IfSome, Result, Ok, Err, IsOk, OnOk, IfOk, IfErr, inl, inr, refl, sym, ap, subst, ◌∙◌}
use Rattle.std.proofs.lemmas.List.{append-nil, drop_at}
use Rattle.std.proofs.lemmas.List.Elements.{filter_map-append}
use Rattle.outside_words.specs.Told.{WhereTold}
use Rattle.outside_words.proofs.Told.{told_map}
use Rattle.disk_words.specs.Disk as disks
use Rattle.disk_words.specs.Disk.{State, turn, Only, Unchanged}
use Rattle.disk_model.proofs.Moments.{weaker}
use Rattle.tuple_bytes.specs.declared.header.Header.{Header}
use Rattle.tuple_bytes.specs.declared.item.Item.{Item}
use Rattle.tuple_bytes.specs.Spelling.{spell_item}
use Rattle.history_model.specs.History.{txn_in, txns, history}
use Rattle.history_model.specs.Placing.{gate_behind}
use Rattle.segment_file.specs.Append.{append_calls}
use Rattle.notary_link.specs.Notary as notaries
use Rattle.notary_link.specs.Notary.{Lists}
use Rattle.store_engine.specs.Appended.{standing}
use Rattle.store_engine.specs.Opened.{Opened, Stores, StoresOldOrNew, IsOpenOn}
use Rattle.store_engine.specs.Refusals.{Tail}
use Rattle.stmt_text.specs.declared.stmt.Stmt.TheVariants as stmts
use Rattle.stmt_text.specs.declared.line.Line.{Line}
use Rattle.stmt_text.specs.declared.line.Line.TheVariants as lines
use Rattle.statement_core.specs.Database as statements
use Rattle.session_model.specs.Standing.{Machine}
use Rattle.validator.specs.Desk.{desk}
use Rattle.validator.specs.declared.fail.AuditFail.{AuditFail}
use Rattle.validator.specs.declared.fail.AuditFail.TheVariants as fails
use Rattle.validator.specs.declared.turned.Turned.{Turned}
use Rattle.validator.specs.Texts.{turned_text}
use Rattle.validator.specs.Notarizing.{heard_of, IsRefusedBy}
use Rattle.validator.specs.Reaching as reaching
use Rattle.validator.specs.Turning.{Turn, turn_of, IsTurned, StandsTurned, IsOfTurning, CarriesOutTurn, Turns}
use Rattle.validator.proofs.Telling.{told_here}
use Rattle.audit_steps.specs.declared.auditing.Auditing.{Auditing}
use Rattle.store_world.specs.declared.answered.Answered.{Answered}
use Rattle.store_world.specs.declared.fail.LineFail.{LineFail}
use Rattle.store_world.specs.Found.{Found}
use Rattle.store_world.specs.Finding.{IsHeard, MayFind}
use Rattle.store_world.specs.World.{World, StoresOf, with_store}
use Rattle.store_world.specs.Standing.{IsIn}
use Rattle.store_world.specs.Lists.{IsBeside, ListsGo}
use Rattle.store_world.specs.Answers.{said, IsAnswer}
use Rattle.store_world.specs.Parts.{alone}
use Rattle.store_world.specs.ItemsMore.{items_added, end_of_store}
use Rattle.store_world.specs.LineCalls.{appends, disk_calls}
use Rattle.store_world.specs.CallsMade.{MakesOfDisk, MakesOfNotary, MakesLineCalls}
use Rattle.store_world.specs.Steps.{Step, step, turn_in, turns_world, turned, unless}
use Rattle.store_world.specs.Stepping.{Goes, Steps, StepsFor}
use Rattle.store_world.proofs.Adding.{item_extends}
use Rattle.store_world.proofs.Between.{keeps_then}
use Rattle.store_world.proofs.CallsTold.{none_made, calls_none, one_item, turn_calls}
use Rattle.store_world.proofs.Faults.{ends_anyhow, ends_any_time, ends_asking}
use Rattle.store_world.proofs.Intents.{tail_is}
use Rattle.store_world.proofs.Kept.{audit_kept}
use Rattle.store_world.proofs.Left.{given, files_still, beside_by, beside_told}
use Rattle.store_world.proofs.LineKinds.{heard_so, turn_step, turn_none}
use Rattle.store_world.proofs.Notarizing.{heard_in, told_known}
use Rattle.store_world.proofs.Refused.{refused}
use Rattle.store_world.proofs.Replies.{Answers, replies}
use Rattle.store_world.proofs.Sessions.{stands_still}
use Rattle.store_world.proofs.Tables.{HasStore, has_store, none_old, never_longer, items_stay}

-- a policy is no transaction
same_txns : (is : List Item) (item : Item) → txn_in item ≡ None → txns (is ++ item ∷ []) ≡ txns is
same_txns is item none = filter_map-append txn_in is (item ∷ []) ∙ (let more : txns (item ∷ []) ≡ [] = rw none refl in rw more (append-nil (txns is)))

-- a refusal leaves the store where it stood
stands_after : (r : Result Turned AuditFail) (turned_so left shut : Type 0) → StandsTurned r turned_so left shut → IfErr r IsOfTurning → reaching.StandsAfter r turned_so left shut
stands_after (Ok era) T L S stands only = stands
stands_after (Err fails.DiskFault) T L S (inl stays) only = inl stays
stands_after (Err fails.DiskFault) T L S (inr closed) only = inr (inr closed)
stands_after (Err fails.NoMemory) T L S (inl stays) only = inl stays
stands_after (Err fails.NoMemory) T L S (inr closed) only = inr (inr closed)
stands_after (Err fails.NotaryFault) T L S stands only = inl stands
stands_after (Err fails.Full) T L S stands only = absurd only
stands_after (Err (fails.OutOfTurn count)) T L S stands only = absurd only
stands_after (Err (fails.ClockBack last)) T L S stands only = stands
stands_after (Err fails.TooLate) T L S stands only = stands
stands_after (Err fails.StoreFull) T L S stands only = stands
stands_after (Err fails.TooManyEras) T L S stands only = stands
stands_after (Err fails.Closed) T L S stands only = stands
stands_after (Err fails.Broken) T L S stands only = stands
stands_after (Err (fails.SealMissing name)) T L S stands only = stands

module _ (k algs now : ℕ) (s later_s : Opened) (old new : State) (filed later : notaries.State) (is_open : s.at.is_closed ≡ false) (header : later_s.header ≡ s.header)
    (only_now : (c : List ℕ) → old.was_image (turn old) c → old.is_image c) (r : Result Turned AuditFail) (result : Result Answered LineFail) (answer : IsAnswer turned_text r result)
    (only : IfErr r IsOfTurning) (unfiled : notaries.Unchanged filed later) (kept_sessions : Machine) (auditing : Option Auditing) where
  module _ (before after : List ℕ) (reads : Unchanged old new → after ≡ before) (w : World) (i : IsIn w (alone kept_sessions s auditing) before) (has : HasStore w kept_sessions s before)
      (n : Turns k algs has.world.items r s later_s (desk old filed) (desk new later) before after) where
    abbrev ws : statements.Database
    ws = has.world

    abbrev aim : Turn
    aim = turn_in ws n.heard k algs

    abbrev item : Item
    item = aim.item

    abbrev more : statements.Database
    more = statements.with_item ws item

    abbrev found : Found
    found = heard_so n.heard None

    abbrev line : Line
    line = lines.Plain (stmts.Policy k algs)

    -- what is to be done is that of the world
    does : CarriesOutTurn aim ws.items r s later_s (desk old filed) (desk new later) before after
    does = subst (λ (t : Turn). CarriesOutTurn t ws.items r s later_s (desk old filed) (desk new later) before after)
        (ap (λ (t : Tail). turn_of t s.at.is_closed ws.items n.heard k algs) (tail_is now ws s before has.stands is_open)
        ∙ ap (λ (b : Bool). turn_of (statements.tail_of_database ws) b ws.items n.heard k algs) is_open)
        n.does

    step_is : step w line now found ≡ turned w (Some ws) n.heard k algs
    step_is = turn_step w now n.heard k algs ∙ ap (λ (o : Option statements.Database). turned w o n.heard k algs) has.is

    -- ---- nothing speaks against it

    abbrev new_world : World
    new_world = with_store w more

    abbrev next : Step
    next = turns_world w ws aim

    either_of : (c : List ℕ) → StoresOldOrNew s.header ws.items item c → StoresOf w.id w.store w.old_history c ⊎ StoresOf w.id (Some more) w.old_history c
    either_of c (inl stores) = inl (subst (λ (o : Option statements.Database). StoresOf w.id o w.old_history c) (sym has.is) (subst (λ (h : Header). Stores h ws.items c) has.stands.header stores))
    either_of c (inr stores) = inr (subst (λ (h : Header). Stores h more.items c) has.stands.header stores)

    abbrev Done : Type 0
    Done = IsTurned item s later_s ws.items new before after

    stands_more : Done → statements.IsIn more later_s after
    stands_more done = record {
      header = header ∙ has.stands.header;
      end = ap (λ (x : Opened). x.at.end) done.store_is ∙ ap (λ (e : ℕ). gate_behind e (length (spell_item item))) has.stands.end;
      open_on = done.open_on;
    }

    go : (result : Result Answered LineFail) → OnOk result Done → IfOk result (λ answered. answered ≡ said (turned_text aim.turned)) → Goes w next result (alone kept_sessions later_s auditing) old new before after
    go (Ok answered) done reply = record {
      reply = record { text = ap (λ (x : Answered). x.text) reply; refused = ap (λ (x : Answered). x.refused) reply };
      stands = record {
        id = ap (λ (h : Header). h.id) header ∙ i.id;
        store = (stands_still ws more w.sessions kept_sessions s later_s before after (same_txns ws.items item refl) (stands_more done) has.with_sessions, has.own);
        old = has.none_old ∙ sym (none_old w.id after done.open_on.stores.format);
        is_old = i.is_old;
        audit = audit_kept w.id auditing ws more s later_s before after (item_extends ws item) done.places has.stands (stands_more done) i.audit;
        audited = i.audited;
      };
      settled = λ settled. done.settled;
      images = λ settled. weaker (does.images settled) either_of;
      kept = λ settled. either_of after (does.kept settled);
      same = λ stays. absurd (never_longer ws.items item (items_stay more ws (stays ∙ has.is)));
    }
    go (Err fail) done reply = record {
      reply = tt;
      stands = tt;
      settled = λ settled. tt;
      images = λ settled. weaker (does.images settled) either_of;
      kept = λ settled. either_of after (does.kept settled);
      same = λ stays. tt;
    }

    failed : (result : Result Answered LineFail) → OnOk result ⊥ → Goes w next result (alone kept_sessions later_s auditing) old new before after
    failed (Ok answered) never = absurd never
    failed (Err fail) never = go (Err fail) tt tt

    made : aim.fault ≡ None → (r : Result Turned AuditFail) (result : Result Answered LineFail) → Answers turned_text r result → IsRefusedBy aim.fault r → IfErr r IsOfTurning → IfOk r (λ t. t ≡ aim.turned) → (L S : Type 0) → StandsTurned r Done L S
        → Goes w next result (alone kept_sessions later_s auditing) old new before after
    made free (Ok era) result answer by only value L S stands = go result (given result stands) (subst (λ (t : Turned). IfOk result (λ answered. answered ≡ said (turned_text t))) value answer)
    made free (Err fails.DiskFault) result answer by only value L S stands = failed result answer
    made free (Err fails.NotaryFault) result answer by only value L S stands = failed result answer
    made free (Err fails.NoMemory) result answer by only value L S stands = failed result answer
    made free (Err fails.Full) result answer by only value L S stands = absurd only
    made free (Err (fails.OutOfTurn count)) result answer by only value L S stands = absurd only
    made free (Err (fails.ClockBack last)) result answer by only value L S stands = absurd only
    made free (Err fails.TooLate) result answer by only value L S stands = absurd only
    made free (Err fails.StoreFull) result answer by only value L S stands = let some : aim.fault ≡ Some fails.StoreFull = by in absurd cc
    made free (Err fails.TooManyEras) result answer by only value L S stands = let some : aim.fault ≡ Some fails.TooManyEras = by in absurd cc
    made free (Err fails.Closed) result answer by only value L S stands = let some : aim.fault ≡ Some fails.Closed = by in absurd cc
    made free (Err fails.Broken) result answer by only value L S stands = let some : aim.fault ≡ Some fails.Broken = by in absurd cc
    made free (Err (fails.SealMissing name)) result answer by only value L S stands = let some : aim.fault ≡ Some (fails.SealMissing name) = by in absurd cc

    -- ---- either way

    untouched : (fail : AuditFail) → aim.fault ≡ Some fail → Unchanged old new
    untouched fail is = does.free (subst (λ (o : Option AuditFail). IsSome o) (sym is) refl)

    goes_by : (f : Option AuditFail) → aim.fault ≡ f → Goes w (unless f w next) result (alone kept_sessions later_s auditing) old new before after
    goes_by (Some fail) is =
        refused s later_s old new before after only_now reads w kept_sessions auditing i aim.fault fail is (untouched fail is) turned_text r result (replies turned_text r result answer) does.refused Done (later_s.at.is_closed ≡ true)
        (stands_after r Done (reaching.IsLeft s later_s old new) (later_s.at.is_closed ≡ true) does.stands only)
    goes_by None is = made is r result (replies turned_text r result answer) does.refused only does.value (reaching.IsLeft s later_s old new) (later_s.at.is_closed ≡ true) does.stands

    -- ---- its calls

    abbrev MakesTo : Step → Type 0
    MakesTo x = MakesLineCalls w line now found x result (desk old filed) (desk new later) before

    stored : append_calls s.at (spell_item item) ≡ disk_calls w next before
    stored =
        one_item ws s before has.stands item
        ∙ ap (appends (standing ws.end before)) (sym (drop_at ws.items (item ∷ []) (length ws.items) refl))
        ∙ ap (λ (o : Option statements.Database). appends (standing (end_of_store o) before) (items_added o (Some more))) (sym has.is)

    makes_by : (f : Option AuditFail) → aim.fault ≡ f → MakesTo (unless f w next)
    makes_by (Some fail) is = calls_none w line now found (unless (Some fail) w next) refl before result old new (untouched fail is).trace filed later (turn_none w now n.heard k algs) unfiled.trace
    makes_by None is = record {
      disk = subst (λ (cs : List disks.Call). MakesOfDisk cs result old new) stored
          (turn_calls (append_calls s.at (spell_item item)) old new turned_text r result answer (subst (λ (o : Option AuditFail). IsRefusedBy o r) is does.refused) only does.trace);
      notary = subst (λ (cs : List notaries.Call). WhereTold filed.trace later.trace (MakesOfNotary cs result)) (sym (turn_none w now n.heard k algs)) (told_map filed.trace later.trace _ _ unfiled.trace (λ was is same. none_made result was is same));
      order = told_map filed.trace later.trace _ _ unfiled.trace (λ was is same. inl same);
    }

    -- ---- what was heard is what is filed, where the notary tells that

    finds : (lists later_lists : Lists) → filed.lists ≡ Some lists → later.lists ≡ Some later_lists → IsBeside w filed.limits lists → MayFind w line now found
    finds lists later_lists was is beside = subst (λ (o : Option statements.Database). IfSome o (IsHeard w found)) (sym has.is)
        (told_here filed.lists later.lists (λ lists later_lists. n.heard ≡ heard_of (lists.batches s.header.id) (history s.header ws.items)) lists later_lists was is n.told
        ∙ heard_in w ws lists s.header.id s.header i.id has.stands.header beside.lists)

    files_by : (f : Option AuditFail) (lists : Lists) → notaries.Keeps w.lists lists → ListsGo w (unless f w next).world (IsOk result) old new before after lists
    files_by (Some fail) lists keeps = files_still w w (IsOk result) old new before after lists refl keeps
    files_by None lists keeps = files_still w new_world (IsOk result) old new before after lists refl keeps

    pub turns : Steps line now w result (alone kept_sessions later_s auditing) (desk old filed) (desk new later) before after
    turns = record {
      found = found;
      may = given result n.may;
      turn = given result tt;
      goes = subst (λ (x : Step). Goes w x result (alone kept_sessions later_s auditing) old new before after) (sym step_is) (goes_by aim.fault refl);
      only = ends_anyhow result;
      timely = ends_any_time None refl result;
      quiet = tt;
      unasked = ends_asking false refl result;
      finds = beside_by w (desk old filed) (desk new later) _ (λ lists later_lists was is beside. finds lists later_lists was is beside);
      files = beside_told w (desk old filed) (desk new later) _ _ unfiled.lists (λ lists later_lists beside keeps. subst (λ (x : Step). ListsGo w x.world (IsOk result) old new before after later_lists) (sym step_is)
          (files_by aim.fault later_lists (keeps_then w.lists lists later_lists beside.lists keeps)));
      makes = beside_by w (desk old filed) (desk new later) _ (λ lists later_lists was is beside. subst MakesTo (sym step_is) (makes_by aim.fault refl));
    }

  pub policy : WhereTold old.reads new.reads (λ before after. (items : List Item) → IsOpenOn s items before → Turns k algs items r s later_s (desk old filed) (desk new later) before after)
      → StepsFor (lines.Plain (stmts.Policy k algs)) now result (alone kept_sessions s auditing) (alone kept_sessions later_s auditing) (desk old filed) (desk new later)
  policy told = told_known old.reads new.reads _ _ told
      (λ before after was is turns_at w i.
      let has = has_store w kept_sessions s auditing before i in
      turns before after (λ same. same_bytes before after (sym is ∙ same.reads ∙ was)) w i has (turns_at has.world.items has.stands.open_on))
    where
      same_bytes : (b a : List ℕ) → Some a ≡ Some b → a ≡ b
      same_bytes b a e = cc
