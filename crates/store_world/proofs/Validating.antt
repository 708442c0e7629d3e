-- A validation does to the world what the definition says, and so does the last piece of an audit.
use Rattle.std.proofs.Common.{◌≡◌, ℕ, ◌<◌, Bool, true, false, List, [], ◌∷◌, length, Option, Some, None, IfSome, Result, Ok, Err, IsOk, IfOk, IfErr, inl, inr, refl, sym, ap, subst, ◌∙◌, arith}
use Rattle.std.specs.Prelude.{◌+◌, nat_lt, nat_le, if◌then◌else◌}
use Rattle.std.specs.Bool.{OnTrue, OnFalse}
use Rattle.std.proofs.lemmas.Bool.{eq-eqb, ne_eqb}
use Rattle.std.proofs.lemmas.Bool.Decides.{nat_tests}
use Rattle.outside_words.specs.Told.{WhereTold}
use Rattle.outside_words.proofs.Told.{told_map}
use Rattle.disk_words.specs.Disk.{State, turn, Unchanged}
use Rattle.tuple_bytes.specs.declared.header.Header.{Header}
use Rattle.tuple_bytes.specs.declared.item.Item.{Item}
use Rattle.history_model.specs.declared.stored.Stored.{Stored}
use Rattle.history_model.specs.History.{History, history}
use Rattle.history_model.specs.declared.format.Format.{Format}
use Rattle.history_model.specs.declared.format.Format.TheVariants.{One, Two}
use Rattle.history_model.specs.Stored.{stored, format_of}
use Rattle.notary_link.specs.declared.mark.Mark.{Mark}
use Rattle.notary_link.specs.declared.notary.NotaryLimits.{NotaryLimits}
use Rattle.notary_link.specs.Batches.{Batch}
use Rattle.notary_link.specs.Notary as notaries
use Rattle.notary_link.specs.Notary.{Call, Lists, Keeps, Notes, HasRoom, note, marks_in_all}
use Rattle.notary_link.proofs.InAll.{kept_marks}
use Rattle.session_model.specs.Service.{Session}
use Rattle.store_world.specs.declared.open_store.OpenStore.{OpenStore}
use Rattle.store_engine.specs.Refusals.{IsOfAnother}
use Rattle.stmt_text.specs.declared.stmt.Stmt.TheVariants as stmts
use Rattle.stmt_text.specs.declared.line.Line.{Line}
use Rattle.stmt_text.specs.declared.line.Line.TheVariants as lines
use Rattle.statement_core.specs.Database as statements
use Rattle.validator.specs.Desk.{desk}
use Rattle.validator.specs.declared.verdict.Verdict.TheVariants as verdicts
use Rattle.validator.specs.declared.verdict.Verdict.{Verdict}
use Rattle.validator.specs.declared.fail.AuditFail.{AuditFail}
use Rattle.validator.specs.declared.fail.AuditFail.TheVariants as fails
use Rattle.validator.specs.Filing.{TellsCount}
use Rattle.validator.specs.Texts.{verdict_text, refusal_text}
use Rattle.audit_model.specs.Altered.{history_with, under_id}
use Rattle.audit_model.specs.Notary.{header_answer, cums}
use Rattle.notary_link.specs.declared.answer.Answer.{Answer}
use Rattle.notary_link.specs.declared.answer.Answer.TheVariants.{Same, Differs, Absent}
use Rattle.digest_model.specs.Layout.{layout, first_granule, max_granules}
use Rattle.validator.proofs.Telling.{if_both}
use Rattle.validator.specs.Verdicts.{IsFound, IsFoundIn, IsFoundBy, IsFoundWithin, IsFoundAt, IsOfValidation, ValidatesNone, mark_of, IsMarked, IsNotMarked, MayBeMarked, MakesNone, MakesMark, Validates}
use Rattle.audit_steps.specs.PieceSize.{piece}
use Rattle.store_world.specs.declared.answered.Answered.{Answered}
use Rattle.store_world.specs.declared.fail.LineFail.{LineFail}
use Rattle.store_world.specs.World.{World, HasNoStore, history_or, history_of, old_in, old_under, with_audited}
use Rattle.store_world.specs.Standing.{OpenWorld, IsIn, StoreIsIn}
use Rattle.store_world.specs.Lists.{IsBeside, ListsGo}
use Rattle.store_world.specs.Finding.{full_unless, MayJudge, MayRefuseMark, MayBeValidated, MayMark, FindsVerdict}
use Rattle.store_world.specs.declared.fail.LineFail.TheVariants as line_fails
use Rattle.store_world.specs.Answers.{said, refusal, Replies, IsAnswer}
use Rattle.store_world.specs.LineCalls.{noting, validate_calls, audit_calls}
use Rattle.store_world.specs.CallsMade.{IsAnswered, MakesOfNotary, MakesLineCalls}
use Rattle.store_world.specs.Parts.{StepsWithout, with_auditing}
use Rattle.store_world.specs.Steps.{Step, says, refuses, marked, validated, has_more, piece_audited, filed_for}
use Rattle.store_world.specs.Stepping.{IsReply, Goes, Steps}
use Rattle.store_world.proofs.Between.{keeps_then, noted_keeps, noted_between, unmarked_yet}
use Rattle.validator.proofs.SomethingFound.{something_is_found}
use Rattle.store_world.proofs.LineKinds.{judged, validate_step, validate_notes, audit_step, audit_notes}
use Rattle.store_world.proofs.Replies.{replied}
use Rattle.store_world.proofs.CallsTold.{none_made, all_replied, some_made, calls_beside}
use Rattle.store_world.proofs.MarkCalls.{was_marked, found_no_room, has_failed}
use Rattle.store_world.proofs.Faults.{ends_anyhow, ends_any_time, ends_asking}
use Rattle.store_world.proofs.Left.{given, StaysSame, stays_same, left, left_auditing, files_left, files_still, beside_told}

pub replies_as : (next : Step) (x : Answered) (result : Result Answered LineFail) → x.text ≡ next.text → x.refused ≡ next.is_refused → IfOk result (λ answered. answered ≡ x) → IfOk result (IsReply next)
replies_as next x (Ok answered) text refused is = record { text = ap (λ (y : Answered). y.text) is ∙ text; refused = ap (λ (y : Answered). y.refused) is ∙ refused }
replies_as next x (Err fail) text refused is = tt

-- a mark has no turn
mark_turn : (o : Option AuditFail) (later : notaries.State) → MayRefuseMark o → IfSome o (λ fail. TellsCount fail later)
mark_turn None later may = tt
mark_turn (Some fails.Full) later may = tt
mark_turn (Some fails.DiskFault) later may = absurd may
mark_turn (Some fails.NotaryFault) later may = absurd may
mark_turn (Some (fails.ClockBack last)) later may = absurd may
mark_turn (Some fails.TooLate) later may = absurd may
mark_turn (Some fails.StoreFull) later may = absurd may
mark_turn (Some fails.TooManyEras) later may = absurd may
mark_turn (Some fails.Closed) later may = absurd may
mark_turn (Some fails.Broken) later may = absurd may
mark_turn (Some (fails.SealMissing name)) later may = absurd may
mark_turn (Some (fails.OutOfTurn count)) later may = absurd may
mark_turn (Some fails.NoMemory) later may = absurd may

-- ---- the history

module _ (id : ℕ) where
  of_header : (header : Header) (items : List Item) (bytes : List ℕ) → (stored bytes).header ≡ Some header → (stored bytes).items ≡ items → header.id ≡ id → history_with id (stored bytes) ≡ Some (history header items)
  of_header header items bytes h is own =
      ap (λ (o : Option Header). under_id id o (stored bytes)) h
      ∙ ap (λ (b : Bool). if b then Some (history header (stored bytes).items) else None) (eq-eqb header.id id own)
      ∙ ap (λ (l : List Item). Some (history header l)) is

  none_of : (o : Option Header) (s : Stored) → IsOfAnother id o → under_id id o s ≡ None
  none_of None s other = refl
  none_of (Some header) s other = ap (λ (b : Bool). if b then Some (history header s.items) else None) (ne_eqb header.id id other)

  -- without a store there is a history in the first format, or none
  old_is : (bytes : List ℕ) → HasNoStore id bytes → history_with id (stored bytes) ≡ old_under id bytes
  old_is bytes (inl other) = let none = none_of (stored bytes).header (stored bytes) other in none ∙ by (format_of bytes) ∙ ap (old_in (format_of bytes)) (sym none)
    where
      by : (o : Option Format) → None ≡ old_in o None
      by None = refl
      by (Some One) = refl
      by (Some Two) = refl
  old_is bytes (inr old) = ap (λ (o : Option Format). old_in o (history_with id (stored bytes))) (sym old)

  pub history_is : (o : Option statements.Database) (old : Option History) (begun : ℕ → Option Session) (s : Option OpenStore) (bytes : List ℕ) → old ≡ old_under id bytes → StoreIsIn id o begun s bytes
      → history_with id (stored bytes) ≡ history_or o old
  history_is (Some ws) old begun (Some o) bytes is i =
      let s = i.0.store in
      of_header o.store.header ws.items bytes s.open_on.stores.header_is s.open_on.stores.items_are (ap (λ (h : Header). h.id) s.header ∙ i.1)
      ∙ ap (λ (h : Header). Some (history h ws.items)) s.header
  history_is None old begun None bytes is i = old_is bytes i.0 ∙ sym is
  history_is (Some ws) old begun None bytes is i = absurd i
  history_is None old begun (Some o) bytes is i = absurd i

-- the history of a world that a machine stands for over bytes
pub world_history : (w : World) (held : OpenWorld) (bytes : List ℕ) → IsIn w held bytes → history_with w.id (stored bytes) ≡ history_of w
world_history w held bytes i = history_is w.id w.store w.old_history w.sessions held.opened bytes i.old i.store

-- bytes over which a machine stands for a world without a history have none of its id
pub none_stored : (w : World) (held : OpenWorld) (bytes : List ℕ) (id : ℕ) → held.id ≡ id → IsIn w held bytes → history_of w ≡ None → history_with id (stored bytes) ≡ None
none_stored w held bytes id own i none = subst (λ (n : ℕ). history_with n (stored bytes) ≡ None) (sym i.id ∙ own) (world_history w held bytes i ∙ none)

-- ---- the next world

-- all but the lists stays, and the batches stay
pub record LeavesStore (w next : World) : Type 0 where
  pub same : StaysSame w next
  pub batches : (id : ℕ) → next.lists.batches id ≡ w.lists.batches id

same_store : (w : World) → LeavesStore w w
same_store w = record { same = stays_same w; batches = λ id. refl }

pub with_validated : (w : World) (now : ℕ) (found : Result Verdict AuditFail) (refusal : Option AuditFail) → LeavesStore w (validated w now found refusal).world
with_validated w now (Err fail) refusal = same_store w
with_validated w now (Ok verdict) refusal = by (mark_of verdict now) refusal
  where
    by : (m : Option Mark) (refusal : Option AuditFail) → LeavesStore w (marked w m refusal (verdict_text verdict)).world
    by None refusal = same_store w
    by (Some mark) None = record { same = record { id = refl; store = refl; old = refl; sessions = refl }; batches = λ id. refl }
    by (Some mark) (Some fail) = same_store w

-- with another number of items that the auditor has read
abbrev pub anew : ℕ → Step → Step
anew n s = record s { world = with_audited s.world n }

pub validated_anew : (w : World) (n now : ℕ) (found : Result Verdict AuditFail) (refusal : Option AuditFail) → validated (with_audited w n) now found refusal ≡ anew n (validated w now found refusal)
validated_anew w n now (Err fail) refusal = refl
validated_anew w n now (Ok verdict) refusal = by (mark_of verdict now) refusal
  where
    by : (m : Option Mark) (refusal : Option AuditFail) → marked (with_audited w n) m refusal (verdict_text verdict) ≡ anew n (marked w m refusal (verdict_text verdict))
    by None refusal = refl
    by (Some mark) None = refl
    by (Some mark) (Some fail) = refl

leaves_anew : (w : World) (n : ℕ) (x : World) → LeavesStore w x → LeavesStore w (with_audited x n)
leaves_anew w n x l = record { same = record { id = l.same.id; store = l.same.store; old = l.same.old; sessions = l.same.sessions }; batches = l.batches }

pub with_audit : (b : Bool) (w : World) (now : ℕ) (found : Result Verdict AuditFail) (refusal : Option AuditFail) → LeavesStore w (piece_audited b w now found refusal).world
with_audit true w now found refusal = leaves_anew w (w.audited + piece) w (same_store w)
with_audit false w now found refusal = subst (λ (s : Step). LeavesStore w s.world) (sym (validated_anew w 0 now found refusal)) (leaves_anew w 0 (validated w now found refusal).world (with_validated w now found refusal))

-- a validation leaves what the auditor has read
pub validated_audited : (w : World) (now : ℕ) (found : Result Verdict AuditFail) (refusal : Option AuditFail) → (validated w now found refusal).world.audited ≡ w.audited
validated_audited w now (Err fail) refusal = refl
validated_audited w now (Ok verdict) refusal = by (mark_of verdict now) refusal
  where
    by : (m : Option Mark) (refusal : Option AuditFail) → (marked w m refusal (verdict_text verdict)).world.audited ≡ w.audited
    by None refusal = refl
    by (Some mark) None = refl
    by (Some mark) (Some fail) = refl

-- ---- what is found may be told

by_chain : (chain : ℕ → Answer) (n : ℕ) (f : Result Verdict AuditFail) → IsFoundBy chain n f → MayJudge f
by_chain chain n (Ok verdict) is = tt
by_chain chain n (Err (fails.SealMissing name)) is = tt
by_chain chain n (Err fails.DiskFault) is = absurd is
by_chain chain n (Err fails.NotaryFault) is = absurd is
by_chain chain n (Err (fails.ClockBack last)) is = absurd is
by_chain chain n (Err fails.TooLate) is = absurd is
by_chain chain n (Err fails.StoreFull) is = absurd is
by_chain chain n (Err fails.TooManyEras) is = absurd is
by_chain chain n (Err fails.Full) is = absurd is
by_chain chain n (Err fails.Closed) is = absurd is
by_chain chain n (Err fails.Broken) is = absurd is
by_chain chain n (Err (fails.OutOfTurn count)) is = absurd is
by_chain chain n (Err fails.NoMemory) is = absurd is

by_tiles : (b : Bool) (batches : List Batch) (n : ℕ) (h : History) (f : Result Verdict AuditFail) → IsFoundWithin b batches n h f → MayJudge f
by_tiles true batches n h f is = by_chain (cums batches h) n f is
by_tiles false batches n h f is = subst MayJudge (sym is) tt

by_header : (a : Answer) (batches : List Batch) (n : ℕ) (h : History) (f : Result Verdict AuditFail) → IsFoundAt a batches n h f → MayJudge f
by_header Same batches n h f is = by_tiles (nat_le (first_granule (layout h) n) max_granules) batches n h f is
by_header Differs batches n h f is = subst MayJudge (sym is) tt
by_header Absent batches n h f is = subst MayJudge (sym is) tt

pub found_judges : (batches : List Batch) (h : Option History) (f : Result Verdict AuditFail) → IsFoundIn batches h f → MayJudge f
found_judges [] h f is = subst MayJudge (sym is) tt
found_judges (batch ∷ batches) None f is = subst MayJudge (sym is) tt
found_judges (batch ∷ batches) (Some h) f is = by_header (header_answer (batch ∷ batches) h (length batches)) (batch ∷ batches) (length batches) h f is

pub found_nowhere : (batches : List Batch) (h : Option History) (f : Result Verdict AuditFail) → h ≡ None → IsFoundIn batches h f → ValidatesNone f
found_nowhere [] h f none is = subst ValidatesNone (sym is) tt
found_nowhere (batch ∷ batches) None f none is = subst ValidatesNone (sym is) tt
found_nowhere (batch ∷ batches) (Some h) f none is = absurd cc

-- what holds where this is what is told
pub told_put : {A : Type 0} (o n x y : Option A) (P : A → A → Type 0) → x ≡ o → y ≡ n → WhereTold o n P → WhereTold x y P
told_put o n x y P was is told = subst (λ (b : Option _). WhereTold b y P) (sym was) (subst (λ (a : Option _). WhereTold o a P) (sym is) told)

-- ---- the world

module _ (now : ℕ) (w : World) (held : OpenWorld) (old new : State) (bytes : List ℕ) (i : IsIn w held bytes)
    (same : Unchanged old new) (only_now : (c : List ℕ) → old.was_image (turn old) c → old.is_image c) (filed filed_later : notaries.State) where
  -- the calls of the notary
  abbrev Makes : List Call → Result Answered LineFail → Type 0
  Makes calls result = WhereTold filed.trace filed_later.trace (MakesOfNotary calls result)

  abbrev has_room : Bool
  has_room = nat_lt (marks_in_all w.lists) w.limits.marks

  -- what the lists add
  pub record Adds (f : Result Verdict AuditFail) (refusal : Option AuditFail) (result : Result Answered LineFail) (later : Lists) : Type 0 where
    pub found : IsFoundIn (filed_for w) (history_of w) f
    pub mark : IfOk f (λ verdict. MayMark w (mark_of verdict now) refusal)
    pub files : ListsGo w (validated w now f refusal).world (IsOk result) old new bytes bytes later
    pub makes : Makes (validate_calls w now f) result

  abbrev AddsWhere : Result Verdict AuditFail → Option AuditFail → Result Answered LineFail → Lists → Lists → Type 0
  AddsWhere f refusal result lists later = IsBeside w filed.limits lists → Adds f refusal result later

  -- what was found and told
  pub record Judges (result : Result Answered LineFail) : Type 0 where
    pub verdict : Result Verdict AuditFail
    pub refusal : Option AuditFail
    pub may : MayBeValidated w (judged verdict refusal)
    pub reply : IfOk result (IsReply (validated w now verdict refusal))
    pub adds : WhereTold filed.lists filed_later.lists (AddsWhere verdict refusal result)

  abbrev line : Line
  line = lines.Plain stmts.Validate

  steps : (result : Result Answered LineFail) → Judges result → Steps line now w result held (desk old filed) (desk new filed_later) bytes bytes
  steps result j =
      let next = validated w now j.verdict j.refusal in
      let leaves = with_validated w now j.verdict j.refusal in
      let is = validate_step w now j.verdict j.refusal in
      record {
        found = judged j.verdict j.refusal;
        may = given result j.may;
        turn = given result (mark_turn j.refusal filed_later j.may.1);
        goes = subst (λ (x : Step). Goes w x result held old new bytes bytes) (sym is) (left w held old new bytes i same only_now next result leaves.same (validated_audited w now j.verdict j.refusal) j.reply);
        only = ends_anyhow result;
        timely = ends_any_time None refl result;
        quiet = tt;
        unasked = ends_asking false refl result;
        finds = beside_told w (desk old filed) (desk new filed_later) _ _ j.adds (λ lists later beside adds. ((adds beside).found, (adds beside).mark));
        files = beside_told w (desk old filed) (desk new filed_later) _ _ j.adds (λ lists later beside adds. subst (λ (x : Step). ListsGo w x.world (IsOk result) old new bytes bytes later) (sym is) (adds beside).files);
        makes = beside_told w (desk old filed) (desk new filed_later) _ _ j.adds (λ lists later beside adds.
            subst (λ (x : Step). MakesLineCalls w line now (judged j.verdict j.refusal) x result (desk old filed) (desk new filed_later) bytes) (sym is)
            (calls_beside w line now (judged j.verdict j.refusal) next leaves.same.store bytes result old new same.trace filed filed_later
            (subst (λ (cs : List Call). Makes cs result) (sym (validate_notes w now j.verdict j.refusal)) (adds beside).makes)));
      }

  -- ---- the last piece of an audit, which begins anew

  reply_anew : (n : ℕ) (next : Step) (result : Result Answered LineFail) → IfOk result (IsReply next) → IfOk result (IsReply (anew n next))
  reply_anew n next (Ok answered) reply = record { text = reply.text; refused = reply.refused }
  reply_anew n next (Err fail) reply = tt

  abbrev piece_line : Line
  piece_line = lines.Plain stmts.Audit

  pub last_piece : has_more w ≡ false → (result : Result Answered LineFail) → Judges result → Steps piece_line now w result (with_auditing held None) (desk old filed) (desk new filed_later) bytes bytes
  last_piece none result j =
      let told = validated w now j.verdict j.refusal in
      let next = anew 0 told in
      let leaves = leaves_anew w 0 told.world (with_validated w now j.verdict j.refusal) in
      let is = audit_step w now j.verdict j.refusal ∙ ap (λ (b : Bool). piece_audited b w now j.verdict j.refusal) none ∙ validated_anew w 0 now j.verdict j.refusal in
      let notes = audit_notes w now j.verdict j.refusal ∙ ap (λ (b : Bool). audit_calls b w now j.verdict) none in
      record {
        found = judged j.verdict j.refusal;
        may = given result (subst (λ (b : Bool). OnFalse b (MayBeValidated w (judged j.verdict j.refusal))) (sym none) j.may);
        turn = given result (mark_turn j.refusal filed_later j.may.1);
        goes = subst (λ (x : Step). Goes w x result (with_auditing held None) old new bytes bytes) (sym is)
            (left_auditing w held old new bytes i same only_now next result None leaves.same (given result (tt, refl)) (reply_anew 0 told result j.reply));
        only = ends_anyhow result;
        timely = ends_any_time None refl result;
        quiet = subst (λ (b : Bool). OnTrue b (filed_later ≡ filed)) (sym none) tt;
        unasked = ends_asking (has_more w) none result;
        finds = beside_told w (desk old filed) (desk new filed_later) _ _ j.adds (λ lists later beside adds. subst (λ (b : Bool). OnFalse b (FindsVerdict w now (judged j.verdict j.refusal))) (sym none) ((adds beside).found, (adds beside).mark));
        files = beside_told w (desk old filed) (desk new filed_later) _ _ j.adds (λ lists later beside adds. subst (λ (x : Step). ListsGo w x.world (IsOk result) old new bytes bytes later) (sym is)
            (record { keeps = (adds beside).files.keeps; between = (adds beside).files.between; ordered = (adds beside).files.ordered }));
        makes = beside_told w (desk old filed) (desk new filed_later) _ _ j.adds (λ lists later beside adds.
            subst (λ (x : Step). MakesLineCalls w piece_line now (judged j.verdict j.refusal) x result (desk old filed) (desk new filed_later) bytes) (sym is)
            (calls_beside w piece_line now (judged j.verdict j.refusal) next leaves.same.store bytes result old new same.trace filed filed_later
            (subst (λ (cs : List Call). Makes cs result) (sym notes) (adds beside).makes)));
      }

  -- ---- beside a notary that tells its lists

  module _ (lists later : Lists) (beside : IsBeside w filed.limits lists) where
    found_in : (f : Result Verdict AuditFail) → IsFound w.id (lists.batches w.id) (stored bytes) f → IsFoundIn (filed_for w) (history_of w) f
    found_in f is = subst (λ (b : List Batch). IsFoundIn b (history_of w) f) (beside.lists.batches w.id)
        (subst (λ (h : Option History). IsFoundIn (lists.batches w.id) h f) (world_history w held bytes i) is)

    as_many : marks_in_all lists ≡ marks_in_all w.lists
    as_many = kept_marks w.lists lists beside.lists

    abbrev To : World → Result Answered LineFail → Type 0
    To next result = ListsGo w next (IsOk result) old new bytes bytes later

    -- the lists stand as they stood
    keep : (next : World) (result : Result Answered LineFail) → next ≡ w → Keeps lists later → To next result
    keep next result stays keeps = files_still w next (IsOk result) old new bytes bytes later (ap (λ (x : World). x.lists) stays) (keeps_then w.lists lists later beside.lists keeps)

    module _ (mark : Mark) (text : List ℕ) where
      abbrev after_mark : Option AuditFail → Step
      after_mark refusal = marked w (Some mark) refusal text

      fits : HasRoom (note w.id mark) filed.limits lists → has_room ≡ true
      fits room = let less : marks_in_all w.lists < w.limits.marks = omega (arith, room, as_many, ap (λ (l : NotaryLimits). l.marks) beside.limits) in grind (arith, nat_tests, less)

      fits_not : (HasRoom (note w.id mark) filed.limits lists → ⊥) → has_room ≡ false
      fits_not none = by has_room refl
        where
          by : (b : Bool) → has_room ≡ b → b ≡ false
          by false is = refl
          by true is =
              let less : marks_in_all w.lists < w.limits.marks = grind (arith, nat_tests, is) in
              absurd (none (omega (arith, less, as_many, ap (λ (l : NotaryLimits). l.marks) beside.limits)))

      one_marked : (result : Result Answered LineFail) → Notes w.id mark lists later → To (after_mark None).world result
      one_marked result notes = files_left w held old new bytes i same only_now (after_mark None).world (IsOk result) later (record { id = refl; store = refl; old = refl; sessions = refl })
          (λ ok. noted_keeps w.id w.lists lists later beside.lists mark notes) (noted_between w.id w.lists lists later beside.lists mark notes)

      -- it may be there
      may_be : (fail : LineFail) → MayBeMarked (Some mark) w.id filed.limits lists later → (b : Bool) → has_room ≡ b → To (after_mark (full_unless b)).world (Err fail)
      may_be fail (inl adds) true room = one_marked (Err fail) adds.2
      may_be fail (inl adds) false room = let yes = fits adds.1 in absurd cc
      may_be fail (inr keeps) true room = files_left w held old new bytes i same only_now (after_mark None).world (IsOk {T = Answered} {E = LineFail} (Err fail)) later (record { id = refl; store = refl; old = refl; sessions = refl })
          (λ ok. absurd (never ok)) (unmarked_yet w.id w.lists lists later beside.lists mark keeps)
        where
          never : IsOk {T = Answered} {E = LineFail} (Err fail) → ⊥
          never ok = cc
      may_be fail (inr keeps) false room = keep (after_mark (Some fails.Full)).world (Err fail) refl keeps

    -- by the mark of a verdict
    marked_so : (m : Option Mark) (text : List ℕ) (result : Result Answered LineFail) → IsMarked m w.id filed.limits lists later → MayMark w m None × To (marked w m None text).world result
    marked_so None text result keeps = (tt, keep w result refl keeps)
    marked_so (Some mark) text result (room, notes) = (ap full_unless (sym (fits mark text room)), one_marked mark text result notes)

    not_marked_so : (m : Option Mark) (text : List ℕ) (result : Result Answered LineFail) → IsNotMarked m w.id filed.limits lists later → MayMark w m (Some fails.Full) × To (marked w m (Some fails.Full) text).world result
    not_marked_so None text result never = absurd never
    not_marked_so (Some mark) text result (no_room, keeps) = (ap full_unless (sym (fits_not mark text no_room)), keep w result refl keeps)

    may_be_marked : (m : Option Mark) (text : List ℕ) (fail : LineFail) → MayBeMarked m w.id filed.limits lists later → MayMark w m (full_unless has_room) × To (marked w m (full_unless has_room) text).world (Err fail)
    may_be_marked None text fail keeps = (tt, keep w (Err fail) refl keeps)
    may_be_marked (Some mark) text fail may = (refl, may_be mark text fail may has_room refl)

    keeps_may : (m : Option Mark) → Keeps lists later → MayBeMarked m w.id filed.limits lists later
    keeps_may None keeps = keeps
    keeps_may (Some mark) keeps = inr keeps

    fails_so : (f : Result Verdict AuditFail) (fail : LineFail) → IsFoundIn (filed_for w) (history_of w) f → Keeps lists later → Makes (validate_calls w now f) (Err fail) → Adds f (full_unless has_room) (Err fail) later
    fails_so (Ok verdict) fail is keeps makes =
        let both = may_be_marked (mark_of verdict now) (verdict_text verdict) fail (keeps_may (mark_of verdict now) keeps) in
        record { found = is; mark = both.0; files = both.1; makes = makes }
    fails_so (Err other) fail is keeps makes = record { found = is; mark = tt; files = keep w (Err fail) refl keeps; makes = makes }

  -- ---- by the answer

  full_mark : (b : Bool) → MayRefuseMark (full_unless b)
  full_mark true = tt
  full_mark false = tt

  told_calls : (answer : Answered) (result : Result Answered LineFail) (calls : List Call) → Replies answer result → WhereTold filed.trace filed_later.trace (IsAnswered calls) → Makes calls result
  told_calls answer result calls reply made = told_map filed.trace filed_later.trace _ _ made (λ b a m. all_replied a calls b answer result reply m)

  made_as : (P Q : List notaries.Entry → List notaries.Entry → Type 0) → WhereTold filed.trace filed_later.trace P → ((b a : List notaries.Entry) → P b a → Q b a) → WhereTold filed.trace filed_later.trace Q
  made_as P Q made f = told_map filed.trace filed_later.trace P Q made f

  -- memory wanted before any call
  unmade : WhereTold filed.trace filed_later.trace MakesNone → (calls : List Call) → Makes calls (Err line_fails.NoMemory)
  unmade none calls = made_as _ _ none (λ b a e. some_made a 0 calls b e)

  -- a mark that is taken
  marked_reply : (m : Option Mark) (text : List ℕ) (result : Result Answered LineFail) → IfOk result (λ answered. answered ≡ said text) → IfOk result (IsReply (marked w m None text))
  marked_reply None text result reply = replies_as (says w text) (said text) result refl refl reply
  marked_reply (Some mark) text result reply = replies_as (marked w (Some mark) None text) (said text) result refl refl reply

  -- nothing is known of it
  unheard : (fail : LineFail) → (o n : Option Lists) → filed.lists ≡ o → filed_later.lists ≡ n → WhereTold o n (λ lists later. ⊥) → Judges (Err fail)
  unheard fail o n was is told = record {
    verdict = Ok verdicts.Unsealed;
    refusal = None;
    may = (tt, tt, λ none. tt);
    reply = tt;
    adds = told_put o n filed.lists filed_later.lists (AddsWhere (Ok verdicts.Unsealed) None (Err fail)) was is (told_map o n _ _ told (λ lists later never. absurd never));
  }

  -- ---- before and behind a failure

  module _ (fail_here : Unit {0}) where
    -- what was found before a failure
    before_found : (fail : LineFail) (lists later : Lists) → filed.lists ≡ Some lists → filed_later.lists ≡ Some later → Keeps lists later → ((calls : List Call) → Makes calls (Err fail)) → Judges (Err fail)
    before_found fail lists later was is keeps makes =
        let some = something_is_found (filed_for w) (history_of w) in
        record {
          verdict = some.0;
          refusal = full_unless has_room;
          may = (found_judges (filed_for w) (history_of w) some.0 some.1, full_mark has_room, λ none. found_nowhere (filed_for w) (history_of w) some.0 none some.1);
          reply = tt;
          adds = told_put (Some lists) (Some later) filed.lists filed_later.lists (AddsWhere some.0 (full_unless has_room) (Err fail)) was is
              (λ beside. fails_so lists later beside some.0 fail some.1 keeps (makes (validate_calls w now some.0)));
        }

    -- without a store
    none_found_so : (batches : List Batch) (verdict : Verdict) → IsFound w.id batches (stored bytes) (Ok verdict) → history_of w ≡ None → ValidatesNone (Ok verdict)
    none_found_so batches verdict is none = found_nowhere batches (history_with w.id (stored bytes)) (Ok verdict) (none_stored w held bytes w.id i.id i none) is

    -- and behind it
    behind_found : (fail : LineFail) (lists later : Lists) → filed.lists ≡ Some lists → filed_later.lists ≡ Some later → (verdict : Verdict) → IsFound w.id (lists.batches w.id) (stored bytes) (Ok verdict)
        → MayBeMarked (mark_of verdict now) w.id filed.limits lists later → Makes (noting w.id (mark_of verdict now)) (Err fail) → Judges (Err fail)
    behind_found fail lists later was is verdict found may makes = record {
      verdict = Ok verdict;
      refusal = full_unless has_room;
      may = (tt, full_mark has_room, none_found_so (lists.batches w.id) verdict found);
      reply = tt;
      adds = told_put (Some lists) (Some later) filed.lists filed_later.lists (AddsWhere (Ok verdict) (full_unless has_room) (Err fail)) was is
          (λ beside. let both = may_be_marked lists later beside (mark_of verdict now) (verdict_text verdict) fail may in record { found = found_in lists later beside (Ok verdict) found; mark = both.0; files = both.1; makes = makes });
    }

  abbrev Told : Result Verdict AuditFail → Lists → Lists → Type 0
  Told v lists later = Validates w.id now filed.limits (stored bytes) v filed.trace filed_later.trace lists later

  -- some verdict was found that has a mark
  some_full : (result : Result Answered LineFail) → Replies (refusal (refusal_text fails.Full)) result → (o n : Option Lists) → filed.lists ≡ o → filed_later.lists ≡ n → WhereTold o n (λ lists later. ⊥) → Judges result
  some_full result answer o n was is told = record {
    verdict = Ok (verdicts.HeaderAltered 0);
    refusal = Some fails.Full;
    may = (tt, tt, λ none. tt);
    reply = replies_as (refuses w (refusal_text fails.Full)) (refusal (refusal_text fails.Full)) result refl refl (replied (refusal (refusal_text fails.Full)) result answer);
    adds = told_put o n filed.lists filed_later.lists (AddsWhere (Ok (verdicts.HeaderAltered 0)) (Some fails.Full) result) was is (told_map o n _ _ told (λ lists later never. absurd never));
  }

  -- the mark of it found no room
  no_room : (result : Result Answered LineFail) → Replies (refusal (refusal_text fails.Full)) result → (o n : Option Lists) → filed.lists ≡ o → filed_later.lists ≡ n → WhereTold o n (Told (Err fails.Full)) → Judges result
  no_room result answer (Some lists) (Some later) was is (verdict, found, none) = record {
    verdict = Ok verdict;
    refusal = Some fails.Full;
    may = (tt, tt, none_found_so tt (lists.batches w.id) verdict found);
    reply = full_reply (mark_of verdict now) none.0;
    adds = told_put (Some lists) (Some later) filed.lists filed_later.lists (AddsWhere (Ok verdict) (Some fails.Full) result) was is
        (λ beside. let both = not_marked_so lists later beside (mark_of verdict now) (verdict_text verdict) result none.0 in record {
          found = found_in lists later beside (Ok verdict) found;
          mark = both.0;
          files = both.1;
          makes = told_calls (refusal (refusal_text fails.Full)) result (noting w.id (mark_of verdict now)) answer (made_as _ _ none.1 (λ b a m. found_no_room w.id b a (mark_of verdict now) m));
        });
  }
    where
      full_reply : (m : Option Mark) → IsNotMarked m w.id filed.limits lists later → IfOk result (IsReply (marked w m (Some fails.Full) (verdict_text verdict)))
      full_reply None never = absurd never
      full_reply (Some mark) none = replies_as (refuses w (refusal_text fails.Full)) (refusal (refusal_text fails.Full)) result refl refl (replied (refusal (refusal_text fails.Full)) result answer)
  no_room result answer (Some lists) None was is told = some_full result answer (Some lists) None was is tt
  no_room result answer None n was is told = some_full result answer None n was is tt

  notary_failed : (o n : Option Lists) → filed.lists ≡ o → filed_later.lists ≡ n → WhereTold o n (Told (Err fails.NotaryFault)) → Judges (Err line_fails.NotaryFault)
  notary_failed (Some lists) (Some later) was is (inl keeps) = before_found tt line_fails.NotaryFault lists later was is keeps.0 (λ calls. made_as _ _ keeps.1 (λ b a e. inl e))
  notary_failed (Some lists) (Some later) was is (inr (verdict, found, may)) = behind_found tt line_fails.NotaryFault lists later was is verdict found may.0 (made_as _ _ may.1 (λ b a m. has_failed w.id b a (mark_of verdict now) m))
  notary_failed (Some lists) None was is told = unheard line_fails.NotaryFault (Some lists) None was is tt
  notary_failed None n was is told = unheard line_fails.NotaryFault None n was is tt

  memory_wanted : WhereTold filed.trace filed_later.trace MakesNone → (o n : Option Lists) → filed.lists ≡ o → filed_later.lists ≡ n → WhereTold o n (Told (Err fails.NoMemory)) → Judges (Err line_fails.NoMemory)
  memory_wanted made (Some lists) (Some later) was is (inl keeps) = before_found tt line_fails.NoMemory lists later was is keeps (unmade made)
  memory_wanted made (Some lists) (Some later) was is (inr (verdict, found, may)) = behind_found tt line_fails.NoMemory lists later was is verdict found may (unmade made (noting w.id (mark_of verdict now)))
  memory_wanted made (Some lists) None was is told = unheard line_fails.NoMemory (Some lists) None was is tt
  memory_wanted made None n was is told = unheard line_fails.NoMemory None n was is tt

  disk_failed : WhereTold filed.trace filed_later.trace MakesNone → (o n : Option Lists) → filed.lists ≡ o → filed_later.lists ≡ n → WhereTold o n (Told (Err fails.DiskFault)) → Judges (Err line_fails.DiskFault)
  disk_failed made (Some lists) (Some later) was is keeps = before_found tt line_fails.DiskFault lists later was is keeps (λ calls. made)
  disk_failed made (Some lists) None was is told = unheard line_fails.DiskFault (Some lists) None was is tt
  disk_failed made None n was is told = unheard line_fails.DiskFault None n was is tt

  by_answer : (result other : Result Answered LineFail) → result ≡ other → Judges other → Judges result
  by_answer result other is does = subst Judges (sym is) does

  pub judges : (v : Result Verdict AuditFail) (result : Result Answered LineFail) → IsAnswer verdict_text v result → WhereTold filed.trace filed_later.trace (MakesMark w.id now v)
      → WhereTold filed.lists filed_later.lists (Told v) → IfErr v IsOfValidation → (history_of w ≡ None → ValidatesNone v) → Judges result
  judges (Ok verdict) result answer made told only nowhere = record {
    verdict = Ok verdict;
    refusal = None;
    may = (tt, tt, nowhere);
    reply = marked_reply (mark_of verdict now) (verdict_text verdict) result (replied (said (verdict_text verdict)) result answer);
    adds = told_map filed.lists filed_later.lists (Told (Ok verdict)) (AddsWhere (Ok verdict) None result) told (λ lists later validates beside.
        let both = marked_so lists later beside (mark_of verdict now) (verdict_text verdict) result validates.1 in record {
          found = found_in lists later beside (Ok verdict) validates.0;
          mark = both.0;
          files = both.1;
          makes = told_calls (said (verdict_text verdict)) result (noting w.id (mark_of verdict now)) answer (made_as _ _ made (λ b a m. was_marked w.id b a (mark_of verdict now) m));
        });
  }
  judges (Err (fails.SealMissing name)) result answer made told only nowhere = record {
    verdict = Err (fails.SealMissing name);
    refusal = None;
    may = (tt, tt, nowhere);
    reply = replies_as (refuses w (refusal_text (fails.SealMissing name))) (refusal (refusal_text (fails.SealMissing name))) result refl refl (replied (refusal (refusal_text (fails.SealMissing name))) result answer);
    adds = told_map filed.lists filed_later.lists (Told (Err (fails.SealMissing name))) (AddsWhere (Err (fails.SealMissing name)) None result) told (λ lists later validates beside. record {
      found = found_in lists later beside (Err (fails.SealMissing name)) validates.0;
      mark = tt;
      files = keep lists later beside w result refl validates.1;
      makes = made_as _ _ made (λ b a m. none_made result b a m);
    });
  }
  judges (Err fails.Full) result answer made told only nowhere = no_room result answer filed.lists filed_later.lists refl refl told
  judges (Err fails.NotaryFault) result answer made told only nowhere = by_answer result (Err line_fails.NotaryFault) answer (notary_failed filed.lists filed_later.lists refl refl told)
  judges (Err fails.NoMemory) result answer made told only nowhere = by_answer result (Err line_fails.NoMemory) answer (memory_wanted made filed.lists filed_later.lists refl refl told)
  judges (Err fails.DiskFault) result answer made told only nowhere = by_answer result (Err line_fails.DiskFault) answer (disk_failed made filed.lists filed_later.lists refl refl told)
  judges (Err (fails.ClockBack last)) result answer made told only nowhere = absurd only
  judges (Err fails.TooLate) result answer made told only nowhere = absurd only
  judges (Err fails.StoreFull) result answer made told only nowhere = absurd only
  judges (Err fails.TooManyEras) result answer made told only nowhere = absurd only
  judges (Err fails.Closed) result answer made told only nowhere = absurd only
  judges (Err fails.Broken) result answer made told only nowhere = absurd only
  judges (Err (fails.OutOfTurn count)) result answer made told only nowhere = absurd only

-- where the disk is unchanged
pub told_unchanged : {A : Type 0} (o n : Option A) (P : A → Type 0) (Q : A → A → Type 0) → n ≡ o → IfSome o P → ((b : A) → P b → Q b b) → WhereTold o n Q
told_unchanged {A = A} o n P Q same told f = subst (λ (m : Option A). WhereTold o m Q) (sym same) (at o told)
  where
    at : (o : Option A) → IfSome o P → WhereTold o o Q
    at (Some b) told = f b told
    at None told = tt

pub without : (id now : ℕ) (old new : State) (filed later : notaries.State) (v : Result Verdict AuditFail) (result : Result Answered LineFail) → Unchanged old new
    → ((c : List ℕ) → old.was_image (turn old) c → old.is_image c) → IsAnswer verdict_text v result → WhereTold filed.trace later.trace (MakesMark id now v)
    → IfSome old.reads (λ bytes. WhereTold filed.lists later.lists (Validates id now filed.limits (stored bytes) v filed.trace later.trace))
    → IfErr v IsOfValidation → IfSome old.reads (λ bytes. history_with id (stored bytes) ≡ None → ValidatesNone v)
    → StepsWithout (lines.Plain stmts.Validate) now result id old new filed later
without id now old new filed later v result same only_now answer made told only nowhere held own =
    told_unchanged old.reads new.reads _ _ same.reads (if_both old.reads _ _ told nowhere)
    (λ bytes at w i.
    let here = subst (λ (n : ℕ). WhereTold filed.trace later.trace (MakesMark n now v) × WhereTold filed.lists later.lists (Validates n now filed.limits (stored bytes) v filed.trace later.trace)) (sym own ∙ i.id) (made, at.0) in
    steps now w held old new bytes i same only_now filed later result
    (judges now w held old new bytes i same only_now filed later v result answer here.0 here.1 only (λ none. at.1 (none_stored w held bytes id own i none))))
