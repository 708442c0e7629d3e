-- A piece of an audit does to the world what the definition says.
use Rattle.std.proofs.Common.{◌≡◌, ℕ, ◌<◌, Bool, true, false, List, length, Option, Some, None, IfSome, Result, Ok, Err, IsOk, OnOk, IfOk, IfErr, refl, sym, ap, subst, ◌∙◌, arith}
use Rattle.std.specs.Prelude.{◌+◌, nat_lt, ◌==◌, if◌then◌else◌}
use Rattle.std.specs.Bool.{OnFalse}
use Rattle.std.proofs.lemmas.Bool.{OnTrue_from}
use Rattle.std.proofs.lemmas.Bool.Decides.{nat_tests}
use Rattle.outside_words.specs.Told.{WhereTold}
use Rattle.outside_words.proofs.Told.{told_same}
use Rattle.disk_words.specs.Disk.{State, turn, Unchanged}
use Rattle.tuple_bytes.specs.declared.header.Header.{Header}
use Rattle.tuple_bytes.specs.declared.item.Item.{Item}
use Rattle.history_model.specs.declared.stored.Stored.{Stored}
use Rattle.history_model.specs.History.{History, history}
use Rattle.history_model.specs.Stored.{stored}
use Rattle.notary_link.specs.Notary as notaries
use Rattle.audit_model.specs.Altered.{history_with, under_id}
use Rattle.stmt_text.specs.declared.stmt.Stmt.TheVariants as stmts
use Rattle.stmt_text.specs.declared.line.Line.{Line}
use Rattle.stmt_text.specs.declared.line.Line.TheVariants as lines
use Rattle.validator.specs.Desk.{desk}
use Rattle.validator.specs.declared.verdict.Verdict.{Verdict}
use Rattle.validator.specs.declared.fail.AuditFail.{AuditFail}
use Rattle.validator.specs.declared.fail.AuditFail.TheVariants as fails
use Rattle.validator.specs.Texts.{verdict_text}
use Rattle.validator.specs.Verdicts.{Validates, MakesMark, IsOfValidation, ValidatesNone}
use Rattle.audit_steps.specs.declared.auditing.Auditing.{Auditing}
use Rattle.audit_steps.specs.declared.audit.Audit.{Audit}
use Rattle.audit_steps.specs.declared.audit.Audit.TheVariants.{Going, Found}
use Rattle.audit_steps.specs.Auditing.{read_by, IsAuditOf}
use Rattle.audit_steps.specs.PieceSize.{piece}
use Rattle.audit_steps.specs.Pieces.{HasMore, IsGoing, GoesOnWith, WhereLast, StandsAt}
use Rattle.store_world.specs.declared.answered.Answered.{Answered}
use Rattle.store_world.specs.declared.fail.LineFail.{LineFail}
use Rattle.store_world.specs.declared.fail.LineFail.TheVariants as line_fails
use Rattle.store_world.specs.World.{World, history_of}
use Rattle.store_world.specs.Standing.{OpenWorld, IsIn}
use Rattle.store_world.specs.Lists.{ListsGo}
use Rattle.store_world.specs.Answers.{said, Replies, IsAnswer, audit_text}
use Rattle.store_world.specs.Faults.{EndsUnasked}
use Rattle.store_world.specs.CallsMade.{MakesLineCalls}
use Rattle.store_world.specs.Finding.{MayBeValidated, FindsVerdict}
use Rattle.store_world.specs.LineCalls.{audit_calls}
use Rattle.store_world.specs.Parts.{StepsAuditing, with_auditing}
use Rattle.store_world.specs.Steps.{Step, is_more_left, has_more, piece_audited, audits_on, auditing_text}
use Rattle.store_world.specs.Stepping.{Goes, Steps}
use Rattle.store_world.proofs.LineKinds.{none_found, audit_step, audit_notes}
use Rattle.store_world.proofs.Replies.{replied}
use Rattle.store_world.proofs.CallsTold.{calls_none}
use Rattle.store_world.proofs.Faults.{ends_anyhow, ends_any_time, ends_replied}
use Rattle.store_world.proofs.Left.{given, left_auditing, files_still, beside_by, beside_same}
use Rattle.store_world.proofs.Validating.{replies_as, world_history, told_unchanged, judges, last_piece}

-- ---- whether more is left

-- a history of bytes has their items
items_under : (id : ℕ) (o : Option Header) (s : Stored) (h : History) → under_id id o s ≡ Some h → h.items ≡ s.items
items_under id None s h is = absurd cc
items_under id (Some header) s h is = by (header.id == id) is
  where
    by : (b : Bool) → (if b then Some (history header s.items) else None) ≡ Some h → h.items ≡ s.items
    by true is = let same : history header s.items ≡ h = cc in sym (ap (λ (x : History). x.items) same)
    by false is = absurd cc

module _ (w : World) (held : OpenWorld) (bytes : List ℕ) (i : IsIn w held bytes) where
  -- by what the bytes store under the id
  by_history : (b : Bool) → has_more w ≡ b → (o : Option History) → history_of w ≡ o → is_more_left o w.audited ≡ b
  by_history b is o of = ap (λ (x : Option History). is_more_left x w.audited) (sym of) ∙ is

  more_left : has_more w ≡ true → HasMore w.id held.auditing bytes
  more_left more = by (history_of w) refl
    where
      by : (o : Option History) → history_of w ≡ o → HasMore w.id held.auditing bytes
      by None of = let no : false ≡ true = by_history true more None of in absurd cc
      by (Some h) of =
          let is : history_with w.id (stored bytes) ≡ Some h = world_history w held bytes i ∙ of in
          let less : nat_lt (w.audited + piece) (length h.items) ≡ true = by_history true more (Some h) of in
          let below : w.audited + piece < length h.items = grind (arith, nat_tests, less) in
          let same = ap (λ (l : List Item). length l) (items_under w.id (stored bytes).header (stored bytes) h is) in
          let read = i.audited in
          record { history = λ none. cc; left = omega (arith, below, same, read) }

  none_left : has_more w ≡ false → HasMore w.id held.auditing bytes → ⊥
  none_left none more = by (history_of w) refl
    where
      by : (o : Option History) → history_of w ≡ o → ⊥
      by None of = more.history (world_history w held bytes i ∙ of)
      by (Some h) of =
          let is : history_with w.id (stored bytes) ≡ Some h = world_history w held bytes i ∙ of in
          let same = ap (λ (l : List Item). length l) (items_under w.id (stored bytes).header (stored bytes) h is) in
          let read = i.audited in
          let left = more.left in
          let below : w.audited + piece < length h.items = omega (arith, left, same, read) in
          let less : nat_lt (w.audited + piece) (length h.items) ≡ true = grind (arith, nat_tests, below) in
          let no : nat_lt (w.audited + piece) (length h.items) ≡ false = by_history false none (Some h) of in
          absurd cc

-- ---- a piece

module _ (now : ℕ) (w : World) (held : OpenWorld) (old new : State) (bytes : List ℕ) (i : IsIn w held bytes)
    (same : Unchanged old new) (only_now : (c : List ℕ) → old.was_image (turn old) c → old.is_image c) (filed filed_later : notaries.State) where
  abbrev line : Line
  line = lines.Plain stmts.Audit

  abbrev To : Option Auditing → Result Answered LineFail → Type 0
  To auditing result = Steps line now w result (with_auditing held auditing) (desk old filed) (desk new filed_later) bytes bytes

  -- it goes on, and the notary is left
  goes_on : has_more w ≡ true → filed_later ≡ filed → (result : Result Answered LineFail) (auditing : Option Auditing) → OnOk result (IsAuditOf w.id auditing bytes × (read_by auditing ≡ w.audited + piece))
      → IfOk result (λ answered. answered ≡ said (auditing_text (w.audited + piece))) → IfErr result (EndsUnasked (has_more w)) → To auditing result
  goes_on more quiet result auditing stands reply ends =
      let is = audit_step w now none_found.verdict none_found.refusal ∙ ap (λ (b : Bool). piece_audited b w now none_found.verdict none_found.refusal) more in
      let none = audit_notes w now none_found.verdict none_found.refusal ∙ ap (λ (b : Bool). audit_calls b w now none_found.verdict) more in
      record {
        found = none_found;
        may = given result (subst (λ (b : Bool). OnFalse b (MayBeValidated w none_found)) (sym more) tt);
        turn = given result tt;
        goes = subst (λ (x : Step). Goes w x result (with_auditing held auditing) old new bytes bytes) (sym is)
            (left_auditing w held old new bytes i same only_now (audits_on w) result auditing (record { id = refl; store = refl; old = refl; sessions = refl }) stands
            (replies_as (audits_on w) (said (auditing_text (w.audited + piece))) result refl refl reply));
        only = ends_anyhow result;
        timely = ends_any_time None refl result;
        quiet = OnTrue_from (has_more w) (filed_later ≡ filed) (λ goes. quiet);
        unasked = ends;
        finds = beside_by w (desk old filed) (desk new filed_later) _ (λ lists later was told beside. subst (λ (b : Bool). OnFalse b (FindsVerdict w now none_found)) (sym more) tt);
        files = beside_same w (desk old filed) (desk new filed_later) (ap (λ (s : notaries.State). s.lists) quiet) _ (λ lists beside. subst (λ (x : Step). ListsGo w x.world (IsOk result) old new bytes bytes lists) (sym is)
            (files_still w (audits_on w).world (IsOk result) old new bytes bytes lists refl beside.lists));
        makes = beside_by w (desk old filed) (desk new filed_later) _ (λ lists later was told beside. subst (λ (x : Step). MakesLineCalls w line now none_found x result (desk old filed) (desk new filed_later) bytes) (sym is)
            (calls_none w line now none_found (audits_on w) refl bytes result old new same.trace filed filed_later none (told_same filed.trace filed_later.trace _ (ap (λ (s : notaries.State). s.trace) quiet) (λ was. refl))));
      }

  -- ---- by what it answered

  abbrev Told : Result Verdict AuditFail → Type 0
  Told v = WhereTold filed.lists filed_later.lists (Validates w.id now filed.limits (stored bytes) v filed.trace filed_later.trace)

  abbrev Marks : Result Verdict AuditFail → Type 0
  Marks v = WhereTold filed.trace filed_later.trace (MakesMark w.id now v)

  -- where more is left
  module _ (more : has_more w ≡ true) (quiet : filed_later ≡ filed) (auditing : Option Auditing) (stays : IsAuditOf w.id auditing bytes) where
    failed : (fail : LineFail) → EndsUnasked (has_more w) fail → (result : Result Answered LineFail) → result ≡ Err fail → To auditing result
    failed fail ends result is = subst (To auditing) (sym is) (goes_on more quiet (Err fail) auditing tt tt ends)

    of_going : (read : ℕ) (result : Result Answered LineFail) → Replies (said (auditing_text read)) result → read ≡ w.audited + piece → read_by auditing ≡ read → To auditing result
    of_going read result replies is stands = goes_on more quiet result auditing (given result (stays, stands ∙ is))
        (subst (λ (n : ℕ). IfOk result (λ answered. answered ≡ said (auditing_text n))) is (replied (said (auditing_text read)) result replies))
        (ends_replied (has_more w) (said (auditing_text read)) result replies)

    pub going : (a : Result Audit AuditFail) (result : Result Answered LineFail) → IsAnswer audit_text a result → GoesOnWith (w.audited + piece) a → StandsAt a auditing → To auditing result
    going (Ok (Going read)) result reply goes stands = of_going read result reply goes stands
    going (Ok (Found verdict)) result reply goes stands = absurd goes
    going (Err fails.DiskFault) result reply goes stands = failed line_fails.DiskFault tt result reply
    going (Err fails.NoMemory) result reply goes stands = failed line_fails.NoMemory tt result reply
    going (Err fails.NotaryFault) result reply goes stands = absurd goes
    going (Err (fails.ClockBack last)) result reply goes stands = absurd goes
    going (Err fails.TooLate) result reply goes stands = absurd goes
    going (Err fails.StoreFull) result reply goes stands = absurd goes
    going (Err fails.TooManyEras) result reply goes stands = absurd goes
    going (Err fails.Full) result reply goes stands = absurd goes
    going (Err fails.Closed) result reply goes stands = absurd goes
    going (Err fails.Broken) result reply goes stands = absurd goes
    going (Err (fails.SealMissing name)) result reply goes stands = absurd goes
    going (Err (fails.OutOfTurn count)) result reply goes stands = absurd goes

  -- else it is a validation
  last_by : has_more w ≡ false → (auditing : Option Auditing) → auditing ≡ None → (v : Result Verdict AuditFail) (result : Result Answered LineFail) → IsAnswer verdict_text v result → Marks v → Told v → IfErr v IsOfValidation
      → (history_of w ≡ None → ValidatesNone v) → To auditing result
  last_by none auditing begins v result reply marks told only nowhere = subst (λ (a : Option Auditing). To a result) (sym begins)
      (last_piece now w held old new bytes i same only_now filed filed_later none result (judges now w held old new bytes i same only_now filed filed_later v result reply marks told only nowhere))

  pub concluded : has_more w ≡ false → (auditing : Option Auditing) (a : Result Audit AuditFail) (result : Result Answered LineFail) → (IsGoing a → ⊥) → StandsAt a auditing → IsAnswer audit_text a result
      → WhereTold filed.trace filed_later.trace (λ was is. WhereLast (λ v. MakesMark w.id now v was is) a)
      → WhereTold filed.lists filed_later.lists (λ lists later. WhereLast (λ v. Validates w.id now filed.limits (stored bytes) v filed.trace filed_later.trace lists later) a)
      → IfErr a IsOfValidation → (history_of w ≡ None → WhereLast ValidatesNone a) → To auditing result
  concluded none auditing (Ok (Going read)) result never stands reply marks told only nowhere = absurd (never tt)
  concluded none auditing (Ok (Found verdict)) result never stands reply marks told only nowhere = last_by none auditing stands (Ok verdict) result reply marks told tt nowhere
  concluded none auditing (Err fail) result never stands reply marks told only nowhere = last_by none auditing stands (Err fail) result reply marks told only nowhere

-- ---- whatever store there is

-- what a piece answered of these bytes, and where the auditor stands
pub record IsPiece (id now : ℕ) (from to : Option Auditing) (a : Result Audit AuditFail) (filed later : notaries.State) (bytes : List ℕ) : Type 0 where
  pub more : HasMore id from bytes → GoesOnWith (read_by from + piece) a
  pub going : IsGoing a → HasMore id from bytes
  pub unasked : HasMore id from bytes → later ≡ filed
  pub found : WhereTold filed.lists later.lists (λ lists later_lists. WhereLast (λ v. Validates id now filed.limits (stored bytes) v filed.trace later.trace lists later_lists) a)
  pub stays : IsAuditOf id to bytes
  pub nowhere : history_with id (stored bytes) ≡ None → WhereLast ValidatesNone a

pub piece_of : (id now : ℕ) (from to : Option Auditing) (a : Result Audit AuditFail) (filed later : notaries.State) (o : Option (List ℕ))
    → IfSome o (λ bytes. IsAuditOf id from bytes → HasMore id from bytes → GoesOnWith (read_by from + piece) a) → IfSome o (λ bytes. IsAuditOf id from bytes → IsGoing a → HasMore id from bytes)
    → IfSome o (λ bytes. IsAuditOf id from bytes → HasMore id from bytes → later ≡ filed)
    → IfSome o (λ bytes. IsAuditOf id from bytes → WhereTold filed.lists later.lists (λ lists later_lists. WhereLast (λ v. Validates id now filed.limits (stored bytes) v filed.trace later.trace lists later_lists) a))
    → IfSome o (λ bytes. IsAuditOf id from bytes → IsAuditOf id to bytes) → IfSome o (λ bytes. IsAuditOf id from bytes → history_with id (stored bytes) ≡ None → WhereLast ValidatesNone a)
    → IfSome o (λ bytes. IsAuditOf id from bytes → IsPiece id now from to a filed later bytes)
piece_of id now from to a filed later None more going unasked found stays nowhere = tt
piece_of id now from to a filed later (Some bytes) more going unasked found stays nowhere =
    λ is. record { more = more is; going = going is; unasked = unasked is; found = found is; stays = stays is; nowhere = nowhere is }

pub audits : (id now : ℕ) (from to : Option Auditing) (a : Result Audit AuditFail) (result : Result Answered LineFail) (old new : State) (filed later : notaries.State) → Unchanged old new
    → ((c : List ℕ) → old.was_image (turn old) c → old.is_image c) → IsAnswer audit_text a result → IfErr a IsOfValidation → StandsAt a to
    → WhereTold filed.trace later.trace (λ was is. WhereLast (λ v. MakesMark id now v was is) a) → IfSome old.reads (λ bytes. IsAuditOf id from bytes → IsPiece id now from to a filed later bytes)
    → StepsAuditing now result id from to (desk old filed) (desk new later)
audits id now from to a result old new filed later same only_now reply only stands marks pieces held own under =
    told_unchanged old.reads new.reads _ _ same.reads pieces
    (λ bytes at w i.
    let ours : id ≡ w.id = sym own ∙ i.id in
    let p = subst (λ (n : ℕ). IsPiece n now from to a filed later bytes) ours (at (subst (λ (n : ℕ). IsAuditOf n from bytes) (sym ours) (subst (λ (x : Option Auditing). IsAuditOf w.id x bytes) under i.audit))) in
    let marks_here = subst (λ (n : ℕ). WhereTold filed.trace later.trace (λ was is. WhereLast (λ v. MakesMark n now v was is) a)) ours marks in
    by bytes w i p marks_here (has_more w) refl)
  where
    by : (bytes : List ℕ) (w : World) (i : IsIn w held bytes) (p : IsPiece w.id now from to a filed later bytes) → WhereTold filed.trace later.trace (λ was is. WhereLast (λ v. MakesMark w.id now v was is) a)
        → (b : Bool) → has_more w ≡ b → Steps (lines.Plain stmts.Audit) now w result (with_auditing held to) (desk old filed) (desk new later) bytes bytes
    by bytes w i p marks_here true is =
        let more = subst (λ (x : Option Auditing). HasMore w.id x bytes) under (more_left w held bytes i is) in
        going now w held old new bytes i same only_now filed later is (p.unasked more) to p.stays a result reply
        (subst (λ (n : ℕ). GoesOnWith (n + piece) a) (ap read_by (sym under) ∙ i.audited) (p.more more)) stands
    by bytes w i p marks_here false is =
        concluded now w held old new bytes i same only_now filed later is to a result
        (λ goes. none_left w held bytes i is (subst (λ (x : Option Auditing). HasMore w.id x bytes) (sym under) (p.going goes))) stands reply marks_here p.found only
        (λ none. p.nowhere (world_history w held bytes i ∙ none))
