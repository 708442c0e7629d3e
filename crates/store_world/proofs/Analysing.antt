-- An analysis does to the world what the definition says: nothing, and its report is told.
use Rattle.std.proofs.Common.{◌≡◌, ℕ, false, List, ◌∷◌, ◌++◌, length, Option, Some, None, Result, Ok, Err, refl, sym, ap, subst, ◌∙◌}
use Rattle.std.specs.Prelude.{⊤, IfSome, IfOk, IfErr, IsOk, OnOk, []}
use Rattle.outside_words.specs.Told.{WhereTold}
use Rattle.outside_words.proofs.Told.{told_map, told_same}
use Rattle.disk_words.specs.Disk.{State, turn, Unchanged}
use Rattle.history_model.specs.History.{History}
use Rattle.history_model.specs.Stored.{stored}
use Rattle.notary_link.specs.Batches.{Batch}
use Rattle.notary_link.specs.Notary as notaries
use Rattle.notary_link.specs.Notary.{Lists, Keeps}
use Rattle.stmt_text.specs.declared.stmt.LineAlgorithm.{LineAlgorithm}
use Rattle.stmt_text.specs.declared.stmt.Stmt.TheVariants as stmts
use Rattle.stmt_text.specs.declared.line.Line.{Line}
use Rattle.stmt_text.specs.declared.line.Line.TheVariants as lines
use Rattle.validator.specs.Desk.{Desk, KeepsSound, WhereBothTell, desk}
use Rattle.validator.proofs.Sound.{left_sound}
use Rattle.validator.proofs.Telling.{told_both, told_of, told_all, if_both}
use Rattle.forensic_report.specs.declared.algorithm.Algorithm.{Algorithm}
use Rattle.forensic_report.specs.declared.fail.AnalyseFail.{AnalyseFail}
use Rattle.forensic_report.specs.declared.fail.AnalyseFail.TheVariants as fails
use Rattle.forensic_report.specs.declared.report.Report.{Report}
use Rattle.forensic_report.specs.Analysis.{Analysis, Unsealed, HeaderAltered, IsWithoutStore}
use Rattle.std.proofs.lemmas.List.{append_cancel_left}
use Rattle.forensic_report.specs.Fails.{refusal_text}
use Rattle.forensic_report.specs.Finding.{IsAnalysisIn, IsAnalysis, IsOfAnalysis}
use Rattle.forensic_report.specs.Held.{HoldsFiled}
use Rattle.forensic_report.specs.Laws.{ReportsShow}
use Rattle.forensic_report.specs.Reporting.{Analyses, Begins, IsReport, ReportsNone}
use Rattle.audit_model.specs.Altered.{history_with}
use Rattle.forensic_report.specs.Shown.{IsShown}
use Rattle.forensic_report.specs.Texts.{Kept, head_line, body_text, report_text, kept_of}
use Rattle.forensic_report.proofs.SomethingFound.{something_is_analysed}
use Rattle.store_world.specs.declared.answered.Answered.{Answered}
use Rattle.store_world.specs.declared.fail.LineFail.{LineFail}
use Rattle.store_world.specs.declared.fail.LineFail.TheVariants as line_fails
use Rattle.store_world.specs.World.{World, history_of}
use Rattle.store_world.specs.Standing.{OpenWorld, IsIn}
use Rattle.store_world.specs.Lists.{IsBeside, ListsGo}
use Rattle.store_world.specs.Finding.{MayTell, MayFind}
use Rattle.store_world.specs.Answers.{refusal, reported, Replies, IsReported}
use Rattle.store_world.specs.Parts.{StepsWithout}
use Rattle.store_world.specs.Steps.{Step, analysed, algorithm_of, filed_for}
use Rattle.store_world.specs.CallsMade.{MakesLineCalls}
use Rattle.store_world.specs.Stepping.{IsReply, Goes, Steps}
use Rattle.store_world.proofs.Between.{keeps_then}
use Rattle.store_world.proofs.Left.{given, same_world, left, files_still, beside_by, beside_told}
use Rattle.store_world.proofs.CallsTold.{calls_none}
use Rattle.store_world.proofs.Faults.{ends_anyhow, ends_any_time, ends_asking}
use Rattle.store_world.proofs.LineKinds.{shown, analyse_step, analyse_none}
use Rattle.store_world.proofs.Replies.{replied}
use Rattle.store_world.proofs.Validating.{world_history, none_stored, told_put, replies_as, told_unchanged}

pub analysed_stays : (w : World) (algorithm : Algorithm) (found : Result Analysis AnalyseFail) (body : List ℕ) → (analysed w algorithm found body).world ≡ w
analysed_stays w algorithm (Ok a) body = refl
analysed_stays w algorithm (Err fail) body = refl

-- nothing was changed
pub unchanged_sound : (old new : State) (filed later : notaries.State) → Unchanged old new → notaries.Unchanged filed later → KeepsSound (λ before. ⊤) (desk old filed) (desk new later)
unchanged_sound old new filed later same unchanged =
    told_same old.reads new.reads _ same.reads (λ before. told_map filed.lists later.lists Keeps _ unchanged.lists (λ lists later_lists keeps id stands only sound. left_sound old new lists later_lists id same keeps sound))

-- wherever the store stands
pub sound_where : (Other Stands : List ℕ → Type 0) → ((bytes : List ℕ) → Stands bytes → Other bytes) → (old new : State) (filed later : notaries.State) → KeepsSound Other (desk old filed) (desk new later) → KeepsSound Stands (desk old filed) (desk new later)
sound_where Other Stands other old new filed later keeps =
    told_map old.reads new.reads _ _ keeps (λ before after h. told_map filed.lists later.lists _ _ h (λ lists later_lists k id stands only sound. k id (other before stands) only sound))

-- ---- what a report shows

pub analysis_shown : ReportsShow → (algorithm : Algorithm) (era : Option ℕ) (id now : ℕ) (old new : Desk) (answer : Result Report AnalyseFail) → Analyses algorithm era id now old.disk old.notary new.notary answer
    → IfOk answer (λ report. HoldsFiled id old.disk old.notary new.notary)
    → IfOk answer (λ report. WhereBothTell old new (λ before after. IsShown algorithm era id now before.lists before.bytes report.text))
analysis_shown law algorithm era id now old new (Err fail) is held = tt
analysis_shown law algorithm era id now old new (Ok report) (a, found, is) held =
    told_of old.disk.reads new.disk.reads _ _ (if_both old.disk.reads _ _ found held) (λ before after h. told_map old.notary.lists new.notary.lists _ _ (told_both old.notary.lists new.notary.lists _ _ h.0 (told_both old.notary.lists new.notary.lists _ _ h.1 is.text))
    (λ lists later_lists both. record {
      found = a;
      is = both.0;
      text_is = both.1.1;
      shows = λ h n ours spelled. law algorithm era (lists.batches id) id n h before a ours spelled both.1.0 both.0;
    }))

-- ---- a line of the world

-- lists that stand as they stood are read alike
same_kept : (lists later : Lists) (id now : ℕ) → Keeps lists later → kept_of later id now ≡ kept_of lists id now
same_kept lists later id now keeps =
    ap (λ (bs : List Batch). record { batches = bs; marks = later.marks id; now = now }) (keeps.batches id)
    ∙ ap (λ ms. record { batches = lists.batches id; marks = ms; now = now }) (keeps.marks id)

-- a failure has no reply
none_replied : (result : Result Answered LineFail) (fail : LineFail) → result ≡ Err fail → OnOk result ⊥
none_replied result fail is = subst (λ (r : Result Answered LineFail). OnOk r ⊥) (sym is) tt

-- behind the first line of a report of these lists
abbrev body_by : Algorithm → Kept → Result Analysis AnalyseFail → List ℕ
body_by algorithm kept (Ok a) = body_text algorithm kept a
body_by algorithm kept (Err fail) = []

-- a report that begins so
whole_report : (algorithm : Algorithm) (id : ℕ) (kept : Kept) (a : Analysis) (text rest : List ℕ) → text ≡ report_text algorithm id kept a → text ≡ head_line algorithm id a ++ rest → rest ≡ body_text algorithm kept a
unfolding report_text
whole_report algorithm id kept a text rest is begins = append_cancel_left (head_line algorithm id a) rest (body_text algorithm kept a) (sym begins ∙ is)

-- under no history of the id nothing was filed, or the header is altered
none_shown : (algorithm : Algorithm) (era : Option ℕ) (batches : List Batch) (h : Option History) (a : Analysis) → h ≡ None → IsAnalysisIn algorithm era batches h (Ok a) → IsWithoutStore a
none_shown algorithm era [] h a none is = let same : a ≡ Unsealed era = cc in subst IsWithoutStore (sym same) tt
none_shown algorithm era (batch ∷ batches) None a none is = let same : a ≡ HeaderAltered (length batches) = cc in subst IsWithoutStore (sym same) tt
none_shown algorithm era (batch ∷ batches) (Some h) a none is = absurd cc

module _ (algorithm : LineAlgorithm) (era : Option ℕ) (now : ℕ) (old new : State) (same : Unchanged old new) (only_now : (c : List ℕ) → old.was_image (turn old) c → old.is_image c)
    (filed filed_later : notaries.State) (unchanged : notaries.Unchanged filed filed_later) where
  abbrev line : Line
  line = lines.Plain (stmts.Analyse algorithm era)

  -- what an analysis under this id came to
  abbrev CameAt : Result Report AnalyseFail → ℕ → List ℕ → Type 0
  CameAt (Ok report) n bytes = (a : Analysis) × WhereTold filed.lists filed_later.lists (λ lists later. IsAnalysis (algorithm_of algorithm) era n (lists.batches n) (stored bytes) (Ok a)) × IsReport (algorithm_of algorithm) n now old filed filed_later a report
  CameAt (Err fails.DiskFault) n bytes = Unit {0}
  CameAt (Err fails.NotaryFault) n bytes = Unit {0}
  CameAt (Err fails.NoMemory) n bytes = Unit {0}
  CameAt (Err fail) n bytes = WhereTold filed.lists filed_later.lists (λ lists later. IsAnalysis (algorithm_of algorithm) era n (lists.batches n) (stored bytes) (Err fail))

  module _ (w : World) (held : OpenWorld) (bytes : List ℕ) (i : IsIn w held bytes) where
    abbrev Finds : Result Analysis AnalyseFail → List ℕ → Type 0
    Finds f report = MayFind w line now (shown f report)

    -- this was found, and is told
    tells : (result : Result Answered LineFail) (f : Result Analysis AnalyseFail) (report : List ℕ) → OnOk result (MayTell w line (shown f report)) → IfOk result (IsReply (analysed w (algorithm_of algorithm) f report))
        → WhereTold filed.lists filed_later.lists (λ lists later. IsBeside w filed.limits lists → Finds f report) → Steps line now w result held (desk old filed) (desk new filed_later) bytes bytes
    tells result f report may reply finds =
        let is = analyse_step w now algorithm era f report in
        let stays = analysed_stays w (algorithm_of algorithm) f report in
        record {
          found = shown f report;
          may = may;
          turn = given result tt;
          goes = subst (λ (x : Step). Goes w x result held old new bytes bytes) (sym is)
              (left w held old new bytes i same only_now (analysed w (algorithm_of algorithm) f report) result (same_world w _ stays) (ap (λ (x : World). x.audited) stays) reply);
          only = ends_anyhow result;
          timely = ends_any_time None refl result;
          quiet = tt;
          unasked = ends_asking false refl result;
          finds = finds;
          files = beside_told w (desk old filed) (desk new filed_later) _ _ unchanged.lists (λ lists later beside keeps. subst (λ (x : Step). ListsGo w x.world (IsOk result) old new bytes bytes later) (sym is)
              (files_still w (analysed w (algorithm_of algorithm) f report).world (IsOk result) old new bytes bytes later (ap (λ (x : World). x.lists) stays) (keeps_then w.lists lists later beside.lists keeps)));
          makes = beside_by w (desk old filed) (desk new filed_later) _ (λ lists later was_told is_told beside.
              subst (λ (x : Step). MakesLineCalls w line now (shown f report) x result (desk old filed) (desk new filed_later) bytes) (sym is)
              (calls_none w line now (shown f report) (analysed w (algorithm_of algorithm) f report) (ap (λ (x : World). x.store) stays) bytes result old new same.trace filed filed_later (analyse_none w now algorithm era f report) unchanged.trace));
        }

    found_in : (lists : Lists) → IsBeside w filed.limits lists → (f : Result Analysis AnalyseFail) → IsAnalysis (algorithm_of algorithm) era w.id (lists.batches w.id) (stored bytes) f → IsAnalysisIn (algorithm_of algorithm) era (filed_for w) (history_of w) f
    found_in lists beside f is = subst (λ (b : List Batch). IsAnalysisIn (algorithm_of algorithm) era b (history_of w) f) (beside.lists.batches w.id)
        (subst (λ (h : Option History). IsAnalysisIn (algorithm_of algorithm) era (lists.batches w.id) h f) (world_history w held bytes i) is)

    -- a failure
    tells_none : (result : Result Answered LineFail) → OnOk result ⊥ → Steps line now w result held (desk old filed) (desk new filed_later) bytes bytes
    tells_none (Ok answered) never = absurd never
    tells_none (Err fail) never =
        let some = something_is_analysed (algorithm_of algorithm) era (filed_for w) (history_of w) in
        tells (Err fail) some.0 (body_by (algorithm_of algorithm) (kept_of w.lists w.id now) some.0) tt tt (told_all filed.lists filed_later.lists _ (λ lists later beside. (some.1, text_of some.0)))
      where
        text_of : (f : Result Analysis AnalyseFail) → IfOk f (λ a. body_by (algorithm_of algorithm) (kept_of w.lists w.id now) f ≡ body_text (algorithm_of algorithm) (kept_of w.lists w.id now) a)
        text_of (Ok a) = refl
        text_of (Err fail) = tt

    -- a report, that of what was found beside these lists, and of something else where they are not told
    abbrev ToldBy : Report → Analysis → Lists → Lists → Type 0
    ToldBy report a lists later = IsAnalysis (algorithm_of algorithm) era w.id (lists.batches w.id) (stored bytes) (Ok a) × (report.text ≡ report_text (algorithm_of algorithm) w.id (kept_of lists w.id now) a)

    tells_so : (result : Result Answered LineFail) (report : Report) (a : Analysis) → Replies (reported report) result → (begins : Begins (head_line (algorithm_of algorithm) w.id a) report.text)
        → (history_of w ≡ None → IsWithoutStore a) → WhereTold filed.lists filed_later.lists (ToldBy report a) → Steps line now w result held (desk old filed) (desk new filed_later) bytes bytes
    tells_so result report a reply begins nowhere told = tells result (Ok a) begins.rest (given result (tt, nowhere))
        (replies_as (analysed w (algorithm_of algorithm) (Ok a) begins.rest) (reported report) result begins.is refl (replied (reported report) result reply))
        (told_map filed.lists filed_later.lists (ToldBy report a) _ told (λ lists later both beside. (
          found_in lists beside (Ok a) both.0,
          whole_report (algorithm_of algorithm) w.id (kept_of w.lists w.id now) a report.text begins.rest
              (both.1 ∙ ap (λ (k : Kept). report_text (algorithm_of algorithm) w.id k a) (same_kept w.lists lists w.id now beside.lists)) begins.is,
        )))

    without_store : (result : Result Answered LineFail) (report : Report) (a : Analysis) → Replies (reported report) result → Begins (head_line (algorithm_of algorithm) w.id a) report.text → history_of w ≡ None
        → ReportsNone (algorithm_of algorithm) w.id (Ok report) → (o n : Option Lists) → filed.lists ≡ o → filed_later.lists ≡ n → WhereTold o n (ToldBy report a) → Steps line now w result held (desk old filed) (desk new filed_later) bytes bytes
    without_store result report a reply begins none says (Some lists) (Some later) was is both = tells_so result report a reply begins
        (λ none. none_shown (algorithm_of algorithm) era (lists.batches w.id) (history_with w.id (stored bytes)) a (none_stored w held bytes w.id i.id i none) both.0)
        (told_put (Some lists) (Some later) filed.lists filed_later.lists (ToldBy report a) was is both)
    without_store result report a reply begins none says (Some lists) None was is told = tells_so result report says.0 reply says.2 (λ none. says.1) (told_put (Some lists) None filed.lists filed_later.lists (ToldBy report says.0) was is tt)
    without_store result report a reply begins none says None n was is told = tells_so result report says.0 reply says.2 (λ none. says.1) (told_put None n filed.lists filed_later.lists (ToldBy report says.0) was is tt)

    tells_report : (result : Result Answered LineFail) (report : Report) (a : Analysis) → Replies (reported report) result → Begins (head_line (algorithm_of algorithm) w.id a) report.text
        → (history_of w ≡ None → ReportsNone (algorithm_of algorithm) w.id (Ok report)) → WhereTold filed.lists filed_later.lists (ToldBy report a) → Steps line now w result held (desk old filed) (desk new filed_later) bytes bytes
    tells_report result report a reply begins nowhere told = by (history_of w) refl
      where
        by : (o : Option History) → history_of w ≡ o → Steps line now w result held (desk old filed) (desk new filed_later) bytes bytes
        by None none = without_store result report a reply begins none (nowhere none) filed.lists filed_later.lists refl refl told
        by (Some h) some = tells_so result report a reply begins (λ none. let no : Some h ≡ None = sym some ∙ none in absurd cc) told

    -- a refusal
    tells_refusal : (result : Result Answered LineFail) (fail : AnalyseFail) → Replies (refusal (refusal_text fail)) result → MayTell w line (shown (Err fail) [])
        → WhereTold filed.lists filed_later.lists (λ lists later. IsAnalysis (algorithm_of algorithm) era w.id (lists.batches w.id) (stored bytes) (Err fail))
        → Steps line now w result held (desk old filed) (desk new filed_later) bytes bytes
    tells_refusal result fail reply may told = tells result (Err fail) [] (given result may)
        (replies_as (analysed w (algorithm_of algorithm) (Err fail) []) (refusal (refusal_text fail)) result refl refl (replied (refusal (refusal_text fail)) result reply))
        (told_map filed.lists filed_later.lists _ _ told (λ lists later is beside. (found_in lists beside (Err fail) is, tt)))

    -- by what it came to
    came : (result : Result Answered LineFail) (answer : Result Report AnalyseFail) → IsReported answer result → CameAt answer w.id bytes → IfErr answer (IsOfAnalysis (algorithm_of algorithm) era) → (history_of w ≡ None → ReportsNone (algorithm_of algorithm) w.id answer)
        → Steps line now w result held (desk old filed) (desk new filed_later) bytes bytes
    came result (Ok report) reply (a, found, is) only nowhere = tells_report result report a reply is.begins nowhere (told_both filed.lists filed_later.lists _ _ found is.text)
    came result (Err (fails.SealMissing name)) reply is only nowhere = tells_refusal result (fails.SealMissing name) reply (only, λ none. nowhere none) is
    came result (Err fails.NotSealedSo) reply is only nowhere = tells_refusal result fails.NotSealedSo reply (only, λ none. nowhere none) is
    came result (Err fails.NoEra) reply is only nowhere = tells_refusal result fails.NoEra reply (only, λ none. nowhere none) is
    came result (Err (fails.NotaryInconsistent number level index)) reply is only nowhere = tells_refusal result (fails.NotaryInconsistent number level index) reply (only, λ none. nowhere none) is
    came result (Err fails.DiskFault) reply is only nowhere = tells_none result (none_replied result line_fails.DiskFault reply)
    came result (Err fails.NotaryFault) reply is only nowhere = tells_none result (none_replied result line_fails.NotaryFault reply)
    came result (Err fails.NoMemory) reply is only nowhere = tells_none result (none_replied result line_fails.NoMemory reply)

  -- ---- whatever store there is

  module _ (id : ℕ) where
    of_any : (o : Option (List ℕ)) → IfSome o (λ bytes. Unit {0})
    of_any None = tt
    of_any (Some bytes) = tt

    if_map : (o : Option (List ℕ)) (P Q : List ℕ → Type 0) → IfSome o P → ((bytes : List ℕ) → P bytes → Q bytes) → IfSome o Q
    if_map None P Q told f = tt
    if_map (Some bytes) P Q told f = f bytes told

    come : (answer : Result Report AnalyseFail) → Analyses (algorithm_of algorithm) era id now old filed filed_later answer → IfSome old.reads (λ bytes. CameAt answer id bytes)
    come (Ok report) (a, found, is) = if_map old.reads _ (λ bytes. CameAt (Ok report) id bytes) found (λ bytes told. (a, told, is))
    come (Err (fails.SealMissing name)) is = is
    come (Err fails.NotSealedSo) is = is
    come (Err fails.NoEra) is = is
    come (Err (fails.NotaryInconsistent number level index)) is = is
    come (Err fails.DiskFault) is = of_any old.reads
    come (Err fails.NotaryFault) is = of_any old.reads
    come (Err fails.NoMemory) is = of_any old.reads

    pub analysed_without : (result : Result Answered LineFail) (answer : Result Report AnalyseFail) → IsReported answer result → Analyses (algorithm_of algorithm) era id now old filed filed_later answer
        → IfErr answer (IsOfAnalysis (algorithm_of algorithm) era) → IfSome old.reads (λ bytes. history_with id (stored bytes) ≡ None → ReportsNone (algorithm_of algorithm) id answer)
        → StepsWithout line now result id old new filed filed_later
    analysed_without result answer reply told only nowhere held own =
        told_unchanged old.reads new.reads _ _ same.reads (if_both old.reads _ _ (come answer told) nowhere)
        (λ bytes at w i.
        let ours : id ≡ w.id = sym own ∙ i.id in
        came w held bytes i result answer reply (subst (λ (n : ℕ). CameAt answer n bytes) ours at.0) only
        (λ none. subst (λ (n : ℕ). ReportsNone (algorithm_of algorithm) n answer) ours (at.1 (none_stored w held bytes id own i none))))
