-- A sound world stays sound at every line, and no line tells of an alteration.
use Rattle.std.proofs.Common.{◌≡◌, ◌⊎◌, inl, inr, ℕ, ◌+◌, ◌-◌, ◌<◌, ◌≤◌, Bool, true, false, List, [], ◌∷◌, ◌++◌, length, take, Option, Some, None, IfSome, Result, Ok, Err, refl, sym, ap, subst, ◌∙◌, arith}
use Rattle.std.specs.Prelude.{if◌then◌else◌}
use Rattle.std.specs.Bool.{OnFalse}
use Rattle.std.proofs.lemmas.Bool.{cases_lt, eq-eqb}
use Rattle.std.proofs.lemmas.List.{append-nil}
use Rattle.tuple_bytes.specs.declared.item.Item.TheVariants as items
use Rattle.tuple_bytes.specs.Spelling.{FitsHeader}
use Rattle.history_model.specs.History.{History, history, last_moment}
use Rattle.digest_model.specs.Layout.{layout}
use Rattle.notary_link.specs.declared.mark.Mark.{Mark}
use Rattle.notary_link.specs.Batches.{Batch}
use Rattle.notary_link.specs.Filing.{fitting, room_in}
use Rattle.notary_link.proofs.Fitting.{fitting_few}
use Rattle.audit_model.specs.Sound.{IsNotarized}
use Rattle.audit_model.proofs.Adding.{added_stays}
use Rattle.store_engine.specs.Refusals.{Tail, is_back, is_late}
use Rattle.stmt_text.specs.declared.stmt.Stmt.{Stmt}
use Rattle.stmt_text.specs.declared.stmt.Stmt.TheVariants as stmts
use Rattle.stmt_text.specs.declared.line.Line.{Line}
use Rattle.stmt_text.specs.declared.line.Line.TheVariants as lines
use Rattle.statement_core.specs.Database as statements
use Rattle.session_model.specs.Service as sessions
use Rattle.session_model.specs.Steps as session_steps
use Rattle.validator.specs.declared.verdict.Verdict.{Verdict}
use Rattle.validator.specs.declared.fail.AuditFail.{AuditFail}
use Rattle.validator.specs.Texts.{verdict_text}
use Rattle.validator.specs.Notarizing.{Heard, heard_of, notarize_fault, filed_fault, next_batches, frontier_for}
use Rattle.validator.specs.Turning.{Turn}
use Rattle.validator.specs.Reaching.{with_frontier_for}
use Rattle.validator.specs.Verdicts.{IsFoundIn, mark_of}
use Rattle.validator.proofs.Growing.{IsFiledUpTo, ended_within, need_follows, notarized_more, counted_more}
use Rattle.validator.proofs.Clean.{clean_in, sound_not_refused}
use Rattle.forensic_report.specs.declared.algorithm.Algorithm.{Algorithm}
use Rattle.forensic_report.specs.declared.fail.AnalyseFail.{AnalyseFail}
use Rattle.forensic_report.specs.Analysis.{Analysis, Unsealed}
use Rattle.forensic_report.specs.Finding.{IsAnalysisIn, IsSoundAnalysis}
use Rattle.forensic_report.proofs.Sound.{sound_in}
use Rattle.store_world.specs.World.{World, with_store, history_or, history_of}
use Rattle.store_world.specs.Found.{Found}
use Rattle.store_world.specs.Steps.{Step, step, filed, filed_for, reached, carried_out, intent_in, unless, notarized, turn_in, turns_world, turned, marked, validated, has_more, piece_audited, analysed, algorithm_of, on_tables}
use Rattle.store_world.specs.Finding.{MayFile, FindsVerdict, MayFind}
use Rattle.store_world.specs.Laws.{HoldsFiled, IsSoundWorld, HasFitHeader, SoundWorldsStaySound}
use Rattle.store_world.specs.NoAlteration.{IsSoundVerdict, IsNotFaulted, TellsNoAlteration}
use Rattle.store_world.proofs.Adding.{Adds, step_adds}
use Rattle.store_world.proofs.Validating.{validated_anew}
use Rattle.store_world.proofs.Analysing.{analysed_stays}

abbrev IsSoundAndFit : World → Type 0
IsSoundAndFit w = IsSoundWorld w × HasFitHeader w

-- ---- a statement

module _ (w : World) (fits : HasFitHeader w) (sound : IsSoundWorld w) where
  -- of the store of a world
  module _ (ws : statements.Database) (is : w.store ≡ Some ws) where
    fit : FitsHeader ws.header × (ws.header.id ≡ w.id)
    fit = subst (λ (o : Option statements.Database). IfSome o (λ store. FitsHeader store.header × (store.header.id ≡ w.id))) is fits

    holds : HoldsFiled (filed_for w) w.id (Some (history ws.header ws.items))
    holds = subst (λ (o : Option statements.Database). HoldsFiled (filed_for w) w.id (history_or o w.old_history)) is sound

    with_added : (new : statements.Database) → Adds ws new → IsSoundAndFit (with_store w new)
    with_added new (inl same) = subst (λ (x : statements.Database). IsSoundAndFit (with_store w x)) (sym same) (holds, fit)
    with_added new (inr added) = subst (λ (x : statements.Database). IsSoundAndFit (with_store w x)) (sym added.is) (by holds, fit)
      where
        by : HoldsFiled (filed_for w) w.id (Some (history ws.header ws.items)) → HoldsFiled (filed_for w) w.id (Some (history ws.header (ws.items ++ items.Txn added.txn ∷ [])))
        by (inl none) = inl none
        by (inr known) = inr (known.0, known.1, added_stays (filed_for w) w.id known.0 ws.header ws.items (items.Txn added.txn) fit.0 known.2 added.later tt)

  of_tables : (line : Line) (now : ℕ) → IsSoundAndFit (on_tables w w.store line now).world
  of_tables line now = by w.store refl
    where
      by : (o : Option statements.Database) → w.store ≡ o → IsSoundAndFit (on_tables w o line now).world
      by None is = (sound, fits)
      by (Some ws) is =
          let before : sessions.Service = record { store = ws; sessions = w.sessions } in
          with_added ws is (session_steps.serve before line now).world.store (step_adds before line now)

  -- ---- a notarization

  not_refused : IfSome (history_of w) (IsNotFaulted w)
  not_refused = by (history_of w) sound
    where
      by : (o : Option History) → HoldsFiled (filed_for w) w.id o → IfSome o (IsNotFaulted w)
      by None held = tt
      by (Some h) (inl none) = ap (λ (bs : List Batch). filed_fault bs h) none
      by (Some h) (inr known) = sound_not_refused (filed_for w) w.id known.0 h known.2

  module _ (ws : statements.Database) (is : w.store ≡ Some ws) (now : ℕ) (refusal : Option AuditFail) where
    abbrev heard : Heard
    heard = heard_of (filed_for w) (history ws.header ws.items)

    abbrev t : Tail
    t = statements.tail_of_database ws

    abbrev need : Option ℕ
    need = frontier_for (layout (history ws.header ws.items)) t now (length (filed_for w))

    abbrev next : List Batch
    next = next_batches (history ws.header ws.items) now (length (filed_for w))

    abbrev count : ℕ
    count = fitting (room_in w.limits w.lists) next

    abbrev later : List Batch
    later = filed_for w ++ take count next

    not_late : notarize_fault t false now ws.items heard ≡ None → is_late t now ≡ false
    not_late free = by_back (is_back t now) refl
      where
        by_late : (b : Bool) → is_late t now ≡ b → is_back t now ≡ false → is_late t now ≡ false
        by_late false late back = late
        by_late true late back = let fault = rw (back, late) at free in absurd cc

        by_back : (b : Bool) → is_back t now ≡ b → is_late t now ≡ false
        by_back false back = by_late (is_late t now) refl back
        by_back true back = let fault = rw back at free in absurd cc

    reached_is : (o : Option ℕ) → history_or (Some (reached o ws)) w.old_history ≡ Some (history ws.header (with_frontier_for o ws.items))
    reached_is None = refl
    reached_is (Some moment) = refl

    reached_fit : (o : Option ℕ) → FitsHeader (reached o ws).header × ((reached o ws).header.id ≡ w.id)
    reached_fit None = fit ws is
    reached_fit (Some moment) = fit ws is

    -- the Frontier alone
    still : (o : Option ℕ) → ((moment : ℕ) → o ≡ Some moment → last_moment ws.items ≤ moment) → HoldsFiled (filed_for w) w.id (Some (history ws.header ws.items))
        → HoldsFiled (filed_for w) w.id (Some (history ws.header (with_frontier_for o ws.items)))
    still None follows held = held
    still (Some moment) follows (inl none) = inl none
    still (Some moment) follows (inr known) = inr (known.0, known.1, added_stays (filed_for w) w.id known.0 ws.header ws.items (items.Frontier moment) (fit ws is).0 known.2 (follows moment refl) tt)

    filed_before : IsFiledUpTo (filed_for w) (history ws.header ws.items) (length (filed_for w))
    filed_before = by (holds ws is)
      where
        by : HoldsFiled (filed_for w) w.id (Some (history ws.header ws.items)) → IsFiledUpTo (filed_for w) (history ws.header ws.items) (length (filed_for w))
        by (inl none) = subst (λ (bs : List Batch). IsFiledUpTo bs (history ws.header ws.items) (length bs)) (sym none) refl
        by (inr known) = subst (λ (n : ℕ). IsFiledUpTo (filed_for w) (history ws.header ws.items) n) (sym known.1) known.2.filed.seals

    more : is_late t now ≡ false → HoldsFiled later w.id (Some (history ws.header (with_frontier_for need ws.items)))
    more early = by (cases_lt 0 count)
      where
        by : (0 < count) ⊎ (count ≤ 0) → HoldsFiled later w.id (Some (history ws.header (with_frontier_for need ws.items)))
        by (inl some) = inr (
          length (filed_for w) + count - 1,
          counted_more t ws.items refl now (filed_for w) (ended_within (layout (history ws.header ws.items)) t now early) filed_before count some (fitting_few (room_in w.limits w.lists) next),
          subst (λ (id : ℕ). IsNotarized later id (length (filed_for w) + count - 1) (history ws.header (with_frontier_for need ws.items))) (fit ws is).1
              (notarized_more t ws.items refl now (filed_for w) (ended_within (layout (history ws.header ws.items)) t now early) filed_before count some (fitting_few (room_in w.limits w.lists) next)),
        )
        by (inr none) =
            let zero_is : count ≡ 0 = omega (arith, none) in
            subst (λ (bs : List Batch). HoldsFiled bs w.id (Some (history ws.header (with_frontier_for need ws.items)))) (sym (ap (λ (n : ℕ). filed_for w ++ take n next) zero_is ∙ append-nil (filed_for w)))
            (still need (need_follows (layout (history ws.header ws.items)) t ws.items refl now (length (filed_for w))) (holds ws is))

    abbrev new_world : World
    new_world = filed (with_store w (reached need ws)) next

    filed_is : filed_for new_world ≡ later
    filed_is = ap (λ (b : Bool). if b then later else filed_for w) (eq-eqb w.id w.id refl)

    new_sound : is_late t now ≡ false → IsSoundAndFit new_world
    new_sound early = (
      subst (λ (bs : List Batch). HoldsFiled bs w.id (history_or (Some (reached need ws)) w.old_history)) (sym filed_is)
          (subst (λ (o : Option History). HoldsFiled later w.id o) (sym (reached_is need)) (more early)),
      reached_fit need,
    )

    unless_sound : (f : Option AuditFail) (new : World) (s : Step) → IsSoundAndFit new → IsSoundAndFit s.world → IsSoundAndFit (unless f new s).world
    unless_sound (Some fail) new s one other = one
    unless_sound None new s one other = other

    of_fault : (f : Option AuditFail) → notarize_fault t false now ws.items heard ≡ f → IsSoundAndFit (unless f w (carried_out w ws (intent_in ws now heard) refusal)).world
    of_fault (Some fail) at = (sound, fits)
    of_fault None at = unless_sound refusal new_world _ (new_sound (not_late at)) (new_sound (not_late at))

  of_notarization : (now : ℕ) (heard : Heard) (refusal : Option AuditFail) → IfSome w.store (λ store. heard ≡ heard_of (filed_for w) (history store.header store.items)) → IsSoundAndFit (notarized w w.store now heard refusal).world
  of_notarization now heard refusal hears = by w.store refl hears
    where
      by : (o : Option statements.Database) → w.store ≡ o → IfSome o (λ store. heard ≡ heard_of (filed_for w) (history store.header store.items)) → IsSoundAndFit (notarized w o now heard refusal).world
      by None is hears = (sound, fits)
      by (Some ws) is hears = subst (λ (h : Heard). IsSoundAndFit (notarized w (Some ws) now h refusal).world) (sym hears)
          (of_fault ws is now refusal (notarize_fault (statements.tail_of_database ws) false now ws.items (heard_of (filed_for w) (history ws.header ws.items))) refl)

  -- ---- a policy

  -- its tile is behind the sealed ones
  module _ (ws : statements.Database) (is : w.store ≡ Some ws) (k algs : ℕ) where
    abbrev turn : Turn
    turn = turn_in ws (heard_of (filed_for w) (history ws.header ws.items)) k algs

    with_policy : HoldsFiled (filed_for w) w.id (Some (history ws.header ws.items)) → HoldsFiled (filed_for w) w.id (Some (history ws.header (ws.items ++ turn.item ∷ [])))
    with_policy (inl none) = inl none
    with_policy (inr known) = inr (known.0, known.1, added_stays (filed_for w) w.id known.0 ws.header ws.items turn.item (fit ws is).0 known.2 tt (omega (arith, known.1)))

    turn_sound : (f : Option AuditFail) → IsSoundAndFit (unless f w (turns_world w ws turn)).world
    turn_sound (Some fail) = (sound, fits)
    turn_sound None = (with_policy (holds ws is), fit ws is)

  of_policy : (heard : Heard) (k algs : ℕ) → IfSome w.store (λ store. heard ≡ heard_of (filed_for w) (history store.header store.items)) → IsSoundAndFit (turned w w.store heard k algs).world
  of_policy heard k algs hears = by w.store refl hears
    where
      by : (o : Option statements.Database) → w.store ≡ o → IfSome o (λ store. heard ≡ heard_of (filed_for w) (history store.header store.items)) → IsSoundAndFit (turned w o heard k algs).world
      by None is hears = (sound, fits)
      by (Some ws) is hears = subst (λ (h : Heard). IsSoundAndFit (turned w (Some ws) h k algs).world) (sym hears) (turn_sound ws is k algs (turn ws is k algs).fault)

  -- what is filed was heard
  filed_heard : (o : Option statements.Database) (found : Found) (now : ℕ) → IfSome o (MayFile w now found) → IfSome o (λ store. found.heard ≡ heard_of (filed_for w) (history store.header store.items))
  filed_heard None found now may = tt
  filed_heard (Some ws) found now may = may.heard

  -- ---- a validation

  of_mark : (mark : Option Mark) (refusal : Option AuditFail) (text : List ℕ) → IsSoundAndFit (marked w mark refusal text).world
  of_mark None refusal text = (sound, fits)
  of_mark (Some mark) None text = (sound, fits)
  of_mark (Some mark) (Some fail) text = (sound, fits)

  of_validation : (now : ℕ) (found : Result Verdict AuditFail) (refusal : Option AuditFail) → IsSoundAndFit (validated w now found refusal).world
  of_validation now (Ok verdict) refusal = of_mark (mark_of verdict now) refusal (verdict_text verdict)
  of_validation now (Err fail) refusal = (sound, fits)

  clean_by : (o : Option History) (batches : List Batch) (found : Result Verdict AuditFail) → HoldsFiled batches w.id o → IsFoundIn batches o found → IsSoundVerdict found
  clean_by o batches found (inl none) shows = inl (subst (λ (bs : List Batch). IsFoundIn bs o found) none shows)
  clean_by None batches found (inr known) shows = absurd known.2
  clean_by (Some h) batches found (inr known) shows = inr (known.0, clean_in batches w.id known.0 h (Some h) found refl known.2.filed shows)

  -- ---- a piece of an audit

  of_audit : (b : Bool) (now : ℕ) (found : Result Verdict AuditFail) (refusal : Option AuditFail) → IsSoundAndFit (piece_audited b w now found refusal).world
  of_audit true now found refusal = (sound, fits)
  of_audit false now found refusal = subst (λ (s : Step). IsSoundAndFit s.world) (sym (validated_anew w 0 now found refusal)) (of_validation now found refusal)

  clean_last : (b : Bool) (now : ℕ) (found : Found) → OnFalse b (FindsVerdict w now found) → OnFalse b (IsSoundVerdict found.verdict)
  clean_last true now found shows = tt
  clean_last false now found shows = clean_by (history_of w) (filed_for w) found.verdict sound shows.0

  -- ---- an analysis

  of_analysis : (algorithm : Algorithm) (found : Result Analysis AnalyseFail) (body : List ℕ) → IsSoundAndFit (analysed w algorithm found body).world
  of_analysis algorithm found body = subst IsSoundAndFit (sym (analysed_stays w algorithm found body)) (sound, fits)

  none_by : (algorithm : Algorithm) (era : Option ℕ) (o : Option History) (batches : List Batch) (found : Result Analysis AnalyseFail) → HoldsFiled batches w.id o → IsAnalysisIn algorithm era batches o found → IsSoundAnalysis found
  none_by algorithm era o batches found (inl none) shows = inl (Unsealed era, subst (λ (bs : List Batch). IsAnalysisIn algorithm era bs o found) none shows, refl)
  none_by algorithm era None batches found (inr known) shows = absurd known.2
  none_by algorithm era (Some h) batches found (inr known) shows = sound_in algorithm era batches w.id known.0 h found known.2.filed shows

  -- ---- a line

  module _ (now : ℕ) (found : Found) where
    abbrev Stays : Line → Type 0
    Stays line = MayFind w line now found → IsSoundWorld (step w line now found).world × HasFitHeader (step w line now found).world × TellsNoAlteration w line found

    beside : {A B : Type 0} → A × B → A × B × Unit {0}
    beside both = (both.0, both.1, tt)

    of_stmt : (stmt : Stmt) → Stays (lines.Plain stmt)
    unfolding step
    of_stmt stmts.Notarize may = let both = of_notarization now found.heard found.refusal (filed_heard w.store found now may) in (both.0, both.1, not_refused)
    of_stmt (stmts.Policy k algs) may = let both = of_policy found.heard k algs may in (both.0, both.1, not_refused)
    of_stmt stmts.Validate may = let both = of_validation now found.verdict found.refusal in (both.0, both.1, clean_by (history_of w) (filed_for w) found.verdict sound may.0)
    of_stmt stmts.Audit may = let both = of_audit (has_more w) now found.verdict found.refusal in (both.0, both.1, clean_last (has_more w) now found may)
    of_stmt (stmts.Analyse algorithm era) may =
        let both = of_analysis (algorithm_of algorithm) found.analysis found.body in
        (both.0, both.1, none_by (algorithm_of algorithm) era (history_of w) (filed_for w) found.analysis sound may.0)
    of_stmt stmt may = beside (of_tables (lines.Plain stmt) now)

    of_line : (line : Line) → Stays line
    unfolding step
    of_line (lines.Plain stmt) may = of_stmt stmt may
    of_line line may = beside (of_tables line now)

pub sound_worlds : SoundWorldsStaySound
sound_worlds w line now found fits sound may = of_line w fits sound now found line may
