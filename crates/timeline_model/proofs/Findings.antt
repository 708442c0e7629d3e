-- What a line finds is one thing, or two inputs clash.
use Rattle.std.proofs.Common.{◌≡◌, ◌⊎◌, inl, inr, ℕ, zero, suc, ◌+◌, ◌-◌, ◌<◌, ◌≤◌, Bool, true, false, List, [], ◌∷◌, length, Option, Some, None, Result, Ok, Err, refl, sym, ap, subst, ◌∙◌, arith}
use Rattle.std.specs.Prelude.{nat_le, ◌==◌, IfSome, IfOk}
use Rattle.std.specs.Bool.{OnFalse}
use Rattle.std.proofs.lemmas.Bool.{cases_lt}
use Rattle.byte_grammar.specs.Reading.{IsBytes}
use Rattle.history_model.specs.Stored.{stored}
use Rattle.history_model.specs.History.{History}
use Rattle.digest_model.specs.Layout.{layout, first_granule, max_granules}
use Rattle.digest_model.specs.Digests.{cum}
use Rattle.digest_model.proofs.Follows.{follow}
use Rattle.digest_model.proofs.Layouts.{adjoin, ends_within, fewer}
use Rattle.notary_link.specs.declared.answer.Answer.{Answer}
use Rattle.notary_link.specs.declared.answer.Answer.TheVariants.{Same, Differs, Absent}
use Rattle.notary_link.specs.declared.name.Name.TheVariants as names
use Rattle.notary_link.specs.declared.mark.Mark.{Mark}
use Rattle.notary_link.specs.declared.notary.NotaryLimits.{NotaryLimits}
use Rattle.notary_link.specs.Filing.{fitting, room_in}
use Rattle.notary_link.specs.Batches.{Batch, compared}
use Rattle.audit_model.specs.Names.{digest}
use Rattle.audit_model.specs.Notary.{header_answer, cums}
use Rattle.audit_model.specs.Mono.{BeginsRegion, IsFirstBad}
use Rattle.audit_model.specs.Altered.{history_with, HashClash}
use Rattle.audit_model.specs.Laws.{IsAudit}
use Rattle.audit_model.proofs.Compare.{compare, one_answer}
use Rattle.audit_model.proofs.Planned.{cum_planned}
use Rattle.audit_model.proofs.Region.{clean_to}
use Rattle.validator.specs.declared.verdict.Verdict.{Verdict}
use Rattle.validator.specs.declared.verdict.Verdict.TheVariants as verdicts
use Rattle.validator.specs.declared.fail.AuditFail.{AuditFail}
use Rattle.validator.specs.declared.fail.AuditFail.TheVariants as fails
use Rattle.validator.specs.Notarizing.{Heard, Intent}
use Rattle.validator.specs.Texts.{verdict_text}
use Rattle.validator.specs.Verdicts as judging
use Rattle.validator.specs.Verdicts.{IsVerdict, IsFoundIn, mark_of}
use Rattle.forensic_report.specs.declared.algorithm.Algorithm.{Algorithm}
use Rattle.forensic_report.specs.declared.algorithm.Algorithm.TheVariants.{Mono, Tiled, TiledExactly, A3d}
use Rattle.forensic_report.specs.declared.fail.AnalyseFail.{AnalyseFail}
use Rattle.forensic_report.specs.declared.fail.AnalyseFail.TheVariants as analyse_fails
use Rattle.forensic_report.specs.Analysis.{Extent, Analysis, Region, Found}
use Rattle.forensic_report.specs.Finding as analysing
use Rattle.forensic_report.specs.Finding.{extent_of, IsRegion, has_era, has_chains, IsFoundOf, IsAnalysisIn}
use Rattle.forensic_report.specs.Texts.{kept_of, body_text}
use Rattle.forensic_report.proofs.Filed.{not_absent}
use Rattle.stmt_text.specs.declared.stmt.LineAlgorithm.{LineAlgorithm}
use Rattle.stmt_text.specs.declared.stmt.Stmt.TheVariants as stmts
use Rattle.stmt_text.specs.declared.line.Line.TheVariants as lines
use Rattle.store_world.specs.Found.{Found as FoundOf}
use Rattle.store_world.specs.World.{World, with_audited, history_or, old_under}
use Rattle.store_world.specs.Steps as world_steps
use Rattle.store_world.specs.Steps.{algorithm_of, intent_in, unless, carried_out, notarized, turned, marked, validated, has_more, piece_audited, analysed}
use Rattle.store_world.specs.Finding.{IsHeard, MayFile, MayMark, FindsVerdict, MayFind, full_unless}
use Rattle.timeline_model.specs.Scene.{Scene, nothing_yet, store_in, world_of, held, batches_of}
use Rattle.timeline_model.specs.Timeline.{Event, after, IsTimeline}
use Rattle.timeline_model.specs.Filed.{IsFiledOver, HasClash}
use Rattle.timeline_model.specs.Kept.{Kept}
use Rattle.timeline_model.specs.Findings.{DoesSame, HasFiledClash, FindingsAreOne}
use Rattle.statement_core.specs.Database as statements
use Rattle.timeline_model.proofs.Doings.{spelled_of, history_same}
use Rattle.timeline_model.proofs.Judged.{audit, under_held}
use Rattle.timeline_model.proofs.Steady.{Holds}
use Rattle.timeline_model.proofs.Events.{each_kept, fit_after, nothing_fit}
use Rattle.timeline_model.proofs.Analyses.{known_of, clash_at_last}
use Rattle.timeline_model.proofs.Reports.{found_of}

-- ---- the region of a chain under the header that was filed

abbrev judged : Verdict → Result Verdict AuditFail
judged v = Ok v

abbrev told : Analysis → Result Analysis AnalyseFail
told a = Ok a

-- the verdict over n tiles of a region
abbrev judged_as : ℕ → Option ℕ → Result Verdict AuditFail
judged_as n None = Ok (verdicts.Clean n)
judged_as n (Some first) = Ok (verdicts.Altered n first)

module _ (batches : List Batch) (id n : ℕ) (h s : History) (checked : IsAudit batches id h s n) where
  abbrev chain : ℕ → Answer
  chain = cums batches s

  -- where it is the same at the end of a tile, it is so at the end of each tile before
  same_before : (tile later : ℕ) → tile ≤ later → later < n → chain later ≡ Same → (chain tile ≡ Same) ⊎ HashClash h (Some s) n
  unfolding digest
  same_before tile later le below same = elim (clean_to batches id h s n later checked below same) [
    | inl alike ↦
        (let up = ends_within (layout h) (later + 1) tile (omega (arith, le)) in
        let ends = adjoin (layout h) later in
        let low : tile < n = omega (arith, le, below) in
        let own : cum h tile ≡ cum s tile = follow.cums h s tile (fewer (layout h) (layout s) n (tile + 1) (omega (arith, low)) checked.places)
        (record { header = checked.header; rows = λ g inside. alike.rows g (omega (arith, inside, up, ends)) }) in
        let asked : chain tile ≡ compared (cum s tile) (cum h tile) = compare batches id h s n (names.Cum tile) checked.filed (cum_planned (layout h) n tile low) in
        inl (asked ∙ elim (one_answer (cum s tile) (cum h tile)) [ inl is ↦ is.1 | inr other ↦ absurd (other.0 (sym own)) ]))
    | inr clash ↦ inr clash
  ]

  -- so no first bad tile lies before another one
  no_earlier : (p q : ℕ) → p < q → IsFirstBad chain n p → IsFirstBad chain n q → HashClash h (Some s) n
  no_earlier p q less first second = elim second.before [
    | inl none ↦ absurd (omega (arith, none, less))
    | inr same ↦ elim (same_before p (q - 1) (omega (arith, less)) (let within = second.within in omega (arith, within, less)) same) [
      | inl own ↦ absurd (let differs = first.differs in let both : Same ≡ Differs = sym own ∙ differs in cc)
      | inr clash ↦ clash
    ]
  ]

  one_bad : (p q : ℕ) → IsFirstBad chain n p → IsFirstBad chain n q → (p ≡ q) ⊎ HashClash h (Some s) n
  one_bad p q first second = elim (cases_lt p q) [
    | inl less ↦ inr (no_earlier p q less first second)
    | inr reached ↦ elim (cases_lt q p) [
      | inl more ↦ inr (no_earlier q p more second first)
      | inr back ↦ inl (omega (arith, reached, back))
    ]
  ]

  one_region : (m : ℕ) → m ≡ n → (one other : Option ℕ) → BeginsRegion chain m one → BeginsRegion chain m other → (one ≡ other) ⊎ HashClash h (Some s) n
  one_region zero e one other x y = inl (x ∙ sym y)
  one_region (suc last) e None None x y = inl refl
  one_region (suc last) e None (Some q) x y = absurd (let differs = y.0 in let both : Same ≡ Differs = sym x ∙ differs in cc)
  one_region (suc last) e (Some p) None x y = absurd (let differs = x.0 in let both : Same ≡ Differs = sym y ∙ differs in cc)
  one_region (suc last) e (Some p) (Some q) x y = elim (one_bad p q (subst (λ (k : ℕ). IsFirstBad chain k p) e x.1) (subst (λ (k : ℕ). IsFirstBad chain k q) e y.1)) [
    | inl same ↦ inl (ap (λ (i : ℕ). Some i) same)
    | inr clash ↦ inr clash
  ]

  -- a verdict is that of a region, since no seal is missing
  verdict_region : (r : Result Verdict AuditFail) → judging.IsFoundBy chain n r → (region : Option ℕ) × BeginsRegion chain n region × (r ≡ judged_as n region)
  verdict_region (Ok (verdicts.Clean tiles)) is = (None, is.1, ap (λ (k : ℕ). judged (verdicts.Clean k)) is.0)
  verdict_region (Ok (verdicts.Altered tiles first)) is = (Some first, is.1, ap (λ (k : ℕ). judged (verdicts.Altered k first)) is.0)
  verdict_region (Err (fails.SealMissing name)) is = absurd (not_absent batches id n h s checked.filed (names.Cum is.0) (cum_planned (layout h) n is.0 is.1) is.3)
  verdict_region r is = absurd is

  one_judged : (r q : Result Verdict AuditFail) → judging.IsFoundBy chain n r → judging.IsFoundBy chain n q → (r ≡ q) ⊎ HashClash h (Some s) n
  one_judged r q x y =
      let one = verdict_region r x in
      let other = verdict_region q y in
      elim (one_region n refl one.0 other.0 one.1 other.1) [
        | inl same ↦ inl (one.2 ∙ ap (judged_as n) same ∙ sym other.2)
        | inr clash ↦ inr clash
      ]

  -- and so is an analysis by the chain
  analysis_region : (extent : Extent) → extent.tiles ≡ n → (r : Result Analysis AnalyseFail) → IsRegion chain extent r → (region : Option ℕ) × BeginsRegion chain n region × (r ≡ told (Found extent (Region region)))
  analysis_region extent many (Ok (Found found (Region region))) is = (region, subst (λ (k : ℕ). BeginsRegion chain k region) many is.1, ap (λ (x : Extent). told (Found x (Region region))) is.0)
  analysis_region extent many (Err (analyse_fails.SealMissing name)) is = absurd (not_absent batches id n h s checked.filed (names.Cum is.0) (cum_planned (layout h) n is.0 (let below = is.1 in omega (arith, below, many))) is.3)
  analysis_region extent many r is = absurd is

  one_analysed : (algorithm : Algorithm) (era : Option ℕ) (r q : Result Analysis AnalyseFail) → analysing.IsFoundBy algorithm era batches n s r → analysing.IsFoundBy algorithm era batches n s q → (r ≡ q) ⊎ HashClash h (Some s) n
  one_analysed Mono era r q x y =
      let one = analysis_region (extent_of None s n) refl r x in
      let other = analysis_region (extent_of None s n) refl q y in
      elim (one_region n refl one.0 other.0 one.1 other.1) [
        | inl same ↦ inl (one.2 ∙ ap (λ (region : Option ℕ). told (Found (extent_of None s n) (Region region))) same ∙ sym other.2)
        | inr clash ↦ inr clash
      ]
  one_analysed Tiled era r q x y = inl (x ∙ sym y)
  one_analysed (TiledExactly kappa) era r q x y = inl (x ∙ sym y)
  one_analysed A3d era r q x y = inl (x ∙ sym y)

-- ---- of a file, where a header that is answered the same is the one that was filed, or there is a clash

module _ (batches : List Batch) (id n : ℕ) (h : History) (C : Type 0) where
  abbrev Checked : History → Type 0
  Checked s = (IsAudit batches id h s n × (HashClash h (Some s) n → C)) ⊎ C

  module _ (s : History) (r q : Result Verdict AuditFail) where
    verdict_within : (b : Bool) → Checked s → judging.IsFoundWithin b batches n s r → judging.IsFoundWithin b batches n s q → (r ≡ q) ⊎ C
    verdict_within true (inl checked) x y = elim (one_judged batches id n h s checked.0 r q x y) [ inl same ↦ inl same | inr clash ↦ inr (checked.1 clash) ]
    verdict_within true (inr clash) x y = inr clash
    verdict_within false known x y = inl (x ∙ sym y)

    verdict_at : (a : Answer) → (a ≡ Same → Checked s) → judging.IsFoundAt a batches n s r → judging.IsFoundAt a batches n s q → (r ≡ q) ⊎ C
    verdict_at Same known x y = verdict_within (nat_le (first_granule (layout s) n) max_granules) (known refl) x y
    verdict_at Differs known x y = inl (x ∙ sym y)
    verdict_at Absent known x y = inl (x ∙ sym y)

  one_verdict : (file : Option History) (r q : Result Verdict AuditFail) → ((s : History) → file ≡ Some s → header_answer batches s n ≡ Same → Checked s)
      → IsVerdict batches n file r → IsVerdict batches n file q → (r ≡ q) ⊎ C
  one_verdict None r q known x y = inl (x ∙ sym y)
  one_verdict (Some s) r q known x y = verdict_at s r q (header_answer batches s n) (known s refl) x y

  module _ (algorithm : Algorithm) (era : Option ℕ) (s : History) (r q : Result Analysis AnalyseFail) where
    analysis_within : (b : Bool) → Checked s → analysing.IsFoundWithin b algorithm era batches n s r → analysing.IsFoundWithin b algorithm era batches n s q → (r ≡ q) ⊎ C
    analysis_within true (inl checked) x y = elim (one_analysed batches id n h s checked.0 algorithm era r q x y) [ inl same ↦ inl same | inr clash ↦ inr (checked.1 clash) ]
    analysis_within true (inr clash) x y = inr clash
    analysis_within false known x y = inl (x ∙ sym y)

    analysis_with : (b : Bool) → Checked s → analysing.IsFoundWith b algorithm era batches n s r → analysing.IsFoundWith b algorithm era batches n s q → (r ≡ q) ⊎ C
    analysis_with true known x y = analysis_within (nat_le (first_granule (layout s) n) max_granules) known x y
    analysis_with false known x y = inl (x ∙ sym y)

    analysis_of_era : (b : Bool) → Checked s → analysing.IsFoundIn b algorithm era batches n s r → analysing.IsFoundIn b algorithm era batches n s q → (r ≡ q) ⊎ C
    analysis_of_era true known x y = analysis_with (has_chains algorithm era s n) known x y
    analysis_of_era false known x y = inl (x ∙ sym y)

    analysis_at : (a : Answer) → (a ≡ Same → Checked s) → analysing.IsFoundAt a algorithm era batches n s r → analysing.IsFoundAt a algorithm era batches n s q → (r ≡ q) ⊎ C
    analysis_at Same known x y = analysis_of_era (has_era era s) (known refl) x y
    analysis_at Differs known x y = inl (x ∙ sym y)
    analysis_at Absent known x y = inl (x ∙ sym y)

  one_analysis : (algorithm : Algorithm) (era : Option ℕ) (file : Option History) (r q : Result Analysis AnalyseFail) → ((s : History) → file ≡ Some s → header_answer batches s n ≡ Same → Checked s)
      → IsFoundOf algorithm era batches n file r → IsFoundOf algorithm era batches n file q → (r ≡ q) ⊎ C
  one_analysis algorithm era None r q known x y = inl (x ∙ sym y)
  one_analysis algorithm era (Some s) r q known x y = analysis_at algorithm era s r q (header_answer batches s n) (known s refl) x y

-- n sealed tiles have a batch each, and the header has one
verdict_of : (batches : List Batch) (n : ℕ) (file : Option History) (r : Result Verdict AuditFail) → length batches ≡ n + 1 → IsFoundIn batches file r → IsVerdict batches n file r
verdict_of [] n file r many is = absurd (omega (arith, many))
verdict_of (b ∷ bs) n file r many is = (let same : length bs ≡ n = omega (arith, many) in subst (λ (m : ℕ). IsVerdict (b ∷ bs) m file r) same is)

-- ---- at the end of a timeline

module _ (limits : NotaryLimits) (es : List Event) (id : ℕ) (is_timeline : IsTimeline (nothing_yet limits) es) where
  abbrev t : Scene
  t = nothing_yet limits

  abbrev now : Scene
  now = after t es

  abbrev batches : List Batch
  batches = batches_of now id

  abbrev file : Option History
  file = history_with id (stored now.bytes)

  bytes : IsBytes now.bytes
  bytes = (fit_after t es (nothing_fit limits) is_timeline).bytes

  file_is : history_or (store_in id now.bytes) (old_under id now.bytes) ≡ file
  file_is = history_same id now.bytes

  module _ (h : History) (n : ℕ) (over : IsFiledOver t es id h n) where
    filed_clash : HasClash t es h n → HasFiledClash t es id
    filed_clash clash = (h, n, over, clash)

    checked : (s : History) → file ≡ Some s → header_answer batches s n ≡ Same → Checked batches id n h (HasFiledClash t es id) s
    checked s stands same = by (known_of limits es id is_timeline h n over)
      where
        held_is : held now ≡ Some s
        held_is = under_held id (stored now.bytes).header (stored now.bytes) s stands

        clash_read : HashClash h (Some s) n → HasFiledClash t es id
        clash_read clash = filed_clash (clash_at_last t es id h n over.filed (subst (λ (o : Option History). HashClash h o n) (sym held_is) clash))

        by : Holds t es id h n ⊎ HasClash t es h n → Checked batches id n h (HasFiledClash t es id) s
        by (inl holds) = elim (audit batches id n h s holds.kept.notary holds.spelled (spelled_of now.bytes s bytes held_is) same) [
          | inl is ↦ inl (is, clash_read)
          | inr clash ↦ inr (clash_read clash)
        ]
        by (inr clash) = inr (filed_clash clash)

  verdicts_one : Kept t es id → (r q : Result Verdict AuditFail) → IsFoundIn batches file r → IsFoundIn batches file q → (r ≡ q) ⊎ HasFiledClash t es id
  verdicts_one (inl none) r q x y = inl (subst (λ (bs : List Batch). IsFoundIn bs file r) none x ∙ sym (subst (λ (bs : List Batch). IsFoundIn bs file q) none y))
  verdicts_one (inr (h, n, over, kept)) r q x y =
      one_verdict batches id n h (HasFiledClash t es id) file r q (checked h n over) (verdict_of batches n file r over.count x) (verdict_of batches n file q over.count y)

  analyses_one : (algorithm : Algorithm) (era : Option ℕ) → Kept t es id → (r q : Result Analysis AnalyseFail) → IsAnalysisIn algorithm era batches file r → IsAnalysisIn algorithm era batches file q → (r ≡ q) ⊎ HasFiledClash t es id
  analyses_one algorithm era (inl none) r q x y = inl (subst (λ (bs : List Batch). IsAnalysisIn algorithm era bs file r) none x ∙ sym (subst (λ (bs : List Batch). IsAnalysisIn algorithm era bs file q) none y))
  analyses_one algorithm era (inr (h, n, over, kept)) r q x y =
      one_analysis batches id n h (HasFiledClash t es id) algorithm era file r q (checked h n over) (found_of algorithm era batches n file r over.count x) (found_of algorithm era batches n file q over.count y)

-- ---- so the line does the same

module _ (w : World) (now : ℕ) where
  filed_same : (one other : FoundOf) (o : Option statements.Database) → IfSome o (MayFile w now one) → IfSome o (MayFile w now other) → notarized w o now one.heard one.refusal ≡ notarized w o now other.heard other.refusal
  filed_same one other None x y = refl
  filed_same one other (Some store) x y = ap (λ (h : Heard). notarized w (Some store) now h one.refusal) heard ∙ by intent.fault refl
    where
      heard : one.heard ≡ other.heard
      heard = x.heard ∙ sym y.heard

      intent : Intent
      intent = intent_in store now other.heard

      refused : Option AuditFail → Intent → Type 0
      refused refusal i = i.fault ≡ None → refusal ≡ full_unless (fitting (room_in w.limits w.lists) i.batches == length i.batches)

      same : intent.fault ≡ None → one.refusal ≡ other.refusal
      same free = subst (λ (h : Heard). refused one.refusal (intent_in store now h)) heard x.refusal free ∙ sym (y.refusal free)

      by : (fault : Option AuditFail) → intent.fault ≡ fault → unless fault w (carried_out w store intent one.refusal) ≡ unless fault w (carried_out w store intent other.refusal)
      by None free = ap (carried_out w store intent) (same free)
      by (Some fail) against = refl

  turned_same : (k algs : ℕ) (one other : FoundOf) (o : Option statements.Database) → IfSome o (IsHeard w one) → IfSome o (IsHeard w other) → turned w o one.heard k algs ≡ turned w o other.heard k algs
  turned_same k algs one other None x y = refl
  turned_same k algs one other (Some store) x y = ap (λ (h : Heard). turned w (Some store) h k algs) (x ∙ sym y)

  -- whatever its auditor has read
  marked_same : (read : ℕ) (verdict : Result Verdict AuditFail) (r q : Option AuditFail) → IfOk verdict (λ v. MayMark w (mark_of v now) r) → IfOk verdict (λ v. MayMark w (mark_of v now) q)
      → validated (with_audited w read) now verdict r ≡ validated (with_audited w read) now verdict q
  marked_same read (Err fail) r q x y = refl
  marked_same read (Ok v) r q x y = by (mark_of v now) x y
    where
      by : (o : Option Mark) → MayMark w o r → MayMark w o q → marked (with_audited w read) o r (verdict_text v) ≡ marked (with_audited w read) o q (verdict_text v)
      by None x y = refl
      by (Some mark) x y = ap (λ (refusal : Option AuditFail). marked (with_audited w read) (Some mark) refusal (verdict_text v)) (x ∙ sym y)

  validated_same : (read : ℕ) (one other : FoundOf) → FindsVerdict w now one → FindsVerdict w now other → one.verdict ≡ other.verdict
      → validated (with_audited w read) now one.verdict one.refusal ≡ validated (with_audited w read) now other.verdict other.refusal
  validated_same read one other x y same = ap (λ (v : Result Verdict AuditFail). validated (with_audited w read) now v one.refusal) same
      ∙ marked_same read other.verdict one.refusal other.refusal (subst (λ (r : Result Verdict AuditFail). IfOk r (λ v. MayMark w (mark_of v now) one.refusal)) same x.1) y.1

  analysed_same : (algorithm : Algorithm) (r : Result Analysis AnalyseFail) (one other : List ℕ) → IfOk r (λ a. one ≡ body_text algorithm (kept_of w.lists w.id now) a) → IfOk r (λ a. other ≡ body_text algorithm (kept_of w.lists w.id now) a)
      → analysed w algorithm r one ≡ analysed w algorithm r other
  analysed_same algorithm (Err fail) one other x y = refl
  analysed_same algorithm (Ok a) one other x y = ap (analysed w algorithm (Ok a)) (x ∙ sym y)

  -- the verdicts or the analyses are one, and so is the rest
  validates_one : {C : Type 0} (one other : FoundOf) → FindsVerdict w now one → FindsVerdict w now other → (one.verdict ≡ other.verdict) ⊎ C
      → DoesSame w (lines.Plain stmts.Validate) now one other ⊎ C
  unfolding world_steps.step
  validates_one one other x y (inl same) = inl (record { finds = same; step = validated_same w.audited one other x y same })
  validates_one one other x y (inr clash) = inr clash

  -- an audit that goes on does the same whatever is found
  audited_one : {C : Type 0} (b : Bool) (one other : FoundOf) → OnFalse b (FindsVerdict w now one) → OnFalse b (FindsVerdict w now other) → (FindsVerdict w now one → FindsVerdict w now other → (one.verdict ≡ other.verdict) ⊎ C)
      → (OnFalse b (one.verdict ≡ other.verdict) × (piece_audited b w now one.verdict one.refusal ≡ piece_audited b w now other.verdict other.refusal)) ⊎ C
  audited_one true one other x y verdicts = inl (tt, refl)
  audited_one false one other x y verdicts = elim (verdicts x y) [ inl same ↦ inl (same, validated_same 0 one other x y same) | inr clash ↦ inr clash ]

  audits_one : {C : Type 0} (one other : FoundOf) → MayFind w (lines.Plain stmts.Audit) now one → MayFind w (lines.Plain stmts.Audit) now other → (FindsVerdict w now one → FindsVerdict w now other → (one.verdict ≡ other.verdict) ⊎ C)
      → DoesSame w (lines.Plain stmts.Audit) now one other ⊎ C
  unfolding world_steps.step
  audits_one one other x y verdicts = elim (audited_one (has_more w) one other x y verdicts) [ inl same ↦ inl (record { finds = same.0; step = same.1 }) | inr clash ↦ inr clash ]

  analyses_as_one : {C : Type 0} (algorithm : LineAlgorithm) (era : Option ℕ) (one other : FoundOf) → MayFind w (lines.Plain (stmts.Analyse algorithm era)) now one → MayFind w (lines.Plain (stmts.Analyse algorithm era)) now other
      → (one.analysis ≡ other.analysis) ⊎ C → DoesSame w (lines.Plain (stmts.Analyse algorithm era)) now one other ⊎ C
  unfolding world_steps.step
  analyses_as_one algorithm era one other x y (inl same) = inl (record {
    finds = same;
    step = ap (λ (r : Result Analysis AnalyseFail). analysed w (algorithm_of algorithm) r one.body) same
        ∙ analysed_same (algorithm_of algorithm) other.analysis one.body other.body
        (subst (λ (r : Result Analysis AnalyseFail). IfOk r (λ a. one.body ≡ body_text (algorithm_of algorithm) (kept_of w.lists w.id now) a)) same x.1) y.1;
  })
  analyses_as_one algorithm era one other x y (inr clash) = inr clash

found_one : (limits : NotaryLimits) (es : List Event) (id : ℕ) (one other : FoundOf) → IsTimeline (nothing_yet limits) es → let t = after (nothing_yet limits) es in FindsVerdict (world_of t id) t.clock one → FindsVerdict (world_of t id) t.clock other
    → (one.verdict ≡ other.verdict) ⊎ HasFiledClash (nothing_yet limits) es id
unfolding world_of
found_one limits es id one other is x y = verdicts_one limits es id is (each_kept limits es id is) one.verdict other.verdict
    (subst (λ (o : Option History). IsFoundIn (batches_of (after (nothing_yet limits) es) id) o one.verdict) (file_is limits es id is) x.0)
    (subst (λ (o : Option History). IsFoundIn (batches_of (after (nothing_yet limits) es) id) o other.verdict) (file_is limits es id is) y.0)

pub findings_one : FindingsAreOne
unfolding world_of world_steps.step
findings_one limits es id (lines.Plain stmts.Notarize) one other is x y =
    inl (record { finds = tt; step = filed_same (world_of (after (nothing_yet limits) es) id) (after (nothing_yet limits) es).clock one other (world_of (after (nothing_yet limits) es) id).store x y })
findings_one limits es id (lines.Plain stmts.Validate) one other is x y = validates_one (world_of (after (nothing_yet limits) es) id) (after (nothing_yet limits) es).clock one other x y (found_one limits es id one other is x y)
findings_one limits es id (lines.Plain stmts.Audit) one other is x y = audits_one (world_of (after (nothing_yet limits) es) id) (after (nothing_yet limits) es).clock one other x y (found_one limits es id one other is)
findings_one limits es id (lines.Plain (stmts.Policy k algs)) one other is x y =
    inl (record { finds = tt; step = turned_same (world_of (after (nothing_yet limits) es) id) (after (nothing_yet limits) es).clock k algs one other (world_of (after (nothing_yet limits) es) id).store x y })
findings_one limits es id (lines.Plain (stmts.Analyse algorithm era)) one other is x y = analyses_as_one (world_of (after (nothing_yet limits) es) id) (after (nothing_yet limits) es).clock algorithm era one other x y
    (analyses_one limits es id is (algorithm_of algorithm) era (each_kept limits es id is) one.analysis other.analysis
    (subst (λ (o : Option History). IsAnalysisIn (algorithm_of algorithm) era (batches_of (after (nothing_yet limits) es) id) o one.analysis) (file_is limits es id is) x.0)
    (subst (λ (o : Option History). IsAnalysisIn (algorithm_of algorithm) era (batches_of (after (nothing_yet limits) es) id) o other.analysis) (file_is limits es id is) y.0))
findings_one limits es id line one other is x y = inl (record { finds = tt; step = refl })
