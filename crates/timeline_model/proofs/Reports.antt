-- Each report of a timeline names what is altered, and its spans hold a change.
use Rattle.std.proofs.Common.{◌≡◌, ◌⊎◌, inl, inr, ℕ, ◌+◌, ◌≤◌, Bool, true, false, List, [], ◌∷◌, length, Option, Some, None, Result, Ok, Err, refl, sym, ap, subst, ◌∙◌, arith}
use Rattle.std.specs.Prelude.{nat_le, ◌++◌, IfSome, IfOk}
use Rattle.std.proofs.lemmas.Bool.{le-leb}
use Rattle.std.specs.Option.{option_map}
use Rattle.byte_grammar.specs.Reading.{IsBytes}
use Rattle.tuple_bytes.specs.declared.header.Header.{Header}
use Rattle.history_model.specs.Stored.{stored}
use Rattle.history_model.specs.StoredHistory.{IsHistory}
use Rattle.history_model.specs.History.{History, history}
use Rattle.history_model.proofs.Stores.{stored_history}
use Rattle.notary_link.specs.declared.notary.NotaryLimits.{NotaryLimits}
use Rattle.notary_link.specs.Batches.{Batch}
use Rattle.audit_model.specs.Altered.{history_with, HasPlacesOf, IsAltered, HashClash}
use Rattle.audit_model.specs.Laws.{IsAudit}
use Rattle.audit_model.proofs.Planned.{places_of}
use Rattle.corruption_diagram.specs.declared.span.Span.{Span}
use Rattle.stmt_text.specs.declared.error.ParseFail.{ParseFail}
use Rattle.stmt_text.specs.declared.stmt.LineAlgorithm.{LineAlgorithm}
use Rattle.stmt_text.specs.declared.stmt.LineAlgorithm.TheVariants as line_algorithms
use Rattle.stmt_text.specs.Fits.{FitsParts}
use Rattle.stmt_text.specs.Statements.{may_name_era}
use Rattle.stmt_text.specs.declared.stmt.Stmt.TheVariants as stmts
use Rattle.stmt_text.specs.declared.line.Line.{Line}
use Rattle.stmt_text.specs.declared.line.Line.TheVariants as lines
use Rattle.forensic_report.specs.declared.algorithm.Algorithm.{Algorithm}
use Rattle.forensic_report.specs.declared.fail.AnalyseFail.{AnalyseFail}
use Rattle.forensic_report.specs.Analysis.{Extent, Findings, Analysis, Unsealed, HeaderAltered, Found, sealed_tiles, era_named}
use Rattle.forensic_report.specs.Finding.{extent_of, IsAnalysisIn, IsFoundOf}
use Rattle.forensic_report.specs.Held.{HoldsHistory}
use Rattle.forensic_report.specs.Shows.{Shows}
use Rattle.forensic_report.specs.Texts.{Kept, span_of, first_span_of, head_line, body_text, report_text}
use Rattle.forensic_report.proofs.Showing.{shows}
use Rattle.store_world.specs.Found.{Found as FoundOf}
use Rattle.store_world.specs.World as worlds
use Rattle.store_world.specs.Steps as world_steps
use Rattle.store_world.specs.World.{history_or, old_under}
use Rattle.store_world.specs.Steps.{algorithm_of, analysed}
use Rattle.store_world.proofs.Analysing.{analysed_stays}
use Rattle.store_world.specs.LineCalls.{notary_calls}
use Rattle.timeline_model.specs.Scene.{Scene, Crash, nothing_yet, store_in, world_of, held, batches_of}
use Rattle.timeline_model.specs.Lines.{over_world, over_store, act}
use Rattle.timeline_model.specs.Timeline.{Event, calls_in, under, without_crash, act_on, step, after, FitsReading, MayBeFound, IsTimeline, SomeEvent}
use Rattle.timeline_model.specs.Filed.{IsFiledOver, HasAlteredIn, HasClash}
use Rattle.timeline_model.specs.Changes.{ClockRises, kept_in, Changed, ChangedTile, AreChanged}
use Rattle.timeline_model.specs.Stepping.{IsWhole}
use Rattle.timeline_model.specs.Printed.{Prints, PrintsFirst}
use Rattle.timeline_model.specs.Reports.{IsReported, NamesFiled, PrintsSpans, SpansHoldChanges, IsRightReport}
use Rattle.timeline_model.specs.Laws.{ReportsNameAltered, ReportsHaveChanges, EachReportIsRight}
use Rattle.store_world.proofs.LineItems.{none_added}
use Rattle.timeline_model.proofs.Acts.{some_weaker}
use Rattle.timeline_model.proofs.Doings.{spelled_of, history_same}
use Rattle.timeline_model.proofs.Judged.{audit, under_held}
use Rattle.timeline_model.proofs.Steady.{Holds}
use Rattle.timeline_model.proofs.Events.{each_kept, fit_after, nothing_fit}
use Rattle.timeline_model.proofs.Stepping.{take_step}
use Rattle.timeline_model.proofs.Analyses.{known_of, clash_at_last}
use Rattle.timeline_model.proofs.Changes.{spans_have}
use Rattle.timeline_model.proofs.Printing.{same_analysis, era_by, IsLookedAt, looked_at, IsSpanOf, in_span, first_altered, spans_named}
use Rattle.timeline_model.proofs.PrintedLines.{IsTold, unsealed_told, other_told, found_told, line_stands, first_stands, first_span}

-- ---- an analysis makes no changing call

module _ (t : Scene) (id : ℕ) (algorithm : LineAlgorithm) (era : Option ℕ) (found : FoundOf) (own : t.id ≡ Some id) where
  abbrev line : Line
  line = lines.Plain (stmts.Analyse algorithm era)

  none_in_world : (w : worlds.World) → calls_in (over_world t w line found (world_steps.step w line t.clock found)) ≡ 0
  unfolding world_steps.step notary_calls
  none_in_world w =
      ap (λ (x : worlds.World). calls_in (over_world t w line found (record { world = x; text = []; is_refused = false }))) (analysed_stays w (algorithm_of algorithm) found.analysis found.body)
      ∙ rw (none_added w.store) refl

  no_calls : calls_in (act t line found) ≡ 0
  unfolding act
  no_calls = ap (λ (o : Option ℕ). calls_in (over_store t o line found)) own ∙ none_in_world (world_of t id)

passes : (t : Scene) (e : Event) (crash : Option Crash) → calls_in (act_on (without_crash t) e.line e.found) ≡ 0 → IfSome crash (λ c. calls_in (act_on (without_crash t) e.line e.found) ≤ c.after)
passes t e None none = tt
passes t e (Some c) none = omega (arith, none)

whole_line : (t : Scene) (e : Event) (id : ℕ) (algorithm : LineAlgorithm) (era : Option ℕ) → e.line ≡ Ok (lines.Plain (stmts.Analyse algorithm era)) → t.id ≡ Some id → IsWhole t e
whole_line t e id algorithm era line_is own = passes t e t.crash
    (ap (λ (l : Result Line ParseFail). calls_in (act_on (without_crash t) l e.found)) line_is ∙ no_calls (without_crash t) id algorithm era e.found own)

-- ---- bytes that were read hold a history

is_history : (bytes : List ℕ) (o : Option Header) → IsBytes bytes → (stored bytes).header ≡ o → IfSome (option_map (λ (h : Header). history h (stored bytes).items) o) IsHistory
is_history bytes None fits is = tt
is_history bytes (Some h) fits is = stored_history bytes h fits is

holds_history : (batches : List Batch) (bytes : List ℕ) → IsBytes bytes → HoldsHistory batches bytes
holds_history [] bytes fits = tt
holds_history (b ∷ bs) bytes fits = is_history bytes (stored bytes).header fits refl

-- n sealed tiles have a batch each, and the header has one
pub found_of : (algorithm : Algorithm) (era : Option ℕ) (batches : List Batch) (n : ℕ) (file : Option History) (found : Result Analysis AnalyseFail) → length batches ≡ n + 1
    → IsAnalysisIn algorithm era batches file found → IsFoundOf algorithm era batches n file found
found_of algorithm era [] n file found many is = absurd (omega (arith, many))
found_of algorithm era (b ∷ bs) n file found many is = (let same : length bs ≡ n = omega (arith, many) in subst (λ (m : ℕ). IsFoundOf algorithm era (b ∷ bs) m file found) same is)

-- ---- the era of a line

-- an analysis by the chain names none
line_era : (statement : LineAlgorithm) (era : Option ℕ) → may_name_era statement era ≡ true → era_by (algorithm_of statement) era ≡ era
line_era line_algorithms.Mono None may = refl
line_era line_algorithms.Mono (Some era) may = absurd cc
line_era line_algorithms.Tiled era may = refl
line_era (line_algorithms.TiledExactly kappa) era may = refl
line_era line_algorithms.A3d era may = refl

same_era : (a b : Analysis) → a ≡ b → era_named a ≡ era_named b
same_era a b e = ap era_named e

-- ---- a report

module _ (limits : NotaryLimits) (e : Event) (es : List Event) (id : ℕ) (statement : LineAlgorithm) (era : Option ℕ) (a : Analysis)
    (is_timeline : IsTimeline (nothing_yet limits) (e ∷ es)) (reported : IsReported (after (nothing_yet limits) es) e id statement era a) where
  abbrev t : Scene
  t = nothing_yet limits

  abbrev now : Scene
  now = after t es

  abbrev algorithm : Algorithm
  algorithm = algorithm_of statement

  abbrev asked : Line
  asked = lines.Plain (stmts.Analyse statement era)

  abbrev batches : List Batch
  batches = batches_of now id

  abbrev kept : Kept
  kept = kept_in now id

  abbrev file : Option History
  file = history_with id (stored now.bytes)

  bytes : IsBytes now.bytes
  bytes = (fit_after t es (nothing_fit limits) is_timeline.0).bytes

  may : MayBeFound (Some id) now (Ok asked) e.found
  may = subst (λ (o : Option ℕ). MayBeFound o now (Ok asked) e.found) reported.own
      (subst (λ (l : Result Line ParseFail). MayBeFound now.id now l e.found) reported.line is_timeline.1.found)

  found_in_world : IsAnalysisIn algorithm era batches (history_or (store_in id now.bytes) (old_under id now.bytes)) e.found.analysis
  unfolding world_of
  found_in_world = may.0

  found : IsAnalysisIn algorithm era batches file (Ok a)
  found = subst (λ (o : Option History). IsAnalysisIn algorithm era batches o (Ok a)) (history_same id now.bytes)
      (subst (λ (r : Result Analysis AnalyseFail). IsAnalysisIn algorithm era batches (history_or (store_in id now.bytes) (old_under id now.bytes)) r) reported.found found_in_world)

  -- ---- the reply

  body : e.found.body ≡ body_text algorithm kept a
  unfolding world_of
  body = subst (λ (r : Result Analysis AnalyseFail). IfOk r (λ a. e.found.body ≡ body_text algorithm kept a)) reported.found may.1

  said : (world_steps.step (world_of now id) asked now.clock e.found).text ≡ report_text algorithm id kept a
  unfolding world_steps.step world_of report_text
  said = ap (λ (r : Result Analysis AnalyseFail). (analysed (world_of now id) algorithm r e.found.body).text) reported.found ∙ ap (λ (b : List ℕ). head_line algorithm id a ++ b) body

  text : (step now e.line e.found).text ≡ report_text algorithm id kept a
  text = (take_step limits e es id asked is_timeline reported.own reported.line tt (whole_line now e id statement era reported.line reported.own)).text ∙ said

  unsealed : batches ≡ [] → a ≡ Unsealed era
  unsealed none = same_analysis a (Unsealed era) (subst (λ (bs : List Batch). IsAnalysisIn algorithm era bs file (Ok a)) none found)

  only_unsealed : a ≡ Unsealed era → (bs : List Batch) → batches ≡ bs → bs ≡ []
  only_unsealed none [] is = refl
  only_unsealed none (b ∷ bs) is = elim (looked_at algorithm era (b ∷ bs) (length bs) a file (subst (λ (all : List Batch). IsAnalysisIn algorithm era all file (Ok a)) is found)) [
    | inl other ↦ absurd (let both : Unsealed era ≡ HeaderAltered (length bs) = sym none ∙ other in cc)
    | inr at ↦ absurd (let both : Unsealed era ≡ Found (extent_of (era_by algorithm era) at.store (length bs)) at.findings = sym none ∙ at.is in cc)
  ]

  filed_one : (batches ≡ []) ⊎ ((h : History) × (n : ℕ) × IsFiledOver t es id h n)
  filed_one = elim (each_kept limits es id is_timeline.0) [ inl none ↦ inl none | inr kept ↦ inr (kept.0, kept.1, kept.2) ]

  -- ---- what is printed

  told : (bs : List Batch) → batches ≡ bs → IsTold a
  told [] is = unsealed_told era (unsealed is)
  told (b ∷ bs) is = elim (looked_at algorithm era (b ∷ bs) (length bs) a file (subst (λ (all : List Batch). IsAnalysisIn algorithm era all file (Ok a)) is found)) [
    | inl other ↦ other_told (length bs) other
    | inr at ↦ found_told (extent_of (era_by algorithm era) at.store (length bs)) at.findings at.is at.within
  ]

  printed : PrintsSpans id algorithm kept a
  printed = record {
    each = λ g named. spans_named algorithm kept a g named;
    stands = λ g span line prints. line_stands id algorithm kept a (told batches refl) g span line prints;
    first_stands = λ tile span line prints. first_stands id algorithm kept a tile span line prints;
  }

  -- ---- over what was filed

  module _ (h : History) (n : ℕ) (over : IsFiledOver t es id h n) where
    known : Holds t es id h n ⊎ HasClash t es h n
    known = known_of limits es id is_timeline.0 h n over

    looked : (a ≡ HeaderAltered n) ⊎ IsLookedAt algorithm era batches n file a
    looked = looked_at algorithm era batches n a file (found_of algorithm era batches n file (Ok a) over.count found)

    tiles : sealed_tiles a ≡ n
    tiles = elim looked [ inl other ↦ ap sealed_tiles other | inr at ↦ ap sealed_tiles at.is ]

    shown : Holds t es id h n → Shows algorithm batches h (held now) n a
    shown holds = shows algorithm era batches id n h now.bytes a holds.kept.notary holds.spelled (holds_history batches now.bytes bytes) found

    clash_now : HashClash h (held now) n → HasClash t es h n
    clash_now clash = clash_at_last t es id h n over.filed clash

    shows_filed : Shows algorithm batches h (held now) n a ⊎ HasClash t es h n
    shows_filed = elim known [ inl holds ↦ inl (shown holds) | inr clash ↦ inr clash ]

    -- ---- a store under the header that was filed

    module _ (at : IsLookedAt algorithm era batches n file a) where
      abbrev extent : Extent
      extent = extent_of (era_by algorithm era) at.store n

      held_is : held now ≡ Some at.store
      held_is = under_held id (stored now.bytes).header (stored now.bytes) at.store at.stands

      clash_read : HashClash h (Some at.store) n → HasClash t es h n
      clash_read clash = clash_now (subst (λ (o : Option History). HashClash h o n) (sym held_is) clash)

      checked : Holds t es id h n → IsAudit batches id h at.store n ⊎ HasClash t es h n
      checked holds = elim (audit batches id n h at.store holds.kept.notary holds.spelled (spelled_of now.bytes at.store bytes held_is) at.header) [
        | inl is ↦ inl is
        | inr clash ↦ inr (clash_read clash)
      ]

      module _ (holds : Holds t es id h n) (is : IsAudit batches id h at.store n) where
        places : HasPlacesOf h at.store n
        places = places_of batches id h at.store n is

        shown_here : Shows algorithm batches h (Some at.store) n (Found extent at.findings)
        shown_here = subst (λ (x : Analysis). Shows algorithm batches h (Some at.store) n x) at.is (subst (λ (o : Option History). Shows algorithm batches h o n a) held_is (shown holds))

        span_here : (g : ℕ) (span : Span) (line : List ℕ) → IsAltered h (held now) n g → Prints algorithm kept a g span line → IsSpanOf h g kept span
        span_here g span line altered prints = in_span h extent g is.places altered.is_sealed kept algorithm batches at.store at.findings span line shown_here.explained
            (subst (λ (x : Analysis). Prints algorithm kept x g span line) at.is prints)

        first_here : (tile : ℕ) (span : Span) (line : List ℕ) → PrintsFirst kept a tile span line → HasAlteredIn h (held now) n tile ⊎ HasClash t es h n
        first_here tile span line prints =
            let p = subst (λ (x : Analysis). PrintsFirst kept x tile span line) at.is prints in
            elim (first_altered h at.store n (era_by algorithm era) tile p.tiles at.findings places shown_here.begins shown_here.only p.bad_is) [
              | inl has ↦ inl (subst (λ (o : Option History). HasAlteredIn h o n tile) (sym held_is) has)
              | inr clash ↦ inr (clash_read clash)
            ]

    -- ---- in the spans

    span_is : (g : ℕ) (span : Span) (line : List ℕ) → IsAltered h (held now) n g → Prints algorithm kept a g span line → IsSpanOf h g kept span ⊎ HasClash t es h n
    span_is g span line altered prints = elim known [
      | inr clash ↦ inr clash
      | inl holds ↦ (elim looked [
        | inl other ↦ absurd (subst (λ (x : Analysis). Prints algorithm kept x g span line) other prints)
        | inr at ↦ (elim (checked at holds) [
          | inl is ↦ inl (span_here at holds is g span line altered prints)
          | inr clash ↦ inr clash
        ])
      ])
    ]

    first_is : (tile : ℕ) (span : Span) (line : List ℕ) → PrintsFirst kept a tile span line → HasAlteredIn h (held now) n tile ⊎ HasClash t es h n
    first_is tile span line prints = elim known [
      | inr clash ↦ inr clash
      | inl holds ↦ (elim looked [
        | inl other ↦ absurd (subst (λ (x : Analysis). PrintsFirst kept x tile span line) other prints)
        | inr at ↦ (elim (checked at holds) [
          | inl is ↦ first_here at holds is tile span line prints
          | inr clash ↦ inr clash
        ])
      ])
    ]

    module _ (rises : ClockRises t es) where
      own : AreChanged t es id h n
      own = spans_have limits es id h n is_timeline.0 rises over

      -- within the printed span, which is that of the granule's tile or a longer one
      within : (g : ℕ) (span : Span) → IsAltered h (held now) n g → IsSpanOf h g kept span → SomeEvent (Changed h id span g) t es ⊎ HasClash t es h n
      within g span altered of = elim (own.each of.tile g of.place altered) [
        | inl some ↦ inl (some_weaker (Changed h id (span_of kept of.tile) g) (Changed h id span g)
            (λ was is c. record {
              since = (let low = of.from in let from = c.since in omega (arith, low, from));
              until = (let to = of.to in let until = c.until in omega (arith, to, until));
              changed = c.changed;
            }) t es some)
        | inr clash ↦ inr clash
      ]

      changed : (g : ℕ) (span : Span) (line : List ℕ) → IsAltered h (held now) n g → Prints algorithm kept a g span line → SomeEvent (Changed h id span g) t es ⊎ HasClash t es h n
      changed g span line altered prints = elim (span_is g span line altered prints) [ inl of ↦ within g span altered of | inr clash ↦ inr clash ]

      first_by : (tile : ℕ) (span : Span) → span ≡ first_span_of kept tile → HasAlteredIn h (held now) n tile → SomeEvent (ChangedTile h id span tile) t es ⊎ HasClash t es h n
      first_by tile span is has = subst (λ (x : Span). SomeEvent (ChangedTile h id x tile) t es ⊎ HasClash t es h n) (sym is) (own.first tile has)

  -- the era is that of the line
  own_era : (extent : Extent) (findings : Findings) → a ≡ Found extent findings → extent.era ≡ era
  own_era extent findings is = by batches refl
    where
      parts : FitsParts asked
      parts = subst FitsReading reported.line is_timeline.1.fits

      same_extent : (store : History) (n : ℕ) (others : Findings) → a ≡ Found (extent_of (era_by algorithm era) store n) others → extent.era ≡ era
      same_extent store n others looked = same_era (Found extent findings) (Found (extent_of (era_by algorithm era) store n) others) (sym is ∙ looked) ∙ line_era statement era parts.0.2

      by : (bs : List Batch) → batches ≡ bs → extent.era ≡ era
      by [] none = absurd (let both : Unsealed era ≡ Found extent findings = sym (unsealed none) ∙ is in cc)
      by (b ∷ bs) some = elim (looked_at algorithm era (b ∷ bs) (length bs) a file (subst (λ (all : List Batch). IsAnalysisIn algorithm era all file (Ok a)) some found)) [
        | inl other ↦ absurd (let both : HeaderAltered (length bs) ≡ Found extent findings = sym other ∙ is in cc)
        | inr at ↦ same_extent at.store (length bs) at.findings at.is
      ]

  names : NamesFiled t e es id algorithm era a
  names = record {
    text = text;
    era_is = own_era;
    unsealed = (λ none. only_unsealed none batches refl, unsealed);
    filed = filed_one;
    shown = λ h n over. record { tiles = tiles h n over; shows = shows_filed h n over; clash = clash_now h n over };
  }

  holds_changes : ClockRises t es → SpansHoldChanges t es id algorithm a
  holds_changes rises = record {
    own = λ h n over. own h n over rises;
    changed = λ h n g span line over altered prints. changed h n over rises g span line altered prints;
    first = λ h n tile span line over prints. elim (first_is h n over tile span line prints) [
      | inl has ↦ first_by h n over rises tile span (first_span kept a tile span line prints) has
      | inr clash ↦ inr clash
    ];
  }

-- ---- all reports

pub reports_name : ReportsNameAltered
reports_name limits e es id algorithm era a is_timeline reported = names limits e es id algorithm era a is_timeline reported

pub reports_have : ReportsHaveChanges
reports_have limits e es id algorithm era a is_timeline reported rises = holds_changes limits e es id algorithm era a is_timeline reported rises

-- ---- a line that is not refused was answered by a report

-- without a store's id it is refused
refused_nowhere : (t : Scene) (algorithm : LineAlgorithm) (era : Option ℕ) (found : FoundOf) → t.id ≡ None → (step t (Ok (lines.Plain (stmts.Analyse algorithm era))) found).is_refused ≡ true
unfolding step act
refused_nowhere t algorithm era found none = ap (λ (o : Option ℕ). (under t.crash (without_crash t) (over_store (without_crash t) o (lines.Plain (stmts.Analyse algorithm era)) found)).is_refused) none ∙ by t.crash
  where
    by : (crash : Option Crash) → (under crash (without_crash t) (over_store (without_crash t) None (lines.Plain (stmts.Analyse algorithm era)) found)).is_refused ≡ true
    by None = refl
    by (Some crash) = (let enough : nat_le 0 crash.after ≡ true = le-leb 0 crash.after (omega arith) in rw enough refl)

true_is_not : {A : Type 0} (b : Bool) → b ≡ true → b ≡ false → A
true_is_not b is not_so = absurd (let both : true ≡ false = sym is ∙ not_so in cc)

module _ (limits : NotaryLimits) (e : Event) (es : List Event) (algorithm : LineAlgorithm) (era : Option ℕ) (is_timeline : IsTimeline (nothing_yet limits) (e ∷ es)) (line_is : e.line ≡ Ok (lines.Plain (stmts.Analyse algorithm era))) where
  abbrev empty : Scene
  empty = nothing_yet limits

  abbrev was : Scene
  was = after empty es

  right_by : (id : ℕ) (a : Analysis) → IsReported was e id algorithm era a → IsRightReport empty e es algorithm era
  right_by id a reported = record {
    id = id;
    analysis = a;
    reported = reported;
    names = names limits e es id algorithm era a is_timeline reported;
    printed = printed limits e es id algorithm era a is_timeline reported;
    spans = λ rises. holds_changes limits e es id algorithm era a is_timeline reported rises;
  }

  right_found : (id : ℕ) (r : Result Analysis AnalyseFail) → was.id ≡ Some id → e.found.analysis ≡ r → (analysed (world_of was id) (algorithm_of algorithm) r e.found.body).is_refused ≡ false → IsRightReport empty e es algorithm era
  right_found id (Ok a) own is told = right_by id a (record { own = own; line = line_is; found = is })
  right_found id (Err fail) own is told = absurd cc

  refused_as : (id : ℕ) → was.id ≡ Some id → IsWhole was e → (step was e.line e.found).is_refused ≡ (analysed (world_of was id) (algorithm_of algorithm) e.found.analysis e.found.body).is_refused
  unfolding world_steps.step
  refused_as id own passes = (take_step limits e es id (lines.Plain (stmts.Analyse algorithm era)) is_timeline own line_is tt passes).refused

  right_in : (o : Option ℕ) → was.id ≡ o → (step was e.line e.found).is_refused ≡ false → IsRightReport empty e es algorithm era
  right_in None own told = true_is_not (step was e.line e.found).is_refused
      (ap (λ (l : Result Line ParseFail). (step was l e.found).is_refused) line_is ∙ refused_nowhere was algorithm era e.found own) told
  right_in (Some id) own told = right_found id e.found.analysis own refl (sym (refused_as id own (whole_line was e id algorithm era line_is own)) ∙ told)

pub each_right : EachReportIsRight
each_right limits [] is_timeline = tt
each_right limits (e ∷ es) is_timeline = (
  (λ algorithm era line_is told. right_in limits e es algorithm era is_timeline line_is (after (nothing_yet limits) es).id refl told),
  each_right limits es is_timeline.0,
)
