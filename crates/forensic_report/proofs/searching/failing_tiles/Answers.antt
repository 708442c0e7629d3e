use Rattle.std.proofs.Common.{rules, ◌≡◌, ◌+◌, ◌-◌, ◌<◌, ◌≤◌, ◌++◌, ◌∙◌, List, length, Result, Ok, Err, refl, ap, subst, sym, arith, ℕ}
use Rattle.std.specs.List.{Contains, range_with_len}
use Rattle.std.proofs.lemmas.List.Elements.{All-nil}
use Rattle.std.proofs.lemmas.List.FromFn.{length-range_with_len}
use Rattle.outside_words.proofs.Told.{told_same, told_map}
use Rattle.digest_model.specs.Layout.{layout}
use Rattle.digest_model.proofs.Lists.{in_range}
use Rattle.notary_link.specs.Notary.{Lists}
use Rattle.notary_link.proofs.Frame.{goes_on_same, goes_on_then}
use Rattle.notary_link.proofs.Unchanged.{unchanged_same, unchanged_then}
use Rattle.notary_link.proofs.Reading.{told_behind}
use Rattle.audit_model.specs.Asked.{IsTold}
use Rattle.audit_model.specs.Ranges.{range_of}
use Rattle.tiled_forensics.specs.Target.{tile_told}
use Rattle.forensic_report.specs.declared.fail.AnalyseFail.{AnalyseFail}
use Rattle.forensic_report.specs.declared.fail.AnalyseFail.TheVariants.{NoMemory}
use Rattle.forensic_report.specs.Analysis.{Analysis, Found, Targets}
use Rattle.forensic_report.specs.Entries.{entry_of}
use Rattle.forensic_report.specs.Fails.{of_asking}
use Rattle.forensic_report.specs.Finding.{extent_of, analysis_by, targets_told, IsTargets}
use Rattle.forensic_report.specs.Values.{OrGivesUp}
use Rattle.forensic_report.proofs.Marking.{range_push}
use Rattle.forensic_report.proofs.FailingTiles.{AreFailing, range_split, none_failing, one_more, all_failing, stopped, none_asked, none_fit, fit_more, all_before, asked_more, bits_of}
use Rattle.forensic_report.proofs.Searches.{cause_of, same_doubt, target_refused}
use Rattle.forensic_report.proofs.Questions.{small_era}
use Rattle.forensic_report.proofs.searching.failing_tiles.Goals as goal

pub loop-tile-init : goal.loop-tile-init
loop-tile-init g c =
    let S = g.N.Notary.state in
    let h = c.args.plan.now.history in
    let extent = extent_of c.args.era h c.args.plan.now.tiles in
    let start = c.tiles_of-tiles.result.start in
    let none = c.new-targets.ensures.value in
    let nothing : start - start ≡ 0 = omega arith in
    let no_tile = ap (range_with_len start) nothing in record {
      told = told_same _ _ (λ (before after : Lists). AreFailing (before.batches c.args.id) h (range_with_len start (start - start)) c.new-targets.result) refl
          (λ lists. none_failing (lists.batches c.args.id) h (range_with_len start (start - start)) c.new-targets.result no_tile none);
      fits = none_fit extent c.new-targets.result none;
      before = rw none (All-nil (λ (t : ℕ). t < start));
      same = unchanged_same (S c.args.notary.now);
      few = none_asked extent c.new-targets.result start (S c.args.notary.now).asked none;
      frame = goes_on_same (S c.args.notary.now);
      counted = λ shows. refl;
    }

pub loop-tile-preserved : goal.loop-tile-preserved
loop-tile-preserved g c =
    let h = c.args.plan.now.history in
    let extent = extent_of c.args.era h c.args.plan.now.tiles in
    let start = c.tiles_of-tiles.result.start in
    let end = c.tiles_of-tiles.result.end in
    let tile = c.loop-tile.tile in
    let targets = c.loop-tile.targets in
    let on = c.loop-tile.invariant in
    let asked = c.in_ok-target.ensures in
    let target = c.in_ok-target.target in
    let new = c.add.new.self in
    let added : new ≡ targets ++ entry_of tile target = c.in_ok-add.ensures.ok in
    let from : start ≤ tile = c.loop-tile.auto.tile in
    let below : tile < end = c.loop-tile-test.true in
    let all : range_with_len start (end - start) ≡ range_of c.args.era (layout h) c.args.plan.now.tiles =
    c.tiles_of-tiles.ensures.value h c.eras.ensures.value ∙ ap (range_of c.args.era (layout h)) c.tiles.ensures.value in
    let among = subst (λ (tiles : List ℕ). Contains tiles tile) all (in_range start (end - start) tile from (omega (arith, from, below))) in record {
      told = told_behind c.args.id (λ batches. AreFailing batches h (range_with_len start (tile - start)) targets) (λ batches. IsTold (tile_told batches h tile) (Ok target)) (λ batches. AreFailing batches h (range_with_len start (tile + 1 - start)) new) _ _ _
          asked.frame.told.untold on.same.lists on.told asked.value
          (λ batches so is. subst (λ (tiles : List ℕ). AreFailing batches h tiles new) (range_push start tile from) (rw added (one_more batches h (range_with_len start (tile - start)) tile targets so target is)));
      fits = fit_more extent tile targets new target added on.before on.fits among asked.within;
      before = all_before tile targets new target added on.before;
      same = unchanged_then _ _ _ on.frame asked.frame on.same asked.same;
      few = asked_more extent tile targets new target added start _ _ _ from on.few asked.asked;
      frame = goes_on_then _ _ _ on.frame asked.frame;
      counted = λ shows. asked.counted (on.frame.shows ∙ shows) ∙ on.counted shows;
    }

pub returns-in_err-target : goal.returns-in_err-target
returns-in_err-target g c =
    let S = g.N.Notary.state in
    let h = c.args.plan.now.history in
    let n = c.args.plan.now.tiles in
    let extent = extent_of c.args.era h n in
    let start = c.tiles_of-tiles.result.start in
    let end = c.tiles_of-tiles.result.end in
    let tile = c.loop-tile.tile in
    let targets = c.loop-tile.targets in
    let on = c.loop-tile.invariant in
    let asked = c.in_err-target.ensures in
    let fail = c.in_err-target.field-0.0 in
    let same : c.from_residual.result ≡ Err (of_asking fail) = search rules in
    let from : start ≤ tile = c.loop-tile.auto.tile in
    let below : tile < end = c.loop-tile-test.true in
    let all : range_with_len start (end - start) ≡ range_of c.args.era (layout h) n = c.tiles_of-tiles.ensures.value h c.eras.ensures.value ∙ ap (range_of c.args.era (layout h)) c.tiles.ensures.value in
    let whole = range_split start tile end from below ∙ all in record {
      searches = rw same (record {
        value = told_behind c.args.id (λ batches. AreFailing batches h (range_with_len start (tile - start)) targets) (λ batches. IsTold (tile_told batches h tile) (Err fail)) (λ batches. OrGivesUp (IsTargets c.args.era batches n h) (Err (of_asking fail))) _ _ _
            asked.frame.told.untold on.same.lists on.told asked.value
            (λ batches so is. subst (λ (tiles : List ℕ). OrGivesUp (λ found. found ≡ analysis_by Targets extent (targets_told batches h tiles)) (Err (of_asking fail))) whole
            (stopped batches h extent (range_with_len start (tile - start)) tile (range_with_len (tile + 1) (end - tile - 1)) targets so fail is));
        fits = tt;
        none_other = target_refused _ tile c.args.era fail asked.only;
        same = unchanged_then _ _ _ on.frame asked.frame on.same asked.same;
        asked = tt;
        frame = goes_on_then _ _ _ on.frame asked.frame;
        cause = cause_of fail _ _ _ on.frame.faults asked.cause;
        counted = λ shows tells. asked.counted (on.frame.shows ∙ shows) (same_doubt fail tells) ∙ on.counted shows;
      });
    }

pub returns-in_err-add : goal.returns-in_err-add
returns-in_err-add g c =
    let on = c.loop-tile.invariant in
    let asked = c.in_ok-target.ensures in
    let same : c.from_residual-in_err-add.result ≡ Err NoMemory = search rules in record {
      searches = rw same (record {
        value = told_map _ _ _ _ (goes_on_then _ _ _ on.frame asked.frame).lists (λ (before after : Lists) grows. tt);
        fits = tt;
        none_other = tt;
        same = unchanged_then _ _ _ on.frame asked.frame on.same asked.same;
        asked = tt;
        frame = goes_on_then _ _ _ on.frame asked.frame;
        cause = λ is. absurd cc;
        counted = λ shows tells. absurd cc;
      });
    }

pub returns : goal.returns
returns g c =
    let S = g.N.Notary.state in
    let h = c.args.plan.now.history in
    let n = c.args.plan.now.tiles in
    let extent = extent_of c.args.era h n in
    let start = c.tiles_of-tiles.result.start in
    let end = c.tiles_of-tiles.result.end in
    let tile = c.loop-tile.tile in
    let targets = c.loop-tile.targets in
    let on = c.loop-tile.invariant in
    let up : start ≤ end = c.tiles_of-tiles.ensures.within h c.eras.ensures.value in
    let past : tile - start ≡ end - start = omega (arith, c.loop-tile-test.false, c.loop-tile.auto.tile-end up) in
    let all : range_with_len start (tile - start) ≡ range_of c.args.era (layout h) n = ap (range_with_len start) past ∙ c.tiles_of-tiles.ensures.value h c.eras.ensures.value ∙ ap (range_of c.args.era (layout h)) c.tiles.ensures.value in
    let many = sym (length-range_with_len start (tile - start)) ∙ ap length all in record {
      searches = record {
        value = told_map _ _ _ (λ (before after : Lists). OrGivesUp (IsTargets c.args.era (before.batches c.args.id) n h) (Ok (Found extent (Targets targets)))) on.told
            (λ before after so. subst (λ (tiles : List ℕ). Ok (Found extent (Targets targets)) ≡ analysis_by Targets extent (targets_told (before.batches c.args.id) h tiles)) all
            (all_failing (before.batches c.args.id) h extent (range_with_len start (tile - start)) targets so));
        fits = on.fits;
        none_other = tt;
        same = on.same;
        asked = (let few = on.few in omega (arith, few, many));
        frame = on.frame;
        cause = λ is. absurd cc;
        counted = λ shows. on.counted shows;
      };
    }

pub tiles_of-tiles-requires : goal.tiles_of-tiles-requires
tiles_of-tiles-requires g c = record { small = small_era c.args.plan.now.history c.args.era c.requires.era }
