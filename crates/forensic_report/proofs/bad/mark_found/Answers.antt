use Rattle.std.proofs.Common.{◌<◌, ℕ, List, All, sym, subst}
use Rattle.digest_model.specs.Layout.{layout_by, tile_of, max_granules}
use Rattle.forensic_report.specs.Values.{extent_by}
use Rattle.forensic_report.proofs.Whole.{targets_within, leaves_within, leaves_below}
use Rattle.forensic_report.proofs.bad.mark_found.Goals as goal

pub mark_granules-requires-clause-within : goal.mark_granules-requires-clause-within
mark_granules-requires-clause-within c =
    let l = layout_by c.args.examined.now.eras in
    let within = leaves_within (extent_by c.args.examined.now) c.in-Leaves.found.granules (rw c.in-Leaves.is at c.requires.fits.each).within in
    let same = subst (λ (granules : List ℕ). All (λ g. tile_of l g < c.args.examined.now.tiles) granules) (sym c.as_slice-in-Leaves.ensures.value) within in
    subst (λ (n : ℕ). All (λ g. tile_of l g < n) c.as_slice-in-Leaves.result.now) (sym c.requires.size) same

pub mark_granules-requires-clause-below : goal.mark_granules-requires-clause-below
mark_granules-requires-clause-below c =
    subst (λ (granules : List ℕ). All (λ g. g < max_granules) granules) (sym c.as_slice-in-Leaves.ensures.value)
    (leaves_below (extent_by c.args.examined.now) c.in-Leaves.found.granules (rw c.in-Leaves.is at c.requires.fits.each).within c.requires.fits.within)

pub mark_failing-requires-clause-within : goal.mark_failing-requires-clause-within
mark_failing-requires-clause-within c =
    let within = targets_within (extent_by c.args.examined.now) c.in-Targets.targets (rw c.in-Targets.is at c.requires.fits.each).each in
    let same = subst (λ (targets : List (ℕ × ℕ)). All (λ t. t.0 < c.args.examined.now.tiles) targets) (sym c.as_slice.ensures.value) within in
    subst (λ (n : ℕ). All (λ t. t.0 < n) c.as_slice.result.now) (sym c.requires.size) same
