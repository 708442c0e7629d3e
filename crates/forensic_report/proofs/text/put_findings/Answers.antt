use Rattle.std.proofs.Common.{◌<◌, ℕ, List, All, sym, subst}
use Rattle.notary_link.proofs.Frame.{goes_on_same}
use Rattle.digest_model.specs.Layout.{layout_by, max_granules}
use Rattle.forensic_report.specs.Values.{extent_by}
use Rattle.forensic_report.specs.Writing.{IsFailing}
use Rattle.forensic_report.proofs.Whole.{leaves_below, all_failing}
use Rattle.forensic_report.proofs.text.put_findings.Goals as goal

pub returns-in-Region-None-clause-frame : goal.returns-in-Region-None-clause-frame
returns-in-Region-None-clause-frame g c = goes_on_same (g.N.Notary.state c.args.notary.now)

pub put_targets-requires : goal.put_targets-requires
put_targets-requires g c =
    let l = layout_by c.args.examined.now.eras in record {
      failing = subst (λ (targets : List (ℕ × ℕ)). All (IsFailing l) targets) (sym c.as_slice-targets.ensures.value) (all_failing (extent_by c.args.examined.now) c.in-Targets.targets c.requires.fits.within (rw c.in-Targets.is at c.requires.fits.each).each);
    }

pub put_granules-requires : goal.put_granules-requires
put_granules-requires g c = record {
  within = subst (λ (granules : List ℕ). All (λ g. g < max_granules) granules) (sym c.as_slice-granules.ensures.value) (leaves_below (extent_by c.args.examined.now) c.in-Leaves.found.granules (rw c.in-Leaves.is at c.requires.fits.each).within c.requires.fits.within);
}
