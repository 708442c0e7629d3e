use Rattle.std.proofs.Common.{rules, ◌≡◌, Err, ap, sym, subst, ◌∙◌, true}
use Rattle.history_model.specs.History.{History, history}
use Rattle.seal_plan.specs.Plan.{Planned}
use Rattle.forensic_report.specs.declared.algorithm.Algorithm.TheVariants.{A3d}
use Rattle.forensic_report.specs.declared.fail.AnalyseFail.TheVariants.{NoMemory}
use Rattle.forensic_report.specs.Finding.{has_era}
use Rattle.forensic_report.specs.Searching.{Searches}
use Rattle.forensic_report.proofs.Searches.{gave_up}
use Rattle.forensic_report.proofs.searching.find_leaves.Goals as goal

pub returns-in_err-plan-clause-searches : goal.returns-in_err-plan-clause-searches
returns-in_err-plan-clause-searches g c =
    let same : c.from_residual.result ≡ Err NoMemory = search rules in
    gave_up A3d c.args.era c.args.header.now.id c.args.tiles (history c.args.header.now c.args.items.now) (g.N.Notary.state c.args.notary.now) c.from_residual.result same

pub returns-clause-searches : goal.returns-clause-searches
returns-clause-searches g c =
    let S = g.N.Notary.state in
    subst (λ (p : Planned). Searches A3d c.args.era c.args.header.now.id p.tiles p.history (S c.args.notary.now) (S c.altered_leaves.new.notary) c.altered_leaves.result) c.in_ok-plan.ensures.value c.altered_leaves.ensures.searches

pub altered_leaves-requires : goal.altered_leaves-requires
altered_leaves-requires g c = record { era = ap (λ (p : Planned). has_era c.args.era p.history) c.in_ok-plan.ensures.value ∙ c.requires.era }
