use Rattle.std.proofs.Common.{◌≡◌, None, subst}
use Rattle.std.specs.Prelude.{IfErr, IfSome}
use Rattle.history_model.specs.Stored.{stored}
use Rattle.audit_model.specs.Altered.{history_with}
use Rattle.validator.specs.Desk.{desk}
use Rattle.forensic_report.specs.declared.algorithm.Algorithm.{Algorithm}
use Rattle.forensic_report.specs.Finding.{IsOfAnalysis}
use Rattle.forensic_report.specs.Reporting.{Analyses, ReportsNone}
use Rattle.store_world.specs.Steps.{algorithm_of}
use Rattle.store_world.proofs.Analysing.{unchanged_sound, analysis_shown, analysed_without}
use Rattle.store_world.proofs.analyses.answer_analysis.Goals as goal

pub returns-clause-report : goal.returns-clause-report
returns-clause-report g c =
    let told = subst (λ (a : Algorithm). Analyses a c.args.era c.args.id c.args.now (g.D.Disk.state c.args.disk.now) (g.N.Notary.state c.args.notary.now) (g.N.Notary.state c.analyse-answer.new.notary) c.analyse-answer.result) c.algorithm_of.ensures.value c.analyse-answer.ensures.told in
    record {
      answer = c.analyse-answer.result;
      reports = record {
        same = c.analyse-answer.ensures.same;
        unchanged = c.analyse-answer.ensures.unchanged;
        none_other = subst (λ (a : Algorithm). IfErr c.analyse-answer.result (IsOfAnalysis a c.args.era)) c.algorithm_of.ensures.value c.analyse-answer.ensures.none_other;
        analyses = told;
        shows = analysis_shown c.reports_show.ensures (algorithm_of c.args.algorithm) c.args.era c.args.id c.args.now (desk (g.D.Disk.state c.args.disk.now) (g.N.Notary.state c.args.notary.now)) (desk (g.D.Disk.state c.analyse-answer.new.disk) (g.N.Notary.state c.analyse-answer.new.notary))
            c.analyse-answer.result told c.analyse-answer.ensures.held;
      };
      reply = c.answer_to.ensures.value;
    }

pub returns-clause-told : goal.returns-clause-told
returns-clause-told g c =
    let told = subst (λ (a : Algorithm). Analyses a c.args.era c.args.id c.args.now (g.D.Disk.state c.args.disk.now) (g.N.Notary.state c.args.notary.now) (g.N.Notary.state c.analyse-answer.new.notary) c.analyse-answer.result) c.algorithm_of.ensures.value c.analyse-answer.ensures.told in
    analysed_without c.args.algorithm c.args.era c.args.now (g.D.Disk.state c.args.disk.now) (g.D.Disk.state c.analyse-answer.new.disk) c.analyse-answer.ensures.same (g.met.D.Disk.only_now c.args.disk.now) (g.N.Notary.state c.args.notary.now) (g.N.Notary.state c.analyse-answer.new.notary) c.analyse-answer.ensures.unchanged c.args.id
    c.answer_to.result c.analyse-answer.result c.answer_to.ensures.value told
    (subst (λ (a : Algorithm). IfErr c.analyse-answer.result (IsOfAnalysis a c.args.era)) c.algorithm_of.ensures.value c.analyse-answer.ensures.none_other)
    (subst (λ (a : Algorithm). IfSome (g.D.Disk.state c.args.disk.now).reads (λ bytes. history_with c.args.id (stored bytes) ≡ None → ReportsNone a c.args.id c.analyse-answer.result)) c.algorithm_of.ensures.value c.analyse-answer.ensures.nowhere)

pub returns-clause-sound : goal.returns-clause-sound
returns-clause-sound g c = unchanged_sound _ _ _ _ c.analyse-answer.ensures.same c.analyse-answer.ensures.unchanged
