use Rattle.std.proofs.Common.{List, ℕ, ◌++◌, codes, sym, ap, ◌∙◌, append_assoc}
use Rattle.notary_link.specs.NameTexts.{name_text}
use Rattle.forensic_report.specs.declared.fail.AnalyseFail.{AnalyseFail}
use Rattle.forensic_report.specs.Fails.{refusal_text}
use Rattle.forensic_report.proofs.printing.put_refusal.Goals as goal

pub returns-in_ok-put_name-in-NotaryInconsistent : goal.returns-in_ok-put_name-in-NotaryInconsistent
unfolding refusal_text
returns-in_ok-put_name-in-NotaryInconsistent c =
    let old = c.args.out.now.items in
    let name = c.node_name.result in record {
      ok = c.in_ok-put_name-in-NotaryInconsistent.ensures.ok
          ∙ ap (λ (l : List ℕ). l ++ name_text name) c.in_ok-extend_from_slice-in-NotaryInconsistent.ensures.items
          ∙ append_assoc old (codes "NotaryInconsistent ") (name_text name)
          ∙ ap (λ (l : List ℕ). old ++ (codes "NotaryInconsistent " ++ l)) (ap name_text c.node_name.ensures.value)
          ∙ ap (λ (fail : AnalyseFail). old ++ refusal_text fail) (sym c.in-NotaryInconsistent.is);
    }
