use Rattle.std.proofs.Common.{◌≡◌, ◌++◌, Result, Ok}
use Rattle.outside_words.proofs.Told.{told_map}
use Rattle.notary_link.specs.Notary.{Lists}
use Rattle.notary_link.specs.declared.fail.AskFail.{AskFail}
use Rattle.corruption_diagram.specs.declared.span.Span.{Span}
use Rattle.corruption_diagram.specs.Spans.{when_first_changed}
use Rattle.forensic_report.specs.Texts.{kept_of, first_line}
use Rattle.forensic_report.proofs.Ending.{first_is}
use Rattle.forensic_report.proofs.ends.put_first_change.Goals as goal

pub returns-clause-value : goal.returns-clause-value
returns-clause-value g c =
    told_map _ _
    (λ (before after : Lists). ◌≡◌ {A = Result Span AskFail} (Ok c.in_ok-span.span) (Ok (when_first_changed (before.batches c.args.id) (before.marks c.args.id) c.args.tile c.args.now)))
    (λ (before after : Lists). c.put_first.new.out.items ≡ c.args.out.now.items ++ first_line (kept_of before c.args.id c.args.now) c.args.tile)
    c.in_ok-span.ensures.value
    (λ before after is. first_is c.args.tile c.in_ok-span.span (kept_of before c.args.id c.args.now) c.args.out.now.items c.put_first.new.out.items is c.in_ok-put_first.ensures.ok)
