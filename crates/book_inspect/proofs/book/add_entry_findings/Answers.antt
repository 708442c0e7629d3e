use Rattle.std.proofs.Common.{ap, ◌++◌, List, ◌∙◌, arith}
use Rattle.std.proofs.lemmas.Grind.{common_steps}
use Rattle.std.proofs.lemmas.Result.{on_ok_weaker}
use Rattle.notary_book.specs.Books.{calls_in}
use Rattle.file_findings.specs.declared.finding.Finding.{Finding}
use Rattle.book_inspect.proofs.Looking.{entry_all}
use Rattle.book_inspect.proofs.book.add_entry_findings.Goals as goal

pub returns : goal.returns
returns c =
    let e = c.args.entries.now in
    let calls = calls_in c.args.payloads.now in
    record {
      value = on_ok_weaker c.note_ahead.result (λ is known. entry_all e.id c.args.second e c.in_ok-order.order calls known c.in_ok-order.ensures.value
          c.args.findings.now.items c.note_all.new.found.items c.note_foreign.new.findings.items c.note_all-2.new.found.items c.note_ahead.new.findings.items _ c.in_ok-more.more.items c.min-first.result c.latest.result
          (grind (arith, common_steps, c.deref.ensures.value)) (grind (arith, c.len.ensures, c.min-first.ensures)) c.in_ok-note_all.ensures.value c.in_ok-note_foreign.ensures.value
          (c.in_ok-note_all-2.ensures.value ∙ ap (λ (l : List Finding). c.note_foreign.new.findings.items ++ l) c.deref-2.ensures.value) (c.in_ok-more.ensures.value calls known) c.latest.ensures.value is) c.note_ahead.ensures.value;
    }
