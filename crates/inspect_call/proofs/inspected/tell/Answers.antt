use Rattle.std.proofs.Common.{◌≡◌, List, ℕ, inl, ap, subst, ◌∙◌}
use Rattle.file_findings.specs.Lines.{report_text}
use Rattle.inspect_call.specs.Told.{by_found, text_of}
use Rattle.inspect_call.specs.declared.inspected.Inspected.{Inspected}
use Rattle.inspect_call.specs.Called.{Says}
use Rattle.inspect_call.proofs.inspected.tell.Goals as goal

pub returns-in-Ok-clause-tells : goal.returns-in-Ok-clause-tells
returns-in-Ok-clause-tells g c =
    let l = c.args.looked.now in
    let old = g.O.Sink.state c.args.out.now in
    let new = g.O.Sink.state c.say.new.out in
    let text : c.deref-in-Ok.result.now ≡ text_of l = c.deref-in-Ok.ensures.value ∙ c.in-Ok.ensures.value ∙ ap (report_text l.items l.entries) c.deref.ensures.value in
    let end : c.by_found.result ≡ by_found l.found.items = c.by_found.ensures.value ∙ ap by_found c.deref-in-Ok-2.ensures.value in
    inl (subst (λ (e : Inspected). Says e (text_of l) c.say.result old new) end (subst (λ (t : List ℕ). Says c.by_found.result t c.say.result old new) text c.say.ensures.says))
