use Rattle.std.proofs.Common.{List, sym, subst}
use Rattle.std.proofs.lemmas.Result.{on_ok_weaker}
use Rattle.notary_link.specs.Notary.{Call}
use Rattle.notary_book.specs.Entries.{call_in}
use Rattle.book_inspect.specs.KnownEntries.{KnowsEntries}
use Rattle.book_inspect.proofs.Booking.{with_call, with_none}
use Rattle.book_inspect.proofs.entries.Entries.take_payload.Goals as goal

pub returns-in-Some-clause-value : goal.returns-in-Some-clause-value
returns-in-Some-clause-value c =
    let spelled = rw c.in-Some.is at c.in_ok-entry.ensures.value in
    on_ok_weaker c.take.result (λ takes calls known. subst (λ (cs : List Call). KnowsEntries c.args.self.now.id c.take.new.self cs) (sym (with_call calls c.args.payload.now (call_in c.in-Some.entry) spelled)) (takes calls known)) c.take.ensures.value

pub returns-in-None-clause-value : goal.returns-in-None-clause-value
returns-in-None-clause-value c =
    let spelled = rw c.in-None.is at c.in_ok-entry.ensures.value in
    λ calls known. subst (λ (cs : List Call). KnowsEntries c.args.self.now.id c.args.self.now cs) (sym (with_none calls c.args.payload.now spelled)) known
