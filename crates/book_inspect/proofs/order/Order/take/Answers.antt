use Rattle.std.proofs.lemmas.Result.{on_ok_weaker}
use Rattle.notary_link.specs.Notary.{batch_of}
use Rattle.book_inspect.proofs.Turning.{turn_known, none_known}
use Rattle.book_inspect.proofs.order.Order.take.Goals as goal

pub returns-in-File-clause-value : goal.returns-in-File-clause-value
returns-in-File-clause-value c =
    let b = c.in-File in
    on_ok_weaker c.take_batch.result (λ t calls known. rw c.in-File.is (turn_known c.args.self.now c.take_batch.new.self calls known b.id b.index (batch_of b.moment b.seals) t)) c.take_batch.ensures.value

pub returns-in-Note-clause-value : goal.returns-in-Note-clause-value
returns-in-Note-clause-value c = λ calls known. rw c.in-Note.is (none_known c.args.self.now c.take_mark.new.self calls known c.in-Note.id c.in-Note.mark c.take_mark.ensures.value)
