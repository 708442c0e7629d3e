use Rattle.notary_book.proofs.Ends.{holds_read}
use Rattle.notary_book.proofs.opening.read_book.Goals as goal

pub returns-in-Some-clause-value : goal.returns-in-Some-clause-value
returns-in-Some-clause-value g c =
    let o = c.in-Ok.opened in
    let read = c.in_ok-pages-in-Ok in
    holds_read (g.D.Disk.state c.args.disk.now).reads o.head o.payloads c.as_slice.result.now o.journal read.field-0 c.in-Some.pages c.as_slice.ensures.value c.in-Some.is c.in-Ok.ensures.fresh c.in-Ok.ensures.value c.in-Ok.ensures.fit read.ensures.value read.ensures.spelled
