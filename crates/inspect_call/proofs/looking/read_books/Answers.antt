use Rattle.std.proofs.Common.{rules, ◌≡◌, ◌<◌, ◌+◌, get_or, length, Err, ap, arith}
use Rattle.inspect_call.specs.declared.looking.LookFail.TheVariants.{NotaryFault}
use Rattle.inspect_call.proofs.Failing.{still_fails}
use Rattle.inspect_call.specs.Looked.{Same, ReadsBook}
use Rattle.inspect_call.proofs.Still.{same_self}
use Rattle.inspect_call.proofs.Reading.{still, gave_more, kept_more, kept_all, rest_after, rose_at}
use Rattle.inspect_call.proofs.looking.read_books.Goals as goal

pub returns-in_err-add_one-clause-same : goal.returns-in_err-add_one-clause-same
returns-in_err-add_one-clause-same g c =
    let before = c.args.books.now in
    let items = c.loop-book.books in
    let i = c.loop-book.book-index in
    let old = get_or items i c.book-item.result in
    let new = c.add_one.new.book in
    let so_far = c.loop-book.invariant in
    let P = λ (a b : g.row.B.Denot). Same (g.B.Disk.state a) (g.B.Disk.state b) in
    let less : i < length items = omega (arith, c.loop-book-test.true, c.loop-book.auto.books) in
    let few : i < length before = omega (arith, c.loop-book-test.true, c.loop-book.auto.books) in
    let own : old ≡ get_or before i old = still before items i old so_far.rest (ap (λ (d : g.row.B.Denot). get_or items i d) c.book-item.is) in
    kept_all P (λ n. same_self (g.B.Disk.state n)) (i + 1) before _ (kept_more P before items i old new few less own so_far.same (c.add_one.ensures.same, c.add_one.ensures.frame)) (rest_after before items i new so_far.rest)

pub returns-in_err-add_one-clause-cause : goal.returns-in_err-add_one-clause-cause
returns-in_err-add_one-clause-cause g c = λ fault.
    let before = c.args.books.now in
    let items = c.loop-book.books in
    let i = c.loop-book.book-index in
    let old = get_or items i c.book-item.result in
    let so_far = c.loop-book.invariant in
    let few : i < length before = omega (arith, c.loop-book-test.true, c.loop-book.auto.books) in
    let own : old ≡ get_or before i old = still before items i old so_far.rest (ap (λ (d : g.row.B.Denot). get_or items i d) c.book-item.is) in
    let same : c.from_residual.result ≡ Err c.in_err-add_one.field-0.0 = search rules in
    rose_at (λ n. (g.B.Disk.state n).faults) before items i old c.add_one.new.book few (omega (arith, c.loop-book.auto.books)) own (c.in_err-add_one.ensures.cause (still_fails c.in_err-add_one.field-0.0 NotaryFault (rw same at fault)))

pub loop-book-preserved : goal.loop-book-preserved
loop-book-preserved g c =
    let before = c.args.books.now in
    let items = c.loop-book.books in
    let i = c.loop-book.book-index in
    let old = get_or items i c.book-item.result in
    let new = c.add_one.new.book in
    let so_far = c.loop-book.invariant in
    let P = λ (a b : g.row.B.Denot). Same (g.B.Disk.state a) (g.B.Disk.state b) in
    let less : i < length items = omega (arith, c.loop-book-test.true, c.loop-book.auto.books) in
    let few : i < length before = omega (arith, c.loop-book-test.true, c.loop-book.auto.books) in
    let own : old ≡ get_or before i old = still before items i old so_far.rest (ap (λ (d : g.row.B.Denot). get_or items i d) c.book-item.is) in
    let added = c.in_ok-add_one.ensures.reads in
    record {
      reads = rw added.added (gave_more (λ n. (g.B.Disk.state n).reads) ReadsBook before i old c.loop-book.reads.items added.read few own so_far.reads added.is);
      same = kept_more P before items i old new few less own so_far.same (c.add_one.ensures.same, c.add_one.ensures.frame);
      rest = rest_after before items i new so_far.rest;
    }
