use Rattle.std.proofs.Common.{◌≡◌, ◌+◌, ◌++◌, take, List, length, Option, ap, ◌∙◌, arith}
use Rattle.std.proofs.lemmas.List.{length-take}
use Rattle.file_findings.specs.declared.finding.Finding.{Finding}
use Rattle.file_findings.specs.declared.finding.Device.{Device}
use Rattle.file_findings.specs.declared.finding.Device.TheVariants.{Store}
use Rattle.file_findings.specs.Along.{found_along}
use Rattle.file_findings.specs.Placed.{placed}
use Rattle.store_inspect.specs.declared.seen.StoreKnown.{StoreKnown}
use Rattle.book_inspect.specs.declared.book.BookSeen.{BookSeen}
use Rattle.book_inspect.proofs.Comparing.{items_more}
use Rattle.inspect_call.specs.Gathered.{known_of, store_findings, with_known, device_for, book_after}
use Rattle.inspect_call.proofs.Placing.{placed_more}
use Rattle.inspect_call.proofs.gathering.gathered.Goals as goal

pub loop-book-preserved : goal.loop-book-preserved
loop-book-preserved c =
    let id = c.args.id in
    let books = c.args.books.now in
    let known = known_of c.args.store.now in
    let count = length books in
    let i = c.loop-book.book-index in
    let b = c.book-item.result in
    let before = take i books in
    let f = book_after known id count in
    let front = placed Store (store_findings c.args.store.now books) in
    let own = c.in_ok-findings.findings.items in
    let so_far = c.loop-book.invariant in
    let number : c.loop-book.number + 1 ≡ length before + 1 = omega (arith, so_far.number, length-take i books, c.loop-book-test.true) in
    let device : c.device_for.result ≡ device_for count (length before + 1) = c.device_for.ensures.value ∙ ap (device_for count) number in
    let what : own ≡ b.findings.items ++ with_known known id b = c.in_ok-findings.ensures.value ∙ ap (λ (k : Option StoreKnown). b.findings.items ++ with_known k id b) c.known_of.ensures.value in
    let same : placed c.device_for.result own ≡ f before b = ap (λ (d : Device). placed d own) device ∙ ap (placed (device_for count (length before + 1))) what in
    let is : c.place_all.new.found.items ≡ c.loop-book.found.items ++ placed c.device_for.result own = c.in_ok-place_all.ensures.value ∙ ap (λ (l : List Finding). c.loop-book.found.items ++ placed c.device_for.result l) c.deref.ensures.value in
    record {
      number = omega (arith, so_far.number);
      found = placed_more f front c.loop-book.found.items c.place_all.new.found.items (placed c.device_for.result own) before b is same so_far.found
          ∙ ap (λ (l : List BookSeen). front ++ found_along f l) (items_more books i b c.loop-book-test.true c.book-item.is);
    }
