use Rattle.std.proofs.Common.{◌≡◌, ℕ, ◌+◌, ◌++◌, take, List, length, sym, ap, subst, ◌∙◌, arith}
use Rattle.std.proofs.lemmas.List.{length-take}
use Rattle.file_findings.specs.declared.finding.Finding.{Finding}
use Rattle.file_findings.specs.declared.finding.Found.{Found}
use Rattle.file_findings.specs.declared.finding.Device.TheVariants.{BookOf}
use Rattle.file_findings.specs.Along.{found_along}
use Rattle.file_findings.specs.Placed.{placed}
use Rattle.file_findings.proofs.Along.{found_with}
use Rattle.book_inspect.specs.declared.book.BookSeen.{BookSeen}
use Rattle.book_inspect.specs.declared.copies.Lists.{Lists}
use Rattle.book_inspect.specs.Copies.{copy_after, findings_of_copy}
use Rattle.book_inspect.proofs.Comparing.{items_more}
use Rattle.book_inspect.proofs.copies.compare.Goals as goal

pub loop-book-preserved : goal.loop-book-preserved
loop-book-preserved c =
    let id = c.args.id in
    let books = c.args.books.now in
    let i = c.loop-book.book-index in
    let b = c.book-item.result in
    let all = c.in_ok-all.all.items in
    let before = take i books in
    let f = copy_after id all in
    let so_far = c.loop-book.invariant in
    let number : c.loop-book.number + 1 ≡ length before + 1 = omega (arith, so_far.number, length-take i books, c.loop-book-test.true) in
    let more = ap (λ (n : ℕ). placed (BookOf n) c.in_ok-findings.findings.items) number
    ∙ ap (placed (BookOf (length before + 1))) (c.in_ok-findings.ensures.value ∙ ap (λ (l : List Lists). findings_of_copy id l b) c.as_slice.ensures.value) in
    record {
      number = omega (arith, so_far.number);
      found = found_with f before b c.loop-book.found.items c.place_all.new.found.items _ (c.in_ok-place_all.ensures.value ∙ ap (λ (l : List Finding). c.loop-book.found.items ++ placed (BookOf (c.loop-book.number + 1)) l) c.deref.ensures.value) more so_far.found
          ∙ ap (found_along f) (items_more books i b c.loop-book-test.true c.book-item.is);
    }
