use Rattle.std.proofs.Common.{◌≡◌, take}
use Rattle.file_findings.specs.Along.{found_along}
use Rattle.book_inspect.specs.Copies.{copy_after}
use Rattle.book_inspect.proofs.copies.compare.Given as goal

-- those of the books so far
abbrev pub invariant-loop-book : goal.invariant-loop-book
invariant-loop-book l = record {
  number : l.number ≡ l.book-index;
  found : l.found.items ≡ found_along (copy_after l.id l.all.items) (take l.book-index l.books);
}
