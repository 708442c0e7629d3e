use Rattle.std.proofs.Common.{◌≡◌, ◌++◌, length, take}
use Rattle.file_findings.specs.declared.finding.Device.TheVariants.{Store}
use Rattle.file_findings.specs.Along.{found_along}
use Rattle.file_findings.specs.Placed.{placed}
use Rattle.inspect_call.specs.Gathered.{known_of, store_findings, book_after}
use Rattle.inspect_call.proofs.gathering.gathered.Given as goal

-- the store's, and those of the books so far
abbrev pub invariant-loop-book : goal.invariant-loop-book
invariant-loop-book l = record {
  number : l.number ≡ l.book-index;
  found : l.found.items ≡ placed Store (store_findings l.store l.books) ++ found_along (book_after (known_of l.store) l.id (length l.books)) (take l.book-index l.books);
}
