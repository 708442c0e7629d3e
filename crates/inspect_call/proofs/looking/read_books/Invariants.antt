use Rattle.std.proofs.Common.{◌≡◌, map, take, drop}
use Rattle.std.specs.List.{AllZip}
use Rattle.inspect_call.specs.Looked.{Same, ReadsBook}
use Rattle.inspect_call.proofs.looking.read_books.Given as goal

-- those so far were read and are as they were, and the others were not touched
abbrev pub invariant-loop-book : goal.invariant-loop-book
invariant-loop-book g l = record {
  reads : AllZip ReadsBook (map (λ b. (g.B.Disk.state b).reads) (take l.book-index l.fn.books)) l.reads.items;
  same : AllZip (λ old new. Same (g.B.Disk.state old) (g.B.Disk.state new)) (take l.book-index l.fn.books) (take l.book-index l.books);
  rest : drop l.book-index l.books ≡ drop l.book-index l.fn.books;
}
