use Rattle.std.proofs.Common.{◌≡◌, take}
use Rattle.std.specs.List.{filter_map}
use Rattle.book_inspect.specs.Copies.{lists_seen}
use Rattle.book_inspect.proofs.copies.all_lists.Given as goal

-- those of the books so far
abbrev pub invariant-loop-book : goal.invariant-loop-book
invariant-loop-book l = l.all.items ≡ filter_map (lists_seen l.id) (take l.book-index l.books)
