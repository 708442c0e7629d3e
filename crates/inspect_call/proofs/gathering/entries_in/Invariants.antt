use Rattle.std.proofs.Common.{◌≡◌, take}
use Rattle.inspect_call.specs.Gathered.{entries_in}
use Rattle.inspect_call.proofs.gathering.entries_in.Given as goal

-- of the books so far
abbrev pub invariant-loop-book : goal.invariant-loop-book
invariant-loop-book l = l.count ≡ entries_in (take l.book-index l.books)
