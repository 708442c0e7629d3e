use Rattle.std.proofs.Common.{◌≡◌, take}
use Rattle.inspect_call.specs.Gathered.{most_sealed}
use Rattle.inspect_call.proofs.gathering.most_sealed.Given as goal

-- of the books so far
abbrev pub invariant-loop-book : goal.invariant-loop-book
invariant-loop-book l = l.most ≡ most_sealed (take l.book-index l.books)
