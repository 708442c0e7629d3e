use Rattle.std.proofs.Common.{take}
use Rattle.std.specs.List.{All}
use Rattle.notary_book.specs.Books.{calls_in}
use Rattle.notary_book.specs.Kept.{IsRead, IsSpelled}
use Rattle.notary_book.proofs.replay.read_pages.Given as goal

abbrev pub invariant-loop-payload : goal.invariant-loop-payload
invariant-loop-payload l = IsRead (calls_in (take l.payload-index l.payloads)) l.pages × All IsSpelled (take l.payload-index l.payloads)
