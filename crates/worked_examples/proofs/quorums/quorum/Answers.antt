use Rattle.std.proofs.Common.{refl}
use Rattle.disk_model.specs.Memory.{state_of}
use Rattle.notary_book.specs.Books.{book_limits}
use Rattle.notary_book.specs.State.{book_state}
use Rattle.notary_quorum.proofs.Calling.{equal_limits}
use Rattle.worked_examples.proofs.quorums.quorum.Goals as goal

pub new-requires-2-clause-alike : goal.new-requires-2-clause-alike
new-requires-2-clause-alike c = equal_limits (λ b. book_state (state_of b.disk) b.asked b.unreadable) book_limits c.books.members.items (λ k d less. refl)
