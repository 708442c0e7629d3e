use Rattle.std.proofs.Common.{refl}
use Rattle.notary_book.specs.Books.{book_limits}
use Rattle.notary_book.specs.State.{book_state}
use Rattle.notary_quorum.proofs.Calling.{equal_limits}
use Rattle.call_devices.proofs.members.quorum_of.Goals as goal

pub new-requires-2-clause-alike : goal.new-requires-2-clause-alike
new-requires-2-clause-alike g c = equal_limits (λ m. book_state (g.D.Disk.state m.below.disk) m.below.asked m.below.unreadable) book_limits c.disks.members.items (λ k d less. refl)
