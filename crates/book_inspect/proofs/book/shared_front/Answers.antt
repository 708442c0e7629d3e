use Rattle.std.proofs.Common.{arith}
use Rattle.std.proofs.lemmas.Grind.{common_steps}
use Rattle.book_inspect.proofs.Booking.{front_read}
use Rattle.book_inspect.proofs.book.shared_front.Goals as goal

pub returns-clause-value : goal.returns-clause-value
returns-clause-value g c = front_read (g.D.Disk.state c.args.disk.now).reads c.read_at.new.into _ _ c.in_ok-count.count c.shared.result c.in_ok-count.ensures.value (omega (arith, c.read_at.auto.into)) (grind (arith, common_steps)) c.book_head-head.ensures.value c.shared.ensures.value
