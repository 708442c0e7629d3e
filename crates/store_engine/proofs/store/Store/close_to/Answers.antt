use Rattle.std.proofs.Common.{◌≤◌, ◌*◌, sym, subst}
use Rattle.store_engine.specs.Opened.{Opened}
use Rattle.store_engine.proofs.Counting.{closed_reached}
use Rattle.store_engine.proofs.store.Store.close_to.Goals as goal

pub invariant_of-self-inside : goal.invariant_of-self-inside
invariant_of-self-inside c =
    let s = c.self.inside in
    let reached = subst (λ (o : Opened). c.args.granule * o.header.width ≤ o.last) (sym c.self.view_is) c.requires.reached in
    (s.header_fits, (s.few, (s.in_time, (closed_reached s.header s.contents.eras s.contents.last c.args.granule s.chains c.close_chained.new.chains c.close_chained.result c.close_chained.ensures.closed c.close_chained.ensures.kept reached s.chained, (s.closed_too, tt)))))
