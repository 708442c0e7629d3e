use Rattle.std.proofs.Common.{refl, ◌∙◌, arith}
use Rattle.tuple_bytes.specs.declared.item.Item.TheVariants as items
use Rattle.store_engine.proofs.Telling.{tells_other, turned_by}
use Rattle.store_engine.proofs.contents.Contents.note.Goals as goal

pub returns-in-Frontier-clause-tells : goal.returns-in-Frontier-clause-tells
returns-in-Frontier-clause-tells c = rw c.in-Frontier.is (tells_other c.args.self.now (items.Frontier c.in-Frontier.moment) refl c.max-self.result c.args.self.now.eras c.max-self.ensures refl)

pub returns-in-Policy-clause-tells : goal.returns-in-Policy-clause-tells
returns-in-Policy-clause-tells c =
    let spelled = c.requires.spelled in
    rw c.in-Policy.is (tells_other c.args.self.now (items.Policy c.in-Policy.tile c.in-Policy.granule c.in-Policy.k c.in-Policy.algs) refl c.args.self.now.last c.offer_payload.new.self (omega arith) (c.offer_payload.ensures.value ∙ turned_by c.args.payload.now _ c.args.self.now.eras (rw c.in-Policy.is at c.requires.spelled)))
