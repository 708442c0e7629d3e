use Rattle.std.proofs.Common.{Some, refl, sym, ap, ◌∙◌, arith}
use Rattle.tuple_bytes.specs.declared.item.Item.{Item}
use Rattle.tuple_bytes.specs.declared.item.Item.TheVariants as items
use Rattle.store_engine.proofs.Telling.{gathered_txn, gathered_other, gathered_no_more, turned_by}
use Rattle.store_engine.proofs.replay.Gathered.add.Goals as goal

pub returns-in_ok-push-in-Some-Txn : goal.returns-in_ok-push-in-Some-Txn
returns-in_ok-push-in-Some-Txn c =
    let is = sym c.in_ok-txn.ensures.value ∙ c.in-Some-Txn.is ∙ ap (λ (i : Item). Some i) c.in-Some-Txn.field-0-is in
    record { value = λ header payloads so_far. gathered_txn header payloads c.args.payload.now c.in-Some-Txn.txn c.args.self.now (record { txns = c.push.new.self; last = c.max-self.result; eras = c.args.self.now.eras }) is c.in_ok-push-in-Some-Txn.ensures.items c.max-self.ensures refl so_far }

pub returns-in-Some-Frontier : goal.returns-in-Some-Frontier
returns-in-Some-Frontier c =
    let is = sym c.in_ok-txn.ensures.value ∙ c.in-Some-Frontier.is ∙ ap (λ (i : Item). Some i) c.in-Some-Frontier.field-0-is in
    record { value = λ header payloads so_far. gathered_other header payloads c.args.payload.now (items.Frontier c.in-Some-Frontier.moment) c.args.self.now (record { txns = c.args.self.now.txns; last = c.max-self-in-Some-Frontier.result; eras = c.args.self.now.eras }) refl is refl c.max-self-in-Some-Frontier.ensures refl so_far }

pub returns-in-Some-Policy : goal.returns-in-Some-Policy
returns-in-Some-Policy c =
    let is = sym c.in_ok-txn.ensures.value ∙ c.in-Some-Policy.is ∙ ap (λ (i : Item). Some i) c.in-Some-Policy.field-0-is in
    let payload = c.args.payload.now in
    let old = c.args.self.now in
    record { value = λ header payloads so_far. gathered_other header payloads payload _ old (record { txns = old.txns; last = old.last; eras = c.offer_payload.new.self }) refl is refl (omega arith) (c.offer_payload.ensures.value ∙ turned_by payload _ old.eras is) so_far }

pub returns-in-None : goal.returns-in-None
returns-in-None c =
    record { value = λ header payloads so_far. gathered_no_more header payloads c.args.payload.now c.args.self.now (sym c.in_ok-txn.ensures.value ∙ c.in-None.is) so_far }
