use Rattle.std.proofs.Common.{take, sym, ap, subst, ◌∙◌, arith}
use Rattle.book_inspect.specs.declared.copies.Own.{Own}
use Rattle.book_inspect.specs.Copies.{own_in}
use Rattle.book_inspect.specs.KnownCopies.{KnowsApart, TakesOwn}
use Rattle.book_inspect.proofs.Comparing.{payloads_more, apart_known}
use Rattle.book_inspect.proofs.copies.Compared.of.Goals as goal

pub loop-payload-init : goal.loop-payload-init
loop-payload-init c = record { known = c.new-compared.ensures.value c.args.id c.args.other.now; few = omega (arith, c.new-compared.ensures.none) }

pub loop-payload-preserved : goal.loop-payload-preserved
loop-payload-preserved c =
    let so_far = c.loop-payload.invariant in
    let id = c.args.id in
    let other = c.args.other.now in
    let ps = c.args.payloads.now in
    let i = c.loop-payload.payload-index in
    let old = c.loop-payload.compared in
    let new = c.take.new.self in
    let seen = c.as_slice-in-loop-payload.result.now in
    let own = c.in_ok-own.ensures.value ∙ ap (own_in id) (c.as_slice.ensures.value ∙ sym c.as_slice-in-loop-payload.ensures.value) in
    record {
      known = subst (KnowsApart id other new) (payloads_more ps i c.payload-item.result seen c.loop-payload-test.true c.payload-item.is c.as_slice-in-loop-payload.ensures.value)
          (apart_known id other old new (take i ps) seen so_far.known (subst (λ (o : Own). TakesOwn o other seen old new) own c.in_ok-take.ensures.value));
      few = (let more = c.take.ensures.few in let few = so_far.few in omega (arith, more, few));
    }
