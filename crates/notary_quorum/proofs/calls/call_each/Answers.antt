use Rattle.std.proofs.Common.{◌≡◌, ◌+◌, true, ◌∷◌, [], length, map, take, set, List, subst, sym, ap, arith, length-append}
use Rattle.notary_quorum.specs.declared.said.Said.{Said}
use Rattle.notary_quorum.specs.Calls.{EachMeets}
use Rattle.notary_quorum.specs.Requests.{call_of}
use Rattle.notary_quorum.specs.Votes.{is_wanting}
use Rattle.notary_quorum.proofs.Stepping.{next_met, rest_after}
use Rattle.notary_quorum.proofs.Wanting.{wanting_more}
use Rattle.notary_quorum.proofs.calls.call_each.Goals as goal

pub loop-member-preserved : goal.loop-member-preserved
loop-member-preserved g c =
    let S = g.N.Notary.state in
    let i = c.loop-member.member-index in
    let before = c.args.members.now.items in
    let items = c.loop-member.member-items in
    record {
      each = subst (λ (l : List Said). EachMeets (call_of c.args.request.now) l (map S (take (i + 1) before)) (map S (take (i + 1) (set items i c.call.new.notary)))) (sym c.push.ensures.value) (next_met S (call_of c.args.request.now) before items c.loop-member.replies i c.call.result c.member-item.result c.call.new.notary (omega (arith, c.loop-member-test.true, ap length c.deref_mut-member-items.ensures.value)) (omega (arith, c.loop-member-test.true, c.loop-member.auto.member-items)) c.loop-member.invariant.each c.loop-member.invariant.rest c.member-item.is c.call.ensures.meets);
      rest = rest_after before items i c.call.new.notary c.loop-member.invariant.rest;
      memory = λ asks. subst (λ (l : List Said). is_wanting l ≡ true → g.N.Notary.asking_takes_memory ≡ true) (sym c.push.ensures.value) (wanting_more g.N.Notary.asking_takes_memory (call_of c.args.request.now) c.loop-member.replies c.call.result c.loop-member.invariant.memory c.call.ensures.memory asks);
      count = omega (arith, ap length c.push.ensures.value, length-append c.loop-member.replies (c.call.result ∷ []), c.loop-member.invariant.count);
    }
