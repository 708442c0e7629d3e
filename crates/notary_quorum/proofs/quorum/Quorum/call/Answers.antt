use Rattle.std.proofs.Common.{◌≡◌, true, List, length, map, Vec, Global, sym, ap, subst, ◌∙◌, arith}
use Rattle.notary_quorum.specs.Requests.{call_of}
use Rattle.notary_quorum.specs.declared.said.Said.{Said}
use Rattle.notary_quorum.specs.Votes.{is_wanting}
use Rattle.notary_quorum.proofs.Calling.{still_equal, said_as_many, left_as_many, tally_long, call_meets, call_calls}
use Rattle.notary_quorum.proofs.Wanting.{wanted}
use Rattle.notary_quorum.proofs.quorum.Quorum.call.Goals as goal

pub invariant_of-self : goal.invariant_of-self
invariant_of-self g c =
    let S = g.N.Notary.state in
    let each = c.call_each-replies.ensures.each in
    let as_many = left_as_many S (call_of c.args.request.now) c.call_each-replies.result c.args.self.now.panel.members.items c.call_each-replies.new.members.items each in
    record {
      some = omega (arith, as_many, c.args.self.now.some);
      few = omega (arith, as_many, c.args.self.now.few);
      alike = still_equal (call_of c.args.request.now) c.call_each-replies.result (map S c.args.self.now.panel.members.items) (map S c.call_each-replies.new.members.items) each c.args.self.now.alike;
      places = ap (λ t. length t.in_step) c.take.ensures.value ∙ tally_long c.may_change.result c.as_slice.result.now c.args.self.now.panel.tally ∙ c.args.self.now.places;
    }

pub returns-clause-meets : goal.returns-clause-meets
returns-clause-meets g c =
    let S = g.N.Notary.state in
    let f = λ (m : Vec g.row.N.Denot Global). map S m.items in
    let each = c.call_each-replies.ensures.each in
    let said = said_as_many S (call_of c.args.request.now) c.call_each-replies.result c.args.self.now.panel.members.items c.call_each-replies.new.members.items each in
    call_meets f (call_of c.args.request.now) c.args.self.now.panel.past.items c.and-panel.result.items c.args.self.now.panel.tally c.take.new.self c.take.result c.call_each-replies.result c.as_slice.result.now c.args.self.now.panel.members c.call_each-replies.new.members c.may_change.result c.requires.named (omega (arith, said, c.args.self.now.few, c.args.self.now.places)) c.args.self.now.alike each c.and-panel.ensures c.as_slice.ensures.value c.may_change.ensures.value c.take.ensures.value c.take.ensures.answer c.args.self.now.panel.asked (omega (arith, said, c.args.self.now.some))

pub returns-clause-calls : goal.returns-clause-calls
returns-clause-calls g c =
    let S = g.N.Notary.state in
    let f = λ (m : Vec g.row.N.Denot Global). map S m.items in
    let each = c.call_each-replies.ensures.each in
    let said = said_as_many S (call_of c.args.request.now) c.call_each-replies.result c.args.self.now.panel.members.items c.call_each-replies.new.members.items each in
    call_calls f (call_of c.args.request.now) c.args.self.now.panel.past.items c.and-panel.result.items c.args.self.now.panel.tally c.take.new.self c.take.result c.call_each-replies.result c.as_slice.result.now c.args.self.now.panel.members c.call_each-replies.new.members c.may_change.result c.requires.named (omega (arith, said, c.args.self.now.few, c.args.self.now.places)) c.args.self.now.alike each c.and-panel.ensures c.as_slice.ensures.value c.may_change.ensures.value c.take.ensures.value c.take.ensures.answer

pub returns-clause-memory : goal.returns-clause-memory
returns-clause-memory g c asks is =
    c.call_each-replies.ensures.memory asks (subst (λ (l : List Said). is_wanting l ≡ true) c.as_slice.ensures.value (wanted c.as_slice.result.now (sym c.take.ensures.answer ∙ is)))
