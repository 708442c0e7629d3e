use Rattle.std.proofs.Common.{◌≡◌, true, length, map, take, drop}
use Rattle.notary_quorum.specs.Calls.{WantsFairly, EachMeets}
use Rattle.notary_quorum.specs.Requests.{call_of}
use Rattle.notary_quorum.specs.Votes.{is_wanting}
use Rattle.notary_quorum.proofs.calls.call_each.Given as goal

abbrev pub invariant-loop-member : goal.invariant-loop-member
invariant-loop-member g l = record {
  each : EachMeets (call_of l.request) l.replies (map g.N.Notary.state (take l.member-index l.fn.members.items)) (map g.N.Notary.state (take l.member-index l.member-items));
  rest : drop l.member-index l.member-items ≡ drop l.member-index l.fn.members.items;
  count : length l.replies ≡ l.member-index;
  memory : WantsFairly g.N.Notary.asking_takes_memory (call_of l.request) (is_wanting l.replies ≡ true);
}
