use Rattle.std.proofs.Common.{List, length, subst}
use Rattle.std.proofs.lemmas.Result.{on_ok_weaker}
use Rattle.sequenced_query.specs.declared.blocks.Entry.{Entry}
use Rattle.sequenced_query.specs.Wanted.{HasMeetings, WantsBetween}
use Rattle.sequenced_query.proofs.Blocked.{wants_each}
use Rattle.sequenced_query.proofs.blocks.Blocks.want.Goals as goal

pub returns-clause-added : goal.returns-clause-added
returns-clause-added c =
    let wanted = c.want_entries.new.wanted.keys in
    on_ok_weaker c.want_entries.result (λ added. subst (HasMeetings c.args.left c.args.part wanted) c.self.view_is
    (wants_each c.args.left c.args.part wanted c.self.inside.entries.items (subst (λ (es : List Entry). WantsBetween c.args.left c.args.part wanted es 0 (length es)) c.deref.ensures.value added))) c.want_entries.ensures.added
