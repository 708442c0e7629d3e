use Rattle.std.proofs.Common.{refl, sym, ◌∙◌}
use Rattle.tt_table.proofs.Law.{stands_empty}
use Rattle.chain_state.proofs.Histories.{policy_none}
use Rattle.store_engine.proofs.contents.Contents.new.Goals as goal

pub returns-clause-tells : goal.returns-clause-tells
returns-clause-tells c = rw c.new.ensures.value (record { count = refl; last = refl; tables = stands_empty; eras = c.in_ok-new.ensures.value ∙ sym (policy_none c.args.header.now) })
