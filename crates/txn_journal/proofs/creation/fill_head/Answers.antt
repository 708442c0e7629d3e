use Rattle.std.proofs.Common.{◌≡◌, drop, ◌∙◌, arith, length-drop}
use Rattle.std.proofs.lemmas.List.{take_all}
use Rattle.txn_journal.proofs.creation.fill_head.Goals as goal

pub returns-clause-told : goal.returns-clause-told
returns-clause-told g c =
    let same : c.copy_from_slice.new.self ≡ drop 1 c.args.head.now = c.copy_from_slice.ensures.after ∙ take_all 63 (drop 1 c.args.head.now) (omega (arith, length-drop 1 c.args.head.now, c.told-head)) in
    rw (← same) c.write_durably.ensures.told
