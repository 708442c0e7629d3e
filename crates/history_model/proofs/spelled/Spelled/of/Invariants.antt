use Rattle.std.proofs.Common.{◌≡◌, take}
use Rattle.history_model.proofs.spelled.Spelled.of.Given as goal

abbrev pub invariant-loop-item : goal.invariant-loop-item
invariant-loop-item l = l.spelled ≡ take l.item-index l.items
