use Rattle.std.specs.List.{All}
use Rattle.history_model.specs.Stored.{IsStorable}
use Rattle.engine_examples.proofs.plans.read_with.Given as goal

abbrev pub invariant-loop-tile : goal.invariant-loop-tile
invariant-loop-tile l = All IsStorable l.items
