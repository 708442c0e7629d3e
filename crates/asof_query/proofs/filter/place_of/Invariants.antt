use Rattle.std.proofs.Common.{◌≡◌, drop}
use Rattle.asof_query.specs.Filters.{filter_place_from}
use Rattle.asof_query.proofs.filter.place_of.Given as goal

-- the answer is that for what is left
abbrev pub invariant-loop-i : goal.invariant-loop-i
invariant-loop-i l = filter_place_from l.i (drop l.i l.columns) l.filter ≡ filter_place_from 0 l.columns l.filter
