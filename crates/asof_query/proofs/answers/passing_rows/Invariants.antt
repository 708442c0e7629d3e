use Rattle.std.proofs.Common.{◌≡◌, ◌++◌}
use Rattle.std.specs.List.{AllByRecursion}
use Rattle.std.specs.Option.{option_copied}
use Rattle.tt_table.specs.Shown.{rows_at}
use Rattle.tt_table.specs.Versions.{AreVersions}
use Rattle.asof_query.specs.Filters.{chosen}
use Rattle.asof_query.proofs.answers.passing_rows.Given as goal

-- the rows so far, with those of the keys that are left, are all rows
abbrev pub invariant-loop-key : goal.invariant-loop-key
invariant-loop-key l = record {
  versions : AllByRecursion (λ k. AreVersions k.1) l._key-iterator;
  reached : l.rows ++ chosen l.place (option_copied l.filter) (rows_at l.moment l._key-iterator) ≡ chosen l.place (option_copied l.filter) (rows_at l.moment l.fn.keys);
}
