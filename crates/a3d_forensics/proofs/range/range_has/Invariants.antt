use Rattle.std.proofs.Common.{◌≡◌, ℕ, ◌-◌, ◌≤◌, true, List, ◌++◌, Some, None, All}
use Rattle.std.specs.List.{list_all, range_with_len}
use Rattle.history_model.specs.History.{History}
use Rattle.digest_model.specs.Layout.{layout, layout_by, policy_of}
use Rattle.audit_model.specs.Ranges.{range_of}
use Rattle.a3d_forensics.specs.Chains.{has_of}
use Rattle.a3d_forensics.specs.Trees.{eras_in}
use Rattle.a3d_forensics.proofs.range.range_has.Given as goal

abbrev pub invariant-loop-number : goal.invariant-loop-number
invariant-loop-number l = record {
  parts : (done : List ℕ)
      × (eras_in l.fn.era (layout_by l.fn.eras) l.fn.tiles ≡ done ++ range_with_len l.number-iterator.start (l.number-iterator.end - l.number-iterator.start))
      × ((h : History) → l.fn.eras ≡ policy_of h → All (λ number. list_all (has_of l.fn.chains (layout h)) (range_of (Some number) (layout h) l.fn.tiles) ≡ true) done);
  small : l.number-iterator.end ≤ 256;
  some : l.fn.era ≡ None → l.fn.tiles ≡ 0 → ⊥;
}
