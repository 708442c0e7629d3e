use Rattle.std.proofs.Common.{◌≡◌, ◌-◌, ◌<◌, ℕ, suc, length, drop, sym, subst, arith}
use Rattle.tt_table.specs.Known.{NoneOfKey}
use Rattle.tt_table.proofs.Counting.{none_before, none_end}
use Rattle.tt_table.proofs.known.up_to_last.Goals as goal
use Rattle.tt_table.proofs.known.up_to_last.Goals.{then-changes_to-pending, else-changes_to-pending}

pub loop-last-init : goal.loop-last-init
loop-last-init c =
    let name = c.args.name.now in
    let key = c.args.key.now in
    let ops = c.args.pending.now in
    elim c.if-changes_to-pending.branch [
      | then-changes_to-pending w ↦ record { within = omega (arith, w.last-is, w.if-changes_to-pending); none = subst (λ (n : ℕ). NoneOfKey name key (drop n ops)) (sym w.last-is) c.requires.changes }
      | else-changes_to-pending w ↦ record { within = omega (arith, w.last-is); none = subst (λ (n : ℕ). NoneOfKey name key (drop n ops)) (sym w.last-is) (none_end name key ops) }
    ]

pub loop-last-preserved : goal.loop-last-preserved
loop-last-preserved c =
    let name = c.args.name.now in
    let key = c.args.key.now in
    let ops = c.args.pending.now in
    let behind : c.loop-last.last ≡ suc (c.loop-last.last - 1) = omega (arith, c.loop-last-test.true) in
    let inside : c.loop-last.last - 1 < length c.args.pending.now = omega (arith, c.loop-last-test.true, c.loop-last.invariant.within) in
    record {
      within = omega (arith, c.loop-last.invariant.within);
      none = none_before name key ops (c.loop-last.last - 1) c.index-pending-last.result inside c.index-pending-last.is (sym c.if-not-is_of_key.ensures.value)
          (subst (λ (n : ℕ). NoneOfKey name key (drop n ops)) behind c.loop-last.invariant.none);
    }
