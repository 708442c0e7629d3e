use Rattle.std.proofs.Common.{◌≡◌, ◌-◌, suc, drop, sym, subst, ap, ◌∙◌, ℕ, arith}
use Rattle.history_model.specs.Glance.{after_glances}
use Rattle.tt_table.specs.Known.{NoneOfKey, seen_with}
use Rattle.tt_table.proofs.Counting.{counts_last, counts_none}
use Rattle.tt_table.proofs.known.counting.Goals as goal

-- none is of the key
pub returns-then-last-eq0 : goal.returns-then-last-eq0
returns-then-last-eq0 c =
    let none_to : c.up_to_last-last.result ≡ 0 = omega (arith, c.if-last-eq0.true) in
    let none : NoneOfKey c.args.name.now c.args.key.now c.args.pending.now = subst (λ (n : ℕ). NoneOfKey c.args.name.now c.args.key.now (drop n c.args.pending.now)) none_to c.up_to_last-last.ensures.value in
    record { value = counts_none c.args.columns.now c.args.name.now c.args.key.now c.args.pending.now none }

-- the last one settles
pub returns-in-Some : goal.returns-in-Some
returns-in-Some c =
    let name = c.args.name.now in
    let key = c.args.key.now in
    let ops = c.args.pending.now in
    let behind : c.up_to_last-last.result ≡ suc (c.up_to_last-last.result - 1) = omega (arith, c.if-last-eq0.false) in
    let none : NoneOfKey c.args.name.now c.args.key.now (drop (suc (c.up_to_last-last.result - 1)) c.args.pending.now) = subst (λ (n : ℕ). NoneOfKey c.args.name.now c.args.key.now (drop n c.args.pending.now)) behind c.up_to_last-last.ensures.value in
    record {
      value = λ row. ap (λ l. after_glances name key l (seen_with c.args.columns.now row)) c.from_ref.ensures.value
          ∙ counts_last c.args.columns.now name key ops (c.up_to_last-last.result - 1) c.in-Some.op.now c.in-Some.ensures.lookup.3.0 (c.in-Some.ensures.lookup.3.1 c.in-Some.op.now) none (sym c.settles.ensures.value ∙ c.if-settles.true) row;
    }
