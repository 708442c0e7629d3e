use Rattle.std.proofs.Common.{◌≡◌, ◌+◌, ◌-◌, None, Some, List, suc, drop, get_or, true, sym, subst, ap, ◌∙◌, ℕ, arith}
use Rattle.std.specs.Ordering.{is_eq}
use Rattle.tuple_bytes.specs.declared.op.Column.{Column}
use Rattle.tuple_bytes.specs.declared.op.Op.{Op}
use Rattle.tuple_bytes.specs.declared.op.Op.TheVariants.{Create}
use Rattle.history_model.specs.Values.{are_columns, same_name}
use Rattle.history_model.specs.Glance.{after_glances}
use Rattle.tt_table.specs.Known.{NoneOfKey, seen_with}
use Rattle.tt_table.proofs.Counting.{first_made, never_made, none_later}
use Rattle.tt_table.proofs.known.glance_created.Goals as goal

-- none behind it is of the key
pub counting-counting-requires : goal.counting-counting-requires
counting-counting-requires c =
    let name = c.args.name.now in
    let key = c.args.key.now in
    let ops = c.args.pending.now in
    let known = c.args.known.now in
    let left : c.saturating_sub-changes_to.result ≡ c.args.known.now.changes_to - (c.first_create-first.result + 1) = c.saturating_sub-changes_to.ensures in
    record {
      changes = subst (λ (later : List Op). NoneOfKey name key (drop c.saturating_sub-changes_to.result later)) (sym c.split_at.ensures.back)
          (subst (λ (n : ℕ). NoneOfKey name key (drop n (drop (c.first_create-first.result + 1) ops))) (sym left) (none_later name key known.changes_to (c.first_create-first.result + 1) ops c.requires.known.changed));
    }

-- it is created first by this one
pub returns-in-Some-Create : goal.returns-in-Some-Create
returns-in-Some-Create c =
    let name = c.args.name.now in
    let key = c.args.key.now in
    let ops = c.args.pending.now in
    let i = c.first_create-first.result in
    let behind : c.first_create-first.result + 1 ≡ suc c.first_create-first.result = omega arith in
    let may : are_columns c.in-Some-Create.columns ≡ true = ap are_columns (sym c.as_slice.ensures.value) ∙ sym c.may_be_columns.ensures.value ∙ c.if-may_be_columns.true in
    let named : same_name c.in-Some-Create.table c.args.name.now ≡ true = ap is_eq (sym c.cmp.ensures) ∙ sym c.if-is_eq.ensures in
    let is = c.in-Some-Create.ensures.lookup.3 in
    let made : Create c.in-Some-Create.table c.in-Some-Create.columns ≡ get_or c.args.pending.now c.first_create-first.result (Create c.in-Some-Create.table c.in-Some-Create.columns) =
    sym c.in-Some-Create.field-0-is ∙ is.1 (Create c.in-Some-Create.table c.in-Some-Create.columns) in
    let counted : after_glances c.args.name.now c.args.key.now c.counting-counting.result.now (seen_with c.in-Some-Create.columns None)
    ≡ after_glances c.args.name.now c.args.key.now (drop (suc c.first_create-first.result) c.args.pending.now) (seen_with c.in-Some-Create.columns None) =
    subst (λ (columns : List Column). after_glances name key c.counting-counting.result.now (seen_with columns None) ≡ after_glances name key (drop (suc i) ops) (seen_with columns None)) c.as_slice-in-Some-Create.ensures.value
    (c.counting-counting.ensures.value None ∙ ap (λ (later : List Op). after_glances name key later (seen_with c.as_slice-in-Some-Create.result.now None)) (c.split_at.ensures.back ∙ ap (λ (n : ℕ). drop n ops) behind)) in
    record {
      value = c.glance_over.ensures.value
          ∙ ap (after_glances name key c.counting-counting.result.now) (ap Some c.new.ensures.value)
          ∙ ap (λ (columns : List Column). after_glances name key c.counting-counting.result.now (seen_with columns None)) (sym c.in-Some-Create.columns-is)
          ∙ counted
          ∙ first_made name key ops i c.in-Some-Create.table c.in-Some-Create.columns is.0 made named may c.first_create-first.ensures.value;
    }

-- no operation creates it
pub returns-in-None : goal.returns-in-None
returns-in-None c = record { value = sym (never_made c.args.name.now c.args.key.now c.args.pending.now c.first_create-first.result c.in-None.ensures.lookup.3 c.first_create-first.ensures.value) }
