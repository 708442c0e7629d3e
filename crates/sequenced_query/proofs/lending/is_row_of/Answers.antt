use Rattle.std.proofs.Common.{sym, refl}
use Rattle.sequenced_query.proofs.Joined.{too_short, row_cut, second_told, first_told}
use Rattle.sequenced_query.proofs.lending.is_row_of.Goals as goal

pub returns-then-row-left : goal.returns-then-row-left
returns-then-row-left c = record { value = sym (too_short c.args.row.now c.args.left.now c.args.right.now c.if-row-left.true) }

pub returns-then-are_same : goal.returns-then-are_same
returns-then-are_same c = record {
  value = second_told _ _ _ c.if-are_same.true
      (row_cut c.args.row.now c.split_at.result.0.now c.split_at.result.1.now c.args.left.now c.args.right.now c.split_at.ensures.by_index.0 c.split_at.ensures.front_len _ _ c.are_same.ensures.value c.are_same-then-are_same.ensures.value);
}

pub returns-else-are_same : goal.returns-else-are_same
returns-else-are_same c = record {
  value = first_told _ _ _ c.if-are_same.false
      (row_cut c.args.row.now c.split_at.result.0.now c.split_at.result.1.now c.args.left.now c.args.right.now c.split_at.ensures.by_index.0 c.split_at.ensures.front_len _ _ c.are_same.ensures.value refl);
}
