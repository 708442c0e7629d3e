use Rattle.std.proofs.Common.{refl}
use Rattle.sequenced_query.proofs.Joined.{first_cut, other_cut, second_told, first_told}
use Rattle.sequenced_query.proofs.lending.LentRow.is_same.Goals as goal

pub returns-then-are_same : goal.returns-then-are_same
returns-then-are_same c = record {
  value = second_told _ _ _ c.if-are_same.true
      (first_cut c.args.self.now c.args.other.now c.self.inside.left.now c.split_at.result.0.now c.split_at.result.1.now c.self.inside.right.now c.other.inside.left.now c.other.inside.right.now
      c.self.view_is c.other.view_is c.split_at.ensures.by_index.0 c.split_at.ensures.front_len _ _ c.are_same.ensures.value c.is_row_of.ensures.value);
}

pub returns-else-are_same : goal.returns-else-are_same
returns-else-are_same c = record {
  value = first_told _ _ _ c.if-are_same.false
      (first_cut c.args.self.now c.args.other.now c.self.inside.left.now c.split_at.result.0.now c.split_at.result.1.now c.self.inside.right.now c.other.inside.left.now c.other.inside.right.now
      c.self.view_is c.other.view_is c.split_at.ensures.by_index.0 c.split_at.ensures.front_len _ _ c.are_same.ensures.value refl);
}

pub returns-then-are_same-2 : goal.returns-then-are_same-2
returns-then-are_same-2 c = record {
  value = second_told _ _ _ c.if-are_same-2.true
      (other_cut c.args.self.now c.args.other.now c.self.inside.left.now c.split_at-else-other-self.result.0.now c.split_at-else-other-self.result.1.now c.self.inside.right.now c.other.inside.left.now c.other.inside.right.now
      c.self.view_is c.other.view_is c.split_at-else-other-self.ensures.by_index.0 c.split_at-else-other-self.ensures.front_len _ _ c.are_same-else-other-self.ensures.value c.is_row_of-then-are_same-2.ensures.value);
}

pub returns-else-are_same-2 : goal.returns-else-are_same-2
returns-else-are_same-2 c = record {
  value = first_told _ _ _ c.if-are_same-2.false
      (other_cut c.args.self.now c.args.other.now c.self.inside.left.now c.split_at-else-other-self.result.0.now c.split_at-else-other-self.result.1.now c.self.inside.right.now c.other.inside.left.now c.other.inside.right.now
      c.self.view_is c.other.view_is c.split_at-else-other-self.ensures.by_index.0 c.split_at-else-other-self.ensures.front_len _ _ c.are_same-else-other-self.ensures.value refl);
}
