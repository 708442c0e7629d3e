use Rattle.std.proofs.Common.{List, max, ap, ◌∙◌, arith}
use Rattle.tuple_bytes.specs.declared.op.Column.{Column}
use Rattle.sequenced_query.specs.Plain.{column_named}
use Rattle.sequenced_query.specs.Columns.{columns_in}
use Rattle.sequenced_query.specs.Refusals.{joining_places}
use Rattle.sequenced_query.proofs.JoinCut.{join_cut}
use Rattle.sequenced_query.proofs.Exactly.{has_moment, columns_right, answers, join_exact}
use Rattle.sequenced_query.proofs.join.over_join.Goals as goal

pub returns-in-Ok-join_keys-clause-value : goal.returns-in-Ok-join_keys-clause-value
returns-in-Ok-join_keys-clause-value c =
    join_cut c.args.tables.now c.in-Some-Some.ensures.in_order c.args.left.now c.args.left_column.now c.args.right.now c.args.right_column.now c.args.from c.args.to c.in-Ok.places
    c.in-Some-Some.left.columns.now c.in-Some-Some.right.columns.now c.in-Some-Some.left.created c.in-Some-Some.right.created c.max-2.result c.in-Some-Some.left.keys c.in-Some-Some.right.keys c.in-Ok-join_keys.pieces
    c.in-Some-Some.ensures.value c.in-Some-Some.ensures'.value
    (c.in-Ok.ensures.value
    ∙ ap (λ (cs : List Column). joining_places (column_named c.args.left_column.now cs) (column_named c.args.right_column.now c.as_slice-rights.result.now)) c.as_slice-lefts.ensures.value
    ∙ ap (λ (cs : List Column). joining_places (column_named c.args.left_column.now c.in-Some-Some.left.columns.now) (column_named c.args.right_column.now cs)) c.as_slice-rights.ensures.value)
    (c.max-2.ensures ∙ ap (λ x. max x c.in-Some-Some.right.created) c.max.ensures)
    c.in-Ok-join_keys.ensures.value

pub returns-in-Ok-join_keys-clause-answer : goal.returns-in-Ok-join_keys-clause-answer
returns-in-Ok-join_keys-clause-answer c =
    answers _ _ _
    (has_moment c.args.from c.args.to _ (omega arith)
    (columns_right c.args.left_column.now c.args.right_column.now c.in-Some-Some.left.columns.now c.in-Some-Some.right.columns.now
    (columns_in c.args.tables.now c.args.left.now) (columns_in c.args.tables.now c.args.right.now) c.in-Ok.places
    c.in-Some-Some.ensures.value.columns c.in-Some-Some.ensures'.value.columns
    (c.in-Ok.ensures.value
    ∙ ap (λ (cs : List Column). joining_places (column_named c.args.left_column.now cs) (column_named c.args.right_column.now c.as_slice-rights.result.now)) c.as_slice-lefts.ensures.value
    ∙ ap (λ (cs : List Column). joining_places (column_named c.args.left_column.now c.in-Some-Some.left.columns.now) (column_named c.args.right_column.now cs)) c.as_slice-rights.ensures.value)))
    (join_exact c.args.tables.now c.in-Some-Some.ensures.in_order c.args.left.now c.args.left_column.now c.args.right.now c.args.right_column.now c.args.from c.args.to _ (returns-in-Ok-join_keys-clause-value c))
