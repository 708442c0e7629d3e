use Rattle.std.proofs.Common.{ap, ◌∙◌, arith}
use Rattle.std.specs.Option.{option_copied}
use Rattle.asof_query.specs.Filters.{filter_place}
use Rattle.sequenced_query.specs.Columns.{columns_in}
use Rattle.sequenced_query.proofs.SelectCut.{select_cut}
use Rattle.sequenced_query.proofs.Exactly.{has_moment, filter_right, answers, select_exact}
use Rattle.sequenced_query.proofs.select.over_select.Goals as goal

pub returns-in-Ok-select_keys-clause-value : goal.returns-in-Ok-select_keys-clause-value
returns-in-Ok-select_keys-clause-value c =
    select_cut c.args.tables.now c.in-Some.ensures.in_order c.args.table.now (option_copied c.args.filter) c.args.from c.args.to c.in-Ok.place
    c.in-Some.shown.columns.now c.in-Some.shown.created c.max.result c.in-Some.shown.keys c.in-Ok-select_keys.pieces c.in-Some.ensures.value
    (c.in-Ok.ensures.value ∙ ap (λ cs. filter_place cs (option_copied c.args.filter)) c.as_slice.ensures.value) c.max.ensures c.in-Ok-select_keys.ensures.value

pub returns-in-Ok-select_keys-clause-answer : goal.returns-in-Ok-select_keys-clause-answer
returns-in-Ok-select_keys-clause-answer c =
    answers _ _ _
    (has_moment c.args.from c.args.to _ (omega arith)
    (filter_right (option_copied c.args.filter) c.in-Some.shown.columns.now (columns_in c.args.tables.now c.args.table.now) c.in-Ok.place c.in-Some.ensures.value.columns
    (c.in-Ok.ensures.value ∙ ap (λ cs. filter_place cs (option_copied c.args.filter)) c.as_slice.ensures.value)))
    (select_exact c.args.tables.now c.in-Some.ensures.in_order c.args.table.now (option_copied c.args.filter) c.args.from c.args.to _ (returns-in-Ok-select_keys-clause-value c))
