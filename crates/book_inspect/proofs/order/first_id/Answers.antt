use Rattle.book_inspect.proofs.order.first_id.Goals as goal

pub returns : goal.returns
returns c = record { value = c.in_ok-order.ensures.value.first }
