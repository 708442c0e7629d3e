use Rattle.tt_table.proofs.known.Known.of_new.Goals as goal

pub returns-then-is_new : goal.returns-then-is_new
returns-then-is_new c = record { value = λ name key apart. record { created = tt; changed = apart c.if-is_new.true } }

pub returns-else-is_new : goal.returns-else-is_new
returns-else-is_new c = record { value = λ name key apart. c.nothing.ensures.value name key }
