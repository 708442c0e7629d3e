use Rattle.std.proofs.Common.{sym, ◌∙◌}
use Rattle.store_inspect.proofs.Counting.{damaged}
use Rattle.store_inspect.proofs.front.headless.Goals as goal

pub returns : goal.returns
returns c = record { value = damaged c.args.bytes.now c.min.result c.wrong_byte-byte.result (sym c.is_free.ensures.value ∙ c.if-is_free.false) c.min.ensures c.wrong_byte-byte.ensures.value }
