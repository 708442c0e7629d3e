use Rattle.std.proofs.Common.{arith}
use Rattle.tuple_bytes.specs.Spelling.{spell_value}
use Rattle.tuple_bytes.proofs.Counting.{sized_front}
use Rattle.tuple_bytes.proofs.sizes.row_size.Goals as goal

pub returns-then-size-gt-MAX_PAYLOAD : goal.returns-then-size-gt-MAX_PAYLOAD
returns-then-size-gt-MAX_PAYLOAD c = record {
  value = λ fits. omega (
    arith,
    fits,
    c.if-size-gt-MAX_PAYLOAD.true,
    c.value_size-size.ensures.value,
    sized_front 1 spell_value c.loop-value.size c.args.row.now c.loop-value.value-index c.value-item.result c.loop-value-test.true c.value-item.is c.loop-value.invariant.0,
  );
}
