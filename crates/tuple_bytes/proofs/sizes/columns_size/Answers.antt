use Rattle.std.proofs.Common.{arith}
use Rattle.tuple_bytes.specs.Spelling.{spell_column}
use Rattle.tuple_bytes.proofs.Counting.{sized_front}
use Rattle.tuple_bytes.proofs.sizes.columns_size.Goals as goal

pub returns-then-size-gt-MAX_PAYLOAD : goal.returns-then-size-gt-MAX_PAYLOAD
returns-then-size-gt-MAX_PAYLOAD c = record {
  value = λ fits. omega (
    arith,
    fits,
    c.if-size-gt-MAX_PAYLOAD.true,
    c.column_size-size.ensures.value,
    sized_front 1 spell_column c.loop-column.size c.args.columns.now c.loop-column.column-index c.column-item.result c.loop-column-test.true c.column-item.is c.loop-column.invariant.0,
  );
}
