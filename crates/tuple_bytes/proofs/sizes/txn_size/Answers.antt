use Rattle.std.proofs.Common.{◌≡◌, ◌+◌, ◌≤◌, List, length, None, ap, arith, rules}
use Rattle.std.specs.List.{flat_map}
use Rattle.tuple_bytes.specs.declared.op.Op.{Op}
use Rattle.tuple_bytes.specs.Spelling.{spell_op}
use Rattle.tuple_bytes.proofs.Counting.{sized_front}
use Rattle.tuple_bytes.proofs.sizes.txn_size.Goals as goal

pub returns-in_err-size : goal.returns-in_err-size
returns-in_err-size c =
    let none : c.from_residual.result ≡ None = search rules in
    let all : length (flat_map spell_op c.as_slice-ops.result.now) ≡ length (flat_map spell_op c.args.ops.now) = ap (λ (os : List Op). length (flat_map spell_op os)) c.as_slice-ops.ensures.value in
    let front = sized_front 15 spell_op c.loop-op.size c.as_slice-ops.result.now c.loop-op.op-index c.op-item.result c.loop-op-test.true c.op-item.is c.loop-op.invariant.0 in
    record { value = λ number moment. rw none (λ fits. c.in_err-size.ensures.value (omega (arith, fits, all, front))) }

pub returns-then-size-gt-MAX_PAYLOAD : goal.returns-then-size-gt-MAX_PAYLOAD
returns-then-size-gt-MAX_PAYLOAD c =
    let all : length (flat_map spell_op c.as_slice-ops.result.now) ≡ length (flat_map spell_op c.args.ops.now) = ap (λ (os : List Op). length (flat_map spell_op os)) c.as_slice-ops.ensures.value in
    let front = sized_front 15 spell_op c.loop-op.size c.as_slice-ops.result.now c.loop-op.op-index c.op-item.result c.loop-op-test.true c.op-item.is c.loop-op.invariant.0 in
    record { value = λ number moment fits. omega (arith, fits, all, front, c.if-size-gt-MAX_PAYLOAD.true, c.in_ok-size.ensures.value.1) }
