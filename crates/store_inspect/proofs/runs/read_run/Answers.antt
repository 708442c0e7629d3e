use Rattle.std.proofs.Common.{◌+◌, length, List, drop, Some, None, sym, subst}
use Rattle.tuple_bytes.specs.declared.item.Item.{Item}
use Rattle.byte_grammar.specs.Gated.{records}
use Rattle.history_model.specs.Stored.{store_shape}
use Rattle.history_model.proofs.Replays.{IsReplaying, behind}
use Rattle.store_inspect.proofs.Running.{to_end, next_inside, goes_on, run_ends}
use Rattle.store_inspect.proofs.runs.read_run.Goals as goal

pub records-preserved : goal.records-preserved
records-preserved c =
    let bytes = c.args.bytes.now in
    let place = c.records.place in
    let payload = c.in-Some.payload.now in
    let found = to_end place bytes (Some payload) c.in-Some.ensures.value in
    let all = behind c.args.items.now (records store_shape c.args.start 0 (drop c.args.start bytes)) in
    record {
      replaying = subst (λ (items : List Item). IsReplaying all bytes (place + (5 + length payload)) items) (sym c.in_ok-push.ensures.ok) (goes_on bytes place payload found all c.records.items c.records.invariant.replaying);
      inside = next_inside bytes place payload found;
    }

pub returns-clause-value : goal.returns-clause-value
returns-clause-value c =
    let bytes = c.args.bytes.now in
    run_ends c.args.items.now c.records.items (records store_shape c.args.start 0 (drop c.args.start bytes)) bytes c.records.place c.records.invariant.replaying
    (to_end c.records.place bytes None (rw c.in_default.is at c.payload_at.ensures.value))
