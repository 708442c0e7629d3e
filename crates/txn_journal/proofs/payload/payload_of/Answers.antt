use Rattle.std.proofs.Common.{◌≡◌, ℕ, ◌+◌, ◌-◌, None, take, drop, sym, ap, arith, rules}
use Rattle.txn_journal.specs.Reading.{limited}
use Rattle.txn_journal.proofs.Frames.{no_frame, in_frame, at_front}
use Rattle.txn_journal.proofs.payload.payload_of.Goals as goal

pub returns-in_err-size-clause-value : goal.returns-in_err-size-clause-value
returns-in_err-size-clause-value g c =
    let none : c.from_residual.result ≡ None = search rules in
    rw none (no_frame (limited g.S.Shape.shape c.args.limit) c.args.place c.args.bytes.now c.in_err-size.ensures.value)

pub returns-then-accepts : goal.returns-then-accepts
returns-then-accepts g c =
    let n : 5 + c.in_ok-size.size - 5 ≡ c.in_ok-size.size = omega arith in
    let part : take (5 + c.in_ok-size.size - 5) (drop 5 c.args.bytes.now) ≡ take c.in_ok-size.size (drop 5 c.args.bytes.now) = ap (λ (k : ℕ). take k (drop 5 c.args.bytes.now)) n in
    let size = c.in_ok-size.ensures.value in
    record {
      value = in_frame (limited g.S.Shape.shape c.args.limit) c.args.place c.args.bytes.now c.in_ok-size.size _ _ size part c.if-accepts.ensures.value;
      fits = at_front (limited g.S.Shape.shape c.args.limit) c.args.place c.args.bytes.now c.in_ok-size.size _ size part (sym c.if-accepts.ensures.value);
    }

pub returns-else-accepts-clause-value : goal.returns-else-accepts-clause-value
returns-else-accepts-clause-value g c =
    let n : 5 + c.in_ok-size.size - 5 ≡ c.in_ok-size.size = omega arith in
    let part : take (5 + c.in_ok-size.size - 5) (drop 5 c.args.bytes.now) ≡ take c.in_ok-size.size (drop 5 c.args.bytes.now) = ap (λ (k : ℕ). take k (drop 5 c.args.bytes.now)) n in
    in_frame (limited g.S.Shape.shape c.args.limit) c.args.place c.args.bytes.now c.in_ok-size.size _ _ c.in_ok-size.ensures.value part c.if-accepts.ensures.value
