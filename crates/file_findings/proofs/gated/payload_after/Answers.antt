use Rattle.std.proofs.Common.{◌≡◌, ◌+◌, ◌-◌, ◌∷◌, None, take, drop, sym, ap, arith, rules}
use Rattle.byte_grammar.specs.Gated.{open_gate}
use Rattle.txn_journal.proofs.Frames.{no_frame, in_frame, at_front}
use Rattle.file_findings.proofs.gated.payload_after.Goals as goal

pub returns-in_err-size-clause-value : goal.returns-in_err-size-clause-value
returns-in_err-size-clause-value g c =
    let none : c.from_residual.result ≡ None = search rules in
    rw none (no_frame g.S.Shape.shape c.args.place (open_gate ∷ c.args.after.now) c.in_err-size.ensures.value)

pub returns-then-accepts : goal.returns-then-accepts
returns-then-accepts g c =
    let n : 4 + c.in_ok-size.size - 4 ≡ c.in_ok-size.size = omega arith in
    let part : take (4 + c.in_ok-size.size - 4) (drop 4 c.args.after.now) ≡ take c.in_ok-size.size (drop 4 c.args.after.now) = ap (λ k. take k (drop 4 c.args.after.now)) n in
    let size = c.in_ok-size.ensures.value in
    record {
      value = in_frame g.S.Shape.shape c.args.place (open_gate ∷ c.args.after.now) c.in_ok-size.size _ _ size part c.if-accepts.ensures.value;
      fits = at_front g.S.Shape.shape c.args.place (open_gate ∷ c.args.after.now) c.in_ok-size.size _ size part (sym c.if-accepts.ensures.value);
    }

pub returns-else-accepts-clause-value : goal.returns-else-accepts-clause-value
returns-else-accepts-clause-value g c =
    let n : 4 + c.in_ok-size.size - 4 ≡ c.in_ok-size.size = omega arith in
    let part : take (4 + c.in_ok-size.size - 4) (drop 4 c.args.after.now) ≡ take c.in_ok-size.size (drop 4 c.args.after.now) = ap (λ k. take k (drop 4 c.args.after.now)) n in
    in_frame g.S.Shape.shape c.args.place (open_gate ∷ c.args.after.now) c.in_ok-size.size _ _ c.in_ok-size.ensures.value part c.if-accepts.ensures.value
