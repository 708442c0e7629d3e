use Rattle.std.proofs.Common.{◌≡◌, ℕ, take, subst, arith}
use Rattle.std.proofs.lemmas.List.{take_min}
use Rattle.line_runs.proofs.seen.front.Goals as goal

pub returns : goal.returns
returns c = record { value = subst (λ (n : ℕ). take n c.args.line.now ≡ take 200 c.args.line.now) (omega arith) (take_min 200 c.args.line.now) }
