use Rattle.std.proofs.Common.{ap, ◌∙◌, ℕ, Bool, false}
use Rattle.std.proofs.Math.ListN.{replicate}
use Rattle.rand_pcg.specs.Lcg.{Lcg}
use Rattle.workload_make.specs.Progress.{present_in}
use Rattle.workload_make.specs.Script.{Progress, generator_of}
use Rattle.workload_make.proofs.Steps.{none_present}
use Rattle.workload_make.proofs.maker.Maker.new.Goals as goal

pub returns : goal.returns
returns c =
    let state : Lcg → (ℕ → Bool) → Progress = λ g f. record { moment = c.args.last; generator = g; is_present = f } in
    record { value = ap (λ g. state g (present_in (replicate 1001 false))) c.new.ensures ∙ ap (state (generator_of c.args.seed)) (none_present 1001) }
