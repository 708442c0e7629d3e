use Rattle.std.proofs.Common.{◌≡◌, take, fold}
use Rattle.digest_model.specs.Layout.{first_era}
use Rattle.policy_eras.specs.Policy.{with_payload}
use Rattle.policy_eras.proofs.eras.Eras.of.Given as goal

-- those of the payloads so far
abbrev pub invariant-loop-payload : goal.invariant-loop-payload
invariant-loop-payload l = l.eras ≡ fold with_payload (first_era l.header) (take l.payload-index l.payload-items)
