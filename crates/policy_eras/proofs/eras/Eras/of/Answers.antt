use Rattle.std.proofs.Common.{fold, ap, ◌∙◌, arith}
use Rattle.std.proofs.lemmas.List.{take_all}
use Rattle.digest_model.specs.Layout.{first_era, policy_of}
use Rattle.policy_eras.specs.Policy.{with_payload}
use Rattle.policy_eras.proofs.Payloads.{spellings_are}
use Rattle.policy_eras.proofs.eras.Eras.of.Goals as goal

pub returns : goal.returns
unfolding policy_of
returns c =
    let last = c.loop-payload-test.false in
    let end = c.loop-payload.auto.payload-index-end in
    record {
      value = c.loop-payload.invariant
          ∙ ap (fold with_payload (first_era c.args.header.now)) (take_all c.loop-payload.payload-index c.as_slice-payload-items.result.now (omega (arith, last, end)))
          ∙ ap (fold with_payload (first_era c.args.header.now)) c.as_slice-payload-items.ensures.value
          ∙ spellings_are (first_era c.args.header.now) c.args.items.now c.as_slice-payload-items.ensures.fit;
    }
