use Rattle.std.proofs.Common.{◌≡◌, Some}
use Rattle.digest_model.specs.Layout.{max_later}
use Rattle.chain_state.specs.Chained.{history_of}
use Rattle.validator.specs.Verdicts.{sealed_of, sealed_on}
use Rattle.validator.proofs.Questions.{asked_fewer, sealed_few, sealed_on_few}
use Rattle.audit_steps.specs.Steps.{IsAtEnd}
use Rattle.disk_words.proofs.Frame as disks
use Rattle.validator.proofs.Validated.{as_read}
use Rattle.audit_steps.proofs.Ending.{by_chains, by_nowhere, told_fell, few_by_chains, few_by_reads, few_none_asked, none_asked}
use Rattle.audit_steps.proofs.concluding.conclude_sealed.Goals as goal

pub returns-in-Some-chains-clause-told : goal.returns-in-Some-chains-clause-told
returns-in-Some-chains-clause-told g c =
    let S = g.N.Notary.state in
    by_chains c.args.id c.args.now c.args.tiles (S c.args.notary.now).limits (S c.args.notary.now).trace (S c.judge_chains.new.notary).trace (S c.args.notary.now).lists (S c.judge_chains.new.notary).lists c.judge_chains.result
    c.args.audit c.in-Some.auditing c.in-Some-chains.chains (g.D.Disk.state c.args.disk.now).reads c.in-Some.is c.in-Some-chains.is (rw c.in-Some-chains.is at c.judge_chains.ensures.told)

pub returns-in-Some-chains-clause-disk_frame : goal.returns-in-Some-chains-clause-disk_frame
returns-in-Some-chains-clause-disk_frame g c = disks.goes_on_same (g.D.Disk.state c.args.disk.now)

pub returns-in-None-chains-clause-told : goal.returns-in-None-chains-clause-told
returns-in-None-chains-clause-told g c = as_read _ _ (g.D.Disk.state c.args.disk.now).reads c.judge_file.ensures.told (λ bytes is at_end. is)

pub returns-in-None-chains-clause-steps : goal.returns-in-None-chains-clause-steps
returns-in-None-chains-clause-steps g c =
    told_fell (c.judge_file.new.steps ≡ c.args.steps.now) c.args.id c.args.audit c.in-Some.auditing (g.D.Disk.state c.args.disk.now).reads c.in-Some.is c.in-None-chains.is

pub returns-in-None-clause-told : goal.returns-in-None-clause-told
returns-in-None-clause-told g c =
    let S = g.N.Notary.state in
    by_nowhere c.args.id c.args.now c.args.tiles (S c.args.notary.now).limits (S c.args.notary.now).trace (S c.judge_nowhere.new.notary).trace (S c.args.notary.now).lists (S c.judge_nowhere.new.notary).lists c.judge_nowhere.result
    c.args.audit (g.D.Disk.state c.args.disk.now).reads c.in-None.is c.judge_nowhere.ensures.told

pub returns-in-None-clause-disk_frame : goal.returns-in-None-clause-disk_frame
returns-in-None-clause-disk_frame g c = disks.goes_on_same (g.D.Disk.state c.args.disk.now)

pub returns-in-Some-chains-clause-asked : goal.returns-in-Some-chains-clause-asked
returns-in-Some-chains-clause-asked g c =
    let S = g.N.Notary.state in
    let h = history_of c.in-Some-chains.chains in
    asked_fewer c.judge_chains.result (S c.args.notary.now).asked (S c.judge_chains.new.notary).asked (sealed_of h) (λ n. max_later) (λ n. sealed_few (Some h) n) (rw c.in-Some-chains.is at c.judge_chains.ensures.asked)

pub returns-in-Some-chains-clause-few : goal.returns-in-Some-chains-clause-few
returns-in-Some-chains-clause-few g c =
    let S = g.N.Notary.state in
    few_by_chains c.args.id c.args.now c.args.tiles (S c.args.notary.now).limits (S c.args.notary.now).trace (S c.judge_chains.new.notary).trace (S c.args.notary.now).lists (S c.judge_chains.new.notary).lists c.judge_chains.result
    c.args.audit c.in-Some.auditing c.in-Some-chains.chains (g.D.Disk.state c.args.disk.now).reads (S c.args.notary.now).asked (S c.judge_chains.new.notary).asked c.in-Some.is c.in-Some-chains.is (rw c.in-Some-chains.is at c.judge_chains.ensures.asked)

pub returns-in-None-chains-clause-asked : goal.returns-in-None-chains-clause-asked
returns-in-None-chains-clause-asked g c =
    let S = g.N.Notary.state in
    let reads = (g.D.Disk.state c.args.disk.now).reads in
    asked_fewer c.judge_file.result (S c.args.notary.now).asked (S c.judge_file.new.notary).asked (sealed_on c.args.id reads) (λ n. max_later) (sealed_on_few c.args.id reads) c.judge_file.ensures.asked

pub returns-in-None-chains-clause-few : goal.returns-in-None-chains-clause-few
returns-in-None-chains-clause-few g c =
    let S = g.N.Notary.state in
    few_by_reads (λ bytes. IsAtEnd c.args.id bytes c.args.audit) c.args.id c.judge_file.result (g.D.Disk.state c.args.disk.now).reads (S c.args.notary.now).asked (S c.judge_file.new.notary).asked c.judge_file.ensures.asked

pub returns-in-None-clause-few : goal.returns-in-None-clause-few
returns-in-None-clause-few g c =
    let S = g.N.Notary.state in
    few_none_asked (λ bytes. IsAtEnd c.args.id bytes c.args.audit) c.args.id c.judge_nowhere.result (g.D.Disk.state c.args.disk.now).reads (S c.args.notary.now).asked (S c.judge_nowhere.new.notary).asked c.judge_nowhere.ensures.asked

pub returns-in-None-clause-asked : goal.returns-in-None-clause-asked
returns-in-None-clause-asked g c =
    let S = g.N.Notary.state in
    none_asked c.judge_nowhere.result (S c.args.notary.now).asked (S c.judge_nowhere.new.notary).asked (λ n. max_later) c.judge_nowhere.ensures.asked
