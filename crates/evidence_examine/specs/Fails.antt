-- How a refusal of a layer below is told by an examination.
use Rattle.std.specs.Prelude.{Bool, true, false}
use Rattle.notary_link.specs.declared.fail.NotaryFail.{NotaryFail}
use Rattle.notary_link.specs.declared.fail.NotaryFail.TheVariants as notary_fails
use Rattle.evidence_examine.specs.declared.fail.ExamineFail.{ExamineFail}
use Rattle.evidence_examine.specs.declared.fail.ExamineFail.TheVariants as fails

-- asking calls answer neither of the two in the middle
abbrev pub of_notary : NotaryFail → ExamineFail
of_notary notary_fails.Failed = fails.NotaryFault
of_notary (notary_fails.OutOfTurn count) = fails.NotaryFault
of_notary notary_fails.Full = fails.NotaryFault
of_notary notary_fails.NoMemory = fails.NoMemory

-- a refusal behind which the notary may have failed
abbrev pub in_doubt : ExamineFail → Bool
in_doubt fails.NotaryFault = true
in_doubt fails.NoMemory = true
in_doubt fail = false
