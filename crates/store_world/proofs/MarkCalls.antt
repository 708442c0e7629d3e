-- The call that adds the mark of a verdict, by what the notary answered.
use Rattle.std.proofs.Common.{inl, inr, ℕ, List, Option, Some, None, Err}
use Rattle.notary_link.specs.declared.fail.NotaryFail.TheVariants as notary_fails
use Rattle.notary_link.specs.declared.mark.Mark.{Mark}
use Rattle.notary_link.specs.Notary.{Entry}
use Rattle.validator.specs.Verdicts.{AnswersMark, CallsMark}
use Rattle.store_world.specs.declared.fail.LineFail.TheVariants as fails
use Rattle.store_world.specs.LineCalls.{noting}
use Rattle.store_world.specs.CallsMade.{IsAnswered, MakesOfNotary}

module _ (id : ℕ) (was now : List Entry) where
  pub was_marked : (m : Option Mark) → CallsMark id m was now → IsAnswered (noting id m) was now
  was_marked None made = made
  was_marked (Some mark) made = inl made

  pub found_no_room : (m : Option Mark) → AnswersMark m id notary_fails.Full was now → IsAnswered (noting id m) was now
  found_no_room None made = absurd made
  found_no_room (Some mark) made = inr made

  pub has_failed : (m : Option Mark) → AnswersMark m id notary_fails.Failed was now → MakesOfNotary (noting id m) (Err fails.NotaryFault) was now
  has_failed None made = absurd made
  has_failed (Some mark) made = inr (inl made)
