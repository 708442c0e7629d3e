-- Want of memory: a quorum answers it only where a member did.
use Rattle.std.proofs.Common.{◌≡◌, ◌||◌, Bool, true, false, cond, List, [], ◌∷◌, ◌++◌, Option, None, Some, refl, sym, ◌∙◌}
use Rattle.std.proofs.lemmas.List.Folds.{list_any-append}
use Rattle.std.specs.Prelude.{IsErrOf}
use Rattle.notary_link.specs.declared.fail.NotaryFail.TheVariants as fails
use Rattle.notary_quorum.specs.declared.said.Said.{Said}
use Rattle.notary_quorum.specs.declared.said.Said.TheVariants.{Count, OutOfTurn, Failed, NoMemory}
use Rattle.notary_quorum.specs.Calls.{Call, WantsFairly}
use Rattle.notary_quorum.specs.Sayings.{same_said, count_said, answer_said, moment_said, mark_said}
use Rattle.notary_quorum.specs.Votes.{is_wanting, or_refusal, said_by_most, voted}
use Rattle.notary_quorum.proofs.Most.{common}
use Rattle.notary_quorum.proofs.Parts.{wanting_one}
use Rattle.notary_quorum.proofs.Sames.{said_is}
use Rattle.notary_quorum.proofs.Votes.{most_of}

-- where a quorum wants memory, some member does
pub wanted : (all : List Said) → voted all ≡ NoMemory → is_wanting all ≡ true
wanted all is = at (said_by_most all) refl is
  where
    unsaid : (wanting : Bool) → cond wanting NoMemory Failed ≡ NoMemory → wanting ≡ true
    unsaid true e = refl
    unsaid false e = absurd cc

    at : (o : Option Said) → said_by_most all ≡ o → or_refusal all o ≡ NoMemory → is_wanting all ≡ true
    at None none e = unsaid (is_wanting all) e
    at (Some said) most e =
        let one = common (same_said said) (same_said said) all (most_of all said most) (most_of all said most) in
        wanting_one all one.0 one.1 (sym (said_is said one.0 one.2) ∙ e)

-- one more says something
pub wanting_more : (takes : Bool) (call : Call) (all : List Said) (said : Said) → WantsFairly takes call (is_wanting all ≡ true)
    → WantsFairly takes call (said ≡ NoMemory) → WantsFairly takes call (is_wanting (all ++ said ∷ []) ≡ true)
wanting_more takes call all said before one asks wanting = at (is_wanting all) (same_said NoMemory said) refl refl (sym (list_any-append (same_said NoMemory) all (said ∷ [])) ∙ wanting)
  where
    at : (b c : Bool) → is_wanting all ≡ b → same_said NoMemory said ≡ c → (b || (c || false)) ≡ true → takes ≡ true
    at true c is same e = before asks is
    at false true is same e = one asks (sym (said_is NoMemory said same))
    at false false is same e = absurd cc

-- ---- The answers that stand for it

pub count_wanting : (said : Said) → IsErrOf (count_said said) fails.NoMemory → said ≡ NoMemory
count_wanting NoMemory e = refl
count_wanting (Count n) e = absurd cc
count_wanting (OutOfTurn n) e = absurd cc
count_wanting _ e = absurd cc

pub answer_wanting : (said : Said) → IsErrOf (answer_said said) fails.NoMemory → said ≡ NoMemory
answer_wanting NoMemory e = refl
answer_wanting _ e = absurd cc

pub moment_wanting : (said : Said) → IsErrOf (moment_said said) fails.NoMemory → said ≡ NoMemory
moment_wanting NoMemory e = refl
moment_wanting _ e = absurd cc

pub mark_wanting : (said : Said) → IsErrOf (mark_said said) fails.NoMemory → said ≡ NoMemory
mark_wanting NoMemory e = refl
mark_wanting _ e = absurd cc
