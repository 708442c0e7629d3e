-- The laws of votes.
use Rattle.std.proofs.Common.{◌≡◌, ◌*◌, ◌^◌, true, false, not, List, ◌∷◌, length, Option, None, Some, refl, sym, ap, subst, ◌∙◌}
use Rattle.std.specs.List.{find}
use Rattle.std.specs.Option.{is_some, option_map}
use Rattle.std.proofs.lemmas.Bool.{ltb-true}
use Rattle.std.proofs.lemmas.Bool.Decides.{Decides-ltb}
use Rattle.notary_link.specs.Notary.{Lists}
use Rattle.notary_quorum.specs.declared.said.Said.{Said}
use Rattle.notary_quorum.specs.declared.said.Split.{Split}
use Rattle.notary_quorum.specs.Agreement.{is_of, told_by_most, named}
use Rattle.notary_quorum.specs.Laws.{IsSaidByMost, AreEqual, SameAnswersAreEqual, AnswerIsOfMost, AnswerIsRefusal, UnsplitIsOne, SameListsAreEqual, ListsOfMostAreTold, ToldListsAreOfMost}
use Rattle.notary_quorum.specs.Sayings.{same_said}
use Rattle.notary_quorum.specs.Votes.{votes_for, is_most, said_by_most, or_refusal}
use Rattle.notary_quorum.proofs.Calling.{all_every}
use Rattle.notary_quorum.proofs.Most.{In, Every, HasMost, most_more, common, found, found_some, not_found}
use Rattle.notary_quorum.proofs.Named.{same_named, named_same, named_equal}
use Rattle.notary_quorum.proofs.Parts.{told_most, most_told, every_all, every_from, split_none, kept_other}
use Rattle.notary_quorum.proofs.Sames.{said_is, own_said, under_is, below_is, below_from}

pub same_answers : SameAnswersAreEqual
same_answers a b = (said_is a b, λ e. subst (λ (s : Said). same_said a s ≡ true) e (own_said a))

pub most_of : (all : List Said) (said : Said) → said_by_most all ≡ Some said → IsSaidByMost all said
most_of all said is = ltb-true (length all) (2 * votes_for said all) (found (λ s. is_most (length all) (votes_for s all)) all said is)

pub answer_of_most : AnswerIsOfMost
answer_of_most all said most = at (said_by_most all) refl (found_some (λ s. is_most (length all) (votes_for s all)) all said there ((Decides-ltb (length all) (2 * votes_for said all)).1 most))
  where
    there : In said all
    there = let some = common (same_said said) (same_said said) all most most in subst (λ (s : Said). In s all) (sym (said_is said some.0 some.2)) some.1

    at : (o : Option Said) → said_by_most all ≡ o → is_some (said_by_most all) ≡ true → or_refusal all o ≡ said
    at None is some = absurd cc
    at (Some other) is some = let both = common (same_said other) (same_said said) all (most_of all other is) most in said_is other both.0 both.2 ∙ sym (said_is said both.0 both.3)

pub answer_refused : AnswerIsRefusal
answer_refused all none = at (said_by_most all) refl
  where
    at : (o : Option Said) → said_by_most all ≡ o → or_refusal all o ≡ or_refusal all None
    at None is = refl
    at (Some said) is = absurd (none said (most_of all said is))

pub unsplit_one : UnsplitIsOne
unsplit_one first others = (λ e. all_every (λ s. s ≡ first) others (at (find (λ s. not (same_said first s)) others) refl e), λ all. split_none (first ∷ others) first (refl, every_all (λ s. s ≡ first) others all))
  where
    at : (o : Option Said) → find (λ s. not (same_said first s)) others ≡ o → is_some (option_map (λ (other : Said). let x : Split = record { first = first; other = other } in x) o) ≡ false → Every (λ s. s ≡ first) others
    at None e none = every_from (λ s. s ≡ first) others (λ s there. kept_other first others (not_found (λ s. not (same_said first s)) others e) s there)
    at (Some other) e none = absurd cc

pub same_lists_equal : SameListsAreEqual
same_lists_equal a b = (λ e id fits. under_is a b id (below_is a b (2 ^ 64) e id fits), λ equal. below_from a b (2 ^ 64) equal)

-- what a voice tells
told_of : (lists : Lists) (o : Option Lists) → is_of lists o ≡ true → (m : Lists) × (o ≡ Some m) × (named lists ≡ named m)
told_of lists None e = absurd cc
told_of lists (Some m) e = (m, refl, same_named lists m e)

pub lists_of_most : ListsOfMostAreTold
lists_of_most told lists most =
    let some = common (is_of lists) (is_of lists) told most most in
    let mine = told_of lists some.0 some.2 in
    at mine.0 mine.2 (subst (λ (o : Option Lists). In o told) mine.1 some.1) (told_by_most told) refl
  where
    module_most : (m : Lists) → named lists ≡ named m → HasMost (is_of m) told
    module_most m same = most_more (is_of lists) (is_of m) told most (every_from (λ o. is_of lists o ≡ true → is_of m o ≡ true) told (λ o there e. let h = told_of lists o e in subst (λ (x : Option Lists). is_of m x ≡ true) (sym h.1) (named_same m h.0 (sym same ∙ h.2))))

    at : (m : Lists) → named lists ≡ named m → In (Some m) told → (o : Option Lists) → told_by_most told ≡ o → (found : Lists) × (told_by_most told ≡ Some found) × AreEqual found lists
    at m same there None is = let h : is_some (told_by_most told) ≡ true = most_told told m there (module_most m same) in absurd cc
    at m same there (Some f) is =
        let both = common (is_of f) (is_of lists) told (told_most told f is) most in
        let one = told_of f both.0 both.2 in
        let two = told_of lists both.0 both.3 in
        let joined : one.0 ≡ two.0 = cc (one.1, two.1) in
        (f, is, named_equal f lists (one.2 ∙ ap named joined ∙ sym two.2))

pub told_of_most : ToldListsAreOfMost
told_of_most = told_most
