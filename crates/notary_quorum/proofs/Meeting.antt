-- A quorum meets a call as a notary does.
use Rattle.std.proofs.Common.{◌≡◌, ◌&&◌, ◌<◌, ◌≤◌, ◌+◌, ◌^◌, ◌⊎◌, inl, inr, ℕ, Bool, true, false, cond, List, [], ◌∷◌, ◌++◌, length, map, sum_by, Option, None, Some, IfSome, refl, sym, ap, subst, ◌∙◌, arith}
use Rattle.std.specs.List.{list_all}
use Rattle.std.specs.Option.{is_some, option_map}
use Rattle.outside_words.specs.Faults.{Rose}
use Rattle.outside_words.specs.Told.{WhereTold}
use Rattle.notary_link.specs.declared.notary.NotaryLimits.{NotaryLimits}
use Rattle.notary_link.specs.Notary.{Lists, State, Grows}
use Rattle.notary_quorum.specs.declared.said.Said.{Said}
use Rattle.notary_quorum.specs.declared.tally.Tally.{Tally}
use Rattle.notary_quorum.specs.Agreement.{voice, voices, is_of, told_by_most, named}
use Rattle.notary_quorum.specs.Calls.{Call, is_change, id_of, Fits, HasGrounds, Does, Meets, EachMeets}
use Rattle.notary_quorum.specs.Quorums.{one_more, tallied, limits_of, HaveEqualLimits, lists_now, told_so_far, lists_told, faults_of, quorum_state, EachCalm, AllTell, CallsEach}
use Rattle.notary_quorum.specs.Sayings.{same_said}
use Rattle.notary_quorum.specs.Steps.{in_step_after}
use Rattle.notary_quorum.specs.Votes.{is_wanting, voted, is_split}
use Rattle.notary_quorum.proofs.Counting.{sum_old, sum_new, sums_grow, sums_same, sums_rise, grows_where, rises_first, rises_second}
use Rattle.notary_quorum.proofs.Deciding.{lists_before, lists_after, answer_fits, answer_grounds, answer_does, answer_grows, Fault, goes_on_or, fails_by, goes_on_quiet, all_agree}
use Rattle.notary_quorum.proofs.Most.{In, Every, every_in}
use Rattle.notary_quorum.proofs.Parts.{Part, parts, answers, answer, IsParts, each_parts, every_all, every_map, every_from}

-- ---- Told, and told no longer

-- the lists before and after, by what most told
module _ (t : Bool) (o n : Option Lists) where
  abbrev pub old_lists : Option Lists
  old_lists = cond t (option_map named o) None

  abbrev pub new_lists : Option Lists
  new_lists = cond (t && is_some o) (option_map named n) None

abbrev no_lists : Option Lists
no_lists = None

both_told : (t : Bool) (o n : Option Lists) (P : Lists → Lists → Type 0) → ((l m : Lists) → o ≡ Some l → n ≡ Some m → P (named l) (named m)) → WhereTold (old_lists t o n) (new_lists t o n) P
both_told false o n P h = tt
both_told true None n P h = tt
both_told true (Some l) None P h = tt
both_told true (Some l) (Some m) P h = h l m refl refl

if_told : (t : Bool) (o n : Option Lists) (P : Lists → Type 0) → ((l : Lists) → o ≡ Some l → P (named l)) → IfSome (old_lists t o n) P
if_told false o n P h = tt
if_told true None n P h = tt
if_told true (Some l) n P h = h l refl

untold : (t : Bool) (o n : Option Lists) → is_some (old_lists t o n) ≡ false → is_some (new_lists t o n) ≡ false
untold false o n e = refl
untold true None n e = refl
untold true (Some l) n e = absurd cc

ends : (t : Bool) (o n : Option Lists) (R : Type 0) → ((l : Lists) → o ≡ Some l → (is_some n ≡ true) ⊎ R) → is_some (old_lists t o n) ≡ true → is_some (new_lists t o n) ≡ false → R
ends false o n R h was is = absurd cc
ends true None n R h was is = absurd cc
ends true (Some l) (Some m) R h was is = absurd cc
ends true (Some l) None R h was is = at (h l refl)
  where
    at : (is_some no_lists ≡ true) ⊎ R → R
    at (inl e) = absurd cc
    at (inr r) = r

told_on : (t : Bool) (o n : Option Lists) → ((l : Lists) → o ≡ Some l → is_some n ≡ true) → is_some (old_lists t o n) ≡ true → is_some (new_lists t o n) ≡ true
told_on false o n h was = absurd cc
told_on true None n h was = absurd cc
told_on true (Some l) (Some m) h was = refl
told_on true (Some l) None h was = let e : is_some no_lists ≡ true = h l refl in absurd cc

all_more : {A : Type 0} (p : A → Bool) (xs : List A) (x : A) → list_all p (xs ++ x ∷ []) ≡ (list_all p xs && p x)
all_more p [] x = at (p x)
  where
    at : (b : Bool) → (b && true) ≡ b
    at true = refl
    at false = refl
all_more {A} p (y ∷ ys) x = at (p y) (all_more p ys x)
  where
    at : (b : Bool) → list_all p (ys ++ x ∷ []) ≡ (list_all p ys && p x) → (b && list_all p (ys ++ x ∷ [])) ≡ ((b && list_all p ys) && p x)
    at true e = e
    at false e = refl

-- ---- The call

module _ (call : Call) (past : List (List State × List Bool)) (tally : Tally) (all : List Said) (olds news : List State) (less : id_of call < 2 ^ 64) (few : length all ≤ length tally.in_step) (alike : HaveEqualLimits olds) (each : EachMeets call all olds news) where
  abbrev ps : List Part
  ps = parts tally.in_step all olds news

  is_parts : IsParts call tally.in_step all olds news ps
  is_parts = each_parts call tally.in_step all olds news each few

  abbrev lim : NotaryLimits
  lim = limits_of olds

  abbrev kept : Tally
  kept = tallied (is_change call) all tally

  abbrev later : List (List State × List Bool)
  later = past ++ (olds, tally.in_step) ∷ []

  limits_are : Every (λ p. p.old.limits ≡ lim) ps
  limits_are = every_map (λ s. s.limits ≡ lim) (λ p. p.old) ps (subst (λ (l : List State). Every (λ s. s.limits ≡ lim) l) (sym is_parts.befores) (every_all (λ s. s.limits ≡ lim) olds alike))

  says : answers ps ≡ all
  says = is_parts.says

  answer_is : answer ps ≡ voted all
  answer_is = ap voted says

  was : lists_now tally.in_step olds ≡ lists_before call lim ps
  was = ap told_by_most is_parts.heard

  is_now : lists_now kept.in_step news ≡ lists_after call lim ps
  is_now = ap told_by_most (at (is_change call))
    where
      at : (c : Bool) → voices (cond c (in_step_after (voted all) all tally.in_step) tally.in_step) news ≡ map (λ p. voice (cond c (p.mark && same_said (answer ps) p.said) p.mark) p.new) ps
      at true = is_parts.heard_in_step (voted all) ∙ ap (λ (s : Said). map (λ p. voice (p.mark && same_said s p.said) p.new) ps) (sym answer_is)
      at false = is_parts.heard_after

  abbrev t : Bool
  t = told_so_far past

  abbrev o : Option Lists
  o = lists_before call lim ps

  abbrev n : Option Lists
  n = lists_after call lim ps

  pub old_told : lists_told past olds tally.in_step ≡ old_lists t o n
  old_told = ap (λ (x : Option Lists). cond t (option_map named x) None) was

  pub new_told : lists_told later news kept.in_step ≡ new_lists t o n
  new_told =
      ap (λ (b : Bool). cond b (option_map named (lists_now kept.in_step news)) None) (all_more (λ p. is_some (lists_now p.1 p.0)) past (olds, tally.in_step))
      ∙ ap (λ (x : Option Lists). cond (t && is_some x) (option_map named (lists_now kept.in_step news)) None) was
      ∙ ap (λ (x : Option Lists). cond (t && is_some o) (option_map named x) None) is_now

  over_both : (P : Lists → Lists → Type 0) → WhereTold (old_lists t o n) (new_lists t o n) P → WhereTold (lists_told past olds tally.in_step) (lists_told later news kept.in_step) P
  over_both P h = subst (λ (x : Option Lists). WhereTold x (lists_told later news kept.in_step) P) (sym old_told) (subst (λ (x : Option Lists). WhereTold (old_lists t o n) x P) (sym new_told) h)

  -- ---- Faults

  grow : Every (λ p. p.old.faults ≤ p.new.faults) ps
  grow = every_from (λ p. p.old.faults ≤ p.new.faults) ps (λ p there. (every_in (λ p. Meets call p.said p.old p.new) ps p is_parts.meets there).frame.faults)

  sum_was : sum_old ps ≡ sum_by (λ s. s.faults) olds
  sum_was = ap (sum_by (λ s. s.faults)) is_parts.befores

  sum_is : sum_new ps ≡ sum_by (λ s. s.faults) news
  sum_is = ap (sum_by (λ s. s.faults)) is_parts.afters

  differed_grows : tally.differed ≤ kept.differed
  differed_grows = grows_where (is_split all) tally.differed

  wanted_grows : tally.wanted ≤ kept.wanted
  wanted_grows = grows_where (is_change call && is_wanting all) tally.wanted

  pub faults_grow : faults_of olds tally ≤ faults_of news kept
  faults_grow = omega (arith, sums_grow ps grow, sum_was, sum_is, differed_grows, wanted_grows)

  rises : Fault call lim ps less limits_are is_parts.meets → Rose (faults_of olds tally) (faults_of news kept)
  rises (inl member) = omega (arith, sums_rise ps member.0 member.1 member.2 grow (tally.differed + tally.wanted) (kept.differed + kept.wanted) (omega (arith, differed_grows, wanted_grows)), sum_was, sum_is)
  rises (inr (inl split)) =
      let e : kept.differed ≡ one_more tally.differed = ap (λ (b : Bool). cond b (one_more tally.differed) tally.differed) (ap is_split (sym says) ∙ split) in
      omega (arith, rises_first (sum_old ps) (sum_new ps) tally.differed tally.wanted kept.wanted (sums_grow ps grow) wanted_grows, e, sum_was, sum_is)
  rises (inr (inr wanting)) =
      let e : kept.wanted ≡ one_more tally.wanted = ap (λ (b : Bool). cond b (one_more tally.wanted) tally.wanted) (ap (λ (l : List Said). is_change call && is_wanting l) (sym says) ∙ wanting) in
      omega (arith, rises_second (sum_old ps) (sum_new ps) tally.differed kept.differed tally.wanted (sums_grow ps grow) differed_grows, e, sum_was, sum_is)

  -- ---- As a notary

  limits_stay : (olds news : List State) (all : List Said) → EachMeets call all olds news → limits_of news ≡ limits_of olds
  limits_stay [] [] [] met = refl
  limits_stay (old ∷ olds) (new ∷ news) (said ∷ all) met = met.0.frame.limits
  limits_stay [] (new ∷ news) [] met = absurd met
  limits_stay [] news (said ∷ all) met = absurd met
  limits_stay (old ∷ olds) news [] met = absurd met
  limits_stay (old ∷ olds) [] (said ∷ all) met = absurd met

  pub quorum_meets : (asked : ℕ) → (p : Part) → In p ps → Meets call (voted all) (quorum_state past olds tally asked) (quorum_state later news kept asked)
  quorum_meets asked p there = record {
    fits = subst (Fits call) answer_is (answer_fits call lim ps less limits_are is_parts.meets);
    grounds = subst (λ (x : Option Lists). IfSome x (HasGrounds call lim (voted all))) (sym old_told) (if_told t o n (HasGrounds call lim (voted all)) (λ l is. subst (λ (s : Said). HasGrounds call lim s (named l)) answer_is (answer_grounds call lim ps less limits_are is_parts.meets l is)));
    does = over_both (Does call lim (voted all)) (both_told t o n (Does call lim (voted all)) (λ l m is was. subst (λ (s : Said). Does call lim s (named l) (named m)) answer_is (answer_does call lim ps less limits_are is_parts.meets l m is was)));
    frame = record {
      told = record {
        untold = λ none. ap is_some new_told ∙ untold t o n (ap is_some (sym old_told) ∙ none);
        ends = λ told none. rises (ends t o n (Fault call lim ps less limits_are is_parts.meets) (goes_on_or call lim ps less limits_are is_parts.meets) (ap is_some (sym old_told) ∙ told) (ap is_some (sym new_told) ∙ none));
      };
      lists = over_both Grows (both_told t o n Grows (answer_grows call lim ps less limits_are is_parts.meets));
      traced = refl;
      trace = tt;
      limits = limits_stay olds news all each;
      plan = refl;
      sure = refl;
      shows = refl;
      asked = omega arith;
      faults = faults_grow;
      quiet = λ sure. tt;
    };
    cause = λ failed. rises (fails_by call lim ps less limits_are is_parts.meets p there (answer_is ∙ failed));
    asked = omega arith;
    trace = tt;
    counted = λ shows. absurd cc;
  }

  -- ---- Where no member fails

  calm_parts : (marks : List Bool) (all : List Said) (olds news : List State) → EachCalm olds news → Every (λ p. Rose p.old.faults p.new.faults → ⊥) (parts marks all olds news)
  calm_parts (m ∷ marks) (s ∷ all) (old ∷ olds) (new ∷ news) calm = (calm.0, calm_parts marks all olds news calm.1)
  calm_parts [] all olds news calm = tt
  calm_parts (m ∷ marks) [] olds news calm = tt
  calm_parts (m ∷ marks) (s ∷ all) [] news calm = tt
  calm_parts (m ∷ marks) (s ∷ all) (old ∷ olds) [] calm = tt

  pub steady : EachCalm olds news → is_wanting all ≡ false → is_some (lists_told past olds tally.in_step) ≡ true → is_some (lists_told later news kept.in_step) ≡ true
  steady calm content told = ap is_some new_told ∙ told_on t o n (goes_on_quiet call lim ps less limits_are is_parts.meets (calm_parts tally.in_step all olds news calm) (ap is_wanting says ∙ content)) (ap is_some (sym old_told) ∙ told)

  pub still : (lists : Lists) → AllTell lists olds → EachCalm olds news → is_wanting all ≡ false → faults_of news kept ≡ faults_of olds tally
  still lists tell calm content =
      let quiet = calm_parts tally.in_step all olds news calm in
      let agree : Every (λ p. is_of lists p.old.lists ≡ true) ps = every_map (λ s. is_of lists s.lists ≡ true) (λ p. p.old) ps (subst (λ (l : List State). Every (λ s. is_of lists s.lists ≡ true) l) (sym is_parts.befores) (every_all (λ s. is_of lists s.lists ≡ true) olds tell)) in
      let unsplit : is_split all ≡ false = ap is_split (sym says) ∙ all_agree call lim ps less limits_are is_parts.meets quiet (ap is_wanting says ∙ content) lists agree in
      let d : kept.differed ≡ tally.differed = ap (λ (b : Bool). cond b (one_more tally.differed) tally.differed) unsplit in
      let w : kept.wanted ≡ tally.wanted = ap (λ (b : Bool). cond b (one_more tally.wanted) tally.wanted) (neither (is_change call) content) in
      omega (arith, sums_same ps grow quiet, sum_was, sum_is, d, w)
    where
      neither : (c : Bool) → is_wanting all ≡ false → (c && is_wanting all) ≡ false
      neither true e = e
      neither false e = refl

  pub calls_each : CallsEach call (voted all) olds news tally kept (lists_told past olds tally.in_step) (lists_told later news kept.in_step)
  calls_each = record { all = all; each = each; answered = refl; kept = refl; steady = steady; still = still }
