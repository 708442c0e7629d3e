-- Where the eras of a history begin, by its policies.
use Rattle.std.proofs.Common.{◌≡◌, ℕ, zero, suc, ◌<◌, ◌≤◌, min, true, List, [], ◌∷◌, length, filter, Option, Some, None, refl, sym, ap, subst, ◌∙◌, inl, inr, length-append, arith}
use Rattle.std.specs.Prelude.{IfSome}
use Rattle.std.specs.List.{slice_get}
use Rattle.std.proofs.lemmas.Bool.{cases_lt}
use Rattle.std.proofs.lemmas.Bool.Decides.{nat_tests}
use Rattle.history_model.specs.History.{History}
use Rattle.digest_model.specs.Layout.{Era, layout, policy_of, era_at, sealed_eras, era_of}
use Rattle.digest_model.specs.Eras.{Ascends, is_below}
use Rattle.digest_model.proofs.Eras.{first_is, eras_are_few, eras_ascend, sealed_are, sealed_come_first, sealed_below}
use Rattle.a3d_forensics.specs.Trees.{tiles_before}
use Rattle.a3d_forensics.proofs.Ranges.{IsSplit, only_split}

-- ---- in a list of eras

never_before : (from : ℕ) (es : List Era) (i : ℕ) (era : Era) → Ascends from es → slice_get es i ≡ Some era → from ≤ era.tile
never_before from [] i era up is = absurd cc
never_before from (e ∷ es) zero era up is = (let same : e ≡ era = cc in let low = up.0 in subst (λ (x : Era). from ≤ x.tile) same low)
never_before from (e ∷ es) (suc i) era up is = (let low = up.0 in let next = never_before e.tile es i era up.1 is in omega (arith, low, next))

-- an era that has begun stands behind as many
reached : (from n : ℕ) (es : List Era) (i : ℕ) (era : Era) → Ascends from es → slice_get es i ≡ Some era → era.tile < n → i < length (filter (is_below n) es)
reached from n [] i era up is below = absurd cc
reached from n (e ∷ es) zero era up is below =
    let same : e ≡ era = cc in
    let low : e.tile < n = subst (λ (x : Era). x.tile < n) (sym same) below in
    let begun : is_below n e ≡ true = grind (arith, nat_tests, low) in
    rw begun (omega arith)
reached from n (e ∷ es) (suc i) era up is below =
    let next = never_before e.tile es i era up.1 is in
    let low : e.tile < n = omega (arith, next, below) in
    let begun : is_below n e ≡ true = grind (arith, nat_tests, low) in
    let rest = reached e.tile n es i era up.1 is below in
    rw begun (omega (arith, rest))

past : (es : List Era) (i : ℕ) → slice_get es i ≡ None → length es ≤ i
past [] i none = omega arith
past (e ∷ es) zero none = absurd cc
past (e ∷ es) (suc i) none = (let rest = past es i none in omega (arith, rest))

-- ---- in a history

so_many : (h : History) (tile : ℕ) → era_of (layout h) tile ≡ length (sealed_eras (layout h) (suc tile))
unfolding era_of
so_many h tile = refl

-- a number of an era is small
pub known_small : (h : History) (era : Option ℕ) → IfSome era (λ number. number ≤ length (policy_of h).later) → IfSome era (λ number. number ≤ 255)
known_small h None known = tt
known_small h (Some number) known = (let few = eras_are_few h in omega (arith, known, few))

-- so many of the first n tiles lie before the era of a number
abbrev pub begin_of : Option Era → ℕ → ℕ
begin_of None n = n
begin_of (Some era) n = min era.tile n

split_some : (h : History) (n number : ℕ) (era : Era) → era_at (policy_of h) number ≡ Some era → IsSplit (layout h) n number (min era.tile n)
split_some h n zero era is =
    let first : (policy_of h).first ≡ era = cc in
    let nought : era.tile ≡ 0 = sym (ap (λ (e : Era). e.tile) first) ∙ ap (λ (e : Era). e.tile) (first_is h) in
    record {
      within = omega arith;
      before = λ tile below. absurd (omega (arith, below, nought));
      behind = λ tile below from. omega arith;
    }
split_some h n (suc i) era is = record {
  within = omega arith;
  before = λ tile below. elim (cases_lt (era_of (layout h) tile) (suc i)) [
    | inl less ↦ less
    | inr more ↦ absurd (let many = so_many h tile in let begun = sealed_below h (suc tile) i era (omega (arith, many, more)) is in omega (arith, begun, below))
  ];
  behind = λ tile below from.
      (let begun = reached (policy_of h).first.tile (suc tile) (policy_of h).later i era (eras_ascend h) is (omega (arith, below, from)) in
      let many = so_many h tile ∙ ap (λ (es : List Era). length es) (sealed_are h (suc tile)) in
      omega (arith, begun, many));
}

split_none : (h : History) (n number : ℕ) → era_at (policy_of h) number ≡ None → IsSplit (layout h) n number n
split_none h n zero none = absurd cc
split_none h n (suc i) none = record {
  within = omega arith;
  before = λ tile below.
      (let many = so_many h tile in
      let r = sealed_come_first h (suc tile) in
      let long = ap (λ (es : List Era). length es) r.1 ∙ length-append (sealed_eras (layout h) (suc tile)) r.0 in
      let few = past (policy_of h).later i none in
      omega (arith, many, long, few));
  behind = λ tile below from. absurd (omega (arith, below, from));
}

pub begins_at_era : (h : History) (n number : ℕ) (era : Option Era) → era ≡ era_at (policy_of h) number → begin_of era n ≡ tiles_before (layout h) n number
begins_at_era h n number None is = only_split (layout h) n number n (split_none h n number (sym is))
begins_at_era h n number (Some era) is = only_split (layout h) n number (min era.tile n) (split_some h n number era (sym is))
