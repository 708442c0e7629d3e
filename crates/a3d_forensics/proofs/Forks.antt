-- The nodes of a level that are reached and differ, and how many there are of all levels above the leaves.
use Rattle.std.proofs.Common.{◌≡◌, ℕ, zero, suc, ◌+◌, ◌*◌, ◌/◌, ◌%◌, ◌^◌, ◌<◌, ◌==◌, true, false, List, [], ◌∷◌, length, refl, sym, ap, ◌∙◌, inl, inr, arith, length-append}
use Rattle.std.specs.Prelude.{◌↔◌}
use Rattle.std.specs.List.{Contains, flat_map, sum_by}
use Rattle.std.specs.List.Sorted.{IsStrictlyIncreasing}
use Rattle.std.specs.Int.{bit_at}
use Rattle.std.proofs.lemmas.Bool.{cases_Bool}
use Rattle.std.proofs.lemmas.Nat.{shr-shr}
use Rattle.std.proofs.lemmas.List.Sums.{sum_by-cons, sum_by-append}
use Rattle.notary_link.specs.declared.answer.Answer.{Answer}
use Rattle.notary_link.specs.declared.answer.Answer.TheVariants.{Differs}
use Rattle.digest_model.specs.Roots.{has_root_at, down_from, roots_of}
use Rattle.digest_model.proofs.Nodes.{twice}
use Rattle.audit_model.specs.Tree.{Reached, as_root, as_child, is_different, found_from, forks_from, found, checks}
use Rattle.audit_model.proofs.Ascending.{ascend}
use Rattle.audit_model.proofs.Descent.{found_exact}
use Rattle.a3d_forensics.specs.Laws.{above, found_at}
use Rattle.a3d_forensics.specs.Rooted.{root_at_level, roots_below}
use Rattle.a3d_forensics.proofs.Rooted.{next_roots}
use Rattle.a3d_forensics.proofs.Above.{no_root}

-- ---- the trees above the leaves

halved : (granules level : ℕ) → granules / 2 / 2 ^ level ≡ granules / 2 ^ suc level
halved granules level = (let h : granules / 2 ^ 1 / 2 ^ level ≡ granules / 2 ^ (1 + level) = shr-shr granules 1 level in let e : suc level ≡ 1 + level = omega arith in rw e h)

digit_is : (granules level : ℕ) → bit_at (granules / 2) level ≡ bit_at granules (suc level)
digit_is granules level = ap (λ (n : ℕ). n % 2) (halved granules level)

place_is : (granules level : ℕ) → 2 * (granules / 2 / 2 ^ (level + 1)) ≡ 2 * (granules / 2 ^ (suc level + 1))
place_is granules level = (let e : suc (level + 1) ≡ suc level + 1 = omega arith in ap (λ (n : ℕ). 2 * n) (halved granules (level + 1) ∙ ap (λ (n : ℕ). granules / 2 ^ n) e))

module _ (granules : ℕ) (nodes : ℕ → ℕ → Answer) where
  raised : (level index : ℕ) → Reached (granules / 2) (above nodes) level index → Reached granules nodes (suc level) index
  raised level index (as_root root) = as_root (record { digit = sym (digit_is granules level) ∙ root.digit; place = root.place ∙ place_is granules level })
  raised level index (as_child up e) = as_child (raised (suc level) (index / 2) up) e

  lowered : (level index : ℕ) → Reached granules nodes (suc level) index → Reached (granules / 2) (above nodes) level index
  lowered level index (as_root root) = as_root (record { digit = digit_is granules level ∙ root.digit; place = root.place ∙ sym (place_is granules level) })
  lowered level index (as_child up e) = as_child (lowered (suc level) (index / 2) up) e

-- ---- the nodes of a level

pub exact_at : (level granules index : ℕ) (nodes : ℕ → ℕ → Answer) → granules < 2 ^ 32
    → Contains (found_at level granules nodes) index ↔ (Reached granules nodes level index × (nodes level index ≡ Differs))
unfolding found_at
exact_at zero granules index nodes small = (let is = found_exact granules index nodes small in
    (λ c. (let f = is.0 c in (f.reached, f.differs)), λ r. is.1 (record { reached = r.0; differs = r.1 })))
exact_at (suc level) granules index nodes small = (let is = exact_at level (granules / 2) index (above nodes) (omega (arith, small)) in
    (λ c. (let f = is.0 c in (raised granules nodes level index f.0, f.1)), λ r. is.1 (lowered granules nodes level index r.0, r.1)))

pub once_at : (level granules : ℕ) (nodes : ℕ → ℕ → Answer) → IsStrictlyIncreasing (found_at level granules nodes)
unfolding found_at
once_at zero granules nodes = ascend granules nodes
once_at (suc level) granules nodes = once_at level (granules / 2) (above nodes)

-- ---- how many there are

-- from a node, those a level above the leaves, and those above
forks_up : (nodes : ℕ → ℕ → Answer) (level index : ℕ) → forks_from nodes (suc level) index ≡ length (found_from (above nodes) level index) + forks_from (above nodes) level index
unfolding found_from forks_from
forks_up nodes zero index = elim (cases_Bool (is_different (nodes 1 index))) [
  | inl yes_it ↦ rw yes_it refl
  | inr no_it ↦ rw no_it refl
]
forks_up nodes (suc level) index =
    let left = forks_up nodes level (2 * index) in
    let right = forks_up nodes level (2 * index + 1) in
    let long = length-append (found_from (above nodes) level (2 * index)) (found_from (above nodes) level (2 * index + 1)) in
    elim (cases_Bool (is_different (nodes (suc (suc level)) index))) [
      | inl yes_it ↦ rw yes_it (omega (arith, left, right, long))
      | inr no_it ↦ rw no_it refl
    ]

abbrev forks : (ℕ → ℕ → Answer) → ℕ × ℕ → ℕ
forks nodes root = forks_from nodes root.0 root.1

abbrev raised_forks : (ℕ → ℕ → Answer) → ℕ × ℕ → ℕ
raised_forks nodes root = forks_from nodes (suc root.0) root.1

-- from some nodes
forks_above : (nodes : ℕ → ℕ → Answer) (roots : List (ℕ × ℕ))
    → sum_by (raised_forks nodes) roots ≡ length (flat_map (λ (r : ℕ × ℕ). found_from (above nodes) r.0 r.1) roots) + sum_by (forks (above nodes)) roots
forks_above nodes [] = omega arith
forks_above nodes (r ∷ roots) =
    let up = forks_up nodes r.0 r.1 in
    let rest = forks_above nodes roots in
    let all = sum_by-cons (raised_forks nodes) r roots in
    let higher = sum_by-cons (forks (above nodes)) r roots in
    let long = length-append (found_from (above nodes) r.0 r.1) (flat_map (λ (r : ℕ × ℕ). found_from (above nodes) r.0 r.1) roots) in
    omega (arith, up, rest, all, higher, long)

module _ (nodes : ℕ → ℕ → Answer) (granules : ℕ) where
  no_fork_at_leaf : sum_by (forks nodes) (root_at_level granules 0) ≡ 0
  unfolding forks_from
  no_fork_at_leaf = elim (cases_Bool (has_root_at granules 0)) [
    | inl one ↦ rw one refl
    | inr none ↦ rw none refl
  ]

  level_above : (level : ℕ) → sum_by (forks nodes) (root_at_level granules (suc level)) ≡ sum_by (raised_forks nodes) (root_at_level (granules / 2) level)
  level_above level =
      let same : has_root_at (granules / 2) level ≡ has_root_at granules (suc level) = ap (λ (digit : ℕ). digit == 1) (digit_is granules level) in
      elim (cases_Bool (has_root_at granules (suc level))) [
        | inl one ↦
            (let low : has_root_at (granules / 2) level ≡ true = same ∙ one in
            rw (one, low) (ap (λ (i : ℕ). sum_by (raised_forks nodes) ((level, i) ∷ [])) (sym (place_is granules level))))
        | inr none ↦ (let low : has_root_at (granules / 2) level ≡ false = same ∙ none in rw (none, low) refl)
      ]

  -- the leaves among the roots have none, and the others are a level higher than the roots above the leaves
  roots_above : (level : ℕ) → sum_by (forks nodes) (roots_below granules (suc level)) ≡ sum_by (raised_forks nodes) (roots_below (granules / 2) level)
  unfolding down_from
  roots_above zero =
      let high = ap (sum_by (forks nodes)) (next_roots granules 0) ∙ sum_by-append (forks nodes) (root_at_level granules 0) [] in
      let leaf = no_fork_at_leaf in
      omega (arith, high, leaf)
  roots_above (suc level) =
      let high = ap (sum_by (forks nodes)) (next_roots granules (suc level)) ∙ sum_by-append (forks nodes) (root_at_level granules (suc level)) (roots_below granules (suc level)) in
      let low = ap (sum_by (raised_forks nodes)) (next_roots (granules / 2) level) ∙ sum_by-append (raised_forks nodes) (root_at_level (granules / 2) level) (roots_below (granules / 2) level) in
      let one = level_above level in
      let rest = roots_above level in
      omega (arith, high, low, one, rest)

  top : granules < 2 ^ 32 → roots_below (granules / 2) 32 ≡ roots_below (granules / 2) 31
  top small = (let none = no_root (granules / 2) 31 (omega (arith, small)) in next_roots (granules / 2) 31 ∙ (rw none refl))

  step : granules < 2 ^ 32 → sum_by (forks nodes) (roots_of granules) ≡ length (found (granules / 2) (above nodes)) + sum_by (forks (above nodes)) (roots_of (granules / 2))
  unfolding roots_of found
  step small =
      roots_above 31 ∙ ap (sum_by (raised_forks nodes)) (sym (top small)) ∙ forks_above nodes (roots_below (granules / 2) 32)

-- the forks that are left above some levels
unfoldable left_above : ℕ → ℕ → (ℕ → ℕ → Answer) → ℕ
left_above zero granules nodes = sum_by (forks nodes) (roots_of granules)
left_above (suc level) granules nodes = left_above level (granules / 2) (above nodes)

one_level : (level granules : ℕ) (nodes : ℕ → ℕ → Answer) → granules < 2 ^ 32
    → left_above level granules nodes ≡ length (found_at (suc level) granules nodes) + left_above (suc level) granules nodes
unfolding left_above found_at
one_level zero granules nodes small = step nodes granules small
one_level (suc level) granules nodes small = one_level level (granules / 2) (above nodes) (omega (arith, small))

all_levels : (n granules : ℕ) (nodes : ℕ → ℕ → Answer) → granules < 2 ^ 32
    → left_above 0 granules nodes ≡ sum_by (λ level. length (found_at (suc level) granules nodes)) (down_from n) + left_above n granules nodes
unfolding down_from
all_levels zero granules nodes small = omega arith
all_levels (suc n) granules nodes small =
    let before = all_levels n granules nodes small in
    let next = one_level n granules nodes small in
    let sum = sum_by-cons (λ (level : ℕ). length (found_at (suc level) granules nodes)) n (down_from n) in
    omega (arith, before, next, sum)

no_roots : (nodes : ℕ → ℕ → Answer) → sum_by (forks nodes) (roots_of 0) ≡ 0
unfolding roots_of down_from
no_roots nodes = refl

none_left : (level granules : ℕ) (nodes : ℕ → ℕ → Answer) → granules < 2 ^ level → left_above level granules nodes ≡ 0
unfolding left_above
none_left zero granules nodes small = (let none : granules ≡ 0 = omega (arith, small) in ap (λ (n : ℕ). sum_by (forks nodes) (roots_of n)) none ∙ no_roots nodes)
none_left (suc level) granules nodes small = none_left level (granules / 2) (above nodes) (let width = twice level in omega (arith, small, width))

begins : (granules : ℕ) (nodes : ℕ → ℕ → Answer) → left_above 0 granules nodes ≡ sum_by (forks nodes) (roots_of granules)
unfolding left_above
begins granules nodes = refl

pub counted : (granules : ℕ) (nodes : ℕ → ℕ → Answer) → granules < 2 ^ 32
    → checks granules nodes ≡ length (roots_of granules) + 2 * sum_by (λ level. length (found_at (suc level) granules nodes)) (down_from 32)
unfolding checks
counted granules nodes small =
    let first = begins granules nodes in
    let all = all_levels 32 granules nodes small in
    let none = none_left 32 granules nodes small in
    omega (arith, first, all, none)
