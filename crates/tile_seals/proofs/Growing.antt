-- Levels while the nodes over more leaves are added, level by level.
use Rattle.std.proofs.Common.{◌≡◌, ℕ, suc, ◌+◌, ◌-◌, ◌/◌, ◌^◌, ◌<◌, ◌≤◌, List, [], length, get_or, set, map, sym, ap, subst, ◌∙◌, inl, inr, arith}
use Rattle.std.specs.List.{range_with_len}
use Rattle.std.proofs.lemmas.Bool.{cases_eq, cases_lt}
use Rattle.std.proofs.lemmas.Grind.{get_or-set_at}
use Rattle.std.proofs.lemmas.List.{length-set, get_or-set_other}
use Rattle.history_model.specs.History.{History}
use Rattle.digest_model.specs.Digests.{node_digest}
use Rattle.tile_seals.specs.Places.{level_of, levels_of}
use Rattle.tile_seals.proofs.Levels.{level_at, level_size, levels_count, levels_are, stopped}

-- the levels below this one are over m leaves, the others still over fewer
pub record IsGrown (h : History) (first before m level : ℕ) (levels : List (List (List ℕ))) : Type 0 where
  pub count : length levels ≡ 21
  pub low : (k : ℕ) → k < level → k < 21 → get_or levels k [] ≡ level_of h first m k
  pub high : (k : ℕ) → level ≤ k → k < 21 → get_or levels k [] ≡ level_of h first before k

-- one list more is short
pub few_set : (levels : List (List (List ℕ))) (i : ℕ) (x : List (List ℕ)) → i < length levels → length x < 2 ^ 32 → ((k : ℕ) → length (get_or levels k []) < 2 ^ 32) → (k : ℕ) → length (get_or (set levels i x) k []) < 2 ^ 32
few_set levels i x below short few k = elim (cases_eq k i) [
  | inl same ↦ (let at = ap length (get_or-set_at levels i k x [] same below) in omega (arith, at, short))
  | inr other ↦ (let at = ap length (get_or-set_other levels i k x [] other) in let own = few k in omega (arith, at, own))
]

module _ (h : History) (first before m : ℕ) (levels : List (List (List ℕ))) where
  -- with the lowest level
  pub grown_lowest : (lowest : List (List ℕ)) → levels ≡ levels_of h first before → lowest ≡ level_of h first m 0 → IsGrown h first before m 1 (set levels 0 lowest)
  grown_lowest lowest were is =
      let long = ap length were ∙ levels_count h first before in
      record {
        count = length-set levels 0 lowest ∙ long;
        low = λ k below inside. get_or-set_at levels 0 k lowest [] (omega (arith, below)) (omega (arith, long)) ∙ is ∙ (let none : 0 ≡ k = omega (arith, below) in ap (level_of h first m) none);
        high = λ k above inside. get_or-set_other levels 0 k lowest [] (λ e. omega (arith, e, above)) ∙ ap (λ (x : List (List (List ℕ))). get_or x k []) were ∙ level_at h first before k inside;
      }

  -- with one level more
  pub grown_next : (level : ℕ) (next : List (List (List ℕ))) → IsGrown h first before m level levels → level < 21 → next ≡ set levels level (level_of h first m level) → IsGrown h first before m (level + 1) next
  grown_next level next is inside made = subst (λ (x : List (List (List ℕ))). IsGrown h first before m (level + 1) x) (sym made) (record {
    count = length-set levels level (level_of h first m level) ∙ is.count;
    low = λ k below few. elim (cases_eq k level) [
      | inl same ↦ (let long = is.count in get_or-set_at levels level k (level_of h first m level) [] same (omega (arith, long, inside)) ∙ ap (level_of h first m) (sym same))
      | inr other ↦ get_or-set_other levels level k (level_of h first m level) [] other ∙ is.low k (omega (arith, below, other)) few
    ];
    high = λ k above few. get_or-set_other levels level k (level_of h first m level) [] (λ e. omega (arith, e, above)) ∙ is.high k (omega (arith, above)) few;
  })

  -- all are there behind the last one
  pub grown_all : (level : ℕ) → IsGrown h first before m level levels → level ≡ 21 → levels ≡ levels_of h first m
  grown_all level is past = levels_are h first m levels is.count (λ k inside. is.low k (omega (arith, past, inside)) inside)

  sized : (k : ℕ) → before / 2 ^ k ≡ m / 2 ^ k → level_of h first before k ≡ level_of h first m k
  sized k same = ap (λ (n : ℕ). map (node_digest h first k) (range_with_len 0 n)) same

  -- and where the last one has no more nodes than before
  pub grown_enough : (last : ℕ) → IsGrown h first before m (last + 1) levels → before ≤ m → m / 2 ^ last ≤ before / 2 ^ last → levels ≡ levels_of h first m
  grown_enough last is le few = levels_are h first m levels is.count (λ k inside. elim (cases_lt k (last + 1)) [
    | inl below ↦ is.low k below inside
    | inr above ↦ is.high k above inside ∙ sized k (sym (stopped before m last k le few (omega (arith, above))))
  ])
