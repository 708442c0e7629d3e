-- Granules below a number are a front of a list whose numbers ascend.
use Rattle.std.proofs.Common.{◌≡◌, ℕ, zero, suc, ◌+◌, ◌<◌, ◌≤◌, true, ltb, List, [], ◌∷◌, ◌++◌, length, get_or, take, filter, fold, refl, ap, ◌∙◌, inl, inr, arith}
use Rattle.std.specs.List.{flat_map}
use Rattle.std.specs.List.Sorted.{IsStrictlyIncreasing}
use Rattle.std.proofs.lemmas.Bool.{cases_Bool, cases_lt, ltb-true, ltb-false, lt-ltb}
use Rattle.std.proofs.lemmas.List.{take_more, append-nil, length-map, get_or-map, length-append}
use Rattle.std.proofs.lemmas.List.Concat.{flat_map-append}
use Rattle.std.proofs.lemmas.List.Kept.{AllPairs-from_increasing}
use Rattle.digest_model.specs.Digests.{next_link}
use Rattle.cumulative_chain.specs.Tiles.{Granule, numbers_of, spelled_below, front, AreBelow, IsSplit}

-- ---- one more granule

pub front_more : (gs : List Granule) (place : ℕ) → place < length gs → front gs (place + 1) ≡ front gs place ++ (get_or gs place (0, [])).1
unfolding front
front_more gs place h =
    ap (flat_map (λ (g : Granule). g.1)) (take_more gs place (0, []) h)
    ∙ flat_map-append (λ (g : Granule). g.1) (take place gs) (get_or gs place (0, []) ∷ [])
    ∙ ap (λ (x : List (List ℕ)). front gs place ++ x) (append-nil (get_or gs place (0, [])).1)

pub front_none : (gs : List Granule) → front gs 0 ≡ []
unfolding front
front_none gs = refl

pub fold-append : (start : List ℕ) (xs ys : List (List ℕ)) → fold next_link start (xs ++ ys) ≡ fold next_link (fold next_link start xs) ys
fold-append start [] ys = refl
fold-append start (x ∷ xs) ys = fold-append (next_link start x) xs ys

-- ---- the front

all_above : (m : ℕ) (gs : List Granule) → ((i : ℕ) → i < length gs → m ≤ (get_or gs i (0, [])).0) → filter (λ (g : Granule). ltb g.0 m) gs ≡ []
all_above m [] h = refl
all_above m (g ∷ gs) h =
    let first : m ≤ g.0 = h 0 (omega arith) in
    let rest = all_above m gs (λ i below. h (suc i) (omega arith)) in
    elim (cases_Bool (ltb g.0 m)) [
      | inl is ↦ absurd (let lt : g.0 < m = ltb-true g.0 m is in omega (arith, lt, first))
      | inr is_not ↦ rw is_not rest
    ]

taken_below : (m : ℕ) (gs : List Granule) (place : ℕ) → AreBelow gs place m → place ≤ length gs → ((i : ℕ) → place ≤ i → i < length gs → m ≤ (get_or gs i (0, [])).0)
    → filter (λ (g : Granule). ltb g.0 m) gs ≡ take place gs
taken_below m gs zero below within above = all_above m gs (λ i lt. above i (omega arith) lt)
taken_below m [] (suc place) below within above = refl
taken_below m (g ∷ gs) (suc place) below within above =
    let first : g.0 < m = below 0 (omega arith) in
    let rest = taken_below m gs place (λ i lt. below (suc i) (omega arith)) (omega arith) (λ i from lt. above (suc i) (omega arith) (omega arith)) in
    elim (cases_Bool (ltb g.0 m)) [
      | inl is ↦ rw is (ap (λ (x : List Granule). g ∷ x) rest)
      | inr is_not ↦ absurd (let ge : m ≤ g.0 = ltb-false g.0 m is_not in omega (arith, ge, first))
    ]

-- numbers ascend along the list
later_is_above : (gs : List Granule) → IsStrictlyIncreasing (numbers_of gs) → (i j : ℕ) → i ≤ j → j < length gs → (get_or gs i (0, [])).0 ≤ (get_or gs j (0, [])).0
later_is_above gs inc i j le lt = elim (cases_lt i j) [
  | inl before ↦
      (let long = length-map gs (λ (g : Granule). g.0) in
      let first = get_or-map (λ (g : Granule). g.0) gs i (0, []) 0 (omega arith) in
      let second = get_or-map (λ (g : Granule). g.0) gs j (0, []) 0 lt in
      let less = AllPairs-from_increasing (numbers_of gs) inc i j 0 before (omega (arith, long, lt)) in
      omega (arith, first, second, less))
  | inr same ↦ (let e : i ≡ j = omega arith in let one = ap (λ (k : ℕ). (get_or gs k (0, [])).0) e in omega (arith, one))
]

pub split_front : (gs : List Granule) (place end : ℕ) → IsStrictlyIncreasing (numbers_of gs) → IsSplit gs place end → spelled_below gs end ≡ front gs place
unfolding spelled_below front
split_front gs place end inc s =
    ap (flat_map (λ (g : Granule). g.1)) (taken_below end gs place s.below s.within
    (λ i from lt. let at : end ≤ (get_or gs place (0, [])).0 = s.stop (omega arith) in let more = later_is_above gs inc place i from lt in omega arith))

-- fewer granules have fewer spellings
pub below_grows : (gs : List Granule) (m n : ℕ) → m ≤ n → length (spelled_below gs m) ≤ length (spelled_below gs n)
unfolding spelled_below
below_grows [] m n le = omega arith
below_grows (g ∷ gs) m n le =
    let rest = below_grows gs m n le in
    elim (cases_Bool (ltb g.0 m)) [
      | inl in_m ↦
          (let lt : g.0 < m = ltb-true g.0 m in_m in
          let in_n : ltb g.0 n ≡ true = lt-ltb g.0 n (omega (arith, lt, le)) in
          rw (in_m, in_n) (simp length-append (omega (arith, rest))))
      | inr out_m ↦ rw out_m (elim (cases_Bool (ltb g.0 n)) [
        | inl in_n ↦ rw in_n (simp length-append (omega (arith, rest)))
        | inr out_n ↦ rw out_n rest
      ])
    ]
