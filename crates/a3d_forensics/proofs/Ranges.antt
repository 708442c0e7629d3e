-- The tiles of an era lie side by side.
use Rattle.std.proofs.Common.{◌≡◌, ℕ, zero, suc, ◌+◌, ◌-◌, ◌<◌, ◌≤◌, nat_lt, Bool, true, false, cond, List, [], ◌∷◌, ◌++◌, length, filter, Option, Some, None, refl, sym, ap, subst, ◌∙◌, inl, inr, length-append, arith}
use Rattle.std.specs.List.{Contains, range_with_len, sum_by}
use Rattle.std.proofs.lemmas.Bool.{cases_lt, eq-eqb, eqb-true, ne_eqb}
use Rattle.std.proofs.lemmas.Bool.Decides.{nat_tests}
use Rattle.std.proofs.lemmas.List.{append_assoc}
use Rattle.std.proofs.lemmas.List.Elements.{All-contains, Contains-append_right, filter-append}
use Rattle.std.proofs.lemmas.List.Sums.{sum_by-cons, AllPass-from_list_all}
use Rattle.history_model.specs.History.{History}
use Rattle.digest_model.specs.Layout.{Era, Layout, layout, tile_size, first_granule, turns, sealed_eras, era_of, is_none, era_start}
use Rattle.digest_model.proofs.Layouts as layouts
use Rattle.digest_model.proofs.Lists.{in_range, from_range, in_filter, from_filter, passes, range_more}
use Rattle.audit_model.specs.Ranges.{is_of, range_of, granules_in, range_has}
use Rattle.a3d_forensics.specs.Trees.{tiles_before}

-- ---- numbers that pass a test and lie side by side

side_by_side : (p : ℕ → Bool) (s n a b : ℕ) → s ≤ a → a ≤ b → b ≤ s + n
    → ((t : ℕ) → s ≤ t → t < s + n → t < a → p t ≡ false)
    → ((t : ℕ) → s ≤ t → t < s + n → a ≤ t → t < b → p t ≡ true)
    → ((t : ℕ) → s ≤ t → t < s + n → b ≤ t → p t ≡ false)
    → filter p (range_with_len s n) ≡ range_with_len a (b - a)
side_by_side p s zero a b low up within before inside behind = (let none : b - a ≡ 0 = omega (arith, low, up, within) in rw none refl)
side_by_side p s (suc n) a b low up within before inside behind = elim (cases_lt s a) [
  | inl ahead ↦
      (let first : p s ≡ false = before s (omega arith) (omega arith) ahead in
      let rest = side_by_side p (s + 1) n a b (omega (arith, ahead)) up (omega (arith, within))
      (λ t from to. before t (omega (arith, from)) (omega (arith, to))) (λ t from to. inside t (omega (arith, from)) (omega (arith, to))) (λ t from to. behind t (omega (arith, from)) (omega (arith, to))) in
      rw (first, rest) refl)
  | inr reached ↦
      (let here_it : s ≡ a = omega (arith, low, reached) in
      elim (cases_lt s b) [
        | inl some ↦
            (let first : p s ≡ true = inside s (omega arith) (omega arith) (omega (arith, here_it)) some in
            let rest = side_by_side p (s + 1) n (s + 1) b (omega arith) (omega (arith, some)) (omega (arith, within))
            (λ t from to below. absurd (omega (arith, from, below))) (λ t from to above. inside t (omega (arith, from)) (omega (arith, to)) (omega (arith, from, here_it)))
            (λ t from to. behind t (omega (arith, from)) (omega (arith, to))) in
            let count : b - a ≡ suc (b - (s + 1)) = omega (arith, some, here_it) in
            rw (first, rest, count, ← here_it) refl)
        | inr ended ↦
            (let first : p s ≡ false = behind s (omega arith) (omega arith) ended in
            let rest = side_by_side p (s + 1) n (s + 1) (s + 1) (omega arith) (omega arith) (omega arith)
            (λ t from to below. absurd (omega (arith, from, below))) (λ t from to above below. absurd (omega (arith, above, below)))
            (λ t from to above. behind t (omega (arith, from)) (omega (arith, to)) (omega (arith, from, ended))) in
            let none : b - a ≡ 0 = omega (arith, ended, here_it, up) in
            let nothing : s + 1 - (s + 1) ≡ 0 = omega arith in
            rw (first, rest, none, nothing) refl)
      ])
]

-- ---- numbers one after another

first_next : (s e : ℕ) → 0 < e - s → range_with_len s (e - s) ≡ s ∷ range_with_len (s + 1) (e - (s + 1))
first_next s e some = (let count : e - s ≡ suc (e - (s + 1)) = omega (arith, some) in rw count refl)

module _ (numbers done : List ℕ) (s e number : ℕ) (are : numbers ≡ done ++ range_with_len s (e - s)) (some : 0 < e - s) (first : number ≡ s) where
  -- the first one that is left
  pub among : Contains numbers number
  among = subst (λ (ns : List ℕ). Contains ns number) (sym are) (Contains-append_right done (range_with_len s (e - s)) number (in_range s (e - s) number (omega (arith, first)) (omega (arith, some, first))))

  module _ (s' e' : ℕ) (same : e' ≡ e) (next : s' ≡ s + 1) where
    -- behind it are the others
    pub left_behind : range_with_len s (e - s) ≡ number ∷ range_with_len s' (e' - s')
    left_behind = first_next s e some ∙ (rw (first, next, same) refl)

    pub moved : numbers ≡ (done ++ number ∷ []) ++ range_with_len s' (e' - s')
    moved = are ∙ ap (λ (ns : List ℕ). done ++ ns) left_behind ∙ sym (append_assoc done (number ∷ []) (range_with_len s' (e' - s')))

-- none is left
pub none_left : (s e : ℕ) → e - s ≡ 0 → range_with_len s (e - s) ≡ []
none_left s e none = ap (range_with_len s) none

-- ---- the tiles before an era

-- so many of the first n tiles lie before an era, and they are the first ones
pub record IsSplit (l : Layout) (n era count : ℕ) : Type 0 where
  pub within : count ≤ n
  pub before : (tile : ℕ) → tile < count → era_of l tile < era
  pub behind : (tile : ℕ) → tile < n → count ≤ tile → era ≤ era_of l tile

module _ (l : Layout) where
  eras_rise : (a b : ℕ) → a ≤ b → era_of l a ≤ era_of l b
  unfolding era_of
  eras_rise a b le =
      let r = layouts.eras_begin l (suc a) (suc b) (omega (arith, le)) in
      let long = length-append (sealed_eras l (suc a)) r.0 in
      rw r.1 (omega (arith, long))

  next_era : (tile : ℕ) → era_of l (suc tile) ≡ era_of l tile + length (turns l (suc tile))
  unfolding era_of sealed_eras
  next_era tile = length-append (sealed_eras l tile ++ turns l tile) (turns l (suc tile))

  none_before : (era : ℕ) → tiles_before l 0 era ≡ 0
  unfolding tiles_before
  none_before era = refl

  one_more : (n era : ℕ) → tiles_before l (suc n) era ≡ tiles_before l n era + cond (nat_lt (era_of l n) era) 1 0
  unfolding tiles_before
  one_more n era =
      let p = λ (tile : ℕ). nat_lt (era_of l tile) era in
      let more : range_with_len 0 (n + 1) ≡ range_with_len 0 n ++ n ∷ [] = range_more 0 n n (omega arith) in
      let next : suc n ≡ n + 1 = omega arith in
      ap (λ (m : ℕ). length (filter p (range_with_len 0 m))) next ∙ ap (λ (tiles : List ℕ). length (filter p tiles)) more
      ∙ ap (λ (tiles : List ℕ). length tiles) (filter-append p (range_with_len 0 n) (n ∷ [])) ∙ length-append (filter p (range_with_len 0 n)) (filter p (n ∷ []))
      ∙ ap (λ (m : ℕ). length (filter p (range_with_len 0 n)) + m) (last (nat_lt (era_of l n) era))
    where
      last : (b : Bool) → length (cond b (n ∷ []) []) ≡ cond b 1 0
      last true = refl
      last false = refl

  pub splits : (n era : ℕ) → IsSplit l n era (tiles_before l n era)
  splits zero era = (let none = none_before era in record {
    within = omega (arith, none);
    before = λ tile below. absurd (omega (arith, none, below));
    behind = λ tile below from. absurd (omega (arith, below));
  })
  splits (suc n) era =
      let was = splits n era in
      let few = was.within in
      elim (cases_lt (era_of l n) era) [
        | inl low ↦
            (let test : nat_lt (era_of l n) era ≡ true = grind (arith, nat_tests, low) in
            let count : tiles_before l (suc n) era ≡ tiles_before l n era + 1 = one_more n era ∙ ap (λ (b : Bool). tiles_before l n era + cond b 1 0) test in
            let all : tiles_before l n era ≡ n = elim (cases_lt (tiles_before l n era) n) [
              | inl left ↦ absurd (let at = was.behind (tiles_before l n era) left (omega arith) in let up = eras_rise (tiles_before l n era) n (omega (arith, left)) in omega (arith, at, up, low))
              | inr full ↦ omega (arith, full, few)
            ] in
            record {
              within = omega (arith, count, all);
              before = λ tile below. (let up = eras_rise tile n (omega (arith, below, count, all)) in omega (arith, up, low));
              behind = λ tile below from. absurd (omega (arith, below, from, count, all));
            })
        | inr high ↦
            (let test : nat_lt (era_of l n) era ≡ false = grind (arith, nat_tests, high) in
            let count : tiles_before l (suc n) era ≡ tiles_before l n era + 0 = one_more n era ∙ ap (λ (b : Bool). tiles_before l n era + cond b 1 0) test in
            record {
              within = omega (arith, count, few);
              before = λ tile below. was.before tile (omega (arith, below, count));
              behind = λ tile below from. elim (cases_lt tile n) [
                | inl inside ↦ was.behind tile inside (omega (arith, from, count))
                | inr last ↦ (let is : n ≡ tile = omega (arith, last, below) in subst (λ (t : ℕ). era ≤ era_of l t) is high)
              ];
            })
      ]

  -- and no other number of tiles does so
  pub only_split : (n era count : ℕ) → IsSplit l n era count → count ≡ tiles_before l n era
  only_split n era count is =
      let own = splits n era in
      let few = is.within in
      let own_few = own.within in
      elim (cases_lt count (tiles_before l n era)) [
        | inl less ↦ absurd (let low = own.before count less in let high = is.behind count (omega (arith, less, own_few)) (omega arith) in omega (arith, low, high))
        | inr most ↦ elim (cases_lt (tiles_before l n era) count) [
          | inl more ↦ absurd (let low = is.before (tiles_before l n era) more in let high = own.behind (tiles_before l n era) (omega (arith, more, few)) (omega arith) in omega (arith, low, high))
          | inr least ↦ omega (arith, most, least)
        ]
      ]

  -- ---- the tiles of an era

  pub up : (n era : ℕ) → tiles_before l n era ≤ tiles_before l n (era + 1)
  up n era = elim (cases_lt (tiles_before l n (era + 1)) (tiles_before l n era)) [
    | inl less ↦
        absurd (let few = (splits n era).within in
        let low = (splits n era).before (tiles_before l n (era + 1)) less in
        let high = (splits n (era + 1)).behind (tiles_before l n (era + 1)) (omega (arith, less, few)) (omega arith) in
        omega (arith, low, high))
    | inr is ↦ is
  ]

  -- its tiles and no others lie between its begin and that of the next one
  pub inside_era : (n era tile : ℕ) → tiles_before l n era ≤ tile → tile < tiles_before l n (era + 1) → era_of l tile ≡ era
  inside_era n era tile from to =
      let few = (splits n (era + 1)).within in
      let low = (splits n era).behind tile (omega (arith, to, few)) from in
      let high = (splits n (era + 1)).before tile to in
      omega (arith, low, high)

  pub era_inside : (n tile : ℕ) → tile < n → (tiles_before l n (era_of l tile) ≤ tile) × (tile < tiles_before l n (era_of l tile + 1))
  era_inside n tile below = (
    elim (cases_lt tile (tiles_before l n (era_of l tile))) [
      | inl less ↦ absurd (let low = (splits n (era_of l tile)).before tile less in omega (arith, low))
      | inr is ↦ is
    ],
    elim (cases_lt tile (tiles_before l n (era_of l tile + 1))) [
      | inl is ↦ is
      | inr more ↦ absurd (let high = (splits n (era_of l tile + 1)).behind tile below more in omega (arith, high))
    ],
  )

  pub era_range : (n era : ℕ) → range_of (Some era) l n ≡ range_with_len (tiles_before l n era) (tiles_before l n (era + 1) - tiles_before l n era)
  unfolding range_of
  era_range n era =
      let few = (splits n (era + 1)).within in
      side_by_side (is_of (Some era) l) 0 n (tiles_before l n era) (tiles_before l n (era + 1)) (omega arith) (up n era) (omega (arith, few))
      (λ t from to below. (let low = (splits n era).before t below in ne_eqb (era_of l t) era (λ e. omega (arith, e, low))))
      (λ t from to above below. eq-eqb (era_of l t) era (inside_era n era t above below))
      (λ t from to above. (let high = (splits n (era + 1)).behind t (omega (arith, to)) above in ne_eqb (era_of l t) era (λ e. omega (arith, e, high))))

  all_of : (tiles : List ℕ) → filter (is_of None l) tiles ≡ tiles
  all_of [] = refl
  all_of (t ∷ tiles) = ap (λ (ts : List ℕ). t ∷ ts) (all_of tiles)

  pub whole_range : (n : ℕ) → range_of None l n ≡ range_with_len 0 n
  unfolding range_of
  whole_range n = all_of (range_with_len 0 n)

  -- ---- the tiles of a range

  pub in_range_of : (era : Option ℕ) (n tile : ℕ) → Contains (range_of era l n) tile → tile < n
  unfolding range_of
  in_range_of era n tile is = (let r = from_range 0 n tile (from_filter (is_of era l) (range_with_len 0 n) tile is) in omega (arith, r))

  pub of_all : (n tile : ℕ) → tile < n → Contains (range_of None l n) tile
  of_all n tile below = subst (λ (tiles : List ℕ). Contains tiles tile) (sym (whole_range n)) (in_range 0 n tile (omega arith) (omega (arith, below)))

  pub of_own : (n tile : ℕ) → tile < n → Contains (range_of (Some (era_of l tile)) l n) tile
  unfolding range_of
  of_own n tile below = in_filter (is_of (Some (era_of l tile)) l) (range_with_len 0 n) tile (in_range 0 n tile (omega arith) (omega (arith, below))) (eq-eqb (era_of l tile) (era_of l tile) refl)

  pub own_era : (n era tile : ℕ) → Contains (range_of (Some era) l n) tile → era_of l tile ≡ era
  unfolding range_of
  own_era n era tile is = eqb-true (era_of l tile) era (passes (is_of (Some era) l) (range_with_len 0 n) tile is)

  -- the tiles of a range's era are all in it
  pub own_tiles : (era : Option ℕ) (n tile : ℕ) → Contains (range_of era l n) tile → (other : ℕ) → Contains (range_of (Some (era_of l tile)) l n) other → Contains (range_of era l n) other
  own_tiles None n tile is other among = of_all n other (in_range_of (Some (era_of l tile)) n other among)
  own_tiles (Some era) n tile is other among = subst (λ (e : ℕ). Contains (range_of (Some e) l n) other) (own_era n era tile is) among

  -- ---- their granules

  granules_from_to : (a d : ℕ) → first_granule l a + sum_by (tile_size l) (range_with_len a d) ≡ first_granule l (a + d)
  granules_from_to a zero = (let none : a + 0 ≡ a = omega arith in rw none (omega arith))
  granules_from_to a (suc d) =
      let rest = granules_from_to (a + 1) d in
      let sum = sum_by-cons (tile_size l) a (range_with_len (a + 1) d) in
      let ends = layouts.adjoin l a in
      let place : a + suc d ≡ a + 1 + d = omega arith in
      rw place (omega (arith, rest, sum, ends))

  pub era_granules : (n era : ℕ) → first_granule l (tiles_before l n era) + granules_in (Some era) l n ≡ first_granule l (tiles_before l n (era + 1))
  unfolding granules_in
  era_granules n era =
      let le = up n era in
      let end : tiles_before l n era + (tiles_before l n (era + 1) - tiles_before l n era) ≡ tiles_before l n (era + 1) = omega (arith, le) in
      ap (λ (tiles : List ℕ). first_granule l (tiles_before l n era) + sum_by (tile_size l) tiles) (era_range n era)
      ∙ granules_from_to (tiles_before l n era) (tiles_before l n (era + 1) - tiles_before l n era)
      ∙ ap (first_granule l) end

  pub all_granules : (n : ℕ) → granules_in None l n ≡ first_granule l n
  unfolding granules_in
  all_granules n =
      let sum = granules_from_to 0 n in
      let none = layouts.begins l in
      let end : first_granule l (0 + n) ≡ first_granule l n = (let place : 0 + n ≡ n = omega arith in ap (first_granule l) place) in
      let whole : sum_by (tile_size l) (range_with_len 0 n) ≡ first_granule l n = omega (arith, sum, none, end) in
      ap (sum_by (tile_size l)) (whole_range n) ∙ whole

  pub granules_few : (era : Option ℕ) (n : ℕ) → granules_in era l n ≤ first_granule l n
  granules_few None n = (let all = all_granules n in omega (arith, all))
  granules_few (Some era) n =
      let sum = era_granules n era in
      let high = layouts.ascends l (tiles_before l n (era + 1)) n (splits n (era + 1)).within in
      omega (arith, sum, high)

  -- ---- where an era starts

  none_turns : (es : List Era) → length es ≡ 0 → is_none es ≡ true
  none_turns [] none = refl
  none_turns (e ∷ es) none = absurd (omega (arith, none))

  some_turns : (es : List Era) → (length es ≡ 0 → ⊥) → is_none es ≡ false
  some_turns [] some = absurd (some refl)
  some_turns (e ∷ es) some = refl

  -- in one era none begins
  pub goes_on : (tile : ℕ) → era_of l (suc tile) ≡ era_of l tile → is_none (turns l (suc tile)) ≡ true
  goes_on tile same = (let next = next_era tile in none_turns (turns l (suc tile)) (omega (arith, next, same)))

  starts_on : (tile : ℕ) → is_none (turns l (suc tile)) ≡ true → era_start l (suc tile) ≡ era_start l tile
  unfolding era_start
  starts_on tile none = rw none refl

  starts_here : (tile : ℕ) → era_of l tile < era_of l (suc tile) → era_start l (suc tile) ≡ suc tile
  unfolding era_start
  starts_here tile less = (let next = next_era tile in let some = some_turns (turns l (suc tile)) (λ none. omega (arith, next, less, none)) in rw some refl)

  starts_first : era_start l 0 ≡ 0
  unfolding era_start
  starts_first = refl

  begin_is : (n era a : ℕ) → a ≡ tiles_before l n era → a < tiles_before l n (era + 1) → era_start l a ≡ a
  begin_is n era zero is some = starts_first
  begin_is n era (suc a) is some =
      let low = (splits n era).before a (omega (arith, is)) in
      let own = inside_era n era (suc a) (omega (arith, is)) some in
      starts_here a (omega (arith, low, own))

  start_on : (n era d : ℕ) → tiles_before l n era + d < tiles_before l n (era + 1) → era_start l (tiles_before l n era + d) ≡ tiles_before l n era
  start_on n era zero below =
      let none : tiles_before l n era + 0 ≡ tiles_before l n era = omega arith in
      ap (era_start l) none ∙ begin_is n era (tiles_before l n era) refl (omega (arith, below))
  start_on n era (suc d) below =
      let next : tiles_before l n era + suc d ≡ suc (tiles_before l n era + d) = omega arith in
      let here_it = inside_era n era (suc (tiles_before l n era + d)) (omega arith) (omega (arith, below)) in
      let before = inside_era n era (tiles_before l n era + d) (omega arith) (omega (arith, below)) in
      ap (era_start l) next ∙ starts_on (tiles_before l n era + d) (goes_on (tiles_before l n era + d) (here_it ∙ sym before)) ∙ start_on n era d (omega (arith, below))

  pub start_is : (n era tile : ℕ) → tiles_before l n era ≤ tile → tile < tiles_before l n (era + 1) → era_start l tile ≡ tiles_before l n era
  start_is n era tile from to =
      let place : tiles_before l n era + (tile - tiles_before l n era) ≡ tile = omega (arith, from) in
      ap (era_start l) (sym place) ∙ start_on n era (tile - tiles_before l n era) (omega (arith, place, to))

-- ---- what each tile of a range has

pub each_has : (has : Layout → ℕ → Bool) (era : Option ℕ) (s : History) (n tile : ℕ) → range_has has era s n ≡ true → Contains (range_of era (layout s) n) tile → has (layout s) tile ≡ true
unfolding range_has
each_has has None s zero tile all is = absurd (let below = in_range_of (layout s) None 0 tile is in omega (arith, below))
each_has has None s (suc n) tile all is = All-contains (λ t. has (layout s) t ≡ true) (range_of None (layout s) (suc n)) tile (AllPass-from_list_all (has (layout s)) (range_of None (layout s) (suc n)) all) is
each_has has (Some era) s n tile all is = All-contains (λ t. has (layout s) t ≡ true) (range_of (Some era) (layout s) n) tile (AllPass-from_list_all (has (layout s)) (range_of (Some era) (layout s) n) all) is
