-- The tiles of an era have the same chains.
use Rattle.std.proofs.Common.{◌≡◌, ℕ, zero, suc, ◌+◌, ◌-◌, ◌/◌, ◌^◌, ◌<◌, ◌≤◌, bit_and, Bool, true, false, List, Option, Some, None, refl, sym, ap, subst, ◌∙◌, ◌⊎◌, inl, inr, arith}
use Rattle.std.specs.Prelude.{nat_eq}
use Rattle.std.specs.List.{Contains, All, list_all, range_with_len}
use Rattle.std.specs.Int.{bit_at}
use Rattle.std.specs.Option.{is_some}
use Rattle.std.proofs.lemmas.Bool.{cases_Bool}
use Rattle.std.proofs.lemmas.Nat.Bits.{shr_and_one}
use Rattle.std.proofs.lemmas.List.Elements.{All-contains}
use Rattle.std.proofs.lemmas.List.Sums.{AllPass-from_list_all, list_all-from_AllPass}
use Rattle.history_model.specs.History.{History}
use Rattle.digest_model.specs.Layout.{Layout, layout, first_era, layout_by, turns, is_none, era_of}
use Rattle.digest_model.proofs.Layouts.{chains_bit, tree_bit}
use Rattle.digest_model.proofs.Eras.{chains_on, tree_on}
use Rattle.digest_model.proofs.Lists.{in_range, from_range}
use Rattle.audit_model.specs.Ranges.{range_of, range_has}
use Rattle.audit_model.proofs.Filed.{each}
use Rattle.a3d_forensics.specs.declared.chains.Chains.{Chains}
use Rattle.a3d_forensics.specs.declared.chains.Chains.TheVariants.{Tiles, Tree}
use Rattle.a3d_forensics.specs.Chains.{has_of}
use Rattle.a3d_forensics.specs.Trees.{tiles_before, eras_in}
use Rattle.a3d_forensics.proofs.EraTrees.{in_range_too, era_in_range}
use Rattle.a3d_forensics.proofs.Ranges.{inside_era, era_range, in_range_of, of_own, goes_on}

-- ---- by the bits of the algorithms

pub by_chains : (l : Layout) (tile algs : ℕ) → l.algorithms tile ≡ algs → nat_eq (bit_and algs 1) 1 ≡ has_of Tiles l tile
by_chains l tile algs is =
    let digit : algs ≡ algs / 2 ^ 0 = omega arith in
    ap (λ (n : ℕ). nat_eq (bit_and n 1) 1) digit ∙ ap (λ (n : ℕ). nat_eq n 1) (shr_and_one algs 0) ∙ ap (λ (a : ℕ). nat_eq (bit_at a 0) 1) (sym is) ∙ sym (chains_bit l tile)

pub by_tree : (l : Layout) (tile algs : ℕ) → l.algorithms tile ≡ algs → nat_eq (bit_and (algs / 2) 1) 1 ≡ has_of Tree l tile
by_tree l tile algs is =
    let digit : algs / 2 ≡ algs / 2 ^ 1 = omega arith in
    ap (λ (n : ℕ). nat_eq (bit_and n 1) 1) digit ∙ ap (λ (n : ℕ). nat_eq n 1) (shr_and_one algs 1) ∙ ap (λ (a : ℕ). nat_eq (bit_at a 1) 1) (sym is) ∙ sym (tree_bit l tile)

-- ---- within an era

has_on : (h : History) (chains : Chains) (tile : ℕ) → is_none (turns (layout h) (suc tile)) ≡ true → has_of chains (layout h) (suc tile) ≡ has_of chains (layout h) tile
has_on h Tiles tile none = chains_on h tile none
has_on h Tree tile none = tree_on h tile none

module _ (h : History) (chains : Chains) (n era : ℕ) where
  has_from : (d : ℕ) → tiles_before (layout h) n era + d < tiles_before (layout h) n (era + 1)
      → has_of chains (layout h) (tiles_before (layout h) n era + d) ≡ has_of chains (layout h) (tiles_before (layout h) n era)
  has_from zero below = (let none : tiles_before (layout h) n era + 0 ≡ tiles_before (layout h) n era = omega arith in ap (has_of chains (layout h)) none)
  has_from (suc d) below =
      let next : tiles_before (layout h) n era + suc d ≡ suc (tiles_before (layout h) n era + d) = omega arith in
      let here_it = inside_era (layout h) n era (suc (tiles_before (layout h) n era + d)) (omega arith) (omega (arith, below)) in
      let before = inside_era (layout h) n era (tiles_before (layout h) n era + d) (omega arith) (omega (arith, below)) in
      ap (has_of chains (layout h)) next
      ∙ has_on h chains (tiles_before (layout h) n era + d) (goes_on (layout h) (tiles_before (layout h) n era + d) (here_it ∙ sym before))
      ∙ has_from d (omega (arith, below))

  has_in : (tile : ℕ) → tiles_before (layout h) n era ≤ tile → tile < tiles_before (layout h) n (era + 1) → has_of chains (layout h) tile ≡ has_of chains (layout h) (tiles_before (layout h) n era)
  has_in tile from to =
      let place : tiles_before (layout h) n era + (tile - tiles_before (layout h) n era) ≡ tile = omega (arith, from) in
      ap (has_of chains (layout h)) (sym place) ∙ has_from (tile - tiles_before (layout h) n era) (omega (arith, place, to))

  -- of no tile
  pub none_have : tiles_before (layout h) n era ≡ tiles_before (layout h) n (era + 1) → true ≡ list_all (has_of chains (layout h)) (range_of (Some era) (layout h) n)
  none_have same =
      let none : tiles_before (layout h) n (era + 1) - tiles_before (layout h) n era ≡ 0 = omega (arith, same) in
      sym (ap (list_all (has_of chains (layout h))) (era_range (layout h) n era ∙ ap (range_with_len (tiles_before (layout h) n era)) none))

  -- the first one tells
  pub first_has : tiles_before (layout h) n era < tiles_before (layout h) n (era + 1)
      → has_of chains (layout h) (tiles_before (layout h) n era) ≡ list_all (has_of chains (layout h)) (range_of (Some era) (layout h) n)
  first_has some =
      let first = tiles_before (layout h) n era in
      let tiles = range_of (Some era) (layout h) n in
      let is_in : (tile : ℕ) → tiles_before (layout h) n era ≤ tile → tile < tiles_before (layout h) n (era + 1) → Contains (range_of (Some era) (layout h) n) tile =
      λ tile from to. subst (λ (ts : List ℕ). Contains ts tile) (sym (era_range (layout h) n era))
      (in_range (tiles_before (layout h) n era) (tiles_before (layout h) n (era + 1) - tiles_before (layout h) n era) tile from (omega (arith, from, to))) in
      elim (cases_Bool (has_of chains (layout h) first)) [
        | inl has ↦ has ∙ sym (list_all-from_AllPass (has_of chains (layout h)) tiles
            (subst (λ (ts : List ℕ). All (λ t. has_of chains (layout h) t ≡ true) ts) (sym (era_range (layout h) n era))
            (each (λ t. has_of chains (layout h) t ≡ true) (range_with_len (tiles_before (layout h) n era) (tiles_before (layout h) n (era + 1) - tiles_before (layout h) n era))
            (λ t among. (let r = from_range (tiles_before (layout h) n era) (tiles_before (layout h) n (era + 1) - tiles_before (layout h) n era) t among in has_in t r.0 (omega (arith, r)) ∙ has)))))
        | inr lacks ↦ elim (cases_Bool (list_all (has_of chains (layout h)) tiles)) [
          | inl all ↦
              absurd (let has = All-contains (λ t. has_of chains (layout h) t ≡ true) tiles first (AllPass-from_list_all (has_of chains (layout h)) tiles all) (is_in first (omega arith) some) in
              let both : true ≡ false = sym has ∙ lacks in
              cc)
          | inr not_all ↦ lacks ∙ sym not_all
        ]
      ]

-- ---- in a range

pub no_era : (era : Option ℕ) → is_some era ≡ false → era ≡ None
no_era None none = refl
no_era (Some number) none = absurd cc

-- an era is named, or a tile is sealed
pub either_some : (era : Option ℕ) (n : ℕ) → (is_some era ≡ true) ⊎ (n ≡ 0 → ⊥) → era ≡ None → n ≡ 0 → ⊥
either_some None n (inl some) none nought = absurd cc
either_some (Some number) n (inl some) none nought = absurd cc
either_some era n (inr some) none nought = some nought

pub lists : (has : Layout → ℕ → Bool) (era : Option ℕ) (h : History) (n : ℕ) → (era ≡ None → n ≡ 0 → ⊥) → range_has has era h n ≡ list_all (has (layout h)) (range_of era (layout h) n)
unfolding range_has
lists has None h zero some = absurd (some refl refl)
lists has None h (suc n) some = refl
lists has (Some number) h n some = refl

pub of_header : (has : Layout → ℕ → Bool) (era : Option ℕ) (h : History) (n : ℕ) → era ≡ None → n ≡ 0 → range_has has era h n ≡ has (layout_by (first_era h.header)) 0
unfolding range_has
of_header has None h zero none nought = refl
of_header has None h (suc n) none nought = absurd (omega (arith, nought))
of_header has (Some number) h n none nought = absurd cc

module _ (l : Layout) (has : ℕ → Bool) (era : Option ℕ) (n : ℕ) where
  -- each era's tiles do
  pub all_have : All (λ number. list_all has (range_of (Some number) l n) ≡ true) (eras_in era l n) → list_all has (range_of era l n) ≡ true
  all_have all = list_all-from_AllPass has (range_of era l n) (each (λ t. has t ≡ true) (range_of era l n) (λ tile is.
      let own = All-contains (λ number. list_all has (range_of (Some number) l n) ≡ true) (eras_in era l n) (era_of l tile) all (era_in_range era l n tile is) in
      All-contains (λ t. has t ≡ true) (range_of (Some (era_of l tile)) l n) tile (AllPass-from_list_all has (range_of (Some (era_of l tile)) l n) own) (of_own l n tile (in_range_of l era n tile is))))

  -- those of one don't
  pub one_lacks : (number : ℕ) → Contains (eras_in era l n) number → list_all has (range_of (Some number) l n) ≡ false → list_all has (range_of era l n) ≡ false
  one_lacks number among lacks = elim (cases_Bool (list_all has (range_of era l n))) [
    | inl all ↦
        absurd (let own = list_all-from_AllPass has (range_of (Some number) l n) (each (λ t. has t ≡ true) (range_of (Some number) l n) (λ tile is.
        All-contains (λ t. has t ≡ true) (range_of era l n) tile (AllPass-from_list_all has (range_of era l n) all) (in_range_too era l n number among tile is))) in
        let both : true ≡ false = sym own ∙ lacks in
        cc)
    | inr is ↦ is
  ]
