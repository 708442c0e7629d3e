-- The values of kept chains are those of the history that they are of.
use Rattle.std.proofs.Common.{◌≡◌, ℕ, ◌<◌, ◌≤◌, max, List, [], ◌∷◌, map, refl, sym, ap, ◌∙◌, arith}
use Rattle.std.specs.List.{range_with_len}
use Rattle.tuple_bytes.specs.declared.header.Header.{Header}
use Rattle.tuple_bytes.specs.declared.item.Item.{Item}
use Rattle.history_model.specs.History.{History, history}
use Rattle.digest_model.specs.Layout.{Layout, layout, first_granule, max_granules, Policy, policy_of, layout_by}
use Rattle.digest_model.specs.Digests.{cum}
use Rattle.policy_eras.proofs.Histories.{layout_is}
use Rattle.chain_state.specs.Chained.{Chained, IsChainOf, history_of, ended, with_closed}
use Rattle.chain_state.proofs.Order.{agree}
use Rattle.validator.specs.Verdicts.{IsLinked}
use Rattle.validator.proofs.Kept.{have_ended}

same_links : (f g : ℕ → List ℕ) → ((i : ℕ) → f i ≡ g i) → (xs : List ℕ) → map f xs ≡ map g xs
same_links f g same [] = refl
same_links f g same (x ∷ xs) = ap (λ (d : List ℕ). d ∷ map f xs) (same x) ∙ ap (λ (ds : List (List ℕ)). g x ∷ ds) (same_links f g same xs)

module _ (c : Chained) (h : History) (is : IsChainOf c h) where
  -- granules that are closed besides change none
  pub closed_links : (k : Chained) (granule first count : ℕ) → k ≡ with_closed granule c → map (cum (history_of k)) (range_with_len first count) ≡ map (cum h) (range_with_len first count)
  closed_links k granule first count closed = same_links (cum (history_of k)) (cum h)
      (λ tile. ap (λ (x : Chained). cum (history_of x) tile) closed ∙ agree.cums c h is tile) (range_with_len first count)

  -- the header and the eras are the history's
  pub linked : (links : List (List ℕ)) (tiles : ℕ) → (first_granule (layout h) tiles ≤ max_granules → links ≡ map (cum h) (range_with_len 0 tiles)) → IsLinked h c.header (policy_of (history_of c)) links tiles
  linked links tiles are = record { header_is = sym is.header; eras_are = is.eras; links_are = are }

-- so many tiles have ended where the granules of these are closed
pub ended_behind : (c k : Chained) (tiles end : ℕ) → end ≡ first_granule (layout (history_of c)) tiles → k ≡ with_closed end c → tiles ≤ ended k
ended_behind c k tiles end is closed =
    let at : k.granule ≡ max c.granule end = ap (λ (x : Chained). x.granule) closed in
    have_ended k (history_of c) tiles (ap (λ (x : Chained). policy_of (history_of x)) closed) (omega (arith, is, at))

-- a place of the layout of the eras is one of the history's
module _ (h : History) (eras : Policy) (policy : eras ≡ policy_of h) (tiles end : ℕ) (is : end ≡ first_granule (layout_by eras) tiles) where
  pub first_of : end ≡ first_granule (layout h) tiles
  first_of = is ∙ ap (λ (l : Layout). first_granule l tiles) (layout_is h policy)

  pub past_last : max_granules < end → first_granule (layout h) tiles ≤ max_granules → ⊥
  past_last past within = (let at = first_of in omega (arith, at, past, within))
