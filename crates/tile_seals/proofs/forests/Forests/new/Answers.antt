use Rattle.std.proofs.Common.{◌≡◌, ℕ, ◌+◌, List, [], ◌∷◌, ◌++◌, length, map, sym, ap, ◌∙◌, arith}
use Rattle.std.specs.List.{range_with_len}
use Rattle.std.proofs.lemmas.List.FromFn.{map-range_with_len_more}
use Rattle.digest_model.specs.Layout.{Policy, policy_of}
use Rattle.digest_model.specs.Digests.{era_granule}
use Rattle.tile_seals.specs.Places.{tree_leaves, forest_of}
use Rattle.tile_seals.proofs.forests.Forests.new.Goals as goal

pub loop-era-preserved : goal.loop-era-preserved
unfolding tree_leaves
loop-era-preserved c = λ h.
    (let era = c.loop-era._era in
    c.in_ok-push.ensures.items
    ∙ ap (λ (x : List (List (List (List ℕ)))). x ++ c.in_ok-new.field-0 ∷ []) (c.loop-era.invariant h)
    ∙ ap (λ (x : List (List (List ℕ))). map (forest_of h 0) (range_with_len 0 c.loop-era._era) ++ x ∷ []) (c.in_ok-new.ensures.value h (era_granule h c.loop-era._era))
    ∙ sym (map-range_with_len_more (forest_of h 0) 0 era era (omega arith)))

pub returns : goal.returns
returns c = record {
  value = λ h e.
      (let all : c.loop-era._era ≡ c.count-count.result = omega arith in
      c.loop-era.invariant h
      ∙ ap (λ (n : ℕ). map (forest_of h 0) (range_with_len 0 n)) (all ∙ c.count-count.ensures.value)
      ∙ ap (λ (p : Policy). map (forest_of h 0) (range_with_len 0 (1 + length p.later))) e);
}
