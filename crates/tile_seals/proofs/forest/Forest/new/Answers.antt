use Rattle.std.proofs.Common.{◌≡◌, ℕ, List, [], ◌∷◌, ◌++◌, length, map, sym, ap, ◌∙◌, arith}
use Rattle.std.specs.List.{range_with_len}
use Rattle.std.proofs.lemmas.List.{length_push}
use Rattle.std.proofs.lemmas.List.FromFn.{map-range_with_len_more}
use Rattle.tile_seals.specs.Places.{level_of, levels_of}
use Rattle.tile_seals.proofs.Levels.{level_none}
use Rattle.tile_seals.proofs.forest.Forest.new.Goals as goal

pub loop-level-preserved : goal.loop-level-preserved
loop-level-preserved c =
    let n = c.loop-level._level in
    record {
      count = (let long = ap length c.in_ok-push.ensures.items ∙ length_push c.loop-level.levels.items c.new.result in omega (arith, long, c.loop-level.invariant.count));
      value = λ h first.
          c.in_ok-push.ensures.items
          ∙ ap (λ (x : List (List (List ℕ))). x ++ c.new.result ∷ []) (c.loop-level.invariant.value h first)
          ∙ ap (λ (x : List (List ℕ)). map (level_of h first 0) (range_with_len 0 c.loop-level._level) ++ x ∷ []) (c.new.ensures.value ∙ sym (level_none h first n))
          ∙ sym (map-range_with_len_more (level_of h first 0) 0 n n (omega arith));
    }

pub invariant_of-result : goal.invariant_of-result
invariant_of-result c = (let all : c.loop-level._level ≡ 21 = omega arith in c.loop-level.invariant.count ∙ all)

pub returns : goal.returns
unfolding levels_of
returns c = record {
  value = λ h first. (let all : c.loop-level._level ≡ 21 = omega arith in c.loop-level.invariant.value h first ∙ ap (λ (n : ℕ). map (level_of h first 0) (range_with_len 0 n)) all);
}
