use Rattle.std.proofs.Common.{◌≡◌, ℕ, suc, ◌+◌, ◌-◌, ◌/◌, ◌^◌, ◌<◌, ◌≤◌, List, [], ◌++◌, length, get_or, set, sym, ap, subst, ◌∙◌, arith}
use Rattle.std.proofs.lemmas.List.{length-append, get_or_read}
use Rattle.tile_seals.specs.Places.{level_of, levels_of}
use Rattle.tile_seals.proofs.Levels.{lowest_more, level_at, level_size}
use Rattle.tile_seals.proofs.Growing.{IsGrown, few_set, grown_lowest, grown_next, grown_all, grown_enough}
use Rattle.tile_seals.proofs.forest.Forest.grow.Goals as goal

pub loop-level-init : goal.loop-level-init
loop-level-init c =
    let levels = c.self.inside.levels.items in
    let leaves = c.args.leaves.now in
    let count : length c.self.inside.levels.items ≡ 21 = c.self.invariant in
    let view : c.self.inside.levels.items ≡ c.args.self.now = c.self.view_is in
    let low : c.index_mut.result.now ≡ get_or c.self.inside.levels.items 0 [] = get_or_read levels 0 c.index_mut.result.now (omega (arith, count)) c.index_mut.ensures.value [] in
    let more : c.extend.new.self ≡ c.index_mut.result.now ++ c.args.leaves.now = c.in_ok-extend.ensures.ok in
    let long = ap length more ∙ length-append c.index_mut.result.now leaves in
    let size = ap length low ∙ ap (λ (x : List (List (List ℕ))). length (get_or x 0 [])) view in
    let short = c.requires.few 0 in
    record {
      few = few_set levels 0 c.extend.new.self (omega (arith, count)) (omega (arith, long, size, short))
          (λ k. (let same = ap (λ (x : List (List (List ℕ))). length (get_or x k [])) view in let own = c.requires.few k in omega (arith, same, own)));
      grown = λ h first m were own.
          grown_lowest h first m (m + length c.args.leaves.now) levels c.extend.new.self (view ∙ were)
          (more ∙ lowest_more h first m (length c.args.leaves.now) c.index_mut.result.now leaves
          (low ∙ ap (λ (x : List (List (List ℕ))). get_or x 0 []) (view ∙ were) ∙ level_at h first m 0 (omega arith)) own);
    }

pub loop-level-preserved : goal.loop-level-preserved
loop-level-preserved c =
    let level = c.loop-level.level in
    let from = c.loop-level.auto.level in
    record {
      few = c.in_ok-some.ensures.few;
      grown = λ h first m were own.
          (let is = c.loop-level.invariant.grown h first m were own in
          let under : c.loop-level.level ≡ suc (c.loop-level.level - 1) = omega (arith, from) in
          grown_next h first m (m + length c.args.leaves.now) c.loop-level.self level c.complete.new.self is (omega arith)
          (c.in_ok-some.ensures.value h first (m + length c.args.leaves.now) m (level - 1) under (is.low (level - 1) (omega (arith, from)) (omega arith)) (is.high level (omega arith) (omega arith)) (omega arith)));
    }

pub returns-then-not-some : goal.returns-then-not-some
returns-then-not-some c = record {
  value = λ h first m were own.
      (let level = c.loop-level.level in
      let from = c.loop-level.auto.level in
      let is = c.loop-level.invariant.grown h first m were own in
      let under : c.loop-level.level ≡ suc (c.loop-level.level - 1) = omega (arith, from) in
      let next = grown_next h first m (m + length c.args.leaves.now) c.loop-level.self level c.complete.new.self is (omega arith)
      (c.in_ok-some.ensures.value h first (m + length c.args.leaves.now) m (level - 1) under (is.low (level - 1) (omega (arith, from)) (omega arith)) (is.high level (omega arith) (omega arith)) (omega arith)) in
      let few = c.in_ok-some.ensures.none c.if-not-some.true in
      let now = ap length (next.low level (omega arith) (omega arith)) ∙ level_size h first (m + length c.args.leaves.now) level in
      let was = ap length (is.high level (omega arith) (omega arith)) ∙ level_size h first m level in
      grown_enough h first m (m + length c.args.leaves.now) c.complete.new.self level next (omega arith) (omega (arith, few, now, was)));
}

pub returns : goal.returns
returns c = record {
  value = λ h first m were own. grown_all h first m (m + length c.args.leaves.now) c.loop-level.self c.loop-level.level (c.loop-level.invariant.grown h first m were own) (omega arith);
}
