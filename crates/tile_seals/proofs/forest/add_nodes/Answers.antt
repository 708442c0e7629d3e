use Rattle.std.proofs.Common.{◌≡◌, ℕ, ◌/◌, ◌^◌, ◌≤◌, List, [], ◌∷◌, ◌++◌, length, map, sym, ap, ◌∙◌, arith}
use Rattle.std.specs.List.{range_with_len}
use Rattle.std.proofs.lemmas.List.{length_push}
use Rattle.std.proofs.lemmas.List.FromFn.{map-range_with_len_more}
use Rattle.digest_model.specs.Digests.{node_digest}
use Rattle.tile_seals.proofs.Levels.{node_is, count_is, level_size, rises}
use Rattle.tile_seals.proofs.forest.add_nodes.Goals as goal

pub loop-index-init : goal.loop-index-init
loop-index-init c =
    let seen = ap length c.as_slice-first.ensures.value in
    record {
      count = omega (arith, seen);
      small = omega (arith, seen, c.requires.own);
      value = λ h first m before lower e below was le.
          (let long = ap length was ∙ level_size h first before c.args.level in
          let begin : before / 2 ^ c.args.level ≡ length c.as_slice-first.result.now = omega (arith, long, seen) in
          was ∙ ap (λ (n : ℕ). map (node_digest h first c.args.level) (range_with_len 0 n)) begin);
    }

pub loop-index-preserved : goal.loop-index-preserved
loop-index-preserved c =
    let i = c.loop-index.index in
    record {
      count = (let long = ap length c.in_ok-push.ensures.ok ∙ length_push c.loop-index.nodes c.node.result in omega (arith, long, c.loop-index.invariant.count));
      small = omega (arith, c.requires.few);
      value = λ h first m before lower e below was le.
          c.in_ok-push.ensures.ok
          ∙ ap (λ (x : List (List ℕ)). x ++ c.node.result ∷ []) (c.loop-index.invariant.value h first m before lower e below was le)
          ∙ ap (λ (x : List ℕ). map (node_digest h first c.args.level) (range_with_len 0 c.loop-index.index) ++ x ∷ []) (c.node.ensures.value ∙ node_is h first m c.args.level lower i c.args.below.now e below (omega arith))
          ∙ sym (map-range_with_len_more (node_digest h first c.args.level) 0 i i (omega arith));
    }

pub returns-clause-short : goal.returns-clause-short
returns-clause-short c = omega (arith, c.loop-index.invariant.count, c.loop-index.invariant.small)

pub returns-clause-value : goal.returns-clause-value
returns-clause-value c = λ h first m before lower e below was le.
    (let seen = ap length c.as_slice-first.ensures.value in
    let long = ap length was ∙ level_size h first before c.args.level in
    let full = count_is h first m c.args.level lower (length c.args.below.now / 2) c.args.below.now e below (omega arith) in
    let up = rises before m c.args.level le in
    let begun : length c.as_slice-first.result.now ≤ length c.args.below.now / 2 = omega (arith, seen, long, full, up) in
    let all : c.loop-index.index ≡ length c.args.below.now / 2 = omega (arith, begun) in
    c.loop-index.invariant.value h first m before lower e below was le
    ∙ ap (λ (n : ℕ). map (node_digest h first c.args.level) (range_with_len 0 n)) (count_is h first m c.args.level lower c.loop-index.index c.args.below.now e below all))
