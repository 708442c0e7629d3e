use Rattle.std.proofs.Common.{◌≡◌, ℕ, ◌+◌, List, [], ◌∷◌, ◌++◌, map, sym, ap, ◌∙◌, arith}
use Rattle.std.specs.List.{range_with_len}
use Rattle.std.proofs.lemmas.List.{append-nil, append_assoc}
use Rattle.std.proofs.lemmas.List.FromFn.{map-range_with_len_more}
use Rattle.digest_model.specs.Digests.{tile_digest}
use Rattle.tile_seals.specs.Places.{part_at}
use Rattle.tile_seals.proofs.SideBySide.{part_is}
use Rattle.tile_seals.proofs.parts.add_parts.Goals as goal

pub loop-place-init : goal.loop-place-init
loop-place-init c = λ h own. sym (append-nil c.args.digests.now)

pub loop-place-preserved : goal.loop-place-preserved
loop-place-preserved c = λ h own.
    (let place = c.loop-place.place in
    c.in_ok-push.ensures.ok
    ∙ ap (λ (x : List (List ℕ)). x ++ c.tile_digest.result ∷ []) (c.loop-place.invariant h own)
    ∙ append_assoc c.args.digests.now (map (λ (p : ℕ). tile_digest h c.args.tile (part_at p)) (range_with_len 0 c.loop-place.place)) (c.tile_digest.result ∷ [])
    ∙ ap (λ (x : List ℕ). c.args.digests.now ++ (map (λ (p : ℕ). tile_digest h c.args.tile (part_at p)) (range_with_len 0 c.loop-place.place) ++ x ∷ []))
    (c.tile_digest.ensures.value ∙ part_is h c.args.tile c.part_at-part.result c.args.leaves.now own ∙ ap (tile_digest h c.args.tile) c.part_at-part.ensures)
    ∙ ap (λ (x : List (List ℕ)). c.args.digests.now ++ x) (sym (map-range_with_len_more (λ (p : ℕ). tile_digest h c.args.tile (part_at p)) 0 place place (omega arith))))

pub returns : goal.returns
returns c = record {
  value = λ h same own.
      (let all : c.loop-place.place ≡ c.args.k + 1 = omega arith in
      c.loop-place.invariant h own
      ∙ ap (λ (n : ℕ). c.args.digests.now ++ map (λ (p : ℕ). tile_digest h c.args.tile (part_at p)) (range_with_len 0 n)) all
      ∙ ap (λ (k : ℕ). c.args.digests.now ++ map (λ (p : ℕ). tile_digest h c.args.tile (part_at p)) (range_with_len 0 (k + 1))) (sym same));
}
