use Rattle.std.proofs.Common.{◌≡◌, ℕ, ◌<◌, List, [], ◌++◌, length, get_or, fold, sym, ap, ◌∙◌, arith, below_more}
use Rattle.std.proofs.lemmas.List.{get_or_read, length-append}
use Rattle.digest_model.specs.Digests.{next_link}
use Rattle.cumulative_chain.specs.Tiles.{Granule, front}
use Rattle.cumulative_chain.proofs.Fronts.{front_more, fold-append}
use Rattle.cumulative_chain.proofs.tiles.link_below.Goals as goal

pub loop-place-preserved : goal.loop-place-preserved
loop-place-preserved g c =
    let gs = c.args.granules.now in
    let p = c.loop-place.place in
    let item = c.index-granules-place.result in
    let within : c.loop-place.place < length c.args.granules.now = omega arith in
    let is : c.index-granules-place.result ≡ get_or c.args.granules.now c.loop-place.place (0, []) = get_or_read gs p item within c.index-granules-place.is (0, []) in
    let more = front_more gs p within ∙ ap (λ (x : Granule). front gs p ++ x.1) (sym is) in
    let long = ap length more ∙ length-append (front gs p) item.1 in
    record {
      value = λ start h.
          c.link_all.ensures.value ∙ ap (λ (v : List ℕ). fold next_link v item.1) (c.loop-place.invariant.value start h)
          ∙ sym (fold-append start (front gs p) item.1) ∙ ap (fold next_link start) (sym more);
      below = below_more _ _ c.loop-place.invariant.below (let number = ap (λ (x : Granule). x.0) is in omega (arith, number, c.if-number-end.false));
      steps = omega (arith, long, c.link_all.ensures.steps, c.loop-place.invariant.steps);
    }
