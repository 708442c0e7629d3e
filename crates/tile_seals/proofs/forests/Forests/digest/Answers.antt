use Rattle.std.proofs.Common.{◌≡◌, ℕ, ◌+◌, ◌<◌, List, [], length, get_or, map, Some, None, sym, ap, ◌∙◌, arith}
use Rattle.std.specs.List.{range_with_len, slice_get}
use Rattle.std.proofs.lemmas.List.FromFn.{length-map-range_with_len, get_or-map-range_with_len}
use Rattle.digest_model.specs.Layout.{policy_of}
use Rattle.audit_model.specs.Names.{node_name}
use Rattle.tile_seals.specs.Places.{forest_of, planned_forests}
use Rattle.tile_seals.proofs.Finding.{answered, no_tree, node_found}
use Rattle.tile_seals.proofs.forests.Forests.digest.Goals as goal

pub returns-in_err-forest : goal.returns-in_err-forest
returns-in_err-forest c = record {
  value = λ h tiles is within.
      (let long = ap length (c.deref.ensures.value ∙ c.self.view_is ∙ is) ∙ length-map-range_with_len (forest_of h tiles) 0 (1 + length (policy_of h).later) in
      answered h tiles (node_name c.args.era c.args.level c.args.index) None c.from_residual.result c.from_residual.ensures
      (no_tree h tiles c.args.era c.args.level c.args.index (omega (arith, long, c.in_err-forest.ensures.lookup.3))));
}

pub returns : goal.returns
returns c = record {
  value = λ h tiles is within.
      (let items : c.deref.result.now ≡ planned_forests h tiles = c.deref.ensures.value ∙ c.self.view_is ∙ is in
      let long = ap length items ∙ length-map-range_with_len (forest_of h tiles) 0 (1 + length (policy_of h).later) in
      let below : c.args.era < 1 + length (policy_of h).later = omega (arith, long, c.in_ok-forest.ensures.lookup.3.0) in
      let own : c.in_ok-forest.forest.now ≡ forest_of h tiles c.args.era =
      c.in_ok-forest.ensures.lookup.1 ∙ ap (λ (x : List (List (List (List ℕ)))). get_or x c.args.era c.in_ok-forest.forest.now) items
      ∙ get_or-map-range_with_len (forest_of h tiles) 0 (1 + length (policy_of h).later) c.args.era c.args.era c.in_ok-forest.forest.now below (omega arith) in
      answered h tiles (node_name c.args.era c.args.level c.args.index) (slice_get (get_or (forest_of h tiles c.args.era) c.args.level []) c.args.index) c.node.result
      (c.node.ensures ∙ ap (λ (x : List (List (List ℕ))). slice_get (get_or x c.args.level []) c.args.index) own)
      (node_found h tiles c.args.era c.args.level c.args.index within));
}
