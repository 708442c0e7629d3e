use Rattle.std.proofs.Common.{◌≡◌, ℕ, ap, ◌∙◌}
use Rattle.digest_model.specs.Layout.{Layout, layout, era_of, tile_of}
use Rattle.audit_model.specs.Names.{node_name}
use Rattle.policy_eras.proofs.Histories.{layout_is}
use Rattle.evidence_file.specs.Shown.{leaf_of}
use Rattle.evidence_examine.proofs.places.leaf_name.Goals as goal

pub returns : goal.returns
returns c = record {
  value = λ h e.
      (let own = layout_is h e in
      let tile : c.tiles.result ≡ tile_of (layout h) c.args.granule = c.tiles.ensures.value ∙ ap (λ (l : Layout). tile_of l c.args.granule) own in
      let number : c.era_of-number.result ≡ era_of (layout h) (tile_of (layout h) c.args.granule) = c.era_of-number.ensures.value ∙ ap (λ (l : Layout). era_of l c.tiles.result) own ∙ ap (era_of (layout h)) tile in
      c.node_name.ensures.value
      ∙ ap (λ (leaf : ℕ). node_name c.era_of-number.result 0 leaf) (c.leaf_in.ensures.value h e number)
      ∙ ap (λ (era : ℕ). node_name era 0 (leaf_of (layout h) c.args.granule)) number);
}
