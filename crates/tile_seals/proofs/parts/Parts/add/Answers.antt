use Rattle.std.proofs.Common.{◌≡◌, ℕ, ◌+◌, Bool, true, false, cond, List, [], ◌∷◌, ◌++◌, length, map, sym, ap, ◌∙◌}
use Rattle.std.proofs.lemmas.List.{append-nil}
use Rattle.digest_model.specs.Layout.{Layout, layout, exponent, has_tile_chains}
use Rattle.policy_eras.proofs.Histories.{layout_is}
use Rattle.tile_seals.specs.Places.{parts_of, parts_in, parts_below, parts_start, planned_parts}
use Rattle.tile_seals.proofs.SideBySide.{parts_more, own_parts, starts_more}
use Rattle.tile_seals.proofs.parts.Parts.add.Goals as goal

pub returns-in_ok-add_parts : goal.returns-in_ok-add_parts
returns-in_ok-add_parts c = record {
  value = λ h e was leaves.
      (let own = layout_is h e in
      let tile = c.args.tile in
      let are = c.self.view_is ∙ was in
      let digests = ap (λ (x : List (List ℕ) × List ℕ). x.0) are in
      let starts = ap (λ (x : List (List ℕ) × List ℕ). x.1) are in
      let has : has_tile_chains (layout h) c.args.tile ≡ true = ap (λ (l : Layout). has_tile_chains l c.args.tile) (sym own) ∙ sym c.has_tile_chains.ensures.value ∙ c.if-has_tile_chains.true in
      let same = sym (c.exponent.ensures.value ∙ ap (λ (l : Layout). exponent l c.args.tile) own) in
      ap (λ (x : List (List ℕ)). (x, c.push.new.self.items))
      (c.in_ok-add_parts.ensures.value h same (leaves has)
      ∙ ap (λ (x : List (List ℕ)). x ++ parts_of h c.args.tile) digests
      ∙ ap (λ (x : List (List ℕ)). parts_below h c.args.tile ++ x) (sym (own_parts h tile has))
      ∙ sym (parts_more h tile))
      ∙ ap (λ (x : List ℕ). (parts_below h (c.args.tile + 1), x))
      (c.in_ok-push.ensures.items ∙ starts_more h tile (length c.as_slice.result.now) c.self.inside.starts.items starts (ap length (c.as_slice.ensures.value ∙ digests))));
}

pub returns-else-has_tile_chains : goal.returns-else-has_tile_chains
returns-else-has_tile_chains c = record {
  value = λ h e was leaves.
      (let own = layout_is h e in
      let tile = c.args.tile in
      let are = c.self.view_is ∙ was in
      let digests = ap (λ (x : List (List ℕ) × List ℕ). x.0) are in
      let starts = ap (λ (x : List (List ℕ) × List ℕ). x.1) are in
      let none : has_tile_chains (layout h) c.args.tile ≡ false = ap (λ (l : Layout). has_tile_chains l c.args.tile) (sym own) ∙ sym c.has_tile_chains.ensures.value ∙ c.if-has_tile_chains.false in
      ap (λ (x : List (List ℕ)). (x, c.push.new.self.items))
      (digests ∙ sym (append-nil (parts_below h tile))
      ∙ ap (λ (x : List (List ℕ)). parts_below h c.args.tile ++ x) (sym (ap (λ (b : Bool). cond b (parts_of h c.args.tile) []) none))
      ∙ sym (parts_more h tile))
      ∙ ap (λ (x : List ℕ). (parts_below h (c.args.tile + 1), x))
      (c.in_ok-push.ensures.items ∙ starts_more h tile (length c.as_slice.result.now) c.self.inside.starts.items starts (ap length (c.as_slice.ensures.value ∙ digests))));
}
