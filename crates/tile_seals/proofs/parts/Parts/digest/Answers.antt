use Rattle.std.proofs.Common.{◌≡◌, ℕ, ◌+◌, ◌<◌, ◌≤◌, List, length, map, Some, None, false, true, refl, get_or, sym, ap, ◌∙◌, ◌⊎◌, inl, inr, arith}
use Rattle.std.specs.List.{range_with_len, slice_get}
use Rattle.std.proofs.lemmas.Bool.{false≢true}
use Rattle.std.proofs.lemmas.List.FromFn.{length-map-range_with_len, get_or-map-range_with_len}
use Rattle.std.proofs.lemmas.Option.{slice_get_within, get_or_from_slice_get, slice_get-get_or, none-some}
use Rattle.notary_link.specs.declared.name.Name.TheVariants as names
use Rattle.digest_model.specs.Layout.{Layout, layout, exponent, has_tile_chains, whole}
use Rattle.policy_eras.proofs.Histories.{layout_is}
use Rattle.history_model.specs.History.{History}
use Rattle.tile_seals.specs.Places.{parts_below, parts_start, planned_parts}
use Rattle.tile_seals.proofs.Finding.{answered, no_part, part_found}
use Rattle.tile_seals.proofs.parts.Parts.digest.Goals as goal

pub returns-in_err-place : goal.returns-in_err-place
returns-in_err-place c = record {
  value = λ h tiles e is.
      answered h tiles (names.Tile c.args.tile c.args.part) None c.from_residual.result c.from_residual.ensures
      (no_part h tiles c.args.tile c.args.part (λ has below some.
      false≢true (c.in_err-place.ensures.part.1 (elim some [
        | inl all ↦ inl all
        | inr bit ↦ inr (let same = c.exponent.ensures.value ∙ ap (λ (l : Layout). exponent l c.args.tile) (layout_is h e) in omega (arith, bit, same))
      ]))));
}

pub returns-then-not-has_tile_chains : goal.returns-then-not-has_tile_chains
returns-then-not-has_tile_chains c = record {
  value = λ h tiles e is.
      no_part h tiles c.args.tile c.args.part (λ has below some.
      false≢true (sym c.if-not-has_tile_chains.true ∙ c.has_tile_chains.ensures.value ∙ ap (λ (l : Layout). has_tile_chains l c.args.tile) (layout_is h e) ∙ has));
}

pub returns-in_err-start : goal.returns-in_err-start
returns-in_err-start c = record {
  value = λ h tiles e is.
      answered h tiles (names.Tile c.args.tile c.args.part) None c.from_residual-in_err-start.result c.from_residual-in_err-start.ensures
      (no_part h tiles c.args.tile c.args.part (λ has below some.
      (let starts = c.deref.ensures.value ∙ ap (λ (x : List (List ℕ) × List ℕ). x.1) (c.self.view_is ∙ is) in
      let long = ap length starts ∙ length-map-range_with_len (parts_start h) 0 tiles in
      none-some _ (sym c.in_err-start.was ∙ c.number_at.ensures ∙ slice_get-get_or c.deref.result.now c.args.tile 0 (omega (arith, long, below))))));
}

-- the place where the parts of a tile begin
start_is : (h : History) (tiles tile start : ℕ) (starts : List ℕ) → starts ≡ map (parts_start h) (range_with_len 0 tiles) → slice_get starts tile ≡ Some start → (tile < tiles) × (start ≡ parts_start h tile)
start_is h tiles tile start starts are is =
    let long = ap length are ∙ length-map-range_with_len (parts_start h) 0 tiles in
    let inside = slice_get_within starts tile start is in
    let below : tile < tiles = omega (arith, long, inside) in
    (below, sym (get_or_from_slice_get starts tile start 0 is) ∙ ap (λ (x : List ℕ). get_or x tile 0) are ∙ get_or-map-range_with_len (parts_start h) 0 tiles tile tile 0 below (omega arith))

pub returns : goal.returns
returns c = record {
  value = λ h tiles e is.
      (let own = layout_is h e in
      let starts = c.deref.ensures.value ∙ ap (λ (x : List (List ℕ) × List ℕ). x.1) (c.self.view_is ∙ is) in
      let parts = c.as_slice.ensures.value ∙ ap (λ (x : List (List ℕ) × List ℕ). x.0) (c.self.view_is ∙ is) in
      let found = start_is h tiles c.args.tile c.in_ok-start.start c.deref.result.now starts (sym c.number_at.ensures ∙ c.in_ok-start.was) in
      let same = c.exponent.ensures.value ∙ ap (λ (l : Layout). exponent l c.args.tile) own in
      let has : has_tile_chains (layout h) c.args.tile ≡ true = ap (λ (l : Layout). has_tile_chains l c.args.tile) (sym own) ∙ sym c.has_tile_chains.ensures.value ∙ c.if-not-has_tile_chains.false in
      let some : (c.args.part ≡ whole) ⊎ (c.args.part < exponent (layout h) c.args.tile) = elim (c.in_ok-place.ensures.part.0 refl) [ inl all ↦ inl all | inr bit ↦ inr (omega (arith, bit, same)) ] in
      let low = c.in_ok-place.ensures.some.0 in
      answered h tiles (names.Tile c.args.tile c.args.part) (slice_get (parts_below h tiles) (parts_start h c.args.tile + c.in_ok-place.place)) c.digest_at.result
      (c.digest_at.ensures ∙ ap (λ (x : List (List ℕ)). slice_get x (c.in_ok-start.start + c.in_ok-place.place)) parts ∙ ap (λ (n : ℕ). slice_get (parts_below h tiles) (n + c.in_ok-place.place)) found.1)
      (part_found h tiles c.args.tile c.args.part c.in_ok-place.place has found.0 (omega (arith, low, same)) c.in_ok-place.ensures.some.1 some));
}
