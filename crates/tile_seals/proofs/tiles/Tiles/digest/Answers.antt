use Rattle.std.proofs.Common.{◌≡◌, ℕ, List, map, Some, None, sym, subst, ap, ◌∙◌}
use Rattle.std.specs.List.{range_with_len, slice_get}
use Rattle.notary_link.specs.declared.name.Name.TheVariants as names
use Rattle.digest_model.specs.Digests.{header_digest, cum}
use Rattle.tile_seals.specs.Kept.{Planned, Keeps}
use Rattle.tile_seals.proofs.Finding.{renamed, answered, header_found, cum_found, no_node}
use Rattle.tile_seals.proofs.tiles.Tiles.digest.Goals as goal

pub returns-in-Header : goal.returns-in-Header
returns-in-Header c =
    let p = c.args.self.now in
    let keeps = subst (λ (x : Planned). Keeps x.history x.tiles c.self.inside.eras c.self.inside.header_digest c.self.inside.links.items c.self.inside.parts c.self.inside.forests) c.self.view_is c.self.invariant in
    let found = renamed p.history p.tiles names.Header c.args.name (Some c.self.inside.header_digest) c.in-Header.is
    (answered p.history p.tiles names.Header (Some (header_digest p.history.header)) (Some c.self.inside.header_digest) (ap (λ (d : List ℕ). Some d) keeps.header) (header_found p.history p.tiles)) in
    record { value = found.value; planned = found.planned }

pub returns-in-Cum : goal.returns-in-Cum
returns-in-Cum c =
    let p = c.args.self.now in
    let keeps = subst (λ (x : Planned). Keeps x.history x.tiles c.self.inside.eras c.self.inside.header_digest c.self.inside.links.items c.self.inside.parts c.self.inside.forests) c.self.view_is c.self.invariant in
    let found = renamed p.history p.tiles (names.Cum c.in-Cum.tile) c.args.name c.digest_at.result c.in-Cum.is
    (answered p.history p.tiles (names.Cum c.in-Cum.tile) (slice_get (map (cum c.args.self.now.history) (range_with_len 0 c.args.self.now.tiles)) c.in-Cum.tile) c.digest_at.result
    (c.digest_at.ensures ∙ ap (λ (x : List (List ℕ)). slice_get x c.in-Cum.tile) (c.deref.ensures.value ∙ keeps.cums))
    (cum_found p.history p.tiles c.in-Cum.tile)) in
    record { value = found.value; planned = found.planned }

pub returns-in-EraNode-eq0-default-default-clause-planned : goal.returns-in-EraNode-eq0-default-default-clause-planned
returns-in-EraNode-eq0-default-default-clause-planned c =
    let p = c.args.self.now in
    let level = c.in-EraNode-eq0-default-default.level in
    let index = c.in-EraNode-eq0-default-default.index in
    (renamed p.history p.tiles (names.EraNode 0 level index) c.args.name None
    (c.in-EraNode-eq0-default-default.is ∙ ap (λ (era : ℕ). names.EraNode era c.in-EraNode-eq0-default-default.level c.in-EraNode-eq0-default-default.index) (sym c.in-EraNode-eq0-default-default.era-is ∙ c.in-EraNode-eq0-default-default.era-test))
    (no_node p.history p.tiles level index)).planned
