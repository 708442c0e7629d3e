use Rattle.std.proofs.Common.{◌≡◌, ℕ, suc, ◌+◌, ◌-◌, ◌<◌, ◌≤◌, List, [], ◌∷◌, ◌++◌, length, map, refl, sym, ap, subst, ◌∙◌, arith}
use Rattle.std.specs.List.{Contains, range_with_len, flat_map}
use Rattle.std.proofs.lemmas.List.{append-nil, length-append}
use Rattle.std.proofs.lemmas.List.Concat.{flat_map_single}
use Rattle.notary_link.specs.declared.name.Name.{Name}
use Rattle.notary_link.specs.declared.name.Name.TheVariants as names
use Rattle.notary_link.specs.declared.seal.Seal.{Seal}
use Rattle.history_model.specs.History.{History}
use Rattle.digest_model.specs.Layout.{Layout, Policy, layout, layout_by, policy_of, turns, sealed_eras, era_of}
use Rattle.digest_model.proofs.Layouts.{counts, era_within}
use Rattle.policy_eras.proofs.Histories.{layout_is}
use Rattle.audit_model.specs.Names.{planned, era_names, seal}
use Rattle.audit_model.proofs.Planned.{era_planned}
use Rattle.tile_seals.proofs.Sealing.{more_sealed}
use Rattle.tile_seals.proofs.tiles.Tiles.seal_eras.Goals as goal

pub overflow_add-tile : goal.overflow_add-tile
overflow_add-tile c = (let many = counts (layout c.args.self.now.history) c.args.self.now.tiles in omega (arith, many, c.requires.below, c.requires.within))

-- how many eras begin before a tile and with it
module _ (h : History) (p q : Policy) (tile before begun : ℕ) (one : p ≡ policy_of h) (other : q ≡ policy_of h)
    (is_before : before ≡ length (sealed_eras (layout_by p) tile)) (is_begun : begun ≡ length (sealed_eras (layout_by q) (tile + 1))) where
  before_is : before ≡ length (sealed_eras (layout h) tile)
  before_is = is_before ∙ ap (λ (l : Layout). length (sealed_eras l tile)) (layout_is h one)

  begun_all : begun ≡ era_of (layout h) tile
  unfolding era_of
  begun_all = (let next : tile + 1 ≡ suc tile = omega arith in is_begun ∙ ap (λ (l : Layout). length (sealed_eras l (tile + 1))) (layout_is h other) ∙ ap (λ (n : ℕ). length (sealed_eras (layout h) n)) next)

  begun_is : begun ≡ length (sealed_eras (layout h) tile) + length (turns (layout h) tile)
  unfolding era_of sealed_eras
  begun_is = begun_all ∙ length-append (sealed_eras (layout h) tile) (turns (layout h) tile)

pub seal-requires : goal.seal-requires
seal-requires c =
    let h = c.args.self.now.history in
    let era = c.loop-era.era in
    let from = c.loop-era.auto.era in
    let all = begun_all h c.eras.result.now c.eras-2.result.now c.args.tile c.sealed-before.result c.sealed-begun.result c.eras.ensures.value c.eras-2.ensures.value c.sealed-before.ensures.value c.sealed-begun.ensures.value in
    let within = era_within (layout h) c.args.self.now.tiles c.args.tile c.requires.below in
    let next : suc (c.loop-era.era - 1) ≡ c.loop-era.era = omega (arith, from) in
    subst (λ (e : ℕ). Contains (planned (layout c.args.self.now.history) c.args.self.now.tiles) (names.Era e)) next
    (era_planned (layout h) c.args.self.now.tiles (era - 1) (omega (arith, from, all, within)))

pub loop-era-preserved : goal.loop-era-preserved
loop-era-preserved c =
    let h = c.args.self.now.history in
    let from = c.loop-era.auto.era in
    let first : ℕ = c.sealed-before.result + 1 in
    let place : c.sealed-before.result + 1 + (c.loop-era.era - (c.sealed-before.result + 1)) ≡ c.loop-era.era = omega (arith, from) in
    let next : c.loop-era.era - (c.sealed-before.result + 1) + 1 ≡ c.loop-era.era + 1 - (c.sealed-before.result + 1) = omega (arith, from) in
    c.in_ok-seal.ensures
    ∙ ap (λ (x : List Seal). x ++ seal c.args.self.now.history (names.Era c.loop-era.era) ∷ []) c.loop-era.invariant
    ∙ more_sealed (λ (era : ℕ). names.Era era ∷ []) (seal h) c.args.seals.now (c.sealed-before.result + 1) (c.loop-era.era - (c.sealed-before.result + 1)) c.loop-era.era place
    ∙ ap (λ (n : ℕ). c.args.seals.now ++ map (seal h) (flat_map (λ (era : ℕ). names.Era era ∷ []) (range_with_len (c.sealed-before.result + 1) n))) next

pub returns : goal.returns
unfolding era_names
returns c =
    let h = c.args.self.now.history in
    let tile = c.args.tile in
    let from = c.loop-era.auto.era in
    let before = before_is h c.eras.result.now c.eras-2.result.now c.args.tile c.sealed-before.result c.sealed-begun.result c.eras.ensures.value c.eras-2.ensures.value c.sealed-before.ensures.value c.sealed-begun.ensures.value in
    let begun = begun_is h c.eras.result.now c.eras-2.result.now c.args.tile c.sealed-before.result c.sealed-begun.result c.eras.ensures.value c.eras-2.ensures.value c.sealed-before.ensures.value c.sealed-begun.ensures.value in
    let count : c.loop-era.era - (c.sealed-before.result + 1) ≡ length (turns (layout c.args.self.now.history) c.args.tile) = omega (arith, from, before, begun) in
    c.loop-era.invariant
    ∙ ap (λ (n : ℕ). c.args.seals.now ++ map (seal h) (flat_map (λ (era : ℕ). names.Era era ∷ []) (range_with_len (c.sealed-before.result + 1) n))) count
    ∙ ap (λ (n : ℕ). c.args.seals.now ++ map (seal h) (flat_map (λ (era : ℕ). names.Era era ∷ []) (range_with_len (n + 1) (length (turns (layout h) tile))))) before
    ∙ ap (λ (x : List Name). c.args.seals.now ++ map (seal h) x) (flat_map_single names.Era (range_with_len (length (sealed_eras (layout h) tile) + 1) (length (turns (layout h) tile))))
