use Rattle.std.proofs.Common.{◌≡◌, ℕ, ◌+◌, ◌≤◌, true, List, [], length, get_or, refl, sym, ap, subst, ◌∙◌, arith}
use Rattle.std.proofs.lemmas.List.FromFn.{length-map-range_with_len, get_or-map-range_with_len}
use Rattle.history_model.specs.History.{History, history}
use Rattle.history_model.specs.Stored.{items_of}
use Rattle.digest_model.specs.Layout.{Layout, Policy, policy_of, layout, first_granule, max_granules}
use Rattle.digest_model.specs.Digests.{cum, granule_digest}
use Rattle.digest_model.proofs.Layouts.{ascends}
use Rattle.policy_eras.specs.Policy.{has_leaves}
use Rattle.policy_eras.proofs.Histories.{layout_is}
use Rattle.tile_seals.specs.Kept.{Planned, planned_of, retold}
use Rattle.tile_seals.specs.Places.{takes_leaves, leaves_in}
use Rattle.seal_plan.proofs.OwnLeaves.{own_leaves}
use Rattle.seal_plan.proofs.Hashed.{takes_hashed}
use Rattle.seal_plan.proofs.folding.fold.Goals as goal

-- the eras that the tiles keep
asked : (h : History) (tile : ℕ) (folded : Planned) (p : Policy) → folded ≡ planned_of h tile → p ≡ policy_of folded.history → p ≡ policy_of h
asked h tile folded p are is = is ∙ ap (λ (x : Planned). policy_of x.history) are

pub taken_leaves-own-requires-clause-within : goal.taken_leaves-own-requires-clause-within
taken_leaves-own-requires-clause-within c =
    let h = history c.args.header.now (items_of c.args.told.now.spellings) in
    let own = asked h c.loop-tile.tile c.loop-tile.folded c.eras.result.now c.loop-tile.invariant c.eras.ensures.value in
    let up = ascends (layout (history c.args.header.now (items_of c.args.told.now.spellings))) (c.loop-tile.tile + 1) c.args.tiles (omega arith) in
    let same = ap (λ (l : Layout). first_granule l (c.loop-tile.tile + 1)) (layout_is h own) in
    omega (arith, up, same, c.requires.within)

pub taken_leaves-own-requires-clause-long : goal.taken_leaves-own-requires-clause-long
taken_leaves-own-requires-clause-long c = λ some.
    (let h = history c.args.header.now (items_of c.args.told.now.spellings) in
    let own = asked h c.loop-tile.tile c.loop-tile.folded c.eras.result.now c.loop-tile.invariant c.eras.ensures.value in
    let up = ascends (layout (history c.args.header.now (items_of c.args.told.now.spellings))) (c.loop-tile.tile + 1) c.args.tiles (omega arith) in
    let same = ap (λ (l : Layout). first_granule l (c.loop-tile.tile + 1)) (layout_is h own) in
    let long = ap length (c.requires.leaves (ap has_leaves (c.requires.eras ∙ sym own) ∙ some)) ∙ length-map-range_with_len (granule_digest h) 0 (first_granule (layout (history c.args.header.now (items_of c.args.told.now.spellings))) c.args.tiles) in
    omega (arith, up, same, long))

pub bounds-links-tile : goal.bounds-links-tile
bounds-links-tile c =
    let long = ap length c.requires.links ∙ length-map-range_with_len (cum (history c.args.header.now (items_of c.args.told.now.spellings))) 0 c.args.tiles in
    omega (arith, long)

pub grow-requires-clause-within : goal.grow-requires-clause-within
grow-requires-clause-within c =
    subst (λ (p : Planned). first_granule (layout p.history) (p.tiles + 1) ≤ max_granules) (sym c.loop-tile.invariant)
    (let up = ascends (layout (history c.args.header.now (items_of c.args.told.now.spellings))) (c.loop-tile.tile + 1) c.args.tiles (omega arith) in omega (arith, up, c.requires.within))

pub grow-requires-clause-eras : goal.grow-requires-clause-eras
grow-requires-clause-eras c = subst (λ (p : Planned). policy_of (retold p.history c.args.told.now.spellings) ≡ policy_of p.history) (sym c.loop-tile.invariant) refl

pub grow-requires-clause-leaves : goal.grow-requires-clause-leaves
grow-requires-clause-leaves c =
    let h = history c.args.header.now (items_of c.args.told.now.spellings) in
    let own = asked h c.loop-tile.tile c.loop-tile.folded c.eras.result.now c.loop-tile.invariant c.eras.ensures.value in
    subst (λ (p : Planned). takes_leaves (layout p.history) p.tiles ≡ true → c.taken_leaves-own.result.now ≡ leaves_in (retold p.history c.args.told.now.spellings) p.tiles) (sym c.loop-tile.invariant)
    (λ takes.
    (let some = takes_hashed c.eras.result.now c.loop-tile.tile (subst (λ (l : Layout). takes_leaves l c.loop-tile.tile ≡ true) (sym (layout_is h own)) takes) in
    own_leaves h c.eras.result.now c.loop-tile.tile c.args.tiles c.args.leaves.now c.taken_leaves-own.result.now own (omega arith)
    (c.requires.leaves (ap has_leaves (c.requires.eras ∙ sym own) ∙ some)) (c.taken_leaves-own.ensures.value some)))

pub grow-requires-clause-link : goal.grow-requires-clause-link
grow-requires-clause-link c =
    let h = history c.args.header.now (items_of c.args.told.now.spellings) in
    subst (λ (p : Planned). get_or c.args.links.now c.loop-tile.tile [] ≡ cum (retold p.history c.args.told.now.spellings) p.tiles) (sym c.loop-tile.invariant)
    (ap (λ (x : List (List ℕ)). get_or x c.loop-tile.tile []) c.requires.links ∙ get_or-map-range_with_len (cum h) 0 c.args.tiles c.loop-tile.tile c.loop-tile.tile [] (omega arith) (omega arith))
