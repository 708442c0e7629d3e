use Rattle.std.proofs.Common.{◌≡◌, ℕ, suc, ◌+◌, ◌-◌, ◌<◌, List, [], length, get_or, set, sym, ap, ◌∙◌, arith}
use Rattle.std.proofs.lemmas.List.{get_or_read, get_or-set_other, length-set, set-set}
use Rattle.tile_seals.specs.Places.{level_of}
use Rattle.tile_seals.proofs.forest.Forest.complete.Goals as goal

pub returns-clause-value : goal.returns-clause-value
returns-clause-value c = λ h first m before lower e below was le.
    (let levels = c.self.inside.levels.items in
    let place = c.from-place.result in
    let here : c.from-place.result ≡ c.args.level = c.from-place.ensures in
    let count : length c.self.inside.levels.items ≡ 21 = c.self.invariant in
    let view : c.self.inside.levels.items ≡ c.args.self.now = c.self.view_is in
    let level = c.requires.level in
    let own = c.replace-nodes.ensures.value
    ∙ get_or_read levels place c.index_mut.result.now (omega (arith, here, count, level)) c.index_mut.ensures.value []
    ∙ ap (λ (k : ℕ). get_or c.self.inside.levels.items k []) here
    ∙ ap (λ (x : List (List (List ℕ))). get_or x c.args.level []) view ∙ was in
    let under : c.from-place.result - 1 ≡ lower = omega (arith, here, e) in
    let apart : c.from-place.result - 1 ≡ c.from-place.result → ⊥ = λ f. omega (arith, f, here, level) in
    let long = length-set levels place c.replace-nodes.new.dest in
    let low = c.as_slice.ensures.value
    ∙ get_or_read (set levels place c.replace-nodes.new.dest) (place - 1) c.index.result.now (omega (arith, here, count, level, long)) c.index.ensures []
    ∙ get_or-set_other levels place (place - 1) c.replace-nodes.new.dest [] apart
    ∙ ap (λ (k : ℕ). get_or c.self.inside.levels.items k []) under
    ∙ ap (λ (x : List (List (List ℕ))). get_or x lower []) view ∙ below in
    set-set levels place c.replace-nodes.new.dest c.add_nodes.new.nodes
    ∙ ap (λ (x : List (List ℕ)). set c.self.inside.levels.items c.from-place.result x) (c.in_ok-add_nodes.ensures.value h first m before lower e low own le)
    ∙ ap (λ (k : ℕ). set c.self.inside.levels.items k (level_of h first m c.args.level)) here
    ∙ ap (λ (x : List (List (List ℕ))). set x c.args.level (level_of h first m c.args.level)) view)
