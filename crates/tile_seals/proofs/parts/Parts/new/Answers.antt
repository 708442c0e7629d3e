use Rattle.std.proofs.Common.{ℕ, List, [], ap, ◌∙◌}
use Rattle.tile_seals.specs.Places.{parts_below}
use Rattle.tile_seals.proofs.parts.Parts.new.Goals as goal

pub returns : goal.returns
unfolding parts_below
returns c = record { value = λ h. ap (λ (x : List (List ℕ)). (x, c.new-2.result.items)) c.new.ensures.value ∙ ap (λ (x : List ℕ). ([], x)) c.new-2.ensures.items }
