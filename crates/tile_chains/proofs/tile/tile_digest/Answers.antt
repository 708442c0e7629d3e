use Rattle.std.proofs.Common.{ℕ, ◌+◌, List, ◌∷◌, ◌++◌, sym, subst, rules, ◌∙◌}
use Rattle.std.specs.Int.{w32, to_be_bytes}
use Rattle.sha2.specs.declared.Sha256.{Sha256}
use Rattle.sha2.specs.Hashers.{Holds256}
use Rattle.tile_chains.proofs.Parts.{joined, taken, left_out, none}
use Rattle.tile_chains.proofs.tile.tile_digest.Goals as goal
use Rattle.tile_chains.proofs.tile.tile_digest.Goals.{then-is_in_part, else-is_in_part}

pub loop-number-init : goal.loop-number-init
loop-number-init c =
    subst (λ (x : List ℕ). Holds256 c.update-3.new.self (3 ∷ (to_be_bytes w32 c.args.tile ++ (c.args.part ∷ x)))) (sym (none c.args.part c.args.granule_digests.now)) (search rules)

pub loop-number-preserved : goal.loop-number-preserved
loop-number-preserved c = elim c.if-is_in_part.branch [
  | then-is_in_part w ↦
      subst (λ (x : Sha256). Holds256 x (3 ∷ (to_be_bytes w32 c.args.tile ++ (c.args.part ∷ joined c.args.part c.args.granule_digests.now (c.loop-number.number + 1))))) (sym w.hasher-is)
      (subst (λ (x : List ℕ). Holds256 w.update-then-is_in_part.new.self (3 ∷ (to_be_bytes w32 c.args.tile ++ (c.args.part ∷ x)))) (sym (taken c.args.part c.args.granule_digests.now c.loop-number.number (sym c.is_in_part.ensures ∙ w.if-is_in_part.true)))
      (w.update-then-is_in_part.ensures _ c.loop-number.invariant))
  | else-is_in_part w ↦
      subst (λ (x : Sha256). Holds256 x (3 ∷ (to_be_bytes w32 c.args.tile ++ (c.args.part ∷ joined c.args.part c.args.granule_digests.now (c.loop-number.number + 1))))) (sym w.hasher-is)
      (subst (λ (x : List ℕ). Holds256 c.loop-number.hasher (3 ∷ (to_be_bytes w32 c.args.tile ++ (c.args.part ∷ x)))) (sym (left_out c.args.part c.args.granule_digests.now c.loop-number.number (sym c.is_in_part.ensures ∙ w.if-is_in_part.false)))
      c.loop-number.invariant)
]
