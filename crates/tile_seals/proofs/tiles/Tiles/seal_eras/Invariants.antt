use Rattle.std.proofs.Common.{◌≡◌, ◌+◌, ◌-◌, ◌++◌, ◌∷◌, [], map}
use Rattle.std.specs.List.{range_with_len, flat_map}
use Rattle.notary_link.specs.declared.name.Name.TheVariants as names
use Rattle.audit_model.specs.Names.{seal}
use Rattle.tile_seals.proofs.tiles.Tiles.seal_eras.Given as goal

abbrev pub invariant-loop-era : goal.invariant-loop-era
invariant-loop-era l = l.seals ≡ l.initial.seals ++ map (seal l.self.history) (flat_map (λ era. names.Era era ∷ []) (range_with_len (l.before + 1) (l.era - (l.before + 1))))
