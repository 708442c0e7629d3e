-- The spans in which a tile was changed, as they are told.
use Rattle.std.specs.Prelude.{◌≡◌, ℕ, List}
use Rattle.std.specs.Option.{option_map}
use Rattle.notary_link.specs.declared.mark.Mark.{Mark}
use Rattle.notary_link.specs.declared.fail.AskFail.{AskFail}
use Rattle.notary_link.specs.declared.fail.AskFail.TheVariants.{NotaryFault, NoMemory}
use Rattle.notary_link.specs.Batches.{Batch}
use Rattle.audit_model.specs.Spans.{moment_or, clean_mark, first_bad_mark, changed_from, first_changed_until}
use Rattle.corruption_diagram.specs.declared.span.Span.{Span}
use Rattle.corruption_diagram.specs.declared.first.Shown.{Shown}

-- when a granule of the tile was changed
abbrev pub when_changed : List Batch → List Mark → ℕ → ℕ → Span
when_changed batches marks tile now = record { from = changed_from batches marks tile; to = now }

-- when the tile was changed for the first time
abbrev pub when_first_changed : List Batch → List Mark → ℕ → ℕ → Span
when_first_changed batches marks tile now = record { from = changed_from batches marks tile; to = first_changed_until marks tile now }

-- only the notary fails
abbrev pub IsReadFail : AskFail → Type 0
IsReadFail NotaryFault = Unit {0}
IsReadFail NoMemory = Unit {0}
IsReadFail fail = ⊥

-- what some marks show of the first change of a tile
pub record IsShown (marks : List Mark) (tile : ℕ) (shown : Shown) : Type 0 where
  pub cleared : shown.cleared ≡ moment_or 0 (clean_mark marks tile)
  pub found : shown.found ≡ option_map (λ m. m.moment) (first_bad_mark marks tile)
