-- The places that an evidence file names: its header and its eras.
use Rattle.std.specs.Prelude.{◌≡◌, ◌-◌, ℕ, Bool, List, length, map}
use Rattle.notary_link.specs.Batches.{Batch}
use Rattle.notary_link.specs.declared.name.Name.{Name}
use Rattle.history_model.specs.History.{History, history}
use Rattle.digest_model.specs.Layout.{Layout, layout, policy_of, first_era}
use Rattle.audit_model.specs.Notary.{is_same, header_answer}
use Rattle.policy_eras.specs.Policy.{as_era, as_item}
use Rattle.evidence_file.specs.declared.entry.Entry.{Entry}
use Rattle.evidence_file.specs.declared.evidence.Evidence.{Evidence}
use Rattle.evidence_file.specs.Evidence.{FitsEvidence}
use Rattle.evidence_file.specs.Shown.{leaf_name}

-- its header and its eras, as a history without transactions
abbrev pub places_of : Evidence → History
places_of e = history e.header (map as_item e.eras)

-- where the tiles lie by these eras
abbrev pub layout_of : Evidence → Layout
layout_of e = layout (places_of e)

-- the names of the leaves of the granules that it shows
abbrev pub leaves_of : Evidence → List Name
leaves_of e = map (λ (entry : Entry). leaf_name (layout_of e) entry.granule) e.entries

-- how many tiles are sealed: one fewer than there are batches, and none where there is no batch
abbrev pub sealed : List Batch → ℕ
sealed batches = length batches - 1

-- the answer for the header is Same, and the eras of the sealed tiles are as filed
abbrev pub has_filed_places : List Batch → Evidence → Bool
has_filed_places batches e = is_same (header_answer batches (places_of e) (sealed batches))

-- The eras of these places are those of the file, behind the era of its header.
abbrev pub PlacesAreNamed : Type 0
PlacesAreNamed = (e : Evidence) → FitsEvidence e
    → policy_of (places_of e) ≡ record { first = (first_era e.header).first; later = map as_era e.eras }
