-- What an examination says of a notarized history.
use Rattle.std.specs.Prelude.{◌≡◌, ◌≢◌, ◌⊎◌, ◌<◌, ℕ, true, List, ◌∷◌, length, Some}
use Rattle.std.specs.List.{Contains, flat_map, range_with_len}
use Rattle.notary_link.specs.declared.answer.Answer.TheVariants.{Same, Differs, Absent}
use Rattle.notary_link.specs.Batches.{Batch}
use Rattle.history_model.specs.History.{History}
use Rattle.digest_model.specs.Layout.{layout, first_granule, tile_of, has_tree, sealed_eras}
use Rattle.digest_model.specs.Digests.{header_input}
use Rattle.digest_model.specs.Inputs.{Clash, era_inputs}
use Rattle.digest_model.specs.Spelled.{HasSpelling}
use Rattle.audit_model.specs.Altered.{HasPlacesOf}
use Rattle.audit_model.specs.Notary.{NotaryOf}
use Rattle.evidence_file.specs.declared.entry.Entry.{Entry}
use Rattle.evidence_file.specs.declared.evidence.Evidence.{Evidence}
use Rattle.evidence_file.specs.Evidence.{FitsEvidence}
use Rattle.evidence_file.specs.Shown.{spelled_rows, ListClash}
use Rattle.evidence_examine.specs.Places.{places_of, layout_of}
use Rattle.evidence_examine.specs.Texts.{shown_as}
use Rattle.evidence_examine.specs.Examining.{is_right}

-- ---- what is examined

-- a file is right by a notary that holds the batches of a history, with n sealed tiles
pub record IsExamined (batches : List Batch) (id : ℕ) (h : History) (n : ℕ) (e : Evidence) : Type 0 where
  pub filed : NotaryOf batches id h n
  pub ours : HasSpelling h
  pub fits : FitsEvidence e
  pub right : is_right id batches e ≡ true

-- a list that a file shows for a granule
pub record IsListOf (e : Evidence) (g : ℕ) (spelled : List (List ℕ)) : Type 0 where
  pub entry : Entry
  pub among : Contains e.entries entry
  pub place : entry.granule ≡ g
  pub list : (entry.shown ≡ spelled) ⊎ (entry.original ≡ Some spelled)

-- ---- clashes

-- what is hashed for a header and for the eras but the first of n sealed tiles
abbrev pub place_inputs : History → ℕ → List (List ℕ)
place_inputs h n = header_input h.header ∷ flat_map (era_inputs h) (range_with_len 1 (length (sealed_eras (layout h) n)))

-- an input for the history and one for the file differ and have one digest
abbrev pub PlacesClash : History → Evidence → ℕ → Type 0
PlacesClash h e n = Clash (place_inputs h n) (place_inputs (places_of e) n)

-- ---- the laws

-- A file that is right has the notarized header and eras, unless two of their inputs clash.
abbrev pub RightPlacesAreNotarized : Type 0
RightPlacesAreNotarized = (batches : List Batch) (id : ℕ) (h : History) (n : ℕ) (e : Evidence) → IsExamined batches id h n e
    → HasPlacesOf h (places_of e) n ⊎ PlacesClash h e n

-- A list that is called not as notarized is another one, unless two of these inputs clash.
abbrev pub OtherListsDiffer : Type 0
OtherListsDiffer = (batches : List Batch) (id : ℕ) (h : History) (n : ℕ) (e : Evidence) (g : ℕ) (spelled : List (List ℕ)) → IsExamined batches id h n e
    → IsListOf e g spelled
    → shown_as batches (layout_of e) g spelled ≡ Differs
    → (spelled ≢ spelled_rows h g) ⊎ PlacesClash h e n

-- A list that is called as notarized is the notarized one, unless two of these inputs clash, or the list's and the notarized granule's.
abbrev pub SameListsAreNotarized : Type 0
SameListsAreNotarized = (batches : List Batch) (id : ℕ) (h : History) (n : ℕ) (e : Evidence) (g : ℕ) (spelled : List (List ℕ)) → IsExamined batches id h n e
    → IsListOf e g spelled
    → shown_as batches (layout_of e) g spelled ≡ Same
    → (spelled ≡ spelled_rows h g) ⊎ (PlacesClash h e n ⊎ ListClash h g spelled)

-- a granule is sealed, in a tile that has the tree
abbrev pub HasLeaf : History → ℕ → ℕ → Type 0
HasLeaf h n g = (g < first_granule (layout h) n) × (has_tree (layout h) (tile_of (layout h) g) ≡ true)

-- So there is a line for the notarized list of each granule that has a leaf: it is called as notarized, unless two of these inputs clash.
abbrev pub NotarizedListsAreSame : Type 0
NotarizedListsAreSame = (batches : List Batch) (id : ℕ) (h : History) (n : ℕ) (e : Evidence) (g : ℕ) → IsExamined batches id h n e
    → HasLeaf h n g
    → (shown_as batches (layout_of e) g (spelled_rows h g) ≡ Same) ⊎ PlacesClash h e n

-- Of any other granule the seal is missing, so there is no line of it, unless two of these inputs clash.
abbrev pub OtherGranulesAreMissing : Type 0
OtherGranulesAreMissing = (batches : List Batch) (id : ℕ) (h : History) (n : ℕ) (e : Evidence) (g : ℕ) (spelled : List (List ℕ)) → IsExamined batches id h n e
    → (HasLeaf h n g → ⊥)
    → (shown_as batches (layout_of e) g spelled ≡ Absent) ⊎ PlacesClash h e n
