-- What a store and its copy hold in some granules, as an evidence file shows it.
use Rattle.std.specs.Prelude.{ℕ, ◌<◌, ◌^◌, Bool, if◌then◌else◌, List, length, map, Option, Some, None, IfSome}
use Rattle.std.specs.List.{All}
use Rattle.std.specs.List.Sorted.{IsStrictlyIncreasing}
use Rattle.notary_link.specs.Batches.{Batch}
use Rattle.tuple_bytes.specs.Limits.{max_granules}
use Rattle.history_model.specs.History.{History, history}
use Rattle.history_model.specs.StoredHistory.{IsHistory}
use Rattle.digest_model.specs.Layout.{Era as LayoutEra, layout, policy_of, first_granule}
use Rattle.audit_model.specs.Notary.{is_same}
use Rattle.policy_eras.specs.declared.era.Era.{Era}
use Rattle.evidence_file.specs.declared.entry.Entry.{Entry}
use Rattle.evidence_file.specs.declared.evidence.Evidence.{Evidence}
use Rattle.evidence_file.specs.Evidence.{FitsEvidence}
use Rattle.evidence_file.specs.Shown.{spelled_rows, list_answer, leaf_name}

-- an era of a store, with the first granule of its tile
abbrev pub placed : History → LayoutEra → Era
placed s e = record { tile = e.tile; granule = first_granule (layout s) e.tile; k = e.k; algs = e.algs }

-- what a copy holds in a granule, as the header of the store counts granules
abbrev pub held_in : History → History → ℕ → List (List ℕ)
held_in s copy g = spelled_rows (history s.header copy.items) g

-- a list is answered Same under the leaf of a granule
abbrev pub is_notarized : List Batch → History → ℕ → List (List ℕ) → Bool
is_notarized batches s g spelled = is_same (list_answer batches (leaf_name (layout s) g) g spelled)

-- what the copy holds in a granule, where there is a copy and this is answered Same
abbrev pub original_in : List Batch → History → Option History → ℕ → Option (List (List ℕ))
original_in batches s None g = None
original_in batches s (Some copy) g = if is_notarized batches s g (held_in s copy g) then Some (held_in s copy g) else None

-- what is shown of a granule
abbrev pub entry_in : List Batch → History → Option History → ℕ → Entry
entry_in batches s copy g = record { granule = g; shown = spelled_rows s g; original = original_in batches s copy g }

-- the file of these granules: all eras of the store but the first, sealed or not
unfoldable pub gathered : List Batch → History → Option History → List ℕ → Evidence
gathered batches s copy granules =
    record { header = s.header; eras = map (placed s) (policy_of s).later; entries = map (entry_in batches s copy) granules }

-- a history that a file can hold, of few items
abbrev pub IsSource : History → Type 0
IsSource s = IsHistory s × (length s.items < 2 ^ 32)

-- What is gathered of granules that ascend has a spelling.
abbrev pub GatheredFits : Type 0
GatheredFits = (batches : List Batch) (s : History) (copy : Option History) (granules : List ℕ) → IsSource s → IfSome copy IsSource
    → length granules < 2 ^ 32 → IsStrictlyIncreasing granules → All (λ g. g < max_granules) granules
    → FitsEvidence (gathered batches s copy granules)
