-- What a report shows of the history that was filed.
use Rattle.std.specs.Prelude.{◌≡◌, ◌⊎◌, ◌↔◌, ◌≤◌, ℕ, true, false, List, All, Contains, length, Option, Some, IfSome}
use Rattle.notary_link.specs.Batches.{Batch}
use Rattle.history_model.specs.History.{History}
use Rattle.digest_model.specs.Layout.{Layout, layout, first_granule, exponent, tile_of}
use Rattle.audit_model.specs.Altered.{HasPlacesOf, HasOtherHeader, IsAltered, HashClash, HasAltered, IsAlteredSet}
use Rattle.audit_model.specs.Mono.{IfSomeOrNever}
use Rattle.audit_model.specs.Ranges.{range_of}
use Rattle.audit_model.specs.Tiled.{IsCandidate, IsCandidateAmong}
use Rattle.tiled_forensics.specs.Target.{parts}
use Rattle.forensic_report.specs.declared.algorithm.Algorithm.{Algorithm}
use Rattle.forensic_report.specs.declared.algorithm.Algorithm.TheVariants.{TiledExactly}
use Rattle.forensic_report.specs.Analysis.{Extent, Findings, Analysis, Region, Targets, Leaves, Unsealed, HeaderAltered, Found, range, era_named, is_altered}
use Rattle.forensic_report.specs.Texts.{candidates_by, granules_by}

-- ---- what a report names

-- the granules from the first one of the region on; those of some tile's list; those that were found
abbrev pub NamesIn : Algorithm → Layout → Findings → ℕ → Type 0
NamesIn algorithm l (Region region) g = IfSomeOrNever region (λ first. first_granule l first ≤ g)
NamesIn algorithm l (Targets targets) g = (t : ℕ × ℕ) × Contains targets t × Contains (granules_by algorithm l t.0 t.1) g
NamesIn algorithm l (Leaves granules checks) g = Contains granules g

-- of sealed granules; under another header every one (a region names all from its first granule on)
abbrev pub Names : Algorithm → Analysis → ℕ → Type 0
Names algorithm (Unsealed era) g = ⊥
Names algorithm (HeaderAltered n) g = Unit {0}
Names algorithm (Found extent findings) g = NamesIn algorithm extent.layout findings g

-- ---- the range

-- an altered granule of the tiles of an era, or of all, where none is named
pub record IsAlteredWithin (era : Option ℕ) (h : History) (s : Option History) (n g : ℕ) : Type 0 where
  pub altered : IsAltered h s n g
  pub inside : Contains (range_of era (layout h) n) (tile_of (layout h) g)

-- ---- what is promised

-- so many granules of the tile are altered
abbrev pub HasAlteredMany : ℕ → History → History → ℕ → ℕ → Type 0
HasAlteredMany kappa h s n tile = (numbers : List ℕ) × IsAlteredSet h s n tile numbers × (length numbers ≡ kappa)

-- of sets of kappa members the tiles are promised that have kappa altered granules
abbrev pub IsPromised : Algorithm → History → Option History → ℕ → ℕ → Type 0
IsPromised (TiledExactly kappa) h (Some s) n g = HasAlteredMany kappa h s n (tile_of (layout h) g)
IsPromised algorithm h s n g = Unit {0}

-- without exception: where there is a region, something is altered; of each tile that fails, one of the range, some granule is;
-- and each granule that is found is, one of the range, under the header of h and with its sealed tiles
abbrev pub AreAltered : History → History → ℕ → Extent → Findings → Type 0
AreAltered h s n extent (Region region) = IfSome region (λ first. (g : ℕ) × IsAlteredWithin extent.era h (Some s) n g)
AreAltered h s n extent (Targets targets) = All (λ t. Contains (range extent) t.0 × HasAltered h s n t.0) targets
AreAltered h s n extent (Leaves granules checks) = HasPlacesOf h s n → All (λ g. IsAlteredWithin extent.era h (Some s) n g) granules

-- a region begins at an altered tile, unless two inputs clash
abbrev pub BeginsAltered : History → History → ℕ → Findings → Type 0
BeginsAltered h s n (Region region) = IfSome region (λ first. HasAltered h s n first ⊎ HashClash h (Some s) n)
BeginsAltered h s n findings = Unit {0}

-- a member of some set that explains the answers, of kappa members where it is so asked
abbrev pub IsCandidateBy : Algorithm → ℕ → List Batch → History → ℕ → ℕ → Type 0
IsCandidateBy (TiledExactly kappa) k batches s tile number = IsCandidateAmong kappa k (parts batches s tile) number
IsCandidateBy algorithm k batches s tile number = IsCandidate k (parts batches s tile) number

-- each tile's list has exactly these, whatever the notary holds
abbrev pub AreExplained : Algorithm → List Batch → History → Layout → Findings → Type 0
AreExplained algorithm batches s l (Targets targets) =
    All (λ t. (number : ℕ) → Contains (candidates_by algorithm t.1 (exponent l t.0)) number ↔ IsCandidateBy algorithm (exponent l t.0) batches s t.0 number) targets
AreExplained algorithm batches s l findings = Unit {0}

-- P of what was found in a stored history
abbrev pub IfFound : Analysis → Option History → (History → Extent → Findings → Type 0) → Type 0
IfFound (Found extent findings) (Some s) P = P s extent findings
IfFound a s P = Unit {0}

-- P, where the header is told as altered
abbrev pub IfHeaderAltered : Analysis → Type 0 → Type 0
IfHeaderAltered (HeaderAltered n) P = P
IfHeaderAltered a P = Unit {0}

-- a file has another header or other eras, or some granule of the range is altered
abbrev pub IsOtherOrAltered : Option ℕ → History → Option History → ℕ → Type 0
IsOtherOrAltered era h s n = HasOtherHeader h s n ⊎ ((g : ℕ) × IsAlteredWithin era h s n g)

-- ---- the promise

-- What a report shows of the filed history h, of which n tiles are sealed, where s is what the file holds.
pub record Shows (algorithm : Algorithm) (batches : List Batch) (h : History) (s : Option History) (n : ℕ) (a : Analysis) : Type 0 where
  -- unless two inputs clash, it names each altered granule of its range that is promised
  pub named : (g : ℕ) → IsAlteredWithin (era_named a) h s n g → IsPromised algorithm h s n g → Names algorithm a g ⊎ HashClash h s n
  -- unless two inputs clash, nothing of its range is altered where it tells of no alteration
  pub unaltered : is_altered a ≡ false → (g : ℕ) → IsAlteredWithin (era_named a) h s n g → HashClash h s n
  pub begins : IfFound a s (λ stored extent findings. BeginsAltered h stored n findings)
  -- without exception: where it tells of one there is one, and where the header is told as altered it or an era is another one
  pub altered : is_altered a ≡ true → IsOtherOrAltered (era_named a) h s n
  pub header : IfHeaderAltered a (HasOtherHeader h s n)
  -- and what is told of granules
  pub only : IfFound a s (λ stored extent findings. AreAltered h stored n extent findings)
  pub explained : IfFound a s (λ stored extent findings. AreExplained algorithm batches stored extent.layout findings)
