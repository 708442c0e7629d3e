-- What the answers show.
use Rattle.std.specs.Prelude.{◌≡◌, ◌≢◌, ◌↔◌, ◌⊎◌, ℕ, suc, ◌+◌, ◌*◌, ◌^◌, ◌<◌, ◌≤◌, true, List, Contains, length, Option, Some}
use Rattle.std.specs.List.Sorted.{IsStrictlyIncreasing}
use Rattle.notary_link.specs.declared.name.Name.{Name}
use Rattle.notary_link.specs.declared.name.Name.TheVariants.{Cum, Tile}
use Rattle.notary_link.specs.declared.answer.Answer.{Answer}
use Rattle.notary_link.specs.declared.answer.Answer.TheVariants.{Same, Differs, Absent}
use Rattle.notary_link.specs.Batches.{Batch, compared}
use Rattle.tuple_bytes.specs.Spelling.{FitsHeader}
use Rattle.history_model.specs.History.{History}
use Rattle.history_model.specs.Stored.{stored}
use Rattle.digest_model.specs.Layout.{layout, SameTiles, exponent, first_granule, end_granule, tile_size, whole, has_tile_chains}
use Rattle.digest_model.specs.Roots.{roots_of}
use Rattle.digest_model.specs.Laws.{SameBelow}
use Rattle.digest_model.specs.Spelled.{HasSpelling}
use Rattle.audit_model.specs.Names.{planned, digest}
use Rattle.audit_model.specs.Notary.{NotaryOf, answers, header_answer}
use Rattle.audit_model.specs.Altered.{history_in, HasPlacesOf, HasOtherHeader, IsAltered, HashClash}
pub use Rattle.audit_model.specs.Altered.{IsAlteredIn, HasAltered, IsAlteredSet}
use Rattle.audit_model.specs.Sound.{HoldsNotarized}
use Rattle.audit_model.specs.Mono.{BeginsRegion, IsFirstBad, IsStep}
pub use Rattle.audit_model.specs.Mono.{IfSomeOrNever}
use Rattle.audit_model.specs.Tree.{IsFound, IsConsistent, found, checks, digit_count}
pub use Rattle.audit_model.specs.Tree.{IsTree, leaves}
pub use Rattle.audit_model.specs.Notary.{nodes_of}
use Rattle.audit_model.specs.Tiled.{IsCandidate, IsCandidateAmong, IsTarget, candidates_of, exactly_of}

-- The candidates are the numbers that have every bit of the target.
abbrev pub CandidatesAreExact : Type 0
CandidatesAreExact = (k target g : ℕ) (parts : ℕ → Answer) → IsTarget k parts target
    → Contains (candidates_of target k) g ↔ IsCandidate k parts g

abbrev pub CandidatesAmongAreExact : Type 0
CandidatesAmongAreExact = (kappa k target g : ℕ) (parts : ℕ → Answer) → IsTarget k parts target
    → Contains (exactly_of target k kappa) g ↔ IsCandidateAmong kappa k parts g

-- The list of leaves has those that are reached and differ.
abbrev pub FoundAreExact : Type 0
FoundAreExact = (granules g : ℕ) (nodes : ℕ → ℕ → Answer) → granules < 2 ^ 32
    → Contains (found granules nodes) g ↔ IsFound granules nodes g

-- A descent asks few nodes for each leaf that it finds.
abbrev pub ChecksAreFew : Type 0
ChecksAreFew = (granules : ℕ) (nodes : ℕ → ℕ → Answer) → granules < 2 ^ 32 → IsConsistent granules nodes
    → checks granules nodes ≤ length (roots_of granules) + 2 * (digit_count granules * length (found granules nodes))

-- ---- the answers for the digests of s, where the notary holds h's

-- a notarized history, and the history of a file under its header, with the tiles in the same places
pub record IsAudit (batches : List Batch) (id : ℕ) (h s : History) (n : ℕ) : Type 0 where
  pub filed : NotaryOf batches id h n
  pub ours : HasSpelling h
  pub theirs : HasSpelling s
  pub header : h.header ≡ s.header
  pub places : SameTiles n (layout h) (layout s)

-- for a planned name the two digests are compared
abbrev pub AnswersCompare : Type 0
AnswersCompare = (batches : List Batch) (id : ℕ) (h s : History) (n : ℕ) (name : Name) → NotaryOf batches id h n
    → Contains (planned (layout h) n) name
    → answers batches s name ≡ compared (digest s name) (digest h name)

-- other names are absent
abbrev pub OthersAreAbsent : Type 0
OthersAreAbsent = (batches : List Batch) (id : ℕ) (h s : History) (n : ℕ) (name : Name) → NotaryOf batches id h n
    → (Contains (planned (layout h) n) name → ⊥)
    → answers batches s name ≡ Absent

-- There is a batch for the header, and one for each sealed tile.
abbrev pub BatchesAreCounted : Type 0
BatchesAreCounted = (batches : List Batch) (id : ℕ) (h : History) (n : ℕ) → NotaryOf batches id h n
    → length batches ≡ n + 1

-- Under another header, or none, every sealed granule is altered.
abbrev pub OtherHeaderIsAltered : Type 0
OtherHeaderIsAltered = (h : History) (s : Option History) (n g : ℕ) → HasOtherHeader h s n → g < first_granule (layout h) n
    → IsAltered h s n g

-- Where the chain is the same at the end of a tile, nothing is altered up to there.
abbrev pub SameChainIsClean : Type 0
SameChainIsClean = (batches : List Batch) (id : ℕ) (h s : History) (n tile : ℕ) → IsAudit batches id h s n → tile < n
    → answers batches s (Cum tile) ≡ Same
    → SameBelow h s (end_granule (layout h) tile) ⊎ HashClash h (Some s) n

-- The region of the Monochromatic analysis has every altered granule.
abbrev pub RegionHasAltered : Type 0
RegionHasAltered = (batches : List Batch) (id : ℕ) (h s : History) (n : ℕ) (region : Option ℕ) (g : ℕ) → IsAudit batches id h s n
    → BeginsRegion (λ tile. answers batches s (Cum tile)) n region
    → IsAltered h (Some s) n g
    → IfSomeOrNever region (λ tile. first_granule (layout h) tile ≤ g) ⊎ HashClash h (Some s) n

-- An altered granule is a candidate of its tile.
abbrev pub CandidatesHaveAltered : Type 0
CandidatesHaveAltered = (batches : List Batch) (id : ℕ) (h s : History) (n tile number : ℕ) → IsAudit batches id h s n
    → has_tile_chains (layout h) tile ≡ true → tile < n → number < tile_size (layout h) tile
    → IsAltered h (Some s) n (first_granule (layout h) tile + number)
    → IsCandidate (exponent (layout h) tile) (λ part. answers batches s (Tile tile part)) number ⊎ HashClash h (Some s) n

-- An altered granule of a tree is a leaf that is reached and differs.
abbrev pub DescentHasAltered : Type 0
DescentHasAltered = (batches : List Batch) (id : ℕ) (h s : History) (n era a b g : ℕ) → IsAudit batches id h s n → IsTree h n era a b
    → g < leaves h a b → IsAltered h (Some s) n (first_granule (layout h) a + g)
    → IsFound (leaves h a b) (nodes_of batches s era) g ⊎ HashClash h (Some s) n

-- A leaf that is reached and differs is an altered granule.
abbrev pub DescentIsAltered : Type 0
DescentIsAltered = (batches : List Batch) (id : ℕ) (h s : History) (n era a b g : ℕ) → IsAudit batches id h s n → IsTree h n era a b
    → IsFound (leaves h a b) (nodes_of batches s era) g
    → IsAltered h (Some s) n (first_granule (layout h) a + g)

-- The header's answer shows whether the file has the notarized header, and the eras of the sealed tiles.
abbrev pub HeaderIsShown : Type 0
HeaderIsShown = (batches : List Batch) (id : ℕ) (h s : History) (n : ℕ) → NotaryOf batches id h n → HasSpelling h → HasSpelling s
    → header_answer batches s n ≡ Same
    → HasPlacesOf h s n ⊎ HashClash h (Some s) n

-- A file has the notarized header and eras, or other ones.
abbrev pub HeadersAreOneOrOther : Type 0
HeadersAreOneOrOther = (h s : History) (n : ℕ) → FitsHeader h.header → FitsHeader s.header
    → HasPlacesOf h s n ⊎ HasOtherHeader h (Some s) n

-- Where the header's answer differs, the file has another one or other eras, without exception.
abbrev pub RefusedHeaderIsOther : Type 0
RefusedHeaderIsOther = (batches : List Batch) (id : ℕ) (h s : History) (n : ℕ) → NotaryOf batches id h n
    → header_answer batches s n ≡ Differs
    → HasOtherHeader h (Some s) n

-- Where the chain differs at the end of a tile, some granule up to there is altered, without exception.
abbrev pub ChangedChainHasAltered : Type 0
ChangedChainHasAltered = (batches : List Batch) (id : ℕ) (h s : History) (n tile : ℕ) → IsAudit batches id h s n → tile < n
    → answers batches s (Cum tile) ≡ Differs
    → (g : ℕ) × (g < end_granule (layout h) tile) × IsAltered h (Some s) n g

-- The region begins at a tile with an altered granule.
abbrev pub RegionBeginsAltered : Type 0
RegionBeginsAltered = (batches : List Batch) (id : ℕ) (h s : History) (n tile : ℕ) → IsAudit batches id h s n
    → IsFirstBad (λ j. answers batches s (Cum j)) n tile
    → HasAltered h s n tile ⊎ HashClash h (Some s) n

-- A tile that differs has an altered granule, without exception.
abbrev pub FailingTileIsAltered : Type 0
FailingTileIsAltered = (batches : List Batch) (id : ℕ) (h s : History) (n tile : ℕ) → IsAudit batches id h s n
    → has_tile_chains (layout h) tile ≡ true → tile < n
    → answers batches s (Tile tile whole) ≡ Differs
    → HasAltered h s n tile

-- Below a node that differs a child differs, without exception.
abbrev pub TreeIsConsistent : Type 0
TreeIsConsistent = (batches : List Batch) (id : ℕ) (h s : History) (n era a b : ℕ) → IsAudit batches id h s n → IsTree h n era a b
    → IsConsistent (leaves h a b) (nodes_of batches s era)

-- A node that differs, of whatever history, has a child that is not the same, without exception.
abbrev pub NodesAreConsistent : Type 0
NodesAreConsistent = (batches : List Batch) (id : ℕ) (h s : History) (n era level index : ℕ) → NotaryOf batches id h n
    → nodes_of batches s era (suc level) index ≡ Differs
    → (nodes_of batches s era level (2 * index) ≢ Same) ⊎ (nodes_of batches s era level (2 * index + 1) ≢ Same)

-- Where the answers are the same up to a tile and differ from there on, the region begins there and nowhere else.
abbrev pub StepIsRegion : Type 0
StepIsRegion = (cums : ℕ → Answer) (n p : ℕ) (region : Option ℕ) → IsStep cums n p
    → BeginsRegion cums n region ↔ (region ≡ Some p)

-- Where kappa granules of a tile are altered, they are candidates among sets of kappa members.
abbrev pub CandidatesAmongHaveAltered : Type 0
CandidatesAmongHaveAltered = (batches : List Batch) (id : ℕ) (h s : History) (n tile number : ℕ) (numbers : List ℕ) → IsAudit batches id h s n
    → has_tile_chains (layout h) tile ≡ true → tile < n → IsAlteredSet h s n tile numbers → Contains numbers number
    → IsCandidateAmong (length numbers) (exponent (layout h) tile) (λ part. answers batches s (Tile tile part)) number ⊎ HashClash h (Some s) n

-- The leaves that are found ascend.
abbrev pub FoundAscend : Type 0
FoundAscend = (granules : ℕ) (nodes : ℕ → ℕ → Answer) → IsStrictlyIncreasing (found granules nodes)

-- A notarized history is answered the same for each planned name.
abbrev pub NotarizedIsSame : Type 0
NotarizedIsSame = (batches : List Batch) (id : ℕ) (s : History) (n : ℕ) (name : Name) → NotaryOf batches id s n
    → Contains (planned (layout s) n) name
    → answers batches s name ≡ Same

-- bytes hold a history under the id, for which each planned name is answered Same
pub record IsAnsweredSame (batches : List Batch) (id n : ℕ) (bytes : List ℕ) : Type 0 where
  pub history : History
  pub is_stored : history_in (stored bytes) ≡ Some history
  pub header : history.header.id ≡ id
  pub shown : header_answer batches history n ≡ Same
  pub same : (name : Name) → Contains (planned (layout history) n) name → answers batches history name ≡ Same

-- Bytes that hold what is filed, as each image of a sound store, are answered the same for each planned name.
abbrev pub HeldIsSame : Type 0
HeldIsSame = (batches : List Batch) (id n : ℕ) (bytes : List ℕ) → HoldsNotarized batches id n (history_in (stored bytes))
    → IsAnsweredSame batches id n bytes
