-- Names of digests, batches of sealed digests, and what is answered from them.
use Rattle.std.specs.Prelude.{◌≡◌, ◌⊎◌, ◌≤◌, ◌==◌, ◌&&◌, ℕ, Bool, true, false, List, Option, None, Some, All, length, nat_eq, if◌then◌else◌}
use Rattle.std.specs.Cmp.Lexicographic.{pointwise}
use Rattle.std.specs.List.{find, flat_map, slice_get}
use Rattle.std.specs.Option.{option_map}
use Rattle.notary_link.specs.declared.name.Name.{Name}
use Rattle.notary_link.specs.declared.name.Name.TheVariants.{Header, Cum, Tile, Node, Era, EraNode}
use Rattle.notary_link.specs.declared.seal.Seal.{Seal}
use Rattle.notary_link.specs.declared.answer.Answer.{Answer}
use Rattle.notary_link.specs.declared.answer.Answer.TheVariants.{Same, Differs, Absent}

-- ---- Names

abbrev pub same_name : Name → Name → Bool
same_name Header Header = true
same_name (Cum j) (Cum l) = j == l
same_name (Tile j a) (Tile l b) = (j == l) && (a == b)
same_name (Node l i) (Node m j) = (l == m) && (i == j)
same_name (Era e) (Era f) = e == f
same_name (EraNode e l i) (EraNode f m j) = ((e == f) && (l == m)) && (i == j)
same_name _ _ = false

-- the part that is the whole of a tile
abbrev pub whole_tile : ℕ
whole_tile = 255

-- a part of a tile is the whole or one of ten chains, and there are 21 levels
abbrev pub IsName : Name → Type 0
IsName Header = Unit {0}
IsName (Cum j) = Unit {0}
IsName (Tile j part) = (part ≤ 9) ⊎ (part ≡ whole_tile)
IsName (Node level i) = level ≤ 20
IsName (Era e) = Unit {0}
IsName (EraNode e level i) = level ≤ 20

-- ---- Batches

-- a filed batch
pub record Batch : Type 0 where
  pub moment : ℕ
  pub seals : List Seal

-- what may be filed as a batch
pub record IsBatch (seals : List Seal) : Type 0 where
  pub some : 1 ≤ length seals
  pub not_many : length seals ≤ 4096
  pub names : All (λ seal. IsName seal.name) seals

-- the moment of the batch of this index
abbrev pub moment_at : List Batch → ℕ → Option ℕ
moment_at batches index = option_map (λ b. b.moment) (slice_get batches index)

-- ---- Answers

-- the first seal of that name, in the order in which the batches were filed
unfoldable pub filed : List Batch → Name → Option Seal
filed batches name = find (λ seal. same_name seal.name name) (flat_map (λ b. b.seals) batches)

-- two digests
abbrev pub compared : List ℕ → List ℕ → Answer
compared ours theirs = if pointwise nat_eq ours theirs then Same else Differs

-- a digest, and the seal that is found
abbrev pub answer_by : Option Seal → List ℕ → Answer
answer_by None ours = Absent
answer_by (Some seal) ours = compared ours seal.digest

-- what a notary that holds these batches answers of a digest under a name
unfoldable pub answer : List Batch → Name → List ℕ → Answer
answer batches name ours = answer_by (filed batches name) ours
