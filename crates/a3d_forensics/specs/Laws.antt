-- Which granules the trees have, when a descent comes to an end, and when it never stops.
use Rattle.std.specs.Prelude.{◌≡◌, ◌≢◌, ◌↔◌, ◌⊎◌, ◌<◌, ◌≤◌, ◌+◌, ◌*◌, ◌/◌, ◌^◌, ℕ, zero, suc, true, List, [], length, Option, Some, None}
use Rattle.std.specs.List.{Contains, sum_by}
use Rattle.std.specs.List.Sorted.{IsStrictlyIncreasing}
use Rattle.notary_link.specs.declared.answer.Answer.{Answer}
use Rattle.notary_link.specs.declared.answer.Answer.TheVariants.{Differs}
use Rattle.notary_link.specs.declared.fail.AskFail.TheVariants.{NotaryInconsistent}
use Rattle.notary_link.specs.Batches.{Batch}
use Rattle.history_model.specs.History.{History}
use Rattle.digest_model.specs.Layout.{Layout, layout, tile_of, has_tree}
use Rattle.digest_model.specs.Roots.{down_from, roots_of}
use Rattle.audit_model.specs.Notary.{NotaryOf}
use Rattle.audit_model.specs.Altered.{IsAltered, HashClash}
use Rattle.audit_model.specs.Laws.{IsAudit}
use Rattle.audit_model.specs.Ranges.{range_of, range_has}
use Rattle.audit_model.specs.Tree.{Reached, IsConsistent, found, checks}
use Rattle.a3d_forensics.specs.declared.tree.Tree.{Tree}
use Rattle.a3d_forensics.specs.Trees.{trees_of}
use Rattle.a3d_forensics.specs.Descent.{stop_of, tree_found, tree_stop}

-- a granule is one of a tree's leaves
abbrev pub IsLeafOf : Tree → ℕ → Type 0
IsLeafOf tree g = (tree.first ≤ g) × (g < tree.first + tree.leaves)

-- one tree of a range has this granule
abbrev pub HasLeaf : List Tree → ℕ → Type 0
HasLeaf trees g = (tree : Tree) × Contains trees tree × IsLeafOf tree g

-- The trees of a range have the granules of its tiles, and no others.
abbrev pub TreesCoverRange : Type 0
TreesCoverRange = (l : Layout) (era : Option ℕ) (n g : ℕ)
    → HasLeaf (trees_of era l n) g ↔ Contains (range_of era l n) (tile_of l g)

-- Where nothing stops a descent through a tree, a child differs below each node that is reached and differs. So few nodes are asked.
abbrev pub EndedIsConsistent : Type 0
EndedIsConsistent = (era leaves : ℕ) (nodes : ℕ → ℕ → Answer) → leaves < 2 ^ 32 → stop_of era leaves nodes ≡ None → IsConsistent leaves nodes

-- Nothing stops the descent over a history under the notarized header and eras, without exception.
abbrev pub AuditEnds : Type 0
AuditEnds = (batches : List Batch) (id : ℕ) (h s : History) (era : Option ℕ) (n : ℕ) → IsAudit batches id h s n → range_has has_tree era h n ≡ true
    → tree_stop batches s era n ≡ None

-- A notary that holds the batches of a history is not inconsistent about any other, without exception.
abbrev pub NotaryIsConsistent : Type 0
NotaryIsConsistent = (batches : List Batch) (id : ℕ) (h s : History) (range : Option ℕ) (n tiles era level index : ℕ) → NotaryOf batches id h n
    → tree_stop batches s range tiles ≢ Some (NotaryInconsistent era level index)

-- Under the notarized header and eras each altered granule of the range is found, unless two inputs clash; and each granule that is
-- found is an altered one of the range, without exception.
pub record LeavesAreAltered : Type 0 where
  pub all : (batches : List Batch) (id : ℕ) (h s : History) (era : Option ℕ) (n g : ℕ) → IsAudit batches id h s n → range_has has_tree era h n ≡ true
      → Contains (range_of era (layout h) n) (tile_of (layout h) g) → IsAltered h (Some s) n g
      → Contains (tree_found batches s era n) g ⊎ HashClash h (Some s) n
  pub only : (batches : List Batch) (id : ℕ) (h s : History) (era : Option ℕ) (n g : ℕ) → IsAudit batches id h s n → range_has has_tree era h n ≡ true
      → Contains (tree_found batches s era n) g → IsAltered h (Some s) n g × Contains (range_of era (layout h) n) (tile_of (layout h) g)

-- Of a notarized history nothing is found, and nothing stops the descent.
abbrev pub NotarizedHasNone : Type 0
NotarizedHasNone = (batches : List Batch) (id : ℕ) (h : History) (era : Option ℕ) (n : ℕ) → NotaryOf batches id h n → range_has has_tree era h n ≡ true
    → (tree_found batches h era n ≡ []) × (tree_stop batches h era n ≡ None)

-- ---- how many nodes of a tree are asked

-- the answers for the nodes above the leaves, a level lower
abbrev pub above : (ℕ → ℕ → Answer) → ℕ → ℕ → Answer
above nodes level index = nodes (suc level) index

-- the nodes of a level that are reached and differ: the leaves that are found in the trees above the levels below it
unfoldable pub found_at : ℕ → ℕ → (ℕ → ℕ → Answer) → List ℕ
found_at zero leaves nodes = found leaves nodes
found_at (suc level) leaves nodes = found_at level (leaves / 2) (above nodes)

-- Each level's list has exactly the nodes that are reached and differ, each once; the checks are the roots, and two for each
-- such node of level 1 or more.
pub record ChecksCountForks : Type 0 where
  pub exact : (leaves level index : ℕ) (nodes : ℕ → ℕ → Answer) → leaves < 2 ^ 32
      → Contains (found_at level leaves nodes) index ↔ (Reached leaves nodes level index × (nodes level index ≡ Differs))
  pub once : (leaves level : ℕ) (nodes : ℕ → ℕ → Answer) → IsStrictlyIncreasing (found_at level leaves nodes)
  pub checks : (leaves : ℕ) (nodes : ℕ → ℕ → Answer) → leaves < 2 ^ 32
      → checks leaves nodes ≡ length (roots_of leaves) + 2 * sum_by (λ level. length (found_at (suc level) leaves nodes)) (down_from 32)
