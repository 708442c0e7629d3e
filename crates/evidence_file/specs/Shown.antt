-- What a notary's answer says of a list of transactions that is shown for a granule.
use Rattle.std.specs.Prelude.{◌≡◌, ◌≢◌, ◌⊎◌, ◌<◌, ◌+◌, ◌-◌, ℕ, true, List, [], ◌∷◌, map}
use Rattle.std.specs.List.{All, Contains}
use Rattle.notary_link.specs.declared.answer.Answer.{Answer}
use Rattle.notary_link.specs.declared.answer.Answer.TheVariants.{Same, Differs}
use Rattle.notary_link.specs.declared.name.Name.{Name}
use Rattle.notary_link.specs.Batches.{Batch, answer}
use Rattle.tuple_bytes.specs.Spelling.{spell_txn}
use Rattle.history_model.specs.History.{History, rows}
use Rattle.digest_model.specs.Layout.{Layout, layout, first_granule, tile_of, has_tree, era_of, leaf_start}
use Rattle.digest_model.specs.Digests.{granule_input, granule_over, granule_digest}
use Rattle.digest_model.specs.Inputs.{Clash, hashed}
use Rattle.digest_model.specs.Plain.{IsShort}
use Rattle.digest_model.specs.Spelled.{HasSpelling}
use Rattle.audit_model.specs.Names.{planned, digest, node_name}
use Rattle.audit_model.specs.Notary.{NotaryOf}

-- ---- lists, and what is asked for them

-- the transactions of a granule, each by its spelling
abbrev pub spelled_rows : History → ℕ → List (List ℕ)
spelled_rows h g = map spell_txn (rows h g)

-- the answer for the digest of a list as that of a granule
abbrev pub list_answer : List Batch → Name → ℕ → List (List ℕ) → Answer
list_answer batches name g spelled = answer batches name (granule_over g spelled)

-- ---- leaves

-- a name under which the digest of a granule is filed, with n sealed tiles
pub record IsLeaf (h : History) (n g : ℕ) (name : Name) : Type 0 where
  pub filed : Contains (planned (layout h) n) name
  pub value : digest h name ≡ granule_digest h g

-- the leaf of a granule: its number among the granules of its era
abbrev pub leaf_of : Layout → ℕ → ℕ
leaf_of l g = leaf_start l (tile_of l g) + (g - first_granule l (tile_of l g))

-- the name of that leaf
abbrev pub leaf_name : Layout → ℕ → Name
leaf_name l g = node_name (era_of l (tile_of l g)) 0 (leaf_of l g)

-- Under each sealed granule whose era has the tree the digest of the granule is filed, by the name of its leaf.
abbrev pub LeavesAreFiled : Type 0
LeavesAreFiled = (h : History) (n g : ℕ) → g < first_granule (layout h) n → has_tree (layout h) (tile_of (layout h) g) ≡ true
    → IsLeaf h n g (leaf_name (layout h) g)

-- ---- what answers say

-- the input of a list and that of the notarized granule differ and have one digest
abbrev pub ListClash : History → ℕ → List (List ℕ) → Type 0
ListClash h g spelled = Clash (granule_input g spelled ∷ []) (hashed h g ∷ [])

-- A list that is answered Same is the notarized one, unless these two inputs clash.
abbrev pub SameListIsNotarized : Type 0
SameListIsNotarized = (batches : List Batch) (id : ℕ) (h : History) (n : ℕ) (name : Name) (g : ℕ) (spelled : List (List ℕ))
    → NotaryOf batches id h n → HasSpelling h → IsLeaf h n g name → All IsShort spelled
    → list_answer batches name g spelled ≡ Same
    → (spelled ≡ spelled_rows h g) ⊎ ListClash h g spelled

-- A list that is answered Differs is another one.
abbrev pub DifferingListIsOther : Type 0
DifferingListIsOther = (batches : List Batch) (id : ℕ) (h : History) (n : ℕ) (name : Name) (g : ℕ) (spelled : List (List ℕ))
    → NotaryOf batches id h n → IsLeaf h n g name
    → list_answer batches name g spelled ≡ Differs
    → spelled ≢ spelled_rows h g

-- The notarized list is answered Same.
abbrev pub NotarizedListIsSame : Type 0
NotarizedListIsSame = (batches : List Batch) (id : ℕ) (h : History) (n : ℕ) (name : Name) (g : ℕ)
    → NotaryOf batches id h n → IsLeaf h n g name
    → list_answer batches name g (spelled_rows h g) ≡ Same
