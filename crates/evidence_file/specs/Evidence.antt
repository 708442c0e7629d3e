-- An evidence file: its one spelling, and what has one. Numbers stand with the highest byte first.
use Rattle.std.specs.Prelude.{◌≡◌, ℕ, suc, ◌<◌, ◌≤◌, ◌^◌, ◌&&◌, nat_le, Bool, true, List, [], ◌∷◌, ◌++◌, length, codes, Option, Some, None}
use Rattle.std.specs.List.{flat_map, AllByRecursion}
use Rattle.std.specs.Int.{w32, to_be_bytes}
use Rattle.tuple_bytes.specs.declared.item.Txn.{Txn}
use Rattle.tuple_bytes.specs.Limits.{max_granules}
use Rattle.tuple_bytes.specs.Spelling.{spell_fields, spell_txn, FitsHeader, FitsItem}
use Rattle.history_model.specs.History.{granule_of}
use Rattle.digest_model.specs.Layout.{Policy, max_later, is_next, offered, first_era}
use Rattle.digest_model.specs.Digests.{behind_length}
use Rattle.digest_model.specs.Plain.{IsStorableTxn}
use Rattle.policy_eras.specs.declared.era.Era.{Era}
use Rattle.policy_eras.specs.Policy.{as_era, as_item}
use Rattle.evidence_file.specs.declared.entry.Entry.{Entry}
use Rattle.evidence_file.specs.declared.evidence.Evidence.{Evidence}

-- ---- the spelling

-- the letters of the format
abbrev pub evidence_text : List ℕ
evidence_text = codes "DRAGEVD1"

-- its tile, its first granule, its exponent and its algorithms, as in the policy that begins it
abbrev pub spell_era : Era → List ℕ
spell_era e = to_be_bytes w32 e.tile ++ (to_be_bytes w32 e.granule ++ (e.k ∷ e.algs ∷ []))

-- four bytes of count, and that many eras
abbrev pub spell_eras : List Era → List ℕ
spell_eras es = to_be_bytes w32 (length es) ++ flat_map spell_era es

-- four bytes of count, and each spelling behind its length
abbrev pub spell_list : List (List ℕ) → List ℕ
spell_list ts = to_be_bytes w32 (length ts) ++ flat_map behind_length ts

-- no second list, or one
abbrev pub spell_second : Option (List (List ℕ)) → List ℕ
spell_second None = 0 ∷ []
spell_second (Some ts) = 1 ∷ spell_list ts

-- the granule, what the store has there, and what its copy has
abbrev pub spell_entry : Entry → List ℕ
spell_entry e = to_be_bytes w32 e.granule ++ (spell_list e.shown ++ spell_second e.original)

-- four bytes of count, and that many entries
abbrev pub spell_entries : List Entry → List ℕ
spell_entries es = to_be_bytes w32 (length es) ++ flat_map spell_entry es

-- the letters, the header fields, the eras, the entries
abbrev pub spell_evidence : Evidence → List ℕ
spell_evidence e = evidence_text ++ (spell_fields e.header ++ (spell_eras e.eras ++ spell_entries e.entries))

-- ---- what has a spelling

-- the bytes are the spelling of a transaction that a record can hold
pub record IsTxnSpelled (bytes : List ℕ) : Type 0 where
  pub txn : Txn
  pub storable : IsStorableTxn txn
  pub spelled : bytes ≡ spell_txn txn

-- and that transaction lies in this granule, where granules have this width
pub record IsTxnOf (width g : ℕ) (bytes : List ℕ) : Type 0 where
  pub some : IsTxnSpelled bytes
  pub place : granule_of width some.txn.moment ≡ g

-- a list of transactions of a granule
abbrev pub FitsList : ℕ → ℕ → List (List ℕ) → Type 0
FitsList width g ts = (length ts < 2 ^ 32) × AllByRecursion (IsTxnOf width g) ts

abbrev pub FitsSecond : ℕ → ℕ → Option (List (List ℕ)) → Type 0
FitsSecond width g None = Unit {0}
FitsSecond width g (Some ts) = FitsList width g ts

-- a granule that a store may have, and each list is of it
pub record FitsEntry (width : ℕ) (e : Entry) : Type 0 where
  pub granule : e.granule < max_granules
  pub shown : FitsList width e.granule e.shown
  pub original : FitsSecond width e.granule e.original

-- the granules of entries ascend, the first from this one on
unfoldable pub ascend : ℕ → List Entry → Bool
ascend from [] = true
ascend from (e ∷ es) = nat_le from e.granule && ascend (suc e.granule) es

-- the policy that begins it has a spelling
abbrev pub FitsEra : Era → Type 0
FitsEra e = FitsItem (as_item e)

-- behind the eras so far each of these is the next one
unfoldable pub are_next : Policy → List Era → Bool
are_next p [] = true
are_next p (e ∷ es) = is_next p (as_era e) e.granule && are_next (offered p (as_era e) e.granule) es

pub record FitsEvidence (e : Evidence) : Type 0 where
  pub header : FitsHeader e.header
  pub few : length e.eras ≤ max_later
  pub eras : AllByRecursion FitsEra e.eras
  pub next : are_next (first_era e.header) e.eras ≡ true
  pub count : length e.entries < 2 ^ 32
  pub entries : AllByRecursion (FitsEntry e.header.width) e.entries
  pub order : ascend 0 e.entries ≡ true

-- ---- what bytes spell

-- the bytes are the spelling of an evidence file
abbrev pub SpellsEvidence : Evidence → List ℕ → Type 0
SpellsEvidence e bytes = FitsEvidence e × (bytes ≡ spell_evidence e)

-- this is what the bytes spell, or none where they spell none
abbrev pub IsEvidenceSpelled : List ℕ → Option Evidence → Type 0
IsEvidenceSpelled bytes (Some e) = SpellsEvidence e bytes
IsEvidenceSpelled bytes None = (e : Evidence) → SpellsEvidence e bytes → ⊥
