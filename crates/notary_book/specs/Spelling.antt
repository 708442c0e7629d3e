-- The one spelling of each call that a book keeps, and which calls have one. Numbers stand with the highest byte first.
use Rattle.std.specs.Prelude.{◌≡◌, ℕ, ◌<◌, ◌^◌, ◌==◌, ◌||◌, nat_le, Bool, true, List, [], ◌∷◌, ◌++◌, length}
use Rattle.std.specs.List.{flat_map, AllByRecursion}
use Rattle.std.specs.Int.{w16, w32, w64, to_be_bytes}
use Rattle.notary_link.specs.declared.mark.Mark.{Mark}
use Rattle.notary_link.specs.declared.mark.Outcome.{Outcome}
use Rattle.notary_link.specs.declared.mark.Outcome.TheVariants.{Clean, Altered, HeaderAltered}
use Rattle.notary_link.specs.declared.name.Name.{Name}
use Rattle.notary_link.specs.declared.name.Name.TheVariants.{Header, Cum, Tile, Node, Era, EraNode}
use Rattle.notary_link.specs.declared.seal.Seal.{Seal}
use Rattle.notary_link.specs.Batches.{Batch}
use Rattle.notary_link.specs.Notary.{Call, file, note}
use Rattle.byte_grammar.specs.Reading.{IsFrom1To, IsUpTo}

-- ---- spellings

abbrev pub spell_name : Name → List ℕ
spell_name Header = 0 ∷ []
spell_name (Cum tile) = 1 ∷ to_be_bytes w32 tile
spell_name (Tile tile part) = 2 ∷ (to_be_bytes w32 tile ++ part ∷ [])
spell_name (Node level index) = 3 ∷ (level ∷ [] ++ to_be_bytes w32 index)
spell_name (Era era) = 4 ∷ to_be_bytes w32 era
spell_name (EraNode era level index) = 5 ∷ (to_be_bytes w32 era ++ (level ∷ [] ++ to_be_bytes w32 index))

abbrev pub spell_seal : Seal → List ℕ
spell_seal seal = spell_name seal.name ++ seal.digest

-- two bytes of count, and that many seals
abbrev pub spell_seals : List Seal → List ℕ
spell_seals seals = to_be_bytes w16 (length seals) ++ flat_map spell_seal seals

-- what stands for the tile where there is none
abbrev pub no_tile : List ℕ
no_tile = 0 ∷ 0 ∷ 0 ∷ 0 ∷ []

-- the outcome, and the first bad tile
abbrev pub spell_outcome : Outcome → List ℕ
spell_outcome Clean = 0 ∷ no_tile
spell_outcome (Altered first) = 1 ∷ to_be_bytes w32 first
spell_outcome HeaderAltered = 2 ∷ no_tile

abbrev pub spell_batch : ℕ → ℕ → Batch → List ℕ
spell_batch id index batch = 1 ∷ (to_be_bytes w64 id ++ (to_be_bytes w32 index ++ (to_be_bytes w64 batch.moment ++ spell_seals batch.seals)))

abbrev pub spell_mark : ℕ → Mark → List ℕ
spell_mark id mark = 2 ∷ (to_be_bytes w64 id ++ (to_be_bytes w64 mark.moment ++ (to_be_bytes w32 mark.tiles ++ spell_outcome mark.outcome)))

abbrev pub spell_call : Call → List ℕ
spell_call (file id index batch) = spell_batch id index batch
spell_call (note id mark) = spell_mark id mark

-- ---- what has a spelling

abbrev pub max_level : ℕ
max_level = 20

abbrev pub digest_length : ℕ
digest_length = 32

abbrev pub max_seals_of_batch : ℕ
max_seals_of_batch = 4096

-- the whole of a tile, or one of ten chains
abbrev pub is_part : ℕ → Bool
is_part part = nat_le part 9 || (part == 255)

abbrev pub FitsName : Name → Type 0
FitsName Header = Unit {0}
FitsName (Cum tile) = tile < 2 ^ 32
FitsName (Tile tile part) = (tile < 2 ^ 32) × ((part < 256) × (is_part part ≡ true))
FitsName (Node level index) = IsUpTo max_level level × (index < 2 ^ 32)
FitsName (Era era) = era < 2 ^ 32
FitsName (EraNode era level index) = (era < 2 ^ 32) × (IsUpTo max_level level × (index < 2 ^ 32))

abbrev pub FitsSeal : Seal → Type 0
FitsSeal seal = FitsName seal.name × (length seal.digest ≡ digest_length)

abbrev pub FitsSeals : List Seal → Type 0
FitsSeals seals = IsFrom1To max_seals_of_batch (length seals) × AllByRecursion FitsSeal seals

abbrev pub FitsOutcome : Outcome → Type 0
FitsOutcome Clean = Unit {0}
FitsOutcome (Altered first) = first < 2 ^ 32
FitsOutcome HeaderAltered = Unit {0}

abbrev pub FitsCall : Call → Type 0
FitsCall (file id index batch) = (id < 2 ^ 64) × ((index < 2 ^ 32) × ((batch.moment < 2 ^ 64) × FitsSeals batch.seals))
FitsCall (note id mark) = (id < 2 ^ 64) × ((mark.moment < 2 ^ 64) × ((mark.tiles < 2 ^ 32) × FitsOutcome mark.outcome))

-- the bytes are the call's spelling
abbrev pub Spells : Call → List ℕ → Type 0
Spells call bytes = FitsCall call × (bytes ≡ spell_call call)
