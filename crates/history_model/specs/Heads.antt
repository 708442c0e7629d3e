-- The heads of a store file in the two formats.
use Rattle.std.specs.Prelude.{◌≡◌, ◌⊎◌, ◌<◌, ℕ, ◌==◌, Bool, false, List, length, take, slice_index, slice_set, Option, if◌then◌else◌}
use Rattle.std.specs.Option.{is_some}
use Rattle.tuple_bytes.specs.declared.header.Header.{Header}
use Rattle.tuple_bytes.specs.HeaderBytes.{header_of}
use Rattle.tuple_bytes.specs.Spelling.{spell_header, FitsHeader}
use Rattle.history_model.specs.declared.format.Format.{Format}
use Rattle.history_model.specs.declared.format.Format.TheVariants.{One, Two}

-- the place of the first record's gate
abbrev pub header_length : ℕ
header_length = 64

-- where the letter stands that tells the formats apart
abbrev pub format_place : ℕ
format_place = 8

-- the letter of a file in segments, a 2
abbrev pub segmented_letter : ℕ
segmented_letter = 0x32

-- that of a file in one run, a 1
abbrev pub first_letter : ℕ
first_letter = 0x31

-- whether bytes have the letter of a file in segments
abbrev pub is_segmented : List ℕ → Bool
is_segmented bytes = slice_index bytes format_place == segmented_letter

-- the format, by that letter
abbrev pub format_by : Bool → Format
format_by segmented = if segmented then Two else One

-- the head of a file in one run, with the same fields
abbrev pub as_first : List ℕ → List ℕ
as_first head = if is_segmented head then slice_set head format_place first_letter else head

-- the head of a file in segments, with an open gate; `spell_header` is that of a file in one run
abbrev pub spell_head : Header → List ℕ
spell_head header = slice_set (spell_header header) format_place segmented_letter

-- the header that a head of either format spells
abbrev pub any_header : List ℕ → Option Header
any_header head = header_of (as_first head)

-- whether a head is one of a file in segments
abbrev pub is_segment_head : List ℕ → Bool
is_segment_head head = if is_segmented head then is_some (any_header head) else false

-- the bytes begin with the head of this header, in one of the two formats, and a gate stands behind it
pub record BeginsWithHead (bytes : List ℕ) (h : Header) : Type 0 where
  pub long : header_length < length bytes
  pub fits : FitsHeader h
  pub head : (take header_length bytes ≡ spell_header h) ⊎ (take header_length bytes ≡ spell_head h)
