-- The head of a file in segments spells its header.
use Rattle.std.proofs.Common.{◌≡◌, true, length, get_or, Some, refl, ap, ◌∙◌}
use Rattle.std.specs.Option.{is_some}
use Rattle.tuple_bytes.specs.declared.header.Header.{Header}
use Rattle.tuple_bytes.specs.HeaderBytes.{header_of}
use Rattle.tuple_bytes.specs.Spelling.{spell_header, FitsHeader}
use Rattle.tuple_bytes.proofs.HeaderLaws.{header_again}
use Rattle.history_model.specs.Heads.{is_segmented, as_first, spell_head, any_header, is_segment_head}

pub letter_is : (h : Header) → is_segmented (spell_head h) ≡ true
letter_is h = refl

back : (h : Header) → as_first (spell_head h) ≡ spell_header h
back h = refl

pub head_again : (h : Header) → FitsHeader h → any_header (spell_head h) ≡ Some h
head_again h fits = ap header_of (back h) ∙ header_again (spell_header h) h (fits, refl)

pub is_head : (h : Header) → FitsHeader h → is_segment_head (spell_head h) ≡ true
is_head h fits = ap is_some (head_again h fits)

pub head_opens : (h : Header) → get_or (spell_head h) 0 0 ≡ 0xA7
head_opens h = refl

pub head_length : (h : Header) → length (spell_head h) ≡ 64
head_length h = refl
