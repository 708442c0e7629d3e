-- Reading the calls that a book keeps. What follows a tag is given by cases on the tag.
use Rattle.std.specs.Prelude.{ℕ, zero, suc, List, Option, Some, None}
use Rattle.std.specs.Int.{w16, w32, w64}
use Rattle.notary_link.specs.declared.mark.Outcome.{Outcome}
use Rattle.notary_link.specs.declared.mark.Outcome.TheVariants.{Clean, Altered, HeaderAltered}
use Rattle.notary_link.specs.declared.name.Name.{Name}
use Rattle.notary_link.specs.declared.name.Name.TheVariants.{Header, Cum, Tile, Node, Era, EraNode}
use Rattle.notary_link.specs.declared.seal.Seal.{Seal}
use Rattle.notary_link.specs.Notary.{Call, file, note, batch_of}
use Rattle.byte_grammar.specs.Reading.{Reader, is_from_1_to, up_to, byte, part, number, constant, seq, mapped, checked, counted, tagged, whole}
use Rattle.notary_book.specs.Spelling.{no_tile, max_level, digest_length, max_seals_of_batch, is_part}

-- ---- seals

abbrev pub tile_of : ℕ × ℕ → Name
tile_of p = Tile p.0 p.1

abbrev pub node_of : ℕ × ℕ → Name
node_of p = Node p.0 p.1

abbrev pub era_node_of : ℕ × (ℕ × ℕ) → Name
era_node_of p = EraNode p.0 p.1.0 p.1.1

unfoldable pub name_by : ℕ → Reader Name
name_by zero bytes = Some (Header, bytes)
name_by (suc zero) bytes = mapped Cum (number w32) bytes
name_by (suc (suc zero)) bytes = mapped tile_of (seq (number w32) (checked is_part byte)) bytes
name_by (suc (suc (suc zero))) bytes = mapped node_of (seq (checked (up_to max_level) byte) (number w32)) bytes
name_by (suc (suc (suc (suc zero)))) bytes = mapped Era (number w32) bytes
name_by (suc (suc (suc (suc (suc zero))))) bytes = mapped era_node_of (seq (number w32) (seq (checked (up_to max_level) byte) (number w32))) bytes
name_by (suc (suc (suc (suc (suc (suc n)))))) bytes = None

unfoldable pub name_at : Reader Name
name_at bytes = tagged name_by bytes

abbrev pub seal_of : Name × List ℕ → Seal
seal_of p = record { name = p.0; digest = p.1 }

unfoldable pub seal_at : Reader Seal
seal_at bytes = mapped seal_of (seq name_at (part digest_length)) bytes

unfoldable pub seals_at : Reader (List Seal)
seals_at bytes = counted (number w16) (is_from_1_to max_seals_of_batch) seal_at bytes

-- ---- outcomes

abbrev pub clean_of : Unit {0} → Outcome
clean_of u = Clean

abbrev pub header_altered_of : Unit {0} → Outcome
header_altered_of u = HeaderAltered

unfoldable pub outcome_by : ℕ → Reader Outcome
outcome_by zero bytes = mapped clean_of (constant no_tile) bytes
outcome_by (suc zero) bytes = mapped Altered (number w32) bytes
outcome_by (suc (suc zero)) bytes = mapped header_altered_of (constant no_tile) bytes
outcome_by (suc (suc (suc n))) bytes = None

unfoldable pub outcome_at : Reader Outcome
outcome_at bytes = tagged outcome_by bytes

-- ---- calls

abbrev pub file_of : ℕ × (ℕ × (ℕ × List Seal)) → Call
file_of p = file p.0 p.1.0 (batch_of p.1.1.0 p.1.1.1)

abbrev pub note_of : ℕ × (ℕ × (ℕ × Outcome)) → Call
note_of p = note p.0 (record { moment = p.1.0; tiles = p.1.1.0; outcome = p.1.1.1 })

unfoldable pub call_by : ℕ → Reader Call
call_by zero bytes = None
call_by (suc zero) bytes = mapped file_of (seq (number w64) (seq (number w32) (seq (number w64) seals_at))) bytes
call_by (suc (suc zero)) bytes = mapped note_of (seq (number w64) (seq (number w64) (seq (number w32) outcome_at))) bytes
call_by (suc (suc (suc n))) bytes = None

unfoldable pub call_at : Reader Call
call_at bytes = tagged call_by bytes

-- the call that all of the bytes spell
unfoldable pub call_of : List ℕ → Option Call
call_of bytes = whole call_at bytes
