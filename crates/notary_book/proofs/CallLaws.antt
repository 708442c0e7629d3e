-- What is read as a call is spelled so, and what is spelled so is read.
use Rattle.std.proofs.Common.{◌≡◌, ℕ, zero, suc, ◌<◌, ◌≤◌, ◌^◌, true, false, cond, ltb, List, ◌∷◌, ◌++◌, length, take, drop, Some, None, refl, sym, ap, subst, arith}
use Rattle.std.specs.Prelude.{is_some}
use Rattle.std.specs.Int.{w16, w32, w64, to_be_bytes}
use Rattle.std.proofs.lemmas.Bool.{ltb-false, le-ltb}
use Rattle.std.proofs.lemmas.List.{take_at, drop_at, take-append-drop, length-append, length-take}
use Rattle.notary_link.specs.declared.mark.Outcome.{Outcome}
use Rattle.notary_link.specs.declared.mark.Outcome.TheVariants.{Clean, Altered, HeaderAltered}
use Rattle.notary_link.specs.declared.name.Name.{Name}
use Rattle.notary_link.specs.declared.name.Name.TheVariants.{Header, Cum, Tile, Node, Era, EraNode}
use Rattle.notary_link.specs.declared.seal.Seal.{Seal}
use Rattle.notary_link.specs.Notary.{Call, file, note}
use Rattle.byte_grammar.specs.Reading.{IsBytes, IsUpTo, ◌>>=◌, rest_of, up_to, byte, part, number, constant, seq, checked, tagged}
use Rattle.byte_grammar.proofs.Parts.{Reads, else_some, seq_reads, mapped_takes, mapped_again, checked_reads}
use Rattle.byte_grammar.proofs.Tags.{Goes, after_tag, bare, tagged_takes}
use Rattle.byte_grammar.proofs.Wholes.{whole_takes as any_takes, whole_again as any_again, is_some-whole}
use Rattle.byte_grammar.proofs.Fields.{cell, IsByte, byte_reads, wide16, wide32, wide64, number_reads, constant_reads, spell_constant, Nothing, up_to_reads, few_reads}
use Rattle.notary_book.specs.Spelling.{spell_name, spell_seal, spell_seals, no_tile, spell_outcome, spell_call, max_level, digest_length, max_seals_of_batch, is_part, FitsName, FitsSeal, FitsSeals, FitsOutcome, FitsCall, Spells}
use Rattle.notary_book.specs.Calls.{tile_of, node_of, era_node_of, name_by, name_at, seal_of, seal_at, seals_at, clean_of, header_altered_of, outcome_by, outcome_at, file_of, note_of, call_by, call_at, call_of}

word16 : Reads (number w16) (to_be_bytes w16) (λ n. n < 2 ^ 16)
word16 = number_reads w16 (2 ^ 16) wide16

word32 : Reads (number w32) (to_be_bytes w32) (λ n. n < 2 ^ 32)
word32 = number_reads w32 (2 ^ 32) wide32

word64 : Reads (number w64) (to_be_bytes w64) (λ n. n < 2 ^ 64)
word64 = number_reads w64 (2 ^ 64) wide64

-- ---- names

abbrev FitsPart : ℕ → Type 0
FitsPart n = IsByte n × (is_part n ≡ true)

part_law : Reads (checked is_part byte) cell FitsPart
part_law = checked_reads is_part byte cell IsByte byte_reads

tile_law : Reads (seq (number w32) (checked is_part byte)) (λ (p : ℕ × ℕ). to_be_bytes w32 p.0 ++ cell p.1) (λ (p : ℕ × ℕ). (p.0 < 2 ^ 32) × FitsPart p.1)
tile_law = seq_reads (number w32) (to_be_bytes w32) (λ n. n < 2 ^ 32) (checked is_part byte) cell FitsPart word32 part_law

level_law : Reads (checked (up_to max_level) byte) cell (IsUpTo max_level)
level_law = up_to_reads byte cell 256 max_level (omega arith) byte_reads

node_law : Reads (seq (checked (up_to max_level) byte) (number w32)) (λ (p : ℕ × ℕ). cell p.0 ++ to_be_bytes w32 p.1) (λ (p : ℕ × ℕ). IsUpTo max_level p.0 × (p.1 < 2 ^ 32))
node_law = seq_reads (checked (up_to max_level) byte) cell (IsUpTo max_level) (number w32) (to_be_bytes w32) (λ n. n < 2 ^ 32) level_law word32

era_node_law : Reads (seq (number w32) (seq (checked (up_to max_level) byte) (number w32))) (λ (p : ℕ × (ℕ × ℕ)). to_be_bytes w32 p.0 ++ (cell p.1.0 ++ to_be_bytes w32 p.1.1)) (λ (p : ℕ × (ℕ × ℕ)). (p.0 < 2 ^ 32) × (IsUpTo max_level p.1.0 × (p.1.1 < 2 ^ 32)))
era_node_law = seq_reads (number w32) (to_be_bytes w32) (λ n. n < 2 ^ 32) (seq (checked (up_to max_level) byte) (number w32)) _ _ word32 node_law

name_goes : (tag : ℕ) (bytes : List ℕ) (n : Name) (rest : List ℕ) → IsBytes bytes → name_by tag bytes ≡ Some (n, rest) → Goes tag bytes spell_name FitsName n rest
unfolding name_by
name_goes zero bytes n rest fits e = bare 0 bytes _ _ Header n rest e refl tt
name_goes (suc zero) bytes n rest fits e =
    let t = mapped_takes Cum (number w32) (to_be_bytes w32) (λ n. n < 2 ^ 32) word32 bytes n rest fits e in
    after_tag 1 bytes spell_name FitsName (Cum t.0) n rest t.1 (ap (λ (x : List ℕ). 1 ∷ x) t.2) t.3
name_goes (suc (suc zero)) bytes n rest fits e =
    let t = mapped_takes tile_of (seq (number w32) (checked is_part byte)) _ _ tile_law bytes n rest fits e in
    after_tag 2 bytes spell_name FitsName (tile_of t.0) n rest t.1 (ap (λ (x : List ℕ). 2 ∷ x) t.2) t.3
name_goes (suc (suc (suc zero))) bytes n rest fits e =
    let t = mapped_takes node_of (seq (checked (up_to max_level) byte) (number w32)) _ _ node_law bytes n rest fits e in
    after_tag 3 bytes spell_name FitsName (node_of t.0) n rest t.1 (ap (λ (x : List ℕ). 3 ∷ x) t.2) t.3
name_goes (suc (suc (suc (suc zero)))) bytes n rest fits e =
    let t = mapped_takes Era (number w32) (to_be_bytes w32) (λ n. n < 2 ^ 32) word32 bytes n rest fits e in
    after_tag 4 bytes spell_name FitsName (Era t.0) n rest t.1 (ap (λ (x : List ℕ). 4 ∷ x) t.2) t.3
name_goes (suc (suc (suc (suc (suc zero))))) bytes n rest fits e =
    let t = mapped_takes era_node_of (seq (number w32) (seq (checked (up_to max_level) byte) (number w32))) _ _ era_node_law bytes n rest fits e in
    after_tag 5 bytes spell_name FitsName (era_node_of t.0) n rest t.1 (ap (λ (x : List ℕ). 5 ∷ x) t.2) t.3
name_goes (suc (suc (suc (suc (suc (suc k)))))) bytes n rest fits e = absurd cc

name_again : (n : Name) (rest : List ℕ) → FitsName n → name_at (spell_name n ++ rest) ≡ Some (n, rest)
unfolding name_at name_by tagged
name_again Header rest fits = refl
name_again (Cum tile) rest fits = mapped_again Cum (number w32) (to_be_bytes w32) (λ n. n < 2 ^ 32) word32 tile rest fits
name_again (Tile tile part) rest fits = mapped_again tile_of (seq (number w32) (checked is_part byte)) _ _ tile_law (tile, part) rest fits
name_again (Node level index) rest fits = mapped_again node_of (seq (checked (up_to max_level) byte) (number w32)) _ _ node_law (level, index) rest fits
name_again (Era era) rest fits = mapped_again Era (number w32) (to_be_bytes w32) (λ n. n < 2 ^ 32) word32 era rest fits
name_again (EraNode era level index) rest fits = mapped_again era_node_of (seq (number w32) (seq (checked (up_to max_level) byte) (number w32))) _ _ era_node_law (era, (level, index)) rest fits

pub name_reads : Reads name_at spell_name FitsName
unfolding name_at
name_reads = record { takes = tagged_takes name_by _ _ name_goes; again = name_again }

-- ---- seals

abbrev same : List ℕ → List ℕ
same bytes = bytes

abbrev HasLength : ℕ → List ℕ → Type 0
HasLength n bytes = length bytes ≡ n

-- so many bytes are their own spelling
part_reads : (n : ℕ) → Reads (part n) same (HasLength n)
part_reads n = record {
  takes = λ bytes d rest fits e.
      let g = else_some (ltb (length bytes) n) (take n bytes, drop n bytes) (d, rest) e in
      let long : n ≤ length bytes = ltb-false _ _ g.0 in
      let len : length (take n bytes) ≡ n = omega (arith, length-take n bytes) in
      subst (λ (y : List ℕ × List ℕ). (bytes ≡ y.0 ++ y.1) × (length y.0 ≡ n)) g.1 (sym (take-append-drop n bytes), len);
  again = λ d rest len.
      let long : ltb (length (d ++ rest)) n ≡ false = le-ltb _ _ (omega (arith, len, length-append d rest)) in
      rw (long, take_at d rest n len, drop_at d rest n len) refl;
}

seal_law : Reads (seq name_at (part digest_length)) (λ (p : Name × List ℕ). spell_name p.0 ++ same p.1) (λ (p : Name × List ℕ). FitsName p.0 × HasLength digest_length p.1)
seal_law = seq_reads name_at spell_name FitsName (part digest_length) same (HasLength digest_length) name_reads (part_reads digest_length)

pub seal_reads : Reads seal_at spell_seal FitsSeal
unfolding seal_at
seal_reads = record {
  takes = λ bytes s rest fits e.
      let t = mapped_takes seal_of (seq name_at (part digest_length)) _ _ seal_law bytes s rest fits e in
      subst (λ (x : Seal). (bytes ≡ spell_seal x ++ rest) × FitsSeal x) t.1 (t.2, t.3);
  again = λ s rest fits. mapped_again seal_of (seq name_at (part digest_length)) _ _ seal_law (s.name, s.digest) rest fits;
}

pub seals_reads : Reads seals_at spell_seals FitsSeals
unfolding seals_at
seals_reads = few_reads (number w16) (to_be_bytes w16) (2 ^ 16) max_seals_of_batch (omega arith) word16 seal_at spell_seal FitsSeal seal_reads

-- ---- outcomes

outcome_goes : (tag : ℕ) (bytes : List ℕ) (o : Outcome) (rest : List ℕ) → IsBytes bytes → outcome_by tag bytes ≡ Some (o, rest) → Goes tag bytes spell_outcome FitsOutcome o rest
unfolding outcome_by
outcome_goes zero bytes o rest fits e =
    let t = mapped_takes clean_of (constant no_tile) (spell_constant no_tile) Nothing (constant_reads no_tile) bytes o rest fits e in
    after_tag 0 bytes spell_outcome FitsOutcome Clean o rest t.1 (ap (λ (x : List ℕ). 0 ∷ x) t.2) tt
outcome_goes (suc zero) bytes o rest fits e =
    let t = mapped_takes Altered (number w32) (to_be_bytes w32) (λ n. n < 2 ^ 32) word32 bytes o rest fits e in
    after_tag 1 bytes spell_outcome FitsOutcome (Altered t.0) o rest t.1 (ap (λ (x : List ℕ). 1 ∷ x) t.2) t.3
outcome_goes (suc (suc zero)) bytes o rest fits e =
    let t = mapped_takes header_altered_of (constant no_tile) (spell_constant no_tile) Nothing (constant_reads no_tile) bytes o rest fits e in
    after_tag 2 bytes spell_outcome FitsOutcome HeaderAltered o rest t.1 (ap (λ (x : List ℕ). 2 ∷ x) t.2) tt
outcome_goes (suc (suc (suc k))) bytes o rest fits e = absurd cc

outcome_again : (o : Outcome) (rest : List ℕ) → FitsOutcome o → outcome_at (spell_outcome o ++ rest) ≡ Some (o, rest)
unfolding outcome_at outcome_by tagged
outcome_again Clean rest fits = mapped_again clean_of (constant no_tile) (spell_constant no_tile) Nothing (constant_reads no_tile) tt rest tt
outcome_again (Altered first) rest fits = mapped_again Altered (number w32) (to_be_bytes w32) (λ n. n < 2 ^ 32) word32 first rest fits
outcome_again HeaderAltered rest fits = mapped_again header_altered_of (constant no_tile) (spell_constant no_tile) Nothing (constant_reads no_tile) tt rest tt

outcome_reads : Reads outcome_at spell_outcome FitsOutcome
unfolding outcome_at
outcome_reads = record { takes = tagged_takes outcome_by _ _ outcome_goes; again = outcome_again }

-- ---- calls

abbrev FilePart : Type 0
FilePart = ℕ × (ℕ × (ℕ × List Seal))

abbrev spell_file : FilePart → List ℕ
spell_file p = to_be_bytes w64 p.0 ++ (to_be_bytes w32 p.1.0 ++ (to_be_bytes w64 p.1.1.0 ++ spell_seals p.1.1.1))

abbrev FitsFile : FilePart → Type 0
FitsFile p = (p.0 < 2 ^ 64) × ((p.1.0 < 2 ^ 32) × ((p.1.1.0 < 2 ^ 64) × FitsSeals p.1.1.1))

file_law : Reads (seq (number w64) (seq (number w32) (seq (number w64) seals_at))) spell_file FitsFile
file_law = seq_reads (number w64) (to_be_bytes w64) (λ n. n < 2 ^ 64) (seq (number w32) (seq (number w64) seals_at)) _ _ word64
    (seq_reads (number w32) (to_be_bytes w32) (λ n. n < 2 ^ 32) (seq (number w64) seals_at) _ _ word32
    (seq_reads (number w64) (to_be_bytes w64) (λ n. n < 2 ^ 64) seals_at spell_seals FitsSeals word64 seals_reads))

abbrev NotePart : Type 0
NotePart = ℕ × (ℕ × (ℕ × Outcome))

abbrev spell_note : NotePart → List ℕ
spell_note p = to_be_bytes w64 p.0 ++ (to_be_bytes w64 p.1.0 ++ (to_be_bytes w32 p.1.1.0 ++ spell_outcome p.1.1.1))

abbrev FitsNote : NotePart → Type 0
FitsNote p = (p.0 < 2 ^ 64) × ((p.1.0 < 2 ^ 64) × ((p.1.1.0 < 2 ^ 32) × FitsOutcome p.1.1.1))

note_law : Reads (seq (number w64) (seq (number w64) (seq (number w32) outcome_at))) spell_note FitsNote
note_law = seq_reads (number w64) (to_be_bytes w64) (λ n. n < 2 ^ 64) (seq (number w64) (seq (number w32) outcome_at)) _ _ word64
    (seq_reads (number w64) (to_be_bytes w64) (λ n. n < 2 ^ 64) (seq (number w32) outcome_at) _ _ word64
    (seq_reads (number w32) (to_be_bytes w32) (λ n. n < 2 ^ 32) outcome_at spell_outcome FitsOutcome word32 outcome_reads))

call_goes : (tag : ℕ) (bytes : List ℕ) (c : Call) (rest : List ℕ) → IsBytes bytes → call_by tag bytes ≡ Some (c, rest) → Goes tag bytes spell_call FitsCall c rest
unfolding call_by
call_goes zero bytes c rest fits e = absurd cc
call_goes (suc zero) bytes c rest fits e =
    let t = mapped_takes file_of (seq (number w64) (seq (number w32) (seq (number w64) seals_at))) spell_file FitsFile file_law bytes c rest fits e in
    after_tag 1 bytes spell_call FitsCall (file_of t.0) c rest t.1 (ap (λ (x : List ℕ). 1 ∷ x) t.2) t.3
call_goes (suc (suc zero)) bytes c rest fits e =
    let t = mapped_takes note_of (seq (number w64) (seq (number w64) (seq (number w32) outcome_at))) spell_note FitsNote note_law bytes c rest fits e in
    after_tag 2 bytes spell_call FitsCall (note_of t.0) c rest t.1 (ap (λ (x : List ℕ). 2 ∷ x) t.2) t.3
call_goes (suc (suc (suc k))) bytes c rest fits e = absurd cc

call_again : (c : Call) (rest : List ℕ) → FitsCall c → call_at (spell_call c ++ rest) ≡ Some (c, rest)
unfolding call_at call_by tagged
call_again (file id index batch) rest fits = mapped_again file_of (seq (number w64) (seq (number w32) (seq (number w64) seals_at))) spell_file FitsFile file_law (id, (index, (batch.moment, batch.seals))) rest fits
call_again (note id mark) rest fits = mapped_again note_of (seq (number w64) (seq (number w64) (seq (number w32) outcome_at))) spell_note FitsNote note_law (id, (mark.moment, (mark.tiles, mark.outcome))) rest fits

pub call_reads : Reads call_at spell_call FitsCall
unfolding call_at
call_reads = record { takes = tagged_takes call_by _ _ call_goes; again = call_again }

-- ---- whole payloads

pub whole_takes : (bytes : List ℕ) (c : Call) → IsBytes bytes → call_of bytes ≡ Some c → Spells c bytes
unfolding call_of
whole_takes bytes c fits e = any_takes call_at spell_call FitsCall call_reads bytes c fits e

pub whole_again : (bytes : List ℕ) (c : Call) → Spells c bytes → call_of bytes ≡ Some c
unfolding call_of
whole_again bytes c s = any_again call_at spell_call FitsCall call_reads bytes c s

pub spelled_some : (bytes : List ℕ) (c : Call) → Spells c bytes → is_some (call_of bytes) ≡ true
spelled_some bytes c s = rw (whole_again bytes c s) refl

pub call_of_rest : (bytes : List ℕ) → is_some (call_of bytes) ≡ is_some (rest_of (call_at bytes) >>= λ r. cond (ltb 0 (length r)) None (Some r))
unfolding call_of
call_of_rest bytes = is_some-whole call_at bytes
