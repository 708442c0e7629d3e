-- How long a payload is.
use Rattle.std.proofs.Common.{◌≡◌, ◌≤◌, ◌+◌, ◌*◌, ℕ, List, [], ◌∷◌, ◌++◌, length, refl, arith}
use Rattle.std.specs.List.{flat_map, AllByRecursion}
use Rattle.std.specs.Int.{w16, w32, w64, to_be_bytes}
use Rattle.std.proofs.lemmas.List.{length-append}
use Rattle.byte_grammar.proofs.Fields.{wide16, wide32, wide64}
use Rattle.byte_grammar.specs.Gated.{FitsRecord}
use Rattle.notary_link.specs.declared.mark.Outcome.{Outcome}
use Rattle.notary_link.specs.declared.mark.Outcome.TheVariants.{Clean, Altered, HeaderAltered}
use Rattle.notary_link.specs.declared.name.Name.{Name}
use Rattle.notary_link.specs.declared.name.Name.TheVariants.{Header, Cum, Tile, Node, Era, EraNode}
use Rattle.notary_link.specs.declared.seal.Seal.{Seal}
use Rattle.notary_link.specs.Notary.{Call, file, note}
use Rattle.notary_book.specs.Books.{book_shape, calls_in}
use Rattle.notary_book.specs.Spelling.{spell_name, spell_seal, spell_seals, spell_outcome, spell_batch, spell_mark, FitsSeal, Spells}
use Rattle.notary_book.proofs.CallLaws.{whole_again, spelled_some}

name_length : (n : Name) → length (spell_name n) ≤ 10
name_length Header = omega arith
name_length (Cum tile) = omega (arith, wide32.len tile)
name_length (Tile tile part) = omega (arith, wide32.len tile, length-append (to_be_bytes w32 tile) (part ∷ []))
name_length (Node level index) = omega (arith, wide32.len index)
name_length (Era era) = omega (arith, wide32.len era)
name_length (EraNode era level index) = omega (arith, wide32.len era, wide32.len index, length-append (to_be_bytes w32 era) (level ∷ to_be_bytes w32 index))

seal_length : (s : Seal) → FitsSeal s → length (spell_seal s) ≤ 42
seal_length s fits = omega (arith, name_length s.name, length-append (spell_name s.name) s.digest, fits.1)

seals_length : (seals : List Seal) → AllByRecursion FitsSeal seals → length (flat_map spell_seal seals) ≤ 42 * length seals
seals_length [] fits = omega arith
seals_length (s ∷ seals) fits = omega (arith, seal_length s fits.0, seals_length seals fits.1, length-append (spell_seal s) (flat_map spell_seal seals))

outcome_length : (o : Outcome) → length (spell_outcome o) ≤ 5
outcome_length Clean = omega arith
outcome_length (Altered first) = omega (arith, wide32.len first)
outcome_length HeaderAltered = omega arith

-- the most bytes of a call's payload
abbrev most : Call → ℕ
most (file id index batch) = 23 + 42 * length batch.seals
most (note id mark) = 26

at_most : (call : Call) (bytes : List ℕ) → Spells call bytes → length bytes ≤ most call
at_most (file id index batch) bytes s =
    let seals = batch.seals in
    let body = spell_seals seals in
    let fits = s.0.1.1.1 in
    let is : length bytes ≡ length (spell_batch id index batch) = rw s.1 refl in
    omega (
      arith,
      is,
      seals_length seals fits.1,
      wide64.len id,
      wide32.len index,
      wide64.len batch.moment,
      wide16.len (length seals),
      length-append (to_be_bytes w16 (length seals)) (flat_map spell_seal seals),
      length-append (to_be_bytes w64 batch.moment) body,
      length-append (to_be_bytes w32 index) (to_be_bytes w64 batch.moment ++ body),
      length-append (to_be_bytes w64 id) (to_be_bytes w32 index ++ (to_be_bytes w64 batch.moment ++ body)),
    )
at_most (note id mark) bytes s =
    let last = spell_outcome mark.outcome in
    let is : length bytes ≡ length (spell_mark id mark) = rw s.1 refl in
    omega (
      arith,
      is,
      outcome_length mark.outcome,
      wide64.len id,
      wide64.len mark.moment,
      wide32.len mark.tiles,
      length-append (to_be_bytes w32 mark.tiles) last,
      length-append (to_be_bytes w64 mark.moment) (to_be_bytes w32 mark.tiles ++ last),
      length-append (to_be_bytes w64 id) (to_be_bytes w64 mark.moment ++ (to_be_bytes w32 mark.tiles ++ last)),
    )

short : (call : Call) (bytes : List ℕ) → Spells call bytes → length bytes ≤ 262144
short (file id index batch) bytes s = omega (arith, at_most (file id index batch) bytes s, s.0.1.1.1.0.1)
short (note id mark) bytes s = omega (arith, at_most (note id mark) bytes s)

-- what a call's record takes of the file at most
abbrev pub weight : Call → ℕ
weight (file id index batch) = 70 * length batch.seals
weight (note id mark) = 31

pub weighs : (call : Call) (bytes : List ℕ) → Spells call bytes → 5 + length bytes ≤ weight call
weighs (file id index batch) bytes s = omega (arith, at_most (file id index batch) bytes s, s.0.1.1.1.0.0)
weighs (note id mark) bytes s = omega (arith, at_most (note id mark) bytes s)

pub fits_record : (call : Call) (bytes : List ℕ) → Spells call bytes → FitsRecord book_shape bytes
fits_record call bytes s = record { accepted = spelled_some bytes call s; short = short call bytes s }

pub spelled_in : (call : Call) (bytes : List ℕ) → Spells call bytes → calls_in (bytes ∷ []) ≡ call ∷ []
spelled_in call bytes s = rw (whole_again bytes call s) refl
