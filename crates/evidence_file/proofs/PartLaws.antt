-- Each reader of a part reads exactly the spellings of that part.
use Rattle.std.proofs.Common.{◌≡◌, ℕ, zero, suc, ◌^◌, ◌<◌, ◌≤◌, true, List, [], ◌∷◌, ◌++◌, length, take, Option, Some, None, refl, sym, ap, subst, ◌∙◌, append_assoc, arith}
use Rattle.std.specs.Prelude.{is_some, nat_le}
use Rattle.std.specs.List.{AllByRecursion}
use Rattle.std.specs.Int.{w32, w64, to_be_bytes}
use Rattle.std.proofs.lemmas.Bool.{leb-true, le-leb, ltb-true, lt-ltb, and_from}
use Rattle.std.proofs.lemmas.List.{take_at}
use Rattle.byte_grammar.specs.Reading.{Reader, ◌>>=◌, IsBytes, IsFrom1To, IsUpTo, up_to, number, constant, seq, checked, counted, sized, tagged}
use Rattle.byte_grammar.proofs.Parts.{Reads, IsBytes-after, and_left, and_right, seq_reads, mapped_takes, mapped_again, checked_reads, reads_as, counted_reads, sized_reads}
use Rattle.byte_grammar.proofs.Tags.{Goes, after_tag, bare, tagged_takes}
use Rattle.byte_grammar.proofs.Fields.{IsBytes-take, cell, spell_constant, Nothing, constant_reads, up_to_reads, from_1_to_reads}
use Rattle.tuple_bytes.specs.declared.header.Header.{Header}
use Rattle.tuple_bytes.specs.declared.item.Item.{Item}
use Rattle.tuple_bytes.specs.declared.item.Item.TheVariants as items
use Rattle.tuple_bytes.specs.Limits.{max_payload, max_moment, max_width, max_exponent, max_algorithms, max_granules}
use Rattle.tuple_bytes.specs.HeaderBytes.{epoch_at, width_at, small_at}
use Rattle.tuple_bytes.specs.Items.{item_of}
use Rattle.tuple_bytes.specs.Spelling.{FitsHeader, spell_fields, Spells}
use Rattle.tuple_bytes.proofs.ItemLaws.{word32, word64, small_reads, whole_takes, whole_again}
use Rattle.history_model.specs.Spelled.{txn_moment}
use Rattle.digest_model.specs.Layout.{max_later}
use Rattle.digest_model.specs.Digests.{behind_length}
use Rattle.policy_eras.specs.declared.era.Era.{Era}
use Rattle.evidence_file.specs.declared.entry.Entry.{Entry}
use Rattle.evidence_file.specs.declared.evidence.Evidence.{Evidence}
use Rattle.evidence_file.specs.Evidence.{evidence_text, spell_era, spell_eras, spell_list, spell_second, spell_entry, spell_entries, spell_evidence, IsTxnSpelled, FitsEra}
use Rattle.evidence_file.specs.Reading.{fields_from, fields_at, era_from, era_at, eras_at, spelled_moment, is_txn, txn_at, any_count, list_at, second_by, second_at, is_granule, granule_at, entry_from, entry_at, entries_at, evidence_from, parts_at}

-- ---- the header fields

epoch_reads : Reads epoch_at (to_be_bytes w64) (IsUpTo max_moment)
unfolding epoch_at
epoch_reads = up_to_reads (number w64) (to_be_bytes w64) (2 ^ 64) max_moment (omega arith) word64

width_reads : Reads width_at (to_be_bytes w32) (IsFrom1To max_width)
unfolding width_at
width_reads = from_1_to_reads (number w32) (to_be_bytes w32) (2 ^ 32) max_width (omega arith) word32

abbrev Fields : Type 0
Fields = ℕ × (ℕ × (ℕ × (ℕ × ℕ)))

abbrev spell_each : Fields → List ℕ
spell_each p = to_be_bytes w64 p.0 ++ (to_be_bytes w64 p.1.0 ++ (to_be_bytes w32 p.1.1.0 ++ (p.1.1.1.0 ∷ p.1.1.1.1 ∷ [])))

abbrev FitEach : Fields → Type 0
FitEach p = (p.0 < 2 ^ 64) × (IsUpTo max_moment p.1.0 × (IsFrom1To max_width p.1.1.0 × (IsUpTo max_exponent p.1.1.1.0 × IsUpTo max_algorithms p.1.1.1.1)))

abbrev each_at : Reader Fields
each_at bytes = seq (number w64) (seq epoch_at (seq width_at (seq (small_at max_exponent) (small_at max_algorithms)))) bytes

each_reads : Reads each_at spell_each FitEach
each_reads =
    seq_reads (number w64) (to_be_bytes w64) (λ n. n < 2 ^ 64) _ _ _ word64
    (seq_reads epoch_at (to_be_bytes w64) (IsUpTo max_moment) _ _ _ epoch_reads
    (seq_reads width_at (to_be_bytes w32) (IsFrom1To max_width) _ _ _ width_reads
    (seq_reads (small_at max_exponent) cell (IsUpTo max_exponent) (small_at max_algorithms) cell (IsUpTo max_algorithms) (small_reads max_exponent (omega arith)) (small_reads max_algorithms (omega arith)))))

pub fields_reads : Reads fields_at spell_fields FitsHeader
unfolding fields_at
fields_reads = record {
  takes = λ bytes h rest fits e.
      let t = mapped_takes fields_from each_at spell_each FitEach each_reads bytes h rest fits e in
      subst (λ (x : Header). (bytes ≡ spell_fields x ++ rest) × FitsHeader x) t.1
      (t.2, record { id = t.3.0; epoch = t.3.1.0; width = t.3.1.1.0; k = t.3.1.1.1.0; algs = t.3.1.1.1.1 });
  again = λ h rest fits. mapped_again fields_from each_at spell_each FitEach each_reads (h.id, (h.epoch, (h.width, (h.k, h.algs)))) rest
      (fits.id, (fits.epoch, (fits.width, (fits.k, fits.algs))));
}

-- ---- eras

abbrev Change : Type 0
Change = ℕ × (ℕ × (ℕ × ℕ))

abbrev spell_change : Change → List ℕ
spell_change p = to_be_bytes w32 p.0 ++ (to_be_bytes w32 p.1.0 ++ (p.1.1.0 ∷ p.1.1.1 ∷ []))

abbrev FitsChange : Change → Type 0
FitsChange p = (p.0 < 2 ^ 32) × ((p.1.0 < 2 ^ 32) × (IsUpTo max_exponent p.1.1.0 × IsUpTo max_algorithms p.1.1.1))

abbrev change_at : Reader Change
change_at bytes = seq (number w32) (seq (number w32) (seq (small_at max_exponent) (small_at max_algorithms))) bytes

change_reads : Reads change_at spell_change FitsChange
change_reads =
    seq_reads (number w32) (to_be_bytes w32) (λ n. n < 2 ^ 32) _ _ _ word32
    (seq_reads (number w32) (to_be_bytes w32) (λ n. n < 2 ^ 32) _ _ _ word32
    (seq_reads (small_at max_exponent) cell (IsUpTo max_exponent) (small_at max_algorithms) cell (IsUpTo max_algorithms) (small_reads max_exponent (omega arith)) (small_reads max_algorithms (omega arith))))

era_reads : Reads era_at spell_era FitsEra
unfolding era_at
era_reads = record {
  takes = λ bytes c rest fits e.
      let t = mapped_takes era_from change_at spell_change FitsChange change_reads bytes c rest fits e in
      subst (λ (x : Era). (bytes ≡ spell_era x ++ rest) × FitsEra x) t.1
      (t.2, (t.3.0, t.3.1.0, t.3.1.1.0, t.3.1.1.1));
  again = λ c rest fits. mapped_again era_from change_at spell_change FitsChange change_reads (c.tile, (c.granule, (c.k, c.algs))) rest
      (fits.0, (fits.1, (fits.2, fits.3)));
}

abbrev pub RawEras : List Era → Type 0
RawEras es = (length es ≤ max_later) × AllByRecursion FitsEra es

abbrev IsWord : ℕ → Type 0
IsWord n = n < 2 ^ 32

eras_reads : Reads eras_at spell_eras RawEras
unfolding eras_at
eras_reads =
    reads_as (counted (number w32) (up_to max_later) era_at) spell_eras _ RawEras
    (counted_reads (number w32) (to_be_bytes w32) IsWord (up_to max_later) era_at spell_era FitsEra word32 era_reads)
    (λ es f. (leb-true (length es) max_later f.0.1, f.1))
    (λ es f. let few : length es ≤ max_later = f.0 in let b : length es < 2 ^ 32 = omega arith in ((b, le-leb (length es) max_later few), f.1))

-- ---- transactions

-- what spells a transaction
spelled_by : (bytes : List ℕ) (o : Option Item) → IsBytes bytes → item_of bytes ≡ o → is_some (o >>= txn_moment) ≡ true → length bytes ≤ max_payload → IsTxnSpelled bytes
spelled_by bytes (Some (items.Txn t)) fits e some short =
    let s : Spells (items.Txn t) bytes = whole_takes bytes (items.Txn t) fits e in
    record { txn = t; storable = record { fits = s.0; short = subst (λ (x : List ℕ). length x ≤ max_payload) s.1 short }; spelled = s.1 }
spelled_by bytes (Some (items.Frontier moment)) fits e some short = absurd cc
spelled_by bytes (Some (items.Policy tile granule k algs)) fits e some short = absurd cc
spelled_by bytes None fits e some short = absurd cc

-- what is read of it
pub item_spelled : (bytes : List ℕ) (s : IsTxnSpelled bytes) → item_of bytes ≡ Some (items.Txn s.txn)
item_spelled bytes s = whole_again bytes (items.Txn s.txn) (s.storable.fits, s.spelled)

-- a record can hold it
pub is_short : (bytes : List ℕ) → IsTxnSpelled bytes → length bytes ≤ max_payload
is_short bytes s = subst (λ (x : List ℕ). length x ≤ max_payload) (sym s.spelled) s.storable.short

is_spelled : (bytes : List ℕ) → IsTxnSpelled bytes → is_txn bytes ≡ true
is_spelled bytes s =
    let some : is_some (spelled_moment bytes) ≡ true = ap (λ (o : Option Item). is_some (o >>= txn_moment)) (item_spelled bytes s) in
    and_from (nat_le (length bytes) max_payload) (is_some (spelled_moment bytes)) (le-leb (length bytes) max_payload (is_short bytes s)) some

abbrev IsLong : List ℕ → Type 0
IsLong bs = length bs < 2 ^ 32

abbrev IsLongTxn : List ℕ → Type 0
IsLongTxn bs = IsLong bs × (is_txn bs ≡ true)

long_reads : Reads (checked is_txn (sized (number w32))) behind_length IsLongTxn
long_reads = checked_reads is_txn (sized (number w32)) behind_length IsLong (sized_reads (number w32) (to_be_bytes w32) IsWord word32)

-- bytes among others
within : (bytes bs rest : List ℕ) → bytes ≡ behind_length bs ++ rest → IsBytes bytes → IsBytes bs
within bytes bs rest e fits =
    let front : List ℕ = to_be_bytes w32 (length bs) in
    let parts : bytes ≡ front ++ (bs ++ rest) = e ∙ append_assoc front bs rest in
    subst IsBytes (take_at bs rest (length bs) refl) (IsBytes-take (length bs) (bs ++ rest) (IsBytes-after bytes front (bs ++ rest) parts fits))

txn_reads : Reads txn_at behind_length IsTxnSpelled
unfolding txn_at
txn_reads = record {
  takes = λ bytes bs rest fits e.
      let t = long_reads.takes bytes bs rest fits e in
      let test : is_txn bs ≡ true = t.1.1 in
      let short : length bs ≤ max_payload = leb-true (length bs) max_payload (and_left (nat_le (length bs) max_payload) (is_some (spelled_moment bs)) test) in
      (t.0, spelled_by bs (item_of bs) (within bytes bs rest t.0 fits) refl (and_right (nat_le (length bs) max_payload) (is_some (spelled_moment bs)) test) short);
  again = λ bs rest s.
      let short : length bs ≤ max_payload = is_short bs s in
      let long : length bs < 2 ^ 32 = omega arith in
      long_reads.again bs rest (long, is_spelled bs s);
}

abbrev pub RawList : List (List ℕ) → Type 0
RawList ts = (length ts < 2 ^ 32) × AllByRecursion IsTxnSpelled ts

list_reads : Reads list_at spell_list RawList
unfolding list_at
list_reads =
    reads_as (counted (number w32) any_count txn_at) spell_list _ RawList
    (counted_reads (number w32) (to_be_bytes w32) IsWord any_count txn_at behind_length IsTxnSpelled word32 txn_reads)
    (λ ts f. (f.0.0, f.1))
    (λ ts f. ((f.0, refl), f.1))

-- ---- entries

abbrev pub RawSecond : Option (List (List ℕ)) → Type 0
RawSecond None = Unit {0}
RawSecond (Some ts) = RawList ts

second_goes : (tag : ℕ) (bytes : List ℕ) (o : Option (List (List ℕ))) (rest : List ℕ) → IsBytes bytes → second_by tag bytes ≡ Some (o, rest) → Goes tag bytes spell_second RawSecond o rest
unfolding second_by
second_goes zero bytes o rest fits e = bare 0 bytes spell_second RawSecond None o rest e refl tt
second_goes (suc zero) bytes o rest fits e =
    let t = mapped_takes Some list_at spell_list RawList list_reads bytes o rest fits e in
    after_tag 1 bytes spell_second RawSecond (Some t.0) o rest t.1 (ap (λ (x : List ℕ). 1 ∷ x) t.2) t.3
second_goes (suc (suc n)) bytes o rest fits e = absurd cc

second_again : (o : Option (List (List ℕ))) (rest : List ℕ) → RawSecond o → second_at (spell_second o ++ rest) ≡ Some (o, rest)
unfolding second_at second_by tagged
second_again None rest fits = refl
second_again (Some ts) rest fits = mapped_again Some list_at spell_list RawList list_reads ts rest fits

second_reads : Reads second_at spell_second RawSecond
unfolding second_at
second_reads = record { takes = tagged_takes second_by spell_second RawSecond second_goes; again = second_again }

abbrev IsGranule : ℕ → Type 0
IsGranule g = g < max_granules

granule_reads : Reads granule_at (to_be_bytes w32) IsGranule
unfolding granule_at
granule_reads =
    reads_as (checked is_granule (number w32)) (to_be_bytes w32) _ IsGranule
    (checked_reads is_granule (number w32) (to_be_bytes w32) IsWord word32)
    (λ g f. ltb-true g max_granules f.1)
    (λ g f. (let low : g < max_granules = f in omega arith, lt-ltb g max_granules f))

abbrev Shown : Type 0
Shown = ℕ × (List (List ℕ) × Option (List (List ℕ)))

abbrev shown_at : Reader Shown
shown_at bytes = seq granule_at (seq list_at second_at) bytes

abbrev spell_shown : Shown → List ℕ
spell_shown p = to_be_bytes w32 p.0 ++ (spell_list p.1.0 ++ spell_second p.1.1)

abbrev FitsShown : Shown → Type 0
FitsShown p = IsGranule p.0 × (RawList p.1.0 × RawSecond p.1.1)

shown_reads : Reads shown_at spell_shown FitsShown
shown_reads =
    seq_reads granule_at (to_be_bytes w32) IsGranule _ _ _ granule_reads
    (seq_reads list_at spell_list RawList second_at spell_second RawSecond list_reads second_reads)

abbrev pub RawEntry : Entry → Type 0
RawEntry e = (e.granule < max_granules) × (RawList e.shown × RawSecond e.original)

entry_reads : Reads entry_at spell_entry RawEntry
unfolding entry_at
entry_reads = record {
  takes = λ bytes x rest fits e.
      let t = mapped_takes entry_from shown_at spell_shown FitsShown shown_reads bytes x rest fits e in
      subst (λ (y : Entry). (bytes ≡ spell_entry y ++ rest) × RawEntry y) t.1 (t.2, t.3);
  again = λ x rest fits. mapped_again entry_from shown_at spell_shown FitsShown shown_reads (x.granule, (x.shown, x.original)) rest fits;
}

abbrev pub RawEntries : List Entry → Type 0
RawEntries es = (length es < 2 ^ 32) × AllByRecursion RawEntry es

entries_reads : Reads entries_at spell_entries RawEntries
unfolding entries_at
entries_reads =
    reads_as (counted (number w32) any_count entry_at) spell_entries _ RawEntries
    (counted_reads (number w32) (to_be_bytes w32) IsWord any_count entry_at spell_entry RawEntry word32 entry_reads)
    (λ es f. (f.0.0, f.1))
    (λ es f. ((f.0, refl), f.1))

-- ---- the whole

abbrev All : Type 0
All = Unit {0} × (Header × (List Era × List Entry))

abbrev all_at : Reader All
all_at bytes = seq (constant evidence_text) (seq fields_at (seq eras_at entries_at)) bytes

abbrev spell_all : All → List ℕ
spell_all p = evidence_text ++ (spell_fields p.1.0 ++ (spell_eras p.1.1.0 ++ spell_entries p.1.1.1))

abbrev FitsAll : All → Type 0
FitsAll p = Unit {0} × (FitsHeader p.1.0 × (RawEras p.1.1.0 × RawEntries p.1.1.1))

all_reads : Reads all_at spell_all FitsAll
all_reads =
    seq_reads (constant evidence_text) (spell_constant evidence_text) Nothing _ _ _ (constant_reads evidence_text)
    (seq_reads fields_at spell_fields FitsHeader _ _ _ fields_reads
    (seq_reads eras_at spell_eras RawEras entries_at spell_entries RawEntries eras_reads entries_reads))

abbrev pub RawEvidence : Evidence → Type 0
RawEvidence e = FitsHeader e.header × (RawEras e.eras × RawEntries e.entries)

pub parts_reads : Reads parts_at spell_evidence RawEvidence
unfolding parts_at
parts_reads = record {
  takes = λ bytes x rest fits e.
      let t = mapped_takes evidence_from all_at spell_all FitsAll all_reads bytes x rest fits e in
      subst (λ (y : Evidence). (bytes ≡ spell_evidence y ++ rest) × RawEvidence y) t.1 (t.2, t.3.1);
  again = λ x rest fits. mapped_again evidence_from all_at spell_all FitsAll all_reads (tt, (x.header, (x.eras, x.entries))) rest (tt, fits);
}
