-- The tests of a whole file say what its parts owe each other.
use Rattle.std.proofs.Common.{◌≡◌, ℕ, ◌==◌, ◌++◌, Bool, true, List, [], ◌∷◌, Option, Some, None, refl, sym, ap, ◌∙◌}
use Rattle.std.specs.Prelude.{◌&&◌}
use Rattle.std.specs.List.{AllByRecursion, list_all}
use Rattle.std.proofs.lemmas.Bool.{and_from, eqb-true, eq-eqb}
use Rattle.byte_grammar.specs.Reading.{IsBytes, ◌>>=◌, checked}
use Rattle.byte_grammar.proofs.Parts.{Reads, and_left, and_right, checked_reads, reads_as}
use Rattle.byte_grammar.proofs.Wholes.{whole_takes, whole_again, apart}
use Rattle.std.proofs.lemmas.Option.{none-some}
use Rattle.tuple_bytes.specs.declared.item.Item.{Item}
use Rattle.history_model.specs.History.{granule_of}
use Rattle.history_model.specs.Spelled.{txn_moment}
use Rattle.digest_model.specs.Layout.{first_era}
use Rattle.evidence_file.specs.declared.entry.Entry.{Entry}
use Rattle.evidence_file.specs.declared.evidence.Evidence.{Evidence}
use Rattle.evidence_file.specs.Evidence.{spell_evidence, IsTxnSpelled, IsTxnOf, FitsList, FitsSecond, FitsEntry, ascend, are_next, FitsEvidence, SpellsEvidence, IsEvidenceSpelled}
use Rattle.evidence_file.specs.Reading.{is_within, is_txn_of, is_list_of, is_second_of, is_entry, is_consistent, parts_at, evidence_at, evidence_of}
use Rattle.evidence_file.proofs.PartLaws.{item_spelled, RawList, RawSecond, RawEntry, RawEvidence, parts_reads}

-- ---- transactions in their granule

at_test : (width g : ℕ) (bytes : List ℕ) (s : IsTxnSpelled bytes) → is_txn_of width g bytes ≡ (granule_of width s.txn.moment == g)
at_test width g bytes s = ap (λ (o : Option Item). is_within width g (o >>= txn_moment)) (item_spelled bytes s)

txns_there : (width g : ℕ) (ts : List (List ℕ)) → AllByRecursion IsTxnSpelled ts → list_all (is_txn_of width g) ts ≡ true → AllByRecursion (IsTxnOf width g) ts
txns_there width g [] fit h = tt
txns_there width g (t ∷ ts) fit h =
    let a : Bool = is_txn_of width g t in
    let b : Bool = list_all (is_txn_of width g) ts in
    let here : is_txn_of width g t ≡ true = and_left a b h in
    let s : IsTxnSpelled t = fit.0 in
    (record { some = s; place = eqb-true (granule_of width s.txn.moment) g (sym (at_test width g t s) ∙ here) }, txns_there width g ts fit.1 (and_right a b h))

txns_back : (width g : ℕ) (ts : List (List ℕ)) → AllByRecursion (IsTxnOf width g) ts → AllByRecursion IsTxnSpelled ts × (list_all (is_txn_of width g) ts ≡ true)
txns_back width g [] fit = (tt, refl)
txns_back width g (t ∷ ts) fit =
    let x : IsTxnOf width g t = fit.0 in
    let here : is_txn_of width g t ≡ true = at_test width g t x.some ∙ eq-eqb (granule_of width x.some.txn.moment) g x.place in
    let others = txns_back width g ts fit.1 in
    ((x.some, others.0), and_from (is_txn_of width g t) (list_all (is_txn_of width g) ts) here others.1)

list_there : (width g : ℕ) (ts : List (List ℕ)) → RawList ts → is_list_of width g ts ≡ true → FitsList width g ts
unfolding is_list_of
list_there width g ts raw h = (raw.0, txns_there width g ts raw.1 h)

list_back : (width g : ℕ) (ts : List (List ℕ)) → FitsList width g ts → RawList ts × (is_list_of width g ts ≡ true)
unfolding is_list_of
list_back width g ts fit = let t = txns_back width g ts fit.1 in ((fit.0, t.0), t.1)

second_there : (width g : ℕ) (o : Option (List (List ℕ))) → RawSecond o → is_second_of width g o ≡ true → FitsSecond width g o
second_there width g None raw h = tt
second_there width g (Some ts) raw h = list_there width g ts raw h

second_back : (width g : ℕ) (o : Option (List (List ℕ))) → FitsSecond width g o → RawSecond o × (is_second_of width g o ≡ true)
second_back width g None fit = (tt, refl)
second_back width g (Some ts) fit = list_back width g ts fit

-- ---- entries

entry_there : (width : ℕ) (e : Entry) → RawEntry e → is_entry width e ≡ true → FitsEntry width e
unfolding is_entry
entry_there width e raw h =
    let a : Bool = is_list_of width e.granule e.shown in
    let b : Bool = is_second_of width e.granule e.original in
    record {
      granule = raw.0;
      shown = list_there width e.granule e.shown raw.1.0 (and_left a b h);
      original = second_there width e.granule e.original raw.1.1 (and_right a b h);
    }

entry_back : (width : ℕ) (e : Entry) → FitsEntry width e → RawEntry e × (is_entry width e ≡ true)
unfolding is_entry
entry_back width e fit =
    let a = list_back width e.granule e.shown fit.shown in
    let b = second_back width e.granule e.original fit.original in
    ((fit.granule, (a.0, b.0)), and_from (is_list_of width e.granule e.shown) (is_second_of width e.granule e.original) a.1 b.1)

entries_there : (width : ℕ) (es : List Entry) → AllByRecursion RawEntry es → list_all (is_entry width) es ≡ true → AllByRecursion (FitsEntry width) es
entries_there width [] raw h = tt
entries_there width (e ∷ es) raw h =
    let a : Bool = is_entry width e in
    let b : Bool = list_all (is_entry width) es in
    (entry_there width e raw.0 (and_left a b h), entries_there width es raw.1 (and_right a b h))

entries_back : (width : ℕ) (es : List Entry) → AllByRecursion (FitsEntry width) es → AllByRecursion RawEntry es × (list_all (is_entry width) es ≡ true)
entries_back width [] fit = (tt, refl)
entries_back width (e ∷ es) fit =
    let a = entry_back width e fit.0 in
    let b = entries_back width es fit.1 in
    ((a.0, b.0), and_from (is_entry width e) (list_all (is_entry width) es) a.1 b.1)

-- ---- the file

abbrev Checked : Evidence → Type 0
Checked e = RawEvidence e × (is_consistent e ≡ true)

there : (e : Evidence) → Checked e → FitsEvidence e
unfolding is_consistent
there e c =
    let raw : RawEvidence e = c.0 in
    let a : Bool = are_next (first_era e.header) e.eras in
    let b : Bool = ascend 0 e.entries in
    let d : Bool = list_all (is_entry e.header.width) e.entries in
    let others : (b && d) ≡ true = and_right a (b && d) c.1 in
    record {
      header = raw.0;
      few = raw.1.0.0;
      eras = raw.1.0.1;
      next = and_left a (b && d) c.1;
      count = raw.1.1.0;
      entries = entries_there e.header.width e.entries raw.1.1.1 (and_right b d others);
      order = and_left b d others;
    }

back : (e : Evidence) → FitsEvidence e → Checked e
unfolding is_consistent
back e fit =
    let entries = entries_back e.header.width e.entries fit.entries in
    let b : Bool = ascend 0 e.entries in
    let d : Bool = list_all (is_entry e.header.width) e.entries in (
      (fit.header, ((fit.few, fit.eras), (fit.count, entries.0))),
      and_from (are_next (first_era e.header) e.eras) (b && d) fit.next (and_from b d fit.order entries.1),
    )

pub evidence_reads : Reads evidence_at spell_evidence FitsEvidence
unfolding evidence_at
evidence_reads =
    reads_as (checked is_consistent parts_at) spell_evidence Checked FitsEvidence
    (checked_reads is_consistent parts_at spell_evidence RawEvidence parts_reads) there back

-- ---- whole files

pub evidence_takes : (bytes : List ℕ) (e : Evidence) → IsBytes bytes → evidence_of bytes ≡ Some e → SpellsEvidence e bytes
unfolding evidence_of
evidence_takes bytes e fits is = whole_takes evidence_at spell_evidence FitsEvidence evidence_reads bytes e fits is

pub evidence_again : (bytes : List ℕ) (e : Evidence) → SpellsEvidence e bytes → evidence_of bytes ≡ Some e
unfolding evidence_of
evidence_again bytes e s = whole_again evidence_at spell_evidence FitsEvidence evidence_reads bytes e s

pub evidence_spelled : (o : Option Evidence) (bytes : List ℕ) → IsBytes bytes → o ≡ evidence_of bytes → IsEvidenceSpelled bytes o
evidence_spelled None bytes fits e = λ x s. none-some x (e ∙ evidence_again bytes x s)
evidence_spelled (Some x) bytes fits e = evidence_takes bytes x fits (sym e)

-- no spelling begins another
pub evidence_apart : (e f : Evidence) (x y : List ℕ) → FitsEvidence e → FitsEvidence f → spell_evidence e ++ x ≡ spell_evidence f ++ y → (e ≡ f) × (x ≡ y)
evidence_apart e f x y fe ff is = apart evidence_at spell_evidence FitsEvidence evidence_reads e f x y fe ff is
