-- The laws of examinations.
use Rattle.std.proofs.Common.{◌≡◌, ℕ, List, sym, ap, subst, ◌∙◌, inl, inr, Option, Some, None, arith}
use Rattle.std.specs.Prelude.{◌==◌}
use Rattle.std.specs.List.{All}
use Rattle.std.proofs.lemmas.Bool.{and_parts}
use Rattle.std.proofs.lemmas.List.Elements.{All-contains}
use Rattle.notary_link.specs.declared.name.Name.{Name}
use Rattle.notary_link.specs.declared.answer.Answer.TheVariants.{Same, Differs, Absent}
use Rattle.notary_link.specs.Batches.{Batch}
use Rattle.history_model.specs.History.{History}
use Rattle.digest_model.specs.Digests.{granule_over}
use Rattle.digest_model.specs.Plain.{IsShort}
use Rattle.audit_model.specs.Altered.{HasPlacesOf}
use Rattle.audit_model.specs.Notary.{header_answer}
use Rattle.audit_model.proofs.Compare.{counted, asked_absent}
use Rattle.evidence_file.specs.declared.evidence.Evidence.{Evidence}
use Rattle.evidence_file.specs.Writing.{SecondHasLengths, EntryHasLengths}
use Rattle.evidence_file.specs.Shown.{leaf_name, IsLeaf}
use Rattle.evidence_file.proofs.Counting.{entries_lengths}
use Rattle.evidence_file.proofs.Leaves.{leaves_are_filed}
use Rattle.evidence_file.proofs.ShownLaws.{same_list, differing_list, notarized_list}
use Rattle.evidence_examine.specs.Places.{places_of, layout_of, sealed, has_filed_places}
use Rattle.evidence_examine.specs.Texts.{shown_as}
use Rattle.evidence_examine.specs.Laws.{IsExamined, IsListOf, HasLeaf, RightPlacesAreNotarized, OtherListsDiffer, SameListsAreNotarized, NotarizedListsAreSame, OtherGranulesAreMissing}
use Rattle.evidence_examine.proofs.EraPlaces.{places_fit}
use Rattle.evidence_examine.proofs.EraClashes.{same_is, places_shown}
use Rattle.evidence_examine.proofs.Leaves.{same_name, not_planned, leaf_or_none}

-- ---- the places

pub right_places : RightPlacesAreNotarized
right_places batches id h n e is =
    let both = and_parts (e.header.id == id) (has_filed_places batches e) is.right in
    let many = counted batches id h n is.filed in
    let tiles : sealed batches ≡ n = omega (arith, many) in
    let answered : header_answer batches (places_of e) n ≡ Same = ap (header_answer batches (places_of e)) (sym tiles) ∙ same_is (header_answer batches (places_of e) (sealed batches)) both.1 in
    places_shown batches id h (places_of e) n is.filed is.ours (places_fit e is.fits) answered

-- ---- lists

-- a list that is shown is of short spellings
second_short : (o : Option (List (List ℕ))) (spelled : List (List ℕ)) → SecondHasLengths o → o ≡ Some spelled → All IsShort spelled
second_short None spelled fits is = absurd cc
second_short (Some ts) spelled fits is = (let same : ts ≡ spelled = cc in subst (λ (x : List (List ℕ)). All IsShort x) same fits.1)

list_short : (e : Evidence) (g : ℕ) (spelled : List (List ℕ)) → All EntryHasLengths e.entries → IsListOf e g spelled → All IsShort spelled
list_short e g spelled fits is =
    let one = All-contains EntryHasLengths e.entries is.entry fits is.among in
    elim is.list [
      | inl first ↦ subst (λ (x : List (List ℕ)). All IsShort x) first one.shown.1
      | inr second ↦ second_short is.entry.original spelled one.original second
    ]

-- ---- granules

-- under the notarized places the name of a leaf is that of the file
leaf : (h : History) (e : Evidence) (n g : ℕ) → HasPlacesOf h (places_of e) n → HasLeaf h n g → IsLeaf h n g (leaf_name (layout_of e) g)
leaf h e n g places has = subst (λ (name : Name). IsLeaf h n g name) (same_name h (places_of e) n places g has.0) (leaves_are_filed h n g has.0 has.1)

missing : (batches : List Batch) (id : ℕ) (h : History) (n : ℕ) (e : Evidence) (g : ℕ) (spelled : List (List ℕ)) → IsExamined batches id h n e → HasPlacesOf h (places_of e) n → (HasLeaf h n g → ⊥)
    → shown_as batches (layout_of e) g spelled ≡ Absent
missing batches id h n e g spelled is places none = asked_absent batches id h n (leaf_name (layout_of e) g) (granule_over g spelled) is.filed (not_planned h (places_of e) n places g none)

-- a list that has an answer is of a granule that has a leaf
answered : (batches : List Batch) (id : ℕ) (h : History) (n : ℕ) (e : Evidence) (g : ℕ) (spelled : List (List ℕ)) → IsExamined batches id h n e → HasPlacesOf h (places_of e) n
    → (shown_as batches (layout_of e) g spelled ≡ Absent → ⊥) → IsLeaf h n g (leaf_name (layout_of e) g)
answered batches id h n e g spelled is places some = elim (leaf_or_none h n g) [
  | inl has ↦ leaf h e n g places has
  | inr none ↦ absurd (some (missing batches id h n e g spelled is places none))
]

-- ---- the laws

pub other_lists : OtherListsDiffer
other_lists batches id h n e g spelled is among a = elim (right_places batches id h n e is) [
  | inr c ↦ inr c
  | inl places ↦ inl
      (differing_list batches id h n (leaf_name (layout_of e) g) g spelled is.filed
      (answered batches id h n e g spelled is places (λ b. (let both : Differs ≡ Absent = sym a ∙ b in cc))) a)
]

pub same_lists : SameListsAreNotarized
same_lists batches id h n e g spelled is among a = elim (right_places batches id h n e is) [
  | inr c ↦ inr (inl c)
  | inl places ↦ elim
      (same_list batches id h n (leaf_name (layout_of e) g) g spelled is.filed is.ours
      (answered batches id h n e g spelled is places (λ b. (let both : Same ≡ Absent = sym a ∙ b in cc)))
      (list_short e g spelled (entries_lengths e is.fits) among) a) [
        | inl same ↦ inl same
        | inr c ↦ inr (inr c)
      ]
]

pub notarized_lists : NotarizedListsAreSame
notarized_lists batches id h n e g is has = elim (right_places batches id h n e is) [
  | inr c ↦ inr c
  | inl places ↦ inl (notarized_list batches id h n (leaf_name (layout_of e) g) g is.filed (leaf h e n g places has))
]

pub other_granules : OtherGranulesAreMissing
other_granules batches id h n e g spelled is none = elim (right_places batches id h n e is) [
  | inr c ↦ inr c
  | inl places ↦ inl (missing batches id h n e g spelled is places none)
]
