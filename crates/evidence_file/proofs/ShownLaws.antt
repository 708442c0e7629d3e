-- Equal digests of lists of spellings.
use Rattle.std.proofs.Common.{◌≡◌, ℕ, ◌^◌, ◌<◌, inl, inr, List, [], ◌∷◌, ◌++◌, length, refl, sym, ap, ◌∙◌, arith}
use Rattle.std.specs.List.{All, flat_map}
use Rattle.std.specs.Int.{w32, to_be_bytes}
use Rattle.std.proofs.lemmas.List.Elements.{All-head, All-tail, All-weaker, All-map}
use Rattle.notary_link.specs.declared.name.Name.{Name}
use Rattle.notary_link.specs.Batches.{Batch, compared}
use Rattle.byte_grammar.specs.Reading.{number, sized}
use Rattle.byte_grammar.proofs.Parts.{Reads, sized_reads}
use Rattle.byte_grammar.proofs.Wholes.{apart}
use Rattle.tuple_bytes.specs.Spelling.{spell_txn, FitsTxn}
use Rattle.tuple_bytes.proofs.ItemLaws.{word32}
use Rattle.history_model.specs.History.{History, rows}
use Rattle.digest_model.specs.Digests.{behind_length, granule_input, granule_over, granule_digest}
use Rattle.digest_model.specs.Inputs.{hashed}
use Rattle.digest_model.specs.Plain.{IsShort}
use Rattle.digest_model.specs.Spelled.{HasSpelling}
use Rattle.digest_model.proofs.Members.{here}
use Rattle.digest_model.proofs.Parts.{same_back}
use Rattle.digest_model.proofs.Clashes.{same_or_clash}
use Rattle.digest_model.proofs.Spelled.{rows_fit}
use Rattle.digest_model.proofs.Lengths.{txn_is_short}
use Rattle.audit_model.specs.Notary.{NotaryOf}
use Rattle.audit_model.proofs.Compare.{asked_compare, same_of, differs_of, one_answer}
use Rattle.evidence_file.specs.Shown.{spelled_rows, list_answer, IsLeaf, SameListIsNotarized, DifferingListIsOther, NotarizedListIsSame}

-- its length fits the four bytes in front of it
abbrev HasLength : List ℕ → Type 0
HasLength x = length x < 2 ^ 32

long_reads : Reads (sized (number w32)) behind_length HasLength
long_reads = sized_reads (number w32) (to_be_bytes w32) (λ n. n < 2 ^ 32) word32

-- a list of texts, each behind its length, shows the texts
same_texts : (xs ys : List (List ℕ)) → All HasLength xs → All HasLength ys → flat_map behind_length xs ≡ flat_map behind_length ys → xs ≡ ys
same_texts [] [] hx hy e = refl
same_texts [] (y ∷ ys) hx hy e = absurd cc
same_texts (x ∷ xs) [] hx hy e = absurd cc
same_texts (x ∷ xs) (y ∷ ys) hx hy e =
    let first = apart (sized (number w32)) behind_length HasLength long_reads x y (flat_map behind_length xs) (flat_map behind_length ys) (All-head HasLength x xs hx) (All-head HasLength y ys hy) e in
    let others = same_texts xs ys (All-tail HasLength x xs hx) (All-tail HasLength y ys hy) first.1 in
    cc

short_enough : (x : List ℕ) → IsShort x → HasLength x
short_enough x short = omega (arith, short)

rows_short : (h : History) (g : ℕ) → HasSpelling h → All HasLength (spelled_rows h g)
rows_short h g is = All-map HasLength spell_txn (rows h g) (All-weaker FitsTxn (λ t. length (spell_txn t) < 2 ^ 32) txn_is_short (rows h g) (rows_fit h g is))

same_lists : (g : ℕ) (xs ys : List (List ℕ)) → All HasLength xs → All HasLength ys → granule_input g xs ≡ granule_input g ys → xs ≡ ys
same_lists g xs ys hx hy e =
    let joined : to_be_bytes w32 g ++ flat_map behind_length xs ≡ to_be_bytes w32 g ++ flat_map behind_length ys = cc in
    same_texts xs ys hx hy (same_back (to_be_bytes w32 g) (to_be_bytes w32 g) (flat_map behind_length xs) (flat_map behind_length ys) refl joined)

-- the answer compares with the digest of the granule
asked : (batches : List Batch) (id : ℕ) (h : History) (n : ℕ) (name : Name) (g : ℕ) (spelled : List (List ℕ)) → NotaryOf batches id h n → IsLeaf h n g name
    → list_answer batches name g spelled ≡ compared (granule_over g spelled) (granule_digest h g)
asked batches id h n name g spelled is leaf =
    asked_compare batches id h n name (granule_over g spelled) is leaf.filed ∙ ap (compared (granule_over g spelled)) leaf.value

pub same_list : SameListIsNotarized
unfolding granule_digest hashed
same_list batches id h n name g spelled is fits leaf short e =
    let equal : granule_over g spelled ≡ granule_digest h g = same_of (granule_over g spelled) (granule_digest h g) (sym (asked batches id h n name g spelled is leaf) ∙ e) in
    elim (same_or_clash (granule_input g spelled ∷ []) (hashed h g ∷ []) (granule_input g spelled) (hashed h g) (here (granule_input g spelled) []) (here (hashed h g) []) equal) [
      | inl same ↦ inl (same_lists g spelled (spelled_rows h g) (All-weaker IsShort HasLength short_enough spelled short) (rows_short h g fits) same)
      | inr c ↦ inr c
    ]

pub differing_list : DifferingListIsOther
unfolding granule_digest
differing_list batches id h n name g spelled is leaf e same =
    differs_of (granule_over g spelled) (granule_digest h g) (sym (asked batches id h n name g spelled is leaf) ∙ e) (ap (granule_over g) same)

pub notarized_list : NotarizedListIsSame
unfolding granule_digest
notarized_list batches id h n name g is leaf =
    elim (one_answer (granule_over g (spelled_rows h g)) (granule_digest h g)) [
      | inl one ↦ asked batches id h n name g (spelled_rows h g) is leaf ∙ one.1
      | inr other ↦ absurd (other.0 refl)
    ]
