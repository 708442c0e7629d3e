-- Under the header and the eras that were filed, and under other ones.
use Rattle.std.proofs.Common.{◌≡◌, ◌⊎◌, inl, inr, ℕ, ◌+◌, true, false, List, [], ◌∷◌, Option, Some, None, refl, sym, ap, subst, ◌∙◌}
use Rattle.std.specs.List.{Contains}
use Rattle.std.proofs.lemmas.List.Elements.{All-head}
use Rattle.tuple_bytes.specs.declared.header.Header.{Header}
use Rattle.history_model.specs.History.{History}
use Rattle.digest_model.specs.Layout.{layout, first_granule}
use Rattle.digest_model.specs.Laws.{HasSpelling}
use Rattle.digest_model.proofs.Spelled.{same_header}
use Rattle.notary_link.specs.declared.answer.Answer.TheVariants.{Same}
use Rattle.notary_link.specs.Batches.{Batch}
use Rattle.audit_model.specs.Notary.{NotaryOf, header_answer}
use Rattle.audit_model.specs.Altered.{HasPlacesOf, HasOtherHeader, HashClash}
use Rattle.audit_model.specs.Ranges.{range_of}
use Rattle.audit_model.specs.Laws.{IsAudit, HasAltered}
use Rattle.audit_model.proofs.Exact.{header_shown, one_or_other}
use Rattle.audit_model.proofs.Planned.{other_is_not}
use Rattle.forensic_report.specs.declared.algorithm.Algorithm.{Algorithm}
use Rattle.forensic_report.specs.Analysis.{Findings, Region, Targets, Leaves, HeaderAltered, Found, is_some_bad, bad_tiles}
use Rattle.forensic_report.specs.Finding.{extent_of}
use Rattle.forensic_report.specs.Shows.{NamesIn, IsAlteredWithin, IsPromised, IsOtherOrAltered, AreAltered, BeginsAltered, AreExplained, Shows}
use Rattle.forensic_report.proofs.Layouts.{same_range, within_tile, places_of}

-- another header, or other eras, are answered the same
pub record IsPassed (h s : History) (n : ℕ) : Type 0 where
  pub other : HasOtherHeader h (Some s) n
  pub clash : HashClash h (Some s) n

-- where the answer is Same, the header and the eras are h's; or others are, and two inputs clash
pub decided : (batches : List Batch) (id : ℕ) (h s : History) (n : ℕ) → NotaryOf batches id h n → HasSpelling h → HasSpelling s
    → header_answer batches s n ≡ Same → IsAudit batches id h s n ⊎ IsPassed h s n
decided batches id h s n filed ours theirs same = elim (one_or_other h s n ours.header theirs.header) [
  | inl one ↦ inl (record { filed = filed; ours = ours; theirs = theirs; header = one.header; places = one.tiles })
  | inr other ↦ elim (header_shown batches id h s n filed ours theirs same) [
    | inl one ↦ absurd (other_is_not h s n other one)
    | inr clash ↦ inr (record { other = other; clash = clash })
  ]
]

-- where the header is told as altered, it or an era is another one, and all is shown
pub header_shows : (algorithm : Algorithm) (batches : List Batch) (h : History) (file : Option History) (n m : ℕ) → HasOtherHeader h file n → Shows algorithm batches h file n (HeaderAltered m)
header_shows algorithm batches h file n m other = record {
  named = λ g alt promised. inl tt;
  unaltered = λ none g alt. absurd cc;
  begins = tt;
  altered = λ told. inl other;
  header = other;
  only = tt;
  explained = tt;
}

-- a file without a history of the id has another header
pub other_of : (h : History) (id n : ℕ) (file : Option History) → h.header.id ≡ id → HasSpelling h → ((s : History) → file ≡ Some s → HasSpelling s) → ((s : History) → file ≡ Some s → s.header.id ≡ id → ⊥)
    → HasOtherHeader h file n
other_of h id n None own ours theirs none = tt
other_of h id n (Some s) own ours theirs none = λ fields eras.
    none s refl (ap (λ (hd : Header). hd.id) (sym (same_header h.header s.header ours.header (theirs s refl).header fields)) ∙ own)

-- ---- where there is one, something is altered

altered_in : (era : Option ℕ) (h s : History) (n : ℕ) (findings : Findings) → HasPlacesOf h s n ⊎ HasOtherHeader h (Some s) n → AreAltered h s n (extent_of era s n) findings
    → is_some_bad (bad_tiles (extent_of era s n) findings) ≡ true → IsOtherOrAltered era h (Some s) n
altered_in era h s n findings (inr other) only told = inl other
altered_in era h s n (Region None) (inl one) only told = absurd cc
altered_in era h s n (Region (Some first)) (inl one) only told = inr only
altered_in era h s n (Targets []) (inl one) only told = absurd cc
altered_in era h s n (Targets (t ∷ targets)) (inl one) only told =
    let first = All-head (λ (u : ℕ × ℕ). Contains (range_of era (layout s) n) u.0 × HasAltered h s n u.0) t targets only in
    let among = subst (λ (tiles : List ℕ). Contains tiles t.0) (sym (same_range era (layout h) (layout s) n one.tiles)) first.0 in
    inr (first_granule (layout h) t.0 + first.1.0, within_tile era h (Some s) n t.0 first.1.0 among first.1.1.0 first.1.1.1)
altered_in era h s n (Leaves [] checks) (inl one) only told = absurd cc
altered_in era h s n (Leaves (g ∷ granules) checks) (inl one) only told = inr (g, All-head (λ x. IsAlteredWithin era h (Some s) n x) g granules (only one))

-- ---- under the header and the eras that were filed

pub own_shows : (algorithm : Algorithm) (era : Option ℕ) (batches : List Batch) (id : ℕ) (h s : History) (n : ℕ) (findings : Findings) → IsAudit batches id h s n
    → ((g : ℕ) → IsAlteredWithin era h (Some s) n g → IsPromised algorithm h (Some s) n g → NamesIn algorithm (layout s) findings g ⊎ HashClash h (Some s) n)
    → (is_some_bad (bad_tiles (extent_of era s n) findings) ≡ false → (g : ℕ) → IsAlteredWithin era h (Some s) n g → HashClash h (Some s) n)
    → BeginsAltered h s n findings → AreAltered h s n (extent_of era s n) findings → AreExplained algorithm batches s (layout s) findings
    → Shows algorithm batches h (Some s) n (Found (extent_of era s n) findings)
own_shows algorithm era batches id h s n findings audit named unaltered begins only explained = record {
  named = named;
  unaltered = unaltered;
  begins = begins;
  altered = altered_in era h s n findings (inl (places_of batches id h s n audit)) only;
  header = tt;
  only = only;
  explained = explained;
}

-- ---- under other ones, what is shown but for the clash

begins_so : (h s : History) (n : ℕ) (findings : Findings) → HashClash h (Some s) n → BeginsAltered h s n findings
begins_so h s n (Region None) clash = tt
begins_so h s n (Region (Some first)) clash = inr clash
begins_so h s n (Targets targets) clash = tt
begins_so h s n (Leaves granules checks) clash = tt

pub passed_shows : (algorithm : Algorithm) (era : Option ℕ) (batches : List Batch) (h s : History) (n : ℕ) (findings : Findings) → IsPassed h s n
    → AreAltered h s n (extent_of era s n) findings → AreExplained algorithm batches s (layout s) findings → Shows algorithm batches h (Some s) n (Found (extent_of era s n) findings)
passed_shows algorithm era batches h s n findings passed only explained = record {
  named = λ g alt promised. inr passed.clash;
  unaltered = λ none g alt. passed.clash;
  begins = begins_so h s n findings passed.clash;
  altered = λ told. inl passed.other;
  header = tt;
  only = only;
  explained = explained;
}
