-- What the answers for the header and the eras show, with no other clash than one of theirs.
use Rattle.std.proofs.Common.{◌≡◌, ℕ, zero, suc, ◌+◌, ◌<◌, ◌≤◌, Bool, true, List, [], ◌∷◌, length, refl, sym, ap, ◌∙◌, ◌⊎◌, inl, inr, Some, arith}
use Rattle.std.specs.List.{Contains, flat_map, list_all, range_with_len, slice_get}
use Rattle.std.proofs.lemmas.Bool.{cases_lt, and_parts}
use Rattle.tuple_bytes.specs.Spelling.{spell_fields}
use Rattle.tuple_bytes.specs.declared.header.Header.{Header}
use Rattle.notary_link.specs.declared.name.Name.TheVariants as names
use Rattle.notary_link.specs.declared.answer.Answer.{Answer}
use Rattle.notary_link.specs.declared.answer.Answer.TheVariants.{Same, Differs, Absent}
use Rattle.notary_link.specs.Batches.{Batch, compared, answer}
use Rattle.history_model.specs.History.{History}
use Rattle.digest_model.specs.Layout.{Era, layout, policy_of, era_at, sealed_eras}
use Rattle.digest_model.specs.Digests.{no_digest, header_input, header_digest, era_digest}
use Rattle.digest_model.specs.Inputs.{Clash, era_inputs}
use Rattle.digest_model.specs.Spelled.{HasSpelling}
use Rattle.digest_model.proofs.Members.{here, there, Contains-flat_map}
use Rattle.digest_model.proofs.Lists.{in_range}
use Rattle.digest_model.proofs.Clashes.{same_or_clash, wider}
use Rattle.digest_model.proofs.Spelled.{same_header}
use Rattle.digest_model.proofs.Eras.{equal_eras, sealed_at, get_within}
use Rattle.digest_model.proofs.ErasApart.{eras_apart}
use Rattle.audit_model.specs.Asked.{is_absent}
use Rattle.audit_model.specs.Altered.{HasPlacesOf}
use Rattle.audit_model.specs.Names.{digest}
use Rattle.audit_model.specs.Notary.{NotaryOf, answers, is_same, is_era_same, is_no_era, era_check, header_answer}
use Rattle.audit_model.proofs.Compare.{compare, asked_compare, asked_absent, same_of, one_answer}
use Rattle.audit_model.proofs.Planned.{era_planned}
use Rattle.audit_model.proofs.EraCheck.{era_is_sealed, both_of}
use Rattle.audit_model.proofs.Exact.{header_planned}
use Rattle.evidence_examine.specs.Laws.{place_inputs}

-- ---- answers

pub same_is : (a : Answer) → is_same a ≡ true → a ≡ Same
same_is Same e = refl
same_is Differs e = absurd cc
same_is Absent e = absurd cc

pub absent_is : (a : Answer) → is_absent a ≡ true → a ≡ Absent
absent_is Same e = absurd cc
absent_is Differs e = absurd cc
absent_is Absent e = refl

pub never_absent : (a b : List ℕ) → compared a b ≡ Absent → ⊥
never_absent a b e = elim (one_answer a b) [
  | inl same ↦ (let other : Same ≡ Absent = sym same.1 ∙ e in cc)
  | inr differ ↦ (let other : Differs ≡ Absent = sym differ.1 ∙ e in cc)
]

-- ---- lists

one_of_all : (p : ℕ → Bool) (a n : ℕ) → list_all p (range_with_len a n) ≡ true → (e : ℕ) → a ≤ e → e < a + n → p e ≡ true
one_of_all p a zero all e from below = absurd (omega (arith, from, below))
one_of_all p a (suc n) all e from below =
    let both = and_parts (p a) (list_all p (range_with_len (a + 1) n)) all in
    elim (cases_lt a e) [
      | inl later ↦ one_of_all p (a + 1) n both.1 e (omega (arith, later)) (omega (arith, below))
      | inr first ↦ (let same : a ≡ e = omega (arith, first, from) in ap p (sym same) ∙ both.0)
    ]

-- two lists with equal elements are equal, but for something else
same_lists : (C : Type 0) (xs ys : List Era) → length xs ≡ length ys → ((e : ℕ) → e < length xs → (slice_get xs e ≡ slice_get ys e) ⊎ C) → (xs ≡ ys) ⊎ C
same_lists C [] [] long each = inl refl
same_lists C [] (y ∷ ys) long each = absurd (omega (arith, long))
same_lists C (x ∷ xs) [] long each = absurd (omega (arith, long))
same_lists C (x ∷ xs) (y ∷ ys) long each = elim (each 0 (omega arith)) [
  | inr c ↦ inr c
  | inl first ↦ elim (same_lists C xs ys (omega (arith, long)) (λ e below. each (suc e) (omega (arith, below)))) [
    | inr c ↦ inr c
    | inl rest ↦ inl (let head : x ≡ y = cc in cc)
  ]
]

-- ---- the inputs

pub header_among : (h : History) (n : ℕ) → Contains (place_inputs h n) (header_input h.header)
header_among h n = here (header_input h.header) (flat_map (era_inputs h) (range_with_len 1 (length (sealed_eras (layout h) n))))

era_among : (h : History) (n e : ℕ) (x : List ℕ) → e < length (sealed_eras (layout h) n) → Contains (era_inputs h (suc e)) x → Contains (place_inputs h n) x
era_among h n e x below is =
    let count = length (sealed_eras (layout h) n) in
    there (header_input h.header) x (flat_map (era_inputs h) (range_with_len 1 count))
    (Contains-flat_map (era_inputs h) (range_with_len 1 count) (suc e) x (in_range 1 count (suc e) (omega arith) (omega (arith, below))) is)

-- ---- the eras

module _ (batches : List Batch) (id : ℕ) (h s : History) (n : ℕ) (filed : NotaryOf batches id h n) (ours : HasSpelling h) (theirs : HasSpelling s) where
  abbrev ours_count : ℕ
  ours_count = length (sealed_eras (layout h) n)

  abbrev theirs_count : ℕ
  theirs_count = length (sealed_eras (layout s) n)

  abbrev pub HavePlacesClash : Type 0
  HavePlacesClash = Clash (place_inputs h n) (place_inputs s n)

  module _ (holds : era_check batches s n ≡ true) where
    parts : (list_all (is_era_same batches s) (range_with_len 1 theirs_count) ≡ true) × (is_no_era batches (theirs_count + 1) ≡ true)
    unfolding era_check
    parts = and_parts (list_all (is_era_same batches s) (range_with_len 1 theirs_count)) (is_no_era batches (theirs_count + 1)) holds

    each_same : (e : ℕ) → e < theirs_count → answers batches s (names.Era (suc e)) ≡ Same
    each_same e below = same_is (answers batches s (names.Era (suc e))) (one_of_all (is_era_same batches s) 1 theirs_count parts.0 (suc e) (omega arith) (omega (arith, below)))

    -- each of the file's eras is a notarized one
    no_more : ours_count < theirs_count → ⊥
    no_more more =
        let none : answers batches s (names.Era (suc ours_count)) ≡ Absent =
        asked_absent batches id h n (names.Era (suc ours_count)) (digest s (names.Era (suc ours_count))) filed (λ is. (let few = era_is_sealed (layout h) n (suc ours_count) is in omega (arith, few))) in
        let other : Same ≡ Absent = sym (each_same ours_count more) ∙ none in
        cc

    -- and no notarized one is missing
    no_fewer : theirs_count < ours_count → ⊥
    no_fewer fewer =
        let next : theirs_count + 1 ≡ suc theirs_count = omega arith in
        let absent = absent_is (answer batches (names.Era (theirs_count + 1)) no_digest) parts.1 in
        let known = asked_compare batches id h n (names.Era (suc theirs_count)) no_digest filed (era_planned (layout h) n theirs_count fewer) in
        never_absent no_digest (digest h (names.Era (suc theirs_count))) (sym known ∙ ap (λ (e : ℕ). answer batches (names.Era e) no_digest) (sym next) ∙ absent)

    as_long : ours_count ≡ theirs_count
    as_long = elim (cases_lt theirs_count ours_count) [
      | inl fewer ↦ absurd (no_fewer fewer)
      | inr enough ↦ elim (cases_lt ours_count theirs_count) [ inl more ↦ absurd (no_more more) | inr same ↦ omega (arith, enough, same) ]
    ]

    one_era : (e : ℕ) → e < ours_count → (slice_get (sealed_eras (layout h) n) e ≡ slice_get (sealed_eras (layout s) n) e) ⊎ HavePlacesClash
    unfolding digest
    one_era e below =
        let long = as_long in
        let also : e < theirs_count = omega (arith, below, long) in
        let a = get_within (sealed_eras (layout h) n) e below in
        let b = get_within (sealed_eras (layout s) n) e also in
        let at_a : era_at (policy_of h) (suc e) ≡ Some a.0 = sealed_at h n e below ∙ a.1 in
        let at_b : era_at (policy_of s) (suc e) ≡ Some b.0 = sealed_at s n e also ∙ b.1 in
        let asked : answers batches s (names.Era (suc e)) ≡ compared (era_digest s (suc e)) (era_digest h (suc e)) = compare batches id h s n (names.Era (suc e)) filed (era_planned (layout h) n e below) in
        let alike = same_of (era_digest s (suc e)) (era_digest h (suc e)) (sym asked ∙ each_same e also) in
        elim (eras_apart h s (suc e) a.0 b.0 ours theirs at_a at_b (sym alike)) [
          | inl same ↦ inl (a.1 ∙ ap (λ (x : Era). Some x) same ∙ sym b.1)
          | inr c ↦ inr (wider (era_inputs h (suc e)) (era_inputs s (suc e)) (place_inputs h n) (place_inputs s n) (λ x in'. era_among h n e x below in') (λ x in'. era_among s n e x also in') c)
        ]

    -- the sealed eras are the notarized ones
    eras_shown : (sealed_eras (layout h) n ≡ sealed_eras (layout s) n) ⊎ HavePlacesClash
    eras_shown = same_lists HavePlacesClash (sealed_eras (layout h) n) (sealed_eras (layout s) n) as_long one_era

  -- the header is the notarized one
  header_shown : answers batches s names.Header ≡ Same → (h.header ≡ s.header) ⊎ HavePlacesClash
  unfolding digest
  header_shown e =
      let same : compared (header_digest s.header) (header_digest h.header) ≡ Same = sym (compare batches id h s n names.Header filed (header_planned (layout h) n)) ∙ e in
      let alike = sym (same_of (header_digest s.header) (header_digest h.header) same) in
      elim (same_or_clash (place_inputs h n) (place_inputs s n) (header_input h.header) (header_input s.header) (header_among h n) (header_among s n) alike) [
        | inl one ↦ inl (same_header h.header s.header ours.header theirs.header (let fields : spell_fields h.header ≡ spell_fields s.header = cc in fields))
        | inr c ↦ inr c
      ]

  -- so both are
  pub places_shown : header_answer batches s n ≡ Same → HasPlacesOf h s n ⊎ HavePlacesClash
  unfolding header_answer
  places_shown e =
      let both = both_of (answers batches s names.Header) (era_check batches s n) e in
      elim (header_shown both.0) [
        | inr c ↦ inr c
        | inl one ↦ elim (eras_shown both.1) [
          | inr c ↦ inr c
          | inl eras ↦ inl (record { header = one; tiles = equal_eras h s n (ap (λ (header : Header). header.k) one) (ap (λ (header : Header). header.algs) one) eras })
        ]
      ]
