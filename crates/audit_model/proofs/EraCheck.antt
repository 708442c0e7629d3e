-- The era check is exact: it holds where the eras are the notarized ones, and else shows that they are, or a clash.
use Rattle.std.proofs.Common.{◌≡◌, ℕ, zero, suc, ◌+◌, ◌-◌, ◌<◌, ◌≤◌, Bool, true, false, List, [], ◌∷◌, length, refl, sym, ap, subst, ◌∙◌, ◌⊎◌, inl, inr, Some, arith}
use Rattle.std.specs.List.{All, Contains, list_all, range_with_len, slice_get}
use Rattle.std.proofs.lemmas.Bool.{cases_lt, and_parts, and_from}
use Rattle.std.proofs.lemmas.List.{length-append}
use Rattle.std.proofs.lemmas.List.Elements.{All-nil, All-cons, All-contains}
use Rattle.notary_link.specs.declared.name.Name.{Name}
use Rattle.notary_link.specs.declared.name.Name.TheVariants as names
use Rattle.notary_link.specs.declared.answer.Answer.{Answer}
use Rattle.notary_link.specs.declared.answer.Answer.TheVariants.{Same, Differs, Absent}
use Rattle.notary_link.specs.Batches.{Batch, compared, answer}
use Rattle.history_model.specs.History.{History}
use Rattle.digest_model.specs.Layout.{Layout, Era, layout, policy_of, era_at, turns, sealed_eras, era_of}
use Rattle.digest_model.specs.Digests.{no_digest, era_digest}
use Rattle.digest_model.specs.Inputs.{era_inputs}
use Rattle.digest_model.specs.Laws.{HasSpelling}
use Rattle.audit_model.specs.Names.{node_name, batch_names, planned, digest, inputs_of, inputs}
use Rattle.audit_model.specs.Asked.{is_absent}
use Rattle.audit_model.specs.Notary.{NotaryOf, answers, is_same, is_era_same, is_no_era, era_check, with_eras}
use Rattle.audit_model.specs.Altered.{HashClash}
use Rattle.digest_model.proofs.Layouts as layouts
use Rattle.digest_model.proofs.Clashes.{wider}
use Rattle.digest_model.proofs.Lists.{from_range}
use Rattle.digest_model.proofs.Eras.{sealed_at, get_within}
use Rattle.digest_model.proofs.ErasApart.{eras_apart}
use Rattle.audit_model.proofs.Compare.{compare, asked_compare, asked_absent, same_of, one_answer}
use Rattle.audit_model.proofs.Planned.{era_planned, hashed_for}
use Rattle.audit_model.proofs.Filed.{each, each_joined, each_sealed}

-- ---- which eras are planned

abbrev IsEraUpTo : ℕ → Name → Type 0
IsEraUpTo count (names.Era e) = e ≤ count
IsEraUpTo count name = Unit {0}

node_is_no_era : (count era level index : ℕ) → IsEraUpTo count (node_name era level index)
node_is_no_era count zero level index = tt
node_is_no_era count (suc era) level index = tt

each_in_batch : (l : Layout) (n i : ℕ) → i ≤ n → All (IsEraUpTo (length (sealed_eras l n))) (batch_names l i)
unfolding batch_names sealed_eras
each_in_batch l n zero within = All-cons (IsEraUpTo (length (sealed_eras l n))) names.Header [] tt (All-nil (IsEraUpTo (length (sealed_eras l n))))
each_in_batch l n (suc tile) within =
    each_sealed (IsEraUpTo (length (sealed_eras l n))) l tile
    (λ e from below.
    let r = layouts.eras_begin l (suc tile) n within in
    let long = length-append (sealed_eras l tile) (turns l tile) in
    let all = length-append (sealed_eras l (suc tile)) r.0 in
    let same : length (sealed_eras l n) ≡ length (sealed_eras l (suc tile)) + length r.0 = ap (length {A = Era}) r.1 ∙ all in
    omega (arith, below, long, same))
    tt (λ part is. tt) (λ level index low inside. node_is_no_era (length (sealed_eras l n)) (era_of l tile) level index)

-- a planned era is one of the sealed ones
pub era_is_sealed : (l : Layout) (n e : ℕ) → Contains (planned l n) (names.Era e) → e ≤ length (sealed_eras l n)
unfolding planned
era_is_sealed l n e is =
    All-contains (IsEraUpTo (length (sealed_eras l n))) (planned l n) (names.Era e)
    (each_joined (IsEraUpTo (length (sealed_eras l n))) (batch_names l) (range_with_len 0 (n + 1))
    (each (λ i. All (IsEraUpTo (length (sealed_eras l n))) (batch_names l i)) (range_with_len 0 (n + 1)) (λ i in'. each_in_batch l n i (let r = from_range 0 (n + 1) i in' in omega (arith, r))))) is

-- ---- tests of all numbers

all_of : (p : ℕ → Bool) (a n : ℕ) → ((e : ℕ) → a ≤ e → e < a + n → p e ≡ true) → list_all p (range_with_len a n) ≡ true
all_of p a zero each = refl
all_of p a (suc n) each = and_from (p a) (list_all p (range_with_len (a + 1) n)) (each a (omega arith) (omega arith)) (all_of p (a + 1) n (λ e from below. each e (omega (arith, from)) (omega (arith, below))))

one_of_all : (p : ℕ → Bool) (a n : ℕ) → list_all p (range_with_len a n) ≡ true → (e : ℕ) → a ≤ e → e < a + n → p e ≡ true
one_of_all p a zero all e from below = absurd (omega (arith, from, below))
one_of_all p a (suc n) all e from below =
    let both = and_parts (p a) (list_all p (range_with_len (a + 1) n)) all in
    elim (cases_lt a e) [
      | inl later ↦ one_of_all p (a + 1) n both.1 e (omega (arith, later)) (omega (arith, below))
      | inr here ↦ (let same : a ≡ e = omega (arith, here, from) in subst (λ (x : ℕ). p x ≡ true) same both.0)
    ]

same_is : (a : Answer) → is_same a ≡ true → a ≡ Same
same_is Same e = refl
same_is Differs e = absurd cc
same_is Absent e = absurd cc

absent_is : (a : Answer) → is_absent a ≡ true → a ≡ Absent
absent_is Same e = absurd cc
absent_is Differs e = absurd cc
absent_is Absent e = refl

never_absent : (a b : List ℕ) → compared a b ≡ Absent → ⊥
never_absent a b e = elim (one_answer a b) [
  | inl same ↦ (let other : Same ≡ Absent = sym same.1 ∙ e in cc)
  | inr differ ↦ (let other : Differs ≡ Absent = sym differ.1 ∙ e in cc)
]

-- ---- where the eras are the notarized ones, the check holds

pub check_holds : (batches : List Batch) (id : ℕ) (h s : History) (n : ℕ) → NotaryOf batches id h n
    → sealed_eras (layout h) n ≡ sealed_eras (layout s) n
    → ((e : ℕ) → e < length (sealed_eras (layout h) n) → era_digest s (suc e) ≡ era_digest h (suc e))
    → era_check batches s n ≡ true
unfolding era_check digest
check_holds batches id h s n filed eras alike =
    let count = length (sealed_eras (layout s) n) in
    let long : length (sealed_eras (layout h) n) ≡ length (sealed_eras (layout s) n) = ap (length {A = Era}) eras in
    and_from (list_all (is_era_same batches s) (range_with_len 1 (length (sealed_eras (layout s) n)))) (is_no_era batches (length (sealed_eras (layout s) n) + 1))
    (all_of (is_era_same batches s) 1 (length (sealed_eras (layout s) n)) (λ e from below.
    let next : suc (e - 1) ≡ e = omega (arith, from) in
    let inside : e - 1 < length (sealed_eras (layout h) n) = omega (arith, from, below, long) in
    let asked : answers batches s (names.Era (suc (e - 1))) ≡ compared (era_digest s (suc (e - 1))) (era_digest h (suc (e - 1))) = compare batches id h s n (names.Era (suc (e - 1))) filed (era_planned (layout h) n (e - 1) inside) in
    subst (λ (x : ℕ). is_same (answers batches s (names.Era x)) ≡ true) next
    (elim (one_answer (era_digest s (suc (e - 1))) (era_digest h (suc (e - 1)))) [
      | inl same ↦ ap is_same (asked ∙ same.1)
      | inr other ↦ absurd (other.0 (alike (e - 1) inside))
    ])))
    (ap is_absent (asked_absent batches id h n (names.Era (length (sealed_eras (layout s) n) + 1)) no_digest filed
    (λ is. (let few = era_is_sealed (layout h) n (length (sealed_eras (layout s) n) + 1) is in omega (arith, few, long)))))

-- ---- where it holds, they are

-- two lists with equal elements are equal, but for something else
same_lists : (C : Type 0) (xs ys : List Era) → length xs ≡ length ys → ((e : ℕ) → e < length xs → (slice_get xs e ≡ slice_get ys e) ⊎ C) → (xs ≡ ys) ⊎ C
same_lists C [] [] long each = inl refl
same_lists C [] (y ∷ ys) long each = absurd (omega (arith, long))
same_lists C (x ∷ xs) [] long each = absurd (omega (arith, long))
same_lists C (x ∷ xs) (y ∷ ys) long each = elim (each 0 (omega arith)) [
  | inr c ↦ inr c
  | inl first ↦ elim (same_lists C xs ys (omega (arith, long)) (λ e below. each (suc e) (omega (arith, below)))) [
    | inr c ↦ inr c
    | inl rest ↦ inl (let head : x ≡ y = cc in cc)
  ]
]

module _ (batches : List Batch) (id : ℕ) (h s : History) (n : ℕ) (filed : NotaryOf batches id h n) (ours : HasSpelling h) (theirs : HasSpelling s) (holds : era_check batches s n ≡ true) where
  parts : (list_all (is_era_same batches s) (range_with_len 1 (length (sealed_eras (layout s) n))) ≡ true) × (is_no_era batches (length (sealed_eras (layout s) n) + 1) ≡ true)
  unfolding era_check
  parts = and_parts (list_all (is_era_same batches s) (range_with_len 1 (length (sealed_eras (layout s) n)))) (is_no_era batches (length (sealed_eras (layout s) n) + 1)) holds

  each_same : (e : ℕ) → e < length (sealed_eras (layout s) n) → answers batches s (names.Era (suc e)) ≡ Same
  each_same e below = same_is (answers batches s (names.Era (suc e))) (one_of_all (is_era_same batches s) 1 (length (sealed_eras (layout s) n)) parts.0 (suc e) (omega arith) (omega (arith, below)))

  -- each of the file's eras is a notarized one
  no_more : (e : ℕ) → e < length (sealed_eras (layout s) n) → e < length (sealed_eras (layout h) n)
  no_more e below = elim (cases_lt e (length (sealed_eras (layout h) n))) [
    | inl yes_it ↦ yes_it
    | inr past ↦ absurd
        (let none : answers batches s (names.Era (suc e)) ≡ Absent = asked_absent batches id h n (names.Era (suc e)) (digest s (names.Era (suc e))) filed (λ is. (let few = era_is_sealed (layout h) n (suc e) is in omega (arith, few, past))) in
        let other : Same ≡ Absent = sym (each_same e below) ∙ none in
        cc)
  ]

  -- and no notarized one is missing
  no_fewer : length (sealed_eras (layout s) n) < length (sealed_eras (layout h) n) → ⊥
  no_fewer fewer =
      let next : length (sealed_eras (layout s) n) + 1 ≡ suc (length (sealed_eras (layout s) n)) = omega arith in
      let absent = absent_is (answer batches (names.Era (length (sealed_eras (layout s) n) + 1)) no_digest) parts.1 in
      let known = asked_compare batches id h n (names.Era (suc (length (sealed_eras (layout s) n)))) no_digest filed (era_planned (layout h) n (length (sealed_eras (layout s) n)) fewer) in
      never_absent no_digest (digest h (names.Era (suc (length (sealed_eras (layout s) n))))) (sym known ∙ (rw next at absent))

  as_long : length (sealed_eras (layout h) n) ≡ length (sealed_eras (layout s) n)
  as_long = elim (cases_lt (length (sealed_eras (layout s) n)) (length (sealed_eras (layout h) n))) [
    | inl fewer ↦ absurd (no_fewer fewer)
    | inr enough ↦ elim (cases_lt (length (sealed_eras (layout h) n)) (length (sealed_eras (layout s) n))) [
      | inl more ↦ absurd (let inside = no_more (length (sealed_eras (layout h) n)) more in omega (arith, inside))
      | inr same ↦ omega (arith, enough, same)
    ]
  ]

  one_era : (e : ℕ) → e < length (sealed_eras (layout h) n) → (slice_get (sealed_eras (layout h) n) e ≡ slice_get (sealed_eras (layout s) n) e) ⊎ HashClash h (Some s) n
  unfolding digest inputs_of
  one_era e below =
      let long = as_long in
      let also : e < length (sealed_eras (layout s) n) = omega (arith, below, long) in
      let a = get_within (sealed_eras (layout h) n) e below in
      let b = get_within (sealed_eras (layout s) n) e also in
      let at_a : era_at (policy_of h) (suc e) ≡ Some a.0 = sealed_at h n e below ∙ a.1 in
      let at_b : era_at (policy_of s) (suc e) ≡ Some b.0 = sealed_at s n e also ∙ b.1 in
      let asked : answers batches s (names.Era (suc e)) ≡ compared (era_digest s (suc e)) (era_digest h (suc e)) = compare batches id h s n (names.Era (suc e)) filed (era_planned (layout h) n e below) in
      let alike = same_of (era_digest s (suc e)) (era_digest h (suc e)) (sym asked ∙ each_same e also) in
      elim (eras_apart h s (suc e) a.0 b.0 ours theirs at_a at_b (sym alike)) [
        | inl same ↦ inl (a.1 ∙ ap (λ (x : Era). Some x) same ∙ sym b.1)
        | inr c ↦ inr (wider (era_inputs h (suc e)) (era_inputs s (suc e)) (inputs h n) (inputs s n)
            (λ x in'. hashed_for h n (names.Era (suc e)) x (era_planned (layout h) n e below) in')
            (λ x in'. hashed_for s n (names.Era (suc e)) x (era_planned (layout s) n e also) in') c)
      ]

  -- the sealed eras are the notarized ones, or two inputs clash
  pub check_shows : (sealed_eras (layout h) n ≡ sealed_eras (layout s) n) ⊎ HashClash h (Some s) n
  check_shows = same_lists (HashClash h (Some s) n) (sealed_eras (layout h) n) (sealed_eras (layout s) n) as_long one_era

-- ---- the header's answer with it

pub both_of : (a : Answer) (b : Bool) → with_eras a b ≡ Same → (a ≡ Same) × (b ≡ true)
both_of Same true e = (refl, refl)
both_of Same false e = absurd cc
both_of Differs b e = absurd cc
both_of Absent b e = absurd cc

pub one_refused : (a : Answer) (b : Bool) → with_eras a b ≡ Differs → (a ≡ Differs) ⊎ (b ≡ false)
one_refused Same true e = absurd cc
one_refused Same false e = inr refl
one_refused Differs b e = inl refl
one_refused Absent b e = absurd cc
