-- What the answers for the header and for the eras of the sealed tiles show of a history.
use Rattle.std.proofs.Common.{◌≡◌, ◌⊎◌, inl, inr, ℕ, zero, suc, ◌+◌, ◌-◌, ◌<◌, ◌≤◌, Bool, true, false, List, length, refl, sym, ap, subst, ◌∙◌, arith}
use Rattle.std.specs.Prelude.{◌&&◌}
use Rattle.std.specs.List.{list_all, range_with_len}
use Rattle.std.proofs.lemmas.Bool.{cases_lt, and_parts, and_from}
use Rattle.tuple_bytes.specs.declared.header.Header.{Header}
use Rattle.history_model.specs.History.{History}
use Rattle.digest_model.specs.Layout.{Layout, Policy, policy_of, layout_by, layout, sealed_eras}
use Rattle.digest_model.specs.Digests.{header_digest, era_digest, no_digest}
use Rattle.policy_eras.proofs.Histories.{layout_is}
use Rattle.notary_link.specs.declared.answer.Answer.{Answer}
use Rattle.notary_link.specs.declared.answer.Answer.TheVariants.{Same}
use Rattle.notary_link.specs.declared.name.Name.TheVariants as names
use Rattle.notary_link.specs.Batches.{Batch, answer}
use Rattle.audit_model.specs.Names.{digest}
use Rattle.audit_model.specs.Notary.{is_same, is_era_same, is_no_era, with_eras, era_check, header_answer}
use Rattle.validator.specs.Steps.{are_eras}

-- ---- tests of all numbers

and_false : (a b : Bool) → b ≡ false → (a && b) ≡ false
and_false true b fails = fails
and_false false b fails = refl

-- one more number passes
one_more : (p : ℕ → Bool) (a n j : ℕ) → a + n ≡ j → list_all p (range_with_len a n) ≡ true → p j ≡ true → list_all p (range_with_len a (suc n)) ≡ true
one_more p a zero j is all here = (let same : j ≡ a = omega (arith, is) in and_from (p a) true (subst (λ (x : ℕ). p x ≡ true) same here) refl)
one_more p a (suc n) j is all here =
    let both = and_parts (p a) (list_all p (range_with_len (a + 1) n)) all in
    and_from (p a) (list_all p (range_with_len (a + 1) (suc n))) both.0 (one_more p (a + 1) n j (omega (arith, is)) both.1 here)

-- one number fails
one_fails : (p : ℕ → Bool) (a n j : ℕ) → a ≤ j → j < a + n → p j ≡ false → list_all p (range_with_len a n) ≡ false
one_fails p a zero j from below fails = absurd (omega (arith, from, below))
one_fails p a (suc n) j from below fails = elim (cases_lt a j) [
  | inl later ↦ and_false (p a) (list_all p (range_with_len (a + 1) n)) (one_fails p (a + 1) n j (omega (arith, later)) (omega (arith, below)) fails)
  | inr here ↦ (let same : j ≡ a = omega (arith, here, from) in ap (λ (b : Bool). b && list_all p (range_with_len (a + 1) n)) (subst (λ (x : ℕ). p x ≡ false) same fails))
]

-- ---- the eras

module _ (eras : Policy) where
  -- the eras of the first numbers from 1 on are the same
  abbrev pub AreSame : ℕ → List Batch → Type 0
  AreSame n batches = (h : History) → eras ≡ policy_of h → list_all (is_era_same batches h) (range_with_len 1 n) ≡ true

  -- whether all of them are
  abbrev pub AllAre : ℕ → Bool → List Batch → Type 0
  AllAre n b batches = (h : History) → eras ≡ policy_of h → b ≡ list_all (is_era_same batches h) (range_with_len 1 n)

  -- whether that of a number is
  abbrev pub OneIs : ℕ → Bool → List Batch → Type 0
  OneIs number b batches = (h : History) → eras ≡ policy_of h → b ≡ is_era_same batches h number

  pub same_more : (number : ℕ) (batches : List Batch) → 1 ≤ number → AreSame (number - 1) batches → OneIs number true batches → AreSame (number + 1 - 1) batches
  same_more number batches some all here h is =
      let next : suc (number - 1) ≡ number + 1 - 1 = omega (arith, some) in
      subst (λ (n : ℕ). list_all (is_era_same batches h) (range_with_len 1 n) ≡ true) next
      (one_more (is_era_same batches h) 1 (number - 1) number (omega (arith, some)) (all h is) (sym (here h is)))

  pub not_same : (number sealed : ℕ) (batches : List Batch) → 1 ≤ number → number < sealed + 1 → OneIs number false batches → AllAre sealed false batches
  not_same number sealed batches some below here h is = sym (one_fails (is_era_same batches h) 1 sealed number some (omega (arith, below)) (sym (here h is)))

  pub all_same : (number sealed : ℕ) (batches : List Batch) → number ≡ sealed + 1 → AreSame (number - 1) batches → AllAre sealed true batches
  all_same number sealed batches is all h policy =
      let e : number - 1 ≡ sealed = omega (arith, is) in
      sym (subst (λ (n : ℕ). list_all (is_era_same batches h) (range_with_len 1 n) ≡ true) e (all h policy))

  -- what they come to
  abbrev pub ErasShow : ℕ → Answer → List Batch → Type 0
  ErasShow sealed a batches = (h : History) → eras ≡ policy_of h → a ≡ with_eras Same (are_eras batches h sealed)

  pub eras_differ : (sealed : ℕ) (batches : List Batch) → AllAre sealed false batches → ErasShow sealed (with_eras Same false) batches
  eras_differ sealed batches all h is = ap (λ (b : Bool). with_eras Same (b && is_no_era batches (sealed + 1))) (all h is)

  pub eras_by_next : (sealed : ℕ) (b : Bool) (batches : List Batch) → AllAre sealed true batches → b ≡ is_no_era batches (sealed + 1) → ErasShow sealed (with_eras Same b) batches
  eras_by_next sealed b batches all next h is = ap (with_eras Same) next ∙ ap (λ (b : Bool). with_eras Same (b && is_no_era batches (sealed + 1))) (all h is)

-- the era of a number, by its digest
pub era_is : (batches : List Batch) (h : History) (number : ℕ) (ours : List ℕ) (a : Answer) → ours ≡ era_digest h number → a ≡ answer batches (names.Era number) ours → is_same a ≡ is_era_same batches h number
unfolding digest
era_is batches h number ours a is answered = ap is_same (answered ∙ ap (answer batches (names.Era number)) is)

-- ---- with the header

module _ (header : Header) (eras : Policy) (tiles sealed : ℕ) (count : sealed ≡ length (sealed_eras (layout_by eras) tiles)) where
  -- what the answer for the header shows of these tiles
  abbrev pub HeaderShows : Answer → List Batch → Type 0
  HeaderShows a batches = (h : History) → h.header ≡ header → eras ≡ policy_of h → a ≡ header_answer batches h tiles

  pub shown_by : (batches : List Batch) (ours : List ℕ) (a : Answer) (h : History) → ours ≡ header_digest header → h.header ≡ header → eras ≡ policy_of h → a ≡ answer batches names.Header ours
      → with_eras a (are_eras batches h sealed) ≡ header_answer batches h tiles
  unfolding header_answer era_check digest
  shown_by batches ours a h is under policy answered =
      let digests : ours ≡ header_digest h.header = is ∙ ap header_digest (sym under) in
      let many : sealed ≡ length (sealed_eras (layout h) tiles) = count ∙ ap (λ (l : Layout). length (sealed_eras l tiles)) (layout_is h policy) in
      ap (λ (x : Answer). with_eras x (are_eras batches h sealed)) (answered ∙ ap (answer batches names.Header) digests)
      ∙ ap (λ (n : ℕ). with_eras (answer batches names.Header (header_digest h.header)) (are_eras batches h n)) many

  -- where it is not the same the eras don't matter
  pub shown_at : (batches : List Batch) (ours : List ℕ) (a : Answer) → ours ≡ header_digest header → ((b : Bool) → with_eras a b ≡ a) → a ≡ answer batches names.Header ours → HeaderShows a batches
  shown_at batches ours a is alone answered h under policy = sym (alone (are_eras batches h sealed)) ∙ shown_by batches ours a h is under policy answered
