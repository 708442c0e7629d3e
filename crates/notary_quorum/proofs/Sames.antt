-- What is found to be the same is the same.
use Rattle.std.proofs.Common.{◌≡◌, ◌==◌, ◌&&◌, ◌<◌, ◌≤◌, ◌⊎◌, inl, inr, ℕ, zero, suc, nat_eq, Bool, true, false, List, Option, None, Some, refl, ap, subst, ◌∙◌, arith}
use Rattle.std.specs.Bool.{Decides}
use Rattle.std.specs.Cmp.Lexicographic.{pointwise}
use Rattle.std.specs.Option.{option_eq}
use Rattle.std.proofs.lemmas.Bool.{eqb-true, cases_lt}
use Rattle.std.proofs.lemmas.Bool.Decides.{Decides-eqb}
use Rattle.std.proofs.lemmas.Slice.Eq.{slice_eq-Decides}
use Rattle.notary_link.specs.declared.answer.Answer.{Answer}
use Rattle.notary_link.specs.declared.answer.Answer.TheVariants.{Same, Differs, Absent}
use Rattle.notary_link.specs.declared.mark.Mark.{Mark}
use Rattle.notary_link.specs.declared.mark.Outcome.{Outcome}
use Rattle.notary_link.specs.declared.mark.Outcome.TheVariants.{Clean, Altered, HeaderAltered}
use Rattle.notary_link.specs.declared.name.Name.{Name}
use Rattle.notary_link.specs.declared.seal.Seal.{Seal}
use Rattle.notary_link.specs.Batches.{Batch, same_name}
use Rattle.notary_link.specs.Notary.{Lists}
use Rattle.notary_link.proofs.Names.{same_is, is_itself}
use Rattle.notary_quorum.specs.declared.said.Said.{Said}
use Rattle.notary_quorum.specs.declared.said.Said.TheVariants.{Count, Asked, Moment, MarkAt, Done, OutOfTurn, Full, Failed, NoMemory}
use Rattle.notary_quorum.specs.Agreement.{same_seal, same_batch, same_under, same_below}
use Rattle.notary_quorum.specs.Sayings.{same_answer, same_outcome, same_mark, same_said}

pub both : (a b : Bool) → (a && b) ≡ true → (a ≡ true) × (b ≡ true)
both true true e = (refl, refl)
both true false e = absurd cc
both false b e = absurd cc

pub and_both : (a b : Bool) → a ≡ true → b ≡ true → (a && b) ≡ true
and_both a b p q = rw (p, q) refl

own_number : (n : ℕ) → (n == n) ≡ true
own_number n = (Decides-eqb n n).1 refl

-- ---- Answers

answer_is : (a b : Answer) → same_answer a b ≡ true → a ≡ b
answer_is Same Same e = refl
answer_is Differs Differs e = refl
answer_is Absent Absent e = refl
answer_is _ _ e = absurd cc

own_answer : (a : Answer) → same_answer a a ≡ true
own_answer Same = refl
own_answer Differs = refl
own_answer Absent = refl

outcome_is : (a b : Outcome) → same_outcome a b ≡ true → a ≡ b
outcome_is Clean Clean e = refl
outcome_is (Altered n) (Altered m) e = ap Altered (eqb-true n m e)
outcome_is HeaderAltered HeaderAltered e = refl
outcome_is _ _ e = absurd cc

own_outcome : (a : Outcome) → same_outcome a a ≡ true
own_outcome Clean = refl
own_outcome (Altered n) = own_number n
own_outcome HeaderAltered = refl

abbrev mark_of : ℕ → ℕ → Outcome → Mark
mark_of m t o = record { moment = m; tiles = t; outcome = o }

mark_is : (a b : Mark) → same_mark a b ≡ true → a ≡ b
mark_is a b e =
    let h = both ((a.moment == b.moment) && (a.tiles == b.tiles)) (same_outcome a.outcome b.outcome) e in
    let k = both (a.moment == b.moment) (a.tiles == b.tiles) h.0 in
    ap (λ (m : ℕ). mark_of m a.tiles a.outcome) (eqb-true a.moment b.moment k.0)
    ∙ ap (λ (t : ℕ). mark_of b.moment t a.outcome) (eqb-true a.tiles b.tiles k.1)
    ∙ ap (mark_of b.moment b.tiles) (outcome_is a.outcome b.outcome h.1)

own_mark : (a : Mark) → same_mark a a ≡ true
own_mark a = and_both ((a.moment == a.moment) && (a.tiles == a.tiles)) (same_outcome a.outcome a.outcome) (and_both (a.moment == a.moment) (a.tiles == a.tiles) (own_number a.moment) (own_number a.tiles)) (own_outcome a.outcome)

module _ {A : Type 0} (E : A → A → Bool) (is : (a b : A) → E a b ≡ true → a ≡ b) (own : (a : A) → E a a ≡ true) where
  option_is : (a b : Option A) → option_eq E a b ≡ true → a ≡ b
  option_is None None e = refl
  option_is None (Some y) e = absurd cc
  option_is (Some x) None e = absurd cc
  option_is (Some x) (Some y) e = ap Some (is x y e)

  own_option : (a : Option A) → option_eq E a a ≡ true
  own_option None = refl
  own_option (Some x) = own x

  decides : (a b : A) → Decides (E a b) (a ≡ b)
  decides a b = (is a b, λ e. subst (λ (x : A). E a x ≡ true) e (own a))

  list_decides : (xs ys : List A) → Decides (pointwise E xs ys) (xs ≡ ys)
  list_decides xs ys = slice_eq-Decides decides xs ys (pointwise E xs ys) refl

pub said_is : (a b : Said) → same_said a b ≡ true → a ≡ b
said_is (Count n) (Count m) e = ap Count (eqb-true n m e)
said_is (Asked a) (Asked b) e = ap Asked (answer_is a b e)
said_is (Moment a) (Moment b) e = ap Moment (option_is nat_eq eqb-true own_number a b e)
said_is (MarkAt a) (MarkAt b) e = ap MarkAt (option_is same_mark mark_is own_mark a b e)
said_is Done Done e = refl
said_is (OutOfTurn n) (OutOfTurn m) e = ap OutOfTurn (eqb-true n m e)
said_is Full Full e = refl
said_is Failed Failed e = refl
said_is NoMemory NoMemory e = refl
said_is _ _ e = absurd cc

pub own_said : (a : Said) → same_said a a ≡ true
own_said (Count n) = own_number n
own_said (Asked a) = own_answer a
own_said (Moment a) = own_option nat_eq eqb-true own_number a
own_said (MarkAt a) = own_option same_mark mark_is own_mark a
own_said Done = refl
own_said (OutOfTurn n) = own_number n
own_said Full = refl
own_said Failed = refl
own_said NoMemory = refl

-- ---- Batches

abbrev seal_of : Name → List ℕ → Seal
seal_of n d = record { name = n; digest = d }

seal_is : (a b : Seal) → same_seal a b ≡ true → a ≡ b
seal_is a b e =
    let h = both (same_name a.name b.name) (pointwise nat_eq a.digest b.digest) e in
    ap (λ (n : Name). seal_of n a.digest) (same_is a.name b.name h.0) ∙ ap (seal_of b.name) ((list_decides nat_eq eqb-true own_number a.digest b.digest).0 h.1)

own_seal : (a : Seal) → same_seal a a ≡ true
own_seal a = and_both (same_name a.name a.name) (pointwise nat_eq a.digest a.digest) (is_itself a.name) ((list_decides nat_eq eqb-true own_number a.digest a.digest).1 refl)

abbrev batch_of : ℕ → List Seal → Batch
batch_of m s = record { moment = m; seals = s }

batch_is : (a b : Batch) → same_batch a b ≡ true → a ≡ b
batch_is a b e =
    let h = both (a.moment == b.moment) (pointwise same_seal a.seals b.seals) e in
    ap (λ (m : ℕ). batch_of m a.seals) (eqb-true a.moment b.moment h.0) ∙ ap (batch_of b.moment) ((list_decides same_seal seal_is own_seal a.seals b.seals).0 h.1)

own_batch : (a : Batch) → same_batch a a ≡ true
own_batch a = and_both (a.moment == a.moment) (pointwise same_seal a.seals a.seals) (own_number a.moment) ((list_decides same_seal seal_is own_seal a.seals a.seals).1 refl)

-- ---- Lists

module _ (a b : Lists) where
  pub under_is : (id : ℕ) → same_under a b id ≡ true → (a.batches id ≡ b.batches id) × (a.marks id ≡ b.marks id)
  under_is id e =
      let h = both (pointwise same_batch (a.batches id) (b.batches id)) (pointwise same_mark (a.marks id) (b.marks id)) e in
      ((list_decides same_batch batch_is own_batch (a.batches id) (b.batches id)).0 h.0, (list_decides same_mark mark_is own_mark (a.marks id) (b.marks id)).0 h.1)

  under_from : (id : ℕ) → a.batches id ≡ b.batches id → a.marks id ≡ b.marks id → same_under a b id ≡ true
  under_from id p q = and_both (pointwise same_batch (a.batches id) (b.batches id)) (pointwise same_mark (a.marks id) (b.marks id)) ((list_decides same_batch batch_is own_batch (a.batches id) (b.batches id)).1 p) ((list_decides same_mark mark_is own_mark (a.marks id) (b.marks id)).1 q)

  pub below_is : (n : ℕ) → same_below a b n ≡ true → (id : ℕ) → id < n → same_under a b id ≡ true
  unfolding same_below
  below_is zero e id less = absurd (omega (arith, less))
  below_is (suc n) e id less = by (cases_lt id n) (both (same_under a b n) (same_below a b n) e) (λ rest lt. below_is n rest id lt)
    where
      by : (id < n) ⊎ (n ≤ id) → (same_under a b n ≡ true) × (same_below a b n ≡ true) → (same_below a b n ≡ true → id < n → same_under a b id ≡ true) → same_under a b id ≡ true
      by (inl lt) h before = before h.1 lt
      by (inr le) h before =
          let is : n ≡ id = omega (arith, less, le) in
          subst (λ (k : ℕ). same_under a b k ≡ true) is h.0

  pub below_from : (n : ℕ) → ((id : ℕ) → id < n → (a.batches id ≡ b.batches id) × (a.marks id ≡ b.marks id)) → same_below a b n ≡ true
  unfolding same_below
  below_from zero same = refl
  below_from (suc n) same =
      let here = same n (omega arith) in
      and_both (same_under a b n) (same_below a b n) (under_from n here.0 here.1) (below_from n (λ id less. same id (omega (arith, less))))
