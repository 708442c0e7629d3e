-- What a notary that holds h's batches answers.
use Rattle.std.proofs.Common.{◌≡◌, ℕ, ◌+◌, List, [], ◌∷◌, ◌++◌, length, map, refl, sym, ap, subst, ◌∙◌, ◌⊎◌, inl, inr, Option, Some, None}
use Rattle.std.specs.Prelude.{nat_eq}
use Rattle.std.specs.List.{Contains, flat_map, find, range_with_len}
use lib.Pointwise.{pointwise, bytes_decides}
use Rattle.std.proofs.lemmas.Bool.{cases_Bool, false≢true}
use Rattle.std.proofs.lemmas.List.{length-map, map-append}
use Rattle.std.proofs.lemmas.List.FromFn.{length-range_with_len}
use Rattle.std.proofs.lemmas.List.Folds.{flat_map-map}
use Rattle.notary_link.specs.declared.name.Name.{Name}
use Rattle.notary_link.specs.declared.seal.Seal.{Seal}
use Rattle.notary_link.specs.declared.answer.Answer.TheVariants.{Same, Differs, Absent}
use Rattle.history_model.specs.History.{History}
use Rattle.notary_link.specs.Batches.{Batch, same_name, filed, compared, answer_by, answer}
use Rattle.notary_link.proofs.Names.{same_is}
use Rattle.digest_model.specs.Layout.{layout}
use Rattle.notary_link.proofs.Names.{same_is, is_itself}
use Rattle.audit_model.specs.Laws.{AnswersCompare, BatchesAreCounted, NotarizedIsSame, OthersAreAbsent}
use Rattle.audit_model.specs.Names.{batch_names, planned, digest, seal, batch}
use Rattle.audit_model.specs.Notary.{NotaryOf, answers}
use Rattle.digest_model.proofs.Members.{here, there}
use Rattle.digest_model.proofs.Lists.{one_of, none_of}

found_seal : (h : History) (all : List Name) (name : Name) → Contains all name → find (λ (s : Seal). same_name s.name name) (map (seal h) all) ≡ Some (seal h name)
found_seal h [] name is = absurd (none_of name is)
found_seal h (m ∷ ms) name is = elim (cases_Bool (same_name m name)) [
  | inl yes_it ↦ rw yes_it (ap (λ (x : Name). Some (seal h x)) (same_is m name yes_it))
  | inr no_it ↦ rw no_it (found_seal h ms name (elim (one_of m name ms is) [
    | inl e ↦ absurd (false≢true (sym no_it ∙ ap (λ (x : Name). same_name x name) e ∙ is_itself name))
    | inr rest ↦ rest
  ]))
]

no_seal : (h : History) (all : List Name) (name : Name) → (Contains all name → ⊥) → find (λ (s : Seal). same_name s.name name) (map (seal h) all) ≡ None
no_seal h [] name is = refl
no_seal h (m ∷ ms) name is = elim (cases_Bool (same_name m name)) [
  | inl yes_it ↦ absurd (is (subst (λ (x : Name). Contains (m ∷ ms) x) (same_is m name yes_it) (here m ms)))
  | inr no_it ↦ rw no_it (no_seal h ms name (λ in'. is (there m name ms in')))
]

-- a seal of the name is the history's
own_or_none : (h : History) (all : List Name) (name : Name)
    → (find (λ (s : Seal). same_name s.name name) (map (seal h) all) ≡ Some (seal h name)) ⊎ (find (λ (s : Seal). same_name s.name name) (map (seal h) all) ≡ None)
own_or_none h [] name = inr refl
own_or_none h (m ∷ ms) name = elim (cases_Bool (same_name m name)) [
  | inl yes_it ↦ inl (rw yes_it (ap (λ (x : Name). Some (seal h x)) (same_is m name yes_it)))
  | inr no_it ↦ rw no_it (own_or_none h ms name)
]

mapped_parts : {A B C : Type 0} (f : B → C) (g : A → List B) (xs : List A) → flat_map (λ x. map f (g x)) xs ≡ map f (flat_map g xs)
mapped_parts f g [] = refl
mapped_parts f g (x ∷ xs) = ap (λ ys. map f (g x) ++ ys) (mapped_parts f g xs) ∙ sym (map-append f (g x) (flat_map g xs))

all_seals : (batches : List Batch) (id : ℕ) (h : History) (n : ℕ) → NotaryOf batches id h n → flat_map (λ (b : Batch). b.seals) batches ≡ map (seal h) (planned (layout h) n)
unfolding planned batch
all_seals batches id h n is =
    sym (flat_map-map (λ (xs : List Seal). xs) (λ (b : Batch). b.seals) batches)
    ∙ ap (flat_map (λ (xs : List Seal). xs)) is.seals
    ∙ flat_map-map (λ (xs : List Seal). xs) (λ i. map (seal h) (batch_names (layout h) i)) (range_with_len 0 (n + 1))
    ∙ mapped_parts (seal h) (batch_names (layout h)) (range_with_len 0 (n + 1))

-- of whatever digest
pub asked_compare : (batches : List Batch) (id : ℕ) (h : History) (n : ℕ) (name : Name) (ours : List ℕ) → NotaryOf batches id h n
    → Contains (planned (layout h) n) name → answer batches name ours ≡ compared ours (digest h name)
unfolding filed answer
asked_compare batches id h n name ours is in' =
    ap (λ (o : Option Seal). answer_by o ours)
    (ap (find (λ (x : Seal). same_name x.name name)) (all_seals batches id h n is) ∙ found_seal h (planned (layout h) n) name in')

pub asked_absent : (batches : List Batch) (id : ℕ) (h : History) (n : ℕ) (name : Name) (ours : List ℕ) → NotaryOf batches id h n
    → (Contains (planned (layout h) n) name → ⊥) → answer batches name ours ≡ Absent
unfolding filed answer
asked_absent batches id h n name ours is out' =
    ap (λ (o : Option Seal). answer_by o ours)
    (ap (find (λ (x : Seal). same_name x.name name)) (all_seals batches id h n is) ∙ no_seal h (planned (layout h) n) name out')

pub compare : AnswersCompare
compare batches id h s n name is in' = asked_compare batches id h n name (digest s name) is in'

pub absent : OthersAreAbsent
absent batches id h s n name is out' = asked_absent batches id h n name (digest s name) is out'

-- a name is answered by comparing the two digests, or is absent
pub compared_or_absent : (batches : List Batch) (id : ℕ) (h s : History) (n : ℕ) (name : Name) → NotaryOf batches id h n
    → (answers batches s name ≡ compared (digest s name) (digest h name)) ⊎ (answers batches s name ≡ Absent)
unfolding filed answer
compared_or_absent batches id h s n name is =
    let all = ap (find (λ (x : Seal). same_name x.name name)) (all_seals batches id h n is) in
    elim (own_or_none h (planned (layout h) n) name) [
      | inl own ↦ inl (ap (λ (o : Option Seal). answer_by o (digest s name)) (all ∙ own))
      | inr none ↦ inr (ap (λ (o : Option Seal). answer_by o (digest s name)) (all ∙ none))
    ]

pub same_of : (a b : List ℕ) → compared a b ≡ Same → a ≡ b
same_of a b e = elim (cases_Bool (pointwise nat_eq a b)) [
  | inl yes_it ↦ (bytes_decides a b).0 yes_it
  | inr no_it ↦ absurd (let other : Differs ≡ Same = rw no_it at e in cc)
]

pub differs_of : (a b : List ℕ) → compared a b ≡ Differs → a ≡ b → ⊥
differs_of a b e f = (let yes_it = (bytes_decides a b).1 f in let other : Same ≡ Differs = rw yes_it at e in cc)

-- two digests are compared as the same or as different
pub one_answer : (a b : List ℕ) → ((a ≡ b) × (compared a b ≡ Same)) ⊎ ((a ≡ b → ⊥) × (compared a b ≡ Differs))
one_answer a b = elim (cases_Bool (pointwise nat_eq a b)) [
  | inl yes_it ↦ inl ((bytes_decides a b).0 yes_it, rw yes_it refl)
  | inr no_it ↦ inr ((λ e. false≢true (sym no_it ∙ (bytes_decides a b).1 e)), rw no_it refl)
]

pub own_same : NotarizedIsSame
own_same batches id s n name is in' = compare batches id s s n name is in' ∙ elim (one_answer (digest s name) (digest s name)) [
  | inl same ↦ same.1
  | inr other ↦ absurd (other.0 refl)
]

pub counted : BatchesAreCounted
counted batches id h n is =
    sym (length-map batches (λ (b : Batch). b.seals))
    ∙ ap (λ (l : List (List Seal)). length l) is.seals
    ∙ length-map (range_with_len 0 (n + 1)) (batch h)
    ∙ length-range_with_len 0 (n + 1)
