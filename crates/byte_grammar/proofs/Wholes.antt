-- What follows from the law of a reader: bytes that are read as a whole, and no spelling begins another.
use Rattle.std.proofs.Common.{◌≡◌, ℕ, ◌≤◌, cond, ltb, List, [], ◌++◌, length, Option, Some, None, refl, sym, ap, subst, ◌∙◌, arith}
use Rattle.std.specs.Prelude.{MatchOption, is_some, Bool, true, false}
use Rattle.std.proofs.lemmas.Bool.{ltb-false}
use Rattle.std.proofs.lemmas.List.{append-nil, nil_from_length}
use Rattle.std.proofs.lemmas.Option.{same_Some, none-some}
use Rattle.byte_grammar.specs.Reading.{Reader, IsBytes, ◌>>=◌, rest_of, whole}
use Rattle.byte_grammar.proofs.Parts.{Reads, bind_some, else_some}

-- what all of the bytes are read as is what they spell
pub whole_takes : {A : Type 0} (r : Reader A) (s : A → List ℕ) (F : A → Type 0) → Reads r s F
    → (bytes : List ℕ) (a : A) → IsBytes bytes → whole r bytes ≡ Some a → F a × (bytes ≡ s a)
unfolding whole
whole_takes {A} r s F law bytes a fits e =
    let t = bind_some (r bytes) (λ x. cond (ltb 0 (length x.1)) None (Some x.0)) a e in
    let g = else_some (ltb 0 (length t.0.1)) t.0.0 a t.2 in
    let none : t.0.1 ≡ [] = nil_from_length t.0.1 (let le : length t.0.1 ≤ 0 = ltb-false _ _ g.0 in omega arith) in
    let taken = law.takes bytes t.0.0 t.0.1 fits t.1 in
    subst (λ (x : A). F x × (bytes ≡ s x)) g.1 (taken.1, taken.0 ∙ ap (λ (x : List ℕ). s t.0.0 ++ x) none ∙ append-nil (s t.0.0))

-- what they spell is read
pub whole_again : {A : Type 0} (r : Reader A) (s : A → List ℕ) (F : A → Type 0) → Reads r s F
    → (bytes : List ℕ) (a : A) → F a × (bytes ≡ s a) → whole r bytes ≡ Some a
unfolding whole
whole_again r s F law bytes a spelled =
    let all : bytes ≡ s a ++ [] = spelled.1 ∙ sym (append-nil (s a)) in
    rw (all, law.again a [] spelled.0) refl

-- the answer is the value that is spelled, or none where none is
pub whole_spelled : {A : Type 0} (r : Reader A) (s : A → List ℕ) (F : A → Type 0) → Reads r s F
    → (bytes : List ℕ) (found : Option A) → IsBytes bytes → found ≡ whole r bytes → MatchOption found ((a : A) → F a × (bytes ≡ s a) → ⊥) (λ a. F a × (bytes ≡ s a))
whole_spelled r s F law bytes None fits e = λ a spelled. none-some a (e ∙ whole_again r s F law bytes a spelled)
whole_spelled r s F law bytes (Some a) fits e = whole_takes r s F law bytes a fits (sym e)

-- something is read exactly where something is spelled
pub whole_some : {A : Type 0} (r : Reader A) (s : A → List ℕ) (F : A → Type 0) → Reads r s F
    → (bytes : List ℕ) → IsBytes bytes → is_some (whole r bytes) ≡ true → (a : A) × F a × (bytes ≡ s a)
whole_some {A} r s F law bytes fits e = from (whole r bytes) refl e
  where
    from : (o : Option A) → whole r bytes ≡ o → is_some o ≡ true → (a : A) × F a × (bytes ≡ s a)
    from (Some a) eq h = let t = whole_takes r s F law bytes a fits eq in (a, t.0, t.1)
    from None eq h = absurd cc

-- no spelling begins another
pub apart : {A : Type 0} (r : Reader A) (s : A → List ℕ) (F : A → Type 0) → Reads r s F
    → (a b : A) (x y : List ℕ) → F a → F b → s a ++ x ≡ s b ++ y → (a ≡ b) × (x ≡ y)
apart {A} r s F law a b x y fa fb e =
    let one : A × List ℕ = (a, x) in
    let other : A × List ℕ = (b, y) in
    let same : one ≡ other = same_Some one other (sym (law.again a x fa) ∙ ap r e ∙ law.again b y fb) in
    (ap (λ (p : A × List ℕ). p.0) same, ap (λ (p : A × List ℕ). p.1) same)

-- whether all is read is seen from the rest
pub is_some-whole : {A : Type 0} (r : Reader A) (bytes : List ℕ) → is_some (whole r bytes) ≡ is_some (rest_of (r bytes) >>= λ rest. cond (ltb 0 (length rest)) None (Some rest))
unfolding whole
is_some-whole {A} r bytes = by (r bytes)
  where
    last : (a : A × List ℕ) (b : Bool) → is_some (cond b None (Some a.0)) ≡ is_some (cond b None (Some a.1))
    last a true = refl
    last a false = refl

    by : (o : Option (A × List ℕ)) → is_some (o >>= λ a. cond (ltb 0 (length a.1)) None (Some a.0)) ≡ is_some (rest_of o >>= λ rest. cond (ltb 0 (length rest)) None (Some rest))
    by None = refl
    by (Some a) = last a (ltb 0 (length a.1))
