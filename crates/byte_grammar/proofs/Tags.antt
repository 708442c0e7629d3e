-- Readers that go by the first byte.
use Rattle.std.proofs.Common.{◌≡◌, ℕ, suc, List, [], ◌∷◌, ◌++◌, Option, Some, refl, subst}
use Rattle.std.proofs.lemmas.Option.{same_Some}
use Rattle.byte_grammar.specs.Reading.{Reader, IsBytes, tagged}

-- what a tag and the bytes behind it give
pub record Goes {A : Type 0} (tag : ℕ) (bytes : List ℕ) (spell : A → List ℕ) (Fits : A → Type 0) (a : A) (rest : List ℕ) : Type 0 where
  pub parts : tag ∷ bytes ≡ spell a ++ rest
  pub fits : Fits a

pub after_tag : {A : Type 0} (tag : ℕ) (bytes : List ℕ) (spell : A → List ℕ) (Fits : A → Type 0) (x a : A) (rest : List ℕ) → x ≡ a → tag ∷ bytes ≡ spell x ++ rest → Fits x → Goes tag bytes spell Fits a rest
after_tag tag bytes spell Fits x a rest e p f = subst (λ y. Goes tag bytes spell Fits y rest) e (record { parts = p; fits = f })

-- a value that takes no bytes behind its tag
abbrev pub ended : {A : Type 0} → A → List ℕ → Option (A × List ℕ)
ended x bytes = Some (x, bytes)

pub bare : {A : Type 0} (tag : ℕ) (bytes : List ℕ) (spell : A → List ℕ) (Fits : A → Type 0) (x a : A) (rest : List ℕ) → ended x bytes ≡ ended a rest → spell x ≡ tag ∷ [] → Fits x → Goes tag bytes spell Fits a rest
bare {A} tag bytes spell Fits x a rest e s f =
    let found : A × List ℕ = (x, bytes) in
    subst (λ (y : A × List ℕ). Goes tag bytes spell Fits y.0 y.1) (same_Some found (a, rest) e) (record { parts = rw s refl; fits = f })

rest_bytes : (b : ℕ) (bytes : List ℕ) → IsBytes (b ∷ bytes) → IsBytes bytes
rest_bytes b bytes h i = h (suc i)

-- what is read by each tag is spelled so
pub tagged_takes : {A : Type 0} (f : ℕ → Reader A) (spell : A → List ℕ) (Fits : A → Type 0)
    → ((tag : ℕ) (bytes : List ℕ) (a : A) (rest : List ℕ) → IsBytes bytes → f tag bytes ≡ Some (a, rest) → Goes tag bytes spell Fits a rest)
    → (bytes : List ℕ) (a : A) (rest : List ℕ) → IsBytes bytes → tagged f bytes ≡ Some (a, rest) → (bytes ≡ spell a ++ rest) × Fits a
unfolding tagged
tagged_takes f spell Fits by [] a rest fits e = absurd cc
tagged_takes f spell Fits by (b ∷ bytes) a rest fits e = let g = by b bytes a rest (rest_bytes b bytes fits) e in (g.parts, g.fits)
