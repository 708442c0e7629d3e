-- Going over what is not kept: the bytes behind a reader.
use Rattle.std.proofs.Common.{◌≡◌, ℕ, suc, ◌-◌, ◌+◌, ◌<◌, ◌≤◌, List, ◌∷◌, Option, Some, None, refl, sym, ◌∙◌, arith}
use Rattle.byte_grammar.specs.Reading.{Reader, ◌>>=◌, rest_of, seq, mapped, many}

pub rest_of-mapped : {A B : Type 0} (f : A → B) (r : Reader A) (bytes : List ℕ) → rest_of (mapped f r bytes) ≡ rest_of (r bytes)
unfolding mapped
rest_of-mapped {A} {B} f r bytes = by (r bytes)
  where
    by : (o : Option (A × List ℕ)) → rest_of {A = B} (o >>= λ a. Some (f a.0, a.1)) ≡ rest_of o
    by (Some a) = refl
    by None = refl

pub rest_of-seq : {A B : Type 0} (ra : Reader A) (rb : Reader B) (bytes : List ℕ) → rest_of (seq ra rb bytes) ≡ (rest_of (ra bytes) >>= λ mid. rest_of (rb mid))
unfolding seq
rest_of-seq {A} {B} ra rb bytes = by (ra bytes)
  where
    last : (a : A × List ℕ) (o : Option (B × List ℕ)) → rest_of {A = A × B} (o >>= λ b. Some ((a.0, b.0), b.1)) ≡ rest_of o
    last a (Some b) = refl
    last a None = refl

    by : (o : Option (A × List ℕ)) → rest_of {A = A × B} (o >>= λ a. rb a.1 >>= λ b. Some ((a.0, b.0), b.1)) ≡ (rest_of o >>= λ mid. rest_of (rb mid))
    by (Some a) = last a (rb a.1)
    by None = refl

rest_of-many_suc : {A : Type 0} (r : Reader A) (n : ℕ) (bytes : List ℕ) → rest_of (many r (suc n) bytes) ≡ (rest_of (r bytes) >>= λ mid. rest_of (many r n mid))
unfolding many
rest_of-many_suc {A} r n bytes = by (r bytes)
  where
    last : (a : A × List ℕ) (o : Option (List A × List ℕ)) → rest_of {A = List A} (o >>= λ others. Some (a.0 ∷ others.0, others.1)) ≡ rest_of o
    last a (Some b) = refl
    last a None = refl

    by : (o : Option (A × List ℕ)) → rest_of {A = List A} (o >>= λ first. many r n first.1 >>= λ others. Some (first.0 ∷ others.0, others.1)) ≡ (rest_of o >>= λ mid. rest_of (many r n mid))
    by (Some a) = last a (many r n a.1)
    by None = refl

-- a turn of a loop that goes over as many as n
pub many_goes : {A : Type 0} (r : Reader A) (n i : ℕ) (bytes rest : List ℕ) (all : Option (List ℕ)) → i < n → rest_of (r bytes) ≡ Some rest
    → rest_of (many r (n - i) bytes) ≡ all → rest_of (many r (n - (i + 1)) rest) ≡ all
many_goes r n i bytes rest all lt here so_far =
    let k : n - i ≡ suc (n - (i + 1)) = omega arith in
    let one : rest_of (many r (n - i) bytes) ≡ rest_of (many r (n - (i + 1)) rest) = rw (k, rest_of-many_suc r (n - (i + 1)) bytes, here) refl in
    sym one ∙ so_far

pub many_fails : {A : Type 0} (r : Reader A) (n i : ℕ) (bytes : List ℕ) (all : Option (List ℕ)) → i < n → rest_of (r bytes) ≡ None
    → rest_of (many r (n - i) bytes) ≡ all → all ≡ None
many_fails r n i bytes all lt here so_far =
    let k : n - i ≡ suc (n - (i + 1)) = omega arith in
    let one : rest_of (many r (n - i) bytes) ≡ None = rw (k, rest_of-many_suc r (n - (i + 1)) bytes, here) refl in
    sym so_far ∙ one

pub many_ends : {A : Type 0} (r : Reader A) (n i : ℕ) (bytes : List ℕ) (all : Option (List ℕ)) → n ≤ i → rest_of (many r (n - i) bytes) ≡ all → all ≡ Some bytes
unfolding many
many_ends r n i bytes all le so_far =
    let k : n - i ≡ 0 = omega arith in
    let one : rest_of (many r (n - i) bytes) ≡ Some bytes = rw k refl in
    sym so_far ∙ one

pub ruleset behind = (rest_of-mapped, rest_of-seq)
