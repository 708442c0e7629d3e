-- Reading one after the other into a list.
use Rattle.std.proofs.Common.{◌≡◌, ℕ, suc, ◌-◌, ◌+◌, ◌≤◌, ◌<◌, List, [], ◌∷◌, ◌++◌, Option, Some, None, refl, sym, ap, ◌∙◌, append_assoc, arith}
use Rattle.std.proofs.lemmas.List.{append-nil}
use Rattle.byte_grammar.specs.Reading.{Reader, ◌>>=◌, many}

-- what was read before, and what is still read
abbrev pub with_front : {A : Type 0} → List A → Option (List A × List ℕ) → Option (List A × List ℕ)
with_front front None = None
with_front front (Some x) = Some (front ++ x.0, x.1)

regroup : {A : Type 0} (front : List A) (a : A) (read : Option (List A × List ℕ)) → with_front front (read >>= λ x. Some (a ∷ x.0, x.1)) ≡ with_front (front ++ a ∷ []) read
regroup {A} front a (Some x) = ap (λ (xs : List A). let r : Option (List A × List ℕ) = Some (xs, x.1) in r) (sym (append_assoc front (a ∷ []) x.0))
regroup front a None = refl

pub goes_on : {A : Type 0} (r : Reader A) (front : List A) (count i : ℕ) (bytes : List ℕ) (a : A) (after : List ℕ) (total : Option (List A × List ℕ)) → i < count → r bytes ≡ Some (a, after)
    → with_front front (many r (count - i) bytes) ≡ total → with_front (front ++ a ∷ []) (many r (count - (i + 1)) after) ≡ total
unfolding many
goes_on r front count i bytes a after total lt h so_far =
    let k : count - i ≡ suc (count - (i + 1)) = omega arith in
    let one : with_front front (many r (count - i) bytes) ≡ with_front (front ++ a ∷ []) (many r (count - (i + 1)) after) = rw (k, h) (regroup front a (many r (count - (i + 1)) after)) in
    sym one ∙ so_far

pub stops : {A : Type 0} (r : Reader A) (front : List A) (count i : ℕ) (bytes : List ℕ) (total : Option (List A × List ℕ)) → i < count → r bytes ≡ None
    → with_front front (many r (count - i) bytes) ≡ total → total ≡ None
unfolding many
stops r front count i bytes total lt h so_far =
    let k : count - i ≡ suc (count - (i + 1)) = omega arith in
    let one : with_front front (many r (count - i) bytes) ≡ None = rw (k, h) refl in
    sym so_far ∙ one

pub is_done : {A : Type 0} (r : Reader A) (front : List A) (count i : ℕ) (bytes : List ℕ) (total : Option (List A × List ℕ)) → count ≤ i → with_front front (many r (count - i) bytes) ≡ total → total ≡ Some (front, bytes)
unfolding many
is_done {A} r front count i bytes total le so_far =
    let k : count - i ≡ 0 = omega arith in
    let one : with_front front (many r (count - i) bytes) ≡ Some (front, bytes) = rw k (ap (λ (xs : List A). let r : Option (List A × List ℕ) = Some (xs, bytes) in r) (append-nil front)) in
    sym so_far ∙ one
