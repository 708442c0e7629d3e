-- A head is seen in any window with room for it and the gate behind it.
use Rattle.std.proofs.Common.{◌≡◌, ℕ, ◌-◌, ◌<◌, Bool, ltb, List, min, length, take, drop, Option, Some, None, refl, sym, ap, ◌∙◌, arith, inl, inr}
use Rattle.std.specs.Prelude.{IfSome}
use Rattle.std.proofs.lemmas.Bool.{cases_lt, lt-ltb, le-ltb}
use Rattle.std.proofs.lemmas.List.{length-take, take-take, take_min}
use Rattle.txn_journal.specs.Reading.{Reading, head_of, IsSeenIn}

head_of-take : (is_head : List ℕ → Bool) (room : ℕ) (bytes : List ℕ) → 64 < room → head_of is_head (take room bytes) ≡ head_of is_head bytes
head_of-take is_head room bytes lt =
    let first : take 64 (take room bytes) ≡ take 64 bytes = take-take 64 room bytes (omega arith) in
    let long : ltb 64 (length (take room bytes)) ≡ ltb 64 (length bytes) =
    elim (cases_lt 64 (length bytes)) [
      | inl more ↦ lt-ltb _ _ (omega (arith, length-take room bytes)) ∙ sym (lt-ltb _ _ more)
      | inr less ↦ le-ltb _ _ (omega (arith, length-take room bytes)) ∙ sym (le-ltb _ _ less)
    ] in
    rw (first, long) refl

head_seen : (is_head : List ℕ → Bool) (begin room : ℕ) (bytes seen from : List ℕ) → 64 < room → seen ≡ take room bytes → from ≡ drop (0 - begin) seen → head_of is_head from ≡ head_of is_head bytes
head_seen is_head begin room bytes seen from lt is at =
    let none : 0 - begin ≡ 0 = omega arith in
    ap (head_of is_head) (at ∙ ap (λ (k : ℕ). drop k seen) none ∙ is) ∙ head_of-take is_head room bytes lt

-- what is read at the front of the file is its head
pub told_head : (is_head : List ℕ → Bool) (begin room : ℕ) (told : Option (List ℕ)) (seen from : List ℕ) (head : Option (List ℕ)) → 64 < room → IfSome told (λ bytes. seen ≡ take room bytes) → from ≡ drop (0 - begin) seen → head ≡ head_of is_head from
    → IfSome told (λ bytes. head ≡ head_of is_head bytes)
told_head is_head begin room None seen from head lt is at e = tt
told_head is_head begin room (Some bytes) seen from head lt is at e = e ∙ head_seen is_head begin room bytes seen from lt is at

-- and what was seen of it stands in it
pub told_front : (told : Option (List ℕ)) (room : ℕ) (r : Reading) → r.begin ≡ 0 → IfSome told (λ bytes. r.seen ≡ take room bytes) → IfSome told (λ bytes. IsSeenIn bytes r)
told_front None room r begin is = tt
told_front (Some bytes) room r begin is =
    let n : length r.seen ≡ min room (length bytes) = ap length is ∙ length-take room bytes in
    record { within = omega (arith, begin); seen = rw begin (is ∙ sym (take_min room bytes) ∙ ap (λ (k : ℕ). take k bytes) (sym n)) }
